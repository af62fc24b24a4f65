-- What passes on from what stands behind each nibble to the place above holds of changes laid over what stood there.
use Rattle.std.proofs.Common.{◌≡◌, ◌≢◌, ℕ, zero, suc, ◌+◌, ◌<◌, ◌==◌, if◌then◌else◌, true, false, List, [], ◌∷◌, length, refl, sym, subst, arith}
use Rattle.std.specs.Prelude.{⊤}
use Rattle.trie_model.proofs.Rests.{equal_of_test}
use Rattle.batch_model.specs.Changes.{Change}
use Rattle.change_model.specs.Visits.{changes_behind}
use Rattle.update_model.specs.Tops.{Top, empty, leaf, branch, extension, lowered, top_behind}
use Rattle.update_model.specs.Sound.{AreBelow, StandsAt}
use Rattle.update_model.specs.Updates.{Outcome, fork_outcome, laid_within, longest_change, laid}
use Rattle.update_model.proofs.Behind.{below-nibble, below-prefix, changes_behind-append, longest-behind}
use Rattle.update_model.proofs.TopsBelow.{NoBranch, stands-top_behind}

module _ (P : ℕ → Top → List Change → Outcome → Type 0) (child : List Change → Outcome) where
  -- it holds of what becomes of a branch that is reached
  abbrev pub OfBranch : ℕ → List ℕ → ℕ → List Change → Type 0
  OfBranch depth digest used changes = changes ≢ [] → P depth (branch digest used) changes (child changes)

  abbrev pub OfChild : ℕ → Top → List Change → Type 0
  OfChild depth empty changes = ⊤
  OfChild depth (leaf path ref) changes = ⊤
  OfChild depth (branch digest used) changes = OfBranch depth digest used changes
  OfChild depth (extension path digest used) changes = OfBranch (depth + length path) digest used (changes_behind path changes)

  -- and of each place, if it does of what stands behind each nibble
  abbrev pub PassesOn : Type 0
  PassesOn = (further : Top → List Change → Outcome) (depth : ℕ) (old : Top) (changes : List Change) → NoBranch old → StandsAt depth old → AreBelow depth changes → changes ≢ []
      → ((x : ℕ) → x < 16 → changes_behind (x ∷ []) changes ≢ [] → P (depth + 1) (top_behind x old) (changes_behind (x ∷ []) changes) (further (top_behind x old) (changes_behind (x ∷ []) changes)))
      → P depth old changes (fork_outcome further old changes)

  pub of_child-behind : (x depth : ℕ) (old : Top) (changes : List Change) → NoBranch old → StandsAt depth old → OfChild depth old changes → OfChild (depth + 1) (top_behind x old) (changes_behind (x ∷ []) changes)
  unfolding top_behind lowered StandsAt
  of_child-behind x depth empty changes over stands h = tt
  of_child-behind x depth (leaf [] ref) changes over stands h = tt
  of_child-behind x depth (leaf (y ∷ path) ref) changes over stands h = elim (x == y) as (λ b. OfChild (depth + 1) (if b then leaf path ref else empty) (changes_behind (x ∷ []) changes)) [ true ↦ tt | false ↦ tt ]
  of_child-behind x depth (branch digest used) changes over stands h = absurd over
  of_child-behind x depth (extension [] digest used) changes over stands h = absurd (stands.2 refl)
  of_child-behind x depth (extension (y ∷ []) digest used) changes over stands h =
      elim (x == y) as (λ b. (x == y) ≡ b → OfChild (depth + 1) (if b then branch digest used else empty) (changes_behind (x ∷ []) changes)) [
        | true ↦ λ t. subst (λ z. OfBranch (depth + 1) digest used (changes_behind (z ∷ []) changes)) (sym (equal_of_test x y t)) h
        | false ↦ λ t. tt
      ] refl
  of_child-behind x depth (extension (y ∷ z ∷ path) digest used) changes over stands h =
      let deep : depth + length (y ∷ z ∷ path) ≡ depth + 1 + length (z ∷ path) = omega arith in
      let behind = changes_behind-append (y ∷ []) (z ∷ path) changes in
      let further : OfBranch (depth + 1 + length (z ∷ path)) digest used (changes_behind (z ∷ path) (changes_behind (y ∷ []) changes)) = subst (λ n. OfBranch n digest used (changes_behind (z ∷ path) (changes_behind (y ∷ []) changes))) deep (subst (λ (cs : List Change). OfBranch (depth + length (y ∷ z ∷ path)) digest used cs) behind h) in
      elim (x == y) as (λ b. (x == y) ≡ b → OfChild (depth + 1) (if b then extension (z ∷ path) digest used else empty) (changes_behind (x ∷ []) changes)) [
        | true ↦ λ t. subst (λ w. OfBranch (depth + 1 + length (z ∷ path)) digest used (changes_behind (z ∷ path) (changes_behind (w ∷ []) changes))) (sym (equal_of_test x y t)) further
        | false ↦ λ t. tt
      ] refl

  within-keeps : PassesOn → (n depth : ℕ) (old : Top) (changes : List Change) → longest_change changes < n → StandsAt depth old → AreBelow depth changes → changes ≢ [] → OfChild depth old changes → P depth old changes (laid_within n child old changes)
  unfolding laid_within
  within-keeps passes zero depth old changes long stands below some h = absurd (omega arith)
  within-keeps passes (suc n) depth empty changes long stands below some h = passes (laid_within n child) depth empty changes tt stands below some (λ x small more.
      let shorter = longest-behind x changes more in
      within-keeps passes n (depth + 1) (top_behind x empty) (changes_behind (x ∷ []) changes) (omega arith) (stands-top_behind x depth empty tt stands) (below-nibble x depth changes below) more (of_child-behind x depth empty changes tt stands h))
  within-keeps passes (suc n) depth (leaf path ref) changes long stands below some h = passes (laid_within n child) depth (leaf path ref) changes tt stands below some (λ x small more.
      let shorter = longest-behind x changes more in
      within-keeps passes n (depth + 1) (top_behind x (leaf path ref)) (changes_behind (x ∷ []) changes) (omega arith) (stands-top_behind x depth (leaf path ref) tt stands) (below-nibble x depth changes below) more (of_child-behind x depth (leaf path ref) changes tt stands h))
  within-keeps passes (suc n) depth (branch digest used) changes long stands below some h = h some
  within-keeps passes (suc n) depth (extension path digest used) changes long stands below some h = passes (laid_within n child) depth (extension path digest used) changes tt stands below some (λ x small more.
      let shorter = longest-behind x changes more in
      within-keeps passes n (depth + 1) (top_behind x (extension path digest used)) (changes_behind (x ∷ []) changes) (omega arith) (stands-top_behind x depth (extension path digest used) tt stands) (below-nibble x depth changes below) more (of_child-behind x depth (extension path digest used) changes tt stands h))

  pub laid-keeps : PassesOn → (depth : ℕ) (old : Top) (changes : List Change) → StandsAt depth old → AreBelow depth changes → changes ≢ [] → OfChild depth old changes → P depth old changes (laid child old changes)
  unfolding laid
  laid-keeps passes depth old changes stands below some h = within-keeps passes (suc (longest_change changes)) depth old changes (omega arith) stands below some h

  -- and so of what is laid over what stands behind a nibble
  pub laid-keeps_behind : PassesOn → (x depth : ℕ) (old : Top) (changes : List Change) → NoBranch old → StandsAt depth old → AreBelow depth changes → OfChild depth old changes → changes_behind (x ∷ []) changes ≢ []
      → P (depth + 1) (top_behind x old) (changes_behind (x ∷ []) changes) (laid child (top_behind x old) (changes_behind (x ∷ []) changes))
  laid-keeps_behind passes x depth old changes over stands below h more =
      laid-keeps passes (depth + 1) (top_behind x old) (changes_behind (x ∷ []) changes) (stands-top_behind x depth old over stands) (below-nibble x depth changes below) more (of_child-behind x depth old changes over stands h)

-- from one fact of the branch to another
pub of_child-map : (P Q : ℕ → Top → List Change → Outcome → Type 0) (f g : List Change → Outcome)
    → ((depth : ℕ) (digest : List ℕ) (used : ℕ) (changes : List Change) → AreBelow depth changes → changes ≢ [] → P depth (branch digest used) changes (f changes) → Q depth (branch digest used) changes (g changes))
    → (depth : ℕ) (old : Top) (changes : List Change) → AreBelow depth changes → OfChild P f depth old changes → OfChild Q g depth old changes
of_child-map P Q f g step depth empty changes below h = tt
of_child-map P Q f g step depth (leaf path ref) changes below h = tt
of_child-map P Q f g step depth (branch digest used) changes below h = λ some. step depth digest used changes below some (h some)
of_child-map P Q f g step depth (extension path digest used) changes below h = λ some. step (depth + length path) digest used (changes_behind path changes) (below-prefix path depth changes below) some (h some)
