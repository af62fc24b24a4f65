-- Changes laid over a top: the bound on the nibbles never shows.
use Rattle.std.proofs.Common.{◌≡◌, ◌≢◌, ℕ, zero, suc, ◌-◌, ◌≤◌, ◌<◌, ◌==◌, max, if◌then◌else◌, true, false, List, [], ◌∷◌, length, None, Some, option_map, refl, sym, ◌∙◌, ap, subst, arith}
use Rattle.std.specs.Prelude.{⊤}
use Rattle.std.specs.List.{cons_option}
use mathlib.Core.Path.{fun_ext}
use Rattle.trie_model.specs.Tree.{rest_behind}
use Rattle.trie_model.proofs.Trees.{length-rest_behind}
use Rattle.trie_model.proofs.Rests.{equal_of_test}
use Rattle.batch_model.specs.Changes.{Change}
use Rattle.change_model.specs.Visits.{changes_behind, change_at}
use Rattle.update_model.specs.Tops.{Top, empty, leaf, branch, extension, ref_here, lowered, top_behind}
use Rattle.update_model.specs.Joins.{known, joint}
pub use Rattle.update_model.proofs.Behind.{changes_behind-append, changes_behind-nil}
use Rattle.update_model.specs.Updates.{Outcome, node_outcome, ref_after, behind_outcome, parted, fork_outcome, laid_step, laid_within, longest_change, laid}

-- how many nibbles have to be allowed: one more than the longest path, and 0 for no change
unfoldable pub steps_needed : List Change → ℕ
steps_needed [] = 0
steps_needed (change ∷ changes) = max (suc (length change.0)) (steps_needed changes)

steps_needed-longest : (changes : List Change) → steps_needed changes ≤ suc (longest_change changes)
unfolding steps_needed longest_change
steps_needed-longest [] = omega arith
steps_needed-longest (change ∷ changes) = let h = steps_needed-longest changes in omega arith

-- one less behind a nibble
pub steps_needed-behind : (x : ℕ) (prefix : List ℕ) (changes : List Change) → steps_needed (changes_behind (x ∷ prefix) changes) ≤ steps_needed changes - 1
unfolding steps_needed changes_behind
steps_needed-behind x prefix [] = omega arith
steps_needed-behind x prefix (change ∷ changes) =
    let others = steps_needed-behind x prefix changes in
    elim (rest_behind (x ∷ prefix) change.0) as (λ r. rest_behind (x ∷ prefix) change.0 ≡ r → steps_needed (cons_option (option_map (λ rest. (rest, change.1)) r) (changes_behind (x ∷ prefix) changes)) ≤ max (suc (length change.0)) (steps_needed changes) - 1) [
      | None ↦ λ e. omega arith
      | Some rest ↦ λ e. let h = length-rest_behind (x ∷ prefix) change.0 rest e in omega arith
    ] refl

-- a step sees of what is laid further down what it makes of the changes behind each nibble
abbrev SameBehind : (Top → List Change → Outcome) → (Top → List Change → Outcome) → List Change → Type 0
SameBehind f g changes = (x : ℕ) (old : Top) → behind_outcome f old (changes_behind (x ∷ []) changes) ≡ behind_outcome g old (changes_behind (x ∷ []) changes)

pub fork_outcome-agree : (f g : Top → List Change → Outcome) (old : Top) (changes : List Change) → ((x : ℕ) (old : Top) → behind_outcome f old (changes_behind (x ∷ []) changes) ≡ behind_outcome g old (changes_behind (x ∷ []) changes)) → fork_outcome f old changes ≡ fork_outcome g old changes
fork_outcome-agree f g old changes same =
    let parts : parted f old changes ≡ parted g old changes = fun_ext (λ x. same x _) in
    ap (λ (behind : ℕ → Outcome). node_outcome (ref_here old) (change_at [] changes) behind (joint (ref_after (ref_here old) (change_at [] changes)) (λ x. known (behind x).top) 0) []) parts

laid_step-agree : (f g : Top → List Change → Outcome) (child : List Change → Outcome) (old : Top) (changes : List Change) → SameBehind f g changes → laid_step f child old changes ≡ laid_step g child old changes
laid_step-agree f g child empty changes same = fork_outcome-agree f g empty changes same
laid_step-agree f g child (leaf path ref) changes same = fork_outcome-agree f g (leaf path ref) changes same
laid_step-agree f g child (branch digest used) changes same = refl
laid_step-agree f g child (extension path digest used) changes same = fork_outcome-agree f g (extension path digest used) changes same

some_needed : (change : Change) (changes : List Change) (n : ℕ) → steps_needed (change ∷ changes) ≤ n → 0 < n
unfolding steps_needed
some_needed change changes n h = omega arith

-- any two bounds that suffice give the same
laid_within-laid_within : (m n : ℕ) (child : List Change → Outcome) (old : Top) (change : Change) (changes : List Change) → steps_needed (change ∷ changes) ≤ m → steps_needed (change ∷ changes) ≤ n → laid_within m child old (change ∷ changes) ≡ laid_within n child old (change ∷ changes)
unfolding laid_within
laid_within-laid_within zero n child old change changes h k = absurd (let some = some_needed change changes 0 h in omega arith)
laid_within-laid_within (suc m) zero child old change changes h k = absurd (let some = some_needed change changes 0 k in omega arith)
laid_within-laid_within (suc m) (suc n) child old change changes h k =
    laid_step-agree (laid_within m child) (laid_within n child) child old (change ∷ changes) (λ x further.
    let less = steps_needed-behind x [] (change ∷ changes) in
    each further (changes_behind (x ∷ []) (change ∷ changes)) (λ c cs. laid_within-laid_within m n child further c cs) (omega arith) (omega arith))
  where
    each : (further : Top) (cs : List Change) → ((c : Change) (cs : List Change) → steps_needed (c ∷ cs) ≤ m → steps_needed (c ∷ cs) ≤ n → laid_within m child further (c ∷ cs) ≡ laid_within n child further (c ∷ cs)) → steps_needed cs ≤ m → steps_needed cs ≤ n → behind_outcome (laid_within m child) further cs ≡ behind_outcome (laid_within n child) further cs
    each further [] same h k = refl
    each further (c ∷ cs) same h k = same c cs h k

-- What is laid, by one step: there is no bound to be seen.
pub laid-step : (child : List Change → Outcome) (old : Top) (changes : List Change) → laid child old changes ≡ laid_step (laid child) child old changes
unfolding laid laid_within
laid-step child old changes =
    laid_step-agree (laid_within (longest_change changes) child) (laid child) child old changes (λ x further.
    let less = steps_needed-behind x [] changes in
    let most = steps_needed-longest changes in
    each further (changes_behind (x ∷ []) changes) (omega arith))
  where
    each : (further : Top) (cs : List Change) → steps_needed cs ≤ longest_change changes → behind_outcome (laid_within (longest_change changes) child) further cs ≡ behind_outcome (laid child) further cs
    each further [] h = refl
    each further (c ∷ cs) h = laid_within-laid_within (longest_change changes) (suc (longest_change (c ∷ cs))) child further c cs h (steps_needed-longest (c ∷ cs))

-- ---- induction along the nibbles

no_changes : (changes : List Change) → steps_needed changes ≤ 0 → changes ≡ []
unfolding steps_needed
no_changes [] h = refl
no_changes (change ∷ changes) h = absurd (omega arith)

none_behind : (x : ℕ) (changes : List Change) → changes ≡ [] → changes_behind (x ∷ []) changes ≡ []
unfolding changes_behind
none_behind x changes e = ap (changes_behind (x ∷ [])) e

-- what holds of a top and changes wherever it holds of any top and the changes behind each nibble, if there are some
abbrev pub Steps : (Top → List Change → Type 0) → Type 0
Steps P = (old : Top) (changes : List Change) → ((x : ℕ) (further : Top) → changes_behind (x ∷ []) changes ≢ [] → P further (changes_behind (x ∷ []) changes)) → P old changes

within_steps : (P : Top → List Change → Type 0) → Steps P → (n : ℕ) (old : Top) (changes : List Change) → steps_needed changes ≤ n → P old changes
within_steps P step zero old changes h = step old changes (λ x further some. absurd (some (none_behind x changes (no_changes changes h))))
within_steps P step (suc n) old changes h = step old changes (λ x further some.
    let less = steps_needed-behind x [] changes in
    within_steps P step n further (changes_behind (x ∷ []) changes) (omega arith))

-- holds of all
pub by_steps : (P : Top → List Change → Type 0) → Steps P → (old : Top) (changes : List Change) → P old changes
by_steps P step old changes = within_steps P step (suc (longest_change changes)) old changes (steps_needed-longest changes)

-- ---- what is laid, by what becomes of the branch

pub behind_outcome-agree : (f g : Top → List Change → Outcome) (old : Top) (changes : List Change) → (changes ≢ [] → f old changes ≡ g old changes) → behind_outcome f old changes ≡ behind_outcome g old changes
behind_outcome-agree f g old [] same = refl
behind_outcome-agree f g old (change ∷ changes) same = same (some change changes)
  where
    some : (change : Change) (changes : List Change) → change ∷ changes ≢ []
    some change changes e = cc

pub fork_outcome-parts : (f g : Top → List Change → Outcome) (old : Top) (changes : List Change) → ((x : ℕ) → parted f old changes x ≡ parted g old changes x) → fork_outcome f old changes ≡ fork_outcome g old changes
fork_outcome-parts f g old changes same =
    ap (λ (behind : ℕ → Outcome). node_outcome (ref_here old) (change_at [] changes) behind (joint (ref_after (ref_here old) (change_at [] changes)) (λ x. known (behind x).top) 0) []) (fun_ext same)

-- two ways to tell what becomes of a branch that agree on the changes there, if there are some
abbrev pub Agree : (List Change → Outcome) → (List Change → Outcome) → List Change → Type 0
Agree f g changes = changes ≢ [] → f changes ≡ g changes

-- and on those that lead to the branch before which a top stands
abbrev pub AgreeBelow : (List Change → Outcome) → (List Change → Outcome) → Top → List Change → Type 0
AgreeBelow f g empty changes = ⊤
AgreeBelow f g (leaf path ref) changes = ⊤
AgreeBelow f g (branch digest used) changes = Agree f g changes
AgreeBelow f g (extension path digest used) changes = Agree f g (changes_behind path changes)

module _ (f g : List Change → Outcome) where
  agree-lowered : (path digest : List ℕ) (used : ℕ) (changes : List Change) → Agree f g (changes_behind path changes) → AgreeBelow f g (lowered path (branch digest used)) changes
  unfolding lowered
  agree-lowered [] digest used changes same = subst (Agree f g) (changes_behind-nil changes) same
  agree-lowered (x ∷ path) digest used changes same = same

  agree-behind : (x : ℕ) (old : Top) (changes : List Change) → AgreeBelow f g old changes → AgreeBelow f g (top_behind x old) (changes_behind (x ∷ []) changes)
  unfolding top_behind
  agree-behind x empty changes same = tt
  agree-behind x (leaf [] ref) changes same = tt
  agree-behind x (leaf (y ∷ path) ref) changes same = elim (x == y) as (λ b. AgreeBelow f g (if b then leaf path ref else empty) (changes_behind (x ∷ []) changes)) [ true ↦ tt | false ↦ tt ]
  agree-behind x (branch digest used) changes same = tt
  agree-behind x (extension [] digest used) changes same = tt
  agree-behind x (extension (y ∷ path) digest used) changes same =
      elim (x == y) as (λ b. (x == y) ≡ b → AgreeBelow f g (if b then lowered path (branch digest used) else empty) (changes_behind (x ∷ []) changes)) [
        | true ↦ λ t. agree-lowered path digest used (changes_behind (x ∷ []) changes)
            (subst (Agree f g) (changes_behind-append (x ∷ []) path changes) (subst (λ z. Agree f g (changes_behind (z ∷ path) changes)) (sym (equal_of_test x y t)) same))
        | false ↦ λ t. tt
      ] refl

  LaidAlike : Top → List Change → Type 0
  LaidAlike old changes = changes ≢ [] → AgreeBelow f g old changes → laid f old changes ≡ laid g old changes

  laid_alike : Steps LaidAlike
  unfolding LaidAlike
  laid_alike old changes further some same = laid-step f old changes ∙ go old same ∙ sym (laid-step g old changes)
    where
      parts : (old : Top) → AgreeBelow f g old changes → fork_outcome (laid f) old changes ≡ fork_outcome (laid g) old changes
      parts old same = fork_outcome-parts (laid f) (laid g) old changes (λ x.
          behind_outcome-agree (laid f) (laid g) (top_behind x old) (changes_behind (x ∷ []) changes) (λ there. further x (top_behind x old) there there (agree-behind x old changes same)))

      go : (top : Top) → AgreeBelow f g top changes → laid_step (laid f) f top changes ≡ laid_step (laid g) g top changes
      go empty same = parts empty same
      go (leaf path ref) same = parts (leaf path ref) same
      go (branch digest used) same = same some
      go (extension path digest used) same = parts (extension path digest used) same

  -- What is laid sees of the branch what becomes of it by the changes there.
  pub laid-agree : (old : Top) (changes : List Change) → changes ≢ [] → AgreeBelow f g old changes → laid f old changes ≡ laid g old changes
  unfolding LaidAlike
  laid-agree old changes = by_steps LaidAlike laid_alike old changes
