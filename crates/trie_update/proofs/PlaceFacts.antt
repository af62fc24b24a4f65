-- What stood behind a nibble, in the words of the model, and what is made of it where no key is changed.
use Rattle.std.proofs.Common.{◌≡◌, ◌≢◌, ℕ, zero, suc, ◌+◌, ◌==◌, if◌then◌else◌, Bool, true, false, List, [], ◌∷◌, length, drop, Option, None, Some, option_map, refl, sym, ◌∙◌, ap, ap₂, subst, arith}
use Rattle.byte_model.specs.Node.{ValueRef}
use Rattle.trie_model.specs.Root.{Table}
use Rattle.trie_model.proofs.Rests.{equal_of_test, same_nibble}
use Rattle.visit_model.specs.Seen as seen
use Rattle.visit_model.specs.Seen.{Seen, seen_at, stated_usage}
use Rattle.batch_model.specs.Changes.{Change}
use Rattle.change_model.specs.Visits.{Visits, no_visits, visits_at}
use Rattle.change_model.proofs.Seeing.{digest_of-seen_at}
use Rattle.change_model.proofs.Alone.{none-behind}
use Rattle.base_core.specs.declared.hash.Digest.{Digest}
use Rattle.node_codec.specs.declared.value_ref.ValueRef as code
use Rattle.node_codec.specs.Meanings.{value_of}
use Rattle.trie_shape.specs.declared.sub.Sub.TheVariants as sub
use Rattle.trie_shape.specs.Runs.{goes_on}
use Rattle.trie_shape.specs.Shows.{under_of}
use Rattle.update_model.specs.Sound.{StandsAt}
use Rattle.update_model.specs.Tops.{Top, empty, leaf, branch, extension, lowered, top_behind}
use Rattle.update_model.specs.Joins.{known}
use Rattle.update_model.specs.Updates.{Outcome, kid_kept, laid, updated}
use Rattle.update_model.proofs.TopsBelow.{stands-top_behind}
use Rattle.trie_update.specs.declared.old.Old.{Old}
use Rattle.trie_update.specs.declared.old.Old.TheVariants.{Nothing, Leaf, Extension}
use Rattle.trie_update.specs.declared.former.Former.TheVariants as former
use Rattle.trie_update.specs.Olds.{IsBehind, sub_of}
use Rattle.trie_update.specs.Places.{Place, of_branch, over, FitsTop, MostTop, NoBranch, PlaceKeeps, TopKeeps, kid_place, old_past, only_before, over_behind, place_kid, place_of, place_outcome, place_stated, place_visits, seen_past, top_stated, top_visits}
use Rattle.trie_update.specs.Subs.{top_of_sub}
use Rattle.trie_update.proofs.Tops.{under-top}

-- ---- a child of a branch

pub former-some : (table : Table) (depth : ℕ) (digest : Digest) (found : Option Digest) → Some digest ≡ found → place_of table depth (former.Named digest) ≡ kid_place table depth (option_map (λ d. d.0) found)
unfolding place_of
former-some table depth digest found e = ap (λ (o : Option Digest). kid_place table depth (option_map (λ d. d.0) o)) e

pub former-none : (table : Table) (depth : ℕ) (found : Option Digest) → None ≡ found → place_of table depth (former.Known Nothing) ≡ kid_place table depth (option_map (λ d. d.0) found)
unfolding place_of old_past seen_past
former-none table depth found e = ap (λ (o : Option Digest). kid_place table depth (option_map (λ d. d.0) o)) e

pub fits-nothing : (depth : ℕ) → FitsTop depth (old_past 0 Nothing)
unfolding old_past StandsAt MostTop
fits-nothing depth = record { stands = tt; most = tt }

-- ---- behind a nibble of what stood before

-- a path that goes on with a nibble
goes_further : (x : ℕ) (p : List ℕ) (n : ℕ) → goes_on x (drop n p) ≡ true → drop n p ≡ x ∷ drop (n + 1) p
goes_further x [] zero e = cc
goes_further x [] (suc n) e = cc
goes_further x (y ∷ p) zero e = ap (λ z. z ∷ p) (sym (equal_of_test x y e))
goes_further x (y ∷ p) (suc n) e = let one : suc n + 1 ≡ suc (n + 1) = omega arith in goes_further x p n e ∙ sym (ap (λ k. x ∷ drop k (y ∷ p)) one)

nothing_behind : (x : ℕ) → top_behind x empty ≡ empty
unfolding top_behind
nothing_behind x = refl

leaf_apart : (x : ℕ) (p : List ℕ) (ref : ValueRef) → goes_on x p ≡ false → top_behind x (leaf p ref) ≡ empty
unfolding top_behind
leaf_apart x [] ref e = refl
leaf_apart x (y ∷ p) ref e = ap (λ (b : Bool). if b then leaf p ref else empty) e

branch_apart : (x : ℕ) (p digest : List ℕ) (used : ℕ) → goes_on x p ≡ false → top_behind x (lowered p (branch digest used)) ≡ empty
unfolding top_behind lowered
branch_apart x [] digest used e = refl
branch_apart x (y ∷ p) digest used e = ap (λ (b : Bool). if b then lowered p (branch digest used) else empty) e

leaf_behind : (x : ℕ) (p q : List ℕ) (ref : ValueRef) → p ≡ x ∷ q → top_behind x (leaf p ref) ≡ leaf q ref
unfolding top_behind
leaf_behind x p q ref e = ap (λ (r : List ℕ). top_behind x (leaf r ref)) e ∙ ap (λ (b : Bool). if b then leaf q ref else empty) (same_nibble x)

branch_behind : (x : ℕ) (p q digest : List ℕ) (used : ℕ) → p ≡ x ∷ q → top_behind x (lowered p (branch digest used)) ≡ lowered q (branch digest used)
unfolding top_behind lowered
branch_behind x p q digest used e = ap (λ (r : List ℕ). top_behind x (lowered r (branch digest used))) e ∙ ap (λ (b : Bool). if b then lowered q (branch digest used) else empty) (same_nibble x)

-- the branch that it leads to is seen
before_branch : (p digest : List ℕ) (used : ℕ) (below : Seen) → only_before (lowered p (branch digest used)) below ≡ below
unfolding lowered
before_branch [] digest used below = refl
before_branch (x ∷ p) digest used below = refl

over_as : (below : Seen) (top other : Top) → top ≡ other → over (only_before top below) top ≡ over (only_before other below) other
over_as below top other e = ap (λ (t : Top). over (only_before t below) t) e

pub behind-place : (table : Table) (depth count x : ℕ) (old new : Old) → IsBehind count x old new → place_of table (depth + 1) (former.Known new) ≡ over_behind x (seen_past table depth count old) (old_past count old)
unfolding place_of old_past seen_past
behind-place table depth count x Nothing new h = ap (λ (o : Old). over (seen_past table (depth + 1) 0 o) (old_past 0 o)) h ∙ sym (over_as seen.nothing (top_behind x empty) empty (nothing_behind x))
behind-place table depth count x (Leaf path value) Nothing h = sym (over_as seen.nothing (top_behind x (leaf (drop count path.now) (value_of value))) empty (leaf_apart x (drop count path.now) (value_of value) h))
behind-place table depth count x (Leaf path value) (Leaf rest held) h =
    let along = goes_further x path.now count h.0 in
    ap₂ (λ (p : List ℕ) (v : code.ValueRef). over seen.nothing (leaf p (value_of v))) h.1 h.2
    ∙ sym (over_as seen.nothing (top_behind x (leaf (drop count path.now) (value_of value))) (leaf (drop (count + 1) path.now) (value_of value)) (leaf_behind x (drop count path.now) (drop (count + 1) path.now) (value_of value) along))
behind-place table depth count x (Leaf path value) (Extension rest child used) h = absurd h
behind-place table depth count x (Extension path child used) Nothing h =
    sym (over_as (seen_past table depth count (Extension path child used)) (top_behind x (lowered (drop count path.now) (branch child.0 used))) empty (branch_apart x (drop count path.now) child.0 used h))
behind-place table depth count x (Extension path child used) (Leaf rest held) h = absurd h
behind-place table depth count x (Extension path child used) (Extension rest digest below) h =
    let along = goes_further x path.now count h.0 in
    let far : depth + 1 + length rest.now ≡ depth + length (drop count path.now) = (let long = ap length along in let same = ap length h.1 in omega arith) in
    let s : Seen = seen_at table (depth + length (drop count path.now)) true child.0 in
    ap₂ (λ (n : ℕ) (d : Digest). over (seen_at table n true d.0) (lowered rest.now (branch d.0 below))) far h.2
    ∙ ap₂ (λ (p : List ℕ) (u : ℕ). over s (lowered p (branch child.0 u))) h.1 h.3
    ∙ ap (λ (b : Seen). over b (lowered (drop (count + 1) path.now) (branch child.0 used))) (sym (before_branch (drop (count + 1) path.now) child.0 used s))
    ∙ sym (over_as s (top_behind x (lowered (drop count path.now) (branch child.0 used))) (lowered (drop (count + 1) path.now) (branch child.0 used)) (branch_behind x (drop count path.now) (drop (count + 1) path.now) child.0 used along))

top_in : Place → Top
top_in (of_branch child) = empty
top_in (over below top) = top

pub behind-top : (table : Table) (depth count x : ℕ) (old new : Old) → IsBehind count x old new → old_past 0 new ≡ top_behind x (old_past count old)
unfolding place_of top_in
behind-top table depth count x old new h = ap top_in (behind-place table depth count x old new h)

most-behind : (x : ℕ) (top : Top) → MostTop top → MostTop (top_behind x top)
unfolding top_behind MostTop lowered
most-behind x empty h = tt
most-behind x (leaf [] ref) h = tt
most-behind x (leaf (y ∷ path) ref) h = elim (x == y) as (λ b. MostTop (if b then leaf path ref else empty)) [ true ↦ tt | false ↦ tt ]
most-behind x (branch digest used) h = tt
most-behind x (extension [] digest used) h = tt
most-behind x (extension (y ∷ []) digest used) h = elim (x == y) as (λ b. MostTop (if b then branch digest used else empty)) [ true ↦ h | false ↦ tt ]
most-behind x (extension (y ∷ z ∷ path) digest used) h = elim (x == y) as (λ b. MostTop (if b then extension (z ∷ path) digest used else empty)) [ true ↦ h | false ↦ tt ]

pub behind-fits : (table : Table) (depth count x : ℕ) (old new : Old) → IsBehind count x old new → FitsTop depth (old_past count old) → NoBranch (old_past count old) → FitsTop (depth + 1) (old_past 0 new)
behind-fits table depth count x old new h fits over_it =
    subst (FitsTop (depth + 1)) (sym (behind-top table depth count x old new h))
    (record { stands = stands-top_behind x depth (old_past count old) over_it fits.stands; most = most-behind x (old_past count old) fits.most })

-- ---- where no key is changed

pub sub-top : (old : Old) → top_of_sub (sub_of old) ≡ old_past 0 old
unfolding old_past
sub-top Nothing = refl
sub-top (Leaf path value) = refl
sub-top (Extension path child used) = under-top path.now (sub.Branch child used) (under_of path.now (sub.Branch child used)) refl

module _ (p : Place) where
  pub untouched-visits : place_visits p [] ≡ no_visits
  unfolding place_visits
  untouched-visits = go p
    where
      go : (q : Place) → place_visits q [] ≡ no_visits
      go (of_branch child) = refl
      go (over below top) = refl

  pub untouched-stated : place_stated p [] ≡ 0
  unfolding place_stated
  untouched-stated = go p
    where
      go : (q : Place) → place_stated q [] ≡ 0
      go (of_branch child) = refl
      go (over below top) = refl

pub record AddsNothing (o : Outcome) : Type 0 where
  pub made : o.made ≡ []
  pub lost : o.lost ≡ []
  pub fresh : o.fresh ≡ 0
  pub gone : o.gone ≡ 0

pub untouched-adds : (p : Place) → AddsNothing (place_outcome p [])
unfolding place_outcome
untouched-adds (of_branch child) = record { made = refl; lost = refl; fresh = refl; gone = refl }
untouched-adds (over below top) = record { made = refl; lost = refl; fresh = refl; gone = refl }

top-untouched : (depth : ℕ) (below : Seen) (top : Top) → TopKeeps depth below top []
unfolding TopKeeps
top-untouched depth below empty = tt
top-untouched depth below (leaf path ref) = tt
top-untouched depth below (branch digest used) = λ some. absurd (some refl)
top-untouched depth below (extension path digest used) = λ some. absurd (some (none-behind path))

pub untouched-keeps : (depth : ℕ) (p : Place) → PlaceKeeps depth p []
unfolding PlaceKeeps
untouched-keeps depth (of_branch child) = λ some. absurd (some refl)
untouched-keeps depth (over below top) = top-untouched depth below top

-- what stood behind a nibble, where no key is changed
pub untouched-known : (table : Table) (depth : ℕ) (old : Old) → known (old_past 0 old) ≡ place_kid (place_of table depth (former.Known old)) []
unfolding place_kid place_of
untouched-known table depth old = refl

-- a child of a branch
pub untouched-kept : (table : Table) (depth : ℕ) (name : Option (List ℕ)) → kid_kept name ≡ place_kid (kid_place table depth name) []
unfolding place_kid
untouched-kept table depth None = refl
untouched-kept table depth (Some digest) = sym (ap kid_kept (digest_of-seen_at table depth false digest))

-- ---- where keys are changed

pub record IsTouched (p : Place) (changes : List Change) (visits : Visits) (stated : ℕ) (outcome : Outcome) : Type 0 where
  pub visits_is : place_visits p changes ≡ visits
  pub stated_is : place_stated p changes ≡ stated
  pub outcome_is : place_outcome p changes ≡ outcome
  pub kid_is : place_kid p changes ≡ known outcome.top

pub touched-child : (child : Seen) (changes : List Change) → changes ≢ [] → IsTouched (of_branch child) changes (visits_at child changes) (stated_usage child) (updated child changes)
unfolding place_visits place_stated place_outcome place_kid
touched-child child [] some = absurd (some refl)
touched-child child (change ∷ changes) some = record { visits_is = refl; stated_is = refl; outcome_is = refl; kid_is = refl }

pub touched-over : (below : Seen) (top : Top) (changes : List Change) → changes ≢ [] → IsTouched (over below top) changes (top_visits below top changes) (top_stated below top changes) (laid (λ cs. updated below cs) top changes)
unfolding place_visits place_stated place_outcome place_kid
touched-over below top [] some = absurd (some refl)
touched-over below top (change ∷ changes) some = record { visits_is = refl; stated_is = refl; outcome_is = refl; kid_is = refl }
