-- Changes by rising paths: which of them ends here, and the runs of a first nibble.
use Rattle.std.proofs.Common.{◌≡◌, ℕ, zero, suc, ◌<◌, ◌≤◌, ◌==◌, true, false, List, [], ◌∷◌, length, map, take, drop, Option, None, Some, if◌then◌else◌, refl, ap, arith}
use Rattle.std.specs.List.{AllByRecursion}
use Rattle.byte_model.proofs.Lists.{AllByRecursion-weaker}
use Rattle.trie_model.specs.Tree.{rest_behind}
use Rattle.trie_model.proofs.Rests.{equal_of_test}
use Rattle.trie_model.proofs.Order.{Before}
use Rattle.trie_shape.specs.Runs.{StartsFrom}
use Rattle.trie_shape.proofs.Runs.{starts_later, apart, apart', unequal, some_nibble}
use Rattle.batch_model.specs.Changes.{Change, found_at}
use Rattle.change_model.specs.Visits.{changes_behind}
use Rattle.update_model.proofs.Behind.{RisingChanges}
use Rattle.trie_update.specs.ChangesAt.{AllFrom, run_of}

abbrev pub tails : List Change → List Change
tails changes = map (λ change. (drop 1 change.0, change.1)) changes

-- ---- changes in order, by recursion and by their paths

-- ---- one path before another

-- ---- the change that ends here

-- the changes behind the first have nibbles left
pub all-behind : (change : Change) (changes : List Change) → RisingChanges (change ∷ changes) → AllFrom 0 changes
all-behind change changes h = AllByRecursion-weaker (λ r. Before change.0 r.0) (λ r. StartsFrom 0 r.0) (λ r b. some_nibble change.0 r.0 b) changes h.0

pub none-ends : (changes : List Change) → AllFrom 0 changes → found_at [] changes ≡ None
unfolding found_at
none-ends [] h = refl
none-ends (([], value) ∷ changes) h = absurd h.0
none-ends ((x ∷ path, value) ∷ changes) h = none-ends changes h.1

pub ends-first : (value : Option (List ℕ)) (changes : List Change) → found_at [] (([], value) ∷ changes) ≡ Some value
unfolding found_at
ends-first value changes = refl

-- ---- the run of changes that begin with a nibble

below-later : (x y : ℕ) (changes : List Change) → x < y → AllFrom y changes → changes_behind (x ∷ []) changes ≡ []
unfolding changes_behind rest_behind
below-later x y [] l h = refl
below-later x y (([], value) ∷ changes) l h = absurd h.0
below-later x y ((z ∷ path, value) ∷ changes) l h = let first = h.0 in let less : x < z = omega arith in rw (apart x z less) (below-later x y changes l h.1)

all-later : (x z : ℕ) (path : List ℕ) (changes : List Change) → x < z → AllByRecursion (λ r. Before (z ∷ path) r.0) changes → AllFrom (suc x) changes
all-later x z path changes l h = AllByRecursion-weaker (λ r. Before (z ∷ path) r.0) (λ r. StartsFrom (suc x) r.0) (λ r b. go r.0 (starts_later z path r.0 b)) changes h
  where
    go : (q : List ℕ) → StartsFrom z q → StartsFrom (suc x) q
    go [] b = absurd b
    go (w ∷ q) b = omega arith

module _ (x : ℕ) where
  pub after-run : (changes : List Change) → RisingChanges changes → AllFrom x changes → AllFrom (suc x) (drop (run_of x changes) changes)
  unfolding run_of
  after-run [] h k = tt
  after-run (([], value) ∷ changes) h k = absurd k.0
  after-run ((y ∷ path, value) ∷ changes) h k =
      let first = k.0 in
      elim (x == y) as (λ b. (x == y) ≡ b → AllFrom (suc x) (drop (if b then suc (run_of x changes) else 0) ((y ∷ path, value) ∷ changes))) [
        | true ↦ λ t. after-run changes h.1 k.1
        | false ↦ λ t. (unequal x y t first, all-later x y path changes (unequal x y t first) h.0)
      ] refl

  pub below-run : (changes : List Change) → RisingChanges changes → AllFrom x changes → changes_behind (x ∷ []) changes ≡ tails (take (run_of x changes) changes)
  unfolding run_of changes_behind rest_behind
  below-run [] h k = refl
  below-run (([], value) ∷ changes) h k = absurd k.0
  below-run ((y ∷ path, value) ∷ changes) h k =
      let first = k.0 in
      elim (x == y) as (λ b. (x == y) ≡ b → changes_behind (x ∷ []) ((y ∷ path, value) ∷ changes) ≡ tails (take (if b then suc (run_of x changes) else 0) ((y ∷ path, value) ∷ changes))) [
        | true ↦ λ t. rw t (ap (λ (rs : List Change). (path, value) ∷ rs) (below-run changes h.1 k.1))
        | false ↦ λ t. below-later x (suc x) ((y ∷ path, value) ∷ changes) (omega arith) (unequal x y t first, all-later x y path changes (unequal x y t first) h.0)
      ] refl

  pub below-after : (y : ℕ) (changes : List Change) → x < y → changes_behind (y ∷ []) changes ≡ changes_behind (y ∷ []) (drop (run_of x changes) changes)
  unfolding run_of changes_behind rest_behind
  below-after y [] l = refl
  below-after y (([], value) ∷ changes) l = refl
  below-after y ((z ∷ path, value) ∷ changes) l =
      elim (x == z) as (λ b. (x == z) ≡ b → changes_behind (y ∷ []) ((z ∷ path, value) ∷ changes) ≡ changes_behind (y ∷ []) (drop (if b then suc (run_of x changes) else 0) ((z ∷ path, value) ∷ changes))) [
        | true ↦ λ t. let same = equal_of_test x z t in let less : z < y = omega arith in rw (apart' y z less) (below-after y changes l)
        | false ↦ λ t. refl
      ] refl

  pub run-short : (changes : List Change) → run_of x changes ≤ length changes
  unfolding run_of
  run-short [] = omega arith
  run-short (([], value) ∷ changes) = omega arith
  run-short ((y ∷ q, value) ∷ changes) = let further = run-short changes in elim (x == y) as (λ b. (if b then suc (run_of x changes) else 0) ≤ suc (length changes)) [ true ↦ omega arith | false ↦ omega arith ]

pub rising-drop : (n : ℕ) (changes : List Change) → RisingChanges changes → RisingChanges (drop n changes)
rising-drop zero changes h = h
rising-drop (suc n) [] h = h
rising-drop (suc n) (change ∷ changes) h = rising-drop n changes h.1
