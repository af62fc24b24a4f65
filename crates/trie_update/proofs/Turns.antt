-- One turn over the nibbles: the changes that go on with a nibble, and those that are left.
use Rattle.std.proofs.Common.{◌≡◌, ℕ, zero, suc, ◌+◌, ◌==◌, true, false, List, [], ◌∷◌, take, drop, refl, sym, ◌∙◌, ap, ap₂, subst, arith}
use Rattle.std.proofs.lemmas.List.{length-drop, drop-drop}
use Rattle.std.specs.List.{AllByRecursion}
use Rattle.byte_model.specs.Nibbles.{nibbles}
use Rattle.byte_model.proofs.Lists.{AllByRecursion-take, AllByRecursion-drop}
use Rattle.trie_model.specs.Tree.{rest_behind}
use Rattle.trie_model.proofs.Rests.{equal_of_test}
use Rattle.trie_model.proofs.Order.{Before, slice_cmp-prefix}
use Rattle.batch_model.specs.Changes.{Change}
use Rattle.change_model.specs.Visits.{changes_behind}
use Rattle.update_model.proofs.Behind.{rising, rises, RisingChanges}
use Rattle.trie_shape.proofs.Branches.{longer}
use Rattle.trie_update.specs.ChangesAt.{Rises, AllFrom, run_of, Lent, value_lent, change_at, changes_at, IsChangeAt, AreChangesAt, IsLeft}
use Rattle.trie_update.proofs.Runs.{tails, after-run, below-run, below-after, rising-drop}

-- ---- changes below a nibble rise

all_behind : (x : ℕ) (p : List ℕ) (changes : List Change) → AllByRecursion (λ later. Before (x ∷ p) later.0) changes → AllByRecursion (λ later. Before p later.0) (changes_behind (x ∷ []) changes)
unfolding changes_behind rest_behind
all_behind x p [] h = tt
all_behind x p (([], value) ∷ changes) h = all_behind x p changes h.1
all_behind x p ((y ∷ q, value) ∷ changes) h =
    elim (x == y) as (λ b. (x == y) ≡ b → AllByRecursion (λ later. Before p later.0) (changes_behind (x ∷ []) ((y ∷ q, value) ∷ changes))) [
      | true ↦ λ t. rw t (sym (slice_cmp-prefix (x ∷ []) p q) ∙ subst (λ z. Before (x ∷ p) (z ∷ q)) (sym (equal_of_test x y t)) h.0, all_behind x p changes h.1)
      | false ↦ λ t. rw t (all_behind x p changes h.1)
    ] refl

pub rising-behind : (x : ℕ) (changes : List Change) → RisingChanges changes → RisingChanges (changes_behind (x ∷ []) changes)
unfolding changes_behind rest_behind
rising-behind x [] h = tt
rising-behind x (([], value) ∷ changes) h = rising-behind x changes h.1
rising-behind x ((y ∷ q, value) ∷ changes) h =
    elim (x == y) as (λ b. (x == y) ≡ b → RisingChanges (changes_behind (x ∷ []) ((y ∷ q, value) ∷ changes))) [
      | true ↦ λ t. rw t (all_behind x q changes (subst (λ z. AllByRecursion (λ later. Before (z ∷ q) later.0) changes) (sym (equal_of_test x y t)) h.0), rising-behind x changes h.1)
      | false ↦ λ t. rw t (rising-behind x changes h.1)
    ] refl

-- ---- changed keys and their parts

changes_at-take : (depth n : ℕ) (changes : List Lent) → changes_at depth (take n changes) ≡ take n (changes_at depth changes)
changes_at-take depth zero changes = refl
changes_at-take depth (suc n) [] = refl
changes_at-take depth (suc n) (change ∷ changes) = ap (λ (cs : List Change). change_at depth change ∷ cs) (changes_at-take depth n changes)

changes_at-drop : (depth n : ℕ) (changes : List Lent) → changes_at depth (drop n changes) ≡ drop n (changes_at depth changes)
changes_at-drop depth zero changes = refl
changes_at-drop depth (suc n) [] = refl
changes_at-drop depth (suc n) (change ∷ changes) = changes_at-drop depth n changes

tails-changes_at : (depth : ℕ) (changes : List Lent) → tails (changes_at depth changes) ≡ changes_at (depth + 1) changes
tails-changes_at depth [] = refl
tails-changes_at depth (change ∷ changes) = ap₂ (λ (p : List ℕ) (cs : List Change). (p, value_lent change.1) ∷ cs) (drop-drop 1 depth (nibbles change.0.now)) (tails-changes_at depth changes)

deeper : (depth x : ℕ) (changes : List Lent) → AllFrom x (changes_at depth changes) → AllByRecursion (IsChangeAt depth) changes → AllByRecursion (IsChangeAt (depth + 1)) changes
deeper depth x [] h each = tt
deeper depth x (change ∷ changes) h each =
    let long = longer (nibbles change.0.now) depth x h.0 in
    (record { deep = omega arith; short = each.0.short; nibbles = each.0.nibbles; value = each.0.value }, deeper depth x changes h.1 each.1)

-- ---- one nibble's run

module _ (x depth : ℕ) (whole rest : List Lent) (left : IsLeft x depth whole rest) where
  unfoldable pub run : ℕ
  run = run_of x (changes_at depth rest)

  rising_rest : RisingChanges (changes_at depth rest)
  rising_rest = rising (changes_at depth rest) left.changes.rises

  pub run_below : changes_at (depth + 1) (take run rest) ≡ changes_behind (x ∷ []) (changes_at depth whole)
  unfolding run
  run_below =
      sym (tails-changes_at depth (take run rest)) ∙ ap tails (changes_at-take depth run rest)
      ∙ sym (below-run x (changes_at depth rest) rising_rest left.from) ∙ sym (left.below x (omega arith))

  pub run_changes : AreChangesAt (depth + 1) (take run rest)
  unfolding run
  run_changes = record {
    rises = subst Rises (below-run x (changes_at depth rest) rising_rest left.from ∙ ap tails (sym (changes_at-take depth run rest)) ∙ tails-changes_at depth (take run rest)) (rises (changes_behind (x ∷ []) (changes_at depth rest)) (rising-behind x (changes_at depth rest) rising_rest));
    each = AllByRecursion-take (IsChangeAt (depth + 1)) run rest (deeper depth x rest left.from left.changes.each);
  }

  pub run_left : IsLeft (x + 1) depth whole (drop run rest)
  unfolding run
  run_left =
      let as_drop = changes_at-drop depth run rest in
      let next : suc x ≡ x + 1 = omega arith in
      record {
        changes = record { rises = subst Rises (sym as_drop) (rises (drop run (changes_at depth rest)) (rising-drop run (changes_at depth rest) rising_rest)); each = AllByRecursion-drop (IsChangeAt depth) run rest left.changes.each };
        from = subst (λ (cs : List Change). AllFrom (x + 1) cs) (sym as_drop) (subst (λ y. AllFrom y (drop run (changes_at depth rest))) next (after-run x (changes_at depth rest) rising_rest left.from));
        below = λ y h. left.below y (omega arith) ∙ below-after x y (changes_at depth rest) (omega arith) ∙ ap (changes_behind (y ∷ [])) (sym as_drop);
        fewer = let shorter = left.fewer in let all = length-drop run rest in omega arith;
      }
