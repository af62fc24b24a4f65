-- Changed keys in order, from a depth on.
use Rattle.std.specs.Prelude.{slice_get}
use Rattle.std.proofs.Common.{◌≡◌, ◌≢◌, ℕ, zero, suc, ◌<◌, ◌≤◌, Bool, true, false, List, [], ◌∷◌, length, drop, get_or, None, Some, if◌then◌else◌, refl, sym, ◌∙◌, ap, subst, arith}
use Rattle.std.proofs.lemmas.List.{drop_all, length-map}
use Rattle.std.specs.List.{AllByRecursion}
use Rattle.std.specs.List.Sorted.{IsPartitionedBy, IsPartitionPoint}
use Rattle.byte_model.specs.Nibbles.{nibbles}
use Rattle.byte_model.specs.PackedPath.{longest_path}
use Rattle.trie_model.proofs.Order.{Before}
use Rattle.trie_shape.specs.Runs.{goes_on}
use Rattle.batch_model.specs.Changes.{Change, found_at}
use Rattle.change_model.specs.Visits.{changes_behind}
use Rattle.update_model.proofs.Behind.{behind-first, rising, rises, RisingChanges}
use Rattle.trie_shape.proofs.RowsAt.{first_of, drop_some}
use Rattle.trie_update.specs.ChangesAt.{Lent, value_lent, change_at, changes_at, AreChangesAt, IsLeft, AllFrom, run_of}
use Rattle.trie_update.proofs.Runs.{all-behind, none-ends, ends-first}

-- ---- how long a run is

run_of-cons : (x : ℕ) (change : Change) (changes : List Change) → run_of x (change ∷ changes) ≡ (if goes_on x change.0 then suc (run_of x changes) else 0)
unfolding run_of
run_of-cons x change changes = refl

run_of-nil : (x : ℕ) → run_of x [] ≡ 0
unfolding run_of
run_of-nil x = refl

-- ---- where the first change does not go on so

pub no-first : (x depth : ℕ) (changes : List Lent) → None ≡ slice_get changes 0 → 0 ≡ run_of x (changes_at depth changes)
no-first x depth [] e = sym (run_of-nil x)
no-first x depth (change ∷ changes) e = absurd cc

pub first-apart : (x depth : ℕ) (changes : List Lent) (change : Lent) → Some change ≡ slice_get changes 0 → goes_on x (change_at depth change).0 ≡ false → 0 ≡ run_of x (changes_at depth changes)
first-apart x depth [] change e apart = absurd cc
first-apart x depth (first ∷ changes) change e apart =
    let same : change ≡ first = cc in
    sym (run_of-cons x (change_at depth first) (changes_at depth changes) ∙ ap (λ (b : Bool). if b then suc (run_of x (changes_at depth changes)) else 0) (ap (λ (c : Lent). goes_on x (change_at depth c).0) (sym same) ∙ apart))

-- the change at a place, of changes of which this holds
pub each_at : (P : Change → Type 0) (depth : ℕ) (changes : List Lent) (j : ℕ) (d : Lent) → j < length changes → AllByRecursion P (changes_at depth changes) → P (change_at depth (get_or changes j d))
each_at P depth [] j d h all = absurd (omega arith)
each_at P depth (change ∷ changes) zero d h all = all.0
each_at P depth (change ∷ changes) (suc j) d h all = each_at P depth changes j d (omega arith) all.1

-- rising changes go on with the lowest nibble up to some place
pub parted : (x depth : ℕ) (changes : List Lent) → RisingChanges (changes_at depth changes) → AllFrom x (changes_at depth changes) → IsPartitionedBy (λ change. goes_on x (change_at depth change).0) changes
parted x depth [] up from i j d le h goes = absurd (omega arith)
parted x depth (change ∷ changes) up from zero zero d le h goes = goes
parted x depth (change ∷ changes) up from zero (suc j) d le h goes =
    first_of x (change_at depth change).0 (change_at depth (get_or changes j d)).0 from.0 (each_at (λ other. Before (change_at depth change).0 other.0) depth changes j d (omega arith) up.0) goes
parted x depth (change ∷ changes) up from (suc i) zero d le h goes = absurd (omega arith)
parted x depth (change ∷ changes) up from (suc i) (suc j) d le h goes = parted x depth changes up.1 from.1 i j d (omega arith) (omega arith) goes

pub point-run : (x depth : ℕ) (changes : List Lent) (i : ℕ) → i ≤ length changes
    → IsPartitionPoint (λ change. goes_on x (change_at depth change).0 ≡ true) (λ change. goes_on x (change_at depth change).0 ≡ false) changes i → i ≡ run_of x (changes_at depth changes)
point-run x depth [] i h point = let none = run_of-nil x in omega arith
point-run x depth (change ∷ changes) zero h point =
    sym (run_of-cons x (change_at depth change) (changes_at depth changes) ∙ ap (λ (b : Bool). if b then suc (run_of x (changes_at depth changes)) else 0) (point.1 0 change (omega arith) (omega arith)))
point-run x depth (change ∷ changes) (suc i) h point =
    let further = point-run x depth changes i (omega arith) (λ k d a l. point.0 (suc k) d (omega arith) (omega arith), λ k d a l. point.1 (suc k) d (omega arith) (omega arith)) in
    let here = run_of-cons x (change_at depth change) (changes_at depth changes) ∙ ap (λ (b : Bool). if b then suc (run_of x (changes_at depth changes)) else 0) (point.0 0 change (omega arith) (omega arith)) in
    omega arith

-- ---- the change that ends at a depth

pub tail_changes : (depth : ℕ) (change : Lent) (changes : List Lent) → AreChangesAt depth (change ∷ changes) → AreChangesAt depth changes
tail_changes depth change changes h = record { rises = rises (changes_at depth changes) (rising (changes_at depth (change ∷ changes)) h.rises).1; each = h.each.1 }

module _ (depth : ℕ) (changes rest : List Lent) (change : Lent) where
  pub ends-change : changes ≡ change ∷ rest → AreChangesAt depth changes → length (nibbles change.0.now) ≡ depth → Some (value_lent change.1) ≡ found_at [] (changes_at depth changes)
  ends-change e h ends =
      let none : drop depth (nibbles change.0.now) ≡ [] = drop_all depth (nibbles change.0.now) (omega arith) in
      let first : found_at [] (changes_at depth changes) ≡ Some (value_lent change.1) = ap (λ (cs : List Lent). found_at [] (changes_at depth cs)) e ∙ ap (λ (p : List ℕ). found_at [] ((p, value_lent change.1) ∷ changes_at depth rest)) none ∙ ends-first (value_lent change.1) (changes_at depth rest) in
      sym first

  pub left-change : changes ≡ change ∷ rest → AreChangesAt depth changes → length (nibbles change.0.now) ≡ depth → IsLeft 0 depth changes rest
  left-change e h ends =
      let whole = subst (AreChangesAt depth) e h in
      let none : drop depth (nibbles change.0.now) ≡ [] = drop_all depth (nibbles change.0.now) (omega arith) in
      record {
        changes = tail_changes depth change rest whole;
        from = all-behind (change_at depth change) (changes_at depth rest) (rising (changes_at depth (change ∷ rest)) whole.rises);
        below = λ y _. ap (λ (cs : List Lent). changes_behind (y ∷ []) (changes_at depth cs)) e ∙ ap (λ (p : List ℕ). changes_behind (y ∷ []) ((p, value_lent change.1) ∷ changes_at depth rest)) none ∙ behind-first y (value_lent change.1) (changes_at depth rest);
        fewer = let longer = ap length e in omega arith;
      }

  going_on : changes ≡ change ∷ rest → AreChangesAt depth changes → (length (nibbles change.0.now) ≡ depth → ⊥) → AllFrom 0 (changes_at depth changes)
  going_on e h goes =
      let whole = subst (AreChangesAt depth) e h in
      let deep = whole.each.0.deep in
      let longer : depth < length (nibbles change.0.now) = grind (arith, goes) in
      subst (λ (cs : List Lent). AllFrom 0 (changes_at depth cs)) (sym e) (drop_some (nibbles change.0.now) depth longer, all-behind (change_at depth change) (changes_at depth rest) (rising (changes_at depth (change ∷ rest)) whole.rises))

  pub goes-change : changes ≡ change ∷ rest → AreChangesAt depth changes → (length (nibbles change.0.now) ≡ depth → ⊥) → None ≡ found_at [] (changes_at depth changes)
  goes-change e h goes = sym (none-ends (changes_at depth changes) (going_on e h goes))

  pub left-goes : changes ≡ change ∷ rest → AreChangesAt depth changes → (length (nibbles change.0.now) ≡ depth → ⊥) → IsLeft 0 depth changes changes
  left-goes e h goes = record { changes = h; from = going_on e h goes; below = λ y _. refl; fewer = omega arith }

pub no-change : (depth : ℕ) (changes : List Lent) → changes ≡ [] → None ≡ found_at [] (changes_at depth changes)
no-change depth changes e = sym (ap (λ (cs : List Lent). found_at [] (changes_at depth cs)) e ∙ none-ends [] tt)

pub left-none : (depth : ℕ) (changes : List Lent) → changes ≡ [] → AreChangesAt depth changes → IsLeft 0 depth changes changes
left-none depth changes e h = record { changes = h; from = subst (λ (cs : List Lent). AllFrom 0 (changes_at depth cs)) (sym e) tt; below = λ y _. refl; fewer = omega arith }

pub length-changes_at : (depth : ℕ) (changes : List Lent) → length (changes_at depth changes) ≡ length changes
length-changes_at depth changes = length-map changes (change_at depth)

pub changes-some : (depth : ℕ) (changes : List Lent) → 1 ≤ length changes → changes_at depth changes ≢ []
changes-some depth [] some = absurd (omega arith)
changes-some depth (change ∷ changes) some = λ e. cc

-- some changes reach no deeper than the longest path
pub lent-deep : (depth : ℕ) (changes : List Lent) → AreChangesAt depth changes → 1 ≤ length changes → depth ≤ longest_path
lent-deep depth [] h some = absurd (omega arith)
lent-deep depth (change ∷ changes) h some = let deep = h.each.0.deep in let short = h.each.0.short in omega arith
