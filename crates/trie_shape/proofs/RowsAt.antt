-- Pairs as rows from a depth on.
use Rattle.std.proofs.Common.{◌≡◌, ℕ, zero, suc, ◌<◌, ◌≤◌, ◌==◌, Bool, true, false, List, [], ◌∷◌, length, drop, get_or, None, Some, option_map, if◌then◌else◌, inl, inr, refl, sym, ◌∙◌, ap, subst, arith}
use Rattle.std.specs.List.{AllByRecursion}
use Rattle.std.specs.List.Sorted.{IsPartitionedBy, IsPartitionPoint}
use Rattle.byte_model.specs.Nibbles.{nibbles}
use Rattle.trie_model.specs.State.{Row}
use Rattle.trie_model.specs.Tree.{below, ends_here}
use Rattle.trie_model.specs.Texts.{value_ref}
use Rattle.trie_model.proofs.Rests.{equal_of_test}
use Rattle.trie_model.proofs.Order.{Before, RisingRows}
use Rattle.trie_shape.specs.Runs.{StartsFrom, AllFrom, goes_on, run_of}
use Rattle.trie_shape.specs.RowsAt.{Lent, row_at, rows_at, AreRowsAt, IsLeft}
use Rattle.trie_shape.proofs.Runs.{rising, rises, first_or_rest, all-behind, none-ends, ends-first, below-first}

-- ---- how long a run is

run_of-cons : (x : ℕ) (row : Row) (rows : List Row) → run_of x (row ∷ rows) ≡ (if goes_on x row.0 then suc (run_of x rows) else 0)
unfolding run_of
run_of-cons x row rows = refl

run_of-nil : (x : ℕ) → run_of x [] ≡ 0
unfolding run_of
run_of-nil x = refl

-- the row at a place, of rows of which this holds
each_at : (P : Row → Type 0) (depth : ℕ) (rows : List Lent) (j : ℕ) (d : Lent) → j < length rows → AllByRecursion P (rows_at depth rows) → P (row_at depth (get_or rows j d))
each_at P depth [] j d h all = absurd (omega arith)
each_at P depth (row ∷ rows) zero d h all = all.0
each_at P depth (row ∷ rows) (suc j) d h all = each_at P depth rows j d (omega arith) all.1

-- a path below one that goes on with the lowest nibble goes on with it too
pub first_of : (x : ℕ) (p q : List ℕ) → StartsFrom x p → Before p q → goes_on x q ≡ true → goes_on x p ≡ true
first_of x [] q from before goes = absurd from
first_of x (y ∷ p) [] from before goes = cc
first_of x (y ∷ p) (z ∷ q) from before goes =
    let same = equal_of_test x z goes in
    elim (first_or_rest y z p q before) [
      | inl less ↦ absurd (omega arith)
      | inr e ↦ subst (λ w. (x == w) ≡ true) (sym e.0) goes
    ]

-- rising rows go on with the lowest nibble up to some place
pub parted : (x depth : ℕ) (rows : List Lent) → RisingRows (rows_at depth rows) → AllFrom x (rows_at depth rows) → IsPartitionedBy (λ row. goes_on x (row_at depth row).0) rows
parted x depth [] up from i j d le h goes = absurd (omega arith)
parted x depth (row ∷ rows) up from zero zero d le h goes = goes
parted x depth (row ∷ rows) up from zero (suc j) d le h goes =
    first_of x (row_at depth row).0 (row_at depth (get_or rows j d)).0 from.0 (each_at (λ other. Before (row_at depth row).0 other.0) depth rows j d (omega arith) up.0) goes
parted x depth (row ∷ rows) up from (suc i) zero d le h goes = absurd (omega arith)
parted x depth (row ∷ rows) up from (suc i) (suc j) d le h goes = parted x depth rows up.1 from.1 i j d (omega arith) (omega arith) goes

pub point-run : (x depth : ℕ) (rows : List Lent) (i : ℕ) → i ≤ length rows
    → IsPartitionPoint (λ row. goes_on x (row_at depth row).0 ≡ true) (λ row. goes_on x (row_at depth row).0 ≡ false) rows i → i ≡ run_of x (rows_at depth rows)
point-run x depth [] i h point = let none = run_of-nil x in omega arith
point-run x depth (row ∷ rows) zero h point =
    sym (run_of-cons x (row_at depth row) (rows_at depth rows) ∙ ap (λ (b : Bool). if b then suc (run_of x (rows_at depth rows)) else 0) (point.1 0 row (omega arith) (omega arith)))
point-run x depth (row ∷ rows) (suc i) h point =
    let further = point-run x depth rows i (omega arith) (λ k d a l. point.0 (suc k) d (omega arith) (omega arith), λ k d a l. point.1 (suc k) d (omega arith) (omega arith)) in
    let here = run_of-cons x (row_at depth row) (rows_at depth rows) ∙ ap (λ (b : Bool). if b then suc (run_of x (rows_at depth rows)) else 0) (point.0 0 row (omega arith) (omega arith)) in
    omega arith

-- ---- the row that ends at a depth

drop_all : (p : List ℕ) (n : ℕ) → length p ≤ n → drop n p ≡ []
drop_all [] zero h = refl
drop_all [] (suc n) h = refl
drop_all (x ∷ p) zero h = absurd (omega arith)
drop_all (x ∷ p) (suc n) h = drop_all p n (omega arith)

pub drop_some : (p : List ℕ) (n : ℕ) → n < length p → StartsFrom 0 (drop n p)
drop_some [] n h = absurd (omega arith)
drop_some (x ∷ p) zero h = omega arith
drop_some (x ∷ p) (suc n) h = drop_some p n (omega arith)

pub tail_rows : (depth : ℕ) (row : Lent) (rows : List Lent) → AreRowsAt depth (row ∷ rows) → AreRowsAt depth rows
tail_rows depth row rows h = record { rises = rises (rows_at depth rows) (rising (rows_at depth (row ∷ rows)) h.rises).1; each = h.each.1 }

module _ (depth : ℕ) (rows rest : List Lent) (row : Lent) where
  pub ends-row : rows ≡ row ∷ rest → AreRowsAt depth rows → length (nibbles row.0.now) ≡ depth → Some (value_ref row.1.now) ≡ option_map value_ref (ends_here (rows_at depth rows))
  ends-row e h ends =
      let none : drop depth (nibbles row.0.now) ≡ [] = drop_all (nibbles row.0.now) depth (omega arith) in
      let first : ends_here (rows_at depth rows) ≡ Some row.1.now = ap (λ (rs : List Lent). ends_here (rows_at depth rs)) e ∙ ap (λ (p : List ℕ). ends_here ((p, row.1.now) ∷ rows_at depth rest)) none ∙ ends-first row.1.now (rows_at depth rest) in
      sym (ap (option_map value_ref) first)

  pub left-row : rows ≡ row ∷ rest → AreRowsAt depth rows → length (nibbles row.0.now) ≡ depth → IsLeft 0 depth rows rest
  left-row e h ends =
      let whole = subst (AreRowsAt depth) e h in
      let none : drop depth (nibbles row.0.now) ≡ [] = drop_all (nibbles row.0.now) depth (omega arith) in
      record {
        rows = tail_rows depth row rest whole;
        from = all-behind (row_at depth row) (rows_at depth rest) (rising (rows_at depth (row ∷ rest)) whole.rises);
        below = λ y _. ap (λ (rs : List Lent). below (y ∷ []) (rows_at depth rs)) e ∙ ap (λ (p : List ℕ). below (y ∷ []) ((p, row.1.now) ∷ rows_at depth rest)) none ∙ below-first y row.1.now (rows_at depth rest);
      }

  going_on : rows ≡ row ∷ rest → AreRowsAt depth rows → (length (nibbles row.0.now) ≡ depth → ⊥) → AllFrom 0 (rows_at depth rows)
  going_on e h goes =
      let whole = subst (AreRowsAt depth) e h in
      let deep = whole.each.0.deep in
      let longer : depth < length (nibbles row.0.now) = grind (arith, goes) in
      subst (λ (rs : List Lent). AllFrom 0 (rows_at depth rs)) (sym e) (drop_some (nibbles row.0.now) depth longer, all-behind (row_at depth row) (rows_at depth rest) (rising (rows_at depth (row ∷ rest)) whole.rises))

  pub goes-row : rows ≡ row ∷ rest → AreRowsAt depth rows → (length (nibbles row.0.now) ≡ depth → ⊥) → None ≡ option_map value_ref (ends_here (rows_at depth rows))
  goes-row e h goes = sym (ap (option_map value_ref) (none-ends (rows_at depth rows) (going_on e h goes)))

  pub left-goes : rows ≡ row ∷ rest → AreRowsAt depth rows → (length (nibbles row.0.now) ≡ depth → ⊥) → IsLeft 0 depth rows rows
  left-goes e h goes = record { rows = h; from = going_on e h goes; below = λ y _. refl }

pub no-row : (depth : ℕ) (rows : List Lent) → rows ≡ [] → None ≡ option_map value_ref (ends_here (rows_at depth rows))
no-row depth rows e = sym (ap (λ (rs : List Lent). option_map value_ref (ends_here (rows_at depth rs))) e ∙ ap (option_map value_ref) (none-ends [] tt))

pub left-none : (depth : ℕ) (rows : List Lent) → rows ≡ [] → AreRowsAt depth rows → IsLeft 0 depth rows rows
left-none depth rows e h = record { rows = h; from = subst (λ (rs : List Lent). AllFrom 0 (rows_at depth rs)) (sym e) tt; below = λ y _. refl }
