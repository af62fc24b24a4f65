-- Rising rows are told by what they have at each path, so rows over which nothing is laid stay as they are.
use Rattle.std.proofs.Common.{◌≡◌, ℕ, Bool, true, false, if◌then◌else◌, List, [], ◌∷◌, None, Some, refl, sym, ◌∙◌, ap, ap₂, subst}
use Rattle.std.specs.List.{AllByRecursion}
use Rattle.std.proofs.lemmas.Bool.{false≢true}
use Rattle.std.proofs.lemmas.Option.{none-some}
use Rattle.trie_model.specs.State.{Row}
use Rattle.trie_model.specs.Tree.{below}
use Rattle.trie_model.proofs.Order.{Before, RisingRows, rising-below, not_before_itself, not_before_back}
use Rattle.trie_model.proofs.Pairs.{Small, small-below}
use Rattle.batch_model.specs.Changes.{found_at}
use Rattle.change_model.proofs.Laid.{IsLaid, same_path, path_of_test, test_of_path}
use Rattle.change_model.proofs.Alone.{found_all}

-- rows by rising path, each path once, of nibbles
pub record InOrder (rows : List Row) : Type 0 where
  pub rising : RisingRows rows
  pub small : Small rows

pub in_order-below : (prefix : List ℕ) (rows : List Row) → InOrder rows → InOrder (below prefix rows)
in_order-below prefix rows h = record { rising = rising-below prefix rows h.rising; small = small-below prefix rows h.small }

-- ---- order

-- ---- what is found

pub found_first : (row : Row) (rows : List Row) → found_at row.0 (row ∷ rows) ≡ Some row.1
unfolding found_at
found_first row rows = ap (λ b. if b then Some row.1 else found_at row.0 rows) (test_of_path row.0 row.0 refl)

found_other : (row : Row) (rows : List Row) (q : List ℕ) → same_path row.0 q ≡ false → found_at q (row ∷ rows) ≡ found_at q rows
unfolding found_at
found_other row rows q apart = ap (λ b. if b then Some row.1 else found_at q rows) apart

found_before : (q : List ℕ) (rows : List Row) → AllByRecursion (λ later. Before q later.0) rows → found_at q rows ≡ None
unfolding found_at
found_before q [] h = refl
found_before q (row ∷ rows) h =
    elim (same_path row.0 q) as (λ b. same_path row.0 q ≡ b → (if b then Some row.1 else found_at q rows) ≡ None) [
      | true ↦ λ t. absurd (not_before_itself q (subst (Before q) (path_of_test row.0 q t) h.0))
      | false ↦ λ t. found_before q rows h.1
    ] refl

found_none : (q : List ℕ) → found_at {X = List ℕ} q [] ≡ None
unfolding found_at
found_none q = refl

pub same_rows : (rows later : List Row) → RisingRows rows → RisingRows later → ((q : List ℕ) → found_at q later ≡ found_at q rows) → later ≡ rows
same_rows [] [] h k same = refl
same_rows [] (l ∷ ls) h k same = absurd (none-some l.1 (sym (found_none l.0) ∙ sym (same l.0) ∙ found_first l ls))
same_rows (r ∷ rs) [] h k same = absurd (none-some r.1 (sym (found_none r.0) ∙ same r.0 ∙ found_first r rs))
same_rows (r ∷ rs) (l ∷ ls) h k same = go (same_path r.0 l.0) refl (same_rows rs ls h.1 k.1)
  where
    the_same : (v w : List ℕ) → Some v ≡ Some w → v ≡ w
    the_same v w e = cc

    rest : r.0 ≡ l.0 → (q : List ℕ) → found_at q ls ≡ found_at q rs
    rest path q =
        elim (same_path r.0 q) as (λ b. same_path r.0 q ≡ b → found_at q ls ≡ found_at q rs) [
          | true ↦ λ t.
              let is : r.0 ≡ q = path_of_test r.0 q t in
              found_before q ls (subst (λ (p : List ℕ). AllByRecursion (λ later. Before p later.0) ls) (sym path ∙ is) k.0)
              ∙ sym (found_before q rs (subst (λ (p : List ℕ). AllByRecursion (λ later. Before p later.0) rs) is h.0))
          | false ↦ λ t.
              sym (found_other l ls q (subst (λ (p : List ℕ). same_path p q ≡ false) path t)) ∙ same q ∙ found_other r rs q t
        ] refl

    go : (b : Bool) → same_path r.0 l.0 ≡ b → (((q : List ℕ) → found_at q ls ≡ found_at q rs) → ls ≡ rs) → l ∷ ls ≡ r ∷ rs
    go true t further =
        let path : r.0 ≡ l.0 = path_of_test r.0 l.0 t in
        let value : l.1 ≡ r.1 = the_same l.1 r.1 (sym (found_first l ls) ∙ ap (λ (p : List ℕ). found_at p (l ∷ ls)) (sym path) ∙ same r.0 ∙ found_first r rs) in
        ap₂ (λ (row : Row) (others : List Row). row ∷ others) (λ i. (sym path i, value i)) (further (rest path))
    go false t further =
        let apart : same_path l.0 r.0 ≡ false = other_way (same_path l.0 r.0) refl in
        let later : Before l.0 r.0 = found_all (Before l.0) ls r.0 r.1 k.0 (sym (found_other l ls r.0 apart) ∙ same r.0 ∙ found_first r rs) in
        let earlier : Before r.0 l.0 = found_all (Before r.0) rs l.0 l.1 h.0 (sym (found_other r rs l.0 t) ∙ sym (same l.0) ∙ found_first l ls) in
        absurd (not_before_back l.0 r.0 later earlier)
      where
        other_way : (b : Bool) → same_path l.0 r.0 ≡ b → same_path l.0 r.0 ≡ false
        other_way false e = e
        other_way true e = absurd (false≢true (sym t ∙ test_of_path r.0 l.0 (sym (path_of_test l.0 r.0 e))))

-- where no change stands
pub laid-none : (rows later : List Row) → RisingRows rows → RisingRows later → IsLaid rows [] later → later ≡ rows
unfolding found_at
laid-none rows later h k laid = same_rows rows later h k laid.at
