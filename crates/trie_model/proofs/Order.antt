-- The order of paths: places rise, and so do the rows of a state.
use Rattle.std.proofs.Common.{◌≡◌, ℕ, zero, suc, ◌<◌, List, [], ◌∷◌, ◌++◌, None, Some, option_map, refl, sym, ◌∙◌, ap, ap₂, subst, inl, inr, Greater, Ordering, Less, Equal, Equal, nat_cmp, T, Bool, true, false, ◌&&◌}
use Rattle.std.specs.List.{AllByRecursion, cons_option}
use Rattle.std.specs.List.Sorted.{IsStrictlySortedBy}
use Rattle.std.specs.Ordering.{ordering_then, is_lt}
use Rattle.std.specs.Cmp.Lexicographic.{slice_cmp, nat_list_cmp_total}
use Rattle.std.specs.FinMap.{entries, entries_sorted, is_sorted}
use Rattle.std.specs.FinMap.Entries.{below_all}
use Rattle.std.specs.Cmp.{tied_itself}
use Rattle.byte_model.specs.Below.{joined_below}
use Rattle.byte_model.specs.Nibbles.{nibbles}
use Rattle.byte_model.proofs.Digits.{nat_cmp-less, nat_cmp-itself, slice_cmp-nibbles}
use Rattle.trie_model.specs.State.{State, Row, rows_of}
use Rattle.trie_model.specs.Tree.{rest_behind, below, tree_of}
use Rattle.trie_model.specs.Texts.{behind, places}
use Rattle.trie_model.specs.Root.{places_of}
use Rattle.trie_model.proofs.Members.{IsIn, in_map_from, in_joined_below_from, all_at, all_of, in-append_cases}
use Rattle.trie_model.proofs.Rests.{prefix_and_rest}
use Rattle.trie_model.proofs.Trees.{tree_of-nil, tree_of-one, tree_of-forks, tree_of-shares, by_cases}
use Rattle.trie_model.proofs.Costs.{subtree_at-root}
use Rattle.trie_model.proofs.Worked.{Pair, rows_of_pairs}

-- one path stands before another
abbrev pub Before : List ℕ → List ℕ → Type 0
Before p q = slice_cmp nat_cmp p q ≡ Less

abbrev pub Rising : List (List ℕ) → Type 0
Rising paths = IsStrictlySortedBy (slice_cmp nat_cmp) paths

pub slice_cmp-prefix : (prefix p q : List ℕ) → slice_cmp nat_cmp (prefix ++ p) (prefix ++ q) ≡ slice_cmp nat_cmp p q
slice_cmp-prefix [] p q = refl
slice_cmp-prefix (x ∷ prefix) p q = ap (λ o. ordering_then o (slice_cmp nat_cmp (prefix ++ p) (prefix ++ q))) (nat_cmp-itself x) ∙ slice_cmp-prefix prefix p q

pub before_by_first : (x y : ℕ) (p q : List ℕ) → x < y → Before (x ∷ p) (y ∷ q)
before_by_first x y p q h = ap (λ o. ordering_then o (slice_cmp nat_cmp p q)) (nat_cmp-less x y h)

pub not_before_itself : (p : List ℕ) → Before p p → ⊥
not_before_itself p h = different (sym h ∙ tied_itself nat_list_cmp_total p)
  where
    different : Less ≡ Equal → ⊥
    different e = cc

pub not_before_back : (p q : List ℕ) → Before p q → Before q p → ⊥
not_before_back p q h k = not_before_itself p (nat_list_cmp_total.trans p q p h k)

pub rising-append : (ps qs : List (List ℕ)) → Rising ps → Rising qs → ((p q : List ℕ) → IsIn ps p → IsIn qs q → Before p q) → Rising (ps ++ qs)
unfolding IsStrictlySortedBy
rising-append [] qs h k across = k
rising-append (p ∷ ps) qs h k across = (
  all_of (λ q. Before p q) (ps ++ qs) (λ q i. elim (in-append_cases ps qs q i) [
    | inl l ↦ all_at (λ r. Before p r) ps q h.0 l
    | inr r ↦ across p q (inl refl) r
  ]),
  rising-append ps qs h.1 k (λ r q i j. across r q (inr i) j),
)

all_behind : (prefix p : List ℕ) (qs : List (List ℕ)) → AllByRecursion (λ q. Before p q) qs → AllByRecursion (λ q. Before (prefix ++ p) q) (behind prefix qs)
all_behind prefix p [] h = tt
all_behind prefix p (q ∷ qs) h = (slice_cmp-prefix prefix p q ∙ h.0, all_behind prefix p qs h.1)

pub rising-behind : (prefix : List ℕ) (ps : List (List ℕ)) → Rising ps → Rising (behind prefix ps)
unfolding IsStrictlySortedBy
rising-behind prefix [] h = tt
rising-behind prefix (p ∷ ps) h = (all_behind prefix p ps h.0, rising-behind prefix ps h.1)

rising-joined_below : (ps : ℕ → List (List ℕ)) (n : ℕ) → ((x : ℕ) → Rising (ps x)) → Rising (joined_below (λ x. behind (x ∷ []) (ps x)) n)
unfolding joined_below IsStrictlySortedBy
rising-joined_below ps zero each = tt
rising-joined_below ps (suc n) each =
    rising-append (joined_below (λ x. behind (x ∷ []) (ps x)) n) (behind (n ∷ []) (ps n)) (rising-joined_below ps n each) (rising-behind (n ∷ []) (ps n) (each n)) (λ p q i j.
    let lower = in_joined_below_from (λ x. behind (x ∷ []) (ps x)) n p i in
    let first = in_map_from (λ (r : List ℕ). lower.0 ∷ r) (ps lower.0) p lower.2 in
    let second = in_map_from (λ (r : List ℕ). n ∷ r) (ps n) q j in
    let apart : Before (lower.0 ∷ first.0) (n ∷ second.0) = before_by_first lower.0 n first.0 second.0 lower.1 in
    subst (λ r. Before p r) second.2 (subst (λ r. Before r (n ∷ second.0)) first.2 apart))

-- the empty path stands before each path behind a nibble
first_of_all : (x : ℕ) (prefix : List ℕ) (ps : List (List ℕ)) → AllByRecursion (λ q. Before [] q) (behind (x ∷ prefix) ps)
first_of_all x prefix [] = tt
first_of_all x prefix (p ∷ ps) = (refl, first_of_all x prefix ps)

first_of_joined : (ps : ℕ → List (List ℕ)) (n : ℕ) → AllByRecursion (λ q. Before [] q) (joined_below (λ x. behind (x ∷ []) (ps x)) n)
first_of_joined ps n = all_of (λ q. Before [] q) (joined_below (λ x. behind (x ∷ []) (ps x)) n) (λ q i.
    let r = in_joined_below_from (λ x. behind (x ∷ []) (ps x)) n q i in
    all_at (λ p. Before [] p) (behind (r.0 ∷ []) (ps r.0)) q (first_of_all r.0 [] (ps r.0)) r.2)

pub rising-places : (rows : List Row) → Rising (places (tree_of rows))
unfolding places IsStrictlySortedBy
rising-places = by_cases (λ rows. Rising (places (tree_of rows))) (record {
  none = subst (λ t. Rising (places t)) (sym tree_of-nil) tt;
  one = λ row. subst (λ t. Rising (places t)) (sym (tree_of-one row)) (tt, tt);
  forks = λ row next rows e further.
      let kids : ℕ → List (List ℕ) = λ x. places (tree_of (below (x ∷ []) (row ∷ next ∷ rows))) in
      subst (λ t. Rising (places t)) (sym (tree_of-forks row next rows e)) (first_of_joined kids 16, rising-joined_below kids 16 further);
  shares = λ row next rows x prefix e further.
      let child : List (List ℕ) = places (tree_of (below (x ∷ prefix) (row ∷ next ∷ rows))) in
      subst (λ t. Rising (places t)) (sym (tree_of-shares row next rows x prefix e)) (first_of_all x prefix child, rising-behind (x ∷ prefix) child further);
})

pub rising-places_of : (state : State) → Rising (places_of state)
rising-places_of state = subst (λ t. Rising (places t)) (sym (subtree_at-root state)) (rising-places (rows_of state))

-- ---- rows

-- each row's path stands before those of later rows
abbrev pub RisingRows : List Row → Type 0
RisingRows [] = Unit {0}
RisingRows (row ∷ rows) = AllByRecursion (λ later. Before row.0 later.0) rows × RisingRows rows

pub first_test : (a b : Bool) → T (a && b) → T a
first_test true b h = tt
first_test false b h = h

pub second_test : (a b : Bool) → T (a && b) → T b
second_test true b h = h
second_test false b h = absurd h

pub less_of_test : (o : Ordering) → T (is_lt o) → o ≡ Less
less_of_test Less h = refl
less_of_test Equal h = absurd h
less_of_test Greater h = absurd h

all_later : (key : List ℕ) (pairs : List Pair) → T (below_all (slice_cmp nat_cmp) key pairs) → AllByRecursion (λ later. Before (nibbles key) later.0) (rows_of_pairs pairs)
all_later key [] h = tt
all_later key (pair ∷ pairs) h = (slice_cmp-nibbles key pair.0 ∙ less_of_test _ (first_test _ _ h), all_later key pairs (second_test _ _ h))

rising_pairs : (pairs : List Pair) → T (is_sorted (slice_cmp nat_cmp) pairs) → RisingRows (rows_of_pairs pairs)
rising_pairs [] h = tt
rising_pairs (pair ∷ pairs) h = (all_later pair.0 pairs (first_test _ _ h), rising_pairs pairs (second_test _ _ h))

pub rising-rows_of : (state : State) → RisingRows (rows_of state)
unfolding rows_of
rising-rows_of state = rising_pairs (entries state) (entries_sorted state)

-- a property of rows that passes on to what is left of their paths
pub all-below : (P Q : Row → Type 0) (prefix : List ℕ) → ((row : Row) (rest : List ℕ) → rest_behind prefix row.0 ≡ Some rest → P row → Q (rest, row.1)) → (rows : List Row) → AllByRecursion P rows → AllByRecursion Q (below prefix rows)
unfolding below
all-below P Q prefix step [] h = tt
all-below P Q prefix step (row ∷ rows) h =
    let further = all-below P Q prefix step rows h.1 in
    elim (rest_behind prefix row.0) as (λ r. rest_behind prefix row.0 ≡ r → AllByRecursion Q (cons_option (option_map (λ rest. (rest, row.1)) r) (below prefix rows))) [
      | None ↦ λ e. further
      | Some rest ↦ λ e. (step row rest e h.0, further)
    ] refl

pub rising-below : (prefix : List ℕ) (rows : List Row) → RisingRows rows → RisingRows (below prefix rows)
unfolding below
rising-below prefix [] h = tt
rising-below prefix (row ∷ rows) h =
    let further = rising-below prefix rows h.1 in
    elim (rest_behind prefix row.0) as (λ r. rest_behind prefix row.0 ≡ r → RisingRows (cons_option (option_map (λ rest. (rest, row.1)) r) (below prefix rows))) [
      | None ↦ λ e. further
      | Some rest ↦ λ e. (
        all-below (λ later. Before row.0 later.0) (λ later. Before rest later.0) prefix (λ later rest' e' b.
            sym (slice_cmp-prefix prefix rest rest') ∙ ap₂ (slice_cmp nat_cmp) (sym (prefix_and_rest prefix row.0 rest e)) (sym (prefix_and_rest prefix later.0 rest' e')) ∙ b) rows h.0,
        further,
      )
    ] refl
