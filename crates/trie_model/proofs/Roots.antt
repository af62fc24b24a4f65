-- Roots, and tables that hold a state.
use Rattle.std.proofs.Common.{◌≡◌, ◌≢◌, ◌↔◌, ℕ, List, [], ◌∷◌, length, map, Contains, refl, sym, ◌∙◌, ap, subst}
use Rattle.std.proofs.lemmas.Option.{same_Some}
use Rattle.std.proofs.lemmas.List.Elements.{Contains-append_left}
use Rattle.std.specs.FinMap.{get, entries, empty, len-entries, empty_of_len, same_entries_map}
use Rattle.sha2.specs.Sha256.{sha256}
use Rattle.trie_model.specs.State.{State, Row, rows_of}
use Rattle.trie_model.specs.Tree.{tree_of}
use Rattle.trie_model.specs.Texts.{text, places}
use Rattle.trie_model.specs.Root.{zero_digest, text_at, places_of, texts_of, root_of, root, Table, Holds, NoClash}
use Rattle.byte_model.proofs.Lists.{first_same, rest_same}
use Rattle.byte_model.proofs.Digits.{nibbles-same}
use Rattle.trie_model.proofs.Worked.{Pair, rows_of_pairs, root-empty}
use Rattle.trie_model.proofs.Members.{IsIn, in-map, contains_of_in, in_of_contains, all_at}
use Rattle.trie_model.proofs.Trees.{tree_of-one, tree_of-forks, tree_of-shares, by_cases}
use Rattle.trie_model.proofs.Costs.{subtree_at-root}
use Rattle.trie_model.proofs.Children.{root_is_place}

-- a text that the table has under its digest is the only one that it has there
pub NoClash-held : (table : Table) (state : State) → Holds table state → NoClash (texts_of state)
NoClash-held table state held = record {
  apart = λ a b here there e.
      let first = all_at _ (texts_of state) a held.found (in_of_contains _ a here) in
      let second = all_at _ (texts_of state) b held.found (in_of_contains _ b there) in
      same_Some a b (sym first ∙ ap (get table) e ∙ second);
  nonzero = λ a here. all_at _ (texts_of state) a held.nonzero (in_of_contains _ a here);
}

-- ---- the root of a state with a pair is the digest of one of its texts

pub root_of-some : (rows : List Row) → rows ≢ [] → root_of (tree_of rows) ≡ sha256 (text (tree_of rows))
unfolding root_of
root_of-some = by_cases (λ rows. rows ≢ [] → root_of (tree_of rows) ≡ sha256 (text (tree_of rows))) (record {
  none = λ some. absurd (some refl);
  one = λ row some. subst (λ t. root_of t ≡ sha256 (text t)) (sym (tree_of-one row)) refl;
  forks = λ row next rows e further some. subst (λ t. root_of t ≡ sha256 (text t)) (sym (tree_of-forks row next rows e)) refl;
  shares = λ row next rows x prefix e further some. subst (λ t. root_of t ≡ sha256 (text t)) (sym (tree_of-shares row next rows x prefix e)) refl;
})

pub root_text_occurs : (state : State) → rows_of state ≢ [] → Contains (texts_of state) (text_at state [])
unfolding texts_of
root_text_occurs state some =
    let place : IsIn (places_of state) [] = subst (λ t. IsIn (places t) []) (sym (subtree_at-root state)) (root_is_place (rows_of state) some) in
    Contains-append_left (map (text_at state) (places_of state)) (map (λ (row : Row). row.1) (rows_of state)) _ (contains_of_in _ _ (in-map (text_at state) (places_of state) [] place))

pub root-some : (state : State) → rows_of state ≢ [] → root state ≡ sha256 (text_at state [])
root-some state some =
    let whole = subtree_at-root state in
    ap root_of whole ∙ root_of-some (rows_of state) some ∙ ap (λ tree. sha256 (text tree)) (sym whole)

cons_none : (row : Row) (rows : List Row) → row ∷ rows ≡ [] → ⊥
cons_none row rows h = cc

empty_of_rows : (state : State) → rows_of state ≡ [] → state ≡ empty
unfolding rows_of
empty_of_rows state e = go (entries state) refl e
  where
    go : (pairs : List Pair) → entries state ≡ pairs → rows_of_pairs pairs ≡ [] → state ≡ empty
    go [] none _ = empty_of_len state (len-entries state ∙ ap length none)
    go (pair ∷ pairs) some h = absurd (cons_none _ _ h)

abbrev NoneZero : State → Type 0
NoneZero state = (t : List ℕ) → Contains (texts_of state) t → sha256 t ≢ zero_digest

empty_of_root : (state : State) → NoneZero state → root state ≡ zero_digest → state ≡ empty
empty_of_root state nonzero e = go (rows_of state) refl
  where
    go : (rows : List Row) → rows_of state ≡ rows → state ≡ empty
    go [] none = empty_of_rows state none
    go (row ∷ rows) some =
        let there : rows_of state ≢ [] = λ none. absurd (cons_none row rows (sym some ∙ none)) in
        absurd (nonzero _ (root_text_occurs state there) (sym (root-some state there) ∙ e))

pub root-zero : (state : State) → NoneZero state → (root state ≡ zero_digest) ↔ (state ≡ empty)
root-zero state nonzero = (empty_of_root state nonzero, λ e. ap root e ∙ root-empty)

-- ---- rows tell states apart

pub pairs_same : (ms ns : List Pair) → rows_of_pairs ms ≡ rows_of_pairs ns → ms ≡ ns
pairs_same [] [] e = refl
pairs_same [] (n ∷ ns) e = absurd (cons_none _ _ (sym e))
pairs_same (m ∷ ms) [] e = absurd (cons_none _ _ e)
pairs_same (m ∷ ms) (n ∷ ns) e =
    let key = nibbles-same m.0 n.0 (first_path e) in
    let value = first_value e in
    let further = pairs_same ms ns (rest_same e) in
    λ i. (key i, value i) ∷ further i
  where
    first_path : {r s : Row} {rs ss : List Row} → r ∷ rs ≡ s ∷ ss → r.0 ≡ s.0
    first_path e = ap (λ (row : Row). row.0) (first_same e)

    first_value : {r s : Row} {rs ss : List Row} → r ∷ rs ≡ s ∷ ss → r.1 ≡ s.1
    first_value e = ap (λ (row : Row). row.1) (first_same e)

pub rows_of-same : (m n : State) → rows_of m ≡ rows_of n → m ≡ n
unfolding rows_of
rows_of-same m n e = same_entries_map m n (pairs_same (entries m) (entries n) e)
