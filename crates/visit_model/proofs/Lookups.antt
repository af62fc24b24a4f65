-- The lookup of a key over the trie of some rows: the places on the key's path, and the row of the key.
use Rattle.std.proofs.Common.{◌≡◌, ◌≢◌, ℕ, ◌<◌, ◌==◌, Bool, true, false, if◌then◌else◌, List, [], ◌∷◌, ◌++◌, map, filter, cond, is_some, Option, None, Some, option_map, option_and_then, IfSome, nat_eq, nat_cmp, Ordering, Less, Equal, Greater, refl, sym, ◌∙◌, ap, ap₂, subst, append_assoc, append-nil, arith}
use Rattle.std.specs.List.{cons_option}
use Rattle.std.specs.List.{AllByRecursion}
use Rattle.std.specs.Ordering.{is_eq}
use Rattle.std.specs.Cmp.Lexicographic.{slice_cmp, nat_list_cmp_total, pointwise, same_text, other_text}
use Rattle.std.specs.FinMap.{get, get-entries, entries, find, slice_cmp-IsAntisymmetric, nat_cmp-IsAntisymmetric}
use Rattle.std.proofs.lemmas.Cmp.{tied_itself}
use Rattle.std.proofs.lemmas.Bool.Decides.{nat_tests}
use Rattle.sha2.specs.Sha256.{sha256}
use Rattle.byte_model.specs.Below.{joined_below}
use Rattle.byte_model.specs.Nibbles.{AreBytes, AreNibbles, nibbles}
use Rattle.byte_model.proofs.Digits.{AreNibbles-nibbles, AreNibbles-rest, nibbles-same}
use Rattle.byte_model.proofs.Below.{joined_below-empty, joined_below-only}
use Rattle.trie_model.specs.State.{State, Row, IsState, rows_of}
use Rattle.trie_model.specs.Tree.{Tree, branch, extension, rest_behind, below, ends_here, tree_of}
use Rattle.trie_model.specs.Texts.{text, value_ref, behind, places}
use Rattle.trie_model.specs.Root.{Table, Holds, root, subtree_at, text_at, places_of}
use Rattle.trie_model.proofs.Worked.{Pair, rows_of_pairs}
use Rattle.trie_model.proofs.Costs.{subtree_at-root}
use Rattle.trie_model.proofs.Places.{at_place, map-behind}
use Rattle.trie_model.proofs.Rests.{same_nibble, rest_behind-append, rest_behind-prefix, prefix_and_rest, below-nil, below-append, AllHavePrefix, common_prefix-all}
use Rattle.trie_model.proofs.Trees.{tree_of-nil, tree_of-one, tree_of-forks, tree_of-shares, by_cases}
use Rattle.visit_model.specs.Shown.{shown}
use Rattle.visit_model.specs.Steps.{Step, node, value, value_steps, behind as behind_prefix, lookup_steps}
use Rattle.visit_model.specs.Visits.{Visits, no_visits, node_first, visits_of, lookup_visits}
use Rattle.visit_model.specs.Bounds.{has_prefix, at_most_one}
use Rattle.visit_model.proofs.ShownStates.{state_seen}
use Rattle.visit_model.proofs.Values.{HeldValue, value_visit-held, held_values}
use Rattle.visit_model.proofs.Joins.{filter-joined_below}

-- ---- the row that ends at a path

-- the value of the row with this path
abbrev pub row_at : List Row → List ℕ → Option (List ℕ)
row_at rows path = ends_here (below path rows)

pub row_at-same : (row : Row) (rows : List Row) (path : List ℕ) → row.0 ≡ path → row_at (row ∷ rows) path ≡ Some row.1
unfolding below ends_here
row_at-same row rows path e =
    let rest : rest_behind path row.0 ≡ Some [] = ap (rest_behind path) (e ∙ sym (append-nil path)) ∙ rest_behind-prefix path [] in
    rw rest refl

pub row_at-other : (row : Row) (rows : List Row) (path : List ℕ) → row.0 ≢ path → row_at (row ∷ rows) path ≡ row_at rows path
unfolding below ends_here
row_at-other row rows path apart = go (rest_behind path row.0) refl
  where
    go : (r : Option (List ℕ)) → rest_behind path row.0 ≡ r → ends_here (cons_option (option_map (λ rest. (rest, row.1)) r) (below path rows)) ≡ ends_here (below path rows)
    go None e = refl
    go (Some []) e = absurd (apart (prefix_and_rest path row.0 [] e ∙ append-nil path))
    go (Some (y ∷ rest)) e = refl

-- of rows with a prefix, there is none at a path without it
row_at-outside : (prefix path : List ℕ) (rows : List Row) → AllHavePrefix prefix rows → rest_behind prefix path ≡ None → row_at rows path ≡ None
unfolding below ends_here
row_at-outside prefix path [] all e = refl
row_at-outside prefix path (row ∷ rows) all e =
    row_at-other row rows path (λ same. no_prefix (sym e ∙ ap (rest_behind prefix) (sym same ∙ all.0.1) ∙ rest_behind-prefix prefix all.0.0))
    ∙ row_at-outside prefix path rows all.1 e
  where
    no_prefix : None ≡ Some all.0.0 → ⊥
    no_prefix h = cc

-- and what holds of the values of all rows holds of its value
row_at-all : (P : List ℕ → Type 0) (rows : List Row) (path : List ℕ) → AllByRecursion (λ row. P row.1) rows → IfSome (row_at rows path) P
unfolding below ends_here
row_at-all P [] path all = tt
row_at-all P (row ∷ rows) path all = go (rest_behind path row.0) (row_at-all P rows path all.1)
  where
    go : (r : Option (List ℕ)) → IfSome (row_at rows path) P → IfSome (ends_here (cons_option (option_map (λ rest. (rest, row.1)) r) (below path rows))) P
    go None further = further
    go (Some []) further = all.0
    go (Some (y ∷ rest)) further = further

-- ---- the places on a path

-- those of a subtree that stands behind a prefix, by what is left of the path behind it
abbrev kept_behind : List ℕ → Option (List ℕ) → List (List ℕ) → List (List ℕ)
kept_behind prefix None paths = []
kept_behind prefix (Some rest) paths = behind prefix (filter (has_prefix rest) paths)

filter-behind : (prefix path : List ℕ) (paths : List (List ℕ)) → filter (has_prefix path) (behind prefix paths) ≡ kept_behind prefix (rest_behind prefix path) paths
filter-behind prefix path [] = none (rest_behind prefix path)
  where
    none : (r : Option (List ℕ)) → [] ≡ kept_behind prefix r []
    none None = refl
    none (Some rest) = refl
filter-behind prefix path (p ∷ paths) =
    ap₂ (λ (r : Option (List ℕ)) (ps : List (List ℕ)). cond (is_some r) ((prefix ++ p) ∷ ps) ps) (rest_behind-append prefix p path) (filter-behind prefix path paths)
    ∙ step (rest_behind prefix path)
  where
    step : (r : Option (List ℕ)) → cond (is_some (option_and_then (rest_behind p) r)) ((prefix ++ p) ∷ kept_behind prefix r paths) (kept_behind prefix r paths) ≡ kept_behind prefix r (p ∷ paths)
    step None = refl
    step (Some rest) =
        elim (is_some (rest_behind p rest)) as (λ b. cond b ((prefix ++ p) ∷ behind prefix (filter (has_prefix rest) paths)) (behind prefix (filter (has_prefix rest) paths)) ≡ behind prefix (cond b (p ∷ filter (has_prefix rest) paths) (filter (has_prefix rest) paths))) [
          | true ↦ refl
          | false ↦ refl
        ]

-- of the subtrees of a branch, those at the first nibble of the path alone
kept_nowhere : (kids : ℕ → List (List ℕ)) → filter (has_prefix []) (joined_below (λ x. behind (x ∷ []) (kids x)) 16) ≡ []
unfolding rest_behind
kept_nowhere kids =
    filter-joined_below (has_prefix []) (λ x. behind (x ∷ []) (kids x)) 16
    ∙ joined_below-empty _ 16 (λ x h. filter-behind (x ∷ []) [] (kids x))

kept_at : (y : ℕ) (path : List ℕ) (kids : ℕ → List (List ℕ)) → y < 16 → filter (has_prefix (y ∷ path)) (joined_below (λ x. behind (x ∷ []) (kids x)) 16) ≡ behind (y ∷ []) (filter (has_prefix path) (kids y))
unfolding rest_behind
kept_at y path kids small =
    filter-joined_below (has_prefix (y ∷ path)) (λ x. behind (x ∷ []) (kids x)) 16
    ∙ joined_below-only _ y 16 small (λ x apart.
    let test : (x == y) ≡ false = grind (arith, nat_tests) in
    filter-behind (x ∷ []) (y ∷ path) (kids x) ∙ ap (λ b. kept_behind (x ∷ []) (if b then Some path else None) (kids x)) test)
    ∙ filter-behind (y ∷ []) (y ∷ path) (kids y)
    ∙ ap (λ b. kept_behind (y ∷ []) (if b then Some path else None) (kids y)) (same_nibble y)

-- ---- the steps

-- the node at a place of some rows
abbrev pub node_of_tree : Tree → Step
node_of_tree tree = node (sha256 (text tree))

-- the steps of a lookup, told by the rows
abbrev Told : List Row → List ℕ → List ℕ → Type 0
Told rows before path =
    lookup_steps (shown (tree_of rows)) before path ≡ map (at_place node_of_tree rows) (filter (has_prefix path) (places (tree_of rows))) ++ value_steps (before ++ path) (option_map value_ref (row_at rows path))

abbrev AllTold : List Row → Type 0
AllTold rows = (before path : List ℕ) → AreNibbles path → Told rows before path

at_top : (rows : List Row) (tree : Tree) → tree_of rows ≡ tree → at_place node_of_tree rows [] ≡ node_of_tree tree
at_top rows tree e = ap (λ rs. node_of_tree (tree_of rs)) (below-nil rows) ∙ ap node_of_tree e

told_none : AllTold []
unfolding shown lookup_steps places below ends_here
told_none before path small = subst (λ t. lookup_steps (shown t) before path ≡ map (at_place node_of_tree []) (filter (has_prefix path) (places t)) ++ []) (sym tree_of-nil) refl

told_one : (row : Row) → AllTold (row ∷ [])
unfolding shown lookup_steps places rest_behind below ends_here
told_one row before path small =
    let e = tree_of-one row in
    subst (λ t. lookup_steps (shown t) before path ≡ map (at_place node_of_tree (row ∷ [])) (filter (has_prefix path) (places t)) ++ value_steps (before ++ path) (option_map value_ref (row_at (row ∷ []) path))) (sym e)
    (ap₂ (λ (a : Step) (others : List Step). a ∷ others) (sym (at_top (row ∷ []) _ e)) (test (pointwise nat_eq row.0 path) refl))
  where
    test : (b : Bool) → pointwise nat_eq row.0 path ≡ b → (if b then value (before ++ row.0) (value_ref row.1) ∷ [] else []) ≡ value_steps (before ++ path) (option_map value_ref (row_at (row ∷ []) path))
    test true t =
        let same : row.0 ≡ path = same_text row.0 path (sym t) in
        ap (λ (p : List ℕ). value (before ++ p) (value_ref row.1) ∷ []) same ∙ ap (λ o. value_steps (before ++ path) (option_map value_ref o)) (sym (row_at-same row [] path same))
    test false t = ap (λ o. value_steps (before ++ path) (option_map value_ref o)) (sym (row_at-other row [] path (other_text row.0 path (sym t))))

told_branch : (rows : List Row) → tree_of rows ≡ branch (ends_here rows) (λ x. tree_of (below (x ∷ []) rows)) → ((x : ℕ) → AllTold (below (x ∷ []) rows)) → AllTold rows
unfolding shown lookup_steps places rest_behind
told_branch rows e further before path small = subst (λ t. lookup_steps (shown t) before path ≡ map (at_place node_of_tree rows) (filter (has_prefix path) (places t)) ++ value_steps (before ++ path) (option_map value_ref (row_at rows path))) (sym e) (go path small)
  where
    kids : ℕ → Tree
    kids x = tree_of (below (x ∷ []) rows)

    below_top : ℕ → List (List ℕ)
    below_top n = joined_below (λ x. behind (x ∷ []) (places (kids x))) n

    go : (p : List ℕ) → AreNibbles p → lookup_steps (shown (branch (ends_here rows) kids)) before p ≡ at_place node_of_tree rows [] ∷ map (at_place node_of_tree rows) (filter (has_prefix p) (below_top 16)) ++ value_steps (before ++ p) (option_map value_ref (row_at rows p))
    go [] h =
        ap₂ (λ (a : Step) (others : List Step). a ∷ others) (sym (at_top rows _ e))
        (ap₂ (λ (q : List ℕ) (rs : List Row). value_steps q (option_map value_ref (ends_here rs))) (sym (append-nil before)) (sym (below-nil rows))
        ∙ ap (λ (ps : List (List ℕ)). map (at_place node_of_tree rows) ps ++ value_steps (before ++ []) (option_map value_ref (row_at rows []))) (sym (kept_nowhere (λ x. places (kids x)))))
    go (y ∷ p) h =
        ap₂ (λ (a : Step) (others : List Step). a ∷ others) (sym (at_top rows _ e))
        (further y (before ++ y ∷ []) p h.1
        ∙ ap₂ (λ (ss : List Step) (vs : List Step). ss ++ vs)
        (sym (map-behind node_of_tree rows (y ∷ []) (filter (has_prefix p) (places (kids y)))) ∙ ap (map (at_place node_of_tree rows)) (sym (kept_at y p (λ x. places (kids x)) h.0)))
        (ap₂ (λ (q : List ℕ) (rs : List Row). value_steps q (option_map value_ref (ends_here rs))) (append_assoc before (y ∷ []) p) (sym (below-append (y ∷ []) p rows))))

told_extension : (rows : List Row) (prefix : List ℕ) → AllHavePrefix prefix rows → tree_of rows ≡ extension prefix (tree_of (below prefix rows)) → AllTold (below prefix rows) → AllTold rows
unfolding shown lookup_steps places rest_behind behind_prefix
told_extension rows prefix all e further before path small =
    subst (λ t. lookup_steps (shown t) before path ≡ map (at_place node_of_tree rows) (filter (has_prefix path) (places t)) ++ value_steps (before ++ path) (option_map value_ref (row_at rows path))) (sym e)
    (ap₂ (λ (a : Step) (others : List Step). a ∷ others) (sym (at_top rows _ e))
    (go (rest_behind prefix path) refl ∙ ap (λ (ps : List (List ℕ)). map (at_place node_of_tree rows) ps ++ value_steps (before ++ path) (option_map value_ref (row_at rows path))) (sym (filter-behind prefix path (places child)))))
  where
    child : Tree
    child = tree_of (below prefix rows)

    go : (r : Option (List ℕ)) → rest_behind prefix path ≡ r → behind_prefix (lookup_steps (shown child) (before ++ prefix)) r ≡ map (at_place node_of_tree rows) (kept_behind prefix r (places child)) ++ value_steps (before ++ path) (option_map value_ref (row_at rows path))
    go None r = ap (λ o. value_steps (before ++ path) (option_map value_ref o)) (sym (row_at-outside prefix path rows all r))
    go (Some rest) r =
        let whole = prefix_and_rest prefix path rest r in
        further (before ++ prefix) rest (AreNibbles-rest prefix rest (subst AreNibbles whole small))
        ∙ ap₂ (λ (ss vs : List Step). ss ++ vs)
        (sym (map-behind node_of_tree rows prefix (filter (has_prefix rest) (places child))))
        (ap₂ (λ (q : List ℕ) (rs : List Row). value_steps q (option_map value_ref (ends_here rs))) (append_assoc before prefix rest) (sym (below-append prefix rest rows))
        ∙ ap (λ (q : List ℕ). value_steps (before ++ q) (option_map value_ref (row_at rows q))) (sym whole))

-- The lookup of a path goes through the places on it, and ends at the row with this path, if there is one.
pub lookup_steps-shown : (rows : List Row) (before path : List ℕ) → AreNibbles path → Told rows before path
lookup_steps-shown = by_cases AllTold (record {
  none = told_none;
  one = told_one;
  forks = λ row next rows e further. told_branch (row ∷ next ∷ rows) (tree_of-forks row next rows e) further;
  shares = λ row next rows x prefix e further.
      let rs : List Row = row ∷ next ∷ rows in
      let all = subst (λ (f : List ℕ). AllHavePrefix f rs) e (common_prefix-all row (next ∷ rows)) in
      told_extension rs (x ∷ prefix) all (tree_of-shares row next rows x prefix e) further;
})

-- ---- the visits

-- each node of some steps is visited, and then the value, which the table holds
visits_of-nodes : (table : Table) (digest : List ℕ → List ℕ) (places : List (List ℕ)) (path : List ℕ) (found : Option (List ℕ)) → IfSome found (λ value. get table (sha256 value) ≡ Some value) → visits_of table 1 (map (λ place. node (digest place)) places ++ value_steps path (option_map value_ref found)) ≡ record { digests = map digest places ++ at_most_one (option_map sha256 found); values = at_most_one (option_map (λ value. (path, value)) found); refusal = None }
unfolding visits_of
visits_of-nodes table digest [] path None held = refl
visits_of-nodes table digest [] path (Some v) held = value_visit-held table path v no_visits held
visits_of-nodes table digest (place ∷ places) path found held = ap (node_first (digest place)) (visits_of-nodes table digest places path found held)

-- ---- the row of a key

-- the row with a key's nibbles is that of the key
row_at-pairs : (pairs : List Pair) (key : List ℕ) → row_at (rows_of_pairs pairs) (nibbles key) ≡ find (slice_cmp nat_cmp) key pairs
unfolding below ends_here
row_at-pairs [] key = refl
row_at-pairs (pair ∷ pairs) key = go (slice_cmp nat_cmp key pair.0) refl (row_at-pairs pairs key)
  where
    row : Row
    row = (nibbles pair.0, pair.1)

    apart : (o : Ordering) → slice_cmp nat_cmp key pair.0 ≡ o → o ≢ Equal → nibbles pair.0 ≢ nibbles key
    apart o e other same = other (sym e ∙ ap (slice_cmp nat_cmp key) (nibbles-same pair.0 key same) ∙ tied_itself nat_list_cmp_total key)

    go : (o : Ordering) → slice_cmp nat_cmp key pair.0 ≡ o → row_at (rows_of_pairs pairs) (nibbles key) ≡ find (slice_cmp nat_cmp) key pairs → row_at (row ∷ rows_of_pairs pairs) (nibbles key) ≡ cond (is_eq o) (Some pair.1) (find (slice_cmp nat_cmp) key pairs)
    go Equal e further = row_at-same row (rows_of_pairs pairs) (nibbles key) (ap nibbles (sym (slice_cmp-IsAntisymmetric nat_cmp-IsAntisymmetric key pair.0 e)))
    go Less e further = row_at-other row (rows_of_pairs pairs) (nibbles key) (apart Less e (λ h. cc)) ∙ further
    go Greater e further = row_at-other row (rows_of_pairs pairs) (nibbles key) (apart Greater e (λ h. cc)) ∙ further

row_at-key : (state : State) (key : List ℕ) → row_at (rows_of state) (nibbles key) ≡ get state key
unfolding rows_of
row_at-key state key = row_at-pairs (entries state) key ∙ sym (get-entries state key)

-- ---- of a state

-- what the lookup of a key visits in a table that holds a state
abbrev pub lookup_of : State → List ℕ → Visits
lookup_of state key = record {
  digests = map (λ place. sha256 (text_at state place)) (filter (has_prefix (nibbles key)) (places_of state)) ++ at_most_one (option_map sha256 (get state key));
  values = at_most_one (option_map (λ value. (nibbles key, value)) (get state key));
  refusal = None;
}

pub lookup_visits-state : (table : Table) (state : State) (key : List ℕ) → Holds table state → IsState state → AreBytes key → lookup_visits table (root state) key ≡ lookup_of state key
unfolding subtree_at
lookup_visits-state table state key held is bytes =
    let rows : List Row = rows_of state in
    let path : List ℕ = nibbles key in
    let found : Option (List ℕ) = row_at rows path in
    let whole : subtree_at state [] ≡ tree_of rows = subtree_at-root state in
    ap (λ s. visits_of table 1 (lookup_steps s [] path)) (state_seen table state held is ∙ ap shown whole)
    ∙ ap (visits_of table 1) (lookup_steps-shown rows [] path (AreNibbles-nibbles key bytes))
    ∙ visits_of-nodes table (λ place. sha256 (text_at state place)) (filter (has_prefix path) (places (tree_of rows))) path found (row_at-all (HeldValue table) rows path (held_values table state held))
    ∙ ap₂ (λ tree (o : Option (List ℕ)). record {
      digests = map (λ place. sha256 (text_at state place)) (filter (has_prefix path) (places tree)) ++ at_most_one (option_map sha256 o);
      values = at_most_one (option_map (λ value. (path, value)) o);
      refusal = None;
    }) (sym whole) (row_at-key state key)
