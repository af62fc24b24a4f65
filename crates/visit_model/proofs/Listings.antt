-- The listing of a state: its rows from a path on, of which none fails.
use Rattle.std.proofs.Common.{◌≡◌, ℕ, zero, suc, Bool, true, false, List, [], ◌∷◌, ◌++◌, map, filter, cond, take, Option, None, Some, option_map, refl, sym, ◌∙◌, ap, ap₂, subst}
use Rattle.std.specs.Prelude.{⊤}
use Rattle.std.specs.List.{AllByRecursion}
use Rattle.std.specs.Ordering.{is_ge}
use Rattle.std.specs.FinMap.{get, entries}
use Rattle.std.proofs.lemmas.List.{map-append}
use Rattle.sha2.specs.Sha256.{sha256}
use Rattle.byte_model.specs.Below.{joined_below}
use Rattle.byte_model.specs.Nibbles.{nibbles}
use Rattle.byte_model.specs.Node.{ValueRef}
use Rattle.byte_model.proofs.Digits.{slice_cmp-nibbles}
use Rattle.trie_model.specs.State.{State, Row, IsState, rows_of}
use Rattle.trie_model.specs.Tree as tree
use Rattle.trie_model.specs.Tree.{Tree, tree_of}
use Rattle.trie_model.specs.Texts.{value_ref}
use Rattle.trie_model.specs.Root.{Table, Holds, root}
use Rattle.trie_model.proofs.Worked.{Pair, rows_of_pairs}
use Rattle.trie_model.proofs.Costs.{subtree_at-root}
use Rattle.byte_model.proofs.Below.{joined_below-agree, map-joined_below}
use Rattle.trie_model.proofs.Order.{rising-rows_of}
use Rattle.trie_model.proofs.Pairs.{here, held, held-tree_of, small-rows_of}
use Rattle.trie_model.proofs.Rests.{under}
use Rattle.visit_model.specs.Seen.{seen}
use Rattle.visit_model.specs.Shown.{shown}
use Rattle.visit_model.specs.Steps.{Step, node, no_text, no_node, value, behind, bound_behind, reached_steps, listing_steps}
use Rattle.visit_model.specs.Visits.{Visits, value_first, value_visit, visits_of, listing_visits}
use Rattle.visit_model.specs.Bounds.{reaches}
use Rattle.visit_model.proofs.ShownStates.{state_seen}
use Rattle.visit_model.proofs.Values.{HeldValue, value_visit-held, held_values}
use Rattle.visit_model.proofs.Rows.{Named, beneath, beneath-nil, name_here, named, named_in, reaching, named-listing_steps}

-- ---- what is seen of a trie names its rows

-- how a node names a row
abbrev name_of_row : Row → Named
name_of_row row = (row.0, value_ref row.1)

beneath-under : (prefix : List ℕ) (rows : List Row) → beneath prefix (map name_of_row rows) ≡ map name_of_row (under prefix rows)
beneath-under prefix [] = refl
beneath-under prefix (row ∷ rows) = ap (λ (names : List Named). (prefix ++ row.0, value_ref row.1) ∷ names) (beneath-under prefix rows)

named_in-shown : (t : Tree) → named_in (shown t) ≡ map name_of_row (held t)
unfolding named_in shown held
named_in-shown tree.nothing = refl
named_in-shown (tree.leaf path v) = refl
named_in-shown (tree.branch v kids) =
    ap₂ (λ (a b : List Named). a ++ b) (top v)
    (joined_below-agree _ (λ x. map name_of_row (under (x ∷ []) (held (kids x)))) 16 (λ x h. ap (beneath (x ∷ [])) (named_in-shown (kids x)) ∙ beneath-under (x ∷ []) (held (kids x)))
    ∙ sym (map-joined_below name_of_row (λ x. under (x ∷ []) (held (kids x))) 16))
    ∙ sym (map-append name_of_row (here v) (joined_below (λ x. under (x ∷ []) (held (kids x))) 16))
  where
    top : (o : Option (List ℕ)) → name_here (option_map value_ref o) ≡ map name_of_row (here o)
    top None = refl
    top (Some w) = refl
named_in-shown (tree.extension path child) = ap (beneath path) (named_in-shown child) ∙ beneath-under path (held child)

reaching-names : (bound : List ℕ) (rows : List Row) → reaching bound (map name_of_row rows) ≡ map name_of_row (filter (λ row. reaches bound row.0) rows)
reaching-names bound [] = refl
reaching-names bound (row ∷ rows) =
    let kept : List Row = filter (λ r. reaches bound r.0) rows in
    ap (λ (names : List Named). cond (reaches bound row.0) (name_of_row row ∷ names) names) (reaching-names bound rows)
    ∙ elim (reaches bound row.0) as (λ b. cond b (name_of_row row ∷ map name_of_row kept) (map name_of_row kept) ≡ map name_of_row (cond b (row ∷ kept) kept)) [
      | true ↦ refl
      | false ↦ refl
    ]

-- ---- its steps fail at no text

-- a step that is no failed test of a text
abbrev IsSound : Step → Type 0
IsSound (node digest) = ⊤
IsSound (no_text digest) = ⊥
IsSound (no_node digest) = ⊥
IsSound (value path ref) = ⊤

abbrev AreSound : List Step → Type 0
AreSound steps = AllByRecursion IsSound steps

sound-append : (steps others : List Step) → AreSound steps → AreSound others → AreSound (steps ++ others)
sound-append [] others h k = k
sound-append (step ∷ steps) others h k = (h.0, sound-append steps others h.1 k)

sound-joined_below : (f : ℕ → List Step) (n : ℕ) → ((x : ℕ) → AreSound (f x)) → AreSound (joined_below f n)
unfolding joined_below
sound-joined_below f zero each = tt
sound-joined_below f (suc n) each = sound-append (joined_below f n) (f n) (sound-joined_below f n each) (each n)

sound-reached : (path : List ℕ) (ref : Option ValueRef) (bound : Option (List ℕ)) → AreSound (reached_steps path ref bound)
unfolding reached_steps
sound-reached path ref None = tt
sound-reached path None (Some []) = tt
sound-reached path (Some r) (Some []) = (tt, tt)
sound-reached path ref (Some (x ∷ bound)) = tt

sound-behind : (steps : List ℕ → List Step) (rest : Option (List ℕ)) → ((bound : List ℕ) → AreSound (steps bound)) → AreSound (behind steps rest)
unfolding behind
sound-behind steps None each = tt
sound-behind steps (Some bound) each = each bound

sound-listing_steps : (t : Tree) (before bound : List ℕ) → AreSound (listing_steps (shown t) before bound)
unfolding shown listing_steps
sound-listing_steps tree.nothing before bound = tt
sound-listing_steps (tree.leaf path v) before bound = (tt, sound-reached (before ++ path) (Some (value_ref v)) (bound_behind path bound))
sound-listing_steps (tree.branch v kids) before bound = (
  tt,
  sound-append (reached_steps before (option_map value_ref v) (Some bound)) _ (sound-reached before (option_map value_ref v) (Some bound))
      (sound-joined_below (λ x. behind (listing_steps (shown (kids x)) (before ++ x ∷ [])) (bound_behind (x ∷ []) bound)) 16 (λ x. sound-behind (listing_steps (shown (kids x)) (before ++ x ∷ [])) (bound_behind (x ∷ []) bound) (λ b. sound-listing_steps (kids x) (before ++ x ∷ []) b))),
)
sound-listing_steps (tree.extension path child) before bound = (tt, sound-behind (listing_steps (shown child) (before ++ path)) (bound_behind path bound) (λ b. sound-listing_steps child (before ++ path) b))

-- ---- the visits

-- how visits end that read the first of some rows
pub record Reads (visits : Visits) (rows : List Row) : Type 0 where
  pub values : visits.values ≡ rows
  pub refusal : visits.refusal ≡ None

-- the steps name rows whose values are held
reads-visits_of : (table : Table) (most : ℕ) (steps : List Step) (rows : List Row) → AreSound steps → named steps ≡ map name_of_row rows → AllByRecursion (λ row. HeldValue table row.1) rows → Reads (visits_of table most steps) (take most rows)
unfolding visits_of named
reads-visits_of table zero steps rows sound e h = record { values = refl; refusal = refl }
reads-visits_of table (suc most) [] [] sound e h = record { values = refl; refusal = refl }
reads-visits_of table (suc most) [] (row ∷ rows) sound e h = absurd (no_name e)
  where
    no_name : {name : Named} {names : List Named} → [] ≡ name ∷ names → ⊥
    no_name e = cc
reads-visits_of table (suc most) (node digest ∷ steps) rows sound e h =
    let further = reads-visits_of table (suc most) steps rows sound.1 e h in
    record { values = further.values; refusal = further.refusal }
reads-visits_of table (suc most) (no_text digest ∷ steps) rows sound e h = absurd sound.0
reads-visits_of table (suc most) (no_node digest ∷ steps) rows sound e h = absurd sound.0
reads-visits_of table (suc most) (value path ref ∷ steps) [] sound e h = absurd (no_name e)
  where
    no_name : {name : Named} {names : List Named} → name ∷ names ≡ [] → ⊥
    no_name e = cc
reads-visits_of table (suc most) (value path ref ∷ steps) (row ∷ rows) sound e h =
    let further = reads-visits_of table most steps rows sound.1 (other_names e) h.1 in
    let after : Visits = visits_of table most steps in
    let same_path : path ≡ row.0 = ap (λ (name : Named). name.0) (first_name e) in
    let same_ref : ref ≡ value_ref row.1 = ap (λ (name : Named). name.1) (first_name e) in
    let whole : value_visit path ref (get table ref.digest) after ≡ value_first (sha256 row.1) (row.0, row.1) after =
    ap₂ (λ (p : List ℕ) (r : ValueRef). value_visit p r (get table r.digest) after) same_path same_ref ∙ value_visit-held table row.0 row.1 after h.0 in
    record {
      values = ap (λ (v : Visits). v.values) whole ∙ ap (λ (others : List Row). row ∷ others) further.values;
      refusal = ap (λ (v : Visits). v.refusal) whole ∙ further.refusal;
    }
  where
    first_name : {a b : Named} {names others : List Named} → a ∷ names ≡ b ∷ others → a ≡ b
    first_name e = cc

    other_names : {a b : Named} {names others : List Named} → a ∷ names ≡ b ∷ others → names ≡ others
    other_names e = cc

all-filter : (P : Row → Type 0) (test : Row → Bool) (rows : List Row) → AllByRecursion P rows → AllByRecursion P (filter test rows)
all-filter P test [] h = tt
all-filter P test (row ∷ rows) h =
    let further = all-filter P test rows h.1 in
    elim (test row) as (λ b. AllByRecursion P (cond b (row ∷ filter test rows) (filter test rows))) [
      | true ↦ (h.0, further)
      | false ↦ further
    ]

-- ---- of a state

-- the rows from a path on
abbrev pub rows_from : State → List ℕ → List Row
rows_from state path = filter (λ row. reaches path row.0) (rows_of state)

pub reads-state : (table : Table) (state : State) (from : List ℕ) (most : ℕ) → Holds table state → IsState state → Reads (listing_visits table (root state) from most) (take most (rows_from state (nibbles from)))
reads-state table state from most holds is =
    let rows : List Row = rows_of state in
    let path : List ℕ = nibbles from in
    let t : Tree = tree_of rows in
    let same : listing_steps (seen table (root state)) [] path ≡ listing_steps (shown t) [] path = ap (λ s. listing_steps s [] path) (state_seen table state holds is ∙ ap shown (subtree_at-root state)) in
    let names : named (listing_steps (shown t) [] path) ≡ map name_of_row (rows_from state path) =
    named-listing_steps (shown t) [] path
    ∙ beneath-nil (reaching path (named_in (shown t)))
    ∙ ap (reaching path) (named_in-shown t ∙ ap (map name_of_row) (held-tree_of rows (rising-rows_of state) (small-rows_of state is)))
    ∙ reaching-names path rows in
    subst (λ (steps : List Step). Reads (visits_of table most steps) (take most (rows_from state path))) (sym same)
    (reads-visits_of table most (listing_steps (shown t) [] path) (rows_from state path) (sound-listing_steps t [] path) names (all-filter (λ row. HeldValue table row.1) (λ row. reaches path row.0) rows (held_values table state holds)))

-- the rows of the pairs whose keys are not below one
filter-rows_of_pairs : (from : List ℕ) (pairs : List Pair) → filter (λ row. reaches (nibbles from) row.0) (rows_of_pairs pairs) ≡ rows_of_pairs (filter (λ pair. reaches from pair.0) pairs)
filter-rows_of_pairs from [] = refl
filter-rows_of_pairs from (pair ∷ pairs) =
    let kept : List Pair = filter (λ p. reaches from p.0) pairs in
    let row : Row = (nibbles pair.0, pair.1) in
    ap₂ (λ o (rows : List Row). cond (is_ge o) (row ∷ rows) rows) (slice_cmp-nibbles pair.0 from) (filter-rows_of_pairs from pairs)
    ∙ elim (reaches from pair.0) as (λ b. cond b (row ∷ rows_of_pairs kept) (rows_of_pairs kept) ≡ rows_of_pairs (cond b (pair ∷ kept) kept)) [
      | true ↦ refl
      | false ↦ refl
    ]

take-rows_of_pairs : (most : ℕ) (pairs : List Pair) → take most (rows_of_pairs pairs) ≡ rows_of_pairs (take most pairs)
take-rows_of_pairs zero pairs = refl
take-rows_of_pairs (suc most) [] = refl
take-rows_of_pairs (suc most) (pair ∷ pairs) = ap (λ (rows : List Row). (nibbles pair.0, pair.1) ∷ rows) (take-rows_of_pairs most pairs)

pub rows_from-pairs : (state : State) (from : List ℕ) (most : ℕ) → take most (rows_from state (nibbles from)) ≡ map (λ pair. (nibbles pair.0, pair.1)) (take most (filter (λ pair. reaches from pair.0) (entries state)))
unfolding rows_of
rows_from-pairs state from most = ap (take most) (filter-rows_of_pairs from (entries state)) ∙ take-rows_of_pairs most (filter (λ pair. reaches from pair.0) (entries state))
