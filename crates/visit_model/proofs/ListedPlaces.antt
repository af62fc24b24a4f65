-- The listing of a state goes through its places in order: those on the way to the bound, and those that are not below it.
use Rattle.std.proofs.Common.{◌≡◌, ℕ, ◌==◌, ◌||◌, nat_lt, Bool, true, false, if◌then◌else◌, List, [], ◌∷◌, ◌++◌, filter, cond, is_some, Option, None, Some, option_map, option_and_then, refl, sym, ◌∙◌, ap, ap₂, subst, append_assoc, append-nil, arith, nat_cmp, Less, Equal, Greater}
use Rattle.std.specs.List.{flat_map}
use Rattle.std.specs.Ordering.{is_ge, ordering_then}
use Rattle.std.specs.Cmp.Lexicographic.{slice_cmp}
use Rattle.std.proofs.lemmas.Bool.Decides.{nat_tests}
use Rattle.std.proofs.lemmas.List.Elements.{filter_agree}
use mathlib.Core.Path.{fun_ext}
use Rattle.byte_model.specs.Below.{joined_below}
use Rattle.byte_model.specs.Nibbles.{nibbles}
use Rattle.byte_model.specs.Node.{ValueRef}
use Rattle.trie_model.specs.State.{State, Row, IsState, rows_of}
use Rattle.trie_model.specs.Tree.{Tree, leaf, branch, extension, rest_behind, below, tree_of}
use Rattle.trie_model.specs.Texts.{value_ref, behind, places}
use Rattle.trie_model.specs.Root.{Table, Holds, root, subtree_at, places_of}
use Rattle.trie_model.specs.Laws.{held_by, held_at}
use Rattle.trie_model.proofs.Costs.{subtree_at-root}
use Rattle.byte_model.proofs.Below.{joined_below-agree}
use Rattle.trie_model.proofs.Pairs.{prefixed, held_below}
use Rattle.trie_model.proofs.Rests.{below-nil, below-append}
use Rattle.trie_model.proofs.Trees.{tree_of-nil, tree_of-one, tree_of-forks, tree_of-shares, by_cases}
use Rattle.visit_model.specs.Seen.{seen}
use Rattle.visit_model.specs.Shown.{shown}
use Rattle.visit_model.specs.Steps.{Step, value, behind as behind_prefix, bound_behind, reached_steps, listing_steps}
use Rattle.visit_model.specs.Bounds.{reaches}
use Rattle.visit_model.specs.Listed.{is_listed_place, row_steps, place_steps}
use Rattle.visit_model.proofs.Joins.{filter-joined_below, flat_map-joined_below}
use Rattle.visit_model.proofs.Lookups.{node_of_tree}
use Rattle.visit_model.proofs.Rows.{reaches_behind, reaches-prefix}
use Rattle.visit_model.proofs.ShownStates.{state_seen}

-- ---- the places that a listing goes to

-- where keys behind a place can reach the bound
abbrev is_met : List ℕ → List ℕ → Bool
is_met bound place = is_some (bound_behind place bound)

bound_behind-empty : (place : List ℕ) → bound_behind place [] ≡ Some []
unfolding bound_behind
bound_behind-empty [] = refl
bound_behind-empty (x ∷ place) = refl

bound_behind-append : (prefix place bound : List ℕ) → bound_behind (prefix ++ place) bound ≡ option_and_then (bound_behind place) (bound_behind prefix bound)
unfolding bound_behind
bound_behind-append [] place bound = refl
bound_behind-append (x ∷ prefix) place [] = sym (bound_behind-empty place)
bound_behind-append (x ∷ prefix) place (y ∷ bound) = go (x == y) (nat_lt x y) (bound_behind-append prefix place bound)
  where
    go : (b c : Bool) → bound_behind (prefix ++ place) bound ≡ option_and_then (bound_behind place) (bound_behind prefix bound) → (if b then bound_behind (prefix ++ place) bound else if c then None else Some []) ≡ option_and_then (bound_behind place) (if b then bound_behind prefix bound else if c then None else Some [])
    go true c further = further
    go false true further = refl
    go false false further = sym (bound_behind-empty place)

is_met-listed : (bound place : List ℕ) → is_met bound place ≡ is_listed_place bound place
unfolding bound_behind rest_behind
is_met-listed bound [] = refl
is_met-listed [] (x ∷ place) = refl
is_met-listed (y ∷ bound) (x ∷ place) = go (nat_lt x y) (x == y) refl refl (is_met-listed bound place)
  where
    both : nat_lt x y ≡ true → (x == y) ≡ true → ⊥
    both e f = grind (arith, nat_tests)

    go : (b c : Bool) → nat_lt x y ≡ b → (x == y) ≡ c → is_met bound place ≡ is_listed_place bound place → is_some (if c then bound_behind place bound else if b then None else Some []) ≡ (is_some (if c then rest_behind place bound else None) || is_ge (ordering_then (cond b Less (cond c Equal Greater)) (slice_cmp nat_cmp place bound)))
    go true true e f further = absurd (both e f)
    go true false e f further = refl
    go false true e f further = further
    go false false e f further = refl

-- ---- the steps at a place

-- the value of a row that reaches the bound, where all paths stand behind a prefix
abbrev from_row : List ℕ → List ℕ → Option Row → List Step
from_row before bound None = []
from_row before bound (Some row) = if reaches bound row.0 then value (before ++ row.0) (value_ref row.1) ∷ [] else []

abbrev steps_at : List Row → List ℕ → List ℕ → List ℕ → List Step
steps_at rows before bound place = node_of_tree (tree_of (below place rows)) ∷ from_row before bound (held_below rows place)

-- all steps, place by place
abbrev listed : List Row → Tree → List ℕ → List ℕ → List Step
listed rows tree before bound = flat_map (steps_at rows before bound) (filter (is_met bound) (places tree))

reached-value : (path rest : List ℕ) (ref : ValueRef) (bound : List ℕ) → reached_steps path (Some ref) (bound_behind rest bound) ≡ (if reaches bound rest then value path ref ∷ [] else [])
unfolding reached_steps
reached-value path rest ref bound =
    go (bound_behind rest bound)
    ∙ ap (λ b. if b then value path ref ∷ [] else []) (sym (reaches-prefix rest bound []) ∙ ap (reaches bound) (append-nil rest))
  where
    go : (o : Option (List ℕ)) → reached_steps path (Some ref) o ≡ (if reaches_behind o [] then value path ref ∷ [] else [])
    go None = refl
    go (Some []) = refl
    go (Some (y ∷ b)) = refl

-- the steps at the top
top_steps : (rows : List Row) (tree : Tree) (before bound : List ℕ) → tree_of rows ≡ tree → steps_at rows before bound [] ≡ node_of_tree tree ∷ from_row before bound (held_by tree)
top_steps rows tree before bound e =
    ap (λ rs. node_of_tree (tree_of rs) ∷ from_row before bound (option_map (prefixed []) (held_by (tree_of rs)))) (below-nil rows)
    ∙ ap (λ t. node_of_tree t ∷ from_row before bound (option_map (prefixed []) (held_by t))) e
    ∙ ap (λ o. node_of_tree tree ∷ from_row before bound o) (same (held_by tree))
  where
    same : (o : Option Row) → option_map (prefixed []) o ≡ o
    same None = refl
    same (Some row) = refl

-- those behind a prefix, by what is left of the bound there
steps_at-behind : (rows : List Row) (prefix before bound left place : List ℕ) → bound_behind prefix bound ≡ Some left → steps_at rows before bound (prefix ++ place) ≡ steps_at (below prefix rows) (before ++ prefix) left place
steps_at-behind rows prefix before bound left place e =
    ap (λ rs. node_of_tree (tree_of rs) ∷ from_row before bound (option_map (prefixed (prefix ++ place)) (held_by (tree_of rs)))) (below-append prefix place rows)
    ∙ ap (λ (steps : List Step). node_of_tree (tree_of (below place (below prefix rows))) ∷ steps) (go (held_by (tree_of (below place (below prefix rows)))))
  where
    go : (o : Option Row) → from_row before bound (option_map (prefixed (prefix ++ place)) o) ≡ from_row (before ++ prefix) left (option_map (prefixed place) o)
    go None = refl
    go (Some row) =
        let path : List ℕ = place ++ row.0 in
        ap (λ (p : List ℕ). if reaches bound p then value (before ++ p) (value_ref row.1) ∷ [] else []) (append_assoc prefix place row.0)
        ∙ ap₂ (λ b (p : List ℕ). if b then value p (value_ref row.1) ∷ [] else []) (reaches-prefix prefix bound path ∙ ap (λ o. reaches_behind o path) e) (sym (append_assoc before prefix path))

listed-behind : (rows : List Row) (prefix before bound : List ℕ) (paths : List (List ℕ)) → flat_map (steps_at rows before bound) (filter (is_met bound) (behind prefix paths)) ≡ behind_prefix (λ left. flat_map (steps_at (below prefix rows) (before ++ prefix) left) (filter (is_met left) paths)) (bound_behind prefix bound)
unfolding behind_prefix
listed-behind rows prefix before bound paths = go (bound_behind prefix bound) refl paths
  where
    met : (o : Option (List ℕ)) → bound_behind prefix bound ≡ o → (place : List ℕ) → is_met bound (prefix ++ place) ≡ is_some (option_and_then (bound_behind place) o)
    met o e place = ap is_some (bound_behind-append prefix place bound ∙ ap (option_and_then (bound_behind place)) e)

    none : bound_behind prefix bound ≡ None → (ps : List (List ℕ)) → filter (is_met bound) (behind prefix ps) ≡ []
    none e [] = refl
    none e (p ∷ ps) = ap₂ (λ b (others : List (List ℕ)). cond b ((prefix ++ p) ∷ others) others) (met None e p) (none e ps)

    some : (left : List ℕ) → bound_behind prefix bound ≡ Some left → (ps : List (List ℕ)) → flat_map (steps_at rows before bound) (filter (is_met bound) (behind prefix ps)) ≡ flat_map (steps_at (below prefix rows) (before ++ prefix) left) (filter (is_met left) ps)
    some left e [] = refl
    some left e (p ∷ ps) =
        let further = some left e ps in
        let others : List (List ℕ) = filter (is_met bound) (behind prefix ps) in
        ap (λ b. flat_map (steps_at rows before bound) (cond b ((prefix ++ p) ∷ others) others)) (met (Some left) e p)
        ∙ elim (is_met left p) as (λ b. flat_map (steps_at rows before bound) (cond b ((prefix ++ p) ∷ others) others) ≡ flat_map (steps_at (below prefix rows) (before ++ prefix) left) (cond b (p ∷ filter (is_met left) ps) (filter (is_met left) ps))) [
          | true ↦ ap₂ (λ (a c : List Step). a ++ c) (steps_at-behind rows prefix before bound left p e) further
          | false ↦ further
        ]

    go : (o : Option (List ℕ)) → bound_behind prefix bound ≡ o → (ps : List (List ℕ)) → flat_map (steps_at rows before bound) (filter (is_met bound) (behind prefix ps)) ≡ behind_prefix (λ left. flat_map (steps_at (below prefix rows) (before ++ prefix) left) (filter (is_met left) ps)) o
    go None e ps = ap (flat_map (steps_at rows before bound)) (none e ps)
    go (Some left) e ps = some left e ps

-- ---- of some rows

abbrev Listed : List Row → Type 0
Listed rows = (before bound : List ℕ) → listing_steps (shown (tree_of rows)) before bound ≡ listed rows (tree_of rows) before bound

-- the listing of a child behind a prefix
child_listed : (rows : List Row) (prefix : List ℕ) → Listed (below prefix rows) → (before bound : List ℕ) → behind_prefix (listing_steps (shown (tree_of (below prefix rows))) (before ++ prefix)) (bound_behind prefix bound) ≡ flat_map (steps_at rows before bound) (filter (is_met bound) (behind prefix (places (tree_of (below prefix rows)))))
unfolding behind_prefix
child_listed rows prefix further before bound =
    go (bound_behind prefix bound) ∙ sym (listed-behind rows prefix before bound (places (tree_of (below prefix rows))))
  where
    go : (o : Option (List ℕ)) → behind_prefix (listing_steps (shown (tree_of (below prefix rows))) (before ++ prefix)) o ≡ behind_prefix (λ left. listed (below prefix rows) (tree_of (below prefix rows)) (before ++ prefix) left) o
    go None = refl
    go (Some left) = further (before ++ prefix) left

listed_none : Listed []
unfolding shown listing_steps places
listed_none before bound = subst (λ t. listing_steps (shown t) before bound ≡ listed [] t before bound) (sym tree_of-nil) refl

listed_one : (row : Row) → Listed (row ∷ [])
unfolding shown listing_steps places bound_behind held_by
listed_one row before bound =
    let e = tree_of-one row in
    subst (λ t. listing_steps (shown t) before bound ≡ listed (row ∷ []) t before bound) (sym e)
    (ap (λ (steps : List Step). node_of_tree (leaf row.0 row.1) ∷ steps) (reached-value (before ++ row.0) row.0 (value_ref row.1) bound)
    ∙ sym (append-nil (steps_at (row ∷ []) before bound []) ∙ top_steps (row ∷ []) (leaf row.0 row.1) before bound e))

listed_branch : (rows : List Row) (v : Option (List ℕ)) → tree_of rows ≡ branch v (λ x. tree_of (below (x ∷ []) rows)) → ((x : ℕ) → Listed (below (x ∷ []) rows)) → Listed rows
unfolding shown listing_steps places bound_behind held_by reached_steps
listed_branch rows v e further before bound =
    let kids : ℕ → Tree = λ x. tree_of (below (x ∷ []) rows) in
    let paths : ℕ → List (List ℕ) = λ x. behind (x ∷ []) (places (kids x)) in
    subst (λ t. listing_steps (shown t) before bound ≡ listed rows t before bound) (sym e)
    (ap₂ (λ (a b : List Step). node_of_tree (branch v kids) ∷ a ++ b) (here v)
    (joined_below-agree _ (λ x. flat_map (steps_at rows before bound) (filter (is_met bound) (paths x))) 16 (λ x h. child_listed rows (x ∷ []) (further x) before bound)
    ∙ sym (flat_map-joined_below (steps_at rows before bound) (λ x. filter (is_met bound) (paths x)) 16)
    ∙ ap (flat_map (steps_at rows before bound)) (sym (filter-joined_below (is_met bound) paths 16)))
    ∙ ap (λ (steps : List Step). steps ++ flat_map (steps_at rows before bound) (filter (is_met bound) (joined_below paths 16))) (sym (top_steps rows (branch v kids) before bound e)))
  where
    here : (o : Option (List ℕ)) → reached_steps before (option_map value_ref o) (Some bound) ≡ from_row before bound (option_map (λ w. ([], w)) o)
    here None = none bound
      where
        none : (b : List ℕ) → reached_steps before None (Some b) ≡ []
        none [] = refl
        none (y ∷ b) = refl
    here (Some w) = reached-value before [] (value_ref w) bound ∙ ap (λ (p : List ℕ). if reaches bound [] then value p (value_ref w) ∷ [] else []) (sym (append-nil before))

listed_extension : (rows : List Row) (prefix : List ℕ) → tree_of rows ≡ extension prefix (tree_of (below prefix rows)) → Listed (below prefix rows) → Listed rows
unfolding shown listing_steps places bound_behind held_by
listed_extension rows prefix e further before bound =
    let child : Tree = tree_of (below prefix rows) in
    subst (λ t. listing_steps (shown t) before bound ≡ listed rows t before bound) (sym e)
    (ap (λ (steps : List Step). node_of_tree (extension prefix child) ∷ steps) (child_listed rows prefix further before bound)
    ∙ ap (λ (steps : List Step). steps ++ flat_map (steps_at rows before bound) (filter (is_met bound) (behind prefix (places child)))) (sym (top_steps rows (extension prefix child) before bound e)))

listed_rows : (rows : List Row) → Listed rows
listed_rows = by_cases Listed (record {
  none = listed_none;
  one = listed_one;
  forks = λ row next rows e further. listed_branch (row ∷ next ∷ rows) _ (tree_of-forks row next rows e) further;
  shares = λ row next rows x prefix e further. listed_extension (row ∷ next ∷ rows) (x ∷ prefix) (tree_of-shares row next rows x prefix e) further;
})

-- ---- of a state

pub listing_steps-places : (table : Table) (state : State) (from : List ℕ) → Holds table state → IsState state → listing_steps (seen table (root state)) [] (nibbles from) ≡ flat_map (place_steps state (nibbles from)) (filter (is_listed_place (nibbles from)) (places_of state))
unfolding subtree_at held_at
listing_steps-places table state from held is =
    let rows : List Row = rows_of state in
    let bound : List ℕ = nibbles from in
    let whole : subtree_at state [] ≡ tree_of rows = subtree_at-root state in
    ap (λ s. listing_steps s [] bound) (state_seen table state held is ∙ ap shown whole)
    ∙ listed_rows rows [] bound
    ∙ ap (λ (ps : List (List ℕ)). flat_map (steps_at rows [] bound) ps) (filter_agree (is_met bound) (is_listed_place bound) (is_met-listed bound) (places (tree_of rows)))
    ∙ ap (λ t. flat_map (steps_at rows [] bound) (filter (is_listed_place bound) (places t))) (sym whole)
    ∙ ap (λ (f : Option Row → List Step). flat_map (λ place. node_of_tree (tree_of (below place rows)) ∷ f (held_below rows place)) (filter (is_listed_place bound) (places_of state))) (fun_ext one)
  where
    one : (o : Option Row) → from_row [] (nibbles from) o ≡ row_steps (nibbles from) o
    one None = refl
    one (Some row) = refl
