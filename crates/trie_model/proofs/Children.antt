-- Which paths are places: the places of a trie are closed under going to a child, and each is the top of a subtree.
use Rattle.std.proofs.Common.{◌≡◌, ◌≢◌, ◌↔◌, ℕ, ◌<◌, List, [], ◌∷◌, ◌++◌, Option, IfSome, Contains, ◌⊎◌, inl, inr, refl, sym, ◌∙◌, ap, subst, append_assoc, append-nil}
use Rattle.std.specs.Prelude.{⊤}
use Rattle.std.specs.Option.{option_map_or}
use Rattle.std.proofs.lemmas.List.{append_cancel_left}
use Rattle.byte_model.specs.Node as node
use Rattle.byte_model.specs.Node.{Node}
use Rattle.trie_model.specs.State.{State, Row, rows_of}
use Rattle.trie_model.specs.Tree.{Tree, nothing, leaf, branch, extension, rest_behind, below, tree_of}
use Rattle.byte_model.proofs.Lists.{first_same, rest_same}
use Rattle.trie_model.specs.Texts.{behind, places, node_of}
use Rattle.trie_model.specs.Root.{subtree_at, places_of}
use Rattle.trie_model.specs.Laws.{ChildrenArePlaces}
use Rattle.trie_model.proofs.Members.{IsIn, in-map, in_map_from, in-joined_below, in_joined_below_from, contains_of_in, in_of_contains}
use Rattle.trie_model.proofs.Rests.{below-nil, below-append, below-some, AllHavePrefix, common_prefix-all, none_cons, rest_behind-prefix}
use Rattle.trie_model.proofs.Trees.{tree_of-nil, tree_of-one, tree_of-forks, tree_of-shares, by_cases}
use Rattle.trie_model.proofs.Costs.{subtree_at-root, IfSome-weaker}

-- ---- paths

append_same : (prefix p q : List ℕ) → prefix ++ p ≡ prefix ++ q → p ≡ q
append_same prefix p q e = append_cancel_left prefix p q e

in_behind : (prefix path : List ℕ) (paths : List (List ℕ)) → IsIn (behind prefix paths) (prefix ++ path) → IsIn paths path
in_behind prefix path paths h =
    let r = in_map_from (λ (p : List ℕ). prefix ++ p) paths (prefix ++ path) h in
    subst (IsIn paths) (append_same prefix r.0 path r.2) r.1

-- ---- a place has rows below it, and the root is a place where there is a row

pub no_place : (p : List ℕ) → ¬ IsIn (places (tree_of [])) p
unfolding places
no_place p = subst (λ t. ¬ IsIn (places t) p) (sym tree_of-nil) (λ h. h)

pub root_is_place : (rows : List Row) → rows ≢ [] → IsIn (places (tree_of rows)) []
unfolding places
root_is_place = by_cases (λ rows. rows ≢ [] → IsIn (places (tree_of rows)) []) (record {
  none = λ some. absurd (some refl);
  one = λ row some. subst (λ t. IsIn (places t) []) (sym (tree_of-one row)) (inl refl);
  forks = λ row next rows e further some. subst (λ t. IsIn (places t) []) (sym (tree_of-forks row next rows e)) (inl refl);
  shares = λ row next rows x prefix e further some. subst (λ t. IsIn (places t) []) (sym (tree_of-shares row next rows x prefix e)) (inl refl);
})

pub place_has_rows : (rows : List Row) (p : List ℕ) → IsIn (places (tree_of rows)) p → rows ≢ []
place_has_rows rows p h e = no_place p (subst (λ rs. IsIn (places (tree_of rs)) p) e h)

-- ---- places of a branch and of an extension

module _ (value : Option (List ℕ)) (kids : ℕ → Tree) where
  pub in_branch : (x : ℕ) (p : List ℕ) → x < 16 → IsIn (places (kids x)) p → IsIn (places (branch value kids)) (x ∷ p)
  unfolding places
  in_branch x p small h = inr (in-joined_below (λ i. behind (i ∷ []) (places (kids i))) 16 x (x ∷ p) small (in-map (λ (q : List ℕ). x ∷ q) (places (kids x)) p h))

  pub in_branch_from : (x : ℕ) (p : List ℕ) → IsIn (places (branch value kids)) (x ∷ p) → (x < 16) × IsIn (places (kids x)) p
  unfolding places
  in_branch_from x p (inl e) = absurd (none_cons x p e)
  in_branch_from x p (inr h) =
      let r = in_joined_below_from (λ i. behind (i ∷ []) (places (kids i))) 16 (x ∷ p) h in
      let m = in_map_from (λ (q : List ℕ). r.0 ∷ q) (places (kids r.0)) (x ∷ p) r.2 in
      let same : r.0 ≡ x = first_same m.2 in
      let there : IsIn (places (kids r.0)) p = subst (IsIn (places (kids r.0))) (rest_same m.2) m.1 in
      (subst (λ i. i < 16) same r.1, subst (λ i. IsIn (places (kids i)) p) same there)

module _ (prefix : List ℕ) (child : Tree) where
  pub in_extension : (p : List ℕ) → IsIn (places child) p → IsIn (places (extension prefix child)) (prefix ++ p)
  unfolding places
  in_extension p h = inr (in-map (λ (q : List ℕ). prefix ++ q) (places child) p h)

  pub in_extension_from : (p : List ℕ) → IsIn (places (extension prefix child)) p → ([] ≡ p) ⊎ ((q : List ℕ) × IsIn (places child) q × (prefix ++ q ≡ p))
  unfolding places
  in_extension_from p (inl e) = inl e
  in_extension_from p (inr h) = inr (in_map_from (λ (q : List ℕ). prefix ++ q) (places child) p h)

-- ---- children

-- the child places of a node at a place, among the places of some rows
abbrev Children : List Row → List ℕ → Node → Type 0
Children rows p (node.leaf path value) = ⊤
Children rows p (node.branch value kids) = (x : ℕ) → IsIn (places (tree_of rows)) (p ++ x ∷ []) ↔ ((x < 16) × (below (p ++ x ∷ []) rows ≢ []))
Children rows p (node.extension path child) = IsIn (places (tree_of rows)) (p ++ path)

abbrev ChildrenAt : List Row → List ℕ → Type 0
ChildrenAt rows p = IfSome (node_of (tree_of (below p rows))) (Children rows p)

-- a part of a trie below a prefix, whose places stand behind the prefix
record IsPart (rows : List Row) (prefix : List ℕ) : Type 0 where
  up : (p : List ℕ) → IsIn (places (tree_of (below prefix rows))) p → IsIn (places (tree_of rows)) (prefix ++ p)
  down : (p : List ℕ) → IsIn (places (tree_of rows)) (prefix ++ p) → IsIn (places (tree_of (below prefix rows))) p

part_children : (rows : List Row) (prefix : List ℕ) → IsPart rows prefix → (p : List ℕ) (node : Node) → Children (below prefix rows) p node → Children rows (prefix ++ p) node
part_children rows prefix part p (node.leaf path value) h = tt
part_children rows prefix part p (node.branch value kids) h = λ x.
    let same_path : (prefix ++ p) ++ x ∷ [] ≡ prefix ++ (p ++ x ∷ []) = append_assoc prefix p (x ∷ []) in
    let same_rows : below ((prefix ++ p) ++ x ∷ []) rows ≡ below (p ++ x ∷ []) (below prefix rows) = ap (λ q. below q rows) same_path ∙ below-append prefix (p ++ x ∷ []) rows in
    let there = h x in (
      λ i.
          let r = there.0 (part.down (p ++ x ∷ []) (subst (IsIn (places (tree_of rows))) same_path i)) in
          (r.0, λ e. r.1 (sym same_rows ∙ e)),
      λ r. subst (IsIn (places (tree_of rows))) (sym same_path) (part.up (p ++ x ∷ []) (there.1 (r.0, λ e. r.1 (same_rows ∙ e)))),
    )
part_children rows prefix part p (node.extension path child) h = subst (IsIn (places (tree_of rows))) (sym (append_assoc prefix p path)) (part.up (p ++ path) h)

part_children_at : (rows : List Row) (prefix : List ℕ) → IsPart rows prefix → (p : List ℕ) → ChildrenAt (below prefix rows) p → ChildrenAt rows (prefix ++ p)
part_children_at rows prefix part p h =
    subst (λ rs. IfSome (node_of (tree_of rs)) (Children rows (prefix ++ p))) (sym (below-append prefix p rows))
    (IfSome-weaker (node_of (tree_of (below p (below prefix rows)))) (Children (below prefix rows) p) (Children rows (prefix ++ p)) (part_children rows prefix part p) h)

branch_part : (rows : List Row) (value : Option (List ℕ)) → tree_of rows ≡ branch value (λ x. tree_of (below (x ∷ []) rows)) → (x : ℕ) → x < 16 → IsPart rows (x ∷ [])
branch_part rows value e x small = record {
  up = λ p h. subst (λ t. IsIn (places t) (x ∷ p)) (sym e) (in_branch value (λ i. tree_of (below (i ∷ []) rows)) x p small h);
  down = λ p h. (in_branch_from value (λ i. tree_of (below (i ∷ []) rows)) x p (subst (λ t. IsIn (places t) (x ∷ p)) e h)).1;
}

extension_part : (rows : List Row) (x : ℕ) (prefix : List ℕ) → tree_of rows ≡ extension (x ∷ prefix) (tree_of (below (x ∷ prefix) rows)) → IsPart rows (x ∷ prefix)
extension_part rows x prefix e = record {
  up = λ p h. subst (λ t. IsIn (places t) (x ∷ prefix ++ p)) (sym e) (in_extension (x ∷ prefix) (tree_of (below (x ∷ prefix) rows)) p h);
  down = λ p h. go p (in_extension_from (x ∷ prefix) (tree_of (below (x ∷ prefix) rows)) (x ∷ prefix ++ p) (subst (λ t. IsIn (places t) (x ∷ prefix ++ p)) e h));
}
  where
    go : (p : List ℕ) → ([] ≡ x ∷ prefix ++ p) ⊎ ((q : List ℕ) × IsIn (places (tree_of (below (x ∷ prefix) rows))) q × (x ∷ prefix ++ q ≡ x ∷ prefix ++ p)) → IsIn (places (tree_of (below (x ∷ prefix) rows))) p
    go p (inl none) = absurd (none_cons x (prefix ++ p) none)
    go p (inr r) = subst (IsIn (places (tree_of (below (x ∷ prefix) rows)))) (append_same (x ∷ prefix) r.0 p r.2) r.1

-- ---- each place's children

-- what holds at each place of a trie: at its top, and at the places of its parts wherever it holds there
abbrev AtPlaces : (List Row → List ℕ → Type 0) → List Row → Type 0
AtPlaces P rows = (p : List ℕ) → IsIn (places (tree_of rows)) p → P rows p

branch_places : (P : List Row → List ℕ → Type 0) (rows : List Row) (value : Option (List ℕ)) → tree_of rows ≡ branch value (λ x. tree_of (below (x ∷ []) rows)) → P rows [] → ((x : ℕ) (p : List ℕ) → x < 16 → P (below (x ∷ []) rows) p → P rows (x ∷ p)) → ((x : ℕ) → AtPlaces P (below (x ∷ []) rows)) → AtPlaces P rows
branch_places P rows value e top step further [] h = top
branch_places P rows value e top step further (x ∷ p) h =
    let r = in_branch_from value (λ i. tree_of (below (i ∷ []) rows)) x p (subst (λ t. IsIn (places t) (x ∷ p)) e h) in
    step x p r.0 (further x p r.1)

extension_places : (P : List Row → List ℕ → Type 0) (rows : List Row) (prefix : List ℕ) → tree_of rows ≡ extension prefix (tree_of (below prefix rows)) → P rows [] → ((p : List ℕ) → P (below prefix rows) p → P rows (prefix ++ p)) → AtPlaces P (below prefix rows) → AtPlaces P rows
extension_places P rows prefix e top step further p h =
    elim (in_extension_from prefix (tree_of (below prefix rows)) p (subst (λ t. IsIn (places t) p) e h)) [
      | inl none ↦ subst (P rows) none top
      | inr r ↦ subst (P rows) r.2 (step r.0 (further r.0 r.1))
    ]

branch_top : (rows : List Row) (value : Option (List ℕ)) → tree_of rows ≡ branch value (λ x. tree_of (below (x ∷ []) rows)) → ChildrenAt rows []
unfolding node_of
branch_top rows value e =
    subst (λ rs. IfSome (node_of (tree_of rs)) (Children rows [])) (sym (below-nil rows))
    (subst (λ t. IfSome (node_of t) (Children rows [])) (sym e) (λ x. (
      λ i.
          let r = in_branch_from value (λ j. tree_of (below (j ∷ []) rows)) x [] (subst (λ t. IsIn (places t) (x ∷ [])) e i) in
          (r.0, place_has_rows (below (x ∷ []) rows) [] r.1),
      λ r. subst (λ t. IsIn (places t) (x ∷ [])) (sym e) (in_branch value (λ j. tree_of (below (j ∷ []) rows)) x [] r.0 (root_is_place (below (x ∷ []) rows) r.1)),
    )))

extension_top : (rows : List Row) (x : ℕ) (prefix : List ℕ) → tree_of rows ≡ extension (x ∷ prefix) (tree_of (below (x ∷ prefix) rows)) → below (x ∷ prefix) rows ≢ [] → ChildrenAt rows []
unfolding node_of
extension_top rows x prefix e some =
    subst (λ rs. IfSome (node_of (tree_of rs)) (Children rows [])) (sym (below-nil rows))
    (subst (λ t. IfSome (node_of t) (Children rows [])) (sym e)
    (subst (IsIn (places (tree_of rows))) (append-nil (x ∷ prefix)) ((extension_part rows x prefix e).up [] (root_is_place (below (x ∷ prefix) rows) some))))

leaf_top : (row : Row) → ChildrenAt (row ∷ []) []
unfolding node_of
leaf_top row =
    subst (λ rs. IfSome (node_of (tree_of rs)) (Children (row ∷ []) [])) (sym (below-nil (row ∷ [])))
    (subst (λ t. IfSome (node_of t) (Children (row ∷ []) [])) (sym (tree_of-one row)) tt)

leaf_places : (P : List Row → List ℕ → Type 0) (row : Row) → P (row ∷ []) [] → AtPlaces P (row ∷ [])
unfolding places
leaf_places P row top p h = elim (let i : IsIn ([] ∷ []) p = subst (λ t. IsIn (places t) p) (tree_of-one row) h in i) [
  | inl e ↦ subst (P (row ∷ [])) e top
  | inr none ↦ absurd none
]

pub children_at : (rows : List Row) (p : List ℕ) → IsIn (places (tree_of rows)) p → ChildrenAt rows p
children_at = by_cases (AtPlaces ChildrenAt) (record {
  none = λ p h. absurd (no_place p h);
  one = λ row. leaf_places ChildrenAt row (leaf_top row);
  forks = λ row next rows e further.
      let rs : List Row = row ∷ next ∷ rows in
      let t = tree_of-forks row next rows e in
      branch_places ChildrenAt rs _ t (branch_top rs _ t) (λ x p small h. part_children_at rs (x ∷ []) (branch_part rs _ t x small) p h) further;
  shares = λ row next rows x prefix e further.
      let rs : List Row = row ∷ next ∷ rows in
      let t = tree_of-shares row next rows x prefix e in
      let all = subst (λ (f : List ℕ). AllHavePrefix f rs) e (common_prefix-all row (next ∷ rows)) in
      extension_places ChildrenAt rs (x ∷ prefix) t (extension_top rs x prefix t (below-some (x ∷ prefix) row (next ∷ rows) all.0)) (λ p h. part_children_at rs (x ∷ prefix) (extension_part rs x prefix t) p h) further;
})

pub children-places_of : (state : State) (place : List ℕ) → Contains (places_of state) place → IfSome (node_of (subtree_at state place)) (ChildrenArePlaces state place)
unfolding subtree_at
children-places_of state place h =
    let rows = rows_of state in
    let whole : places (subtree_at state []) ≡ places (tree_of rows) = ap places (subtree_at-root state) in
    let i : IsIn (places (tree_of rows)) place = subst (λ (ps : List (List ℕ)). IsIn ps place) whole (in_of_contains _ place h) in
    IfSome-weaker (node_of (tree_of (below place rows))) (Children rows place) (ChildrenArePlaces state place) (λ node c. go (sym whole) node c) (children_at rows place i)
  where
    there : places (tree_of (rows_of state)) ≡ places_of state → (p : List ℕ) → IsIn (places (tree_of (rows_of state))) p → Contains (places_of state) p
    there e p h = contains_of_in _ p (subst (λ (ps : List (List ℕ)). IsIn ps p) e h)

    back : places (tree_of (rows_of state)) ≡ places_of state → (p : List ℕ) → Contains (places_of state) p → IsIn (places (tree_of (rows_of state))) p
    back e p h = subst (λ (ps : List (List ℕ)). IsIn ps p) (sym e) (in_of_contains _ p h)

    go : places (tree_of (rows_of state)) ≡ places_of state → (node : Node) → Children (rows_of state) place node → ChildrenArePlaces state place node
    go e (node.leaf path value) c = tt
    go e (node.branch value kids) c = λ x. (λ h. (c x).0 (back e _ h), λ h. there e _ ((c x).1 h))
    go e (node.extension path child) c = there e _ c

-- ---- the subtree at a place, seen in the tree

unfoldable pub subtree_in : Tree → List ℕ → Tree
subtree_in tree [] = tree
subtree_in nothing (x ∷ p) = nothing
subtree_in (leaf path value) (x ∷ p) = nothing
subtree_in (branch value kids) (x ∷ p) = subtree_in (kids x) p
subtree_in (extension path child) (x ∷ p) = option_map_or (subtree_in child) (rest_behind path (x ∷ p)) nothing

abbrev IsSubtree : List Row → List ℕ → Type 0
IsSubtree rows p = subtree_in (tree_of rows) p ≡ tree_of (below p rows)

top_subtree : (rows : List Row) → IsSubtree rows []
unfolding subtree_in
top_subtree rows = ap tree_of (sym (below-nil rows))

pub subtree_in-place : (rows : List Row) (p : List ℕ) → IsIn (places (tree_of rows)) p → subtree_in (tree_of rows) p ≡ tree_of (below p rows)
unfolding subtree_in
subtree_in-place = by_cases (AtPlaces IsSubtree) (record {
  none = λ p h. absurd (no_place p h);
  one = λ row. leaf_places IsSubtree row (top_subtree (row ∷ []));
  forks = λ row next rows e further.
      let rs : List Row = row ∷ next ∷ rows in
      let t = tree_of-forks row next rows e in
      branch_places IsSubtree rs _ t (top_subtree rs) (λ x p small h. ap (λ tree. subtree_in tree (x ∷ p)) t ∙ h ∙ ap tree_of (sym (below-append (x ∷ []) p rs))) further;
  shares = λ row next rows x prefix e further.
      let rs : List Row = row ∷ next ∷ rows in
      let t = tree_of-shares row next rows x prefix e in
      extension_places IsSubtree rs (x ∷ prefix) t (top_subtree rs) (λ p h. ap (λ tree. subtree_in tree (x ∷ prefix ++ p)) t ∙ ap (λ o. option_map_or (subtree_in (tree_of (below (x ∷ prefix) rs))) o nothing) (rest_behind-prefix (x ∷ prefix) p) ∙ h ∙ ap tree_of (sym (below-append (x ∷ prefix) p rs))) further;
})
