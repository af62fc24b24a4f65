-- Texts and usages of places.
use Rattle.std.proofs.Common.{◌++◌, map, ◌≡◌, ℕ, ◌+◌, List, [], ◌∷◌, sum, sum_by, Option, None, Some, IfSome, option_map, refl, sym, ◌∙◌, ap, subst, length, add-zero}
use Rattle.std.proofs.lemmas.List.Sums.{sum_by-cons, sum-map}
use Rattle.std.specs.Prelude.{⊤}
use Rattle.sha2.specs.Sha256.{sha256}
use Rattle.byte_model.specs.Below.{sum_below, joined_below}
use Rattle.byte_model.specs.Node as node
use Rattle.byte_model.specs.Node.{Node, ValueRef, cost_of, spelled, own_cost}
use Rattle.trie_model.specs.State.{State, Row, rows_of}
use Rattle.trie_model.specs.Tree.{Tree, nothing, leaf, branch, extension, below, tree_of, ends_here}
use Rattle.trie_model.specs.Texts.{text, usage, top_cost, node_of, places, value_ref, name_of}
use Rattle.trie_model.specs.Root.{subtree_at, text_at, places_of, texts_of, total}
use Rattle.trie_model.specs.Laws.{children_usage, NamesChildren}
use Rattle.byte_model.proofs.Below.{sum_by-joined_below, sum_below-agree}
use Rattle.trie_model.proofs.Rests.{below-nil, below-append}
use Rattle.trie_model.proofs.Trees.{tree_of-nil, tree_of-one, tree_of-forks, tree_of-shares, by_cases}
use Rattle.trie_model.proofs.Places.{tree_texts, gathered, at_place, map-places}

-- ---- a state's subtrees

-- the subtree at the root place is the whole trie
pub subtree_at-root : (state : State) → subtree_at state [] ≡ tree_of (rows_of state)
unfolding subtree_at
subtree_at-root state = ap tree_of (below-nil (rows_of state))

pub subtree_at-append : (state : State) (p q : List ℕ) → subtree_at state (p ++ q) ≡ tree_of (below q (below p (rows_of state)))
unfolding subtree_at
subtree_at-append state p q = ap tree_of (below-append p q (rows_of state))

pub subtree_at-same : (m n : State) (p q : List ℕ) → below p (rows_of m) ≡ below q (rows_of n) → subtree_at m p ≡ subtree_at n q
unfolding subtree_at
subtree_at-same m n p q e = ap tree_of e

pub text_at-same : (m n : State) (p q : List ℕ) → below p (rows_of m) ≡ below q (rows_of n) → text_at m p ≡ text_at n q
text_at-same m n p q e = ap text (subtree_at-same m n p q e)

-- ---- a text spells the node of its place

pub text-node_of : (tree : Tree) → IfSome (node_of tree) (λ node. text tree ≡ spelled node (usage tree))
unfolding text node_of
text-node_of nothing = tt
text-node_of (leaf path value) = refl
text-node_of (branch value kids) = refl
text-node_of (extension path child) = refl

-- ---- usage

sum-cons : (n : ℕ) (ns : List ℕ) → sum (n ∷ ns) ≡ n + sum ns
sum-cons n ns = sum_by-cons (λ (m : ℕ). m) n ns

-- the subtree's usage is the sum of its places' own costs
pub usage-gathered : (tree : Tree) → usage tree ≡ sum (gathered top_cost tree)
unfolding usage gathered
usage-gathered nothing = refl
usage-gathered (leaf path value) = sym (sum-cons (top_cost (leaf path value)) [] ∙ add-zero (top_cost (leaf path value)))
usage-gathered (branch value kids) =
    ap (λ n. top_cost (branch value kids) + n) (sum_below-agree _ _ 16 (λ x _. usage-gathered (kids x)) ∙ sym (sum_by-joined_below (λ (n : ℕ). n) (λ x. gathered top_cost (kids x)) 16))
    ∙ sym (sum-cons (top_cost (branch value kids)) (joined_below (λ x. gathered top_cost (kids x)) 16))
usage-gathered (extension path child) = ap (λ n. top_cost (extension path child) + n) (usage-gathered child) ∙ sym (sum-cons (top_cost (extension path child)) (gathered top_cost child))

pub usage-tree_of : (rows : List Row) → usage (tree_of rows) ≡ sum_by (at_place top_cost rows) (places (tree_of rows))
usage-tree_of rows = usage-gathered (tree_of rows) ∙ ap sum (sym (map-places top_cost rows)) ∙ sum-map (at_place top_cost rows) (places (tree_of rows))

pub total-places_of : (state : State) → total state ≡ sum_by (λ place. top_cost (subtree_at state place)) (places_of state)
unfolding subtree_at
total-places_of state =
    let rows = rows_of state in
    let whole = subtree_at-root state in
    ap usage whole ∙ usage-tree_of rows ∙ ap (λ tree. sum_by (at_place top_cost rows) (places tree)) (sym whole)

-- ---- a place's usage, its own cost and its children's

-- the usages of the children of the top node of some rows
abbrev children_of : List Row → Node → ℕ
children_of rows (node.leaf path value) = 0
children_of rows (node.branch value kids) = sum_below (λ x. usage (tree_of (below (x ∷ []) rows))) 16
children_of rows (node.extension path child) = usage (tree_of (below path rows))

abbrev AddsUp : List Row → Tree → Type 0
AddsUp rows tree = IfSome (node_of tree) (λ node. usage tree ≡ own_cost node + children_of rows node)

branch_cost : (value : Option (List ℕ)) → cost_of 0 (option_map length value) ≡ cost_of 0 (option_map (λ (v : ValueRef). v.length) (option_map value_ref value))
branch_cost None = refl
branch_cost (Some value) = refl

adds_up : (rows : List Row) → AddsUp rows (tree_of rows)
unfolding usage top_cost node_of own_cost
adds_up = by_cases (λ rows. AddsUp rows (tree_of rows)) (record {
  none = subst (AddsUp []) (sym tree_of-nil) tt;
  one = λ row. subst (AddsUp (row ∷ [])) (sym (tree_of-one row)) (sym (add-zero _));
  forks = λ row next rows e further. subst (AddsUp (row ∷ next ∷ rows)) (sym (tree_of-forks row next rows e))
      (ap (λ n. n + sum_below (λ x. usage (tree_of (below (x ∷ []) (row ∷ next ∷ rows)))) 16) (branch_cost (ends_here (row ∷ next ∷ rows))));
  shares = λ row next rows x prefix e further. subst (AddsUp (row ∷ next ∷ rows)) (sym (tree_of-shares row next rows x prefix e)) refl;
})

children_usage-children_of : (state : State) (place : List ℕ) (node : Node) → children_usage state place node ≡ children_of (below place (rows_of state)) node
unfolding subtree_at
children_usage-children_of state place (node.leaf path value) = refl
children_usage-children_of state place (node.branch value kids) = sum_below-agree _ _ 16 (λ x _. ap (λ rows. usage (tree_of rows)) (below-append place (x ∷ []) (rows_of state)))
children_usage-children_of state place (node.extension path child) = ap (λ rows. usage (tree_of rows)) (below-append place path (rows_of state))

pub IfSome-weaker : {X : Type 0} (o : Option X) (P Q : X → Type 0) → ((x : X) → P x → Q x) → IfSome o P → IfSome o Q
IfSome-weaker None P Q weaker h = tt
IfSome-weaker (Some x) P Q weaker h = weaker x h

pub usage-node_of : (state : State) (place : List ℕ) → IfSome (node_of (subtree_at state place)) (λ node. usage (subtree_at state place) ≡ own_cost node + children_usage state place node)
unfolding subtree_at
usage-node_of state place =
    let rows = below place (rows_of state) in
    IfSome-weaker (node_of (tree_of rows)) (λ node. usage (tree_of rows) ≡ own_cost node + children_of rows node) (λ node. usage (tree_of rows) ≡ own_cost node + children_usage state place node)
    (λ node h. h ∙ ap (λ n. own_cost node + n) (sym (children_usage-children_of state place node))) (adds_up rows)

-- ---- a node names its children

abbrev Names : List Row → Node → Type 0
Names rows (node.leaf path value) = ⊤
Names rows (node.branch value kids) = (x : ℕ) → kids x ≡ name_of (tree_of (below (x ∷ []) rows)) (text (tree_of (below (x ∷ []) rows)))
Names rows (node.extension path child) = child ≡ sha256 (text (tree_of (below path rows)))

names : (rows : List Row) → IfSome (node_of (tree_of rows)) (Names rows)
unfolding node_of
names = by_cases (λ rows. IfSome (node_of (tree_of rows)) (Names rows)) (record {
  none = subst (λ t. IfSome (node_of t) (Names [])) (sym tree_of-nil) tt;
  one = λ row. subst (λ t. IfSome (node_of t) (Names (row ∷ []))) (sym (tree_of-one row)) tt;
  forks = λ row next rows e further. subst (λ t. IfSome (node_of t) (Names (row ∷ next ∷ rows))) (sym (tree_of-forks row next rows e)) (λ x. refl);
  shares = λ row next rows x prefix e further. subst (λ t. IfSome (node_of t) (Names (row ∷ next ∷ rows))) (sym (tree_of-shares row next rows x prefix e)) refl;
})

names_children : (state : State) (place : List ℕ) (node : Node) → Names (below place (rows_of state)) node → NamesChildren state place node
unfolding subtree_at
names_children state place (node.leaf path value) h = tt
names_children state place (node.branch value kids) h = λ x. h x ∙ ap (λ rows. name_of (tree_of rows) (text (tree_of rows))) (sym (below-append place (x ∷ []) (rows_of state)))
names_children state place (node.extension path child) h = h ∙ ap (λ rows. sha256 (text (tree_of rows))) (sym (below-append place path (rows_of state)))

pub NamesChildren-node_of : (state : State) (place : List ℕ) → IfSome (node_of (subtree_at state place)) (NamesChildren state place)
unfolding subtree_at
NamesChildren-node_of state place =
    let rows = below place (rows_of state) in
    IfSome-weaker (node_of (tree_of rows)) (Names rows) (NamesChildren state place) (names_children state place) (names rows)

-- ---- the texts by recursion

pub texts_of-tree_texts : (state : State) → texts_of state ≡ tree_texts (tree_of (rows_of state)) ++ map (λ row. row.1) (rows_of state)
unfolding texts_of subtree_at
texts_of-tree_texts state =
    let rows = rows_of state in
    ap (λ (texts : List (List ℕ)). texts ++ map (λ (row : Row). row.1) rows)
    (ap (λ tree. map (at_place text rows) (places tree)) (subtree_at-root state) ∙ map-places text rows)
