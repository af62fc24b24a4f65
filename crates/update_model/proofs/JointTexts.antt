-- What children join to, weighed: the records that are made, with what stands in the children, are all that stands in the trie but the record of its top.
use Rattle.std.proofs.Common.{◌≡◌, ℕ, ◌+◌, ◌<◌, Bool, true, false, List, [], ◌∷◌, sum_by, Option, None, Some, option_map, inl, inr, refl, sym, ◌∙◌, ap, ap₂, subst, arith}
use Rattle.std.proofs.lemmas.Bool.{false≢true}
use Rattle.std.proofs.lemmas.List.Sums.{sum_by-cons, sum_by-append}
use Rattle.byte_model.specs.Below.{sum_below, joined_below}
use Rattle.byte_model.specs.Node.{ValueRef}
use Rattle.byte_model.proofs.Below.{sum_below-agree, sum_by-joined_below, sum_below-plus, sum_below-none, sum_below-single}
use Rattle.trie_model.specs.State.{Row}
use Rattle.trie_model.specs.Tree as tree
use Rattle.trie_model.specs.Tree.{Tree, below, ends_here, common_prefix, tree_of}
use Rattle.trie_model.specs.Texts.{value_ref}
use Rattle.trie_model.proofs.Members.{IsIn}
use Rattle.trie_model.proofs.Rests.{HasPrefix, AllHavePrefix}
use Rattle.trie_model.proofs.Trees.{tree_of-nil, tree_of-one, tree_of-forks, tree_of-shares}
use Rattle.trie_model.proofs.Growth.{tree_of-prefix}
use Rattle.batch_model.specs.Changes.{found_at}
use Rattle.change_model.specs.Places.{is_branch}
use Rattle.change_model.proofs.Forks.{Fork}
use Rattle.change_model.proofs.Laid.{found_at-below}
use Rattle.change_model.proofs.Left.{has_rows, has_rows-found, ends_here-found_at, small_found}
use Rattle.change_model.proofs.Alone.{all_found}
use Rattle.update_model.specs.Tops.{empty, leaf, branch, top_of, pending}
use Rattle.update_model.specs.Joins.{Kid, named, known, is_there, kid_pending, there, branched, branch_text, joint_by, joint}
use Rattle.update_model.proofs.JointsAlike.{number_from}
use Rattle.update_model.proofs.Joints.{KidOf, AreKids, is_there-of, in_numbers, joint-rows, text-branch}
use Rattle.update_model.proofs.Weights.{of_value, whole, inner, inner_and_pending, inner-grown}

-- ---- tries by their tops

-- the trie of rows that fork
pub fork_tree : (rows : List Row) → Fork rows → tree_of rows ≡ tree.branch (ends_here rows) (λ x. tree_of (below (x ∷ []) rows))
unfolding is_branch
fork_tree [] fork = absurd (false≢true (sym (ap is_branch tree_of-nil) ∙ fork))
fork_tree (row ∷ []) fork = absurd (false≢true (sym (ap is_branch (tree_of-one row)) ∙ fork))
fork_tree (row ∷ next ∷ others) fork = go (common_prefix row (next ∷ others)) refl
  where
    go : (prefix : List ℕ) → common_prefix row (next ∷ others) ≡ prefix → tree_of (row ∷ next ∷ others) ≡ tree.branch (ends_here (row ∷ next ∷ others)) (λ x. tree_of (below (x ∷ []) (row ∷ next ∷ others)))
    go [] e = tree_of-forks row next others e
    go (x ∷ prefix) e = absurd (false≢true (sym (ap is_branch (tree_of-shares row next others x prefix e)) ∙ fork))

fork_of_top : (t : Tree) (digest : List ℕ) (used : ℕ) → top_of t ≡ branch digest used → is_branch t ≡ true
unfolding top_of is_branch
fork_of_top tree.nothing digest used e = cc
fork_of_top (tree.leaf path value) digest used e = cc
fork_of_top (tree.branch value kids) digest used e = refl
fork_of_top (tree.extension path child) digest used e = cc

no_fork_of_leaf : (t : Tree) (path : List ℕ) (ref : ValueRef) → top_of t ≡ leaf path ref → (value : List ℕ) × (t ≡ tree.leaf path value)
unfolding top_of
no_fork_of_leaf tree.nothing path ref e = cc
no_fork_of_leaf (tree.leaf p value) path ref e = (value, (let same : p ≡ path = cc in ap (λ (q : List ℕ). tree.leaf q value) same))
no_fork_of_leaf (tree.branch value kids) path ref e = cc
no_fork_of_leaf (tree.extension p child) path ref e = cc

nothing_of_empty : (t : Tree) → top_of t ≡ empty → t ≡ tree.nothing
unfolding top_of
nothing_of_empty tree.nothing e = refl
nothing_of_empty (tree.leaf path value) e = cc
nothing_of_empty (tree.branch value kids) e = cc
nothing_of_empty (tree.extension path child) e = cc

-- the rows of a leaf
leaf_rows : (rows : List Row) (path value : List ℕ) → tree_of rows ≡ tree.leaf path value → rows ≡ (path, value) ∷ []
leaf_rows [] path value e = absurd (apart (sym tree_of-nil ∙ e))
  where
    apart : tree.nothing ≡ tree.leaf path value → ⊥
    apart e = cc
leaf_rows (row ∷ []) path value e = alike (sym (tree_of-one row) ∙ e)
  where
    alike : tree.leaf row.0 row.1 ≡ tree.leaf path value → row ∷ [] ≡ (path, value) ∷ []
    alike e =
        let p : row.0 ≡ path = cc in
        let v : row.1 ≡ value = cc in
        ap₂ (λ (q w : List ℕ). (q, w) ∷ []) p v
leaf_rows (row ∷ next ∷ others) path value e = go (common_prefix row (next ∷ others)) refl
  where
    not_branch : (v : Option (List ℕ)) (kids : ℕ → Tree) → tree.branch v kids ≡ tree.leaf path value → ⊥
    not_branch v kids e = cc

    not_extension : (p : List ℕ) (child : Tree) → tree.extension p child ≡ tree.leaf path value → ⊥
    not_extension p child e = cc

    go : (prefix : List ℕ) → common_prefix row (next ∷ others) ≡ prefix → row ∷ next ∷ others ≡ (path, value) ∷ []
    go [] shared = absurd (not_branch _ _ (sym (tree_of-forks row next others shared) ∙ e))
    go (x ∷ prefix) shared = absurd (not_extension _ _ (sym (tree_of-shares row next others x prefix shared) ∙ e))

ends_at : (value : List ℕ) (rows : List Row) → rows ≡ ([], value) ∷ [] → ends_here rows ≡ Some value
unfolding ends_here
ends_at value rows e = ap ends_here e

no_rows : (rows : List Row) → has_rows rows ≡ false → rows ≡ []
unfolding has_rows
no_rows [] e = refl
no_rows (row ∷ rows) e = cc

-- ---- weighed

module _ (f : List ℕ → ℕ) where
  -- what stands in a child: all but the record that is made with its parent's
  abbrev pub kid_inner : Kid → Tree → ℕ
  kid_inner (named digest) t = whole f t
  kid_inner (known top) t = inner f t

  kid_whole : (k : Kid) (t : Tree) → KidOf t k → kid_inner k t + sum_by f (kid_pending k) ≡ whole f t
  unfolding kid_pending
  kid_whole (named digest) t h = let n : ℕ = whole f t in omega arith
  kid_whole (known top) t h = ap (λ p. inner f t + sum_by f (pending p)) h ∙ inner_and_pending f t

  kid_none : (k : Kid) (t : Tree) → t ≡ tree.nothing → kid_inner k t ≡ 0
  unfolding whole inner
  kid_none (named digest) t e = ap (whole f) e
  kid_none (known top) t e = ap (inner f) e

  module _ (rows : List Row) (kids : ℕ → Kid) (used : ℕ) (are : AreKids rows kids used) where
    abbrev kid : ℕ → Tree
    kid x = tree_of (below (x ∷ []) rows)

    abbrev inners : ℕ
    inners = sum_below (λ x. kid_inner (kids x) (kid x)) 16

    there_rows : (x : ℕ) → is_there (kids x) ≡ has_rows (below (x ∷ []) rows)
    there_rows x = is_there-of (below (x ∷ []) rows) (kids x) (are.each x)

    absent : (x : ℕ) → x < 16 → (IsIn (there kids) x → ⊥) → kid_inner (kids x) (kid x) ≡ 0
    absent x small out = go (is_there (kids x)) refl
      where
        go : (b : Bool) → is_there (kids x) ≡ b → kid_inner (kids x) (kid x) ≡ 0
        go true t = absurd (out (in_numbers (λ y. is_there (kids y)) 16 x small t))
        go false t = kid_none (kids x) (kid x) (ap tree_of (no_rows (below (x ∷ []) rows) (sym (there_rows x) ∙ t)) ∙ tree_of-nil)

    -- where the record of a branch is made
    branched-weighs : Fork rows → sum_by f (branched (option_map value_ref (ends_here rows)) kids used).made + (of_value f (ends_here rows) + inners) ≡ inner f (tree_of rows)
    unfolding inner whole
    branched-weighs fork =
        let t = fork_tree rows fork in
        let here = ap f (text-branch rows kids used are) in
        let last = sum_by-cons f (branch_text (option_map value_ref (ends_here rows)) kids used) [] in
        let made = sum_by-append f (joined_below (λ x. kid_pending (kids x)) 16) (branch_text (option_map value_ref (ends_here rows)) kids used ∷ []) in
        let joined = sum_by-joined_below f (λ x. kid_pending (kids x)) 16 in
        let parts = sum_below-plus (λ x. kid_inner (kids x) (kid x)) (λ x. sum_by f (kid_pending (kids x))) 16 in
        let each = sum_below-agree (λ x. kid_inner (kids x) (kid x) + sum_by f (kid_pending (kids x))) (λ x. whole f (kid x)) 16 (λ x small. kid_whole (kids x) (kid x) (are.each x)) in
        subst (λ tree. sum_by f (branched (option_map value_ref (ends_here rows)) kids used).made + (of_value f (ends_here rows) + inners) ≡ inner f tree) (sym t)
        (omega arith)

    -- where nothing joins
    alone-weighs : (x : ℕ) → ends_here rows ≡ None → there kids ≡ x ∷ [] → inners ≡ inner f (tree_of rows)
    alone-weighs x none one =
        sum_below-single (λ y. kid_inner (kids y) (kid y)) 16 x small (λ y k apart. absent y k (λ i. apart (only y i)))
        ∙ ap (λ k. kid_inner k (kid x)) (are.lone x none one)
        ∙ sym (inner-grown f (x ∷ []) (kid x))
        ∙ ap (inner f) (sym (tree_of-prefix (x ∷ []) rows all))
      where
        only : (y : ℕ) → IsIn (there kids) y → y ≡ x
        only y i = go (subst (λ (l : List ℕ). IsIn l y) one i)
          where
            go : IsIn (x ∷ []) y → y ≡ x
            go (inl same) = sym same
            go (inr out) = absurd out

        small : x < 16
        small = (number_from (λ y. is_there (kids y)) 16 x (subst (λ (l : List ℕ). IsIn l x) (sym one) (inl refl))).0

        begins : (q v : List ℕ) → found_at q rows ≡ Some v → HasPrefix (x ∷ []) q
        begins [] v found = absurd (none_some v (sym none ∙ ends_here-found_at rows ∙ found))
          where
            none_some : (v : List ℕ) → None ≡ Some v → ⊥
            none_some v e = cc
        begins (y ∷ q) v found =
            let tiny = small_found rows y q v are.order.small found in
            let here = there_rows y ∙ has_rows-found (below (y ∷ []) rows) q v (found_at-below (y ∷ []) q rows ∙ found) in
            (q, ap (λ z. z ∷ q) (only y (in_numbers (λ z. is_there (kids z)) 16 y tiny here)))

        all : AllHavePrefix (x ∷ []) rows
        all = all_found (HasPrefix (x ∷ [])) rows begins

    none-weighs : there kids ≡ [] → inners ≡ 0
    none-weighs none = sum_below-none (λ x. kid_inner (kids x) (kid x)) 16 (λ x small. absent x small (λ i. subst (λ (l : List ℕ). IsIn l x) none i))

    pub joint-weighs : sum_by f (joint (option_map value_ref (ends_here rows)) kids used).made + (of_value f (ends_here rows) + inners) ≡ inner f (tree_of rows)
    unfolding joint inner
    joint-weighs = go (ends_here rows) refl (there kids) refl (joint-rows rows kids used are)
      where
        forked : (branched (option_map value_ref (ends_here rows)) kids used).top ≡ top_of (tree_of rows) → sum_by f (branched (option_map value_ref (ends_here rows)) kids used).made + (of_value f (ends_here rows) + inners) ≡ inner f (tree_of rows)
        forked top = branched-weighs (fork_of_top (tree_of rows) _ _ (sym top))

        branch_at : (o : Option (List ℕ)) → ends_here rows ≡ o → (branched (option_map value_ref o) kids used).top ≡ top_of (tree_of rows) → sum_by f (branched (option_map value_ref o) kids used).made + (of_value f o + inners) ≡ inner f (tree_of rows)
        branch_at o is = subst (λ (o : Option (List ℕ)). (branched (option_map value_ref o) kids used).top ≡ top_of (tree_of rows) → sum_by f (branched (option_map value_ref o) kids used).made + (of_value f o + inners) ≡ inner f (tree_of rows)) is forked

        some_same : (v w : List ℕ) → Some v ≡ Some w → v ≡ w
        some_same v w e = cc

        go : (o : Option (List ℕ)) → ends_here rows ≡ o → (l : List ℕ) → there kids ≡ l → (joint_by (option_map value_ref o) l kids used).top ≡ top_of (tree_of rows)
            → sum_by f (joint_by (option_map value_ref o) l kids used).made + (of_value f o + inners) ≡ inner f (tree_of rows)
        go None is [] left top =
            let zero = none-weighs left in
            let nowhere : inner f (tree_of rows) ≡ 0 = ap (inner f) (nothing_of_empty (tree_of rows) (sym top)) in
            omega arith
        go None is (x ∷ []) left top = let h = alone-weighs x is left in omega arith
        go None is (x ∷ y ∷ l) left top = branch_at None is top
        go (Some v) is [] left top =
            let zero = none-weighs left in
            let t = no_fork_of_leaf (tree_of rows) [] (value_ref v) (sym top) in
            let same : t.0 ≡ v = some_same t.0 v (sym (ends_at t.0 rows (leaf_rows rows [] t.0 t.1)) ∙ is) in
            let here : inner f (tree_of rows) ≡ f v = ap (inner f) t.1 ∙ ap f same in
            omega arith
        go (Some v) is (x ∷ l) left top = branch_at (Some v) is top
