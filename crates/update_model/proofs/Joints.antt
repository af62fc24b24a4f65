-- What the children of some rows' trie join to, each its top or its name, is the top of that trie.
use Rattle.std.proofs.Common.{◌≡◌, ◌≢◌, ℕ, ◌+◌, ◌<◌, true, false, List, [], ◌∷◌, ◌++◌, length, Option, None, Some, is_some, option_map, inl, inr, refl, sym, ◌∙◌, ap, ap₂, subst, arith}
use Rattle.std.proofs.lemmas.Bool.{false_from_ne_true}
use mathlib.Core.Path.{fun_ext}
use Rattle.sha2.specs.Sha256.{sha256}
use Rattle.byte_model.specs.Below.{sum_below}
use Rattle.byte_model.specs.Node as node
use Rattle.byte_model.specs.Node.{ValueRef, cost_of, spelled}
use Rattle.byte_model.proofs.Below.{sum_below-agree, sum_below-plus}
use Rattle.byte_model.proofs.Lists.{first_same}
use Rattle.trie_model.specs.State.{Row}
use Rattle.trie_model.specs.Tree as tree
use Rattle.trie_model.specs.Tree.{Tree, rest_behind, below, ends_here, common_prefix, tree_of}
use Rattle.trie_model.specs.Texts.{text, usage, top_cost, name_of, value_ref}
use Rattle.trie_model.specs.Grown.{grown}
use Rattle.trie_model.proofs.Members.{IsIn}
use Rattle.trie_model.proofs.Rests.{HasPrefix, AllHavePrefix, common_prefix-all, none_cons}
use Rattle.trie_model.proofs.Trees.{tree_of-nil, tree_of-one, tree_of-forks}
use Rattle.trie_model.proofs.Growth.{tree_of-prefix}
use Rattle.trie_model.proofs.Order.{Before}
use Rattle.trie_model.proofs.Shapes.{name_of-some}
use Rattle.batch_model.specs.Changes.{found_at}
use Rattle.change_model.specs.Places.{is_branch}
use Rattle.change_model.specs.Visits.{branch_cost}
use Rattle.change_model.proofs.Forks.{fork-prefix}
use Rattle.change_model.proofs.Laid.{found_at-below}
use Rattle.change_model.proofs.Left.{has_rows, has_rows-found, found_of_rows, ends_here-found_at, small_found}
use Rattle.change_model.proofs.Alone.{found_all, all_found}
use Rattle.update_model.specs.Tops.{Top, empty, leaf, branch, extension, top_of, top_usage, top_digest, lowered}
use Rattle.update_model.specs.Joins.{Kid, named, known, is_there, kid_top, kid_name, kid_usage, there, branched, branch_text, branch_used, joint_by, joint}
use Rattle.update_model.proofs.FoundRows.{InOrder}
pub use Rattle.change_model.proofs.Merging.{in_numbers, no_numbers, only_number}

-- ---- the top of a trie

pub top_digest-top_of : (t : Tree) → top_digest (top_of t) ≡ name_of t (text t)
unfolding top_digest top_of name_of text usage top_cost
top_digest-top_of tree.nothing = refl
top_digest-top_of (tree.leaf path value) = refl
top_digest-top_of (tree.branch value kids) = refl
top_digest-top_of (tree.extension path child) = refl

pub top_usage-top_of : (t : Tree) → top_usage (top_of t) ≡ usage t
unfolding top_usage top_of usage top_cost
top_usage-top_of tree.nothing = refl
top_usage-top_of (tree.leaf path value) = refl
top_usage-top_of (tree.branch value kids) = refl
top_usage-top_of (tree.extension path child) = refl

pub top_of-grown : (prefix : List ℕ) (t : Tree) → top_of (grown prefix t) ≡ lowered prefix (top_of t)
unfolding top_of grown lowered
top_of-grown prefix tree.nothing = refl
top_of-grown prefix (tree.leaf path value) = refl
top_of-grown [] (tree.branch value kids) = refl
top_of-grown (x ∷ prefix) (tree.branch value kids) = refl
top_of-grown prefix (tree.extension path child) = refl

-- ---- children

-- a child of a trie: its top, or the name that its parent has for it, if it is there
abbrev pub KidOf : Tree → Kid → Type 0
KidOf t (named digest) = name_of t (text t) ≡ Some digest
KidOf t (known top) = top ≡ top_of t

-- what those use of which the name alone is known
abbrev pub named_usage : Kid → ℕ → ℕ
named_usage (named digest) used = used
named_usage (known top) used = 0

pub is_known : (top : Top) → known top ≡ known (kid_top (known top))
unfolding kid_top
is_known top = refl

pub kid_name-of : (t : Tree) (k : Kid) → KidOf t k → kid_name k ≡ name_of t (text t)
unfolding kid_name
kid_name-of t (named digest) h = sym h
kid_name-of t (known top) h = ap top_digest h ∙ top_digest-top_of t

pub kid_usage-of : (t : Tree) (k : Kid) → KidOf t k → named_usage k (usage t) + kid_usage k ≡ usage t
unfolding kid_usage
kid_usage-of t (named digest) h = omega arith
kid_usage-of t (known top) h = let e : top_usage top ≡ usage t = ap top_usage h ∙ top_usage-top_of t in omega arith

is_there-named : (k : Kid) → is_there k ≡ is_some (kid_name k)
unfolding is_there kid_name top_digest
is_there-named (named digest) = refl
is_there-named (known empty) = refl
is_there-named (known (leaf path ref)) = refl
is_there-named (known (branch digest used)) = refl
is_there-named (known (extension path child used)) = refl

named-rows : (rows : List Row) → is_some (name_of (tree_of rows) (text (tree_of rows))) ≡ has_rows rows
unfolding has_rows name_of
named-rows [] = ap (λ t. is_some (name_of t (text t))) tree_of-nil
named-rows (row ∷ rows) = name_of-some (row ∷ rows) (text (tree_of (row ∷ rows))) (some row rows)
  where
    some : (row : Row) (rows : List Row) → row ∷ rows ≢ []
    some row rows e = cc

pub is_there-of : (rows : List Row) (k : Kid) → KidOf (tree_of rows) k → is_there k ≡ has_rows rows
is_there-of rows k h = is_there-named k ∙ ap is_some (kid_name-of (tree_of rows) k h) ∙ named-rows rows

has_some : (rows : List Row) → rows ≢ [] → has_rows rows ≡ true
unfolding has_rows
has_some [] some = absurd (some refl)
has_some (row ∷ rows) some = refl

-- ---- numbers (these are in change_model/proofs/Merging.antt, not pub)

-- ---- what they join to

-- the children of some rows' trie, where those of which the name alone is known use so much together, and a lone child is known
pub record AreKids (rows : List Row) (kids : ℕ → Kid) (used : ℕ) : Type 0 where
  pub order : InOrder rows
  pub each : (x : ℕ) → KidOf (tree_of (below (x ∷ []) rows)) (kids x)
  pub sums : used ≡ sum_below (λ x. named_usage (kids x) (usage (tree_of (below (x ∷ []) rows)))) 16
  pub lone : (x : ℕ) → ends_here rows ≡ None → there kids ≡ x ∷ [] → kids x ≡ known (kid_top (kids x))

module _ (rows : List Row) (kids : ℕ → Kid) (used : ℕ) (are : AreKids rows kids used) where
  abbrev ref : Option ValueRef
  ref = option_map value_ref (ends_here rows)

  abbrev behind : ℕ → List Row
  behind x = below (x ∷ []) rows

  there-rows : (x : ℕ) → is_there (kids x) ≡ has_rows (behind x)
  there-rows x = is_there-of (behind x) (kids x) (are.each x)

  -- a path at which something is found begins with the nibble of a child that is there
  child_there : (y : ℕ) (q v : List ℕ) → found_at (y ∷ q) rows ≡ Some v → IsIn (there kids) y
  child_there y q v found =
      in_numbers (λ x. is_there (kids x)) 16 y (small_found rows y q v are.order.small found)
      (there-rows y ∙ has_rows-found (behind y) q v (found_at-below (y ∷ []) q rows ∙ found))

  none_here : (v : List ℕ) → ends_here rows ≡ None → found_at [] rows ≡ Some v → ⊥
  none_here v none found = not_found v (sym none ∙ ends_here-found_at rows ∙ found)
    where
      not_found : (v : List ℕ) → None ≡ Some v → ⊥
      not_found v e = cc

  -- all paths begin with a nibble
  join-prefix : (x : ℕ) → rows ≢ [] → AllHavePrefix (x ∷ []) rows → (joint ref kids used).top ≡ top_of (tree_of rows)
  unfolding joint
  join-prefix x some all =
      ap₂ (λ (o : Option (List ℕ)) (l : List ℕ). (joint_by (option_map value_ref o) l kids used).top) no_value only
      ∙ ap (lowered (x ∷ [])) (subst (KidOf (tree_of (behind x))) (are.lone x no_value only) (are.each x))
      ∙ sym (top_of-grown (x ∷ []) (tree_of (behind x)))
      ∙ ap top_of (sym (tree_of-prefix (x ∷ []) rows all))
    where
      no_value : ends_here rows ≡ None
      no_value = go (ends_here rows) refl
        where
          go : (o : Option (List ℕ)) → ends_here rows ≡ o → o ≡ None
          go None e = refl
          go (Some v) e = let p = found_all (HasPrefix (x ∷ [])) rows [] v all (sym (ends_here-found_at rows) ∙ e) in absurd (none_cons x p.0 p.1)

      here : has_rows (behind x) ≡ true
      here =
          let r = found_of_rows rows (has_some rows some) in
          let p = found_all (HasPrefix (x ∷ [])) rows r.0 r.1 all r.2 in
          has_rows-found (behind x) p.0 r.1 (found_at-below (x ∷ []) p.0 rows ∙ ap (λ (q : List ℕ). found_at q rows) (sym p.1) ∙ r.2)

      there_here : is_there (kids x) ≡ true
      there_here = there-rows x ∙ here

      nibble : x < 16
      nibble =
          let r = found_of_rows (behind x) here in
          small_found rows x r.0 r.1 are.order.small (sym (found_at-below (x ∷ []) r.0 rows) ∙ r.2)

      others : (y : ℕ) → y < 16 → y ≢ x → is_there (kids y) ≡ false
      others y small apart = false_from_ne_true (is_there (kids y)) (λ t.
          let r = found_of_rows (behind y) (sym (there-rows y) ∙ t) in
          let p = found_all (HasPrefix (x ∷ [])) rows (y ∷ r.0) r.1 all (sym (found_at-below (y ∷ []) r.0 rows) ∙ r.2) in
          apart (first_same p.1))

      only : there kids ≡ x ∷ []
      only = only_number (λ y. is_there (kids y)) 16 x nibble there_here others

  -- the record of a branch and its usage
  used-branch : branch_used ref kids used ≡ usage (tree.branch (ends_here rows) (λ x. tree_of (behind x)))
  unfolding usage top_cost
  used-branch =
      let cost = cost_same (ends_here rows) in
      let parts : used + sum_below (λ x. kid_usage (kids x)) 16 ≡ sum_below (λ x. usage (tree_of (behind x))) 16 =
      ap (λ n. n + sum_below (λ x. kid_usage (kids x)) 16) are.sums
      ∙ sym (sum_below-plus (λ x. named_usage (kids x) (usage (tree_of (behind x)))) (λ x. kid_usage (kids x)) 16)
      ∙ sum_below-agree _ _ 16 (λ x small. kid_usage-of (tree_of (behind x)) (kids x) (are.each x)) in
      ap₂ (λ (a b : ℕ). a + b) cost parts
    where
      cost_same : (value : Option (List ℕ)) → branch_cost (option_map value_ref value) ≡ cost_of 0 (option_map length value)
      cost_same None = refl
      cost_same (Some value) = refl

  pub text-branch : branch_text ref kids used ≡ text (tree.branch (ends_here rows) (λ x. tree_of (behind x)))
  unfolding text
  text-branch =
      let names : (λ x. kid_name (kids x)) ≡ (λ x. name_of (tree_of (behind x)) (text (tree_of (behind x)))) = fun_ext (λ x. kid_name-of (tree_of (behind x)) (kids x) (are.each x)) in
      ap₂ (λ (ks : ℕ → Option (List ℕ)) (n : ℕ). spelled (node.branch ref ks) n) names used-branch

  top-branch : (branched ref kids used).top ≡ top_of (tree.branch (ends_here rows) (λ x. tree_of (behind x)))
  unfolding top_of
  top-branch = ap₂ (λ (t : List ℕ) (n : ℕ). branch (sha256 t) n) text-branch used-branch

join-none : (kids : ℕ → Kid) (used : ℕ) → AreKids [] kids used → (joint (option_map value_ref (ends_here [])) kids used).top ≡ top_of (tree_of [])
unfolding joint ends_here top_of has_rows below
join-none kids used are =
    ap (λ (l : List ℕ). (joint_by None l kids used).top) (no_numbers (λ x. is_there (kids x)) 16 (λ x small. there-rows [] kids used are x))
    ∙ ap top_of (sym tree_of-nil)

join-here : (value : List ℕ) (kids : ℕ → Kid) (used : ℕ) → AreKids (([], value) ∷ []) kids used → (joint (option_map value_ref (ends_here (([], value) ∷ []))) kids used).top ≡ top_of (tree_of (([], value) ∷ []))
unfolding joint ends_here top_of has_rows below rest_behind
join-here value kids used are =
    ap (λ (l : List ℕ). (joint_by (Some (value_ref value)) l kids used).top) (no_numbers (λ x. is_there (kids x)) 16 (λ x small. there-rows (([], value) ∷ []) kids used are x))
    ∙ ap top_of (sym (tree_of-one ([], value)))

module _ (row next : Row) (others : List Row) (e : common_prefix row (next ∷ others) ≡ []) (kids : ℕ → Kid) (used : ℕ) (are : AreKids (row ∷ next ∷ others) kids used) where
  abbrev all_rows : List Row
  all_rows = row ∷ next ∷ others

  not_lone : (x : ℕ) → ends_here all_rows ≡ None → ((y : ℕ) → IsIn (there kids) y → y ≡ x) → ⊥
  unfolding is_branch
  not_lone x none only =
      fork-prefix x [] all_rows
      (all_found (HasPrefix (x ∷ [])) all_rows begins)
      (ap is_branch (tree_of-forks row next others e))
    where
      begins : (q v : List ℕ) → found_at q all_rows ≡ Some v → HasPrefix (x ∷ []) q
      begins [] v found = absurd (none_here all_rows kids used are v none found)
      begins (y ∷ q) v found = (q, ap (λ z. z ∷ q) (only y (child_there all_rows kids used are y q v found)))

  not_here : there kids ≡ [] → ⊥
  not_here none =
      let paths = all_found (λ p. p ≡ []) all_rows ends in
      let before : Before [] [] = subst (λ (p : List ℕ). Before p []) paths.0 (subst (Before row.0) paths.1.0 are.order.rising.0.0) in
      different before
    where
      ends : (q v : List ℕ) → found_at q all_rows ≡ Some v → q ≡ []
      ends [] v found = refl
      ends (y ∷ q) v found = absurd (subst (λ (l : List ℕ). IsIn l y) none (child_there all_rows kids used are y q v found))

      different : Before [] [] → ⊥
      different h = cc

  join-forks : (joint (option_map value_ref (ends_here all_rows)) kids used).top ≡ top_of (tree_of all_rows)
  unfolding joint
  join-forks =
      go (ends_here all_rows) refl (there kids) refl
      ∙ top-branch all_rows kids used are
      ∙ ap top_of (sym (tree_of-forks row next others e))
    where
      go : (o : Option (List ℕ)) → ends_here all_rows ≡ o → (l : List ℕ) → there kids ≡ l → (joint_by (option_map value_ref o) l kids used).top ≡ (branched (option_map value_ref o) kids used).top
      go None none [] left = absurd (not_lone 0 none (λ y h. absurd (subst (λ (l : List ℕ). IsIn l y) left h)))
      go None none (x ∷ []) one = absurd (not_lone x none (λ y h. only y (subst (λ (l : List ℕ). IsIn l y) one h)))
        where
          only : (y : ℕ) → IsIn (x ∷ []) y → y ≡ x
          only y (inl same) = sym same
          only y (inr none) = absurd none
      go None none (x ∷ y ∷ left) more = refl
      go (Some value) is [] left = absurd (not_here left)
      go (Some value) is (x ∷ left) more = refl

-- What the children join to is the top of the trie.
pub joint-rows : (rows : List Row) (kids : ℕ → Kid) (used : ℕ) → AreKids rows kids used → (joint (option_map value_ref (ends_here rows)) kids used).top ≡ top_of (tree_of rows)
joint-rows [] kids used are = join-none kids used are
joint-rows (([], value) ∷ []) kids used are = join-here value kids used are
joint-rows ((x ∷ path, value) ∷ []) kids used are = join-prefix ((x ∷ path, value) ∷ []) kids used are x (some _) ((path, refl), tt)
  where
    some : (row : Row) → row ∷ [] ≢ []
    some row e = cc
joint-rows (row ∷ next ∷ others) kids used are = go (common_prefix row (next ∷ others)) refl
  where
    begin_with : (x : ℕ) (prefix : List ℕ) (rows : List Row) → AllHavePrefix (x ∷ prefix) rows → AllHavePrefix (x ∷ []) rows
    begin_with x prefix [] all = tt
    begin_with x prefix (row ∷ rows) all = ((prefix ++ all.0.0, all.0.1), begin_with x prefix rows all.1)

    some : (row : Row) (rows : List Row) → row ∷ rows ≢ []
    some row rows e = cc

    go : (prefix : List ℕ) → common_prefix row (next ∷ others) ≡ prefix → (joint (option_map value_ref (ends_here (row ∷ next ∷ others))) kids used).top ≡ top_of (tree_of (row ∷ next ∷ others))
    go [] e = join-forks row next others e kids used are
    go (x ∷ prefix) e =
        join-prefix (row ∷ next ∷ others) kids used are x (some row (next ∷ others))
        (begin_with x prefix (row ∷ next ∷ others) (subst (λ (f : List ℕ). AllHavePrefix f (row ∷ next ∷ others)) e (common_prefix-all row (next ∷ others))))
