-- What a batch makes of a trie, with what it leaves as it is, is all that stands in the new trie but the record of its top.
use Rattle.std.proofs.Common.{◌≡◌, ◌≢◌, ℕ, ◌+◌, ◌-◌, ◌==◌, true, false, if◌then◌else◌, List, [], ◌∷◌, sum_by, Option, None, Some, option_map, refl, sym, ◌∙◌, ap, subst, arith}
use Rattle.byte_model.specs.Node.{ValueRef}
use Rattle.byte_model.proofs.Below.{sum_below-agree, sum_below-plus}
use Rattle.byte_model.proofs.Lists.{some_items}
use Rattle.trie_model.specs.State.{Row}
use Rattle.trie_model.specs.Tree as tree
use Rattle.trie_model.specs.Tree.{Tree, below, ends_here, common_prefix, tree_of}
use Rattle.trie_model.specs.Texts.{usage, value_ref}
use Rattle.trie_model.proofs.Rests.{AllHavePrefix, common_prefix-all, under-below}
use Rattle.trie_model.proofs.Trees.{tree_of-nil, tree_of-one, tree_of-forks, tree_of-shares, by_cases}
use Rattle.visit_model.specs.Seen.{Seen}
use Rattle.visit_model.specs.Shown.{shown}
use Rattle.batch_model.specs.Changes.{Change}
use Rattle.change_model.specs.Along.{digest_of}
use Rattle.change_model.specs.Visits.{changes_behind, change_at, merged_child}
use Rattle.update_model.specs.Tops.{Top, top_of}
use Rattle.update_model.specs.Joins.{Kid, known, joint}
use Rattle.update_model.specs.Updates.{Outcome, no_branch, ref_after, laid, kid_kept, kid_after, kid_outcome, top_seen, merged_kids, merged_lost, parts, kids_after, updated}
use Rattle.update_model.proofs.FoundRows.{in_order-below}
use Rattle.update_model.proofs.Joints.{AreKids}
use Rattle.update_model.proofs.Layable.{no_row, one_row, before_branch}
use Rattle.update_model.proofs.LaidTrees.{ref_after-rows}
use Rattle.update_model.proofs.NewTrees.{fork_of_shared, top_seen-rows, are-kids, updated-rows}
use Rattle.update_model.proofs.Weights.{by_touch, by_merge, whole, inner, kept}
use Rattle.update_model.proofs.LaidBelow.{Laying, laying-below, laying-same}
use Rattle.update_model.proofs.JointTexts.{kid_inner, joint-weighs}
use Rattle.update_model.proofs.LaidTexts.{made, node-made, value_made-rows, laid-made}

module _ (f : List ℕ → ℕ) where
  abbrev MadeAll : List Row → Type 0
  MadeAll rows = (changes : List Change) (later : List Row) → changes ≢ [] → Laying rows changes later → made f (updated (shown (tree_of rows)) changes) + kept f (tree_of rows) changes ≡ inner f (tree_of later)

  made_none : MadeAll []
  unfolding updated shown top_of
  made_none changes later some laying =
      ap (λ n. n + kept f (tree_of []) changes)
      (ap (λ t. made f (updated (shown t) changes)) tree_of-nil ∙ ap (λ (t : Top). made f (laid no_branch t changes)) (sym (ap top_of tree_of-nil)))
      ∙ laid-made f no_branch [] changes later (no_row refl) some laying

  made_one : (row : Row) → MadeAll (row ∷ [])
  unfolding updated shown top_of
  made_one row changes later some laying =
      ap (λ n. n + kept f (tree_of (row ∷ [])) changes)
      (ap (λ t. made f (updated (shown t) changes)) (tree_of-one row) ∙ ap (λ (t : Top). made f (laid no_branch t changes)) (sym (ap top_of (tree_of-one row))))
      ∙ laid-made f no_branch (row ∷ []) changes later (one_row row refl) some laying

  made_shares : (row next : Row) (others : List Row) (x : ℕ) (prefix : List ℕ) → common_prefix row (next ∷ others) ≡ x ∷ prefix → MadeAll (below (x ∷ prefix) (row ∷ next ∷ others)) → MadeAll (row ∷ next ∷ others)
  unfolding updated shown top_seen
  made_shares row next others x prefix e further changes later some laying =
      ap (λ n. n + kept f (tree_of rows) changes)
      (ap (λ t. made f (updated (shown t) changes)) t ∙ ap (λ (t : Top). made f (laid child t changes)) (ap (λ t. top_seen (shown t)) (sym t) ∙ top_seen-rows rows))
      ∙ laid-made f child rows changes later
      (before_branch path within (sym (under-below path rows all)) (fork_of_shared path row next others e all) (
        (λ cs l there apart over order. updated-rows within cs l there apart over (in_order-below path rows laying.before) order),
        further,
      )) some laying
    where
      rows : List Row
      rows = row ∷ next ∷ others

      path : List ℕ
      path = x ∷ prefix

      within : List Row
      within = below path rows

      t : tree_of rows ≡ tree.extension path (tree_of within)
      t = tree_of-shares row next others x prefix e

      all : AllHavePrefix path rows
      all = subst (λ (p : List ℕ). AllHavePrefix p rows) e (common_prefix-all row (next ∷ others))

      child : List Change → Outcome
      child cs = updated (shown (tree_of within)) cs

  kid_kept-inner : (t : Tree) → kid_inner f (kid_kept (digest_of (shown t))) t ≡ whole f t
  unfolding digest_of shown inner whole
  kid_kept-inner tree.nothing = refl
  kid_kept-inner (tree.leaf path value) = refl
  kid_kept-inner (tree.branch value kids) = refl
  kid_kept-inner (tree.extension path child) = refl

  module _ (row next : Row) (others : List Row) (e : common_prefix row (next ∷ others) ≡ []) (further : (x : ℕ) → MadeAll (below (x ∷ []) (row ∷ next ∷ others))) (changes : List Change) (later : List Row) (some : changes ≢ []) (laying : Laying (row ∷ next ∷ others) changes later) where
    abbrev rows : List Row
    rows = row ∷ next ∷ others

    abbrev ref : Option ValueRef
    ref = option_map value_ref (ends_here rows)

    abbrev kids : ℕ → Tree
    kids x = tree_of (below (x ∷ []) rows)

    abbrev children : ℕ → Seen
    children x = shown (kids x)

    abbrev cs : ℕ → List Change
    cs x = changes_behind (x ∷ []) changes

    abbrev outcomes : ℕ → Outcome
    outcomes x = updated (children x) (cs x)

    abbrev merged : Option ℕ
    merged = merged_child ref children changes

    abbrev new_tree : ℕ → Tree
    new_tree x = tree_of (below (x ∷ []) later)

    abbrev kids_touched : ℕ → Kid
    kids_touched x = kid_after (children x) (cs x) (outcomes x)

    abbrev left : ℕ
    left = usage (tree.branch (ends_here rows) kids) - parts ref children changes

    abbrev kept_at : ℕ → ℕ
    kept_at x = by_touch (cs x) (by_merge merged x (inner f (kids x)) (whole f (kids x))) (kept f (kids x) (cs x))

    -- what is made below a child, and kept, stands in the new child
    kid-made : (x : ℕ) → made f (kid_outcome (cs x) (outcomes x)) + kept_at x ≡ kid_inner f (kids_after ref children changes outcomes x) (new_tree x)
    kid-made x = by merged
      where
        stays : cs x ≡ [] → new_tree x ≡ kids x
        stays none = ap tree_of (laying-same (x ∷ []) rows changes later laying none)

        touched : (c : Change) (l : List Change) → cs x ≡ c ∷ l → made f (outcomes x) + kept f (kids x) (c ∷ l) ≡ inner f (new_tree x)
        touched c l is =
            ap (λ (l : List Change). made f (outcomes x) + kept f (kids x) l) (sym is)
            ∙ further x (cs x) (below (x ∷ []) later) (subst (λ (l : List Change). l ≢ []) (sym is) (some_items c l)) (laying-below (x ∷ []) rows changes later laying)

        plain : (l : List Change) → cs x ≡ l → made f (kid_outcome l (outcomes x)) + by_touch l (whole f (kids x)) (kept f (kids x) l) ≡ kid_inner f (kid_after (children x) l (outcomes x)) (new_tree x)
        plain [] none =
            let here : whole f (kids x) ≡ kid_inner f (kid_kept (digest_of (children x))) (new_tree x) = sym (kid_kept-inner (kids x)) ∙ ap (kid_inner f (kid_kept (digest_of (children x)))) (sym (stays none)) in
            omega arith
        plain (c ∷ l) is = touched c l is

        this : (l : List Change) → cs x ≡ l → made f (kid_outcome l (outcomes x)) + by_touch l (inner f (kids x)) (kept f (kids x) l) ≡ inner f (new_tree x)
        this [] none = let here = ap (inner f) (stays none) in omega arith
        this (c ∷ l) is = touched c l is

        by : (m : Option ℕ) → made f (kid_outcome (cs x) (outcomes x)) + by_touch (cs x) (by_merge m x (inner f (kids x)) (whole f (kids x))) (kept f (kids x) (cs x)) ≡ kid_inner f (merged_kids m children kids_touched x) (new_tree x)
        by None = plain (cs x) refl
        by (Some y) = elim (x == y) as (λ b. made f (kid_outcome (cs x) (outcomes x)) + by_touch (cs x) (if b then inner f (kids x) else whole f (kids x)) (kept f (kids x) (cs x)) ≡ kid_inner f (if b then known (top_seen (children x)) else kids_touched x) (new_tree x)) [
          | true ↦ this (cs x) refl
          | false ↦ plain (cs x) refl
        ]

    abbrev new_kids : ℕ → Kid
    new_kids = kids_after ref children changes outcomes

    are : AreKids later new_kids left
    are = are-kids row next others e (λ x. updated-rows (below (x ∷ []) rows)) changes later some laying.apart laying.laid laying.before laying.after

    made_forks : made f (updated (shown (tree_of rows)) changes) + kept f (tree_of rows) changes ≡ inner f (tree_of later)
    unfolding updated shown kept
    made_forks =
        let t = tree_of-forks row next others e in
        let outcome = ap (λ t. made f (updated (shown t) changes)) t in
        let node = node-made f ref (change_at [] changes) (λ x. kid_outcome (cs x) (outcomes x)) (joint (ref_after ref (change_at [] changes)) new_kids left) (merged_lost merged children) in
        let joint_is = ap (λ (r : Option ValueRef). sum_by f (joint r new_kids left).made) (ref_after-rows rows changes later laying.laid) in
        let weighs = joint-weighs f later new_kids left are in
        let value = value_made-rows f rows changes later laying.laid in
        let kept_is = ap (λ t. kept f t changes) t in
        let parts = sum_below-plus (λ x. made f (kid_outcome (cs x) (outcomes x))) kept_at 16 in
        let all = sum_below-agree (λ x. made f (kid_outcome (cs x) (outcomes x)) + kept_at x) (λ x. kid_inner f (new_kids x) (new_tree x)) 16 (λ x small. kid-made x) in
        omega arith

  pub updated-made : (rows : List Row) → MadeAll rows
  updated-made = by_cases MadeAll (record { none = made_none; one = made_one; forks = λ row next others e further changes later some laying. made_forks row next others e further changes later some laying; shares = made_shares })
