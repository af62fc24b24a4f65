-- The texts of the places that a batch gives up and of the former values, and those that it leaves as they are, make up a trie's texts.
use Rattle.std.proofs.Common.{◌≡◌, ◌≢◌, ℕ, ◌+◌, ◌==◌, Bool, true, false, cond, if◌then◌else◌, not, List, [], ◌∷◌, ◌++◌, sum_by, Option, None, Some, option_map, refl, sym, ◌∙◌, ap, ap₂, subst, arith, append-nil}
use Rattle.std.specs.Prelude.{◌||◌}
use Rattle.std.specs.List.{cons_option}
use Rattle.std.proofs.lemmas.Bool.{false≢true, false_from_ne_true}
use Rattle.std.proofs.lemmas.List.Sums.{sum_by-cons}
use Rattle.byte_model.proofs.Below.{sum_below-agree, sum_below-plus}
use Rattle.byte_model.proofs.Lists.{rest_same, some_items}
use Rattle.trie_model.specs.State.{Row}
use Rattle.trie_model.specs.Tree.{Tree, nothing, leaf, branch, extension, below, rest_behind, ends_here, common_prefix, tree_of}
use Rattle.trie_model.specs.Texts.{text, places, value_ref}
use Rattle.trie_model.proofs.Pairs.{Small}
use Rattle.trie_model.proofs.Members.{IsIn}
use Rattle.trie_model.proofs.Rests.{AllHavePrefix, HasPrefix, common_prefix-all, below-append, below-nil, same_nibble, equal_of_test, none_cons, prefix_and_rest, rest_behind-prefix}
use Rattle.trie_model.proofs.Trees.{tree_of-nil, tree_of-one, tree_of-forks, tree_of-shares, by_cases}
use Rattle.visit_model.specs.Shown.{shown}
use Rattle.batch_model.specs.Changes.{Change, found_at}
use Rattle.change_model.specs.Places.{leads_to, is_branch}
use Rattle.change_model.specs.Visits.{changes_behind, change_at, is_untouched, merged_child}
use Rattle.change_model.proofs.Forks.{Fork, Stands, at_root, at_fork, behind_fork, fork_unless_alone, fork-prefix}
use Rattle.change_model.proofs.Laid.{same_path, path_of_test, test_of_path, same_tests, found_at-below}
use Rattle.change_model.proofs.Left.{has_rows, ends_here-found_at, Apart}
use Rattle.change_model.proofs.Alone.{paths_of, leads_to-behind, leads_to-root, leads_to-here, alone_to, alone_from, found_all}
use Rattle.change_model.proofs.Touching.{tree_there}
use Rattle.change_model.proofs.Merging.{merged_remains, remaining_merges, IsMerged}
use Rattle.update_model.proofs.NewTrees.{fork_of_shared}
use Rattle.update_model.proofs.Weights.{by_touch, by_merge, of_value, whole, inner, staying, kept}
use Rattle.update_model.proofs.LaidBelow.{Laying, laying-below, laying-same, if_found, changes_by_nibble}
use Rattle.update_model.proofs.PlaceSums.{sum_by-none, sum_by-agree, sum_by-branch, sum_by-extension, sum_at_root, place_in, place_is_in, place_stands, place_of_stands, place_in-behind}

-- ---- what is given up

-- a place on the path of a change, or that is no place of the later rows
abbrev pub given_up : List Change → List Row → List ℕ → Bool
given_up changes later place = leads_to (paths_of changes) place || not (place_in later place)

touched : (cs : List Change) → cs ≢ [] → not (is_untouched cs) ≡ true
touched [] some = absurd (some refl)
touched (c ∷ cs) some = refl

given_up-here : (p : List ℕ) (changes : List Change) (later : List Row) → changes_behind p changes ≢ [] → given_up changes later p ≡ true
given_up-here p changes later some = ap (λ b. b || not (place_in later p)) (leads_to-here p changes ∙ touched (changes_behind p changes) some)

given_up-root : (changes : List Change) (later : List Row) → changes ≢ [] → given_up changes later [] ≡ true
given_up-root changes later some = ap (λ b. b || not (place_in later [])) (leads_to-root changes ∙ touched changes some)

given_up-behind : (p q : List ℕ) (changes : List Change) (later : List Row) → Small later → q ≢ [] → given_up changes later (p ++ q) ≡ given_up (changes_behind p changes) (below p later) q
given_up-behind p q changes later small some = ap₂ (λ (a b : Bool). a || not b) (leads_to-behind p q changes) (place_in-behind p later q small some)

-- where no change leads, by whether it is a place of the later rows
given_up-untouched : (p q : List ℕ) (changes : List Change) (later : List Row) → changes_behind p changes ≡ [] → given_up changes later (p ++ q) ≡ not (place_in later (p ++ q))
unfolding leads_to
given_up-untouched p q changes later none = ap (λ b. b || not (place_in later (p ++ q))) (leads_to-behind p q changes ∙ ap (λ (cs : List Change). leads_to (paths_of cs) q) none)

-- a place further down, where no change stands, stays
stays_below : (p q : List ℕ) (rows : List Row) (changes : List Change) (later : List Row) → Laying rows changes later → changes_behind p changes ≡ [] → IsIn (places (tree_of (below p rows))) q → q ≢ [] → given_up changes later (p ++ q) ≡ false
stays_below p q rows changes later h none i some =
    given_up-untouched p q changes later none
    ∙ ap not (place_in-behind p later q h.after.small some ∙ ap (λ (rs : List Row). place_in rs q) (laying-same p rows changes later h none) ∙ place_is_in (below p rows) q i)

-- ---- the child that is merged

module _ (row next : Row) (others : List Row) (e : common_prefix row (next ∷ others) ≡ []) (changes : List Change) (later : List Row) (laying : Laying (row ∷ next ∷ others) changes later) where
  abbrev fork_rows : List Row
  fork_rows = row ∷ next ∷ others

  abbrev merge : Option ℕ
  merge = merged_child (option_map value_ref (ends_here fork_rows)) (λ x. shown (tree_of (below (x ∷ []) fork_rows))) changes

  -- it stays a place where it is a branch
  merged_given_up : (x : ℕ) → merge ≡ Some x → given_up changes later (x ∷ []) ≡ not (is_branch (tree_of (below (x ∷ []) fork_rows)))
  merged_given_up x is =
      given_up-untouched (x ∷ []) [] changes later m.untouched
      ∙ ap not (same_tests (place_in later (x ∷ [])) (is_branch (tree_of (below (x ∷ []) fork_rows))) (λ t. from (place_stands later (x ∷ []) t)) (λ t. place_of_stands later (x ∷ []) laying.after.small (at_fork (subst Fork (sym same) t))))
    where
      m : IsMerged row next others e changes later laying.apart laying.laid laying.after.small x
      m = merged_remains row next others e changes later laying.apart laying.laid laying.after.small x is

      same : below (x ∷ []) later ≡ below (x ∷ []) fork_rows
      same = laying-same (x ∷ []) fork_rows changes later laying m.untouched

      all : AllHavePrefix (x ∷ []) later
      all = subst (AllHavePrefix (x ∷ [])) (below-nil later) (alone_to fork_rows changes later [] x m.remains).all

      from : Stands later (x ∷ []) → is_branch (tree_of (below (x ∷ []) fork_rows)) ≡ true
      from (at_root path there) = absurd (none_cons x [] (sym path))
      from (at_fork f) = subst Fork same f
      from (behind_fork [] y path f there) = absurd (fork-prefix x [] later all (subst Fork (below-nil later) f))
      from (behind_fork (z ∷ q) y path f there) = absurd (tail q y (rest_same path))
        where
          tail : (q : List ℕ) (y : ℕ) → [] ≡ q ++ y ∷ [] → ⊥
          tail [] y e = cc
          tail (z ∷ q) y e = cc

  -- and any other child without a change stays a place
  other_stays : (x : ℕ) → (merge ≡ Some x → ⊥) → changes_behind (x ∷ []) changes ≡ [] → has_rows (below (x ∷ []) fork_rows) ≡ true → given_up changes later (x ∷ []) ≡ false
  unfolding has_rows is_branch
  other_stays x apart none some =
      given_up-untouched (x ∷ []) [] changes later none
      ∙ ap not (place_of_stands later (x ∷ []) laying.after.small (behind_fork [] x refl (subst Fork (sym (below-nil later)) fork) there))
    where
      not_empty : (rs : List Row) → has_rows rs ≡ true → rs ≢ []
      not_empty [] t k = absurd (false≢true t)
      not_empty (r ∷ rs) t k = cc

      there : below (x ∷ []) later ≢ []
      there = subst (λ (rs : List Row). rs ≢ []) (sym (laying-same (x ∷ []) fork_rows changes later laying none)) (not_empty (below (x ∷ []) fork_rows) some)

      fork : Fork later
      fork = fork_unless_alone x later there (λ all.
          apart (remaining_merges row next others e changes later laying.apart laying.laid laying.after.small x some
          (alone_from fork_rows changes later [] x (record {
            fork = subst Fork (sym (below-nil fork_rows)) (ap is_branch (tree_of-forks row next others e));
            untouched = leads_to-here (x ∷ []) changes ∙ ap (λ (cs : List Change). not (is_untouched cs)) none;
            all = subst (AllHavePrefix (x ∷ [])) (sym (below-nil later)) all;
          }))))

-- ---- weighed

module _ (f : List ℕ → ℕ) where
  -- what the place weighs, if it is given up
  abbrev pub given : List Row → List Change → List Row → List ℕ → ℕ
  given rows changes later q = cond (given_up changes later q) (f (text (tree_of (below q rows)))) 0

  -- the values that the changed paths had
  abbrev pub former : List Row → List Change → ℕ
  former rows changes = sum_by (λ (c : Change). of_value f (found_at c.0 rows)) changes

  abbrev Taken : List Row → Type 0
  Taken rows = (changes : List Change) (later : List Row) → changes ≢ [] → Laying rows changes later
      → kept f (tree_of rows) changes + (sum_by (given rows changes later) (places (tree_of rows)) + former rows changes) ≡ whole f (tree_of rows)

  given-root : (rows : List Row) (changes : List Change) (later : List Row) → changes ≢ [] → given rows changes later [] ≡ f (text (tree_of rows))
  given-root rows changes later some = ap₂ (λ (b : Bool) (rs : List Row). cond b (f (text (tree_of rs))) 0) (given_up-root changes later some) (below-nil rows)

  given-behind : (p q : List ℕ) (rows : List Row) (changes : List Change) (later : List Row) → Small later → changes_behind p changes ≢ [] → given rows changes later (p ++ q) ≡ given (below p rows) (changes_behind p changes) (below p later) q
  given-behind p [] rows changes later small some =
      ap₂ (λ (b : Bool) (rs : List Row). cond b (f (text (tree_of rs))) 0)
      (ap (given_up changes later) (append-nil p) ∙ given_up-here p changes later some ∙ sym (given_up-root (changes_behind p changes) (below p later) some))
      (below-append p [] rows)
  given-behind p (x ∷ q) rows changes later small some =
      ap₂ (λ (b : Bool) (rs : List Row). cond b (f (text (tree_of rs))) 0) (given_up-behind p (x ∷ q) changes later small (some_items x q)) (below-append p (x ∷ q) rows)

  given-stays : (p q : List ℕ) (rows : List Row) (changes : List Change) (later : List Row) → given_up changes later (p ++ q) ≡ false → given rows changes later (p ++ q) ≡ 0
  given-stays p q rows changes later e = ap (λ b. cond b (f (text (tree_of (below (p ++ q) rows)))) 0) e

  -- ---- no row, and one

  taken_none : Taken []
  unfolding places kept whole found_at
  taken_none changes later some h =
      subst (λ t. kept f t changes + (sum_by (given [] changes later) (places t) + former [] changes) ≡ whole f t) (sym tree_of-nil)
      (let none = sum_by-none (λ (c : Change). of_value f (found_at c.0 [])) changes (λ c i. refl) in omega arith)

  not_same : (p q : List ℕ) → same_path p q ≡ false → same_path q p ≡ false
  not_same p q e = false_from_ne_true (same_path q p) (λ t. false≢true (sym e ∙ test_of_path p q (sym (path_of_test q p t))))

  former_one : (path value : List ℕ) (changes : List Change) → Apart changes → former ((path, value) ∷ []) changes ≡ if_found (change_at path changes) (f value)
  unfolding found_at Apart
  former_one path value [] apart = refl
  former_one path value (c ∷ cs) apart =
      sum_by-cons (λ (c : Change). of_value f (found_at c.0 ((path, value) ∷ []))) c cs
      ∙ ap (λ n. of_value f (found_at c.0 ((path, value) ∷ [])) + n) (former_one path value cs apart.1)
      ∙ go (same_path c.0 path) refl
    where
      go : (b : Bool) → same_path c.0 path ≡ b → of_value f (found_at c.0 ((path, value) ∷ [])) + if_found (change_at path cs) (f value) ≡ if_found (if same_path c.0 path then Some c.1 else change_at path cs) (f value)
      go true t =
          let same : c.0 ≡ path = path_of_test c.0 path t in
          let here : of_value f (found_at c.0 ((path, value) ∷ [])) ≡ f value = ap (λ b. of_value f (if b then Some value else None)) (test_of_path path c.0 (sym same)) in
          let none : if_found (change_at path cs) (f value) ≡ 0 = ap (λ (o : Option (Option (List ℕ))). if_found o (f value)) (ap (λ (p : List ℕ). found_at p cs) (sym same) ∙ apart.0) in
          let all : if_found (if same_path c.0 path then Some c.1 else change_at path cs) (f value) ≡ f value = ap (λ b. if_found (if b then Some c.1 else change_at path cs) (f value)) t in
          omega arith
      go false t =
          let here : of_value f (found_at c.0 ((path, value) ∷ [])) ≡ 0 = ap (λ b. of_value f (if b then Some value else None)) (not_same c.0 path t) in
          let all : if_found (if same_path c.0 path then Some c.1 else change_at path cs) (f value) ≡ if_found (change_at path cs) (f value) = ap (λ b. if_found (if b then Some c.1 else change_at path cs) (f value)) t in
          omega arith

  staying_or_found : (value : Option (List ℕ)) (o : Option (Option (List ℕ))) → staying f value o + if_found o (of_value f value) ≡ of_value f value
  staying_or_found value None = let n : ℕ = of_value f value in omega arith
  staying_or_found value (Some c) = let n : ℕ = of_value f value in omega arith

  taken_one : (row : Row) → Taken (row ∷ [])
  unfolding places kept whole
  taken_one row changes later some h =
      let t = tree_of-one row in
      let root = given-root (row ∷ []) changes later some ∙ ap (λ tree. f (text tree)) t in
      let value = former_one row.0 row.1 changes h.apart in
      let here = staying_or_found (Some row.1) (change_at row.0 changes) in
      let one = sum_by-cons (given (row ∷ []) changes later) [] [] in
      subst (λ tree. kept f tree changes + (sum_by (given (row ∷ []) changes later) (places tree) + former (row ∷ []) changes) ≡ whole f tree) (sym t)
      (omega arith)

  -- ---- rows that fork

  former-below : (p : List ℕ) (rows : List Row) (cs : List Change) → sum_by (λ (c : Change). of_value f (found_at (p ++ c.0) rows)) cs ≡ former (below p rows) cs
  former-below p rows cs = sum_by-agree _ _ cs (λ c. ap (of_value f) (sym (found_at-below p c.0 rows)))

  -- what a child is without, when it is merged
  inner_and_record : (rows : List Row) → inner f (tree_of rows) + cond (has_rows rows) (cond (not (is_branch (tree_of rows))) (f (text (tree_of rows))) 0) 0 ≡ whole f (tree_of rows)
  unfolding inner whole is_branch has_rows
  inner_and_record [] = subst (λ t. inner f t + 0 ≡ whole f t) (sym tree_of-nil) refl
  inner_and_record (row ∷ rows) = go (tree_of (row ∷ rows)) (tree_there (λ _. true) (row ∷ rows) refl)
    where
      go : (t : Tree) → t ≢ nothing → inner f t + cond (not (is_branch t)) (f (text t)) 0 ≡ whole f t
      go nothing there = absurd (there refl)
      go (leaf path value) there = let n : ℕ = f (text (leaf path value)) in let m : ℕ = f value in omega arith
      go (branch value kids) there = let n : ℕ = whole f (branch value kids) in omega arith
      go (extension path child) there = let n : ℕ = f (text (extension path child)) in let m : ℕ = whole f child in omega arith

  no_rows_weigh : (rows : List Row) → has_rows rows ≡ false → whole f (tree_of rows) ≡ 0
  unfolding has_rows whole
  no_rows_weigh [] e = ap (whole f) tree_of-nil
  no_rows_weigh (row ∷ rows) e = cc

  module _ (row next : Row) (others : List Row) (e : common_prefix row (next ∷ others) ≡ []) (further : (x : ℕ) → Taken (below (x ∷ []) (row ∷ next ∷ others))) (changes : List Change) (later : List Row) (some : changes ≢ []) (laying : Laying (row ∷ next ∷ others) changes later) where
    abbrev rs : List Row
    rs = row ∷ next ∷ others

    abbrev kid : ℕ → Tree
    kid x = tree_of (below (x ∷ []) rs)

    abbrev cs_at : ℕ → List Change
    cs_at x = changes_behind (x ∷ []) changes

    abbrev merged : Option ℕ
    merged = merge row next others e changes later laying

    abbrev kept_at : ℕ → ℕ
    kept_at x = by_touch (cs_at x) (by_merge merged x (inner f (kid x)) (whole f (kid x))) (kept f (kid x) (cs_at x))

    abbrev given_at : ℕ → ℕ
    given_at x = sum_by (λ q. given rs changes later (x ∷ q)) (places (kid x))

    abbrev former_at : ℕ → ℕ
    former_at x = former (below (x ∷ []) rs) (cs_at x)

    untouched_kid : (x : ℕ) → cs_at x ≡ [] → by_merge merged x (inner f (kid x)) (whole f (kid x)) + given_at x ≡ whole f (kid x)
    untouched_kid x none = ap (λ n. by_merge merged x (inner f (kid x)) (whole f (kid x)) + n) root ∙ by merged refl
      where
        root : given_at x ≡ cond (has_rows (below (x ∷ []) rs)) (given rs changes later (x ∷ [])) 0
        root = sum_at_root (λ q. given rs changes later (x ∷ q)) (below (x ∷ []) rs) (λ q i there. given-stays (x ∷ []) q rs changes later (stays_below (x ∷ []) q rs changes later laying none i there))

        other : (merged ≡ Some x → ⊥) → whole f (kid x) + cond (has_rows (below (x ∷ []) rs)) (given rs changes later (x ∷ [])) 0 ≡ whole f (kid x)
        other apart = elim (has_rows (below (x ∷ []) rs)) as (λ b. has_rows (below (x ∷ []) rs) ≡ b → whole f (kid x) + cond b (given rs changes later (x ∷ [])) 0 ≡ whole f (kid x)) [
          | true ↦ λ t. let zero = given-stays (x ∷ []) [] rs changes later (other_stays row next others e changes later laying x apart none t) in omega arith
          | false ↦ λ t. let n : ℕ = whole f (kid x) in omega arith
        ] refl

        this : merged ≡ Some x → inner f (kid x) + cond (has_rows (below (x ∷ []) rs)) (given rs changes later (x ∷ [])) 0 ≡ whole f (kid x)
        this is =
            ap (λ b. inner f (kid x) + cond (has_rows (below (x ∷ []) rs)) (cond b (f (text (kid x))) 0) 0) (merged_given_up row next others e changes later laying x is)
            ∙ inner_and_record (below (x ∷ []) rs)

        by : (m : Option ℕ) → merged ≡ m → by_merge m x (inner f (kid x)) (whole f (kid x)) + cond (has_rows (below (x ∷ []) rs)) (given rs changes later (x ∷ [])) 0 ≡ whole f (kid x)
        by None is = other (λ k. none_some x (sym is ∙ k))
          where
            none_some : (x : ℕ) → None ≡ Some x → ⊥
            none_some x k = cc
        by (Some y) is = elim (x == y) as (λ b. (x == y) ≡ b → (if b then inner f (kid x) else whole f (kid x)) + cond (has_rows (below (x ∷ []) rs)) (given rs changes later (x ∷ [])) 0 ≡ whole f (kid x)) [
          | true ↦ λ t. this (is ∙ ap (λ (z : ℕ). Some z) (sym (equal_of_test x y t)))
          | false ↦ λ t. other (λ k. false≢true (sym t ∙ differs (some_same y x (sym is ∙ k))))
        ] refl
          where
            some_same : (y x : ℕ) → Some y ≡ Some x → y ≡ x
            some_same y x k = cc

            differs : y ≡ x → (x == y) ≡ true
            differs k = subst (λ z. (x == z) ≡ true) (sym k) (same_nibble x)

    kid_taken : (x : ℕ) → kept_at x + (given_at x + former_at x) ≡ whole f (kid x)
    kid_taken x = go (cs_at x) refl
      where
        go : (cs : List Change) → cs_at x ≡ cs → by_touch cs (by_merge merged x (inner f (kid x)) (whole f (kid x))) (kept f (kid x) cs) + (given_at x + former (below (x ∷ []) rs) cs) ≡ whole f (kid x)
        go [] none = let h = untouched_kid x none in omega arith
        go (c ∷ cs) is =
            let there : cs_at x ≢ [] = subst (λ (l : List Change). l ≢ []) (sym is) (some_items c cs) in
            let same = sum_by-agree (λ q. given rs changes later (x ∷ q)) (given (below (x ∷ []) rs) (cs_at x) (below (x ∷ []) later)) (places (kid x)) (λ q. given-behind (x ∷ []) q rs changes later laying.after.small there) in
            ap (λ n. kept f (kid x) (c ∷ cs) + (n + former (below (x ∷ []) rs) (c ∷ cs))) same
            ∙ subst (λ (l : List Change). kept f (kid x) l + (sum_by (given (below (x ∷ []) rs) (cs_at x) (below (x ∷ []) later)) (places (kid x)) + former (below (x ∷ []) rs) l) ≡ whole f (kid x)) is
            (further x (cs_at x) (below (x ∷ []) later) there (laying-below (x ∷ []) rs changes later laying))

    fork_taken : kept f (tree_of rs) changes + (sum_by (given rs changes later) (places (tree_of rs)) + former rs changes) ≡ whole f (tree_of rs)
    unfolding kept whole
    fork_taken =
        let t = tree_of-forks row next others e in
        let root = given-root rs changes later some ∙ ap (λ tree. f (text tree)) t in
        let sums = sum_by-branch (given rs changes later) (ends_here rs) kid in
        let split = changes_by_nibble (λ q. of_value f (found_at q rs)) changes laying.apart laying.nibbles in
        let formers = sum_below-agree (λ x. sum_by (λ (c : Change). of_value f (found_at (x ∷ c.0) rs)) (cs_at x)) former_at 16 (λ x k. former-below (x ∷ []) rs (cs_at x)) in
        let value : if_found (change_at [] changes) (of_value f (found_at [] rs)) ≡ if_found (change_at [] changes) (of_value f (ends_here rs)) = ap (λ (o : Option (List ℕ)). if_found (change_at [] changes) (of_value f o)) (sym (ends_here-found_at rs)) in
        let here = staying_or_found (ends_here rs) (change_at [] changes) in
        let each = sum_below-agree (λ x. kept_at x + (given_at x + former_at x)) (λ x. whole f (kid x)) 16 (λ x k. kid_taken x) in
        let first = sum_below-plus kept_at (λ x. given_at x + former_at x) 16 in
        let second = sum_below-plus given_at former_at 16 in
        subst (λ tree. kept f tree changes + (sum_by (given rs changes later) (places tree) + former rs changes) ≡ whole f tree) (sym t)
        (omega arith)

  -- ---- rows that share a prefix

  former_behind : (p : List ℕ) (rows : List Row) → AllHavePrefix p rows → (cs : List Change) → former rows cs ≡ former (below p rows) (changes_behind p cs)
  unfolding changes_behind
  former_behind p rows all [] = refl
  former_behind p rows all (c ∷ cs) =
      sum_by-cons (λ (c : Change). of_value f (found_at c.0 rows)) c cs
      ∙ ap (λ n. of_value f (found_at c.0 rows) + n) (former_behind p rows all cs)
      ∙ go (rest_behind p c.0) refl
    where
      none_some : (q : List ℕ) → None ≡ Some q → ⊥
      none_some q e = cc

      nothing_there : rest_behind p c.0 ≡ None → (o : Option (List ℕ)) → found_at c.0 rows ≡ o → of_value f o ≡ 0
      nothing_there none None is = refl
      nothing_there none (Some v) is =
          let has = found_all (HasPrefix p) rows c.0 v all is in
          absurd (none_some has.0 (sym none ∙ ap (rest_behind p) has.1 ∙ rest_behind-prefix p has.0))

      go : (r : Option (List ℕ)) → rest_behind p c.0 ≡ r → of_value f (found_at c.0 rows) + former (below p rows) (changes_behind p cs) ≡ former (below p rows) (cons_option (option_map (λ rest. (rest, c.1)) r) (changes_behind p cs))
      go None none = let zero = nothing_there none (found_at c.0 rows) refl in omega arith
      go (Some rest) is =
          ap (λ (o : Option (List ℕ)). of_value f o + former (below p rows) (changes_behind p cs)) (ap (λ (q : List ℕ). found_at q rows) (prefix_and_rest p c.0 rest is) ∙ sym (found_at-below p rest rows))
          ∙ sym (sum_by-cons (λ (c : Change). of_value f (found_at c.0 (below p rows))) (rest, c.1) (changes_behind p cs))

  taken_shares : (row next : Row) (others : List Row) (x : ℕ) (prefix : List ℕ) → common_prefix row (next ∷ others) ≡ x ∷ prefix → Taken (below (x ∷ prefix) (row ∷ next ∷ others)) → Taken (row ∷ next ∷ others)
  unfolding kept whole
  taken_shares row next others x prefix e further changes later some laying =
      let t = tree_of-shares row next others x prefix e in
      let root = given-root rows changes later some ∙ ap (λ tree. f (text tree)) t in
      let sums = sum_by-extension (given rows changes later) path child in
      let formers = former_behind path rows all changes in
      subst (λ tree. kept f tree changes + (sum_by (given rows changes later) (places tree) + former rows changes) ≡ whole f tree) (sym t)
      (let h = go (changes_behind path changes) refl in omega arith)
    where
      rows : List Row
      rows = row ∷ next ∷ others

      path : List ℕ
      path = x ∷ prefix

      child : Tree
      child = tree_of (below path rows)

      all : AllHavePrefix path rows
      all = subst (λ (p : List ℕ). AllHavePrefix p rows) e (common_prefix-all row (next ∷ others))

      stays : changes_behind path changes ≡ [] → (q : List ℕ) → IsIn (places child) q → given rows changes later (path ++ q) ≡ 0
      stays none [] i =
          let fork = fork_of_shared path row next others e all in
          given-stays path [] rows changes later (given_up-untouched path [] changes later none
          ∙ ap not (place_of_stands later (path ++ []) laying.after.small (at_fork (subst Fork (sym (ap (λ (p : List ℕ). below p later) (append-nil path) ∙ laying-same path rows changes later laying none)) fork))))
      stays none (y ∷ q) i = given-stays path (y ∷ q) rows changes later (stays_below path (y ∷ q) rows changes later laying none i (some_items y q))

      go : (cs : List Change) → changes_behind path changes ≡ cs → by_touch cs (whole f child) (kept f child cs) + (sum_by (λ q. given rows changes later (path ++ q)) (places child) + former (below path rows) cs) ≡ whole f child
      go [] none = let zero = sum_by-none (λ q. given rows changes later (path ++ q)) (places child) (stays none) in omega arith
      go (c ∷ cs) is =
          let there : changes_behind path changes ≢ [] = subst (λ (l : List Change). l ≢ []) (sym is) (some_items c cs) in
          let same = sum_by-agree (λ q. given rows changes later (path ++ q)) (given (below path rows) (changes_behind path changes) (below path later)) (places child) (λ q. given-behind path q rows changes later laying.after.small there) in
          ap (λ n. kept f child (c ∷ cs) + (n + former (below path rows) (c ∷ cs))) same
          ∙ subst (λ (l : List Change). kept f child l + (sum_by (given (below path rows) (changes_behind path changes) (below path later)) (places child) + former (below path rows) l) ≡ whole f child) is
          (further (changes_behind path changes) (below path later) there (laying-below path rows changes later laying))

  pub taken : (rows : List Row) → Taken rows
  taken = by_cases Taken (record { none = taken_none; one = taken_one; forks = λ row next others e further changes later some laying. fork_taken row next others e further changes later some laying; shares = taken_shares })
