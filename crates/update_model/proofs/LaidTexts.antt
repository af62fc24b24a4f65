-- Changes laid over nothing, a leaf, or an extension before a branch make all texts that they don't leave as they are, but the record of the top.
use Rattle.std.proofs.Common.{◌≡◌, ◌≢◌, ℕ, ◌+◌, ◌<◌, ◌==◌, true, false, if◌then◌else◌, List, [], ◌∷◌, ◌++◌, sum_by, Option, None, Some, option_map, refl, sym, ◌∙◌, ap, ap₂, subst, arith}
use Rattle.std.specs.List.{cons_option}
use Rattle.std.proofs.lemmas.Bool.Decides.{nat_tests}
use Rattle.std.proofs.lemmas.Bool.{false≢true}
use Rattle.std.proofs.lemmas.List.Sums.{sum_by-cons, sum_by-append}
use Rattle.byte_model.specs.Below.{sum_below, joined_below}
use Rattle.byte_model.specs.Nibbles.{AreNibbles}
use Rattle.byte_model.specs.Node.{ValueRef}
use Rattle.byte_model.proofs.Below.{sum_below-agree, sum_by-joined_below, sum_below-zero, sum_below-plus, sum_below-none, sum_below-single}
use Rattle.trie_model.specs.State.{Row}
use Rattle.trie_model.specs.Tree as tree
use Rattle.trie_model.specs.Tree.{Tree, rest_behind, below, ends_here, tree_of}
use Rattle.trie_model.specs.Texts.{value_ref}
use Rattle.trie_model.specs.Grown.{under, grown}
use Rattle.trie_model.proofs.Rests.{below-none, same_nibble}
use Rattle.trie_model.proofs.Trees.{tree_of-nil, tree_of-one}
use Rattle.trie_model.proofs.Pairs.{Small}
use Rattle.trie_model.proofs.Growth.{tree_of-under, under-nil}
use Rattle.batch_model.specs.Changes.{Change, found_at, decided}
use Rattle.change_model.specs.Places.{is_branch}
use Rattle.change_model.specs.Visits.{changes_behind, change_at}
use Rattle.change_model.proofs.Forks.{Fork, fork-nil}
use Rattle.change_model.proofs.Laid.{IsLaid, found_at-changes_behind}
use Rattle.change_model.proofs.Left.{ends_here-found_at}
use Rattle.update_model.specs.Tops.{Top, empty, leaf, branch, extension, top_of, lowered, top_behind, ref_here}
use Rattle.update_model.specs.Joins.{Kid, known, Joint, joint}
use Rattle.update_model.specs.Updates.{Outcome, value_made, ref_after, node_outcome, behind_outcome, parted, laid}
use Rattle.update_model.proofs.LaidSteps.{laid-step, Steps, by_steps, changes_behind-nil, changes_behind-append}
use Rattle.update_model.proofs.Joints.{AreKids, is_known, top_of-grown}
use Rattle.update_model.proofs.Layable.{Layable, no_row, one_row, before_branch, Behind, behind_none, behind_one, behind_path, fork-top, ends_here-under, below-under_same, below-under_apart}
use Rattle.update_model.proofs.LaidTrees.{Right, ref_after-rows, laid-rows}
use Rattle.update_model.proofs.Weights.{by_touch, of_value, whole, inner, staying, kept, kept_if}
use Rattle.update_model.proofs.LaidBelow.{Laying, laying-below, laying-same}
use Rattle.update_model.proofs.JointTexts.{joint-weighs}

module _ (f : List ℕ → ℕ) where
  abbrev pub made : Outcome → ℕ
  made outcome = sum_by f outcome.made

  -- ---- nodes

  pub node-made : (former : Option ValueRef) (change : Option (Option (List ℕ))) (behind : ℕ → Outcome) (all : Joint) (further : List (List ℕ)) → made (node_outcome former change behind all further) ≡ sum_by f (value_made change) + sum_below (λ x. made (behind x)) 16 + sum_by f all.made
  node-made former change behind all further =
      let a = sum_by-append f (value_made change ++ joined_below (λ x. (behind x).made) 16) all.made in
      let b = sum_by-append f (value_made change) (joined_below (λ x. (behind x).made) 16) in
      let c = sum_by-joined_below f (λ x. (behind x).made) 16 in
      omega arith

  value-made : (value : Option (List ℕ)) (change : Option (Option (List ℕ))) → sum_by f (value_made change) + staying f value change ≡ of_value f (decided change value)
  value-made value None = let n : ℕ = of_value f value in omega arith
  value-made value (Some None) = refl
  value-made value (Some (Some v)) = let h = sum_by-cons f v [] in omega arith

  -- the value that ends here, and that which the change makes
  pub value_made-rows : (rows : List Row) (changes : List Change) (later : List Row) → IsLaid rows changes later → sum_by f (value_made (change_at [] changes)) + staying f (ends_here rows) (change_at [] changes) ≡ of_value f (ends_here later)
  value_made-rows rows changes later laid =
      value-made (ends_here rows) (change_at [] changes)
      ∙ ap (of_value f) (ap (decided (found_at [] changes)) (ends_here-found_at rows) ∙ sym (laid.at []) ∙ sym (ends_here-found_at later))

  -- ---- what is kept, by the first nibbles

  -- of rows that don't fork
  abbrev KeptBehind : List Row → Type 0
  KeptBehind rows = (changes : List Change) → kept f (tree_of rows) changes ≡ staying f (ends_here rows) (change_at [] changes) + sum_below (λ x. kept_if f (tree_of (below (x ∷ []) rows)) (changes_behind (x ∷ []) changes)) 16

  kept_if-none : (t : Tree) (changes : List Change) → t ≡ tree.nothing → kept_if f t changes ≡ 0
  unfolding inner kept
  kept_if-none t [] e = ap (inner f) e
  kept_if-none t (c ∷ cs) e = ap (λ t. kept f t (c ∷ cs)) e

  kept_if-leaf : (path value : List ℕ) (changes : List Change) → kept_if f (tree.leaf path value) changes ≡ staying f (Some value) (change_at path changes)
  unfolding inner kept found_at
  kept_if-leaf path value [] = refl
  kept_if-leaf path value (c ∷ cs) = refl

  -- a branch with a path before it
  kept_if-grown : (path : List ℕ) (t : Tree) (changes : List Change) → is_branch t ≡ true → kept_if f (grown path t) changes ≡ by_touch (changes_behind path changes) (whole f t) (kept f t (changes_behind path changes))
  unfolding is_branch inner kept grown changes_behind
  kept_if-grown path tree.nothing changes fork = absurd (false≢true fork)
  kept_if-grown path (tree.leaf p value) changes fork = absurd (false≢true fork)
  kept_if-grown path (tree.extension p child) changes fork = absurd (false≢true fork)
  kept_if-grown [] (tree.branch value kids) changes fork = ap (λ (cs : List Change). by_touch cs (whole f (tree.branch value kids)) (kept f (tree.branch value kids) cs)) (sym (changes_behind-nil changes))
  kept_if-grown (y ∷ path) (tree.branch value kids) [] fork = refl
  kept_if-grown (y ∷ path) (tree.branch value kids) (c ∷ cs) fork = refl

  no_value : (o : Option (Option (List ℕ))) → staying f None o ≡ 0
  no_value None = refl
  no_value (Some c) = refl

  kept-none : KeptBehind []
  unfolding kept ends_here
  kept-none changes =
      let zero = sum_below-none (λ x. kept_if f (tree_of (below (x ∷ []) [])) (changes_behind (x ∷ []) changes)) 16 (λ x small. kept_if-none (tree_of (below (x ∷ []) [])) (changes_behind (x ∷ []) changes) (ap tree_of (below-none (x ∷ [])) ∙ tree_of-nil)) in
      let here = ap (λ t. kept f t changes) tree_of-nil in
      let value = no_value (change_at [] changes) in
      omega arith

  kept-one : (path value : List ℕ) → AreNibbles path → KeptBehind ((path, value) ∷ [])
  unfolding kept ends_here below rest_behind
  kept-one [] value small changes =
      let zero = sum_below-none (λ x. kept_if f (tree_of []) (changes_behind (x ∷ []) changes)) 16 (λ x k. kept_if-none (tree_of []) (changes_behind (x ∷ []) changes) tree_of-nil) in
      let here = ap (λ t. kept f t changes) (tree_of-one ([], value)) in
      omega arith
  kept-one (y ∷ path) value small changes =
      let single = sum_below-single each 16 y small.0 (λ x k apart. other x apart) in
      let at_y : each y ≡ kept_if f (tree_of ((path, value) ∷ [])) (changes_behind (y ∷ []) changes) = ap (λ b. kept_if f (tree_of (cons_option (option_map (λ (rest : List ℕ). (rest, value)) (if b then Some path else None)) [])) (changes_behind (y ∷ []) changes)) (same_nibble y) in
      let leaf_there = ap (λ t. kept_if f t (changes_behind (y ∷ []) changes)) (tree_of-one (path, value)) ∙ kept_if-leaf path value (changes_behind (y ∷ []) changes) ∙ ap (staying f (Some value)) (found_at-changes_behind (y ∷ []) path changes) in
      let here = ap (λ t. kept f t changes) (tree_of-one (y ∷ path, value)) in
      let none = no_value (change_at [] changes) in
      omega arith
    where
      each : ℕ → ℕ
      each x = kept_if f (tree_of (cons_option (option_map (λ (rest : List ℕ). (rest, value)) (if x == y then Some path else None)) [])) (changes_behind (x ∷ []) changes)

      other : (x : ℕ) → x ≢ y → each x ≡ 0
      other x apart =
          let test : (x == y) ≡ false = grind (arith, nat_tests) in
          ap (λ b. kept_if f (tree_of (cons_option (option_map (λ (rest : List ℕ). (rest, value)) (if b then Some path else None)) [])) (changes_behind (x ∷ []) changes)) test
          ∙ kept_if-none (tree_of []) (changes_behind (x ∷ []) changes) tree_of-nil

  extension_of : (y : ℕ) (path : List ℕ) (t : Tree) → is_branch t ≡ true → grown (y ∷ path) t ≡ tree.extension (y ∷ path) t
  unfolding grown is_branch
  extension_of y path tree.nothing fork = absurd (false≢true fork)
  extension_of y path (tree.leaf p value) fork = absurd (false≢true fork)
  extension_of y path (tree.branch value kids) fork = refl
  extension_of y path (tree.extension p child) fork = absurd (false≢true fork)

  kept-path : (y : ℕ) (path : List ℕ) (rows : List Row) → y < 16 → Fork rows → KeptBehind (under (y ∷ path) rows)
  unfolding kept
  kept-path y path rows small fork changes =
      let single = sum_below-single each 16 y small (λ x k apart. other x apart) in
      let at_y : each y ≡ by_touch (changes_behind path (changes_behind (y ∷ []) changes)) (whole f (tree_of rows)) (kept f (tree_of rows) (changes_behind path (changes_behind (y ∷ []) changes))) =
      ap (λ (rs : List Row). kept_if f (tree_of rs) (changes_behind (y ∷ []) changes)) (below-under_same y path rows)
      ∙ ap (λ t. kept_if f t (changes_behind (y ∷ []) changes)) (tree_of-under path rows)
      ∙ kept_if-grown path (tree_of rows) (changes_behind (y ∷ []) changes) fork in
      let whole_path = ap (λ (cs : List Change). by_touch cs (whole f (tree_of rows)) (kept f (tree_of rows) cs)) (changes_behind-append (y ∷ []) path changes) in
      let here = ap (λ t. kept f t changes) (tree_of-under (y ∷ path) rows ∙ extension_of y path (tree_of rows) fork) in
      let value = ap (λ (o : Option (List ℕ)). staying f o (change_at [] changes)) (ends_here-under Fork y path rows) ∙ no_value (change_at [] changes) in
      omega arith
    where
      each : ℕ → ℕ
      each x = kept_if f (tree_of (below (x ∷ []) (under (y ∷ path) rows))) (changes_behind (x ∷ []) changes)

      other : (x : ℕ) → x ≢ y → each x ≡ 0
      other x apart = kept_if-none (tree_of (below (x ∷ []) (under (y ∷ path) rows))) (changes_behind (x ∷ []) changes) (ap tree_of (below-under_apart x y path rows apart) ∙ tree_of-nil)

  -- ---- what is laid

  module _ (child : List Change → Outcome) where
    -- what becomes of a branch's rows makes what it has to
    abbrev pub Makes : List Row → Type 0
    Makes rows = (changes : List Change) (later : List Row) → changes ≢ [] → Laying rows changes later → made (child changes) + kept f (tree_of rows) changes ≡ inner f (tree_of later)

    -- and has the top that it has to
    abbrev pub Pays : List Row → Type 0
    Pays rows = Right child rows × Makes rows

    layable : (rows : List Row) → Layable Pays rows → Layable (Right child) rows
    layable rows (no_row e) = no_row e
    layable rows (one_row row e) = one_row row e
    layable rows (before_branch path within e fork pays) = before_branch path within e fork pays.0

    -- what the top of rows that don't fork shows of them, and what is kept of them
    record Splits (old : Top) (rows : List Row) : Type 0 where
      shows : Behind Pays old rows
      keeps : KeptBehind rows

    MadeLaid : Top → List Change → Type 0
    MadeLaid old changes = (rows later : List Row) → old ≡ top_of (tree_of rows) → Layable Pays rows → changes ≢ [] → Laying rows changes later → made (laid child old changes) + kept f (tree_of rows) changes ≡ inner f (tree_of later)

    some_change : (c : Change) (cs : List Change) → c ∷ cs ≢ []
    some_change c cs e = cc

    made-fork : (old : Top) (changes : List Change) → ((x : ℕ) (further : Top) → changes_behind (x ∷ []) changes ≢ [] → MadeLaid further (changes_behind (x ∷ []) changes)) → (rows later : List Row) → Splits old rows → Laying rows changes later → made (laid child old changes) + kept f (tree_of rows) changes ≡ inner f (tree_of later)
    unfolding MadeLaid
    made-fork old changes further rows later splits laying =
        let step = ap made (laid-step child old changes ∙ splits.shows.forks (laid child) child changes) in
        let ref_is = ap (λ (r : Option ValueRef). ref_after r (change_at [] changes)) splits.shows.ref ∙ ref_after-rows rows changes later laying.laid in
        let node = node-made (ref_here old) (change_at [] changes) (parted (laid child) old changes) (joint (ref_after (ref_here old) (change_at [] changes)) kids 0) [] in
        let joint_is = ap (λ (r : Option ValueRef). sum_by f (joint r kids 0).made) ref_is in
        let weighs = joint-weighs f later kids 0 are in
        let value = value_made-rows rows changes later laying.laid in
        let kept_is = splits.keeps changes in
        let parts = sum_below-plus (λ x. made (parted (laid child) old changes x)) kept_at 16 in
        let all = sum_below-agree (λ x. made (parted (laid child) old changes x) + kept_at x) (λ x. inner f (tree_of (below (x ∷ []) later))) 16 (λ x small. (each x (changes_behind (x ∷ []) changes) refl).1) in
        omega arith
      where
        kids : ℕ → Kid
        kids x = known (parted (laid child) old changes x).top

        kept_at : ℕ → ℕ
        kept_at x = kept_if f (tree_of (below (x ∷ []) rows)) (changes_behind (x ∷ []) changes)

        each : (x : ℕ) (cs : List Change) → changes_behind (x ∷ []) changes ≡ cs
            → ((behind_outcome (laid child) (top_behind x old) cs).top ≡ top_of (tree_of (below (x ∷ []) later))) × (made (behind_outcome (laid child) (top_behind x old) cs) + kept_if f (tree_of (below (x ∷ []) rows)) cs ≡ inner f (tree_of (below (x ∷ []) later)))
        each x [] e =
            let same = ap tree_of (sym (laying-same (x ∷ []) rows changes later laying e)) in
            (splits.shows.behind x ∙ ap top_of same, (let n : ℕ = inner f (tree_of (below (x ∷ []) rows)) in let k = ap (inner f) same in omega arith))
        each x (c ∷ cs) e =
            let there : changes_behind (x ∷ []) changes ≢ [] = subst (λ (l : List Change). l ≢ []) (sym e) (some_change c cs) in
            let below_it = laying-below (x ∷ []) rows changes later laying in
            let r : ((laid child (top_behind x old) (changes_behind (x ∷ []) changes)).top ≡ top_of (tree_of (below (x ∷ []) later))) × (made (laid child (top_behind x old) (changes_behind (x ∷ []) changes)) + kept f (tree_of (below (x ∷ []) rows)) (changes_behind (x ∷ []) changes) ≡ inner f (tree_of (below (x ∷ []) later))) = (
              ap (λ t. (laid child t (changes_behind (x ∷ []) changes)).top) (splits.shows.behind x)
                  ∙ laid-rows child (below (x ∷ []) rows) (changes_behind (x ∷ []) changes) (below (x ∷ []) later) (layable (below (x ∷ []) rows) (splits.shows.further x)) there below_it.apart below_it.laid below_it.before below_it.after,
              further x (top_behind x old) there (below (x ∷ []) rows) (below (x ∷ []) later) (splits.shows.behind x) (splits.shows.further x) there below_it,
            ) in
            subst (λ (l : List Change). ((laid child (top_behind x old) l).top ≡ top_of (tree_of (below (x ∷ []) later))) × (made (laid child (top_behind x old) l) + kept f (tree_of (below (x ∷ []) rows)) l ≡ inner f (tree_of (below (x ∷ []) later)))) e r

        are : AreKids later kids 0
        are = record {
          order = laying.after;
          each = λ x. (each x (changes_behind (x ∷ []) changes) refl).0;
          sums = sym (sum_below-zero 16);
          lone = λ x none one. is_known (parted (laid child) old changes x).top;
        }

    splits_none : Splits empty []
    splits_none = record { shows = behind_none Pays; keeps = kept-none }

    splits_one : (path value : List ℕ) → AreNibbles path → Splits (leaf path (value_ref value)) ((path, value) ∷ [])
    splits_one path value small = record { shows = behind_one Pays path value; keeps = kept-one path value small }

    splits_path : (y : ℕ) (path : List ℕ) (within : List Row) (digest : List ℕ) (used : ℕ) → y < 16 → top_of (tree_of within) ≡ branch digest used → Fork within → Pays within → Splits (extension (y ∷ path) digest used) (under (y ∷ path) within)
    splits_path y path within digest used small top fork pays = record { shows = behind_path Pays y path within digest used top fork pays; keeps = kept-path y path within small fork }

    first_nibble : (y : ℕ) (path : List ℕ) (within : List Row) → Fork within → Small (under (y ∷ path) within) → y < 16
    first_nibble y path [] fork small = absurd (fork-nil fork)
    first_nibble y path (row ∷ within) fork small = small.0.0

    made_laid : Steps MadeLaid
    unfolding MadeLaid lowered top_of
    made_laid old changes further rows later top over some laying = go over
      where
        fork : Splits old rows → made (laid child old changes) + kept f (tree_of rows) changes ≡ inner f (tree_of later)
        fork splits = made-fork old changes further rows later splits laying

        path_before : (path : List ℕ) (within : List Row) → rows ≡ under path within → Fork within → Pays within → (digest : List ℕ) (used : ℕ) → top_of (tree_of within) ≡ branch digest used → made (laid child old changes) + kept f (tree_of rows) changes ≡ inner f (tree_of later)
        path_before [] within e forks pays digest used is =
            let same : rows ≡ within = e ∙ under-nil within in
            ap₂ (λ (a b : ℕ). a + b)
            (ap made (ap (λ t. laid child t changes) (top ∙ ap (λ (rs : List Row). top_of (tree_of rs)) same ∙ is) ∙ laid-step child (branch digest used) changes))
            (ap (λ (rs : List Row). kept f (tree_of rs) changes) same)
            ∙ pays.1 changes later some (subst (λ (rs : List Row). Laying rs changes later) same laying)
        path_before (y ∷ path) within e forks pays digest used is =
            let tops : top_of (tree_of rows) ≡ extension (y ∷ path) digest used =
            ap (λ (rs : List Row). top_of (tree_of rs)) e ∙ ap top_of (tree_of-under (y ∷ path) within) ∙ top_of-grown (y ∷ path) (tree_of within) ∙ ap (lowered (y ∷ path)) is in
            let small : y < 16 = first_nibble y path within forks (subst Small e laying.before.small) in
            fork (subst (λ (t : Top). Splits t rows) (sym (top ∙ tops)) (subst (Splits (extension (y ∷ path) digest used)) (sym e) (splits_path y path within digest used small is forks pays)))

        go : Layable Pays rows → made (laid child old changes) + kept f (tree_of rows) changes ≡ inner f (tree_of later)
        go (no_row e) = fork (subst (λ (t : Top). Splits t rows) (sym (top ∙ ap (λ (rs : List Row). top_of (tree_of rs)) e ∙ ap top_of tree_of-nil)) (subst (Splits empty) (sym e) splits_none))
        go (one_row row e) =
            let small : Small (row ∷ []) = subst Small e laying.before.small in
            fork (subst (λ (t : Top). Splits t rows) (sym (top ∙ ap (λ (rs : List Row). top_of (tree_of rs)) e ∙ ap top_of (tree_of-one row))) (subst (Splits (leaf row.0 (value_ref row.1))) (sym e) (splits_one row.0 row.1 small.0)))
        go (before_branch path within e forks pays) = let t = fork-top Pays within forks in path_before path within e forks pays t.0 t.1 t.2

    -- What is made, with what is kept, is all but the record of the later top.
    pub laid-made : (rows : List Row) (changes : List Change) (later : List Row) → Layable Pays rows → changes ≢ [] → Laying rows changes later → made (laid child (top_of (tree_of rows)) changes) + kept f (tree_of rows) changes ≡ inner f (tree_of later)
    unfolding MadeLaid
    laid-made rows changes later over some laying = by_steps MadeLaid made_laid (top_of (tree_of rows)) changes rows later refl over some laying
