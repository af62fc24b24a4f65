-- Over a table that has the texts of a state's touched places, a batch visits these places.
use Rattle.std.proofs.Common.{◌≡◌, ◌≢◌, ℕ, ◌+◌, ◌<◌, ◌≤◌, ◌^◌, Bool, true, false, cond, not, List, [], ◌∷◌, ◌++◌, map, sum_by, Some, option_map, refl, sym, ◌∙◌, ap, ap₂, subst, arith, append-nil}
use Rattle.std.specs.Prelude.{⊤, ◌||◌, ◌&&◌, ◌==◌, length}
use Rattle.std.specs.List.{filter, count_by}
use Rattle.std.proofs.lemmas.Bool.{false≢true}
use Rattle.std.proofs.lemmas.List.Sums.{sum_by-cons}
use Rattle.std.specs.FinMap.{get, entries}
use Rattle.sha2.specs.Sha256.{sha256}
use Rattle.byte_model.specs.Nibbles.{nibbles}
use Rattle.trie_model.specs.State.{State, Row, IsState, rows_of}
use Rattle.trie_model.specs.Tree.{Tree, nothing, leaf, branch, extension, below, ends_here, common_prefix, tree_of}
use Rattle.trie_model.specs.Texts.{text, usage, value_ref, places}
use Rattle.trie_model.specs.Root.{Table, root, root_of, text_at, subtree_at, places_of, zero_digest}
use Rattle.trie_model.proofs.Members.{IsIn, all_at}
use Rattle.trie_model.proofs.Children.{root_is_place, in_branch, in_extension}
use Rattle.trie_model.proofs.Rests.{below-nil, below-append}
use Rattle.trie_model.proofs.Trees.{tree_of-nil, tree_of-one, tree_of-forks, tree_of-shares, by_cases}
use Rattle.trie_model.proofs.Pairs.{Small, small-below}
use Rattle.trie_model.proofs.Bounds.{usage-lt}
use Rattle.visit_model.specs.Seen.{Seen, seen, seen_at}
use Rattle.visit_model.specs.Shown.{shown}
use Rattle.visit_model.proofs.ShownFits.{IsThere, FitsBelow, state_fits}
use Rattle.visit_model.proofs.ShownStates.{root_looked_up, no_root}
use Rattle.batch_model.specs.Changes.{Changes, Change, AreChanges, after, change_rows, changed_paths}
use Rattle.change_model.specs.Places.{above, is_branch, all_stand_below, leads_to, is_touched, remains_alone, touched_places}
use Rattle.change_model.specs.Visits.{Visits, no_visits, changes_behind, is_untouched, visits_at, where_touched, batch_visits, merged_child}
use Rattle.change_model.specs.Along.{IfTouched}
use Rattle.change_model.specs.Tables.{HoldsPlaces}
use Rattle.change_model.proofs.Filtered.{in_filter}
use Rattle.change_model.proofs.Along.{visits_at-same}
use Rattle.change_model.proofs.Seeing.{IsHeldText, HeldAlong, seen_along}
use Rattle.change_model.proofs.Laid.{IsLaid, laid-below, laid-after}
use Rattle.change_model.proofs.Left.{Apart, apart-behind, apart-change_rows, has_rows}
use Rattle.change_model.proofs.Touched.{small-after}
use Rattle.change_model.proofs.Alone.{paths_of, alone, touched, touched-root, touched-behind, touched-here, untouched-here, none_alone}
use Rattle.change_model.proofs.Merging.{merged_remains}
use Rattle.change_model.proofs.Touching.{counts_at, counts_at-def, Passes, passes-none, passes_touched, one, rows_before}

-- ---- the touched texts of some rows are held

module _ (table : Table) where
  abbrev HeldWhereTouched : List Row → List Change → List Row → Type 0
  HeldWhereTouched rows changes later = (q : List ℕ) → IsIn (places (tree_of rows)) q → touched rows changes later q ≡ true → IsHeldText table (tree_of (below q rows))

  abbrev HeldOf : List Row → Type 0
  HeldOf rows = (changes : List Change) (later : List Row) → is_untouched changes ≡ false → Apart changes → IsLaid rows changes later → Small later → HeldWhereTouched rows changes later → HeldAlong table (tree_of rows) changes

  top_held : (row : Row) (others : List Row) (changes : List Change) (later : List Row) → is_untouched changes ≡ false → HeldWhereTouched (row ∷ others) changes later → IsHeldText table (tree_of (row ∷ others))
  top_held row others changes later some held =
      subst (λ (rs : List Row). IsHeldText table (tree_of rs)) (below-nil (row ∷ others)) (held [] (root_is_place (row ∷ others) (there row others)) (touched-root (row ∷ others) changes later some))
    where
      there : (row : Row) (others : List Row) → row ∷ others ≢ []
      there row others e = cc

  -- below a path
  held-below : (r : List ℕ) (rows : List Row) (changes : List Change) (later : List Row) → ((q : List ℕ) → IsIn (places (tree_of (below r rows))) q → IsIn (places (tree_of rows)) (r ++ q)) → is_untouched (changes_behind r changes) ≡ false → HeldWhereTouched rows changes later → HeldWhereTouched (below r rows) (changes_behind r changes) (below r later)
  held-below r rows changes later inside some held q h t =
      subst (λ (rs : List Row). IsHeldText table (tree_of rs)) (below-append r q rows) (held (r ++ q) (inside q h) (go q t))
    where
      no_cons : (x : ℕ) (q : List ℕ) → x ∷ q ≢ []
      no_cons x q e = cc

      go : (q : List ℕ) → touched (below r rows) (changes_behind r changes) (below r later) q ≡ true → touched rows changes later (r ++ q) ≡ true
      go [] t = ap (touched rows changes later) (append-nil r) ∙ touched-here r rows changes later some
      go (x ∷ q) t = touched-behind r (x ∷ q) rows changes later (no_cons x q) ∙ t

  held_none : HeldOf []
  unfolding HeldAlong
  held_none changes later some apart laid small held = subst (λ t. HeldAlong table t changes) (sym tree_of-nil) tt

  held_one : (row : Row) → HeldOf (row ∷ [])
  unfolding HeldAlong
  held_one row changes later some apart laid small held =
      let t = tree_of-one row in
      subst (λ t. HeldAlong table t changes) (sym t) (subst (IsHeldText table) t (top_held row [] changes later some held))

  held_forks : (row next : Row) (others : List Row) → common_prefix row (next ∷ others) ≡ [] → ((x : ℕ) → HeldOf (below (x ∷ []) (row ∷ next ∷ others))) → HeldOf (row ∷ next ∷ others)
  unfolding HeldAlong has_rows
  held_forks row next others e further changes later some apart laid small held =
      subst (λ t. HeldAlong table t changes) (sym t) (subst (IsHeldText table) t (top_held row (next ∷ others) changes later some held), (λ x nibble. child x nibble (changes_behind (x ∷ []) changes) refl), merged)
    where
      rows : List Row
      rows = row ∷ next ∷ others

      kid : ℕ → Tree
      kid x = tree_of (below (x ∷ []) rows)

      t : tree_of rows ≡ branch (ends_here rows) kid
      t = tree_of-forks row next others e

      inside : (x : ℕ) → x < 16 → (q : List ℕ) → IsIn (places (kid x)) q → IsIn (places (tree_of rows)) (x ∷ q)
      inside x nibble q h = subst (λ t. IsIn (places t) (x ∷ q)) (sym t) (in_branch (ends_here rows) kid x q nibble h)

      child : (x : ℕ) → x < 16 → (cs : List Change) → changes_behind (x ∷ []) changes ≡ cs → IfTouched cs (HeldAlong table (kid x) cs) ⊤
      child x nibble [] is = tt
      child x nibble (c ∷ cs) is =
          let touched_there : is_untouched (changes_behind (x ∷ []) changes) ≡ false = ap is_untouched is in
          subst (λ (l : List Change). HeldAlong table (kid x) l) is
          (further x (changes_behind (x ∷ []) changes) (below (x ∷ []) later) touched_there (apart-behind (x ∷ []) changes apart) (laid-below (x ∷ []) rows changes later laid) (small-below (x ∷ []) later small)
          (held-below (x ∷ []) rows changes later (inside x nibble) touched_there held))

      merged : (x : ℕ) → merged_child (option_map value_ref (ends_here rows)) (λ y. shown (kid y)) changes ≡ Some x → IsHeldText table (kid x)
      merged x is =
          let m = merged_remains row next others e changes later apart laid small x is in
          let there = rows_before (λ _. true) (below (x ∷ []) rows) (below (x ∷ []) later) (subst (λ (cs : List Change). IsLaid (below (x ∷ []) rows) cs (below (x ∷ []) later)) m.untouched (laid-below (x ∷ []) rows changes later laid)) m.some in
          held (x ∷ []) (inside x m.nibble [] (root_is_place (below (x ∷ []) rows) (not_empty (below (x ∷ []) rows) there))) (untouched-here (x ∷ []) rows changes later m.untouched ∙ m.remains)
        where
          not_empty : (rs : List Row) → has_rows rs ≡ true → rs ≢ []
          not_empty rs some e = false≢true (sym (no_rows) ∙ ap has_rows (sym e) ∙ some)
            where
              no_rows : has_rows [] ≡ false
              no_rows = refl

  held_shares : (row next : Row) (others : List Row) (x : ℕ) (prefix : List ℕ) → common_prefix row (next ∷ others) ≡ x ∷ prefix → HeldOf (below (x ∷ prefix) (row ∷ next ∷ others)) → HeldOf (row ∷ next ∷ others)
  unfolding HeldAlong
  held_shares row next others x prefix e further changes later some apart laid small held =
      subst (λ t. HeldAlong table t changes) (sym t) (subst (IsHeldText table) t (top_held row (next ∷ others) changes later some held), child (changes_behind (x ∷ prefix) changes) refl)
    where
      rows : List Row
      rows = row ∷ next ∷ others

      t : tree_of rows ≡ extension (x ∷ prefix) (tree_of (below (x ∷ prefix) rows))
      t = tree_of-shares row next others x prefix e

      inside : (q : List ℕ) → IsIn (places (tree_of (below (x ∷ prefix) rows))) q → IsIn (places (tree_of rows)) (x ∷ prefix ++ q)
      inside q h = subst (λ t. IsIn (places t) (x ∷ prefix ++ q)) (sym t) (in_extension (x ∷ prefix) (tree_of (below (x ∷ prefix) rows)) q h)

      child : (cs : List Change) → changes_behind (x ∷ prefix) changes ≡ cs → IfTouched cs (HeldAlong table (tree_of (below (x ∷ prefix) rows)) cs) ⊤
      child [] is = tt
      child (c ∷ cs) is =
          let touched_there : is_untouched (changes_behind (x ∷ prefix) changes) ≡ false = ap is_untouched is in
          subst (λ (l : List Change). HeldAlong table (tree_of (below (x ∷ prefix) rows)) l) is
          (further (changes_behind (x ∷ prefix) changes) (below (x ∷ prefix) later) touched_there (apart-behind (x ∷ prefix) changes apart) (laid-below (x ∷ prefix) rows changes later laid) (small-below (x ∷ prefix) later small)
          (held-below (x ∷ prefix) rows changes later inside touched_there held))

  pub held_along : (rows : List Row) → HeldOf rows
  held_along = by_cases HeldOf (record { none = held_none; one = held_one; forks = held_forks; shares = held_shares })

-- ---- of a state

pub paths-change_rows : (changes : Changes) → changed_paths changes ≡ paths_of (change_rows changes)
paths-change_rows changes = go (entries changes)
  where
    go : (es : List Change) → map (λ (change : Change). nibbles change.0) es ≡ map (λ (change : Change). change.0) (map (λ (change : Change). (nibbles change.0, change.1)) es)
    go [] = refl
    go (e ∷ es) = ap (λ (ps : List (List ℕ)). nibbles e.0 ∷ ps) (go es)

module _ (state : State) (changes : Changes) (is : IsState state) (are : AreChanges changes) where
  abbrev rows : List Row
  rows = rows_of state

  abbrev cs : List Change
  cs = change_rows changes

  abbrev later : List Row
  later = rows_of (after state changes)

  touched-is_touched : (q : List ℕ) → is_touched state [] changes q ≡ touched rows cs later q
  unfolding is_touched remains_alone subtree_at touched alone
  touched-is_touched q =
      ap (λ (ps : List (List ℕ)). leads_to ps q || (not (length q == 0) && is_branch (tree_of (below (above q) rows)) && not (leads_to ps q) && all_stand_below later (above q) q))
      (paths-change_rows changes)

  count_touched : (test : List ℕ → Bool) (ps : List (List ℕ)) → count_by test (map (λ place. sha256 (text_at state place)) (filter (is_touched state [] changes) ps)) ≡ sum_by (counts_at test rows cs later) ps
  unfolding subtree_at
  count_touched test [] = refl
  count_touched test (p ∷ ps) = go (is_touched state [] changes p) refl (count_touched test ps) ∙ sym (sum_by-cons (counts_at test rows cs later) p ps)
    where
      named : List ℕ → List ℕ
      named q = sha256 (text (tree_of (below q (rows_of state))))

      go : (b : Bool) → is_touched state [] changes p ≡ b → count_by test (map named (filter (is_touched state [] changes) ps)) ≡ sum_by (counts_at test rows cs later) ps
          → count_by test (map named (cond b (p ∷ filter (is_touched state [] changes) ps) (filter (is_touched state [] changes) ps))) ≡ counts_at test rows cs later p + sum_by (counts_at test rows cs later) ps
      go true t further =
          let here : counts_at test rows cs later p ≡ one test (named p) = counts_at-def test rows cs later p ∙ ap (λ b. cond b (one test (named p)) 0) (sym (touched-is_touched p) ∙ t) in
          sum_by-cons (λ d. one test d) (named p) (map named (filter (is_touched state [] changes) ps)) ∙ ap₂ (λ (a b : ℕ). a + b) (sym here) further
      go false t further =
          let here : counts_at test rows cs later p ≡ 0 = counts_at-def test rows cs later p ∙ ap (λ b. cond b (one test (named p)) 0) (sym (touched-is_touched p) ∙ t) in
          further ∙ (let n : ℕ = sum_by (counts_at test rows cs later) ps in omega arith)

  laid : IsLaid rows cs later
  laid = laid-after state changes

  small : Small later
  small = small-after state changes is are

  bounded : (p : List ℕ) → usage (tree_of (below p rows)) ≤ 2 ^ 62
  unfolding subtree_at
  bounded p = let h = usage-lt state is p in omega arith

  -- the visits of a batch that changes something, and of one that does not
  module _ (table : Table) (holds : HoldsPlaces table state (touched_places state [] changes)) where
    whole : tree_of (below [] rows) ≡ tree_of rows
    whole = ap tree_of (below-nil rows)

    held : HeldWhereTouched table rows cs later
    unfolding subtree_at
    held q h t =
        all_at (λ (place : List ℕ). get table (sha256 (text_at state place)) ≡ Some (text_at state place)) (touched_places state [] changes) q holds.found
        (in_filter (is_touched state [] changes) (places_of state) q (subst (λ t. IsIn (places t) q) (sym whole) h) (touched-is_touched q ∙ t))

    nonzero : is_untouched cs ≡ false → IsThere (tree_of rows) → sha256 (text (tree_of rows)) ≢ zero_digest
    unfolding subtree_at
    nonzero some there e =
        all_at (λ (place : List ℕ). sha256 (text_at state place) ≢ zero_digest) (touched_places state [] changes) [] holds.nonzero
        (in_filter (is_touched state [] changes) (places_of state) [] (subst (λ t. IsIn (places t) []) (sym whole) (root_is_place rows (rows_there there))) (touched-is_touched [] ∙ touched-root rows cs later some))
        (ap (λ t. sha256 (text t)) whole ∙ e)
      where
        rows_there : IsThere (tree_of rows) → rows ≢ []
        rows_there there none = subst IsThere tree_of-nil (subst (λ (rs : List Row). IsThere (tree_of rs)) none there)

    -- what is seen below the root is visited as the trie is
    seen_as : is_untouched cs ≡ false → visits_at (seen table (root state)) cs ≡ visits_at (shown (tree_of rows)) cs
    unfolding subtree_at root_of shown
    seen_as some = ap (λ t. visits_at (seen table (root_of t)) cs) whole ∙ go (tree_of rows) refl
      where
        along : (tree : Tree) → tree_of rows ≡ tree → IsThere tree → visits_at (seen_at table 0 false (sha256 (text tree))) cs ≡ visits_at (shown tree) cs
        along tree is_tree there =
            visits_at-same (shown tree) (seen_at table 0 false (sha256 (text tree))) cs
            (seen_along table tree cs 0 false (omega arith) (subst (FitsBelow 0 false) (whole ∙ is_tree) (state_fits state is)) (subst (λ t. HeldAlong table t cs) is_tree (held_along table rows cs later some (apart-change_rows changes) laid small held)) there)

        there_at : (tree : Tree) → tree_of rows ≡ tree → IsThere tree → visits_at (seen table (sha256 (text tree))) cs ≡ visits_at (shown tree) cs
        there_at tree is_tree there =
            ap (λ (s : Seen). visits_at s cs) (root_looked_up table (sha256 (text tree)) (subst (λ t. sha256 (text t) ≢ zero_digest) is_tree (nonzero some (subst IsThere (sym is_tree) there)))) ∙ along tree is_tree there

        go : (tree : Tree) → tree_of rows ≡ tree → visits_at (seen table (root_of tree)) cs ≡ visits_at (shown tree) cs
        go nothing is_tree = ap (λ (s : Seen). visits_at s cs) (no_root table)
        go (leaf path value) is_tree = there_at (leaf path value) is_tree tt
        go (branch value kids) is_tree = there_at (branch value kids) is_tree tt
        go (extension path child) is_tree = there_at (extension path child) is_tree tt

    pub batch_passes : (test : List ℕ → Bool) → Passes test (batch_visits table (root state) changes) (count_by test (map (λ place. sha256 (text_at state place)) (touched_places state [] changes)))
    unfolding subtree_at touched leads_to alone
    batch_passes test = subst (Passes test (batch_visits table (root state) changes)) (sym (ap (λ t. count_by test (map (λ place. sha256 (text_at state place)) (filter (is_touched state [] changes) (places t)))) whole ∙ count_touched test (places (tree_of rows)))) (go cs refl)
      where
        none_counted : cs ≡ [] → (ps : List (List ℕ)) → sum_by (counts_at test rows cs later) ps ≡ 0
        none_counted none [] = refl
        none_counted none (p ∷ ps) =
            let rest = none_counted none ps in
            let here : counts_at test rows cs later p ≡ 0 = counts_at-def test rows cs later p ∙ ap (λ b. cond b (one test (sha256 (text (tree_of (below p rows))))) 0) (untouched p none) in
            sum_by-cons (counts_at test rows cs later) p ps ∙ (omega arith)
          where
            untouched : (p : List ℕ) → cs ≡ [] → touched rows cs later p ≡ false
            untouched [] none = ap (λ (l : List Change). touched rows l later []) none ∙ refl
            untouched (x ∷ p) none = ap (λ (l : List Change). touched rows l later (x ∷ p)) none ∙ none_alone rows later (x ∷ p) (subst (λ (l : List Change). IsLaid rows l later) none laid) (no_cons x p)
              where
                no_cons : (x : ℕ) (q : List ℕ) → x ∷ q ≢ []
                no_cons x q e = cc

        go : (l : List Change) → cs ≡ l → Passes test (where_touched l (visits_at (seen table (root state)) l)) (sum_by (counts_at test rows cs later) (places (tree_of rows)))
        go [] e = subst (Passes test no_visits) (sym (none_counted e (places (tree_of rows)))) (passes-none test)
        go (c ∷ rest) e =
            let some : is_untouched cs ≡ false = ap is_untouched e in
            subst (λ (l : List Change). Passes test (visits_at (seen table (root state)) l) (sum_by (counts_at test rows cs later) (places (tree_of rows)))) e
            (subst (λ (v : Visits). Passes test v (sum_by (counts_at test rows cs later) (places (tree_of rows)))) (sym (seen_as some))
            (passes_touched test rows cs later some (apart-change_rows changes) laid small bounded))
