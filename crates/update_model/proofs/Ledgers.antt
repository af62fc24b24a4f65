-- The ledger of a batch: what is made and what is taken out, over a table that has the texts of a state's touched places.
use Rattle.std.proofs.Common.{◌≡◌, ◌≢◌, ℕ, ◌+◌, ◌-◌, ◌≤◌, Bool, true, false, cond, not, List, [], ◌∷◌, ◌++◌, map, sum_by, Option, None, Some, refl, sym, ◌∙◌, ap, ap₂, subst, arith}
use Rattle.std.specs.Prelude.{nat_eq, ◌||◌}
use Rattle.std.specs.List.{filter, filter_map, cons_option, count_by, list_any}
use Rattle.std.specs.Cmp.Lexicographic.{pointwise}
use Rattle.std.specs.FinMap.{get, entries}
use Rattle.std.proofs.lemmas.List.Sums.{sum_by-cons, sum_by-append}
use Rattle.byte_model.specs.Below.{joined_below}
use Rattle.byte_model.specs.Nibbles.{nibbles, AreNibbles}
use Rattle.byte_model.proofs.Below.{sum_below-agree, sum_by-joined_below, sum_below-plus}
use Rattle.byte_model.proofs.Digits.{AreNibbles-prefix}
use Rattle.trie_model.specs.State.{State, Row, IsState, rows_of}
use Rattle.trie_model.specs.Tree.{Tree, nothing, leaf, branch, extension, below, tree_of}
use Rattle.trie_model.specs.Texts.{text, places}
use Rattle.trie_model.specs.Grown.{under, here}
use Rattle.trie_model.specs.Root.{Table, root, texts_of, text_at, places_of, subtree_at, digest_occurrences}
use Rattle.trie_model.proofs.Costs.{subtree_at-root, texts_of-tree_texts}
use Rattle.trie_model.proofs.Pairs.{Small, small-below, held, held-tree_of}
use Rattle.trie_model.proofs.Places.{gathered, tree_texts}
use Rattle.trie_model.proofs.Rests.{AllHavePrefix, common_prefix-all}
use Rattle.trie_model.proofs.Trees.{tree_of-nil, tree_of-one, tree_of-forks, tree_of-shares, by_cases}
use Rattle.visit_model.specs.Seen.{seen}
use Rattle.visit_model.specs.Shown.{shown}
use Rattle.batch_model.specs.Changes.{Changes, Change, AreChanges, after, change_rows, found_at}
use Rattle.change_model.specs.Places.{leads_to, touched_places}
use Rattle.change_model.specs.Ledger.{made_texts, gain, loss}
use Rattle.change_model.specs.Exchange.{is_given_up, former_values, taken_texts, count_of_digest}
use Rattle.change_model.specs.Tables.{HoldsPlaces}
use Rattle.change_model.proofs.Balance.{exchange, more_made, more_taken}
use Rattle.change_model.proofs.Laid.{laid-after}
use Rattle.change_model.proofs.Left.{apart-change_rows}
use Rattle.update_model.specs.Tops.{pending, top_of}
use Rattle.update_model.specs.Updates.{Outcome, updated}
use Rattle.update_model.proofs.FoundRows.{InOrder}
use Rattle.update_model.proofs.NewTrees.{updated-rows}
use Rattle.update_model.proofs.Weights.{Nibbled, of_value, whole, inner_and_pending, kept}
use Rattle.update_model.proofs.PlaceSums.{sum_by-agree}
use Rattle.update_model.proofs.LaidBelow.{Laying}
use Rattle.update_model.proofs.OverStates.{small-change_rows, in_order-rows_of, in_order-after, found_at-key, paths-change_rows, updated-over_state}
use Rattle.update_model.proofs.Losses.{by_digest, lost, updated-lost}
use Rattle.update_model.proofs.GivenUp.{given_up, given, former, taken}
use Rattle.update_model.proofs.NewTexts.{updated-made}
use Rattle.change_model.proofs.Balance.{sum_by-map}

-- ---- the paths of a trie

nibbled-tree_of : (rows : List Row) → Small rows → Nibbled (tree_of rows)
unfolding Nibbled
nibbled-tree_of = by_cases (λ rows. Small rows → Nibbled (tree_of rows)) (record {
  none = λ small. subst Nibbled (sym tree_of-nil) tt;
  one = λ row small. subst Nibbled (sym (tree_of-one row)) small.0;
  forks = λ row next others e further small. subst Nibbled (sym (tree_of-forks row next others e)) (λ x. further x (small-below (x ∷ []) (row ∷ next ∷ others) small));
  shares = λ row next others x prefix e further small.
      let all = subst (λ (p : List ℕ). AllHavePrefix p (row ∷ next ∷ others)) e (common_prefix-all row (next ∷ others)) in
      subst Nibbled (sym (tree_of-shares row next others x prefix e))
      (AreNibbles-prefix (x ∷ prefix) all.0.0 (subst AreNibbles all.0.1 small.0), some x prefix, further (small-below (x ∷ prefix) (row ∷ next ∷ others) small));
})
  where
    some : (x : ℕ) (prefix : List ℕ) → x ∷ prefix ≢ []
    some x prefix e = cc

-- ---- sums

sum_by-map_filter : {X : Type 0} (g : List ℕ → ℕ) (h : X → List ℕ) (p : X → Bool) (xs : List X) → sum_by g (map h (filter p xs)) ≡ sum_by (λ x. cond (p x) (g (h x)) 0) xs
sum_by-map_filter g h p [] = refl
sum_by-map_filter {X = X} g h p (x ∷ xs) = go (p x) (sum_by-map_filter g h p xs) ∙ sym (sum_by-cons (λ (y : X). cond (p y) (g (h y)) 0) x xs)
  where
    go : (b : Bool) → sum_by g (map h (filter p xs)) ≡ sum_by (λ y. cond (p y) (g (h y)) 0) xs → sum_by g (map h (cond b (x ∷ filter p xs) (filter p xs))) ≡ cond b (g (h x)) 0 + sum_by (λ y. cond (p y) (g (h y)) 0) xs
    go true e = sum_by-cons g (h x) (map h (filter p xs)) ∙ ap (λ n. g (h x) + n) e
    go false e = omega arith

module _ (f : List ℕ → ℕ) where
  abbrev value_of : Row → ℕ
  value_of row = f row.1

  values-under : (prefix : List ℕ) (rows : List Row) → sum_by value_of (under prefix rows) ≡ sum_by value_of rows
  values-under prefix rows = sum_by-map value_of (λ (row : Row). (prefix ++ row.0, row.1)) rows

  values-here : (value : Option (List ℕ)) (rows : List Row) → sum_by value_of (here value ++ rows) ≡ of_value f value + sum_by value_of rows
  values-here None rows = let n : ℕ = sum_by value_of rows in omega arith
  values-here (Some v) rows = sum_by-cons value_of ([], v) rows

  whole-tree : (t : Tree) → sum_by f (tree_texts t) + sum_by value_of (held t) ≡ whole f t
  unfolding gathered held whole
  whole-tree nothing = refl
  whole-tree (leaf path value) = ap₂ (λ (a b : ℕ). a + b) (sum_by-cons f (text (leaf path value)) []) (sum_by-cons value_of (path, value) []) ∙ (let a : ℕ = f (text (leaf path value)) in let b : ℕ = f value in omega arith)
  whole-tree (branch value kids) =
      let top = sum_by-cons f (text (branch value kids)) (joined_below (λ x. gathered text (kids x)) 16) in
      let texts = sum_by-joined_below f (λ x. gathered text (kids x)) 16 in
      let values = values-here value (joined_below (λ x. under (x ∷ []) (held (kids x))) 16) in
      let rows = sum_by-joined_below value_of (λ x. under (x ∷ []) (held (kids x))) 16 in
      let below_it = sum_below-agree (λ x. sum_by value_of (under (x ∷ []) (held (kids x)))) (λ x. sum_by value_of (held (kids x))) 16 (λ x small. values-under (x ∷ []) (held (kids x))) in
      let each = sum_below-agree (λ x. sum_by f (gathered text (kids x)) + sum_by value_of (held (kids x))) (λ x. whole f (kids x)) 16 (λ x small. whole-tree (kids x)) in
      let parts = sum_below-plus (λ x. sum_by f (gathered text (kids x))) (λ x. sum_by value_of (held (kids x))) 16 in
      omega arith
  whole-tree (extension path child) =
      let a = sum_by-cons f (text (extension path child)) (gathered text child) in
      let b = values-under path (held child) in
      let h = whole-tree child in
      omega arith

  -- all texts of a state
  whole-state : (state : State) → InOrder (rows_of state) → sum_by f (texts_of state) ≡ whole f (tree_of (rows_of state))
  whole-state state order =
      ap (sum_by f) (texts_of-tree_texts state)
      ∙ sum_by-append f (tree_texts (tree_of (rows_of state))) (map (λ row. row.1) (rows_of state))
      ∙ ap₂ (λ (a b : ℕ). a + b) refl (sum_by-map f (λ (row : Row). row.1) (rows_of state) ∙ ap (sum_by value_of) (sym (held-tree_of (rows_of state) order.rising order.small)))
      ∙ whole-tree (tree_of (rows_of state))

  -- ---- what a batch takes out

  former-state : (state : State) (es : List Change) → sum_by f (filter_map (λ (change : Change). get state change.0) es) ≡ former f (rows_of state) (map (λ (change : Change). (nibbles change.0, change.1)) es)
  former-state state [] = refl
  former-state state (e ∷ es) =
      go (get state e.0)
      ∙ ap₂ (λ (a b : ℕ). a + b) (ap (of_value f) (sym (found_at-key state e.0))) (former-state state es)
      ∙ sym (sum_by-cons (λ (c : Change). of_value f (found_at c.0 (rows_of state))) (nibbles e.0, e.1) (map (λ (change : Change). (nibbles change.0, change.1)) es))
    where
      rest : List (List ℕ)
      rest = filter_map (λ (change : Change). get state change.0) es

      go : (o : Option (List ℕ)) → sum_by f (cons_option o rest) ≡ of_value f o + sum_by f rest
      go None = let n : ℕ = sum_by f rest in omega arith
      go (Some v) = sum_by-cons f v rest

  given_up-state : (state : State) (changes : Changes) (q : List ℕ) → is_given_up state changes q ≡ given_up (change_rows changes) (rows_of (after state changes)) q
  unfolding is_given_up
  given_up-state state changes q = ap₂ (λ (ps : List (List ℕ)) (t : Tree). leads_to ps q || not (list_any (λ other. pointwise nat_eq other q) (places t))) (paths-change_rows changes) (subtree_at-root (after state changes))

  taken-state : (state : State) (changes : Changes) → sum_by f (taken_texts state changes) ≡ sum_by (given f (rows_of state) (change_rows changes) (rows_of (after state changes))) (places (tree_of (rows_of state))) + former f (rows_of state) (change_rows changes)
  unfolding taken_texts subtree_at
  taken-state state changes =
      sum_by-append f (map (text_at state) (filter (is_given_up state changes) (places_of state))) (former_values state changes)
      ∙ ap₂ (λ (a b : ℕ). a + b)
      (sum_by-map_filter f (text_at state) (is_given_up state changes) (places_of state)
      ∙ sum_by-agree (λ q. cond (is_given_up state changes q) (f (text_at state q)) 0) (given f (rows_of state) (change_rows changes) (rows_of (after state changes))) (places_of state) (λ q. ap (λ b. cond b (f (text (tree_of (below q (rows_of state))))) 0) (given_up-state state changes q))
      ∙ ap (λ t. sum_by (given f (rows_of state) (change_rows changes) (rows_of (after state changes))) (places t)) (subtree_at-root state))
      (former-state state (entries changes))

-- ---- the ledger

module _ (state : State) (changes : Changes) (is : IsState state) (are : AreChanges changes) (some : change_rows changes ≢ []) (table : Table) (holds : HoldsPlaces table state (touched_places state [] changes)) where
  abbrev rows : List Row
  rows = rows_of state

  abbrev cs : List Change
  cs = change_rows changes

  abbrev later : List Row
  later = rows_of (after state changes)

  abbrev outcome : Outcome
  outcome = updated (seen table (root state)) cs

  laying : Laying rows cs later
  laying = record {
    laid = laid-after state changes;
    apart = apart-change_rows changes;
    nibbles = small-change_rows changes are;
    before = in_order-rows_of state is;
    after = in_order-after state changes is are;
  }

  same : outcome ≡ updated (shown (tree_of rows)) cs
  same = updated-over_state state changes is are some table holds ∙ ap (λ t. updated (shown t) cs) (subtree_at-root state)

  top : outcome.top ≡ top_of (tree_of later)
  top = ap (λ (o : Outcome). o.top) same ∙ updated-rows rows cs later some laying.apart laying.laid laying.before laying.after

  -- what is taken out of the old state, and what it keeps
  module _ (f : List ℕ → ℕ) where
    taken_and_kept : kept f (tree_of rows) cs + sum_by f (taken_texts state changes) ≡ sum_by f (texts_of state)
    taken_and_kept =
        ap (λ n. kept f (tree_of rows) cs + n) (taken-state f state changes)
        ∙ taken f rows cs later some laying
        ∙ sym (whole-state f state laying.before)

    made_and_kept : sum_by f (outcome.made ++ pending outcome.top) + kept f (tree_of rows) cs ≡ sum_by f (texts_of (after state changes))
    made_and_kept =
        let all = sum_by-append f outcome.made (pending outcome.top) in
        let made_is = ap (λ (o : Outcome). sum_by f o.made) same in
        let new = updated-made f rows cs later some laying in
        let last = ap (λ t. sum_by f (pending t)) top in
        let whole_is = inner_and_pending f (tree_of later) in
        let state_is = whole-state f (after state changes) laying.after in
        omega arith

  -- The texts that are made are those of the written places and the values that are set.
  pub made_texts-outcome : (test : List ℕ → Bool) → count_by test (outcome.made ++ pending outcome.top) ≡ count_by test (made_texts state changes)
  made_texts-outcome test =
      let new = made_and_kept (λ t. cond (test t) 1 0) in
      let old = taken_and_kept (λ t. cond (test t) 1 0) in
      let both = exchange test state changes in
      omega arith

  module _ (digest : List ℕ) where
    abbrev counts : List ℕ → ℕ
    counts e = cond (pointwise nat_eq e digest) 1 0

    lost_and_kept : count_by (λ e. pointwise nat_eq e digest) outcome.lost + kept (by_digest counts) (tree_of rows) cs ≡ digest_occurrences state digest
    lost_and_kept =
        let lost_is = ap (λ (o : Outcome). lost counts o) same in
        let old = updated-lost counts (tree_of rows) (nibbled-tree_of rows laying.before.small) cs in
        let state_is = whole-state (by_digest counts) state laying.before in
        omega arith

    -- Those that are taken out are those of the places that are given up and the former values.
    pub taken_texts-outcome : count_by (λ e. pointwise nat_eq e digest) outcome.lost ≡ count_of_digest digest (taken_texts state changes)
    taken_texts-outcome =
        let old = lost_and_kept in
        let all = taken_and_kept (by_digest counts) in
        omega arith

    -- What is made and taken out of a digest is what it gains and loses.
    pub occurrences-outcome : digest_occurrences (after state changes) digest + count_by (λ e. pointwise nat_eq e digest) outcome.lost ≡ digest_occurrences state digest + count_of_digest digest (outcome.made ++ pending outcome.top)
    occurrences-outcome =
        let old = lost_and_kept in
        let new = made_and_kept (by_digest counts) in
        omega arith

    pub gain-outcome : gain state changes digest ≡ count_of_digest digest (outcome.made ++ pending outcome.top) - count_by (λ e. pointwise nat_eq e digest) outcome.lost
    gain-outcome = more_made _ _ _ _ occurrences-outcome

    pub loss-outcome : loss state changes digest ≡ count_by (λ e. pointwise nat_eq e digest) outcome.lost - count_of_digest digest (outcome.made ++ pending outcome.top)
    loss-outcome = more_taken _ _ _ _ occurrences-outcome

    -- No digest is taken out more often than the old state has it, nor made more often than the new one does.
    pub lost-within : count_by (λ e. pointwise nat_eq e digest) outcome.lost ≤ digest_occurrences state digest
    lost-within = let old = lost_and_kept in omega arith

    pub made-within : count_of_digest digest (outcome.made ++ pending outcome.top) ≤ digest_occurrences (after state changes) digest
    made-within = let new = made_and_kept (by_digest counts) in omega arith
