-- Places of the new state that are no places of the old one and not on the path of a changed key: each is cut out of a touched leaf or extension.
use Rattle.std.proofs.Common.{◌≡◌, ◌≢◌, ℕ, ◌<◌, true, false, List, [], ◌∷◌, ◌++◌, Option, None, Some, Contains, refl, sym, ◌∙◌, ap, ap₂, subst, ◌⊎◌, inl, inr, append_assoc}
use Rattle.std.specs.List.{cons_option}
use Rattle.std.specs.Option.{option_map}
use Rattle.std.proofs.lemmas.Bool.{false≢true, cases_eq, or_left, true_from_ne_false, false_from_ne_true}
use Rattle.trie_model.specs.State.{State, Row, rows_of, IsState}
use Rattle.trie_model.specs.Tree.{branch, extension, rest_behind, below, ends_here, tree_of}
use Rattle.trie_model.specs.Texts.{places}
use Rattle.trie_model.specs.Root.{places_of, subtree_at}
use Rattle.trie_model.proofs.Members.{IsIn, contains_of_in, in_of_contains, all_at, all_of}
use Rattle.trie_model.proofs.Rests.{HasPrefix, HasPrefix-HasPrefix, AllHavePrefix, common_prefix-all, under, under-below, below-under, below-nil, below-none, below-append, prefix_and_rest}
use Rattle.trie_model.proofs.Trees.{tree_of-forks, tree_of-shares, by_cases}
use Rattle.trie_model.proofs.Children.{root_is_place, in_branch, in_extension}
use Rattle.trie_model.proofs.Growth.{below-under_other}
use Rattle.trie_model.proofs.Pairs.{Small, small-below, small-rows_of}
use Rattle.batch_model.specs.Changes.{Changes, after, changed_paths, AreChanges}
use Rattle.change_model.specs.Places.{above, is_branch, is_touched, leads_to, is_place_of}
use Rattle.change_model.specs.Laws.{IsCut}
use Rattle.change_model.proofs.Below.{below-after}
use Rattle.change_model.proofs.Filtered.{in_filter}
use Rattle.change_model.proofs.Forks.{Fork, Stands, at_root, at_fork, behind_fork, fork-nil, below-under_cons, small_nibble}
use Rattle.change_model.proofs.Touched.{stands_of_place, place_of_in, place_of_stands, is_place, above-behind, split_last}

-- ---- a path inside a leaf or an extension

-- a path with rows below it that is no place of them stands in the middle of the path of a place's node
record Inside (rows : List Row) (place : List ℕ) : Type 0 where
  from : List ℕ
  between : List ℕ
  path : place ≡ from ++ between
  further : between ≢ []
  place_there : IsIn (places (tree_of rows)) from
  all : AllHavePrefix between (below from rows)

AllInside : List Row → Type 0
AllInside rows = Small rows → (place : List ℕ) → below place rows ≢ [] → (IsIn (places (tree_of rows)) place → ⊥) → Inside rows place

inside_top : (rows : List Row) (place : List ℕ) → rows ≢ [] → (IsIn (places (tree_of rows)) place → ⊥) → AllHavePrefix place rows → Inside rows place
inside_top rows place some out all = record {
  from = [];
  between = place;
  path = refl;
  further = λ e. out (subst (IsIn (places (tree_of rows))) (sym e) (root_is_place rows some));
  place_there = root_is_place rows some;
  all = subst (AllHavePrefix place) (sym (below-nil rows)) all;
}

inside_one : (row : Row) → AllInside (row ∷ [])
unfolding AllInside below
inside_one row small place some out = go (rest_behind place row.0) refl
  where
    single : row ∷ [] ≢ []
    single e = cc

    go : (r : Option (List ℕ)) → rest_behind place row.0 ≡ r → Inside (row ∷ []) place
    go None e = absurd (some (ap (λ (r : Option (List ℕ)). cons_option (option_map (λ rest. (rest, row.1)) r) []) e))
    go (Some rest) e = inside_top (row ∷ []) place single out ((rest, prefix_and_rest place row.0 rest e), tt)

inside_branch : (rows : List Row) → rows ≢ [] → tree_of rows ≡ branch (ends_here rows) (λ x. tree_of (below (x ∷ []) rows)) → ((x : ℕ) → AllInside (below (x ∷ []) rows)) → AllInside rows
unfolding AllInside
inside_branch rows filled e further small [] some out = absurd (out (root_is_place rows filled))
inside_branch rows filled e further small (x ∷ place) some out =
    let more : below place (below (x ∷ []) rows) ≢ [] = subst (λ (rs : List Row). rs ≢ []) (below-append (x ∷ []) place rows) some in
    let tiny : x < 16 = small_nibble x rows small (λ none. more (ap (below place) none ∙ below-none place)) in
    let up : (p : List ℕ) → IsIn (places (tree_of (below (x ∷ []) rows))) p → IsIn (places (tree_of rows)) (x ∷ p) = λ p i. subst (λ t. IsIn (places t) (x ∷ p)) (sym e) (in_branch (ends_here rows) (λ y. tree_of (below (y ∷ []) rows)) x p tiny i) in
    let there : Inside (below (x ∷ []) rows) place = further x (small-below (x ∷ []) rows small) place more (λ i. out (up place i)) in
    record {
      from = x ∷ there.from;
      between = there.between;
      path = ap (λ (p : List ℕ). x ∷ p) there.path;
      further = there.further;
      place_there = up there.from there.place_there;
      all = subst (AllHavePrefix there.between) (sym (below-append (x ∷ []) there.from rows)) there.all;
    }

-- of two paths with a row below both, one is a prefix of the other
one_of_both : (prefix place : List ℕ) (rows : List Row) → below place (under prefix rows) ≢ [] → HasPrefix prefix place ⊎ HasPrefix place prefix
unfolding below
one_of_both [] place rows some = inl (place, refl)
one_of_both (x ∷ prefix) [] rows some = inr (x ∷ prefix, refl)
one_of_both (x ∷ prefix) (y ∷ place) rows some =
    let more = subst (λ (rs : List Row). rs ≢ []) (below-under_cons y x place prefix rows) some in
    elim (cases_eq y x) [
      | inl same ↦
          let rs : below (y ∷ []) (under (x ∷ []) (under prefix rows)) ≡ under prefix rows = subst (λ z. below (z ∷ []) (under (x ∷ []) (under prefix rows)) ≡ under prefix rows) (sym same) (below-under (x ∷ []) (under prefix rows)) in
          elim (one_of_both prefix place rows (subst (λ (others : List Row). below place others ≢ []) rs more)) [
            | inl h ↦ inl (h.0, ap₂ (λ (a : ℕ) (others : List ℕ). a ∷ others) same h.1)
            | inr h ↦ inr (h.0, ap₂ (λ (a : ℕ) (others : List ℕ). a ∷ others) (sym same) h.1)
          ]
      | inr apart ↦ absurd (subst (λ (others : List Row). below place others ≢ []) (below-under_other y x (under prefix rows) apart) more refl)
    ]

inside_extension : (rows : List Row) (prefix : List ℕ) → rows ≢ [] → AllHavePrefix prefix rows → tree_of rows ≡ extension prefix (tree_of (below prefix rows)) → AllInside (below prefix rows) → AllInside rows
unfolding AllInside
inside_extension rows prefix filled all e further small place some out =
    go (one_of_both prefix place (below prefix rows) (subst (λ (rs : List Row). below place rs ≢ []) (sym (under-below prefix rows all)) some))
  where
    up : (p : List ℕ) → IsIn (places (tree_of (below prefix rows))) p → IsIn (places (tree_of rows)) (prefix ++ p)
    up p i = subst (λ t. IsIn (places t) (prefix ++ p)) (sym e) (in_extension prefix (tree_of (below prefix rows)) p i)

    go : HasPrefix prefix place ⊎ HasPrefix place prefix → Inside rows place
    go (inl h) =
        let there : Inside (below prefix rows) h.0 = further (small-below prefix rows small) h.0 (subst (λ (rs : List Row). rs ≢ []) (below-append prefix h.0 rows) (subst (λ (p : List ℕ). below p rows ≢ []) h.1 some)) (λ i. out (subst (IsIn (places (tree_of rows))) (sym h.1) (up h.0 i))) in
        record {
          from = prefix ++ there.from;
          between = there.between;
          path = h.1 ∙ ap (λ (p : List ℕ). prefix ++ p) there.path ∙ sym (append_assoc prefix there.from there.between);
          further = there.further;
          place_there = up there.from there.place_there;
          all = subst (AllHavePrefix there.between) (sym (below-append prefix there.from rows)) there.all;
        }
    go (inr h) = inside_top rows place filled out (all_of (λ row. HasPrefix place row.0) rows (λ row i. HasPrefix-HasPrefix place prefix row.0 h (all_at (λ row. HasPrefix prefix row.0) rows row all i)))

inside : (rows : List Row) → Small rows → (place : List ℕ) → below place rows ≢ [] → (IsIn (places (tree_of rows)) place → ⊥) → Inside rows place
unfolding AllInside
inside = by_cases AllInside (record {
  none = λ small place some out. absurd (some (below-none place));
  one = inside_one;
  forks = λ row next rows e further. inside_branch (row ∷ next ∷ rows) (filled row (next ∷ rows)) (tree_of-forks row next rows e) further;
  shares = λ row next rows x prefix e further.
      let all = subst (λ (f : List ℕ). AllHavePrefix f (row ∷ next ∷ rows)) e (common_prefix-all row (next ∷ rows)) in
      inside_extension (row ∷ next ∷ rows) (x ∷ prefix) (filled row (next ∷ rows)) all (tree_of-shares row next rows x prefix e) further;
})
  where
    filled : (row : Row) (rows : List Row) → row ∷ rows ≢ []
    filled row rows e = cc

-- ---- of a batch

some_below : (rows : List Row) (place : List ℕ) → Stands rows place → below place rows ≢ []
some_below rows place (at_root top some) = subst (λ (p : List ℕ). below p rows ≢ []) (sym top) (subst (λ (rs : List Row). rs ≢ []) (sym (below-nil rows)) some)
some_below rows place (at_fork f) = λ e. fork-nil (subst Fork e f)
some_below rows place (behind_fork q x path f some) = some

-- a fork between two paths below which no row changes
stands_before : (old new : List Row) (place from between : List ℕ) → place ≡ from ++ between → between ≢ [] → below from new ≡ below from old → below place new ≡ below place old → Stands new place → Stands old place
stands_before old new place from between path further same here (at_root top some) = absurd (further (no_more from between (sym path ∙ top)))
  where
    no_more : (p q : List ℕ) → p ++ q ≡ [] → q ≡ []
    no_more [] q e = e
    no_more (x ∷ p) q e = cc
stands_before old new place from between path further same here (at_fork f) = at_fork (subst Fork here f)
stands_before old new place from between path further same here (behind_fork q x end f some) = go (split_last between)
  where
    go : (between ≡ []) ⊎ ((r : List ℕ) × (y : ℕ) × (between ≡ r ++ y ∷ [])) → Stands old place
    go (inl none) = absurd (further none)
    go (inr r) =
        let up : q ≡ from ++ r.0 = sym (above-behind q x) ∙ ap above (sym end ∙ path ∙ ap (λ (p : List ℕ). from ++ p) r.2 ∙ sym (append_assoc from r.0 (r.1 ∷ []))) ∙ above-behind (from ++ r.0) r.1 in
        let rows : below q new ≡ below q old = ap (λ (p : List ℕ). below p new) up ∙ below-append from r.0 new ∙ ap (below r.0) same ∙ sym (below-append from r.0 old) ∙ ap (λ (p : List ℕ). below p old) (sym up) in
        behind_fork q x end (subst Fork rows f) (subst (λ (rs : List Row). rs ≢ []) here some)

pub cut_from_touched : (state : State) (changes : Changes) (place : List ℕ) → IsState state → AreChanges changes → Contains (places_of (after state changes)) place → leads_to (changed_paths changes) place ≡ false → is_place_of state place ≡ false → IsCut state changes place
unfolding is_touched subtree_at
cut_from_touched state changes place is are h none new =
    let old : List Row = rows_of state in
    let same : below place (rows_of (after state changes)) ≡ below place old = below-after state changes place none in
    let there_new : Stands (rows_of (after state changes)) place = stands_of_place (after state changes) place h in
    let no_place_before : Contains (places_of state) place → ⊥ = λ i. false≢true (sym new ∙ is_place state place i) in
    let there : Inside old place = inside old (small-rows_of state is) place (subst (λ (rs : List Row). rs ≢ []) same (some_below (rows_of (after state changes)) place there_new)) (λ i. no_place_before (place_of_in state place i)) in
    let led : leads_to (changed_paths changes) there.from ≡ true = true_from_ne_false (leads_to (changed_paths changes) there.from) (λ e. no_place_before (place_of_stands state place (small-rows_of state is) (stands_before old (rows_of (after state changes)) place there.from there.between there.path there.further (below-after state changes there.from e) same there_new))) in
    record {
      from = there.from;
      between = there.between;
      path = there.path;
      further = there.further;
      touched = contains_of_in _ there.from (in_filter (is_touched state [] changes) (places_of state) there.from (in_of_contains _ there.from (place_of_in state there.from there.place_there)) (or_left _ _ led));
      no_branch = false_from_ne_true (is_branch (tree_of (below place (rows_of (after state changes))))) (λ f. no_place_before (place_of_stands state place (small-rows_of state is) (at_fork (subst Fork same f))));
      rows = sym (under-below there.between (below there.from old) there.all) ∙ ap (under there.between) (sym (below-append there.from there.between old) ∙ ap (λ (p : List ℕ). below p old) (sym there.path) ∙ sym same);
    }
