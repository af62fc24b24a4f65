-- What a batch takes out of the texts of a state and what it puts in: both states have the rest, text by text.
use Rattle.std.proofs.Common.{◌≡◌, ℕ, ◌+◌, ◌-◌, ◌&&◌, Bool, true, false, cond, not, T, length, List, [], ◌∷◌, map, Option, None, Some, is_some, is_none, nat_cmp, refl, sym, ◌∙◌, ap, ap₂, subst, ◌⊎◌, inl, inr, arith}
use Rattle.std.specs.List.{AllByRecursion, filter, filter_map, cons_option, sum_by, count_by}
use Rattle.std.specs.List.Sorted.{IsStrictlySortedBy}
use Rattle.std.specs.Option.{option_map}
use Rattle.std.specs.Cmp.Lexicographic.{slice_cmp, nat_list_cmp_total}
use Rattle.std.specs.FinMap.{entries, entries_sorted, get, get-entries, find, is_sorted}
use Rattle.std.specs.FinMap.Entries.{where_key, below_all, find-where_key, is_sorted-where_key, same_entries}
use Rattle.std.proofs.lemmas.Bool.{false≢true, or_parts, or_from, not-true, not-false}
use Rattle.std.proofs.lemmas.List.Sums.{sum_by-cons, sum_by-append}
use Rattle.std.proofs.lemmas.List.Folds.{fold-map}
use Rattle.std.proofs.lemmas.List.Filters.{sum_by-filter_both}
use Rattle.std.proofs.lemmas.List.Kept.{IsStrictlySortedBy-filter}
use Rattle.byte_model.specs.Nibbles.{nibbles}
use Rattle.trie_model.specs.State.{State, Row, rows_of}
use Rattle.trie_model.specs.Root.{texts_of, text_at, places_of}
use Rattle.trie_model.proofs.Members.{IsIn, contains_of_in, in_of_contains, all_at}
use Rattle.trie_model.proofs.Worked.{Pair, rows_of_pairs}
use Rattle.trie_model.proofs.Order.{Before, Rising, rising-places_of, not_before_itself, not_before_back}
use Rattle.batch_model.specs.Changes.{Changes, Change, after, decided, changed_paths}
use Rattle.change_model.specs.Places.{leads_to, is_place_of, is_written, written_places}
use Rattle.change_model.specs.Ledger.{set_values, made_texts, fresh, gone}
use Rattle.change_model.specs.Exchange.{is_given_up, former_values, taken_texts}
use Rattle.visit_model.proofs.RisingRows.{both_so}
use Rattle.trie_model.proofs.Order.{first_test, second_test}
use Rattle.batch_model.proofs.Laying.{ties, same_key, same_of_ties, all_of_get, get-after}
use Rattle.change_model.proofs.Below.{where_key-agree, below-after}
use Rattle.trie_model.proofs.Costs.{text_at-same}
use Rattle.change_model.proofs.Filtered.{in_filter, in_filter_from, map-agree_in}
use Rattle.change_model.proofs.Touched.{is_place, place_from_test}

-- ---- sums

pub sum_by-map : {X Y : Type 0} (f : Y → ℕ) (h : X → Y) (xs : List X) → sum_by f (map h xs) ≡ sum_by (λ x. f (h x)) xs
sum_by-map {Y = Y} f h xs = fold-map (λ (n : ℕ) (y : Y). n + f y) h 0 xs

-- ---- the values of the changed keys

-- the entries that a map has at the keys of some list
picked : {X Y : Type 0} → (List ℕ → Option X) → List (List ℕ × Y) → List (List ℕ × X)
picked g es = filter_map (λ e. option_map (λ v. (e.0, v)) (g e.0)) es

module _ {X Y : Type 0} (g : List ℕ → Option X) where
  below-picked : (key : List ℕ) (es : List (List ℕ × Y)) → T (below_all (slice_cmp nat_cmp) key es) → T (below_all (slice_cmp nat_cmp) key (picked g es))
  unfolding picked
  below-picked key [] h = tt
  below-picked key (e ∷ es) h = go (g e.0) (below-picked key es (second_test _ _ h))
    where
      go : (o : Option X) → T (below_all (slice_cmp nat_cmp) key (picked g es)) → T (below_all (slice_cmp nat_cmp) key (cons_option (option_map (λ v. (e.0, v)) o) (picked g es)))
      go None further = further
      go (Some v) further = both_so _ _ (first_test _ _ h) further

  sorted-picked : (es : List (List ℕ × Y)) → T (is_sorted (slice_cmp nat_cmp) es) → T (is_sorted (slice_cmp nat_cmp) (picked g es))
  unfolding picked
  sorted-picked [] h = tt
  sorted-picked (e ∷ es) h = go (g e.0) (sorted-picked es (second_test _ _ h))
    where
      go : (o : Option X) → T (is_sorted (slice_cmp nat_cmp) (picked g es)) → T (is_sorted (slice_cmp nat_cmp) (cons_option (option_map (λ v. (e.0, v)) o) (picked g es)))
      go None further = further
      go (Some v) further = both_so _ _ (below-picked e.0 es (first_test _ _ h)) further

  find-picked : (q : List ℕ) (es : List (List ℕ × Y)) → find (slice_cmp nat_cmp) q (picked g es) ≡ cond (is_some (find (slice_cmp nat_cmp) q es)) (g q) None
  unfolding picked
  find-picked q [] = refl
  find-picked q (e ∷ es) =
      elim (ties q e.0) as (λ b. ties q e.0 ≡ b → find (slice_cmp nat_cmp) q (cons_option (option_map (λ v. (e.0, v)) (g e.0)) (picked g es)) ≡ cond (is_some (cond b (Some e.1) (find (slice_cmp nat_cmp) q es))) (g q) None) [
        | true ↦ λ t. here t (g e.0) (ap g (same_of_ties q e.0 t)) (find-picked q es)
        | false ↦ λ t. past t (g e.0) ∙ find-picked q es
      ] refl
    where
      neither : (b : Bool) → ◌≡◌ {A = Option X} (cond b None None) None
      neither true = refl
      neither false = refl

      here : ties q e.0 ≡ true → (o : Option X) → g q ≡ o → find (slice_cmp nat_cmp) q (picked g es) ≡ cond (is_some (find (slice_cmp nat_cmp) q es)) (g q) None → find (slice_cmp nat_cmp) q (cons_option (option_map (λ v. (e.0, v)) o) (picked g es)) ≡ g q
      here t None is further = further ∙ ap (λ (o : Option X). cond (is_some (find (slice_cmp nat_cmp) q es)) o None) is ∙ neither _ ∙ sym is
      here t (Some v) is further = ap (λ b. cond b (Some v) (find (slice_cmp nat_cmp) q (picked g es))) t ∙ sym is

      past : ties q e.0 ≡ false → (o : Option X) → find (slice_cmp nat_cmp) q (cons_option (option_map (λ v. (e.0, v)) o) (picked g es)) ≡ find (slice_cmp nat_cmp) q (picked g es)
      past t None = refl
      past t (Some v) = ap (λ b. cond b (Some v) (find (slice_cmp nat_cmp) q (picked g es))) t

  sum_by-picked : (f : X → ℕ) (es : List (List ℕ × Y)) → sum_by (λ e. f e.1) (picked g es) ≡ sum_by f (filter_map (λ e. g e.0) es)
  unfolding picked
  sum_by-picked f [] = refl
  sum_by-picked f (e ∷ es) = go (g e.0) (sum_by-picked f es)
    where
      go : (o : Option X) → sum_by (λ (e : List ℕ × X). f e.1) (picked g es) ≡ sum_by f (filter_map (λ e. g e.0) es) → sum_by (λ e. f e.1) (cons_option (option_map (λ v. (e.0, v)) o) (picked g es)) ≡ sum_by f (cons_option o (filter_map (λ e. g e.0) es))
      go None further = further
      go (Some v) further = sum_by-cons (λ e. f e.1) (e.0, v) (picked g es) ∙ ap (λ (n : ℕ). f v + n) further ∙ sym (sum_by-cons f v (filter_map (λ e. g e.0) es))

-- the values of a map are those at the keys of a batch, and those at other keys
abbrev is_changed : Changes → List ℕ → Bool
is_changed changes q = is_some (get changes q)

abbrev other_values : State → Changes → List Pair
other_values state changes = where_key (slice_cmp nat_cmp) (λ q. not (is_changed changes q)) (entries state)

changed_entries : (state : State) (changes : Changes) → where_key (slice_cmp nat_cmp) (is_changed changes) (entries state) ≡ picked (get state) (entries changes)
changed_entries state changes =
    same_entries (slice_cmp nat_cmp) nat_list_cmp_total same_key
    (where_key (slice_cmp nat_cmp) (is_changed changes) (entries state))
    (picked (get state) (entries changes))
    (is_sorted-where_key (slice_cmp nat_cmp) (is_changed changes) (entries state) (entries_sorted state))
    (sorted-picked (get state) (entries changes) (entries_sorted changes))
    (λ q.
    find-where_key (slice_cmp nat_cmp) (is_changed changes) q (λ x e. ap (is_changed changes) (sym (same_key q x e))) (entries state)
    ∙ ap₂ (λ (b : Bool) (o : Option (List ℕ)). cond b o None) (ap is_some (get-entries changes q)) (sym (get-entries state q))
    ∙ sym (find-picked (get state) q (entries changes)))

values_weigh : (f : List ℕ → ℕ) (state : State) → sum_by f (map (λ row. row.1) (rows_of state)) ≡ sum_by (λ e. f e.1) (entries state)
unfolding rows_of
values_weigh f state =
    sum_by-map f (λ (row : Row). row.1) (rows_of_pairs (entries state))
    ∙ sum_by-map (λ (row : Row). f row.1) (λ (pair : Pair). (nibbles pair.0, pair.1)) (entries state)

values_by_keys : (f : List ℕ → ℕ) (state : State) (changes : Changes) → sum_by f (map (λ row. row.1) (rows_of state)) ≡ sum_by f (filter_map (λ change. get state change.0) (entries changes)) + sum_by (λ e. f e.1) (other_values state changes)
values_by_keys f state changes =
    values_weigh f state
    ∙ sym (sum_by-filter_both (λ (e : Pair). is_changed changes e.0) (λ (e : Pair). not (is_changed changes e.0)) (λ e. refl) (λ (e : Pair). f e.1) (entries state))
    ∙ ap (λ (n : ℕ). n + sum_by (λ (e : Pair). f e.1) (other_values state changes)) (ap (sum_by (λ (e : Pair). f e.1)) (changed_entries state changes) ∙ sum_by-picked (get state) f (entries changes))

others_stay : (state : State) (changes : Changes) → other_values (after state changes) changes ≡ other_values state changes
others_stay state changes = where_key-agree (λ q. not (is_changed changes q)) (after state changes) state (λ q h. get-after state changes q ∙ go q (get changes q) h)
  where
    go : (q : List ℕ) (o : Option (Option (List ℕ))) → not (is_some o) ≡ true → decided o (get state q) ≡ get state q
    go q None h = refl
    go q (Some value) h = absurd (false≢true h)

filter_map-agree : {X Y : Type 0} (f g : X → Option Y) (xs : List X) → AllByRecursion (λ x. f x ≡ g x) xs → filter_map f xs ≡ filter_map g xs
filter_map-agree f g [] h = refl
filter_map-agree {Y = Y} f g (x ∷ xs) h = ap₂ (λ (o : Option Y) (ys : List Y). cons_option o ys) h.0 (filter_map-agree f g xs h.1)

-- what a batch sets is what its keys have afterwards
pub set_values-after : (state : State) (changes : Changes) → filter_map (λ change. get (after state changes) change.0) (entries changes) ≡ set_values changes
set_values-after state changes =
    filter_map-agree (λ (change : Change). get (after state changes) change.0) (λ (change : Change). change.1) (entries changes)
    (all_of_get (λ change. get (after state changes) change.0 ≡ change.1) changes (λ q v is. get-after state changes q ∙ ap (λ (o : Option (Option (List ℕ))). decided o (get state q)) is))

-- ---- the texts of places

-- two rising lists with the same members are one
same_rising : (ps qs : List (List ℕ)) → Rising ps → Rising qs → ((p : List ℕ) → IsIn ps p → IsIn qs p) → ((p : List ℕ) → IsIn qs p → IsIn ps p) → ps ≡ qs
unfolding IsStrictlySortedBy
same_rising [] [] h k to from = refl
same_rising [] (q ∷ qs) h k to from = absurd (from q (inl refl))
same_rising (p ∷ ps) [] h k to from = absurd (to p (inl refl))
same_rising (p ∷ ps) (q ∷ qs) h k to from = go (λ e. same_rising ps qs h.1 k.1 (rest e) (back e)) (to p (inl refl)) (from q (inl refl))
  where
    rest : p ≡ q → (r : List ℕ) → IsIn ps r → IsIn qs r
    rest e r i = elim (to r (inr i)) [
      | inl same ↦ absurd (not_before_itself r (subst (λ (s : List ℕ). Before s r) (e ∙ same) (all_at (λ s. Before p s) ps r h.0 i)))
      | inr j ↦ j
    ]

    back : p ≡ q → (r : List ℕ) → IsIn qs r → IsIn ps r
    back e r i = elim (from r (inr i)) [
      | inl same ↦ absurd (not_before_itself r (subst (λ (s : List ℕ). Before s r) (sym e ∙ same) (all_at (λ s. Before q s) qs r k.0 i)))
      | inr j ↦ j
    ]

    go : (p ≡ q → ps ≡ qs) → (q ≡ p) ⊎ IsIn qs p → (p ≡ q) ⊎ IsIn ps q → p ∷ ps ≡ q ∷ qs
    go further (inl e) other = ap₂ (λ (a : List ℕ) (others : List (List ℕ)). a ∷ others) (sym e) (further (sym e))
    go further (inr i) (inl e) = ap₂ (λ (a : List ℕ) (others : List (List ℕ)). a ∷ others) e (further e)
    go further (inr i) (inr j) = absurd (not_before_back p q (all_at (λ s. Before p s) ps q h.0 j) (all_at (λ s. Before q s) qs p k.0 i))

kept_in_new : State → Changes → List (List ℕ)
kept_in_new state changes = filter (λ place. not (is_written state changes place)) (places_of (after state changes))

kept_of_old : State → Changes → List (List ℕ)
kept_of_old state changes = filter (λ place. not (is_given_up state changes place)) (places_of state)

-- the places that are not written are those that are not given up
kept_alike : (state : State) (changes : Changes) → kept_in_new state changes ≡ kept_of_old state changes
unfolding kept_in_new kept_of_old is_written is_given_up
kept_alike state changes =
    same_rising (kept_in_new state changes) (kept_of_old state changes)
    (IsStrictlySortedBy-filter (slice_cmp nat_cmp) (λ place. not (is_written state changes place)) (places_of (after state changes)) (rising-places_of (after state changes)))
    (IsStrictlySortedBy-filter (slice_cmp nat_cmp) (λ place. not (is_given_up state changes place)) (places_of state) (rising-places_of state))
    (λ place i.
    let r = in_filter_from (λ p. not (is_written state changes p)) (places_of (after state changes)) place i in
    let parts = or_parts (leads_to (changed_paths changes) place) (not (is_place_of state place)) (not-true _ r.1) in
    in_filter (λ p. not (is_given_up state changes p)) (places_of state) place
    (in_of_contains (places_of state) place (place_from_test state place (not-false _ parts.1)))
    (ap not (or_from _ _ parts.0 (ap not (is_place (after state changes) place (contains_of_in (places_of (after state changes)) place r.0))))))
    (λ place i.
    let r = in_filter_from (λ p. not (is_given_up state changes p)) (places_of state) place i in
    let parts = or_parts (leads_to (changed_paths changes) place) (not (is_place_of (after state changes) place)) (not-true _ r.1) in
    in_filter (λ p. not (is_written state changes p)) (places_of (after state changes)) place
    (in_of_contains (places_of (after state changes)) place (place_from_test (after state changes) place (not-false _ parts.1)))
    (ap not (or_from _ _ parts.0 (ap not (is_place state place (contains_of_in (places_of state) place r.0))))))

-- and have the same texts
kept_texts : (state : State) (changes : Changes) → map (text_at (after state changes)) (kept_in_new state changes) ≡ map (text_at state) (kept_of_old state changes)
unfolding kept_in_new is_written
kept_texts state changes =
    map-agree_in (text_at (after state changes)) (text_at state) (kept_in_new state changes) (λ place i.
    let r = in_filter_from (λ p. not (is_written state changes p)) (places_of (after state changes)) place i in
    let parts = or_parts (leads_to (changed_paths changes) place) (not (is_place_of state place)) (not-true _ r.1) in
    text_at-same (after state changes) state place place (below-after state changes place parts.0))
    ∙ ap (map (text_at state)) (kept_alike state changes)

-- the texts of some places are those of the places that pass a test, and those of the others
texts_by_test : (f : List ℕ → ℕ) (test : List ℕ → Bool) (text : List ℕ → List ℕ) (places : List (List ℕ)) → sum_by f (map text places) ≡ sum_by f (map text (filter test places)) + sum_by f (map text (filter (λ place. not (test place)) places))
texts_by_test f test text places =
    sum_by-map f text places
    ∙ sym (sum_by-filter_both test (λ place. not (test place)) (λ place. refl) (λ place. f (text place)) places)
    ∙ ap₂ (λ (a b : ℕ). a + b) (sym (sum_by-map f text (filter test places))) (sym (sum_by-map f text (filter (λ place. not (test place)) places)))

-- ---- the exchange

sums : (new_written new_kept old_given old_kept set former others new_values old_values new_texts old_texts : ℕ) → new_texts ≡ new_written + new_kept → old_texts ≡ old_given + old_kept → new_kept ≡ old_kept → new_values ≡ set + others → old_values ≡ former + others → (new_texts + new_values) + (old_given + former) ≡ (old_texts + old_values) + (new_written + set)
sums new_written new_kept old_given old_kept set former others new_values old_values new_texts old_texts a b c d e = omega arith

weighed : (f : List ℕ → ℕ) (state : State) (changes : Changes) → sum_by f (texts_of (after state changes)) + sum_by f (taken_texts state changes) ≡ sum_by f (texts_of state) + sum_by f (made_texts state changes)
unfolding texts_of taken_texts made_texts kept_in_new kept_of_old
weighed f state changes =
    let new : State = after state changes in
    let made : List (List ℕ) = map (text_at new) (written_places state changes) in
    let given : List (List ℕ) = map (text_at state) (filter (is_given_up state changes) (places_of state)) in
    ap₂ (λ (a b : ℕ). a + b)
    (sum_by-append f (map (text_at new) (places_of new)) (map (λ row. row.1) (rows_of new)))
    (sum_by-append f given (former_values state changes))
    ∙ sums (sum_by f made) (sum_by f (map (text_at new) (kept_in_new state changes))) (sum_by f given) (sum_by f (map (text_at state) (kept_of_old state changes))) (sum_by f (set_values changes)) (sum_by f (former_values state changes)) (sum_by (λ e. f e.1) (other_values state changes)) (sum_by f (map (λ row. row.1) (rows_of new))) (sum_by f (map (λ row. row.1) (rows_of state))) (sum_by f (map (text_at new) (places_of new))) (sum_by f (map (text_at state) (places_of state)))
    (texts_by_test f (is_written state changes) (text_at new) (places_of new))
    (texts_by_test f (is_given_up state changes) (text_at state) (places_of state))
    (ap (sum_by f) (kept_texts state changes))
    (values_by_keys f new changes ∙ ap₂ (λ (a b : ℕ). a + b) (ap (sum_by f) (set_values-after state changes)) (ap (sum_by (λ (e : Pair). f e.1)) (others_stay state changes)))
    (values_by_keys f state changes)
    ∙ sym (ap₂ (λ (a b : ℕ). a + b)
    (sum_by-append f (map (text_at state) (places_of state)) (map (λ row. row.1) (rows_of state)))
    (sum_by-append f made (set_values changes)))

pub exchange : (test : List ℕ → Bool) (state : State) (changes : Changes) → count_by test (texts_of (after state changes)) + count_by test (taken_texts state changes) ≡ count_by test (texts_of state) + count_by test (made_texts state changes)
exchange test state changes = weighed (λ t. cond (test t) 1 0) state changes

pub more_made : (new taken old made : ℕ) → new + taken ≡ old + made → new - old ≡ made - taken
more_made new taken old made e = omega arith

pub more_taken : (new taken old made : ℕ) → new + taken ≡ old + made → old - new ≡ taken - made
more_taken new taken old made e = omega arith

-- ---- how many pairs

length-ones : {X : Type 0} (xs : List X) → length xs ≡ sum_by (λ x. 1) xs
length-ones [] = refl
length-ones (x ∷ xs) = let rest = length-ones xs in let step = sum_by-cons (λ x. 1) x xs in omega arith

-- a key is fresh or was there, and is set or gone
each_counted : (state : State) (changes : List Change) → sum_by (λ v. 1) (filter_map (λ change. get state change.0) changes) + count_by (λ change. is_some change.1 && not (is_some (get state change.0))) changes ≡ sum_by (λ v. 1) (filter_map (λ change. change.1) changes) + count_by (λ change. is_none change.1 && is_some (get state change.0)) changes
each_counted state [] = refl
each_counted state (change ∷ changes) =
    rw (sum_by-cons (λ (change : Change). cond (is_some change.1 && not (is_some (get state change.0))) 1 0) change changes, sum_by-cons (λ (change : Change). cond (is_none change.1 && is_some (get state change.0)) 1 0) change changes)
    (go change.1 (get state change.0) (each_counted state changes))
  where
    formers : List (List ℕ)
    formers = filter_map (λ change. get state change.0) changes

    sets : List (List ℕ)
    sets = filter_map (λ change. change.1) changes

    appear : ℕ
    appear = count_by (λ change. is_some change.1 && not (is_some (get state change.0))) changes

    disappear : ℕ
    disappear = count_by (λ change. is_none change.1 && is_some (get state change.0)) changes

    go : (o p : Option (List ℕ)) → sum_by (λ v. 1) formers + appear ≡ sum_by (λ v. 1) sets + disappear → sum_by (λ v. 1) (cons_option p formers) + (cond (is_some o && not (is_some p)) 1 0 + appear) ≡ sum_by (λ v. 1) (cons_option o sets) + (cond (is_none o && is_some p) 1 0 + disappear)
    go None None h = omega arith
    go None (Some w) h = let a = sum_by-cons (λ v. 1) w formers in omega arith
    go (Some v) None h = let b = sum_by-cons (λ v. 1) v sets in omega arith
    go (Some v) (Some w) h =
        let a = sum_by-cons (λ v. 1) w formers in
        let b = sum_by-cons (λ v. 1) v sets in
        omega arith

pub pairs_counted : (state : State) (changes : Changes) → length (entries (after state changes)) + gone state changes ≡ length (entries state) + fresh state changes
pairs_counted state changes =
    let new = values_by_keys (λ v. 1) (after state changes) changes in
    let old = values_by_keys (λ v. 1) state changes in
    let new_length : length (entries (after state changes)) ≡ sum_by (λ v. 1) (map (λ row. row.1) (rows_of (after state changes))) = length-ones (entries (after state changes)) ∙ sym (values_weigh (λ v. 1) (after state changes)) in
    let old_length : length (entries state) ≡ sum_by (λ v. 1) (map (λ row. row.1) (rows_of state)) = length-ones (entries state) ∙ sym (values_weigh (λ v. 1) state) in
    let sets = ap (sum_by (λ v. 1)) (set_values-after state changes) in
    let others = ap (sum_by (λ (e : Pair). 1)) (others_stay state changes) in
    let each = each_counted state (entries changes) in
    omega arith
