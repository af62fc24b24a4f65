-- Something is left below a place of a trie exactly where the later rows have something there.
use Rattle.std.proofs.Common.{◌≡◌, ℕ, zero, suc, ◌<◌, Bool, true, false, if◌then◌else◌, not, List, [], ◌∷◌, map, Option, None, Some, is_some, ◌⊎◌, inl, inr, refl, sym, ◌∙◌, ap, subst, arith, T}
use Rattle.std.specs.Prelude.{◌||◌, ◌&&◌, ⊤}
use Rattle.std.specs.List.{cons_option}
use Rattle.std.proofs.lemmas.Bool.{cases_lt, or_cases, or_left, or_right}
use Rattle.std.specs.Option.{option_map}
use Rattle.std.specs.FinMap.{entries, entries_sorted, find, is_sorted}
use Rattle.std.specs.Cmp.Lexicographic.{slice_cmp}
use Rattle.std.proofs.Common.{nat_cmp}
use Rattle.std.proofs.lemmas.Option.{none-some}
use Rattle.byte_model.specs.Nibbles.{nibbles, AreNibbles}
use Rattle.byte_model.specs.Node.{ValueRef}
use Rattle.trie_model.specs.State.{Row}
use Rattle.trie_model.specs.Tree.{below, ends_here, rest_behind, common_prefix, tree_of}
use Rattle.trie_model.specs.Texts.{value_ref}
use Rattle.trie_model.proofs.Rests.{HasPrefix, AllHavePrefix, common_prefix-all, below-none, prefix_and_rest}
use Rattle.trie_model.proofs.Trees.{tree_of-nil, tree_of-one, tree_of-forks, tree_of-shares, by_cases}
use Rattle.trie_model.proofs.Pairs.{Small, small-below}
use Rattle.visit_model.specs.Shown.{shown}
use Rattle.visit_model.specs.Keys.{key_of}
use Rattle.batch_model.specs.Changes.{Changes, Change, change_rows, decided, found_at}
use Rattle.change_model.specs.Visits.{changes_behind, is_untouched, sets_some, is_deletion, is_deleted, is_some_after, has_value_after, any_below, is_left}
use Rattle.batch_model.proofs.Laying.{find_before}
use Rattle.change_model.proofs.Laid.{IsLaid, laid-below, same_path, path_of_test, test_of_path, same_tests, found_at-below, found_at-changes_behind, found_at-nibbles, key_of-nibbles}

-- ---- tests

pub any_below-at : (f : ℕ → Bool) (n x : ℕ) → x < n → f x ≡ true → any_below f n ≡ true
unfolding any_below
any_below-at f zero x h e = absurd (omega arith)
any_below-at f (suc n) x h e =
    elim (cases x n h) [
      | inl l ↦ or_left (any_below f n) (f n) (any_below-at f n x l e)
      | inr same ↦ or_right (any_below f n) (f n) (subst (λ y. f y ≡ true) same e)
    ]
  where
    cases : (x n : ℕ) → x < suc n → (x < n) ⊎ (x ≡ n)
    cases x n h = elim (cases_lt x n) [ inl l ↦ inl l | inr r ↦ inr (omega arith) ]

pub any_below_from : (f : ℕ → Bool) (n : ℕ) → any_below f n ≡ true → (x : ℕ) × (x < n) × (f x ≡ true)
unfolding any_below
any_below_from f zero e = cc
any_below_from f (suc n) e =
    elim (or_cases (any_below f n) (f n) e) [
      | inl l ↦ let r = any_below_from f n l in (r.0, (let h : r.0 < n = r.1 in omega arith), r.2)
      | inr r ↦ (n, omega arith, r)
    ]

-- ---- rows

unfoldable pub has_rows : List Row → Bool
has_rows [] = false
has_rows (row ∷ rows) = true

pub has_rows-found : (rows : List Row) (q v : List ℕ) → found_at q rows ≡ Some v → has_rows rows ≡ true
unfolding has_rows found_at
has_rows-found [] q v e = cc
has_rows-found (row ∷ rows) q v e = refl

pub same_itself : (p : List ℕ) → same_path p p ≡ true
same_itself p = test_of_path p p refl

pub found_of_rows : (rows : List Row) → has_rows rows ≡ true → (q : List ℕ) × (v : List ℕ) × (found_at q rows ≡ Some v)
unfolding has_rows found_at
found_of_rows [] e = cc
found_of_rows (row ∷ rows) e = (row.0, row.1, ap (λ b. if b then Some row.1 else found_at row.0 rows) (same_itself row.0))

pub has_rows-below : (p : List ℕ) (rows : List Row) → has_rows (below p rows) ≡ true → has_rows rows ≡ true
unfolding has_rows
has_rows-below p [] e = ap has_rows (sym (below-none p)) ∙ e
has_rows-below p (row ∷ rows) e = refl

pub ends_here-found_at : (rows : List Row) → ends_here rows ≡ found_at [] rows
unfolding ends_here found_at
ends_here-found_at [] = refl
ends_here-found_at (([], value) ∷ rows) = refl
ends_here-found_at ((x ∷ path, value) ∷ rows) = ends_here-found_at rows

-- a nibble at which something is found
pub small_found : (rows : List Row) (x : ℕ) (q v : List ℕ) → Small rows → found_at (x ∷ q) rows ≡ Some v → x < 16
unfolding found_at
small_found [] x q v small e = cc
small_found (row ∷ rows) x q v small e =
    elim (same_path row.0 (x ∷ q)) as (λ b. same_path row.0 (x ∷ q) ≡ b → (if b then Some row.1 else found_at (x ∷ q) rows) ≡ Some v → x < 16) [
      | true ↦ λ t _. let nibbles : AreNibbles (x ∷ q) = subst AreNibbles (path_of_test row.0 (x ∷ q) t) small.0 in nibbles.0
      | false ↦ λ t more. small_found rows x q v small.1 more
    ] refl e

prefix_found : (prefix : List ℕ) (rows : List Row) (q v : List ℕ) → AllHavePrefix prefix rows → found_at q rows ≡ Some v → HasPrefix prefix q
unfolding found_at
prefix_found prefix [] q v all e = cc
prefix_found prefix (row ∷ rows) q v all e =
    elim (same_path row.0 q) as (λ b. same_path row.0 q ≡ b → (if b then Some row.1 else found_at q rows) ≡ Some v → HasPrefix prefix q) [
      | true ↦ λ t _. subst (HasPrefix prefix) (path_of_test row.0 q t) all.0
      | false ↦ λ t more. prefix_found prefix rows q v all.1 more
    ] refl e

-- ---- changes of different paths

unfoldable pub Apart : List Change → Type 0
Apart [] = ⊤
Apart (change ∷ changes) = (found_at change.0 changes ≡ None) × Apart changes

pub apart-behind : (p : List ℕ) (changes : List Change) → Apart changes → Apart (changes_behind p changes)
unfolding Apart changes_behind
apart-behind p [] apart = tt
apart-behind p (change ∷ changes) apart =
    elim (rest_behind p change.0) as (λ r. rest_behind p change.0 ≡ r → Apart (cons_option (option_map (λ rest. (rest, change.1)) r) (changes_behind p changes))) [
      | None ↦ λ e. apart-behind p changes apart.1
      | Some rest ↦ λ e. (
        found_at-changes_behind p rest changes ∙ ap (λ (q : List ℕ). found_at q changes) (sym (prefix_and_rest p change.0 rest e)) ∙ apart.0,
        apart-behind p changes apart.1,
      )
    ] refl

pub found_sets : (changes : List Change) (q v : List ℕ) → found_at q changes ≡ Some (Some v) → sets_some changes ≡ true
unfolding found_at
found_sets [] q v e = cc
found_sets (change ∷ changes) q v e =
    elim (same_path change.0 q) as (λ b. (if b then Some change.1 else found_at q changes) ≡ Some (Some v) → (is_some change.1 || sets_some changes) ≡ true) [
      | true ↦ λ k. or_left (is_some change.1) (sets_some changes) (ap is_some (the_same change.1 v k))
      | false ↦ λ k. or_right (is_some change.1) (sets_some changes) (found_sets changes q v k)
    ] e
  where
    the_same : (o : Option (List ℕ)) (v : List ℕ) → Some o ≡ Some (Some v) → o ≡ Some v
    the_same o v e = cc

sets_found : (changes : List Change) → Apart changes → sets_some changes ≡ true → (q : List ℕ) × (v : List ℕ) × (found_at q changes ≡ Some (Some v))
unfolding Apart found_at
sets_found [] apart e = cc
sets_found ((path, Some v) ∷ changes) apart e = (path, v, ap (λ b. if b then Some (Some v) else found_at path changes) (same_itself path))
sets_found ((path, None) ∷ changes) apart e =
    let r = sets_found changes apart.1 e in (
      r.0,
      r.1,
      (
          elim (same_path path r.0) as (λ b. same_path path r.0 ≡ b → (if b then Some None else found_at r.0 changes) ≡ Some (Some r.1)) [
            | true ↦ λ t. absurd (not_found r.1 (sym apart.0 ∙ ap (λ (q : List ℕ). found_at q changes) (path_of_test path r.0 t) ∙ r.2))
            | false ↦ λ t. r.2
          ] refl),
    )
  where
    not_found : (v : List ℕ) → None ≡ Some (Some v) → ⊥
    not_found v e = cc

-- ---- what is left

abbrev IsLeftAs : List Row → Type 0
IsLeftAs rows = (changes : List Change) (later : List Row) → Apart changes → IsLaid rows changes later → Small later → is_left (shown (tree_of rows)) changes ≡ has_rows later

module _ (rows : List Row) (changes : List Change) (later : List Row) (apart : Apart changes) (laid : IsLaid rows changes later) where
  later_set : sets_some changes ≡ true → has_rows later ≡ true
  later_set e =
      let r = sets_found changes apart e in
      has_rows-found later r.0 r.1 (laid.at r.0 ∙ ap (λ (o : Option (Option (List ℕ))). decided o (found_at r.0 rows)) r.2)

  later_from : (q v : List ℕ) → found_at q later ≡ Some v → (found_at q changes ≡ Some (Some v)) ⊎ ((found_at q changes ≡ None) × (found_at q rows ≡ Some v))
  later_from q v e = go (found_at q changes) refl
    where
      go : (o : Option (Option (List ℕ))) → found_at q changes ≡ o → (found_at q changes ≡ Some (Some v)) ⊎ ((found_at q changes ≡ None) × (found_at q rows ≡ Some v))
      go None is = inr (is, ap (λ (o : Option (Option (List ℕ))). decided o (found_at q rows)) (sym is) ∙ sym (laid.at q) ∙ e)
      go (Some None) is = absurd (none-some v (ap (λ (o : Option (Option (List ℕ))). decided o (found_at q rows)) (sym is) ∙ sym (laid.at q) ∙ e))
      go (Some (Some w)) is =
          let same : Some w ≡ Some v = ap (λ (o : Option (Option (List ℕ))). decided o (found_at q rows)) (sym is) ∙ sym (laid.at q) ∙ e in
          inl (is ∙ ap Some same)

  -- where a node is there, something is left by one of three causes
  left_by : (inner : Bool) → has_rows rows ≡ true → (inner ≡ true → has_rows later ≡ true) → ((q v : List ℕ) → found_at q changes ≡ None → found_at q rows ≡ Some v → found_at q later ≡ Some v → inner ≡ true) → ((is_untouched changes || sets_some changes) || inner) ≡ has_rows later
  unfolding found_at
  left_by inner some from to =
      same_tests ((is_untouched changes || sets_some changes) || inner) (has_rows later) onward back
    where
      untouched : (cs : List Change) → is_untouched cs ≡ true → cs ≡ []
      untouched [] e = refl
      untouched (c ∷ cs) e = cc

      stays : is_untouched changes ≡ true → has_rows later ≡ true
      stays e =
          let r = found_of_rows rows some in
          has_rows-found later r.0 r.1 (laid.at r.0 ∙ ap (λ (cs : List Change). decided (found_at r.0 cs) (found_at r.0 rows)) (untouched changes e) ∙ r.2)

      onward : ((is_untouched changes || sets_some changes) || inner) ≡ true → has_rows later ≡ true
      onward e = elim (or_cases (is_untouched changes || sets_some changes) inner e) [
        | inl l ↦ elim (or_cases (is_untouched changes) (sets_some changes) l) [ inl u ↦ stays u | inr s ↦ later_set s ]
        | inr r ↦ from r
      ]

      back : has_rows later ≡ true → ((is_untouched changes || sets_some changes) || inner) ≡ true
      back e =
          let r = found_of_rows later e in
          elim (later_from r.0 r.1 r.2) [
            | inl set ↦ or_left (is_untouched changes || sets_some changes) inner (or_right (is_untouched changes) (sets_some changes) (found_sets changes r.0 r.1 set))
            | inr kept ↦ or_right (is_untouched changes || sets_some changes) inner (to r.0 r.1 kept.0 kept.1 r.2)
          ]

left_none : IsLeftAs []
unfolding is_left shown found_at
left_none changes later apart laid small =
    ap (λ t. is_left (shown t) changes) tree_of-nil
    ∙ same_tests (sets_some changes) (has_rows later) (later_set [] changes later apart laid) back
  where
    back : has_rows later ≡ true → sets_some changes ≡ true
    back e =
        let r = found_of_rows later e in
        elim (later_from [] changes later apart laid r.0 r.1 r.2) [
          | inl set ↦ found_sets changes r.0 r.1 set
          | inr kept ↦ absurd (none-some r.1 kept.1)
        ]

left_one : (row : Row) → IsLeftAs (row ∷ [])
unfolding is_left shown found_at has_rows
left_one row changes later apart laid small =
    ap (λ t. is_left (shown t) changes) (tree_of-one row)
    ∙ left_by (row ∷ []) changes later apart laid (not (is_deleted row.0 changes)) refl from to
  where
    here : found_at row.0 later ≡ decided (found_at row.0 changes) (Some row.1)
    here = laid.at row.0 ∙ ap (λ b. decided (found_at row.0 changes) (if b then Some row.1 else None)) (same_itself row.0)

    from : not (is_deleted row.0 changes) ≡ true → has_rows later ≡ true
    from e = go (found_at row.0 changes) refl e
      where
        go : (o : Option (Option (List ℕ))) → found_at row.0 changes ≡ o → not (is_deletion o) ≡ true → has_rows later ≡ true
        go None is k = has_rows-found later row.0 row.1 (here ∙ ap (λ (o : Option (Option (List ℕ))). decided o (Some row.1)) is)
        go (Some None) is k = cc
        go (Some (Some w)) is k = has_rows-found later row.0 w (here ∙ ap (λ (o : Option (Option (List ℕ))). decided o (Some row.1)) is)

    to : (q v : List ℕ) → found_at q changes ≡ None → found_at q (row ∷ []) ≡ Some v → found_at q later ≡ Some v → not (is_deleted row.0 changes) ≡ true
    to q v none found still =
        elim (same_path row.0 q) as (λ b. same_path row.0 q ≡ b → (if b then Some row.1 else None) ≡ Some v → not (is_deleted row.0 changes) ≡ true) [
          | true ↦ λ t _. ap (λ o. not (is_deletion o)) (ap (λ (p : List ℕ). found_at p changes) (path_of_test row.0 q t) ∙ none)
          | false ↦ λ t k. absurd (none-some v k)
        ] refl found

some_ref : (o : Option (List ℕ)) → is_some (option_map value_ref o) ≡ is_some o
some_ref None = refl
some_ref (Some v) = refl

-- a branch has a value after the changes exactly where the later rows have one
pub value_left : (rows : List Row) (changes : List Change) (later : List Row) → IsLaid rows changes later → has_value_after (option_map value_ref (ends_here rows)) changes ≡ is_some (found_at [] later)
value_left rows changes later laid = go (found_at [] changes) refl ∙ ap is_some (sym value_is)
  where
    ref : Option ValueRef
    ref = option_map value_ref (ends_here rows)

    value_is : found_at [] later ≡ decided (found_at [] changes) (ends_here rows)
    value_is = laid.at [] ∙ ap (decided (found_at [] changes)) (sym (ends_here-found_at rows))

    go : (o : Option (Option (List ℕ))) → found_at [] changes ≡ o → is_some_after ref (found_at [] changes) ≡ is_some (decided (found_at [] changes) (ends_here rows))
    go None is = ap (is_some_after ref) is ∙ some_ref (ends_here rows) ∙ ap (λ (o : Option (Option (List ℕ))). is_some (decided o (ends_here rows))) (sym is)
    go (Some value) is = ap (is_some_after ref) is ∙ ap (λ (o : Option (Option (List ℕ))). is_some (decided o (ends_here rows))) (sym is)

or_assoc : (a b c d : Bool) → (((a || b) || c) || d) ≡ ((a || b) || (c || d))
or_assoc true b c d = refl
or_assoc false true c d = refl
or_assoc false false c d = refl

left_forks : (row next : Row) (others : List Row) → common_prefix row (next ∷ others) ≡ [] → ((x : ℕ) → IsLeftAs (below (x ∷ []) (row ∷ next ∷ others))) → IsLeftAs (row ∷ next ∷ others)
unfolding is_left shown has_rows
left_forks row next others e further changes later apart laid small =
    ap (λ t. is_left (shown t) changes) (tree_of-forks row next others e)
    ∙ or_assoc (is_untouched changes) (sets_some changes) (has_value_after ref changes) (any_below left 16)
    ∙ left_by rows changes later apart laid (has_value_after ref changes || any_below left 16) refl from to
  where
    rows : List Row
    rows = row ∷ next ∷ others

    ref : Option ValueRef
    ref = option_map value_ref (ends_here rows)

    left : ℕ → Bool
    left x = is_left (shown (tree_of (below (x ∷ []) rows))) (changes_behind (x ∷ []) changes)

    left_is : (x : ℕ) → left x ≡ has_rows (below (x ∷ []) later)
    left_is x = further x (changes_behind (x ∷ []) changes) (below (x ∷ []) later) (apart-behind (x ∷ []) changes apart) (laid-below (x ∷ []) rows changes later laid) (small-below (x ∷ []) later small)

    some_found : (o : Option (List ℕ)) → found_at [] later ≡ o → is_some o ≡ true → has_rows later ≡ true
    some_found None is k = cc
    some_found (Some v) is k = has_rows-found later [] v is

    from : (has_value_after ref changes || any_below left 16) ≡ true → has_rows later ≡ true
    from k = elim (or_cases (has_value_after ref changes) (any_below left 16) k) [
      | inl value ↦ some_found (found_at [] later) refl (sym (value_left rows changes later laid) ∙ value)
      | inr any ↦ let r = any_below_from left 16 any in has_rows-below (r.0 ∷ []) later (sym (left_is r.0) ∙ r.2)
    ]

    to : (q v : List ℕ) → found_at q changes ≡ None → found_at q rows ≡ Some v → found_at q later ≡ Some v → (has_value_after ref changes || any_below left 16) ≡ true
    to [] v none found still = or_left (has_value_after ref changes) (any_below left 16) (value_left rows changes later laid ∙ ap is_some still)
    to (x ∷ q) v none found still =
        let tiny = small_found later x q v small still in
        let there = has_rows-found (below (x ∷ []) later) q v (found_at-below (x ∷ []) q later ∙ still) in
        or_right (has_value_after ref changes) (any_below left 16) (any_below-at left 16 x tiny (left_is x ∙ there))

left_shares : (row next : Row) (others : List Row) (x : ℕ) (prefix : List ℕ) → common_prefix row (next ∷ others) ≡ x ∷ prefix → IsLeftAs (below (x ∷ prefix) (row ∷ next ∷ others)) → IsLeftAs (row ∷ next ∷ others)
unfolding is_left shown has_rows
left_shares row next others x prefix e further changes later apart laid small =
    ap (λ t. is_left (shown t) changes) (tree_of-shares row next others x prefix e)
    ∙ left_by rows changes later apart laid left refl from to
  where
    rows : List Row
    rows = row ∷ next ∷ others

    path : List ℕ
    path = x ∷ prefix

    left : Bool
    left = is_left (shown (tree_of (below path rows))) (changes_behind path changes)

    left_is : left ≡ has_rows (below path later)
    left_is = further (changes_behind path changes) (below path later) (apart-behind path changes apart) (laid-below path rows changes later laid) (small-below path later small)

    all : AllHavePrefix path rows
    all = subst (λ (f : List ℕ). AllHavePrefix f rows) e (common_prefix-all row (next ∷ others))

    from : left ≡ true → has_rows later ≡ true
    from k = has_rows-below path later (sym left_is ∙ k)

    to : (q v : List ℕ) → found_at q changes ≡ None → found_at q rows ≡ Some v → found_at q later ≡ Some v → left ≡ true
    to q v none found still =
        let r = prefix_found path rows q v all found in
        left_is ∙ has_rows-found (below path later) r.0 v (found_at-below path r.0 later ∙ ap (λ (p : List ℕ). found_at p later) (sym r.1) ∙ still)

pub left_as : (rows : List Row) (changes : List Change) (later : List Row) → Apart changes → IsLaid rows changes later → Small later → is_left (shown (tree_of rows)) changes ≡ has_rows later
left_as = by_cases IsLeftAs (record { none = left_none; one = left_one; forks = left_forks; shares = left_shares })

-- ---- the changes of a batch

pub apart-change_rows : (changes : Changes) → Apart (change_rows changes)
unfolding Apart
apart-change_rows changes = go (entries changes) (entries_sorted changes)
  where
    first : (a b : Bool) → T (a && b) → T a
    first true b h = tt
    first false b h = absurd h

    second : (a b : Bool) → T (a && b) → T b
    second true b h = h
    second false b h = absurd h

    go : (es : List (List ℕ × Option (List ℕ))) → T (is_sorted (slice_cmp nat_cmp) es) → Apart (map (λ change. (nibbles change.0, change.1)) es)
    go [] h = tt
    go (e ∷ es) h = (
      found_at-nibbles (nibbles e.0) es
          ∙ elim (same_path (nibbles (key_of (nibbles e.0))) (nibbles e.0)) as (λ b. (if b then find (slice_cmp nat_cmp) (key_of (nibbles e.0)) es else None) ≡ None) [
            | true ↦ ap (λ (k : List ℕ). find (slice_cmp nat_cmp) k es) (key_of-nibbles e.0) ∙ find_before e.0 es (first _ _ h)
            | false ↦ refl
          ],
      go es (second _ _ h),
    )
