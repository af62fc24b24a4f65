-- What a batch does not touch stays, what it gives up it has touched, and above what remains alone there is no branch any more.
use Rattle.std.proofs.Common.{◌≡◌, ◌≢◌, ℕ, nat_eq, ◌+◌, ◌-◌, ◌==◌, ◌&&◌, ◌||◌, not, Bool, true, false, List, [], ◌∷◌, ◌++◌, length, take, Option, None, Some, is_some, Contains, refl, sym, ◌∙◌, ap, subst, ◌⊎◌, inl, inr, arith, length-append}
use Rattle.std.specs.List.{cons_option, list_any}
use Rattle.std.specs.Option.{option_map, option_and_then}
use Rattle.std.specs.Cmp.Lexicographic.{pointwise, bytes_decides}
use Rattle.std.proofs.Math.Seq.{take-append_seam}
use Rattle.std.proofs.lemmas.Bool.{false≢true, and_parts, and_from, or_parts, or_from, or_left, or_right, true_from_ne_false, false_from_ne_true}
use Rattle.std.proofs.lemmas.Bool.Decides.{nat_tests}
use Rattle.trie_model.specs.State.{State, Row, rows_of, IsState}
use Rattle.trie_model.specs.Tree.{rest_behind, below, tree_of}
use Rattle.trie_model.specs.Texts.{places}
use Rattle.trie_model.specs.Root.{places_of, subtree_at, text_at}
use Rattle.std.specs.FinMap.{entries}
use Rattle.trie_model.proofs.Members.{IsIn, contains_of_in, in_of_contains}
use Rattle.trie_model.proofs.Rests.{HasPrefix, AllHavePrefix, below-nil, below-append, rest_behind-append, rest_behind-prefix, prefix_and_rest}
use Rattle.trie_model.proofs.Pairs.{Small, small_pairs}
use Rattle.trie_model.proofs.Costs.{subtree_at-root, text_at-same}
use Rattle.visit_model.specs.Bounds.{has_prefix}
use Rattle.batch_model.specs.Changes.{Changes, after, changed_paths, AreChanges}
use Rattle.change_model.specs.Places.{above, is_branch, all_stand_below, remains_alone, is_touched, is_place_of, is_written, leads_to}
use Rattle.change_model.specs.Exchange.{is_given_up}
use Rattle.batch_model.proofs.Laying.{pairs-after}
use Rattle.change_model.proofs.Below.{below-after}
use Rattle.change_model.proofs.Forks.{Fork, Stands, at_root, at_fork, behind_fork, stands, places_stand, fork_unless_alone, fork-prefix}

-- ---- the state afterwards

pub small-after : (state : State) (changes : Changes) → IsState state → AreChanges changes → Small (rows_of (after state changes))
unfolding rows_of
small-after state changes is are = small_pairs (entries (after state changes)) (pairs-after state changes is are)

-- ---- places of a state

pub stands_of_place : (state : State) (place : List ℕ) → Contains (places_of state) place → Stands (rows_of state) place
stands_of_place state place h = stands (rows_of state) place (subst (λ t. IsIn (places t) place) (subtree_at-root state) (in_of_contains (places_of state) place h))

pub place_of_in : (state : State) (place : List ℕ) → IsIn (places (tree_of (rows_of state))) place → Contains (places_of state) place
place_of_in state place h = contains_of_in (places_of state) place (subst (λ t. IsIn (places t) place) (sym (subtree_at-root state)) h)

pub place_of_stands : (state : State) (place : List ℕ) → Small (rows_of state) → Stands (rows_of state) place → Contains (places_of state) place
place_of_stands state place small h = place_of_in state place (places_stand (rows_of state) small place h)

pub any_of_in : (place : List ℕ) (others : List (List ℕ)) → IsIn others place → list_any (λ other. pointwise nat_eq other place) others ≡ true
any_of_in place [] h = absurd h
any_of_in place (other ∷ others) (inl e) = or_left _ _ ((bytes_decides other place).1 e)
any_of_in place (other ∷ others) (inr h) = or_right _ _ (any_of_in place others h)

pub in_of_any : (place : List ℕ) (others : List (List ℕ)) → list_any (λ other. pointwise nat_eq other place) others ≡ true → IsIn others place
in_of_any place [] e = absurd (false≢true e)
in_of_any place (other ∷ others) e = go (pointwise nat_eq other place) refl (in_of_any place others) e
  where
    go : (b : Bool) → pointwise nat_eq other place ≡ b → (list_any (λ other. pointwise nat_eq other place) others ≡ true → IsIn others place) → (b || list_any (λ other. pointwise nat_eq other place) others) ≡ true → IsIn (other ∷ others) place
    go true t further h = inl ((bytes_decides other place).0 t)
    go false t further h = inr (further h)

pub is_place : (state : State) (place : List ℕ) → Contains (places_of state) place → is_place_of state place ≡ true
is_place state place h = any_of_in place (places_of state) (in_of_contains (places_of state) place h)

pub place_from_test : (state : State) (place : List ℕ) → is_place_of state place ≡ true → Contains (places_of state) place
place_from_test state place e = contains_of_in (places_of state) place (in_of_any place (places_of state) e)

-- ---- a place one nibble behind another

pub above-behind : (q : List ℕ) (x : ℕ) → above (q ++ x ∷ []) ≡ q
above-behind q x =
    let n : length (q ++ x ∷ []) - 1 ≡ length q = omega (arith, length-append q (x ∷ [])) in
    ap (λ m. take m (q ++ x ∷ [])) n ∙ take-append_seam q (x ∷ [])

pub not_root : (q : List ℕ) (x : ℕ) → not (length (q ++ x ∷ []) == 0) ≡ true
not_root q x =
    let n : length (q ++ x ∷ []) ≡ length q + 1 = length-append q (x ∷ []) in
    let test : (length (q ++ x ∷ []) == 0) ≡ false = grind (arith, nat_tests) in
    ap not test

pub split_last : (place : List ℕ) → (place ≡ []) ⊎ ((q : List ℕ) × (x : ℕ) × (place ≡ q ++ x ∷ []))
split_last [] = inl refl
split_last (y ∷ place) =
    elim (split_last place) [
      | inl none ↦ inr ([], y, ap (λ (p : List ℕ). y ∷ p) none)
      | inr r ↦ inr (y ∷ r.0, r.1, ap (λ (p : List ℕ). y ∷ p) r.2)
    ]

-- ---- rows that all stand below a place

some_rest : (prefix path : List ℕ) → has_prefix path prefix ≡ true → HasPrefix prefix path
some_rest prefix path h = go (rest_behind prefix path) refl h
  where
    go : (r : Option (List ℕ)) → rest_behind prefix path ≡ r → is_some r ≡ true → HasPrefix prefix path
    go None e k = absurd (false≢true k)
    go (Some rest) e k = (rest, prefix_and_rest prefix path rest e)

rest_some : (prefix path : List ℕ) → HasPrefix prefix path → has_prefix path prefix ≡ true
rest_some prefix path h = ap is_some (ap (rest_behind prefix) h.1 ∙ rest_behind-prefix prefix h.0)

-- said by a test, and said of the rows below
pub all_below-prefix : (rows : List Row) (outer r : List ℕ) → all_stand_below rows outer (outer ++ r) ≡ true → AllHavePrefix r (below outer rows)
unfolding below
all_below-prefix [] outer r h = tt
all_below-prefix (row ∷ rows) outer r h =
    let parts = and_parts (not (has_prefix row.0 outer) || has_prefix row.0 (outer ++ r)) (all_stand_below rows outer (outer ++ r)) h in
    let test : (not (is_some (rest_behind outer row.0)) || is_some (option_and_then (rest_behind r) (rest_behind outer row.0))) ≡ true = subst (λ (o : Option (List ℕ)). (not (is_some (rest_behind outer row.0)) || is_some o) ≡ true) (rest_behind-append outer r row.0) parts.0 in
    go (rest_behind outer row.0) test (all_below-prefix rows outer r parts.1)
  where
    go : (o : Option (List ℕ)) → (not (is_some o) || is_some (option_and_then (rest_behind r) o)) ≡ true → AllHavePrefix r (below outer rows) → AllHavePrefix r (cons_option (option_map (λ rest. (rest, row.1)) o) (below outer rows))
    go None t further = further
    go (Some rest) t further = (some_rest r rest t, further)

pub prefix-all_below : (rows : List Row) (outer r : List ℕ) → AllHavePrefix r (below outer rows) → all_stand_below rows outer (outer ++ r) ≡ true
unfolding below
prefix-all_below [] outer r h = refl
prefix-all_below (row ∷ rows) outer r h =
    subst (λ (o : Option (List ℕ)). ((not (is_some (rest_behind outer row.0)) || is_some o) && all_stand_below rows outer (outer ++ r)) ≡ true) (sym (rest_behind-append outer r row.0)) (go (rest_behind outer row.0) (λ further. prefix-all_below rows outer r further) h)
  where
    go : (o : Option (List ℕ)) → (AllHavePrefix r (below outer rows) → all_stand_below rows outer (outer ++ r) ≡ true) → AllHavePrefix r (cons_option (option_map (λ rest. (rest, row.1)) o) (below outer rows)) → ((not (is_some o) || is_some (option_and_then (rest_behind r) o)) && all_stand_below rows outer (outer ++ r)) ≡ true
    go None step further = step further
    go (Some rest) step further = and_from _ _ (rest_some r rest further.0) (step further.1)

-- ---- what stays

-- a place stays one where the rows below it stay, unless the rows of the fork above it all stand below it
stands_again : (old new : List Row) (place : List ℕ) → below place new ≡ below place old → ((q : List ℕ) (x : ℕ) → place ≡ q ++ x ∷ [] → Fork (below q old) → AllHavePrefix (x ∷ []) (below q new) → ⊥) → Stands old place → Stands new place
stands_again old new place same apart (at_root top some) =
    let whole : below [] new ≡ below [] old = subst (λ (p : List ℕ). below p new ≡ below p old) top same in
    at_root top (λ e. some (sym (below-nil old) ∙ sym whole ∙ below-nil new ∙ e))
stands_again old new place same apart (at_fork f) = at_fork (subst Fork (sym same) f)
stands_again old new place same apart (behind_fork q x path f some) =
    let more : below place new ≢ [] = subst (λ (rs : List Row). rs ≢ []) (sym same) some in
    let fork : Fork (below q new) = fork_unless_alone x (below q new) (subst (λ (rs : List Row). rs ≢ []) (below-append q (x ∷ []) new) (subst (λ (p : List ℕ). below p new ≢ []) path more)) (apart q x path f) in
    behind_fork q x path fork more

pub untouched_stays : (state : State) (changes : Changes) (place : List ℕ) → IsState state → AreChanges changes → Contains (places_of state) place → is_touched state [] changes place ≡ false → Contains (places_of (after state changes)) place
unfolding is_touched remains_alone subtree_at
untouched_stays state changes place is are h untouched =
    let parts = or_parts (leads_to (changed_paths changes) place) (remains_alone state changes place) untouched in
    place_of_stands (after state changes) place (small-after state changes is are)
    (stands_again (rows_of state) (rows_of (after state changes)) place (below-after state changes place parts.0) (λ q x path f all. apart parts.0 parts.1 q x path f all) (stands_of_place state place h))
  where
    apart : leads_to (changed_paths changes) place ≡ false → remains_alone state changes place ≡ false → (q : List ℕ) (x : ℕ) → place ≡ q ++ x ∷ [] → Fork (below q (rows_of state)) → AllHavePrefix (x ∷ []) (below q (rows_of (after state changes))) → ⊥
    apart none alone q x path f all =
        false≢true (sym alone ∙ subst (λ (p : List ℕ). remains_alone state changes p ≡ true) (sym path) (
        subst (λ (p : List ℕ). (not (length (q ++ x ∷ []) == 0) && is_branch (subtree_at state p) && not (leads_to (changed_paths changes) (q ++ x ∷ [])) && all_stand_below (rows_of (after state changes)) p (q ++ x ∷ [])) ≡ true) (sym (above-behind q x))
        (and_from _ _ (and_from _ _ (and_from _ _ (not_root q x) f) (ap not (subst (λ (p : List ℕ). leads_to (changed_paths changes) p ≡ false) path none))) (prefix-all_below (rows_of (after state changes)) q (x ∷ []) all))))

pub unwritten_stays : (state : State) (changes : Changes) (place : List ℕ) → is_written state changes place ≡ false → Contains (places_of state) place × (text_at (after state changes) place ≡ text_at state place)
unfolding is_written
unwritten_stays state changes place h =
    let parts = or_parts (leads_to (changed_paths changes) place) (not (is_place_of state place)) h in (
      place_from_test state place (true_from_ne_false (is_place_of state place) (λ e. false≢true (sym parts.1 ∙ ap not e))),
      text_at-same (after state changes) state place place (below-after state changes place parts.0),
    )

-- ---- what is given up

pub given_up_is_touched : (state : State) (changes : Changes) (place : List ℕ) → IsState state → AreChanges changes → Contains (places_of state) place → is_given_up state changes place ≡ true → is_touched state [] changes place ≡ true
unfolding is_given_up is_touched
given_up_is_touched state changes place is are h given_up =
    true_from_ne_false (is_touched state [] changes place) (λ untouched.
    let parts = or_parts (leads_to (changed_paths changes) place) (remains_alone state changes place) untouched in
    let there = is_place (after state changes) place (untouched_stays state changes place is are h untouched) in
    let kept : (leads_to (changed_paths changes) place || not (is_place_of (after state changes) place)) ≡ false = or_from _ _ parts.0 (ap not there) in
    false≢true (sym kept ∙ given_up))

-- ---- what remains alone

-- it stands one nibble behind the place above it, and all rows below that begin with the nibble
record Alone (rows : List Row) (place : List ℕ) : Type 0 where
  up : List ℕ
  nibble : ℕ
  path : place ≡ up ++ nibble ∷ []
  all : AllHavePrefix (nibble ∷ []) (below up rows)

alone_rows : (state : State) (changes : Changes) (place : List ℕ) → remains_alone state changes place ≡ true → Alone (rows_of (after state changes)) place
unfolding remains_alone
alone_rows state changes place alone = go (split_last place)
  where
    go : (place ≡ []) ⊎ ((q : List ℕ) × (x : ℕ) × (place ≡ q ++ x ∷ [])) → Alone (rows_of (after state changes)) place
    go (inl none) =
        let short : remains_alone state changes [] ≡ true = subst (λ (p : List ℕ). remains_alone state changes p ≡ true) none alone in
        absurd (false≢true short)
    go (inr r) =
        let all : all_stand_below (rows_of (after state changes)) (above place) place ≡ true = (and_parts _ _ alone).1 in
        let whole : all_stand_below (rows_of (after state changes)) r.0 (r.0 ++ r.1 ∷ []) ≡ true = subst (λ (p : List ℕ). all_stand_below (rows_of (after state changes)) r.0 p ≡ true) r.2 (subst (λ (p : List ℕ). all_stand_below (rows_of (after state changes)) p place ≡ true) (ap above r.2 ∙ above-behind r.0 r.1) all) in
        record {
          up = r.0;
          nibble = r.1;
          path = r.2;
          all = all_below-prefix (rows_of (after state changes)) r.0 (r.1 ∷ []) whole;
        }

pub no_branch_above : (state : State) (changes : Changes) (place : List ℕ) → remains_alone state changes place ≡ true → is_branch (subtree_at (after state changes) (above place)) ≡ false
unfolding subtree_at
no_branch_above state changes place alone =
    let there = alone_rows state changes place alone in
    ap (λ (p : List ℕ). is_branch (subtree_at (after state changes) p)) (ap above there.path ∙ above-behind there.up there.nibble)
    ∙ false_from_ne_true (is_branch (subtree_at (after state changes) there.up)) (λ f. fork-prefix there.nibble [] (below there.up (rows_of (after state changes))) there.all f)

-- a place behind which no row forks above it is a place by its own fork
alone_forks : (rows : List Row) (place : List ℕ) → Alone rows place → Stands rows place → Fork (below place rows)
alone_forks rows place there (at_root top some) = absurd (no_end there.up there.nibble (sym top ∙ there.path))
  where
    no_end : (q : List ℕ) (x : ℕ) → [] ≡ q ++ x ∷ [] → ⊥
    no_end [] x e = cc
    no_end (y ∷ q) x e = cc
alone_forks rows place there (at_fork f) = f
alone_forks rows place there (behind_fork q x path f some) =
    let same : q ≡ there.up = sym (above-behind q x) ∙ ap above (sym path ∙ there.path) ∙ above-behind there.up there.nibble in
    absurd (fork-prefix there.nibble [] (below there.up rows) there.all (subst (λ (p : List ℕ). Fork (below p rows)) same f))

pub touched_stays : (state : State) (changes : Changes) (place : List ℕ) → is_touched state [] changes place ≡ true → is_given_up state changes place ≡ false → (remains_alone state changes place ≡ true) × (is_branch (subtree_at state place) ≡ true)
unfolding is_touched is_given_up subtree_at
touched_stays state changes place touched kept =
    let parts = or_parts (leads_to (changed_paths changes) place) (not (is_place_of (after state changes) place)) kept in
    let alone : remains_alone state changes place ≡ true = subst (λ b. (b || remains_alone state changes place) ≡ true) parts.0 touched in
    let there : is_place_of (after state changes) place ≡ true = true_from_ne_false (is_place_of (after state changes) place) (λ e. false≢true (sym parts.1 ∙ ap not e)) in
    let fork = alone_forks (rows_of (after state changes)) place (alone_rows state changes place alone) (stands_of_place (after state changes) place (place_from_test (after state changes) place there)) in
    (alone, subst Fork (below-after state changes place parts.0) fork)
