-- Worked batches by computing: of a state and a batch that are given by their entries in order, all is told by these entries and those of the state afterwards.
use Rattle.std.proofs.Common.{◌≡◌, ℕ, nat_eq, ◌==◌, ◌-◌, ◌&&◌, ◌||◌, not, Bool, true, false, cond, List, [], ◌∷◌, ◌++◌, map, length, T, Option, None, Some, is_some, is_none, nat_cmp, refl, sym, ◌∙◌, ap, ap₂}
use Rattle.std.specs.List.{filter, filter_map, list_any, count_by}
use Rattle.std.specs.Cmp.Lexicographic.{slice_cmp, nat_list_cmp_total, pointwise}
use Rattle.std.specs.FinMap.{entries, entries_sorted, entries-from_sorted, from_sorted, get, get-entries, insert, remove, entries-insert, get-remove, put, find, is_sorted}
use Rattle.std.specs.FinMap.Entries.{where_key, find-where_key, is_sorted-where_key, same_entries}
use Rattle.std.specs.Cmp.{eq_by_cmp_equiv}
use mathlib.Core.Path.{fun_ext}
use Rattle.sha2.specs.Sha256.{sha256}
use Rattle.byte_model.specs.Nibbles.{nibbles}
use Rattle.trie_model.specs.State.{State, rows_of}
use Rattle.trie_model.specs.Tree.{Tree, below, tree_of}
use Rattle.trie_model.specs.Texts.{text, places}
use Rattle.trie_model.specs.Root.{subtree_at, text_at, texts_of}
use Rattle.trie_model.proofs.Worked.{Pair, rows_of_pairs, everything}
use Rattle.visit_model.specs.Seen.{stated_usage}
use Rattle.visit_model.specs.Shown.{shown}
use Rattle.batch_model.specs.Changes.{Changes, Change, after_change, after_each, after, change_rows, found_at}
use Rattle.change_model.specs.Visits.{and_then, opened, closed, visits_below, changes_behind, any_below, is_left, numbers_below, visit_alone, visits_at}
use Rattle.change_model.specs.Places.{above, is_branch, all_stand_below, leads_to, is_touched, remains_alone, touched_places, is_written, written_places}
use Rattle.change_model.specs.Ledger.{made_texts, gain, loss, fresh, gone}
use Rattle.change_model.specs.Exchange.{is_given_up, taken_texts}
use Rattle.batch_model.proofs.Laying.{ties, same_key}

-- ---- the entries afterwards

unfoldable pub laid : List Pair → List Change → List Pair
laid pairs [] = pairs
laid pairs ((key, None) ∷ changes) = laid (where_key (slice_cmp nat_cmp) (λ k. not (ties key k)) pairs) changes
laid pairs ((key, Some value) ∷ changes) = laid (put (slice_cmp nat_cmp) key value pairs) changes

-- what a proof by computing opens
unfoldable pub all_of_batches : ℕ
unfolding everything is_branch leads_to laid
all_of_batches = 0

entries-remove : (state : State) (key : List ℕ) → entries (remove state key) ≡ where_key (slice_cmp nat_cmp) (λ k. not (ties key k)) (entries state)
entries-remove state key =
    same_entries (slice_cmp nat_cmp) nat_list_cmp_total same_key
    (entries (remove state key))
    (where_key (slice_cmp nat_cmp) (λ k. not (ties key k)) (entries state))
    (entries_sorted (remove state key))
    (is_sorted-where_key (slice_cmp nat_cmp) (λ k. not (ties key k)) (entries state) (entries_sorted state))
    (λ q.
    sym (get-entries (remove state key) q)
    ∙ get-remove nat_list_cmp_total state key q
    ∙ turned (ties q key) (get state q)
    ∙ ap₂ (λ (b : Bool) (o : Option (List ℕ)). cond (not b) o None) ((eq_by_cmp_equiv nat_list_cmp_total).symm q key) (get-entries state q)
    ∙ sym (find-where_key (slice_cmp nat_cmp) (λ k. not (ties key k)) q (λ x e. ap (λ (k : List ℕ). not (ties key k)) (sym (same_key q x e))) (entries state)))
  where
    turned : (b : Bool) (o : Option (List ℕ)) → cond b None o ≡ cond (not b) o None
    turned true o = refl
    turned false o = refl

entries-after_each : (state : State) (changes : List Change) → entries (after_each state changes) ≡ laid (entries state) changes
unfolding after_each after_change laid
entries-after_each state [] = refl
entries-after_each state ((key, None) ∷ changes) = entries-after_each (remove state key) changes ∙ ap (λ (pairs : List Pair). laid pairs changes) (entries-remove state key)
entries-after_each state ((key, Some value) ∷ changes) = entries-after_each (insert state key value) changes ∙ ap (λ (pairs : List Pair). laid pairs changes) (entries-insert nat_list_cmp_total state key value)

abbrev pub state_of : List Pair → State
state_of pairs = from_sorted pairs

abbrev pub batch_of : List Change → Changes
batch_of changes = from_sorted changes

-- What is made of the entries of a state, of the state afterwards and of a batch can be computed.
pub worked : {X : Type 0} (F : List Pair → List Pair → List Change → X) (pairs : List Pair) (changes : List Change) (x : X) → T (is_sorted (slice_cmp nat_cmp) pairs) → T (is_sorted (slice_cmp nat_cmp) changes) → F pairs (laid pairs changes) changes ≡ x → F (entries (state_of pairs)) (entries (after (state_of pairs) (batch_of changes))) (entries (batch_of changes)) ≡ x
unfolding after
worked F pairs changes x sorted rising e =
    let state : State = state_of pairs in
    let batch : Changes = batch_of changes in
    let before : entries state ≡ pairs = entries-from_sorted (slice_cmp nat_cmp) pairs sorted in
    let changed : entries batch ≡ changes = entries-from_sorted (slice_cmp nat_cmp) changes rising in
    ap (λ (es : List Pair). F (entries state) es (entries batch)) (entries-after_each state (entries batch))
    ∙ ap₂ (λ (ps : List Pair) (cs : List Change). F ps (laid ps cs) cs) before changed
    ∙ e

-- ---- places and texts

abbrev pub subtree_of : List Pair → List ℕ → Tree
subtree_of pairs place = tree_of (below place (rows_of_pairs pairs))

abbrev pub paths_of : List Change → List (List ℕ)
paths_of changes = map (λ change. nibbles change.0) changes

abbrev pub touched_of : List Pair → List Pair → List Change → List (List ℕ)
touched_of pairs later changes =
    filter (λ place. leads_to (paths_of changes) place || (not (length place == 0) && is_branch (subtree_of pairs (above place)) && not (leads_to (paths_of changes) place) && all_stand_below (rows_of_pairs later) (above place) place)) (places (subtree_of pairs []))

abbrev pub sizes_of : List Pair → List Pair → List Change → List ℕ
sizes_of pairs later changes = map (λ place. length (text (subtree_of pairs place))) (touched_of pairs later changes)

abbrev pub written_of : List Pair → List Pair → List Change → List (List ℕ)
written_of pairs later changes = filter (λ place. leads_to (paths_of changes) place || not (list_any (λ other. pointwise nat_eq other place) (places (subtree_of pairs [])))) (places (subtree_of later []))

abbrev pub made_of : List Pair → List Pair → List Change → List (List ℕ)
made_of pairs later changes = map (λ place. text (subtree_of later place)) (written_of pairs later changes) ++ filter_map (λ change. change.1) changes

abbrev pub taken_of : List Pair → List Pair → List Change → List (List ℕ)
taken_of pairs later changes =
    map (λ place. text (subtree_of pairs place)) (filter (λ place. leads_to (paths_of changes) place || not (list_any (λ other. pointwise nat_eq other place) (places (subtree_of later [])))) (places (subtree_of pairs [])))
    ++ filter_map (λ change. find (slice_cmp nat_cmp) change.0 pairs) changes

abbrev pub texts_in : List Pair → List (List ℕ)
texts_in pairs = map (λ place. text (subtree_of pairs place)) (places (subtree_of pairs [])) ++ map (λ row. row.1) (rows_of_pairs pairs)

abbrev pub count_in : List Pair → List ℕ → ℕ
count_in pairs digest = count_by (λ other. pointwise nat_eq (sha256 other) digest) (texts_in pairs)

abbrev pub gains_of : List Pair → List Pair → List Change → List ℕ
gains_of pairs later changes = map (λ t. count_in later (sha256 t) - count_in pairs (sha256 t)) (made_of pairs later changes)

abbrev pub losses_of : List Pair → List Pair → List Change → List ℕ
losses_of pairs later changes = map (λ t. count_in pairs (sha256 t) - count_in later (sha256 t)) (taken_of pairs later changes)

abbrev pub fresh_of : List Pair → List Pair → List Change → ℕ
fresh_of pairs later changes = count_by (λ change. is_some change.1 && not (is_some (find (slice_cmp nat_cmp) change.0 pairs))) changes

abbrev pub gone_of : List Pair → List Pair → List Change → ℕ
gone_of pairs later changes = count_by (λ change. is_none change.1 && is_some (find (slice_cmp nat_cmp) change.0 pairs)) changes

module _ (state : State) (changes : Changes) where
  got : get state ≡ (λ q. find (slice_cmp nat_cmp) q (entries state))
  got = fun_ext (get-entries state)

  pub touched-told : touched_places state [] changes ≡ touched_of (entries state) (entries (after state changes)) (entries changes)
  unfolding is_touched remains_alone subtree_at rows_of
  touched-told = refl

  pub sizes-told : map (λ place. length (text_at state place)) (touched_places state [] changes) ≡ sizes_of (entries state) (entries (after state changes)) (entries changes)
  unfolding is_touched remains_alone subtree_at rows_of
  sizes-told = refl

  pub written-told : written_places state changes ≡ written_of (entries state) (entries (after state changes)) (entries changes)
  unfolding is_written subtree_at rows_of
  written-told = refl

  pub made-told : made_texts state changes ≡ made_of (entries state) (entries (after state changes)) (entries changes)
  unfolding made_texts is_written subtree_at rows_of
  made-told = refl

  pub taken-told : taken_texts state changes ≡ taken_of (entries state) (entries (after state changes)) (entries changes)
  unfolding taken_texts is_given_up subtree_at rows_of
  taken-told = ap (λ (g : List ℕ → Option (List ℕ)). map (λ place. text (subtree_at state place)) (filter (is_given_up state changes) (places (subtree_at state []))) ++ filter_map (λ (change : Change). g change.0) (entries changes)) got

  pub gains-told : map (λ t. gain state changes (sha256 t)) (made_texts state changes) ≡ gains_of (entries state) (entries (after state changes)) (entries changes)
  unfolding texts_of subtree_at rows_of
  gains-told = ap (map (λ t. gain state changes (sha256 t))) made-told

  pub losses-told : map (λ t. loss state changes (sha256 t)) (taken_texts state changes) ≡ losses_of (entries state) (entries (after state changes)) (entries changes)
  unfolding texts_of subtree_at rows_of
  losses-told = ap (map (λ t. loss state changes (sha256 t))) taken-told

  pub fresh-told : fresh state changes ≡ fresh_of (entries state) (entries (after state changes)) (entries changes)
  fresh-told = ap (λ (g : List ℕ → Option (List ℕ)). count_by (λ (change : Change). is_some change.1 && not (is_some (g change.0))) (entries changes)) got

  pub gone-told : gone state changes ≡ gone_of (entries state) (entries (after state changes)) (entries changes)
  gone-told = ap (λ (g : List ℕ → Option (List ℕ)). count_by (λ (change : Change). is_none change.1 && is_some (g change.0)) (entries changes)) got

-- ---- visits

-- what a proof of visits by computing opens
unfoldable pub all_of_visits : ℕ
unfolding all_of_batches shown and_then opened closed visits_below changes_behind found_at any_below is_left numbers_below visit_alone visits_at stated_usage
all_of_visits = 0

abbrev pub visited_of : List Pair → List Pair → List Change → List (List ℕ)
visited_of pairs later changes = (visits_at (shown (subtree_of pairs [])) (map (λ change. (nibbles change.0, change.1)) changes)).digests

pub visited-told : (state : State) (changes : Changes) → (visits_at (shown (subtree_at state [])) (change_rows changes)).digests ≡ visited_of (entries state) (entries (after state changes)) (entries changes)
unfolding subtree_at rows_of
visited-told state changes = refl
