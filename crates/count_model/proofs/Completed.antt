-- The texts of the state after a batch are texts of the state before it or made by the batch.
use Rattle.std.proofs.Common.{◌≡◌, ◌≢◌, ℕ, zero, suc, ◌+◌, ◌-◌, ◌≤◌, nat_eq, Bool, List, ◌++◌, map, None, Some, Contains, ◌⊎◌, inl, inr, refl, sym, ◌∙◌, ap, subst, arith}
use Rattle.std.specs.List.{count_by}
use Rattle.std.specs.Cmp.Lexicographic.{pointwise}
use Rattle.std.specs.FinMap.{entries, get}
use Rattle.sha2.specs.Sha256.{sha256}
use Rattle.trie_model.specs.State.{State, rows_of}
use Rattle.trie_model.specs.Root.{Holds, Table, digest_occurrences, occurrences, places_of, text_at, texts_of, zero_digest}
use Rattle.trie_model.proofs.Members.{IsIn, all_at, all_of, contains_of_in, in_of_contains, in-append_left, in-append_right, in-append_cases, in-map, in_map_from}
use Rattle.change_model.proofs.Unchanged.{value_in}
use Rattle.batch_model.specs.Changes.{Changes, Change, after}
use Rattle.change_model.specs.Places.{is_written, written_places}
use Rattle.change_model.specs.Ledger.{gain, made_texts, set_values}
use Rattle.change_model.specs.Exchange.{taken_texts}
use Rattle.change_model.proofs.Balance.{exchange, set_values-after}
use Rattle.change_model.proofs.Filtered.{in_filter_from, in_filter_map_from}
use Rattle.fork_model.specs.States.{ForkState, IsForkState, state_at}
use Rattle.fork_model.proofs.Ids.{found_not_none, same_from}
use Rattle.count_model.specs.Tables.{HoldsCounted}
use Rattle.count_model.proofs.Live.{count-some, digest-occurs, digest_occurs_from, live-of_state, text-occurs, text_occurs_from, texts-counted}

module _ (state : State) (changes : Changes) where
  new_in : (t : List ℕ) → IsIn (texts_of (after state changes)) t → IsIn (texts_of state) t ⊎ IsIn (made_texts state changes) t
  new_in t i = go (occurrences state t) refl
    where
      test : List ℕ → Bool
      test = λ other. pointwise nat_eq other t

      made_some : (new taken old made : ℕ) → new + taken ≡ old + made → 1 ≤ new → old ≡ 0 → 1 ≤ made
      made_some new taken old made e some none = omega (arith, e, some, none)

      go : (n : ℕ) → occurrences state t ≡ n → IsIn (texts_of state) t ⊎ IsIn (made_texts state changes) t
      go zero e =
          let one = count-some test (made_texts state changes) (made_some (occurrences (after state changes) t) (count_by test (taken_texts state changes)) (occurrences state t) (count_by test (made_texts state changes)) (exchange test state changes) (text-occurs (after state changes) t i) e) in
          inr (subst (IsIn (made_texts state changes)) (same_from one.0 t one.2) one.1)
      go (suc n) e = inl (text_occurs_from state t (omega (arith, e)))

  pub new_texts : (t : List ℕ) → Contains (texts_of (after state changes)) t → Contains (texts_of state) t ⊎ Contains (made_texts state changes) t
  new_texts t here = go (new_in t (in_of_contains (texts_of (after state changes)) t here))
    where
      go : IsIn (texts_of state) t ⊎ IsIn (made_texts state changes) t → Contains (texts_of state) t ⊎ Contains (made_texts state changes) t
      go (inl i) = inl (contains_of_in (texts_of state) t i)
      go (inr i) = inr (contains_of_in (made_texts state changes) t i)

  -- so a table that holds the state before and the made texts holds the state afterwards
  pub holds-after : (table : Table) → Holds table state → ((t : List ℕ) → Contains (made_texts state changes) t → (get table (sha256 t) ≡ Some t) × (sha256 t ≢ zero_digest)) → Holds table (after state changes)
  holds-after table holds made = record {
    found = all_of _ (texts_of (after state changes)) (λ t i. found t (new_in t i));
    nonzero = all_of _ (texts_of (after state changes)) (λ t i. nonzero t (new_in t i));
  }
    where
      found : (t : List ℕ) → IsIn (texts_of state) t ⊎ IsIn (made_texts state changes) t → get table (sha256 t) ≡ Some t
      found t (inl i) = all_at _ (texts_of state) t holds.found i
      found t (inr i) = (made t (contains_of_in (made_texts state changes) t i)).0

      nonzero : (t : List ℕ) → IsIn (texts_of state) t ⊎ IsIn (made_texts state changes) t → sha256 t ≢ zero_digest
      nonzero t (inl i) = all_at _ (texts_of state) t holds.nonzero i
      nonzero t (inr i) = (made t (contains_of_in (made_texts state changes) t i)).1

-- what is made is in the state afterwards
pub made_in : (state : State) (changes : Changes) (t : List ℕ) → IsIn (made_texts state changes) t → IsIn (texts_of (after state changes)) t
unfolding made_texts texts_of
made_in state changes t i = go (in-append_cases (map (text_at new) (written_places state changes)) (set_values changes) t i)
  where
    new : State
    new = after state changes

    go : IsIn (map (text_at new) (written_places state changes)) t ⊎ IsIn (set_values changes) t → IsIn (map (text_at new) (places_of new) ++ map (λ row. row.1) (rows_of new)) t
    go (inl i) =
        let r = in_map_from (text_at new) (written_places state changes) t i in
        let place = in_filter_from (is_written state changes) (places_of new) r.0 r.1 in
        in-append_left (map (text_at new) (places_of new)) (map (λ row. row.1) (rows_of new)) t (subst (IsIn (map (text_at new) (places_of new))) r.2 (in-map (text_at new) (places_of new) r.0 place.0))
    go (inr i) =
        let r = in_filter_map_from (λ (change : Change). get new change.0) (entries changes) t (subst (λ (vs : List (List ℕ)). IsIn vs t) (sym (set_values-after state changes)) i) in
        in-append_right (map (text_at new) (places_of new)) (map (λ row. row.1) (rows_of new)) t (value_in new r.0.0 t r.2)

-- a digest that gains is that of a made text
pub gained_made : (state : State) (changes : Changes) (digest : List ℕ) → 1 ≤ gain state changes digest → (t : List ℕ) × IsIn (made_texts state changes) t × (sha256 t ≡ digest)
gained_made state changes digest some =
    let one = count-some (λ t. pointwise nat_eq (sha256 t) digest) (made_texts state changes) (made_some (digest_occurrences (after state changes) digest) (count_by (λ t. pointwise nat_eq (sha256 t) digest) (taken_texts state changes)) (digest_occurrences state digest) (count_by (λ t. pointwise nat_eq (sha256 t) digest) (made_texts state changes)) (exchange (λ t. pointwise nat_eq (sha256 t) digest) state changes) some) in
    (one.0, one.1, same_from (sha256 one.0) digest one.2)
  where
    made_some : (new taken old made : ℕ) → new + taken ≡ old + made → 1 ≤ new - old → 1 ≤ made
    made_some new taken old made e some = omega (arith, e, some)

-- a made text that a table of the counted texts does not have gains
pub unheld-gains : (table : Table) (forks : ForkState) (id : List ℕ) (state : State) (changes : Changes) (t : List ℕ) → IsForkState forks → HoldsCounted table forks → state_at forks id ≡ Some state → Contains (made_texts state changes) t → get table (sha256 t) ≡ None → 1 ≤ gain state changes (sha256 t)
unheld-gains table forks id state changes t is holds at made none = go (digest_occurrences state (sha256 t)) refl
  where
    there : 1 ≤ digest_occurrences (after state changes) (sha256 t)
    there = digest-occurs (after state changes) t (made_in state changes t (in_of_contains (made_texts state changes) t made))

    grows : (old new : ℕ) → old ≡ 0 → 1 ≤ new → 1 ≤ new - old
    grows old new e some = omega (arith, e, some)

    go : (n : ℕ) → digest_occurrences state (sha256 t) ≡ n → 1 ≤ gain state changes (sha256 t)
    go zero e = grows (digest_occurrences state (sha256 t)) (digest_occurrences (after state changes) (sha256 t)) e there
    go (suc n) e =
        let u = digest_occurs_from state (sha256 t) (omega (arith, e)) in
        let held = holds.found u.0 ((texts-counted forks is u.0).1 (live-of_state forks id u.0 state at (contains_of_in (texts_of state) u.0 u.1))) in
        absurd (found_not_none (sym (ap (get table) u.2) ∙ held) none)

-- a table that has the texts of a state as another does
pub holds-later : (table later : Table) (state : State) → Holds table state → ((t : List ℕ) → Contains (texts_of state) t → get later (sha256 t) ≡ get table (sha256 t)) → Holds later state
holds-later table later state holds same = record {
  found = all_of _ (texts_of state) (λ t i. same t (contains_of_in (texts_of state) t i) ∙ all_at _ (texts_of state) t holds.found i);
  nonzero = holds.nonzero;
}
