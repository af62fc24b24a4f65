-- A recording that has exactly the touched texts of a state is replayed without a refusal and without a spare text.
use Rattle.std.proofs.Common.{◌≡◌, ℕ, nat_eq, true, List, [], ◌∷◌, ◌++◌, None, Some, ◌⊎◌, inl, inr, refl, sym, ap, ◌∙◌, subst}
use Rattle.std.specs.Prelude.{Contains}
use Rattle.std.specs.List.{AllByRecursion}
use Rattle.std.specs.Cmp.Lexicographic.{pointwise, bytes_decides}
use Rattle.std.specs.FinMap.{get}
use Rattle.std.proofs.lemmas.Option.{same_Some}
use Rattle.sha2.specs.Sha256.{sha256}
use Rattle.byte_model.specs.Nibbles.{AreBytes}
use Rattle.trie_model.specs.State.{State, IsState}
use Rattle.trie_model.specs.Root.{Table, Holds, NoClash, root, text_at, texts_of}
use Rattle.trie_model.proofs.Members.{IsIn, all_at, all_of, contains_of_in, in_of_contains, in-append_cases}
use Rattle.visit_model.specs.Visits as looking
use Rattle.visit_model.specs.Visits.{lookup_visits}
use Rattle.visit_model.proofs.Lookups.{lookup_of, lookup_visits-state}
use Rattle.batch_model.specs.Changes.{Changes, AreChanges}
use Rattle.change_model.specs.Visits.{batch_visits}
use Rattle.change_model.specs.Places.{touched_places}
use Rattle.change_model.specs.Tables.{HoldsPlaces}
use Rattle.change_model.proofs.Visited.{batch_passes}
use Rattle.count_model.proofs.Clashing.{any_in}
use Rattle.count_model.proofs.Held.{NoClash-part}
use Rattle.count_model.proofs.Loaded.{holds-touched}
use Rattle.recording_model.specs.Agreeing.{Agrees}
use Rattle.recording_model.specs.Recorded.{touched_texts, recorded_texts}
use Rattle.recording_model.specs.Replays.{value_among, and_reads, reads_visits, replay_visits, is_used, first_spare}
use Rattle.recording_model.proofs.StateReads.{reads_visits-refusal}
use Rattle.recording_model.proofs.Behind.{both-pass}
use Rattle.recording_model.proofs.Filled.{full, full-has, full-holds}
use Rattle.recording_model.proofs.VisitedTexts.{Has}
use Rattle.recording_model.proofs.TouchedTexts.{Touches, lookup-touches, batch-text}
use Rattle.recording_model.proofs.Sound.{holds_places}
use Rattle.recording_model.proofs.Sets.{in-set_of, in_set_of_from}
use Rattle.recording_model.proofs.Exact.{touched-visited, touched-in}
use Rattle.recording_model.proofs.Used.{none-spare}
use Rattle.recording_model.proofs.Back.{lookup-back}

-- reads of which none is refused by itself
reads-pass : (table : Table) (root : List ℕ) (reads : List (List ℕ)) → ((key : List ℕ) → IsIn reads key → (lookup_visits table root key).refusal ≡ None) → (reads_visits table root reads).refusal ≡ None
unfolding reads_visits and_reads
reads-pass table root [] each = refl
reads-pass table root (key ∷ reads) each =
    let v = lookup_visits table root key in
    ap (λ o. (and_reads o v.digests (value_among v.values) (reads_visits table root reads)).refusal) (each key (inl refl)) ∙ reads-pass table root reads (λ k i. each k (inr i))

module _ (table : Table) (state : State) (reads : List (List ℕ)) (changes : Changes) (is : IsState state) (bytes : AllByRecursion AreBytes reads) (are : AreChanges changes) (apart : NoClash (texts_of state)) (agreeing : Agrees table state)
    (there : (text : List ℕ) → IsIn (touched_texts state reads changes) text → get table (sha256 text) ≡ Some text) where
  has_touched : (digest : List ℕ) → Touches state reads changes digest → Has table digest
  has_touched digest one = (one.0, ap (get table) (sym one.2) ∙ there one.0 one.1)

  lookup-passes : (key : List ℕ) → IsIn reads key → (lookup_visits table (root state) key).refusal ≡ None
  lookup-passes key i =
      let same : lookup_visits (full table state) (root state) key ≡ lookup_of state key = lookup_visits-state (full table state) state key (full-holds table state apart) is (all_at AreBytes reads key bytes i) in
      lookup-back table (full table state) (full-has table state agreeing) (root state) key (ap (λ (v : looking.Visits). v.refusal) same)
      (subst (λ (v : looking.Visits). AllByRecursion (Has table) v.digests) (sym same)
      (all_of (Has table) (lookup_of state key).digests (λ digest h. has_touched digest (lookup-touches state reads changes key digest i h))))

  pub complete-places : HoldsPlaces table state (touched_places state [] changes)
  complete-places = holds_places table state changes apart (λ place i. there (text_at state place) (batch-text state reads changes place i))

  pub complete-passes : (replay_visits table (root state) reads changes).refusal ≡ None
  complete-passes =
      both-pass (reads_visits table (root state) reads) (batch_visits table (root state) changes)
      (reads-pass table (root state) reads lookup-passes)
      (batch_passes state changes is are table complete-places (λ _. true)).passed

  -- each touched text is visited
  touched-used : (text : List ℕ) → IsIn (touched_texts state reads changes) text → is_used (replay_visits table (root state) reads changes).digests text ≡ true
  unfolding is_used
  touched-used text h =
      any_in (λ (digest : List ℕ). pointwise nat_eq digest (sha256 text)) (replay_visits table (root state) reads changes).digests (sha256 text)
      (touched-visited table state reads changes is bytes are apart agreeing complete-passes text h)
      ((bytes_decides (sha256 text) (sha256 text)).1 refl)

  pub complete-used : first_spare (replay_visits table (root state) reads changes).digests (recorded_texts state reads changes) ≡ None
  complete-used = none-spare (replay_visits table (root state) reads changes).digests (recorded_texts state reads changes) (λ text h. touched-used text (in_set_of_from (touched_texts state reads changes) text h))

-- what a table of the recorded texts has
pub recorded-there : (table : Table) (state : State) (reads : List (List ℕ)) (changes : Changes) → ((text : List ℕ) → IsIn (recorded_texts state reads changes) text → get table (sha256 text) ≡ Some text) → (text : List ℕ) → IsIn (touched_texts state reads changes) text → get table (sha256 text) ≡ Some text
recorded-there table state reads changes there text h = there text (in-set_of (touched_texts state reads changes) text h)

-- ---- the recording among the texts of the state

recorded-in : (state : State) (reads : List (List ℕ)) (changes : Changes) (text : List ℕ) → IsIn (recorded_texts state reads changes) text → IsIn (texts_of state) text
recorded-in state reads changes text h = touched-in state reads changes text (in_set_of_from (touched_texts state reads changes) text h)

pub recorded-apart : (state : State) (reads : List (List ℕ)) (changes : Changes) → NoClash (texts_of state) → NoClash (recorded_texts state reads changes)
recorded-apart state reads changes apart = NoClash-part (recorded_texts state reads changes) (texts_of state) (λ t h. contains_of_in (texts_of state) t (recorded-in state reads changes t (in_of_contains (recorded_texts state reads changes) t h))) apart

pub recorded-among : (state : State) (reads : List (List ℕ)) (changes : Changes) → NoClash (texts_of state) → NoClash (texts_of state ++ recorded_texts state reads changes)
recorded-among state reads changes apart = NoClash-part (texts_of state ++ recorded_texts state reads changes) (texts_of state) part apart
  where
    go : (t : List ℕ) → IsIn (texts_of state) t ⊎ IsIn (recorded_texts state reads changes) t → IsIn (texts_of state) t
    go t (inl i) = i
    go t (inr i) = recorded-in state reads changes t i

    part : (t : List ℕ) → Contains (texts_of state ++ recorded_texts state reads changes) t → Contains (texts_of state) t
    part t h = contains_of_in (texts_of state) t (go t (in-append_cases (texts_of state) (recorded_texts state reads changes) t (in_of_contains (texts_of state ++ recorded_texts state reads changes) t h)))

-- ---- over a table that holds a state

-- each text of the state is found under its digest, so there is no other
pub holds-agrees : (table : Table) (state : State) → Holds table state → Agrees table state
holds-agrees table state holds t text i e = same_Some t text (sym (all_at (λ u. get table (sha256 u) ≡ Some u) (texts_of state) t holds.found (in_of_contains (texts_of state) t i)) ∙ e)

pub holds-passes : (table : Table) (state : State) (reads : List (List ℕ)) (changes : Changes) → Holds table state → IsState state → AllByRecursion AreBytes reads → AreChanges changes → (replay_visits table (root state) reads changes).refusal ≡ None
holds-passes table state reads changes holds is bytes are =
    both-pass (reads_visits table (root state) reads) (batch_visits table (root state) changes)
    (reads_visits-refusal table state reads holds is bytes)
    (batch_passes state changes is are table (holds-touched table state holds [] changes) (λ _. true)).passed
