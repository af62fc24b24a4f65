-- A recording that is replayed without a refusal, at the root of a state with whose texts its own don't clash: its answers are the state's values, and it has the texts of the places that its batch touches.
use Rattle.std.proofs.Common.{◌≡◌, ◌≢◌, ℕ, ◌≤◌, nat_eq, Bool, List, [], map, None, Some, refl, sym, ap, ◌∙◌, subst}
use Rattle.std.specs.List.{AllByRecursion, count_by}
use Rattle.std.specs.Cmp.Lexicographic.{pointwise, bytes_decides}
use Rattle.std.specs.FinMap.{get}
use Rattle.sha2.specs.Sha256.{sha256}
use Rattle.byte_model.specs.Nibbles.{AreBytes}
use Rattle.trie_model.specs.State.{State, IsState, rows_of}
use Rattle.trie_model.specs.Root.{Table, NoClash, root, text_at, texts_of, places_of, zero_digest}
use Rattle.trie_model.proofs.Members.{IsIn, all_at, all_of, contains_of_in, in-append_left, in-map}
use Rattle.batch_model.specs.Changes.{Changes, AreChanges}
use Rattle.change_model.specs.Visits as changing
use Rattle.change_model.specs.Visits.{batch_visits}
use Rattle.change_model.specs.Places.{is_touched, touched_places}
use Rattle.change_model.specs.Tables.{HoldsPlaces}
use Rattle.change_model.proofs.Filtered.{in_filter_from}
use Rattle.change_model.proofs.Visited.{batch_passes}
use Rattle.count_model.proofs.Live.{count-some, count-member}
use Rattle.count_model.proofs.Loaded.{holds-touched}
use Rattle.recording_model.specs.Agreeing.{Agrees}
use Rattle.recording_model.specs.Replays.{Visits, reads_visits, replay_visits}
use Rattle.recording_model.proofs.StateReads.{reads_visits-answers}
use Rattle.recording_model.proofs.Behind.{behind-reads, both-passed}
use Rattle.recording_model.proofs.MoreBatches.{batch-more, reads-more}
use Rattle.recording_model.proofs.Filled.{full, full-has, full-holds}
use Rattle.recording_model.proofs.VisitedTexts.{Has, held-batch}

pub place_text : (state : State) (reads : List (List ℕ)) (changes : Changes) (place : List ℕ) → IsIn (touched_places state reads changes) place → IsIn (texts_of state) (text_at state place)
unfolding texts_of
place_text state reads changes place i =
    in-append_left (map (text_at state) (places_of state)) (map (λ row. row.1) (rows_of state)) (text_at state place) (in-map (text_at state) (places_of state) place (in_filter_from (is_touched state reads changes) (places_of state) place i).0)

pub holds_places : (table : Table) (state : State) (changes : Changes) → NoClash (texts_of state)
    → ((place : List ℕ) → IsIn (touched_places state [] changes) place → get table (sha256 (text_at state place)) ≡ Some (text_at state place)) → HoldsPlaces table state (touched_places state [] changes)
holds_places table state changes apart there = record {
  found = all_of (λ (place : List ℕ). get table (sha256 (text_at state place)) ≡ Some (text_at state place)) (touched_places state [] changes) there;
  nonzero = all_of (λ (place : List ℕ). sha256 (text_at state place) ≢ zero_digest) (touched_places state [] changes) (λ place i. apart.nonzero (text_at state place) (contains_of_in (texts_of state) (text_at state place) (place_text state [] changes place i)));
}

module _ (table : Table) (state : State) (reads : List (List ℕ)) (changes : Changes) (is : IsState state) (bytes : AllByRecursion AreBytes reads) (are : AreChanges changes) (apart : NoClash (texts_of state)) (agreeing : Agrees table state) (passed : (replay_visits table (root state) reads changes).refusal ≡ None) where
  pub both : ((reads_visits table (root state) reads).refusal ≡ None) × ((batch_visits table (root state) changes).refusal ≡ None)
  both = both-passed (reads_visits table (root state) reads) (batch_visits table (root state) changes) passed

  pub sound-answers : (replay_visits table (root state) reads changes).answers ≡ map (get state) reads
  sound-answers =
      ap (λ (v : Visits). v.answers) (behind-reads (reads_visits table (root state) reads) (batch_visits table (root state) changes) both.0)
      ∙ ap (λ (v : Visits). v.answers) (sym (reads-more table (full table state) (full-has table state agreeing) (root state) reads both.0))
      ∙ reads_visits-answers (full table state) state reads (full-holds table state apart) is bytes

  named : List ℕ → List ℕ
  named place = sha256 (text_at state place)

  -- the digest of a touched place is visited
  pub visited : (place : List ℕ) → IsIn (touched_places state [] changes) place → IsIn (batch_visits table (root state) changes).digests (sha256 (text_at state place))
  unfolding named
  visited place i =
      let d : List ℕ = sha256 (text_at state place) in
      let test : List ℕ → Bool = λ q. pointwise nat_eq q d in
      let counted = (batch_passes state changes is are (full table state) (holds-touched (full table state) state (full-holds table state apart) [] changes) test).counted in
      let some : 1 ≤ count_by test (map named (touched_places state [] changes)) = count-member test (map named (touched_places state [] changes)) d (in-map named (touched_places state [] changes) place i) ((bytes_decides d d).1 refl) in
      let one = count-some test (batch_visits (full table state) (root state) changes).digests (subst (λ (n : ℕ). 1 ≤ n) (sym counted) some) in
      subst (λ (v : changing.Visits). IsIn v.digests d) (batch-more table (full table state) (full-has table state agreeing) (root state) changes both.1)
      (subst (IsIn (batch_visits (full table state) (root state) changes).digests) ((bytes_decides one.0 d).0 one.2) one.1)

  pub touched-held : (place : List ℕ) → IsIn (touched_places state [] changes) place → get table (sha256 (text_at state place)) ≡ Some (text_at state place)
  touched-held place i =
      let t : List ℕ = text_at state place in
      let held : Has table (sha256 t) = all_at (Has table) (batch_visits table (root state) changes).digests (sha256 t) (held-batch table (root state) changes both.1) (visited place i) in
      held.1 ∙ ap Some (sym (agreeing t held.0 (contains_of_in (texts_of state) t (place_text state [] changes place i)) held.1))

  pub sound-places : HoldsPlaces table state (touched_places state [] changes)
  sound-places = holds_places table state changes apart touched-held
