-- How many texts a recording loads, over a table that holds a state.
use Rattle.std.proofs.Common.{◌≡◌, ℕ, ◌+◌, List, [], ◌∷◌, ◌++◌, length, length-append, sym, ap, ap₂, ◌∙◌, arith}
use Rattle.std.specs.List.{AllByRecursion}
use Rattle.byte_model.specs.Nibbles.{AreBytes}
use Rattle.trie_model.specs.State.{State, IsState}
use Rattle.trie_model.specs.Root.{Table, Holds, root}
use Rattle.visit_model.proofs.Lookups.{lookup_of, lookup_visits-state}
use Rattle.batch_model.specs.Changes.{Changes, AreChanges}
use Rattle.change_model.specs.Visits.{batch_visits}
use Rattle.count_model.specs.Loads.{batch_loads, lookup_loads, recording_loads}
use Rattle.count_model.proofs.Loaded.{lookup-loaded, batch-loaded}
use Rattle.recording_model.specs.Replays.{Visits, replay_visits, reads_visits}
use Rattle.recording_model.proofs.Behind.{behind-reads}
use Rattle.recording_model.proofs.StateReads.{looked, reads_visits-state, reads_visits-refusal}

module _ (table : Table) (state : State) (holds : Holds table state) (is : IsState state) (changes : Changes) where
  -- those of the reads, and the batch behind them
  reads-cost : (reads : List (List ℕ)) → AllByRecursion AreBytes reads → length (looked state reads).digests + batch_loads state changes ≡ recording_loads state reads changes
  unfolding looked recording_loads
  reads-cost [] bytes = none_more (batch_loads state changes)
    where
      none_more : (n : ℕ) → 0 + n ≡ n
      none_more n = omega arith
  reads-cost (key ∷ reads) bytes =
      let first : length (lookup_of state key).digests ≡ lookup_loads state key = ap (λ v. length v.digests) (sym (lookup_visits-state table state key holds is bytes.0)) ∙ lookup-loaded table state holds is key bytes.0 in
      let both : length ((lookup_of state key).digests ++ (looked state reads).digests) ≡ length (lookup_of state key).digests + length (looked state reads).digests = length-append (lookup_of state key).digests (looked state reads).digests in
      let rest = reads-cost reads bytes.1 in
      omega (arith, first, both, rest)

  pub recording-loaded : (reads : List (List ℕ)) → AllByRecursion AreBytes reads → AreChanges changes → length (replay_visits table (root state) reads changes).digests ≡ recording_loads state reads changes
  recording-loaded reads bytes are =
      let one : Visits = reads_visits table (root state) reads in
      ap (λ (v : Visits). length v.digests) (behind-reads one (batch_visits table (root state) changes) (reads_visits-refusal table state reads holds is bytes))
      ∙ length-append one.digests (batch_visits table (root state) changes).digests
      ∙ ap₂ (λ (a b : ℕ). a + b) (ap (λ (v : Visits). length v.digests) (reads_visits-state table state holds is reads bytes)) (batch-loaded table state holds is changes are)
      ∙ reads-cost reads bytes
