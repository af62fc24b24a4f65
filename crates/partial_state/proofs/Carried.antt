-- A batch that is carried out behind reads: what both answer, and what they leave of a store.
use Rattle.std.proofs.Common.{◌≡◌, ℕ, List, [], ◌++◌, Option, None, Some, option_map, Err, refl, sym, ap, ◌∙◌, subst, append-nil, Result}
use Rattle.trie_model.specs.State.{State, IsState}
use Rattle.trie_model.specs.Root as trie
use Rattle.trie_model.specs.Root.{Table}
use Rattle.change_model.specs.Places.{touched_places}
use Rattle.change_model.specs.Tables.{HoldsPlaces}
use Rattle.change_model.specs.Visits as changing
use Rattle.change_model.specs.Visits.{batch_visits}
use Rattle.recording_model.specs.Replays as replay
use Rattle.recording_model.specs.Replays.{Visits, Refusal, and_batch, batch_behind, of_batch, reads_visits, replay_visits}
use Rattle.recording_model.proofs.Behind.{behind-reads}
use Rattle.base_core.specs.Faults.{Ended, done, refused, failed, short_of_memory}
use Rattle.text_store.specs.Store.{Store}
use Rattle.text_store.specs.Leaves.{Leaves}
use Rattle.text_store.proofs.Leaves.{Leaves-then, Leaves-within, Leaves-short_within}
use Rattle.partial_state.specs.declared.prove_error.ProveError.{ProveError}
use Rattle.partial_state.specs.declared.prove_error.ProveError.TheVariants.{Missing, Bad, Usage, Clash, Fault, NoMemory}
use Rattle.base_core.specs.ChangeMaps.{ChangeMap}
use Rattle.base_core.specs.declared.hash.Digest.{Digest}
use Rattle.partial_state.specs.Operations.{Operations}
use Rattle.partial_state.specs.Replays.{by_prove_error, AnswersReads, AnswersCarried, IsStopped, MeetsRoot}

abbrev pub Onward : {S : Type 0} → Store S → Type 0
Onward {S} store = (a b c : S) → store.alike a b → store.alike b c → store.alike a c

-- ---- reads that were refused: no batch is visited behind them

stops : (reads : Visits) (batch : changing.Visits) (why : Refusal) → reads.refusal ≡ Some why → batch_behind reads batch ≡ reads
unfolding and_batch
stops reads batch why e = ap (λ o. and_batch o reads batch) e

-- what the reads visit is visited first
begins : (o : Option Refusal) (reads : Visits) (batch : changing.Visits) → (rest : List (List ℕ)) × ((and_batch o reads batch).digests ≡ reads.digests ++ rest)
unfolding and_batch
begins None reads batch = (batch.digests, refl)
begins (Some why) reads batch = ([], sym (append-nil reads.digests))

abbrev pub EndsSo : {S : Type 0} → Store S → S → S → Visits → ProveError → Type 0
EndsSo store old new visits error = IsStopped visits error × Leaves store old new visits.digests (by_prove_error error)

stopped_by : {S : Type 0} (store : Store S) (old new : S) (reads : Visits) (batch : changing.Visits) (why : Refusal) → reads.refusal ≡ Some why → Leaves store old new reads.digests refused → ((batch_behind reads batch).refusal ≡ Some why) × Leaves store old new (batch_behind reads batch).digests refused
stopped_by store old new reads batch why e l =
    let same : batch_behind reads batch ≡ reads = stops reads batch why e in
    (ap (λ (v : Visits). v.refusal) same ∙ e, subst (λ (v : Visits). Leaves store old new v.digests refused) (sym same) l)

reads-refused : {S X : Type 0} (store : Store S) (old new : S) (view : X → List (Option (List ℕ))) (reads : Visits) (batch : changing.Visits) (error : ProveError) → AnswersReads view reads (Err error) → Leaves store old new reads.digests (by_prove_error error) → EndsSo store old new (batch_behind reads batch) error
reads-refused store old new view reads batch (Missing digest) a l = stopped_by store old new reads batch (replay.missing digest.0) a l
reads-refused store old new view reads batch (Bad digest) a l = stopped_by store old new reads batch (replay.bad digest.0) a l
reads-refused store old new view reads batch (Usage digest) a l = stopped_by store old new reads batch (replay.usage digest.0) a l
reads-refused store old new view reads batch (Clash digest one other) a l = absurd a
reads-refused store old new view reads batch Fault a l =
    let more = begins reads.refusal reads batch in
    (tt, subst (λ (ds : List (List ℕ)). Leaves store old new ds failed) (sym more.1) (Leaves-within store old new reads.digests more.0 l))
reads-refused store old new view reads batch NoMemory a l =
    let more = begins reads.refusal reads batch in
    (tt, subst (λ (ds : List (List ℕ)). Leaves store old new ds short_of_memory) (sym more.1) (Leaves-short_within store old new reads.digests more.0 l))

-- ---- reads that were not refused: the batch is visited behind them

left-both : {S : Type 0} (store : Store S) → Onward store → (old mid new : S) (reads : Visits) (batch : changing.Visits) (ended : Ended) → reads.refusal ≡ None → Leaves store old mid reads.digests done → Leaves store mid new batch.digests ended → Leaves store old new (batch_behind reads batch).digests ended
left-both store onward old mid new reads batch ended e first last =
    subst (λ (v : Visits). Leaves store old new v.digests ended) (sym (behind-reads reads batch e)) (Leaves-then store onward old mid new reads.digests batch.digests ended first last)

both-done : (reads : Visits) (batch : changing.Visits) (answers : List (Option (List ℕ))) → reads.refusal ≡ None → answers ≡ reads.answers → batch.refusal ≡ None → ((batch_behind reads batch).refusal ≡ None) × (answers ≡ (batch_behind reads batch).answers)
both-done reads batch answers e a b = (
  ap (λ (v : Visits). v.refusal) (behind-reads reads batch e) ∙ ap (option_map of_batch) b,
  a ∙ sym (ap (λ (v : Visits). v.answers) (behind-reads reads batch e)),
)

batch-refused : (reads : Visits) (batch : changing.Visits) (error : ProveError) → reads.refusal ≡ None → AnswersCarried batch (Err error) → IsStopped (batch_behind reads batch) error
batch-refused reads batch (Missing digest) e a = ap (λ (v : Visits). v.refusal) (behind-reads reads batch e) ∙ ap (option_map of_batch) a
batch-refused reads batch (Bad digest) e a = ap (λ (v : Visits). v.refusal) (behind-reads reads batch e) ∙ ap (option_map of_batch) a
batch-refused reads batch (Usage digest) e a = ap (λ (v : Visits). v.refusal) (behind-reads reads batch e) ∙ ap (option_map of_batch) a
batch-refused reads batch (Clash digest one other) e a = (ap (λ (v : Visits). v.refusal) (behind-reads reads batch e) ∙ ap (option_map of_batch) a.0, a.1)
batch-refused reads batch Fault e a = tt
batch-refused reads batch NoMemory e a = tt

-- ---- the reads and the batch of some operations, as they are lent

module _ {S : Type 0} (store : Store S) (old mid : S) (root : List ℕ) (ops : Operations) (keys : List (List ℕ)) (map : ChangeMap) (k : keys ≡ ops.reads) (m : map ≡ ops.batch) where
  abbrev reads : Visits
  reads = reads_visits (store.texts old) root keys

  abbrev batch : changing.Visits
  batch = batch_visits (store.texts old) root map.changes

  abbrev whole : Visits
  whole = replay_visits (store.texts old) root ops.reads ops.batch.changes

  lent : (P : Visits → Type 0) → P (batch_behind reads batch) → P whole
  lent P here =
      subst (λ (ks : List (List ℕ)). P (replay_visits (store.texts old) root ks ops.batch.changes)) k
      (subst (λ (cs : ChangeMap). P (replay_visits (store.texts old) root keys cs.changes)) m here)

  pub lent-refused : {X : Type 0} (view : X → List (Option (List ℕ))) (error : ProveError) → AnswersReads view reads (Err error) → Leaves store old mid reads.digests (by_prove_error error) → EndsSo store old mid whole error
  lent-refused view error a l = lent (λ v. EndsSo store old mid v error) (reads-refused store old mid view reads batch error a l)

  module _ (same : store.texts old ≡ store.texts mid) (e : reads.refusal ≡ None) where
    at_mid : (P : changing.Visits → Type 0) → P (batch_visits (store.texts mid) root map.changes) → P batch
    at_mid P here = subst (λ (t : Table). P (batch_visits t root map.changes)) (sym same) here

    pub lent-left : Onward store → (new : S) (ended : Ended) → Leaves store old mid reads.digests done → Leaves store mid new (batch_visits (store.texts mid) root map.changes).digests ended → Leaves store old new whole.digests ended
    lent-left onward new ended first last =
        lent (λ v. Leaves store old new v.digests ended)
        (left-both store onward old mid new reads batch ended e first (at_mid (λ v. Leaves store mid new v.digests ended) last))

    pub lent-done : (answers : List (Option (List ℕ))) → answers ≡ reads.answers → (batch_visits (store.texts mid) root map.changes).refusal ≡ None → (whole.refusal ≡ None) × (answers ≡ whole.answers)
    lent-done answers a passed =
        lent (λ v. (v.refusal ≡ None) × (answers ≡ v.answers)) (both-done reads batch answers e a (at_mid (λ v. v.refusal ≡ None) passed))

    pub lent-stopped : (error : ProveError) → AnswersCarried (batch_visits (store.texts mid) root map.changes) (Err error) → IsStopped whole error
    lent-stopped error a = lent (λ v. IsStopped v error) (batch-refused reads batch error e (at_mid (λ v. AnswersCarried v (Err error)) a))

    pub lent-state : (state : State) (r : Result Digest ProveError) → IsState state → root ≡ trie.root state → ((s : State) → IsState s → HoldsPlaces (store.texts mid) s (touched_places s [] map.changes) → root ≡ trie.root s → MeetsRoot s map.changes r)
        → HoldsPlaces (store.texts old) state (touched_places state [] ops.batch.changes) → MeetsRoot state ops.batch.changes r
    lent-state state r is at meets =
        subst (λ (cs : ChangeMap). HoldsPlaces (store.texts old) state (touched_places state [] cs.changes) → MeetsRoot state cs.changes r) m
        (λ held. meets state is (subst (λ (t : Table). HoldsPlaces t state (touched_places state [] map.changes)) same held) at)
