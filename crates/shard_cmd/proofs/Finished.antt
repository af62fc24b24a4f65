-- What is counted where a history has ended with a status and what was gathered is written.
use Rattle.std.proofs.Common.{◌≡◌, ◌≢◌, ℕ, List, Option, inl, inr, refl, ap, ◌∙◌}
use Rattle.std.specs.Prelude.{◌⊎◌}
use Rattle.base_core.specs.Faults.{risen, faults_after}
use Rattle.shard_cmd.specs.declared.status.Status.{Status}
use Rattle.shard_cmd.specs.declared.status.Status.TheVariants as status
use Rattle.shard_cmd.specs.Ends.{Finishes, SourceCounts, StoreCounts, sink_ended, source_ended, store_ended}

-- the run ends as the history did, or the sink failed
pub finished : (given ended : Status) (bytes : List ℕ) (before after : Option (List ℕ)) (faults now : ℕ) → Finishes given ended bytes before after faults now → (P : Status → Type 0) → P given → P status.WriteFault → P ended
finished status.Done ended bytes before after faults now (inl whole, w) P p q = rw whole.0 p
finished status.Done ended bytes before after faults now (inr part, w) P p q = rw part.0 q
finished status.NoMemory ended bytes before after faults now f P p q = rw f.0 p
finished status.Usage ended bytes before after faults now (inl whole, w) P p q = rw whole.0 p
finished status.Usage ended bytes before after faults now (inr part, w) P p q = rw part.0 q
finished status.Syntax ended bytes before after faults now (inl whole, w) P p q = rw whole.0 p
finished status.Syntax ended bytes before after faults now (inr part, w) P p q = rw part.0 q
finished status.Refused ended bytes before after faults now (inl whole, w) P p q = rw whole.0 p
finished status.Refused ended bytes before after faults now (inr part, w) P p q = rw part.0 q
finished status.ReadFault ended bytes before after faults now (inl whole, w) P p q = rw whole.0 p
finished status.ReadFault ended bytes before after faults now (inr part, w) P p q = rw part.0 q
finished status.WriteFault ended bytes before after faults now f P p q = rw f.0 p
finished status.StoreFault ended bytes before after faults now (inl whole, w) P p q = rw whole.0 p
finished status.StoreFault ended bytes before after faults now (inr part, w) P p q = rw part.0 q
finished status.Clash ended bytes before after faults now (inl whole, w) P p q = rw whole.0 p
finished status.Clash ended bytes before after faults now (inr part, w) P p q = rw part.0 q

pub finished_done : (given ended : Status) (bytes : List ℕ) (before after : Option (List ℕ)) (faults now : ℕ) → Finishes given ended bytes before after faults now → ended ≡ status.Done → given ≡ status.Done
finished_done given ended bytes before after faults now f = finished given ended bytes before after faults now f (λ s. s ≡ status.Done → given ≡ status.Done) (λ e. e) (λ e. absurd (cc e))

pub finished_usage : (given ended : Status) (bytes : List ℕ) (before after : Option (List ℕ)) (faults now : ℕ) → Finishes given ended bytes before after faults now → given ≢ status.Usage → ended ≢ status.Usage
finished_usage given ended bytes before after faults now f h = finished given ended bytes before after faults now f (λ s. s ≢ status.Usage) h (λ e. absurd (cc e))

-- the sink's count
pub sink_counts : (given ended : Status) (bytes : List ℕ) (before after : Option (List ℕ)) (first faults now : ℕ) → faults ≡ faults_after (sink_ended given) first → Finishes given ended bytes before after faults now → now ≡ faults_after (sink_ended ended) first
sink_counts status.Done ended bytes before after first faults now e (inl whole, w) = rw whole.0 (whole.1 ∙ e)
sink_counts status.Done ended bytes before after first faults now e (inr part, w) = rw part.0 (part.1 ∙ ap (λ n. risen n 1) e)
sink_counts status.NoMemory ended bytes before after first faults now e f = rw f.0 (f.2 ∙ e)
sink_counts status.Usage ended bytes before after first faults now e (inl whole, w) = rw whole.0 (whole.1 ∙ e)
sink_counts status.Usage ended bytes before after first faults now e (inr part, w) = rw part.0 (part.1 ∙ ap (λ n. risen n 1) e)
sink_counts status.Syntax ended bytes before after first faults now e (inl whole, w) = rw whole.0 (whole.1 ∙ e)
sink_counts status.Syntax ended bytes before after first faults now e (inr part, w) = rw part.0 (part.1 ∙ ap (λ n. risen n 1) e)
sink_counts status.Refused ended bytes before after first faults now e (inl whole, w) = rw whole.0 (whole.1 ∙ e)
sink_counts status.Refused ended bytes before after first faults now e (inr part, w) = rw part.0 (part.1 ∙ ap (λ n. risen n 1) e)
sink_counts status.ReadFault ended bytes before after first faults now e (inl whole, w) = rw whole.0 (whole.1 ∙ e)
sink_counts status.ReadFault ended bytes before after first faults now e (inr part, w) = rw part.0 (part.1 ∙ ap (λ n. risen n 1) e)
sink_counts status.WriteFault ended bytes before after first faults now e f = rw f.0 (f.2 ∙ e)
sink_counts status.StoreFault ended bytes before after first faults now e (inl whole, w) = rw whole.0 (whole.1 ∙ e)
sink_counts status.StoreFault ended bytes before after first faults now e (inr part, w) = rw part.0 (part.1 ∙ ap (λ n. risen n 1) e)
sink_counts status.Clash ended bytes before after first faults now e (inl whole, w) = rw whole.0 (whole.1 ∙ e)
sink_counts status.Clash ended bytes before after first faults now e (inr part, w) = rw part.0 (part.1 ∙ ap (λ n. risen n 1) e)

-- the source's count
pub source_counts : (given : Status) (first now : ℕ) → now ≡ faults_after (source_ended given) first → SourceCounts given first now × SourceCounts status.WriteFault first now
source_counts status.Done first now e = (e, inl e)
source_counts status.NoMemory first now e = (e, inl e)
source_counts status.Usage first now e = (e, inl e)
source_counts status.Syntax first now e = (e, inl e)
source_counts status.Refused first now e = (e, inl e)
source_counts status.ReadFault first now e = (e, inr e)
source_counts status.WriteFault first now e = (inl e, inl e)
source_counts status.StoreFault first now e = (e, inl e)
source_counts status.Clash first now e = (e, inl e)

-- the store's count
pub store_counts : (given : Status) (first now : ℕ) → now ≡ faults_after (store_ended given) first → StoreCounts given first now × StoreCounts status.WriteFault first now
store_counts status.Done first now e = (e, inl e)
store_counts status.NoMemory first now e = (e, inl e)
store_counts status.Usage first now e = (e, inl e)
store_counts status.Syntax first now e = (e, inl e)
store_counts status.Refused first now e = (e, inl e)
store_counts status.ReadFault first now e = (e, inl e)
store_counts status.WriteFault first now e = (inl e, inl e)
store_counts status.StoreFault first now e = (e, inr e)
store_counts status.Clash first now e = (e, inl e)

pub source_finished : (given ended : Status) (bytes : List ℕ) (before after : Option (List ℕ)) (faults now first last : ℕ) → Finishes given ended bytes before after faults now → last ≡ faults_after (source_ended given) first → SourceCounts ended first last
source_finished given ended bytes before after faults now first last f e = finished given ended bytes before after faults now f (λ s. SourceCounts s first last) (source_counts given first last e).0 (source_counts given first last e).1

pub store_finished : (given ended : Status) (bytes : List ℕ) (before after : Option (List ℕ)) (faults now first last : ℕ) → Finishes given ended bytes before after faults now → last ≡ faults_after (store_ended given) first → StoreCounts ended first last
store_finished given ended bytes before after faults now first last f e = finished given ended bytes before after faults now f (λ s. StoreCounts s first last) (store_counts given first last e).0 (store_counts given first last e).1

-- whether a script was read to its end
pub is_whole : (given : Status) → (given ≡ status.Done) ⊎ (given ≢ status.Done)
is_whole status.Done = inl refl
is_whole status.NoMemory = inr (λ e. absurd (cc e))
is_whole status.Usage = inr (λ e. absurd (cc e))
is_whole status.Syntax = inr (λ e. absurd (cc e))
is_whole status.Refused = inr (λ e. absurd (cc e))
is_whole status.ReadFault = inr (λ e. absurd (cc e))
is_whole status.WriteFault = inr (λ e. absurd (cc e))
is_whole status.StoreFault = inr (λ e. absurd (cc e))
is_whole status.Clash = inr (λ e. absurd (cc e))
