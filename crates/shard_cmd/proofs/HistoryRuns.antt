-- How a run ends that has read a history, by what was written last.
use Rattle.std.proofs.Common.{◌≡◌, ◌≢◌, ℕ, ◌+◌, ◌≤◌, List, [], ◌++◌, Option, Some, None, IfSome, inl, inr, refl, sym, ap, subst, ◌∙◌, append_assoc, append-nil, arith}
use Rattle.std.specs.Prelude.{◌⊎◌}
use Rattle.base_core.specs.Faults.{risen}
use Rattle.fork_model.specs.States.{ForkState}
use Rattle.count_model.specs.Loads.{Access, no_texts, loads}
use Rattle.text_store.specs.Store.{Store}
use Rattle.text_store.specs.Leaves.{CountsLoads}
use Rattle.shard_core.specs.Shards.{ShardState}
use Rattle.output_model.specs.Ends.{Output, Ending, RunLimits, done, syntax, refused, clash}
use Rattle.output_model.specs.Scripts.{Outcome, onward}
use Rattle.output_model.specs.Histories.{History, outside}
use Rattle.output_model.specs.Apply.{nothing_more}
use Rattle.output_model.specs.Output.{live_behind}
use Rattle.script_io.specs.Streams.{AppendsPrefix}
use Rattle.shard_cmd.specs.declared.status.Status.{Status}
use Rattle.shard_cmd.specs.declared.status.Status.TheVariants as status
use Rattle.shard_cmd.specs.Ends.{EndsAs, HasEnding, Finishes, FinishesAs, IsWritten, ending_of, run_ended}
use Rattle.shard_cmd.specs.HandedBack.{EndsRun, HoldsBlocks, IfSettled}
use Rattle.shard_cmd.specs.Histories.{IsGoing}
use Rattle.shard_cmd.specs.Requests.{Answered}
use Rattle.shard_cmd.specs.Sending.{Sends, Reaches, IsWithin, Stops, Fails, Loads, EndsHistory, ended_with, request_at}
use Rattle.shard_cmd.proofs.Answered.{loads_end}
use Rattle.shard_cmd.proofs.Scripts.{onward-onward}
use Rattle.shard_cmd.proofs.Sending.{Sends-more, fails, risen-risen}
use Rattle.shard_cmd.proofs.HistoryEnds.{closed}
use Rattle.shard_cmd.proofs.Finished.{is_whole}

-- what was gathered is written behind what was written before
written_whole : (b sent kept bytes : List ℕ) (mid after : Option (List ℕ)) → mid ≡ Some (b ++ sent) → bytes ≡ sent ++ kept → after ≡ Some (b ++ sent ++ kept) → after ≡ Some (b ++ bytes)
written_whole b sent kept bytes mid after m e h = h ∙ ap Some (append_assoc b sent kept ∙ ap (λ (l : List ℕ). b ++ l) (sym e))

-- or a prefix of it is, and of all bytes
written_part : (b sent kept rest bytes : List ℕ) (after : Option (List ℕ)) → bytes ≡ sent ++ kept ++ rest → AppendsPrefix (b ++ sent) after kept → AppendsPrefix b after bytes
written_part b sent kept rest bytes after e p = record {
  prefix = sent ++ p.prefix;
  rest = p.rest ++ rest;
  parts = e ∙ ap (λ (l : List ℕ). sent ++ l ++ rest) p.parts ∙ ap (λ (l : List ℕ). l ++ rest) (sym (append_assoc sent p.prefix p.rest)) ∙ append_assoc (sent ++ p.prefix) p.rest rest;
  told = p.told ∙ ap Some (append_assoc b sent p.prefix);
}

module _ {N : Type 0} (store : Store N) (count_of : N → List ℕ → ℕ) (outcome : Outcome History) (old new : N) (before mid after : Option (List ℕ)) (kept : List ℕ) (ended : Status) (faults now : ℕ) where
  abbrev counts : Loads
  counts = record { before = store.loads old; now = store.loads new }

  abbrev Ends : Type 0
  Ends = EndsRun store count_of (live_behind outcome) old new before after ended

  -- with an ending of its own
  module _ (status : Status) (ending : Ending) (left : History) (is : ending_of status ≡ Some ending) (r : Reaches outcome (ended_with ending left) before mid kept counts) (settled : IfSettled status (HoldsBlocks (store.texts new) (count_of new) left.forks)) where
    exact : store.loads new ≡ risen (store.loads old) outcome.loaded
    exact =
        let all : outcome.loaded ≡ r.loaded + 0 = ap (λ (o : Outcome History). o.loaded) r.outcome_is in
        let same : r.loaded ≡ outcome.loaded = omega (arith, all) in
        r.counted ∙ ap (risen (store.loads old)) same

    all_bytes : outcome.output.bytes ≡ r.replies
    all_bytes = ap (λ (o : Outcome History). o.output.bytes) r.outcome_is ∙ append-nil r.replies

    ending_is : outcome.output.ending ≡ ending
    ending_is = ap (λ (o : Outcome History). o.output.ending) r.outcome_is

    left_is : outcome.left ≡ left
    left_is = ap (λ (o : Outcome History). o.left) r.outcome_is

    output_told : (before : Option (List ℕ)) → Sends before mid r.replies kept → IfSome mid (λ b. IsWritten status ended kept b after) → IfSome before (λ b. EndsAs outcome.output (ending_of ended) b after)
    output_told None sends w = tt
    output_told (Some b) sends w = by_written (subst (λ (o : Option (List ℕ)). IfSome o (λ b. IsWritten status ended kept b after)) sends.1 w)
      where
        by_written : IsWritten status ended kept (b ++ sends.0) after → EndsAs outcome.output (ending_of ended) b after
        by_written (inl whole) = rw (whole.0, is) (sym ending_is, written_whole b sends.0 kept outcome.output.bytes mid after sends.1 (all_bytes ∙ sends.2) whole.1)
        by_written (inr part) = rw part.0 (written_part b sends.0 kept [] outcome.output.bytes after (all_bytes ∙ sends.2 ∙ sym (append-nil (sends.0 ++ kept))) part.1)

    ending_told : FinishesAs status ended faults now → HasEnding outcome.output (ending_of ended)
    ending_told (inl whole) = rw (whole.0, is) (sym ending_is)
    ending_told (inr part) = rw part.0 tt

    counts_told : FinishesAs status ended faults now → IfSettled ended (HoldsBlocks (store.texts new) (count_of new) outcome.left.forks)
    counts_told (inl whole) = rw (whole.0, left_is) settled
    counts_told (inr part) = rw part.0 tt

    pub closes : FinishesAs status ended faults now → IfSome mid (λ b. IsWritten status ended kept b after) → Ends
    closes f w = record { output = output_told before r.sends w; ending = ending_told f; counts = counts_told f; loads = loads_end (run_ended ended) (store.loads old) (store.loads new) outcome.loaded exact }

  -- memory or the sink failed
  module _ (f : Fails outcome before mid counts) (same : after ≡ mid) where
    failed_output : IfSome before (λ b. AppendsPrefix b after outcome.output.bytes)
    failed_output = subst (λ (o : Option (List ℕ)). IfSome before (λ b. AppendsPrefix b o outcome.output.bytes)) (sym same) f.written

    pub short_whole : ended ≡ status.NoMemory → Ends
    short_whole e = rw e (record { output = failed_output; ending = tt; counts = tt; loads = (f.within.least, f.within.most) })

    pub unsent_whole : ended ≡ status.WriteFault → Ends
    unsent_whole e = rw e (record { output = failed_output; ending = tt; counts = tt; loads = (f.within.least, f.within.most) })

  -- an object of the outside failed, and what was gathered is written
  module _ (status : Status) (is : ending_of status ≡ None) (unsettled : IfSettled status (HoldsBlocks (store.texts new) (count_of new) outcome.left.forks)) (s : Stops outcome before mid kept counts) where
    stopped_output : (before : Option (List ℕ)) → Sends before mid s.replies kept → IfSome mid (λ b. IsWritten status ended kept b after) → IfSome before (λ b. EndsAs outcome.output (ending_of ended) b after)
    stopped_output None sends w = tt
    stopped_output (Some b) sends w = by_written (subst (λ (o : Option (List ℕ)). IfSome o (λ b. IsWritten status ended kept b after)) sends.1 w)
      where
        bytes : outcome.output.bytes ≡ sends.0 ++ kept ++ s.last.bytes
        bytes = s.bytes ∙ ap (λ (l : List ℕ). l ++ s.last.bytes) sends.2

        by_written : IsWritten status ended kept (b ++ sends.0) after → EndsAs outcome.output (ending_of ended) b after
        by_written (inl whole) = rw (whole.0, is) (record { prefix = sends.0 ++ kept; rest = s.last.bytes; parts = bytes; told = whole.1 ∙ ap Some (append_assoc b sends.0 kept) })
        by_written (inr part) = rw part.0 (written_part b sends.0 kept s.last.bytes outcome.output.bytes after bytes part.1)

    stopped_ending : FinishesAs status ended faults now → HasEnding outcome.output (ending_of ended)
    stopped_ending (inl whole) = rw (whole.0, is) tt
    stopped_ending (inr part) = rw part.0 tt

    stopped_counts : FinishesAs status ended faults now → IfSettled ended (HoldsBlocks (store.texts new) (count_of new) outcome.left.forks)
    stopped_counts (inl whole) = rw whole.0 unsettled
    stopped_counts (inr part) = rw part.0 tt

    stopped_loads : CountsLoads (run_ended status) (store.loads old) (store.loads new) outcome.loaded → FinishesAs status ended faults now → CountsLoads (run_ended ended) (store.loads old) (store.loads new) outcome.loaded
    stopped_loads more (inl whole) = rw whole.0 more
    stopped_loads more (inr part) = rw part.0 (s.within.least, s.within.most)

    pub stops_whole : CountsLoads (run_ended status) (store.loads old) (store.loads new) outcome.loaded → FinishesAs status ended faults now → IfSome mid (λ b. IsWritten status ended kept b after) → Ends
    stops_whole more f w = record { output = stopped_output before s.sends w; ending = stopped_ending f; counts = stopped_counts f; loads = stopped_loads more f }

-- what a shard of blocks holds
holds : {N : Type 0} (store : Store N) (count_of : N → List ℕ → ℕ) (limits : RunLimits) (shard : ShardState N) (forks : ForkState) → IsGoing store count_of limits shard forks → HoldsBlocks (store.texts shard.nodes) (count_of shard.nodes) forks
holds store count_of limits shard forks is = record { held = is.of.tries.held; counts = is.of.tries.counts }

-- a history has ended before its last request
pub early_ends : {N : Type 0} (store : Store N) (count_of : N → List ℕ → ℕ) (limits : RunLimits) (request : ForkState → Output) (access : Access) (shard : ShardState N) (outcome : Outcome History) (old : N) (before mid after : Option (List ℕ)) (kept : List ℕ) (given ended : Status) (faults now : ℕ)
    → given ≢ status.Done → EndsHistory limits request access outcome (IsGoing store count_of limits shard) before mid kept (record { before = store.loads old; now = store.loads shard.nodes }) given → Finishes given ended kept mid after faults now
    → EndsRun store count_of (live_behind outcome) old shard.nodes before after ended
early_ends store count_of limits request access shard outcome old before mid after kept status.Done ended faults now n h f = absurd (n refl)
early_ends store count_of limits request access shard outcome old before mid after kept status.NoMemory ended faults now n h f = short_whole store count_of outcome old shard.nodes before mid after kept ended faults now h f.1 f.0
early_ends store count_of limits request access shard outcome old before mid after kept status.Usage ended faults now n h f = absurd h
early_ends store count_of limits request access shard outcome old before mid after kept status.Syntax ended faults now n h f =
    closes store count_of outcome old shard.nodes before mid after kept ended faults now status.Syntax syntax h.0 refl h.1 (holds store count_of limits shard h.0.forks h.2) f.0 f.1
early_ends store count_of limits request access shard outcome old before mid after kept status.Refused ended faults now n h f = absurd h
early_ends store count_of limits request access shard outcome old before mid after kept status.ReadFault ended faults now n h f =
    stops_whole store count_of outcome old shard.nodes before mid after kept ended faults now status.ReadFault refl tt h (h.within.least, h.within.most) f.0 f.1
early_ends store count_of limits request access shard outcome old before mid after kept status.WriteFault ended faults now n h f = unsent_whole store count_of outcome old shard.nodes before mid after kept ended faults now h f.1 f.0
early_ends store count_of limits request access shard outcome old before mid after kept status.StoreFault ended faults now n h f =
    stops_whole store count_of outcome old shard.nodes before mid after kept ended faults now status.StoreFault refl tt h (h.within.least, h.within.most) f.0 f.1
early_ends store count_of limits request access shard outcome old before mid after kept status.Clash ended faults now n h f =
    closes store count_of outcome old shard.nodes before mid after kept ended faults now status.Clash clash h.0 refl h.1 tt f.0 f.1

-- where its last request asks for nothing
pub history_ends : {N : Type 0} (store : Store N) (count_of : N → List ℕ → ℕ) (limits : RunLimits) (shard : ShardState N) (outcome : Outcome History) (old : N) (before mid after : Option (List ℕ)) (kept : List ℕ) (given ended : Status) (faults now : ℕ)
    → EndsHistory limits nothing_more no_texts outcome (IsGoing store count_of limits shard) before mid kept (record { before = store.loads old; now = store.loads shard.nodes }) given → Finishes given ended kept mid after faults now
    → EndsRun store count_of (live_behind outcome) old shard.nodes before after ended
unfolding loads
history_ends store count_of limits shard outcome old before mid after kept given ended faults now h f = by_given (is_whole given)
  where
    by_given : ((given ≡ status.Done) ⊎ (given ≢ status.Done)) → EndsRun store count_of (live_behind outcome) old shard.nodes before after ended
    by_given (inl e) =
        let whole = subst (EndsHistory limits nothing_more no_texts outcome (IsGoing store count_of limits shard) before mid kept (record { before = store.loads old; now = store.loads shard.nodes })) e h in
        let finish = subst (λ s. Finishes s ended kept mid after faults now) e f in
        closes store count_of outcome old shard.nodes before mid after kept ended faults now status.Done done (outside whole.0) refl whole.1 (holds store count_of limits shard whole.0 whole.2) finish.0 finish.1
    by_given (inr n) = early_ends store count_of limits nothing_more no_texts shard outcome old before mid after kept given ended faults now n h f

-- ---- behind the last request

module _ {N : Type 0} (store : Store N) (count_of : N → List ℕ → ℕ) (limits : RunLimits) (request : ForkState → Output) (access : Access) (shard new : ShardState N) (outcome : Outcome History) (old : N) (before mid after : Option (List ℕ)) (kept later : List ℕ) (ended : Status) (faults now : ℕ) where
  abbrev cost_at : ForkState → ℕ
  cost_at forks = loads limits.blocks forks access

  abbrev AtRequest : ForkState → Type 0
  AtRequest forks = Reaches outcome (request_at limits request access forks) before mid kept (record { before = store.loads old; now = store.loads shard.nodes })

  all_loads : (forks : ForkState) (r : AtRequest forks) → risen (store.loads shard.nodes) (cost_at forks) ≡ risen (store.loads old) (r.loaded + cost_at forks)
  all_loads forks r = ap (λ m. risen m (cost_at forks)) r.counted ∙ risen-risen (store.loads old) r.loaded (cost_at forks)

  -- answered in full
  in_full : (forks : ForkState) (ending : Ending) (r : AtRequest forks) → (request forks).ending ≡ ending → later ≡ kept ++ (request forks).bytes → store.loads new.nodes ≡ risen (store.loads shard.nodes) (cost_at forks)
      → Reaches outcome (ended_with ending (outside forks)) before mid later (record { before = store.loads old; now = store.loads new.nodes })
  in_full forks ending r e put more = record {
    replies = r.replies ++ (request forks).bytes;
    loaded = r.loaded + cost_at forks;
    outcome_is = r.outcome_is ∙ ap (λ (o : Outcome History). onward r.replies r.loaded o) (closed (request forks) (cost_at forks) (outside forks))
        ∙ onward-onward r.replies (request forks).bytes r.loaded (cost_at forks) (ended_with (request forks).ending (outside forks))
        ∙ ap (λ (x : Ending). onward (r.replies ++ (request forks).bytes) (r.loaded + cost_at forks) (ended_with x (outside forks))) e;
    sends = Sends-more before mid r.replies kept (request forks).bytes later put r.sends;
    counted = more ∙ all_loads forks r;
  }

  in_part : (forks : ForkState) (r : AtRequest forks) → store.loads shard.nodes ≤ store.loads new.nodes → store.loads new.nodes ≤ risen (store.loads shard.nodes) (cost_at forks) → IsWithin outcome (record { before = store.loads old; now = store.loads new.nodes })
  in_part forks r least most =
      let all : outcome.loaded ≡ r.loaded + cost_at forks = ap (λ (o : Outcome History). o.loaded) r.outcome_is in
      let sum = all_loads forks r in
      let up = r.counted in
      record { least = omega (arith, up, least); most = omega (arith, most, sum, all) }

  by_answer : (forks : ForkState) (r : AtRequest forks) (given : Status) → Answered store count_of limits forks (request forks) access shard new kept later given → Finishes given ended later mid after faults now → EndsRun store count_of (live_behind outcome) old new.nodes before after ended
  by_answer forks r status.Done g f =
      closes store count_of outcome old new.nodes before mid after later ended faults now status.Done done (outside forks) refl (in_full forks done r g.answers.0 g.answers.1 g.counted) (holds store count_of limits new forks g.shard) f.0 f.1
  by_answer forks r status.NoMemory g f =
      short_whole store count_of outcome old new.nodes before mid after later ended faults now
      (fails outcome (request_at limits request access forks) r.replies r.loaded r.outcome_is before mid kept r.sends (record { before = store.loads old; now = store.loads new.nodes }) (in_part forks r g.counted.0 g.counted.1)) f.1 f.0
  by_answer forks r status.Usage g f = absurd g.answers
  by_answer forks r status.Syntax g f = absurd g.answers
  by_answer forks r status.Refused g f =
      closes store count_of outcome old new.nodes before mid after later ended faults now status.Refused refused (outside forks) refl (in_full forks refused r g.answers.0 g.answers.1 g.counted) (holds store count_of limits new forks g.shard) f.0 f.1
  by_answer forks r status.ReadFault g f = absurd g.answers
  by_answer forks r status.WriteFault g f = absurd g.answers
  by_answer forks r status.StoreFault g f =
      let within = in_part forks r g.counted.0 g.counted.1 in
      stops_whole store count_of outcome old new.nodes before mid after later ended faults now status.StoreFault refl tt
      (record {
        replies = r.replies ++ g.answers.part;
        last = record { bytes = g.answers.rest; ending = done };
        bytes = ap (λ (o : Outcome History). o.output.bytes) r.outcome_is ∙ ap (λ (l : List ℕ). r.replies ++ l) g.answers.parts ∙ sym (append_assoc r.replies g.answers.part g.answers.rest);
        sends = Sends-more before mid r.replies kept g.answers.part later g.answers.put r.sends;
        within = within;
      }) (within.least, within.most) f.0 f.1
  by_answer forks r status.Clash g f =
      closes store count_of outcome old new.nodes before mid after later ended faults now status.Clash clash (outside forks) refl (in_full forks clash r g.answers.0 g.answers.1 g.counted) tt f.0 f.1

  pub request_ends : (read given : Status) → EndsHistory limits request access outcome (IsGoing store count_of limits shard) before mid kept (record { before = store.loads old; now = store.loads shard.nodes }) read
      → (read ≡ status.Done → (limits : RunLimits) (forks : ForkState) → IsGoing store count_of limits shard forks → Answered store count_of limits forks (request forks) access shard new kept later given)
      → (read ≢ status.Done → (given ≡ read) × (new ≡ shard) × (later ≡ kept)) → Finishes given ended later mid after faults now → EndsRun store count_of (live_behind outcome) old new.nodes before after ended
  request_ends read given h answered others f = by_read (is_whole read)
    where
      by_read : ((read ≡ status.Done) ⊎ (read ≢ status.Done)) → EndsRun store count_of (live_behind outcome) old new.nodes before after ended
      by_read (inl e) =
          let whole = subst (EndsHistory limits request access outcome (IsGoing store count_of limits shard) before mid kept (record { before = store.loads old; now = store.loads shard.nodes })) e h in
          by_answer whole.0 whole.1 given (answered e limits whole.0 whole.2) f
      by_read (inr n) =
          let same = others n in
          let finish : Finishes read ended kept mid after faults now = subst (λ (l : List ℕ). Finishes read ended l mid after faults now) same.2 (subst (λ s. Finishes s ended later mid after faults now) same.0 f) in
          rw same.1 (early_ends store count_of limits request access shard outcome old before mid after kept read ended faults now n h finish)

-- a run that had no memory to begin with
pub never_begun : {N : Type 0} (store : Store N) (count_of : N → List ℕ → ℕ) (outcome : Outcome ForkState) (old new : N) (before : Option (List ℕ)) → new ≡ old → EndsRun store count_of outcome old new before before status.NoMemory
never_begun store count_of outcome old new before e = record {
  output = by_before before;
  ending = tt;
  counts = tt;
  loads = loads_begin (store.loads old) (store.loads new) outcome.loaded (ap store.loads e);
}
  where
    by_before : (before : Option (List ℕ)) → IfSome before (λ b. AppendsPrefix b before outcome.output.bytes)
    by_before None = tt
    by_before (Some b) = record { prefix = []; rest = outcome.output.bytes; parts = refl; told = ap Some (sym (append-nil b)) }

    loads_begin : (first now n : ℕ) → now ≡ first → (first ≤ now) × (now ≤ risen first n)
    loads_begin first now n e = (omega (arith, e), omega (arith, e))
