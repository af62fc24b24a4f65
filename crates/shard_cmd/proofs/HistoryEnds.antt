-- How reading a history ends, and how far its outcome was written then.
use Rattle.std.proofs.Common.{◌≡◌, ◌≢◌, ℕ, ◌+◌, ◌≤◌, Bool, List, [], ◌++◌, Option, Some, None, Ok, Err, IfSome, inl, inr, sym, ap, ◌∙◌, append-nil, arith}
use Rattle.base_core.specs.Faults.{risen, faults_after}
use Rattle.base_core.specs.declared.hash.Digest.{Digest}
use Rattle.fork_model.specs.States.{ForkState}
use Rattle.count_model.specs.Loads.{Access, loads}
use Rattle.text_store.specs.Leaves.{CountsLoads}
use Rattle.output_model.specs.Ends.{Output, RunLimits, syntax_at, clash_at}
use Rattle.output_model.specs.Scripts.{Script, Outcome, onward, at_last, script_outcome}
use Rattle.output_model.specs.Histories.{History, history_last, history_script, request_loads, event_loads}
use Rattle.script_io.specs.declared.event.Event.{Event}
use Rattle.script_io.specs.LinesStates.{LinesState}
use Rattle.script_io.specs.Meanings.{event}
use Rattle.script_io.specs.Streams.{AppendsPrefix}
use Rattle.shard_cmd.specs.declared.events.Stop.{Stop}
use Rattle.shard_cmd.specs.declared.events.Stop.TheVariants as stop
use Rattle.shard_cmd.specs.declared.history.Opened.{Opened}
use Rattle.shard_cmd.specs.declared.history.Halt.{Halt}
use Rattle.shard_cmd.specs.declared.history.Halt.TheVariants as halt
use Rattle.shard_cmd.specs.declared.status.Status.{Status}
use Rattle.shard_cmd.specs.declared.status.Status.TheVariants as status
use Rattle.shard_cmd.specs.Events.{NextIs, IsNext, event_ended}
use Rattle.shard_cmd.specs.Ends.{source_ended, sink_ended, store_ended}
use Rattle.shard_cmd.specs.Histories.{history_of, Does, step_ended}
use Rattle.shard_cmd.specs.Sending.{Sends, Reaches, IsWithin, Stops, Fails, EndsHistory, IsPut, ended_with, request_at, halted_end, stopped_end, whole_end}
use Rattle.shard_cmd.proofs.Scripts.{IsUpTo, ends_asked, ends_early, ends_unread, ends_whole, ends_within, onward-onward}
use Rattle.shard_cmd.proofs.Sending.{Sends-more, reaches, risen-risen, within, stops, fails, fails_unsent}

-- an output as the last one, behind its own bytes
pub closed : (output : Output) (cost : ℕ) (left : History) → record { output = output; loaded = cost; left = left } ≡ onward output.bytes cost (ended_with output.ending left)
closed output cost left =
    let bytes : output.bytes ≡ output.bytes ++ [] = sym (append-nil output.bytes) in
    let none : cost ≡ cost + 0 = omega arith in
    λ i. record { output = record { bytes = bytes i; ending = output.ending }; loaded = none i; left = left }

module _ (quiet : Bool) (limits : RunLimits) (request : ForkState → Output) (access : Access) (left after new_after : Option (List ℕ)) (replies : List ℕ) (loaded : ℕ) (old new : LinesState) (before now : Option (List ℕ)) (kept : List ℕ) (sends : Sends before now replies kept) (first mid : ℕ) (counted : mid ≡ risen first loaded) where
  abbrev script : Script History
  script = history_script quiet limits request access

  -- a last output of its own, behind the replies
  output_reached : (output : Output) (cost : ℕ) (history : History) (later : List ℕ) (loads_now : ℕ) (outcome : Outcome History) → later ≡ kept ++ output.bytes → loads_now ≡ risen mid cost → outcome ≡ onward replies loaded (record { output = output; loaded = cost; left = history })
      → Reaches outcome (ended_with output.ending history) before now later (record { before = first; now = loads_now })
  output_reached output cost history later loads_now outcome put more e =
      reaches outcome (ended_with output.ending history) (replies ++ output.bytes) (loaded + cost)
      (e ∙ ap (λ (o : Outcome History). onward replies loaded o) (closed output cost history) ∙ onward-onward replies output.bytes loaded cost (ended_with output.ending history))
      before now later (Sends-more before now replies kept output.bytes later put sends) (record { before = first; now = loads_now })
      (more ∙ ap (λ m. risen m cost) counted ∙ risen-risen first loaded cost)

  -- the loads so far, and some of those of a last step
  few_loads : (outcome last : Outcome History) (cost loads_now : ℕ) → outcome ≡ onward replies loaded last → cost ≤ last.loaded → mid ≤ loads_now → loads_now ≤ risen mid cost → IsWithin outcome (record { before = first; now = loads_now })
  few_loads outcome last cost loads_now e few least most =
      let sum : risen mid cost ≡ risen first (loaded + cost) = ap (λ m. risen m cost) counted ∙ risen-risen first loaded cost in
      let up : first ≤ mid = omega (arith, counted) in
      within outcome last replies loaded e before now kept sends (record { before = first; now = loads_now }) cost few (omega (arith, up, least)) (omega (arith, most, sum))

  no_more : mid ≤ risen mid 0
  no_more = omega arith

  same_count : mid ≡ risen mid 0
  same_count = omega arith

  module _ (forks : ForkState) (opened : Option Opened) (u : IsUpTo script left replies loaded old after (history_of forks opened)) (IsOf : ForkState → Type 0) where
    abbrev Ends : List ℕ → (loads_now : ℕ) → Status → Type 0
    Ends later loads_now ended = IfSome left (λ input. EndsHistory limits request access (script_outcome script input) IsOf before now later (record { before = first; now = loads_now }) ended)

    -- memory failed, or the source
    ends_short : (later : List ℕ) → Ends later mid status.NoMemory
    ends_short later = by_left left (ends_early script left after new_after replies loaded old new (history_of forks opened) u)
      where
        by_left : (left : Option (List ℕ)) → IfSome left (λ input. (last : Outcome History) × (script_outcome script input ≡ onward replies loaded last)) → IfSome left (λ input. Fails (script_outcome script input) before now (record { before = first; now = mid }))
        by_left None e = tt
        by_left (Some input) e = fails (script_outcome script input) e.0 replies loaded e.1 before now kept sends (record { before = first; now = mid }) (few_loads (script_outcome script input) e.0 0 mid e.1 (omega arith) (omega arith) no_more)

    ends_cut : Ends kept mid status.ReadFault
    ends_cut = by_left left (ends_early script left after new_after replies loaded old new (history_of forks opened) u)
      where
        by_left : (left : Option (List ℕ)) → IfSome left (λ input. (last : Outcome History) × (script_outcome script input ≡ onward replies loaded last)) → IfSome left (λ input. Stops (script_outcome script input) before now kept (record { before = first; now = mid }))
        by_left None e = tt
        by_left (Some input) e = stops (script_outcome script input) e.0 replies loaded e.1 before now kept sends (record { before = first; now = mid }) (few_loads (script_outcome script input) e.0 0 mid e.1 (omega arith) (omega arith) no_more)

    -- a line is refused
    ends_refused : (history : History) (cost : ℕ) (later : List ℕ) (loads_now number : ℕ) → IsOf history.forks → later ≡ kept ++ (syntax_at number).bytes → loads_now ≡ risen mid cost
        → IfSome left (λ input. script_outcome script input ≡ onward replies loaded (record { output = syntax_at number; loaded = cost; left = history })) → Ends later loads_now status.Syntax
    ends_refused history cost later loads_now number is put more e = by_left left e
      where
        by_left : (left : Option (List ℕ)) → IfSome left (λ input. script_outcome script input ≡ onward replies loaded (record { output = syntax_at number; loaded = cost; left = history }))
            → IfSome left (λ input. EndsHistory limits request access (script_outcome script input) IsOf before now later (record { before = first; now = loads_now }) status.Syntax)
        by_left None e = tt
        by_left (Some input) e = (history, output_reached (syntax_at number) cost history later loads_now (script_outcome script input) put more e, is)

    -- no event was read
    pub ends_at_stop : (why : Stop) (number : ℕ) (later : List ℕ) (ended : Status) → number ≡ old.lines + 1 → IsOf forks → IfSome after (λ left. NextIs (old.pending ++ left) old new new_after (Err why)) → IsPut (stopped_end why number) kept later ended → Ends later mid ended
    ends_at_stop stop.Syntax number later ended n is h (inl put) =
        rw put.0 (ends_refused (history_of forks opened) 0 later mid number is put.1 same_count (rw n (ends_unread script left after new_after replies loaded old new (history_of forks opened) u h)))
    ends_at_stop stop.Syntax number later ended n is h (inr short) = rw short (ends_short later)
    ends_at_stop stop.ReadFault number later ended n is h put = rw (put.0, put.1) ends_cut
    ends_at_stop stop.NoMemory number later ended n is h put = rw put.0 (ends_short later)

    -- behind the last line
    pub ends_at_end : (number : ℕ) (later : List ℕ) (ended : Status) → number ≡ old.lines + 1 → IsOf forks → IfSome after (λ left. NextIs (old.pending ++ left) old new new_after (Ok None)) → IsPut (whole_end opened number) kept later ended → Ends later mid ended
    unfolding history_last request_loads loads
    ends_at_end number later ended n is h put = by_opened opened (ends_whole script left after new_after replies loaded old new (history_of forks opened) u h) put
      where
        by_left : (left : Option (List ℕ)) → later ≡ kept → IfSome left (λ input. script_outcome script input ≡ onward replies loaded (request_at limits request access forks))
            → IfSome left (λ input. EndsHistory limits request access (script_outcome script input) IsOf before now later (record { before = first; now = mid }) status.Done)
        by_left None same e = tt
        by_left (Some input) same e = (forks, reaches (script_outcome script input) (request_at limits request access forks) replies loaded e before now later (rw same sends) (record { before = first; now = mid }) counted, is)

        by_opened : (opened : Option Opened) → IfSome left (λ input. script_outcome script input ≡ onward replies loaded (at_last script (old.lines + 1) (history_of forks opened))) → IsPut (whole_end opened number) kept later ended → Ends later mid ended
        by_opened None e put = rw put.0 (by_left left put.1 e)
        by_opened (Some block) e (inl put) = rw put.0 (ends_refused (history_of forks (Some block)) 0 later mid number is put.1 same_count (rw n e))
        by_opened (Some block) e (inr short) = rw short (ends_short later)

    -- at what a line asks for
    module _ (found : Event) (n : IsNext old new) (h : IfSome after (λ left. NextIs (old.pending ++ left) old new new_after (Ok (Some found)))) (loads_now : ℕ) where
      abbrev cost : ℕ
      cost = event_loads quiet limits (history_of forks opened) (event found)

      ends_fallen : (later : List ℕ) → mid ≤ loads_now → loads_now ≤ risen mid cost → Ends later loads_now status.NoMemory
      ends_fallen later least most = by_left left (ends_within script left after new_after replies loaded old new (history_of forks opened) u found n h)
        where
          by_left : (left : Option (List ℕ)) → IfSome left (λ input. (last : Outcome History) × (script_outcome script input ≡ onward replies loaded last) × (cost ≤ last.loaded)) → IfSome left (λ input. Fails (script_outcome script input) before now (record { before = first; now = loads_now }))
          by_left None e = tt
          by_left (Some input) e = fails (script_outcome script input) e.0 replies loaded e.1 before now kept sends (record { before = first; now = loads_now }) (few_loads (script_outcome script input) e.0 cost loads_now e.1 e.2 least most)

      ends_stored : mid ≤ loads_now → loads_now ≤ risen mid cost → Ends kept loads_now status.StoreFault
      ends_stored least most = by_left left (ends_within script left after new_after replies loaded old new (history_of forks opened) u found n h)
        where
          by_left : (left : Option (List ℕ)) → IfSome left (λ input. (last : Outcome History) × (script_outcome script input ≡ onward replies loaded last) × (cost ≤ last.loaded)) → IfSome left (λ input. Stops (script_outcome script input) before now kept (record { before = first; now = loads_now }))
          by_left None e = tt
          by_left (Some input) e = stops (script_outcome script input) e.0 replies loaded e.1 before now kept sends (record { before = first; now = loads_now }) (few_loads (script_outcome script input) e.0 cost loads_now e.1 e.2 least most)

      ends_clashing : (digest : Digest) (later : List ℕ) → later ≡ kept ++ (clash_at digest.0).bytes → loads_now ≡ risen mid cost
          → IfSome left (λ input. script_outcome script input ≡ onward replies loaded (record { output = clash_at digest.0; loaded = cost; left = history_of forks opened })) → Ends later loads_now status.Clash
      ends_clashing digest later put more e = by_left left e
        where
          by_left : (left : Option (List ℕ)) → IfSome left (λ input. script_outcome script input ≡ onward replies loaded (record { output = clash_at digest.0; loaded = cost; left = history_of forks opened }))
              → IfSome left (λ input. EndsHistory limits request access (script_outcome script input) IsOf before now later (record { before = first; now = loads_now }) status.Clash)
          by_left None e = tt
          by_left (Some input) e = (history_of forks opened, output_reached (clash_at digest.0) cost (history_of forks opened) later loads_now (script_outcome script input) put more e)

      exact_least : loads_now ≡ risen mid cost → mid ≤ loads_now
      exact_least e = omega (arith, e)

      exact_most : loads_now ≡ risen mid cost → loads_now ≤ risen mid cost
      exact_most e = omega (arith, e)

      pub ends_at_event : (why : Halt) (number : ℕ) (put_then later : List ℕ) (ended : Status) → number ≡ old.lines + 1 → Does quiet limits forks opened (event found) IsOf kept put_then (Err why) → CountsLoads (step_ended {X = Option Opened} (Err why)) mid loads_now cost
          → IsPut (halted_end why number) put_then later ended → Ends later loads_now ended
      ends_at_event halt.Syntax number put_then later ended m does more (inl put) =
          rw put.0 (ends_refused (history_of forks opened) cost later loads_now number does.1 (put.1 ∙ ap (λ (l : List ℕ). l ++ (syntax_at number).bytes) does.0.unreplied) more
          (rw m (ends_asked script left after new_after replies loaded old new (history_of forks opened) u found n h (syntax_at (old.lines + 1)) (does.0.step (old.lines + 1)))))
      ends_at_event halt.Syntax number put_then later ended m does more (inr short) = rw short (ends_fallen later (exact_least more) (exact_most more))
      ends_at_event (halt.Clash digest) number put_then later ended m does more (inl put) =
          rw put.0 (ends_clashing digest later (put.1 ∙ ap (λ (l : List ℕ). l ++ (clash_at digest.0).bytes) does.unreplied) more
          (ends_asked script left after new_after replies loaded old new (history_of forks opened) u found n h (clash_at digest.0) (does.step (old.lines + 1))))
      ends_at_event (halt.Clash digest) number put_then later ended m does more (inr short) = rw short (ends_fallen later (exact_least more) (exact_most more))
      ends_at_event halt.StoreFault number put_then later ended m does more put = rw (put.0, put.1 ∙ does) (ends_stored more.0 more.1)
      ends_at_event halt.NoMemory number put_then later ended m does more put = rw put.0 (ends_fallen later more.0 more.1)

-- the sink failed
pub ends_unsent : {S : Type 0} (script : Script S) (left : Option (List ℕ)) (replies : List ℕ) (loaded : ℕ) (before failed : Option (List ℕ)) (first loads_now : ℕ) → loads_now ≡ risen first loaded
    → IfSome left (λ input. (last : Outcome S) × (script_outcome script input ≡ onward replies loaded last)) → IfSome before (λ b. AppendsPrefix b failed replies) → IfSome left (λ input. Fails (script_outcome script input) before failed (record { before = first; now = loads_now }))
ends_unsent script None replies loaded before failed first loads_now counted e prefix = tt
ends_unsent script (Some input) replies loaded before failed first loads_now counted e prefix =
    let all : (script_outcome script input).loaded ≡ loaded + e.0.loaded = ap (λ o. o.loaded) e.1 in
    fails_unsent (script_outcome script input) e.0 replies loaded e.1 before failed (record { before = first; now = loads_now }) prefix
    (record { least = omega (arith, counted); most = omega (arith, counted, all) })

-- ---- what is counted then

module _ (number : ℕ) (kept later : List ℕ) (ended : Status) (faults now : ℕ) where
  -- behind the last line nothing has failed
  pub whole_counts : (opened : Option Opened) → IsPut (whole_end opened number) kept later ended → now ≡ faults → (now ≡ faults_after (source_ended ended) faults) × (now ≡ faults_after (sink_ended ended) faults) × (now ≡ faults_after (store_ended ended) faults)
  whole_counts None put e = rw put.0 (e, e, e)
  whole_counts (Some block) (inl put) e = rw put.0 (e, e, e)
  whole_counts (Some block) (inr short) e = rw short (e, e, e)

  -- where there is no event the source may have
  pub stopped_source : (why : Stop) → IsPut (stopped_end why number) kept later ended → now ≡ faults_after (event_ended {X = Unit} (Err why)) faults → now ≡ faults_after (source_ended ended) faults
  stopped_source stop.Syntax (inl put) e = rw put.0 e
  stopped_source stop.Syntax (inr short) e = rw short e
  stopped_source stop.ReadFault put e = rw put.0 e
  stopped_source stop.NoMemory put e = rw put.0 e

  pub stopped_counts : (why : Stop) → IsPut (stopped_end why number) kept later ended → now ≡ faults → (now ≡ faults_after (sink_ended ended) faults) × (now ≡ faults_after (store_ended ended) faults)
  stopped_counts stop.Syntax (inl put) e = rw put.0 (e, e)
  stopped_counts stop.Syntax (inr short) e = rw short (e, e)
  stopped_counts stop.ReadFault put e = rw put.0 (e, e)
  stopped_counts stop.NoMemory put e = rw put.0 (e, e)

  -- and at an event the store may have
  pub halted_store : (why : Halt) → IsPut (halted_end why number) kept later ended → now ≡ faults_after (step_ended {X = Unit} (Err why)) faults → now ≡ faults_after (store_ended ended) faults
  halted_store halt.Syntax (inl put) e = rw put.0 e
  halted_store halt.Syntax (inr short) e = rw short e
  halted_store (halt.Clash digest) (inl put) e = rw put.0 e
  halted_store (halt.Clash digest) (inr short) e = rw short e
  halted_store halt.StoreFault put e = rw put.0 e
  halted_store halt.NoMemory put e = rw put.0 e

  pub halted_counts : (why : Halt) → IsPut (halted_end why number) kept later ended → now ≡ faults → (now ≡ faults_after (source_ended ended) faults) × (now ≡ faults_after (sink_ended ended) faults)
  halted_counts halt.Syntax (inl put) e = rw put.0 (e, e)
  halted_counts halt.Syntax (inr short) e = rw short (e, e)
  halted_counts (halt.Clash digest) (inl put) e = rw put.0 (e, e)
  halted_counts (halt.Clash digest) (inr short) e = rw short (e, e)
  halted_counts halt.StoreFault put e = rw put.0 (e, e)
  halted_counts halt.NoMemory put e = rw put.0 (e, e)

-- where a script ends before its last line, that is told
pub stopped_early : (number : ℕ) (kept later : List ℕ) (ended : Status) (why : Stop) → IsPut (stopped_end why number) kept later ended → (ended ≢ status.Usage) × (ended ≢ status.Done)
stopped_early number kept later ended stop.Syntax (inl put) = (λ e. absurd (cc (put.0, e)), λ e. absurd (cc (put.0, e)))
stopped_early number kept later ended stop.Syntax (inr short) = (λ e. absurd (cc (short, e)), λ e. absurd (cc (short, e)))
stopped_early number kept later ended stop.ReadFault put = (λ e. absurd (cc (put.0, e)), λ e. absurd (cc (put.0, e)))
stopped_early number kept later ended stop.NoMemory put = (λ e. absurd (cc (put.0, e)), λ e. absurd (cc (put.0, e)))

pub halted_early : (number : ℕ) (kept later : List ℕ) (ended : Status) (why : Halt) → IsPut (halted_end why number) kept later ended → (ended ≢ status.Usage) × (ended ≢ status.Done)
halted_early number kept later ended halt.Syntax (inl put) = (λ e. absurd (cc (put.0, e)), λ e. absurd (cc (put.0, e)))
halted_early number kept later ended halt.Syntax (inr short) = (λ e. absurd (cc (short, e)), λ e. absurd (cc (short, e)))
halted_early number kept later ended (halt.Clash digest) (inl put) = (λ e. absurd (cc (put.0, e)), λ e. absurd (cc (put.0, e)))
halted_early number kept later ended (halt.Clash digest) (inr short) = (λ e. absurd (cc (short, e)), λ e. absurd (cc (short, e)))
halted_early number kept later ended halt.StoreFault put = (λ e. absurd (cc (put.0, e)), λ e. absurd (cc (put.0, e)))
halted_early number kept later ended halt.NoMemory put = (λ e. absurd (cc (put.0, e)), λ e. absurd (cc (put.0, e)))

pub whole_known : (number : ℕ) (kept later : List ℕ) (ended : Status) (opened : Option Opened) → IsPut (whole_end opened number) kept later ended → ended ≢ status.Usage
whole_known number kept later ended None put e = absurd (cc (put.0, e))
whole_known number kept later ended (Some block) (inl put) e = absurd (cc (put.0, e))
whole_known number kept later ended (Some block) (inr short) e = absurd (cc (short, e))
