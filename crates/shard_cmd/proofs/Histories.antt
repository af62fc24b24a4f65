-- What lines make of a history, and the replies to them.
use Rattle.std.proofs.Common.{◌≡◌, ◌≢◌, ℕ, true, false, List, [], ◌++◌, Option, None, Some, Result, Ok, Err, OnOk, refl, sym, ap, subst, ◌∙◌, append_assoc, append-nil}
use Rattle.std.specs.Prelude.{codes, ◌||◌, Bool}
use Rattle.std.specs.Option.{option_map}
use Rattle.std.specs.Fmt.{decimal}
use Rattle.std.specs.FinMap.{empty}
use Rattle.hex.specs.Hex.{encode_lower}
use Rattle.script_model.specs.Lines as lines
use Rattle.script_model.specs.Bounds.{IsAsked, IsKey}
use Rattle.batch_model.specs.Changes.{Changes}
use Rattle.base_core.specs.ChangeMaps as maps
use Rattle.base_core.specs.ChangeMaps.{ChangeMap}
use Rattle.base_core.specs.Faults.{risen, faults_after}
use Rattle.base_core.specs.declared.fault.Fault.{Fault}
use Rattle.base_core.specs.declared.hash.Digest.{Digest}
use Rattle.fork_model.specs.Trees.{Header}
use Rattle.fork_model.specs.States.{ForkState, with_block, head_moved}
use Rattle.count_model.specs.BlockEnds.{BlockEnd, block_end}
use Rattle.count_model.specs.Loads.{Access, carry_out, no_texts, loads}
use Rattle.text_store.specs.Store.{Store}
use Rattle.text_store.specs.Leaves.{CountsLoads}
use Rattle.shard_core.specs.Answers.{apply_ended}
use Rattle.shard_core.specs.Shards.{IsShardOf, ShardState}
use Rattle.shard_core.specs.ShardAnswers.{AnswersApply, AnswersMove, LeavesApply, LeavesMove, cuts_short}
use Rattle.shard_core.specs.declared.block.Applied.{Applied}
use Rattle.shard_core.specs.declared.block.HeadMoved.{HeadMoved}
use Rattle.shard_core.specs.declared.errors.ApplyError.{ApplyError}
use Rattle.shard_core.specs.declared.errors.ApplyError.TheVariants as apply_error
use Rattle.shard_core.specs.declared.errors.HeadError.TheVariants as head_error
use Rattle.output_model.specs.Ends.{RunLimits, line_of, syntax_at}
use Rattle.output_model.specs.Scripts.{goes_on, ends}
use Rattle.output_model.specs.Histories.{step_by, history_step, inside, changed, offered, access_of, event_loads, told_step}
use Rattle.shard_cmd.specs.declared.history.Opened.{Opened}
use Rattle.shard_cmd.specs.declared.history.Halt.{Halt}
use Rattle.shard_cmd.specs.declared.history.Halt.TheVariants as halt
use Rattle.shard_cmd.specs.Ends.{run_limits}
use Rattle.shard_cmd.specs.Histories.{header_of, open_of, history_of, IsOpened, Does, IsGoing, Steps, Answers, Reads, gathered_as, outside_as, refusal_of, skipped, step_ended}
use Rattle.shard_cmd.proofs.Answered.{loads_end, no_loads, risen-none}
use Rattle.shard_cmd.proofs.Puts.{has_no_room}

-- a line that is put in three pieces
pub line_put : (o a b c d mid after : List ℕ) (put : Result Unit Fault) → mid ≡ o ++ a ++ b → OnOk put (after ≡ mid ++ (c ++ d)) → OnOk put (after ≡ o ++ (a ++ b ++ c ++ d))
line_put o a b c d mid after (Ok _) m e =
    e ∙ ap (λ (l : List ℕ). l ++ (c ++ d)) (m ∙ append_assoc o a b) ∙ append_assoc o (a ++ b) (c ++ d) ∙ ap (λ (l : List ℕ). o ++ l) (sym (append_assoc (a ++ b) c d))
line_put o a b c d mid after (Err fault) m e = tt

module _ (limits : RunLimits) (forks : ForkState) where
  -- ---- what a line does to a history

  does_stay : (opened next : Option Opened) (asked : lines.Event) (IsOf : ForkState → Type 0) (before : List ℕ) → ((number : ℕ) → step_by limits number forks (option_map open_of opened) asked ≡ goes_on [] (history_of forks next)) → IsOf forks → IsOpened limits next
      → Does false limits forks opened asked IsOf before before (Ok next)
  unfolding history_step
  does_stay opened next asked IsOf before step is is_opened = record { forks_then = forks; reply = []; step = step; replied = sym (append-nil before); shard = is; is_opened = is_opened }

  does_end : (opened : Option Opened) (asked : lines.Event) (IsOf : ForkState → Type 0) (before : List ℕ) → ((number : ℕ) → step_by limits number forks (option_map open_of opened) asked ≡ ends (syntax_at number)) → IsOf forks
      → Does false limits forks opened asked IsOf before before (Err halt.Syntax)
  unfolding history_step
  does_end opened asked IsOf before step is = (record { step = step; unreplied = refl }, is)

  -- ---- changes

  changed_on : (number : ℕ) (block : Opened) (key : List ℕ) (value : Option (List ℕ)) → block.changes.most ≡ limits.changes → has_no_room block.changes.changes block.changes.most key ≡ false
      → changed limits number forks (open_of block) key value ≡ goes_on [] (history_of forks (Some (record block { changes = maps.changed block.changes key value })))
  changed_on number block key value m e = rw (← m, e) refl

  changed_off : (number : ℕ) (block : Opened) (key : List ℕ) (value : Option (List ℕ)) → block.changes.most ≡ limits.changes → has_no_room block.changes.changes block.changes.most key ≡ true
      → changed limits number forks (open_of block) key value ≡ ends (syntax_at number)
  changed_off number block key value m e = rw (← m, e) refl

  pub changes_on : (IsOf : ForkState → Type 0) (before : List ℕ) (block new : Opened) (key : List ℕ) (value : Option (List ℕ)) (asked : lines.Event)
      → ((number : ℕ) → step_by limits number forks (Some (open_of block)) asked ≡ changed limits number forks (open_of block) key value) → new ≡ record block { changes = maps.changed block.changes key value }
      → has_no_room block.changes.changes block.changes.most key ≡ false → IsOf forks → IsOpened limits (Some block) → Does false limits forks (Some block) asked IsOf before before (Ok (Some new))
  changes_on IsOf before block new key value asked is made room of m =
      rw made (does_stay (Some block) (Some (record block { changes = maps.changed block.changes key value })) asked IsOf before (λ number. is number ∙ changed_on number block key value m room) of m)

  pub changes_off : (IsOf : ForkState → Type 0) (before : List ℕ) (block : Opened) (key : List ℕ) (value : Option (List ℕ)) (asked : lines.Event)
      → ((number : ℕ) → step_by limits number forks (Some (open_of block)) asked ≡ changed limits number forks (open_of block) key value)
      → has_no_room block.changes.changes block.changes.most key ≡ true → IsOf forks → IsOpened limits (Some block) → Does false limits forks (Some block) asked IsOf before before (Err halt.Syntax)
  changes_off IsOf before block key value asked is room of m = does_end (Some block) asked IsOf before (λ number. is number ∙ changed_off number block key value m room) of

module _ {N : Type 0} (store : Store N) (count_of : N → List ℕ → ℕ) (limits : RunLimits) (forks : ForkState) where
  -- ---- lines that leave the shard

  -- what a line loads that asks for no text
  none_loaded : (opened : Option Opened) (asked : lines.Event) → access_of false (option_map open_of opened) asked ≡ no_texts → event_loads false limits (history_of forks opened) asked ≡ 0
  unfolding event_loads loads
  none_loaded opened asked e = ap (loads limits.blocks forks) e

  pub calm : (opened : Option Opened) (asked : lines.Event) (shard : ShardState N) (before after : List ℕ) (result : Result (Option Opened) Halt) → access_of false (option_map open_of opened) asked ≡ no_texts → result ≢ Err halt.StoreFault
      → Does false limits forks opened asked (IsGoing store count_of limits shard) before after result → Steps store count_of false limits forks opened asked shard shard before after result
  calm opened asked shard before after result e h does = record {
    does = does;
    loads = subst (CountsLoads (step_ended result) (store.loads shard.nodes) (store.loads shard.nodes)) (sym (none_loaded opened asked e)) (no_loads (step_ended result) (store.loads shard.nodes) (store.loads shard.nodes) refl);
    faults = by_result result h;
  }
    where
      by_result : (result : Result (Option Opened) Halt) → result ≢ Err halt.StoreFault → store.faults shard.nodes ≡ faults_after (step_ended result) (store.faults shard.nodes)
      by_result (Ok next) h = refl
      by_result (Err halt.Syntax) h = refl
      by_result (Err (halt.Clash digest)) h = refl
      by_result (Err halt.StoreFault) h = absurd (h refl)
      by_result (Err halt.NoMemory) h = refl

  pub misplaced : (opened : Option Opened) (asked : lines.Event) (shard : ShardState N) (before : List ℕ) → ((number : ℕ) → step_by limits number forks (option_map open_of opened) asked ≡ ends (syntax_at number)) → access_of false (option_map open_of opened) asked ≡ no_texts
      → IsGoing store count_of limits shard forks → Steps store count_of false limits forks opened asked shard shard before before (Err halt.Syntax)
  misplaced opened asked shard before step e is = calm opened asked shard before before (Err halt.Syntax) e (λ h. absurd (cc h)) (does_end limits forks opened asked (IsGoing store count_of limits shard) before step is)

  pub stays : (opened next : Option Opened) (asked : lines.Event) (shard : ShardState N) (before : List ℕ) → ((number : ℕ) → step_by limits number forks (option_map open_of opened) asked ≡ goes_on [] (history_of forks next)) → access_of false (option_map open_of opened) asked ≡ no_texts
      → IsGoing store count_of limits shard forks → IsOpened limits next → Steps store count_of false limits forks opened asked shard shard before before (Ok next)
  stays opened next asked shard before step e is is_opened = calm opened asked shard before before (Ok next) e (λ h. absurd (cc h)) (does_stay limits forks opened next asked (IsGoing store count_of limits shard) before step is is_opened)

  -- a block begins
  pub begins : (id prev : Digest) (height : ℕ) (fresh : ChangeMap) (shard : ShardState N) (before : List ℕ) → fresh.changes ≡ empty → fresh.most ≡ limits.changes → IsGoing store count_of limits shard forks
      → Steps store count_of false limits forks None (lines.block id.0 prev.0 height) shard shard before before (Ok (Some (record { id = id; prev = prev; height = height; changes = fresh })))
  begins id prev height fresh shard before e m is =
      stays None (Some (record { id = id; prev = prev; height = height; changes = fresh })) (lines.block id.0 prev.0 height) shard before
      (λ number. ap (λ (changes : Changes). goes_on [] (inside forks (header_of id prev height) changes)) (sym e)) refl is m

  -- what leaves the blocks leaves the shard
  pub does_with : (opened : Option Opened) (asked : lines.Event) (shard : ShardState N) (before after : List ℕ) (result : Result (Option Opened) Halt) → IsGoing store count_of limits shard forks → Does false limits forks opened asked (λ f. f ≡ forks) before after result
      → Does false limits forks opened asked (IsGoing store count_of limits shard) before after result
  does_with opened asked shard before after (Ok next) is d = record { forks_then = d.forks_then; reply = d.reply; step = d.step; replied = d.replied; shard = subst (IsGoing store count_of limits shard) (sym d.shard) is; is_opened = d.is_opened }
  does_with opened asked shard before after (Err halt.Syntax) is d = (d.0, is)
  does_with opened asked shard before after (Err (halt.Clash digest)) is d = d
  does_with opened asked shard before after (Err halt.StoreFault) is d = d
  does_with opened asked shard before after (Err halt.NoMemory) is d = tt

  -- ---- readings

  pub reading_steps : (access : Access) (asked : lines.Event) (old new : ShardState N) (before after line : List ℕ) (r : Result Unit Halt) → ((number : ℕ) → step_by limits number forks None asked ≡ goes_on line (history_of forks None)) → access_of false None asked ≡ access
      → Reads store count_of limits forks access old new before after line r → Steps store count_of false limits forks None asked old new before after (outside_as r)
  unfolding history_step event_loads
  reading_steps access asked old new before after line (Ok _) step e reads = record {
    does = record { forks_then = forks; reply = line; step = step; replied = reads.answers; shard = reads.shard; is_opened = tt };
    loads = reads.counted ∙ ap (λ (a : Access). risen (store.loads old.nodes) (loads limits.blocks forks a)) (sym e);
    faults = reads.faults;
  }
  reading_steps access asked old new before after line (Err halt.Syntax) step e reads = absurd reads.answers
  reading_steps access asked old new before after line (Err (halt.Clash digest)) step e reads = absurd reads.answers
  reading_steps access asked old new before after line (Err halt.StoreFault) step e reads = record {
    does = reads.answers;
    loads = subst (λ (a : Access). CountsLoads (step_ended {X = Unit} (Err halt.StoreFault)) (store.loads old.nodes) (store.loads new.nodes) (loads limits.blocks forks a)) (sym e) reads.counted;
    faults = reads.faults;
  }
  reading_steps access asked old new before after line (Err halt.NoMemory) step e reads = record {
    does = tt;
    loads = subst (λ (a : Access). CountsLoads (step_ended {X = Unit} (Err halt.NoMemory)) (store.loads old.nodes) (store.loads new.nodes) (loads limits.blocks forks a)) (sym e) reads.counted;
    faults = reads.faults;
  }

  pub calm_steps : (asked : lines.Event) (shard : ShardState N) (before after line : List ℕ) (r : Result Unit Halt) → ((number : ℕ) → step_by limits number forks None asked ≡ goes_on line (history_of forks None)) → access_of false None asked ≡ no_texts
      → r ≢ Err halt.StoreFault → IsGoing store count_of limits shard forks → Answers before after line r → Steps store count_of false limits forks None asked shard shard before after (outside_as r)
  unfolding history_step
  calm_steps asked shard before after line (Ok _) step e h is answers = calm None asked shard before after (Ok None) e (λ f. absurd (cc f)) (record { forks_then = forks; reply = line; step = step; replied = answers; shard = is; is_opened = tt })
  calm_steps asked shard before after line (Err halt.Syntax) step e h is answers = absurd answers
  calm_steps asked shard before after line (Err (halt.Clash digest)) step e h is answers = absurd answers
  calm_steps asked shard before after line (Err halt.StoreFault) step e h is answers = absurd (h refl)
  calm_steps asked shard before after line (Err halt.NoMemory) step e h is answers = calm None asked shard before after (Err halt.NoMemory) e (λ f. absurd (cc f)) tt

  -- ---- the end of a block, and moves of the head

  -- a reply is put behind which no block is told, by a call that did as it should
  pub replied : (forks_then : ForkState) (opened : Option Opened) (asked : lines.Event) (old new : ShardState N) (before after reply : List ℕ) (put : Result Unit Fault)
      → ((number : ℕ) → step_by limits number forks (option_map open_of opened) asked ≡ goes_on reply (history_of forks_then None))
      → IsGoing store count_of limits new forks_then → store.loads new.nodes ≡ risen (store.loads old.nodes) (loads limits.blocks forks (access_of false (option_map open_of opened) asked)) → store.faults new.nodes ≡ store.faults old.nodes
      → OnOk put (after ≡ before ++ reply) → Steps store count_of false limits forks opened asked old new before after (outside_as (gathered_as put))
  unfolding history_step event_loads
  replied forks_then opened asked old new before after reply (Ok _) step is loaded same h = record {
    does = record { forks_then = forks_then; reply = reply; step = step; replied = h; shard = is; is_opened = tt };
    loads = loaded;
    faults = same;
  }
  replied forks_then opened asked old new before after reply (Err fault) step is loaded same h = record {
    does = tt;
    loads = loads_end (step_ended {X = Unit} (Err halt.NoMemory)) (store.loads old.nodes) (store.loads new.nodes) _ loaded;
    faults = same;
  }

  module _ (old new : ShardState N) (is : IsGoing store count_of limits old forks) (same_limits : new.limits ≡ old.limits) where
    gone : (forks_then : ForkState) → IsShardOf store count_of forks_then new → (b : Bool) → new.stopped ≡ (old.stopped || b) → b ≡ false → IsGoing store count_of limits new forks_then
    gone forks_then of b e f = record { of = of; going = e ∙ ap (λ s. s || b) is.going ∙ f; limits_are = ap run_limits same_limits ∙ is.limits_are }

    module _ (block : Opened) (before after : List ℕ) where
      abbrev header : Header
      header = header_of block.id block.prev block.height

      abbrev ending : BlockEnd
      ending = block_end limits.pairs limits.blocks forks header block.changes.changes

      abbrev cost : ℕ
      cost = loads limits.blocks forks (carry_out header block.changes.changes)

      pub block_applied : (applied : Applied) (put : Result Unit Fault) → AnswersApply ending (Ok applied) → LeavesApply store count_of forks header block.changes.changes (Ok applied) new → new.stopped ≡ (old.stopped || false)
          → store.loads new.nodes ≡ risen (store.loads old.nodes) cost → store.faults new.nodes ≡ store.faults old.nodes
          → OnOk put (after ≡ before ++ line_of (codes "block " ++ encode_lower block.id.0 ++ codes " ok " ++ encode_lower applied.root.0))
          → Steps store count_of false limits forks (Some block) lines.block_end old new before after (outside_as (gathered_as put))
      block_applied applied put answer of stops loaded same h =
          replied (with_block forks header block.changes.changes) (Some block) lines.block_end old new before after _ put
          (λ number. ap (λ (end : BlockEnd). offered end forks header block.changes.changes) answer.1
          ∙ ap (λ digest. goes_on (line_of (codes "block " ++ encode_lower block.id.0 ++ codes " ok " ++ encode_lower digest)) (history_of (with_block forks header block.changes.changes) None)) (sym answer.2))
          (gone (with_block forks header block.changes.changes) of false stops refl) loaded same h

      -- refused by name
      refused_step : (error : ApplyError) (name : List ℕ) → refusal_of error ≡ Ok name → AnswersApply ending (Err error) → offered ending forks header block.changes.changes ≡ goes_on (line_of (codes "block " ++ encode_lower block.id.0 ++ codes " refused " ++ name)) (history_of forks None)
      refused_step apply_error.Stopped name e answer = absurd answer
      refused_step apply_error.Known name e answer = let is : codes "known" ≡ name = cc in rw (answer, ← is) refl
      refused_step apply_error.NoPrev name e answer = let is : codes "no-prev" ≡ name = cc in rw (answer, ← is) refl
      refused_step apply_error.Height name e answer = let is : codes "height" ≡ name = cc in rw (answer, ← is) refl
      refused_step apply_error.FullBlocks name e answer = let is : codes "full-blocks" ≡ name = cc in rw (answer, ← is) refl
      refused_step apply_error.FullPairs name e answer = let is : codes "full-pairs" ≡ name = cc in rw (answer, ← is) refl
      refused_step (apply_error.Clash digest) name e answer = absurd (cc e)
      refused_step apply_error.StoreFault name e answer = absurd (cc e)
      refused_step apply_error.NoMemory name e answer = absurd (cc e)

      -- what is left then
      record IsLeft (error : ApplyError) : Type 0 where
        of : IsShardOf store count_of forks new
        uncut : cuts_short {X = Applied} (Err error) ≡ false
        loaded : store.loads new.nodes ≡ risen (store.loads old.nodes) cost
        same : store.faults new.nodes ≡ store.faults old.nodes

      left_refused : (error : ApplyError) (name : List ℕ) → refusal_of error ≡ Ok name → LeavesApply {X = Applied} store count_of forks header block.changes.changes (Err error) new
          → CountsLoads (apply_ended {X = Applied} (Err error)) (store.loads old.nodes) (store.loads new.nodes) cost → store.faults new.nodes ≡ faults_after (apply_ended {X = Applied} (Err error)) (store.faults old.nodes) → IsLeft error
      left_refused apply_error.Stopped name e of l f = absurd (cc e)
      left_refused apply_error.Known name e of l f = record { of = of; uncut = refl; loaded = l; same = f }
      left_refused apply_error.NoPrev name e of l f = record { of = of; uncut = refl; loaded = l; same = f }
      left_refused apply_error.Height name e of l f = record { of = of; uncut = refl; loaded = l; same = f }
      left_refused apply_error.FullBlocks name e of l f = record { of = of; uncut = refl; loaded = l; same = f }
      left_refused apply_error.FullPairs name e of l f = record { of = of; uncut = refl; loaded = l; same = f }
      left_refused (apply_error.Clash digest) name e of l f = absurd (cc e)
      left_refused apply_error.StoreFault name e of l f = absurd (cc e)
      left_refused apply_error.NoMemory name e of l f = absurd (cc e)

      pub block_refused : (error : ApplyError) (name : List ℕ) (put : Result Unit Fault) → refusal_of error ≡ Ok name → AnswersApply ending (Err error) → LeavesApply {X = Applied} store count_of forks header block.changes.changes (Err error) new → new.stopped ≡ (old.stopped || cuts_short {X = Applied} (Err error))
          → CountsLoads (apply_ended {X = Applied} (Err error)) (store.loads old.nodes) (store.loads new.nodes) cost → store.faults new.nodes ≡ faults_after (apply_ended {X = Applied} (Err error)) (store.faults old.nodes)
          → OnOk put (after ≡ before ++ line_of (codes "block " ++ encode_lower block.id.0 ++ codes " refused " ++ name))
          → Steps store count_of false limits forks (Some block) lines.block_end old new before after (outside_as (gathered_as put))
      block_refused error name put e answer of stops l f h =
          let left = left_refused error name e of l f in
          replied forks (Some block) lines.block_end old new before after _ put (λ number. refused_step error name e answer) (gone forks left.of (cuts_short {X = Applied} (Err error)) stops left.uncut) left.loaded left.same h

      -- the script does not go on
      pub block_halts : (error : ApplyError) (why : Halt) → error ≢ apply_error.Stopped → refusal_of error ≡ Err why → AnswersApply ending (Err error)
          → CountsLoads (apply_ended {X = Applied} (Err error)) (store.loads old.nodes) (store.loads new.nodes) cost → store.faults new.nodes ≡ faults_after (apply_ended {X = Applied} (Err error)) (store.faults old.nodes)
          → Steps store count_of false limits forks (Some block) lines.block_end old new before before (Err why)
      unfolding history_step event_loads
      block_halts apply_error.Stopped why n e answer l f = absurd (n refl)
      block_halts apply_error.Known why n e answer l f = absurd (cc e)
      block_halts apply_error.NoPrev why n e answer l f = absurd (cc e)
      block_halts apply_error.Height why n e answer l f = absurd (cc e)
      block_halts apply_error.FullBlocks why n e answer l f = absurd (cc e)
      block_halts apply_error.FullPairs why n e answer l f = absurd (cc e)
      block_halts (apply_error.Clash digest) why n e answer l f =
          let is : halt.Clash digest ≡ why = cc in
          rw (← is) (record { does = record { step = λ number. ap (λ (end : BlockEnd). offered end forks header block.changes.changes) answer; unreplied = refl }; loads = l; faults = f })
      block_halts apply_error.StoreFault why n e answer l f = let is : halt.StoreFault ≡ why = cc in rw (← is) (record { does = refl; loads = l; faults = f })
      block_halts apply_error.NoMemory why n e answer l f = let is : halt.NoMemory ≡ why = cc in rw (← is) (record { does = tt; loads = l; faults = f })

    module _ (id : List ℕ) (before after : List ℕ) where
      pub head_moves : (moved : HeadMoved) (put : Result Unit Fault) → AnswersMove forks id (Ok moved) → LeavesMove store count_of forks id (Ok moved) new → new.stopped ≡ (old.stopped || false)
          → store.loads new.nodes ≡ store.loads old.nodes → store.faults new.nodes ≡ store.faults old.nodes
          → OnOk put (after ≡ before ++ line_of (codes "head " ++ encode_lower id ++ codes " ok " ++ decimal moved.passed ++ codes " " ++ decimal moved.dropped))
          → Steps store count_of false limits forks None (lines.head id) old new before after (outside_as (gathered_as put))
      unfolding loads
      head_moves moved put answer of stops l f h =
          replied (head_moved forks id) None (lines.head id) old new before after _ put (λ number. rw (answer.0, answer.1, answer.2) refl) (gone (head_moved forks id) of false stops refl) (l ∙ risen-none (store.loads old.nodes)) f h

      pub head_stays : (put : Result Unit Fault) → AnswersMove forks id (Err head_error.NotLive) → LeavesMove {X = HeadMoved} store count_of forks id (Err head_error.NotLive) new → new.stopped ≡ (old.stopped || false)
          → store.loads new.nodes ≡ store.loads old.nodes → store.faults new.nodes ≡ store.faults old.nodes
          → OnOk put (after ≡ before ++ line_of (codes "head " ++ encode_lower id ++ codes " refused not-live"))
          → Steps store count_of false limits forks None (lines.head id) old new before after (outside_as (gathered_as put))
      unfolding loads
      head_stays put answer of stops l f h =
          replied forks None (lines.head id) old new before after _ put (λ number. rw answer refl) (gone forks of false stops refl) (l ∙ risen-none (store.loads old.nodes)) f h

-- ---- told quietly

-- what is skipped does nothing
skipped_same : (limits : RunLimits) (forks : ForkState) (number : ℕ) (asked : lines.Event) → told_step true (step_by limits number forks None asked) ≡ told_step true (step_by limits number forks None (skipped asked))
skipped_same limits forks number lines.nothing = refl
skipped_same limits forks number (lines.block id prev height) = refl
skipped_same limits forks number (lines.set key value) = refl
skipped_same limits forks number (lines.delete key) = refl
skipped_same limits forks number lines.block_end = refl
skipped_same limits forks number (lines.head id) = refl
skipped_same limits forks number (lines.flat id key) = refl
skipped_same limits forks number (lines.trie id key) = refl
skipped_same limits forks number (lines.same a b) = refl
skipped_same limits forks number (lines.usage id) = refl
skipped_same limits forks number lines.stats = refl

-- and asks for no text
skipped_none : (asked : lines.Event) → access_of false None (skipped asked) ≡ no_texts
skipped_none lines.nothing = refl
skipped_none (lines.block id prev height) = refl
skipped_none (lines.set key value) = refl
skipped_none (lines.delete key) = refl
skipped_none lines.block_end = refl
skipped_none (lines.head id) = refl
skipped_none (lines.flat id key) = refl
skipped_none (lines.trie id key) = refl
skipped_none (lines.same a b) = refl
skipped_none (lines.usage id) = refl
skipped_none lines.stats = refl

quiet_does : (limits : RunLimits) (forks : ForkState) (opened : Option Opened) (asked instead : lines.Event) (IsOf : ForkState → Type 0) (put after before : List ℕ) (result : Result (Option Opened) Halt)
    → ((number : ℕ) → told_step true (step_by limits number forks (option_map open_of opened) asked) ≡ told_step true (step_by limits number forks (option_map open_of opened) instead))
    → Does false limits forks opened instead IsOf put after result → Does true limits forks opened asked IsOf before before result
unfolding history_step
quiet_does limits forks opened asked instead IsOf put after before (Ok next) same d = record {
  forks_then = d.forks_then;
  reply = [];
  step = λ number. same number ∙ ap (told_step true) (d.step number);
  replied = sym (append-nil before);
  shard = d.shard;
  is_opened = d.is_opened;
}
quiet_does limits forks opened asked instead IsOf put after before (Err halt.Syntax) same d = (record { step = λ number. same number ∙ ap (told_step true) (d.0.step number); unreplied = refl }, d.1)
quiet_does limits forks opened asked instead IsOf put after before (Err (halt.Clash digest)) same d = record { step = λ number. same number ∙ ap (told_step true) (d.step number); unreplied = refl }
quiet_does limits forks opened asked instead IsOf put after before (Err halt.StoreFault) same d = refl
quiet_does limits forks opened asked instead IsOf put after before (Err halt.NoMemory) same d = tt

module _ {N : Type 0} (store : Store N) (count_of : N → List ℕ → ℕ) (limits : RunLimits) (forks : ForkState) (asked : lines.Event) (old new : ShardState N) (put after before : List ℕ) (result : Result (Option Opened) Halt) where
  pub quiet_outside : (instead : lines.Event) → instead ≡ skipped asked → Steps store count_of false limits forks None instead old new put after result → Steps store count_of true limits forks None asked old new before before result
  unfolding event_loads
  quiet_outside instead is steps = record {
    does = quiet_does limits forks None asked instead (IsGoing store count_of limits new) put after before result (λ number. skipped_same limits forks number asked ∙ ap (λ e. told_step true (step_by limits number forks None e)) (sym is)) steps.does;
    loads = subst (λ (a : Access). CountsLoads (step_ended result) (store.loads old.nodes) (store.loads new.nodes) (loads limits.blocks forks a)) (ap (access_of false None) is ∙ skipped_none asked) steps.loads;
    faults = steps.faults;
  }

  pub quiet_inside : (block : Opened) → Steps store count_of false limits forks (Some block) asked old new put after result → Steps store count_of true limits forks (Some block) asked old new before before result
  unfolding event_loads
  quiet_inside block steps = record {
    does = quiet_does limits forks (Some block) asked asked (IsGoing store count_of limits new) put after before result (λ number. refl) steps.does;
    loads = steps.loads;
    faults = steps.faults;
  }

-- the key that a line looks up
pub looked_up : (asked : lines.Event) (id key : List ℕ) → asked ≡ lines.trie id key → IsAsked asked → IsKey key
unfolding IsAsked
looked_up asked id key e h = (subst IsAsked e h).1
