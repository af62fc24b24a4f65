-- The last request behind a history.
use Rattle.std.proofs.Common.{◌≡◌, ◌≢◌, ℕ, ◌≤◌, List, ◌++◌, append_assoc, Option, Some, None, Result, Ok, Err, OnOk, inl, inr, refl, sym, ap, subst, ◌∙◌, arith}
use Rattle.std.specs.Prelude.{◌⊎◌}
use Rattle.std.specs.Option.{IsSomeAnd}
use Rattle.base_core.specs.Faults.{risen, faults_after}
use Rattle.base_core.specs.declared.fault.Fault.{Fault}
use Rattle.trie_model.specs.State.{State}
use Rattle.fork_model.specs.States.{ForkState, state_at}
use Rattle.count_model.specs.Loads.{look_up, loads}
use Rattle.count_model.specs.Counts.{in_state}
use Rattle.text_store.specs.Store.{Store}
use Rattle.shard_core.specs.Shards.{ShardState}
use Rattle.output_model.specs.Ends.{Output, RunLimits, done, not_live}
use Rattle.output_model.specs.Readings.{flat_line, trie_line}
use Rattle.output_model.specs.Get.{get_from, get_request}
use Rattle.shard_cmd.specs.declared.history.Halt.{Halt}
use Rattle.shard_cmd.specs.declared.history.Halt.TheVariants as halt
use Rattle.shard_cmd.specs.declared.status.Status.TheVariants as status
use Rattle.shard_cmd.specs.Histories.{Answers, IsGoing, Reads, gathered_as}
use Rattle.shard_cmd.specs.Ends.{source_ended, sink_ended, store_ended}
use Rattle.shard_cmd.specs.declared.status.Status.{Status}
use Rattle.shard_cmd.specs.Requests.{AnswersAs, Gets, PutsBoth, ReadsBoth, answered_status}
use Rattle.shard_cmd.proofs.Finished.{is_whole}

module _ {N : Type 0} (store : Store N) (count_of : N → List ℕ → ℕ) (limits : RunLimits) (forks : ForkState) (id key : List ℕ) where
  -- the second line behind the first
  puts_both : (before mid after first second : List ℕ) (r : Result Unit Halt) → mid ≡ before ++ first → Answers mid after second r → PutsBoth before after (first ++ second) r
  puts_both before mid after first second (Ok _) e a = a ∙ ap (λ (l : List ℕ). l ++ second) e ∙ append_assoc before first second
  puts_both before mid after first second (Err halt.Syntax) e a = a
  puts_both before mid after first second (Err (halt.Clash digest)) e a = a
  puts_both before mid after first second (Err halt.StoreFault) e a = record { part = first; rest = second; put = a ∙ e; parts = refl }
  puts_both before mid after first second (Err halt.NoMemory) e a = tt

  pub both_read : (old new : ShardState N) (before mid after : List ℕ) (r : Result Unit Halt) → mid ≡ before ++ flat_line forks id key → Reads store count_of limits forks (look_up id key) old new mid after (trie_line forks id key) r
      → ReadsBoth store count_of limits forks id key old new before after r
  both_read old new before mid after r e reads = record { puts = puts_both before mid after (flat_line forks id key) (trie_line forks id key) r e reads.answers; shard = reads.shard; counted = reads.counted; faults = reads.faults }

  few : (first n : ℕ) → first ≤ risen first n
  few first n = omega arith

  same_few : (first : ℕ) → first ≤ first
  same_few first = omega arith

  pub first_failed : (shard : ShardState N) (before mid : List ℕ) (why : Halt) → IsGoing store count_of limits shard forks → Answers before mid (flat_line forks id key) (Err why) → why ≢ halt.StoreFault → ReadsBoth store count_of limits forks id key shard shard before mid (Err why)
  first_failed shard before mid halt.Syntax is a h = absurd a
  first_failed shard before mid (halt.Clash digest) is a h = absurd a
  first_failed shard before mid halt.StoreFault is a h = absurd (h refl)
  first_failed shard before mid halt.NoMemory is a h = record { puts = tt; shard = is; counted = (same_few (store.loads shard.nodes), few (store.loads shard.nodes) _); faults = refl }

  -- of a block that is live
  request_live : (o : Option State) (P : State → Type 0) → state_at forks id ≡ o → IsSomeAnd o P → get_request id key forks ≡ record { bytes = flat_line forks id key ++ trie_line forks id key; ending = done }
  unfolding get_request
  request_live None P e h = absurd h
  request_live (Some state) P e h = ap (get_from forks id key) e

  pub gets_live : (P : State → Type 0) (old new : ShardState N) (before after : List ℕ) (r : Result Unit Halt) → IsSomeAnd (state_at forks id) P → ReadsBoth store count_of limits forks id key old new before after r
      → Gets store count_of limits forks id key old new before after (answered_status r status.Done)
  gets_live P old new before after (Ok _) live both =
      let is = request_live (state_at forks id) P refl live in
      record { answers = rw is (refl, both.puts); shard = both.shard; counted = both.counted; faults = both.faults }
  gets_live P old new before after (Err halt.Syntax) live both = absurd both.puts
  gets_live P old new before after (Err (halt.Clash digest)) live both = absurd both.puts
  gets_live P old new before after (Err halt.StoreFault) live both =
      let is = request_live (state_at forks id) P refl live in
      record { answers = rw is both.puts; shard = both.shard; counted = both.counted; faults = both.faults }
  gets_live P old new before after (Err halt.NoMemory) live both = record { answers = tt; shard = both.shard; counted = both.counted; faults = both.faults }

  -- and of one that is not
  request_refused : state_at forks id ≡ None → get_request id key forks ≡ not_live
  unfolding get_request
  request_refused e = ap (get_from forks id key) e

  no_cost : state_at forks id ≡ None → loads limits.blocks forks (look_up id key) ≡ 0
  unfolding loads
  no_cost e = ap (in_state _) e

  pub gets_refused : (shard : ShardState N) (before after : List ℕ) (put : Result Unit Fault) → state_at forks id ≡ None → IsGoing store count_of limits shard forks → OnOk put (after ≡ before ++ not_live.bytes)
      → Gets store count_of limits forks id key shard shard before after (answered_status (gathered_as put) status.Refused)
  gets_refused shard before after (Ok _) none is h = record {
    answers = rw (request_refused none) (refl, h);
    shard = is;
    counted = rw (no_cost none) (loads_none (store.loads shard.nodes));
    faults = refl;
  }
    where
      loads_none : (first : ℕ) → first ≡ risen first 0
      loads_none first = omega arith
  gets_refused shard before after (Err fault) none is h = record { answers = tt; shard = is; counted = (same_few (store.loads shard.nodes), few (store.loads shard.nodes) _); faults = refl }

-- ---- what is counted behind the request

module _ (output : Output) (before after : List ℕ) where
  pub answered_known : (given : Status) → AnswersAs output before after given → given ≢ status.Usage
  answered_known status.Done a e = absurd (cc e)
  answered_known status.NoMemory a e = absurd (cc e)
  answered_known status.Usage a e = absurd a
  answered_known status.Syntax a e = absurd a
  answered_known status.Refused a e = absurd (cc e)
  answered_known status.ReadFault a e = absurd a
  answered_known status.WriteFault a e = absurd a
  answered_known status.StoreFault a e = absurd (cc e)
  answered_known status.Clash a e = absurd (cc e)

  answered_source : (given : Status) → AnswersAs output before after given → (faults : ℕ) → faults ≡ faults_after (source_ended given) faults
  answered_source status.Done a faults = refl
  answered_source status.NoMemory a faults = refl
  answered_source status.Usage a faults = absurd a
  answered_source status.Syntax a faults = absurd a
  answered_source status.Refused a faults = refl
  answered_source status.ReadFault a faults = absurd a
  answered_source status.WriteFault a faults = absurd a
  answered_source status.StoreFault a faults = refl
  answered_source status.Clash a faults = refl

  answered_sink : (given : Status) → AnswersAs output before after given → (faults : ℕ) → faults ≡ faults_after (sink_ended given) faults
  answered_sink status.Done a faults = refl
  answered_sink status.NoMemory a faults = refl
  answered_sink status.Usage a faults = absurd a
  answered_sink status.Syntax a faults = absurd a
  answered_sink status.Refused a faults = refl
  answered_sink status.ReadFault a faults = absurd a
  answered_sink status.WriteFault a faults = absurd a
  answered_sink status.StoreFault a faults = refl
  answered_sink status.Clash a faults = refl

-- whether the script was read to its end or not
module _ (before after : List ℕ) (read given : Status) (answered : read ≡ status.Done → (output : Output) × AnswersAs output before after given) (others : read ≢ status.Done → given ≡ read) where
  pub read_whole : given ≡ status.Done → read ≡ status.Done
  read_whole e = by_read (is_whole read)
    where
      by_read : ((read ≡ status.Done) ⊎ (read ≢ status.Done)) → read ≡ status.Done
      by_read (inl whole) = whole
      by_read (inr n) = sym (others n) ∙ e

  pub never_usage : read ≢ status.Usage → given ≢ status.Usage
  never_usage h = by_read (is_whole read)
    where
      by_read : ((read ≡ status.Done) ⊎ (read ≢ status.Done)) → given ≢ status.Usage
      by_read (inl whole) = let a = answered whole in answered_known a.0 before after given a.1
      by_read (inr n) = λ e. absurd (h (sym (others n) ∙ e))

  pub same_source : (first now : ℕ) → now ≡ faults_after (source_ended read) first → now ≡ faults_after (source_ended given) first
  same_source first now h = by_read (is_whole read)
    where
      by_read : ((read ≡ status.Done) ⊎ (read ≢ status.Done)) → now ≡ faults_after (source_ended given) first
      by_read (inl whole) = let a = answered whole in subst (λ s. now ≡ faults_after (source_ended s) first) whole h ∙ answered_source a.0 before after given a.1 first
      by_read (inr n) = subst (λ s. now ≡ faults_after (source_ended s) first) (sym (others n)) h

  pub same_sink : (first now : ℕ) → now ≡ faults_after (sink_ended read) first → now ≡ faults_after (sink_ended given) first
  same_sink first now h = by_read (is_whole read)
    where
      by_read : ((read ≡ status.Done) ⊎ (read ≢ status.Done)) → now ≡ faults_after (sink_ended given) first
      by_read (inl whole) = let a = answered whole in subst (λ s. now ≡ faults_after (sink_ended s) first) whole h ∙ answered_sink a.0 before after given a.1 first
      by_read (inr n) = subst (λ s. now ≡ faults_after (sink_ended s) first) (sym (others n)) h

  pub same_store : (first mid now : ℕ) → mid ≡ faults_after (store_ended read) first → (read ≡ status.Done → now ≡ faults_after (store_ended given) mid) → (read ≢ status.Done → now ≡ mid) → now ≡ faults_after (store_ended given) first
  same_store first mid now h more stays = by_read (is_whole read)
    where
      by_read : ((read ≡ status.Done) ⊎ (read ≢ status.Done)) → now ≡ faults_after (store_ended given) first
      by_read (inl whole) = more whole ∙ ap (faults_after (store_ended given)) (subst (λ s. mid ≡ faults_after (store_ended s) first) whole h)
      by_read (inr n) = stays n ∙ subst (λ s. mid ≡ faults_after (store_ended s) first) (sym (others n)) h
