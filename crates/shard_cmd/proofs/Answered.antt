-- What is replied to a reading, and what it leaves.
use Rattle.std.proofs.Common.{◌≡◌, ◌≢◌, ℕ, ◌≤◌, ◌&&◌, Bool, true, false, is_some, List, ◌++◌, Option, Some, None, Result, Ok, Err, OnOk, refl, sym, ap, subst, ◌∙◌, arith, le_refl}
use Rattle.std.specs.Prelude.{codes, ◌↔◌}
use Rattle.std.specs.Option.{option_map, unwrap_or, IsSomeAnd}
use Rattle.std.specs.Fmt.{decimal}
use Rattle.std.specs.FinMap.{get}
use Rattle.trie_model.specs.State.{State}
use Rattle.trie_model.specs.Root as trie
use Rattle.base_core.specs.Faults.{Ended, done, refused, failed, short_of_memory, risen, faults_after}
use Rattle.base_core.specs.declared.fault.Fault.{Fault}
use Rattle.fork_model.specs.Trees.{BlockTree, is_live}
use Rattle.fork_model.specs.States.{Block, ForkState, tree_of_blocks, block_at, state_at}
use Rattle.fork_model.proofs.States.{block_of-at}
use Rattle.count_model.specs.Loads.{Access, loads}
use Rattle.text_store.specs.Store.{Store}
use Rattle.text_store.specs.Leaves.{CountsLoads}
use Rattle.shard_core.specs.Shards.{ShardState}
use Rattle.shard_core.specs.ShardAnswers.{LeavesReading}
use Rattle.shard_core.specs.declared.errors.TrieError.TheVariants as trie_error
use Rattle.output_model.specs.Ends.{RunLimits}
use Rattle.shard_cmd.specs.Ends.{run_limits}
use Rattle.script_io.specs.Streams.{Appends}
use Rattle.output_model.specs.Readings.{read_text, value_text, usage_text, same_text}
use Rattle.output_model.proofs.Same.{text-yes, text-no}
use Rattle.shard_cmd.specs.declared.history.Halt.TheVariants as halt
use Rattle.shard_cmd.specs.Histories.{Answers, IsGoing, Reads, gathered_as, step_ended}

-- a buffer has what was put into it
pub appended : (before after piece : List ℕ) (put : Result Unit Fault) → Appends before (Some after) piece put → OnOk put (after ≡ before ++ piece)
appended before after piece (Ok _) e = ap (λ o. unwrap_or o before) e
appended before after piece (Err fault) e = tt

-- a line is put
pub put_answers : (before after put_line line : List ℕ) (put : Result Unit Fault) → put_line ≡ line → OnOk put (after ≡ before ++ put_line) → Answers before after line (gathered_as put)
put_answers before after put_line line (Ok _) e h = h ∙ ap (λ (l : List ℕ). before ++ l) e
put_answers before after put_line line (Err fault) e h = tt

pub no_store_fault : (put : Result Unit Fault) → gathered_as put ≢ Err halt.StoreFault
no_store_fault (Ok _) e = absurd cc
no_store_fault (Err fault) e = absurd cc

-- ---- what is counted

no_fall : (before n : ℕ) → before ≤ risen before n
no_fall before n = omega arith

pub risen-none : (count : ℕ) → count ≡ risen count 0
risen-none count = omega arith

-- after so many loads, whoever fails behind them
pub loads_end : (ended : Ended) (before after n : ℕ) → after ≡ risen before n → CountsLoads ended before after n
loads_end done before after n e = e
loads_end refused before after n e = e
loads_end failed before after n e = (subst (λ m. before ≤ m) (sym e) (no_fall before n), subst (λ m. m ≤ risen before n) (sym e) (le_refl (risen before n)))
loads_end short_of_memory before after n e = (subst (λ m. before ≤ m) (sym e) (no_fall before n), subst (λ m. m ≤ risen before n) (sym e) (le_refl (risen before n)))

pub no_loads : (ended : Ended) (before after : ℕ) → after ≡ before → CountsLoads ended before after 0
no_loads ended before after e = loads_end ended before after 0 (e ∙ risen-none before)

pub faults_put : (put : Result Unit Fault) (before after : ℕ) → after ≡ before → after ≡ faults_after (step_ended (gathered_as put)) before
faults_put (Ok _) before after e = e
faults_put (Err fault) before after e = e

-- ---- live or not

live_found : (o : Option Block) → is_some (option_map (λ (b : Block). b.header) o) ≡ false → option_map (λ (b : Block). b.state) o ≡ None
live_found None e = refl
live_found (Some b) e = absurd cc

-- of a block that is not live there is no state
pub no_state_at : (forks : ForkState) (tree : BlockTree) (id : List ℕ) → tree ≡ tree_of_blocks forks → is_live tree id ≡ false → state_at forks id ≡ None
no_state_at forks tree id same e =
    live_found (block_at forks.blocks id) (ap is_some (sym (block_of-at forks.blocks id)) ∙ ap (λ (t : BlockTree). is_live t id) (sym same) ∙ e)

-- ---- what is read

pub read_is : (state : Option State) (key : List ℕ) (found : Option (List ℕ)) → IsSomeAnd state (λ state. found ≡ get state key) → value_text found ≡ read_text state key
read_is (Some state) key found e = ap value_text e
read_is None key found e = absurd e

pub usage_is : (state : Option State) (usage : ℕ) → IsSomeAnd state (λ state. usage ≡ trie.total state) → decimal usage ≡ usage_text state
usage_is (Some state) usage e = ap decimal e
usage_is None usage e = absurd e

-- both are live
both_live : (forks : ForkState) (tree : BlockTree) (a b : List ℕ) → tree ≡ tree_of_blocks forks → (is_live tree a && is_live tree b) ≡ true → (is_some (state_at forks a) ≡ true) × (is_some (state_at forks b) ≡ true)
both_live forks tree a b same e = (one a (left (is_live tree a) (is_live tree b) e), one b (right (is_live tree a) (is_live tree b) e))
  where
    left : (x y : Bool) → (x && y) ≡ true → x ≡ true
    left true y h = refl
    left false y h = absurd cc

    right : (x y : Bool) → (x && y) ≡ true → y ≡ true
    right true y h = h
    right false y h = absurd cc

    some : (o : Option Block) → is_some (option_map (λ (b : Block). b.header) o) ≡ true → is_some (option_map (λ (b : Block). b.state) o) ≡ true
    some (Some block) h = refl
    some None h = absurd cc

    one : (id : List ℕ) → is_live tree id ≡ true → is_some (state_at forks id) ≡ true
    one id h = some (block_at forks.blocks id) (ap is_some (sym (block_of-at forks.blocks id)) ∙ ap (λ (t : BlockTree). is_live t id) (sym same) ∙ h)

-- one of two is not live
pub same_not_live : (forks : ForkState) (tree : BlockTree) (a b : List ℕ) → tree ≡ tree_of_blocks forks → (is_live tree a && is_live tree b) ≡ false → codes "refused not-live" ≡ same_text (state_at forks a) (state_at forks b)
same_not_live forks tree a b same e = by_first (is_live tree a) refl
  where
    second : (o : Option State) → codes "refused not-live" ≡ same_text o None
    second None = refl
    second (Some state) = refl

    by_first : (live : Bool) → is_live tree a ≡ live → codes "refused not-live" ≡ same_text (state_at forks a) (state_at forks b)
    by_first false h = sym (ap (λ o. same_text o (state_at forks b)) (no_state_at forks tree a same h))
    by_first true h =
        let none : is_live tree b ≡ false = sym (ap (λ x. x && is_live tree b) h) ∙ e in
        second (state_at forks a) ∙ sym (ap (same_text (state_at forks a)) (no_state_at forks tree b same none))

-- two states are the same, or not
pub same_is : (o p : Option State) (word : List ℕ) → is_some o ≡ true → is_some p ≡ true → ((first second : State) → o ≡ Some first → p ≡ Some second → word ≡ same_text (Some first) (Some second)) → word ≡ same_text o p
same_is (Some first) (Some second) word a b h = h first second refl refl
same_is None p word a b h = absurd cc
same_is (Some first) None word a b h = absurd cc

not_false : (b : Bool) → (b ≡ false → ⊥) → b ≡ true
not_false true h = refl
not_false false h = absurd (h refl)

pub same_told : (forks : ForkState) (tree : BlockTree) (a b : List ℕ) (word : List ℕ) → tree ≡ tree_of_blocks forks → ((is_live tree a && is_live tree b) ≡ false → ⊥)
    → ((first second : State) → state_at forks a ≡ Some first → state_at forks b ≡ Some second → word ≡ same_text (Some first) (Some second)) → word ≡ same_text (state_at forks a) (state_at forks b)
same_told forks tree a b word same h told =
    let live = both_live forks tree a b same (not_false (is_live tree a && is_live tree b) h) in
    same_is (state_at forks a) (state_at forks b) word live.0 live.1 told

pub yes_is : (first second : State) (b : Bool) → b ≡ true → ((b ≡ true) ↔ (first ≡ second)) → codes "yes" ≡ same_text (Some first) (Some second)
yes_is first second b e h = sym (text-yes first second (h.0 e))

pub no_is : (first second : State) (b : Bool) → b ≡ false → ((b ≡ true) ↔ (first ≡ second)) → codes "no" ≡ same_text (Some first) (Some second)
no_is first second b e h = sym (text-no first second (λ same. absurd (cc (e, h.1 same))))

-- ---- of a block that is not live

pub reads_not_live : {N X : Type 0} (store : Store N) (count_of : N → List ℕ → ℕ) (limits : RunLimits) (forks : ForkState) (access : Access) (old new : ShardState N) (before after put_line line : List ℕ) (put : Result Unit Fault)
    → IsGoing store count_of limits old forks → LeavesReading {X = X} store count_of access old new (Err trie_error.NotLive) → put_line ≡ line → OnOk put (after ≡ before ++ put_line)
    → Reads store count_of limits forks access old new before after line (gathered_as put)
reads_not_live store count_of limits forks access old new before after put_line line put is left e h = record {
  answers = put_answers before after put_line line put e h;
  shard = record { of = left.state forks is.of; going = left.going ∙ is.going; limits_are = ap run_limits left.limits ∙ is.limits_are };
  counted = loads_end (step_ended (gathered_as put)) (store.loads old.nodes) (store.loads new.nodes) (loads limits.blocks forks access)
      (left.loads forks is.going is.of ∙ ap (λ (l : RunLimits). risen (store.loads old.nodes) (loads l.blocks forks access)) is.limits_are);
  faults = faults_put put (store.faults old.nodes) (store.faults new.nodes) left.faults;
}
