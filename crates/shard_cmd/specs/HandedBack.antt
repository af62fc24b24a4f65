-- What the store holds that a run hands back, and how such a run ends.
use Rattle.std.specs.Prelude.{◌≡◌, ℕ, List, Option, IfSome, ⊤}
use Rattle.trie_model.specs.Root.{Table}
use Rattle.fork_model.specs.States.{ForkState}
use Rattle.count_model.specs.Counts.{digest_count}
use Rattle.count_model.specs.Tables.{HoldsCounted}
use Rattle.text_store.specs.Store.{Store}
use Rattle.text_store.specs.Leaves.{CountsLoads}
use Rattle.output_model.specs.Scripts.{Outcome}
use Rattle.shard_cmd.specs.Ends.{ending_of, run_ended, EndsAs, HasEnding}
use Rattle.shard_cmd.specs.declared.status.Status.{Status}
use Rattle.shard_cmd.specs.declared.status.Status.TheVariants.{Done, NoMemory, Usage, Syntax, Refused, ReadFault, WriteFault, StoreFault, Clash}

-- The texts are those of live blocks, and each digest is counted as often as the definition has it.
pub record HoldsBlocks (texts : Table) (count_of : List ℕ → ℕ) (forks : ForkState) : Type 0 where
  pub held : HoldsCounted texts forks
  pub counts : (digest : List ℕ) → count_of digest ≡ digest_count forks digest

-- what holds where no event was interrupted
abbrev pub IfSettled : Status → Type 0 → Type 0
IfSettled Done P = P
IfSettled NoMemory P = ⊤
IfSettled Usage P = ⊤
IfSettled Syntax P = P
IfSettled Refused P = P
IfSettled ReadFault P = ⊤
IfSettled WriteFault P = ⊤
IfSettled StoreFault P = ⊤
IfSettled Clash P = ⊤

-- A run with a store has ended so: what it wrote, its status, what the store holds, and what was loaded.
pub record EndsRun {N : Type 0} (store : Store N) (count_of : N → List ℕ → ℕ) (outcome : Outcome ForkState) (old new : N) (before after : Option (List ℕ)) (status : Status) : Type 0 where
  pub output : IfSome before (λ b. EndsAs outcome.output (ending_of status) b after)
  pub ending : HasEnding outcome.output (ending_of status)
  pub counts : IfSettled status (HoldsBlocks (store.texts new) (count_of new) outcome.left)
  pub loads : CountsLoads (run_ended status) (store.loads old) (store.loads new) outcome.loaded
