use Rattle.shard_core.proofs.Moved.{on_err, on_ok, plan-done, plan-first, plan-first_cut, plan-second, plan-second_cut, stored-tries}
use Rattle.shard_core.proofs.tries.Tries.release.Goals as goal

pub release_losses-requires-clause-stored : goal.release_losses-requires-clause-stored
release_losses-requires-clause-stored g c = stored-tries _ _ _ _ c.requires.2

pub release_losses-requires-clause-counted : goal.release_losses-requires-clause-counted
release_losses-requires-clause-counted g c = plan-first _ _ _ _ _ _ c.requires.2 c.requires.3

pub returns-in_err-release_losses-clause-amid : goal.returns-in_err-release_losses-clause-amid
returns-in_err-release_losses-clause-amid g c = λ forks id tries is. on_err _ c.from_residual.result (plan-first_cut _ _ _ forks id _ tries is _ _ c.release_losses.ensures.stored c.release_losses.ensures.some)

pub release_gains-requires-clause-counted : goal.release_gains-requires-clause-counted
release_gains-requires-clause-counted g c = plan-second _ _ _ _ _ _ c.requires.2 c.requires.3 _ c.in_ok-release_losses.ensures.all

pub returns-clause-ok : goal.returns-clause-ok
returns-clause-ok g c = λ forks id tries is. on_ok _ _ c.release_gains.result (λ second. plan-done _ _ _ forks id _ tries is _ _ _ _ c.in_ok-release_losses.ensures.all c.in_ok-release_losses.ensures.some second c.release_gains.ensures.some c.release_gains.ensures.stored) c.release_gains.ensures.all

pub returns-clause-amid : goal.returns-clause-amid
returns-clause-amid g c = λ forks id tries is. on_err _ c.release_gains.result (plan-second_cut _ _ _ forks id _ tries is _ _ _ _ c.in_ok-release_losses.ensures.all c.in_ok-release_losses.ensures.some c.release_gains.ensures.some c.release_gains.ensures.stored)
