use Rattle.std.proofs.Common.{◌∙◌, arith}
use Rattle.shard_core.proofs.Gathered.{kept-onward}
use Rattle.shard_core.proofs.Lowered.{ids-cut, ids-end, ids-enough, ids-released}
use Rattle.shard_core.specs.Ledgers.{losses_under, ledgers_of}
use Rattle.shard_core.proofs.releasing.release_losses.Goals as goal

pub release_all-requires-clause-counted : goal.release_all-requires-clause-counted
release_all-requires-clause-counted g c = ids-enough (losses_under (ledgers_of c.args.ledgers.now.entries)) c.args.ids.now c.loop-place.place _ _ _ _ c.loop-place.invariant.0 c.at.result.0 c.at.ensures _ c.losses_at.ensures

pub returns-in_err-release_all-clause-some : goal.returns-in_err-release_all-clause-some
returns-in_err-release_all-clause-some g c = ids-cut (losses_under (ledgers_of c.args.ledgers.now.entries)) c.args.ids.now c.loop-place.place _ _ _ _ c.loop-place.invariant.0 c.at.result.0 c.at.ensures _ c.losses_at.ensures _ _ c.release_all.ensures.some

pub loop-place-preserved : goal.loop-place-preserved
loop-place-preserved g c = (
  ids-released (losses_under (ledgers_of c.args.ledgers.now.entries)) c.args.ids.now c.loop-place.place _ _ _ _ c.loop-place.invariant.0 c.at.result.0 c.at.ensures _ c.losses_at.ensures _ _ c.in_ok-release_all.ensures.all c.in_ok-release_all.ensures.some c.in_ok-release_all.ensures.stored,
  c.in_ok-release_all.ensures.loads ∙ c.loop-place.invariant.1,
  kept-onward _ _ _ c.loop-place.invariant.2 c.in_ok-release_all.ensures.kept,
  c.in_ok-release_all.ensures.counted.same ∙ c.loop-place.invariant.3,
  omega (arith, c.loop-place-test.true, c.len-place-end.ensures),
)

pub returns-clause-all : goal.returns-clause-all
returns-clause-all g c = ids-end (losses_under (ledgers_of c.args.ledgers.now.entries)) c.args.ids.now c.loop-place.place _ _ _ _ c.loop-place.invariant.0 (omega (arith, c.loop-place-test.false, c.len-place-end.ensures))
