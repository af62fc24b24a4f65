use Rattle.std.proofs.Common.{◌∙◌, arith}
use Rattle.shard_core.proofs.Gathered.{kept-onward}
use Rattle.shard_core.proofs.Lowered.{all-released, at-enough, at-released}
use Rattle.shard_core.proofs.releasing.release_all.Goals as goal

pub release-requires : goal.release-requires
release-requires g c = at-enough _ _ _ _ _ _ _ c.loop-entry-test.true c.loop-entry.invariant.0

pub loop-entry-preserved : goal.loop-entry-preserved
loop-entry-preserved g c = (
  at-released _ _ _ _ _ _ _ c.loop-entry-test.true c.loop-entry.invariant.0 _ _ c.in_ok-release.ensures.ok,
  c.in_ok-release.ensures.loads ∙ c.loop-entry.invariant.1,
  kept-onward _ _ _ c.loop-entry.invariant.2 c.in_ok-release.ensures.kept,
  c.in_ok-release.ensures.counted.same ∙ c.loop-entry.invariant.3,
)

pub returns-clause-all : goal.returns-clause-all
returns-clause-all g c = all-released _ _ _ _ _ _ c.loop-entry.invariant.0 (omega (arith, c.loop-entry-test.false))
