use Rattle.std.proofs.Common.{refl, sym, ◌∙◌}
use Rattle.base_core.proofs.PassedOn.{passed_on}
use Rattle.shard_core.specs.Counting.{AnswersAddAll}
use Rattle.shard_core.proofs.Gathered.{adding-start, kept-itself, kept-onward, next-added, next-refused, next-room, next-stopped}
use Rattle.shard_core.proofs.adding.add_all.Goals as goal

pub loop-digest-init : goal.loop-digest-init
loop-digest-init g c = (adding-start _ _ _ c.requires.stored c.requires.texts, c.requires.room, refl, kept-itself _, refl)

pub loop-digest-preserved : goal.loop-digest-preserved
loop-digest-preserved g c = (
  next-added _ _ _ _ _ _ _ c.in-Some.field-0 (sym c.in-Some.ensures.first) c.in-Some.ensures.rest c.loop-digest.invariant.0 _ _ c.in_ok-add.ensures.ok c.in_ok-add.ensures.answer,
  next-room _ _ _ _ _ _ _ c.in-Some.field-0 (sym c.in-Some.ensures.first) c.in-Some.ensures.rest c.loop-digest.invariant.0 _ _ c.loop-digest.invariant.1 c.in_ok-add.ensures.room,
  c.in_ok-add.ensures.loads ∙ c.loop-digest.invariant.2,
  kept-onward _ _ _ c.loop-digest.invariant.3 c.in_ok-add.ensures.kept,
  c.in_ok-add.ensures.counted ∙ c.loop-digest.invariant.4,
)

pub returns-in_err-add-clause-some : goal.returns-in_err-add-clause-some
returns-in_err-add-clause-some g c = next-stopped _ _ _ _ _ _ _ c.in-Some.field-0 (sym c.in-Some.ensures.first) c.in-Some.ensures.rest c.loop-digest.invariant.0 _ _ c.in_err-add.ensures.err

pub returns-in_err-add-clause-answer : goal.returns-in_err-add-clause-answer
returns-in_err-add-clause-answer g c =
    passed_on (λ r. AnswersAddAll (g.N.Texts.store.texts c.args.nodes.now) c.args.made r) _ _ c.from_residual.ensures.1
    (next-refused _ _ _ _ _ _ _ c.in-Some.field-0 (sym c.in-Some.ensures.first) c.in-Some.ensures.rest c.loop-digest.invariant.0 _ c.in_err-add.ensures.answer)
