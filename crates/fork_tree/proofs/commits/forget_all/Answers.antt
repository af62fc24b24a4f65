use Rattle.fork_tree.specs.Kept.{placed}
use Rattle.fork_tree.proofs.Leaving.{taken}
use Rattle.fork_tree.proofs.commits.forget_all.Goals as goal

pub returns-clause-places : goal.returns-clause-places
returns-clause-places c =
    taken (placed c.args.places.now.entries) (placed c.remove.new.self.entries) (placed c.forget.new.places.entries) (placed c.forget-2.new.places.entries) c.args.head.now.0 _ _
    (λ q. c.remove.ensures.updates.0 (record { 0 = q })) c.forget.ensures.places c.forget-2.ensures.places
