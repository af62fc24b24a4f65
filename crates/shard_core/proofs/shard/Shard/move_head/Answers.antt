use Rattle.std.proofs.Common.{refl, sym, subst, ◌∙◌}
use Rattle.fork_model.specs.States.{head_moved}
use Rattle.shard_core.specs.KeptTries.{AreTriesOf}
use Rattle.shard_core.specs.Ledgers.{ledgers_of}
use Rattle.shard_core.specs.Shards.{IsShardOf}
use Rattle.shard_core.proofs.Moving.{is-tree, plan-of_blocks, shard-moved}
use Rattle.shard_core.proofs.OfBlocks.{have_same_blocks}
use Rattle.shard_core.proofs.shard.Shard.move_head.Goals as goal

pub move_head-requires : goal.move_head-requires
move_head-requires g c =
    let one = c.self.invariant.going c.if-self.false in
    (c.self.inside.forks.tree, c.args.id.now.0, is-tree g.N.Texts.store g.N.Nodes.count_of one.0 _ one.1, c.in_ok-plan.ensures.plan, have_same_blocks g.N.Texts.store g.N.Nodes.count_of one.0 _ one.1)

pub invariant_of-self-2 : goal.invariant_of-self-2
invariant_of-self-2 g c =
    let one = c.self.invariant.going c.if-self.false in
    record {
      limits = c.self.invariant.limits;
      most = c.commit_move.ensures.most ∙ c.self.invariant.most;
      going = λ _. (
        head_moved one.0 c.args.id.now.0,
        shard-moved g.N.Texts.store g.N.Nodes.count_of one.0 _ one.1 c.args.id.now.0 c.in_ok-plan.plan c.in_ok-plan.ensures.plan
            (record { nodes = c.keep_live.new.self.nodes; ledgers = ledgers_of c.keep_live.new.self.ledgers.entries; forks = c.commit_move.new.self; flat = c.move_head.new.self; limits = c.self.inside.limits; stopped = c.self.inside.stopped })
            (ledgers_of c.release.new.self.ledgers.entries)
            (subst (λ (n : g.row.N.Denot). AreTriesOf (g.N.Texts.store.texts n) (g.N.Nodes.count_of n) (ledgers_of c.release.new.self.ledgers.entries) (head_moved one.0 c.args.id.now.0)) (sym c.keep_live.ensures.nodes)
            (c.in_default.ensures.ok one.0 c.args.id.now.0 one.1.tries (plan-of_blocks g.N.Texts.store g.N.Nodes.count_of one.0 _ one.1 c.args.id.now.0 c.in_ok-plan.plan c.in_ok-plan.ensures.plan)))
            (c.commit_move.ensures.tree c.args.id.now.0 c.in_ok-plan.ensures.plan)
            c.keep_live.ensures.ledgers
            (c.in_ok-move_head.ensures.state one.0 c.args.id.now.0 one.1.tries.blocks (plan-of_blocks g.N.Texts.store g.N.Nodes.count_of one.0 _ one.1 c.args.id.now.0 c.in_ok-plan.plan c.in_ok-plan.ensures.plan) one.1.flat)
            refl,
      );
    }

pub returns-clause-state : goal.returns-clause-state
returns-clause-state g c = λ blocks _ is.
    let own = subst (IsShardOf g.N.Texts.store g.N.Nodes.count_of blocks) (sym c.self.view_is) is in
    shard-moved g.N.Texts.store g.N.Nodes.count_of blocks _ own c.args.id.now.0 c.in_ok-plan.plan c.in_ok-plan.ensures.plan
    (record { nodes = c.keep_live.new.self.nodes; ledgers = ledgers_of c.keep_live.new.self.ledgers.entries; forks = c.commit_move.new.self; flat = c.move_head.new.self; limits = c.self.inside.limits; stopped = c.self.inside.stopped })
    (ledgers_of c.release.new.self.ledgers.entries)
    (subst (λ (n : g.row.N.Denot). AreTriesOf (g.N.Texts.store.texts n) (g.N.Nodes.count_of n) (ledgers_of c.release.new.self.ledgers.entries) (head_moved blocks c.args.id.now.0)) (sym c.keep_live.ensures.nodes)
    (c.in_default.ensures.ok blocks c.args.id.now.0 own.tries (plan-of_blocks g.N.Texts.store g.N.Nodes.count_of blocks _ own c.args.id.now.0 c.in_ok-plan.plan c.in_ok-plan.ensures.plan)))
    (c.commit_move.ensures.tree c.args.id.now.0 c.in_ok-plan.ensures.plan)
    c.keep_live.ensures.ledgers
    (c.in_ok-move_head.ensures.state blocks c.args.id.now.0 own.tries.blocks (plan-of_blocks g.N.Texts.store g.N.Nodes.count_of blocks _ own c.args.id.now.0 c.in_ok-plan.plan c.in_ok-plan.ensures.plan) own.flat)
    refl
