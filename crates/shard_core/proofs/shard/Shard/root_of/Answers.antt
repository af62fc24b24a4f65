use Rattle.std.proofs.Common.{sym, ap, subst}
use Rattle.std.specs.Option.{option_map}
use Rattle.base_core.specs.declared.hash.Digest.{Digest}
use Rattle.shard_core.specs.Ledgers.{LedgerState}
use Rattle.shard_core.specs.Shards.{IsShardOf}
use Rattle.shard_core.proofs.OfBlocks.{ledger-missing_not, root-there}
use Rattle.shard_core.proofs.shard.Shard.root_of.Goals as goal

pub unreachable-requires : goal.unreachable-requires
unreachable-requires g c =
    let one = c.self.invariant.going c.if-self.false in
    ledger-missing_not g.N.Texts.store g.N.Nodes.count_of one.0 _ one.1 c.args.id.now.0 (sym c.if-not-is_live.ensures.live) (λ (l : LedgerState). l.root) _ (ap (option_map (λ (r : Digest). r.0)) c.in-None.is) c.root.ensures

pub returns-clause-value : goal.returns-clause-value
returns-clause-value g c = λ blocks is.
    root-there g.N.Texts.store g.N.Nodes.count_of blocks _ (subst (IsShardOf g.N.Texts.store g.N.Nodes.count_of blocks) (sym c.self.view_is) is) c.args.id.now.0 (sym c.if-not-is_live.ensures.live) c.in-Some.root.0 c.in-Some.ensures
