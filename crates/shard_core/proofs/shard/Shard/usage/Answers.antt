use Rattle.std.proofs.Common.{◌≡◌, ℕ, IfOk, sym, ap, subst, ◌∙◌}
use Rattle.std.specs.Option.{IsSomeAnd, option_map}
use Rattle.base_core.specs.declared.hash.Digest.{Digest}
use Rattle.trie_model.specs.Root.{total}
use Rattle.visit_model.specs.Visits.{top_visits}
use Rattle.count_model.specs.Loads.{tell_usage}
use Rattle.fork_model.specs.States.{state_at}
use Rattle.text_store.specs.Leaves.{Leaves}
use Rattle.trie_read.specs.Endings.{by_error, read_ended}
use Rattle.shard_core.specs.Ledgers.{LedgerState, ledgers_of}
use Rattle.fork_model.specs.Trees.{is_live}
use Rattle.trie_read.specs.declared.errors.ReadError.TheVariants as read
use Rattle.shard_core.specs.Shards.{IsShardOf, ShardState}
use Rattle.shard_core.specs.ShardAnswers.{LeavesReading, trie_ended}
use Rattle.shard_core.proofs.OfBlocks.{ledger-missing_not}
use Rattle.shard_core.proofs.Reading.{leaves-no_usage, leaves-read, loads-usage, unmet-usage, usage-told}
use Rattle.shard_core.proofs.shard.Shard.usage.Goals as goal
use Rattle.shard_core.proofs.shard.Shard.usage.Goals.{in-Ok, in-Err-Fault}

pub returns-then-not-is_live-clause-left : goal.returns-then-not-is_live-clause-left
returns-then-not-is_live-clause-left g c = leaves-no_usage g.N.Texts.store g.N.Nodes.count_of g.met.N.Texts.alike_itself c.args.id.now.0 c.args.self.now (ap (λ s. s.stopped) (sym c.self.view_is) ∙ c.if-self.false) (ap (λ s. is_live s.forks.tree c.args.id.now.0) (sym c.self.view_is) ∙ sym c.if-not-is_live.ensures.live)

pub unreachable-requires : goal.unreachable-requires
unreachable-requires g c =
    let one = c.self.invariant.going c.if-self.false in
    ledger-missing_not g.N.Texts.store g.N.Nodes.count_of one.0 _ one.1 c.args.id.now.0 (sym c.if-not-is_live.ensures.live) (λ (l : LedgerState). l.root) _ (ap (option_map (λ (r : Digest). r.0)) c.in_default.is) c.root.ensures

pub unreachable-requires-in-Err-Missing : goal.unreachable-requires-in-Err-Missing
unreachable-requires-in-Err-Missing g c =
    let one = c.self.invariant.going c.if-self.false in
    unmet-usage g.N.Texts.store g.N.Nodes.count_of one.0 _ one.1 c.args.id.now.0 (sym c.if-not-is_live.ensures.live) c.in-Some.root.0 c.in-Some.ensures c.in-Err-Missing.field-0 (read.Missing c.in-Err-Missing.field-0-0) c.in-Err-Missing.field-0-is c.in-Err-Missing.ensures.state

pub unreachable-requires-in-Err-Bad : goal.unreachable-requires-in-Err-Bad
unreachable-requires-in-Err-Bad g c =
    let one = c.self.invariant.going c.if-self.false in
    unmet-usage g.N.Texts.store g.N.Nodes.count_of one.0 _ one.1 c.args.id.now.0 (sym c.if-not-is_live.ensures.live) c.in-Some.root.0 c.in-Some.ensures c.in-Err-Bad.field-0 (read.Bad c.in-Err-Bad.field-0-0) c.in-Err-Bad.field-0-is c.in-Err-Bad.ensures.state

pub returns-clause-value : goal.returns-clause-value
returns-clause-value g c = λ blocks is.
    let own = subst (IsShardOf g.N.Texts.store g.N.Nodes.count_of blocks) (sym c.self.view_is) is in
    let Told : ℕ → Type 0 = λ usage. IsSomeAnd (state_at blocks c.args.id.now.0) (λ state. usage ≡ total state) in
    elim c.match-usage_of.branch [
      | in-Ok w ↦ subst (λ r. IfOk r Told) (sym w.result-is) (usage-told g.N.Texts.store g.N.Nodes.count_of blocks _ own c.args.id.now.0 (sym c.if-not-is_live.ensures.live) c.in-Some.root.0 c.in-Some.ensures w.in-Ok.usage w.in-Ok.ensures.state)
      | in-Err-Fault w ↦ subst (λ r. IfOk r Told) (sym w.result-is) tt
    ]

pub returns-clause-left : goal.returns-clause-left
returns-clause-left g c =
    let seen : ShardState g.row.N.Denot = record { nodes = c.self.inside.tries.nodes; ledgers = ledgers_of c.self.inside.tries.ledgers.entries; forks = c.self.inside.forks; flat = c.self.inside.flat; limits = c.self.inside.limits; stopped = c.self.inside.stopped } in
    let ended : trie_ended c.match-usage_of.result ≡ read_ended c.usage_of.result = elim c.match-usage_of.branch [
      | in-Ok w ↦ ap trie_ended w.result-is ∙ sym (ap read_ended w.in-Ok.is)
      | in-Err-Fault w ↦ ap trie_ended w.result-is ∙ sym (ap by_error w.in-Err-Fault.field-0-is) ∙ sym (ap read_ended w.in-Err-Fault.is)
    ] in
    subst (λ s. LeavesReading g.N.Texts.store g.N.Nodes.count_of (tell_usage c.args.id.now.0) s (record seen { nodes = c.usage_of.new.store }) c.match-usage_of.result) c.self.view_is
    (leaves-read g.N.Texts.store g.N.Nodes.count_of g.met.N.Texts.alike_texts g.met.N.Nodes.alike_counts (tell_usage c.args.id.now.0) seen c.usage_of.new.store _ c.match-usage_of.result c.if-self.false
    (subst (Leaves g.N.Texts.store c.self.inside.tries.nodes c.usage_of.new.store (top_visits (g.N.Texts.store.texts c.self.inside.tries.nodes) c.in-Some.root.0).digests) (sym ended) c.usage_of.ensures.after)
    (λ blocks is. loads-usage g.N.Texts.store g.N.Nodes.count_of blocks seen is c.args.id.now.0 (sym c.if-not-is_live.ensures.live) c.in-Some.root.0 c.in-Some.ensures))
