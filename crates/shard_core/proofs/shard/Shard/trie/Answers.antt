use Rattle.std.proofs.Common.{◌≡◌, ℕ, List, Option, IfOk, Err, refl, sym, ap, subst, ◌∙◌}
use Rattle.std.specs.Borrow.{Bor}
use Rattle.std.specs.Option.{IsSomeAnd, option_copied, option_map}
use Rattle.std.specs.FinMap.{get}
use Rattle.base_core.proofs.KeptMaps.{are_bytes}
use Rattle.base_core.specs.declared.hash.Digest.{Digest}
use Rattle.visit_model.specs.Visits.{lookup_visits}
use Rattle.count_model.specs.Loads.{look_up}
use Rattle.fork_model.specs.Trees.{is_live}
use Rattle.fork_model.specs.States.{state_at}
use Rattle.text_store.specs.Leaves.{Leaves}
use Rattle.trie_read.specs.Endings.{by_error, read_ended}
use Rattle.trie_read.specs.declared.errors.ReadError.TheVariants as read
use Rattle.shard_core.specs.Ledgers.{LedgerState, ledgers_of}
use Rattle.shard_core.specs.Shards.{IsShardOf, ShardState}
use Rattle.shard_core.specs.ShardAnswers.{LeavesReading, trie_ended}
use Rattle.shard_core.specs.declared.errors.TrieError.TheVariants.{NotLive}
use Rattle.shard_core.proofs.OfBlocks.{ledger-missing_not}
use Rattle.shard_core.proofs.Reading.{Answered, answered-going, answered-live, leaves-no_lookup, leaves-read, loads-lookup, unmet-lookup, unread-going, value-told}
use Rattle.shard_core.proofs.shard.Shard.trie.Goals as goal
use Rattle.shard_core.proofs.shard.Shard.trie.Goals.{in-Ok, in-Err-Fault}

pub returns-then-not-is_live : goal.returns-then-not-is_live
returns-then-not-is_live g c =
    let dead = ap (λ s. is_live s.forks.tree c.args.id.now.0) (sym c.self.view_is) ∙ sym c.if-not-is_live.ensures.live in (
      (refl, λ _. tt, subst (λ (s : ShardState g.row.N.Denot). LeavesReading {X = Option (Bor (List ℕ))} g.N.Texts.store g.N.Nodes.count_of (look_up c.args.id.now.0 c.args.key.now) c.args.self.now s (Err NotLive)) (sym c.self.view_is) (leaves-no_lookup g.N.Texts.store g.N.Nodes.count_of g.met.N.Texts.alike_itself c.args.id.now.0 c.args.self.now (ap (λ s. s.stopped) (sym c.self.view_is) ∙ c.if-self.false) dead c.args.key.now)),
      record { after = tt; stopped = unread-going {X = Option (Bor (List ℕ))} (Err NotLive) tt c.args.self.now.stopped (ap (λ s. s.stopped) (sym c.self.view_is) ∙ c.if-self.false); not_live = λ _. (λ _. dead, λ _. refl); value = λ _ _. tt },
    )

pub unreachable-requires : goal.unreachable-requires
unreachable-requires g c =
    let one = c.self.invariant.going c.if-self.false in
    ledger-missing_not g.N.Texts.store g.N.Nodes.count_of one.0 _ one.1 c.args.id.now.0 (sym c.if-not-is_live.ensures.live) (λ (l : LedgerState). l.root) _ (ap (option_map (λ (r : Digest). r.0)) c.in_default.is) c.root.ensures

pub unreachable-requires-in-Err-Missing : goal.unreachable-requires-in-Err-Missing
unreachable-requires-in-Err-Missing g c =
    let one = c.self.invariant.going c.if-self.false in
    unmet-lookup g.N.Texts.store g.N.Nodes.count_of one.0 _ one.1 c.args.id.now.0 (sym c.if-not-is_live.ensures.live) c.in-Some.root.0 c.in-Some.ensures c.args.key.now c.in-Err-Missing.field-0 (read.Missing c.in-Err-Missing.field-0-0) c.in-Err-Missing.field-0-is c.in-Err-Missing.ensures.state

pub unreachable-requires-in-Err-Bad : goal.unreachable-requires-in-Err-Bad
unreachable-requires-in-Err-Bad g c =
    let one = c.self.invariant.going c.if-self.false in
    unmet-lookup g.N.Texts.store g.N.Nodes.count_of one.0 _ one.1 c.args.id.now.0 (sym c.if-not-is_live.ensures.live) c.in-Some.root.0 c.in-Some.ensures c.args.key.now c.in-Err-Bad.field-0 (read.Bad c.in-Err-Bad.field-0-0) c.in-Err-Bad.field-0-is c.in-Err-Bad.ensures.state

pub returns : goal.returns
returns g c =
    let seen : ShardState g.row.N.Denot = record { nodes = c.self.inside.tries.nodes; ledgers = ledgers_of c.self.inside.tries.ledgers.entries; forks = c.self.inside.forks; flat = c.self.inside.flat; limits = c.self.inside.limits; stopped = c.self.inside.stopped } in
    let ended : trie_ended c.match-get.result ≡ read_ended c.get.result = elim c.match-get.branch [
      | in-Ok w ↦ ap trie_ended w.result-is ∙ sym (ap read_ended w.in-Ok.is)
      | in-Err-Fault w ↦ ap trie_ended w.result-is ∙ sym (ap by_error w.in-Err-Fault.field-0-is) ∙ sym (ap read_ended w.in-Err-Fault.is)
    ] in
    let answered : Answered c.match-get.result = elim c.match-get.branch [
      | in-Ok w ↦ subst Answered (sym w.result-is) tt
      | in-Err-Fault w ↦ subst Answered (sym w.result-is) tt
    ] in
    let live = ap (λ s. is_live s.forks.tree c.args.id.now.0) (sym c.self.view_is) ∙ sym c.if-not-is_live.ensures.live in (
      (
        refl,
        λ _. tt,
        subst (λ s. LeavesReading g.N.Texts.store g.N.Nodes.count_of (look_up c.args.id.now.0 c.args.key.now) s (record seen { nodes = c.get.follows.lender-at-none }) c.match-get.result) c.self.view_is
            (leaves-read g.N.Texts.store g.N.Nodes.count_of g.met.N.Texts.alike_texts g.met.N.Nodes.alike_counts (look_up c.args.id.now.0 c.args.key.now) seen c.get.follows.lender-at-none _ c.match-get.result c.if-self.false
            (subst (Leaves g.N.Texts.store c.self.inside.tries.nodes c.get.follows.lender-at-none (lookup_visits (g.N.Texts.store.texts c.self.inside.tries.nodes) c.in-Some.root.0 c.args.key.now).digests) (sym ended) c.get.follows.holds-at-none)
            (λ blocks is. loads-lookup g.N.Texts.store g.N.Nodes.count_of blocks seen is c.args.id.now.0 (sym c.if-not-is_live.ensures.live) c.in-Some.root.0 c.in-Some.ensures c.args.key.now (are_bytes _ c.type_inv.key))),
      ),
      record {
        after = tt;
        stopped = answered-going c.match-get.result answered c.args.self.now.stopped (ap (λ s. s.stopped) (sym c.self.view_is) ∙ c.if-self.false);
        not_live = λ _. answered-live c.match-get.result answered _ live;
        value = λ blocks is.
            let own = subst (IsShardOf g.N.Texts.store g.N.Nodes.count_of blocks) (sym c.self.view_is) is in
            let Told : Option (Bor (List ℕ)) → Type 0 = λ found. IsSomeAnd (state_at blocks c.args.id.now.0) (λ state. option_copied found ≡ get state c.args.key.now) in
            elim c.match-get.branch [
              | in-Ok w ↦ subst (λ r. IfOk r Told) (sym w.result-is) (value-told g.N.Texts.store g.N.Nodes.count_of blocks _ own c.args.id.now.0 (sym c.if-not-is_live.ensures.live) c.in-Some.root.0 c.in-Some.ensures c.args.key.now w.in-Ok.found w.in-Ok.ensures.state)
              | in-Err-Fault w ↦ subst (λ r. IfOk r Told) (sym w.result-is) tt
            ];
      },
    )
