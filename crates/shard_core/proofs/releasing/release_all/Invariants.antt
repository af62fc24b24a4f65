use Rattle.std.proofs.Common.{◌≡◌, drop}
use Rattle.text_store.specs.Loading.{StaysKept}
use Rattle.shard_core.specs.Ledgers.{entries_of}
use Rattle.shard_core.proofs.Lowered.{IsReleasing}
use Rattle.shard_core.proofs.releasing.release_all.Given as goal

abbrev pub invariant-loop-entry : goal.invariant-loop-entry
invariant-loop-entry g l =
    IsReleasing (g.N.Texts.store.texts l.initial.nodes) (g.N.Texts.store.texts l.nodes) (g.N.Nodes.count_of l.initial.nodes) (g.N.Nodes.count_of l.nodes) (entries_of l.list) (entries_of (drop l.entry-index l.list))
    × (g.N.Texts.store.loads l.nodes ≡ g.N.Texts.store.loads l.initial.nodes)
    × StaysKept (g.N.Texts.store.kept l.initial.nodes) (g.N.Texts.store.kept l.nodes)
    × (g.N.Texts.store.faults l.nodes ≡ g.N.Texts.store.faults l.initial.nodes)
