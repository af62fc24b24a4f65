use Rattle.std.proofs.Common.{◌≡◌, ◌≤◌, drop, length}
use Rattle.std.specs.List.{flat_map}
use Rattle.text_store.specs.Loading.{StaysKept}
use Rattle.shard_core.specs.Ledgers.{gains_under, ledgers_of}
use Rattle.shard_core.proofs.Lowered.{IsReleasing}
use Rattle.shard_core.proofs.releasing.release_gains.Given as goal

abbrev pub invariant-loop-place : goal.invariant-loop-place
invariant-loop-place g l =
    IsReleasing (g.N.Texts.store.texts l.initial.nodes) (g.N.Texts.store.texts l.nodes) (g.N.Nodes.count_of l.initial.nodes) (g.N.Nodes.count_of l.nodes) (flat_map (gains_under (ledgers_of l.ledgers.entries)) l.ids) (flat_map (gains_under (ledgers_of l.ledgers.entries)) (drop l.place l.ids))
    × (g.N.Texts.store.loads l.nodes ≡ g.N.Texts.store.loads l.initial.nodes)
    × StaysKept (g.N.Texts.store.kept l.initial.nodes) (g.N.Texts.store.kept l.nodes)
    × (g.N.Texts.store.faults l.nodes ≡ g.N.Texts.store.faults l.initial.nodes)
    × (l.place ≤ length l.ids)
