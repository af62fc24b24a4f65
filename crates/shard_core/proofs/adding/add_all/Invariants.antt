use Rattle.std.proofs.Common.{◌≡◌, ◌≤◌, length}
use Rattle.text_store.specs.Loading.{StaysKept}
use Rattle.shard_core.proofs.Gathered.{IsAdding}
use Rattle.shard_core.proofs.adding.add_all.Given as goal

abbrev pub invariant-loop-digest : goal.invariant-loop-digest
invariant-loop-digest g l =
    IsAdding (g.N.Texts.store.texts l.initial.nodes) (g.N.Texts.store.texts l.nodes) (g.N.Nodes.count_of l.initial.nodes) (g.N.Nodes.count_of l.nodes) l.fn.made l.left
    × (length l.left ≤ g.N.Nodes.spare l.nodes)
    × (g.N.Texts.store.loads l.nodes ≡ g.N.Texts.store.loads l.initial.nodes)
    × StaysKept (g.N.Texts.store.kept l.initial.nodes) (g.N.Texts.store.kept l.nodes)
    × (g.N.Texts.store.faults l.nodes ≡ g.N.Texts.store.faults l.initial.nodes)

abbrev pub decreases-loop-digest : goal.decreases-loop-digest
decreases-loop-digest g l = length l.left
