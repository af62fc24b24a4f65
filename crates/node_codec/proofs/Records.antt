-- What reading a record gives, seen from its spelling.
use Rattle.std.proofs.Common.{◌≡◌, ℕ, List, Result, Ok, Err, IfOk, IsOkAnd, subst}
use Rattle.byte_model.specs.Nibbles.{AreBytes}
use Rattle.byte_model.specs.Node.{Node}
use Rattle.byte_model.specs.Laws.{SameNode}
use Rattle.record_model.specs.Records.{RecordFault, IsRecord, HasNibblesOnly, record_in}
use Rattle.record_model.proofs.Nodes.{record_in-found, record_in-only}
use Rattle.node_codec.specs.declared.node_error.NodeError.{NodeError}
use Rattle.node_codec.specs.declared.node_view.NodeView.{NodeView}
use Rattle.node_codec.specs.Views.{Answers, node_viewed}

-- the node and the usage were read
abbrev IsReadAs : Node → ℕ → Result (Node × ℕ) RecordFault → Type 0
IsReadAs node usage read = IsOkAnd read (λ r. SameNode r.0 node × (r.1 ≡ usage) × HasNibblesOnly r.0)

abbrev node_seen : NodeView × ℕ → Node × ℕ
node_seen r = (node_viewed r.0, r.1)

pub found : (bytes : List ℕ) (result : Result (NodeView × ℕ) NodeError) → AreBytes bytes → Answers node_seen result (record_in bytes) → IfOk result (λ r. IsRecord (node_viewed r.0) r.1 bytes)
found bytes (Ok r) are gives = (subst (λ read. IfOk read (λ r. IsRecord r.0 r.1 bytes × HasNibblesOnly r.0)) gives (record_in-found bytes are).given).0
found bytes (Err e) are gives = tt

pub only : (bytes : List ℕ) (result : Result (NodeView × ℕ) NodeError) → Answers node_seen result (record_in bytes) → (node : Node) (usage : ℕ) → IsRecord node usage bytes → IsOkAnd result (λ r. SameNode (node_viewed r.0) node × (r.1 ≡ usage))
only bytes (Ok r) gives node usage is = let same = subst (IsReadAs node usage) gives (record_in-only node usage bytes is) in (same.0, same.1)
only bytes (Err e) gives node usage is = absurd (subst (IsReadAs node usage) gives (record_in-only node usage bytes is))
