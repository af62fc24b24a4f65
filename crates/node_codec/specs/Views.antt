-- What the views of a record stand for, and what reading one answers.
use Rattle.std.specs.Prelude.{◌≡◌, Result, Ok, Err}
use Rattle.std.specs.Option.{option_map}
use Rattle.byte_model.specs.Node.{Node, leaf, branch, extension}
use Rattle.record_model.specs.Records.{RecordFault, frame, pack, shape}
use Rattle.base_core.specs.Reading as base
use Rattle.nibble_keys.specs.Unpacking as path
use Rattle.node_codec.specs.Meanings.{value_of}
use Rattle.node_codec.specs.Children.{children_viewed}
use Rattle.node_codec.specs.declared.node_error.NodeError.{NodeError}
use Rattle.node_codec.specs.declared.node_error.NodeError.TheVariants.{Frame, Path, Shape}
use Rattle.node_codec.specs.declared.node_view.NodeView.{NodeView}
use Rattle.node_codec.specs.declared.node_view.NodeView.TheVariants.{Leaf, Branch, Extension}

abbrev pub node_viewed : NodeView → Node
node_viewed (Leaf path value) = leaf path (value_of value)
node_viewed (Branch value kids) = branch (option_map value_of value) (children_viewed kids)
node_viewed (Extension path child) = extension path child.0

abbrev pub fault_of : NodeError → RecordFault
fault_of (Frame e) = frame (base.fault_of e)
fault_of (Path e) = pack (path.fault_of e)
fault_of Shape = shape

-- a call answers a value, seen by view, or what is wrong
abbrev pub Answers : {X Y : Type 0} → (X → Y) → Result X NodeError → Result Y RecordFault → Type 0
Answers view (Ok x) read = read ≡ Ok (view x)
Answers view (Err e) read = read ≡ Err (fault_of e)
