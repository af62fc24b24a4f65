-- What the fields of a record stand for.
use Rattle.std.specs.Prelude.{ℕ, List}
use Rattle.std.specs.Option.{option_map}
use Rattle.record_model.specs.Records as record_model
use Rattle.node_codec.specs.Meanings.{value_of}
use Rattle.node_codec.specs.Children.{Children}
use Rattle.node_codec.specs.declared.layout.Layout.{Layout}
use Rattle.node_codec.specs.declared.layout.Layout.TheVariants.{Leaf, Branch, Extension}

abbrev pub layout_viewed : Layout → record_model.Layout
layout_viewed (Leaf packed value) = record_model.leaf packed.now (value_of value)
layout_viewed (Branch value kids) = record_model.branch (option_map value_of value) kids.bitmap kids.digests
layout_viewed (Extension packed child) = record_model.extension packed.now child.0

abbrev pub children_pair : Children → ℕ × List ℕ
children_pair kids = (kids.bitmap, kids.digests)
