-- Worked records by computing.
use Rattle.std.proofs.Common.{ℕ}
use Rattle.byte_model.specs.Nibbles.{nibbles}
use Rattle.record_model.specs.Fields.{bytes_at, number_at, vector_at, end_of}
use Rattle.record_model.specs.Paths.{path_in}
use Rattle.record_model.specs.Records.{value_at, leaf_at, extension_at, kind_at, layout_at, layout_of, shaped, suited, node_in, record_in}

-- what a proof by computing opens
unfoldable pub everything : ℕ
unfolding nibbles bytes_at number_at vector_at end_of path_in value_at leaf_at extension_at kind_at layout_at layout_of shaped suited node_in record_in
everything = 0
