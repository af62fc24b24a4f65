use Rattle.std.proofs.Common.{List, ℕ, ◌++◌, ap, ◌∙◌}
use Rattle.byte_model.specs.Nibbles as keys
use Rattle.byte_model.specs.PackedPath.{two_to_a_byte}
use Rattle.record_model.proofs.PackedPaths.{nibbles-two_to_a_byte}
use Rattle.nibble_keys.proofs.packing.join_nibbles.Goals as goal

pub returns : goal.returns
returns c =
    ap keys.nibbles (c.into_text.ensures ∙ c.in_ok-put_pairs.ensures ∙ ap (λ (w : List ℕ). w ++ two_to_a_byte c.args.nibbles.now) c.in_ok-writer.ensures)
    ∙ nibbles-two_to_a_byte c.args.nibbles.now c.requires.nibbles c.requires.even
