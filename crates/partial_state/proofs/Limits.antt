-- Reads and changes that are held keep to the limits of the definitions.
use Rattle.std.proofs.Common.{ℕ, ◌≤◌, arith}
use Rattle.byte_model.specs.Nibbles.{AreBytes}
use Rattle.byte_model.proofs.Lists.{AllByRecursion-weaker}
use Rattle.partial_model.specs.Recording.{IsKey}
use Rattle.base_core.specs.ChangeMaps.{IsChangeMap}
use Rattle.partial_state.specs.Operations.{Operations, AreReads}
use Rattle.partial_state.specs.Replays.{AreWithin}

at_most : {a b c : ℕ} → a ≤ b → b ≤ c → a ≤ c
at_most h k = omega (arith, h, k)

pub are_within : (ops : Operations) → AreReads ops.reads → IsChangeMap ops.batch → AreWithin ops.reads ops.batch.changes
are_within ops reads changes = record {
  reads_are = AllByRecursion-weaker IsKey AreBytes (λ key h. h.0) ops.reads reads.each;
  changes_are = record { each = changes.each; few = at_most changes.few changes.bounded };
}
