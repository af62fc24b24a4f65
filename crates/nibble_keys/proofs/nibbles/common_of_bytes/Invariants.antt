use Rattle.std.proofs.Common.{◌-◌, ◌≡◌, ◌≤◌, length, take}
use Rattle.nibble_keys.proofs.nibbles.common_of_bytes.Given as goal

abbrev pub invariant-loop-same : goal.invariant-loop-same
invariant-loop-same l = (l.same ≤ length l.left) × (l.same ≤ length l.right) × (take l.same l.left ≡ take l.same l.right)

abbrev pub decreases-loop-same : goal.decreases-loop-same
decreases-loop-same l = length l.left - l.same
