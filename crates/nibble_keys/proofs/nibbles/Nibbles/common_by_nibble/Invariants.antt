use Rattle.std.proofs.Common.{◌-◌, ◌≡◌, ◌≤◌, length, take}
use Rattle.nibble_keys.proofs.nibbles.Nibbles.common_by_nibble.Given as goal

abbrev pub invariant-loop-same : goal.invariant-loop-same
invariant-loop-same l = (l.same ≤ length l.self) × (l.same ≤ length l.other) × (take l.same l.self ≡ take l.same l.other)

abbrev pub decreases-loop-same : goal.decreases-loop-same
decreases-loop-same l = length l.self - l.same
