use Rattle.std.proofs.Common.{arith}
use Rattle.nibble_keys.proofs.CommonLengths.{common-high, common-low}
use Rattle.nibble_keys.proofs.nibbles.common_of_keys.Goals as goal
use Rattle.nibble_keys.proofs.nibbles.common_of_keys.Goals.{else-same-left-via-then-same-left+then-same-right+else-left-same, else-same-left-via-then-same-left+else-same-right, else-same-left-via-else-same-left}

pub returns-then-left-same : goal.returns-then-left-same
returns-then-left-same c = common-low _ _ _ c.common_of_bytes-same.ensures c.if-same-left.true c.if-same-right.true c.if-left-same.true

pub returns-else-same-left : goal.returns-else-same-left
returns-else-same-left c = common-high _ _ _ c.common_of_bytes-same.ensures (λ left right same.
    elim c.else-same-left.branch [
      | else-same-left-via-then-same-left+then-same-right+else-left-same w ↦ w.if-left-same.false same
      | else-same-left-via-then-same-left+else-same-right w ↦ omega arith
      | else-same-left-via-else-same-left w ↦ omega arith
    ])
