-- How much usage a change may add.
use Rattle.std.specs.Prelude.{ℕ, suc, ◌+◌, ◌-◌, ◌*◌, ◌^◌}
use Rattle.byte_model.specs.PackedPath.{longest_path}

-- the most by which one change below a depth makes the usage grow: its value and a branch, and something for each nibble that is left
unfoldable pub growth : ℕ → ℕ
growth depth = 2 ^ 23 + 512 * (suc longest_path - depth)
