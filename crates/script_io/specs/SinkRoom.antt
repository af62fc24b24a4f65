-- What a sink in memory keeps to: it holds no more than it may, has taken the memory for all of it, and takes at least one byte in a write.
use Rattle.std.specs.Prelude.{ℕ, ◌≤◌}

pub record HasRoom (held capacity most piece : ℕ) : Type 0 where
  pub within : held ≤ most
  pub room : most ≤ capacity
  pub some : 1 ≤ piece
