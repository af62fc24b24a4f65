-- The numbers that no run goes beyond, and what limits a call may be given.
use Rattle.std.specs.Prelude.{ℕ, ◌≤◌}
pub use Rattle.batch_model.specs.Changes.{most_changes}
use Rattle.base_core.specs.declared.limits.Limits.{Limits}

-- the most pairs that a state may be asked to have
abbrev pub most_pairs : ℕ
most_pairs = 4194304

-- the most live blocks, the head among them
abbrev pub most_blocks : ℕ
most_blocks = 4096

pub record AreLimits (limits : Limits) : Type 0 where
  pub some_pairs : 1 ≤ limits.pairs
  pub few_pairs : limits.pairs ≤ most_pairs
  pub some_blocks : 1 ≤ limits.blocks
  pub few_blocks : limits.blocks ≤ most_blocks
  pub some_changes : 1 ≤ limits.changes
  pub few_changes : limits.changes ≤ most_changes
