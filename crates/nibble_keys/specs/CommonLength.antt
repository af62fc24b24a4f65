-- How far two lists of numbers agree from the start on.
use Rattle.std.specs.Prelude.{ℕ, ◌<◌, ◌≤◌, ◌≡◌, ◌≢◌, List, length, take, slice_index}

-- n is the length of their longest common prefix
pub record IsCommonLength (xs ys : List ℕ) (n : ℕ) : Type 0 where
  pub in_first : n ≤ length xs
  pub in_second : n ≤ length ys
  pub shared : take n xs ≡ take n ys
  pub longest : n < length xs → n < length ys → slice_index xs n ≢ slice_index ys n
