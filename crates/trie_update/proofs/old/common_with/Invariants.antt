use Rattle.std.proofs.Common.{◌≡◌, ℕ, ◌-◌, ◌≤◌, List, length, take}
use Rattle.trie_update.proofs.old.common_with.Given as goal

-- so many nibbles of both were compared
pub record Shared (key path : List ℕ) (most count : ℕ) : Type 0 where
  pub most_is : count ≤ most
  pub path_is : count ≤ length path
  pub shared : take count key ≡ take count path

abbrev pub invariant-loop-count : goal.invariant-loop-count
invariant-loop-count l = Shared l.key l.path l.most l.count

abbrev pub decreases-loop-count : goal.decreases-loop-count
decreases-loop-count l = l.most - l.count
