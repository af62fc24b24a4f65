use Rattle.std.proofs.Common.{◌+◌, ◌-◌, ◌*◌}
use Rattle.byte_model.specs.PackedPath.{longest_path}
use Rattle.trie_shape.proofs.Branches.{IsGathered}
use Rattle.trie_shape.proofs.building.+build.Given as goal

-- each step down goes from a name to a subtree, from there to a branch, and one nibble further to a name
abbrev pub decreases-branch : goal.decreases-branch
decreases-branch l = 3 * (longest_path + 2 - l.depth)

abbrev pub decreases-named : goal.decreases-named
decreases-named l = 3 * (longest_path + 2 - l.depth) + 2

abbrev pub decreases-subtree : goal.decreases-subtree
decreases-subtree l = 3 * (longest_path + 2 - l.depth) + 1

abbrev pub invariant-branch-loop-nibble : goal.invariant-branch-loop-nibble
invariant-branch-loop-nibble l = IsGathered l.depth l.rows l.rest l.nibble l.kids.value l.kids_usage
