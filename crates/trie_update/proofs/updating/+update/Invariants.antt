use Rattle.std.proofs.Common.{◌+◌, ◌-◌, ◌*◌, if◌then◌else◌, option_map}
use Rattle.byte_model.specs.PackedPath.{longest_path}
use Rattle.node_codec.specs.Meanings.{value_of}
use Rattle.trie_update.specs.Places.{parent_names, place_behind}
use Rattle.trie_update.proofs.Turning.{IsGathered}
use Rattle.trie_update.proofs.updating.+update.Given as goal

-- each nibble further down leaves room for the calls at a depth
abbrev pub decreases-at_nibble : goal.decreases-at_nibble
decreases-at_nibble g l = 8 * (longest_path + 2 - l.depth)

abbrev pub decreases-at_digest : goal.decreases-at_digest
decreases-at_digest g l = 8 * (longest_path + 2 - l.depth) + (if l.after_extension then 3 else 6)

abbrev pub decreases-at_old : goal.decreases-at_old
decreases-at_old g l = 8 * (longest_path + 2 - l.depth) + 5

abbrev pub decreases-at_path : goal.decreases-at_path
decreases-at_path g l = 8 * (longest_path + 2 - l.depth) + 4

abbrev pub decreases-at_fork : goal.decreases-at_fork
decreases-at_fork g l = 8 * (longest_path + 2 - l.depth) + 2

abbrev pub decreases-at_branch : goal.decreases-at_branch
decreases-at_branch g l = 8 * (longest_path + 2 - l.depth) + 2

abbrev pub decreases-at_nibbles : goal.decreases-at_nibbles
decreases-at_nibbles g l = 8 * (longest_path + 2 - l.depth) + 1

abbrev pub invariant-at_nibbles-loop-nibble : goal.invariant-at_nibbles-loop-nibble
invariant-at_nibbles-loop-nibble g l =
    IsGathered g.T.Texts.store (parent_names l.parent) l.depth (option_map value_of l.fn.former) (place_behind (g.T.Texts.store.texts l.fn.store) l.depth l.parent) l.changes l.rest l.nibble l.children.items l.stated l.fn.store l.store l.fn.ledger l.ledger
