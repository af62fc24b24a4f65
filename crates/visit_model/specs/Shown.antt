-- What is seen of a trie whose texts are all there: each node under the digest of its text.
use Rattle.std.specs.Option.{option_map}
use Rattle.sha2.specs.Sha256.{sha256}
use Rattle.trie_model.specs.Tree as tree
use Rattle.trie_model.specs.Tree.{Tree}
use Rattle.trie_model.specs.Texts.{usage, text, value_ref}
use Rattle.visit_model.specs.Seen.{Seen, nothing, leaf, branch, extension}

unfoldable pub shown : Tree → Seen
shown tree.nothing = nothing
shown (tree.leaf path value) = leaf (sha256 (text (tree.leaf path value))) (usage (tree.leaf path value)) path (value_ref value)
shown (tree.branch value kids) = branch (sha256 (text (tree.branch value kids))) (usage (tree.branch value kids)) (option_map value_ref value) (λ x. shown (kids x))
shown (tree.extension path child) = extension (sha256 (text (tree.extension path child))) (usage (tree.extension path child)) path (shown child)
