-- What can be read below a digest in any set of texts, of an honest store or of a stranger's: a trie of the records that are there and fit, in which a digest without its text, or with a text that is no node that fits, ends the reading.
use Rattle.std.specs.Prelude.{ℕ, zero, suc, ◌+◌, ◌-◌, nat_eq, Bool, true, false, List, length, Option, None, Some, Result, Ok, Err, if◌then◌else◌}
use Rattle.std.specs.Cmp.Lexicographic.{pointwise}
use Rattle.std.specs.FinMap.{get}
use Rattle.byte_model.specs.PackedPath.{longest_path}
use Rattle.byte_model.specs.Node as node
use Rattle.byte_model.specs.Node.{Node, ValueRef}
use Rattle.record_model.specs.Records.{RecordFault, record_in}
use Rattle.record_model.specs.Fits.{fits_at}
use Rattle.trie_model.specs.Root.{Table, zero_digest}

-- A node that was read has the digest of its text and the usage that it states. A branch has at each of the sixteen nibbles what is seen there, `nothing` where it names no child.
pub data Seen : Type 0 where
  nothing : Seen
  missing : (digest : List ℕ) → Seen
  bad : (digest : List ℕ) → Seen
  leaf : (digest : List ℕ) (usage : ℕ) (path : List ℕ) (value : ValueRef) → Seen
  branch : (digest : List ℕ) (usage : ℕ) (value : Option ValueRef) (kids : ℕ → Seen) → Seen
  extension : (digest : List ℕ) (usage : ℕ) (path : List ℕ) (child : Seen) → Seen

-- what is seen below a digest, from its depth in nibbles and whether it is the child of an extension
abbrev pub Looks : Type 0
Looks = ℕ → Bool → List ℕ → Seen

-- of a child, if the branch has one there
unfoldable pub seen_child : (List ℕ → Seen) → Option (List ℕ) → Seen
seen_child look None = nothing
seen_child look (Some digest) = look digest

-- of a node that fits, by what is seen of its children
unfoldable pub seen_node : Looks → ℕ → List ℕ → Node → ℕ → Seen
seen_node look depth digest (node.leaf path value) usage = leaf digest usage path value
seen_node look depth digest (node.branch value kids) usage = branch digest usage value (λ x. seen_child (look (depth + 1) false) (kids x))
seen_node look depth digest (node.extension path child) usage = extension digest usage path (look (depth + length path) true child)

-- of a text, by what its bytes spell
unfoldable pub seen_record : Looks → ℕ → Bool → List ℕ → Result (Node × ℕ) RecordFault → Seen
seen_record look depth after_extension digest (Err e) = bad digest
seen_record look depth after_extension digest (Ok r) = if fits_at depth after_extension r.0 then seen_node look depth digest r.0 r.1 else bad digest

-- of a digest, by the text that is held under it
unfoldable pub seen_text : Looks → ℕ → Bool → List ℕ → Option (List ℕ) → Seen
seen_text look depth after_extension digest None = missing digest
seen_text look depth after_extension digest (Some text) = seen_record look depth after_extension digest (record_in text)

-- at most so many nodes below one another
unfoldable pub seen_within : ℕ → Table → Looks
seen_within zero table depth after_extension digest = missing digest
seen_within (suc n) table depth after_extension digest = seen_text (seen_within n table) depth after_extension digest (get table digest)

-- At a depth past the longest path nothing fits, so the bound never shows.
unfoldable pub seen_at : Table → Looks
seen_at table depth after_extension digest = seen_within (suc longest_path - depth) table depth after_extension digest

-- of a root: the zero digest is the root of no pairs
unfoldable pub seen : Table → List ℕ → Seen
seen table root = if pointwise nat_eq root zero_digest then nothing else seen_at table 0 false root

-- the usage that the record of a root states, and 0 where there is no root
unfoldable pub stated_usage : Seen → ℕ
stated_usage nothing = 0
stated_usage (missing digest) = 0
stated_usage (bad digest) = 0
stated_usage (leaf digest usage path value) = usage
stated_usage (branch digest usage value kids) = usage
stated_usage (extension digest usage path child) = usage
