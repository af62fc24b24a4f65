-- The nodes of a trie and the one record that spells each (after nearcore; the ordinals, the packed paths and the numbers of the costs are this project's).
use Rattle.std.specs.Prelude.{ℕ, ◌+◌, ◌*◌, ◌^◌, ◌≤◌, ◌≢◌, true, false, List, [], ◌∷◌, ◌++◌, length, Option, None, Some, is_some, if◌then◌else◌}
use Rattle.std.specs.Option.{option_map}
use Rattle.byte_model.specs.Borsh.{borsh_u16, borsh_u32, borsh_u64, borsh_bytes}
use Rattle.byte_model.specs.PackedPath.{packed}
use Rattle.byte_model.specs.Below.{sum_below, joined_below}

-- how many bytes a digest has, which is a SHA-256
abbrev pub digest_width : ℕ
digest_width = 32

-- how a node names a value: how many bytes it has, and their digest
pub record ValueRef : Type 0 where
  pub length : ℕ
  pub digest : List ℕ

-- A branch has a child's digest, or none, at each of the sixteen nibbles. What it has at larger numbers is no part of it.
pub data Node : Type 0 where
  leaf : (path : List ℕ) (value : ValueRef) → Node
  branch : (value : Option ValueRef) (kids : ℕ → Option (List ℕ)) → Node
  extension : (path : List ℕ) (child : List ℕ) → Node

-- four bytes of length, and the digest
abbrev pub spelled_value : ValueRef → List ℕ
spelled_value value = borsh_u32 value.length ++ value.digest

-- 2 ^ i where child i is there
abbrev pub child_bit : (ℕ → Option (List ℕ)) → ℕ → ℕ
child_bit kids i = if is_some (kids i) then 2 ^ i else 0

-- the digest of child i, or nothing
abbrev pub child_digest : Option (List ℕ) → List ℕ
child_digest None = []
child_digest (Some digest) = digest

-- sixteen bits, that of child 0 the lowest, and the digests of the children that are there, in order
unfoldable pub spelled_children : (ℕ → Option (List ℕ)) → List ℕ
spelled_children kids = borsh_u16 (sum_below (child_bit kids) 16) ++ joined_below (λ i. child_digest (kids i)) 16

-- the record of a node whose subtree has this usage
unfoldable pub spelled : Node → ℕ → List ℕ
spelled (leaf path value) usage = 0 ∷ borsh_bytes (packed true path) ++ spelled_value value ++ borsh_u64 usage
spelled (branch None kids) usage = 1 ∷ spelled_children kids ++ borsh_u64 usage
spelled (branch (Some value) kids) usage = 2 ∷ spelled_value value ++ spelled_children kids ++ borsh_u64 usage
spelled (extension path child) usage = 3 ∷ borsh_bytes (packed false path) ++ child ++ borsh_u64 usage

-- What a node costs by itself, by the bytes of its packed path and of its value, if it holds one: 50, two for each byte of the path, and with a value 50 and one for each byte of it.
abbrev pub cost_of : ℕ → Option ℕ → ℕ
cost_of path_bytes None = 50 + 2 * path_bytes
cost_of path_bytes (Some value_bytes) = 50 + 2 * path_bytes + (50 + value_bytes)

unfoldable pub own_cost : Node → ℕ
own_cost (leaf path value) = cost_of (length (packed true path)) (Some value.length)
own_cost (branch value kids) = cost_of 0 (option_map (λ v. v.length) value)
own_cost (extension path child) = cost_of (length (packed false path)) None

-- the most bytes that a value may have
abbrev pub longest_value : ℕ
longest_value = 4194304

-- how many children there are
abbrev pub child_count : (ℕ → Option (List ℕ)) → ℕ
child_count kids = sum_below (λ i. if is_some (kids i) then 1 else 0) 16

-- What a node of any place keeps to: a value within the limit, a branch with two of children and value at least, an extension that is not empty.
abbrev pub IsShaped : Node → Type 0
IsShaped (leaf path value) = value.length ≤ longest_value
IsShaped (branch None kids) = 2 ≤ child_count kids
IsShaped (branch (Some value) kids) = (value.length ≤ longest_value) × (1 ≤ child_count kids)
IsShaped (extension path child) = path ≢ []
