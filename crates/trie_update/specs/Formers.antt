-- A branch as it was read.
use Rattle.std.specs.Prelude.{◌≡◌, ℕ, ◌≤◌, List, Option, None, Some, IfSome, option_map}
use Rattle.std.specs.Borrow.{Bor}
use Rattle.sha2.specs.Sha256.{sha256}
use Rattle.byte_model.specs.Node.{branch, longest_value, spelled}
use Rattle.change_model.specs.Visits.{branch_cost, most_usage}
use Rattle.node_codec.specs.Meanings.{children_in, value_of}
use Rattle.trie_update.specs.declared.former.FormerBranch.{FormerBranch}

-- Its digest is that of its record, which states no more than it may.
pub record IsFormer (former : FormerBranch) : Type 0 where
  pub digest : former.digest.now.0 ≡ sha256 (spelled (branch (option_map value_of former.value.now) (children_in former.kids.now)) former.stated)
  pub own : former.own ≡ branch_cost (option_map value_of former.value.now)
  pub most : former.stated ≤ most_usage
  pub small : IfSome former.value.now (λ v. v.length ≤ longest_value)

-- the names of its children, if there was one
abbrev pub names_of : Option (Bor FormerBranch) → ℕ → Option (List ℕ)
names_of None = λ x. None
names_of (Some former) = children_in former.now.kids.now
