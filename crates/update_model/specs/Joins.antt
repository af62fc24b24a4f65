-- What becomes of a node's value and children: nothing, the value alone, a child alone, or a branch.
use Rattle.std.specs.Prelude.{ℕ, ◌+◌, Bool, true, false, List, [], ◌∷◌, ◌++◌, Option, None, Some}
use Rattle.sha2.specs.Sha256.{sha256}
use Rattle.byte_model.specs.Below.{sum_below, joined_below}
use Rattle.byte_model.specs.Node as node
use Rattle.byte_model.specs.Node.{ValueRef, spelled}
use Rattle.change_model.specs.Visits.{branch_cost, numbers_below}
use Rattle.update_model.specs.Tops.{Top, empty, leaf, branch, extension, top_usage, top_digest, pending, lowered}

-- A child, of which the name alone is known, or its top. A child that is not there has the empty top.
pub data Kid : Type 0 where
  named : (digest : List ℕ) → Kid
  known : (top : Top) → Kid

unfoldable pub is_there : Kid → Bool
is_there (named digest) = true
is_there (known empty) = false
is_there (known (leaf path ref)) = true
is_there (known (branch digest used)) = true
is_there (known (extension path child used)) = true

-- its top, where that is known
unfoldable pub kid_top : Kid → Top
kid_top (named digest) = empty
kid_top (known top) = top

unfoldable pub kid_name : Kid → Option (List ℕ)
kid_name (named digest) = Some digest
kid_name (known top) = top_digest top

-- what it uses, where that is known
unfoldable pub kid_usage : Kid → ℕ
kid_usage (named digest) = 0
kid_usage (known top) = top_usage top

-- the record that is still to be made
unfoldable pub kid_pending : Kid → List (List ℕ)
kid_pending (named digest) = []
kid_pending (known top) = pending top

-- the nibbles at which a child is there
abbrev pub there : (ℕ → Kid) → List ℕ
there kids = numbers_below (λ x. is_there (kids x)) 16

-- the top, and the texts that are made for it
pub record Joint : Type 0 where
  pub top : Top
  pub made : List (List ℕ)

abbrev pub without_texts : Top → Joint
without_texts top = record { top = top; made = [] }

-- what a branch uses, where the children of which the name alone is known use so much together
abbrev pub branch_used : Option ValueRef → (ℕ → Kid) → ℕ → ℕ
branch_used ref kids used = branch_cost ref + (used + sum_below (λ x. kid_usage (kids x)) 16)

abbrev pub branch_text : Option ValueRef → (ℕ → Kid) → ℕ → List ℕ
branch_text ref kids used = spelled (node.branch ref (λ x. kid_name (kids x))) (branch_used ref kids used)

-- a branch: the records of its children's tops are made, and then its own
abbrev pub branched : Option ValueRef → (ℕ → Kid) → ℕ → Joint
branched ref kids used = record {
  top = branch (sha256 (branch_text ref kids used)) (branch_used ref kids used);
  made = joined_below (λ x. kid_pending (kids x)) 16 ++ branch_text ref kids used ∷ [];
}

-- by the nibbles at which a child is there
abbrev pub joint_by : Option ValueRef → List ℕ → (ℕ → Kid) → ℕ → Joint
joint_by None [] kids used = without_texts empty
joint_by None (x ∷ []) kids used = without_texts (lowered (x ∷ []) (kid_top (kids x)))
joint_by None (x ∷ y ∷ left) kids used = branched None kids used
joint_by (Some ref) [] kids used = without_texts (leaf [] ref)
joint_by (Some ref) (x ∷ left) kids used = branched (Some ref) kids used

unfoldable pub joint : Option ValueRef → (ℕ → Kid) → ℕ → Joint
joint ref kids used = joint_by ref (there kids) kids used
