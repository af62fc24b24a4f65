-- The code's subtrees and children in the words of the model, and what is asked of them before records are written.
use Rattle.std.specs.Prelude.{◌≡◌, ◌≢◌, ℕ, zero, suc, ◌^◌, ◌<◌, ◌≤◌, List, [], ◌∷◌, length, Option, None, Some, IfSome, ⊤}
use Rattle.base_core.specs.declared.hash.Digest.{Digest}
use Rattle.byte_model.specs.Node as node
use Rattle.byte_model.specs.Node.{ValueRef, IsShaped, longest_value}
use Rattle.node_codec.specs.Meanings.{children_in, value_of}
use Rattle.update_model.specs.Sound.{StandsAt}
use Rattle.update_model.specs.Tops.{Top, empty, leaf, branch, extension}
use Rattle.update_model.specs.Joins.{Kid, named, known, kid_name, there, branch_used}
use Rattle.update_model.specs.Updates.{kid_kept}
use Rattle.trie_shape.specs.declared.sub.Sub.{Sub}
use Rattle.trie_shape.specs.declared.sub.Sub.TheVariants.{Empty, Leaf, Branch, Extension}
use Rattle.trie_update.specs.declared.joining.Child.{Child}
use Rattle.trie_update.specs.declared.joining.Child.TheVariants.{Kept, Known}
use Rattle.trie_update.specs.declared.joining.Few.{Few}
use Rattle.trie_update.specs.declared.joining.Few.TheVariants.{Zero, One, More}

abbrev pub top_of_sub : Sub → Top
top_of_sub Empty = empty
top_of_sub (Leaf path value) = leaf path (value_of value)
top_of_sub (Branch digest used) = branch digest.0 used
top_of_sub (Extension path child used) = extension path child.0 used

-- what a child stands for, by the name that its branch had there before, if it had any
abbrev pub kid_of : Option (List ℕ) → Child → Kid
kid_of name Kept = kid_kept name
kid_of name (Known sub) = known (top_of_sub sub.value)

-- the child at a nibble, and a kept one past the last
unfoldable pub child_at : List Child → ℕ → Child
child_at [] x = Kept
child_at (child ∷ children) zero = child
child_at (child ∷ children) (suc x) = child_at children x

-- what stands at a nibble, by the names that the branch had before
abbrev pub kid_at : (ℕ → Option (List ℕ)) → List Child → ℕ → Kid
kid_at names children x = kid_of (names x) (child_at children x)

-- ---- how many children there are

abbrev pub IsFew : List ℕ → Few → Type 0
IsFew nibbles Zero = nibbles ≡ []
IsFew nibbles (One x) = nibbles ≡ x ∷ []
IsFew nibbles More = 2 ≤ length nibbles

abbrev pub more : Few → ℕ → Few
more Zero x = One x
more (One y) x = More
more More x = More

-- ---- before records are written

abbrev pub IsKnown : Kid → Type 0
IsKnown (named digest) = ⊥
IsKnown (known top) = ⊤

-- the record of its top can be made
abbrev pub KidStands : Kid → Type 0
KidStands (named digest) = ⊤
KidStands (known top) = StandsAt 0 top

pub record CanFork (ref : Option ValueRef) (kids : ℕ → Kid) (used : ℕ) : Type 0 where
  pub stands : (x : ℕ) → x < 16 → KidStands (kids x)
  pub fits : branch_used ref kids used < 2 ^ 64
  pub shaped : IsShaped (node.branch ref (λ x. kid_name (kids x)))

-- The top of a child that takes the branch's place is known.
pub record CanJoin (ref : Option ValueRef) (kids : ℕ → Kid) (used : ℕ) : Type 0 where
  pub stands : (x : ℕ) → x < 16 → KidStands (kids x)
  pub fits : branch_used ref kids used < 2 ^ 64
  pub value : IfSome ref (λ r. r.length ≤ longest_value)
  pub lone : (x : ℕ) → ref ≡ None → there kids ≡ x ∷ [] → IsKnown (kids x)

-- A name stands at its nibble among those of a branch's children, and the others are as they were.
pub record IsNamedAt (old new : List (Option Digest)) (nibble : ℕ) (digest : Option (List ℕ)) : Type 0 where
  pub name : children_in new nibble ≡ digest
  pub others : (y : ℕ) → y ≢ nibble → children_in new y ≡ children_in old y

-- what is left of a branch without a child
abbrev pub childless : Option ValueRef → Top
childless None = empty
childless (Some ref) = leaf [] ref
