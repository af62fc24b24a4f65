use Rattle.std.proofs.Common.{◌≡◌, ℕ, List, take}
use Rattle.byte_model.specs.Nibbles.{AreNibbles}
use Rattle.trie_update.proofs.visiting.nibbles_of.Given as goal

-- so many nibbles were copied
pub record Copied (path nibbles : List ℕ) (i : ℕ) : Type 0 where
  pub prefix : nibbles ≡ take i path
  pub small : AreNibbles nibbles

abbrev pub invariant-loop-i : goal.invariant-loop-i
invariant-loop-i l = Copied l.path l.nibbles.items l.i
