use Rattle.std.proofs.Common.{◌≡◌, ℕ, List, ◌++◌, take}
use Rattle.byte_model.specs.Nibbles.{AreNibbles}
use Rattle.trie_read.proofs.walk.extend.Given as goal

pub record Copied (path old new : List ℕ) (i : ℕ) : Type 0 where
  pub prefix : new ≡ old ++ take i path
  pub small : AreNibbles old → AreNibbles new

abbrev pub invariant-loop-i : goal.invariant-loop-i
invariant-loop-i l = Copied l.path l.fn.nibbles.items l.nibbles.items l.i
