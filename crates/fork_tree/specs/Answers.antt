-- What calls on the tree answer, by the definitions.
use Rattle.std.specs.Prelude.{◌≡◌, ℕ, true, List, Option, None, Some, Result, Ok, Err}
use Rattle.fork_model.specs.Trees.{BlockFault, BlockTree, dropped, is_live, passed}
use Rattle.fork_model.specs.Trees.BlockFault.{known, no_prev, not_higher, full}
use Rattle.fork_tree.specs.declared.errors.ForkError.{ForkError}
use Rattle.fork_tree.specs.declared.errors.ForkError.TheVariants.{Known, NoPrev, Height, Full}
use Rattle.fork_tree.specs.declared.ids.Move.{Move}

-- why a block is refused, as an error
abbrev pub error_of : BlockFault → ForkError
error_of known = Known
error_of no_prev = NoPrev
error_of not_higher = Height
error_of full = Full

abbrev pub checked : Option BlockFault → Result (Unit {0}) ForkError
checked None = Ok tt
checked (Some fault) = Err (error_of fault)

-- the plan of a move to a live block
pub record IsPlan (tree : BlockTree) (id : List ℕ) (plan : Move) : Type 0 where
  pub live : is_live tree id ≡ true
  pub passed : plan.passed ≡ passed tree id
  pub dropped : plan.dropped ≡ dropped tree id
