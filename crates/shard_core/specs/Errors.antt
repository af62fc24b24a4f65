-- Errors of a shard's calls by those of the calls behind them.
use Rattle.text_store.specs.declared.errors.AddError.{AddError}
use Rattle.text_store.specs.declared.errors.AddError.TheVariants as add_error
use Rattle.text_store.specs.declared.errors.ReserveError.{ReserveError}
use Rattle.text_store.specs.declared.errors.ReserveError.TheVariants as reserve_error
use Rattle.fork_tree.specs.declared.errors.ForkError.{ForkError}
use Rattle.fork_tree.specs.declared.errors.ForkError.TheVariants as fork_error
use Rattle.fork_tree.specs.declared.errors.MoveError.{MoveError}
use Rattle.fork_tree.specs.declared.errors.MoveError.TheVariants as move_error
use Rattle.shard_core.specs.declared.errors.ApplyError.{ApplyError}
use Rattle.shard_core.specs.declared.errors.ApplyError.TheVariants.{Known, NoPrev, Height, FullBlocks, Clash, StoreFault, NoMemory}
use Rattle.shard_core.specs.declared.errors.HeadError.{HeadError}
use Rattle.shard_core.specs.declared.errors.HeadError.TheVariants as head_error

abbrev pub no_memory : ApplyError
no_memory = NoMemory

abbrev pub no_memory_for_move : HeadError
no_memory_for_move = head_error.NoMemory

abbrev pub by_reserve : ReserveError → ApplyError
by_reserve reserve_error.Fault = StoreFault
by_reserve reserve_error.NoMemory = NoMemory

abbrev pub by_add : AddError → ApplyError
by_add (add_error.Clash digest) = Clash digest
by_add add_error.Fault = StoreFault

abbrev pub by_fork : ForkError → ApplyError
by_fork fork_error.Known = Known
by_fork fork_error.NoPrev = NoPrev
by_fork fork_error.Height = Height
by_fork fork_error.Full = FullBlocks

abbrev pub by_move : MoveError → HeadError
by_move move_error.NotLive = head_error.NotLive
by_move move_error.NoMemory = head_error.NoMemory
