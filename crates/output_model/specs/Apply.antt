-- The command `apply`: a history of blocks, with a reply to each block, head move and reading.
use Rattle.std.specs.Prelude.{false, []}
use Rattle.fork_model.specs.States.{ForkState}
use Rattle.count_model.specs.Loads.{no_texts}
use Rattle.output_model.specs.Ends.{Output, RunLimits, done}
use Rattle.output_model.specs.Scripts.{Script}
use Rattle.output_model.specs.Histories.{History, history_script}

abbrev pub nothing_more : ForkState → Output
nothing_more forks = record { bytes = []; ending = done }

abbrev pub apply_script : RunLimits → Script History
apply_script limits = history_script false limits nothing_more no_texts
