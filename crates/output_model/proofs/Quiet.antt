-- A history that is told quietly.
use Rattle.std.proofs.Common.{◌≡◌, ℕ, true, false, List, [], refl, ap}
use Rattle.script_model.specs.Lines.{Event}
use Rattle.batch_model.specs.Changes.{Changes}
use Rattle.fork_model.specs.Trees.{Header}
use Rattle.fork_model.specs.States.{ForkState}
use Rattle.count_model.specs.Loads.{loads}
use Rattle.output_model.specs.Ends.{Output, RunLimits}
use Rattle.output_model.specs.Scripts.{Step, goes_on, ends}
use Rattle.output_model.specs.Histories.{History, outside, inside, told_step, event_loads}

pub quiet-goes_on : (step : Step History) (reply : List ℕ) (after : History) → step ≡ goes_on reply after → told_step true step ≡ goes_on [] after
quiet-goes_on step reply after e = ap (told_step true) e

pub quiet-ends : (step : Step History) (output : Output) → step ≡ ends output → told_step true step ≡ ends output
quiet-ends step output e = ap (told_step true) e

pub quiet-outside : (limits : RunLimits) (forks : ForkState) (asked : Event) → event_loads true limits (outside forks) asked ≡ 0
unfolding event_loads loads
quiet-outside limits forks asked = refl

pub quiet-inside : (limits : RunLimits) (forks : ForkState) (header : Header) (changes : Changes) (asked : Event) → event_loads true limits (inside forks header changes) asked ≡ event_loads false limits (inside forks header changes) asked
unfolding event_loads
quiet-inside limits forks header changes asked = refl
