use Rattle.std.proofs.Common.{refl}
use Rattle.count_model.specs.Loads.{loads}
use Rattle.output_model.specs.Scripts.{lines_outcome, script_outcome}
use Rattle.output_model.specs.Histories.{request_loads}
use Rattle.output_model.specs.Output.{outcome_of}
use Rattle.output_model.proofs.examples.nothing_loaded.Goals as goal

pub returns-clause-no_command : goal.returns-clause-no_command
unfolding outcome_of
returns-clause-no_command c = λ limits input. refl

pub returns-clause-root : goal.returns-clause-root
unfolding outcome_of
returns-clause-root c = λ limits input. refl

pub returns-clause-no_input : goal.returns-clause-no_input
unfolding outcome_of script_outcome lines_outcome request_loads loads
returns-clause-no_input c = λ limits. refl

pub returns-clause-replay : goal.returns-clause-replay
unfolding outcome_of
returns-clause-replay c = λ limits input. refl
