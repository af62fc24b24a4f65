use Rattle.std.proofs.Common.{refl}
use Rattle.output_model.specs.Output.{outcome_of}
use Rattle.output_model.proofs.examples.bad_words.Goals as goal

pub returns-clause-none : goal.returns-clause-none
unfolding outcome_of
returns-clause-none c = λ limits input. refl

pub returns-clause-other : goal.returns-clause-other
unfolding outcome_of
returns-clause-other c = λ limits input. refl

pub returns-clause-second : goal.returns-clause-second
unfolding outcome_of
returns-clause-second c = λ limits input. refl

pub returns-clause-second_apply : goal.returns-clause-second_apply
unfolding outcome_of
returns-clause-second_apply c = λ limits input. refl

pub returns-clause-get_alone : goal.returns-clause-get_alone
unfolding outcome_of
returns-clause-get_alone c = λ limits input. refl

pub returns-clause-second_replay : goal.returns-clause-second_replay
unfolding outcome_of
returns-clause-second_replay c = λ limits input. refl
