use Rattle.std.proofs.Common.{refl}
use Rattle.partial_model.specs.Texts.{lesser}
use Rattle.count_model.specs.Clashes.{least_name, clash_within, clash_with}
use Rattle.count_model.proofs.examples.names_that_are_shared.Goals as goal

pub returns-clause-itself : goal.returns-clause-itself
unfolding lesser least_name clash_within clash_with
returns-clause-itself c = refl

pub returns-clause-least : goal.returns-clause-least
unfolding lesser least_name clash_within clash_with
returns-clause-least c = refl

pub returns-clause-zero_within : goal.returns-clause-zero_within
unfolding lesser least_name clash_within clash_with
returns-clause-zero_within c = refl

pub returns-clause-zero_with : goal.returns-clause-zero_with
unfolding lesser least_name clash_within clash_with
returns-clause-zero_with c = refl

pub returns-clause-held : goal.returns-clause-held
unfolding lesser least_name clash_within clash_with
returns-clause-held c = refl

pub returns-clause-no_clash : goal.returns-clause-no_clash
unfolding lesser least_name clash_within clash_with
returns-clause-no_clash c = refl
