use Rattle.update_model.proofs.Limits.{root-small, root-grows}
use Rattle.update_model.proofs.laws.usages_stay_small.Goals as goal

pub returns-clause-small : goal.returns-clause-small
returns-clause-small c = root-small

pub returns-clause-more : goal.returns-clause-more
returns-clause-more c = root-grows
