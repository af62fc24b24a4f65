use Rattle.trie_model.proofs.Costs.{text_at-same}
use Rattle.batch_model.specs.Changes.{after}
use Rattle.change_model.proofs.Below.{below-after}
use Rattle.change_model.proofs.Touched.{untouched_stays}
use Rattle.change_model.proofs.laws.untouched_places_stay.Goals as goal

pub returns-clause-places : goal.returns-clause-places
returns-clause-places c = untouched_stays

pub returns-clause-rows : goal.returns-clause-rows
returns-clause-rows c = below-after

pub returns-clause-texts : goal.returns-clause-texts
returns-clause-texts c = λ state changes place none. text_at-same (after state changes) state place place (below-after state changes place none)
