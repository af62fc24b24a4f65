use Rattle.std.proofs.Common.{true, [], map, sym, ◌∙◌}
use Rattle.std.proofs.lemmas.List.{length-map}
use Rattle.sha2.specs.Sha256.{sha256}
use Rattle.trie_model.specs.Root.{root, text_at}
use Rattle.change_model.specs.Places.{touched_places}
use Rattle.change_model.specs.Visits.{batch_visits}
use Rattle.change_model.proofs.Touching.{count-all}
use Rattle.change_model.proofs.Visited.{batch_passes}
use Rattle.change_model.proofs.laws.batch_over_state.Goals as goal

pub returns-clause-refusal : goal.returns-clause-refusal
returns-clause-refusal c = λ table state changes is are holds. (batch_passes state changes is are table holds (λ _. true)).passed

pub returns-clause-digests : goal.returns-clause-digests
returns-clause-digests c = λ table state changes test is are holds. (batch_passes state changes is are table holds test).counted

pub returns-clause-count : goal.returns-clause-count
returns-clause-count c = λ table state changes is are holds.
    sym (count-all (batch_visits table (root state) changes).digests) ∙ (batch_passes state changes is are table holds (λ _. true)).counted
    ∙ count-all (map (λ place. sha256 (text_at state place)) (touched_places state [] changes)) ∙ length-map (touched_places state [] changes) (λ place. sha256 (text_at state place))
