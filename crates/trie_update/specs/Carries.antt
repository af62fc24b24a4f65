-- What a call that carries out visits leaves of a store, and what it answers.
use Rattle.std.specs.Prelude.{Result}
use Rattle.change_model.specs.Visits.{Visits}
use Rattle.text_store.specs.Store.{Store}
use Rattle.text_store.specs.Leaves.{Leaves}
use Rattle.trie_update.specs.declared.errors.UpdateError.{UpdateError}
use Rattle.trie_update.specs.Endings.{update_ended}
use Rattle.trie_update.specs.Visiting.{AnswersBatch}

pub record Carries {S X : Type 0} (store : Store S) (old new : S) (visits : Visits) (result : Result X UpdateError) : Type 0 where
  pub left : Leaves store old new visits.digests (update_ended result)
  pub answer : AnswersBatch visits result
