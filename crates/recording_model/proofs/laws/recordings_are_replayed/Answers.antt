use Rattle.std.specs.Prelude.{◌≡◌, ℕ, List, Some}
use Rattle.std.specs.FinMap.{get}
use Rattle.sha2.specs.Sha256.{sha256}
use Rattle.trie_model.specs.State.{State}
use Rattle.trie_model.specs.Root.{Table}
use Rattle.trie_model.proofs.Members.{IsIn, contains_of_in}
use Rattle.batch_model.specs.Changes.{Changes}
use Rattle.recording_model.specs.Agreeing.{IsTableOf}
use Rattle.recording_model.specs.Recorded.{touched_texts, recorded_texts}
use Rattle.recording_model.proofs.Complete.{recorded-there, complete-passes, complete-used}
use Rattle.recording_model.proofs.laws.recordings_are_replayed.Goals as goal

there : (table : Table) (state : State) (reads : List (List ℕ)) (changes : Changes) → IsTableOf table (recorded_texts state reads changes) → (text : List ℕ) → IsIn (touched_texts state reads changes) text → get table (sha256 text) ≡ Some text
there table state reads changes of = recorded-there table state reads changes (λ text i. of.held text (contains_of_in (recorded_texts state reads changes) text i))

pub returns-clause-refusal : goal.returns-clause-refusal
returns-clause-refusal c = λ table state reads changes is bytes are apart agrees of. complete-passes table state reads changes is bytes are apart agrees (there table state reads changes of)

pub returns-clause-spare : goal.returns-clause-spare
returns-clause-spare c = λ table state reads changes is bytes are apart agrees of. complete-used table state reads changes is bytes are apart agrees (there table state reads changes of)
