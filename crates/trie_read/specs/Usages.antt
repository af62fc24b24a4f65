-- What asking for the usage of a root answers.
use Rattle.std.specs.Prelude.{◌≡◌, ℕ, List, None, Some, Result, Ok, Err, ⊤}
use Rattle.trie_model.specs.Root.{Table}
use Rattle.visit_model.specs.Seen.{seen, stated_usage}
use Rattle.visit_model.specs.Visits as visits
use Rattle.visit_model.specs.Visits.{top_visits}
use Rattle.trie_read.specs.declared.errors.ReadError.{ReadError}
use Rattle.trie_read.specs.declared.errors.ReadError.TheVariants.{Missing, Bad, Fault}

-- the usage that the root's record states, or the test that failed
abbrev pub AnswersUsage : Table → List ℕ → Result ℕ ReadError → Type 0
AnswersUsage table root (Ok usage) = (usage ≡ stated_usage (seen table root)) × ((top_visits table root).refusal ≡ None)
AnswersUsage table root (Err (Missing digest)) = (top_visits table root).refusal ≡ Some (visits.missing digest.0)
AnswersUsage table root (Err (Bad digest)) = (top_visits table root).refusal ≡ Some (visits.bad digest.0)
AnswersUsage table root (Err Fault) = ⊤

-- the usage of a state, or a failure of the store
abbrev pub AnswersTotal : ℕ → Result ℕ ReadError → Type 0
AnswersTotal total (Ok usage) = usage ≡ total
AnswersTotal total (Err Fault) = ⊤
AnswersTotal total (Err _) = ⊥
