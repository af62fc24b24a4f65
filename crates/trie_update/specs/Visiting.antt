-- What the visit of a node answers, and what the visits of a batch answer.
use Rattle.std.specs.Prelude.{◌≡◌, IsSomeAnd, ℕ, ◌≤◌, ◌<◌, Bool, List, None, Some, Result, Ok, Err, ⊤}
use Rattle.std.specs.FinMap.{get}
use Rattle.byte_model.specs.Nibbles.{AreNibbles}
use Rattle.byte_model.specs.Node.{Node, own_cost}
use Rattle.byte_model.specs.Laws.{SameNode}
use Rattle.record_model.specs.Fits.{fitting_node}
use Rattle.trie_model.specs.Root.{Table}
use Rattle.change_model.specs.Visits.{Visits, no_text, no_node, no_usage, most_usage}
use Rattle.base_core.specs.declared.hash.Digest.{Digest}
use Rattle.node_codec.specs.Meanings.{node_of, path_of}
use Rattle.trie_update.specs.declared.errors.UpdateError.{UpdateError}
use Rattle.trie_update.specs.declared.errors.UpdateError.TheVariants.{Missing, Bad, Usage, Clash, Fault, NoMemory}
use Rattle.trie_update.specs.declared.visiting.Visited.{Visited}

-- The node that a text holds for a place was read, and states no more than it may.
pub record IsVisited (text : List ℕ) (depth : ℕ) (after_extension : Bool) (visited : Visited) (n : Node) : Type 0 where
  pub fits : fitting_node depth after_extension text ≡ Some (n, visited.stated)
  pub same : SameNode (node_of visited.node) n
  pub nibbles : AreNibbles (path_of visited.node)
  pub own : visited.own ≡ own_cost n
  pub most : visited.stated ≤ most_usage

-- of a text that was loaded
abbrev pub AnswersNode : List ℕ → Digest → ℕ → Bool → Result Visited UpdateError → Type 0
AnswersNode text digest depth after_extension (Ok visited) = (n : Node) × IsVisited text depth after_extension visited n
AnswersNode text digest depth after_extension (Err (Missing named)) = ⊥
AnswersNode text digest depth after_extension (Err (Bad named)) = (named ≡ digest) × (fitting_node depth after_extension text ≡ None)
AnswersNode text digest depth after_extension (Err (Usage named)) = (named ≡ digest) × IsSomeAnd (fitting_node depth after_extension text) (λ found. most_usage < found.1)
AnswersNode text digest depth after_extension (Err (Clash named one other)) = ⊥
AnswersNode text digest depth after_extension (Err Fault) = ⊥
AnswersNode text digest depth after_extension (Err NoMemory) = ⊤

-- of a digest
abbrev pub AnswersVisit : Table → Digest → ℕ → Bool → Result Visited UpdateError → Type 0
AnswersVisit table digest depth after_extension (Err (Missing named)) = (named ≡ digest) × (get table digest.0 ≡ None)
AnswersVisit table digest depth after_extension (Err Fault) = ⊤
AnswersVisit table digest depth after_extension result = IsSomeAnd (get table digest.0) (λ text. AnswersNode text digest depth after_extension result)

-- Of the visits of a batch: nothing is refused where they were done, and else the test that failed is told. Texts clash behind all visits.
abbrev pub AnswersBatch : {X : Type 0} → Visits → Result X UpdateError → Type 0
AnswersBatch visits (Ok found) = visits.refusal ≡ None
AnswersBatch visits (Err (Missing named)) = visits.refusal ≡ Some (no_text named.0)
AnswersBatch visits (Err (Bad named)) = visits.refusal ≡ Some (no_node named.0)
AnswersBatch visits (Err (Usage named)) = visits.refusal ≡ Some (no_usage named.0)
AnswersBatch visits (Err (Clash named one other)) = ⊥
AnswersBatch visits (Err Fault) = ⊤
AnswersBatch visits (Err NoMemory) = ⊤
