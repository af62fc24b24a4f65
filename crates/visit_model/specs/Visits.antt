-- What a reading visits and how it ends: its steps are gone in order, each visited text is tested, and the first test that fails ends it.
use Rattle.std.specs.Prelude.{ℕ, zero, suc, ◌==◌, List, [], ◌∷◌, length, Option, None, Some, if◌then◌else◌}
use Rattle.std.specs.FinMap.{get}
use Rattle.byte_model.specs.Nibbles.{nibbles}
use Rattle.byte_model.specs.Node.{ValueRef}
use Rattle.trie_model.specs.State.{Row}
use Rattle.trie_model.specs.Root.{Table}
use Rattle.visit_model.specs.Seen.{seen}
use Rattle.visit_model.specs.Steps.{Step, node, no_text, no_node, value, top_steps, lookup_steps, listing_steps}

-- the test that failed: no text is held under a digest, or the text there is no node that fits, or no value of the length that is named
pub data Refusal : Type 0 where
  missing : (digest : List ℕ) → Refusal
  bad : (digest : List ℕ) → Refusal

-- The digests of the texts that were visited, in order, the values among them with the nibbles of their keys, and the test that failed, if one did.
pub record Visits : Type 0 where
  pub digests : List (List ℕ)
  pub values : List Row
  pub refusal : Option Refusal

abbrev pub no_visits : Visits
no_visits = record { digests = []; values = []; refusal = None }

-- a visit that ends the reading
abbrev pub refused : List ℕ → Refusal → Visits
refused digest why = record { digests = digest ∷ []; values = []; refusal = Some why }

-- a node that was visited before
abbrev pub node_first : List ℕ → Visits → Visits
node_first digest v = record { digests = digest ∷ v.digests; values = v.values; refusal = v.refusal }

-- a value that was visited before
abbrev pub value_first : List ℕ → Row → Visits → Visits
value_first digest row v = record { digests = digest ∷ v.digests; values = row ∷ v.values; refusal = v.refusal }

-- the visit of a value, by the text that is held under its digest, and what is visited after it
unfoldable pub value_visit : List ℕ → ValueRef → Option (List ℕ) → Visits → Visits
value_visit path ref None after = refused ref.digest (missing ref.digest)
value_visit path ref (Some text) after =
    if length text == ref.length then value_first ref.digest (path, text) after else refused ref.digest (bad ref.digest)

-- the steps in order, until so many values are visited
unfoldable pub visits_of : Table → ℕ → List Step → Visits
visits_of table zero steps = no_visits
visits_of table (suc most) [] = no_visits
visits_of table (suc most) (node digest ∷ steps) = node_first digest (visits_of table (suc most) steps)
visits_of table (suc most) (no_text digest ∷ steps) = refused digest (missing digest)
visits_of table (suc most) (no_node digest ∷ steps) = refused digest (bad digest)
visits_of table (suc most) (value path ref ∷ steps) = value_visit path ref (get table ref.digest) (visits_of table most steps)

-- ---- over a set of texts and a root

-- the visit of the root
abbrev pub top_visits : Table → List ℕ → Visits
top_visits table root = visits_of table 1 (top_steps (seen table root))

-- the visits of the lookup of a key, at most one value among them
abbrev pub lookup_visits : Table → List ℕ → List ℕ → Visits
lookup_visits table root key = visits_of table 1 (lookup_steps (seen table root) [] (nibbles key))

-- the visits of the listing of the first pairs whose keys are not below one
abbrev pub listing_visits : Table → List ℕ → List ℕ → ℕ → Visits
listing_visits table root from most = visits_of table most (listing_steps (seen table root) [] (nibbles from))
