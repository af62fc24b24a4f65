-- What a listing answers: one place of it, one pair, and the whole.
use Rattle.std.specs.Prelude.{◌≡◌, ◌≢◌, ℕ, List, [], ◌∷◌, ◌++◌, length, Option, None, Some, IfSome, IsSomeAnd, Result, Ok, Err, ⊤}
use Rattle.std.specs.Option.{option_map}
use Rattle.std.specs.FinMap.{get, entries}
use Rattle.byte_model.specs.Nibbles.{nibbles}
use Rattle.trie_model.specs.Root.{Table}
use Rattle.trie_model.specs.State.{rows_of}
use Rattle.visit_model.specs.Steps.{node, no_text, no_node, value_steps}
use Rattle.visit_model.specs.Visits as visiting
use Rattle.visit_model.specs.Visits.{Visits}
use Rattle.base_core.specs.PairMaps.{PairMap, laid}
use Rattle.node_codec.specs.declared.value_ref.ValueRef as codec
use Rattle.node_codec.specs.Meanings.{value_of}
use Rattle.trie_read.specs.declared.errors.ListError.{ListError}
use Rattle.trie_read.specs.declared.errors.ListError.TheVariants.{Missing, Bad, Fault, NoMemory}
use Rattle.trie_read.specs.declared.walk.Place.{Place}
use Rattle.trie_read.specs.declared.walk.Walk.{Walk}
use Rattle.trie_read.specs.Walks.{IsWalk, IsValueAt, steps_at, steps_of}

-- The place was visited: its steps and those after it are its node's, then its value's, and then those that the walk has taken up.
pub record Passed (table : Table) (from : List ℕ) (old new : Walk) (place : Place) (found : Option codec.ValueRef) : Type 0 where
  pub steps : steps_at table from old.path.items place ++ steps_of table from old.path.items old.pending.items ≡ node place.digest.0 ∷ value_steps new.path.items (option_map value_of found) ++ steps_of table from new.path.items new.pending.items
  pub walk : IsWalk new.path.items new.pending.items
  pub names : IfSome found (IsValueAt new.path.items)

-- what visiting a place answers
abbrev pub AnswersPlace : Table → List ℕ → (old new : Walk) → Place → Result (Option codec.ValueRef) ListError → Type 0
AnswersPlace table from old new place (Ok found) = Passed table from old new place found
AnswersPlace table from old new place (Err (Missing named)) = (named ≡ place.digest) × (steps_at table from old.path.items place ≡ no_text place.digest.0 ∷ [])
AnswersPlace table from old new place (Err (Bad named)) = (named ≡ place.digest) × (steps_at table from old.path.items place ≡ no_node place.digest.0 ∷ [])
AnswersPlace table from old new place (Err Fault) = ⊤
AnswersPlace table from old new place (Err NoMemory) = ⊤

-- ---- pairs

-- the pair of the key with these nibbles was laid over
pub record LaysOver (path value : List ℕ) (old new : PairMap) : Type 0 where
  pub key : List ℕ
  pub nibbles_are : nibbles key ≡ path
  pub laid_is : new ≡ laid old key value

abbrev pub Collects : {E : Type 0} → (path value : List ℕ) → (old new : PairMap) → Result (Unit {0}) E → Type 0
Collects path value old new (Ok done) = LaysOver path value old new
Collects path value old new (Err error) = ⊤

-- what loading a value and laying its pair over answers
pub record Added (table : Table) (path : List ℕ) (ref : codec.ValueRef) (old new : PairMap) : Type 0 where
  pub text : List ℕ
  pub held : get table ref.digest.0 ≡ Some text
  pub length_is : length text ≡ ref.length
  pub lays : LaysOver path text old new

abbrev pub AnswersPair : Table → List ℕ → codec.ValueRef → (old new : PairMap) → Result (Unit {0}) ListError → Type 0
AnswersPair table path ref old new (Ok done) = Added table path ref old new
AnswersPair table path ref old new (Err (Missing named)) = (named ≡ ref.digest) × (get table ref.digest.0 ≡ None)
AnswersPair table path ref old new (Err (Bad named)) = (named ≡ ref.digest) × IsSomeAnd (get table ref.digest.0) (λ text. length text ≢ ref.length)
AnswersPair table path ref old new (Err Fault) = ⊤
AnswersPair table path ref old new (Err NoMemory) = ⊤

-- ---- the whole listing

-- What a listing answers, by its visits: the values visited, as pairs, or the test that failed. Where the store failed or memory was wanted, nothing more is told.
abbrev pub AnswersListing : Visits → ℕ → Result PairMap ListError → Type 0
AnswersListing visits most (Ok pairs) = (rows_of pairs.state ≡ visits.values) × (visits.refusal ≡ None) × (pairs.most ≡ most)
AnswersListing visits most (Err (Missing digest)) = visits.refusal ≡ Some (visiting.missing digest.0)
AnswersListing visits most (Err (Bad digest)) = visits.refusal ≡ Some (visiting.bad digest.0)
AnswersListing visits most (Err Fault) = ⊤
AnswersListing visits most (Err NoMemory) = ⊤

-- pairs of a state, or a failure of the store, or want of memory
abbrev pub AnswersPairs : List (List ℕ × List ℕ) → Result PairMap ListError → Type 0
AnswersPairs pairs (Ok found) = entries found.state ≡ pairs
AnswersPairs pairs (Err Fault) = ⊤
AnswersPairs pairs (Err NoMemory) = ⊤
AnswersPairs pairs (Err _) = ⊥
