-- What a lookup answers: where a node leads the nibbles that are left of a key, and the whole.
use Rattle.std.specs.Prelude.{◌≡◌, IsSomeAnd, ℕ, ◌+◌, nat_eq, Bool, true, false, List, [], ◌∷◌, ◌++◌, length, map, Option, None, Some, is_some, Result, Ok, Err, if◌then◌else◌, ⊤}
use Rattle.std.specs.Borrow.{Bor}
use Rattle.std.specs.Option.{option_map, option_copied}
use Rattle.std.specs.FinMap.{get}
use Rattle.std.specs.Cmp.Lexicographic.{pointwise}
use Rattle.byte_model.specs.Node as node
use Rattle.byte_model.specs.Node.{Node, ValueRef}
use Rattle.record_model.specs.Fits.{fitting_node}
use Rattle.trie_model.specs.Root.{Table}
use Rattle.trie_model.specs.Tree.{rest_behind}
use Rattle.visit_model.specs.Steps.{Step, no_text, no_node, value}
use Rattle.visit_model.specs.Steps as step
use Rattle.visit_model.specs.Visits as visiting
use Rattle.visit_model.specs.Visits.{Visits}
use Rattle.visit_model.specs.Bounds.{at_most_one}
use Rattle.base_core.specs.declared.hash.Digest.{Digest}
use Rattle.node_codec.specs.declared.value_ref.ValueRef as codec
use Rattle.node_codec.specs.Meanings.{value_of}
use Rattle.trie_read.specs.Loads.{IsStopped}
use Rattle.text_store.specs.Store.{Store}
use Rattle.text_store.specs.Leaves.{Leaves}
use Rattle.trie_read.specs.Endings.{read_ended}
use Rattle.trie_read.specs.declared.errors.ReadError.{ReadError}
use Rattle.trie_read.specs.declared.errors.ReadError.TheVariants.{Missing, Bad, Fault}
use Rattle.trie_read.specs.declared.following.Next.{Next}
use Rattle.trie_read.specs.declared.following.Next.TheVariants.{End, Child}

-- the key ends, with a value or none, or it leads to a child
pub data Leads : Type 0 where
  ends : (value : Option ValueRef) → Leads
  child : (digest : List ℕ) (depth : ℕ) (after_extension : Bool) → Leads

abbrev pub leads_of : Next → Leads
leads_of (End found) = ends (option_map value_of found)
leads_of (Child digest depth after_extension) = child digest.0 depth after_extension

abbrev pub leads_to : ℕ → Bool → Option (List ℕ) → Leads
leads_to depth after_extension None = ends None
leads_to depth after_extension (Some digest) = child digest depth after_extension

-- from a node at a depth, by what is left of the key
unfoldable pub leads : ℕ → List ℕ → Node → Leads
leads depth rest (node.leaf path ref) = ends (if pointwise nat_eq path rest then Some ref else None)
leads depth [] (node.branch ref kids) = ends ref
leads depth (x ∷ rest) (node.branch ref kids) = leads_to (depth + 1) false (kids x)
leads depth rest (node.extension path digest) = if is_some (rest_behind path rest) then child digest (depth + length path) true else ends None

-- The text under the digest holds a node for the place, which leads there.
pub record IsNext (table : Table) (digest : List ℕ) (depth : ℕ) (after_extension : Bool) (rest : List ℕ) (next : Next) : Type 0 where
  pub node : Node
  pub usage : ℕ
  pub held : IsSomeAnd (get table digest) (λ text. fitting_node depth after_extension text ≡ Some (node, usage))
  pub leads : leads_of next ≡ leads depth rest node

-- what visiting a place answers
abbrev pub AnswersVisit : Table → Digest → ℕ → Bool → List ℕ → Result Next ReadError → Type 0
AnswersVisit table digest depth after_extension rest (Ok next) = IsNext table digest.0 depth after_extension rest next
AnswersVisit table digest depth after_extension rest (Err error) = IsStopped table digest depth after_extension error

-- Nodes were visited, and then what is told by one more step, the last.
pub record EndsWith (steps : List Step) (digests : List (List ℕ)) (last : Step) (digest : List ℕ) : Type 0 where
  pub before : List (List ℕ)
  pub visited : digests ≡ before ++ digest ∷ []
  pub all : steps ≡ map step.node before ++ last ∷ []

-- Nodes were visited, and one more step was begun.
pub record Goes (steps : List Step) (digests : List (List ℕ)) : Type 0 where
  pub before : List (List ℕ)
  pub last : Step
  pub further : List Step
  pub visited : length digests ≡ length before + 1
  pub all : steps ≡ map step.node before ++ last ∷ further

-- What finding the value of a key answers: the digests visited on the way, which are all of the lookup but the visit of the value.
abbrev pub Finds : List Step → List ℕ → List (List ℕ) → Result (Option codec.ValueRef) ReadError → Type 0
Finds steps path digests (Ok None) = steps ≡ map step.node digests
Finds steps path digests (Ok (Some found)) = steps ≡ map step.node digests ++ value path (value_of found) ∷ []
Finds steps path digests (Err (Missing digest)) = EndsWith steps digests (no_text digest.0) digest.0
Finds steps path digests (Err (Bad digest)) = EndsWith steps digests (no_node digest.0) digest.0
Finds steps path digests (Err Fault) = Goes steps digests

-- The same, and what it leaves of the store.
pub record Found {S : Type 0} (store : Store S) (old new : S) (steps : List Step) (path : List ℕ) (result : Result (Option codec.ValueRef) ReadError) : Type 0 where
  pub digests : List (List ℕ)
  pub finds : Finds steps path digests result
  pub left : Leaves store old new digests (read_ended result)

-- What looking a key up answers, by its visits: the value visited, or none; or the test that failed. Where the store failed, nothing more is told.
abbrev pub AnswersLookup : Visits → List ℕ → Result (Option (Bor (List ℕ))) ReadError → Type 0
AnswersLookup visits path (Ok found) = (visits.values ≡ at_most_one (option_map (λ text. (path, text)) (option_copied found))) × (visits.refusal ≡ None)
AnswersLookup visits path (Err (Missing digest)) = visits.refusal ≡ Some (visiting.missing digest.0)
AnswersLookup visits path (Err (Bad digest)) = visits.refusal ≡ Some (visiting.bad digest.0)
AnswersLookup visits path (Err Fault) = ⊤

-- the value of a key of a state, or a failure of the store
abbrev pub AnswersState : Option (List ℕ) → Result (Option (Bor (List ℕ))) ReadError → Type 0
AnswersState held (Ok found) = option_copied found ≡ held
AnswersState held (Err Fault) = ⊤
AnswersState held (Err _) = ⊥
