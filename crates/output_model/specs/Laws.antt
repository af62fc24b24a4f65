-- What the laws over histories speak of.
use Rattle.std.specs.Prelude.{◌≡◌, ℕ, ◌+◌, ◌≤◌, Bool, true, false, List, [], ◌∷◌, Option, None, Some, ⊤, if◌then◌else◌}
use Rattle.std.specs.Option.{IsSomeAnd}
use Rattle.std.specs.Str.{bytes_eq}
use Rattle.std.specs.FinMap.{get, len}
use Rattle.script_model.specs.Lines as line
use Rattle.script_model.specs.Lines.{Event}
use Rattle.script_model.specs.Words.{Op, read, set, delete}
use Rattle.fork_model.specs.Trees.{Header}
use Rattle.fork_model.specs.States.{ForkState}
use Rattle.output_model.specs.Ends.{RunLimits}
use Rattle.output_model.specs.Histories.{History}
use Rattle.output_model.specs.Scripts.{Step, goes_on, ends, Script}

-- what holds behind a step, where the script goes on
abbrev pub IfGoesOn : {S : Type 0} → Step S → (S → Type 0) → Type 0
IfGoesOn (goes_on reply after) P = P after
IfGoesOn (ends output) P = ⊤

-- the state behind some events, the first of which is asked for by the line with this number, where the script goes on behind each
abbrev pub state_if : {S : Type 0} → Step S → (S → Option S) → Option S
state_if (goes_on reply after) others = others after
state_if (ends output) others = None

unfoldable pub state_after : {S : Type 0} → Script S → (number : ℕ) → S → List Event → Option S
state_after script number state [] = Some state
state_after script number state (asked ∷ events) = state_if (script.step number state asked) (λ after. state_after script (number + 1) after events)

-- ---- live blocks

-- whether an event is none of those that may change the live blocks: the end of a block, and a move of the head
abbrev pub keeps_blocks : Event → Bool
keeps_blocks line.nothing = true
keeps_blocks (line.block id prev height) = true
keeps_blocks (line.set key value) = true
keeps_blocks (line.delete key) = true
keeps_blocks line.block_end = false
keeps_blocks (line.head id) = false
keeps_blocks (line.flat id key) = true
keeps_blocks (line.trie id key) = true
keeps_blocks (line.same a b) = true
keeps_blocks (line.usage id) = true
keeps_blocks line.stats = true

-- ---- what a block is told

-- whether an event may stand between the begin of a block and its end
abbrev pub tells_block : Event → Bool
tells_block line.nothing = true
tells_block (line.block id prev height) = false
tells_block (line.set key value) = true
tells_block (line.delete key) = true
tells_block line.block_end = false
tells_block (line.head id) = false
tells_block (line.flat id key) = false
tells_block (line.trie id key) = false
tells_block (line.same a b) = false
tells_block (line.usage id) = false
tells_block line.stats = false

-- what an event makes of a key, if it changes that key
abbrev pub change_of : (key : List ℕ) → Event → Option (Option (List ℕ))
change_of key line.nothing = None
change_of key (line.block id prev height) = None
change_of key (line.set other value) = if bytes_eq key other then Some (Some value) else None
change_of key (line.delete other) = if bytes_eq key other then Some None else None
change_of key line.block_end = None
change_of key (line.head id) = None
change_of key (line.flat id other) = None
change_of key (line.trie id other) = None
change_of key (line.same a b) = None
change_of key (line.usage id) = None
change_of key line.stats = None

-- the later of two, if there is one
abbrev pub later : {A : Type 0} → Option A → Option A → Option A
later None former = former
later (Some a) former = Some a

-- what the last of some events that change a key makes of it
unfoldable pub last_change : (key : List ℕ) → List Event → Option (Option (List ℕ))
last_change key [] = None
last_change key (asked ∷ events) = later (last_change key events) (change_of key asked)

-- A block is being told over these live blocks. Each key has the change that the last of the events for it asks for, and no more keys are changed than may be.
pub record IsTold (limits : RunLimits) (forks : ForkState) (header : Header) (events : List Event) (history : History) : Type 0 where
  pub forks_stay : history.forks ≡ forks
  pub opened : IsSomeAnd history.opened (λ opened. (opened.header ≡ header) × ((key : List ℕ) → get opened.changes key ≡ last_change key events) × (len opened.changes ≤ limits.changes))

-- ---- what operations change

-- what an operation makes of a key, if it changes that key
abbrev pub made_of : (key : List ℕ) → Op → Option (Option (List ℕ))
made_of key (read other) = None
made_of key (set other value) = if bytes_eq key other then Some (Some value) else None
made_of key (delete other) = if bytes_eq key other then Some None else None

-- what the last of some operations that change a key makes of it
unfoldable pub last_made : (key : List ℕ) → List Op → Option (Option (List ℕ))
last_made key [] = None
last_made key (op ∷ ops) = later (last_made key ops) (made_of key op)
