-- How often a text is counted over live blocks (this project's own). The head's state counts whole, and each other live block by how much its state has more than its prev's. What a block loses against its prev stays counted until the head has passed the block, since the prev's state may be read until then.
use Rattle.std.specs.Prelude.{ℕ, ◌+◌, ◌-◌, List, sum_by, Option, None, Some}
use Rattle.std.specs.Option.{option_and_then}
use Rattle.trie_model.specs.State.{State}
use Rattle.trie_model.specs.Root.{occurrences, digest_occurrences}
use Rattle.fork_model.specs.Trees.{prev_of, passed, dropped}
use Rattle.fork_model.specs.States.{ForkState, tree_of_blocks, state_at}
use Rattle.fork_model.specs.Laws.{ids_behind}

-- ---- what is counted

-- What may be counted in a state, which is here how often a text occurs, or a digest.
abbrev pub Measure : Type 0
Measure = State → ℕ

abbrev pub of_text : List ℕ → Measure
of_text t = λ state. occurrences state t

abbrev pub of_digest : List ℕ → Measure
of_digest digest = λ state. digest_occurrences state digest

-- 0 where there is no state
abbrev pub in_state : Measure → Option State → ℕ
in_state measure None = 0
in_state measure (Some state) = measure state

-- ---- one block against its prev

-- the state of a live block's prev; the head has none
abbrev pub prev_state_at : ForkState → List ℕ → Option State
prev_state_at forks id = option_and_then (state_at forks) (prev_of (tree_of_blocks forks) id)

-- by how much a live block's state has more than its prev's, or 0
unfoldable pub rise : Measure → ForkState → (id : List ℕ) → ℕ
rise measure forks id = in_state measure (state_at forks id) - in_state measure (prev_state_at forks id)

-- by how much it has less, or 0
unfoldable pub fall : Measure → ForkState → (id : List ℕ) → ℕ
fall measure forks id = in_state measure (prev_state_at forks id) - in_state measure (state_at forks id)

-- ---- over all live blocks

-- what the head's state has, and what each other live block's has more than its prev's
unfoldable pub counted : Measure → ForkState → ℕ
counted measure forks = in_state measure (state_at forks forks.head) + sum_by (rise measure forks) (ids_behind (tree_of_blocks forks))

-- how often a text is counted, and how often a digest
abbrev pub count : ForkState → List ℕ → ℕ
count forks t = counted (of_text t) forks

abbrev pub digest_count : ForkState → List ℕ → ℕ
digest_count forks digest = counted (of_digest digest) forks

-- ---- a move of the head

-- what it takes away: by how much the blocks that it passes have less than their prevs, and by how much those that it drops had more
unfoldable pub taken_away : Measure → ForkState → (id : List ℕ) → ℕ
taken_away measure forks id = sum_by (fall measure forks) (passed (tree_of_blocks forks) id) + sum_by (rise measure forks) (dropped (tree_of_blocks forks) id)
