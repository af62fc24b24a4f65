-- What is read of live blocks, by their states: a key, in flat storage or in a trie, whether two blocks have one state, the usage of one, and how much is kept. A block that is not live is refused by name.
use Rattle.std.specs.Prelude.{ℕ, ◌&&◌, Bool, List, ◌++◌, length, codes, Option, None, Some, if◌then◌else◌}
use Rattle.std.specs.Fmt.{decimal}
use Rattle.std.specs.Str.{bytes_eq}
use Rattle.std.specs.FinMap.{get, len, entries}
use Rattle.std.specs.Cmp.Lexicographic.{pointwise}
use Rattle.script_model.specs.Spellings.{hex_text}
use Rattle.trie_model.specs.State.{State}
use Rattle.trie_model.specs.Root as trie
use Rattle.fork_model.specs.States.{ForkState, state_at, kept_changes}
use Rattle.count_model.specs.Counts.{in_state}
use Rattle.count_model.specs.Tables.{distinct_texts}
use Rattle.output_model.specs.Ends.{line_of}

-- ---- a key

-- the value, or `none` for a key that has none
abbrev pub value_text : Option (List ℕ) → List ℕ
value_text None = codes "none"
value_text (Some value) = hex_text value

abbrev pub read_text : Option State → (key : List ℕ) → List ℕ
read_text None key = codes "refused not-live"
read_text (Some state) key = value_text (get state key)

-- `flat V` or `flat none`, at a live block
abbrev pub flat_line : ForkState → (id key : List ℕ) → List ℕ
flat_line forks id key = line_of (codes "flat " ++ read_text (state_at forks id) key)

-- `trie V` or `trie none`
abbrev pub trie_line : ForkState → (id key : List ℕ) → List ℕ
trie_line forks id key = line_of (codes "trie " ++ read_text (state_at forks id) key)

-- ---- two states

-- whether they have the same pairs
abbrev pub same_pair : (first second : List ℕ × List ℕ) → Bool
same_pair first second = bytes_eq first.0 second.0 && bytes_eq first.1 second.1

unfoldable pub same_states : (first second : State) → Bool
same_states first second = pointwise same_pair (entries first) (entries second)

-- `yes` or `no`, where both are live
abbrev pub same_text : (first second : Option State) → List ℕ
same_text None second = codes "refused not-live"
same_text (Some first) None = codes "refused not-live"
same_text (Some first) (Some second) = if same_states first second then codes "yes" else codes "no"

abbrev pub same_line : ForkState → (a b : List ℕ) → List ℕ
same_line forks a b = line_of (codes "same " ++ same_text (state_at forks a) (state_at forks b))

-- ---- numbers

abbrev pub usage_text : Option State → List ℕ
usage_text None = codes "refused not-live"
usage_text (Some state) = decimal (trie.total state)

-- `usage N`
abbrev pub usage_line : ForkState → (id : List ℕ) → List ℕ
usage_line forks id = line_of (codes "usage " ++ usage_text (state_at forks id))

abbrev pub stats_of : (live pairs deltas distinct : ℕ) → List ℕ
stats_of live pairs deltas distinct = line_of (codes "stats " ++ decimal live ++ codes " " ++ decimal pairs ++ codes " " ++ decimal deltas ++ codes " " ++ decimal distinct)

-- `stats LIVE PAIRS DELTAS DISTINCT`: the live blocks, the pairs of the head's state, the changed keys of all other live blocks, and the different texts of all states
abbrev pub stats_line : ForkState → List ℕ
stats_line forks = stats_of (length forks.blocks) (in_state len (state_at forks forks.head)) (kept_changes forks) (distinct_texts forks)
