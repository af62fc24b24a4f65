-- Which texts of a block clash (this project's own). Different texts that share a digest can't both be kept, and none can be kept under the zero digest. A block's texts are compared twice: with each other, and then, unless the block is refused for its pairs, with the texts of live blocks. The first comparison that finds something decides, with the least digest that it finds.
use Rattle.std.specs.Prelude.{ℕ, ◌&&◌, ◌||◌, not, nat_eq, Bool, List, [], ◌∷◌, map, filter, Option, None, Some}
use Rattle.std.specs.List.{list_any}
use Rattle.std.specs.Cmp.Lexicographic.{pointwise}
use Rattle.sha2.specs.Sha256.{sha256}
use Rattle.trie_model.specs.State.{State}
use Rattle.trie_model.specs.Root.{zero_digest}
use Rattle.partial_model.specs.Texts.{lesser}
use Rattle.batch_model.specs.Changes.{Changes}
use Rattle.change_model.specs.Ledger.{made_texts}
use Rattle.fork_model.specs.States.{ForkState}
use Rattle.count_model.specs.Tables.{live_texts}

-- ---- names that are shared

-- What follows is said of any way to name a text, so that worked examples can have a name that is shared. It is used with SHA-256 alone.

-- whether two texts are different and have one name
abbrev pub share_name : (List ℕ → List ℕ) → (one other : List ℕ) → Bool
share_name name one other = not (pointwise nat_eq one other) && pointwise nat_eq (name one) (name other)

-- the least of some names, if there is one
unfoldable pub least_name : List (List ℕ) → Option (List ℕ)
least_name [] = None
least_name (n ∷ ns) = lesser (Some n) (least_name ns)

-- the least name that different ones of some texts share
unfoldable pub clash_within : (List ℕ → List ℕ) → (made : List (List ℕ)) → Option (List ℕ)
clash_within name made = least_name (map name (filter (λ t. list_any (share_name name t) made) made))

-- the least name of one of these texts that is zero, or that a different one of those held has
unfoldable pub clash_with : (List ℕ → List ℕ) → (held made : List (List ℕ)) → Option (List ℕ)
clash_with name held made = least_name (map name (filter (λ t. pointwise nat_eq (name t) zero_digest || list_any (share_name name t) held) made))

-- ---- of a block with these changes over a state

-- among the texts that it makes
abbrev pub made_clash : State → Changes → Option (List ℕ)
made_clash state changes = clash_within sha256 (made_texts state changes)

-- of these with the texts of live blocks
abbrev pub live_clash : ForkState → State → Changes → Option (List ℕ)
live_clash forks state changes = clash_with sha256 (live_texts forks) (made_texts state changes)
