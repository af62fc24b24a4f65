-- What a state's trie gives: its places and texts, how often a text occurs, root and total; and what it is for a table to hold a state.
use Rattle.std.specs.Prelude.{◌≡◌, ◌≢◌, ℕ, List, [], ◌++◌, map, replicate, nat_eq, Some, Contains}
use Rattle.std.specs.List.{AllByRecursion, count_by}
use Rattle.std.specs.Ordering.{nat_cmp}
use Rattle.std.specs.Cmp.Lexicographic.{slice_cmp, pointwise}
use Rattle.std.specs.FinMap.{FinMap, get}
use Rattle.byte_model.specs.Node.{digest_width}
use Rattle.sha2.specs.Sha256.{sha256}
use Rattle.trie_model.specs.State.{State, rows_of}
use Rattle.trie_model.specs.Tree.{Tree, nothing, leaf, branch, extension, below, tree_of}
use Rattle.trie_model.specs.Texts.{usage, text, places}

-- what stands as the root where there is no text
abbrev pub zero_digest : List ℕ
zero_digest = replicate digest_width 0

-- the subtree at a place
unfoldable pub subtree_at : State → List ℕ → Tree
subtree_at state place = tree_of (below place (rows_of state))

abbrev pub text_at : State → List ℕ → List ℕ
text_at state place = text (subtree_at state place)

abbrev pub places_of : State → List (List ℕ)
places_of state = places (subtree_at state [])

-- the text of each place in order, and then the value of each pair in order
unfoldable pub texts_of : State → List (List ℕ)
texts_of state = map (text_at state) (places_of state) ++ map (λ row. row.1) (rows_of state)

-- how often a text occurs, and how often a digest
abbrev pub occurrences : State → List ℕ → ℕ
occurrences state t = count_by (λ other. pointwise nat_eq other t) (texts_of state)

abbrev pub digest_occurrences : State → List ℕ → ℕ
digest_occurrences state digest = count_by (λ other. pointwise nat_eq (sha256 other) digest) (texts_of state)

-- the zero digest for no place, else the SHA-256 of the text at the root place
unfoldable pub root_of : Tree → List ℕ
root_of nothing = zero_digest
root_of (leaf path value) = sha256 (text (leaf path value))
root_of (branch value kids) = sha256 (text (branch value kids))
root_of (extension path child) = sha256 (text (extension path child))

abbrev pub root : State → List ℕ
root state = root_of (subtree_at state [])

-- the usage that the root place states, or 0
abbrev pub total : State → ℕ
total state = usage (subtree_at state [])

-- A table from digest to text holds a state where it gives each of the state's texts for the text's digest, and no such digest is that of an empty state's root.
abbrev pub Table : Type 0
Table = FinMap (slice_cmp nat_cmp) (List ℕ)

pub record Holds (table : Table) (state : State) : Type 0 where
  pub found : AllByRecursion (λ t. get table (sha256 t) ≡ Some t) (texts_of state)
  pub nonzero : AllByRecursion (λ t. sha256 t ≢ zero_digest) (texts_of state)

-- Of the texts in the list, those with equal digests are equal, and no digest is that of an empty state's root.
pub record NoClash (texts : List (List ℕ)) : Type 0 where
  pub apart : (a b : List ℕ) → Contains texts a → Contains texts b → sha256 a ≡ sha256 b → a ≡ b
  pub nonzero : (a : List ℕ) → Contains texts a → sha256 a ≢ zero_digest
