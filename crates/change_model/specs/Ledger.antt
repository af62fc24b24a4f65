-- What a batch makes, and by how much the occurrences of a digest grow and shrink.
use Rattle.std.specs.Prelude.{ℕ, ◌-◌, ◌&&◌, not, List, ◌++◌, map, is_some, is_none}
use Rattle.std.specs.List.{filter_map, count_by}
use Rattle.std.specs.FinMap.{entries, contains_key}
use Rattle.trie_model.specs.State.{State}
use Rattle.trie_model.specs.Root.{text_at, digest_occurrences}
use Rattle.batch_model.specs.Changes.{Changes, after}
use Rattle.change_model.specs.Places.{written_places}

-- the values that a batch sets, by rising key
abbrev pub set_values : Changes → List (List ℕ)
set_values changes = filter_map (λ change. change.1) (entries changes)

-- The texts of the written places and the values that are set. One text may stand here several times.
unfoldable pub made_texts : State → Changes → List (List ℕ)
made_texts state changes = map (text_at (after state changes)) (written_places state changes) ++ set_values changes

-- by how much the occurrences of a digest grow, or 0
abbrev pub gain : State → Changes → List ℕ → ℕ
gain state changes digest = digest_occurrences (after state changes) digest - digest_occurrences state digest

-- by how much they shrink, or 0
abbrev pub loss : State → Changes → List ℕ → ℕ
loss state changes digest = digest_occurrences state digest - digest_occurrences (after state changes) digest

-- how many keys appear, and how many disappear
abbrev pub fresh : State → Changes → ℕ
fresh state changes = count_by (λ change. is_some change.1 && not (contains_key state change.0)) (entries changes)

abbrev pub gone : State → Changes → ℕ
gone state changes = count_by (λ change. is_none change.1 && contains_key state change.0) (entries changes)
