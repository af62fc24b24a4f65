-- The recording of a state (this project): the texts that some reads and a batch of changes touch. All reads look at the state before any change.
use Rattle.std.specs.Prelude.{ℕ, List, ◌++◌, map}
use Rattle.std.specs.List.{filter_map}
use Rattle.std.specs.FinMap.{get}
use Rattle.trie_model.specs.State.{State}
use Rattle.trie_model.specs.Root.{text_at}
use Rattle.batch_model.specs.Changes.{Changes}
use Rattle.change_model.specs.Places.{touched_places}
use Rattle.partial_model.specs.Texts.{set_of, texts_in}

-- the values of the read keys that the state has, in the order of the reads
abbrev pub read_values : State → List (List ℕ) → List (List ℕ)
read_values state reads = filter_map (get state) reads

-- The text of each touched place, and those values. One text may stand here several times.
unfoldable pub touched_texts : State → (reads : List (List ℕ)) → Changes → List (List ℕ)
touched_texts state reads changes = map (text_at state) (touched_places state reads changes) ++ read_values state reads

-- each of them once, in the order of their bytes
abbrev pub recorded_texts : State → (reads : List (List ℕ)) → Changes → List (List ℕ)
recorded_texts state reads changes = texts_in (set_of (touched_texts state reads changes))
