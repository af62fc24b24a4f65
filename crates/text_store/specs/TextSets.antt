-- What a `TextSet` is seen as, and when it is within its limits.
use Rattle.std.specs.Prelude.{ℕ, List, map, Vec}
use Rattle.std.specs.declared.alloc.Global.{Global}
use Rattle.partial_model.specs.Texts.{SetOfTexts, set_of}
use Rattle.partial_model.specs.Partial.{IsPartial}

-- the texts of a tree, as they stand there
abbrev pub texts_of_keys : List (Vec ℕ Global) → List (List ℕ)
texts_of_keys keys = map (λ key. key.items) keys

abbrev pub set_of_keys : List (Vec ℕ Global) → SetOfTexts
set_of_keys keys = set_of (texts_of_keys keys)

-- they rise, and their number and lengths fit their fields
abbrev pub IsKeptSet : List (Vec ℕ Global) → Type 0
IsKeptSet keys = IsPartial (texts_of_keys keys)
