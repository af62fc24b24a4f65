-- What the laws over the definitions speak of.
use Rattle.std.specs.Prelude.{ℕ, List, [], ◌∷◌, not, Option, None, Some}
use Rattle.std.specs.List.{filter}
use Rattle.std.specs.Str.{bytes_eq}
use Rattle.fork_model.specs.Trees.{BlockTree, Header, ids_of}

-- the live blocks but the head, by their ids
abbrev pub ids_behind : BlockTree → List (List ℕ)
ids_behind tree = filter (λ id. not (bytes_eq id tree.head)) (ids_of tree.blocks)

-- the id of the block that was accepted first
abbrev pub first_id : List Header → Option (List ℕ)
first_id [] = None
first_id (block ∷ blocks) = Some block.id
