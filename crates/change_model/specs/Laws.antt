-- What the laws over the definitions speak of.
use Rattle.std.specs.Prelude.{◌≡◌, ◌≢◌, ℕ, false, List, [], ◌++◌, map, Contains}
use Rattle.trie_model.specs.State.{State, rows_of}
use Rattle.trie_model.specs.Tree.{below}
use Rattle.trie_model.specs.Root.{subtree_at}
use Rattle.batch_model.specs.Changes.{Changes, after}
use Rattle.change_model.specs.Places.{is_branch, touched_places}

-- A place of the new state is cut out of a touched place of the old one, in the middle of the path of its leaf or extension: the rows below the old place are those below the new one, with the nibbles in between put before them. So it is the rest of that leaf or extension, and no branch.
pub record IsCut (state : State) (changes : Changes) (place : List ℕ) : Type 0 where
  pub from : List ℕ
  pub between : List ℕ
  pub path : place ≡ from ++ between
  pub further : between ≢ []
  pub touched : Contains (touched_places state [] changes) from
  pub no_branch : is_branch (subtree_at (after state changes) place) ≡ false
  pub rows : below from (rows_of state) ≡ map (λ row. (between ++ row.0, row.1)) (below place (rows_of (after state changes)))
