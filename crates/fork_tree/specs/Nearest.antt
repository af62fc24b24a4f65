-- The nearest of some blocks on the way from a block to the head.
use Rattle.std.specs.Prelude.{◌≡◌, ℕ, ◌≤◌, ◌<◌, true, false, List, ◌++◌, length, Some, ◌⊎◌}
use Rattle.std.specs.List.{AllByRecursion}
use Rattle.fork_model.specs.Trees.{BlockTree, is_among, is_live, line}
use Rattle.fork_tree.specs.Kept.{IsCut, headers, id_at, place_of, way}
use Rattle.fork_tree.specs.declared.block.Block.{Block}
use Rattle.fork_tree.specs.declared.nearest.Search.{Search}

-- The way to a block is that to the nearest, and then blocks that are none of them. Where none of them is on the way, the head stands for it.
pub record IsNearest (tree : BlockTree) (ids : List (List ℕ)) (id nearest : List ℕ) : Type 0 where
  pub beyond : List (List ℕ)
  pub way : line tree id ≡ line tree nearest ++ beyond
  pub others : AllByRecursion (λ q. is_among q ids ≡ false) beyond
  pub one : (nearest ≡ tree.head) ⊎ (is_among nearest ids ≡ true)
  pub live : is_live tree nearest ≡ true

-- ---- the search, as it is carried out

-- no block of those met that is on the way is nearer
abbrev pub NotNearer : List Block → (start nearest : ℕ) → List ℕ → Type 0
NotNearer blocks start nearest q = (p : ℕ) → place_of (headers blocks) q ≡ Some p → is_among q (way blocks start) ≡ true → p ≤ nearest

pub record IsSearch (blocks : List Block) (start : ℕ) (met : List (List ℕ)) (search : Search) : Type 0 where
  pub within : search.at < length blocks
  pub there : search.nearest < length blocks
  pub cut : IsCut blocks start search.at search.reach
  pub best : IsCut blocks start search.nearest search.nearest
  pub told : AllByRecursion (NotNearer blocks start search.nearest) met
  pub one : (search.nearest ≡ 0) ⊎ (is_among (id_at blocks search.nearest) met ≡ true)
