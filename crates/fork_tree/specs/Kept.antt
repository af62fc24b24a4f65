-- How the tree of live blocks is kept: the blocks in the order of acceptance, and a table with the place of each by its id.
use Rattle.std.specs.Prelude.{◌≡◌, ◌≤◌, ◌<◌, ℕ, ◌+◌, ◌-◌, List, [], ◌∷◌, ◌++◌, length, map, Option, None, Some, unwrap_or, slice_index_or, if◌then◌else◌, refl}
use Rattle.std.specs.Option.{option_map}
use Rattle.std.specs.List.{AllByRecursion, slice_get}
use Rattle.std.specs.Map.{lookup}
use Rattle.std.specs.Str.{bytes_eq}
use Rattle.std.specs.Coded.{Coded, code_by, coded×, coded_ℕ, coded_list}
use Rattle.base_core.specs.declared.hash.Digest.{Digest}
use Rattle.fork_model.specs.Trees.{Header, BlockTree, IsTree, ids_of, is_among, line}
use Rattle.fork_model.specs.Laws.{first_id}
use Rattle.fork_tree.specs.declared.block.Block.{Block}
use Rattle.fork_tree.specs.declared.links.Links.{Links}

-- The tree, how many blocks may be live at most, and for how many further ones there is room.
pub record ForkTree : Type 0 where
  pub tree : BlockTree
  pub most : ℕ
  pub spare : ℕ

-- the code of its fields
abbrev header_code : Coded Header
header_code = code_by (List ℕ × (List ℕ × ℕ)) (coded× (coded_list coded_ℕ) (coded× (coded_list coded_ℕ) coded_ℕ)) (λ h. (h.id, (h.prev, h.height))) (λ p. record { id = p.0; prev = p.1.0; height = p.1.1 }) (λ _. refl)

abbrev tree_code : Coded BlockTree
tree_code = code_by (List ℕ × List Header) (coded× (coded_list coded_ℕ) (coded_list header_code)) (λ t. (t.head, t.blocks)) (λ p. record { head = p.0; blocks = p.1 }) (λ _. refl)

abbrev pub fork_tree_code : Coded ForkTree
fork_tree_code = code_by (BlockTree × (ℕ × ℕ)) (coded× tree_code (coded× coded_ℕ coded_ℕ)) (λ s. (s.tree, (s.most, s.spare))) (λ p. record { tree = p.0; most = p.1.0; spare = p.1.1 }) (λ _. refl)

-- ---- as it is kept

abbrev pub header_of : Block → Header
header_of block = record { id = block.id.0; prev = block.prev.0; height = block.height }

abbrev pub headers : List Block → List Header
headers blocks = map header_of blocks

-- the head is the first
abbrev pub tree_of : List Block → BlockTree
tree_of blocks = record { head = unwrap_or (first_id (headers blocks)) []; blocks = headers blocks }

-- the place of the first block with an id, if there is one
unfoldable pub place_of : List Header → List ℕ → Option ℕ
place_of [] id = None
place_of (block ∷ blocks) id = if bytes_eq id block.id then Some 0 else option_map (λ place. place + 1) (place_of blocks id)

-- what the table has under an id
abbrev pub placed : List (Digest × ℕ) → List ℕ → Option ℕ
placed entries id = lookup (λ (k : Digest). bytes_eq id k.0) entries

-- what is left of an id, where a head, blocks behind it and further ones are taken from the table
abbrev pub left : (head : List ℕ) (before gone : List (List ℕ)) (id : List ℕ) → Option ℕ → Option ℕ
left head before gone id place = if is_among id gone then None else (if is_among id before then None else (if bytes_eq head id then None else place))

-- the table has the place of each live block, and nothing else
abbrev pub IsPlaced : List Block → List (Digest × ℕ) → Type 0
IsPlaced blocks entries = (id : List ℕ) → placed entries id ≡ place_of (headers blocks) id

-- the id and the prev of the block at a place
abbrev pub id_at : List Block → ℕ → List ℕ
id_at blocks place = slice_index_or (ids_of (headers blocks)) place []

abbrev pub prev_at : List Block → ℕ → List ℕ
prev_at blocks place = slice_index_or (map (λ block. block.prev) (headers blocks)) place []

-- the blocks from the head to the one at a place
abbrev pub way : List Block → ℕ → List (List ℕ)
way blocks place = line (tree_of blocks) (id_at blocks place)

-- a block stands at a place of which something holds
pub record Stands (blocks : List Block) (P : ℕ → Type 0) (q : List ℕ) : Type 0 where
  pub place : ℕ
  pub is : place_of (headers blocks) q ≡ Some place
  pub holds : P place

-- the blocks of a way that are gone all stand behind a place
pub record IsCut (blocks : List Block) (start at reach : ℕ) : Type 0 where
  pub beyond : List (List ℕ)
  pub parts : way blocks start ≡ way blocks at ++ beyond
  pub later : AllByRecursion (Stands blocks (λ p. reach < p)) beyond

-- The links of the block at a place. Behind the head the place of its prev is kept, which stands before it, and a jump goes back on the way, over blocks that all stand behind the one to which it leads.
pub record IsLinked (blocks : List Block) (place : ℕ) (links : Links) : Type 0 where
  pub earlier : 0 < place → links.before < place
  pub prev : 0 < place → id_at blocks links.before ≡ prev_at blocks place
  pub back : links.jump ≤ place - 1
  pub cut : IsCut blocks place links.jump links.jump

-- each of the first blocks has its links
abbrev pub AreLinked : List Block → (count : ℕ) → Type 0
AreLinked blocks count = (place : ℕ) (block : Block) → place < count → slice_get blocks place ≡ Some block → IsLinked blocks place block.links

pub record IsKept (blocks : List Block) (entries : List (Digest × ℕ)) : Type 0 where
  pub tree : IsTree (tree_of blocks)
  pub linked : AreLinked blocks (length blocks)
  pub places : IsPlaced blocks entries

-- and no more blocks are live than may be
pub record IsBounded (blocks : List Block) (entries : List (Digest × ℕ)) (most : ℕ) : Type 0 where
  pub kept : IsKept blocks entries
  pub bounded : length blocks ≤ most
