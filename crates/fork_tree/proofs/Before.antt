-- The place before that of a block: that of its prev.
use Rattle.std.proofs.Common.{◌≡◌, ℕ, ◌<◌, List, [], length, get_or, None, Some, sym, ◌∙◌, ap, arith}
use Rattle.std.specs.Option.{option_map}
use Rattle.std.specs.List.{slice_get}
use Rattle.std.proofs.lemmas.Option.{get_or_from_slice_get, slice_get-get_or, slice_get-map}
use Rattle.base_core.specs.declared.hash.Digest.{Digest}
use Rattle.fork_model.specs.Trees.{Header, IsTree, block_of, ids_of}
use Rattle.fork_model.proofs.Ids.{found-key}
use Rattle.fork_model.proofs.Lines.{id_key}
use Rattle.fork_tree.specs.Kept.{AreLinked, IsLinked, IsPlaced, header_of, headers, id_at, placed, prev_at, tree_of}
use Rattle.fork_tree.specs.declared.block.Block.{Block}
use Rattle.fork_tree.proofs.Earlier.{IsEarlier, earlier}
use Rattle.fork_tree.proofs.Places.{stands_at}

pub block_at_place : (blocks : List Block) (place : ℕ) (x : Block) → slice_get blocks place ≡ Some x → slice_get (headers blocks) place ≡ Some (header_of x)
block_at_place blocks place x at = slice_get-map header_of blocks place ∙ ap (option_map header_of) at

pub id-at : (blocks : List Block) (place : ℕ) (h : Header) → slice_get (headers blocks) place ≡ Some h → id_at blocks place ≡ h.id
id-at blocks place h at = get_or_from_slice_get (ids_of (headers blocks)) place h.id [] (slice_get-map id_key (headers blocks) place ∙ ap (option_map id_key) at)

pub prev-at : (blocks : List Block) (place : ℕ) (h : Header) → slice_get (headers blocks) place ≡ Some h → prev_at blocks place ≡ h.prev
prev-at blocks place h at = get_or_from_slice_get _ place h.prev [] (slice_get-map (λ (b : Header). b.prev) (headers blocks) place ∙ ap (option_map (λ b. b.prev)) at)

pub block_of-id : (bs : List Header) (q : List ℕ) (h : Header) → block_of bs q ≡ Some h → q ≡ h.id
unfolding block_of
block_of-id bs q h at = found-key id_key bs q h at

module _ (blocks : List Block) (entries : List (Digest × ℕ)) (tree : IsTree (tree_of blocks)) (places : IsPlaced blocks entries) (place : ℕ) (x : Block) (is : slice_get blocks place ≡ Some x) (behind : 0 < place) where
  pub it : IsEarlier (headers blocks) (header_of x) place
  it = earlier (tree_of blocks) tree place (header_of x) (block_at_place blocks place x is) behind

  pub prev-placed : placed entries x.prev.0 ≡ Some it.at
  prev-placed = places x.prev.0 ∙ it.is

  pub prev-there : None ≡ placed entries x.prev.0 → ⊥
  prev-there none = none_some (none ∙ prev-placed)
    where
      none_some : None ≡ Some it.at → ⊥
      none_some e = cc

  pub prev-before : (n : ℕ) → Some n ≡ placed entries x.prev.0 → n < place
  prev-before n at = same (at ∙ prev-placed)
    where
      same : Some n ≡ Some it.at → n < place
      same e = let n_is : n ≡ it.at = cc in let b = it.before in omega (arith, n_is, b)

  pub prev-id : (n : ℕ) → Some n ≡ placed entries x.prev.0 → id_at blocks n ≡ prev_at blocks place
  prev-id n at =
      let s = stands_at (headers blocks) x.prev.0 n (sym (places x.prev.0) ∙ sym at) in
      id-at blocks n s.block s.is ∙ sym (block_of-id (headers blocks) x.prev.0 s.block s.found) ∙ sym (prev-at blocks place (header_of x) (block_at_place blocks place x is))

-- what the links of a block tell of its prev
pub links-at : (blocks : List Block) (count : ℕ) → AreLinked blocks count → (place : ℕ) (d : Block) → place < length blocks → place < count → IsLinked blocks place (get_or blocks place d).links
links-at blocks count linked place d within counted = linked place (get_or blocks place d) counted (slice_get-get_or blocks place d within)

pub jump-earlier : (blocks : List Block) (count : ℕ) → AreLinked blocks count → (place : ℕ) (d : Block) → place < length blocks → place < count → 0 < place → (get_or blocks place d).links.jump < place
jump-earlier blocks count linked place d within counted behind = let link = links-at blocks count linked place d within counted in let b = link.back in omega (arith, b, behind)
