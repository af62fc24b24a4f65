-- Each block stands at the place of its id, and the head at the first.
use Rattle.std.proofs.Common.{◌≡◌, ◌≢◌, ℕ, zero, suc, ◌+◌, ◌<◌, List, [], ◌∷◌, ◌++◌, length, map, reverse, get_or, None, Some, ⊎_elim, refl, sym, ◌∙◌, ap, arith}
use Rattle.std.specs.Option.{option_map}
use Rattle.std.specs.List.{slice_get}
use Rattle.std.proofs.lemmas.Option.{slice_get-get_or}
use Rattle.std.proofs.lemmas.List.{append_assoc, map-append, reverse-append}
use Rattle.base_core.specs.declared.hash.Digest.{Digest}
use Rattle.fork_model.specs.Trees.{Header, IsTree, block_of, line}
use Rattle.fork_model.proofs.Ids.{found, found-here, found-behind, found_not_none, same_or_other, AreApart}
use Rattle.fork_model.proofs.Lines.{id_key, line-head, stands_in}
use Rattle.fork_model.proofs.Partition.{apart_blocks, map-reverse}
use Rattle.fork_tree.specs.Kept.{header_of, headers, id_at, place_of, prev_at, tree_of}
use Rattle.fork_tree.specs.declared.block.Block.{Block}
use Rattle.fork_tree.proofs.Places.{place-behind, place-here, stands_at}
use Rattle.fork_tree.proofs.Before.{block_at_place, id-at, prev-at}

-- any block, which is read where there is none
abbrev pub some_block : Block
some_block = record { id = record { 0 = [] }; prev = record { 0 = [] }; height = 0; links = record { before = 0; jump = 0; depth = 0 } }

-- what stands in a list is found by its id
stands_found : (bs : List Header) (i : ℕ) (h : Header) → slice_get bs i ≡ Some h → found id_key bs h.id ≡ None → ⊥
stands_found [] i h at none = none_some at
  where
    none_some : None ≡ Some h → ⊥
    none_some e = cc
stands_found (b ∷ bs) zero h at none = let same : b ≡ h = cc in found_not_none (found-here id_key b bs h.id (ap id_key (sym same))) none
stands_found (b ∷ bs) (suc i) h at none =
    ⊎_elim
    (λ (same : h.id ≡ b.id). found_not_none (found-here id_key b bs h.id same) none)
    (λ other. stands_found bs i h at (sym (found-behind id_key b bs h.id other) ∙ none))
    (same_or_other h.id b.id)

pub place-apart : (bs : List Header) → AreApart id_key bs → (i : ℕ) (h : Header) → slice_get bs i ≡ Some h → place_of bs h.id ≡ Some i
place-apart [] apart i h at = absurd (none_some at)
  where
    none_some : None ≡ Some h → ⊥
    none_some e = cc
place-apart (b ∷ bs) apart zero h at = let same : b ≡ h = cc in place-here b bs h.id (ap id_key (sym same))
place-apart (b ∷ bs) apart (suc i) h at =
    let other : h.id ≢ b.id = λ same. stands_found bs i h at (ap (found id_key bs) same ∙ apart.0) in
    place-behind b bs h.id other ∙ ap (option_map (λ n. n + 1)) (place-apart bs apart.1 i h at) ∙ ap Some (let e : i + 1 ≡ suc i = omega arith in e)

pub places_apart : (blocks : List Block) → IsTree (tree_of blocks) → (i : ℕ) → i < length blocks → place_of (headers blocks) (id_at blocks i) ≡ Some i
places_apart blocks is i within =
    let h : Header = header_of (get_or blocks i some_block) in
    let at : slice_get (headers blocks) i ≡ Some h = block_at_place blocks i (get_or blocks i some_block) (slice_get-get_or blocks i some_block within) in
    ap (place_of (headers blocks)) (id-at blocks i h at) ∙ place-apart (headers blocks) (apart_blocks (tree_of blocks) is) i h at

module _ (blocks : List Block) (tree : IsTree (tree_of blocks)) where
  -- a block and its place
  pub record AtPlace (i : ℕ) : Type 0 where
    pub block : Header
    pub is : slice_get (headers blocks) i ≡ Some block
    pub found : block_of (headers blocks) (id_at blocks i) ≡ Some block
    pub place : place_of (headers blocks) (id_at blocks i) ≡ Some i

  pub at_place : (i : ℕ) → i < length blocks → AtPlace i
  at_place i within =
      let h : Header = header_of (get_or blocks i some_block) in
      let at : slice_get (headers blocks) i ≡ Some h = block_at_place blocks i (get_or blocks i some_block) (slice_get-get_or blocks i some_block within) in
      let place = places_apart blocks tree i within in
      let s = stands_at (headers blocks) (id_at blocks i) i place in
      let same : s.block ≡ h = cc (s.is, at) in
      record { block = h; is = at; found = s.found ∙ ap Some same; place = place }

  head-place : place_of (headers blocks) (tree_of blocks).head ≡ Some 0
  head-place = first blocks tree
    where
      first : (bs : List Block) → IsTree (tree_of bs) → place_of (headers bs) (tree_of bs).head ≡ Some 0
      first [] is = absurd is.grown
      first (b ∷ bs) is = place-here (header_of b) (headers bs) b.id.0 refl

  pub head-id : 0 < length blocks → id_at blocks 0 ≡ (tree_of blocks).head
  head-id some = first blocks some
    where
      first : (bs : List Block) → 0 < length bs → id_at bs 0 ≡ (tree_of bs).head
      first [] some = absurd (omega (arith, some))
      first (b ∷ bs) some = refl

  pub not_head : (i : ℕ) → i < length blocks → 0 < i → id_at blocks i ≢ (tree_of blocks).head
  not_head i within behind same = two (sym (at_place i within).place ∙ ap (place_of (headers blocks)) same ∙ head-place)
    where
      two : Some i ≡ Some 0 → ⊥
      two e = let z : i ≡ 0 = cc in omega (arith, z, behind)

  pub line-at : (i : ℕ) → i < length blocks → 0 < i → line (tree_of blocks) (id_at blocks i) ≡ line (tree_of blocks) (prev_at blocks i) ++ id_at blocks i ∷ []
  line-at i within behind =
      let a = at_place i within in
      (stands_in (tree_of blocks) tree (id_at blocks i) a.block a.found (not_head i within behind)).line
      ∙ ap (λ q. line (tree_of blocks) q ++ id_at blocks i ∷ []) (sym (prev-at blocks i a.block a.is))

  pub line-first : 0 < length blocks → line (tree_of blocks) (id_at blocks 0) ≡ id_at blocks 0 ∷ []
  line-first some = ap (line (tree_of blocks)) (head-id some) ∙ line-head (tree_of blocks) tree ∙ ap (λ q. q ∷ []) (sym (head-id some))

  -- one more at the end of a list is the first of the list turned round
  turned_push : (i : ℕ) (d : Block) (ids : List Digest) → i < length blocks → id_at blocks i ∷ reverse (map (λ (k : Digest). k.0) ids) ≡ reverse (map (λ (k : Digest). k.0) (ids ++ (get_or blocks i d).id ∷ []))
  turned_push i d ids within =
      ap (λ q. q ∷ reverse (map (λ (k : Digest). k.0) ids)) (id-at blocks i (header_of (get_or blocks i d)) (block_at_place blocks i (get_or blocks i d) (slice_get-get_or blocks i d within)))
      ∙ sym (reverse-append (map (λ (k : Digest). k.0) ids) ((get_or blocks i d).id.0 ∷ []))
      ∙ ap reverse (sym (map-append (λ (k : Digest). k.0) ids ((get_or blocks i d).id ∷ [])))

  -- one block more of the line, from the new head back
  pub line-back : (i p : ℕ) (d : Block) (l : List (List ℕ)) (ids : List Digest) → i < length blocks → 0 < i → id_at blocks p ≡ prev_at blocks i → l ≡ line (tree_of blocks) (id_at blocks i) ++ reverse (map (λ (k : Digest). k.0) ids) → l ≡ line (tree_of blocks) (id_at blocks p) ++ reverse (map (λ (k : Digest). k.0) (ids ++ (get_or blocks i d).id ∷ []))
  line-back i p d l ids within behind prev before =
      let x : Block = get_or blocks i d in
      let back : List (List ℕ) = reverse (map (λ (k : Digest). k.0) ids) in
      before
      ∙ ap (λ ks. ks ++ back) (line-at i within behind ∙ ap (λ q. line (tree_of blocks) q ++ id_at blocks i ∷ []) (sym prev))
      ∙ append_assoc (line (tree_of blocks) (id_at blocks p)) (id_at blocks i ∷ []) back
      ∙ ap (λ ks. line (tree_of blocks) (id_at blocks p) ++ ks) (turned_push i d ids within)

  -- and the head, with which the line is told from its front
  pub line-whole : (d : Block) (l : List (List ℕ)) (ids : List Digest) → 0 < length blocks → l ≡ line (tree_of blocks) (id_at blocks 0) ++ reverse (map (λ (k : Digest). k.0) ids) → map (λ (k : Digest). k.0) (reverse (ids ++ (get_or blocks 0 d).id ∷ [])) ≡ l
  line-whole d l ids some before =
      map-reverse (λ (k : Digest). k.0) (ids ++ (get_or blocks 0 d).id ∷ [])
      ∙ sym (turned_push 0 d ids some)
      ∙ sym (ap (λ ks. ks ++ reverse (map (λ (k : Digest). k.0) ids)) (line-first some))
      ∙ sym before
