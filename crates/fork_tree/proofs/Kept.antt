-- The blocks and the table as they are kept, against the tree that they show.
use Rattle.std.proofs.Common.{◌≡◌, ◌≢◌, ℕ, ◌<◌, false, cond, List, [], ◌∷◌, ◌++◌, length, get_or, Option, None, Some, is_some, ⊎_elim, ◌⊎◌, inl, inr, refl, sym, ◌∙◌, ap, subst, arith}
use Rattle.std.specs.Option.{option_map, option_or, unwrap_or}
use Rattle.std.specs.List.{slice_get}
use Rattle.std.specs.Str.{bytes_eq}
use Rattle.std.proofs.lemmas.Bool.{true≢false}
use Rattle.std.proofs.lemmas.Option.{get_or_from_slice_get, slice_get-map}
use Rattle.std.proofs.lemmas.List.{length-map, map-append}
use Rattle.base_core.specs.declared.hash.Digest.{Digest}
use Rattle.fork_model.specs.Trees.{BlockFault, BlockTree, Header, IsTree, block_fault, block_of, grown, is_live, prev_of}
use Rattle.fork_model.specs.Laws.{first_id}
use Rattle.fork_model.proofs.Ids.{apart_is, same-itself, same_or_other}
use Rattle.fork_model.proofs.Lines.{prev_from}
use Rattle.fork_model.proofs.Moves.{grown-is}
use Rattle.fork_model.proofs.Faults.{accepted}
use Rattle.fork_tree.specs.Answers.{checked}
use Rattle.fork_tree.specs.Kept.{AreLinked, ForkTree, IsKept, IsPlaced, header_of, headers, place_of, placed, tree_of}
use Rattle.fork_tree.specs.declared.block.Block.{Block}
use Rattle.fork_tree.proofs.Places.{place-live, place-push, stands_at, StandsAt}

-- ---- what an index reads

some_map : {X Y : Type 0} (f : X → Y) (o : Option X) (y : Y) → option_map f o ≡ Some y → (x : X) × (o ≡ Some x) × (f x ≡ y)
some_map f None y e = cc
some_map f (Some x) y e = (x, refl, cc)

pub read : (blocks : List Block) (place : ℕ) (x : Block) (h : Header) → slice_get (headers blocks) place ≡ Some h → x ≡ get_or blocks place x → header_of x ≡ h
read blocks place x h at is =
    let y = some_map header_of (slice_get blocks place) h (sym (slice_get-map header_of blocks place) ∙ at) in
    ap header_of (is ∙ get_or_from_slice_get blocks place y.0 x y.1) ∙ y.2

pub length-headers : (blocks : List Block) → length (headers blocks) ≡ length blocks
length-headers blocks = length-map blocks header_of

pub length-same : (blocks others : List Block) → headers blocks ≡ headers others → length blocks ≡ length others
length-same blocks others same = sym (length-headers blocks) ∙ ap length same ∙ length-headers others

pub turned : (p q : List ℕ) → bytes_eq p q ≡ bytes_eq q p
turned p q =
    ⊎_elim (λ (same : p ≡ q). ap (bytes_eq p) (sym same) ∙ ap (λ k. bytes_eq k p) same)
    (λ other. apart_is p q other ∙ sym (apart_is q p (λ e. other (sym e)))) (same_or_other p q)

-- ---- look-ups

module _ (blocks : List Block) (entries : List (Digest × ℕ)) (kept : IsKept blocks entries) where
  pub placed-live : (q : List ℕ) → is_some (placed entries q) ≡ is_live (tree_of blocks) q
  placed-live q = ap is_some (kept.places q) ∙ place-live (headers blocks) q

  pub placed-none : (q : List ℕ) → None ≡ placed entries q → block_of (headers blocks) q ≡ None
  placed-none q none = by_case (block_of (headers blocks) q) (sym (placed-live q) ∙ ap is_some (sym none))
    where
      by_case : (o : Option Header) → is_some o ≡ false → o ≡ None
      by_case None e = refl
      by_case (Some b) e = absurd (true≢false e)

  pub placed-at : (q : List ℕ) (place : ℕ) → Some place ≡ placed entries q → StandsAt (headers blocks) q place
  placed-at q place at = stands_at (headers blocks) q place (sym (kept.places q) ∙ sym at)

  pub placed-within : (q : List ℕ) (place : ℕ) → Some place ≡ placed entries q → place < length blocks
  placed-within q place at = let w = (placed-at q place at).within in let l = length-headers blocks in omega (arith, w, l)

  -- the block that is read at the place of an id
  pub placed-read : (q : List ℕ) (place : ℕ) (x : Block) → Some place ≡ placed entries q → x ≡ get_or blocks place x → block_of (headers blocks) q ≡ Some (header_of x)
  placed-read q place x at is = let s = placed-at q place at in s.found ∙ ap Some (sym (read blocks place x s.block s.is is))

pub nonempty : (blocks : List Block) → IsTree (tree_of blocks) → 0 < length blocks
nonempty [] is = absurd is.grown
nonempty (b ∷ blocks) is = omega arith

-- the head is the first block
pub head-first : (blocks : List Block) (x : Block) → 0 < length blocks → x ≡ get_or blocks 0 x → (tree_of blocks).head ≡ x.id.0
head-first [] x some is = absurd (omega (arith, some))
head-first (b ∷ blocks) x some is = ap (λ (y : Block). y.id.0) (sym is)

-- ---- a block behind the others

first-push : (bs : List Header) (b : Header) → 0 < length bs → unwrap_or (first_id (bs ++ b ∷ [])) [] ≡ unwrap_or (first_id bs) []
first-push [] b some = absurd (omega (arith, some))
first-push (c ∷ bs) b some = refl

pub tree_of-push : (blocks : List Block) (b : Block) → 0 < length blocks → tree_of (blocks ++ b ∷ []) ≡ grown (tree_of blocks) (header_of b)
tree_of-push blocks b some =
    let all : headers (blocks ++ b ∷ []) ≡ headers blocks ++ header_of b ∷ [] = map-append header_of blocks (b ∷ []) in
    let l : 0 < length (headers blocks) = (let m = length-headers blocks in omega (arith, m, some)) in
    let Shown : List ℕ → List Header → BlockTree = λ h bs. record { head = h; blocks = bs } in
    ap (λ bs. Shown (unwrap_or (first_id bs) []) bs) all ∙ ap (λ h. Shown h (headers blocks ++ header_of b ∷ [])) (first-push (headers blocks) (header_of b) l)

-- what is put into the table under a new id
pub placed-put : (blocks : List Block) (b : Block) (entries after : List (Digest × ℕ)) → IsPlaced blocks entries → block_of (headers blocks) b.id.0 ≡ None → ((q : List ℕ) → placed after q ≡ cond (bytes_eq b.id.0 q) (Some (length blocks)) (placed entries q)) → IsPlaced (blocks ++ b ∷ []) after
placed-put blocks b entries after places new put q =
    put q
    ∙ ap (λ o. cond (bytes_eq b.id.0 q) (Some (length blocks)) o) (places q)
    ∙ by_test (same_or_other q b.id.0)
    ∙ sym (place-push (headers blocks) (header_of b) q)
    ∙ ap (λ bs. place_of bs q) (sym (map-append header_of blocks (b ∷ [])))
  where
    none : (o : Option ℕ) → is_some o ≡ false → o ≡ None
    none None e = refl
    none (Some n) e = absurd (true≢false e)

    last : (o : Option ℕ) → option_or o None ≡ o
    last None = refl
    last (Some n) = refl

    by_test : (q ≡ b.id.0) ⊎ (q ≢ b.id.0) → cond (bytes_eq b.id.0 q) (Some (length blocks)) (place_of (headers blocks) q) ≡ option_or (place_of (headers blocks) q) (cond (bytes_eq q b.id.0) (Some (length (headers blocks))) None)
    by_test (inl same) =
        let gone : place_of (headers blocks) q ≡ None = none _ (place-live (headers blocks) q ∙ ap is_some (ap (block_of (headers blocks)) same ∙ new)) in
        ap (λ t. cond t (Some (length blocks)) (place_of (headers blocks) q)) (ap (bytes_eq b.id.0) same ∙ same-itself b.id.0)
        ∙ ap Some (sym (length-headers blocks))
        ∙ sym (ap (λ o. option_or o (cond (bytes_eq q b.id.0) (Some (length (headers blocks))) None)) gone
        ∙ ap (λ t. cond t (Some (length (headers blocks))) None) (ap (λ k. bytes_eq k b.id.0) same ∙ same-itself b.id.0))
    by_test (inr other) =
        ap (λ t. cond t (Some (length blocks)) (place_of (headers blocks) q)) (apart_is b.id.0 q (λ e. other (sym e)))
        ∙ sym (ap (λ t. option_or (place_of (headers blocks) q) (cond t (Some (length (headers blocks))) None)) (apart_is q b.id.0 other) ∙ last (place_of (headers blocks) q))

pub tree-push : (most : ℕ) (blocks : List Block) (b : Block) → IsTree (tree_of blocks) → block_fault most (tree_of blocks) (header_of b) ≡ None → IsTree (tree_of (blocks ++ b ∷ []))
tree-push most blocks b tree ok =
    let taken = accepted most (tree_of blocks) (header_of b) ok in
    subst IsTree (sym (tree_of-push blocks b (nonempty blocks tree))) (grown-is (tree_of blocks) tree (header_of b) taken.new taken.higher)

pub kept-push : (most : ℕ) (blocks : List Block) (b : Block) (entries after : List (Digest × ℕ)) → IsKept blocks entries → block_fault most (tree_of blocks) (header_of b) ≡ None → AreLinked (blocks ++ b ∷ []) (length (blocks ++ b ∷ [])) → ((q : List ℕ) → placed after q ≡ cond (bytes_eq b.id.0 q) (Some (length blocks)) (placed entries q)) → IsKept (blocks ++ b ∷ []) after
kept-push most blocks b entries after kept ok linked put =
    let taken = accepted most (tree_of blocks) (header_of b) ok in
    record {
      tree = tree-push most blocks b kept.tree ok;
      linked = linked;
      places = placed-put blocks b entries after kept.places taken.new put;
    }

-- the prev of a block that is accepted has a place
pub prev_live : (most : ℕ) (blocks : List Block) (b : Header) (entries : List (Digest × ℕ)) → IsKept blocks entries → block_fault most (tree_of blocks) b ≡ None → None ≡ placed entries b.prev → ⊥
prev_live most blocks b entries kept ok none =
    let prev = prev_from _ _ (accepted most (tree_of blocks) b ok).higher in
    none_some prev.prev (sym (placed-none blocks entries kept b.prev none) ∙ prev.is)
  where
    none_some : (h : Header) → None ≡ Some h → ⊥
    none_some h e = cc

-- the head alone
pub kept-first : (b : Block) (entries : List (Digest × ℕ)) → AreLinked (b ∷ []) 1 → ((q : List ℕ) → placed entries q ≡ cond (bytes_eq b.id.0 q) (Some 0) None) → IsKept (b ∷ []) entries
unfolding place_of
kept-first b entries linked put = record {
  tree = record { grown = refl };
  linked = linked;
  places = λ q. put q ∙ ap (λ t. cond t (Some 0) None) (turned b.id.0 q);
}

-- another table that answers alike
pub kept-same : (blocks : List Block) (entries after : List (Digest × ℕ)) → IsKept blocks entries → ((q : List ℕ) → placed after q ≡ placed entries q) → IsKept blocks after
kept-same blocks entries after kept same = record { tree = kept.tree; linked = kept.linked; places = λ q. same q ∙ kept.places q }

-- other blocks with the same headers
pub tree-same : (blocks others : List Block) → headers blocks ≡ headers others → tree_of blocks ≡ tree_of others
tree-same blocks others same =
    let Shown : List ℕ → List Header → BlockTree = λ h bs. record { head = h; blocks = bs } in
    ap (λ (hs : List Header). Shown (unwrap_or (first_id hs) []) hs) same

pub kept-linked : (blocks now : List Block) (entries : List (Digest × ℕ)) → IsTree (tree_of blocks) → IsPlaced blocks entries → headers now ≡ headers blocks → AreLinked now (length now) → IsKept now entries
kept-linked blocks now entries tree places same linked = record {
  tree = subst IsTree (sym (tree-same now blocks same)) tree;
  linked = linked;
  places = λ q. places q ∙ ap (λ hs. place_of hs q) (sym same);
}

-- ---- the prev of a block

pub prev-head : (blocks : List Block) (q : List ℕ) → q ≡ (tree_of blocks).head → prev_of (tree_of blocks) q ≡ None
prev-head blocks q same = ap (λ t. cond t None (option_map (λ block. block.prev) (block_of (headers blocks) q))) (ap (λ k. bytes_eq k (tree_of blocks).head) same ∙ same-itself (tree_of blocks).head)

pub prev-found : (blocks : List Block) (q : List ℕ) (o : Option Header) → (q ≢ (tree_of blocks).head) → block_of (headers blocks) q ≡ o → prev_of (tree_of blocks) q ≡ option_map (λ block. block.prev) o
prev-found blocks q o other is =
    ap (λ t. cond t None (option_map (λ block. block.prev) (block_of (headers blocks) q))) (apart_is q (tree_of blocks).head other)
    ∙ ap (option_map (λ block. block.prev)) is

-- ---- what is told of a block that is offered

pub fault_told : (shown now : ForkTree) (h : Header) (o : Option BlockFault) → shown ≡ now → block_fault shown.most shown.tree h ≡ o → checked o ≡ checked (block_fault now.most now.tree h)
fault_told shown now h o is e = ap checked (sym e) ∙ ap (λ (s : ForkTree). checked (block_fault s.most s.tree h)) is

pub fault_none_told : (shown now : ForkTree) (h : Header) → shown ≡ now → block_fault shown.most shown.tree h ≡ None → block_fault now.most now.tree h ≡ None
fault_none_told shown now h is e = ap (λ (s : ForkTree). block_fault s.most s.tree h) (sym is) ∙ e
