-- Blocks are linked to the places of their prevs, one after the other.
use Rattle.std.proofs.Common.{◌≡◌, ◌≢◌, ℕ, zero, suc, ◌+◌, ◌<◌, ◌≤◌, List, [], ◌∷◌, ◌++◌, length, set, get_or, reverse, None, Some, ⊎_elim, refl, sym, ◌∙◌, ap, ap₂, subst, arith}
use Rattle.std.specs.List.{slice_get}
use Rattle.std.proofs.lemmas.Bool.{cases_lt}
use Rattle.std.proofs.lemmas.Option.{slice_get-get_or}
use Rattle.std.proofs.lemmas.List.{map-append, map-set, reverse-append, set-get_or}
use Rattle.fork_model.specs.Trees.{BlockTree, Header, IsTree, block_of, grown, leading, line}
use Rattle.fork_model.proofs.Lines.{leading-behind}
use Rattle.fork_tree.specs.Kept.{AreLinked, IsCut, IsLinked, header_of, headers, id_at, place_of, prev_at, tree_of, way}
use Rattle.fork_tree.specs.declared.block.Block.{Block}
use Rattle.fork_tree.specs.declared.links.Links.{Links}
use Rattle.fork_tree.proofs.Apart.{at_place, some_block}
use Rattle.fork_tree.proofs.Before.{block_at_place, id-at, prev-at}
use Rattle.fork_tree.proofs.Cuts.{all-weaker, cut-start, linked-over, linked-same}
use Rattle.fork_tree.proofs.Kept.{nonempty, tree_of-push}
use Rattle.fork_tree.proofs.Places.{place-append}

-- ---- lists

slice_get-left : {X : Type 0} (xs ys : List X) (i : ℕ) → i < length xs → slice_get (xs ++ ys) i ≡ slice_get xs i
slice_get-left {X} [] ys i within = absurd (omega (arith, within))
slice_get-left {X} (x ∷ xs) ys zero within = refl
slice_get-left {X} (x ∷ xs) ys (suc i) within = slice_get-left xs ys i (omega (arith, within))

slice_get-last : {X : Type 0} (xs : List X) (x y : X) (i : ℕ) → length xs ≤ i → slice_get (xs ++ x ∷ []) i ≡ Some y → (i ≡ length xs) × (x ≡ y)
slice_get-last {X} [] x y zero past at = (refl, cc)
slice_get-last {X} [] x y (suc i) past at = cc
slice_get-last {X} (z ∷ xs) x y zero past at = absurd (omega (arith, past))
slice_get-last {X} (z ∷ xs) x y (suc i) past at = let rest = slice_get-last xs x y i (omega (arith, past)) at in (ap suc rest.0, rest.1)

slice_get-set_same : {X : Type 0} (xs : List X) (i : ℕ) (x y : X) → slice_get (set xs i x) i ≡ Some y → x ≡ y
slice_get-set_same {X} [] i x y at = cc
slice_get-set_same {X} (z ∷ xs) zero x y at = cc
slice_get-set_same {X} (z ∷ xs) (suc i) x y at = slice_get-set_same xs i x y at

slice_get-set_other : {X : Type 0} (xs : List X) (i j : ℕ) (x : X) → j < i → slice_get (set xs i x) j ≡ slice_get xs j
slice_get-set_other {X} [] i j x lt = refl
slice_get-set_other {X} (z ∷ xs) zero j x lt = absurd (omega (arith, lt))
slice_get-set_other {X} (z ∷ xs) (suc i) zero x lt = refl
slice_get-set_other {X} (z ∷ xs) (suc i) (suc j) x lt = slice_get-set_other xs i j x (omega (arith, lt))

-- ---- one block more

module _ (blocks : List Block) (b : Block) where
  at-left : (i : ℕ) → i < length blocks → slice_get (blocks ++ b ∷ []) i ≡ Some (get_or blocks i some_block)
  at-left i within = slice_get-left blocks (b ∷ []) i within ∙ slice_get-get_or blocks i some_block within

  header-at : (i : ℕ) → i < length blocks → slice_get (headers blocks) i ≡ Some (header_of (get_or blocks i some_block))
  header-at i within = block_at_place blocks i _ (slice_get-get_or blocks i some_block within)

  header-left : (i : ℕ) → i < length blocks → slice_get (headers (blocks ++ b ∷ [])) i ≡ Some (header_of (get_or blocks i some_block))
  header-left i within = block_at_place (blocks ++ b ∷ []) i _ (at-left i within)

  id-left : (i : ℕ) → i < length blocks → id_at (blocks ++ b ∷ []) i ≡ id_at blocks i
  id-left i within = id-at (blocks ++ b ∷ []) i _ (header-left i within) ∙ sym (id-at blocks i _ (header-at i within))

  prev-left : (i : ℕ) → i < length blocks → prev_at (blocks ++ b ∷ []) i ≡ prev_at blocks i
  prev-left i within = prev-at (blocks ++ b ∷ []) i _ (header-left i within) ∙ sym (prev-at blocks i _ (header-at i within))

-- what leads to a block is not changed by another one
line-grown : (tree : BlockTree) (h : Header) (q : List ℕ) → (q ≢ h.id) → line (grown tree h) q ≡ line tree q
unfolding line
line-grown tree h q other = ap (λ bs. leading bs q) (reverse-append tree.blocks (h ∷ [])) ∙ leading-behind h (reverse tree.blocks) q other

module _ (blocks : List Block) (b : Block) (tree : IsTree (tree_of blocks)) (new : block_of (headers blocks) b.id.0 ≡ None) where
  other : (i : ℕ) → i < length blocks → id_at blocks i ≢ b.id.0
  other i within same = some_none _ (sym (at_place blocks tree i within).found ∙ ap (block_of (headers blocks)) same ∙ new)
    where
      some_none : (h : Header) → Some h ≡ None → ⊥
      some_none h e = cc

  way-left : (i : ℕ) → i < length blocks → way (blocks ++ b ∷ []) i ≡ way blocks i
  way-left i within =
      ap₂ line (tree_of-push blocks b (nonempty blocks tree)) (id-left blocks b i within)
      ∙ line-grown (tree_of blocks) (header_of b) (id_at blocks i) (other i within)

  cut-left : (start at reach : ℕ) → start < length blocks → at < length blocks → IsCut blocks start at reach → IsCut (blocks ++ b ∷ []) start at reach
  cut-left start at reach within there cut = record {
    beyond = cut.beyond;
    parts = way-left start within ∙ cut.parts ∙ ap (λ ids. ids ++ cut.beyond) (sym (way-left at there));
    later = all-weaker (λ q s. record { place = s.place; is = ap (λ (hs : List Header). place_of hs q) (map-append header_of blocks (b ∷ [])) ∙ place-append (headers blocks) (header_of b ∷ []) q s.place s.is; holds = s.holds }) cut.beyond cut.later;
  }

  pub linked-push : IsTree (tree_of (blocks ++ b ∷ [])) → AreLinked blocks (length blocks) → (before : ℕ) → before < length blocks → id_at blocks before ≡ b.prev.0 → b.links.before ≡ before → b.links.jump ≤ before → IsCut blocks before b.links.jump b.links.jump
      → AreLinked (blocks ++ b ∷ []) (length (blocks ++ b ∷ []))
  linked-push grown linked before earlier prev is back cut place x within at = ⊎_elim older newest (cases_lt place (length blocks))
    where
      older : place < length blocks → IsLinked (blocks ++ b ∷ []) place x.links
      older lt =
          let link = linked place x lt (sym (slice_get-left blocks (b ∷ []) place lt) ∙ at) in
          record {
            earlier = link.earlier;
            prev = λ behind. (let e = link.earlier behind in id-left blocks b x.links.before (omega (arith, e, lt)) ∙ link.prev behind ∙ sym (prev-left blocks b place lt));
            back = link.back;
            cut = cut-left place x.links.jump x.links.jump lt (let e = link.back in omega (arith, e, lt)) link.cut;
          }

      newest : length blocks ≤ place → IsLinked (blocks ++ b ∷ []) place x.links
      newest past =
          let last = slice_get-last blocks b x place past at in
          let here : place ≡ length blocks = last.0 in
          let it = block_at_place (blocks ++ b ∷ []) place x at in
          linked-over (blocks ++ b ∷ []) grown place before x.links within (omega (arith, earlier, here))
          (id-left blocks b before earlier ∙ prev ∙ ap (λ (y : Block). y.prev.0) last.1 ∙ sym (prev-at (blocks ++ b ∷ []) place (header_of x) it))
          (ap (λ (y : Block). y.links.before) (sym last.1) ∙ is)
          (subst (λ (y : Block). y.links.jump ≤ before) last.1 back)
          (subst (λ (y : Block). IsCut (blocks ++ b ∷ []) before y.links.jump y.links.jump) last.1 (cut-left before b.links.jump b.links.jump earlier (omega (arith, earlier, back)) cut))

-- the head alone
pub linked-first : (b : Block) → b.links.jump ≡ 0 → AreLinked (b ∷ []) 1
linked-first b none place x within at = subst (λ (p : ℕ). IsLinked (b ∷ []) p x.links) (sym here) (record {
  earlier = λ behind. absurd (omega (arith, behind));
  prev = λ behind. absurd (omega (arith, behind));
  back = omega (arith, jump);
  cut = subst (λ n. IsCut (b ∷ []) 0 n n) (sym jump) (cut-start (b ∷ []) 0 0);
})
  where
    here : place ≡ 0
    here = omega (arith, within)

    same : Some b ≡ Some x → b ≡ x
    same e = cc

    it : b ≡ x
    it = same (ap (slice_get (b ∷ [])) (sym here) ∙ at)

    jump : x.links.jump ≡ 0
    jump = ap (λ (y : Block). y.links.jump) (sym it) ∙ none

-- ---- one after the other

-- so many are linked, and nothing else has changed
pub record IsLinking (old now : List Block) (count : ℕ) : Type 0 where
  pub headers : headers now ≡ headers old
  pub linked : AreLinked now count

pub linking-none : (blocks : List Block) → IsLinking blocks blocks 0
linking-none blocks = record { headers = refl; linked = λ place block within at. absurd (omega (arith, within)) }

-- the block at a place is linked
module _ (old now : List Block) (i : ℕ) (x : Block) (links : Links) (is : x ≡ get_or now i x) (so_far : IsLinking old now i) where
  same : headers now ≡ headers (set now i (record x { links = links }))
  same = sym (map-set header_of now i (record x { links = links }) ∙ sym (map-set header_of now i x) ∙ ap headers (ap (set now i) is ∙ set-get_or now i x))

  pub linking-more : IsLinked now i links → IsLinking old (set now i (record x { links = links })) (i + 1)
  linking-more link = record {
    headers = sym same ∙ so_far.headers;
    linked = λ place b counted at. ⊎_elim (older place b at) (this place b counted at) (cases_lt place i);
  }
    where
      older : (place : ℕ) (b : Block) → slice_get (set now i (record x { links = links })) place ≡ Some b → place < i → IsLinked (set now i (record x { links = links })) place b.links
      older place b at lt = linked-same now _ same place b.links (so_far.linked place b lt (sym (slice_get-set_other now i place (record x { links = links }) lt) ∙ at))

      this : (place : ℕ) (b : Block) → place < i + 1 → slice_get (set now i (record x { links = links })) place ≡ Some b → i ≤ place → IsLinked (set now i (record x { links = links })) place b.links
      this place b counted at past =
          let here : i ≡ place = omega (arith, counted, past) in
          let it = slice_get-set_same now i (record x { links = links }) b (ap (slice_get (set now i (record x { links = links }))) here ∙ at) in
          subst (λ k. IsLinked (set now i (record x { links = links })) k b.links) here (subst (λ (y : Block). IsLinked (set now i (record x { links = links })) i y.links) it (linked-same now _ same i links link))
