-- What a move makes of the blocks up to a place, as they are gone through in their order.
use Rattle.std.proofs.Common.{◌≡◌, ◌≢◌, ℕ, zero, suc, ◌+◌, ◌<◌, ◌≤◌, Bool, true, false, cond, not, ◌&&◌, ◌||◌, List, [], ◌∷◌, ◌++◌, length, map, take, drop, get_or, None, Some, refl, sym, ◌∙◌, ap, ap₂, arith, IsTrue, ◌↔◌}
use Rattle.std.specs.Option.{option_map}
use Rattle.std.specs.List.{filter, slice_get}
use Rattle.std.specs.Str.{bytes_eq}
use Rattle.std.proofs.lemmas.Bool.{true≢false, false≢true}
use Rattle.std.proofs.lemmas.Option.{get_or_from_slice_get, slice_get-get_or, slice_get-map}
use Rattle.std.proofs.lemmas.List.{append-nil, length-append, length-map, map-append, take_all, take_more}
use Rattle.std.proofs.lemmas.List.Elements.{filter-append}
use Rattle.base_core.specs.declared.hash.Digest.{Digest}
use Rattle.fork_model.specs.Trees.{BlockTree, Header, IsTree, block_of, descends, dropped, ids_of, is_among, line}
use Rattle.fork_model.proofs.Ids.{apart_from, apart_is, same-itself, same_from}
use Rattle.fork_model.proofs.Moves.{or_false}
use Rattle.fork_model.proofs.Descent.{descends-both, descends-itself, descends-over}
use Rattle.fork_model.proofs.Partition.{descends-from_head, line-told}
use Rattle.fork_tree.specs.Kept.{header_of, headers, id_at, prev_at, tree_of}
use Rattle.fork_tree.specs.declared.block.Block.{Block}
use Rattle.fork_tree.proofs.Earlier.{split_at}
use Rattle.fork_tree.proofs.Before.{block_at_place, id-at, prev-at}
use Rattle.fork_tree.proofs.Kept.{length-headers, nonempty}
use Rattle.fork_tree.proofs.Apart.{at_place, head-id, not_head}

-- whether a block is on the line to the new head, and whether a move to it drops the block
abbrev pub is_met : BlockTree → (id : List ℕ) → List ℕ → Bool
is_met tree id other = is_among other (line tree id)

abbrev pub is_gone : BlockTree → (id : List ℕ) → List ℕ → Bool
is_gone tree id other = not (is_among other (line tree id)) && not (descends tree id other)

-- the blocks before a place: who descends from the new head, who is dropped, and how many of the line were met
pub record IsSorted (blocks : List Block) (id : List ℕ) (place : ℕ) (below : List Bool) (gone : List Digest) (met : ℕ) : Type 0 where
  pub stays : below ≡ map (descends (tree_of blocks) id) (take place (ids_of (headers blocks)))
  pub drops : map (λ (d : Digest). d.0) gone ≡ filter (is_gone (tree_of blocks) id) (take place (ids_of (headers blocks)))
  pub count : met ≡ length (filter (is_met (tree_of blocks) id) (take place (ids_of (headers blocks))))

-- ---- lists

slice_get-seam : {X : Type 0} (xs : List X) (x : X) (ys : List X) → slice_get (xs ++ (x ∷ ys)) (length xs) ≡ Some x
slice_get-seam [] x ys = refl
slice_get-seam {X} (z ∷ xs) x ys = slice_get-seam xs x ys

filter_has : {X : Type 0} (p : X → Bool) (xs : List X) (k : ℕ) (x : X) → slice_get (filter p xs) k ≡ Some x → p x ≡ true
filter_has {X} p [] k x e = cc
filter_has {X} p (y ∷ xs) k x e = by_test (p y) refl e (filter_has p xs)
  where
    by_test : (t : Bool) → p y ≡ t → slice_get (cond t (y ∷ filter p xs) (filter p xs)) k ≡ Some x → ((k : ℕ) (x : X) → slice_get (filter p xs) k ≡ Some x → p x ≡ true) → p x ≡ true
    by_test false is e rest = rest k x e
    by_test true is e rest = at k e
      where
        at : (k : ℕ) → slice_get (y ∷ filter p xs) k ≡ Some x → p x ≡ true
        at zero e = let same : y ≡ x = cc in ap p (sym same) ∙ is
        at (suc k) e = rest k x e

slice_get-take : {X : Type 0} (i : ℕ) (xs : List X) (k : ℕ) → k < i → slice_get (take i xs) k ≡ slice_get xs k
slice_get-take {X} zero xs k lt = absurd (omega (arith, lt))
slice_get-take {X} (suc i) [] k lt = refl
slice_get-take {X} (suc i) (x ∷ xs) zero lt = refl
slice_get-take {X} (suc i) (x ∷ xs) (suc k) lt = slice_get-take i xs k (omega (arith, lt))

-- what a filter makes of one more
filter_next : {X : Type 0} (p : X → Bool) (xs : List X) (x : X) (t : Bool) → p x ≡ t → filter p (xs ++ x ∷ []) ≡ filter p xs ++ cond t (x ∷ []) []
filter_next {X} p xs x t e = filter-append p xs (x ∷ []) ∙ ap (λ b. filter p xs ++ cond b (x ∷ []) []) e

module _ (blocks : List Block) (tree : IsTree (tree_of blocks)) (id : List ℕ) (c : Header) (at_id : block_of (headers blocks) id ≡ Some c) where
  pub id_is : (i : ℕ) (d : Block) → i < length blocks → (get_or blocks i d).id.0 ≡ id_at blocks i
  id_is i d within = sym (id-at blocks i (header_of (get_or blocks i d)) (block_at_place blocks i (get_or blocks i d) (slice_get-get_or blocks i d within)))

  within_ids : (i : ℕ) → i < length blocks → i < length (ids_of (headers blocks))
  within_ids i within = let l = length-map (headers blocks) (λ (h : Header). h.id) in let m = length-headers blocks in omega (arith, within, l, m)

  at_ids : (i : ℕ) → i < length blocks → slice_get (ids_of (headers blocks)) i ≡ Some (id_at blocks i)
  at_ids i within = slice_get-get_or (ids_of (headers blocks)) i [] (within_ids i within)

  more : (i : ℕ) → i < length blocks → take (i + 1) (ids_of (headers blocks)) ≡ take i (ids_of (headers blocks)) ++ id_at blocks i ∷ []
  more i within = take_more (ids_of (headers blocks)) i [] (within_ids i within)

  -- ---- the line is met in its order

  met_here : (i met : ℕ) → i < length blocks → met ≡ length (filter (is_met (tree_of blocks) id) (take i (ids_of (headers blocks)))) → is_met (tree_of blocks) id (id_at blocks i) ≡ true → slice_get (line (tree_of blocks) id) met ≡ Some (id_at blocks i)
  met_here i met within count on =
      let xs : List (List ℕ) = ids_of (headers blocks) in
      let p : List ℕ → Bool = is_met (tree_of blocks) id in
      let whole : line (tree_of blocks) id ≡ filter p (take i xs) ++ (id_at blocks i ∷ filter p (drop (suc i) xs))
      = sym (line-told (tree_of blocks) tree id)
      ∙ ap (filter p) (split_at xs i (id_at blocks i) (at_ids i within))
      ∙ filter-append p (take i xs) (id_at blocks i ∷ drop (suc i) xs)
      ∙ ap (λ t. filter p (take i xs) ++ cond t (id_at blocks i ∷ filter p (drop (suc i) xs)) (filter p (drop (suc i) xs))) on in
      ap₂ slice_get whole count ∙ slice_get-seam (filter p (take i xs)) (id_at blocks i) (filter p (drop (suc i) xs))

  on_line : (i met : ℕ) → slice_get (line (tree_of blocks) id) met ≡ Some (id_at blocks i) → is_met (tree_of blocks) id (id_at blocks i) ≡ true
  on_line i met at = filter_has (is_met (tree_of blocks) id) (ids_of (headers blocks)) met (id_at blocks i) (ap (λ l. slice_get l met) (line-told (tree_of blocks) tree id) ∙ at)

  off_line : (i met : ℕ) → i < length blocks → met ≡ length (filter (is_met (tree_of blocks) id) (take i (ids_of (headers blocks)))) → (slice_get (line (tree_of blocks) id) met ≡ Some (id_at blocks i) → ⊥) → is_met (tree_of blocks) id (id_at blocks i) ≡ false
  off_line i met within count apart = by_test (is_met (tree_of blocks) id (id_at blocks i)) refl
    where
      by_test : (t : Bool) → is_met (tree_of blocks) id (id_at blocks i) ≡ t → is_met (tree_of blocks) id (id_at blocks i) ≡ false
      by_test true e = absurd (apart (met_here i met within count e))
      by_test false e = e

  met-descends : (q : List ℕ) → is_met (tree_of blocks) id q ≡ descends (tree_of blocks) q id
  unfolding descends
  met-descends q = refl

  head-met : is_met (tree_of blocks) id (tree_of blocks).head ≡ true
  head-met = met-descends (tree_of blocks).head ∙ descends-from_head (tree_of blocks) tree id c at_id

  -- the head is on the line, so what is not on it stands behind
  pub off_behind : (i met : ℕ) (below : List Bool) (gone : List Digest) → i < length blocks → IsSorted blocks id i below gone met → (slice_get (line (tree_of blocks) id) met ≡ Some (id_at blocks i) → ⊥) → 0 < i
  off_behind zero met below gone within sorted apart = absurd (true≢false (sym (ap (is_met (tree_of blocks) id) (head-id blocks tree (nonempty blocks tree)) ∙ head-met) ∙ off_line 0 met within sorted.count apart))
  off_behind (suc i) met below gone within sorted apart = omega arith

  -- ---- one block more

  stays_more : (i : ℕ) (below : List Bool) (t : Bool) → i < length blocks → below ≡ map (descends (tree_of blocks) id) (take i (ids_of (headers blocks))) → descends (tree_of blocks) id (id_at blocks i) ≡ t → below ++ t ∷ [] ≡ map (descends (tree_of blocks) id) (take (i + 1) (ids_of (headers blocks)))
  stays_more i below t within before is =
      let d : List ℕ → Bool = descends (tree_of blocks) id in
      ap₂ (λ (bs : List Bool) (b : Bool). bs ++ b ∷ []) before (sym is)
      ∙ sym (ap (map d) (more i within) ∙ map-append d (take i (ids_of (headers blocks))) (id_at blocks i ∷ []))

  filter_more : (p : List ℕ → Bool) (i : ℕ) (t : Bool) → i < length blocks → p (id_at blocks i) ≡ t → filter p (take (i + 1) (ids_of (headers blocks))) ≡ filter p (take i (ids_of (headers blocks))) ++ cond t (id_at blocks i ∷ []) []
  filter_more p i t within is = ap (filter p) (more i within) ∙ filter_next p (take i (ids_of (headers blocks))) (id_at blocks i) t is

  filter_same : (p : List ℕ → Bool) (i : ℕ) → i < length blocks → p (id_at blocks i) ≡ false → filter p (take i (ids_of (headers blocks))) ≡ filter p (take (i + 1) (ids_of (headers blocks)))
  filter_same p i within is = sym (filter_more p i false within is ∙ append-nil (filter p (take i (ids_of (headers blocks)))))

  -- of the line the new head alone descends from it
  met-stays : (i : ℕ) → i < length blocks → is_met (tree_of blocks) id (id_at blocks i) ≡ true → descends (tree_of blocks) id (id_at blocks i) ≡ bytes_eq (id_at blocks i) id
  met-stays i within on = by_id (bytes_eq (id_at blocks i) id) refl (descends (tree_of blocks) id (id_at blocks i)) refl
    where
      q : List ℕ
      q = id_at blocks i

      by_id : (t : Bool) → bytes_eq q id ≡ t → (s : Bool) → descends (tree_of blocks) id q ≡ s → descends (tree_of blocks) id q ≡ bytes_eq q id
      by_id true same s is = ap (descends (tree_of blocks) id) (same_from q id same) ∙ descends-itself (tree_of blocks) tree id c at_id ∙ sym same
      by_id false other false is = is ∙ sym other
      by_id false other true is = absurd (apart_from q id other (descends-both (tree_of blocks) tree q id (at_place blocks tree i within).block c (at_place blocks tree i within).found at_id (sym (met-descends q) ∙ on) is))

  pub sorted-met : (i met : ℕ) (below : List Bool) (gone : List Digest) → i < length blocks → IsSorted blocks id i below gone met → slice_get (line (tree_of blocks) id) met ≡ Some (id_at blocks i) → IsSorted blocks id (i + 1) (below ++ bytes_eq (id_at blocks i) id ∷ []) gone (met + 1)
  sorted-met i met below gone within sorted at =
      let on = on_line i met at in
      let p : List ℕ → Bool = is_met (tree_of blocks) id in
      record {
        stays = stays_more i below _ within sorted.stays (met-stays i within on);
        drops = sorted.drops ∙ filter_same (is_gone (tree_of blocks) id) i within (ap (λ t. not t && not (descends (tree_of blocks) id (id_at blocks i))) on);
        count = ap (λ n. n + 1) sorted.count ∙ sym (ap length (filter_more p i true within on) ∙ length-append (filter p (take i (ids_of (headers blocks)))) (id_at blocks i ∷ []));
      }

  -- whether a block that is not on the line descends, by its prev
  below_prev : (i p : ℕ) → i < length blocks → 0 < i → id_at blocks p ≡ prev_at blocks i → is_met (tree_of blocks) id (id_at blocks i) ≡ false → descends (tree_of blocks) id (id_at blocks i) ≡ descends (tree_of blocks) id (id_at blocks p)
  below_prev i p within behind prev off =
      let a = at_place blocks tree i within in
      let other : id ≢ id_at blocks i = λ same. true≢false (sym (met-descends id ∙ descends-itself (tree_of blocks) tree id c at_id) ∙ ap (is_met (tree_of blocks) id) same ∙ off) in
      descends-over (tree_of blocks) tree id (id_at blocks i) a.block a.found (not_head blocks tree i within behind)
      ∙ ap₂ (λ (k : List ℕ) (t : Bool). descends (tree_of blocks) id k || t) (sym (prev-at blocks i a.block a.is) ∙ sym prev) (apart_is id (id_at blocks i) other)
      ∙ or_false _

  read_below : (i p : ℕ) (below : List Bool) (gone : List Digest) (met : ℕ) (r : Bool) → i < length blocks → p < i → IsSorted blocks id i below gone met → r ≡ get_or below p r → descends (tree_of blocks) id (id_at blocks p) ≡ r
  read_below i p below gone met r within lt sorted is =
      let d : List ℕ → Bool = descends (tree_of blocks) id in
      let at : slice_get below p ≡ Some (d (id_at blocks p))
      = ap (λ b. slice_get b p) sorted.stays
      ∙ slice_get-map d (take i (ids_of (headers blocks))) p
      ∙ ap (option_map d) (slice_get-take i (ids_of (headers blocks)) p lt ∙ at_ids p (omega (arith, lt, within))) in
      sym (is ∙ get_or_from_slice_get below p (d (id_at blocks p)) r at)

  module _ (i p met : ℕ) (below : List Bool) (gone : List Digest) (r : Bool) (within : i < length blocks) (sorted : IsSorted blocks id i below gone met) (apart : slice_get (line (tree_of blocks) id) met ≡ Some (id_at blocks i) → ⊥) (prev : id_at blocks p ≡ prev_at blocks i) (lt : p < i) (is : r ≡ get_or below p r) where
    off : is_met (tree_of blocks) id (id_at blocks i) ≡ false
    off = off_line i met within sorted.count apart

    falls : descends (tree_of blocks) id (id_at blocks i) ≡ r
    falls = below_prev i p within (omega (arith, lt)) prev off ∙ read_below i p below gone met r within lt sorted is

    pub sorted-below : r ≡ true → IsSorted blocks id (i + 1) (below ++ true ∷ []) gone met
    sorted-below stay = record {
      stays = stays_more i below true within sorted.stays (falls ∙ stay);
      drops = sorted.drops ∙ filter_same (is_gone (tree_of blocks) id) i within (ap₂ (λ (t s : Bool). not t && not s) off (falls ∙ stay));
      count = sorted.count ∙ ap length (filter_same (is_met (tree_of blocks) id) i within off);
    }

    pub sorted-gone : (x : Digest) → r ≡ false → x.0 ≡ id_at blocks i → IsSorted blocks id (i + 1) (below ++ false ∷ []) (gone ++ x ∷ []) met
    sorted-gone x go same = record {
      stays = stays_more i below false within sorted.stays (falls ∙ go);
      drops = map-append (λ (k : Digest). k.0) gone (x ∷ [])
          ∙ ap₂ (λ (ks : List (List ℕ)) (k : List ℕ). ks ++ k ∷ []) sorted.drops same
          ∙ sym (filter_more (is_gone (tree_of blocks) id) i true within (ap₂ (λ (t s : Bool). not t && not s) off (falls ∙ go)));
      count = sorted.count ∙ ap length (filter_same (is_met (tree_of blocks) id) i within off);
    }

  pub sorted-all : (i met : ℕ) (below : List Bool) (gone : List Digest) → length blocks ≤ i → IsSorted blocks id i below gone met → map (λ (k : Digest). k.0) gone ≡ dropped (tree_of blocks) id
  unfolding dropped
  sorted-all i met below gone past sorted =
      let l = length-map (headers blocks) (λ (h : Header). h.id) in
      let m = length-headers blocks in
      sorted.drops ∙ ap (filter (is_gone (tree_of blocks) id)) (take_all i (ids_of (headers blocks)) (omega (arith, past, l, m)))

-- ---- as the code tells it

pub sorted-as : (blocks : List Block) (id : List ℕ) (place : ℕ) (below as_below : List Bool) (gone as_gone : List Digest) (met as_met : ℕ) → IsSorted blocks id place below gone met → as_below ≡ below → as_gone ≡ gone → as_met ≡ met → IsSorted blocks id place as_below as_gone as_met
sorted-as blocks id place below as_below gone as_gone met as_met sorted e f g = record {
  stays = e ∙ sorted.stays;
  drops = ap (map (λ (k : Digest). k.0)) f ∙ sorted.drops;
  count = g ∙ sorted.count;
}

pub next-at : (l m : List (List ℕ)) (met : ℕ) (k q : List ℕ) (r : Bool) → l ≡ m → k ≡ q → (IsTrue r → slice_get l met ≡ Some k) → r ≡ true → slice_get m met ≡ Some q
next-at l m met k q r same key is e = ap (λ x. slice_get x met) (sym same) ∙ is e ∙ ap Some key

pub next-apart : (l m : List (List ℕ)) (met : ℕ) (k q : List ℕ) (r : Bool) → l ≡ m → k ≡ q → (slice_get l met ≡ Some k → IsTrue r) → r ≡ false → slice_get m met ≡ Some q → ⊥
next-apart l m met k q r same key is e at = false≢true (sym e ∙ is (ap (λ x. slice_get x met) same ∙ at ∙ ap Some (sym key)))

pub next_some : (ids : List Digest) (place : ℕ) (next : Digest) (id : List ℕ) (r : Bool) → slice_get ids place ≡ Some next → r ≡ bytes_eq next.0 id → IsTrue r ↔ (slice_get (map (λ (k : Digest). k.0) ids) place ≡ Some id)
next_some ids place next id r at is =
    let shown : slice_get (map (λ (k : Digest). k.0) ids) place ≡ Some next.0 = slice_get-map (λ (k : Digest). k.0) ids place ∙ ap (option_map (λ (k : Digest). k.0)) at in (
      λ e. shown ∙ ap Some (same_from next.0 id (sym is ∙ e)),
      λ e. is ∙ ap (bytes_eq next.0) (sym (some_same (sym shown ∙ e))) ∙ same-itself next.0,
    )
  where
    some_same : Some next.0 ≡ Some id → next.0 ≡ id
    some_same e = cc

pub next_none : (ids : List Digest) (place : ℕ) (id : List ℕ) → slice_get ids place ≡ None → IsTrue false ↔ (slice_get (map (λ (k : Digest). k.0) ids) place ≡ Some id)
next_none ids place id at =
    (λ e. absurd (false≢true e), λ e. absurd (none_some (sym (slice_get-map (λ (k : Digest). k.0) ids place ∙ ap (option_map (λ (k : Digest). k.0)) at) ∙ e)))
  where
    none_some : None ≡ Some id → ⊥
    none_some e = cc
