-- The way from a block to the head is gone, in search of the nearest of some blocks.
use Rattle.std.proofs.Common.{◌≡◌, ℕ, zero, suc, ◌-◌, ◌≤◌, ◌<◌, Bool, true, false, ◌||◌, List, [], ◌∷◌, ◌++◌, length, map, drop, get_or, Some, is_some, ◌⊎◌, inl, inr, ⊎_elim, refl, sym, ◌∙◌, ap, subst, arith}
use Rattle.std.specs.List.{AllByRecursion}
use Rattle.std.specs.Str.{bytes_eq}
use Rattle.std.proofs.lemmas.Bool.{false≢true}
use Rattle.std.proofs.lemmas.Option.{slice_get-get_or}
use Rattle.std.proofs.lemmas.List.{append_assoc}
use Rattle.std.proofs.lemmas.List.Folds.{list_any-append}
use Rattle.byte_model.proofs.Lists.{AllByRecursion-append}
use Rattle.base_core.specs.declared.hash.Digest.{Digest}
use Rattle.fork_model.specs.Trees.{BlockTree, is_among, line}
use Rattle.fork_model.proofs.Ids.{same_from, same-itself}
use Rattle.fork_tree.specs.declared.block.Block.{Block}
use Rattle.fork_tree.specs.declared.nearest.Search.{Search}
use Rattle.fork_tree.specs.Kept.{IsCut, IsKept, Stands, header_of, headers, id_at, place_of, placed, prev_at, tree_of, way}
use Rattle.fork_tree.specs.Nearest.{IsNearest, NotNearer, IsSearch}
use Rattle.fork_tree.proofs.Cuts.{all-weaker, cut-start}
use Rattle.fork_tree.proofs.Before.{block_at_place, id-at, links-at}
use Rattle.fork_tree.proofs.Planned.{place-id}
use Rattle.fork_tree.proofs.Apart.{at_place, head-id, line-at, line-first, places_apart, some_block}

-- ---- lists

pub all-among : (P : List ℕ → Type 0) (xs : List (List ℕ)) (q : List ℕ) → AllByRecursion P xs → is_among q xs ≡ true → P q
all-among P [] q all e = absurd (false≢true e)
all-among P (x ∷ xs) q all e = by_test (bytes_eq q x) refl (all-among P xs q all.1)
  where
    by_test : (t : Bool) → bytes_eq q x ≡ t → (is_among q xs ≡ true → P q) → P q
    by_test true same rest = subst P (sym (same_from q x same)) all.0
    by_test false other rest = rest (sym (ap (λ t. t || is_among q xs) other) ∙ e)

or-true : (t : Bool) → (t || true) ≡ true
or-true true = refl
or-true false = refl

pub among-middle : (pre xs : List (List ℕ)) (q : List ℕ) → is_among q (pre ++ q ∷ xs) ≡ true
among-middle pre xs q = list_any-append (bytes_eq q) pre (q ∷ xs) ∙ ap (λ t. is_among q pre || (t || is_among q xs)) (same-itself q) ∙ or-true (is_among q pre)

among-parts : (xs ys : List (List ℕ)) (q : List ℕ) → is_among q (xs ++ ys) ≡ true → (is_among q xs ≡ true) ⊎ (is_among q ys ≡ true)
among-parts xs ys q e = by_test (is_among q xs) refl (sym (list_any-append (bytes_eq q) xs ys) ∙ e)
  where
    by_test : (t : Bool) → is_among q xs ≡ t → (is_among q xs || is_among q ys) ≡ true → (is_among q xs ≡ true) ⊎ (is_among q ys ≡ true)
    by_test true same f = inl same
    by_test false other f = inr (sym (ap (λ t. t || is_among q ys) other) ∙ f)

-- ---- the way

same-place : (blocks : List Block) (q : List ℕ) (n m : ℕ) → place_of (headers blocks) q ≡ Some n → place_of (headers blocks) q ≡ Some m → n ≡ m
same-place blocks q n m e f = one (sym e ∙ f)
  where
    one : Some n ≡ Some m → n ≡ m
    one e = cc

module _ (blocks : List Block) (entries : List (Digest × ℕ)) (kept : IsKept blocks entries) where
  -- no block of the way stands behind the one to which it leads
  low : (most at : ℕ) → at ≤ most → at < length blocks → AllByRecursion (Stands blocks (λ p. p ≤ at)) (way blocks at)
  low most zero few within =
      subst (AllByRecursion (Stands blocks (λ p. p ≤ 0))) (sym (line-first blocks kept.tree within)) (record { place = 0; is = places_apart blocks kept.tree 0 within; holds = omega arith }, tt)
  low zero (suc at) few within = absurd (omega (arith, few))
  low (suc most) (suc at) few within =
      let x : Block = get_or blocks (suc at) some_block in
      let behind : 0 < suc at = omega arith in
      let earlier : x.links.before < suc at = (links-at blocks (length blocks) kept.linked (suc at) some_block within within).earlier behind in
      let rest : AllByRecursion (Stands blocks (λ p. p ≤ x.links.before)) (way blocks x.links.before) = low most x.links.before (omega (arith, earlier, few)) (omega (arith, earlier, within)) in
      let is : id_at blocks x.links.before ≡ prev_at blocks (suc at) = (links-at blocks (length blocks) kept.linked (suc at) some_block within within).prev behind in
      subst (AllByRecursion (Stands blocks (λ p. p ≤ suc at))) (sym (line-at blocks kept.tree (suc at) within behind ∙ ap (λ q. line (tree_of blocks) q ++ id_at blocks (suc at) ∷ []) (sym is)))
      (AllByRecursion-append (Stands blocks (λ p. p ≤ suc at)) (way blocks x.links.before) (id_at blocks (suc at) ∷ [])
      (all-weaker (λ q s. record { place = s.place; is = s.is; holds = from_parts x.links.before s.place earlier s.holds }) (way blocks x.links.before) rest)
      (record { place = suc at; is = places_apart blocks kept.tree (suc at) within; holds = omega arith }, tt))
    where
      from_parts : (n p : ℕ) → n < suc at → p ≤ n → p ≤ suc at
      from_parts n p h k = omega (arith, h, k)

  -- all blocks but the head stand behind it
  behind_head : (most at : ℕ) → at ≤ most → at < length blocks → IsCut blocks at 0 0
  behind_head most zero few within = cut-start blocks 0 0
  behind_head zero (suc at) few within = absurd (omega (arith, few))
  behind_head (suc most) (suc at) few within =
      let x : Block = get_or blocks (suc at) some_block in
      let behind : 0 < suc at = omega arith in
      let earlier : x.links.before < suc at = (links-at blocks (length blocks) kept.linked (suc at) some_block within within).earlier behind in
      let rest : IsCut blocks x.links.before 0 0 = behind_head most x.links.before (omega (arith, earlier, few)) (omega (arith, earlier, within)) in
      let is : id_at blocks x.links.before ≡ prev_at blocks (suc at) = (links-at blocks (length blocks) kept.linked (suc at) some_block within within).prev behind in
      record {
        beyond = rest.beyond ++ id_at blocks (suc at) ∷ [];
        parts = line-at blocks kept.tree (suc at) within behind ∙ ap (λ q. line (tree_of blocks) q ++ id_at blocks (suc at) ∷ []) (sym is)
            ∙ ap (λ ids. ids ++ id_at blocks (suc at) ∷ []) rest.parts ∙ append_assoc (way blocks 0) rest.beyond (id_at blocks (suc at) ∷ []);
        later = AllByRecursion-append (Stands blocks (λ p. 0 < p)) rest.beyond (id_at blocks (suc at) ∷ []) rest.later (record { place = suc at; is = places_apart blocks kept.tree (suc at) within; holds = behind }, tt);
      }

  -- ---- the search

  pub search-start : (start : ℕ) → start < length blocks → IsSearch blocks start [] (record { at = start; reach = start; nearest = 0 })
  search-start start within = record {
    within = within;
    there = omega (arith, within);
    cut = cut-start blocks start start;
    best = behind_head start start (omega arith) within;
    told = tt;
    one = inl refl;
  }

  -- one that is not live, or not nearer than another
  pub search-past : (start : ℕ) (met : List (List ℕ)) (q : List ℕ) (search : Search) → ((p : ℕ) → placed entries q ≡ Some p → p ≤ search.nearest) → IsSearch blocks start met search → IsSearch blocks start (q ∷ met) search
  search-past start met q search few is = record {
    within = is.within;
    there = is.there;
    cut = is.cut;
    best = is.best;
    told = (λ p e f. few p (kept.places q ∙ e), is.told);
    one = more q met search is.one;
  }
    where
      more : (q : List ℕ) (met : List (List ℕ)) (search : Search) → (search.nearest ≡ 0) ⊎ (is_among (id_at blocks search.nearest) met ≡ true) → (search.nearest ≡ 0) ⊎ (is_among (id_at blocks search.nearest) (q ∷ met) ≡ true)
      more q met search (inl e) = inl e
      more q met search (inr e) = inr (ap (λ t. bytes_eq (id_at blocks search.nearest) q || t) e ∙ or-true (bytes_eq (id_at blocks search.nearest) q))

  -- one that is nearer
  pub search-found : (start : ℕ) (met : List (List ℕ)) (q : List ℕ) (search : Search) (place : ℕ) → placed entries q ≡ Some place → id_at blocks place ≡ q → place < length blocks → search.nearest < place
      → IsCut blocks start place place → IsSearch blocks start met search → IsSearch blocks start (q ∷ met) (record { at = place; reach = place; nearest = place })
  search-found start met q search place at there within nearer cut is = record {
    within = within;
    there = within;
    cut = cut;
    best = cut;
    told = (λ p e f. same p (same-place blocks q p place e (sym (kept.places q) ∙ at)), all-weaker (λ r not p e f. further p (not p e f)) met is.told);
    one = inr (ap (λ k. is_among k (q ∷ met)) there ∙ ap (λ t. t || is_among q met) (same-itself q));
  }
    where
      same : (p : ℕ) → p ≡ place → p ≤ place
      same p e = omega (arith, e)

      further : (p : ℕ) → p ≤ search.nearest → p ≤ place
      further p e = omega (arith, e, nearer)

  -- one that is not on the way
  pub search-missed : (start : ℕ) (met : List (List ℕ)) (q : List ℕ) (search : Search) (place at : ℕ) → placed entries q ≡ Some place → at < length blocks → at < place
      → IsCut blocks start at place → IsSearch blocks start met search → IsSearch blocks start (q ∷ met) (record { at = at; reach = place; nearest = search.nearest })
  search-missed start met q search place at placed_at within before cut is =
      record {
        within = within;
        there = is.there;
        cut = cut;
        best = is.best;
        told = (λ p e f. absurd (off (sym (ap (is_among q) cut.parts) ∙ f)), is.told);
        one = more is.one;
      }
    where
      more : (search.nearest ≡ 0) ⊎ (is_among (id_at blocks search.nearest) met ≡ true) → (search.nearest ≡ 0) ⊎ (is_among (id_at blocks search.nearest) (q ∷ met) ≡ true)
      more (inl e) = inl e
      more (inr e) = inr (ap (λ t. bytes_eq (id_at blocks search.nearest) q || t) e ∙ or-true (bytes_eq (id_at blocks search.nearest) q))

      is_placed : place_of (headers blocks) q ≡ Some place
      is_placed = sym (kept.places q) ∙ placed_at

      clash : (n : ℕ) → n ≡ place → n ≤ at → ⊥
      clash n e f = omega (arith, e, f, before)

      clash-later : (n : ℕ) → n ≡ place → place < n → ⊥
      clash-later n e f = omega (arith, e, f)

      off : is_among q (way blocks at ++ cut.beyond) ≡ true → ⊥
      off on =
          ⊎_elim
          (λ (e : is_among q (way blocks at) ≡ true). (let s : Stands blocks (λ p. p ≤ at) q = all-among (Stands blocks (λ p. p ≤ at)) (way blocks at) q (low at at (omega arith) within) e in clash s.place (same-place blocks q s.place place s.is is_placed) s.holds))
          (λ (e : is_among q cut.beyond ≡ true). (let s : Stands blocks (λ p. place < p) q = all-among (Stands blocks (λ p. place < p)) cut.beyond q cut.later e in clash-later s.place (same-place blocks q s.place place s.is is_placed) s.holds))
          (among-parts (way blocks at) cut.beyond q on)

  -- what is found in the end
  pub search-end : (start : ℕ) (met : List (List ℕ)) (search : Search) → 0 < length blocks → IsSearch blocks start met search → IsNearest (tree_of blocks) met (id_at blocks start) (id_at blocks search.nearest)
  search-end start met search some is = record {
    beyond = is.best.beyond;
    way = is.best.parts;
    others = none (way blocks search.nearest) is.best.beyond is.best.parts is.best.later;
    one = first is.one;
    live = ap is_some (at_place blocks kept.tree search.nearest is.there).found;
  }
    where
      first : (search.nearest ≡ 0) ⊎ (is_among (id_at blocks search.nearest) met ≡ true) → (id_at blocks search.nearest ≡ (tree_of blocks).head) ⊎ (is_among (id_at blocks search.nearest) met ≡ true)
      first (inl e) = inl (ap (id_at blocks) e ∙ head-id blocks kept.tree some)
      first (inr e) = inr e

      clash : (p : ℕ) → search.nearest < p → p ≤ search.nearest → ⊥
      clash p e f = omega (arith, e, f)

      none : (pre xs : List (List ℕ)) → way blocks start ≡ pre ++ xs → AllByRecursion (Stands blocks (λ p. search.nearest < p)) xs → AllByRecursion (λ q. is_among q met ≡ false) xs
      none pre [] parts all = tt
      none pre (x ∷ xs) parts all = (by_test (is_among x met) refl, none (pre ++ x ∷ []) xs (parts ∙ sym (append_assoc pre (x ∷ []) xs)) all.1)
        where
          by_test : (t : Bool) → is_among x met ≡ t → is_among x met ≡ false
          by_test true e =
              let on : is_among x (way blocks start) ≡ true = ap (is_among x) parts ∙ among-middle pre xs x in
              absurd (clash all.0.place all.0.holds (all-among (NotNearer blocks start search.nearest) met x is.told e all.0.place all.0.is on))
          by_test false e = e

-- the last of some ids is taken first
abbrev id_of : Digest → List ℕ
id_of id = id.0

drop-at : (ids : List Digest) (i : ℕ) (d : Digest) → i < length ids → map id_of (drop i ids) ≡ (get_or ids i d).0 ∷ map id_of (drop (suc i) ids)
drop-at [] i d within = absurd (omega (arith, within))
drop-at (x ∷ xs) zero d within = refl
drop-at (x ∷ xs) (suc i) d within = drop-at xs i d (omega (arith, within))

pub last-first : (ids : List Digest) (left : ℕ) (d : Digest) → 0 < left → left ≤ length ids → map (λ (id : Digest). id.0) (drop (left - 1) ids) ≡ (get_or ids (left - 1) d).0 ∷ map (λ (id : Digest). id.0) (drop left ids)
last-first ids left d some within =
    let again : suc (left - 1) ≡ left = omega (arith, some) in
    drop-at ids (left - 1) d (omega (arith, some, within)) ∙ ap (λ n. (get_or ids (left - 1) d).0 ∷ map (λ (id : Digest). id.0) (drop n ids)) again

pub none-left : (ids : List Digest) → map (λ (id : Digest). id.0) (drop (length ids) ids) ≡ []
none-left [] = refl
none-left (x ∷ xs) = none-left xs

-- ---- the block that is read in the end

read-id : (blocks : List Block) (place : ℕ) (x : Block) → place < length blocks → x ≡ get_or blocks place x → id_at blocks place ≡ x.id.0
read-id blocks place x within is = id-at blocks place (header_of x) (block_at_place blocks place x (slice_get-get_or blocks place x within ∙ ap Some (sym is)))

pub nearest-told : (blocks view : List Block) (entries : List (Digest × ℕ)) (tree : BlockTree) (ids : List (List ℕ)) (q : List ℕ) (start place : ℕ) (x : Block) → IsKept blocks entries → view ≡ blocks → tree_of blocks ≡ tree
    → Some start ≡ placed entries q → place < length view → x ≡ get_or blocks place x → IsNearest (tree_of view) ids (id_at view start) (id_at view place) → IsNearest tree ids q x.id.0
nearest-told blocks view entries tree ids q start place x kept same shown at within is nearest =
    let within : place < length blocks = subst (λ (bs : List Block). place < length bs) same within in
    let of_blocks = subst (λ (bs : List Block). IsNearest (tree_of bs) ids (id_at bs start) (id_at bs place)) same nearest in
    let from_id = subst (λ (k : List ℕ). IsNearest (tree_of blocks) ids k (id_at blocks place)) (place-id blocks entries kept q start at) of_blocks in
    let to_id = subst (λ (k : List ℕ). IsNearest (tree_of blocks) ids q k) (read-id blocks place x within is) from_id in
    subst (λ (t : BlockTree). IsNearest t ids q x.id.0) shown to_id
