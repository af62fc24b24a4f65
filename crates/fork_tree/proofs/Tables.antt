-- The table as ids are taken from it and places are written over.
use Rattle.std.proofs.Common.{◌≡◌, ℕ, ◌+◌, ◌<◌, Bool, true, false, cond, ◌&&◌, ◌||◌, List, [], ◌∷◌, length, map, take, drop, get_or, Option, None, Some, is_some, refl, sym, ◌∙◌, ap, arith}
use Rattle.std.specs.Option.{option_or}
use Rattle.std.specs.Str.{bytes_eq}
use Rattle.std.proofs.lemmas.Bool.{true≢false, false≢true}
use Rattle.std.proofs.lemmas.Option.{slice_get-get_or}
use Rattle.std.proofs.lemmas.List.{length-take-le, map-append, take-append-drop, take_more}
use Rattle.base_core.specs.declared.hash.Digest.{Digest}
use Rattle.fork_model.specs.Trees.{Header, is_among}
use Rattle.fork_model.proofs.Ids.{same_from}
use Rattle.fork_model.proofs.Moves.{among-push}
use Rattle.fork_tree.specs.Kept.{header_of, headers, id_at, place_of}
use Rattle.fork_tree.specs.declared.block.Block.{Block}
use Rattle.fork_tree.proofs.Before.{block_at_place, id-at}
use Rattle.fork_tree.proofs.Kept.{length-headers, turned}
use Rattle.fork_tree.proofs.Places.{place-append, place-push, stands_at}

-- a place that is written over one that is there
pub written : (old : List ℕ → Option ℕ) (id : List ℕ) (place former : ℕ) → old id ≡ Some former → (q : List ℕ) → cond (bytes_eq id q) (Some place) (old q) ≡ cond (is_some (old q) && bytes_eq id q) (Some place) (old q)
written old id place former is q = by_test (bytes_eq id q) refl
  where
    none : (t : Bool) → (t && false) ≡ false
    none true = refl
    none false = refl

    by_test : (t : Bool) → bytes_eq id q ≡ t → cond t (Some place) (old q) ≡ cond (is_some (old q) && t) (Some place) (old q)
    by_test true e = let there : is_some (old q) ≡ true = ap is_some (ap old (sym (same_from id q e)) ∙ is) in sym (ap (λ s. cond (s && true) (Some place) (old q)) there)
    by_test false e = sym (ap (λ s. cond s (Some place) (old q)) (none (is_some (old q))))

-- one id more that is taken
pub taken_more : (s t u : Bool) (o : Option ℕ) → s ≡ u → cond s None (cond t None o) ≡ cond (t || u) None o
taken_more true true u o e = refl
taken_more true false u o e = ap (λ x. cond x None o) e
taken_more false true u o e = refl
taken_more false false u o e = ap (λ x. cond x None o) e

pub among_more : (ids : List Digest) (i : ℕ) (d : Digest) → i < length ids → (q : List ℕ) → is_among q (map (λ (id : Digest). id.0) (take (i + 1) ids)) ≡ (is_among q (map (λ (id : Digest). id.0) (take i ids)) || bytes_eq q (get_or ids i d).0)
among_more ids i d within q =
    ap (λ (xs : List Digest). is_among q (map (λ (id : Digest). id.0) xs)) (take_more ids i d within)
    ∙ ap (is_among q) (map-append (λ (id : Digest). id.0) (take i ids) (get_or ids i d ∷ []))
    ∙ among-push q (map (λ (id : Digest). id.0) (take i ids)) (get_or ids i d).0

-- ---- places are written over in the order of blocks

pub none_placed : (blocks : List Block) (q : List ℕ) (o : Option ℕ) → o ≡ cond (is_some o) (option_or (place_of (headers (take 0 blocks)) q) o) None
unfolding place_of
none_placed blocks q None = refl
none_placed blocks q (Some n) = refl

pub place_more : (blocks : List Block) (i : ℕ) (d : Block) → i < length blocks → (q : List ℕ) → place_of (headers (take (i + 1) blocks)) q ≡ option_or (place_of (headers (take i blocks)) q) (cond (bytes_eq q (get_or blocks i d).id.0) (Some i) None)
place_more blocks i d within q =
    ap (λ (xs : List Block). place_of (headers xs) q) (take_more blocks i d within)
    ∙ ap (λ (hs : List Header). place_of hs q) (map-append header_of (take i blocks) (get_or blocks i d ∷ []))
    ∙ place-push (headers (take i blocks)) (header_of (get_or blocks i d)) q
    ∙ ap (λ n. option_or (place_of (headers (take i blocks)) q) (cond (bytes_eq q (get_or blocks i d).id.0) (Some n) None)) (length-headers (take i blocks) ∙ length-take-le i blocks (omega (arith, within)))

-- a block's id has no place among those before it
pub not_yet : (blocks : List Block) (i : ℕ) (d : Block) → i < length blocks → place_of (headers blocks) (id_at blocks i) ≡ Some i → (q : List ℕ) → bytes_eq q (get_or blocks i d).id.0 ≡ true → place_of (headers (take i blocks)) q ≡ None
not_yet blocks i d within apart q same = by_case (place_of (headers (take i blocks)) q) refl
  where
    x : Block
    x = get_or blocks i d

    is_id : q ≡ id_at blocks i
    is_id = same_from q x.id.0 same ∙ sym (id-at blocks i (header_of x) (block_at_place blocks i x (slice_get-get_or blocks i d within)))

    by_case : (o : Option ℕ) → place_of (headers (take i blocks)) q ≡ o → place_of (headers (take i blocks)) q ≡ None
    by_case None e = e
    by_case (Some n) e =
        let lower = (stands_at (headers (take i blocks)) q n e).within in
        let len = length-headers (take i blocks) ∙ length-take-le i blocks (omega (arith, within)) in
        let whole : place_of (headers blocks) q ≡ Some n
        = ap (λ (xs : List Block). place_of (headers xs) q) (sym (take-append-drop i blocks))
        ∙ ap (λ hs. place_of hs q) (map-append header_of (take i blocks) (drop i blocks))
        ∙ place-append (headers (take i blocks)) (headers (drop i blocks)) q n e in
        absurd (two (sym whole ∙ ap (place_of (headers blocks)) is_id ∙ apart) lower len)
      where
        two : Some n ≡ Some i → n < length (headers (take i blocks)) → length (headers (take i blocks)) ≡ i → ⊥
        two e l m = let n_is : n ≡ i = cc in omega (arith, n_is, l, m)

pub put_more : (o p : Option ℕ) (s u : Bool) (i : ℕ) → s ≡ u → (u ≡ true → p ≡ None) → cond (is_some (cond (is_some o) (option_or p o) None) && s) (Some i) (cond (is_some o) (option_or p o) None) ≡ cond (is_some o) (option_or (option_or p (cond u (Some i) None)) o) None
put_more None p s u i e new = refl
put_more (Some v) None true true i e new = refl
put_more (Some v) None false false i e new = refl
put_more (Some v) None true false i e new = absurd (true≢false e)
put_more (Some v) None false true i e new = absurd (false≢true e)
put_more (Some v) (Some n) true u i e new = absurd (some_none (new (sym e)))
  where
    some_none : Some n ≡ None → ⊥
    some_none e = cc
put_more (Some v) (Some n) false u i e new = refl

-- one block more has its place
pub put_step : (blocks : List Block) (i : ℕ) (d : Block) → i < length blocks → place_of (headers blocks) (id_at blocks i) ≡ Some i → (first now after : List ℕ → Option ℕ) → ((q : List ℕ) → now q ≡ cond (is_some (first q)) (option_or (place_of (headers (take i blocks)) q) (first q)) None) → ((q : List ℕ) → after q ≡ cond (is_some (now q) && bytes_eq (get_or blocks i d).id.0 q) (Some i) (now q)) → (q : List ℕ) → after q ≡ cond (is_some (first q)) (option_or (place_of (headers (take (i + 1) blocks)) q) (first q)) None
put_step blocks i d within apart first now after before put q =
    put q
    ∙ ap (λ o. cond (is_some o && bytes_eq (get_or blocks i d).id.0 q) (Some i) o) (before q)
    ∙ put_more (first q) (place_of (headers (take i blocks)) q) (bytes_eq (get_or blocks i d).id.0 q) (bytes_eq q (get_or blocks i d).id.0) i (turned (get_or blocks i d).id.0 q) (not_yet blocks i d within apart q)
    ∙ ap (λ o. cond (is_some (first q)) (option_or o (first q)) None) (sym (place_more blocks i d within q))
