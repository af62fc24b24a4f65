-- Places of blocks by their ids, and what stands there.
use Rattle.std.proofs.Common.{◌≡◌, ◌≢◌, ℕ, suc, ◌+◌, ◌<◌, Bool, true, false, cond, List, [], ◌∷◌, ◌++◌, length, Option, None, Some, is_some, ⊎_elim, refl, sym, ◌∙◌, ap, subst, arith}
use Rattle.std.specs.Option.{option_map, option_or}
use Rattle.std.specs.List.{slice_get}
use Rattle.std.specs.Str.{bytes_eq}
use Rattle.fork_model.specs.Trees.{Header, block_of}
use Rattle.fork_model.proofs.Ids.{found, same-itself, apart_is, same_or_other, found-here, found-behind}
use Rattle.fork_model.proofs.Lines.{id_key}
use Rattle.fork_tree.specs.Kept.{place_of}

pub place-here : (b : Header) (bs : List Header) (q : List ℕ) → q ≡ b.id → place_of (b ∷ bs) q ≡ Some 0
unfolding place_of
place-here b bs q same = ap (λ t. cond t (Some 0) (option_map (λ n. n + 1) (place_of bs q))) (ap (λ k. bytes_eq k b.id) same ∙ same-itself b.id)

pub place-behind : (b : Header) (bs : List Header) (q : List ℕ) → (q ≢ b.id) → place_of (b ∷ bs) q ≡ option_map (λ n. n + 1) (place_of bs q)
unfolding place_of
place-behind b bs q other = ap (λ t. cond t (Some 0) (option_map (λ n. n + 1) (place_of bs q))) (apart_is q b.id other)

pub place-nil : (q : List ℕ) → place_of [] q ≡ None
unfolding place_of
place-nil q = refl

-- a block has a place where it is found
pub place-live : (bs : List Header) (q : List ℕ) → is_some (place_of bs q) ≡ is_some (block_of bs q)
unfolding place_of block_of
place-live [] q = refl
place-live (b ∷ bs) q = by_test (bytes_eq q b.id) (place-live bs q)
  where
    moved : (o : Option ℕ) → is_some (option_map (λ n. n + 1) o) ≡ is_some o
    moved None = refl
    moved (Some n) = refl

    by_test : (t : Bool) → is_some (place_of bs q) ≡ is_some (found id_key bs q) → is_some (cond t (Some 0) (option_map (λ n. n + 1) (place_of bs q))) ≡ is_some (cond t (Some b) (found id_key bs q))
    by_test true rest = refl
    by_test false rest = moved (place_of bs q) ∙ rest

-- what stands at the place of an id
pub record StandsAt (bs : List Header) (q : List ℕ) (place : ℕ) : Type 0 where
  pub block : Header
  pub is : slice_get bs place ≡ Some block
  pub found : block_of bs q ≡ Some block
  pub within : place < length bs

stands-none : (bs : List Header) (q : List ℕ) (place : ℕ) → None ≡ Some place → StandsAt bs q place
stands-none bs q place e = cc

one_less : (o : Option ℕ) (place : ℕ) → option_map (λ n. n + 1) o ≡ Some place → (n : ℕ) × (o ≡ Some n) × (place ≡ suc n)
one_less None place e = cc
one_less (Some n) place e = let s : n + 1 ≡ place = cc in (n, refl, omega (arith, s))

pub stands_at : (bs : List Header) (q : List ℕ) (place : ℕ) → place_of bs q ≡ Some place → StandsAt bs q place
unfolding block_of
stands_at [] q place e = stands-none [] q place (sym (place-nil q) ∙ e)
stands_at (b ∷ bs) q place e =
    ⊎_elim
    (λ (same : q ≡ b.id).
    let zero_place : 0 ≡ place = cc (place-here b bs q same, e) in
    subst (StandsAt (b ∷ bs) q) zero_place (record { block = b; is = refl; found = found-here id_key b bs q same; within = omega arith }))
    (λ (other : q ≢ b.id).
    let less = one_less (place_of bs q) place (sym (place-behind b bs q other) ∙ e) in
    behind other less.0 less.2 (stands_at bs q less.0 less.1))
    (same_or_other q b.id)
  where
    behind : (q ≢ b.id) → (n : ℕ) → place ≡ suc n → StandsAt bs q n → StandsAt (b ∷ bs) q place
    behind other n is rest =
        let w = rest.within in
        subst (StandsAt (b ∷ bs) q) (sym is) (record { block = rest.block; is = rest.is; found = found-behind id_key b bs q other ∙ rest.found; within = omega (arith, w) })

-- with one block more behind them
pub place-push : (bs : List Header) (b : Header) (q : List ℕ) → place_of (bs ++ b ∷ []) q ≡ option_or (place_of bs q) (cond (bytes_eq q b.id) (Some (length bs)) None)
unfolding place_of
place-push [] b q = refl
place-push (c ∷ bs) b q = by_test (bytes_eq q c.id) (place-push bs b q)
  where
    shifted : (o : Option ℕ) (t : Bool) → option_map (λ n. n + 1) (option_or o (cond t (Some (length bs)) None)) ≡ option_or (option_map (λ n. n + 1) o) (cond t (Some (length (c ∷ bs))) None)
    shifted None true = ap Some (let e : length bs + 1 ≡ length (c ∷ bs) = omega arith in e)
    shifted None false = refl
    shifted (Some n) t = refl

    by_test : (t : Bool) → place_of (bs ++ b ∷ []) q ≡ option_or (place_of bs q) (cond (bytes_eq q b.id) (Some (length bs)) None) → cond t (Some 0) (option_map (λ n. n + 1) (place_of (bs ++ b ∷ []) q)) ≡ option_or (cond t (Some 0) (option_map (λ n. n + 1) (place_of bs q))) (cond (bytes_eq q b.id) (Some (length (c ∷ bs))) None)
    by_test true rest = refl
    by_test false rest = ap (option_map (λ n. n + 1)) rest ∙ shifted (place_of bs q) (bytes_eq q b.id)

pub place-append : (xs ys : List Header) (q : List ℕ) (place : ℕ) → place_of xs q ≡ Some place → place_of (xs ++ ys) q ≡ Some place
unfolding place_of
place-append [] ys q place e = absurd (none_some e)
  where
    none_some : None ≡ Some place → ⊥
    none_some e = cc
place-append (x ∷ xs) ys q place e = by_test (bytes_eq q x.id) e (place-append xs ys q)
  where
    by_test : (t : Bool) → cond t (Some 0) (option_map (λ n. n + 1) (place_of xs q)) ≡ Some place → ((n : ℕ) → place_of xs q ≡ Some n → place_of (xs ++ ys) q ≡ Some n) → cond t (Some 0) (option_map (λ n. n + 1) (place_of (xs ++ ys) q)) ≡ Some place
    by_test true e more = e
    by_test false e more =
        let less = one_less (place_of xs q) place e in
        let next : less.0 + 1 ≡ place = (let s = less.2 in omega (arith, s)) in
        ap (option_map (λ n. n + 1)) (more less.0 less.1) ∙ ap Some next
