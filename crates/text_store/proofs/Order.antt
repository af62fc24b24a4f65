-- The first text out of order, as a loop over places finds it.
use Rattle.std.proofs.Common.{◌≡◌, ℕ, ◌+◌, ◌-◌, ◌<◌, ◌≤◌, Bool, true, false, if◌then◌else◌, List, [], ◌∷◌, length, drop, Bor, slice_get, get_or, None, Some, refl, sym, ap, subst, ◌∙◌, arith}
use Rattle.std.proofs.lemmas.List.{drop_more, length-map}
use Rattle.std.proofs.Math.ListN.{get_or-map, drop_of_length-le}
use Rattle.std.proofs.lemmas.Option.{slice_get-get_or, get_or_from_slice_get}
use Rattle.partial_model.specs.Texts.{is_above, fall_behind, first_fall}
use Rattle.text_store.proofs.Listing.{bytes_of}

-- up to a place no text is out of order
pub record NoFallUpTo (texts : List (List ℕ)) (place : ℕ) : Type 0 where
  pub told : (earlier : List ℕ) → slice_get texts (place - 1) ≡ Some earlier → first_fall texts ≡ fall_behind earlier place (drop place texts)

module _ (texts : List (Bor (List ℕ))) (place : ℕ) (d : Bor (List ℕ)) (from : 1 ≤ place) (within : place < length texts) (h : NoFallUpTo (bytes_of texts) place) where
  long : length (bytes_of texts) ≡ length texts
  long = length-map texts (λ t. t.now)

  before : first_fall (bytes_of texts) ≡ fall_behind (get_or texts (place - 1) d).now place (drop place (bytes_of texts))
  before = h.told _ (slice_get-get_or (bytes_of texts) (place - 1) d.now (omega (arith, long)) ∙ ap Some (get_or-map (λ (t : Bor (List ℕ)). t.now) texts (place - 1) d))

  here : drop place (bytes_of texts) ≡ (get_or texts place d).now ∷ drop (place + 1) (bytes_of texts)
  here = drop_more (bytes_of texts) place d.now (omega (arith, long)) ∙ ap (λ (t : List ℕ). t ∷ drop (place + 1) (bytes_of texts)) (get_or-map (λ (t : Bor (List ℕ)). t.now) texts place d)

  step : first_fall (bytes_of texts) ≡ (if is_above (get_or texts place d).now (get_or texts (place - 1) d).now then fall_behind (get_or texts place d).now (place + 1) (drop (place + 1) (bytes_of texts)) else Some place)
  unfolding fall_behind
  step = before ∙ ap (fall_behind (get_or texts (place - 1) d).now place) here

  pub fall_found : (r : Bool) → r ≡ false → r ≡ is_above (get_or texts place d).now (get_or texts (place - 1) d).now → Some place ≡ first_fall (bytes_of texts)
  fall_found r found is = sym (step ∙ rw (sym is ∙ found) refl)

  pub no_fall : (r : Bool) → r ≡ true → r ≡ is_above (get_or texts place d).now (get_or texts (place - 1) d).now → NoFallUpTo (bytes_of texts) (place + 1)
  no_fall r none is = record {
    told = λ earlier at.
        let back : place + 1 - 1 ≡ place = omega arith in
        let one : get_or (bytes_of texts) place d.now ≡ earlier = get_or_from_slice_get (bytes_of texts) place earlier d.now (subst (λ i. slice_get (bytes_of texts) i ≡ Some earlier) back at) in
        let same : (get_or texts place d).now ≡ earlier = sym (get_or-map (λ (t : Bor (List ℕ)). t.now) texts place d) ∙ one in
        step ∙ rw (sym is ∙ none) (ap (λ (t : List ℕ). fall_behind t (place + 1) (drop (place + 1) (bytes_of texts))) same);
  }

pub no_fall_at_all : (texts : List (Bor (List ℕ))) (place : ℕ) → 1 ≤ place → length texts ≤ place → (1 ≤ length texts → place ≤ length texts) → NoFallUpTo (bytes_of texts) place → None ≡ first_fall (bytes_of texts)
unfolding fall_behind
no_fall_at_all [] place from all bound h = refl
no_fall_at_all (t ∷ ts) place from all bound h =
    let long : length (bytes_of (t ∷ ts)) ≡ length (t ∷ ts) = length-map (t ∷ ts) (λ u. u.now) in
    let at = slice_get-get_or (bytes_of (t ∷ ts)) (place - 1) [] (omega (arith, long, bound (omega arith))) in
    let ended : drop place (bytes_of (t ∷ ts)) ≡ [] = drop_of_length-le (bytes_of (t ∷ ts)) {i = place} (omega (arith, long)) in
    sym (h.told _ at ∙ ap (fall_behind (get_or (bytes_of (t ∷ ts)) (place - 1) []) place) ended)
