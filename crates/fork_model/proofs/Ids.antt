-- Ids of blocks, and what is found by them.
use Rattle.std.proofs.Common.{◌≡◌, ◌≢◌, ℕ, Bool, true, false, cond, List, [], ◌∷◌, ◌++◌, Option, None, Some, ◌⊎◌, inl, inr, ⊎_elim, refl, sym, ◌∙◌, ap, ap₂, reverse}
use Rattle.std.specs.List.{filter, find}
use Rattle.std.specs.Option.{option_or}
use Rattle.std.specs.Str.{bytes_eq}
use Rattle.std.proofs.lemmas.Bool.{true≢false}
use Rattle.std.proofs.lemmas.List.{reverse-append}
use Rattle.std.proofs.lemmas.List.Folds.{find-append}
use Rattle.std.proofs.lemmas.Slice.Eq.{bytes_eq-Decides}

pub same_from : (q k : List ℕ) → bytes_eq q k ≡ true → q ≡ k
same_from q k = (bytes_eq-Decides q k).0

pub same-itself : (q : List ℕ) → bytes_eq q q ≡ true
same-itself q = (bytes_eq-Decides q q).1 refl

pub apart_from : (q k : List ℕ) → bytes_eq q k ≡ false → q ≢ k
apart_from q k e same = true≢false (sym ((bytes_eq-Decides q k).1 same) ∙ e)

pub apart_is : (q k : List ℕ) → (q ≢ k) → bytes_eq q k ≡ false
apart_is q k n = by_test (bytes_eq q k) refl
  where
    by_test : (b : Bool) → bytes_eq q k ≡ b → bytes_eq q k ≡ false
    by_test true e = absurd (n (same_from q k e))
    by_test false e = e

pub same_or_other : (q k : List ℕ) → (q ≡ k) ⊎ (q ≢ k)
same_or_other q k = by_test (bytes_eq q k) refl
  where
    by_test : (b : Bool) → bytes_eq q k ≡ b → (q ≡ k) ⊎ (q ≢ k)
    by_test true e = inl (same_from q k e)
    by_test false e = inr (apart_from q k e)

none_not_some : {X : Type 0} (x : X) → None ≡ Some x → ⊥
none_not_some x e = cc

pub found_not_none : {X : Type 0} {o : Option X} {x : X} → o ≡ Some x → o ≡ None → ⊥
found_not_none {x} some none = none_not_some x (sym none ∙ some)

-- ---- what is found by an id

module _ {B : Type 0} (key : B → List ℕ) where
  -- the first with an id
  abbrev pub found : List B → List ℕ → Option B
  found bs q = find (λ b. bytes_eq q (key b)) bs

  pub found-here : (b : B) (bs : List B) (q : List ℕ) → q ≡ key b → found (b ∷ bs) q ≡ Some b
  found-here b bs q e = ap (λ t. cond t (Some b) (found bs q)) (ap (λ k. bytes_eq k (key b)) e ∙ same-itself (key b))

  pub found-behind : (b : B) (bs : List B) (q : List ℕ) → (q ≢ key b) → found (b ∷ bs) q ≡ found bs q
  found-behind b bs q n = ap (λ t. cond t (Some b) (found bs q)) (apart_is q (key b) n)

  pub found-key : (bs : List B) (q : List ℕ) (b : B) → found bs q ≡ Some b → q ≡ key b
  found-key [] q b e = cc
  found-key (c ∷ bs) q b e =
      ⊎_elim
      (λ (same : q ≡ key c). let is : c ≡ b = cc (found-here c bs q same, e) in same ∙ ap key is)
      (λ other. found-key bs q b (sym (found-behind c bs q other) ∙ e))
      (same_or_other q (key c))

  -- of those whose ids pass a test
  pub found-filter : (p : List ℕ → Bool) (bs : List B) (q : List ℕ) → found (filter (λ b. p (key b)) bs) q ≡ cond (p q) (found bs q) None
  found-filter p [] q = by_test (p q)
    where
      by_test : (t : Bool) → found [] q ≡ cond t (found [] q) None
      by_test true = refl
      by_test false = refl
  found-filter p (b ∷ bs) q =
      ⊎_elim
      (λ (same : q ≡ key b). here (p (key b)) refl same (found-filter p bs q))
      (λ other. behind (p (key b)) other ∙ found-filter p bs q ∙ ap (λ (o : Option B). cond (p q) o None) (sym (found-behind b bs q other)))
      (same_or_other q (key b))
    where
      rest : List B
      rest = filter (λ b. p (key b)) bs

      here : (t : Bool) → p (key b) ≡ t → q ≡ key b → found rest q ≡ cond (p q) (found bs q) None → found (cond t (b ∷ rest) rest) q ≡ cond (p q) (found (b ∷ bs) q) None
      here true e same ih = found-here b rest q same ∙ sym (ap (λ t. cond t (found (b ∷ bs) q) None) (ap p same ∙ e) ∙ found-here b bs q same)
      here false e same ih = ih ∙ ap (λ t. cond t (found bs q) None) (ap p same ∙ e) ∙ sym (ap (λ t. cond t (found (b ∷ bs) q) None) (ap p same ∙ e))

      behind : (t : Bool) → (q ≢ key b) → found (cond t (b ∷ rest) rest) q ≡ found rest q
      behind true n = found-behind b rest q n
      behind false n = refl

  pub found-push : (bs : List B) (b : B) (q : List ℕ) → found (bs ++ b ∷ []) q ≡ option_or (found bs q) (cond (bytes_eq q (key b)) (Some b) None)
  found-push bs b q = find-append (λ (c : B). bytes_eq q (key c)) bs (b ∷ [])

  pub found-push_old : (bs : List B) (b : B) (q : List ℕ) (c : B) → found bs q ≡ Some c → found (bs ++ b ∷ []) q ≡ Some c
  found-push_old bs b q c e = found-push bs b q ∙ ap (λ o. option_or o (cond (bytes_eq q (key b)) (Some b) None)) e

  pub found-push_new : (bs : List B) (b : B) (q : List ℕ) → found bs q ≡ None → found (bs ++ b ∷ []) q ≡ cond (bytes_eq q (key b)) (Some b) None
  found-push_new bs b q e = found-push bs b q ∙ ap (λ o. option_or o (cond (bytes_eq q (key b)) (Some b) None)) e

  -- where an id is not found, a test may answer anything for it
  pub filter_without : (x : List ℕ) (p s : List ℕ → Bool) → ((q : List ℕ) → (q ≢ x) → p q ≡ s q) → (bs : List B) → found bs x ≡ None → filter (λ b. p (key b)) bs ≡ filter (λ b. s (key b)) bs
  filter_without x p s alike [] none = refl
  filter_without x p s alike (b ∷ bs) none =
      ⊎_elim
      (λ (same : x ≡ key b). absurd (none_not_some b (sym none ∙ found-here b bs x same)))
      (λ (other : x ≢ key b). ap₂ (λ (t : Bool) (rest : List B). cond t (b ∷ rest) rest) (alike (key b) (λ e. other (sym e))) (filter_without x p s alike bs (sym (found-behind b bs x other) ∙ none)))
      (same_or_other x (key b))

  -- what is found in a list is found in the list turned round, where no two have one id
  abbrev pub AreApart : List B → Type 0
  AreApart [] = Unit {0}
  AreApart (b ∷ bs) = (found bs (key b) ≡ None) × AreApart bs

  pub found-reverse : (bs : List B) (q : List ℕ) → AreApart bs → found (reverse bs) q ≡ found bs q
  found-reverse [] q apart = refl
  found-reverse (b ∷ bs) q apart =
      ap (λ (xs : List B). found xs q) (reverse-append (b ∷ []) bs)
      ∙ found-push (reverse bs) b q
      ∙ ap (λ (o : Option B). option_or o (cond (bytes_eq q (key b)) (Some b) None)) (found-reverse bs q apart.1)
      ∙ by_test (bytes_eq q (key b)) refl
    where
      last : (o : Option B) → option_or o None ≡ o
      last None = refl
      last (Some c) = refl

      by_test : (t : Bool) → bytes_eq q (key b) ≡ t → option_or (found bs q) (cond t (Some b) None) ≡ cond t (Some b) (found bs q)
      by_test true e = ap (λ (o : Option B). option_or o (Some b)) (ap (found bs) (same_from q (key b) e) ∙ apart.0)
      by_test false e = last (found bs q)
