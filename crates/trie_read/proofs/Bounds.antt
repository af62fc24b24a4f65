-- What is left of a bound behind a prefix.
use Rattle.std.proofs.Common.{◌≡◌, ◌≢◌, ℕ, suc, ◌<◌, ◌≤◌, List, [], ◌∷◌, ◌++◌, length, take, drop, get_or, None, Some, refl, sym, ap, ap₂, ◌∙◌, arith}
use Rattle.std.proofs.Math.Seq.{drop-cons}
use Rattle.std.proofs.lemmas.Bool.{lt-ltb, le-ltb, eq-eqb, ne_eqb}
use Rattle.std.proofs.lemmas.List.{take_all, take-append-drop}
use Rattle.trie_model.proofs.Rests.{same_nibble}
use Rattle.visit_model.specs.Steps.{bound_behind}
use Rattle.nibble_keys.specs.CommonLength.{IsCommonLength}

none_left : (prefix more : List ℕ) → bound_behind (prefix ++ more) prefix ≡ Some []
unfolding bound_behind
none_left [] [] = refl
none_left [] (x ∷ more) = refl
none_left (x ∷ prefix) more = rw (same_nibble x) (none_left prefix more)

rest_left : (prefix rest : List ℕ) → bound_behind prefix (prefix ++ rest) ≡ Some rest
unfolding bound_behind
rest_left [] rest = refl
rest_left (x ∷ prefix) rest = rw (same_nibble x) (rest_left prefix rest)

apart : (shared : List ℕ) (x y : ℕ) (p q : List ℕ) → bound_behind (shared ++ x ∷ p) (shared ++ y ∷ q) ≡ bound_behind (x ∷ p) (y ∷ q)
unfolding bound_behind
apart [] x y p q = refl
apart (z ∷ shared) x y p q = rw (same_nibble z) (apart shared x y p q)

below_first : (x y : ℕ) (p q : List ℕ) → x < y → bound_behind (x ∷ p) (y ∷ q) ≡ None
unfolding bound_behind
below_first x y p q h = rw (ne_eqb x y (omega arith), lt-ltb x y h) refl

above_first : (x y : ℕ) (p q : List ℕ) → y < x → bound_behind (x ∷ p) (y ∷ q) ≡ Some []
unfolding bound_behind
above_first x y p q h = rw (ne_eqb x y (omega arith), le-ltb x y (omega arith)) refl

-- ---- by the length of what is shared

-- all of the bound
pub side-above : (p q : List ℕ) (n : ℕ) → IsCommonLength p q n → n ≡ length q → bound_behind p q ≡ Some []
side-above p q n shared all =
    let prefix : take n p ≡ q = shared.shared ∙ take_all n q (omega arith) in
    let whole : p ≡ q ++ drop n p = sym (take-append-drop n p) ∙ ap (λ (l : List ℕ). l ++ drop n p) prefix in
    ap (λ (l : List ℕ). bound_behind l q) whole ∙ none_left q (drop n p)

-- all of the prefix
pub side-within : (p q : List ℕ) (n : ℕ) → IsCommonLength p q n → n ≡ length p → bound_behind p q ≡ Some (drop (length p) q)
side-within p q n shared all =
    let prefix : take n q ≡ p = sym shared.shared ∙ take_all n p (omega arith) in
    let whole : q ≡ p ++ drop n q = sym (take-append-drop n q) ∙ ap (λ (l : List ℕ). l ++ drop n q) prefix in
    ap (bound_behind p) whole ∙ rest_left p (drop n q) ∙ ap (λ (k : ℕ). Some (drop k q)) all

-- neither: what follows decides
at_nibble : (p q : List ℕ) (n : ℕ) → IsCommonLength p q n → n < length p → n < length q → bound_behind p q ≡ bound_behind (get_or p n 0 ∷ drop (suc n) p) (get_or q n 0 ∷ drop (suc n) q)
at_nibble p q n shared here there =
    let first : p ≡ take n p ++ get_or p n 0 ∷ drop (suc n) p = sym (take-append-drop n p) ∙ ap (λ (l : List ℕ). take n p ++ l) (drop-cons p n 0 here) in
    let second : q ≡ take n p ++ get_or q n 0 ∷ drop (suc n) q = sym (take-append-drop n q) ∙ ap₂ (λ (k l : List ℕ). k ++ l) (sym shared.shared) (drop-cons q n 0 there) in
    ap₂ bound_behind first second ∙ apart (take n p) (get_or p n 0) (get_or q n 0) (drop (suc n) p) (drop (suc n) q)

pub side-below_at : (p q : List ℕ) (n : ℕ) → IsCommonLength p q n → n < length p → n < length q → get_or p n 0 < get_or q n 0 → bound_behind p q ≡ None
side-below_at p q n shared here there less = at_nibble p q n shared here there ∙ below_first (get_or p n 0) (get_or q n 0) (drop (suc n) p) (drop (suc n) q) less

pub side-above_at : (p q : List ℕ) (n : ℕ) → IsCommonLength p q n → n < length p → n < length q → get_or q n 0 ≤ get_or p n 0 → bound_behind p q ≡ Some []
side-above_at p q n shared here there most =
    let other : get_or p n 0 ≢ get_or q n 0 = shared.longest here there in
    at_nibble p q n shared here there ∙ above_first (get_or p n 0) (get_or q n 0) (drop (suc n) p) (drop (suc n) q) (omega arith)

-- ---- behind one nibble

pub child-free : (x : ℕ) (bound : List ℕ) → length bound ≡ 0 → bound_behind (x ∷ []) bound ≡ Some []
unfolding bound_behind
child-free x [] none = refl
child-free x (y ∷ bound) none = absurd (omega arith)

pub child-below : (x : ℕ) (bound : List ℕ) → length bound ≢ 0 → x < get_or bound 0 0 → bound_behind (x ∷ []) bound ≡ None
child-below x [] some less = absurd (some refl)
child-below x (y ∷ bound) some less = below_first x y [] bound less

pub child-same : (x : ℕ) (bound : List ℕ) → length bound ≢ 0 → x ≡ get_or bound 0 0 → bound_behind (x ∷ []) bound ≡ Some (drop 1 bound)
unfolding bound_behind
child-same x [] some same = absurd (some refl)
child-same x (y ∷ bound) some same = rw (eq-eqb x y same) refl

pub child-above : (x : ℕ) (bound : List ℕ) → length bound ≢ 0 → get_or bound 0 0 < x → bound_behind (x ∷ []) bound ≡ Some []
child-above x [] some more = absurd (some refl)
child-above x (y ∷ bound) some more = above_first x y [] bound more
