-- What the length of a longest common prefix tells of two paths.
use Rattle.std.proofs.Common.{◌≡◌, ◌≢◌, ℕ, ◌+◌, ◌<◌, Bool, true, false, List, ◌++◌, length, drop, get_or, Option, Some, None, refl, sym, ap, ◌∙◌, arith, length-append}
use Rattle.std.specs.Prelude.{nat_eq, is_some}
use Rattle.std.specs.Cmp.Lexicographic.{pointwise, bytes_decides}
use Rattle.std.proofs.Math.ListN.{get_or-append}
use Rattle.std.proofs.lemmas.List.{take_all, take-append-drop}
use Rattle.std.proofs.lemmas.Bool.{eq-eqb, eqb-true}
use Rattle.trie_model.specs.Tree.{rest_behind}
use Rattle.trie_model.proofs.Rests.{rest_behind-prefix, prefix_and_rest}
use Rattle.nibble_keys.specs.CommonLength.{IsCommonLength}

-- it is all of both
pub common-both : (p q : List ℕ) (n : ℕ) → IsCommonLength p q n → n ≡ length p → nat_eq n (length q) ≡ pointwise nat_eq p q
common-both p q n shared all = go (nat_eq n (length q)) (pointwise nat_eq p q) refl refl
  where
    same : n ≡ length q → p ≡ q
    same whole = sym (take_all n p (omega arith)) ∙ shared.shared ∙ take_all n q (omega arith)

    go : (a b : Bool) → nat_eq n (length q) ≡ a → pointwise nat_eq p q ≡ b → a ≡ b
    go true true e f = refl
    go false false e f = refl
    go true false e f = sym ((bytes_decides p q).1 (same (eqb-true n (length q) e))) ∙ f
    go false true e f = sym e ∙ eq-eqb n (length q) (all ∙ ap length ((bytes_decides p q).0 f))

-- it is not all of the first
pub common-other : (p q : List ℕ) (n : ℕ) → IsCommonLength p q n → n ≢ length p → false ≡ pointwise nat_eq p q
common-other p q n shared less = go (pointwise nat_eq p q) refl
  where
    go : (b : Bool) → pointwise nat_eq p q ≡ b → false ≡ b
    go false f = refl
    go true f =
        let same : p ≡ q = (bytes_decides p q).0 f in
        let within = shared.in_first in
        let lengths : length p ≡ length q = ap length same in
        absurd (shared.longest (omega arith) (omega arith) (ap (λ (l : List ℕ). get_or l n 0) same))

-- the first is a prefix of the second
pub common-prefix : (p q : List ℕ) (n : ℕ) → IsCommonLength p q n → nat_eq n (length p) ≡ is_some (rest_behind p q)
common-prefix p q n shared = go (nat_eq n (length p)) (rest_behind p q) refl refl
  where
    go : (a : Bool) (o : Option (List ℕ)) → nat_eq n (length p) ≡ a → rest_behind p q ≡ o → a ≡ is_some o
    go true (Some rest) e f = refl
    go false None e f = refl
    go true None e f =
        let all : n ≡ length p = eqb-true n (length p) e in
        let whole : q ≡ p ++ drop n q = sym (take-append-drop n q) ∙ ap (λ (prefix : List ℕ). prefix ++ drop n q) (sym shared.shared ∙ take_all n p (omega arith)) in
        let there : rest_behind p q ≡ Some (drop n q) = ap (rest_behind p) whole ∙ rest_behind-prefix p (drop n q) in
        absurd (none_some (sym f ∙ there))
      where
        none_some : {x : List ℕ} → None ≡ Some x → ⊥
        none_some e = cc
    go false (Some rest) e f =
        let whole : q ≡ p ++ rest = prefix_and_rest p q rest f in
        let lengths : length q ≡ length p + length rest = ap length whole ∙ length-append p rest in
        let within = shared.in_first in
        let not_all : n ≢ length p = λ all. true_false (sym (eq-eqb n (length p) all) ∙ e) in
        let less : n < length p = omega arith in
        absurd (shared.longest less (omega arith) (sym (get_or-append p rest 0 n less) ∙ ap (λ (l : List ℕ). get_or l n 0) (sym whole)))
      where
        true_false : true ≡ false → ⊥
        true_false e = cc
