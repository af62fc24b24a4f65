-- The children of a branch, copied nibble by nibble.
use Rattle.std.proofs.Common.{◌≡◌, ◌≢◌, ℕ, ◌+◌, ◌<◌, List, length, set, Option, None, option_map, inl, inr, ◌∙◌, ap, subst, arith, get_or-set_other, get_or-set_same}
use Rattle.std.proofs.lemmas.Bool.{cases_lt}
use Rattle.std.proofs.Math.ListN.{length-set}
use Rattle.base_core.specs.declared.hash.Digest.{Digest}
use Rattle.node_codec.specs.Meanings.{children_in}

-- the children below a nibble were copied
pub record Copied (nibble : ℕ) (kids : List (Option Digest)) (viewed : ℕ → Option (List ℕ)) : Type 0 where
  pub done : (x : ℕ) → x < nibble → children_in kids x ≡ viewed x
  pub sixteen : length kids ≡ 16

pub copied-more : (kids : List (Option Digest)) (viewed : ℕ → Option (List ℕ)) (n : ℕ) (name : Option Digest) → n < 16 → option_map (λ d. d.0) name ≡ viewed n → Copied n kids viewed → Copied (n + 1) (set kids n name) viewed
copied-more kids viewed n name small is so_far =
    let inside : n < length kids = let s = so_far.sixteen in omega arith in
    record {
      done = λ x h. elim (cases_lt x n) [
        | inl l ↦ (let other : x ≢ n = omega arith in ap (option_map (λ d. d.0)) (get_or-set_other kids n x name None other) ∙ so_far.done x l)
        | inr g ↦ (let same : n ≡ x = omega arith in
            subst (λ k. children_in (set kids n name) k ≡ viewed k) same (ap (option_map (λ d. d.0)) (get_or-set_same kids n name None inside) ∙ is))
      ];
      sixteen = length-set kids n name ∙ so_far.sixteen;
    }
