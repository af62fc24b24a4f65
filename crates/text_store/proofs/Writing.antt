-- Writing the texts of a set, one after the other.
use Rattle.std.proofs.Common.{◌≡◌, ◌++◌, ◌<◌, ◌^◌, List, [], ◌∷◌, ℕ, length, Vec, sym, ap, ◌∙◌, append_assoc}
use Rattle.std.proofs.lemmas.List.{append-nil, length-map}
use Rattle.std.specs.List.{AllByRecursion}
use Rattle.std.specs.declared.alloc.Global.{Global}
use Rattle.byte_model.specs.Nibbles.{AreBytes}
use Rattle.byte_model.specs.Borsh.{borsh_u8, borsh_u32, borsh_bytes}
use Rattle.byte_model.proofs.Lists.{AllByRecursion-weaker}
use Rattle.partial_model.specs.Partial.{IsPartial, spelled_texts, spelled_partial}
use Rattle.text_store.specs.TextSets.{texts_of_keys}

-- what was written, and then the texts that are left, spell them all
pub record Writes (keys : List (Vec ℕ Global)) (written : List ℕ) (left : List (Vec ℕ Global)) : Type 0 where
  pub spells : written ++ spelled_texts (texts_of_keys left) ≡ spelled_partial (texts_of_keys keys)
  pub short : AllByRecursion (λ t. length t < 2 ^ 32) (texts_of_keys left)

pub Writes-init : (keys : List (Vec ℕ Global)) (written : List ℕ) → IsPartial (texts_of_keys keys) → written ≡ borsh_u8 0 ++ borsh_u32 (length keys) → Writes keys written keys
unfolding spelled_partial
Writes-init keys written kept is = record {
  spells = ap (λ (w : List ℕ). w ++ spelled_texts (texts_of_keys keys)) is ∙ ap (λ n. borsh_u8 0 ++ borsh_u32 n ++ spelled_texts (texts_of_keys keys)) (sym (length-map keys (λ key. key.items)));
  short = AllByRecursion-weaker (λ t. AreBytes t × (length t < 2 ^ 32)) (λ t. length t < 2 ^ 32) (λ t h. h.1) (texts_of_keys keys) kept.texts_fit.each;
}

pub Writes-more : (keys left : List (Vec ℕ Global)) (written after : List ℕ) (k : Vec ℕ Global) → Writes keys written (k ∷ left) → after ≡ written ++ borsh_bytes k.items → Writes keys after left
unfolding spelled_texts
Writes-more keys left written after k w is = record {
  spells = ap (λ (text : List ℕ). text ++ spelled_texts (texts_of_keys left)) is ∙ append_assoc written (borsh_bytes k.items) (spelled_texts (texts_of_keys left)) ∙ w.spells;
  short = w.short.1;
}

pub Writes-all : (keys : List (Vec ℕ Global)) (written : List ℕ) → Writes keys written [] → written ≡ spelled_partial (texts_of_keys keys)
unfolding spelled_texts
Writes-all keys written w = sym (append-nil written) ∙ w.spells
