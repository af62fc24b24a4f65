-- Texts of a stranger that don't clash with those of a state can't be taken for others of it.
use Rattle.std.proofs.Common.{◌≡◌, ℕ, Bool, true, false, cond, List, [], ◌∷◌, ◌++◌, map, Some, inl, inr, sym, ap, ◌∙◌}
use Rattle.std.specs.Prelude.{Contains}
use Rattle.std.specs.Cmp.Lexicographic.{nat_list_cmp_total}
use Rattle.std.specs.FinMap.{get, find, get-from_entries}
use Rattle.sha2.specs.Sha256.{sha256}
use Rattle.trie_model.specs.State.{State}
use Rattle.trie_model.specs.Root.{NoClash, texts_of}
use Rattle.trie_model.proofs.Members.{IsIn, contains_of_in, in_of_contains, in-append_left, in-append_right}
use Rattle.base_core.proofs.ByteMaps.{order, is_same, same_from}
use Rattle.recording_model.specs.Agreeing.{Agrees}
use Rattle.text_store.specs.PartialStates.{table_of}

-- the text that is found under a digest is among the texts, and has that digest
found_one : (texts : List (List ℕ)) (q t : List ℕ) → find order q (map (λ (u : List ℕ). (sha256 u, u)) texts) ≡ Some t → IsIn texts t × (q ≡ sha256 t)
found_one [] q t e = cc
found_one (u ∷ texts) q t e = go (is_same q (sha256 u)) refl_test e (found_one texts q t)
  where
    the_one : Some u ≡ Some t → u ≡ t
    the_one k = cc k

    refl_test : is_same q (sha256 u) ≡ is_same q (sha256 u)
    refl_test = λ _. is_same q (sha256 u)

    go : (b : Bool) → is_same q (sha256 u) ≡ b → cond b (Some u) (find order q (map (λ (v : List ℕ). (sha256 v, v)) texts)) ≡ Some t → (find order q (map (λ (v : List ℕ). (sha256 v, v)) texts) ≡ Some t → IsIn texts t × (q ≡ sha256 t)) → IsIn (u ∷ texts) t × (q ≡ sha256 t)
    go true s k rest = (inl (the_one k), same_from q (sha256 u) s ∙ ap sha256 (the_one k))
    go false s k rest =
        let later = rest k in
        (inr later.0, later.1)

pub stranger-apart : (state : State) (texts : List (List ℕ)) → NoClash (texts_of state ++ texts) → NoClash (texts_of state)
stranger-apart state texts apart = record {
  apart = λ a b h k. apart.apart a b (left a h) (left b k);
  nonzero = λ a h. apart.nonzero a (left a h);
}
  where
    left : (a : List ℕ) → Contains (texts_of state) a → Contains (texts_of state ++ texts) a
    left a h = contains_of_in (texts_of state ++ texts) a (in-append_left (texts_of state) texts a (in_of_contains (texts_of state) a h))

pub stranger-agrees : (state : State) (texts : List (List ℕ)) → NoClash (texts_of state ++ texts) → Agrees (table_of texts) state
stranger-agrees state texts apart t text h e =
    let one = found_one texts (sha256 t) text (sym (get-from_entries nat_list_cmp_total (map (λ (u : List ℕ). (sha256 u, u)) texts) (sha256 t)) ∙ e) in
    apart.apart t text
    (contains_of_in (texts_of state ++ texts) t (in-append_left (texts_of state) texts t (in_of_contains (texts_of state) t h)))
    (contains_of_in (texts_of state ++ texts) text (in-append_right (texts_of state) texts text one.0))
    one.1

-- what stands in the table of some texts is one of them
pub stranger-only : (texts : List (List ℕ)) (digest text : List ℕ) → get (table_of texts) digest ≡ Some text → IsIn texts text
stranger-only texts digest text e = (found_one texts digest text (sym (get-from_entries nat_list_cmp_total (map (λ (u : List ℕ). (sha256 u, u)) texts) digest) ∙ e)).0
