-- The table of a partial state: what it gives under a digest, and the marks.
use Rattle.std.proofs.Common.{◌≡◌, ◌≢◌, ℕ, Bool, true, false, cond, List, [], ◌∷◌, map, Option, None, Some, inl, inr, refl, sym, ap, ◌∙◌}
use Rattle.std.specs.Cmp.Lexicographic.{nat_list_cmp_total}
use Rattle.std.specs.FinMap.{get, find, get-from_entries}
use Rattle.sha2.specs.Sha256.{sha256}
use Rattle.trie_model.specs.Root.{NoClash, zero_digest}
use Rattle.trie_model.proofs.Members.{IsIn, contains_of_in}
use Rattle.base_core.proofs.ByteMaps.{order, is_same, is_same-itself, same_from}
use Rattle.text_store.specs.Loading.{IsNamed}
use Rattle.text_store.specs.PartialStates.{table_of}

-- ---- a table of texts

abbrev pairs_of : List (List ℕ) → List (List ℕ × List ℕ)
pairs_of texts = map (λ t. (sha256 t, t)) texts

get-table_of : (texts : List (List ℕ)) (q : List ℕ) → get (table_of texts) q ≡ find order q (pairs_of texts)
get-table_of texts q = get-from_entries nat_list_cmp_total (pairs_of texts) q

find_one : (texts : List (List ℕ)) (q t : List ℕ) → find order q (pairs_of texts) ≡ Some t → IsIn texts t × (q ≡ sha256 t)
find_one [] q t e = cc
find_one (u ∷ texts) q t e = go (is_same q (sha256 u)) refl e (find_one texts q t)
  where
    the_one : Some u ≡ Some t → u ≡ t
    the_one k = cc k

    go : (b : Bool) → is_same q (sha256 u) ≡ b → cond b (Some u) (find order q (pairs_of texts)) ≡ Some t → (find order q (pairs_of texts) ≡ Some t → IsIn texts t × (q ≡ sha256 t)) → IsIn (u ∷ texts) t × (q ≡ sha256 t)
    go true s k rest = (inl (the_one k), same_from q (sha256 u) s ∙ ap sha256 (the_one k))
    go false s k rest = let later = rest k in (inr later.0, later.1)

find_some : (texts : List (List ℕ)) (t : List ℕ) → IsIn texts t → (u : List ℕ) × (find order (sha256 t) (pairs_of texts) ≡ Some u)
find_some [] t h = absurd h
find_some (u ∷ texts) t h = go (is_same (sha256 t) (sha256 u)) refl h (find_some texts t)
  where
    differ : false ≡ true → ⊥
    differ e = cc

    go : (b : Bool) → is_same (sha256 t) (sha256 u) ≡ b → IsIn (u ∷ texts) t → (IsIn texts t → (v : List ℕ) × (find order (sha256 t) (pairs_of texts) ≡ Some v)) → (v : List ℕ) × (cond b (Some u) (find order (sha256 t) (pairs_of texts)) ≡ Some v)
    go true s k rest = (u, refl)
    go false s (inl is) rest = absurd (differ (sym s ∙ ap (λ (v : List ℕ). is_same (sha256 t) (sha256 v)) is ∙ is_same-itself (sha256 t)))
    go false s (inr k) rest = rest k

pub table-found : (texts : List (List ℕ)) (t : List ℕ) → NoClash texts → IsIn texts t → get (table_of texts) (sha256 t) ≡ Some t
table-found texts t apart h =
    let found = find_some texts t h in
    let one = find_one texts (sha256 t) found.0 found.1 in
    get-table_of texts (sha256 t) ∙ found.1 ∙ ap Some (apart.apart found.0 t (contains_of_in texts found.0 one.0) (contains_of_in texts t h) (sym one.1))

pub table-missing : (texts : List (List ℕ)) (q : List ℕ) → ((t : List ℕ) → IsIn texts t → q ≢ sha256 t) → get (table_of texts) q ≡ None
table-missing texts q none = get-table_of texts q ∙ go (find order q (pairs_of texts)) refl
  where
    go : (found : Option (List ℕ)) → find order q (pairs_of texts) ≡ found → found ≡ None
    go None e = refl
    go (Some t) e = let one = find_one texts q t e in absurd (none t one.0 one.1)

pub table-named : (texts : List (List ℕ)) → NoClash texts → IsNamed (table_of texts)
table-named texts apart = record {
  own = λ q t e. sym (find_one texts q t (sym (get-table_of texts q) ∙ e)).1;
  nonzero = table-missing texts zero_digest (λ t h e. apart.nonzero t (contains_of_in texts t h) (sym e));
}
