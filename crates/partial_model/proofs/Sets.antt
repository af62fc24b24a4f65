-- The texts of a set rise, and rising texts are those of their set.
use Rattle.std.proofs.Common.{◌≡◌, ℕ, List, [], ◌∷◌, map, T, refl, sym, ◌∙◌, ap}
use Rattle.std.specs.List.{AllByRecursion}
use Rattle.std.specs.List.Sorted.{IsStrictlySortedBy}
use Rattle.std.specs.Ordering.{nat_cmp}
use Rattle.std.specs.Cmp.Lexicographic.{slice_cmp, nat_list_cmp_total}
use Rattle.std.specs.FinMap.{entries, entries_sorted, entries-insert, len-entries, len-empty}
use Rattle.std.specs.FinMap.Entries.{below_all, by_order, put, is_sorted}
use Rattle.std.proofs.lemmas.List.{nil_from_length}
use Rattle.trie_model.proofs.Order.{Before, first_test, second_test, less_of_test}
use Rattle.partial_model.specs.Texts.{Rise, SetOfTexts, set_of, texts_in}

abbrev listed : List (List ℕ) → List (List ℕ × Unit {0})
listed ts = map (λ t. (t, tt)) ts

all_above : (text : List ℕ) (es : List (List ℕ × Unit {0})) → T (below_all (slice_cmp nat_cmp) text es) → AllByRecursion (λ t. Before text t) (map (λ e. e.0) es)
all_above text [] h = tt
all_above text (e ∷ es) h = (less_of_test _ (first_test _ _ h), all_above text es (second_test _ _ h))

rise_sorted : (es : List (List ℕ × Unit {0})) → T (is_sorted (slice_cmp nat_cmp) es) → Rise (map (λ e. e.0) es)
unfolding IsStrictlySortedBy
rise_sorted [] h = tt
rise_sorted (e ∷ es) h = (all_above e.0 es (first_test _ _ h), rise_sorted es (second_test _ _ h))

pub rise-texts_in : (set : SetOfTexts) → Rise (texts_in set)
rise-texts_in set = rise_sorted (entries set) (entries_sorted set)

put_first : (text : List ℕ) (ts : List (List ℕ)) → AllByRecursion (λ t. Before text t) ts → put (slice_cmp nat_cmp) text tt (listed ts) ≡ listed (text ∷ ts)
put_first text [] h = refl
put_first text (t ∷ ts) h = ap (λ o. by_order o ((text, tt) ∷ (t, tt) ∷ listed ts) ((t, tt) ∷ listed ts) ((t, tt) ∷ put (slice_cmp nat_cmp) text tt (listed ts))) h.0

entries_set_of : (ts : List (List ℕ)) → Rise ts → entries (set_of ts) ≡ listed ts
unfolding IsStrictlySortedBy
entries_set_of [] rise = nil_from_length (entries (set_of [])) (sym (len-entries (set_of [])) ∙ len-empty (slice_cmp nat_cmp) (Unit {0}))
entries_set_of (t ∷ ts) rise = entries-insert nat_list_cmp_total (set_of ts) t tt ∙ ap (put (slice_cmp nat_cmp) t tt) (entries_set_of ts rise.1) ∙ put_first t ts rise.0

names_listed : (ts : List (List ℕ)) → map (λ e. e.0) (listed ts) ≡ ts
names_listed [] = refl
names_listed (t ∷ ts) = ap (λ (rest : List (List ℕ)). t ∷ rest) (names_listed ts)

pub texts_in-set_of : (ts : List (List ℕ)) → Rise ts → texts_in (set_of ts) ≡ ts
texts_in-set_of ts rise = ap (λ (es : List (List ℕ × Unit {0})). map (λ e. e.0) es) (entries_set_of ts rise) ∙ names_listed ts
