-- How many different texts live blocks have, and a table that has exactly these.
use Rattle.std.proofs.Common.{◌≡◌, ℕ, ◌+◌, Bool, true, false, cond, List, [], ◌∷◌, length, map, T, ◌⊎◌, inl, inr, refl, sym, ◌∙◌, ap, subst, arith}
use Rattle.std.specs.List.{AllByRecursion, IsDistinct, list_any}
use Rattle.std.specs.declared.cmp.Ordering.TheVariants.{Less, Equal}
use Rattle.std.specs.Ordering.{is_lt, nat_cmp}
use Rattle.std.specs.Cmp.Lexicographic.{slice_cmp}
use Rattle.std.specs.Set.{is_member}
use Rattle.std.specs.Str.{bytes_eq}
use Rattle.std.specs.FinMap.{entries, entries_sorted, is_sorted, len, len-entries}
use Rattle.std.specs.FinMap.Entries.{below_all}
use Rattle.std.proofs.lemmas.Cmp.{nat_list_eq_equiv}
use Rattle.std.proofs.lemmas.List.{length-map}
use Rattle.std.proofs.lemmas.Map.Made.{length-from_same_keys}
use Rattle.sha2.specs.Sha256.{sha256}
use Rattle.trie_model.specs.Root.{Table}
use Rattle.trie_model.proofs.Growth.{slice_cmp-itself}
use Rattle.trie_model.proofs.Members.{IsIn, all_at, all_of, contains_of_in, in-map, in_map_from, in_of_contains}
use Rattle.trie_model.proofs.Order.{first_test, less_of_test, second_test}
use Rattle.trie_model.proofs.Worked.{Pair}
use Rattle.batch_model.proofs.Laying.{all_of_get, get_of_all}
use Rattle.change_model.proofs.Laid.{same_tests}
use Rattle.fork_model.specs.States.{ForkState, IsForkState}
use Rattle.fork_model.proofs.Ids.{apart_is, same-itself, same_from}
use Rattle.count_model.specs.Tables.{HoldsCounted, different, distinct_texts, live_texts}
use Rattle.count_model.proofs.Clashing.{any_from, any_in}
use Rattle.count_model.proofs.Live.{texts-counted}

-- ---- each text once

-- the texts of a list, each where it stands last
last_ones : List (List ℕ) → List (List ℕ)
last_ones [] = []
last_ones (t ∷ texts) = cond (list_any (bytes_eq t) texts) (last_ones texts) (t ∷ last_ones texts)

length-last_ones : (texts : List (List ℕ)) → length (last_ones texts) ≡ different texts
unfolding last_ones different
length-last_ones [] = refl
length-last_ones (t ∷ texts) = by_test (list_any (bytes_eq t) texts) (length-last_ones texts)
  where
    by_test : (b : Bool) → length (last_ones texts) ≡ different texts → length (cond b (last_ones texts) (t ∷ last_ones texts)) ≡ cond b (different texts) (different texts + 1)
    by_test true e = e
    by_test false e = omega (arith, e)

member-in : (texts : List (List ℕ)) (q : List ℕ) → IsIn texts q → list_any (bytes_eq q) texts ≡ true
member-in texts q i = any_in (bytes_eq q) texts q i (same-itself q)

member_from : (texts : List (List ℕ)) (q : List ℕ) → list_any (bytes_eq q) texts ≡ true → IsIn texts q
member_from texts q e = let one = any_from (bytes_eq q) texts e in subst (IsIn texts) (sym (same_from q one.0 one.2)) one.1

in-last_ones : (texts : List (List ℕ)) (q : List ℕ) → IsIn texts q → IsIn (last_ones texts) q
unfolding last_ones
in-last_ones [] q i = i
in-last_ones (t ∷ texts) q i = go (list_any (bytes_eq t) texts) refl (in-last_ones texts) i
  where
    go : (b : Bool) → list_any (bytes_eq t) texts ≡ b → ((r : List ℕ) → IsIn texts r → IsIn (last_ones texts) r) → (t ≡ q) ⊎ IsIn texts q → IsIn (cond b (last_ones texts) (t ∷ last_ones texts)) q
    go true e further (inl same) = subst (IsIn (last_ones texts)) same (further t (member_from texts t e))
    go true e further (inr j) = further q j
    go false e further (inl same) = inl same
    go false e further (inr j) = inr (further q j)

in_last_ones_from : (texts : List (List ℕ)) (q : List ℕ) → IsIn (last_ones texts) q → IsIn texts q
unfolding last_ones
in_last_ones_from [] q i = i
in_last_ones_from (t ∷ texts) q i = go (list_any (bytes_eq t) texts) (in_last_ones_from texts q) i
  where
    go : (b : Bool) → (IsIn (last_ones texts) q → IsIn texts q) → IsIn (cond b (last_ones texts) (t ∷ last_ones texts)) q → (t ≡ q) ⊎ IsIn texts q
    go true further j = inr (further j)
    go false further (inl same) = inl same
    go false further (inr j) = inr (further j)

distinct-last_ones : (texts : List (List ℕ)) → IsDistinct bytes_eq (last_ones texts)
unfolding last_ones IsDistinct
distinct-last_ones [] = tt
distinct-last_ones (t ∷ texts) = go (list_any (bytes_eq t) texts) refl (distinct-last_ones texts)
  where
    not_in : list_any (bytes_eq t) texts ≡ false → (u : List ℕ) → IsIn (last_ones texts) u → bytes_eq t u ≡ false
    not_in e u i = apart_is t u (λ same. differ (sym (member-in texts t (subst (IsIn texts) (sym same) (in_last_ones_from texts u i))) ∙ e))
      where
        differ : true ≡ false → ⊥
        differ e = cc

    go : (b : Bool) → list_any (bytes_eq t) texts ≡ b → IsDistinct bytes_eq (last_ones texts) → IsDistinct bytes_eq (cond b (last_ones texts) (t ∷ last_ones texts))
    go true e rest = rest
    go false e rest = (all_of (λ u. bytes_eq t u ≡ false) (last_ones texts) (not_in e), rest)

-- ---- the texts of a table

-- where the keys are the digests of the texts, the texts differ
differ_by_key : (digest t : List ℕ) (es : List Pair) → sha256 t ≡ digest → T (below_all (slice_cmp nat_cmp) digest es) → AllByRecursion (λ e. sha256 e.1 ≡ e.0) es → AllByRecursion (λ u. bytes_eq t u ≡ false) (map (λ e. e.1) es)
differ_by_key digest t [] is below named = tt
differ_by_key digest t (e ∷ es) is below named = (
  apart_is t e.1 (λ same.
      different_orders (sym (less_of_test (slice_cmp nat_cmp digest e.0) (first_test (is_lt (slice_cmp nat_cmp digest e.0)) (below_all (slice_cmp nat_cmp) digest es) below)) ∙ ap (slice_cmp nat_cmp digest) (sym (sym is ∙ ap sha256 same ∙ named.0)) ∙ slice_cmp-itself digest)),
  differ_by_key digest t es is (second_test (is_lt (slice_cmp nat_cmp digest e.0)) (below_all (slice_cmp nat_cmp) digest es) below) named.1,
)
  where
    different_orders : Less ≡ Equal → ⊥
    different_orders e = cc

texts-distinct : (es : List Pair) → T (is_sorted (slice_cmp nat_cmp) es) → AllByRecursion (λ e. sha256 e.1 ≡ e.0) es → IsDistinct bytes_eq (map (λ e. e.1) es)
unfolding IsDistinct
texts-distinct [] sorted named = tt
texts-distinct (e ∷ es) sorted named = (
  differ_by_key e.0 e.1 es named.0 (first_test (below_all (slice_cmp nat_cmp) e.0 es) (is_sorted (slice_cmp nat_cmp) es) sorted) named.1,
  texts-distinct es (second_test (below_all (slice_cmp nat_cmp) e.0 es) (is_sorted (slice_cmp nat_cmp) es) sorted) named.1,
)

module _ (table : Table) (forks : ForkState) (is : IsForkState forks) (holds : HoldsCounted table forks) where
  abbrev held_texts : List (List ℕ)
  held_texts = map (λ e. e.1) (entries table)

  held-live : (q : List ℕ) → IsIn held_texts q → IsIn (live_texts forks) q
  held-live q i =
      let e = in_map_from (λ (e : Pair). e.1) (entries table) q i in
      let each : AllByRecursion (λ e. IsIn (live_texts forks) e.1) (entries table) = all_of_get (λ e. IsIn (live_texts forks) e.1) table (λ digest t at. in_of_contains (live_texts forks) t ((texts-counted forks is t).0 (holds.only digest t at))) in
      subst (IsIn (live_texts forks)) e.2 (all_at (λ (e : Pair). IsIn (live_texts forks) e.1) (entries table) e.0 each e.1)

  live-held : (q : List ℕ) → IsIn (live_texts forks) q → IsIn held_texts q
  live-held q i =
      get_of_all (λ e. IsIn held_texts e.1) table
      (all_of (λ (e : Pair). IsIn held_texts e.1) (entries table) (λ e j. in-map (λ (e : Pair). e.1) (entries table) e j))
      (sha256 q) q (holds.found q ((texts-counted forks is q).1 (contains_of_in (live_texts forks) q i)))

  pub distinct-held : len table ≡ distinct_texts forks
  distinct-held =
      let named : AllByRecursion (λ e. sha256 e.1 ≡ e.0) (entries table) = all_of_get (λ e. sha256 e.1 ≡ e.0) table holds.named in
      len-entries table
      ∙ sym (length-map (entries table) (λ (e : Pair). e.1))
      ∙ length-from_same_keys nat_list_eq_equiv held_texts (last_ones (live_texts forks)) (texts-distinct (entries table) (entries_sorted table) named) (distinct-last_ones (live_texts forks))
      (λ q.
      same_tests (is_member bytes_eq held_texts q) (is_member bytes_eq (last_ones (live_texts forks)) q)
      (λ e. member-in (last_ones (live_texts forks)) q (in-last_ones (live_texts forks) q (held-live q (member_from held_texts q e))))
      (λ e. member-in held_texts q (live-held q (in_last_ones_from (live_texts forks) q (member_from (last_ones (live_texts forks)) q e)))))
      ∙ length-last_ones (live_texts forks)
