-- What is loaded over a state's texts is what a reading visits there.
use Rattle.std.proofs.Common.{◌≡◌, ◌≢◌, ℕ, zero, suc, ◌+◌, ◌==◌, ◌&&◌, ◌||◌, Bool, true, false, cond, List, [], ◌∷◌, ◌++◌, length, map, Option, None, Some, is_some, refl, sym, ◌∙◌, ap, ap₂, arith, length-append}
use Rattle.std.specs.List.{filter}
use Rattle.std.specs.Option.{option_map}
use Rattle.std.specs.FinMap.{empty, empty_of_len, get, len, len-empty}
use Rattle.std.specs.Ordering.{nat_cmp}
use Rattle.std.specs.Cmp.Lexicographic.{slice_cmp}
use Rattle.std.proofs.lemmas.Bool.Decides.{nat_tests}
use Rattle.std.proofs.lemmas.List.{length-map}
use Rattle.sha2.specs.Sha256.{sha256}
use Rattle.byte_model.specs.Nibbles.{AreBytes, nibbles}
use Rattle.trie_model.specs.State.{State, IsState, rows_of}
use Rattle.trie_model.specs.Root.{Holds, Table, places_of, root, subtree_at, text_at, texts_of, zero_digest}
use Rattle.trie_model.proofs.Members.{IsIn, all_at, all_of, in-append_left, in-map}
use Rattle.visit_model.specs.Bounds.{at_most_one, has_prefix}
use Rattle.visit_model.specs.Visits.{lookup_visits, top_visits}
use Rattle.visit_model.proofs.Lookups.{lookup_visits-state}
use Rattle.visit_model.proofs.Roots.{top_visits-empty, top_visits-state}
use Rattle.batch_model.specs.Changes.{AreChanges, Changes, after, after_each}
use Rattle.change_model.specs.Places.{above, is_branch, is_touched, leads_to, remains_alone, touched_places}
use Rattle.change_model.specs.Tables.{HoldsPlaces}
use Rattle.change_model.specs.Visits.{batch_visits}
use Rattle.change_model.proofs.Filtered.{in_filter_from}
use Rattle.change_model.proofs.Touched.{no_branch_above}
use Rattle.change_model.proofs.Touching.{count-all}
use Rattle.change_model.proofs.Visited.{batch_passes}
use Rattle.count_model.specs.Loads.{batch_loads, lookup_loads, usage_loads}
use Rattle.count_model.proofs.Worked.{entries-no_changes, no_changes}

-- ---- without changes nothing remains alone

after-none : (state : State) → after state no_changes ≡ state
unfolding after after_each
after-none state = ap (after_each state) entries-no_changes

alone_parts : (a b c d : Bool) → (a && b && c && d) ≡ true → b ≡ true
alone_parts true true c d e = refl
alone_parts true false c d e = e
alone_parts false b true d e = cc
alone_parts false true false d e = refl
alone_parts false false false d e = cc

was : (state : State) (place : List ℕ) → remains_alone state no_changes place ≡ true → is_branch (subtree_at state (above place)) ≡ true
unfolding remains_alone
was state place e = alone_parts _ _ _ _ e

none_alone : (state : State) (place : List ℕ) → remains_alone state no_changes place ≡ false
none_alone state place = by_test (remains_alone state no_changes place) refl
  where
    by_test : (b : Bool) → remains_alone state no_changes place ≡ b → b ≡ false
    by_test false e = refl
    by_test true e = sym (was state place e) ∙ ap (λ s. is_branch (subtree_at s (above place))) (sym (after-none state)) ∙ no_branch_above state no_changes place e

-- a lookup touches the places on its path
touched-lookup : (state : State) (key place : List ℕ) → is_touched state (key ∷ []) no_changes place ≡ has_prefix (nibbles key) place
unfolding is_touched leads_to
touched-lookup state key place =
    ap₂ (λ (cs : List (List ℕ × Option (List ℕ))) (b : Bool). leads_to (nibbles key ∷ map (λ change. nibbles change.0) cs) place || b) entries-no_changes (none_alone state place)
    ∙ plain (has_prefix (nibbles key) place)
  where
    plain : (b : Bool) → ((b || false) || false) ≡ b
    plain true = refl
    plain false = refl

filter-agree : {X : Type 0} (p s : X → Bool) (xs : List X) → ((x : X) → p x ≡ s x) → filter p xs ≡ filter s xs
filter-agree p s [] same = refl
filter-agree {X} p s (x ∷ xs) same = ap₂ (λ (b : Bool) (ys : List X). cond b (x ∷ ys) ys) (same x) (filter-agree p s xs same)

-- the touched places are places
pub holds-touched : (table : Table) (state : State) → Holds table state → (reads : List (List ℕ)) (changes : Changes) → HoldsPlaces table state (touched_places state reads changes)
unfolding texts_of
holds-touched table state holds reads changes = record {
  found = all_of _ (touched_places state reads changes) (λ place i. all_at (λ t. get table (sha256 t) ≡ Some t) (texts_of state) (text_at state place) holds.found (text_in place i));
  nonzero = all_of _ (touched_places state reads changes) (λ place i. all_at (λ t. sha256 t ≢ zero_digest) (texts_of state) (text_at state place) holds.nonzero (text_in place i));
}
  where
    text_in : (place : List ℕ) → IsIn (touched_places state reads changes) place → IsIn (map (text_at state) (places_of state) ++ map (λ row. row.1) (rows_of state)) (text_at state place)
    text_in place i = in-append_left (map (text_at state) (places_of state)) (map (λ row. row.1) (rows_of state)) (text_at state place) (in-map (text_at state) (places_of state) place (in_filter_from (is_touched state reads changes) (places_of state) place i).0)

module _ (table : Table) (state : State) (holds : Holds table state) (is : IsState state) where
  pub lookup-loaded : (key : List ℕ) → AreBytes key → length (lookup_visits table (root state) key).digests ≡ lookup_loads state key
  lookup-loaded key bytes =
      let on_path : List (List ℕ) = filter (has_prefix (nibbles key)) (places_of state) in
      ap (λ v. length v.digests) (lookup_visits-state table state key holds is bytes)
      ∙ length-append (map (λ place. sha256 (text_at state place)) on_path) (at_most_one (option_map sha256 (get state key)))
      ∙ ap₂ (λ (a b : ℕ). a + b)
      (length-map on_path (λ place. sha256 (text_at state place)) ∙ ap length (sym (filter-agree (is_touched state (key ∷ []) no_changes) (has_prefix (nibbles key)) (places_of state) (touched-lookup state key))))
      (one_value (get state key))
    where
      one_value : (o : Option (List ℕ)) → length (at_most_one (option_map sha256 o)) ≡ cond (is_some o) 1 0
      one_value None = refl
      one_value (Some value) = refl

  pub usage-loaded : length (top_visits table (root state)).digests ≡ usage_loads state
  usage-loaded = by_len (len state) refl
    where
      no_pairs : (n : ℕ) → len state ≡ suc n → state ≢ empty
      no_pairs n e none = none_left n (sym e ∙ ap len none ∙ len-empty (slice_cmp nat_cmp) (List ℕ))
        where
          none_left : (m : ℕ) → suc m ≡ 0 → ⊥
          none_left m e = cc

      one_text : (n m : ℕ) → m ≡ suc n → ◌≡◌ {A = ℕ} 1 (cond (m == 0) 0 1)
      one_text n m e = let test : (m == 0) ≡ false = grind (arith, nat_tests) in ap (λ (b : Bool). cond {A = ℕ} b 0 1) (sym test)

      by_len : (n : ℕ) → len state ≡ n → length (top_visits table (root state)).digests ≡ cond (len state == 0) 0 1
      by_len zero e = ap (λ s. length (top_visits table (root s)).digests) (empty_of_len state e) ∙ ap (λ v. length v.digests) (top_visits-empty table) ∙ ap (λ n. cond (n == 0) 0 1) (sym e)
      by_len (suc n) e = ap (λ v. length v.digests) (top_visits-state table state holds is (no_pairs n e)) ∙ one_text n (len state) e

  pub batch-loaded : (changes : Changes) → AreChanges changes → length (batch_visits table (root state) changes).digests ≡ batch_loads state changes
  batch-loaded changes are =
      sym (count-all (batch_visits table (root state) changes).digests) ∙ (batch_passes state changes is are table (holds-touched table state holds [] changes) (λ _. true)).counted
      ∙ count-all (map (λ place. sha256 (text_at state place)) (touched_places state [] changes)) ∙ length-map (touched_places state [] changes) (λ place. sha256 (text_at state place))
