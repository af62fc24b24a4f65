-- What is visited where a recording is replayed without a refusal are the touched texts of the state, each of which is then there.
use Rattle.std.proofs.Common.{◌≡◌, ℕ, ◌||◌, true, List, [], ◌∷◌, ◌++◌, map, Option, None, Some, option_map, ◌⊎◌, inl, inr, refl, sym, ap, ◌∙◌, subst}
use Rattle.std.specs.List.{list_any, filter, filter_map, cons_option}
use Rattle.std.specs.FinMap.{get}
use Rattle.std.proofs.lemmas.Bool.{or_cases, or_left, or_right}
use Rattle.sha2.specs.Sha256.{sha256}
use Rattle.byte_model.specs.Nibbles.{nibbles}
use Rattle.trie_model.specs.State.{State}
use Rattle.trie_model.specs.Root.{text_at, places_of}
use Rattle.trie_model.proofs.Members.{IsIn, in-append_left, in-append_right, in-append_cases, in-map, in_map_from}
use Rattle.visit_model.specs.Bounds.{has_prefix, at_most_one}
use Rattle.visit_model.proofs.Lookups.{lookup_of}
use Rattle.batch_model.specs.Changes.{Changes, changed_paths}
use Rattle.change_model.specs.Places.{is_touched, leads_to, remains_alone, touched_places}
use Rattle.change_model.proofs.Filtered.{in_filter, in_filter_from, in_filter_map_from}
use Rattle.count_model.proofs.Clashing.{any_from, any_in}
use Rattle.recording_model.specs.Recorded.{touched_texts}
use Rattle.recording_model.proofs.StateReads.{looked}

-- ---- members

pub in_filter_map : {X Y : Type 0} (f : X → Option Y) (xs : List X) (x : X) (y : Y) → IsIn xs x → f x ≡ Some y → IsIn (filter_map f xs) y
in_filter_map f [] x y h e = absurd h
in_filter_map f (z ∷ xs) x y (inl same) e = subst (λ o. IsIn (cons_option o (filter_map f xs)) y) (sym (ap f same ∙ e)) (inl refl)
in_filter_map {X} {Y} f (z ∷ xs) x y (inr h) e = go (f z) (in_filter_map f xs x y h e)
  where
    go : (o : Option Y) → IsIn (filter_map f xs) y → IsIn (cons_option o (filter_map f xs)) y
    go None further = further
    go (Some v) further = inr further

-- ---- touched by a read, and by a batch

module _ (state : State) (reads : List (List ℕ)) (changes : Changes) where
  named : List ℕ → List ℕ
  named place = sha256 (text_at state place)

  key-touched : (key : List ℕ) → IsIn reads key → (place : List ℕ) → IsIn (places_of state) place → has_prefix (nibbles key) place ≡ true → IsIn (touched_places state reads changes) place
  unfolding is_touched leads_to
  key-touched key k place i e =
      in_filter (is_touched state reads changes) (places_of state) place i
      (or_left _ (remains_alone state changes place)
      (any_in (λ (path : List ℕ). has_prefix path place) (map nibbles reads ++ changed_paths changes) (nibbles key) (in-append_left (map nibbles reads) (changed_paths changes) (nibbles key) (in-map nibbles reads key k)) e))

  batch-touched : (place : List ℕ) → IsIn (touched_places state [] changes) place → IsIn (touched_places state reads changes) place
  unfolding is_touched leads_to
  batch-touched place i =
      let parts = in_filter_from (is_touched state [] changes) (places_of state) place i in
      in_filter (is_touched state reads changes) (places_of state) place parts.0 (go (or_cases _ (remains_alone state changes place) parts.1))
    where
      go : (list_any (λ (path : List ℕ). has_prefix path place) (changed_paths changes) ≡ true) ⊎ (remains_alone state changes place ≡ true) → (list_any (λ (path : List ℕ). has_prefix path place) (map nibbles reads ++ changed_paths changes) || remains_alone state changes place) ≡ true
      go (inl e) =
          let one = any_from (λ (path : List ℕ). has_prefix path place) (changed_paths changes) e in
          or_left _ (remains_alone state changes place) (any_in (λ (path : List ℕ). has_prefix path place) (map nibbles reads ++ changed_paths changes) one.0 (in-append_right (map nibbles reads) (changed_paths changes) one.0 one.1) one.2)
      go (inr e) = or_right _ (remains_alone state changes place) e

  -- a place that is touched is on the path of a read key, or touched by the batch
  touched-by : (place : List ℕ) → IsIn (touched_places state reads changes) place → ((key : List ℕ) × IsIn reads key × IsIn (places_of state) place × (has_prefix (nibbles key) place ≡ true)) ⊎ IsIn (touched_places state [] changes) place
  unfolding is_touched leads_to
  touched-by place i =
      let parts = in_filter_from (is_touched state reads changes) (places_of state) place i in
      go parts.0 (or_cases _ (remains_alone state changes place) parts.1)
    where
      by_batch : IsIn (places_of state) place → (list_any (λ (path : List ℕ). has_prefix path place) (changed_paths changes) || remains_alone state changes place) ≡ true → IsIn (touched_places state [] changes) place
      by_batch h e = in_filter (is_touched state [] changes) (places_of state) place h e

      by_path : IsIn (places_of state) place → (path : List ℕ) → has_prefix path place ≡ true → IsIn (map nibbles reads) path ⊎ IsIn (changed_paths changes) path → ((key : List ℕ) × IsIn reads key × IsIn (places_of state) place × (has_prefix (nibbles key) place ≡ true)) ⊎ IsIn (touched_places state [] changes) place
      by_path h path e (inl k) =
          let key = in_map_from nibbles reads path k in
          inl (key.0, key.1, h, ap (λ (p : List ℕ). has_prefix p place) key.2 ∙ e)
      by_path h path e (inr k) = inr (by_batch h (or_left _ (remains_alone state changes place) (any_in (λ (p : List ℕ). has_prefix p place) (changed_paths changes) path k e)))

      go : IsIn (places_of state) place → (list_any (λ (path : List ℕ). has_prefix path place) (map nibbles reads ++ changed_paths changes) ≡ true) ⊎ (remains_alone state changes place ≡ true) → ((key : List ℕ) × IsIn reads key × IsIn (places_of state) place × (has_prefix (nibbles key) place ≡ true)) ⊎ IsIn (touched_places state [] changes) place
      go h (inl e) =
          let one = any_from (λ (path : List ℕ). has_prefix path place) (map nibbles reads ++ changed_paths changes) e in
          by_path h one.0 one.2 (in-append_cases (map nibbles reads) (changed_paths changes) one.0 one.1)
      go h (inr e) = inr (by_batch h (or_right _ (remains_alone state changes place) e))

  -- ---- the texts

  abbrev pub Touches : List ℕ → Type 0
  Touches digest = (text : List ℕ) × IsIn (touched_texts state reads changes) text × (sha256 text ≡ digest)

  place-text : (place : List ℕ) → IsIn (touched_places state reads changes) place → IsIn (touched_texts state reads changes) (text_at state place)
  unfolding touched_texts
  place-text place i = in-append_left (map (text_at state) (touched_places state reads changes)) (filter_map (get state) reads) (text_at state place) (in-map (text_at state) (touched_places state reads changes) place i)

  place-touches : (place : List ℕ) → IsIn (touched_places state reads changes) place → Touches (sha256 (text_at state place))
  place-touches place i = (text_at state place, place-text place i, refl)

  value-touches : (key value : List ℕ) → IsIn reads key → get state key ≡ Some value → Touches (sha256 value)
  unfolding touched_texts
  value-touches key value k e = (value, in-append_right (map (text_at state) (touched_places state reads changes)) (filter_map (get state) reads) value (in_filter_map (get state) reads key value k e), refl)

  -- what the reads visit
  abbrev on_path : List ℕ → List (List ℕ)
  on_path key = filter (has_prefix (nibbles key)) (places_of state)

  pub lookup-touches : (key digest : List ℕ) → IsIn reads key → IsIn (lookup_of state key).digests digest → Touches digest
  lookup-touches key digest k h = by_part (in-append_cases (map (λ place. sha256 (text_at state place)) (on_path key)) (at_most_one (option_map sha256 (get state key))) digest h)
    where
      by_value : (o : Option (List ℕ)) → get state key ≡ o → IsIn (at_most_one (option_map sha256 o)) digest → Touches digest
      by_value None e i = absurd i
      by_value (Some value) e (inl same) = subst Touches same (value-touches key value k e)
      by_value (Some value) e (inr i) = absurd i

      by_part : IsIn (map (λ place. sha256 (text_at state place)) (on_path key)) digest ⊎ IsIn (at_most_one (option_map sha256 (get state key))) digest → Touches digest
      by_part (inl i) =
          let one = in_map_from (λ (place : List ℕ). sha256 (text_at state place)) (on_path key) digest i in
          let parts = in_filter_from (has_prefix (nibbles key)) (places_of state) one.0 one.1 in
          subst Touches one.2 (place-touches one.0 (key-touched key k one.0 parts.0 parts.1))
      by_part (inr i) = by_value (get state key) refl i

  looked-touches : (rest : List (List ℕ)) → ((key : List ℕ) → IsIn rest key → IsIn reads key) → (digest : List ℕ) → IsIn (looked state rest).digests digest → Touches digest
  unfolding looked
  looked-touches [] among digest h = absurd h
  looked-touches (key ∷ rest) among digest h = go (looked-touches rest (λ k i. among k (inr i)) digest) (in-append_cases (lookup_of state key).digests (looked state rest).digests digest h)
    where
      go : (IsIn (looked state rest).digests digest → Touches digest) → IsIn (lookup_of state key).digests digest ⊎ IsIn (looked state rest).digests digest → Touches digest
      go further (inl i) = lookup-touches key digest (among key (inl refl)) i
      go further (inr i) = further i

  pub reads-touch : (digest : List ℕ) → IsIn (looked state reads).digests digest → Touches digest
  reads-touch digest h = looked-touches reads (λ key i. i) digest h

  pub batch-text : (place : List ℕ) → IsIn (touched_places state [] changes) place → IsIn (touched_texts state reads changes) (text_at state place)
  batch-text place i = place-text place (batch-touched place i)

  -- and the other way round
  looked-has : (rest : List (List ℕ)) (key digest : List ℕ) → IsIn rest key → IsIn (lookup_of state key).digests digest → IsIn (looked state rest).digests digest
  unfolding looked
  looked-has [] key digest k h = absurd k
  looked-has (other ∷ rest) key digest (inl same) h = in-append_left (lookup_of state other).digests (looked state rest).digests digest (subst (λ (q : List ℕ). IsIn (lookup_of state q).digests digest) (sym same) h)
  looked-has (other ∷ rest) key digest (inr k) h = in-append_right (lookup_of state other).digests (looked state rest).digests digest (looked-has rest key digest k h)

  -- a touched text is visited by a read, or stands at a place that the batch touches
  pub text-visited : (text : List ℕ) → IsIn (touched_texts state reads changes) text → IsIn (looked state reads).digests (sha256 text) ⊎ ((place : List ℕ) × IsIn (touched_places state [] changes) place × (text_at state place ≡ text))
  unfolding touched_texts
  text-visited text h = by_part (in-append_cases (map (text_at state) (touched_places state reads changes)) (filter_map (get state) reads) text h)
    where
      by_place : (place : List ℕ) → text_at state place ≡ text → ((key : List ℕ) × IsIn reads key × IsIn (places_of state) place × (has_prefix (nibbles key) place ≡ true)) ⊎ IsIn (touched_places state [] changes) place → IsIn (looked state reads).digests (sha256 text) ⊎ ((place : List ℕ) × IsIn (touched_places state [] changes) place × (text_at state place ≡ text))
      by_place place same (inl one) =
          inl (subst (λ (t : List ℕ). IsIn (looked state reads).digests (sha256 t)) same
          (looked-has reads one.0 (sha256 (text_at state place)) one.1
          (in-append_left (map (λ place. sha256 (text_at state place)) (on_path one.0)) (at_most_one (option_map sha256 (get state one.0))) (sha256 (text_at state place))
          (in-map (λ (p : List ℕ). sha256 (text_at state p)) (on_path one.0) place (in_filter (has_prefix (nibbles one.0)) (places_of state) place one.2 one.3)))))
      by_place place same (inr i) = inr (place, i, same)

      by_part : IsIn (map (text_at state) (touched_places state reads changes)) text ⊎ IsIn (filter_map (get state) reads) text → IsIn (looked state reads).digests (sha256 text) ⊎ ((place : List ℕ) × IsIn (touched_places state [] changes) place × (text_at state place ≡ text))
      by_part (inl i) =
          let one = in_map_from (text_at state) (touched_places state reads changes) text i in
          by_place one.0 one.2 (touched-by one.0 one.1)
      by_part (inr i) =
          let one = in_filter_map_from (get state) reads text i in
          inl (looked-has reads one.0 (sha256 text) one.1
          (in-append_right (map (λ place. sha256 (text_at state place)) (on_path one.0)) (at_most_one (option_map sha256 (get state one.0))) (sha256 text)
          (subst (λ (o : Option (List ℕ)). IsIn (at_most_one (option_map sha256 o)) (sha256 text)) (sym one.2) (inl refl))))
