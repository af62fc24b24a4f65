-- A recording that is replayed without a refusal and without a spare text has exactly the touched texts of the state.
use Rattle.std.proofs.Common.{◌≡◌, ℕ, ◌≤◌, nat_eq, Bool, true, List, [], ◌++◌, map, None, Some, ◌⊎◌, inl, inr, refl, sym, ap, ◌∙◌, subst}
use Rattle.std.specs.List.{AllByRecursion, count_by, filter_map}
use Rattle.std.specs.Cmp.Lexicographic.{pointwise, bytes_decides}
use Rattle.std.specs.FinMap.{get}
use Rattle.sha2.specs.Sha256.{sha256}
use Rattle.byte_model.specs.Nibbles.{AreBytes}
use Rattle.trie_model.specs.State.{State, IsState, rows_of}
use Rattle.trie_model.specs.Root.{Table, NoClash, root, text_at, texts_of, places_of}
use Rattle.trie_model.proofs.Members.{IsIn, all_at, contains_of_in, in-append_left, in-append_right, in-append_cases, in_map_from}
use Rattle.batch_model.specs.Changes.{Changes, AreChanges}
use Rattle.change_model.specs.Visits as changing
use Rattle.change_model.specs.Visits.{batch_visits}
use Rattle.change_model.specs.Places.{touched_places}
use Rattle.change_model.proofs.Filtered.{in_filter_map_from}
use Rattle.change_model.proofs.Touched.{in_of_any}
use Rattle.change_model.proofs.Unchanged.{value_in}
use Rattle.change_model.proofs.Visited.{batch_passes}
use Rattle.count_model.proofs.Live.{count-some, count-member}
use Rattle.count_model.proofs.Loaded.{holds-touched}
use Rattle.partial_model.specs.Texts.{Rise, texts_in}
use Rattle.partial_model.proofs.Sets.{texts_in-set_of}
use Rattle.recording_model.specs.Agreeing.{Agrees}
use Rattle.recording_model.specs.Recorded.{touched_texts, recorded_texts}
use Rattle.recording_model.specs.Replays.{Visits, reads_visits, replay_visits, is_used}
use Rattle.recording_model.proofs.StateReads.{looked, reads_visits-state}
use Rattle.recording_model.proofs.Sets.{same-sets}
use Rattle.recording_model.proofs.Behind.{behind-reads}
use Rattle.recording_model.proofs.Filled.{full, full-has, full-holds}
use Rattle.recording_model.proofs.MoreBatches.{batch-more, reads-more}
use Rattle.recording_model.proofs.VisitedTexts.{Has}
use Rattle.recording_model.proofs.ReadTexts.{held-reads}
use Rattle.recording_model.proofs.Sound.{both, visited, touched-held, place_text}
use Rattle.recording_model.proofs.TouchedTexts.{Touches, reads-touch, batch-text, text-visited}

-- ---- touched texts are texts of the state

pub touched-in : (state : State) (reads : List (List ℕ)) (changes : Changes) (text : List ℕ) → IsIn (touched_texts state reads changes) text → IsIn (texts_of state) text
unfolding touched_texts texts_of
touched-in state reads changes text h = go (in-append_cases (map (text_at state) (touched_places state reads changes)) (filter_map (get state) reads) text h)
  where
    go : IsIn (map (text_at state) (touched_places state reads changes)) text ⊎ IsIn (filter_map (get state) reads) text → IsIn (map (text_at state) (places_of state) ++ map (λ row. row.1) (rows_of state)) text
    go (inl i) =
        let one = in_map_from (text_at state) (touched_places state reads changes) text i in
        subst (IsIn (map (text_at state) (places_of state) ++ map (λ row. row.1) (rows_of state))) one.2 (place_text state reads changes one.0 one.1)
    go (inr i) =
        let one = in_filter_map_from (get state) reads text i in
        in-append_right (map (text_at state) (places_of state)) (map (λ row. row.1) (rows_of state)) text (value_in state one.0 text one.2)

-- ---- the texts

module _ (table : Table) (state : State) (reads : List (List ℕ)) (changes : Changes) (is : IsState state) (bytes : AllByRecursion AreBytes reads) (are : AreChanges changes) (apart : NoClash (texts_of state)) (agreeing : Agrees table state) (passed : (replay_visits table (root state) reads changes).refusal ≡ None) where
  abbrev digests : List (List ℕ)
  digests = (replay_visits table (root state) reads changes).digests

  abbrev batch : changing.Visits
  batch = batch_visits table (root state) changes

  refused : ((reads_visits table (root state) reads).refusal ≡ None) × (batch.refusal ≡ None)
  refused = both table state reads changes is bytes are apart agreeing passed

  looked-is : reads_visits table (root state) reads ≡ looked state reads
  looked-is =
      sym (reads-more table (full table state) (full-has table state agreeing) (root state) reads refused.0)
      ∙ reads_visits-state (full table state) state (full-holds table state apart) is reads bytes

  pub digests-are : digests ≡ (looked state reads).digests ++ batch.digests
  digests-are =
      ap (λ (v : Visits). v.digests) (behind-reads (reads_visits table (root state) reads) batch refused.0)
      ∙ ap (λ (v : Visits). v.digests ++ batch.digests) looked-is

  batch-visits-touched : (digest : List ℕ) → IsIn batch.digests digest → Touches state reads changes digest
  batch-visits-touched digest h =
      let filled : Table = full table state in
      let test : List ℕ → Bool = λ q. pointwise nat_eq q digest in
      let named : List ℕ → List ℕ = λ place. sha256 (text_at state place) in
      let counted = (batch_passes state changes is are filled (holds-touched filled state (full-holds table state apart) [] changes) test).counted in
      let there : IsIn (batch_visits filled (root state) changes).digests digest = subst (λ (v : changing.Visits). IsIn v.digests digest) (sym (batch-more table filled (full-has table state agreeing) (root state) changes refused.1)) h in
      let some : 1 ≤ count_by test (batch_visits filled (root state) changes).digests = count-member test (batch_visits filled (root state) changes).digests digest there ((bytes_decides digest digest).1 refl) in
      let one = count-some test (map named (touched_places state [] changes)) (subst (λ (n : ℕ). 1 ≤ n) counted some) in
      let place = in_map_from named (touched_places state [] changes) one.0 one.1 in
      subst (Touches state reads changes) (place.2 ∙ (bytes_decides one.0 digest).0 one.2) (text_at state place.0, batch-text state reads changes place.0 place.1, refl)

  -- what is visited is touched
  pub visits-touched : (digest : List ℕ) → IsIn digests digest → Touches state reads changes digest
  visits-touched digest h = go (in-append_cases (looked state reads).digests batch.digests digest (subst (λ (ds : List (List ℕ)). IsIn ds digest) digests-are h))
    where
      go : IsIn (looked state reads).digests digest ⊎ IsIn batch.digests digest → Touches state reads changes digest
      go (inl i) = reads-touch state reads changes digest i
      go (inr i) = batch-visits-touched digest i

  -- what is touched is there
  pub touched-there : (text : List ℕ) → IsIn (touched_texts state reads changes) text → get table (sha256 text) ≡ Some text
  touched-there text h = go (text-visited state reads changes text h)
    where
      go : IsIn (looked state reads).digests (sha256 text) ⊎ ((place : List ℕ) × IsIn (touched_places state [] changes) place × (text_at state place ≡ text)) → get table (sha256 text) ≡ Some text
      go (inl i) =
          let held : Has table (sha256 text) = all_at (Has table) (reads_visits table (root state) reads).digests (sha256 text) (held-reads table (root state) reads refused.0) (subst (λ (v : Visits). IsIn v.digests (sha256 text)) (sym looked-is) i) in
          held.1 ∙ ap Some (sym (agreeing text held.0 (contains_of_in (texts_of state) text (touched-in state reads changes text h)) held.1))
      go (inr place) = subst (λ (t : List ℕ). get table (sha256 t) ≡ Some t) place.2 (touched-held table state reads changes is bytes are apart agreeing passed place.0 place.1)

  -- Of some texts, of which each is used and which are those of the table, the list is exactly that of the touched texts.
  pub exact-texts : (texts : List (List ℕ)) → Rise texts → ((digest text : List ℕ) → get table digest ≡ Some text → IsIn texts text) → ((text : List ℕ) → IsIn texts text → get table (sha256 text) ≡ Some text) → ((text : List ℕ) → IsIn texts text → is_used digests text ≡ true) → texts ≡ recorded_texts state reads changes
  unfolding is_used
  exact-texts texts rise only held used = sym (texts_in-set_of texts rise) ∙ ap texts_in (same-sets texts (touched_texts state reads changes) there back)
    where
      there : (text : List ℕ) → IsIn texts text → IsIn (touched_texts state reads changes) text
      there text i =
          let one = visits-touched (sha256 text) (in_of_any (sha256 text) digests (used text i)) in
          let same : one.0 ≡ text = agreeing one.0 text (contains_of_in (texts_of state) one.0 (touched-in state reads changes one.0 one.1)) (ap (get table) one.2 ∙ held text i) in
          subst (IsIn (touched_texts state reads changes)) same one.1

      back : (text : List ℕ) → IsIn (touched_texts state reads changes) text → IsIn texts text
      back text i = only (sha256 text) text (touched-there text i)

  -- what is touched is visited
  pub touched-visited : (text : List ℕ) → IsIn (touched_texts state reads changes) text → IsIn digests (sha256 text)
  touched-visited text i = subst (λ (ds : List (List ℕ)). IsIn ds (sha256 text)) (sym digests-are) (go (text-visited state reads changes text i))
    where
      go : IsIn (looked state reads).digests (sha256 text) ⊎ ((place : List ℕ) × IsIn (touched_places state [] changes) place × (text_at state place ≡ text)) → IsIn ((looked state reads).digests ++ batch.digests) (sha256 text)
      go (inl h) = in-append_left (looked state reads).digests batch.digests (sha256 text) h
      go (inr place) = in-append_right (looked state reads).digests batch.digests (sha256 text) (subst (λ (t : List ℕ). IsIn batch.digests (sha256 t)) place.2 (visited table state reads changes is bytes are apart agreeing passed place.0 place.1))

  -- Of some texts of the table, whose digests are exactly those that are visited, the list is exactly that of the touched texts.
  pub exact-visited : (texts : List (List ℕ)) → Rise texts → ((text : List ℕ) → IsIn texts text → get table (sha256 text) ≡ Some text) → ((text : List ℕ) → IsIn texts text → IsIn digests (sha256 text)) → ((digest : List ℕ) → IsIn digests digest → (text : List ℕ) × IsIn texts text × (sha256 text ≡ digest)) → texts ≡ recorded_texts state reads changes
  exact-visited texts rise held used named = sym (texts_in-set_of texts rise) ∙ ap texts_in (same-sets texts (touched_texts state reads changes) there back)
    where
      one_text : (a b : List ℕ) → Some a ≡ Some b → a ≡ b
      one_text a b e = cc e

      there : (text : List ℕ) → IsIn texts text → IsIn (touched_texts state reads changes) text
      there text i =
          let one = visits-touched (sha256 text) (used text i) in
          let same : one.0 ≡ text = agreeing one.0 text (contains_of_in (texts_of state) one.0 (touched-in state reads changes one.0 one.1)) (ap (get table) one.2 ∙ held text i) in
          subst (IsIn (touched_texts state reads changes)) same one.1

      back : (text : List ℕ) → IsIn (touched_texts state reads changes) text → IsIn texts text
      back text i =
          let one = named (sha256 text) (touched-visited text i) in
          subst (IsIn texts) (one_text one.0 text (sym (held one.0 one.1) ∙ ap (get table) one.2 ∙ touched-there text i)) one.1
