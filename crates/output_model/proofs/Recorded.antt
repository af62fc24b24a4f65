-- What is written where the recording of a state is replayed.
use Rattle.std.proofs.Common.{◌≡◌, ℕ, Bool, true, false, cond, List, [], ◌∷◌, ◌++◌, map, Option, None, Some, ◌⊎◌, inl, inr, refl, sym, ap, ap₂, subst, ◌∙◌}
use Rattle.std.specs.List.{AllByRecursion}
use Rattle.std.specs.Cmp.Lexicographic.{slice_cmp, nat_list_cmp_total}
use Rattle.std.specs.Ordering.{nat_cmp}
use Rattle.std.specs.FinMap.{get, find, get-from_entries}
use Rattle.std.proofs.lemmas.Option.{none-some, same_Some}
use Rattle.sha2.specs.Sha256.{sha256}
use Rattle.byte_model.specs.Nibbles.{AreBytes}
use Rattle.trie_model.specs.State.{State, IsState}
use Rattle.trie_model.specs.Root as trie
use Rattle.trie_model.specs.Root.{NoClash, texts_of}
use Rattle.trie_model.proofs.Members.{IsIn, contains_of_in, in_of_contains, in-append_left, in-append_right}
use Rattle.batch_model.specs.Changes.{Changes, AreChanges, after}
use Rattle.change_model.specs.Ledger.{made_texts}
use Rattle.count_model.specs.Clashes.{made_clash}
use Rattle.count_model.proofs.Clashing.{within-none}
use Rattle.recording_model.specs.Agreeing.{Agrees}
use Rattle.recording_model.specs.Recorded.{touched_texts, recorded_texts}
use Rattle.recording_model.specs.Replays.{Refusal, replay_visits, first_spare}
use Rattle.recording_model.proofs.Filled.{is_same, same_itself, same_from}
use Rattle.recording_model.proofs.Complete.{recorded-there, recorded-apart, recorded-among, complete-places, complete-passes, complete-used}
use Rattle.output_model.specs.Ends.{Output, clash_at}
use Rattle.output_model.specs.Prove.{recorded}
use Rattle.output_model.specs.Replay.{IsByRefusal, IsBySpare, IsCarriedOut, IsClashed, IsOfState, IsReplay, StandsOn, replayed, table_of, visits_in}

-- ---- a table of texts

abbrev pairs_of : List (List ℕ) → List (List ℕ × List ℕ)
pairs_of texts = map (λ t. (sha256 t, t)) texts

get-table_of : (texts : List (List ℕ)) (q : List ℕ) → get (table_of texts) q ≡ find (slice_cmp nat_cmp) q (pairs_of texts)
get-table_of texts q = get-from_entries nat_list_cmp_total (pairs_of texts) q

find_one : (texts : List (List ℕ)) (q t : List ℕ) → find (slice_cmp nat_cmp) q (pairs_of texts) ≡ Some t → IsIn texts t × (q ≡ sha256 t)
find_one [] q t e = cc
find_one (u ∷ texts) q t e = go (is_same q (sha256 u)) refl e (find_one texts q t)
  where
    the_one : Some u ≡ Some t → u ≡ t
    the_one k = cc k

    go : (b : Bool) → is_same q (sha256 u) ≡ b → cond b (Some u) (find (slice_cmp nat_cmp) q (pairs_of texts)) ≡ Some t → (find (slice_cmp nat_cmp) q (pairs_of texts) ≡ Some t → IsIn texts t × (q ≡ sha256 t)) → IsIn (u ∷ texts) t × (q ≡ sha256 t)
    go true s k rest = (inl (the_one k), same_from q (sha256 u) s ∙ ap sha256 (the_one k))
    go false s k rest = let later = rest k in (inr later.0, later.1)

find-at : (texts : List (List ℕ)) → ((a b : List ℕ) → IsIn texts a → IsIn texts b → sha256 a ≡ sha256 b → a ≡ b) → (t : List ℕ) → IsIn texts t → find (slice_cmp nat_cmp) (sha256 t) (pairs_of texts) ≡ Some t
find-at [] apart t h = absurd h
find-at (u ∷ texts) apart t h =
    go (is_same (sha256 t) (sha256 u)) refl h (find-at texts (λ a b i j. apart a b (inr i) (inr j)) t)
  where
    differ : false ≡ true → ⊥
    differ e = cc

    go : (b : Bool) → is_same (sha256 t) (sha256 u) ≡ b → IsIn (u ∷ texts) t → (IsIn texts t → find (slice_cmp nat_cmp) (sha256 t) (pairs_of texts) ≡ Some t) → cond b (Some u) (find (slice_cmp nat_cmp) (sha256 t) (pairs_of texts)) ≡ Some t
    go true s k further = ap Some (apart u t (inl refl) k (sym (same_from (sha256 t) (sha256 u) s)))
    go false s (inl is) further = absurd (differ (sym s ∙ ap (λ (v : List ℕ). is_same (sha256 t) (sha256 v)) is ∙ same_itself (sha256 t)))
    go false s (inr k) further = further k

-- ---- the recording of a state

module _ (state : State) (reads : List (List ℕ)) (changes : Changes) (is : IsState state) (bytes : AllByRecursion AreBytes reads) (are : AreChanges changes) (apart : NoClash (texts_of state)) where
  abbrev texts : List (List ℕ)
  texts = recorded_texts state reads changes

  all_apart : NoClash (texts_of state ++ texts)
  all_apart = recorded-among state reads changes apart

  agrees : Agrees (table_of texts) state
  agrees t text h e =
      let one = find_one texts (sha256 t) text (sym (get-table_of texts (sha256 t)) ∙ e) in
      all_apart.apart t text
      (contains_of_in (texts_of state ++ texts) t (in-append_left (texts_of state) texts t (in_of_contains (texts_of state) t h)))
      (contains_of_in (texts_of state ++ texts) text (in-append_right (texts_of state) texts text one.0))
      one.1

  there : (text : List ℕ) → IsIn (touched_texts state reads changes) text → get (table_of texts) (sha256 text) ≡ Some text
  there = recorded-there (table_of texts) state reads changes (λ text i.
      get-table_of texts (sha256 text) ∙ find-at texts (λ a b j k. (recorded-apart state reads changes apart).apart a b (contains_of_in texts a j) (contains_of_in texts b k)) text i)

  stands : StandsOn (recorded state reads changes) state
  stands = record {
    is = is;
    root = refl;
    held = complete-places (table_of texts) state reads changes is bytes are apart agrees there;
  }

  of_state : IsOfState (recorded state reads changes) state
  of_state = record { is = is; root = refl; apart = all_apart }

  abbrev answers : List (Option (List ℕ))
  answers = (visits_in (recorded state reads changes)).answers

  -- nothing is refused, and no text is spare
  carried-or_clashed : (output : Output) → IsReplay (recorded state reads changes) output → IsClashed (recorded state reads changes) output ⊎ IsCarriedOut (recorded state reads changes) answers output
  carried-or_clashed output replays =
      unspared (subst (λ (o : Option Refusal). IsByRefusal (recorded state reads changes) (visits_in (recorded state reads changes)) o output) (complete-passes (table_of texts) state reads changes is bytes are apart agrees there) replays)
    where
      unspared : IsClashed (recorded state reads changes) output ⊎ IsBySpare (recorded state reads changes) answers (first_spare (visits_in (recorded state reads changes)).digests texts) output → IsClashed (recorded state reads changes) output ⊎ IsCarriedOut (recorded state reads changes) answers output
      unspared (inl clashed) = inl clashed
      unspared (inr spare) = inr (subst (λ (o : Option ℕ). IsBySpare (recorded state reads changes) answers o output) (complete-used (table_of texts) state reads changes is bytes are apart agrees there) spare)

  pub carried-out : (output : Output) → made_clash state changes ≡ None → IsReplay (recorded state reads changes) output → output ≡ replayed (map (get state) reads) (trie.root (after state changes))
  carried-out output clear replays = go (carried-or_clashed output replays)
    where
      go : IsClashed (recorded state reads changes) output ⊎ IsCarriedOut (recorded state reads changes) answers output → output ≡ replayed (map (get state) reads) (trie.root (after state changes))
      go (inl clashed) = absurd (none-some clashed.digest (sym clear ∙ clashed.made state stands))
      go (inr carried) = let told = carried.tells state of_state in carried.output_is ∙ ap₂ replayed told.answers_are told.root_is

  pub clashed-told : (output : Output) (digest : List ℕ) → made_clash state changes ≡ Some digest → IsReplay (recorded state reads changes) output → output ≡ clash_at digest
  clashed-told output digest clash replays = go (carried-or_clashed output replays)
    where
      go : IsClashed (recorded state reads changes) output ⊎ IsCarriedOut (recorded state reads changes) answers output → output ≡ clash_at digest
      go (inl clashed) = clashed.output_is ∙ ap clash_at (same_Some clashed.digest digest (sym (clashed.made state stands) ∙ clash))
      go (inr carried) =
          absurd (none-some digest (sym ((within-none sha256 (made_texts state changes)).1 (λ n shared. shared.different (carried.clear state stands shared.one shared.other shared.first shared.second (shared.is_of_one ∙ sym shared.is_of_other)))) ∙ clash))
