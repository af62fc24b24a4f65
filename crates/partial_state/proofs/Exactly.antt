-- Notes whose digests are exactly those that were visited are exactly the recorded texts.
use Rattle.std.proofs.Common.{◌≡◌, ℕ, true, nat_cmp, List, [], ◌∷◌, None, inl, inr, ◌⊎◌, refl, sym, ap, subst, ◌∙◌}
use Rattle.std.specs.FinSet as set
use Rattle.std.specs.FinSet.{contains, contains-empty, contains-insert}
use Rattle.std.specs.Cmp.Lexicographic.{slice_cmp, nat_list_cmp_total}
use Rattle.std.proofs.lemmas.Bool.{or_cases, or_left, or_right}
use Rattle.sha2.specs.Sha256.{sha256}
use Rattle.trie_model.specs.State.{State, IsState}
use Rattle.trie_model.specs.Root.{Table, NoClash, root, texts_of}
use Rattle.trie_model.proofs.Members.{IsIn, contains_of_in}
use Rattle.batch_model.specs.Changes.{Changes}
use Rattle.change_model.proofs.Touched.{any_of_in, in_of_any}
use Rattle.partial_model.specs.Texts.{SetOfTexts, texts_in}
use Rattle.partial_model.proofs.Sets.{rise-texts_in}
use Rattle.recording_model.specs.Agreeing.{Agrees}
use Rattle.recording_model.specs.Recorded.{recorded_texts}
use Rattle.recording_model.specs.Replays.{replay_visits}
use Rattle.recording_model.proofs.Exact.{exact-visited}
use Rattle.base_core.proofs.ByteMaps.{is_same-itself, same_from, is_same}
use Rattle.text_store.specs.Store.{Digests}
use Rattle.text_store.specs.Leaves.{with_all}
use Rattle.partial_state.specs.Replays.{AreWithin}
use Rattle.partial_state.specs.NotedTexts.{digests_of}
use Rattle.partial_state.specs.Recorders.{AreTexts}
use Rattle.partial_state.proofs.Notes.{found-in}
use Rattle.partial_state.proofs.Spares.{contains-all}

none_there : (q : List ℕ) → contains (set.empty {R = slice_cmp nat_cmp}) q ≡ true → ⊥
none_there q e = cc (e, contains-empty (slice_cmp nat_cmp) q)

named-by : (ts : List (List ℕ)) (q : List ℕ) → contains (digests_of ts) q ≡ true → (t : List ℕ) × IsIn ts t × (sha256 t ≡ q)
unfolding digests_of
named-by [] q e = absurd (none_there q e)
named-by (t ∷ ts) q e = go (named-by ts q) (or_cases _ _ (sym (contains-insert nat_list_cmp_total (digests_of ts) (sha256 t) q) ∙ e))
  where
    go : (contains (digests_of ts) q ≡ true → (u : List ℕ) × IsIn ts u × (sha256 u ≡ q)) → (is_same q (sha256 t) ≡ true) ⊎ (contains (digests_of ts) q ≡ true) → (u : List ℕ) × IsIn (t ∷ ts) u × (sha256 u ≡ q)
    go deeper (inl same) = (t, inl refl, sym (same_from q (sha256 t) same))
    go deeper (inr h) = let one = deeper h in (one.0, inr one.1, one.2)

in-digests : (ts : List (List ℕ)) (t : List ℕ) → IsIn ts t → contains (digests_of ts) (sha256 t) ≡ true
unfolding digests_of
in-digests [] t i = absurd i
in-digests (x ∷ ts) t (inl same) =
    contains-insert nat_list_cmp_total (digests_of ts) (sha256 x) (sha256 t) ∙ or_left _ _ (subst (λ (u : List ℕ). is_same (sha256 t) (sha256 u) ≡ true) (sym same) (is_same-itself (sha256 t)))
in-digests (x ∷ ts) t (inr h) = contains-insert nat_list_cmp_total (digests_of ts) (sha256 x) (sha256 t) ∙ or_right _ _ (in-digests ts t h)

pub noted-exactly : (table : Table) (state : State) (reads : List (List ℕ)) (changes : Changes) → IsState state → AreWithin reads changes → NoClash (texts_of state) → Agrees table state → (replay_visits table (root state) reads changes).refusal ≡ None
    → (notes : SetOfTexts) → AreTexts table notes → digests_of (texts_in notes) ≡ with_all set.empty (replay_visits table (root state) reads changes).digests → texts_in notes ≡ recorded_texts state reads changes
noted-exactly table state reads changes is within apart agrees passed notes are exactly =
    let digests : List (List ℕ) = (replay_visits table (root state) reads changes).digests in
    exact-visited table state reads changes is within.reads_are within.changes_are apart agrees passed (texts_in notes) (rise-texts_in notes)
    (λ text i. are.held text (found-in notes text (contains_of_in (texts_in notes) text i)))
    (λ text i. in_of_any (sha256 text) digests (sym (contains-all digests (sha256 text)) ∙ ap (λ (s : Digests). contains s (sha256 text)) (sym exactly) ∙ in-digests (texts_in notes) text i))
    (λ digest i. named-by (texts_in notes) digest (ap (λ (s : Digests). contains s digest) exactly ∙ contains-all digests digest ∙ any_of_in digest digests i))
