-- What a batch comes to over the texts of a state.
use Rattle.std.proofs.Common.{◌≡◌, ◌≢◌, ℕ, zero, suc, ◌+◌, ◌-◌, ◌<◌, ◌||◌, not, Bool, true, false, cond, List, [], ◌∷◌, ◌++◌, length, map, filter, get_or, None, Some, Result, Ok, Err, Ordering, Less, Equal, Greater, IsTrue, refl, sym, ap, ap₂, subst, ◌∙◌, arith, nat_cmp}
use Rattle.std.specs.Prelude.{nat_eq}
use Rattle.std.specs.List.{AllByRecursion, Contains, count_by, filter_map, list_any}
use Rattle.std.specs.List.Sorted.{IsStrictlySortedBy}
use Rattle.std.specs.Ordering.{is_le, is_lt, ordering_reverse}
use Rattle.std.specs.Cmp.Lexicographic.{slice_cmp, pointwise, bytes_decides}
use Rattle.std.specs.FinMap.{entries}
use Rattle.std.specs.Option.{unwrap_or}
use Rattle.std.proofs.lemmas.Cmp.{nat_list_cmp_total}
use Rattle.std.proofs.lemmas.List.Sums.{sum_by-cons}
use Rattle.sha2.specs.Sha256.{sha256}
use Rattle.byte_model.specs.Nibbles.{nibbles}
use Rattle.trie_model.specs.State.{State, IsState}
use Rattle.trie_model.specs.Root as trie
use Rattle.trie_model.specs.Root.{Table, root_of, subtree_at, total, text_at, places_of, zero_digest, digest_occurrences}
use Rattle.visit_model.specs.Bounds.{has_prefix}
use Rattle.visit_model.specs.Seen.{seen}
use Rattle.batch_model.specs.Changes as batch
use Rattle.batch_model.specs.Changes.{Changes, AreChanges, after, change_rows}
use Rattle.change_model.specs.Exchange.{count_of_digest, taken_texts}
use Rattle.change_model.specs.Ledger as ledger
use Rattle.change_model.specs.Ledger.{made_texts, gain, loss}
use Rattle.change_model.specs.Places.{is_written, leads_to, touched_places, written_places}
use Rattle.change_model.specs.Tables.{HoldsPlaces}
use Rattle.change_model.specs.Visits.{Visits, batch_visits}
use Rattle.change_model.proofs.Balance.{exchange, more_made, more_taken}
use Rattle.change_model.proofs.Touched.{is_place}
use Rattle.change_model.proofs.Visited.{batch_passes}
use Rattle.update_model.specs.Tops.{top_of, top_digest, top_usage, pending}
use Rattle.update_model.specs.Updates.{Outcome, updated}
use Rattle.update_model.proofs.Joints.{top_usage-top_of}
use Rattle.update_model.proofs.Ledgers.{made_texts-outcome, taken_texts-outcome}
use Rattle.update_model.proofs.OverStates.{updated-over_state, top-over_state, fresh-over_state, gone-over_state, after-none, counts-none, root-top_of}
use Rattle.base_core.specs.declared.hash.Digest.{Digest}
use Rattle.trie_update.specs.Balances.{Ascends, times_in, gained_digests, IsGained, IsMade, IsLost, IsClash}
use Rattle.trie_update.specs.Updates.{AnswersUpdate, ComesTo, ChangesNothing, IsAccount, IsNoChange, IsMadeOf, IsLostOf, IsLeastClash, MeetsState, usage_if}
use Rattle.trie_update.specs.declared.change.Change.{Change}
use Rattle.trie_update.specs.declared.change.LostText.{LostText}
use Rattle.trie_update.specs.declared.change.MadeText.{MadeText}
use Rattle.trie_update.specs.declared.errors.UpdateError.{UpdateError}
use Rattle.trie_update.specs.declared.errors.UpdateError.TheVariants.{Missing, Bad, Usage, Clash, Fault, NoMemory}
use Rattle.trie_update.specs.declared.ledger.Gained.{Gained}
use Rattle.trie_update.proofs.Tallies.{Contains-cons, Contains-map}

-- ---- texts that were gained, each under its digest

abbrev AreNamed : List Gained → Type 0
AreNamed gained = AllByRecursion (λ g. g.digest.0 ≡ sha256 g.text) gained

abbrev texts : List Gained → List (List ℕ)
texts gained = map (λ g. g.text) gained

named-at : (gained : List Gained) (k : ℕ) (g : Gained) → AreNamed gained → k < length gained → get_or gained k g ≡ g → g.digest.0 ≡ sha256 g.text
named-at [] k g named lt e = absurd (omega arith)
named-at (h ∷ gained) zero g named lt e = subst (λ (x : Gained). x.digest.0 ≡ sha256 x.text) e named.0
named-at (h ∷ gained) (suc k) g named lt e = named-at gained k g named.1 (omega arith) e

text-at : (gained : List Gained) (k : ℕ) (t : List ℕ) → AreNamed gained → k < length (texts gained) → get_or (texts gained) k t ≡ t → IsGained gained (sha256 t) t
text-at [] k t named lt e = absurd (omega arith)
text-at (h ∷ gained) zero t named lt e =
    let digest : h.digest.0 ≡ sha256 t = named.0 ∙ ap sha256 e in
    (0, omega arith, λ i. record { digest = record { 0 = digest i }; text = e i })
text-at (h ∷ gained) (suc k) t named lt e = Contains-cons h gained _ (text-at gained k t named.1 (omega arith) e)

-- a text that was gained was gained under its own digest, and there alone
pub gained-of_text : (gained : List Gained) (t : List ℕ) → AreNamed gained → Contains (texts gained) t → IsGained gained (sha256 t) t
gained-of_text gained t named c = text-at gained c.0 t named c.1 c.2

pub text-of_gained : (gained : List Gained) (digest t : List ℕ) → IsGained gained digest t → Contains (texts gained) t
text-of_gained gained digest t c = Contains-map (λ g. g.text) gained _ c

pub digest-of_gained : (gained : List Gained) (digest t : List ℕ) → AreNamed gained → IsGained gained digest t → digest ≡ sha256 t
digest-of_gained gained digest t named c = named-at gained c.0 _ named c.1 c.2

-- ---- counts

pub times-named : (gained : List Gained) (digest : List ℕ) → AreNamed gained → times_in (gained_digests gained) digest ≡ count_of_digest digest (texts gained)
times-named [] digest named = refl
times-named (g ∷ gained) digest named =
    sum_by-cons (λ (d : Digest). cond (pointwise nat_eq d.0 digest) 1 0) g.digest (gained_digests gained)
    ∙ ap₂ (λ (d : List ℕ) (n : ℕ). cond (pointwise nat_eq d digest) 1 0 + n) named.0 (times-named gained digest named.1)
    ∙ sym (sum_by-cons (λ (t : List ℕ). cond (pointwise nat_eq (sha256 t) digest) 1 0) g.text (texts gained))

pub times-bytes : (lost : List Digest) (digest : List ℕ) → times_in lost digest ≡ count_by (λ e. pointwise nat_eq e digest) (map (λ d. d.0) lost)
times-bytes [] digest = refl
times-bytes (d ∷ lost) digest =
    sum_by-cons (λ (e : Digest). cond (pointwise nat_eq e.0 digest) 1 0) d lost
    ∙ ap (λ n. cond (pointwise nat_eq d.0 digest) 1 0 + n) (times-bytes lost digest)
    ∙ sym (sum_by-cons (λ (e : List ℕ). cond (pointwise nat_eq e digest) 1 0) d.0 (map (λ (e : Digest). e.0) lost))

abbrev times_of : List ℕ → List (List ℕ) → ℕ
times_of t ts = count_by (λ (o : List ℕ). pointwise nat_eq o t) ts

times-cons : (o t : List ℕ) (ts : List (List ℕ)) → times_of t (o ∷ ts) ≡ cond (pointwise nat_eq o t) 1 0 + times_of t ts
times-cons o t ts = sum_by-cons (λ (o : List ℕ). cond (pointwise nat_eq o t) 1 0) o ts

counted : (ts : List (List ℕ)) (k : ℕ) (t : List ℕ) → k < length ts → get_or ts k t ≡ t → 0 < times_of t ts
counted [] k t lt e = absurd (omega arith)
counted (o ∷ ts) zero t lt e =
    let test : pointwise nat_eq o t ≡ true = (bytes_decides o t).1 e in
    let here : times_of t (o ∷ ts) ≡ 1 + times_of t ts = times-cons o t ts ∙ ap (λ b. cond b 1 0 + times_of t ts) test in
    omega arith
counted (o ∷ ts) (suc k) t lt e =
    let further = counted ts k t (omega arith) e in
    let here = times-cons o t ts in
    omega arith

found : (ts : List (List ℕ)) (t : List ℕ) → 0 < times_of t ts → Contains ts t
found [] t some = absurd (omega arith)
found (o ∷ ts) t some =
    elim (pointwise nat_eq o t) as (λ b. pointwise nat_eq o t ≡ b → Contains (o ∷ ts) t) [
      | true ↦ λ test. (0, omega arith, (bytes_decides o t).0 test)
      | false ↦ λ test.
          let here : times_of t (o ∷ ts) ≡ 0 + times_of t ts = times-cons o t ts ∙ ap (λ b. cond b 1 0 + times_of t ts) test in
          Contains-cons o ts t (found ts t (omega arith))
    ] refl

-- texts that are counted alike are members alike
pub members-alike : (ts us : List (List ℕ)) → ((test : List ℕ → Bool) → count_by test ts ≡ count_by test us) → (t : List ℕ) → Contains ts t → Contains us t
members-alike ts us same t c = found us t (let here = counted ts c.0 t c.1 c.2 in let alike : times_of t ts ≡ times_of t us = same (λ o. pointwise nat_eq o t) in omega arith)

-- ---- over a state

-- what a batch comes to is what the definitions say of the states before and after
pub record Tells (state : State) (changes : Changes) (outcome : Outcome) : Type 0 where
  pub top : outcome.top ≡ top_of (subtree_at (after state changes) [])
  pub made : (test : List ℕ → Bool) → count_by test (outcome.made ++ pending outcome.top) ≡ count_by test (made_texts state changes)
  pub lost : (digest : List ℕ) → count_by (λ e. pointwise nat_eq e digest) outcome.lost ≡ count_of_digest digest (taken_texts state changes)
  pub fresh : outcome.fresh ≡ ledger.fresh state changes
  pub gone : outcome.gone ≡ ledger.gone state changes

module _ (state : State) (changes : Changes) (outcome : Outcome) (tells : Tells state changes outcome) (gained : List Gained) (lost : List Digest) (account : IsAccount outcome gained lost) where
  -- the texts that were gained are those that the batch makes
  made-counts : (test : List ℕ → Bool) → count_by test (texts gained) ≡ count_by test (made_texts state changes)
  made-counts test = ap (λ (ts : List (List ℕ)). count_by test ts) account.texts ∙ tells.made test

  is_made : (t : List ℕ) → Contains (texts gained) t → Contains (made_texts state changes) t
  is_made t c = members-alike _ _ made-counts t c

  was_gained : (t : List ℕ) → Contains (made_texts state changes) t → IsGained gained (sha256 t) t
  was_gained t c = gained-of_text gained t account.named (members-alike _ _ (λ test. sym (made-counts test)) t c)

  gains : (digest : List ℕ) → times_in (gained_digests gained) digest ≡ count_of_digest digest (made_texts state changes)
  gains digest = times-named gained digest account.named ∙ made-counts (λ t. pointwise nat_eq (sha256 t) digest)

  losses : (digest : List ℕ) → times_in lost digest ≡ count_of_digest digest (taken_texts state changes)
  losses digest = times-bytes lost digest ∙ ap (λ (es : List (List ℕ)). count_by (λ e. pointwise nat_eq e digest) es) account.digests ∙ tells.lost digest

  gain-is : (digest : List ℕ) → times_in (gained_digests gained) digest - times_in lost digest ≡ gain state changes digest
  gain-is digest =
      ap₂ (λ (m n : ℕ). m - n) (gains digest) (losses digest)
      ∙ sym (more_made _ _ _ _ (exchange (λ t. pointwise nat_eq (sha256 t) digest) state changes))

  loss-is : (digest : List ℕ) → times_in lost digest - times_in (gained_digests gained) digest ≡ loss state changes digest
  loss-is digest =
      ap₂ (λ (m n : ℕ). m - n) (losses digest) (gains digest)
      ∙ sym (more_taken _ _ _ _ (exchange (λ t. pointwise nat_eq (sha256 t) digest) state changes))

  pub made-of : (made : List MadeText) → IsMade gained lost made → IsMadeOf state changes made
  made-of made is = record {
    ascends = is.ascends;
    each = λ k d lt.
        let m : MadeText = get_or made k d in
        let here = is.each k d lt in
        let digest = digest-of_gained gained m.digest.0 m.text account.named here.0 in
        (is_made m.text (text-of_gained gained m.digest.0 m.text here.0), digest, ap (λ (x : MadeText). x.times) here.1 ∙ gain-is m.digest.0);
    all = λ t c.
        let g = was_gained t c in
        Contains-map (λ (m : MadeText). m.text) made _ (is.all _ g);
  }

  pub lost-of : (lost_texts : List LostText) → IsLost (gained_digests gained) lost lost_texts → IsLostOf state changes lost_texts
  lost-of lost_texts is = record {
    ascends = is.ascends;
    each = λ k d lt.
        let l : LostText = get_or lost_texts k d in
        let here = is.each k d lt in
        (here.0, ap (λ (x : LostText). x.times) here.1 ∙ loss-is l.digest.0);
    all = λ digest more.
        let less = loss-is digest.0 in
        Contains-map (λ (l : LostText). l.digest) lost_texts _ (is.all digest (omega arith));
  }

  pub clash-of : (digest : Digest) (one other : List ℕ) → IsClash gained digest.0 one other → IsLeastClash (made_texts state changes) digest one other
  clash-of digest one other is = record {
    first = is_made one (text-of_gained gained digest.0 one is.has_first);
    second = is_made other (text-of_gained gained digest.0 other is.has_second);
    clash = record {
      first = sym (digest-of_gained gained digest.0 one account.named is.has_first);
      second = sym (digest-of_gained gained digest.0 other account.named is.has_second);
      differ = is.differ;
    };
    least = λ a b in_a in_b differ same.
        let gained_a = was_gained a in_a in
        let gained_b : IsGained gained (sha256 a) b = subst (λ (d : List ℕ). IsGained gained d b) (sym same) (was_gained b in_b) in
        by_order digest.0 (sha256 a) (slice_cmp nat_cmp (sha256 a) digest.0) (nat_list_cmp_total.antisymm digest.0 (sha256 a)) (λ less. differ (is.least (sha256 a) a b less gained_a gained_b));
  }
    where
      by_order : (d e : List ℕ) (o : Ordering) → slice_cmp nat_cmp d e ≡ ordering_reverse o → (IsTrue (is_lt o) → ⊥) → IsTrue (is_le (slice_cmp nat_cmp d e))
      by_order d e Less back not_less = absurd (not_less refl)
      by_order d e Equal back not_less = ap is_le back
      by_order d e Greater back not_less = ap is_le back

-- ---- the answer, where something is changed

told : (rows : List batch.Change) (used : ℕ) → rows ≢ [] → Some used ≡ usage_if rows used
told [] used some = absurd (some refl)
told (change ∷ rows) used some = refl

module _ (state : State) (changes : Changes) (outcome : Outcome) (visits : Visits) (tells : Tells state changes outcome) (passed : visits.refusal ≡ None) (some : change_rows changes ≢ []) where
  pub meets : (result : Result Change UpdateError) → AnswersUpdate visits result → ComesTo outcome result → MeetsState state changes result
  meets (Ok change) answer is = record {
    root = is.root ∙ ap (λ t. unwrap_or (top_digest t) zero_digest) tells.top ∙ root-top_of (subtree_at (after state changes) []);
    usage = is.usage ∙ ap (λ t. Some (top_usage t)) tells.top ∙ ap Some (top_usage-top_of (subtree_at (after state changes) [])) ∙ told (change_rows changes) (total (after state changes)) some;
    made = made-of state changes outcome tells is.gained is.lost is.account change.made is.balance.is_made;
    lost = lost-of state changes outcome tells is.gained is.lost is.account change.lost is.balance.is_lost;
    fresh = is.fresh ∙ tells.fresh;
    gone = is.gone ∙ tells.gone;
  }
  meets (Err (Missing named)) answer is = absurd cc
  meets (Err (Bad named)) answer is = absurd cc
  meets (Err (Usage named)) answer is = absurd cc
  meets (Err (Clash digest one other)) answer is = clash-of state changes outcome tells is.gained is.lost is.account digest one other is.clash
  meets (Err Fault) answer is = tt
  meets (Err NoMemory) answer is = tt

pub tells-over_state : (table : Table) (state : State) (changes : Changes) → IsState state → AreChanges changes → change_rows changes ≢ [] → HoldsPlaces table state (touched_places state [] changes)
    → Tells state changes (updated (seen table (trie.root state)) (change_rows changes))
tells-over_state table state changes is are some holds = record {
  top = ap (λ o. o.top) (updated-over_state state changes is are some table holds) ∙ top-over_state state changes is are some;
  made = λ test. made_texts-outcome state changes is are some table holds test;
  lost = λ digest. taken_texts-outcome state changes is are some table holds digest;
  fresh = ap (λ o. o.fresh) (updated-over_state state changes is are some table holds) ∙ fresh-over_state state changes are some;
  gone = ap (λ o. o.gone) (updated-over_state state changes is are some table holds) ∙ gone-over_state state changes are some;
}

-- ---- and where nothing is

module _ (state : State) (changes : Changes) (none : change_rows changes ≡ []) where
  same_state : after state changes ≡ state
  same_state = after-none state changes none

  no_entries : entries changes ≡ []
  no_entries = nothing_mapped (entries changes) none
    where
      nothing_mapped : (es : List batch.Change) → map {B = batch.Change} (λ change. (nibbles change.0, change.1)) es ≡ [] → es ≡ []
      nothing_mapped [] e = refl
      nothing_mapped (x ∷ es) e = absurd cc

  not_written : (place : List ℕ) → Contains (places_of (after state changes)) place → is_written state changes place ≡ false
  unfolding is_written leads_to
  not_written place c =
      let there : Contains (places_of state) place = subst (λ (s : State). Contains (places_of s) place) same_state c in
      ap₂ (λ (es : List batch.Change) (b : Bool). list_any (λ path. has_prefix path place) (map (λ change. nibbles change.0) es) || not b) no_entries (is_place state place there)

  nothing_written : written_places state changes ≡ []
  nothing_written = filter-none (is_written state changes) (places_of (after state changes)) not_written
    where
      filter-none : (p : List ℕ → Bool) (ps : List (List ℕ)) → ((q : List ℕ) → Contains ps q → p q ≡ false) → filter p ps ≡ []
      filter-none p [] h = refl
      filter-none p (q ∷ ps) h =
          let here : p q ≡ false = h q (0, omega arith, refl) in
          let further : filter p ps ≡ [] = filter-none p ps (λ r c. h r (Contains-cons q ps r c)) in
          ap₂ (λ (b : Bool) (rs : List (List ℕ)). cond b (q ∷ rs) rs) here further

  nothing_made : made_texts state changes ≡ []
  unfolding made_texts
  nothing_made = ap₂ (λ (ps : List (List ℕ)) (es : List batch.Change). map (text_at (after state changes)) ps ++ filter_map (λ (change : batch.Change). change.1) es) nothing_written no_entries

  no_loss : (digest : List ℕ) → loss state changes digest ≡ 0
  no_loss digest =
      let same : digest_occurrences (after state changes) digest ≡ digest_occurrences state digest = ap (λ (s : State). digest_occurrences s digest) same_state in
      omega arith

  pub meets-none : (change : Change) (root : Digest) → root.0 ≡ trie.root state → IsNoChange root change → MeetsState state changes (Ok change)
  unfolding IsStrictlySortedBy
  meets-none change root is_root is = record {
    root = ap (λ (d : Digest). d.0) is.same ∙ is_root ∙ ap trie.root (sym same_state);
    usage = is.usage ∙ ap (λ (rows : List batch.Change). usage_if rows (total (after state changes))) (sym none);
    made = record {
      ascends = subst (λ (ms : List MadeText). Ascends (map (λ m. m.digest) ms)) (sym is.made) tt;
      each = λ k d lt. absurd (let few = ap length is.made in omega arith);
      all = λ t c. absurd (let few = ap length nothing_made in let lt = c.1 in omega arith);
    };
    lost = record {
      ascends = subst (λ (ls : List LostText). Ascends (map (λ l. l.digest) ls)) (sym is.lost) tt;
      each = λ k d lt. absurd (let few = ap length is.lost in omega arith);
      all = λ digest more. absurd (let less = no_loss digest.0 in omega arith);
    };
    fresh = is.fresh ∙ sym (counts-none state changes none).0;
    gone = is.gone ∙ sym (counts-none state changes none).1;
  }

-- ---- both

module _ (table : Table) (state : State) (changes : Changes) (root : Digest) (is : IsState state) (are : AreChanges changes) (holds : HoldsPlaces table state (touched_places state [] changes)) (is_root : root.0 ≡ trie.root state) where
  some-meets : change_rows changes ≢ [] → (result : Result Change UpdateError) → AnswersUpdate (batch_visits table root.0 changes) result
      → ComesTo (updated (seen table root.0) (change_rows changes)) result → MeetsState state changes result
  some-meets some result answer comes =
      meets state changes (updated (seen table (trie.root state)) (change_rows changes)) (batch_visits table (trie.root state) changes)
      (tells-over_state table state changes is are some holds) (batch_passes state changes is are table holds (λ _. true)).passed some result
      (subst (λ (d : List ℕ). AnswersUpdate (batch_visits table d changes) result) is_root answer)
      (subst (λ (d : List ℕ). ComesTo (updated (seen table d) (change_rows changes)) result) is_root comes)

  none-meets : change_rows changes ≡ [] → (result : Result Change UpdateError) → ChangesNothing root result → MeetsState state changes result
  none-meets none (Ok change) is = meets-none state changes none change root is_root is
  none-meets none (Err error) is = absurd is

  pub answer-meets : (result : Result Change UpdateError) → AnswersUpdate (batch_visits table root.0 changes) result
      → (change_rows changes ≢ [] → ComesTo (updated (seen table root.0) (change_rows changes)) result)
      → (change_rows changes ≡ [] → ChangesNothing root result) → MeetsState state changes result
  answer-meets result answer comes none = go (change_rows changes) refl
    where
      go : (rows : List batch.Change) → change_rows changes ≡ rows → MeetsState state changes result
      go [] e = none-meets e result (none e)
      go (change ∷ rows) e = let some : change_rows changes ≢ [] = λ n. absurd cc in some-meets some result answer (comes some)
