-- Both sides of a balance, as they are told of lists in the order of digests.
use Rattle.std.proofs.Common.{◌≡◌, ℕ, ◌+◌, ◌-◌, ◌<◌, ◌≤◌, Bool, nat_eq, ltb, cond, count_by, List, [], ◌∷◌, ◌++◌, length, map, take, get_or, All, Contains, filter, IsSorted, IsPermutation, refl, sym, ap, ap₂, ◌∙◌, subst, arith}
use mathlib.Core.List.{map-map}
use Rattle.std.specs.Cmp.Lexicographic.{pointwise, texts_ties}
use Rattle.std.specs.List.{dedup}
use Rattle.std.proofs.lemmas.Bool.{lt-ltb, le-ltb, ltb-true, cond-true, cond-false}
use Rattle.std.proofs.lemmas.Cmp.{on_total, on_equiv, nat_list_eq_equiv}
use Rattle.std.proofs.lemmas.List.{map-append, map-id, append-nil, length-map, get_or-map}
use Rattle.std.proofs.lemmas.List.Elements.{All-map, All-weaker, All-contains, Contains-get_or, filter_more, filter_passes}
use Rattle.std.proofs.lemmas.List.Kept.{Any-dedup, Contains-dedup, Contains-from_dedup, IsStrictlySortedBy-dedup, IsStrictlySortedBy-filter}
use Rattle.std.proofs.lemmas.List.Sorted.{IsPermutation-map, Contains-permutation}
use Rattle.std.proofs.lemmas.List.Sums.{sum_by-cons}
use Rattle.base_core.specs.declared.hash.Digest.{Digest}
use Rattle.trie_update.specs.declared.change.LostText.{LostText}
use Rattle.trie_update.specs.declared.change.MadeText.{MadeText}
use Rattle.trie_update.specs.declared.ledger.Gained.{Gained}
use Rattle.trie_update.specs.Balances.{times_in, gained_digests, IsGained, Agree, by_bytes, Ascends, made_text, IsMade, lost_text, IsLost, IsBalance}
use Rattle.trie_update.proofs.Tallies.{by_bytes-total, told-same, Contains-map, Contains-filter, rising-map, times_in-permutation, member-counted}
use Rattle.trie_update.proofs.Clashes.{IsInOrder, gained-back, agree-back}

-- ---- what is made

abbrev pub same_digest : Gained → Gained → Bool
same_digest g h = pointwise nat_eq g.digest.0 h.digest.0

pub kept-rise : (gained : List Gained) → IsInOrder gained → Ascends (map (λ g. g.digest) (dedup same_digest gained))
kept-rise gained up =
    rising-map by_bytes (λ (g : Gained). g.digest) (dedup same_digest gained)
    (IsStrictlySortedBy-dedup (on_total (λ (g : Gained). g.digest) by_bytes-total) {E = same_digest} (λ g h. texts_ties g.digest.0 h.digest.0) gained up)

-- the digest at a turn through them
pub kept-turn : (gained kept : List Gained) (turn : ℕ) (g : Gained) → kept ≡ dedup same_digest gained → (turn < length kept) × (g ≡ get_or kept turn g)
    → (turn < length (gained_digests (dedup same_digest gained))) × (g.digest ≡ get_or (gained_digests (dedup same_digest gained)) turn g.digest)
kept-turn gained kept turn g is here =
    subst (λ xs. (turn < length (gained_digests xs)) × (g.digest ≡ get_or (gained_digests xs) turn g.digest)) is
    (omega (arith, here.0, length-map kept (λ (x : Gained). x.digest)), ap (λ (x : Gained). x.digest) here.1 ∙ sym (get_or-map (λ (x : Gained). x.digest) kept turn g g.digest here.0))

pub made : (gained : List Gained) (lost : List Digest) (texts : List MadeText) → IsInOrder gained → Agree gained → texts ≡ map (made_text gained lost) (dedup same_digest gained) → IsMade gained lost texts
made gained lost texts up agree is = subst (IsMade gained lost) (sym is) (record { ascends = ascends; each = each; all = all })
  where
    ascends : Ascends (map (λ m. m.digest) (map (made_text gained lost) (dedup same_digest gained)))
    ascends =
        subst Ascends (sym (map-map (λ (m : MadeText). m.digest) (made_text gained lost) (dedup same_digest gained))) (kept-rise gained up)

    each : All (λ m. IsGained gained m.digest.0 m.text × (m ≡ made_text gained lost (record { digest = m.digest; text = m.text }))) (map (made_text gained lost) (dedup same_digest gained))
    each =
        All-map (λ m. IsGained gained m.digest.0 m.text × (m ≡ made_text gained lost (record { digest = m.digest; text = m.text }))) (made_text gained lost) (dedup same_digest gained)
        (λ k d below. (Contains-from_dedup same_digest gained (get_or (dedup same_digest gained) k d) (Contains-get_or (dedup same_digest gained) k d below), refl))

    all : (g : Gained) → Contains gained g → Contains (map (made_text gained lost) (dedup same_digest gained)) (made_text gained lost g)
    all g c =
        let found = Any-dedup {E = same_digest} (on_equiv (λ (x : Gained). x.digest.0) nat_list_eq_equiv) gained g c in
        let other = found.1 in
        let stays : Contains (dedup same_digest gained) other = (found.0, found.2, found.3) in
        let digests = told-same g.digest other.digest found.4 in
        let came = subst (λ d. Contains gained (record { digest = d; text = other.text })) (sym digests) (Contains-from_dedup same_digest gained other stays) in
        let texts = agree g.digest.0 other.text g.text came c in
        subst (λ x. Contains (map (made_text gained lost) (dedup same_digest gained)) (made_text gained lost x)) (ap₂ (λ d t. record { digest = d; text = t }) (sym digests) texts) (Contains-map (made_text gained lost) (dedup same_digest gained) other stays)

-- ---- what is lost

abbrev pub same_bytes : Digest → Digest → Bool
same_bytes d e = pointwise nat_eq d.0 e.0

-- a digest is lost more often than gained
abbrev pub is_less : List Digest → List Digest → Digest → Bool
is_less gains lost d = ltb (times_in gains d.0) (times_in lost d.0)

-- the digests of some that are
abbrev pub losses_among : List Digest → List Digest → List Digest → List LostText
losses_among gains lost digests = map (lost_text gains lost) (filter (is_less gains lost) digests)

module _ (gains lost digests : List Digest) (i : ℕ) (x : Digest) (within : i < length digests) where
  more : losses_among gains lost (take (i + 1) digests) ≡ losses_among gains lost (take i digests) ++ losses_among gains lost (get_or digests i x ∷ [])
  more =
      ap (map (lost_text gains lost)) (filter_more (is_less gains lost) digests i x within)
      ∙ map-append (lost_text gains lost) (filter (is_less gains lost) (take i digests)) (filter (is_less gains lost) (get_or digests i x ∷ []))

  -- of one more digest
  pub losses-more : times_in gains (get_or digests i x).0 < times_in lost (get_or digests i x).0 → losses_among gains lost (take (i + 1) digests) ≡ losses_among gains lost (take i digests) ++ lost_text gains lost (get_or digests i x) ∷ []
  losses-more less =
      more ∙ ap (λ ds. losses_among gains lost (take i digests) ++ map (lost_text gains lost) ds)
      (cond-true (is_less gains lost (get_or digests i x)) (get_or digests i x ∷ []) [] (lt-ltb (times_in gains (get_or digests i x).0) (times_in lost (get_or digests i x).0) less))

  pub losses-same : times_in lost (get_or digests i x).0 ≤ times_in gains (get_or digests i x).0 → losses_among gains lost (take (i + 1) digests) ≡ losses_among gains lost (take i digests)
  losses-same few =
      more ∙ ap (λ ds. losses_among gains lost (take i digests) ++ map (lost_text gains lost) ds)
      (cond-false (is_less gains lost (get_or digests i x)) (get_or digests i x ∷ []) [] (le-ltb (times_in gains (get_or digests i x).0) (times_in lost (get_or digests i x).0) few))
      ∙ append-nil (losses_among gains lost (take i digests))

pub digests-rise : (digests : List Digest) → IsSorted by_bytes digests → Ascends (dedup same_bytes digests)
digests-rise digests up = IsStrictlySortedBy-dedup by_bytes-total {E = same_bytes} (λ d e. texts_ties d.0 e.0) digests up

pub lost_side : (gains lost : List Digest) (losses : List LostText) → IsSorted by_bytes lost → losses ≡ losses_among gains lost (dedup same_bytes lost) → IsLost gains lost losses
lost_side gains lost losses up is = subst (IsLost gains lost) (sym is) (record { ascends = ascends; each = each; all = all })
  where
    ascends : Ascends (map (λ l. l.digest) (losses_among gains lost (dedup same_bytes lost)))
    ascends =
        subst Ascends (sym (map-map (λ (l : LostText). l.digest) (lost_text gains lost) (filter (is_less gains lost) (dedup same_bytes lost)) ∙ map-id (filter (is_less gains lost) (dedup same_bytes lost))))
        (IsStrictlySortedBy-filter by_bytes (is_less gains lost) (dedup same_bytes lost) (digests-rise lost up))

    each : All (λ l. (0 < l.times) × (l ≡ lost_text gains lost l.digest)) (losses_among gains lost (dedup same_bytes lost))
    each =
        All-map (λ l. (0 < l.times) × (l ≡ lost_text gains lost l.digest)) (lost_text gains lost) (filter (is_less gains lost) (dedup same_bytes lost))
        (λ k d below. (let e = ltb-true _ _ (filter_passes (is_less gains lost) (dedup same_bytes lost) k d below) in omega arith, refl))

    all : (d : Digest) → times_in gains d.0 < times_in lost d.0 → Contains (losses_among gains lost (dedup same_bytes lost)) (lost_text gains lost d)
    all d less =
        let stands = member-counted lost d (omega arith) in
        let stays = Contains-dedup {E = same_bytes} (on_equiv (λ (x : Digest). x.0) nat_list_eq_equiv) told-same lost d stands in
        Contains-map (lost_text gains lost) (filter (is_less gains lost) (dedup same_bytes lost)) d
        (Contains-filter (is_less gains lost) (dedup same_bytes lost) d (lt-ltb (times_in gains d.0) (times_in lost d.0) less) stays)

-- ---- in another order

module _ (gained others : List Gained) (lost others' : List Digest) (moved : IsPermutation gained others) (moved' : IsPermutation lost others') where
  gains_same : (d : List ℕ) → times_in (gained_digests others) d ≡ times_in (gained_digests gained) d
  gains_same d = times_in-permutation (gained_digests gained) (gained_digests others) (IsPermutation-map (λ g. g.digest) gained others moved) d

  losses_same : (d : List ℕ) → times_in others' d ≡ times_in lost d
  losses_same d = times_in-permutation lost others' moved' d

  made_same : (g : Gained) → made_text others others' g ≡ made_text gained lost g
  made_same g = ap₂ (λ a b. record { digest = g.digest; text = g.text; times = a - b }) (gains_same g.digest.0) (losses_same g.digest.0)

  lost_same : (d : Digest) → lost_text (gained_digests others) others' d ≡ lost_text (gained_digests gained) lost d
  lost_same d = ap₂ (λ a b. record { digest = d; times = a - b }) (losses_same d.0) (gains_same d.0)

  pub balance-back : (texts : List MadeText) (losses : List LostText) → IsBalance others others' texts losses → IsBalance gained lost texts losses
  balance-back texts losses told = record {
    agree = agree-back gained others moved told.agree;
    is_made = record {
      ascends = told.is_made.ascends;
      each = All-weaker (λ m. IsGained others m.digest.0 m.text × (m ≡ made_text others others' (record { digest = m.digest; text = m.text }))) (λ m. IsGained gained m.digest.0 m.text × (m ≡ made_text gained lost (record { digest = m.digest; text = m.text })))
          (λ m h. (gained-back gained others moved m.digest.0 m.text h.0, h.1 ∙ made_same (record { digest = m.digest; text = m.text }))) texts told.is_made.each;
      all = λ g c. subst (Contains texts) (made_same g) (told.is_made.all g (Contains-permutation gained others g moved c));
    };
    is_lost = record {
      ascends = told.is_lost.ascends;
      each = All-weaker (λ l. (0 < l.times) × (l ≡ lost_text (gained_digests others) others' l.digest)) (λ l. (0 < l.times) × (l ≡ lost_text (gained_digests gained) lost l.digest)) (λ l h. (h.0, h.1 ∙ lost_same l.digest)) losses told.is_lost.each;
      all = λ d less. subst (Contains losses) (lost_same d) (told.is_lost.all d (omega (arith, gains_same d.0, losses_same d.0)));
    };
  }

-- ---- for whoever knows the entries one by one

pub gains-counted : (gained : List Gained) (d : List ℕ) → times_in (gained_digests gained) d ≡ count_by (λ g. pointwise nat_eq g.digest.0 d) gained
gains-counted [] d = refl
gains-counted (g ∷ gained) d =
    let rest = gains-counted gained d in
    let split : times_in (gained_digests (g ∷ gained)) d ≡ cond (pointwise nat_eq g.digest.0 d) 1 0 + times_in (gained_digests gained) d = sum_by-cons (λ (e : Digest). cond (pointwise nat_eq e.0 d) 1 0) g.digest (gained_digests gained) in
    let split' : count_by (λ (h : Gained). pointwise nat_eq h.digest.0 d) (g ∷ gained) ≡ cond (pointwise nat_eq g.digest.0 d) 1 0 + count_by (λ (h : Gained). pointwise nat_eq h.digest.0 d) gained = sum_by-cons (λ (h : Gained). cond (pointwise nat_eq h.digest.0 d) 1 0) g gained in
    split ∙ ap (λ n. cond (pointwise nat_eq g.digest.0 d) 1 0 + n) rest ∙ sym split'

-- what holds of each text that was gained holds of each that is made, such as that its digest is its hash
pub each-made : (P : List ℕ → List ℕ → Type 0) (gained : List Gained) (lost : List Digest) (texts : List MadeText) → All (λ g. P g.digest.0 g.text) gained → IsMade gained lost texts → All (λ m. P m.digest.0 m.text) texts
each-made P gained lost texts all made k m below =
    All-contains (λ (g : Gained). P g.digest.0 g.text) gained (record { digest = (get_or texts k m).digest; text = (get_or texts k m).text }) all (made.each k m below).0
