-- Texts that are gained in the order of their digests: where neighbours agree, all agree.
use Rattle.std.proofs.Common.{◌≡◌, ◌≢◌, ℕ, zero, suc, ◌-◌, ◌<◌, ◌≤◌, true, false, not, nat_eq, List, [], length, get_or, Contains, IsTrue, IsSorted, IsSortedByKey, IsPermutation, inl, inr, is_lt, sym, ap, ◌∙◌, subst, arith, add-one}
use Rattle.std.specs.Cmp.Lexicographic.{slice_cmp, pointwise, bytes_decides}
use Rattle.std.specs.Ordering.{nat_cmp}
use Rattle.std.specs.List.{AllAdjacentBelow}
use Rattle.std.proofs.lemmas.Bool.{true≢false, not-false, cases_lt}
use Rattle.std.proofs.lemmas.List.{get_or_default}
use Rattle.std.proofs.lemmas.List.Sorted.{ranks_by, sorted_far, Contains-permutation, IsPermutation-sym}
use Rattle.base_core.specs.declared.hash.Digest.{Digest}
use Rattle.trie_update.specs.declared.errors.UpdateError.{UpdateError}
use Rattle.trie_update.specs.declared.errors.UpdateError.TheVariants.{Missing, Bad, Usage, Clash, Fault, NoMemory}
use Rattle.trie_update.specs.declared.ledger.Gained.{Gained}
use Rattle.trie_update.specs.Balances.{by_bytes, gained_digests, IsGained, Agree, IsClash, IsBalanceError}
use Rattle.trie_update.proofs.Tallies.{by_bytes-total, squeezed, sorted-map}

abbrev pub IsInOrder : List Gained → Type 0
IsInOrder gained = IsSortedByKey (λ g. g.digest) by_bytes gained

pub digests-in_order : (gained : List Gained) → IsInOrder gained → IsSorted by_bytes (gained_digests gained)
digests-in_order gained up = sorted-map (λ (g : Gained). g.digest) (λ d. record { digest = d; text = [] }) gained up

-- two texts under one digest are one
abbrev pub AgreesWith : Gained → Gained → Type 0
AgreesWith g h = g.digest ≡ h.digest → g.text ≡ h.text

-- of two places the later one has no lower digest
pub no_lower : (gained : List Gained) → IsInOrder gained → (i j : ℕ) (d : Gained) → i ≤ j → j < length gained → is_lt (by_bytes (get_or gained j d).digest (get_or gained i d).digest) ≡ false
no_lower gained up i j d from within = sorted_far (λ x y. is_lt (by_bytes x.digest y.digest)) (ranks_by by_bytes-total (λ g. g.digest)) gained up i j d from within

module _ (gained : List Gained) (up : IsInOrder gained) (n : ℕ) (within : n ≤ length gained) (near : AllAdjacentBelow AgreesWith gained n) where
  -- between two places with one digest there is no other
  far : (i j : ℕ) (d : Gained) → i ≤ j → j < n → (get_or gained i d).digest ≡ (get_or gained j d).digest → (get_or gained i d).text ≡ (get_or gained j d).text
  far i zero d from below same = ap (λ k. (get_or gained k d).text) (let e : i ≡ 0 = omega arith in e)
  far i (suc j) d from below same = elim (cases_lt i (suc j)) [
    | inl before ↦ (
        let up_to = no_lower gained up i j d (omega arith) (omega arith) in
        let up_from = subst (λ x. is_lt (by_bytes x (get_or gained j d).digest) ≡ false) (sym same) (no_lower gained up j (suc j) d (omega arith) (omega arith)) in
        let middle : (get_or gained i d).digest ≡ (get_or gained j d).digest = squeezed (get_or gained i d).digest (get_or gained j d).digest up_from up_to in
        let step = subst (λ k. AgreesWith (get_or gained j d) (get_or gained k d)) (add-one j) (near j d (omega arith)) in
        far i j d (omega arith) (omega arith) middle ∙ step (sym middle ∙ same))
    | inr at_end ↦ ap (λ k. (get_or gained k d).text) (let e : i ≡ suc j = omega arith in e)
  ]

  -- what stands at two places
  pub agreed : (digest a b : List ℕ) (c : IsGained gained digest a) (e : IsGained gained digest b) → c.0 < n → e.0 < n → a ≡ b
  agreed digest a b c e below below' =
      let g : Gained = record { digest = record { 0 = digest }; text = a } in
      let h : Gained = record { digest = record { 0 = digest }; text = b } in
      let one_is : get_or gained c.0 g ≡ g = c.2 in
      let other_is : get_or gained e.0 g ≡ h = get_or_default gained e.0 g h e.1 ∙ e.2 in
      let digests : (get_or gained c.0 g).digest ≡ (get_or gained e.0 g).digest = ap (λ x. x.digest) one_is ∙ sym (ap (λ x. x.digest) other_is) in
      let texts : (get_or gained c.0 g).text ≡ (get_or gained e.0 g).text = elim (cases_lt c.0 e.0) [ inl before ↦ far c.0 e.0 g (omega arith) below' digests | inr behind ↦ sym (far e.0 c.0 g behind below (sym digests)) ] in
      sym (ap (λ x. x.text) one_is) ∙ texts ∙ ap (λ x. x.text) other_is

pub agreed-all : (gained : List Gained) → IsInOrder gained → AllAdjacentBelow AgreesWith gained (length gained) → Agree gained
agreed-all gained up near digest a b c e = agreed gained up (length gained) (omega arith) near digest a b c e c.1 e.1

-- the first two neighbours that differ have the least digest of all that do
module _ (gained : List Gained) (up : IsInOrder gained) (i : ℕ) (g h : Gained) (start : 0 < i) (within : i < length gained)
    (former : g ≡ get_or gained (i - 1) g) (entry : h ≡ get_or gained i h) (near : AllAdjacentBelow AgreesWith gained i) where
  lower-before : (lower a : List ℕ) (c : IsGained gained lower a) → IsTrue (is_lt (slice_cmp nat_cmp lower h.digest.0)) → c.0 < i
  lower-before lower a c is_lower = elim (cases_lt c.0 i) [
    | inl before ↦ before
    | inr behind ↦ (
        let x : Gained = record { digest = record { 0 = lower }; text = a } in
        let here : get_or gained i x ≡ h = get_or_default gained i x h within ∙ sym entry in
        let no = no_lower gained up i c.0 x behind c.1 in
        let same : is_lt (by_bytes (get_or gained c.0 x).digest (get_or gained i x).digest) ≡ is_lt (slice_cmp nat_cmp lower h.digest.0) = ap (λ y. is_lt (by_bytes y.digest (get_or gained i x).digest)) c.2 ∙ ap (λ y. is_lt (slice_cmp nat_cmp lower y.digest.0)) here in
        absurd (true≢false (sym is_lower ∙ sym same ∙ no)))
  ]

  pub clash-found : g.digest ≡ h.digest → g.text ≢ h.text → IsClash gained h.digest.0 g.text h.text
  clash-found same differ = record {
    has_first = subst (λ d. Contains gained (record { digest = d; text = g.text })) same (i - 1, omega arith, sym former);
    has_second = (i, within, sym entry);
    differ = differ;
    least = λ lower a b is_lower c e. agreed gained up i (omega arith) near lower a b c e (lower-before lower a c is_lower) (lower-before lower b e is_lower);
  }

-- ---- in another order

module _ (gained others : List Gained) (moved : IsPermutation gained others) where
  pub gained-moved : (digest text : List ℕ) → IsGained gained digest text → IsGained others digest text
  gained-moved digest text c = Contains-permutation gained others _ moved c

  pub gained-back : (digest text : List ℕ) → IsGained others digest text → IsGained gained digest text
  gained-back digest text c = Contains-permutation others gained _ (IsPermutation-sym gained others moved) c

  pub agree-back : Agree others → Agree gained
  agree-back agree digest a b c e = agree digest a b (gained-moved digest a c) (gained-moved digest b e)

  pub error-back : (error : UpdateError) → IsBalanceError others error → IsBalanceError gained error
  error-back (Missing digest) h = h
  error-back (Bad digest) h = h
  error-back (Usage digest) h = h
  error-back (Clash digest first second) h = record {
    has_first = gained-back digest.0 first h.has_first;
    has_second = gained-back digest.0 second h.has_second;
    differ = h.differ;
    least = λ lower a b is_lower c e. h.least lower a b is_lower (gained-moved lower a c) (gained-moved lower b e);
  }
  error-back Fault h = h
  error-back NoMemory h = h

-- ---- what the tests tell

pub texts-differ : {a b p q : List ℕ} → p ≡ a → q ≡ b → true ≡ not (pointwise nat_eq p q) → a ≢ b
texts-differ {a} {b} {p} {q} e f told same =
    let equal = (bytes_decides p q).1 (e ∙ same ∙ sym f) in
    true≢false (told ∙ ap not equal)

pub texts-same : {a b p q : List ℕ} → p ≡ a → q ≡ b → false ≡ not (pointwise nat_eq p q) → a ≡ b
texts-same {a} {b} {p} {q} e f told = sym e ∙ (bytes_decides p q).0 (not-false (pointwise nat_eq p q) (sym told)) ∙ f

pub digests-differ : {d e : Digest} → false ≡ pointwise nat_eq d.0 e.0 → d ≢ e
digests-differ {d} {e} told same = true≢false (sym (told ∙ (bytes_decides d.0 e.0).1 (ap (λ x. x.0) same)))
