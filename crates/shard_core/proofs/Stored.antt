-- What is held after a text is added that does not clash, and after a digest is released.
use Rattle.std.proofs.Common.{◌≡◌, ◌≢◌, ℕ, ◌+◌, ◌≤◌, ◌==◌, nat_lt, Bool, true, false, cond, List, Option, None, Some, is_some, inl, inr, ⊎_elim, refl, sym, ap, subst, ◌∙◌, arith}
use Rattle.std.specs.Prelude.{IfNone}
use Rattle.std.specs.Option.{IsSomeAnd}
use Rattle.std.specs.FinMap.{get, remove}
use Rattle.std.proofs.lemmas.Bool.Decides.{nat_tests}
use Rattle.sha2.specs.Sha256.{sha256}
use Rattle.trie_model.specs.Root.{Table}
use Rattle.base_core.proofs.ByteMaps.{get-inserted, get-inserted_elsewhere, get-removed, get-removed_elsewhere, same_or_other}
use Rattle.text_store.proofs.Stored.{stored-adds}
use Rattle.text_store.specs.Counting.{Adds, Clashes, IsStored, Releases}

none_not_some : (o : Option (List ℕ)) (t : List ℕ) → o ≡ None → o ≡ Some t → ⊥
none_not_some o t e f = absurd cc

-- a text that does not clash with the one that is held is that one
pub clear-same : (texts : Table) (digest text t : List ℕ) → ¬ Clashes texts digest text → get texts digest ≡ Some t → text ≡ t
clear-same texts digest text t clear at =
    ⊎_elim
    (λ (same : t ≡ text). sym same)
    (λ other. absurd (clear (inr (subst (λ o. IsSomeAnd o (λ u. u ≢ text)) (sym at) other.0))))
    (same_or_other t text)

-- ---- a text is added

module _ (texts later : Table) (count_of count_after : List ℕ → ℕ) (digest text : List ℕ) (n : ℕ) (adds : Adds texts later count_of count_after digest text n) where
  pub added-here : get later digest ≡ Some text
  added-here = ap (λ (m : Table). get m digest) adds.held ∙ get-inserted texts digest text

  pub added-elsewhere : (q : List ℕ) → q ≢ digest → get later q ≡ get texts q
  added-elsewhere q apart = ap (λ (m : Table). get m q) adds.held ∙ get-inserted_elsewhere texts digest text q apart

  -- what was held is held, where the text does not clash
  pub added-stays : ¬ Clashes texts digest text → (q t : List ℕ) → get texts q ≡ Some t → get later q ≡ Some t
  added-stays clear q t at =
      ⊎_elim
      (λ (same : q ≡ digest). ap (get later) same ∙ added-here ∙ ap Some (clear-same texts digest text t clear (ap (get texts) (sym same) ∙ at)))
      (λ other. added-elsewhere q other.0 ∙ at)
      (same_or_other q digest)

  more_than_none : IfNone (get texts digest) (1 ≤ n) → IsStored texts count_of → 1 ≤ count_of digest + n
  more_than_none wanted stored = by_case (get texts digest) refl wanted
    where
      by_case : (o : Option (List ℕ)) → get texts digest ≡ o → IfNone o (1 ≤ n) → 1 ≤ count_of digest + n
      by_case None e some = omega (arith, some)
      by_case (Some t) e some = positive (count_of digest) (sym (stored.counted digest) ∙ ap is_some e)
        where
          positive : (m : ℕ) → nat_lt 0 m ≡ true → 1 ≤ m + n
          positive m e = grind (arith, nat_tests)

  pub stored-added : IsStored texts count_of → digest ≡ sha256 text → ¬ Clashes texts digest text → IfNone (get texts digest) (1 ≤ n) → IsStored later count_after
  stored-added stored named clear wanted = stored-adds texts count_of count_after digest stored text n later adds (λ zero. clear (inl zero)) (sym named) (more_than_none wanted stored)

-- ---- a digest is released

module _ (texts later : Table) (count_of count_after : List ℕ → ℕ) (digest : List ℕ) (n : ℕ) (releases : Releases texts later count_of count_after digest n) where
  pub released-elsewhere : (q : List ℕ) → q ≢ digest → get later q ≡ get texts q
  released-elsewhere q apart = ap (λ (m : Table). get m q) releases.held ∙ by_test (count_of digest == n)
    where
      by_test : (b : Bool) → get (cond b (remove texts digest) texts) q ≡ get texts q
      by_test true = get-removed_elsewhere texts digest q apart
      by_test false = refl

  -- nothing is held that was not
  pub released-only : (q t : List ℕ) → get later q ≡ Some t → get texts q ≡ Some t
  released-only q t at = by_test (count_of digest == n) (ap (λ (m : Table). get m q) (sym releases.held) ∙ at)
    where
      by_test : (b : Bool) → get (cond b (remove texts digest) texts) q ≡ Some t → get texts q ≡ Some t
      by_test true e =
          ⊎_elim
          (λ (same : q ≡ digest). absurd (none_not_some (get (remove texts digest) q) t (ap (get (remove texts digest)) same ∙ get-removed texts digest) e))
          (λ other. sym (get-removed_elsewhere texts digest q other.0) ∙ e)
          (same_or_other q digest)
      by_test false e = e
