-- A store in memory, its calls numbered and its loads counted.
use Rattle.std.proofs.Common.{◌≡◌, ◌≢◌, ℕ, ◌↔◌, inl, inr, List, Option, None, Some, Result, Ok, Err, IsErr, IsTrue, refl, sym, ap, ◌∙◌, subst}
use Rattle.std.specs.Prelude.{IsSomeAnd}
use Rattle.std.specs.FinMap.{get}
use Rattle.base_core.specs.Faults.{IsCounted, risen}
use Rattle.text_store.specs.Loading.{Loaded, Keeps}
use Rattle.base_core.specs.Failing.{Failing, fails_next, after_call}
use Rattle.text_store.specs.StoreStates.{StoreState, count_in, mem_store, after_load}
use Rattle.base_core.proofs.Faults.{IsCounted-call}
use Rattle.text_store.specs.Counting.{IsUnchanged, Adds, Releases, Clashes}
use Rattle.trie_model.specs.Root.{Table, zero_digest}

-- ---- loads

pub loaded-state : (seen old : StoreState) (loads : ℕ) (failing : Failing) → seen ≡ old → loads ≡ risen seen.loads 1 → failing ≡ after_call seen.failing → record seen { loads = loads; failing = failing } ≡ after_load old
loaded-state seen old loads failing e l f = (λ i. record seen { loads = l i; failing = f i }) ∙ ap after_load e

keeps-nothing : {A E : Type 0} (digest : List ℕ) (result : Result (Option A) E) → Keeps None None digest result
keeps-nothing digest (Ok (Some x)) = tt
keeps-nothing digest (Ok None) = refl
keeps-nothing digest (Err e) = refl

pub loaded : {A E : Type 0} (old new : StoreState) (digest : List ℕ) (result : Result (Option A) E) → new ≡ after_load old → (IsErr result ↔ IsTrue (fails_next old.failing)) → Loaded mem_store old new digest result × (new ≡ after_load old)
loaded old new digest result e h = (
  record {
    same = (ap (λ s. s.texts) (sym e), ap (λ s. s.counts) (sym e));
    loaded = ap (λ s. s.loads) e;
    failed = subst (λ s. IsCounted old.failing.faults s.failing.faults result) (sym e) (IsCounted-call old.failing result h);
    remembered = keeps-nothing digest result;
  },
  e,
)

-- whether a call fails, told of the store
pub same_failing : (seen old : StoreState) {P : Type 0} → seen ≡ old → (P ↔ IsTrue (fails_next seen.failing)) → (P ↔ IsTrue (fails_next old.failing))
same_failing seen old {P} e h = subst (λ s. P ↔ IsTrue (fails_next s.failing)) e h

-- ---- what is told of the store as it is seen

module _ (seen old : StoreState) (e : seen ≡ old) {after : Table} {count_after : List ℕ → ℕ} where
  pub unchanged-told : IsUnchanged seen.texts after (count_in seen) count_after → IsUnchanged old.texts after (count_in old) count_after
  unchanged-told u = subst (λ s. IsUnchanged s.texts after (count_in s) count_after) e u

  pub adds-told : {d t : List ℕ} {times : ℕ} → Adds seen.texts after (count_in seen) count_after d t times → Adds old.texts after (count_in old) count_after d t times
  adds-told {d} {t} {times} a = subst (λ s. Adds s.texts after (count_in s) count_after d t times) e a

  pub releases-told : {d : List ℕ} {times : ℕ} → Releases seen.texts after (count_in seen) count_after d times → Releases old.texts after (count_in old) count_after d times
  releases-told {d} {times} r = subst (λ s. Releases s.texts after (count_in s) count_after d times) e r

-- ---- why a text is not added

pub clashes-other : (texts : Table) (d t other : List ℕ) → get texts d ≡ Some other → (other ≢ t) → Clashes texts d t
clashes-other texts d t other held n = inr (subst (λ o. IsSomeAnd o (λ u. u ≢ t)) (sym held) n)

pub clashes-same : (texts : Table) (d t other : List ℕ) → (d ≢ zero_digest) → get texts d ≡ Some other → other ≡ t → Clashes texts d t → ⊥
clashes-same texts d t other nonzero held same (inl zero) = nonzero zero
clashes-same texts d t other nonzero held same (inr clash) = subst (λ o. IsSomeAnd o (λ u. u ≢ t)) held clash same

pub clashes-none : (texts : Table) (d t : List ℕ) → (d ≢ zero_digest) → get texts d ≡ None → Clashes texts d t → ⊥
clashes-none texts d t nonzero none (inl zero) = nonzero zero
clashes-none texts d t nonzero none (inr clash) = subst (λ o. IsSomeAnd o (λ u. u ≢ t)) none clash
