-- What is stored stays so under the calls of a store of nodes.
use Rattle.std.proofs.Common.{◌≡◌, ◌≢◌, ◌+◌, ◌-◌, ◌==◌, ◌≤◌, ◌<◌, Bool, true, false, List, ℕ, None, Some, ⊎_elim, refl, sym, ap, ◌∙◌, subst, is_some, arith}
use Rattle.std.specs.Prelude.{nat_lt, if◌then◌else◌}
use Rattle.std.proofs.lemmas.Bool.{lt-ltb, le-ltb, eqb-true, eqb-false, cases_lt}
use Rattle.std.specs.FinMap.{get, contains_key, insert, remove}
use Rattle.sha2.specs.Sha256.{sha256}
use Rattle.trie_model.specs.Root.{Table, zero_digest}
use Rattle.text_store.specs.Loading.{IsNamed}
use Rattle.text_store.specs.Counting.{IsStored, IsUnchanged, Adds, Releases}
use Rattle.base_core.proofs.ByteMaps.{same_or_other, get-inserted, get-inserted_elsewhere, get-removed, get-removed_elsewhere}

pub stored-unchanged : (texts after : Table) (count_of count_after : List ℕ → ℕ) → IsStored texts count_of → IsUnchanged texts after count_of count_after → IsStored after count_after
stored-unchanged texts after count_of count_after s u =
    record {
      named = subst IsNamed (sym u.same_texts) s.named;
      counted = λ q. ap (λ t. contains_key t q) u.same_texts ∙ s.counted q ∙ ap (nat_lt 0) (sym (u.same_counts q));
    }

module _ (texts : Table) (count_of count_after : List ℕ → ℕ) (d : List ℕ) (s : IsStored texts count_of) where
  pub stored-adds : (t : List ℕ) (times : ℕ) (after : Table) → Adds texts after count_of count_after d t times → (d ≢ zero_digest) → sha256 t ≡ d → 1 ≤ count_of d + times → IsStored after count_after
  stored-adds t times after a nonzero own some =
      subst (λ m. IsStored m count_after) (sym a.held) record {
        named = record {
          own = λ q u h. ⊎_elim
              (λ (e : q ≡ d). let same : t ≡ u = some_same t u (sym (get-inserted texts d t) ∙ ap (get (insert texts d t)) (sym e) ∙ h) in ap sha256 (sym same) ∙ own ∙ sym e)
              (λ n. s.named.own q u (sym (get-inserted_elsewhere texts d t q n.0) ∙ h))
              (same_or_other q d);
          nonzero = get-inserted_elsewhere texts d t zero_digest (λ e. nonzero (sym e)) ∙ s.named.nonzero;
        };
        counted = λ q. ⊎_elim
            (λ (e : q ≡ d). ap is_some (ap (get (insert texts d t)) e ∙ get-inserted texts d t) ∙ sym (ap (λ n. nat_lt 0 n) (ap count_after e ∙ a.count.here) ∙ lt-ltb 0 (count_of d + times) some))
            (λ n. ap is_some (get-inserted_elsewhere texts d t q n.0) ∙ s.counted q ∙ ap (nat_lt 0) (sym (a.count.elsewhere q n.0)))
            (same_or_other q d);
      }
    where
      some_same : (x y : List ℕ) → Some x ≡ Some y → x ≡ y
      some_same x y e = cc e

-- nothing is stored in a store without texts
pub stored-none : (texts : Table) (count_of : List ℕ → ℕ) → ((q : List ℕ) → get texts q ≡ None) → ((q : List ℕ) → count_of q ≡ 0) → IsStored texts count_of
stored-none texts count_of h z =
    record {
      named = record { own = λ q t e. absurd (cc (h q, e)); nonzero = h zero_digest };
      counted = λ q. ap is_some (h q) ∙ sym (ap (nat_lt 0) (z q));
    }

module _ (texts after : Table) (count_of count_after : List ℕ → ℕ) (d : List ℕ) (times : ℕ) (s : IsStored texts count_of) (le : times ≤ count_of d) (r : Releases texts after count_of count_after d times) where
  released-here : (b : Bool) → (count_of d == times) ≡ b → contains_key (if b then remove texts d else texts) d ≡ nat_lt 0 (count_of d - times)
  released-here true e = ap is_some (get-removed texts d) ∙ sym (le-ltb 0 (count_of d - times) (omega (arith, eqb-true (count_of d) times e)))
  released-here false e = s.counted d ∙ lt-ltb 0 (count_of d) (omega (arith, left)) ∙ sym (lt-ltb 0 (count_of d - times) left)
    where
      left : 0 < count_of d - times
      left = ⊎_elim (λ h. h) (λ h. absurd (eqb-false (count_of d) times e (omega arith))) (cases_lt 0 (count_of d - times))

  released-elsewhere : (b : Bool) (q : List ℕ) → (q ≢ d) → get (if b then remove texts d else texts) q ≡ get texts q
  released-elsewhere true q n = get-removed_elsewhere texts d q n
  released-elsewhere false q n = refl

  released-named : (b : Bool) → IsNamed (if b then remove texts d else texts)
  released-named true =
      record {
        own = λ q u h. ⊎_elim
            (λ (e : q ≡ d). absurd (cc (ap (get (remove texts d)) (sym e) ∙ h, get-removed texts d)))
            (λ n. s.named.own q u (sym (get-removed_elsewhere texts d q n.0) ∙ h))
            (same_or_other q d);
        nonzero = ⊎_elim
            (λ (e : zero_digest ≡ d). ap (get (remove texts d)) e ∙ get-removed texts d)
            (λ n. get-removed_elsewhere texts d zero_digest n.0 ∙ s.named.nonzero)
            (same_or_other zero_digest d);
      }
  released-named false = s.named

  pub stored-releases : IsStored after count_after
  stored-releases =
      subst (λ m. IsStored m count_after) (sym r.held) record {
        named = released-named (count_of d == times);
        counted = λ q. ⊎_elim
            (λ (e : q ≡ d). ap (contains_key (if count_of d == times then remove texts d else texts)) e ∙ released-here (count_of d == times) refl ∙ sym (ap (nat_lt 0) (ap count_after e ∙ r.count.here)))
            (λ n. ap is_some (released-elsewhere (count_of d == times) q n.0) ∙ s.counted q ∙ ap (nat_lt 0) (sym (r.count.elsewhere q n.0)))
            (same_or_other q d);
      }
