-- What the ledger gains and loses, over one call and over several.
use Rattle.std.proofs.Common.{◌≡◌, ℕ, ◌+◌, ◌≤◌, List, Option, None, Some, [], ◌∷◌, ◌++◌, map, append_assoc, append-nil, sym, ◌∙◌, ap, subst, arith}
use Rattle.std.proofs.lemmas.List.{map-append}
use Rattle.std.specs.List.{AllByRecursion}
use Rattle.sha2.specs.Sha256.{sha256}
use Rattle.byte_model.specs.Node.{ValueRef}
use Rattle.byte_model.proofs.Lists.{AllByRecursion-append}
use Rattle.update_model.specs.Updates.{appearing, disappearing}
use Rattle.base_core.specs.declared.hash.Digest.{Digest}
use Rattle.trie_update.specs.declared.ledger.Gained.{Gained}
use Rattle.trie_update.specs.declared.ledger.Ledger.{Ledger}
use Rattle.trie_update.specs.Accounts.{Gains, Loses, Grows, GrowsBy, IsNamed, CanCount}

-- lists that grow at their ends, one after the other
pub append-append : {X : Type 0} (old mid new xs ys : List X) → mid ≡ old ++ xs → new ≡ mid ++ ys → new ≡ old ++ (xs ++ ys)
append-append old mid new xs ys first last = last ∙ ap (λ (l : List _). l ++ ys) first ∙ append_assoc old xs ys

-- nothing happened
pub Grows-none : (ledger : Ledger) → Grows ledger ledger [] [] 0 0
Grows-none ledger = record {
  gained = sym (append-nil (map (λ g. g.text) ledger.gained.items));
  lost = sym (append-nil (map (λ d. d.0) ledger.lost.items));
  fresh = omega arith;
  gone = omega arith;
}

-- one call after the other
pub Grows-then : {old mid new : Ledger} {texts digests more_texts more_digests : List (List ℕ)} {appeared disappeared more_appeared more_disappeared : ℕ}
    → Grows old mid texts digests appeared disappeared → Grows mid new more_texts more_digests more_appeared more_disappeared
    → Grows old new (texts ++ more_texts) (digests ++ more_digests) (appeared + more_appeared) (disappeared + more_disappeared)
Grows-then first last = record {
  gained = append-append _ _ _ _ _ first.gained last.gained;
  lost = append-append _ _ _ _ _ first.lost last.lost;
  fresh = let a = first.fresh in let b = last.fresh in omega arith;
  gone = let a = first.gone in let b = last.gone in omega arith;
}

-- ---- one entry

module _ (old new : Ledger) (digest : Digest) where
  pub Grows-gain : (text : List ℕ) → Gains old new digest text → Grows old new (text ∷ []) [] 0 0
  Grows-gain text h = record {
    gained = ap (map (λ (g : Gained). g.text)) h.gained ∙ map-append (λ (g : Gained). g.text) old.gained.items (record { digest = digest; text = text } ∷ []);
    lost = ap (λ (l : List Digest). map (λ (d : Digest). d.0) l) (ap (λ l. l.items) h.lost) ∙ sym (append-nil (map (λ (d : Digest). d.0) old.lost.items));
    fresh = let same = h.fresh in omega arith;
    gone = let same = h.gone in omega arith;
  }

  pub Grows-lose : Loses old new digest → Grows old new [] (digest.0 ∷ []) 0 0
  Grows-lose h = record {
    gained = ap (λ (l : List Gained). map (λ (g : Gained). g.text) l) (ap (λ l. l.items) h.gained) ∙ sym (append-nil (map (λ (g : Gained). g.text) old.gained.items));
    lost = ap (map (λ (d : Digest). d.0)) h.lost ∙ map-append (λ (d : Digest). d.0) old.lost.items (digest ∷ []);
    fresh = let same = h.fresh in omega arith;
    gone = let same = h.gone in omega arith;
  }

  -- ---- the digests of what is gained

  abbrev named_entry : Gained → Type 0
  named_entry g = g.digest.0 ≡ sha256 g.text

  pub named-gain : (text : List ℕ) → digest.0 ≡ sha256 text → Gains old new digest text → IsNamed old → IsNamed new
  named-gain text is h named =
      subst (AllByRecursion named_entry) (sym h.gained) (AllByRecursion-append named_entry old.gained.items (record { digest = digest; text = text } ∷ []) named (is, tt))

  pub named-lose : Loses old new digest → IsNamed old → IsNamed new
  named-lose h named = subst (AllByRecursion named_entry) (ap (λ l. l.items) (sym h.gained)) named

-- ---- room for further counts

pub counts-fewer : (ledger : Ledger) (m n : ℕ) → n ≤ m → CanCount ledger m → CanCount ledger n
counts-fewer ledger m n few room = (omega (arith, room.0), omega (arith, room.1))

-- what is left of it once some were counted
pub counts-left : {old new : Ledger} {texts digests : List (List ℕ)} {appeared disappeared : ℕ} (n m : ℕ) → Grows old new texts digests appeared disappeared → appeared ≤ n → disappeared ≤ n → CanCount old (n + m) → CanCount new m
counts-left n m grows few less room = let fresh = grows.fresh in let gone = grows.gone in (omega (arith, room.0), omega (arith, room.1))

-- a change counts for one at most
appears-once : (former : Option ValueRef) (change : Option (Option (List ℕ))) → appearing former change ≤ 1
appears-once former None = omega arith
appears-once former (Some None) = omega arith
appears-once None (Some (Some value)) = omega arith
appears-once (Some held) (Some (Some value)) = omega arith

disappears-once : (former : Option ValueRef) (change : Option (Option (List ℕ))) → disappearing former change ≤ 1
disappears-once former None = omega arith
disappears-once None (Some None) = omega arith
disappears-once (Some held) (Some None) = omega arith
disappears-once former (Some (Some value)) = omega arith

pub counts-by : (old new : Ledger) (former : Option ValueRef) (change : Option (Option (List ℕ))) (m : ℕ) → GrowsBy old new former change → CanCount old (1 + m) → CanCount new m
counts-by old new former change m grows room = counts-left 1 m grows (appears-once former change) (disappears-once former change) room

-- and where nothing changes it stays
pub counts-same : (old new : Ledger) (former : Option ValueRef) (m : ℕ) → GrowsBy old new former None → CanCount old m → CanCount new m
counts-same old new former m grows room = let fresh = grows.fresh in let gone = grows.gone in (omega (arith, room.0), omega (arith, room.1))
