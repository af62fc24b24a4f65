-- What calls add to the ledger, one after the other.
use Rattle.std.proofs.Common.{◌≡◌, ℕ, ◌+◌, List, [], ◌∷◌, ◌++◌, map, sym, ◌∙◌, ap, subst, arith}
use Rattle.std.specs.List.{AllByRecursion}
use Rattle.std.proofs.lemmas.List.{map-append, append-nil}
use Rattle.sha2.specs.Sha256.{sha256}
use Rattle.byte_model.proofs.Lists.{AllByRecursion-append}
use Rattle.base_core.specs.declared.hash.Digest.{Digest}
use Rattle.trie_update.specs.declared.ledger.Gained.{Gained}
use Rattle.trie_update.specs.declared.ledger.Ledger.{Ledger}
use Rattle.trie_update.specs.Accounts.{Gains, Loses}
use Rattle.trie_update.specs.Adds.{Adds}
use Rattle.trie_update.proofs.Growing.{append-append}

abbrev texts : List Gained → List (List ℕ)
texts gained = map (λ g. g.text) gained

abbrev bytes : List Digest → List (List ℕ)
bytes digests = map (λ d. d.0) digests

pub adds-none : (ledger : Ledger) → Adds ledger ledger [] [] 0 0
adds-none ledger = record {
  grows = record { gained = sym (append-nil (texts ledger.gained.items)); lost = sym (append-nil (bytes ledger.lost.items)); fresh = omega arith; gone = omega arith };
  named = λ h. h;
}

pub adds-then : (a b c : Ledger) (made lost : List (List ℕ)) (fresh gone : ℕ) (made' lost' : List (List ℕ)) (fresh' gone' : ℕ) → Adds a b made lost fresh gone → Adds b c made' lost' fresh' gone' → Adds a c (made ++ made') (lost ++ lost') (fresh + fresh') (gone + gone')
adds-then a b c made lost fresh gone made' lost' fresh' gone' first further = record {
  grows = record {
    gained = append-append (texts a.gained.items) (texts b.gained.items) (texts c.gained.items) made made' first.grows.gained further.grows.gained;
    lost = append-append (bytes a.lost.items) (bytes b.lost.items) (bytes c.lost.items) lost lost' first.grows.lost further.grows.lost;
    fresh = let one = first.grows.fresh in let two = further.grows.fresh in omega arith;
    gone = let one = first.grows.gone in let two = further.grows.gone in omega arith;
  };
  named = λ h. further.named (first.named h);
}

pub adds-same : (a b : Ledger) (made lost : List (List ℕ)) (fresh gone : ℕ) (made' lost' : List (List ℕ)) (fresh' gone' : ℕ) → made ≡ made' → lost ≡ lost' → fresh ≡ fresh' → gone ≡ gone' → Adds a b made lost fresh gone → Adds a b made' lost' fresh' gone'
adds-same a b made lost fresh gone made' lost' fresh' gone' m l f g adds = record {
  grows = record {
    gained = adds.grows.gained ∙ ap (λ (t : List (List ℕ)). texts a.gained.items ++ t) m;
    lost = adds.grows.lost ∙ ap (λ (t : List (List ℕ)). bytes a.lost.items ++ t) l;
    fresh = let one = adds.grows.fresh in omega arith;
    gone = let one = adds.grows.gone in omega arith;
  };
  named = adds.named;
}

pub adds-gained : (old new : Ledger) (digest : Digest) (text : List ℕ) → digest.0 ≡ sha256 text → Gains old new digest text → Adds old new (text ∷ []) [] 0 0
adds-gained old new digest text is gains = record {
  grows = record {
    gained = ap texts gains.gained ∙ map-append (λ (g : Gained). g.text) old.gained.items (record { digest = digest; text = text } ∷ []);
    lost = ap (λ (l : _). bytes l.items) gains.lost ∙ sym (append-nil (bytes old.lost.items));
    fresh = let one = gains.fresh in omega arith;
    gone = let one = gains.gone in omega arith;
  };
  named = λ h. subst (λ (items : List Gained). AllByRecursion (λ g. g.digest.0 ≡ sha256 g.text) items) (sym gains.gained) (AllByRecursion-append (λ (g : Gained). g.digest.0 ≡ sha256 g.text) old.gained.items (record { digest = digest; text = text } ∷ []) h (is, tt));
}

pub adds-lost : (old new : Ledger) (digest : Digest) → Loses old new digest → Adds old new [] (digest.0 ∷ []) 0 0
adds-lost old new digest loses = record {
  grows = record {
    gained = ap (λ (l : _). texts l.items) loses.gained ∙ sym (append-nil (texts old.gained.items));
    lost = ap bytes loses.lost ∙ map-append (λ (d : Digest). d.0) old.lost.items (digest ∷ []);
    fresh = let one = loses.fresh in omega arith;
    gone = let one = loses.gone in omega arith;
  };
  named = λ h. subst (λ (l : _). AllByRecursion (λ g. g.digest.0 ≡ sha256 g.text) l.items) (sym loses.gained) h;
}
