-- Where a batch is carried out over a state, no two of the texts that it makes share a digest.
use Rattle.std.proofs.Common.{◌≡◌, ℕ, nat_cmp, List, [], ◌∷◌, map, inl, inr, sym, ap, ◌∙◌, subst}
use Rattle.std.specs.Prelude.{Contains}
use Rattle.std.specs.List.Sorted.{IsStrictlySortedBy}
use Rattle.std.specs.declared.cmp.Ordering.TheVariants.{Less, Equal}
use Rattle.std.specs.Cmp.Lexicographic.{slice_cmp}
use Rattle.sha2.specs.Sha256.{sha256}
use Rattle.trie_model.specs.State.{State}
use Rattle.trie_model.proofs.Growth.{slice_cmp-itself}
use Rattle.trie_model.proofs.Members.{IsIn, all_at, contains_of_in, in_of_contains, in-map, in_map_from}
use Rattle.batch_model.specs.Changes.{Changes}
use Rattle.change_model.specs.Ledger.{made_texts, gain}
use Rattle.trie_update.specs.Balances.{by_bytes, Ascends}
use Rattle.trie_update.specs.Updates.{IsMadeOf}
use Rattle.trie_update.specs.declared.change.MadeText.{MadeText}
use Rattle.base_core.specs.declared.hash.Digest.{Digest}
use Rattle.partial_state.specs.Replays.{AreApart}

not_before : (p q : List ℕ) → p ≡ q → slice_cmp nat_cmp p q ≡ Less → ⊥
not_before p q e before = differ (sym (slice_cmp-itself p) ∙ ap (slice_cmp nat_cmp p) e ∙ before)
  where
    differ : Equal ≡ Less → ⊥
    differ k = cc

-- a digest stands once in digests that ascend
ascending-once : (made : List MadeText) → Ascends (map (λ m. m.digest) made) → (m n : MadeText) → IsIn made m → IsIn made n → m.digest.0 ≡ n.digest.0 → m.text ≡ n.text
unfolding IsStrictlySortedBy
ascending-once [] up m n h k e = absurd h
ascending-once (x ∷ made) up m n (inl a) (inl b) e = ap (λ (t : MadeText). t.text) (sym a ∙ b)
ascending-once (x ∷ made) up m n (inl a) (inr k) e =
    absurd (not_before x.digest.0 n.digest.0 (ap (λ (t : MadeText). t.digest.0) a ∙ e) (all_at (λ (d : Digest). by_bytes x.digest d ≡ Less) (map (λ m. m.digest) made) n.digest up.0 (in-map (λ (t : MadeText). t.digest) made n k)))
ascending-once (x ∷ made) up m n (inr h) (inl b) e =
    absurd (not_before x.digest.0 m.digest.0 (ap (λ (t : MadeText). t.digest.0) b ∙ sym e) (all_at (λ (d : Digest). by_bytes x.digest d ≡ Less) (map (λ m. m.digest) made) m.digest up.0 (in-map (λ (t : MadeText). t.digest) made m h)))
ascending-once (x ∷ made) up m n (inr h) (inr k) e = ascending-once made up.1 m n h k e

pub made-apart : (state : State) (changes : Changes) (made : List MadeText) → IsMadeOf state changes made → AreApart (made_texts state changes)
made-apart state changes made is a b here there e =
    let one = in_map_from (λ (m : MadeText). m.text) made a (in_of_contains (map (λ m. m.text) made) a (is.all a here)) in
    let other = in_map_from (λ (m : MadeText). m.text) made b (in_of_contains (map (λ m. m.text) made) b (is.all b there)) in
    sym one.2
    ∙ ascending-once made is.ascends one.0 other.0 one.1 other.1 (named one.0 one.1 ∙ ap sha256 one.2 ∙ e ∙ sym (ap sha256 other.2) ∙ sym (named other.0 other.1))
    ∙ other.2
  where
    named : (m : MadeText) → IsIn made m → m.digest.0 ≡ sha256 m.text
    named m i =
        let c = contains_of_in made m i in
        (subst (λ (t : MadeText). Contains (made_texts state changes) t.text × (t.digest.0 ≡ sha256 t.text) × (t.times ≡ gain state changes t.digest.0)) c.2 (is.each c.0 m c.1)).1
