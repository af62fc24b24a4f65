-- Tables that have exactly the texts that are counted.
use Rattle.std.proofs.Common.{◌≡◌, ◌≢◌, ◌↔◌, ℕ, zero, suc, ◌≤◌, nat_lt, true, false, List, ◌++◌, Option, None, Some, is_some, Contains, ⊎_elim, refl, sym, ◌∙◌, ap, subst, arith}
use Rattle.std.specs.List.{AllByRecursion}
use Rattle.std.specs.FinMap.{contains_key, get}
use Rattle.std.proofs.lemmas.Bool.Decides.{nat_tests}
use Rattle.std.proofs.lemmas.Option.{same_Some}
use Rattle.std.proofs.lemmas.List.Elements.{Contains-append_cases}
use Rattle.sha2.specs.Sha256.{sha256}
use Rattle.trie_model.specs.State.{State, IsState}
use Rattle.trie_model.specs.Root.{Holds, NoClash, Table, root, texts_of, zero_digest}
use Rattle.trie_model.proofs.Members.{IsIn, all_at, all_of, contains_of_in, in_of_contains}
use Rattle.trie_model.proofs.Distinct.{root-same}
use Rattle.fork_model.specs.States.{Block, ForkState, IsForkState, state_at}
use Rattle.fork_model.proofs.Ids.{found_not_none}
use Rattle.count_model.specs.Counts.{digest_count}
use Rattle.count_model.specs.Tables.{AreStates, HoldsCounted, live_texts}
use Rattle.count_model.proofs.Live.{block-in, block-of_state, digests-counted, live-of_state, live_in_from, texts-counted}

-- no clash in a part of a list
pub NoClash-part : (texts whole : List (List ℕ)) → ((t : List ℕ) → Contains texts t → Contains whole t) → NoClash whole → NoClash texts
NoClash-part texts whole part clear = record {
  apart = λ a b here there e. clear.apart a b (part a here) (part b there) e;
  nonzero = λ a here. clear.nonzero a (part a here);
}

-- the state of a live block keeps to the limits
pub state-is : (forks : ForkState) (id : List ℕ) (state : State) → AreStates forks → state_at forks id ≡ Some state → IsState state
state-is forks id state are at = let b = block-of_state forks id state at in subst IsState b.2 (all_at (λ block. IsState block.state) forks.blocks b.0 are (block-in forks id b.0 b.1))

module _ (table : Table) (forks : ForkState) (is : IsForkState forks) where
  found-live : HoldsCounted table forks → (t : List ℕ) → Contains (live_texts forks) t → get table (sha256 t) ≡ Some t
  found-live holds t live = holds.found t ((texts-counted forks is t).1 live)

  nonzero-live : HoldsCounted table forks → (t : List ℕ) → Contains (live_texts forks) t → sha256 t ≢ zero_digest
  nonzero-live holds t live e = found_not_none (sym (ap (get table) e) ∙ found-live holds t live) holds.nonzero

  pub holds-live : HoldsCounted table forks → (id : List ℕ) (state : State) → state_at forks id ≡ Some state → Holds table state
  holds-live holds id state at = record {
    found = all_of _ (texts_of state) (λ t i. found-live holds t (live-of_state forks id t state at (contains_of_in (texts_of state) t i)));
    nonzero = all_of _ (texts_of state) (λ t i. nonzero-live holds t (live-of_state forks id t state at (contains_of_in (texts_of state) t i)));
  }

  pub clear-live : HoldsCounted table forks → NoClash (live_texts forks)
  clear-live holds = record {
    apart = λ a b here there e. same_Some a b (sym (found-live holds a here) ∙ ap (get table) e ∙ found-live holds b there);
    nonzero = nonzero-live holds;
  }

  pub keys-counted : HoldsCounted table forks → (digest : List ℕ) → contains_key table digest ≡ nat_lt 0 (digest_count forks digest)
  keys-counted holds digest = by_case (get table digest) refl
    where
      by_case : (o : Option (List ℕ)) → get table digest ≡ o → is_some (get table digest) ≡ nat_lt 0 (digest_count forks digest)
      by_case None e =
          let none : (1 ≤ digest_count forks digest) → ⊥ = λ some. let live = (digests-counted forks is digest).0 some in found_not_none (found-live holds live.0 live.1) (ap (get table) live.2 ∙ e) in
          ap is_some e ∙ test_false (digest_count forks digest) none
        where
          test_false : (n : ℕ) → ((1 ≤ n) → ⊥) → false ≡ nat_lt 0 n
          test_false zero h = refl
          test_false (suc n) h = absurd (h (omega arith))
      by_case (Some t) e =
          let live = (texts-counted forks is t).0 (holds.only digest t e) in
          ap is_some e ∙ test_true (digest_count forks digest) ((digests-counted forks is digest).1 (t, live, holds.named digest t e))
        where
          test_true : (n : ℕ) → 1 ≤ n → true ≡ nat_lt 0 n
          test_true zero h = absurd (omega (arith, h))
          test_true (suc n) h = grind (arith, nat_tests)

  -- A table holds exactly the counted texts where it holds each live state, and has nothing under a digest that is not counted.
  pub holds-counted : AllByRecursion (λ block. Holds table block.state) forks.blocks → ((digest t : List ℕ) → get table digest ≡ Some t → 1 ≤ digest_count forks digest) → HoldsCounted table forks
  holds-counted each counted = record {
    found = λ t some. found_in t ((texts-counted forks is t).0 some);
    named = λ digest t e. (live_under digest t e).1;
    only = λ digest t e. (texts-counted forks is t).1 (live_under digest t e).0;
    nonzero = by_case (get table zero_digest) refl;
  }
    where
      block_of_text : (t : List ℕ) → Contains (live_texts forks) t → (b : Block) × IsIn forks.blocks b × IsIn (texts_of b.state) t
      block_of_text t live = live_in_from forks t (in_of_contains (live_texts forks) t live)

      found_in : (t : List ℕ) → Contains (live_texts forks) t → get table (sha256 t) ≡ Some t
      found_in t live = let b = block_of_text t live in all_at _ (texts_of b.0.state) t (all_at (λ block. Holds table block.state) forks.blocks b.0 each b.1).found b.2

      nonzero_in : (t : List ℕ) → Contains (live_texts forks) t → sha256 t ≢ zero_digest
      nonzero_in t live = let b = block_of_text t live in all_at _ (texts_of b.0.state) t (all_at (λ block. Holds table block.state) forks.blocks b.0 each b.1).nonzero b.2

      -- what stands under a digest is a live text
      live_under : (digest t : List ℕ) → get table digest ≡ Some t → Contains (live_texts forks) t × (sha256 t ≡ digest)
      live_under digest t e =
          let live = (digests-counted forks is digest).0 (counted digest t e) in
          let same : live.0 ≡ t = same_Some live.0 t (sym (found_in live.0 live.1) ∙ ap (get table) live.2 ∙ e) in
          (subst (Contains (live_texts forks)) same live.1, ap sha256 (sym same) ∙ live.2)

      by_case : (o : Option (List ℕ)) → get table zero_digest ≡ o → o ≡ None
      by_case None e = refl
      by_case (Some t) e = let under = live_under zero_digest t e in absurd (nonzero_in t under.0 under.1)

-- ---- roots

pub roots-live : (table : Table) (forks : ForkState) (a b : List ℕ) (m n : State) → IsForkState forks → AreStates forks → HoldsCounted table forks → state_at forks a ≡ Some m → state_at forks b ≡ Some n → (root m ≡ root n) ↔ (m ≡ n)
roots-live table forks a b m n is are holds at_a at_b =
    root-same m n (state-is forks a m are at_a) (state-is forks b n are at_b)
    (NoClash-part (texts_of m ++ texts_of n) (live_texts forks) part (clear-live table forks is holds))
  where
    part : (t : List ℕ) → Contains (texts_of m ++ texts_of n) t → Contains (live_texts forks) t
    part t here =
        ⊎_elim
        (λ (i : Contains (texts_of m) t). live-of_state forks a t m at_a i)
        (λ (i : Contains (texts_of n) t). live-of_state forks b t n at_b i)
        (Contains-append_cases (texts_of m) (texts_of n) t here)
