-- The tries at the start, over a store without texts.
use Rattle.std.proofs.Common.{◌≡◌, ℕ, nat_lt, Bool, true, false, cond, List, Option, None, Some, is_some, refl, sym, ap, subst, ◌∙◌, arith}
use Rattle.std.specs.Option.{IsSomeAnd, option_map}
use Rattle.std.specs.List.{count_by}
use Rattle.std.specs.Str.{bytes_eq}
use Rattle.std.specs.Ordering.{nat_cmp}
use Rattle.std.specs.Cmp.Lexicographic.{pointwise, slice_cmp}
use Rattle.std.specs.Prelude.{nat_eq}
use Rattle.std.specs.FinMap.{contains_key, empty, get, get-empty, len-empty}
use Rattle.std.proofs.lemmas.Bool.Decides.{nat_tests}
use Rattle.sha2.specs.Sha256.{sha256}
use Rattle.trie_model.specs.Root.{Table, zero_digest}
use Rattle.trie_model.proofs.Worked.{root-empty, texts_of-empty}
use Rattle.fork_model.specs.States.{Block, block_at, first_fork, state_at}
use Rattle.fork_model.proofs.Ids.{same_from}
use Rattle.fork_model.proofs.States.{first-is}
use Rattle.count_model.specs.Counts.{of_digest}
use Rattle.count_model.specs.Tables.{HoldsCounted}
use Rattle.count_model.proofs.Following.{follows-start}
use Rattle.count_model.proofs.Limits.{states-start}
use Rattle.count_model.proofs.Told.{counted-start}
use Rattle.text_store.specs.Counting.{IsStored}
use Rattle.shard_core.specs.KeptTries.{AreTriesOf, IsLedgerOf, MatchesLedger}
use Rattle.shard_core.specs.Ledgers.{LedgerState, Ledgers}

module _ (texts : Table) (count_of : List ℕ → ℕ) (ledgers : Ledgers) (none : texts ≡ empty) (stored : IsStored texts count_of) (head : LedgerState) (put : get ledgers zero_digest ≡ Some head) (root : head.root ≡ zero_digest) (pairs : head.pairs ≡ 0) where
  counts-none : (digest : List ℕ) → count_of digest ≡ 0
  counts-none digest = zero (count_of digest) (sym (stored.counted digest) ∙ ap (λ (m : Table). contains_key m digest) none ∙ ap (λ (o : Option (List ℕ)). is_some o) (get-empty (slice_cmp nat_cmp) digest))
    where
      zero : (n : ℕ) → nat_lt 0 n ≡ false → n ≡ 0
      zero n e = grind (arith, nat_tests)

  head-ledger : (id : List ℕ) → bytes_eq id zero_digest ≡ true → IsLedgerOf first_fork id empty head
  head-ledger id same = record {
    root = root ∙ sym root-empty;
    pairs = pairs ∙ sym (len-empty (slice_cmp nat_cmp) (List ℕ));
    gains = λ other. absurd (differ (sym same ∙ other));
    losses = λ other. absurd (differ (sym same ∙ other));
  }
    where
      differ : true ≡ false → ⊥
      differ e = cc

  each-start : (id : List ℕ) → MatchesLedger first_fork id (state_at first_fork id) (get ledgers id)
  unfolding block_at
  each-start id = by_test (bytes_eq id zero_digest) refl
    where
      alone : Block
      alone = record { header = record { id = zero_digest; prev = zero_digest; height = 0 }; state = empty; changes = empty }

      by_test : (b : Bool) → bytes_eq id zero_digest ≡ b → MatchesLedger first_fork id (option_map (λ (x : Block). x.state) (cond b (Some alone) None)) (get ledgers id)
      by_test true e = subst (λ o. IsSomeAnd o (IsLedgerOf first_fork id empty)) (sym (ap (get ledgers) (same_from id zero_digest e) ∙ put)) (head-ledger id e)
      by_test false e = tt

  pub tries-start : AreTriesOf texts count_of ledgers first_fork
  tries-start = record {
    blocks = first-is;
    states = states-start;
    held = subst (λ (m : Table). HoldsCounted m first_fork) (sym none) follows-start;
    counts = λ q. counts-none q ∙ sym (counted-start (of_digest q) (ap (count_by (λ other. pointwise nat_eq (sha256 other) q)) texts_of-empty));
    each = each-start;
  }
