-- A batch over the trie of a live block: what its ledger and the store tell, and what becomes of the number of pairs.
use Rattle.std.proofs.Common.{◌≡◌, ℕ, ◌+◌, ◌-◌, ◌^◌, ◌≤◌, ◌<◌, List, [], map, length, Option, None, Some, Err, is_some, not, ◌&&◌, IsTrue, sym, ap, ap₂, subst, ◌∙◌, arith}
use Rattle.std.specs.Option.{IsSomeAnd}
use Rattle.std.specs.Ordering.{nat_cmp, is_le}
use Rattle.std.specs.Cmp.Lexicographic.{slice_cmp}
use Rattle.std.specs.FinMap.{contains_key, get, len, entries, len-entries}
use Rattle.std.proofs.lemmas.List.Sums.{count_by-le-length}
use Rattle.sha2.specs.Sha256.{sha256}
use Rattle.trie_model.specs.State.{State, IsState}
use Rattle.trie_model.specs.Root as trie
use Rattle.trie_model.specs.Root.{Table}
use Rattle.batch_model.specs.Changes.{AreChanges, Changes, after}
use Rattle.change_model.specs.Ledger.{made_texts}
use Rattle.change_model.specs.Places.{touched_places}
use Rattle.change_model.specs.Tables.{HoldsPlaces}
use Rattle.change_model.specs.Visits.{batch_visits}
use Rattle.change_model.proofs.Balance.{pairs_counted}
use Rattle.fork_model.specs.States.{ForkState, state_at}
use Rattle.count_model.specs.Clashes.{made_clash}
use Rattle.count_model.proofs.Clashing.{rising-within, within-told}
use Rattle.count_model.proofs.Held.{holds-live, state-is}
use Rattle.count_model.proofs.Loaded.{holds-touched}
use Rattle.base_core.specs.ChangeMaps.{ChangeMap, IsChangeMap}
use Rattle.base_core.specs.Faults.{Ended}
use Rattle.base_core.specs.declared.hash.Digest.{Digest}
use Rattle.text_store.specs.Leaves.{Leaves}
use Rattle.text_store.specs.Store.{Store}
use Rattle.trie_update.specs.Endings.{by_error}
use Rattle.trie_update.specs.Updates.{IsChangeAfter, IsLeastClash, IsMadeOf, MeetsState}
use Rattle.trie_update.specs.declared.change.Change.{Change}
use Rattle.trie_update.specs.declared.change.MadeText.{MadeText}
use Rattle.trie_update.specs.declared.errors.UpdateError.{UpdateError}
use Rattle.shard_core.specs.Answers.{IsPrev}
use Rattle.shard_core.specs.KeptTries.{IsLedgerOf}
use Rattle.shard_core.specs.Ledgers.{ledgers_of, seen_ledger}
use Rattle.shard_core.specs.declared.ledger.Ledger.{Ledger}
use Rattle.shard_core.proofs.Grown.{made-each}
use Rattle.shard_core.proofs.Moved.{has-ledger}
use Rattle.shard_core.proofs.Tabled.{kept, ledger-found, ledger-missing}
use Rattle.shard_core.proofs.Taken.{rising-digests}

-- changes are within the limits of a batch
pub within-limits : (held : ChangeMap) → IsChangeMap held → AreChanges held.changes
within-limits held is = record {
  each = is.each;
  few = let a = is.few in let b = is.bounded in omega (arith, a, b);
}

module _ (texts : Table) (count_of : List ℕ → ℕ) (es : List (Digest × Ledger)) (forks : ForkState) (id : List ℕ) (state : State) (is : IsPrev texts count_of (ledgers_of es) forks id state) where
  in-ledgers : IsSomeAnd (get (ledgers_of es) id) (IsLedgerOf forks id state)
  in-ledgers = has-ledger forks id state (state_at forks id) (get (ledgers_of es) id) is.live (is.tries.each id)

  pub prev-missing : (o : Option Ledger) → o ≡ None → o ≡ kept es id → ⊥
  prev-missing o none found = subst (λ o. IsSomeAnd o (IsLedgerOf forks id state)) (ledger-missing es id (sym none ∙ found)) in-ledgers

  pub prev-state : IsState state
  prev-state = state-is forks id state is.tries.states is.live

  pub prev-holds : (changes : Changes) → HoldsPlaces texts state (touched_places state [] changes)
  prev-holds changes = holds-touched texts state (holds-live texts forks is.tries.blocks is.tries.held id state is.live) [] changes

  module _ (ledger : Ledger) (found : Some ledger ≡ kept es id) where
    prev-ledger : IsLedgerOf forks id state (seen_ledger ledger)
    prev-ledger = subst (λ o. IsSomeAnd o (IsLedgerOf forks id state)) (ledger-found es id ledger found) in-ledgers

    pub prev-root : ledger.root.0 ≡ trie.root state
    prev-root = prev-ledger.root

    module _ (changes : Changes) (within : AreChanges changes) (change : Change) (is_after : IsChangeAfter state changes change) where
      few : ledger.pairs ≤ 2 ^ 32
      few = subst (λ n. n ≤ 2 ^ 32) (sym (prev-ledger.pairs ∙ len-entries state)) prev-state.few

      pub sum-fits : ledger.pairs + change.fresh < 2 ^ 64
      sum-fits =
          let a = few in
          let b = is_after.fresh in
          let c = count_by-le-length (λ c. is_some c.1 && not (contains_key state c.0)) (entries changes) in
          let d = within.few in
          omega (arith, a, b, c, d)

      balance : length (entries (after state changes)) + change.gone ≡ ledger.pairs + change.fresh
      balance =
          ap (λ n. length (entries (after state changes)) + n) is_after.gone
          ∙ pairs_counted state changes
          ∙ ap₂ (λ (a b : ℕ). a + b) (sym (prev-ledger.pairs ∙ len-entries state)) (sym is_after.fresh)

      pub sum-enough : change.gone ≤ ledger.pairs + change.fresh
      sum-enough = let e = balance in omega (arith, e)

      pub sum-is : ledger.pairs + change.fresh - change.gone ≡ len (after state changes)
      sum-is =
          let e = balance in
          let f = len-entries (after state changes) in
          omega (arith, e, f)

-- ---- clashes

pub no-clash : (state : State) (changes : Changes) (made : List MadeText) → IsMadeOf state changes made → made_clash state changes ≡ None
no-clash state changes made is = rising-within sha256 (made_texts state changes) (map (λ m. m.text) made) (rising-digests made (λ m i. (made-each state changes made is m i).1) is.ascends) is.all

pub least-clash : (state : State) (changes : Changes) (digest : Digest) (one other : List ℕ) → IsLeastClash (made_texts state changes) digest one other → made_clash state changes ≡ Some digest.0
least-clash state changes digest one other is =
    (within-told sha256 (made_texts state changes) digest.0).1
    (record {
      has = record {
        one = one;
        other = other;
        first = is.first;
        second = is.second;
        different = is.clash.differ;
        is_of_one = is.clash.first;
        is_of_other = is.clash.second;
      };
      least = λ d shared. subst (λ e. IsTrue (is_le (slice_cmp nat_cmp digest.0 e))) shared.is_of_one (is.least shared.one shared.other shared.first shared.second shared.different (shared.is_of_one ∙ sym shared.is_of_other));
    })

-- ---- what is left

pub left-at : {S : Type 0} (store : Store S) (old new : S) (changes : Changes) (root later : List ℕ) (ended : Ended) → root ≡ later → Leaves store old new (batch_visits (store.texts old) root changes).digests ended → Leaves store old new (batch_visits (store.texts old) later changes).digests ended
left-at store old new changes root later ended same left = subst (λ r. Leaves store old new (batch_visits (store.texts old) r changes).digests ended) same left

pub left-by : {S : Type 0} (store : Store S) (old new : S) (changes : Changes) (root later : List ℕ) (error other : UpdateError) → error ≡ other → root ≡ later → Leaves store old new (batch_visits (store.texts old) root changes).digests (by_error error) → Leaves store old new (batch_visits (store.texts old) later changes).digests (by_error other)
left-by store old new changes root later error other e same left = left-at store old new changes root later (by_error other) same (subst (λ x. Leaves store old new (batch_visits (store.texts old) root changes).digests (by_error x)) e left)

pub meets-by : (state : State) (changes : Changes) (error other : UpdateError) → error ≡ other → MeetsState state changes (Err error) → MeetsState state changes (Err other)
meets-by state changes error other e meets = subst (λ x. MeetsState state changes (Err x)) e meets
