-- What a shard has of its blocks: a ledger of each live one, their states, and how much is kept.
use Rattle.std.proofs.Common.{◌≡◌, ℕ, ◌≤◌, Bool, true, List, length, Option, None, Some, ◌↔◌, sym, ap, subst, ◌∙◌, arith}
use Rattle.std.specs.Option.{IsSomeAnd, option_map}
use Rattle.std.specs.Str.{bytes_eq}
use Rattle.std.specs.Ordering.{nat_cmp}
use Rattle.std.specs.Cmp.Lexicographic.{slice_cmp}
use Rattle.std.specs.FinMap.{entries, get, len, len-empty, len-entries}
use Rattle.trie_model.specs.State.{State, IsState}
use Rattle.trie_model.specs.Root as trie
use Rattle.trie_model.specs.Root.{Holds}
use Rattle.trie_model.proofs.Members.{all_at}
use Rattle.fork_model.specs.Trees.{is_live, start}
use Rattle.fork_model.specs.States.{ForkState, first_fork, state_at}
use Rattle.fork_model.proofs.Ids.{same-itself, same_from}
use Rattle.count_model.proofs.Held.{holds-live, roots-live, state-is}
use Rattle.count_model.proofs.Live.{block-in, block-of_state}
use Rattle.flat_store.specs.Flats.{HasSameBlocks, IsFlatOf}
use Rattle.flat_store.proofs.Follows.{same_blocks}
use Rattle.text_store.specs.Store.{Store}
use Rattle.shard_core.specs.KeptTries.{AreTriesOf, IsLedgerOf}
use Rattle.shard_core.specs.Ledgers.{LedgerState}
use Rattle.shard_core.specs.Shards.{IsShardOf, ShardState}
use Rattle.shard_core.proofs.Behind.{live-state}
use Rattle.shard_core.proofs.Moved.{has-ledger}

module _ {N : Type 0} (store : Store N) (count_of : N → List ℕ → ℕ) (blocks : ForkState) (shard : ShardState N) (is : IsShardOf store count_of blocks shard) where
  pub have_same_blocks : HasSameBlocks shard.forks.tree shard.flat.deltas
  have_same_blocks = subst (λ t. HasSameBlocks t shard.flat.deltas) (sym is.tree) (same_blocks blocks shard.flat is.flat)

  module _ (id : List ℕ) (live : is_live shard.forks.tree id ≡ true) where
    pub state-there : (state : State) × (state_at blocks id ≡ Some state)
    state-there = live-state blocks id (subst (λ t. is_live t id ≡ true) is.tree live)

    ledger-there : (state : State) → state_at blocks id ≡ Some state → IsSomeAnd (get shard.ledgers id) (IsLedgerOf blocks id state)
    ledger-there state at = has-ledger blocks id state (state_at blocks id) (get shard.ledgers id) at (is.tries.each id)

    some-there : (P : State → Type 0) → ((state : State) → state_at blocks id ≡ Some state → P state) → IsSomeAnd (state_at blocks id) P
    some-there P each = subst (λ o. IsSomeAnd o P) (sym state-there.1) (each state-there.0 state-there.1)

    -- what a ledger tells, and it is there
    module _ {X : Type 0} (f : LedgerState → X) where
      pub ledger-missing_not : (o : Option X) → o ≡ None → o ≡ option_map f (get shard.ledgers id) → ⊥
      ledger-missing_not o none same = by_case (get shard.ledgers id) (ledger-there state-there.0 state-there.1) (sym none ∙ same)
        where
          by_case : (p : Option LedgerState) → IsSomeAnd p (IsLedgerOf blocks id state-there.0) → None ≡ option_map f p → ⊥
          by_case None h e = absurd h
          by_case (Some ledger) h e = absurd cc

      ledger-tells : (x : X) → Some x ≡ option_map f (get shard.ledgers id) → (state : State) → state_at blocks id ≡ Some state → (g : State → X) → ((ledger : LedgerState) → IsLedgerOf blocks id state ledger → f ledger ≡ g state) → x ≡ g state
      ledger-tells x same state at g each = by_case (get shard.ledgers id) (ledger-there state at) same
        where
          by_case : (p : Option LedgerState) → IsSomeAnd p (IsLedgerOf blocks id state) → Some x ≡ option_map f p → x ≡ g state
          by_case None h e = absurd h
          by_case (Some ledger) h e = same_value e ∙ each ledger h
            where
              same_value : Some x ≡ Some (f ledger) → x ≡ f ledger
              same_value e = cc

    pub root-there : (root : List ℕ) → Some root ≡ option_map (λ (l : LedgerState). l.root) (get shard.ledgers id) → IsSomeAnd (state_at blocks id) (λ state. root ≡ trie.root state)
    root-there root same = some-there (λ state. root ≡ trie.root state) (λ state at. ledger-tells (λ l. l.root) root same state at trie.root (λ ledger h. h.root))

    pub root-at : (root : List ℕ) → Some root ≡ option_map (λ (l : LedgerState). l.root) (get shard.ledgers id) → (state : State) → state_at blocks id ≡ Some state → root ≡ trie.root state
    root-at root same state at = ledger-tells (λ l. l.root) root same state at trie.root (λ ledger h. h.root)

  -- the store has the texts of a live block's state
  module _ (id : List ℕ) (state : State) (at : state_at blocks id ≡ Some state) where
    pub holds-there : Holds (store.texts shard.nodes) state
    holds-there = holds-live (store.texts shard.nodes) blocks is.tries.blocks is.tries.held id state at

    pub state-there_is : IsState state
    state-there_is = state-is blocks id state is.tries.states at

    pub few-there : length (entries state) ≤ shard.limits.pairs
    few-there =
        let b = block-of_state blocks id state at in
        subst (λ n. n ≤ shard.limits.pairs) (ap len b.2 ∙ len-entries state) (all_at (λ block. len block.state ≤ shard.limits.pairs) blocks.blocks b.0 is.few (block-in blocks id b.0 b.1))

  -- two blocks have one root where they have one state
  pub same-roots : (a b : List ℕ) (first second : State) → state_at blocks a ≡ Some first → state_at blocks b ≡ Some second → (trie.root first ≡ trie.root second) ↔ (first ≡ second)
  same-roots a b first second at_a at_b = roots-live (store.texts shard.nodes) blocks a b first second is.tries.blocks is.tries.states is.tries.held at_a at_b

  pub same-told : (a b : List ℕ) (first second : State) → state_at blocks a ≡ Some first → state_at blocks b ≡ Some second → (x y : List ℕ) → IsSomeAnd (state_at blocks a) (λ state. x ≡ trie.root state) → IsSomeAnd (state_at blocks b) (λ state. y ≡ trie.root state) → (r : Bool) → r ≡ bytes_eq x y → (r ≡ true) ↔ (first ≡ second)
  same-told a b first second at_a at_b x y x_is y_is r test =
      let left : x ≡ trie.root first = subst (λ o. IsSomeAnd o (λ state. x ≡ trie.root state)) at_a x_is in
      let right : y ≡ trie.root second = subst (λ o. IsSomeAnd o (λ state. y ≡ trie.root state)) at_b y_is in (
        (λ yes. (same-roots a b first second at_a at_b).0 (sym left ∙ same_from x y (sym test ∙ yes) ∙ right)),
        (λ same. test ∙ ap (bytes_eq x) (right ∙ sym ((same-roots a b first second at_a at_b).1 same) ∙ sym left) ∙ same-itself x),
      )

-- the start
pub shard-first : {N : Type 0} (store : Store N) (count_of : N → List ℕ → ℕ) (shard : ShardState N) → AreTriesOf (store.texts shard.nodes) (count_of shard.nodes) shard.ledgers first_fork → shard.forks.tree ≡ start → IsFlatOf first_fork shard.flat → IsShardOf store count_of first_fork shard
shard-first store count_of shard tries tree flat = record {
  tries = tries;
  tree = tree;
  flat = flat;
  few = (subst (λ n. n ≤ shard.limits.pairs) (sym (len-empty (slice_cmp nat_cmp) (List ℕ))) (none shard.limits.pairs), tt);
}
  where
    none : (n : ℕ) → 0 ≤ n
    none n = omega arith
