-- The states of live blocks keep to the limits.
use Rattle.std.proofs.Common.{◌≡◌, ℕ, ◌≤◌, ◌^◌, List, [], ◌∷◌, ◌++◌, length, Some, ◌⊎◌, inl, inr, sym, subst, arith}
use Rattle.std.specs.List.{AllByRecursion, filter}
use Rattle.std.specs.FinMap.{entries}
use Rattle.trie_model.specs.State.{State, IsState, IsPair}
use Rattle.trie_model.proofs.Members.{IsIn, all_at, all_of, in-append_cases}
use Rattle.batch_model.specs.Changes.{AreChanges, Changes, after}
use Rattle.batch_model.proofs.Laying.{pairs-after}
use Rattle.change_model.proofs.Filtered.{in_filter_from}
use Rattle.fork_model.specs.Trees.{Header, descends}
use Rattle.fork_model.specs.States.{Block, ForkState, first_fork, head_moved, state_at, tree_of_blocks, with_block}
use Rattle.fork_model.proofs.States.{over_prev, with_block-is}
use Rattle.count_model.specs.Tables.{AreStates}
use Rattle.count_model.proofs.Live.{block-of_state}
use Rattle.count_model.proofs.Held.{state-is}
use Rattle.count_model.proofs.Worked.{no_pairs, start-pairs}

state-none : IsState no_pairs
state-none = record {
  pairs = subst (AllByRecursion IsPair) (sym start-pairs) tt;
  few = subst (λ (es : List (List ℕ × List ℕ)). length es ≤ 2 ^ 32) (sym start-pairs) (omega arith);
}

pub states-start : AreStates first_fork
states-start = (state-none, tt)

pub states-with_block : (forks : ForkState) (header : Header) (changes : Changes) (prev : State) → AreStates forks → AreChanges changes → state_at forks header.prev ≡ Some prev → length (entries (after prev changes)) ≤ 2 ^ 32 → AreStates (with_block forks header changes)
states-with_block forks header changes prev are batch at few =
    let block = block-of_state forks header.prev prev at in
    subst AreStates (sym (with_block-is forks header changes block.0 block.1))
    (all_of _ (forks.blocks ++ over_prev header changes block.0 ∷ []) (λ b i. go block.0 block.2 b (in-append_cases forks.blocks (over_prev header changes block.0 ∷ []) b i)))
  where
    new-is : IsState (after prev changes)
    new-is = record { pairs = pairs-after prev changes (state-is forks header.prev prev are at) batch; few = few }

    go : (p : Block) → p.state ≡ prev → (b : Block) → IsIn forks.blocks b ⊎ IsIn (over_prev header changes p ∷ []) b → IsState b.state
    go p same b (inl i) = all_at (λ block. IsState block.state) forks.blocks b are i
    go p same b (inr (inl e)) = subst (λ (x : Block). IsState x.state) e (subst (λ (s : State). IsState (after s changes)) (sym same) new-is)
    go p same b (inr (inr none)) = absurd none

pub states-moved : (forks : ForkState) (id : List ℕ) → AreStates forks → AreStates (head_moved forks id)
unfolding head_moved
states-moved forks id are =
    all_of (λ block. IsState block.state) (filter (λ (block : Block). descends (tree_of_blocks forks) id block.header.id) forks.blocks)
    (λ b i. all_at (λ block. IsState block.state) forks.blocks b are (in_filter_from (λ (block : Block). descends (tree_of_blocks forks) id block.header.id) forks.blocks b i).0)
