-- A move of the head over a whole shard.
use Rattle.std.proofs.Common.{◌≡◌, ℕ, ◌≤◌, true, List, Option, None, Some, refl, sym, ap, subst, ◌∙◌}
use Rattle.std.specs.List.{AllByRecursion, filter}
use Rattle.std.specs.FinMap.{get, len}
use Rattle.trie_model.specs.State.{State}
use Rattle.change_model.proofs.Filtered.{in_filter_from}
use Rattle.trie_model.proofs.Members.{all_at, all_of}
use Rattle.fork_model.specs.Trees.{IsTree, descends, is_live, moved}
use Rattle.fork_model.specs.States.{Block, ForkState, head_moved, state_at, tree_of_blocks}
use Rattle.fork_model.proofs.States.{tree-moved}
use Rattle.text_store.specs.Store.{Store}
use Rattle.flat_store.specs.Flats.{IsFlatOf}
use Rattle.fork_tree.specs.Answers.{IsPlan}
use Rattle.fork_tree.specs.declared.ids.Move.{Move}
use Rattle.shard_core.specs.KeptTries.{AreTriesOf, MatchesLedger}
use Rattle.shard_core.specs.Ledgers.{Ledgers}
use Rattle.shard_core.specs.Shards.{IsShardOf, ShardState}
use Rattle.shard_core.proofs.Behind.{state-live}

module _ {N : Type 0} (store : Store N) (count_of : N → List ℕ → ℕ) (blocks : ForkState) (shard : ShardState N) (is : IsShardOf store count_of blocks shard) where
  pub is-tree : IsTree shard.forks.tree
  is-tree = subst IsTree (sym is.tree) is.tries.blocks.tree

  module _ (id : List ℕ) (plan : Move) (planned : IsPlan shard.forks.tree id plan) where
    pub plan-of_blocks : IsPlan (tree_of_blocks blocks) id plan
    plan-of_blocks = subst (λ t. IsPlan t id plan) is.tree planned

    few-moved : AllByRecursion (λ block. len block.state ≤ shard.limits.pairs) (head_moved blocks id).blocks
    unfolding head_moved
    few-moved =
        all_of (λ block. len block.state ≤ shard.limits.pairs) (filter (λ (block : Block). descends (tree_of_blocks blocks) id block.header.id) blocks.blocks)
        (λ b i. all_at (λ block. len block.state ≤ shard.limits.pairs) blocks.blocks b is.few (in_filter_from (λ (block : Block). descends (tree_of_blocks blocks) id block.header.id) blocks.blocks b i).0)

    -- The texts were released, and then the ledgers were given up of blocks that are no longer live.
    pub shard-moved : (new : ShardState N) (ledgers : Ledgers) → AreTriesOf (store.texts new.nodes) (count_of new.nodes) ledgers (head_moved blocks id) → new.forks.tree ≡ moved shard.forks.tree id → ((q : List ℕ) → is_live new.forks.tree q ≡ true → get new.ledgers q ≡ get ledgers q) → IsFlatOf (head_moved blocks id) new.flat → new.limits ≡ shard.limits → IsShardOf store count_of (head_moved blocks id) new
    shard-moved new ledgers tries tree kept flat limits = record {
      tries = record {
        blocks = tries.blocks;
        states = tries.states;
        held = tries.held;
        counts = tries.counts;
        each = λ q. each q (state_at (head_moved blocks id) q) refl (tries.each q);
      };
      tree = same_tree;
      flat = flat;
      few = subst (λ l. AllByRecursion (λ block. len block.state ≤ l.pairs) (head_moved blocks id).blocks) (sym limits) few-moved;
    }
      where
        same_tree : new.forks.tree ≡ tree_of_blocks (head_moved blocks id)
        same_tree = tree ∙ ap (λ t. moved t id) is.tree ∙ sym (tree-moved blocks id)

        each : (q : List ℕ) (o : Option State) → state_at (head_moved blocks id) q ≡ o → MatchesLedger (head_moved blocks id) q o (get ledgers q) → MatchesLedger (head_moved blocks id) q o (get new.ledgers q)
        each q None at matches = tt
        each q (Some state) at matches =
            let live : is_live new.forks.tree q ≡ true = subst (λ t. is_live t q ≡ true) (sym same_tree) (state-live (head_moved blocks id) q state at) in
            subst (MatchesLedger (head_moved blocks id) q (Some state)) (sym (kept q live)) matches
