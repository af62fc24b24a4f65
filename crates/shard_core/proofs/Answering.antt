-- What a shard answers to a block that is refused by its id, prev or height, or since no further one may be live.
use Rattle.std.proofs.Common.{◌≡◌, ℕ, Bool, List, Option, None, Some, Err, refl, sym, ap, subst, ◌∙◌, arith}
use Rattle.batch_model.specs.Changes.{Changes}
use Rattle.fork_model.specs.Trees.{BlockFault, BlockTree, Header, block_fault, known, no_prev, not_higher, full}
use Rattle.fork_model.specs.States.{ForkState, state_at, tree_of_blocks}
use Rattle.count_model.specs.BlockEnds.{block_end, end_over}
use Rattle.count_model.specs.Loads.{block_loads, carry_out, loads}
use Rattle.base_core.specs.Faults.{refused, risen}
use Rattle.text_store.specs.Leaves.{CountsLoads}
use Rattle.text_store.specs.Store.{Store}
use Rattle.fork_tree.specs.Answers.{checked, error_of}
use Rattle.fork_tree.specs.declared.errors.ForkError.{ForkError}
use Rattle.fork_tree.specs.declared.errors.ForkError.TheVariants as fork_error
use Rattle.shard_core.specs.Answers.{by_error}
use Rattle.shard_core.specs.Errors.{by_fork}
use Rattle.shard_core.specs.Shards.{IsShardOf, ShardState}
use Rattle.shard_core.specs.ShardAnswers.{AnswersApply}

-- ---- a shard of the same blocks

-- whether a call was cut short says nothing of the blocks
pub whether-stopped : {N : Type 0} (store : Store N) (count_of : N → List ℕ → ℕ) (blocks : ForkState) (shard : ShardState N) (stopped : Bool) → IsShardOf store count_of blocks shard → IsShardOf store count_of blocks (record shard { stopped = stopped })
whether-stopped store count_of blocks shard stopped is = record { tries = is.tries; tree = is.tree; flat = is.flat; few = is.few }

-- ---- refused at once

errors-ended : (e : ForkError) → by_error (by_fork e) ≡ refused
errors-ended fork_error.Known = refl
errors-ended fork_error.NoPrev = refl
errors-ended fork_error.Height = refl
errors-ended fork_error.Full = refl

module _ (most_pairs most : ℕ) (blocks : ForkState) (header : Header) (changes : Changes) (tree : BlockTree) (same : tree ≡ tree_of_blocks blocks) (e : ForkError) (told : Err e ≡ checked (block_fault most tree header)) where
  fault-told : (f : BlockFault) × (block_fault most (tree_of_blocks blocks) header ≡ Some f) × (e ≡ error_of f)
  fault-told = by_case (block_fault most (tree_of_blocks blocks) header) refl (told ∙ ap (λ t. checked (block_fault most t header)) same)
    where
      by_case : (o : Option BlockFault) → block_fault most (tree_of_blocks blocks) header ≡ o → Err e ≡ checked (block_fault most (tree_of_blocks blocks) header) → (f : BlockFault) × (block_fault most (tree_of_blocks blocks) header ≡ Some f) × (e ≡ error_of f)
      by_case None found h = absurd (differ (h ∙ ap checked found))
        where
          differ : Err e ≡ checked None → ⊥
          differ h = cc
      by_case (Some f) found h = (f, found, same_error (h ∙ ap checked found))
        where
          same_error : Err e ≡ checked (Some f) → e ≡ error_of f
          same_error h = cc

  pub errors-answer : AnswersApply (block_end most_pairs most blocks header changes) (Err (by_fork e))
  unfolding block_end
  errors-answer = subst (λ x. AnswersApply (block_end most_pairs most blocks header changes) (Err (by_fork x))) (sym fault-told.2) (by_case fault-told.0 fault-told.1)
    where
      by_case : (f : BlockFault) → block_fault most (tree_of_blocks blocks) header ≡ Some f → AnswersApply (block_end most_pairs most blocks header changes) (Err (by_fork (error_of f)))
      by_case known found = ap (λ o. end_over most_pairs blocks changes o (state_at blocks header.prev)) found
      by_case no_prev found = ap (λ o. end_over most_pairs blocks changes o (state_at blocks header.prev)) found
      by_case not_higher found = ap (λ o. end_over most_pairs blocks changes o (state_at blocks header.prev)) found
      by_case full found = ap (λ o. end_over most_pairs blocks changes o (state_at blocks header.prev)) found

  pub errors-load : (before : ℕ) → CountsLoads (by_error (by_fork e)) before before (loads most blocks (carry_out header changes))
  unfolding loads
  errors-load before =
      subst (λ ended. CountsLoads ended before before (loads most blocks (carry_out header changes))) (sym (errors-ended e))
      (none before ∙ ap (risen before) (sym (ap (λ o. block_loads o (state_at blocks header.prev) changes) fault-told.1)))
    where
      none : (n : ℕ) → n ≡ risen n 0
      none n = omega arith
