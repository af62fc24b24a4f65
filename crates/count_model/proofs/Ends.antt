-- What comes of a block, cause by cause.
use Rattle.std.proofs.Common.{◌≡◌, ℕ, ◌<◌, ◌≤◌, nat_lt, true, false, cond, List, None, Some, ◌∙◌, ap, ap₂, arith}
use Rattle.std.specs.FinMap.{len}
use Rattle.std.proofs.lemmas.Bool.Decides.{nat_tests}
use Rattle.trie_model.specs.State.{State}
use Rattle.batch_model.specs.Changes.{Changes, after}
use Rattle.fork_model.specs.Trees.{Header, BlockFault, block_fault}
use Rattle.fork_model.specs.States.{ForkState, state_at, tree_of_blocks}
use Rattle.count_model.specs.Clashes.{live_clash, made_clash}
use Rattle.count_model.specs.BlockEnds.{block_end, end_beside, end_by_texts, end_over}
use Rattle.count_model.specs.BlockEnds.BlockEnd.{accepted, clashing, faulty, too_many}

module _ (most_pairs most_blocks : ℕ) (forks : ForkState) (header : Header) (changes : Changes) where
  pub end-fault : (fault : BlockFault) → block_fault most_blocks (tree_of_blocks forks) header ≡ Some fault → block_end most_pairs most_blocks forks header changes ≡ faulty fault
  unfolding block_end
  end-fault fault e = ap (λ o. end_over most_pairs forks changes o (state_at forks header.prev)) e

  module _ (prev : State) (fine : block_fault most_blocks (tree_of_blocks forks) header ≡ None) (at : state_at forks header.prev ≡ Some prev) where
    by_texts : block_end most_pairs most_blocks forks header changes ≡ end_by_texts most_pairs (made_clash prev changes) (live_clash forks prev changes) (after prev changes)
    unfolding block_end
    by_texts = ap₂ (end_over most_pairs forks changes) fine at

    pub end-made : (digest : List ℕ) → made_clash prev changes ≡ Some digest → block_end most_pairs most_blocks forks header changes ≡ clashing digest
    end-made digest e = by_texts ∙ ap (λ o. end_by_texts most_pairs o (live_clash forks prev changes) (after prev changes)) e

    module _ (alone : made_clash prev changes ≡ None) where
      by_pairs : block_end most_pairs most_blocks forks header changes ≡ end_by_texts most_pairs None (live_clash forks prev changes) (after prev changes)
      by_pairs = by_texts ∙ ap (λ o. end_by_texts most_pairs o (live_clash forks prev changes) (after prev changes)) alone

      pub end-full : most_pairs < len (after prev changes) → block_end most_pairs most_blocks forks header changes ≡ too_many
      end-full many =
          let test : nat_lt most_pairs (len (after prev changes)) ≡ true = grind (arith, nat_tests) in
          by_pairs ∙ ap (λ b. cond b too_many (end_beside (live_clash forks prev changes) (after prev changes))) test

      module _ (few : len (after prev changes) ≤ most_pairs) where
        beside_live : block_end most_pairs most_blocks forks header changes ≡ end_beside (live_clash forks prev changes) (after prev changes)
        beside_live =
            let test : nat_lt most_pairs (len (after prev changes)) ≡ false = grind (arith, nat_tests) in
            by_pairs ∙ ap (λ b. cond b too_many (end_beside (live_clash forks prev changes) (after prev changes))) test

        pub end-live : (digest : List ℕ) → live_clash forks prev changes ≡ Some digest → block_end most_pairs most_blocks forks header changes ≡ clashing digest
        end-live digest e = beside_live ∙ ap (λ o. end_beside o (after prev changes)) e

        pub end-accepted : live_clash forks prev changes ≡ None → block_end most_pairs most_blocks forks header changes ≡ accepted (after prev changes)
        end-accepted e = beside_live ∙ ap (λ o. end_beside o (after prev changes)) e
