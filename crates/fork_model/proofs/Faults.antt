-- Why a block is refused, and what holds of one that is not.
use Rattle.std.proofs.Common.{◌≡◌, ℕ, ◌<◌, ◌≤◌, Bool, true, false, cond, length, Option, None, Some, is_some, nat_le, refl, ◌∙◌, ap, arith}
use Rattle.std.specs.Option.{IsSomeAnd}
use Rattle.std.proofs.lemmas.Bool.Decides.{nat_tests}
use Rattle.fork_model.specs.Trees.{Header, BlockTree, block_fault, block_of, fault_over, is_live}
use Rattle.fork_model.specs.Trees.BlockFault.{known, not_higher, full}

pub record IsAccepted (most : ℕ) (tree : BlockTree) (block : Header) : Type 0 where
  pub new : block_of tree.blocks block.id ≡ None
  pub higher : IsSomeAnd (block_of tree.blocks block.prev) (λ prev. prev.height < block.height)
  pub room : length tree.blocks < most

module _ (most : ℕ) (tree : BlockTree) (block : Header) where
  none_over : (prev : Option Header) → fault_over most (length tree.blocks) block.height prev ≡ None → IsSomeAnd prev (λ prev. prev.height < block.height) × (length tree.blocks < most)
  none_over None e = cc
  none_over (Some prev) e = higher (nat_le block.height prev.height) refl e
    where
      room : (t : Bool) → nat_le most (length tree.blocks) ≡ t → cond t (Some full) None ≡ None → length tree.blocks < most
      room true is e = cc
      room false is e = grind (arith, nat_tests)

      higher : (t : Bool) → nat_le block.height prev.height ≡ t → cond t (Some not_higher) (cond (nat_le most (length tree.blocks)) (Some full) None) ≡ None → (prev.height < block.height) × (length tree.blocks < most)
      higher true is e = cc
      higher false is e = (grind (arith, nat_tests), room _ refl e)

  pub accepted : block_fault most tree block ≡ None → IsAccepted most tree block
  unfolding block_fault
  accepted e = by_case (block_of tree.blocks block.id) refl e
    where
      by_case : (o : Option Header) → block_of tree.blocks block.id ≡ o → cond (is_some o) (Some known) (fault_over most (length tree.blocks) block.height (block_of tree.blocks block.prev)) ≡ None → IsAccepted most tree block
      by_case (Some b) is e = cc
      by_case None is e = let over = none_over _ e in record { new = is; higher = over.0; room = over.1 }

  -- which of the faults it is
  pub fault-known : is_live tree block.id ≡ true → block_fault most tree block ≡ Some known
  unfolding block_fault
  fault-known live = ap (λ t. cond t (Some known) (fault_over most (length tree.blocks) block.height (block_of tree.blocks block.prev))) live

  pub fault-over : is_live tree block.id ≡ false → (prev : Option Header) → block_of tree.blocks block.prev ≡ prev → block_fault most tree block ≡ fault_over most (length tree.blocks) block.height prev
  unfolding block_fault
  fault-over new prev is =
      ap (λ t. cond t (Some known) (fault_over most (length tree.blocks) block.height (block_of tree.blocks block.prev))) new
      ∙ ap (fault_over most (length tree.blocks) block.height) is

  pub fault-height : is_live tree block.id ≡ false → (prev : Header) → block_of tree.blocks block.prev ≡ Some prev → block.height ≤ prev.height → block_fault most tree block ≡ Some not_higher
  fault-height new prev is low =
      let test : nat_le block.height prev.height ≡ true = grind (arith, nat_tests) in
      fault-over new (Some prev) is ∙ ap (λ t. cond t (Some not_higher) (cond (nat_le most (length tree.blocks)) (Some full) None)) test

  pub fault-full : is_live tree block.id ≡ false → (prev : Header) → block_of tree.blocks block.prev ≡ Some prev → prev.height < block.height → most ≤ length tree.blocks → block_fault most tree block ≡ Some full
  fault-full new prev is high many =
      let test : nat_le block.height prev.height ≡ false = grind (arith, nat_tests) in
      let no_room : nat_le most (length tree.blocks) ≡ true = grind (arith, nat_tests) in
      fault-over new (Some prev) is
      ∙ ap (λ t. cond t (Some not_higher) (cond (nat_le most (length tree.blocks)) (Some full) None)) test
      ∙ ap (λ t. cond t (Some full) None) no_room

  pub fault-none : is_live tree block.id ≡ false → (prev : Header) → block_of tree.blocks block.prev ≡ Some prev → prev.height < block.height → length tree.blocks < most → block_fault most tree block ≡ None
  fault-none new prev is high few =
      let test : nat_le block.height prev.height ≡ false = grind (arith, nat_tests) in
      let room : nat_le most (length tree.blocks) ≡ false = grind (arith, nat_tests) in
      fault-over new (Some prev) is
      ∙ ap (λ t. cond t (Some not_higher) (cond (nat_le most (length tree.blocks)) (Some full) None)) test
      ∙ ap (λ t. cond t (Some full) None) room
