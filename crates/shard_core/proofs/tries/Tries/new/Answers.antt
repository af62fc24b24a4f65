use Rattle.std.proofs.Common.{refl}
use Rattle.trie_model.specs.Root.{zero_digest}
use Rattle.shard_core.proofs.Started.{tries-start}
use Rattle.shard_core.proofs.Tabled.{ledgers-new}
use Rattle.shard_core.proofs.tries.Tries.new.Goals as goal

pub returns-in-Ok-clause-blocks : goal.returns-in-Ok-clause-blocks
returns-in-Ok-clause-blocks g c = tries-start _ _ _ c.requires c.distinct.ensures.stored _ (ledgers-new c.new-ledgers.result.entries c.new-ledgers.result.entries c.insert.new.self.entries zero_digest zero_digest _ refl (λ q. refl) (λ q. c.in-Ok.ensures.updates.0 (record { 0 = q }))) refl refl
