use Rattle.text_store.proofs.Stored.{stored-unchanged}
use Rattle.text_store.proofs.StoreStates.{unchanged-told}
use Rattle.text_store.proofs.Changes.{unchanged-same}
use Rattle.text_store.proofs.mem_nodes.MemNodesNodes.reserve.Goals as goal

pub invariant_of-self-2 : goal.invariant_of-self-2
invariant_of-self-2 c = stored-unchanged _ _ _ _ c.self.invariant (unchanged-same _ _ (λ q. c.reserve.ensures.entries.2 (record { 0 = q })))

pub returns-clause-unchanged : goal.returns-clause-unchanged
returns-clause-unchanged c = unchanged-told _ _ c.self.view_is (unchanged-same _ _ (λ q. c.reserve.ensures.entries.2 (record { 0 = q })))
