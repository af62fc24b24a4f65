use Rattle.std.proofs.Common.{sym, ◌∙◌, ap}
use Rattle.text_store.specs.StoreStates.{count_in}
use Rattle.text_store.proofs.Changes.{count-found, count-missing}
use Rattle.text_store.proofs.mem_nodes.MemNodesNodes.count.Goals as goal

pub returns-in-Some-clause-count : goal.returns-in-Some-clause-count
returns-in-Some-clause-count c = sym (count-found _ c.args.d.now.0 _ c.in-Some.ensures.value) ∙ ap (λ s. count_in s c.args.d.now.0) c.self.view_is

pub returns-in-None-clause-count : goal.returns-in-None-clause-count
returns-in-None-clause-count c = sym (count-missing _ c.args.d.now.0 c.in-None.ensures.value) ∙ ap (λ s. count_in s c.args.d.now.0) c.self.view_is
