use Rattle.std.proofs.Common.{sym, ap, ◌∙◌}
use Rattle.std.specs.FinMap.{len}
use Rattle.text_store.proofs.Tables.{len-seen}
use Rattle.text_store.proofs.mem_nodes.MemNodesNodes.distinct.Goals as goal

pub returns-clause-distinct : goal.returns-clause-distinct
returns-clause-distinct c = c.len.ensures.len ∙ sym (len-seen (λ h. h.text) _ c.len.ensures.unique) ∙ ap (λ s. len s.texts) c.self.view_is
