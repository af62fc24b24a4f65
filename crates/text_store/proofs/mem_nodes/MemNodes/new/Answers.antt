use Rattle.std.proofs.Common.{ap, ◌∙◌}
use Rattle.std.specs.Option.{option_map, unwrap_or}
use Rattle.text_store.proofs.Stored.{stored-none}
use Rattle.text_store.proofs.Tables.{get-seen, found-none}
use Rattle.text_store.proofs.mem_nodes.MemNodes.new.Goals as goal

pub invariant_of-result : goal.invariant_of-result
invariant_of-result c =
    let none = found-none _ c.new-2.ensures.empty in
    stored-none _ _ (λ q. get-seen (λ h. h.text) _ q ∙ ap (option_map (λ h. h.text)) (none q)) (λ q. ap (λ o. unwrap_or o 0) (get-seen (λ h. h.count) _ q ∙ ap (option_map (λ h. h.count)) (none q)))
