use Rattle.std.proofs.Common.{rules, Ok, Some, None, refl, sym, ap, ◌∙◌, subst}
use Rattle.std.specs.Option.{option_map}
use Rattle.std.specs.FinMap.{get}
use Rattle.text_store.specs.Loading.{IsNamed}
use Rattle.text_store.proofs.Tables.{get-seen}
use Rattle.text_store.proofs.StoreStates.{loaded-state, loaded, same_failing}
use Rattle.text_store.proofs.mem_nodes.MemNodesTexts.load.Goals as goal

pub returns-in-Some : goal.returns-in-Some
returns-in-Some c =
    let is = loaded-state _ _ _ _ c.self.view_is (search rules) c.call.ensures.after in
    let fails = same_failing _ _ c.self.view_is c.in_ok-call.ensures.fails in
    let value = ap (λ text. Some text) c.as_slice.ensures ∙ ap (option_map (λ h. h.text)) c.in-Some.ensures.value ∙ sym (get-seen (λ h. h.text) _ c.args.d.now.0) ∙ ap (λ s. get s.texts c.args.d.now.0) c.self.view_is in
    ((refl, λ _. tt, loaded c.args.self.now _ c.args.d.now.0 (Ok (Some c.as_slice.result)) is fails), record { after = tt; value = value; named = subst (λ s. IsNamed s.texts) c.self.view_is c.self.invariant.named; fails = fails })

pub returns-in-None : goal.returns-in-None
returns-in-None c =
    let is = loaded-state _ _ _ _ c.self.view_is (search rules) c.call.ensures.after in
    let fails = same_failing _ _ c.self.view_is c.in_ok-call.ensures.fails in
    let value = ap (option_map (λ h. h.text)) c.in-None.ensures.value ∙ sym (get-seen (λ h. h.text) _ c.args.d.now.0) ∙ ap (λ s. get s.texts c.args.d.now.0) c.self.view_is in
    ((refl, λ _. tt, loaded c.args.self.now _ c.args.d.now.0 (Ok None) is fails), record { after = tt; value = value; named = subst (λ s. IsNamed s.texts) c.self.view_is c.self.invariant.named; fails = fails })
