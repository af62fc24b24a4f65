use Rattle.std.proofs.Common.{rules, ◌≡◌, sym, subst}
use Rattle.partial_model.specs.Texts.{SetOfTexts, with_text}
use Rattle.partial_state.specs.NotedTexts.{AreDigestsOf}
use Rattle.partial_state.proofs.Notes.{digests-inserted}
use Rattle.partial_state.proofs.noted_texts.NotedTexts.put.Goals as goal

pub invariant_of-self-2 : goal.invariant_of-self-2
invariant_of-self-2 c =
    let put : c.put.new.self ≡ with_text c.self.inside.texts c.args.text.now = search rules in
    subst (λ (set : SetOfTexts). AreDigestsOf set c.insert.new.self.keys) (sym put)
    (digests-inserted c.self.inside.texts c.self.inside.digests c.insert.new.self c.args.d.now c.args.text.now c.requires c.insert.result c.insert.ensures.updates c.insert.ensures.err c.self.invariant)
