use Rattle.std.proofs.Common.{sym, subst}
use Rattle.partial_model.specs.Texts.{SetOfTexts}
use Rattle.partial_state.specs.Recorders.{AreTexts}
use Rattle.partial_state.proofs.Notes.{are-none}
use Rattle.partial_state.proofs.recorder.Noting+StoreRef+T.new.Goals as goal

pub returns-clause-held : goal.returns-clause-held
returns-clause-held g c =
    let table = g.T.Texts.store.texts c.args.store.now in
    subst (λ (set : SetOfTexts). AreTexts table set) (sym c.new.ensures) (are-none table)
