use Rattle.std.proofs.Common.{sym, ap, ◌∙◌}
use Rattle.partial_model.specs.Texts.{texts_in}
use Rattle.text_store.proofs.TextSets.{texts_in-keys, partial-seen}
use Rattle.text_store.proofs.text_set.TextSet.into_texts.Goals as goal

pub returns-clause-texts : goal.returns-clause-texts
returns-clause-texts c = sym (texts_in-keys _ c.self.invariant) ∙ ap texts_in c.self.view_is

pub returns-clause-held : goal.returns-clause-held
returns-clause-held c = partial-seen _ _ c.self.view_is c.self.invariant
