use Rattle.std.proofs.Common.{sym, ap, ◌∙◌}
use Rattle.text_store.specs.PartialStates.{first_unused}
use Rattle.text_store.proofs.Marks.{first_unused-is}
use Rattle.text_store.proofs.partial_texts.PartialTexts.unused.Goals as goal

pub returns-in-Some : goal.returns-in-Some
returns-in-Some c = sym c.in-Some.is ∙ c.first_unmarked.ensures ∙ first_unused-is _ c.self.invariant ∙ ap first_unused c.self.view_is

pub returns-in-None : goal.returns-in-None
returns-in-None c = sym c.in-None.is ∙ c.first_unmarked.ensures ∙ first_unused-is _ c.self.invariant ∙ ap first_unused c.self.view_is
