use Rattle.std.proofs.Common.{Some, slice_get, sym, ap, ◌∙◌}
use Rattle.text_store.proofs.Marks.{text-at}
use Rattle.text_store.proofs.partial_texts.PartialTexts.at.Goals as goal

pub returns : goal.returns
returns c = ap (λ state. slice_get state.texts c.args.place) (sym c.self.view_is) ∙ text-at _ c.args.place _ c.index.ensures ∙ ap (λ text. Some text) (sym c.as_slice.ensures)
