use Rattle.std.proofs.Common.{◌≡◌, IfOk, sym, ap, ◌∙◌, subst}
use Rattle.partial_model.specs.Texts.{texts_in}
use Rattle.partial_model.specs.Partial.{spelled_partial}
use Rattle.text_store.specs.TextSets.{texts_of_keys}
use Rattle.text_store.proofs.TextSets.{texts_in-keys, partial-seen}
use Rattle.text_store.proofs.text_set.write_partial.Goals as goal

pub returns-clause-bytes : goal.returns-clause-bytes
returns-clause-bytes c =
    let same : texts_of_keys c.set.inside.texts.keys ≡ texts_in c.args.set.now = sym (texts_in-keys _ c.set.invariant) ∙ ap texts_in c.set.view_is in
    subst (λ texts. IfOk c.write_texts.result (λ text. text ≡ spelled_partial texts)) same c.write_texts.ensures

pub returns-clause-held : goal.returns-clause-held
returns-clause-held c = partial-seen _ _ c.set.view_is c.set.invariant
