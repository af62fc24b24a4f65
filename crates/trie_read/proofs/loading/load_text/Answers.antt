use Rattle.std.proofs.Common.{[], ◌∷◌, Ok, refl, ap, ◌∙◌, sym, subst}
use Rattle.std.specs.Option.{option_copied}
use Rattle.text_store.specs.Leaves.{Leaves, visit_ended}
use Rattle.text_store.proofs.Leaves.{Leaves-one}
use Rattle.trie_read.proofs.loading.load_text.Goals as goal

pub returns-in-Ok-Some : goal.returns-in-Ok-Some
returns-in-Ok-Some g c =
    let store = g.T.Texts.store in
    let old = c.args.store.now in
    let new = c.load.follows.lender-at-none in
    let found = c.in-Ok-Some.is ∙ ap Ok c.in-Ok-Some.field-0-is in
    let left = Leaves-one store old new c.args.digest.now.0 c.load.result c.load.follows.holds-at-none.0 in
    ((refl, λ _. tt, subst (λ r. Leaves store old new (c.args.digest.now.0 ∷ []) (visit_ended r)) found left), record { after = tt; answer = sym c.in-Ok-Some.ensures.value ∙ ap option_copied c.in-Ok-Some.field-0-is })
