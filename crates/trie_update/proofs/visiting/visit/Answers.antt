use Rattle.std.proofs.Common.{[], ◌∷◌, Ok, ap, ◌∙◌, sym, subst}
use Rattle.std.specs.Option.{option_copied}
use Rattle.std.proofs.lemmas.Result.{IfOk-weaker}
use Rattle.sha2.specs.Sha256.{sha256}
use Rattle.text_store.specs.Leaves.{Leaves, visit_ended}
use Rattle.text_store.proofs.Leaves.{Leaves-one}
use Rattle.trie_update.proofs.NodeVisits.{visited-left, visited-answer}
use Rattle.trie_update.proofs.visiting.visit.Goals as goal

pub returns-in-Ok-Some-clause-left : goal.returns-in-Ok-Some-clause-left
returns-in-Ok-Some-clause-left g c =
    let store = g.T.Texts.store in
    let old = c.args.store.now in
    let new = c.load.follows.lender-at-none in
    let found = c.in-Ok-Some.is ∙ ap Ok c.in-Ok-Some.field-0-is in
    let left = Leaves-one store old new c.args.digest.now.0 c.load.result c.load.follows.holds-at-none.0 in
    visited-left store old new c.args.digest.now c.args.depth c.args.after_extension c.in-Ok-Some.text.now _ c.node_in.ensures.answer (subst (λ r. Leaves store old new (c.args.digest.now.0 ∷ []) (visit_ended r)) found left)

pub returns-in-Ok-Some-clause-answer : goal.returns-in-Ok-Some-clause-answer
returns-in-Ok-Some-clause-answer g c = visited-answer _ c.args.digest.now c.args.depth c.args.after_extension c.in-Ok-Some.text.now _ (sym c.in-Ok-Some.ensures.value ∙ ap option_copied c.in-Ok-Some.field-0-is) c.node_in.ensures.answer

pub returns-in-Ok-Some-clause-record : goal.returns-in-Ok-Some-clause-record
returns-in-Ok-Some-clause-record g c =
    let own = c.load.ensures.named.own c.args.digest.now.0 c.in-Ok-Some.text.now (sym c.in-Ok-Some.ensures.value ∙ ap option_copied c.in-Ok-Some.field-0-is) in
    IfOk-weaker c.node_in.result _ _ (λ visited e. sym own ∙ ap sha256 e) c.node_in.ensures.record
