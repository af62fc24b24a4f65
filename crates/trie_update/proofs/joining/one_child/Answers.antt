use Rattle.std.proofs.Common.{[], option_map, ap, sym, subst, ◌∙◌}
use Rattle.std.proofs.lemmas.Result.{IfOk-weaker, on_ok_weaker}
use Rattle.node_codec.specs.Meanings.{value_of}
use Rattle.update_model.specs.Joins.{Joint, is_there, joint}
use Rattle.update_model.proofs.Joined.{only-holds}
use Rattle.trie_update.specs.Adds.{Adds}
use Rattle.trie_update.specs.Formers.{names_of}
use Rattle.trie_update.specs.Subs.{kid_at}
use Rattle.trie_update.proofs.Adding.{adds-none}
use Rattle.trie_update.proofs.Children.{fork-one, joint-lone, joint-one}
use Rattle.trie_update.proofs.joining.one_child.Goals as goal

pub lone-requires-clause-inside : goal.lone-requires-clause-inside
lone-requires-clause-inside c = (only-holds (λ x. is_there (kid_at (names_of c.args.former) c.args.children.items x)) 16 c.args.nibble c.requires.one).0

pub fork-requires-clause-forks : goal.fork-requires-clause-forks
fork-requires-clause-forks c = fork-one (value_of c.in-Some.value) (kid_at (names_of c.args.former) c.args.children.items) c.args.kept_usage c.args.nibble (rw c.in-Some.is at c.requires.joins) c.requires.one

pub returns-in-None-clause-top : goal.returns-in-None-clause-top
returns-in-None-clause-top c =
    let kids = kid_at (names_of c.args.former) c.args.children.items in
    let is = ap (λ v. joint (option_map value_of v) kids c.args.kept_usage) c.in-None.is ∙ joint-lone kids c.args.kept_usage c.args.nibble c.requires.one in
    IfOk-weaker c.lone.result _ _ (λ sub e. e ∙ sym (ap (λ (j : Joint). j.top) is)) (c.lone.ensures.top (names_of c.args.former c.args.nibble) (c.requires.joins.lone c.args.nibble (ap (option_map value_of) c.in-None.is) c.requires.one))

pub returns-in-None-clause-adds : goal.returns-in-None-clause-adds
returns-in-None-clause-adds c =
    let kids = kid_at (names_of c.args.former) c.args.children.items in
    let is = ap (λ v. joint (option_map value_of v) kids c.args.kept_usage) c.in-None.is ∙ joint-lone kids c.args.kept_usage c.args.nibble c.requires.one in
    IfOk-weaker c.lone.result _ (λ _. Adds c.args.ledger.now c.args.ledger.now (joint (option_map value_of c.args.value) kids c.args.kept_usage).made [] 0 0) (λ sub e. subst (λ (j : Joint). Adds c.args.ledger.now c.args.ledger.now j.made [] 0 0) (sym is) (adds-none c.args.ledger.now)) (c.lone.ensures.top (names_of c.args.former c.args.nibble) (c.requires.joins.lone c.args.nibble (ap (option_map value_of) c.in-None.is) c.requires.one))

pub returns-in-Some-clause-top : goal.returns-in-Some-clause-top
returns-in-Some-clause-top c =
    let kids = kid_at (names_of c.args.former) c.args.children.items in
    let is = ap (λ v. joint (option_map value_of v) kids c.args.kept_usage) c.in-Some.is ∙ joint-one (value_of c.in-Some.value) kids c.args.kept_usage c.args.nibble c.requires.one in
    IfOk-weaker c.fork.result _ _ (λ sub e. e ∙ sym (ap (λ (j : Joint). j.top) is)) c.fork.ensures.top

pub returns-in-Some-clause-adds : goal.returns-in-Some-clause-adds
returns-in-Some-clause-adds c =
    let kids = kid_at (names_of c.args.former) c.args.children.items in
    let is = ap (λ v. joint (option_map value_of v) kids c.args.kept_usage) c.in-Some.is ∙ joint-one (value_of c.in-Some.value) kids c.args.kept_usage c.args.nibble c.requires.one in
    on_ok_weaker c.fork.result (λ adds. subst (λ (j : Joint). Adds c.args.ledger.now c.fork.new.ledger j.made [] 0 0) (sym is) adds) c.fork.ensures.adds
