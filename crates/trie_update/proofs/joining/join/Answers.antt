use Rattle.std.proofs.Common.{◌≡◌, ◌≤◌, [], ◌∷◌, length, option_map, ap, sym, subst, ◌∙◌}
use Rattle.std.proofs.lemmas.Result.{IfOk-weaker, on_ok_weaker}
use Rattle.node_codec.specs.Meanings.{value_of}
use Rattle.update_model.specs.Joins.{Joint, there}
use Rattle.trie_update.specs.Adds.{Adds}
use Rattle.trie_update.specs.Formers.{names_of}
use Rattle.trie_update.specs.Subs.{kid_at}
use Rattle.trie_update.proofs.Adding.{adds-none}
use Rattle.trie_update.proofs.Children.{fork-two, joint-none, joint-more}
use Rattle.trie_update.proofs.joining.join.Goals as goal

pub one_child-requires-clause-one : goal.one_child-requires-clause-one
one_child-requires-clause-one c = subst (λ items. there (kid_at (names_of c.args.former) items) ≡ c.in-One.nibble ∷ []) c.deref.ensures.value c.in-One.ensures

pub fork-requires-clause-forks : goal.fork-requires-clause-forks
fork-requires-clause-forks c =
    let two = subst (λ items. 2 ≤ length (there (kid_at (names_of c.args.former) items))) c.deref.ensures.value c.in-More.ensures in
    fork-two (option_map value_of c.args.left.value) (kid_at (names_of c.args.former) c.args.left.children.items) c.args.kept_usage c.requires.joins two

pub returns-in-Zero-clause-top : goal.returns-in-Zero-clause-top
returns-in-Zero-clause-top c =
    let none = subst (λ items. there (kid_at (names_of c.args.former) items) ≡ []) c.deref.ensures.value c.in-Zero.ensures in
    let is = joint-none (option_map value_of c.args.left.value) (kid_at (names_of c.args.former) c.args.left.children.items) c.args.kept_usage none in
    c.no_children.ensures ∙ sym (ap (λ (j : Joint). j.top) is)

pub returns-in-Zero-clause-adds : goal.returns-in-Zero-clause-adds
returns-in-Zero-clause-adds c =
    let none = subst (λ items. there (kid_at (names_of c.args.former) items) ≡ []) c.deref.ensures.value c.in-Zero.ensures in
    let is = joint-none (option_map value_of c.args.left.value) (kid_at (names_of c.args.former) c.args.left.children.items) c.args.kept_usage none in
    subst (λ (j : Joint). Adds c.args.ledger.now c.args.ledger.now j.made [] 0 0) (sym is) (adds-none c.args.ledger.now)

pub returns-in-More-clause-top : goal.returns-in-More-clause-top
returns-in-More-clause-top c =
    let two = subst (λ items. 2 ≤ length (there (kid_at (names_of c.args.former) items))) c.deref.ensures.value c.in-More.ensures in
    let is = joint-more (option_map value_of c.args.left.value) (kid_at (names_of c.args.former) c.args.left.children.items) c.args.kept_usage two in
    IfOk-weaker c.fork.result _ _ (λ sub e. e ∙ sym (ap (λ (j : Joint). j.top) is)) c.fork.ensures.top

pub returns-in-More-clause-adds : goal.returns-in-More-clause-adds
returns-in-More-clause-adds c =
    let two = subst (λ items. 2 ≤ length (there (kid_at (names_of c.args.former) items))) c.deref.ensures.value c.in-More.ensures in
    let is = joint-more (option_map value_of c.args.left.value) (kid_at (names_of c.args.former) c.args.left.children.items) c.args.kept_usage two in
    on_ok_weaker c.fork.result (λ adds. subst (λ (j : Joint). Adds c.args.ledger.now c.fork.new.ledger j.made [] 0 0) (sym is) adds) c.fork.ensures.adds
