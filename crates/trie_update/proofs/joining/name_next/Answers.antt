use Rattle.std.proofs.Common.{◌<◌, ◌^◌, [], refl, ap, sym, subst, ◌∙◌}
use Rattle.node_codec.specs.Meanings.{children_in}
use Rattle.update_model.specs.Joins.{known, kid_name, kid_usage, kid_pending}
use Rattle.update_model.specs.Tops.{pending}
use Rattle.trie_update.specs.Adds.{Adds}
use Rattle.trie_update.specs.Subs.{KidStands, child_at, kid_of, top_of_sub}
use Rattle.trie_update.proofs.Adding.{adds-none, adds-same}
use Rattle.trie_update.proofs.Children.{child_at-first, kept-name, kept-pending, kept-usage, named-at}
use Rattle.trie_update.specs.declared.joining.Child.TheVariants as child
use Rattle.trie_update.proofs.joining.name_next.Goals as goal

pub recorded-requires-clause-stands : goal.recorded-requires-clause-stands
recorded-requires-clause-stands c =
    let name = children_in c.args.kids.now c.args.nibble in
    let first = ap (kid_of name) (child_at-first c.args.children.now.items c.pop_front.new.self.items (child.Known c.in-Some-Known.sub) (rw c.in-Some-Known.field-0-is at c.in-Some-Known.ensures.items)) ∙ ap (λ s. known (top_of_sub s)) (sym c.into_inner.ensures) in
    subst KidStands first c.requires.stands

pub recorded-requires-clause-fits : goal.recorded-requires-clause-fits
unfolding kid_usage
recorded-requires-clause-fits c =
    let name = children_in c.args.kids.now c.args.nibble in
    let first = ap (kid_of name) (child_at-first c.args.children.now.items c.pop_front.new.self.items (child.Known c.in-Some-Known.sub) (rw c.in-Some-Known.field-0-is at c.in-Some-Known.ensures.items)) ∙ ap (λ s. known (top_of_sub s)) (sym c.into_inner.ensures) in
    subst (λ kid. kid_usage kid < 2 ^ 64) first c.requires.fits

pub returns-in-Some-Kept-clause-name : goal.returns-in-Some-Kept-clause-name
returns-in-Some-Kept-clause-name c =
    let name = children_in c.args.kids.now c.args.nibble in
    let first = child_at-first c.args.children.now.items c.pop_front.new.self.items child.Kept (rw c.in-Some-Kept.field-0-is at c.in-Some-Kept.ensures.items) in
    record { name = kept-name name ∙ sym (ap (λ ch. kid_name (kid_of name ch)) first); others = λ y other. refl }

pub returns-in-Some-Kept-clause-used : goal.returns-in-Some-Kept-clause-used
returns-in-Some-Kept-clause-used c =
    let name = children_in c.args.kids.now c.args.nibble in
    let first = child_at-first c.args.children.now.items c.pop_front.new.self.items child.Kept (rw c.in-Some-Kept.field-0-is at c.in-Some-Kept.ensures.items) in
    kept-usage name ∙ sym (ap (λ ch. kid_usage (kid_of name ch)) first)

pub returns-in-Some-Kept-clause-adds : goal.returns-in-Some-Kept-clause-adds
returns-in-Some-Kept-clause-adds c =
    let name = children_in c.args.kids.now c.args.nibble in
    let first = child_at-first c.args.children.now.items c.pop_front.new.self.items child.Kept (rw c.in-Some-Kept.field-0-is at c.in-Some-Kept.ensures.items) in
    subst (λ made. Adds c.args.ledger.now c.args.ledger.now made [] 0 0) (kept-pending name ∙ sym (ap (λ ch. kid_pending (kid_of name ch)) first)) (adds-none c.args.ledger.now)

pub returns-in_ok-name-in-Some-Known-clause-name : goal.returns-in_ok-name-in-Some-Known-clause-name
unfolding kid_name
returns-in_ok-name-in-Some-Known-clause-name c =
    let name = children_in c.args.kids.now c.args.nibble in
    let first = ap (kid_of name) (child_at-first c.args.children.now.items c.pop_front.new.self.items (child.Known c.in-Some-Known.sub) (rw c.in-Some-Known.field-0-is at c.in-Some-Known.ensures.items)) ∙ ap (λ s. known (top_of_sub s)) (sym c.into_inner.ensures) in
    named-at c.args.kids.now _ c.args.nibble c.in_ok-name-in-Some-Known.name _ c.set.ensures.sixteen c.requires.inside c.set.ensures.value (c.in_ok-name-in-Some-Known.ensures.name ∙ sym (ap kid_name first))

pub returns-in_ok-name-in-Some-Known-clause-used : goal.returns-in_ok-name-in-Some-Known-clause-used
unfolding kid_usage
returns-in_ok-name-in-Some-Known-clause-used c =
    let name = children_in c.args.kids.now c.args.nibble in
    let first = ap (kid_of name) (child_at-first c.args.children.now.items c.pop_front.new.self.items (child.Known c.in-Some-Known.sub) (rw c.in-Some-Known.field-0-is at c.in-Some-Known.ensures.items)) ∙ ap (λ s. known (top_of_sub s)) (sym c.into_inner.ensures) in
    c.in_ok-name-in-Some-Known.ensures.used ∙ sym (ap kid_usage first)

pub returns-in_ok-name-in-Some-Known-clause-adds : goal.returns-in_ok-name-in-Some-Known-clause-adds
unfolding kid_pending
returns-in_ok-name-in-Some-Known-clause-adds c =
    let name = children_in c.args.kids.now c.args.nibble in
    let first = ap (kid_of name) (child_at-first c.args.children.now.items c.pop_front.new.self.items (child.Known c.in-Some-Known.sub) (rw c.in-Some-Known.field-0-is at c.in-Some-Known.ensures.items)) ∙ ap (λ s. known (top_of_sub s)) (sym c.into_inner.ensures) in
    adds-same c.args.ledger.now c.recorded.new.ledger (pending (top_of_sub c.into_inner.result)) [] 0 0 (kid_pending (kid_of name (child_at c.args.children.now.items 0))) [] 0 0 (sym (ap kid_pending first)) refl refl refl c.in_ok-name-in-Some-Known.ensures.adds
