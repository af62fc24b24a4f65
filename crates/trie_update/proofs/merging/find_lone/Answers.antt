use Rattle.std.proofs.Common.{◌<◌, length, option_map, ap, sym, ◌∙◌, arith}
use Rattle.node_codec.specs.Meanings.{children_in, value_of}
use Rattle.update_model.specs.Joins.{is_there}
use Rattle.update_model.specs.Tops.{empty}
use Rattle.update_model.specs.Updates.{kid_kept}
use Rattle.update_model.proofs.Joined.{only-holds}
use Rattle.trie_update.specs.Subs.{kid_at, kid_of, top_of_sub}
use Rattle.trie_update.proofs.Children.{child_at-item}
use Rattle.trie_update.proofs.Lones.{lone-value, lone-zero, lone-more, lone-found, lone-known}
use Rattle.trie_update.proofs.merging.find_lone.Goals as goal

pub returns-then-is_some : goal.returns-then-is_some
returns-then-is_some c = lone-value value_of c.args.value.now (kid_at (children_in c.args.former.now.kids.now) c.args.children.now) (sym c.if-is_some.ensures)

pub bounds-children-nibble : goal.bounds-children-nibble
bounds-children-nibble c = let small = (only-holds (λ x. is_there (kid_at (children_in c.args.former.now.kids.now) c.args.children.now x)) 16 c.in-One.nibble c.in-One.ensures).0 in omega arith

pub offset_bounds-children-nibble : goal.offset_bounds-children-nibble
offset_bounds-children-nibble c = let small = (only-holds (λ x. is_there (kid_at (children_in c.args.former.now.kids.now) c.args.children.now x)) 16 c.in-One.nibble c.in-One.ensures).0 in record { fits = omega arith }

pub overflow_cast-nibble : goal.overflow_cast-nibble
overflow_cast-nibble c =
    let small = (only-holds (λ x. is_there (kid_at (children_in c.args.former.now.kids.now) c.args.children.now x)) 16 c.in-One.nibble c.in-One.ensures).0 in record { fits = omega arith }

pub get-requires : goal.get-requires
get-requires c = (only-holds (λ x. is_there (kid_at (children_in c.args.former.now.kids.now) c.args.children.now x)) 16 c.in-One.nibble c.in-One.ensures).0

pub returns-in-Zero : goal.returns-in-Zero
returns-in-Zero c = lone-zero value_of c.args.value.now (kid_at (children_in c.args.former.now.kids.now) c.args.children.now) (sym c.if-is_some.ensures) c.in-Zero.ensures

pub returns-in-Some : goal.returns-in-Some
returns-in-Some c =
    let small = (only-holds (λ x. is_there (kid_at (children_in c.args.former.now.kids.now) c.args.children.now x)) 16 c.in-One.nibble c.in-One.ensures).0 in
    let inside : c.in-One.nibble < length c.args.children.now = omega arith in
    lone-found value_of c.args.value.now (kid_at (children_in c.args.former.now.kids.now) c.args.children.now) (sym c.if-is_some.ensures) c.in-One.nibble c.in-Some.digest c.in-One.ensures
    (ap (kid_of (children_in c.args.former.now.kids.now c.in-One.nibble)) (child_at-item c.args.children.now c.in-One.nibble c.index-children-nibble.result inside c.index-children-nibble.is ∙ c.in-Kept.is) ∙ sym (ap (λ o. kid_kept (option_map (λ d. d.0) o)) c.in-Some.ensures.value))

pub returns-in-None : goal.returns-in-None
returns-in-None c =
    let small = (only-holds (λ x. is_there (kid_at (children_in c.args.former.now.kids.now) c.args.children.now x)) 16 c.in-One.nibble c.in-One.ensures).0 in
    let inside : c.in-One.nibble < length c.args.children.now = omega arith in
    lone-known value_of c.args.value.now (kid_at (children_in c.args.former.now.kids.now) c.args.children.now) (sym c.if-is_some.ensures) c.in-One.nibble empty c.in-One.ensures
    (ap (kid_of (children_in c.args.former.now.kids.now c.in-One.nibble)) (child_at-item c.args.children.now c.in-One.nibble c.index-children-nibble.result inside c.index-children-nibble.is ∙ c.in-Kept.is) ∙ sym (ap (λ o. kid_kept (option_map (λ d. d.0) o)) c.in-None.ensures.value))

pub returns-in-Known : goal.returns-in-Known
returns-in-Known c =
    let small = (only-holds (λ x. is_there (kid_at (children_in c.args.former.now.kids.now) c.args.children.now x)) 16 c.in-One.nibble c.in-One.ensures).0 in
    let inside : c.in-One.nibble < length c.args.children.now = omega arith in
    lone-known value_of c.args.value.now (kid_at (children_in c.args.former.now.kids.now) c.args.children.now) (sym c.if-is_some.ensures) c.in-One.nibble (top_of_sub c.in-Known.field-0.value) c.in-One.ensures
    (ap (kid_of (children_in c.args.former.now.kids.now c.in-One.nibble)) (child_at-item c.args.children.now c.in-One.nibble c.index-children-nibble.result inside c.index-children-nibble.is ∙ c.in-Known.is))

pub returns-in-More : goal.returns-in-More
returns-in-More c = lone-more value_of c.args.value.now (kid_at (children_in c.args.former.now.kids.now) c.args.children.now) (sym c.if-is_some.ensures) c.in-More.ensures
