use Rattle.std.proofs.Common.{◌≡◌, ℕ, ◌<◌, ◌+◌, length, ap, sym, subst, ◌∙◌, arith}
use Rattle.change_model.specs.Visits.{numbers_below}
use Rattle.update_model.specs.Joins.{is_there}
use Rattle.trie_update.specs.Formers.{names_of}
use Rattle.trie_update.specs.Subs.{IsFew, kid_at, kid_of}
use Rattle.trie_update.proofs.Children.{few-none, few-more, few-same, child_at-item}
use Rattle.trie_update.proofs.joining.count_few.Goals as goal
use Rattle.trie_update.proofs.joining.count_few.Goals.{then-is_there, else-is_there}

pub loop-nibble-init : goal.loop-nibble-init
loop-nibble-init c = few-none _

pub loop-nibble-preserved : goal.loop-nibble-preserved
loop-nibble-preserved c =
    let children = c.args.children.now in
    let n = c.loop-nibble.nibble in
    let inside : n < length children = omega arith in
    let names = names_of c.args.former in
    let kid = ap (λ child. is_there (kid_of (names n) child)) (child_at-item children n c.index-children-nibble.result inside c.index-children-nibble.is) ∙ sym c.is_there.ensures in
    let test = λ (x : ℕ). is_there (kid_at names children x) in
    elim c.if-is_there.branch [
      | then-is_there w ↦ subst (IsFew (numbers_below test (n + 1))) (sym (w.few-is ∙ w.one_more-few.ensures)) (few-more test n c.loop-nibble.few c.loop-nibble.invariant (kid ∙ w.if-is_there.true))
      | else-is_there w ↦ subst (IsFew (numbers_below test (n + 1))) (sym w.few-is) (few-same test n c.loop-nibble.few c.loop-nibble.invariant (kid ∙ w.if-is_there.false))
    ]

pub returns : goal.returns
returns c = let all : c.loop-nibble.nibble ≡ 16 = omega arith in subst (λ n. IsFew (numbers_below (λ x. is_there (kid_at (names_of c.args.former) c.args.children.now x)) n) c.loop-nibble.few) all c.loop-nibble.invariant
