use Rattle.std.proofs.Common.{rules, ◌≡◌, suc, ◌-◌, ◌<◌, subst, arith}
use Rattle.node_codec.specs.Children.{children_viewed}
use Rattle.trie_read.proofs.Children.{TakenUp, taken-more, taken-none, taken-all}
use Rattle.trie_read.proofs.walk.push_children.Goals as goal

pub loop-nibble-preserved-in-Continue-1 : goal.loop-nibble-preserved-in-Continue-1
loop-nibble-preserved-in-Continue-1 c =
    let some : 0 < c.loop-nibble.nibble = c.loop-nibble-test.true in
    let next : c.loop-nibble.nibble ≡ suc (c.loop-nibble.nibble - 1) = omega arith in
    taken-more (children_viewed c.args.kids.now) c.args.depth c.args.bound.now c.args.pending.now.items c.loop-nibble.pending.items c.push.new.self.items (c.loop-nibble.nibble - 1) c.in-Some.place
    (subst (TakenUp (children_viewed c.args.kids.now) c.args.depth c.args.bound.now c.args.pending.now.items c.loop-nibble.pending.items) next c.loop-nibble.invariant) c.in-Some.ensures c.in_ok-push.ensures.items

pub loop-nibble-preserved : goal.loop-nibble-preserved
loop-nibble-preserved c =
    let some : 0 < c.loop-nibble.nibble = c.loop-nibble-test.true in
    let next : c.loop-nibble.nibble ≡ suc (c.loop-nibble.nibble - 1) = omega arith in
    taken-none (children_viewed c.args.kids.now) c.args.depth c.args.bound.now c.args.pending.now.items c.loop-nibble.pending.items (c.loop-nibble.nibble - 1)
    (subst (TakenUp (children_viewed c.args.kids.now) c.args.depth c.args.bound.now c.args.pending.now.items c.loop-nibble.pending.items) next c.loop-nibble.invariant) c.in_default.ensures

pub returns-clause-steps : goal.returns-clause-steps
returns-clause-steps c =
    let none : c.loop-nibble.nibble ≡ 0 = search rules in
    taken-all (children_viewed c.args.kids.now) c.args.depth c.args.bound.now c.args.pending.now.items c.loop-nibble.pending.items (subst (TakenUp (children_viewed c.args.kids.now) c.args.depth c.args.bound.now c.args.pending.now.items c.loop-nibble.pending.items) none c.loop-nibble.invariant)
