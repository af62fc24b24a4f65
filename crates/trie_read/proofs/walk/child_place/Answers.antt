use Rattle.node_codec.specs.Children.{children_viewed}
use Rattle.trie_read.proofs.Stacks.{child-none, child-below, child-place}
use Rattle.trie_read.proofs.walk.child_place.Goals as goal

pub returns-in-None : goal.returns-in-None
returns-in-None c = child-none (children_viewed c.args.kids.now) c.args.nibble c.args.bound.now c.in-None.ensures

pub returns-in-None-child_bound : goal.returns-in-None-child_bound
returns-in-None-child_bound c = child-below (children_viewed c.args.kids.now) c.args.nibble c.args.bound.now c.in-None-child_bound.ensures

pub returns-in-Some-child_bound : goal.returns-in-Some-child_bound
returns-in-Some-child_bound c = child-place (children_viewed c.args.kids.now) c.args.nibble c.args.depth c.args.bound.now c.in-Some.digest c.in-Some-child_bound.bounded c.requires c.in-Some.ensures c.in-Some-child_bound.ensures
