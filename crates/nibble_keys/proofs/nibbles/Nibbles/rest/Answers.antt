use Rattle.std.proofs.Common.{arith}
use Rattle.nibble_keys.proofs.NibbleLists.{length-view}
use Rattle.nibble_keys.proofs.nibbles.Nibbles.rest.Goals as goal

pub overflow_add-result : goal.overflow_add-result
overflow_add-result c =
    let long = length-view c.self.inside.key.now c.args.self.now c.self.inside.start c.self.view_is in
    omega arith

pub invariant_of-result : goal.invariant_of-result
invariant_of-result c =
    let long = length-view c.self.inside.key.now c.args.self.now c.self.inside.start c.self.view_is in
    omega arith
