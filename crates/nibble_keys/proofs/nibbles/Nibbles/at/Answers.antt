use Rattle.std.proofs.Common.{arith, sym, ◌∙◌}
use Rattle.nibble_keys.proofs.NibbleLists.{length-view, get_or-view, get_or-nibbles_even, get_or-nibbles_odd}
use Rattle.nibble_keys.proofs.nibbles.Nibbles.at.Goals as goal

pub overflow_add-index : goal.overflow_add-index
overflow_add-index c =
    let long = length-view c.self.inside.key.now c.args.self.now c.self.inside.start c.self.view_is in
    omega arith

pub bounds-self-inside-index : goal.bounds-self-inside-index
bounds-self-inside-index c =
    let long = length-view c.self.inside.key.now c.args.self.now c.self.inside.start c.self.view_is in
    omega arith

pub returns-then-index-eq0-clause-value : goal.returns-then-index-eq0-clause-value
returns-then-index-eq0-clause-value c =
    sym (get_or-nibbles_even c.self.inside.key.now _ c.if-index-eq0.true)
    ∙ get_or-view c.self.inside.key.now c.args.self.now c.self.inside.start c.args.i c.self.view_is

pub returns-else-index-eq0-clause-value : goal.returns-else-index-eq0-clause-value
returns-else-index-eq0-clause-value c =
    sym (get_or-nibbles_odd c.self.inside.key.now _ (omega arith))
    ∙ get_or-view c.self.inside.key.now c.args.self.now c.self.inside.start c.args.i c.self.view_is
