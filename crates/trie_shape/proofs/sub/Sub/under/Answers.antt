use Rattle.std.proofs.Common.{rules}
use Rattle.trie_shape.specs.declared.sub.Sub.TheVariants.{Empty, Leaf, Branch, Extension}
use Rattle.trie_shape.proofs.Shows.{shown-under, shown-under_rows}
use Rattle.trie_shape.proofs.sub.Sub.under.Goals as goal

pub returns-in-Empty-clause-shows : goal.returns-in-Empty-clause-shows
returns-in-Empty-clause-shows c = shown-under c.args.nibbles.now c.args.self Empty (search rules)

pub returns-in-Empty-clause-rows : goal.returns-in-Empty-clause-rows
returns-in-Empty-clause-rows c = shown-under_rows c.args.nibbles.now c.args.self Empty (search rules)

pub returns-in_ok-joined-in-Leaf-clause-shows : goal.returns-in_ok-joined-in-Leaf-clause-shows
returns-in_ok-joined-in-Leaf-clause-shows c = shown-under c.args.nibbles.now c.args.self (Leaf c.in_ok-joined-in-Leaf.field-0 c.in-Leaf.value) (search rules)

pub returns-in_ok-joined-in-Leaf-clause-rows : goal.returns-in_ok-joined-in-Leaf-clause-rows
returns-in_ok-joined-in-Leaf-clause-rows c = shown-under_rows c.args.nibbles.now c.args.self (Leaf c.in_ok-joined-in-Leaf.field-0 c.in-Leaf.value) (search rules)

pub returns-in-Branch-clause-shows : goal.returns-in-Branch-clause-shows
returns-in-Branch-clause-shows c = shown-under c.args.nibbles.now c.args.self (Branch c.in-Branch.digest c.in-Branch.usage) (search rules)

pub returns-in-Branch-clause-rows : goal.returns-in-Branch-clause-rows
returns-in-Branch-clause-rows c = shown-under_rows c.args.nibbles.now c.args.self (Branch c.in-Branch.digest c.in-Branch.usage) (search rules)

pub returns-in_ok-copy-in-Branch-2-clause-shows : goal.returns-in_ok-copy-in-Branch-2-clause-shows
returns-in_ok-copy-in-Branch-2-clause-shows c = shown-under c.args.nibbles.now c.args.self (Extension c.in_ok-copy-in-Branch-2.field-0 c.in-Branch-2.digest c.in-Branch-2.usage) (search rules)

pub returns-in_ok-copy-in-Branch-2-clause-rows : goal.returns-in_ok-copy-in-Branch-2-clause-rows
returns-in_ok-copy-in-Branch-2-clause-rows c = shown-under_rows c.args.nibbles.now c.args.self (Extension c.in_ok-copy-in-Branch-2.field-0 c.in-Branch-2.digest c.in-Branch-2.usage) (search rules)

pub returns-in_ok-joined-in-Extension-clause-shows : goal.returns-in_ok-joined-in-Extension-clause-shows
returns-in_ok-joined-in-Extension-clause-shows c = shown-under c.args.nibbles.now c.args.self (Extension c.in_ok-joined-in-Extension.field-0 c.in-Extension.child c.in-Extension.child_usage) (search rules)

pub returns-in_ok-joined-in-Extension-clause-rows : goal.returns-in_ok-joined-in-Extension-clause-rows
returns-in_ok-joined-in-Extension-clause-rows c = shown-under_rows c.args.nibbles.now c.args.self (Extension c.in_ok-joined-in-Extension.field-0 c.in-Extension.child c.in-Extension.child_usage) (search rules)
