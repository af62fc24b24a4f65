use Rattle.std.proofs.Common.{rules, option_map}
use Rattle.node_codec.specs.Meanings.{value_of, children_in}
use Rattle.trie_shape.proofs.Shows.{branch_top, rows_top}
use Rattle.trie_shape.proofs.closing.close_branch.Goals as goal

pub returns-in-Ok-clause-shows : goal.returns-in-Ok-clause-shows
returns-in-Ok-clause-shows c = branch_top c.closed.result (option_map value_of c.args.value) (children_in c.args.kids.now) c.args.kids_usage (search rules)

pub returns-in-Ok-clause-rows : goal.returns-in-Ok-clause-rows
returns-in-Ok-clause-rows c = rows_top c.closed.result (option_map value_of c.args.value) (children_in c.args.kids.now) c.args.kids_usage (search rules)
