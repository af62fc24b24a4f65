use Rattle.std.proofs.Common.{is_some, rules}
use Rattle.std.proofs.lemmas.Fn.{filter_same}
use Rattle.fork_tree.specs.Kept.{placed}
use Rattle.fork_tree.proofs.commits.keep_placed.Goals as goal

pub returns-clause-items : goal.returns-clause-items
returns-clause-items c = filter_same _ (λ block. is_some (placed c.args.places.now.entries block.id.0)) _ (λ x b f' k. search rules) _ _ c.retain.ensures.filtered
