use Rattle.std.proofs.Common.{◌∙◌, ap, subst}
use Rattle.fork_model.specs.Trees.{IsTree, is_live}
use Rattle.fork_tree.specs.Kept.{ForkTree}
use Rattle.fork_tree.proofs.Kept.{placed-live}
use Rattle.fork_tree.proofs.forks.Forks.is_live.Goals as goal

pub returns-clause-live : goal.returns-clause-live
returns-clause-live c = c.contains_key.ensures ∙ placed-live _ _ c.self.invariant.kept c.args.id.now.0 ∙ ap (λ s. is_live s.tree c.args.id.now.0) c.self.view_is

pub returns-clause-tree : goal.returns-clause-tree
returns-clause-tree c = subst (λ (s : ForkTree). IsTree s.tree) c.self.view_is c.self.invariant.kept.tree
