use Rattle.std.proofs.Common.{length}
use Rattle.fork_tree.proofs.Before.{links-at}
use Rattle.fork_tree.proofs.plans.place_before.Goals as goal

pub returns-clause-earlier : goal.returns-clause-earlier
returns-clause-earlier c = (links-at c.args.blocks.now (length c.args.blocks.now) c.requires.linked c.args.place _ c.requires.within c.requires.within).earlier c.requires.behind

pub returns-clause-prev : goal.returns-clause-prev
returns-clause-prev c = (links-at c.args.blocks.now (length c.args.blocks.now) c.requires.linked c.args.place _ c.requires.within c.requires.within).prev c.requires.behind
