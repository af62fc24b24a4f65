use Rattle.text_store.proofs.Holding.{least_of-some, least_of-none}
use Rattle.text_store.proofs.marked.least_of.Goals as goal

pub returns-in-Some : goal.returns-in-Some
returns-in-Some c = least_of-some c.args.least c.in-Some.least c.args.digest c.min.result c.in-Some.is c.min.ensures

pub returns-in-None : goal.returns-in-None
returns-in-None c = least_of-none c.args.least c.args.digest c.in-None.is
