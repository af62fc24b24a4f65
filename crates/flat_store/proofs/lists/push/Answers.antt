use Rattle.flat_store.proofs.Listing.{among-before, among-pushed}
use Rattle.flat_store.proofs.lists.push.Goals as goal

pub returns-clause-stay : goal.returns-clause-stay
returns-clause-stay c = λ q live on. among-before _ _ c.args.id.now q c.in_ok-push.ensures.items (c.in_ok-make_room.ensures q live on)

pub returns-clause-ok : goal.returns-clause-ok
returns-clause-ok c = among-pushed _ _ c.args.id.now c.in_ok-push.ensures.items
