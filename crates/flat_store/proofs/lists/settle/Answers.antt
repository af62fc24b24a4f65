use Rattle.std.proofs.Common.{refl, subst}
use Rattle.flat_store.specs.Kept.{AreListed, deltas_of}
use Rattle.flat_store.proofs.Listing.{listed-fewer, settled-some}
use Rattle.flat_store.proofs.Noting.{on_ok}
use Rattle.flat_store.proofs.lists.settle.Goals as goal

pub returns-in-Some-clause-stay : goal.returns-in-Some-clause-stay
returns-in-Some-clause-stay c = λ is.
    listed-fewer c.args.newest (deltas_of c.args.deltas.now.entries) (deltas_of c.args.deltas.now.entries) c.args.lists.now.entries c.list.new.lists.entries (λ id live. refl) c.list.ensures.stay is

pub returns-in-Some-clause-ok : goal.returns-in-Some-clause-ok
returns-in-Some-clause-ok c =
    on_ok c.list.result
    (λ told is. settled-some (deltas_of c.args.deltas.now.entries) c.args.lists.now.entries c.list.new.lists.entries c.in-Some.newest c.list.ensures.stay told (subst (λ newest. AreListed newest (deltas_of c.args.deltas.now.entries) c.args.lists.now.entries) c.in-Some.is is))
    c.list.ensures.ok
