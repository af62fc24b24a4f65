use Rattle.std.proofs.Common.{sym, ap, ◌∙◌}
use Rattle.flat_store.specs.Kept.{ids_in}
use Rattle.flat_store.proofs.Listing.{listed-found, listed-missing}
use Rattle.flat_store.proofs.lists.listed.Goals as goal

pub returns-in-Some : goal.returns-in-Some
returns-in-Some c = ap ids_in c.as_slice.ensures.value ∙ sym (listed-found _ c.args.key.now c.in-Some.ids.now (sym c.in-Some.ensures.value))

pub returns-in-None : goal.returns-in-None
returns-in-None c = sym (listed-missing _ c.args.key.now (sym c.in-None.ensures.value))
