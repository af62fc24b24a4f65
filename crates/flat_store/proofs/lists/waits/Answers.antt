use Rattle.std.proofs.Common.{true, is_some, ap, subst, ◌≡◌, ◌∙◌}
use Rattle.std.specs.Option.{option_copied}
use Rattle.flat_store.specs.Kept.{is_newest}
use Rattle.flat_store.proofs.Listing.{some-mapped, waits-none, waits-told}
use Rattle.flat_store.proofs.lists.waits.Goals as goal

pub returns-in-Some-get : goal.returns-in-Some-get
returns-in-Some-get c = λ no id is.
    waits-told c.args.deltas.now.entries c.in-Some.newest c.args.key.now c.in-Some-get.changes.now c.is_some.result (c.in-Some-get.ensures.value) (c.is_some.ensures ∙ some-mapped option_copied _ ∙ ap is_some c.get-in-Some-get.ensures) no id (subst (λ o. is_newest o id ≡ true) c.in-Some.is is)

pub returns-in-None : goal.returns-in-None
returns-in-None c = λ no id is. waits-none c.args.deltas.now.entries c.in-Some.newest c.args.key.now (c.in-None.ensures.value) id (subst (λ o. is_newest o id ≡ true) c.in-Some.is is)
