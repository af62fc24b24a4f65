use Rattle.std.proofs.Common.{◌<◌, ◌≤◌, length, refl, arith}
use Rattle.std.proofs.lemmas.Bool.Decides.{nat_tests}
use Rattle.std.proofs.lemmas.Option.{slice_get_past, slice_get_read}
use Rattle.fork_tree.proofs.Fates.{next_none, next_some}
use Rattle.fork_tree.proofs.plans.is_next.Goals as goal

pub returns-in-Some : goal.returns-in-Some
returns-in-Some c =
    let within : c.args.place < length c.args.ids.now = (let l = c.in-Some.ensures.lookup.0 in grind (arith, nat_tests)) in
    next_some c.args.ids.now c.args.place c.in-Some.next.now _ _ (slice_get_read c.args.ids.now _ c.args.place c.in-Some.next.now refl within c.in-Some.ensures.lookup.1) c.eq.ensures

pub returns-in-None : goal.returns-in-None
returns-in-None c =
    let past : length c.args.ids.now ≤ c.args.place = (let l = c.in-None.ensures.lookup.0 in grind (arith, nat_tests)) in
    next_none c.args.ids.now c.args.place _ (slice_get_past c.args.ids.now c.args.place past)
