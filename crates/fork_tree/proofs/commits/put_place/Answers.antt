use Rattle.std.proofs.Common.{is_some, sym, ◌∙◌, ap}
use Rattle.fork_tree.specs.Kept.{placed}
use Rattle.fork_tree.proofs.Tables.{written}
use Rattle.fork_tree.proofs.commits.put_place.Goals as goal

pub returns-in-Some-clause-places : goal.returns-in-Some-clause-places
returns-in-Some-clause-places c = λ q.
    let put = (c.get_mut.follows.holds c.args.place).3 (sym (ap is_some c.in-Some.ensures.value)) in
    put.0 (record { 0 = q }) ∙ written (placed c.args.places.now.entries) c.args.id.now.0 c.args.place c.in-Some.held.now (sym c.in-Some.ensures.value) q
