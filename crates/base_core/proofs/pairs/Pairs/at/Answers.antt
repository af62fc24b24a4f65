use Rattle.std.proofs.Common.{◌<◌, length, sym, subst}
use Rattle.std.specs.FinMap.{entries}
use Rattle.base_core.proofs.KeptMaps.{entries-shown, length-shown}
use Rattle.base_core.proofs.pairs.Pairs.at.Goals as goal

pub pair_at-requires : goal.pair_at-requires
pair_at-requires c = subst (λ n. c.args.place < n) (length-shown _ c.self.invariant.sorted) (subst (λ held. c.args.place < length (entries held.state)) (sym c.self.view_is) c.requires)

pub returns : goal.returns
returns c = rw (← c.self.view_is, entries-shown _ c.self.invariant.sorted) c.pair_at.ensures
