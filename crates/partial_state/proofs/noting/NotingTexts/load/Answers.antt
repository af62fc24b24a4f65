use Rattle.std.proofs.Common.{refl}
use Rattle.partial_state.proofs.Notes.{noted-load}
use Rattle.partial_state.proofs.noting.NotingTexts.load.Goals as goal

pub returns : goal.returns
returns g c =
    let old = c.args.self.now in
    let new = c.load_beside.follows.lender-at-none in
    let left = c.load_beside.follows.holds-at-none in
    let found = c.load_beside.ensures.found in
    ((refl, λ _. tt, (noted-load g.T.Texts.store (λ n. n.store) (λ n. n.notes) old new c.args.d.now.0 c.load_beside.result found.0 found.1 (g.met.T.Texts.alike_texts old.store new.store left.0.same) left.0 left.1, tt)), record { after = tt; value = found.0; named = found.1 })
