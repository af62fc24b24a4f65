use Rattle.std.proofs.Common.{◌≡◌, ◌<◌, ◌∷◌, sym, subst, arith}
use Rattle.fork_tree.specs.Kept.{IsCut}
use Rattle.fork_tree.specs.Nearest.{IsSearch}
use Rattle.fork_tree.proofs.Kept.{placed-within}
use Rattle.fork_tree.proofs.Planned.{place-id}
use Rattle.fork_tree.proofs.Searching.{search-found, search-missed}
use Rattle.fork_tree.proofs.nearest.meet.Goals as goal

pub returns-then-at-place : goal.returns-then-at-place
returns-then-at-place c = λ met is.
    let same : c.way_back-at.result ≡ c.in-Some.place.now = c.if-at-place.true in
    let nearer : c.args.search.nearest < c.in-Some.place.now = c.if-place-search.false in
    let cut = c.way_back-at.ensures.cut c.args.start (c.resume-from.ensures.cut is.cut) in
    subst (λ at. IsSearch c.args.blocks.now c.args.start (c.args.id.now.0 ∷ met) (record { at = at; reach = c.in-Some.place.now; nearest = c.in-Some.place.now })) (sym same)
    (search-found c.args.blocks.now c.args.places.now.entries c.requires.kept c.args.start met c.args.id.now.0 c.args.search c.in-Some.place.now (sym c.in-Some.ensures.value)
    (place-id _ _ c.requires.kept c.args.id.now.0 _ c.in-Some.ensures.value) (placed-within _ _ c.requires.kept c.args.id.now.0 _ c.in-Some.ensures.value) nearer
    (subst (λ at. IsCut c.args.blocks.now c.args.start at c.in-Some.place.now) same cut) is)

pub returns : goal.returns
returns c = λ met is.
    let cut = c.way_back-at.ensures.cut c.args.start (c.resume-from.ensures.cut is.cut) in
    search-missed c.args.blocks.now c.args.places.now.entries c.requires.kept c.args.start met c.args.id.now.0 c.args.search c.in-Some.place.now c.way_back-at.result (sym c.in-Some.ensures.value)
    c.way_back-at.ensures.within (omega (arith, c.way_back-at.ensures.reached, c.if-at-place.false)) cut is
