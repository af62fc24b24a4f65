use Rattle.std.proofs.Common.{sym, ap, ◌∙◌}
use Rattle.flat_store.specs.Flats.{FlatState}
use Rattle.flat_store.specs.Kept.{change_at}
use Rattle.flat_store.proofs.Lookups.{change-found, change-missing}
use Rattle.flat_store.proofs.flat.Flat.change.Goals as goal

pub returns-in-Some : goal.returns-in-Some
returns-in-Some c =
    c.get-in-Some.ensures ∙ sym (change-found _ c.args.id.now.0 c.args.key.now _ (sym c.in-Some.ensures.value)) ∙ ap (λ (s : FlatState). change_at s.deltas c.args.id.now.0 c.args.key.now) c.self.view_is

pub returns-in-None : goal.returns-in-None
returns-in-None c = sym (change-missing _ c.args.id.now.0 c.args.key.now (sym c.in-None.ensures.value)) ∙ ap (λ (s : FlatState). change_at s.deltas c.args.id.now.0 c.args.key.now) c.self.view_is
