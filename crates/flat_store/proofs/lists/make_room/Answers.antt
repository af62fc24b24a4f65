use Rattle.std.proofs.Common.{is_some, rules, ◌∙◌}
use Rattle.std.proofs.lemmas.Fn.{filter_same}
use Rattle.flat_store.proofs.Listing.{kept-filter}
use Rattle.flat_store.proofs.Tables.{batch_at}
use Rattle.flat_store.proofs.lists.make_room.Goals as goal

pub returns : goal.returns
returns c =
    kept-filter c.args.deltas.now.entries _ _ (c.reserve.ensures.items ∙ filter_same _ (λ d. is_some (batch_at c.args.deltas.now.entries d.0)) _ (λ x b f' k. search rules) _ _ c.retain.ensures.filtered)
