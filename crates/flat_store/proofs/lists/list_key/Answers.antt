use Rattle.std.proofs.Common.{is_some, sym, ap, ◌∙◌}
use Rattle.flat_store.specs.Kept.{deltas_of}
use Rattle.fork_model.specs.Trees.{is_among}
use Rattle.flat_store.proofs.Listing.{among-pushed, listed-found, new-listed, new-stay, put-listed, put-stay}
use Rattle.flat_store.proofs.Noting.{on_ok}
use Rattle.flat_store.proofs.lists.list_key.Goals as goal

-- ---- the key has a list

pub returns-in-Some-clause-stay : goal.returns-in-Some-clause-stay
returns-in-Some-clause-stay c =
    let put = (c.get_mut.follows.holds c.push.new.ids).3 (sym (ap is_some c.in-Some.ensures.value)) in
    put-stay (deltas_of c.args.deltas.now.entries) c.args.lists.now.entries _ c.args.key.now c.push.new.ids put.1 put.3
    (λ q live on. c.push.ensures.stay q live (sym (ap (is_among q) (listed-found c.args.lists.now.entries c.args.key.now c.in-Some.ids.now (sym c.in-Some.ensures.value))) ∙ on))

pub returns-in-Some-clause-ok : goal.returns-in-Some-clause-ok
returns-in-Some-clause-ok c =
    let put = (c.get_mut.follows.holds c.push.new.ids).3 (sym (ap is_some c.in-Some.ensures.value)) in
    on_ok c.push.result (put-listed (deltas_of c.args.deltas.now.entries) c.args.lists.now.entries _ c.args.key.now c.push.new.ids put.1 c.args.id.now.0) c.push.ensures.ok

-- ---- it has none

pub returns-in-Ok-clause-stay : goal.returns-in-Ok-clause-stay
returns-in-Ok-clause-stay c =
    new-stay (deltas_of c.args.deltas.now.entries) c.args.lists.now.entries _ _ c.in_ok-from_slice.field-0.items c.args.key.now c.push-2.new.self (ap (λ m. m.entries) c.get_mut.follows.holds-at-none) c.in_ok-from_slice.ensures.items
    c.in-Ok.ensures.updates.1 (sym c.in_default.ensures.value) c.in-Ok.ensures.updates.3

pub returns-in-Ok-clause-ok : goal.returns-in-Ok-clause-ok
returns-in-Ok-clause-ok c =
    new-listed (deltas_of c.args.deltas.now.entries) c.args.lists.now.entries _ _ c.in_ok-from_slice.field-0.items c.args.key.now c.push-2.new.self (ap (λ m. m.entries) c.get_mut.follows.holds-at-none) c.in_ok-from_slice.ensures.items
    c.in-Ok.ensures.updates.1 c.args.id.now.0 (among-pushed _ _ c.args.id.now c.in_ok-push.ensures.items)
