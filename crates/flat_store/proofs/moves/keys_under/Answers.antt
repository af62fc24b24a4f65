use Rattle.std.proofs.Common.{sym, ◌∙◌}
use Rattle.flat_store.proofs.Passing.{keys-found, keys-missing}
use Rattle.flat_store.proofs.moves.keys_under.Goals as goal

pub returns-in-Some-clause-keys : goal.returns-in-Some-clause-keys
returns-in-Some-clause-keys c = c.len.ensures.len ∙ sym (keys-found _ c.args.id.now.0 _ (sym c.in-Some.ensures.value))

pub returns-in-None-clause-keys : goal.returns-in-None-clause-keys
returns-in-None-clause-keys c = sym (keys-missing _ c.args.id.now.0 (sym c.in-None.ensures.value))
