use Rattle.std.proofs.Common.{[], sym, ap, ◌∙◌}
use Rattle.std.specs.Option.{option_map, unwrap_or}
use Rattle.shard_core.specs.Ledgers.{LedgerState, entries_of}
use Rattle.shard_core.proofs.Tabled.{ledger-found, ledger-missing}
use Rattle.shard_core.proofs.ledger.losses_at.Goals as goal

pub returns-in-Some : goal.returns-in-Some
returns-in-Some c = ap entries_of c.as_slice.ensures.value ∙ sym (ap (λ o. unwrap_or (option_map (λ (l : LedgerState). l.losses) o) []) (ledger-found c.args.ledgers.now.entries c.args.id.now.0 c.in-Some.ledger.now c.in-Some.ensures.value))

pub returns-in-None : goal.returns-in-None
returns-in-None c = sym (ap (λ o. unwrap_or (option_map (λ (l : LedgerState). l.losses) o) []) (ledger-missing c.args.ledgers.now.entries c.args.id.now.0 c.in-None.ensures.value))
