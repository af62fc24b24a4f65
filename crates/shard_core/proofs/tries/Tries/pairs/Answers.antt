use Rattle.std.proofs.Common.{sym, ap}
use Rattle.std.specs.Option.{option_map}
use Rattle.shard_core.specs.Ledgers.{LedgerState}
use Rattle.shard_core.proofs.Tabled.{ledger-found, ledger-missing}
use Rattle.shard_core.proofs.tries.Tries.pairs.Goals as goal

pub returns-in-Some : goal.returns-in-Some
returns-in-Some g c = sym (ap (option_map (λ (l : LedgerState). l.pairs)) (ledger-found c.args.self.now.ledgers.entries c.args.id.now.0 c.in-Some.ledger.now c.in-Some.ensures.value))

pub returns-in-None : goal.returns-in-None
returns-in-None g c = sym (ap (option_map (λ (l : LedgerState). l.pairs)) (ledger-missing c.args.self.now.ledgers.entries c.args.id.now.0 c.in-None.ensures.value))
