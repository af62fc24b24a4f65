use Rattle.std.proofs.Common.{ap, arith}
use Rattle.std.specs.Option.{option_copied}
use Rattle.shard_core.proofs.Batches.{least-clash, left-at, left-by, meets-by, no-clash, prev-holds, prev-missing, prev-root, prev-state, sum-enough, sum-fits, sum-is, within-limits}
use Rattle.shard_core.proofs.tries.Tries.carry_out.Goals as goal

pub unreachable-requires : goal.unreachable-requires
unreachable-requires g c = prev-missing _ _ c.args.self.now.ledgers.entries _ _ _ c.requires.2 (option_copied c.get.result) (ap option_copied c.in_default.is) c.get.ensures.value

pub overflow_add-pairs : goal.overflow_add-pairs
overflow_add-pairs g c =
    let fits =
    sum-fits _ _ c.args.self.now.ledgers.entries _ _ _ c.requires.2 c.in-Some.ledger.now c.in-Some.ensures.value c.args.changes.now.changes (within-limits c.args.changes.now c.len.ensures.held) c.in-Ok.change
    (c.in-Ok.ensures.state c.requires.1 (prev-state _ _ c.args.self.now.ledgers.entries _ _ _ c.requires.2) (prev-holds _ _ c.args.self.now.ledgers.entries _ _ _ c.requires.2 _) (prev-root _ _ c.args.self.now.ledgers.entries _ _ _ c.requires.2 c.in-Some.ledger.now c.in-Some.ensures.value)) in
    omega (arith, fits)

pub overflow_sub-pairs : goal.overflow_sub-pairs
overflow_sub-pairs g c =
    sum-enough _ _ c.args.self.now.ledgers.entries _ _ _ c.requires.2 c.in-Some.ledger.now c.in-Some.ensures.value c.args.changes.now.changes (within-limits c.args.changes.now c.len.ensures.held) c.in-Ok.change
    (c.in-Ok.ensures.state c.requires.1 (prev-state _ _ c.args.self.now.ledgers.entries _ _ _ c.requires.2) (prev-holds _ _ c.args.self.now.ledgers.entries _ _ _ c.requires.2 _) (prev-root _ _ c.args.self.now.ledgers.entries _ _ _ c.requires.2 c.in-Some.ledger.now c.in-Some.ensures.value))

pub returns-in-Ok-clause-answer : goal.returns-in-Ok-clause-answer
returns-in-Ok-clause-answer g c = λ forks state is.
    let met = c.in-Ok.ensures.state state (prev-state _ _ c.args.self.now.ledgers.entries forks _ state is) (prev-holds _ _ c.args.self.now.ledgers.entries forks _ state is _) (prev-root _ _ c.args.self.now.ledgers.entries forks _ state is c.in-Some.ledger.now c.in-Some.ensures.value) in (
      record {
        change = met;
        pairs = sum-is _ _ c.args.self.now.ledgers.entries forks _ state is c.in-Some.ledger.now c.in-Some.ensures.value c.args.changes.now.changes (within-limits c.args.changes.now c.len.ensures.held) c.in-Ok.change met;
      },
      no-clash state c.args.changes.now.changes _ met.made,
    )

pub returns-in-Ok-clause-left : goal.returns-in-Ok-clause-left
returns-in-Ok-clause-left g c = λ forks state is. left-at g.N.Texts.store _ _ _ _ _ _ (prev-root _ _ c.args.self.now.ledgers.entries forks _ state is c.in-Some.ledger.now c.in-Some.ensures.value) c.in-Ok.ensures.left

pub returns-in-Err-Clash-clause-answer : goal.returns-in-Err-Clash-clause-answer
returns-in-Err-Clash-clause-answer g c = λ forks state is.
    least-clash state c.args.changes.now.changes _ _ _
    (meets-by state c.args.changes.now.changes _ _ c.in-Err-Clash.field-0-is
    (c.in-Err-Clash.ensures.state state (prev-state _ _ c.args.self.now.ledgers.entries forks _ state is) (prev-holds _ _ c.args.self.now.ledgers.entries forks _ state is _) (prev-root _ _ c.args.self.now.ledgers.entries forks _ state is c.in-Some.ledger.now c.in-Some.ensures.value)))

pub returns-in-Err-Clash-clause-left : goal.returns-in-Err-Clash-clause-left
returns-in-Err-Clash-clause-left g c = λ forks state is. left-by g.N.Texts.store _ _ _ _ _ _ _ c.in-Err-Clash.field-0-is (prev-root _ _ c.args.self.now.ledgers.entries forks _ state is c.in-Some.ledger.now c.in-Some.ensures.value) c.in-Err-Clash.ensures.left

pub returns-in-Err-Fault-clause-left : goal.returns-in-Err-Fault-clause-left
returns-in-Err-Fault-clause-left g c = λ forks state is. left-by g.N.Texts.store _ _ _ _ _ _ _ c.in-Err-Fault.field-0-is (prev-root _ _ c.args.self.now.ledgers.entries forks _ state is c.in-Some.ledger.now c.in-Some.ensures.value) c.in-Err-Fault.ensures.left

pub returns-in-Err-NoMemory-clause-left : goal.returns-in-Err-NoMemory-clause-left
returns-in-Err-NoMemory-clause-left g c = λ forks state is. left-by g.N.Texts.store _ _ _ _ _ _ _ c.in-Err-NoMemory.field-0-is (prev-root _ _ c.args.self.now.ledgers.entries forks _ state is c.in-Some.ledger.now c.in-Some.ensures.value) c.in-Err-NoMemory.ensures.left

pub unreachable-requires-in-Err-Missing : goal.unreachable-requires-in-Err-Missing
unreachable-requires-in-Err-Missing g c =
    meets-by c.requires.1 c.args.changes.now.changes _ _ c.in-Err-Missing.field-0-is
    (c.in-Err-Missing.ensures.state c.requires.1 (prev-state _ _ c.args.self.now.ledgers.entries _ _ _ c.requires.2) (prev-holds _ _ c.args.self.now.ledgers.entries _ _ _ c.requires.2 _) (prev-root _ _ c.args.self.now.ledgers.entries _ _ _ c.requires.2 c.in-Some.ledger.now c.in-Some.ensures.value))

pub unreachable-requires-in-Err-Bad : goal.unreachable-requires-in-Err-Bad
unreachable-requires-in-Err-Bad g c =
    meets-by c.requires.1 c.args.changes.now.changes _ _ c.in-Err-Bad.field-0-is
    (c.in-Err-Bad.ensures.state c.requires.1 (prev-state _ _ c.args.self.now.ledgers.entries _ _ _ c.requires.2) (prev-holds _ _ c.args.self.now.ledgers.entries _ _ _ c.requires.2 _) (prev-root _ _ c.args.self.now.ledgers.entries _ _ _ c.requires.2 c.in-Some.ledger.now c.in-Some.ensures.value))

pub unreachable-requires-in-Err-Usage : goal.unreachable-requires-in-Err-Usage
unreachable-requires-in-Err-Usage g c =
    meets-by c.requires.1 c.args.changes.now.changes _ _ c.in-Err-Usage.field-0-is
    (c.in-Err-Usage.ensures.state c.requires.1 (prev-state _ _ c.args.self.now.ledgers.entries _ _ _ c.requires.2) (prev-holds _ _ c.args.self.now.ledgers.entries _ _ _ c.requires.2 _) (prev-root _ _ c.args.self.now.ledgers.entries _ _ _ c.requires.2 c.in-Some.ledger.now c.in-Some.ensures.value))
