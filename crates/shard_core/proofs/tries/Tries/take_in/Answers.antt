use Rattle.std.proofs.Common.{refl, ap, ◌∙◌}
use Rattle.base_core.proofs.PassedOn.{passed_on}
use Rattle.count_model.specs.Entries.{times_of}
use Rattle.shard_core.specs.Answers.{AnswersTake}
use Rattle.shard_core.specs.Ledgers.{ledgers_of}
use Rattle.shard_core.proofs.Moved.{on_err}
use Rattle.shard_core.proofs.Grown.{times-counted}
use Rattle.shard_core.proofs.Tabled.{ledgers-new, ledgers-old, ledgers-same}
use Rattle.shard_core.proofs.Taken.{amid-same, take-amid, take-can, take-clear, take-refused, tries-ledgers, tries-taken, tries-unchanged}
use Rattle.shard_core.proofs.tries.Tries.take_in.Goals as goal

pub returns-in_err-gains-clause-amid : goal.returns-in_err-gains-clause-amid
returns-in_err-gains-clause-amid g c = λ forks most header state changes tries is. on_err _ c.from_residual.result (amid-same _ _ _ forks state changes tries)

pub returns-in_err-losses-clause-amid : goal.returns-in_err-losses-clause-amid
returns-in_err-losses-clause-amid g c = λ forks most header state changes tries is. on_err _ c.from_residual-in_err-losses.result (amid-same _ _ _ forks state changes tries)

pub returns-in_err-reserve-clause-amid : goal.returns-in_err-reserve-clause-amid
returns-in_err-reserve-clause-amid g c = λ forks most header state changes tries is. on_err _ c.from_residual-in_err-reserve.result (amid-same _ _ _ forks state changes tries)

pub returns-in_err-reserve-2-clause-memory : goal.returns-in_err-reserve-2-clause-memory
returns-in_err-reserve-2-clause-memory g c = λ forks tries e.
    tries-ledgers _ _ _ _ forks (tries-unchanged _ _ _ _ _ forks tries c.in_err-reserve-2.ensures.unchanged) (ledgers-same _ _ (λ q. c.reserve.ensures.entries.2 (record { 0 = q })))

pub returns-in_err-reserve-2-clause-amid : goal.returns-in_err-reserve-2-clause-amid
returns-in_err-reserve-2-clause-amid g c = λ forks most header state changes tries is. on_err _ c.from_residual-in_err-reserve-2.result (amid-same _ _ _ forks state changes (tries-unchanged _ _ _ _ _ forks tries c.in_err-reserve-2.ensures.unchanged))

pub add_all-requires-clause-texts : goal.add_all-requires-clause-texts
add_all-requires-clause-texts g c = take-can _ _ _ _ _ _ _ _ c.args.carried (tries-unchanged _ _ _ _ _ _ c.requires.6 c.in_ok-reserve-2.ensures.unchanged) c.requires.7

pub returns-in_err-add_all-clause-answer : goal.returns-in_err-add_all-clause-answer
returns-in_err-add_all-clause-answer g c = λ forks most header state changes tries is.
    passed_on (λ r. AnswersTake forks state changes r) _ _ c.from_residual-in_err-add_all.ensures.1
    (take-refused _ _ _ forks most header state changes c.args.carried (tries-unchanged _ _ _ _ _ forks tries c.in_ok-reserve-2.ensures.unchanged) is c.in_err-add_all.field-0.0 c.in_err-add_all.ensures.answer)

pub returns-in_err-add_all-clause-amid : goal.returns-in_err-add_all-clause-amid
returns-in_err-add_all-clause-amid g c = λ forks most header state changes tries is.
    on_err _ c.from_residual-in_err-add_all.result (take-amid _ _ _ forks most header state changes c.args.carried (tries-unchanged _ _ _ _ _ forks tries c.in_ok-reserve-2.ensures.unchanged) is _ _ c.in_err-add_all.ensures.some)

pub returns-clause-ok : goal.returns-clause-ok
returns-clause-ok g c = λ forks most header state changes same tries is.
    tries-taken _ _ _ forks most header state changes c.args.carried (tries-unchanged _ _ _ _ _ forks tries c.in_ok-reserve-2.ensures.unchanged) is _ _ c.in_ok-add_all.ensures.stored c.in_ok-add_all.ensures.all c.in_ok-add_all.ensures.some
    (ledgers_of c.insert.new.self.entries) _
    (ledgers-new _ _ _ _ header.id _ same (λ q. c.reserve.ensures.entries.2 (record { 0 = q })) (λ q. c.in-Ok.ensures.updates.0 (record { 0 = q })))
    (ledgers-old _ _ _ _ header.id _ same (λ q. c.reserve.ensures.entries.2 (record { 0 = q })) (λ q. c.in-Ok.ensures.updates.0 (record { 0 = q })))
    refl refl
    (λ q. ap (λ entries. times_of entries q) c.in_ok-gains.ensures ∙ times-counted _ q)
    (λ q. ap (λ entries. times_of entries q) c.in_ok-losses.ensures)

pub returns-clause-answer : goal.returns-clause-answer
returns-clause-answer g c = λ forks most header state changes tries is.
    take-clear _ _ _ forks most header state changes c.args.carried (tries-unchanged _ _ _ _ _ forks tries c.in_ok-reserve-2.ensures.unchanged) is c.in_ok-add_all.ensures.all.clear
