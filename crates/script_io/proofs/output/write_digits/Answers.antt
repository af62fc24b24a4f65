use Rattle.std.proofs.Common.{ℕ, List, ◌++◌, ◌∙◌, ap, ◌+◌, ◌≤◌, ◌/◌, arith, length}
use Rattle.std.specs.Fmt.{decimal}
use Rattle.std.proofs.lemmas.Fmt.{length-decimal-le}
use Rattle.std.proofs.lemmas.List.{append-nil, drop_all}
use Rattle.script_io.proofs.Digits.{room_step, digits_step, room_last, digits_last}
use Rattle.script_io.proofs.output.write_digits.Goals as goal

pub loop-rest-init : goal.loop-rest-init
loop-rest-init c = record { whole = ap (λ (rest : List ℕ). decimal c.args.n ++ rest) (drop_all 20 c.args.digits.now (omega arith)) ∙ append-nil (decimal c.args.n); room = length-decimal-le 20 c.args.n (omega arith) (omega arith) (omega arith); within = omega arith; smaller = omega arith }

pub overflow_sub-start : goal.overflow_sub-start
overflow_sub-start c = let h : length (decimal (c.loop-rest.rest / 10)) + 1 ≤ c.loop-rest.start = room_step c.loop-rest.rest _ c.loop-rest-test.true (omega arith) c.loop-rest.invariant.room in omega arith

pub loop-rest-preserved : goal.loop-rest-preserved
loop-rest-preserved c =
    let h : length (decimal (c.loop-rest.rest / 10)) + 1 ≤ c.loop-rest.start = room_step c.loop-rest.rest _ c.loop-rest-test.true (omega arith) c.loop-rest.invariant.room in
    record {
      whole = digits_step c.loop-rest.rest c.loop-rest.start c.loop-rest.digits _ c.loop-rest-test.true (omega arith) (omega arith) (omega arith) c.loop-rest.invariant.whole;
      room = omega arith;
      within = omega arith;
      smaller = omega arith;
    }

pub overflow_sub-start-2 : goal.overflow_sub-start-2
overflow_sub-start-2 c = room_last c.loop-rest.rest _ (omega arith) c.loop-rest.invariant.room

pub returns-clause-digits : goal.returns-clause-digits
returns-clause-digits c = digits_last c.loop-rest.rest c.loop-rest.start c.loop-rest.digits _ (omega arith) (room_last c.loop-rest.rest _ (omega arith) c.loop-rest.invariant.room) (omega arith) c.loop-rest.invariant.whole
