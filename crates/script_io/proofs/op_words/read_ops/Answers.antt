use Rattle.std.proofs.Common.{rules, arith, ◌≡◌, ◌<◌, ◌≤◌, List, true, false, Some, length, map, sym, ap, ◌∙◌}
use Rattle.script_model.specs.Words.{most_operations}
use Rattle.script_io.specs.declared.op_list.Op.{Op}
use Rattle.script_io.specs.Meanings.{op}
use Rattle.script_io.proofs.Operations.{more_read, more_lacking, more_bad, all_bad, all_read, all_lacking}
use Rattle.script_io.proofs.op_words.read_ops.Goals as goal
use Rattle.script_io.proofs.op_words.read_ops.Goals.{in-Ok, in-Err-NoMemory}

pub returns-in-Err-Bad : goal.returns-in-Err-Bad
returns-in-Err-Bad c =
    let few : length c.args.words.now ≤ most_operations = omega (arith, c.if-words-gt-MOST_OPERATIONS.false) in
    let within : c.loop-word.word-index < length c.args.words.now = search rules in
    all_bad c.args.words.now few (more_bad c.args.words.now c.loop-word.word-index _ c.as_slice.result.now c.loop-word.lacking (map op c.loop-word.ops.items) within (c.as_slice.ensures ∙ c.word-item.is) c.loop-word.invariant (rw c.in-Err-Bad.field-0-is at c.in-Err-Bad.ensures))

pub loop-word-preserved : goal.loop-word-preserved
loop-word-preserved c =
    let within : c.loop-word.word-index < length c.args.words.now = search rules in
    elim c.match-put_op.branch [
      | in-Ok w ↦ rw w.lacking-is (more_read c.args.words.now c.loop-word.word-index _ c.as_slice.result.now c.loop-word.lacking (map op c.loop-word.ops.items) within (c.as_slice.ensures ∙ c.word-item.is) c.loop-word.invariant (map op c.put_op.new.ops.items) w.in-Ok.ensures)
      | in-Err-NoMemory w ↦ rw w.lacking-is (more_lacking c.args.words.now c.loop-word.word-index _ c.as_slice.result.now c.loop-word.lacking (map op c.loop-word.ops.items) within (c.as_slice.ensures ∙ c.word-item.is) c.loop-word.invariant (map op c.put_op.new.ops.items) (rw w.in-Err-NoMemory.field-0-is at w.in-Err-NoMemory.ensures))
    ]

pub returns-then-lacking : goal.returns-then-lacking
returns-then-lacking c =
    let few : length c.args.words.now ≤ most_operations = omega (arith, c.if-words-gt-MOST_OPERATIONS.false) in
    let past : length c.args.words.now ≤ c.loop-word.word-index = search rules in
    let is : c.loop-word.lacking ≡ true = search rules in
    all_lacking c.args.words.now few c.loop-word.word-index (map op c.loop-word.ops.items) past (rw is at c.loop-word.invariant)

pub returns-else-lacking : goal.returns-else-lacking
returns-else-lacking c =
    let few : length c.args.words.now ≤ most_operations = omega (arith, c.if-words-gt-MOST_OPERATIONS.false) in
    let past : length c.args.words.now ≤ c.loop-word.word-index = search rules in
    let is : c.loop-word.lacking ≡ false = search rules in
    all_read c.args.words.now few c.loop-word.word-index (map op c.loop-word.ops.items) past (rw is at c.loop-word.invariant) ∙ ap (λ (ops : List Op). Some (map op ops)) (sym c.new.ensures)
