use Rattle.script_io.proofs.Events.{event-empty, event-comment, event-words, read_ok, read_bad, read_no_memory}
use Rattle.script_io.proofs.event.read_event.Goals as goal

pub returns-in-None-clause-ok : goal.returns-in-None-clause-ok
returns-in-None-clause-ok c = event-empty c.args.line.now c.in-None.ensures.value

pub returns-then-first-eq35-clause-ok : goal.returns-then-first-eq35-clause-ok
returns-then-first-eq35-clause-ok c = read_ok _ _ (event-comment c.args.line.now c.in-Some.first.now c.read_comment.result c.in-Some.ensures.value c.if-first-eq35.true c.read_comment.ensures)

pub returns-then-first-eq35-clause-bad : goal.returns-then-first-eq35-clause-bad
returns-then-first-eq35-clause-bad c = read_bad _ _ (event-comment c.args.line.now c.in-Some.first.now c.read_comment.result c.in-Some.ensures.value c.if-first-eq35.true c.read_comment.ensures)

pub returns-then-first-eq35-clause-no_memory : goal.returns-then-first-eq35-clause-no_memory
returns-then-first-eq35-clause-no_memory c = read_no_memory _ _ (event-comment c.args.line.now c.in-Some.first.now c.read_comment.result c.in-Some.ensures.value c.if-first-eq35.true c.read_comment.ensures)

pub returns-else-first-eq35-clause-ok : goal.returns-else-first-eq35-clause-ok
returns-else-first-eq35-clause-ok c = rw (event-words c.args.line.now c.in-Some.first.now c.in-Some.ensures.value c.if-first-eq35.false) (read_ok _ _ c.read_words.ensures)

pub returns-else-first-eq35-clause-bad : goal.returns-else-first-eq35-clause-bad
returns-else-first-eq35-clause-bad c = rw (event-words c.args.line.now c.in-Some.first.now c.in-Some.ensures.value c.if-first-eq35.false) (read_bad _ _ c.read_words.ensures)

pub returns-else-first-eq35-clause-no_memory : goal.returns-else-first-eq35-clause-no_memory
returns-else-first-eq35-clause-no_memory c = rw (event-words c.args.line.now c.in-Some.first.now c.in-Some.ensures.value c.if-first-eq35.false) (read_no_memory _ _ c.read_words.ensures)
