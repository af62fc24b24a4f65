use Rattle.script_io.proofs.Events.{event-more}
use Rattle.script_io.proofs.event.read_words.Goals as goal

pub returns-in-Some-cut_word-3 : goal.returns-in-Some-cut_word-3
returns-in-Some-cut_word-3 c =
    event-more c.args.line.now c.in-Some.word.now c.in-Some.rest.now c.in-Some-cut_word.a.now c.in-Some-cut_word.rest.now c.in-Some-cut_word-2.b.now c.in-Some-cut_word-2.rest.now c.in-Some-cut_word-3.field-0.0.now c.in-Some-cut_word-3.field-0.1.now
    c.in-Some.ensures c.in-Some-cut_word.ensures c.in-Some-cut_word-2.ensures c.in-Some-cut_word-3.ensures
