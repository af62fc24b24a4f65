use Rattle.std.proofs.Common.{◌∙◌, ℕ, List, Err, ap}
use Rattle.std.proofs.lemmas.Result.{err_from_is_err_and}
use Rattle.script_model.specs.Spellings.{key_of}
use Rattle.script_io.proofs.Events.{IsKept, pair_read, pair_unkept, pair_bad_key, pair_refused}
use Rattle.script_io.proofs.event_words.read_pair.Goals as goal
use Rattle.script_io.proofs.event_words.read_pair.Goals.{in-Ok, in-Err-NoMemory}

pub returns-in-Err-Bad : goal.returns-in-Err-Bad
returns-in-Err-Bad c = pair_bad_key _ _ (rw c.in-Err-Bad.field-0-is at c.in-Err-Bad.ensures)

pub returns-in_err-value : goal.returns-in_err-value
returns-in_err-value c =
    let kept : IsKept (key_of c.args.key.now) c.match-read_key.key = elim c.match-read_key.branch [
      | in-Ok w ↦ rw w.key-is w.in-Ok.ensures
      | in-Err-NoMemory w ↦ rw w.key-is (rw w.in-Err-NoMemory.field-0-is at w.in-Err-NoMemory.ensures)
    ] in
    let p = err_from_is_err_and c.from_residual.result c.from_residual.ensures.1 in
    pair_refused (λ (both : List ℕ × List ℕ). both) _ _ c.match-read_key.key c.in_err-value.field-0.0 _ kept c.in_err-value.ensures (p.1 ∙ ap Err p.2)

pub returns-in-Some : goal.returns-in-Some
returns-in-Some c =
    let kept : IsKept (key_of c.args.key.now) c.match-read_key.key = elim c.match-read_key.branch [
      | in-Ok w ↦ rw w.key-is w.in-Ok.ensures
      | in-Err-NoMemory w ↦ rw w.key-is (rw w.in-Err-NoMemory.field-0-is at w.in-Err-NoMemory.ensures)
    ] in
    pair_read _ _ c.in-Some.key c.in_ok-value.value (rw c.in-Some.is at kept) c.in_ok-value.ensures

pub returns-in-None : goal.returns-in-None
returns-in-None c =
    let kept : IsKept (key_of c.args.key.now) c.match-read_key.key = elim c.match-read_key.branch [
      | in-Ok w ↦ rw w.key-is w.in-Ok.ensures
      | in-Err-NoMemory w ↦ rw w.key-is (rw w.in-Err-NoMemory.field-0-is at w.in-Err-NoMemory.ensures)
    ] in
    pair_unkept _ _ c.in_ok-value.value (rw c.in-None.is at kept) c.in_ok-value.ensures
