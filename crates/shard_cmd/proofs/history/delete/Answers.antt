use Rattle.std.proofs.Common.{◌≡◌, None, [], Err, arith, refl, ap, ◌∙◌}
use Rattle.script_model.specs.Lines as lines
use Rattle.base_core.specs.ChangeMaps.{ChangeMap, changed}
use Rattle.shard_cmd.proofs.Histories.{changes_on, changes_off}
use Rattle.shard_cmd.proofs.Puts.{put_answer, answer-ok, answer-full}
use Rattle.shard_cmd.proofs.history.delete.Goals as goal

pub returns-in-Ok-clause-does : goal.returns-in-Ok-clause-does
returns-in-Ok-clause-does c = λ limits forks before opened.
    let old : ChangeMap = c.args.block.changes in
    let answer = put_answer old.changes old.most c.args.key [] old c.remove.new.self (changed old c.args.key None) c.remove.result c.requires.short (omega arith)
    record { refused = c.remove.ensures.refused; taken = c.remove.ensures.taken; ok = c.remove.ensures.ok; err = c.remove.ensures.err } in
    let is = answer-ok _ _ _ _ _ _ answer c.in-Ok.is in
    changes_on limits forks (λ f. f ≡ forks) before c.args.block _ c.args.key None (lines.delete c.args.key) (λ number. refl) (ap (λ (changes : ChangeMap). record c.args.block { changes = changes }) is.1) is.0 refl opened

pub returns-in-Err-Full-clause-does : goal.returns-in-Err-Full-clause-does
returns-in-Err-Full-clause-does c = λ limits forks before opened.
    let old : ChangeMap = c.args.block.changes in
    let answer = put_answer old.changes old.most c.args.key [] old c.remove.new.self (changed old c.args.key None) c.remove.result c.requires.short (omega arith)
    record { refused = c.remove.ensures.refused; taken = c.remove.ensures.taken; ok = c.remove.ensures.ok; err = c.remove.ensures.err } in
    changes_off limits forks (λ f. f ≡ forks) before c.args.block c.args.key None (lines.delete c.args.key) (λ number. refl) (answer-full _ _ _ _ _ answer (c.in-Err-Full.is ∙ ap Err c.in-Err-Full.field-0-is)) refl opened
