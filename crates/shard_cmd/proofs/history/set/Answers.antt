use Rattle.std.proofs.Common.{◌≡◌, Some, Err, refl, ap, ◌∙◌}
use Rattle.script_model.specs.Lines as lines
use Rattle.base_core.specs.ChangeMaps.{ChangeMap, changed}
use Rattle.shard_cmd.proofs.Histories.{changes_on, changes_off}
use Rattle.shard_cmd.proofs.Puts.{put_answer, answer-ok, answer-full}
use Rattle.shard_cmd.proofs.history.set.Goals as goal

pub returns-in-Ok-clause-does : goal.returns-in-Ok-clause-does
returns-in-Ok-clause-does c = λ limits forks before opened.
    let old : ChangeMap = c.args.block.changes in
    let answer = put_answer old.changes old.most c.args.key c.args.value old c.put.new.self (changed old c.args.key (Some c.args.value)) c.put.result c.requires.key_length c.requires.value_length
    record { refused = c.put.ensures.refused; taken = c.put.ensures.taken; ok = c.put.ensures.ok; err = c.put.ensures.err } in
    let is = answer-ok _ _ _ _ _ _ answer c.in-Ok.is in
    changes_on limits forks (λ f. f ≡ forks) before c.args.block _ c.args.key (Some c.args.value) (lines.set c.args.key c.args.value) (λ number. refl) (ap (λ (changes : ChangeMap). record c.args.block { changes = changes }) is.1) is.0 refl opened

pub returns-in-Err-Full-clause-does : goal.returns-in-Err-Full-clause-does
returns-in-Err-Full-clause-does c = λ limits forks before opened.
    let old : ChangeMap = c.args.block.changes in
    let answer = put_answer old.changes old.most c.args.key c.args.value old c.put.new.self (changed old c.args.key (Some c.args.value)) c.put.result c.requires.key_length c.requires.value_length
    record { refused = c.put.ensures.refused; taken = c.put.ensures.taken; ok = c.put.ensures.ok; err = c.put.ensures.err } in
    changes_off limits forks (λ f. f ≡ forks) before c.args.block c.args.key (Some c.args.value) (lines.set c.args.key c.args.value) (λ number. refl) (answer-full _ _ _ _ _ answer (c.in-Err-Full.is ∙ ap Err c.in-Err-Full.field-0-is)) refl opened
