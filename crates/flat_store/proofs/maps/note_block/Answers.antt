use Rattle.std.proofs.Common.{sym, ap, ◌∙◌}
use Rattle.trie_model.specs.State.{State}
use Rattle.batch_model.specs.Changes.{Changes, after}
use Rattle.flat_store.specs.Kept.{changes_of}
use Rattle.flat_store.proofs.Passing.{after-empty, delta-found, delta-missing}
use Rattle.flat_store.proofs.Noting.{on_ok}
use Rattle.flat_store.proofs.maps.note_block.Goals as goal

pub returns-in-Some-clause-ok : goal.returns-in-Some-clause-ok
returns-in-Some-clause-ok c =
    on_ok c.note.result (λ noted state. noted state ∙ ap (λ (d : Changes). after (after state d) (changes_of c.args.newest.now.entries)) (sym (delta-found _ c.args.id.now.0 _ (sym c.in-Some.ensures.value)))) c.note.ensures.ok

pub returns-in-None-clause-ok : goal.returns-in-None-clause-ok
returns-in-None-clause-ok c = λ state. sym (ap (λ (s : State). after s (changes_of c.args.newest.now.entries)) (ap (after state) (delta-missing _ c.args.id.now.0 (sym c.in-None.ensures.value)) ∙ after-empty state))
