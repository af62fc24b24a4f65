use Rattle.std.proofs.Common.{sym, ◌∙◌, subst}
use Rattle.std.specs.List.{AllByRecursion}
use Rattle.std.specs.FinMap.{entries}
use Rattle.trie_model.specs.State.{State, IsPair}
use Rattle.flat_store.proofs.Tables.{change-put, change-taken, map-taken, pairs-change}
use Rattle.flat_store.proofs.moves.lay.Goals as goal

abbrev within : State → Type 0
within state = AllByRecursion IsPair (entries state)

pub returns-in-Some-clause-head : goal.returns-in-Some-clause-head
returns-in-Some-clause-head c = c.put.ensures.head ∙ sym (change-put _ c.args.key c.in-Some.value c.args.value c.in-Some.is)

pub returns-in-Some-clause-pairs : goal.returns-in-Some-clause-pairs
returns-in-Some-clause-pairs c =
    subst within (sym (c.put.ensures.head ∙ sym (change-put _ c.args.key c.in-Some.value c.args.value c.in-Some.is))) (pairs-change _ (c.args.key, c.args.value) c.requires.change c.requires.pairs)

pub returns-in-None-clause-head : goal.returns-in-None-clause-head
returns-in-None-clause-head c = map-taken _ _ _ c.args.key c.as_slice.ensures c.remove.ensures.updates.1 c.remove.ensures.updates.3 ∙ sym (change-taken _ c.args.key c.args.value c.in-None.is)

pub returns-in-None-clause-pairs : goal.returns-in-None-clause-pairs
returns-in-None-clause-pairs c =
    subst within (sym (map-taken _ _ _ c.args.key c.as_slice.ensures c.remove.ensures.updates.1 c.remove.ensures.updates.3 ∙ sym (change-taken _ c.args.key c.args.value c.in-None.is))) (pairs-change _ (c.args.key, c.args.value) c.requires.change c.requires.pairs)
