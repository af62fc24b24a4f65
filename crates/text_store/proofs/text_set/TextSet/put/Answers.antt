use Rattle.std.proofs.Common.{rules, ◌<◌, ◌^◌, ◌+◌, length, sym, ◌∙◌}
use Rattle.base_core.proofs.KeptMaps.{are_bytes}
use Rattle.text_store.proofs.TextSets.{kept-put, set-put, set-held}
use Rattle.text_store.proofs.text_set.TextSet.put.Goals as goal
use Rattle.text_store.proofs.text_set.TextSet.put.Goals.{in-Ok, in-Err}

pub returns-then-contains-clause-ok : goal.returns-then-contains-clause-ok
returns-then-contains-clause-ok c = set-held _ _ c.args.text.now c.self.view_is (sym c.contains.ensures ∙ c.if-contains.true)

pub invariant_of-self-2 : goal.invariant_of-self-2
invariant_of-self-2 c =
    let short : length c.args.text.now < 2 ^ 32 = search rules in
    let room : length c.self.inside.texts.keys + 1 < 2 ^ 32 = search rules in
    kept-put _ _ _ c.args.text.now c.insert.result c.self.invariant c.insert.ensures.keys c.insert.ensures.err c.insert.ensures.ordered c.in_ok-from_slice.ensures.items (are_bytes _ c.type_inv.text) short room

pub returns-clause-ok : goal.returns-clause-ok
returns-clause-ok c = elim c.match-insert.branch [
  | in-Ok w ↦ rw w.result-is (set-put _ _ _ c.args.text.now c.args.self.now c.self.view_is w.in-Ok.ensures.keys c.in_ok-from_slice.ensures.items)
  | in-Err w ↦ rw w.result-is tt
]
