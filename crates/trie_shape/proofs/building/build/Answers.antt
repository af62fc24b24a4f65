use Rattle.std.proofs.Common.{◌<◌, ◌^◌, refl, ap, sym, subst, ◌∙◌}
use Rattle.trie_model.specs.Tree.{tree_of}
use Rattle.trie_model.specs.Texts as texts
use Rattle.trie_shape.specs.RowsAt.{rows_at, AreRowsAt}
use Rattle.trie_shape.specs.Shows.{IsName}
use Rattle.trie_shape.proofs.States.{state-rows, state-fits, state-total, state-root}
use Rattle.trie_shape.proofs.building.build.Goals as goal

pub named-requires-clause-rows : goal.named-requires-clause-rows
named-requires-clause-rows c = subst (AreRowsAt 0) (sym c.deref.ensures.value) (state-rows c.args.pairs.now c.in_ok-rows.rows.items c.in_ok-rows.ensures.held c.in_ok-rows.ensures.rows)

pub named-requires-clause-fits : goal.named-requires-clause-fits
named-requires-clause-fits c = subst (λ rows. texts.usage (tree_of (rows_at 0 rows)) < 2 ^ 64) (sym c.deref.ensures.value) (state-fits c.args.pairs.now c.in_ok-rows.rows.items c.in_ok-rows.ensures.held c.in_ok-rows.ensures.rows)

pub returns-clause-root : goal.returns-clause-root
returns-clause-root c =
    let name = subst (λ rows. IsName (c.in_ok-name.name, c.in_ok-name.usage) (tree_of (rows_at 0 rows))) c.deref.ensures.value c.in_ok-name.ensures in
    let a = c.unwrap_or.ensures in
    ap (λ digest. digest.0) a ∙ state-root c.args.pairs.now c.in_ok-rows.rows.items c.in_ok-rows.ensures.held c.in_ok-rows.ensures.rows (c.in_ok-name.name, c.in_ok-name.usage) _ refl name

pub returns-clause-usage : goal.returns-clause-usage
returns-clause-usage c =
    let name = subst (λ rows. IsName (c.in_ok-name.name, c.in_ok-name.usage) (tree_of (rows_at 0 rows))) c.deref.ensures.value c.in_ok-name.ensures in
    state-total c.args.pairs.now c.in_ok-rows.rows.items c.in_ok-rows.ensures.held c.in_ok-rows.ensures.rows (c.in_ok-name.name, c.in_ok-name.usage) name
