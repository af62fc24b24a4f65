use Rattle.std.proofs.Common.{rules, sym, ◌∙◌}
use Rattle.std.proofs.lemmas.List.Sorted.{IsPartitionPoint-from_clause}
use Rattle.update_model.proofs.Behind.{rising}
use Rattle.trie_shape.specs.Runs.{goes_on}
use Rattle.trie_update.specs.ChangesAt.{change_at}
use Rattle.trie_update.proofs.ChangesAt.{first-apart, no-first, parted, point-run}
use Rattle.trie_update.proofs.parting.run_length.Goals as goal

pub returns : goal.returns
returns c =
    point-run c.args.nibble c.args.depth c.args.changes.now c.partition_point.result c.partition_point.ensures.bound
    (IsPartitionPoint-from_clause (λ change. goes_on c.args.nibble (change_at c.args.depth change).0) _ _ c.partition_point.ensures.partitioned (parted c.args.nibble c.args.depth c.args.changes.now (rising _ c.requires.rises) c.requires.from) (λ a r q k. search rules))

pub returns-in_default : goal.returns-in_default
returns-in_default c = no-first c.args.nibble c.args.depth c.args.changes.now c.in_default.ensures.value

pub returns-then-not-goes_on : goal.returns-then-not-goes_on
returns-then-not-goes_on c = first-apart c.args.nibble c.args.depth c.args.changes.now c.in-Some.field-0.now c.in-Some.ensures.value (sym c.goes_on.ensures ∙ c.if-not-goes_on.true)
