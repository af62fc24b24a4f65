use Rattle.std.proofs.Common.{rules}
use Rattle.std.proofs.lemmas.List.Sorted.{IsPartitionPoint-from_clause}
use Rattle.trie_shape.specs.Runs.{goes_on}
use Rattle.trie_shape.specs.RowsAt.{row_at}
use Rattle.trie_shape.proofs.Runs.{rising}
use Rattle.trie_shape.proofs.RowsAt.{parted, point-run}
use Rattle.trie_shape.proofs.rows.run_length.Goals as goal

pub returns : goal.returns
returns c =
    point-run c.args.nibble c.args.depth c.args.rows.now c.partition_point.result c.partition_point.ensures.bound
    (IsPartitionPoint-from_clause (λ row. goes_on c.args.nibble (row_at c.args.depth row).0) _ _ c.partition_point.ensures.partitioned (parted c.args.nibble c.args.depth c.args.rows.now (rising _ c.requires.rises) c.requires.from) (λ a r q k. search rules))
