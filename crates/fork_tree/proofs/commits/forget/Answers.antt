use Rattle.std.proofs.Common.{None, cond, sym, ◌∙◌, ap, arith}
use Rattle.std.specs.Str.{bytes_eq}
use Rattle.fork_tree.specs.Kept.{placed}
use Rattle.fork_tree.proofs.Kept.{turned}
use Rattle.fork_tree.proofs.Tables.{among_more, taken_more}
use Rattle.fork_tree.proofs.commits.forget.Goals as goal

pub loop-id-preserved : goal.loop-id-preserved
loop-id-preserved c = (
  λ q.
      c.remove.ensures.updates.0 (record { 0 = q })
      ∙ ap (cond (bytes_eq _ q) None) (c.loop-id.invariant.0 q)
      ∙ taken_more (bytes_eq _ q) _ (bytes_eq q _) (placed c.args.places.now.entries q) (turned _ q)
      ∙ ap (λ t. cond t None (placed c.args.places.now.entries q)) (sym (among_more c.args.ids.now c.loop-id.id-index _ c.loop-id-test.true q)),
  omega (arith, c.loop-id.invariant.1, c.remove.ensures.spare),
)
