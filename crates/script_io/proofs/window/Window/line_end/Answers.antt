use Rattle.std.proofs.Common.{drop, sym, ap, ◌∙◌}
use Rattle.script_io.proofs.FirstLine.{scanned-le, no_feed_behind, feed_behind}
use Rattle.script_io.proofs.window.Window.line_end.Goals as goal

pub split_at-requires : goal.split_at-requires
split_at-requires c = rw c.pending.ensures (scanned-le c.args.scanned _ c.requires)

pub returns-in-Some : goal.returns-in-Some
returns-in-Some c = feed_behind c.args.scanned c.in-Some.more _ _ (c.split_at.ensures.back ∙ ap (drop c.args.scanned) c.pending.ensures) c.requires (sym c.in-Some.ensures.first)

pub returns-in-None : goal.returns-in-None
returns-in-None c = no_feed_behind c.args.scanned _ _ (c.split_at.ensures.back ∙ ap (drop c.args.scanned) c.pending.ensures) c.requires (sym c.in-None.ensures.first)
