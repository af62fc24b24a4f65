use Rattle.std.proofs.Common.{rules, ◌^◌, ◌<◌}
use Rattle.node_codec.proofs.Bitmaps.{ones-all}
use Rattle.node_codec.proofs.kids_view.bit_count.Goals as goal

pub returns-clause-value : goal.returns-clause-value
returns-clause-value c =
    let small : c.args.bitmap < 2 ^ 16 = search rules in
    ones-all c.args.bitmap small
