use Rattle.std.proofs.Common.{rules, ◌≡◌, arith}
use Rattle.record_model.specs.Records.{bit}
use Rattle.node_codec.proofs.Bitmaps.{bits_below-more}
use Rattle.node_codec.proofs.kids_view.KidsView.get.Goals as goal

-- a bit that is set stands for a whole digest
pub digest_at-requires : goal.digest_at-requires
digest_at-requires c =
    let set : bit c.self.inside.bitmap c.args.i ≡ 1 = search rules in
    let more = bits_below-more c.self.inside.bitmap c.args.i 16 c.requires in
    let before = c.bits_below-before.ensures in
    let whole = c.self.invariant in
    omega arith
