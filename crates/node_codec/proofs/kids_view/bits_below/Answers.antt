use Rattle.node_codec.proofs.Bitmaps.{ones-masked}
use Rattle.node_codec.proofs.kids_view.bits_below.Goals as goal

pub returns : goal.returns
returns c = ones-masked c.args.bitmap c.args.i c.requires
