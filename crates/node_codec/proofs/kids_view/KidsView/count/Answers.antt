use Rattle.std.proofs.Common.{◌∙◌, ap}
use Rattle.byte_model.specs.Node.{child_count}
use Rattle.node_codec.specs.Children.{Children, children_viewed}
use Rattle.node_codec.proofs.Bitmaps.{child_count-bits}
use Rattle.node_codec.proofs.kids_view.KidsView.count.Goals as goal

pub returns-clause-value : goal.returns-clause-value
returns-clause-value c = c.bit_count.ensures.value ∙ child_count-bits c.self.inside.bitmap c.self.inside.digests.now ∙ ap (λ (kids : Children). child_count (children_viewed kids)) c.self.view_is
