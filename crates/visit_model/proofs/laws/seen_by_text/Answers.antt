use Rattle.visit_model.proofs.SeenBounds.{seen_at-seen_text}
use Rattle.visit_model.proofs.laws.seen_by_text.Goals as goal

pub returns : goal.returns
returns c = seen_at-seen_text
