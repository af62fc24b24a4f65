use Rattle.record_model.proofs.Digests.{digests_at-is}
use Rattle.record_model.proofs.laws.digests_are_read_at_once.Goals as goal

pub returns : goal.returns
returns c = digests_at-is
