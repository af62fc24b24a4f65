use Rattle.record_model.proofs.Nodes.{record-not_prefix}
use Rattle.node_codec.proofs.laws.no_record_begins_another.Goals as goal

pub returns : goal.returns
returns c = record-not_prefix
