use Rattle.node_codec.proofs.Records.{found, only}
use Rattle.node_codec.proofs.reading.read_node.Goals as goal

pub returns-clause-found : goal.returns-clause-found
returns-clause-found c = found c.args.bytes.now c.read_record.result c.read_record.ensures.bytes c.read_record.ensures.read

pub returns-clause-only : goal.returns-clause-only
returns-clause-only c = only c.args.bytes.now c.read_record.result c.read_record.ensures.read
