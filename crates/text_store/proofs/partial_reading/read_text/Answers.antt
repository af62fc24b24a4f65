use Rattle.std.proofs.Common.{rules}
use Rattle.record_model.specs.Fields.{vector_at}
use Rattle.text_store.proofs.partial_reading.read_text.Goals as goal

pub returns-in_err-length-clause-read : goal.returns-in_err-length-clause-read
unfolding vector_at
returns-in_err-length-clause-read c = search rules

pub returns-clause-read : goal.returns-clause-read
unfolding vector_at
returns-clause-read c = search rules
