use Rattle.record_model.proofs.Nodes.{spelled-not_prefix, record-not_prefix}
use Rattle.record_model.proofs.laws.no_record_begins_another.Goals as goal

pub returns-clause-records : goal.returns-clause-records
returns-clause-records c = record-not_prefix

pub returns-clause-spellings : goal.returns-clause-spellings
returns-clause-spellings c = spelled-not_prefix
