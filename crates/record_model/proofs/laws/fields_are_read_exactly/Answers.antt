use Rattle.record_model.proofs.Fields.{one_byte, two_bytes, four_bytes, eight_bytes}
use Rattle.record_model.proofs.Exact.{bytes-exact, number-exact, vector-exact}
use Rattle.record_model.proofs.laws.fields_are_read_exactly.Goals as goal

pub returns-clause-one_byte : goal.returns-clause-one_byte
returns-clause-one_byte c = number-exact one_byte

pub returns-clause-two_bytes : goal.returns-clause-two_bytes
returns-clause-two_bytes c = number-exact two_bytes

pub returns-clause-four_bytes : goal.returns-clause-four_bytes
returns-clause-four_bytes c = number-exact four_bytes

pub returns-clause-eight_bytes : goal.returns-clause-eight_bytes
returns-clause-eight_bytes c = number-exact eight_bytes

pub returns-clause-array : goal.returns-clause-array
returns-clause-array c = bytes-exact

pub returns-clause-vector : goal.returns-clause-vector
returns-clause-vector c = vector-exact
