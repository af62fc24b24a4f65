use Rattle.std.proofs.Common.{refl}
use Rattle.script_model.specs.Lines.{event_of, line_fault, read_at}
use Rattle.script_model.specs.Spellings.{hex_bytes, key_of, value_of}
use Rattle.output_model.specs.Scripts.{lines_outcome, script_outcome}
use Rattle.output_model.specs.Output.{outcome_of}
use Rattle.output_model.proofs.examples.bad_line.Goals as goal

pub returns : goal.returns
unfolding outcome_of script_outcome lines_outcome read_at line_fault event_of key_of value_of hex_bytes
returns c = λ limits. refl
