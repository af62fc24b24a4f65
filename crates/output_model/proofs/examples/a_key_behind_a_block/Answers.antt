use Rattle.std.proofs.Common.{refl}
use Rattle.std.specs.Fmt.{digits}
use Rattle.hex.specs.Hex.{encode_with}
use Rattle.hex.proofs.OnLiterals.{hex_on_literals}
use Rattle.output_model.proofs.Unchanged.{after-none, end-first, get-none}
use Rattle.fork_model.proofs.Worked.{all_of_forks}
use Rattle.script_model.specs.Lines.{event_of, line_fault, read_at}
use Rattle.script_model.specs.Spellings.{hex_bytes, hex_text, key_of, value_of, id_of, number_of}
use Rattle.output_model.specs.Scripts.{lines_outcome, script_outcome}
use Rattle.output_model.specs.Output.{outcome_of}
use Rattle.output_model.specs.Get.{get_request}
use Rattle.output_model.specs.Histories.{history_step, history_last, event_loads, request_loads}
use Rattle.output_model.proofs.examples.a_key_behind_a_block.Goals as goal

pub returns-clause-live : goal.returns-clause-live
unfolding outcome_of script_outcome lines_outcome read_at line_fault event_of key_of value_of id_of number_of hex_bytes hex_text history_step history_last event_loads request_loads all_of_forks hex_on_literals encode_with digits get_request
returns-clause-live c = rw (end-first, after-none, get-none) refl

pub returns-clause-not_live : goal.returns-clause-not_live
unfolding outcome_of script_outcome lines_outcome read_at line_fault event_of key_of value_of id_of number_of hex_bytes hex_text history_step history_last event_loads request_loads all_of_forks hex_on_literals encode_with digits get_request
returns-clause-not_live c = rw (end-first) refl

pub returns-clause-inside : goal.returns-clause-inside
unfolding outcome_of script_outcome lines_outcome read_at line_fault event_of key_of value_of id_of number_of hex_bytes hex_text history_step history_last event_loads request_loads all_of_forks hex_on_literals encode_with digits get_request
returns-clause-inside c = refl
