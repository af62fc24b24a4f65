use Rattle.std.proofs.Common.{refl}
use Rattle.std.specs.Fmt.{digits}
use Rattle.hex.specs.Hex.{encode_with}
use Rattle.hex.proofs.OnLiterals.{hex_on_literals}
use Rattle.trie_model.proofs.Worked.{root-empty}
use Rattle.output_model.proofs.Unchanged.{after-none, end-first}
use Rattle.fork_model.proofs.Worked.{all_of_forks}
use Rattle.script_model.specs.Lines.{event_of, line_fault, read_at}
use Rattle.script_model.specs.Spellings.{hex_bytes, hex_text, key_of, value_of, id_of, number_of}
use Rattle.output_model.specs.Scripts.{lines_outcome, script_outcome}
use Rattle.output_model.specs.Output.{outcome_of}
use Rattle.output_model.specs.Histories.{history_step, history_last, event_loads, request_loads}
use Rattle.output_model.proofs.examples.misplaced_lines.Goals as goal

pub returns-clause-outside : goal.returns-clause-outside
unfolding outcome_of script_outcome lines_outcome read_at line_fault event_of key_of value_of id_of number_of hex_bytes hex_text history_step history_last event_loads request_loads all_of_forks hex_on_literals encode_with digits
returns-clause-outside c = refl

pub returns-clause-inside : goal.returns-clause-inside
unfolding outcome_of script_outcome lines_outcome read_at line_fault event_of key_of value_of id_of number_of hex_bytes hex_text history_step history_last event_loads request_loads all_of_forks hex_on_literals encode_with digits
returns-clause-inside c = refl

pub returns-clause-behind : goal.returns-clause-behind
unfolding outcome_of script_outcome lines_outcome read_at line_fault event_of key_of value_of id_of number_of hex_bytes hex_text history_step history_last event_loads request_loads all_of_forks hex_on_literals encode_with digits
returns-clause-behind c = rw (end-first, after-none, root-empty) refl

pub returns-clause-open : goal.returns-clause-open
unfolding outcome_of script_outcome lines_outcome read_at line_fault event_of key_of value_of id_of number_of hex_bytes hex_text history_step history_last event_loads request_loads all_of_forks hex_on_literals encode_with digits
returns-clause-open c = refl
