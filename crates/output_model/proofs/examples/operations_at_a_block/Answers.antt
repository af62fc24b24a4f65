use Rattle.std.proofs.Common.{[], ◌∷◌, None, refl}
use Rattle.std.specs.Fmt.{digits}
use Rattle.hex.specs.Hex.{encode_with}
use Rattle.hex.proofs.OnLiterals.{hex_on_literals}
use Rattle.output_model.proofs.Unchanged.{end-first}
use Rattle.output_model.proofs.Operations.{len-once, len-unchanged}
use Rattle.fork_model.proofs.Worked.{all_of_forks}
use Rattle.script_model.specs.Lines.{event_of, line_fault, read_at}
use Rattle.script_model.specs.Words.{op_of, ops_of}
use Rattle.script_model.specs.Spellings.{hex_bytes, hex_text, key_of, value_of, id_of, number_of}
use Rattle.output_model.specs.Scripts.{lines_outcome, script_outcome}
use Rattle.output_model.specs.Output.{outcome_of}
use Rattle.output_model.specs.Prove.{laid_over, prove_request, reads_in}
use Rattle.output_model.specs.Histories.{history_step, history_last, event_loads, request_loads}
use Rattle.output_model.proofs.examples.operations_at_a_block.Goals as goal

pub returns-clause-none : goal.returns-clause-none
unfolding outcome_of
returns-clause-none c = λ limits input. refl

pub returns-clause-no_operation : goal.returns-clause-no_operation
unfolding outcome_of op_of ops_of id_of hex_on_literals
returns-clause-no_operation c = λ limits input. refl

pub returns-clause-not_live : goal.returns-clause-not_live
unfolding outcome_of op_of ops_of laid_over reads_in script_outcome lines_outcome read_at line_fault event_of key_of value_of id_of number_of hex_bytes hex_text history_step history_last event_loads request_loads all_of_forks hex_on_literals encode_with digits prove_request
returns-clause-not_live c = rw (len-unchanged, end-first) refl

pub returns-clause-full : goal.returns-clause-full
unfolding outcome_of op_of ops_of laid_over key_of id_of hex_bytes hex_on_literals
returns-clause-full c = λ input. rw (len-once (0x61 ∷ []) None) refl
