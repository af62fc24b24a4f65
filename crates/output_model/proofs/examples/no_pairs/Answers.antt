use Rattle.std.proofs.Common.{refl}
use Rattle.std.specs.Fmt.{digits}
use Rattle.hex.specs.Hex.{encode_with}
use Rattle.trie_model.proofs.Worked.{root-empty, total-empty}
use Rattle.output_model.specs.Scripts.{lines_outcome, script_outcome}
use Rattle.output_model.specs.Root.{root_line}
use Rattle.output_model.specs.Output.{outcome_of}
use Rattle.output_model.proofs.examples.no_pairs.Goals as goal

pub returns : goal.returns
unfolding outcome_of script_outcome lines_outcome root_line encode_with digits
returns c = λ limits. rw (root-empty, total-empty) refl
