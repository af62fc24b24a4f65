use Rattle.std.proofs.Common.{refl, []}
use Rattle.std.specs.Cmp.Lexicographic.{nat_list_cmp_total}
use Rattle.std.specs.FinMap.{get-from_entries}
use Rattle.partial_model.proofs.Worked.{everything}
use Rattle.visit_model.specs.Seen.{seen, seen_at, seen_within, seen_text}
use Rattle.visit_model.specs.Steps.{lookup_steps}
use Rattle.visit_model.specs.Visits.{visits_of}
use Rattle.recording_model.specs.Replays.{and_batch, and_reads, reads_visits}
use Rattle.output_model.specs.Output.{outcome_of}
use Rattle.output_model.specs.Replay.{IsReplayOutput}
use Rattle.output_model.specs.Examples.{some_root}
use Rattle.output_model.proofs.examples.recordings_without_texts.Goals as goal

pub returns-clause-empty : goal.returns-clause-empty
unfolding everything outcome_of IsReplayOutput
returns-clause-empty c = λ limits. refl

pub returns-clause-cut : goal.returns-clause-cut
unfolding everything outcome_of IsReplayOutput
returns-clause-cut c = λ limits. refl

pub returns-clause-missing : goal.returns-clause-missing
unfolding everything outcome_of IsReplayOutput and_batch and_reads reads_visits seen seen_at seen_within seen_text lookup_steps visits_of
returns-clause-missing c = λ limits. rw (get-from_entries nat_list_cmp_total [] some_root) refl
