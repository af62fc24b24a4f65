use Rattle.std.proofs.Common.{◌≡◌, ◌++◌, List, ℕ, length, ap, subst, ◌∙◌}
use Rattle.std.specs.FinMap.{entries}
use Rattle.byte_model.specs.Borsh.{borsh_u32}
use Rattle.partial_model.specs.Partial.{spelled_texts}
use Rattle.partial_model.specs.Recording.{spelled_changes, spelled_recording, recording_in}
use Rattle.partial_model.proofs.Recording.{recording_in-only}
use Rattle.base_core.specs.ChangeMaps.{ChangeMap, IsChangeMap}
use Rattle.partial_state.specs.Recordings.{recording_of}
use Rattle.partial_state.proofs.Recordings.{recorded}
use Rattle.partial_state.proofs.Written.{recording-written}
use Rattle.partial_state.proofs.proof.Proof.write.Goals as goal

pub returns-clause-bytes : goal.returns-clause-bytes
returns-clause-bytes c =
    c.into_text.ensures ∙ recording-written (recording_of c.args.self.now) c.write_root.new.writer c.write_reads.new.writer c.write_changes.new.writer c.write_state.new.writer
    (c.in_ok-write_root.ensures.ok ∙ ap (λ (w : List ℕ). w ++ c.args.self.now.root.0) c.new-writer.ensures)
    (c.in_ok-write_reads.ensures ∙ ap (λ (reads : List (List ℕ)). c.write_root.new.writer ++ (borsh_u32 (length reads) ++ spelled_texts reads)) c.reads.ensures.reads)
    (c.in_ok-write_changes.ensures.ok ∙ ap (λ (held : ChangeMap). c.write_reads.new.writer ++ (borsh_u32 (length (entries held.changes)) ++ spelled_changes (entries held.changes))) c.changes.ensures)
    c.in_ok-write_state.ensures.ok

pub returns-clause-again : goal.returns-clause-again
returns-clause-again c =
    let spelled : c.into_text.result ≡ spelled_recording (recording_of c.args.self.now) = returns-clause-bytes c in
    ap recording_in spelled ∙ recording_in-only (recording_of c.args.self.now)
    (recorded c.args.self.now.root.0 c.args.self.now.ops.reads c.args.self.now.ops.batch c.args.self.now.state.texts c.in_ok-write_root.ensures.held c.reads.ensures.held (subst IsChangeMap c.changes.ensures c.in_ok-write_changes.ensures.held) c.in_ok-write_state.ensures.held.0)
    c.in_ok-write_state.ensures.held.1
