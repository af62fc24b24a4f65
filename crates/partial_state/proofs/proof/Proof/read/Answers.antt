use Rattle.std.proofs.Common.{◌≡◌, Ok, Err, sym, ap, subst, ◌∙◌}
use Rattle.std.specs.FinMap.{entries}
use Rattle.byte_model.specs.Node.{digest_width}
use Rattle.record_model.specs.Fields.{start_of, bytes_at}
use Rattle.partial_model.specs.Recording.{reads_at, changes_at, recording_in}
use Rattle.base_core.specs.Reading.{fault_of}
use Rattle.base_core.proofs.KeptMaps.{are_bytes}
use Rattle.partial_state.specs.declared.proof_error.ProofError.TheVariants.{Frame}
use Rattle.partial_state.specs.Operations.{Operations}
use Rattle.partial_state.specs.Recordings.{passed, recording_of}
use Rattle.partial_state.proofs.Refusals.{refused_alike}
use Rattle.partial_state.proofs.Recordings.{Begins, no_root, no_reads, no_changes, state_refused, left_over, all_read, answers_refused, spelled_by}
use Rattle.partial_state.proofs.proof.Proof.read.Goals as goal

pub returns-in_err-root-clause-answer : goal.returns-in_err-root-clause-answer
returns-in_err-root-clause-answer c = answers_refused c.args.bytes.now c.from_residual.result (Frame c.in_err-root.field-0.0) c.from_residual.ensures.1
    (no_root c.args.bytes.now (fault_of c.in_err-root.field-0.0) (subst (λ cursor. bytes_at digest_width cursor ≡ Err (fault_of c.in_err-root.field-0.0)) c.new-reader.ensures c.in_err-root.ensures.0))

pub returns-in_err-reads-clause-answer : goal.returns-in_err-reads-clause-answer
returns-in_err-reads-clause-answer c =
    let root_is : bytes_at digest_width (start_of c.args.bytes.now) ≡ Ok (c.in_ok-root.root.0, c.digest.new.self) = subst (λ cursor. bytes_at digest_width cursor ≡ Ok (c.in_ok-root.root.0, c.digest.new.self)) c.new-reader.ensures c.in_ok-root.ensures in
    answers_refused c.args.bytes.now c.from_residual-in_err-reads.result c.in_err-reads.field-0.0 c.from_residual-in_err-reads.ensures.1
    (refused_alike c.in_err-reads.field-0.0 (reads_at c.digest.new.self) (recording_in c.args.bytes.now) (no_reads c.args.bytes.now c.in_ok-root.root.0 c.digest.new.self root_is) c.in_err-reads.ensures.read)

pub returns-in_err-changes-clause-answer : goal.returns-in_err-changes-clause-answer
returns-in_err-changes-clause-answer c =
    let root_is : bytes_at digest_width (start_of c.args.bytes.now) ≡ Ok (c.in_ok-root.root.0, c.digest.new.self) = subst (λ cursor. bytes_at digest_width cursor ≡ Ok (c.in_ok-root.root.0, c.digest.new.self)) c.new-reader.ensures c.in_ok-root.ensures in
    let begins : Begins c.args.bytes.now c.in_ok-root.root.0 c.in_ok-reads.reads.items c.read_reads.new.reader = record { before = c.digest.new.self; root_is = root_is; reads_are = c.in_ok-reads.ensures.read } in
    answers_refused c.args.bytes.now c.from_residual-in_err-changes.result c.in_err-changes.field-0.0 c.from_residual-in_err-changes.ensures.1
    (refused_alike c.in_err-changes.field-0.0 (changes_at c.read_reads.new.reader) (recording_in c.args.bytes.now) (no_changes c.args.bytes.now c.in_ok-root.root.0 c.in_ok-reads.reads.items c.read_reads.new.reader begins) c.in_err-changes.ensures.read)

pub returns-in_err-state-clause-answer : goal.returns-in_err-state-clause-answer
returns-in_err-state-clause-answer c =
    let root_is : bytes_at digest_width (start_of c.args.bytes.now) ≡ Ok (c.in_ok-root.root.0, c.digest.new.self) = subst (λ cursor. bytes_at digest_width cursor ≡ Ok (c.in_ok-root.root.0, c.digest.new.self)) c.new-reader.ensures c.in_ok-root.ensures in
    let begins : Begins c.args.bytes.now c.in_ok-root.root.0 c.in_ok-reads.reads.items c.read_reads.new.reader = record { before = c.digest.new.self; root_is = root_is; reads_are = c.in_ok-reads.ensures.read } in
    answers_refused c.args.bytes.now c.from_residual-in_err-state.result (passed c.in_err-state.field-0.0) c.from_residual-in_err-state.ensures.1
    (state_refused c.args.bytes.now c.in_ok-root.root.0 c.in_ok-reads.reads.items c.read_reads.new.reader (entries c.in_ok-changes.changes.changes) c.read_changes.new.reader begins c.in_ok-changes.ensures.read c.in_err-state.field-0.0 c.in_err-state.ensures.read)

pub returns-in_err-end-clause-answer : goal.returns-in_err-end-clause-answer
returns-in_err-end-clause-answer c =
    let root_is : bytes_at digest_width (start_of c.args.bytes.now) ≡ Ok (c.in_ok-root.root.0, c.digest.new.self) = subst (λ cursor. bytes_at digest_width cursor ≡ Ok (c.in_ok-root.root.0, c.digest.new.self)) c.new-reader.ensures c.in_ok-root.ensures in
    let begins : Begins c.args.bytes.now c.in_ok-root.root.0 c.in_ok-reads.reads.items c.read_reads.new.reader = record { before = c.digest.new.self; root_is = root_is; reads_are = c.in_ok-reads.ensures.read } in
    answers_refused c.args.bytes.now c.from_residual-in_err-end.result (Frame c.in_err-end.field-0.0) c.from_residual-in_err-end.ensures.1
    (left_over c.args.bytes.now c.in_ok-root.root.0 c.in_ok-reads.reads.items c.read_reads.new.reader c.in_ok-changes.changes.changes c.read_changes.new.reader c.in_ok-state.state.texts c.read_from.new.r begins c.in_ok-changes.ensures.read c.in_ok-state.ensures.read.0 (fault_of c.in_err-end.field-0.0) c.in_err-end.ensures)

pub returns-clause-answer : goal.returns-clause-answer
returns-clause-answer c =
    let root_is : bytes_at digest_width (start_of c.args.bytes.now) ≡ Ok (c.in_ok-root.root.0, c.digest.new.self) = subst (λ cursor. bytes_at digest_width cursor ≡ Ok (c.in_ok-root.root.0, c.digest.new.self)) c.new-reader.ensures c.in_ok-root.ensures in
    let begins : Begins c.args.bytes.now c.in_ok-root.root.0 c.in_ok-reads.reads.items c.read_reads.new.reader = record { before = c.digest.new.self; root_is = root_is; reads_are = c.in_ok-reads.ensures.read } in (
      all_read c.args.bytes.now c.in_ok-root.root.0 c.in_ok-reads.reads.items c.read_reads.new.reader c.in_ok-changes.changes.changes c.read_changes.new.reader c.in_ok-state.state.texts c.read_from.new.r begins c.in_ok-changes.ensures.read c.in_ok-state.ensures.read.0 c.in_ok-end.ensures
          ∙ ap (λ (ops : Operations). Ok (record { root = c.in_ok-root.root.0; reads = ops.reads; changes = ops.batch.changes; state = c.in_ok-state.state.texts })) (sym c.of_parts-ops.ensures),
      record { most = ap (λ (ops : Operations). ops.batch.most) c.of_parts-ops.ensures ∙ c.in_ok-changes.ensures.most; unmarked = c.in_ok-state.ensures.read.1 },
    )

pub returns-clause-spelled : goal.returns-clause-spelled
returns-clause-spelled c = spelled_by c.args.bytes.now (recording_of (record { root = c.in_ok-root.root; ops = c.of_parts-ops.result; state = c.in_ok-state.state })) (are_bytes _ c.type_inv.bytes) (returns-clause-answer c).0
