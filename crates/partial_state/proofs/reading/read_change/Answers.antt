use Rattle.std.proofs.Common.{◌≡◌, true, false, Err, sym, ap, ◌∙◌}
use Rattle.std.specs.Option.{option_copied}
use Rattle.byte_model.specs.Nibbles.{longest_key}
use Rattle.partial_model.specs.Recording.{head, vector_within, becomes_at, follows, change_at}
use Rattle.partial_state.proofs.Refusals.{refused_reads}
use Rattle.partial_state.proofs.Changes.{no_key, not_above, no_becomes, change_read}
use Rattle.partial_state.proofs.reading.read_change.Goals as goal

pub returns-in_err-key-clause-read : goal.returns-in_err-key-clause-read
returns-in_err-key-clause-read c = refused_reads _ c.from_residual.result c.in_err-key.field-0.0 c.args.reader.now c.read_within.new.reader (change_at (option_copied c.args.earlier)) (vector_within longest_key c.args.reader.now) c.from_residual.ensures.1
    (no_key (option_copied c.args.earlier) c.args.reader.now) c.in_err-key.ensures.read

pub returns-then-not-is_behind-clause-read : goal.returns-then-not-is_behind-clause-read
returns-then-not-is_behind-clause-read c =
    let below : follows (option_copied c.args.earlier) c.in_ok-key.key.now ≡ false = sym c.is_behind.ensures ∙ c.if-not-is_behind.true in
    not_above (option_copied c.args.earlier) c.args.reader.now c.in_ok-key.key.now c.read_within.new.reader c.in_ok-key.ensures.read below ∙ ap (λ at. Err (head at)) (sym c.place-at.ensures)

pub returns-in_err-read_becomes-clause-read : goal.returns-in_err-read_becomes-clause-read
returns-in_err-read_becomes-clause-read c =
    let above : follows (option_copied c.args.earlier) c.in_ok-key.key.now ≡ true = sym c.is_behind.ensures ∙ c.if-not-is_behind.false in
    refused_reads _ c.from_residual-in_err-read_becomes.result c.in_err-read_becomes.field-0.0 c.args.reader.now c.read_becomes.new.reader (change_at (option_copied c.args.earlier)) (becomes_at c.read_within.new.reader) c.from_residual-in_err-read_becomes.ensures.1
    (no_becomes (option_copied c.args.earlier) c.args.reader.now c.in_ok-key.key.now c.read_within.new.reader c.in_ok-key.ensures.read above) c.in_err-read_becomes.ensures.read

pub returns-clause-read : goal.returns-clause-read
returns-clause-read c =
    let above : follows (option_copied c.args.earlier) c.in_ok-key.key.now ≡ true = sym c.is_behind.ensures ∙ c.if-not-is_behind.false in
    change_read (option_copied c.args.earlier) c.args.reader.now c.in_ok-key.key.now c.read_within.new.reader c.in_ok-key.ensures.read (option_copied c.in_ok-read_becomes.field-0) c.read_becomes.new.reader above c.in_ok-read_becomes.ensures.read
