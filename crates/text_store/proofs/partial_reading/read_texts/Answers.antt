use Rattle.std.proofs.Common.{rules, ◌≡◌, ◌==◌, true, false, Err, sym, ap, ◌∙◌}
use Rattle.record_model.specs.Fields.{ordinal}
use Rattle.partial_model.specs.Partial.{texts_at, listed_at, framed}
use Rattle.text_store.proofs.Listing.{refused_frame, listed-no_version, listed-other, listed-no_count, listed-counted, Lists-onward}
use Rattle.text_store.proofs.partial_reading.read_texts.Goals as goal

pub returns-in_err-u8-clause-read : goal.returns-in_err-u8-clause-read
returns-in_err-u8-clause-read c = refused_frame _ c.from_residual.result c.in_err-u8.field-0.0 c.args.reader.now c.u8.new.self listed_at c.from_residual.ensures.1 (listed-no_version c.args.reader.now _ c.in_err-u8.ensures.0)

pub returns-then-branch-ne0-clause-read : goal.returns-then-branch-ne0-clause-read
returns-then-branch-ne0-clause-read c =
    let other : (c.in_ok-u8.field-0 == 0) ≡ false = search rules in
    ap framed (listed-other c.args.reader.now c.u8.new.self c.in_ok-u8.field-0 c.in_ok-u8.ensures other) ∙ ap (λ at. framed (Err (ordinal at))) (sym c.place-start.ensures)

pub returns-in_err-count-clause-read : goal.returns-in_err-count-clause-read
returns-in_err-count-clause-read c =
    let same : (c.in_ok-u8.field-0 == 0) ≡ true = search rules in
    refused_frame _ c.from_residual-in_err-count.result c.in_err-count.field-0.0 c.args.reader.now c.u32.new.self listed_at c.from_residual-in_err-count.ensures.1
    (listed-no_count c.args.reader.now c.u8.new.self c.in_ok-u8.field-0 _ c.in_ok-u8.ensures same c.in_err-count.ensures.0)

pub returns-clause-read : goal.returns-clause-read
returns-clause-read c =
    let same : (c.in_ok-u8.field-0 == 0) ≡ true = search rules in
    Lists-onward _ c.read_counted.result c.args.reader.now c.u32.new.self c.read_counted.new.reader (texts_at c.in_ok-count.count)
    (listed-counted c.args.reader.now c.u8.new.self c.u32.new.self c.in_ok-u8.field-0 c.in_ok-count.count c.in_ok-u8.ensures same c.in_ok-count.ensures) c.read_counted.ensures.read
