use Rattle.std.proofs.Common.{rules, ◌≡◌, ◌<◌, ◌+◌, sym, subst}
use Rattle.partial_model.specs.Partial.{texts_at}
use Rattle.text_store.proofs.Listing.{IsListing, IsListing-more, IsListing-all, IsListing-fault, refused_frame}
use Rattle.text_store.proofs.partial_reading.read_counted.Goals as goal

pub returns-in_err-text-clause-read : goal.returns-in_err-text-clause-read
returns-in_err-text-clause-read c =
    let more : c.loop.counter < c.args.count = search rules in
    refused_frame _ c.from_residual.result c.in_err-text.field-0.0 c.args.reader.now c.read_text.new.reader (texts_at c.args.count) c.from_residual.ensures.1
    (IsListing-fault c.args.reader.now c.loop.reader c.args.count c.loop.texts.items c.loop.counter _ more c.loop.invariant c.in_err-text.ensures.read)

pub loop-preserved : goal.loop-preserved
loop-preserved c =
    let more : c.loop.counter < c.args.count = search rules in
    subst (λ items. IsListing c.args.reader.now c.args.count items (c.loop.counter + 1) c.read_text.new.reader) (sym c.in-Ok.ensures.items)
    (IsListing-more c.args.reader.now c.loop.reader c.read_text.new.reader c.args.count c.loop.texts.items c.loop.counter c.in_ok-text.text more c.loop.invariant c.in_ok-text.ensures.read c.in_ok-text.ensures.short)

pub returns-clause-read : goal.returns-clause-read
returns-clause-read c =
    let all : c.args.count ≡ c.loop.counter = search rules in
    IsListing-all c.args.reader.now c.loop.reader c.args.count c.loop.texts.items c.loop.counter all c.loop.invariant
