use Rattle.std.proofs.Common.{rules, ◌≡◌, ◌<◌, ◌+◌, ◌++◌, ◌∷◌, [], List, ℕ, sym, ap, subst, ◌∙◌}
use Rattle.byte_model.specs.Nibbles.{longest_key}
use Rattle.partial_model.specs.Recording.{IsKey, vector_within, keys_at}
use Rattle.partial_state.proofs.Refusals.{refused_reads}
use Rattle.partial_state.proofs.Keys.{ReadsKeys, ReadsKeys-more, ReadsKeys-all, ReadsKeys-fault}
use Rattle.partial_state.proofs.reading.read_keys.Goals as goal

pub returns-in_err-read_within-clause-read : goal.returns-in_err-read_within-clause-read
returns-in_err-read_within-clause-read c =
    let more : c.loop.counter < c.args.count = search rules in
    refused_reads _ c.from_residual.result c.in_err-read_within.field-0.0 c.args.reader.now c.read_within.new.reader (keys_at c.args.count) (vector_within longest_key c.loop.reader) c.from_residual.ensures.1
    (ReadsKeys-fault c.args.reader.now c.loop.reader c.args.count c.loop.keys.items c.loop.counter more c.loop.invariant) c.in_err-read_within.ensures.read

pub loop-preserved : goal.loop-preserved
loop-preserved c =
    let more : c.loop.counter < c.args.count = search rules in
    let same : c.in_ok-key.key ≡ c.in_ok-read_within.field-0.now = c.in_ok-key.ensures.copy in
    let is : IsKey c.in_ok-read_within.field-0.now = (c.in_ok-key.ensures.bytes, c.in_ok-read_within.ensures.within) in
    subst (λ items. ReadsKeys c.args.reader.now c.args.count items (c.loop.counter + 1) c.read_within.new.reader) (ap (λ (key : List ℕ). c.loop.keys.items ++ key ∷ []) (sym same) ∙ sym c.in-Ok.ensures.items)
    (ReadsKeys-more c.args.reader.now c.loop.reader c.read_within.new.reader c.args.count c.loop.keys.items c.loop.counter c.in_ok-read_within.field-0.now more c.loop.invariant c.in_ok-read_within.ensures.read is)

pub returns-clause-read : goal.returns-clause-read
returns-clause-read c =
    let all : c.args.count ≡ c.loop.counter = search rules in
    ReadsKeys-all c.args.reader.now c.loop.reader c.args.count c.loop.keys.items c.loop.counter all c.loop.invariant
