use Rattle.std.proofs.Common.{rules, ◌≡◌, ◌<◌, ◌≤◌, ◌+◌, ◌++◌, ◌∷◌, List, ℕ, length, drop, sym, ap, ◌∙◌}
use Rattle.std.proofs.lemmas.List.{drop_more}
use Rattle.byte_model.specs.Borsh.{borsh_u32, borsh_bytes}
use Rattle.partial_model.specs.Partial.{spelled_texts}
use Rattle.partial_state.proofs.Written.{next-written, all-written}
use Rattle.partial_state.proofs.writing.write_reads.Goals as goal

pub loop-key-preserved : goal.loop-key-preserved
loop-key-preserved c =
    let within : c.loop-key.key-index < length c.args.reads.now = search rules in
    let here : drop c.loop-key.key-index c.args.reads.now ≡ c.key-item.result ∷ drop (c.loop-key.key-index + 1) c.args.reads.now = drop_more c.args.reads.now c.loop-key.key-index _ within ∙ ap (λ (t : List ℕ). t ∷ drop (c.loop-key.key-index + 1) c.args.reads.now) (sym c.key-item.is) in
    next-written (c.args.writer.now ++ (borsh_u32 (length c.args.reads.now) ++ spelled_texts c.args.reads.now)) c.args.reads.now c.loop-key.key-index c.loop-key.writer c.key-item.result here c.loop-key.invariant c.put_bytes.new.self
    (c.in_ok-put_bytes.ensures.ok ∙ ap (λ (bytes : List ℕ). c.loop-key.writer ++ borsh_bytes bytes) c.as_slice.ensures)

pub returns : goal.returns
returns c =
    let over : length c.args.reads.now ≤ c.loop-key.key-index = search rules in
    all-written (c.args.writer.now ++ (borsh_u32 (length c.args.reads.now) ++ spelled_texts c.args.reads.now)) c.args.reads.now c.loop-key.key-index c.loop-key.writer over c.loop-key.invariant
