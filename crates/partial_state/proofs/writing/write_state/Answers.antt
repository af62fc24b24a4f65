use Rattle.std.proofs.Common.{rules, ◌≤◌, ◌++◌, length, ap, ◌∙◌}
use Rattle.byte_model.specs.Borsh.{borsh_u8, borsh_u32}
use Rattle.partial_model.specs.Partial.{spelled_partial}
use Rattle.partial_state.proofs.Written.{writes-state, drop-at, next-short, next-written, all-written}
use Rattle.partial_state.proofs.writing.write_state.Goals as goal

pub loop-place-init : goal.loop-place-init
loop-place-init c = writes-state c.args.state.now.texts c.args.writer.now c.put_u32.new.self c.len.ensures.partial
    (c.in_ok-put_u32.ensures.ok ∙ ap (λ w. w ++ borsh_u32 c.len.result) c.in_ok-put_u8.ensures.ok ∙ ap (λ n. c.args.writer.now ++ borsh_u8 0 ++ borsh_u32 n) c.len.ensures.len)

pub put_bytes-requires : goal.put_bytes-requires
put_bytes-requires c = next-short (c.args.writer.now ++ spelled_partial c.args.state.now.texts) c.args.state.now.texts c.loop-place.place c.loop-place.writer c.at.result.now (drop-at c.args.state.now.texts c.loop-place.place c.at.result.now c.at.ensures) c.loop-place.invariant

pub loop-place-preserved : goal.loop-place-preserved
loop-place-preserved c = next-written (c.args.writer.now ++ spelled_partial c.args.state.now.texts) c.args.state.now.texts c.loop-place.place c.loop-place.writer c.at.result.now (drop-at c.args.state.now.texts c.loop-place.place c.at.result.now c.at.ensures) c.loop-place.invariant c.put_bytes.new.self c.in_ok-put_bytes.ensures.ok

pub returns-clause-ok : goal.returns-clause-ok
returns-clause-ok c =
    let over : length c.args.state.now.texts ≤ c.loop-place.place = search rules in
    all-written (c.args.writer.now ++ spelled_partial c.args.state.now.texts) c.args.state.now.texts c.loop-place.place c.loop-place.writer over c.loop-place.invariant
