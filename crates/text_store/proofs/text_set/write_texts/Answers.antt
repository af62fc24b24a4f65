use Rattle.std.proofs.Common.{◌++◌, ap, sym, ◌∙◌, subst}
use Rattle.byte_model.specs.Borsh.{borsh_u8, borsh_u32, borsh_bytes}
use Rattle.text_store.proofs.Writing.{Writes, Writes-init, Writes-more, Writes-all}
use Rattle.text_store.proofs.text_set.write_texts.Goals as goal

pub loop-text-init : goal.loop-text-init
loop-text-init c =
    subst (λ left. Writes c.args.texts.now.keys c.put_u32.new.self left) (sym c.into_iter-text-iterator.ensures.into_iter_gives.0)
    (Writes-init c.args.texts.now.keys c.put_u32.new.self c.requires (c.in_ok-put_u32.ensures.ok ∙ ap (λ w. w ++ borsh_u32 c.len.result) (c.in_ok-put_u8.ensures.ok ∙ ap (λ w. w ++ borsh_u8 0) c.new-writer.ensures) ∙ ap (λ n. borsh_u8 0 ++ borsh_u32 n) c.len.ensures.len))

pub loop-text-preserved : goal.loop-text-preserved
loop-text-preserved c =
    Writes-more c.args.texts.now.keys c.next.new.self c.loop-text.writer c.put_bytes.new.self c.in-Some.text.now (subst (λ left. Writes c.args.texts.now.keys c.loop-text.writer left) c.in-Some.ensures.steps c.loop-text.invariant) (c.in_ok-put_bytes.ensures.ok ∙ ap (λ bytes. c.loop-text.writer ++ borsh_bytes bytes) c.as_slice.ensures.value)

pub returns : goal.returns
returns c =
    c.into_text.ensures ∙ Writes-all c.args.texts.now.keys c.loop-text.writer (subst (λ left. Writes c.args.texts.now.keys c.loop-text.writer left) c.in-None.ensures.steps.0 c.loop-text.invariant)
