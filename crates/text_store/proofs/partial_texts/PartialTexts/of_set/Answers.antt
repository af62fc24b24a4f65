use Rattle.std.proofs.Common.{map, get_or, subst, ap, ◌∙◌}
use Rattle.sha2.specs.Sha256.{sha256}
use Rattle.partial_model.specs.Texts.{texts_in}
use Rattle.text_store.proofs.Naming.{next-named}
use Rattle.text_store.proofs.Setting.{Sets, Sets-more, Sets-held, Sets-unread}
use Rattle.text_store.proofs.partial_texts.PartialTexts.of_set.Goals as goal

pub hold-requires : goal.hold-requires
hold-requires c =
    ap (λ digest. digest.0) c.index-digest.ensures ∙ ap (λ n. (get_or c.in_ok-digests.digests.items n c.index-digest.result.now).0) c.len.ensures.len
    ∙ next-named (texts_in c.args.set) c.loop-bytes.held.entries c.in-Some.bytes c.next.new.self c.in_ok-digests.digests.items (c.in_ok-digests.ensures ∙ ap (map sha256) c.into_texts-texts.ensures.texts)
    (subst (λ left. Sets (texts_in c.args.set) c.loop-bytes.held.entries left) c.in-Some.ensures.steps c.loop-bytes.invariant) c.index-digest.result.now c.from_bytes.result c.from_bytes.ensures

pub loop-bytes-preserved : goal.loop-bytes-preserved
loop-bytes-preserved c =
    Sets-more (texts_in c.args.set) c.loop-bytes.held.entries c.hold.new.held.entries c.in-Some.bytes c.next.new.self c.in_ok-hold.field-0 c.from_bytes.result c.into_texts-texts.ensures.held c.requires
    (subst (λ left. Sets (texts_in c.args.set) c.loop-bytes.held.entries left) c.in-Some.ensures.steps c.loop-bytes.invariant) c.from_bytes.ensures c.in_ok-hold.ensures.taken c.in_ok-hold.ensures.last

pub invariant_of-result : goal.invariant_of-result
invariant_of-result c = Sets-held (texts_in c.args.set) c.loop-bytes.held.entries c.loop-bytes.bytes-iterator c.in-None.ensures.steps.0 c.into_texts-texts.ensures.held c.requires c.loop-bytes.invariant

pub returns : goal.returns
returns c = Sets-unread (texts_in c.args.set) c.loop-bytes.held.entries c.loop-bytes.bytes-iterator c.in-None.ensures.steps.0 c.loop-bytes.invariant
