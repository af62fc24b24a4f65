use Rattle.std.proofs.Common.{◌≡◌, ◌++◌, map, ap, sym, ◌∙◌, subst}
use Rattle.std.proofs.lemmas.List.{append-nil}
use Rattle.sha2.specs.Sha256.{sha256}
use Rattle.text_store.specs.TextSets.{texts_of_keys}
use Rattle.text_store.proofs.Naming.{names_of, names-more}
use Rattle.text_store.proofs.keyed.digests_of_set.Goals as goal

pub loop-text-init : goal.loop-text-init
loop-text-init c =
    ap (λ left. names_of c.in_ok-digests.digests.items ++ map sha256 (texts_of_keys left)) c.into_iter-text-iterator.ensures.into_iter_gives.0
    ∙ ap (λ digests. names_of digests ++ map sha256 (texts_of_keys c.args.texts.now.keys)) c.in_ok-digests.ensures.items

pub loop-text-preserved : goal.loop-text-preserved
loop-text-preserved c =
    names-more (map sha256 (texts_of_keys c.args.texts.now.keys)) c.loop-text.digests.items _ c.digest.result c.in-Some.text.now.items (texts_of_keys c.next.new.self)
    (subst (λ left. names_of c.loop-text.digests.items ++ map sha256 (texts_of_keys left) ≡ map sha256 (texts_of_keys c.args.texts.now.keys)) c.in-Some.ensures.steps c.loop-text.invariant)
    (c.digest.ensures ∙ ap sha256 c.as_slice.ensures.value) c.in_ok-push.ensures.items

pub returns : goal.returns
returns c = sym (append-nil (names_of c.loop-text.digests.items)) ∙ subst (λ left. names_of c.loop-text.digests.items ++ map sha256 (texts_of_keys left) ≡ map sha256 (texts_of_keys c.args.texts.now.keys)) c.in-None.ensures.steps.0 c.loop-text.invariant
