use Rattle.std.proofs.Common.{◌-◌, ◌++◌, ◌∷◌, ◌∙◌, [], sym, ap, ap₂, subst, get_or, arith}
use Rattle.std.specs.List.{dedup}
use Rattle.std.proofs.lemmas.List.{take_all, get_or_default}
use Rattle.std.proofs.lemmas.List.Filters.{dedup_is}
use Rattle.trie_update.specs.Balances.{Ascends}
use Rattle.trie_update.proofs.Tallies.{ahead-next}
use Rattle.trie_update.proofs.Balances.{same_bytes, losses_among, losses-more, losses-same, digests-rise, lost_side}
use Rattle.trie_update.proofs.balance.lost_texts.Goals as goal
use Rattle.trie_update.proofs.balance.lost_texts.Goals.{then-loss_count-gain_count+in_ok-push, else-loss_count-gain_count}

pub loop-digest-preserved : goal.loop-digest-preserved
loop-digest-preserved c =
    let kept = c.deref-digest-items.ensures.value ∙ dedup_is same_bytes _ _ c.dedup.ensures.filtered ∙ ap (dedup same_bytes) c.in_ok-digests.ensures.items in
    let up = subst Ascends (sym kept) (digests-rise c.args.lost.now c.requires.lost) in
    let gain_count = c.times_from-gain_count.ensures in
    let loss_count = c.times_from-loss_count.ensures in (
      elim c.if-loss_count-gain_count.branch [
        | then-loss_count-gain_count+in_ok-push w ↦ (
            let more = losses-more c.args.gains.now c.args.lost.now c.deref-digest-items.result.now c.loop-digest.digest-index (record { 0 = [] }) c.loop-digest-test.true (omega arith) in
            ap (λ v. v.items) w.texts-is ∙ w.in_ok-push.ensures.items
            ∙ ap₂ (λ xs n. xs ++ record { digest = get_or c.deref-digest-items.result.now c.loop-digest.digest-index (record { 0 = [] }); times = n } ∷ []) c.loop-digest.invariant.0 (ap₂ ◌-◌ loss_count.times gain_count.times)
            ∙ sym more)
        | else-loss_count-gain_count w ↦ (
            let same = losses-same c.args.gains.now c.args.lost.now c.deref-digest-items.result.now c.loop-digest.digest-index (record { 0 = [] }) c.loop-digest-test.true (omega arith) in
            ap (λ v. v.items) w.texts-is ∙ c.loop-digest.invariant.0 ∙ sym same)
      ],
      ahead-next up (get_or c.deref-digest-items.result.now c.loop-digest.digest-index (record { 0 = [] })) c.loop-digest-test.true (get_or_default c.deref-digest-items.result.now c.loop-digest.digest-index _ _ c.loop-digest-test.true) gain_count.within gain_count.up_to,
      ahead-next up (get_or c.deref-digest-items.result.now c.loop-digest.digest-index (record { 0 = [] })) c.loop-digest-test.true (get_or_default c.deref-digest-items.result.now c.loop-digest.digest-index _ _ c.loop-digest-test.true) loss_count.within loss_count.up_to,
    )

pub returns : goal.returns
returns c =
    let whole = take_all c.loop-digest.digest-index c.deref-digest-items.result.now (omega arith) in
    let kept = c.deref-digest-items.ensures.value ∙ dedup_is same_bytes _ _ c.dedup.ensures.filtered ∙ ap (dedup same_bytes) c.in_ok-digests.ensures.items in
    lost_side c.args.gains.now c.args.lost.now c.loop-digest.texts.items c.requires.lost (c.loop-digest.invariant.0 ∙ ap (losses_among c.args.gains.now c.args.lost.now) (whole ∙ kept))
