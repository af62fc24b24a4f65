use Rattle.std.proofs.Common.{◌≡◌, ◌-◌, ◌++◌, ◌∷◌, [], ◌∙◌, sym, ap, ap₂, subst, map, length, IsSorted, rules}
use Rattle.std.specs.List.{dedup}
use Rattle.std.specs.Vec.Iter.{into_iter_items, into_iter_len}
use Rattle.std.proofs.lemmas.Fn.{dedup_same}
use Rattle.std.proofs.lemmas.List.{map-id, map-append, length_push}
use Rattle.std.proofs.lemmas.Iterator.Adapters.{YieldsList-from_vec}
use Rattle.std.proofs.lemmas.Iterator.Consumers.{YieldsList-turn, YieldsList-end}
use Rattle.trie_update.specs.Balances.{by_bytes, times_in, gained_digests, made_text}
use Rattle.trie_update.proofs.Clashes.{digests-in_order}
use Rattle.trie_update.proofs.Tallies.{IsAhead, ahead-here, ahead-next}
use Rattle.trie_update.proofs.Balances.{same_digest, kept-rise, kept-turn, made}
use Rattle.trie_update.proofs.balance.made_texts.Goals as goal

pub times_from-gain_count-requires-clause-order : goal.times_from-gain_count-requires-clause-order
times_from-gain_count-requires-clause-order c = subst (IsSorted by_bytes) (sym c.requires.gains) (digests-in_order c.args.gained.items c.requires.gained)

pub times_from-gain_count-requires-clause-below : goal.times_from-gain_count-requires-clause-below
times_from-gain_count-requires-clause-below c =
    let kept = dedup_same _ same_digest _ (λ x y b f' x' y' k. search rules) _ _ c.dedup_by_key.ensures.filtered in
    let items : into_iter_items c.into_iter-digest-iterator.result ≡ c.dedup_by_key.new.self.items = search rules in
    let count : into_iter_len c.into_iter-digest-iterator.result ≡ length c.dedup_by_key.new.self.items = search rules in
    let turn = kept-turn c.args.gained.items c.dedup_by_key.new.self.items (length c.loop-digest.yielded) c.in-Some.field-0 kept
    (YieldsList-turn (YieldsList-from_vec c.dedup_by_key.new.self.items items count) c.loop-digest.yielded c.loop-digest.digest-iterator c.loop-digest.yielded_by c.next.result c.next.new.self c.in-Some.field-0 c.in-Some.is c.next.ensures.steps) in
    ahead-here c.loop-digest.invariant.3 c.in-Some.field-0.digest turn.0 turn.1

pub times_from-loss_count-requires-clause-below : goal.times_from-loss_count-requires-clause-below
times_from-loss_count-requires-clause-below c =
    let kept = dedup_same _ same_digest _ (λ x y b f' x' y' k. search rules) _ _ c.dedup_by_key.ensures.filtered in
    let items : into_iter_items c.into_iter-digest-iterator.result ≡ c.dedup_by_key.new.self.items = search rules in
    let count : into_iter_len c.into_iter-digest-iterator.result ≡ length c.dedup_by_key.new.self.items = search rules in
    let turn = kept-turn c.args.gained.items c.dedup_by_key.new.self.items (length c.loop-digest.yielded) c.in-Some.field-0 kept
    (YieldsList-turn (YieldsList-from_vec c.dedup_by_key.new.self.items items count) c.loop-digest.yielded c.loop-digest.digest-iterator c.loop-digest.yielded_by c.next.result c.next.new.self c.in-Some.field-0 c.in-Some.is c.next.ensures.steps) in
    ahead-here c.loop-digest.invariant.4 c.in-Some.field-0.digest turn.0 turn.1

pub loop-digest-preserved : goal.loop-digest-preserved
loop-digest-preserved c =
    let kept = dedup_same _ same_digest _ (λ x y b f' x' y' k. search rules) _ _ c.dedup_by_key.ensures.filtered in
    let items : into_iter_items c.into_iter-digest-iterator.result ≡ c.dedup_by_key.new.self.items = search rules in
    let count : into_iter_len c.into_iter-digest-iterator.result ≡ length c.dedup_by_key.new.self.items = search rules in
    let turn = kept-turn c.args.gained.items c.dedup_by_key.new.self.items (length c.loop-digest.yielded) c.in-Some.field-0 kept
    (YieldsList-turn (YieldsList-from_vec c.dedup_by_key.new.self.items items count) c.loop-digest.yielded c.loop-digest.digest-iterator c.loop-digest.yielded_by c.next.result c.next.new.self c.in-Some.field-0 c.in-Some.is c.next.ensures.steps) in
    let up = kept-rise c.args.gained.items c.requires.gained in
    let gain_count = c.times_from-gain_count.ensures in
    let loss_count = c.times_from-loss_count.ensures in
    let more = sym (length_push c.loop-digest.yielded c.in-Some.field-0) in
    let rising = gained_digests (dedup same_digest c.args.gained.items) in (
      tt,
      tt,
      c.in_ok-push.ensures.items
          ∙ ap₂ (λ xs n. xs ++ record { digest = c.in-Some.field-0.digest; text = c.in-Some.field-0.text; times = n } ∷ []) c.loop-digest.invariant.2
          (c.saturating_sub.ensures ∙ ap₂ ◌-◌ (gain_count.times ∙ ap (λ ds. times_in ds c.in-Some.field-0.digest.0) c.requires.gains) loss_count.times)
          ∙ sym (map-append (made_text c.args.gained.items c.args.lost.now) c.loop-digest.yielded (c.in-Some.field-0 ∷ [])),
      subst (IsAhead c.args.gains.now c.times_from-gain_count.new.place rising) more (ahead-next up c.in-Some.field-0.digest turn.0 turn.1 gain_count.within gain_count.up_to),
      subst (IsAhead c.args.lost.now c.times_from-loss_count.new.place rising) more (ahead-next up c.in-Some.field-0.digest turn.0 turn.1 loss_count.within loss_count.up_to),
    )

pub returns : goal.returns
returns c =
    let kept = dedup_same _ same_digest _ (λ x y b f' x' y' k. search rules) _ _ c.dedup_by_key.ensures.filtered in
    let items : into_iter_items c.into_iter-digest-iterator.result ≡ c.dedup_by_key.new.self.items = search rules in
    let count : into_iter_len c.into_iter-digest-iterator.result ≡ length c.dedup_by_key.new.self.items = search rules in
    let all = YieldsList-end (YieldsList-from_vec c.dedup_by_key.new.self.items items count) c.loop-digest.yielded c.loop-digest.digest-iterator c.loop-digest.yielded_by c.next.result c.next.new.self c.in-None.is c.next.ensures.steps in
    made c.args.gained.items c.args.lost.now c.loop-digest.texts.items c.requires.gained c.requires.agree
    (c.loop-digest.invariant.2 ∙ ap (map (made_text c.args.gained.items c.args.lost.now)) (sym (map-id c.loop-digest.yielded) ∙ all.0 ∙ kept))
