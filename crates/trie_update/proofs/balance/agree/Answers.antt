use Rattle.std.proofs.Common.{◌-◌, subst, sym, ⊎_elim, arith}
use Rattle.std.proofs.lemmas.List.Elements.{pair_read}
use Rattle.std.proofs.lemmas.List.Sorted.{all_adjacent_more}
use Rattle.trie_update.specs.Balances.{IsBalanceError}
use Rattle.trie_update.proofs.Tallies.{told-same}
use Rattle.trie_update.proofs.Clashes.{AgreesWith, agreed-all, clash-found, texts-differ, texts-same, digests-differ}
use Rattle.trie_update.proofs.balance.agree.Goals as goal
use Rattle.trie_update.proofs.balance.agree.Goals.{else-eq-via-then-eq+else-ne, else-eq-via-else-eq}

pub returns-then-ne-clause-error : goal.returns-then-ne-clause-error
returns-then-ne-clause-error c =
    let same = told-same c.index-gained-i.result.digest c.index-gained-i-in-loop-i.result.digest (sym c.if-eq.ensures) in
    let differ = texts-differ c.as_slice.ensures c.as_slice-then-eq.ensures c.if-ne.ensures in
    let found = clash-found c.args.gained.now c.requires c.loop-i.i c.index-gained-i.result c.index-gained-i-in-loop-i.result c.loop-i.auto.i c.loop-i-test.true c.index-gained-i.is c.index-gained-i-in-loop-i.is c.loop-i.invariant same differ in
    ⊎_elim (λ is. subst (IsBalanceError c.args.gained.now) (sym is) found) (λ is. subst (IsBalanceError c.args.gained.now) (sym is) tt) c.clash.ensures

pub loop-i-preserved : goal.loop-i-preserved
loop-i-preserved c =
    all_adjacent_more c.args.gained.now AgreesWith c.loop-i.i c.loop-i.auto.i c.loop-i.invariant
    (pair_read c.args.gained.now AgreesWith (c.loop-i.i - 1) c.loop-i.i c.index-gained-i.result c.index-gained-i-in-loop-i.result (omega arith) (omega arith) c.index-gained-i.is c.index-gained-i-in-loop-i.is
    (elim c.else-eq.branch [
      | else-eq-via-then-eq+else-ne w ↦ (λ same. texts-same w.as_slice.ensures w.as_slice-then-eq.ensures w.if-ne.ensures)
      | else-eq-via-else-eq w ↦ (λ same. absurd (digests-differ w.if-eq.ensures same))
    ]))

pub returns-clause-agree : goal.returns-clause-agree
returns-clause-agree c = agreed-all c.args.gained.now c.requires (λ k d below. c.loop-i.invariant k d (omega arith))
