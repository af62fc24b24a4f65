use Rattle.std.proofs.Common.{◌∙◌, sym, ap, subst, IsSorted}
use Rattle.trie_update.specs.Balances.{by_bytes, gained_digests}
use Rattle.trie_update.proofs.Clashes.{digests-in_order}
use Rattle.trie_update.proofs.balance.sides.Goals as goal

pub lost_texts-requires-clause-gains : goal.lost_texts-requires-clause-gains
lost_texts-requires-clause-gains c = subst (IsSorted by_bytes) (sym (c.deref-3.ensures.value ∙ c.in_ok-gains.ensures ∙ ap gained_digests c.deref.ensures.value)) (digests-in_order c.args.gained.items c.requires.gained)
