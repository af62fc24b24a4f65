use Rattle.std.proofs.Common.{subst, sym, rules}
use Rattle.std.proofs.lemmas.List.Sorted.{answers_always}
use Rattle.trie_update.specs.Balances.{Agree, IsBalance, IsBalanceError}
use Rattle.trie_update.proofs.Clashes.{IsInOrder, error-back}
use Rattle.trie_update.proofs.Balances.{balance-back}
use Rattle.trie_update.proofs.balance.balance.Goals as goal

pub agree-requires : goal.agree-requires
agree-requires c = subst IsInOrder (sym c.deref.ensures.value) (c.sort_unstable_by_key.ensures.sorted (λ g. g.digest) (answers_always _ _ _ (λ f a r g h. search rules)))

pub returns-in-Err-clause-error : goal.returns-in-Err-clause-error
returns-in-Err-clause-error c =
    error-back c.args.ledger.gained.items c.sort_unstable_by_key.new.self.items c.sort_unstable_by_key.ensures.permutation c.in-Err.error
    (subst (λ gained. IsBalanceError gained c.in-Err.error) c.deref.ensures.value c.in-Err.ensures.error)

pub sides-requires-clause-gained : goal.sides-requires-clause-gained
sides-requires-clause-gained c = c.sort_unstable_by_key.ensures.sorted (λ g. g.digest) (answers_always _ _ _ (λ f a r g h. search rules))

pub sides-requires-clause-agree : goal.sides-requires-clause-agree
sides-requires-clause-agree c = subst Agree c.deref.ensures.value c.in_default.ensures.agree

pub returns-in-Ok-clause-balanced : goal.returns-in-Ok-clause-balanced
returns-in-Ok-clause-balanced c =
    balance-back c.args.ledger.gained.items c.sort_unstable_by_key.new.self.items c.args.ledger.lost.items c.sort_unstable.new.self.items c.sort_unstable_by_key.ensures.permutation c.sort_unstable.ensures.permutation c.in-Ok.sides.0 c.in-Ok.sides.1
    (subst (λ lost. IsBalance c.sort_unstable_by_key.new.self.items lost c.in-Ok.sides.0 c.in-Ok.sides.1) c.deref-2.ensures.value c.in-Ok.ensures)
