use Rattle.std.proofs.lemmas.Result.{IfOk-weaker}
use Rattle.trie_update.proofs.Tops.{under-top}
use Rattle.trie_update.proofs.joining.under.Goals as goal

pub returns : goal.returns
returns c = record { top = IfOk-weaker c.under.result _ _ (λ sub e. under-top c.args.nibbles.now c.args.sub sub e) c.under.ensures.value }
