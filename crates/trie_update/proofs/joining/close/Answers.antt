use Rattle.std.proofs.Common.{refl}
use Rattle.std.proofs.lemmas.Result.{IfOk-weaker}
use Rattle.trie_update.proofs.Formers.{again-record}
use Rattle.trie_update.proofs.joining.close.Goals as goal

pub returns-then-stays : goal.returns-then-stays
returns-then-stays c =
    let read = rw c.in-Some.is at c.requires.former in
    record { written = IfOk-weaker c.close_again.result _ _ (again-record c.in-Some.branch.now read c.args.value c.args.kids.now c.args.usage (c.if-stays.ensures.usage refl) (c.if-stays.ensures.value refl) (c.if-stays.ensures.kids refl)) c.close_again.ensures.written }
