use Rattle.std.proofs.Common.{sym, subst}
use Rattle.shard_cmd.specs.Requests.{AnswersRequest}
use Rattle.shard_cmd.proofs.request.answer.Goals as goal

pub returns-in-Get : goal.returns-in-Get
returns-in-Get g c = λ limits forks is.
    subst (λ r. AnswersRequest g.N.Texts.store g.N.Nodes.count_of limits forks r c.args.shard.now c.answer_get.new.shard c.args.replies.now.bytes c.answer_get.new.replies.bytes c.answer_get.result) (sym c.in-Get.is) (rw c.as_slice.ensures at c.answer_get.ensures limits forks is)

pub returns-in-Prove : goal.returns-in-Prove
returns-in-Prove g c = λ limits forks is.
    subst (λ r. AnswersRequest g.N.Texts.store g.N.Nodes.count_of limits forks r c.args.shard.now c.answer_prove.new.shard c.args.replies.now.bytes c.answer_prove.new.replies.bytes c.answer_prove.result) (sym c.in-Prove.is) (c.answer_prove.ensures limits forks is)
