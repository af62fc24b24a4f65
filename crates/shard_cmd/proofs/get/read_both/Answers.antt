use Rattle.std.proofs.Common.{Err, ap}
use Rattle.shard_cmd.proofs.Requests.{both_read, first_failed}
use Rattle.shard_cmd.proofs.get.read_both.Goals as goal

pub returns-in-Ok : goal.returns-in-Ok
returns-in-Ok g c = λ limits forks is. both_read g.N.Texts.store g.N.Nodes.count_of limits forks c.args.id.now.0 c.args.key.now c.args.shard.now c.read_trie.new.shard c.args.replies.now.bytes c.read_flat.new.replies.bytes c.read_trie.new.replies.bytes c.read_trie.result (c.in-Ok.ensures.reply limits forks is) (c.read_trie.ensures limits forks is)

pub returns-in-Err : goal.returns-in-Err
returns-in-Err g c = λ limits forks is. first_failed g.N.Texts.store g.N.Nodes.count_of limits forks c.args.id.now.0 c.args.key.now c.args.shard.now c.args.replies.now.bytes c.read_flat.new.replies.bytes c.in-Err.halt is (c.in-Err.ensures.reply limits forks is) (λ e. c.in-Err.ensures.no_fault (ap Err e))
