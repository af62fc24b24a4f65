use Rattle.std.proofs.Common.{Err, sym, ap}
use Rattle.std.specs.Prelude.{codes, ◌++◌}
use Rattle.count_model.specs.Loads.{look_up}
use Rattle.output_model.specs.Ends.{line_of}
use Rattle.output_model.specs.Readings.{read_text}
use Rattle.shard_cmd.proofs.Answered.{appended, no_state_at, reads_not_live}
use Rattle.shard_cmd.proofs.readings.read_trie.Goals as goal

pub returns-in-Err-NotLive : goal.returns-in-Err-NotLive
returns-in-Err-NotLive g c = λ limits forks is.
    let none = no_state_at forks c.args.shard.now.forks.tree c.args.id.now.0 is.of.tree ((c.in-Err-NotLive.ensures.not_live c.requires.going).0 (ap Err c.in-Err-NotLive.field-0-is)) in
    rw c.gathered-in-Err-NotLive.ensures (reads_not_live g.N.Texts.store g.N.Nodes.count_of limits forks (look_up c.args.id.now.0 c.args.key.now) c.args.shard.now c.trie.follows.lender-at-none c.args.replies.now.bytes _ (line_of (codes "trie refused not-live")) _ c.put-in-Err-NotLive.result is
    (rw (c.in-Err-NotLive.is, c.in-Err-NotLive.field-0-is) at c.trie.follows.holds-at-none)
    (ap (λ o. line_of (codes "trie " ++ read_text o c.args.key.now)) (sym none))
    (appended c.args.replies.now.bytes _ (line_of (codes "trie refused not-live")) c.put-in-Err-NotLive.result c.put-in-Err-NotLive.ensures.written))
