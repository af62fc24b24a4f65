use Rattle.std.proofs.Common.{None, ap, refl}
use Rattle.count_model.specs.Loads.{look_up, tell_usage}
use Rattle.output_model.specs.Readings.{flat_line, trie_line, same_line, usage_line, stats_line}
use Rattle.script_io.specs.Meanings.{event}
use Rattle.script_model.specs.Lines as lines
use Rattle.shard_cmd.specs.Ends.{run_limits}
use Rattle.shard_cmd.proofs.Histories.{begins, stays, misplaced, calm_steps, looked_up, reading_steps}
use Rattle.shard_cmd.proofs.history.step_outside.Goals as goal

pub returns-in-Nothing : goal.returns-in-Nothing
returns-in-Nothing g c = λ forks is. rw c.in-Nothing.is (stays g.N.Texts.store g.N.Nodes.count_of (run_limits c.args.limits.now) forks None None lines.nothing c.args.shard.now c.args.replies.now.bytes (λ number. refl) refl is tt)

pub returns-in-Open : goal.returns-in-Open
returns-in-Open g c = λ forks is. rw c.in-Open.is (begins g.N.Texts.store g.N.Nodes.count_of (run_limits c.args.limits.now) forks c.in-Open.id c.in-Open.prev c.in-Open.height c.new.result c.args.shard.now c.args.replies.now.bytes c.new.ensures.changes c.new.ensures.most is)

pub returns-in-Head : goal.returns-in-Head
returns-in-Head g c = λ forks is. rw (c.in-Head.is, c.outside.ensures) (c.move_head.ensures (run_limits c.args.limits.now) forks is)

pub returns-in-Set : goal.returns-in-Set
returns-in-Set g c = λ forks is. rw c.in-Set.is (misplaced g.N.Texts.store g.N.Nodes.count_of (run_limits c.args.limits.now) forks None _ c.args.shard.now c.args.replies.now.bytes (λ number. refl) refl is)

pub returns-in-Del : goal.returns-in-Del
returns-in-Del g c = λ forks is. rw c.in-Del.is (misplaced g.N.Texts.store g.N.Nodes.count_of (run_limits c.args.limits.now) forks None _ c.args.shard.now c.args.replies.now.bytes (λ number. refl) refl is)

pub returns-in-Flat : goal.returns-in-Flat
returns-in-Flat g c = λ forks is. rw (c.in-Flat.is, c.outside-in-Flat.ensures) (calm_steps g.N.Texts.store g.N.Nodes.count_of (run_limits c.args.limits.now) forks (lines.flat c.in-Flat.id.0 c.in-Flat.key) c.args.shard.now c.args.replies.now.bytes _ (flat_line forks c.in-Flat.id.0 c.in-Flat.key) c.read_flat.result (λ number. refl) refl c.read_flat.ensures.no_fault is (rw c.as_slice.ensures at (c.read_flat.ensures.reply (run_limits c.args.limits.now) forks is)))

pub read_trie-requires-clause-key : goal.read_trie-requires-clause-key
read_trie-requires-clause-key g c = rw c.as_slice-in-Trie.ensures ((looked_up (event c.args.asked) c.in-Trie.id.0 c.in-Trie.key (ap event c.in-Trie.is) c.requires.within).short)

pub returns-in-Trie : goal.returns-in-Trie
returns-in-Trie g c = λ forks is. rw (c.in-Trie.is, c.outside-in-Trie.ensures) (reading_steps g.N.Texts.store g.N.Nodes.count_of (run_limits c.args.limits.now) forks (look_up c.in-Trie.id.0 c.in-Trie.key) (lines.trie c.in-Trie.id.0 c.in-Trie.key) c.args.shard.now c.read_trie.new.shard c.args.replies.now.bytes _ (trie_line forks c.in-Trie.id.0 c.in-Trie.key) c.read_trie.result (λ number. refl) refl (rw c.as_slice-in-Trie.ensures at (c.read_trie.ensures (run_limits c.args.limits.now) forks is)))

pub returns-in-Same : goal.returns-in-Same
returns-in-Same g c = λ forks is. rw (c.in-Same.is, c.outside-in-Same.ensures) (calm_steps g.N.Texts.store g.N.Nodes.count_of (run_limits c.args.limits.now) forks (lines.same c.in-Same.a.0 c.in-Same.b.0) c.args.shard.now c.args.replies.now.bytes _ (same_line forks c.in-Same.a.0 c.in-Same.b.0) c.read_same.result (λ number. refl) refl c.read_same.ensures.no_fault is (c.read_same.ensures.reply (run_limits c.args.limits.now) forks is))

pub returns-in-Usage : goal.returns-in-Usage
returns-in-Usage g c = λ forks is. rw (c.in-Usage.is, c.outside-in-Usage.ensures) (reading_steps g.N.Texts.store g.N.Nodes.count_of (run_limits c.args.limits.now) forks (tell_usage c.in-Usage.id.0) (lines.usage c.in-Usage.id.0) c.args.shard.now c.read_usage.new.shard c.args.replies.now.bytes _ (usage_line forks c.in-Usage.id.0) c.read_usage.result (λ number. refl) refl (c.read_usage.ensures (run_limits c.args.limits.now) forks is))

pub returns-in-Stats : goal.returns-in-Stats
returns-in-Stats g c = λ forks is. rw (c.in-Stats.is, c.outside-in-Stats.ensures) (calm_steps g.N.Texts.store g.N.Nodes.count_of (run_limits c.args.limits.now) forks lines.stats c.args.shard.now c.args.replies.now.bytes _ (stats_line forks) c.read_stats.result (λ number. refl) refl c.read_stats.ensures.no_fault is (c.read_stats.ensures.reply (run_limits c.args.limits.now) forks is))

pub returns : goal.returns
returns g c = λ forks is. rw c.in-End.is (misplaced g.N.Texts.store g.N.Nodes.count_of (run_limits c.args.limits.now) forks None _ c.args.shard.now c.args.replies.now.bytes (λ number. refl) refl is)
