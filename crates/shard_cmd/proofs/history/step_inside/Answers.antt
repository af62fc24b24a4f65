use Rattle.std.proofs.Common.{Some, refl, ap}
use Rattle.script_model.specs.Lines as lines
use Rattle.script_io.specs.Meanings.{event}
use Rattle.shard_cmd.proofs.Histories.{calm, does_with, stays, misplaced}
use Rattle.shard_cmd.proofs.Puts.{pair_of, deleted_key}
use Rattle.shard_cmd.proofs.history.step_inside.Goals as goal

pub set-requires : goal.set-requires
set-requires g c = pair_of (event c.args.asked) _ _ (ap event c.in-Set.is) c.requires.within

pub delete-requires : goal.delete-requires
delete-requires g c = deleted_key (event c.args.asked) _ (ap event c.in-Del.is) c.requires.within

pub returns-in-Nothing : goal.returns-in-Nothing
returns-in-Nothing g c = λ limits forks is opened. rw c.in-Nothing.is (stays g.N.Texts.store g.N.Nodes.count_of limits forks (Some c.args.block) (Some c.args.block) lines.nothing c.args.shard.now c.args.replies.now.bytes (λ number. refl) refl is opened)

pub returns-in-Set : goal.returns-in-Set
returns-in-Set g c = λ limits forks is opened. rw c.in-Set.is (calm g.N.Texts.store g.N.Nodes.count_of limits forks (Some c.args.block) _ c.args.shard.now c.args.replies.now.bytes c.args.replies.now.bytes c.set.result refl c.set.ensures.no_fault (does_with g.N.Texts.store g.N.Nodes.count_of limits forks (Some c.args.block) _ c.args.shard.now c.args.replies.now.bytes c.args.replies.now.bytes c.set.result is (c.set.ensures.does limits forks c.args.replies.now.bytes opened)))

pub returns-in-Del : goal.returns-in-Del
returns-in-Del g c = λ limits forks is opened. rw c.in-Del.is (calm g.N.Texts.store g.N.Nodes.count_of limits forks (Some c.args.block) _ c.args.shard.now c.args.replies.now.bytes c.args.replies.now.bytes c.delete.result refl c.delete.ensures.no_fault (does_with g.N.Texts.store g.N.Nodes.count_of limits forks (Some c.args.block) _ c.args.shard.now c.args.replies.now.bytes c.args.replies.now.bytes c.delete.result is (c.delete.ensures.does limits forks c.args.replies.now.bytes opened)))

pub returns-in-End : goal.returns-in-End
returns-in-End g c = λ limits forks is opened. rw (c.in-End.is, c.outside.ensures) (c.end.ensures limits forks is)

pub returns-in-Open : goal.returns-in-Open
returns-in-Open g c = λ limits forks is opened. rw c.in-Open.is (misplaced g.N.Texts.store g.N.Nodes.count_of limits forks (Some c.args.block) _ c.args.shard.now c.args.replies.now.bytes (λ number. refl) refl is)

pub returns-in-Head : goal.returns-in-Head
returns-in-Head g c = λ limits forks is opened. rw c.in-Head.is (misplaced g.N.Texts.store g.N.Nodes.count_of limits forks (Some c.args.block) _ c.args.shard.now c.args.replies.now.bytes (λ number. refl) refl is)

pub returns-in-Flat : goal.returns-in-Flat
returns-in-Flat g c = λ limits forks is opened. rw c.in-Flat.is (misplaced g.N.Texts.store g.N.Nodes.count_of limits forks (Some c.args.block) _ c.args.shard.now c.args.replies.now.bytes (λ number. refl) refl is)

pub returns-in-Trie : goal.returns-in-Trie
returns-in-Trie g c = λ limits forks is opened. rw c.in-Trie.is (misplaced g.N.Texts.store g.N.Nodes.count_of limits forks (Some c.args.block) _ c.args.shard.now c.args.replies.now.bytes (λ number. refl) refl is)

pub returns-in-Same : goal.returns-in-Same
returns-in-Same g c = λ limits forks is opened. rw c.in-Same.is (misplaced g.N.Texts.store g.N.Nodes.count_of limits forks (Some c.args.block) _ c.args.shard.now c.args.replies.now.bytes (λ number. refl) refl is)

pub returns-in-Usage : goal.returns-in-Usage
returns-in-Usage g c = λ limits forks is opened. rw c.in-Usage.is (misplaced g.N.Texts.store g.N.Nodes.count_of limits forks (Some c.args.block) _ c.args.shard.now c.args.replies.now.bytes (λ number. refl) refl is)

pub returns-in-Stats : goal.returns-in-Stats
returns-in-Stats g c = λ limits forks is opened. rw c.in-Stats.is (misplaced g.N.Texts.store g.N.Nodes.count_of limits forks (Some c.args.block) _ c.args.shard.now c.args.replies.now.bytes (λ number. refl) refl is)
