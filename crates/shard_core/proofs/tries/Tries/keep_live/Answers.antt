use Rattle.std.proofs.Common.{None, cond, ap, ◌∙◌, rules}
use Rattle.std.proofs.lemmas.Map.Made.{filter_same_pairs}
use Rattle.std.specs.FinMap.{get}
use Rattle.fork_model.specs.Trees.{is_live}
use Rattle.shard_core.specs.Ledgers.{ledgers_of}
use Rattle.shard_core.proofs.Tabled.{ledgers-kept}
use Rattle.shard_core.proofs.tries.Tries.keep_live.Goals as goal

pub returns-clause-ledgers : goal.returns-clause-ledgers
returns-clause-ledgers g c = λ id live.
    ledgers-kept _ _ (is_live c.args.forks.now.tree) (filter_same_pairs _ (λ e. is_live c.args.forks.now.tree e.0.0) _ (λ k v b w f' t. search rules) _ _ c.retain.ensures.filtered) id
    ∙ ap (λ b. cond b (get (ledgers_of c.args.self.now.ledgers.entries) id) None) live

pub returns-clause-gone : goal.returns-clause-gone
returns-clause-gone g c = λ id gone.
    ledgers-kept _ _ (is_live c.args.forks.now.tree) (filter_same_pairs _ (λ e. is_live c.args.forks.now.tree e.0.0) _ (λ k v b w f' t. search rules) _ _ c.retain.ensures.filtered) id
    ∙ ap (λ b. cond b (get (ledgers_of c.args.self.now.ledgers.entries) id) None) gone
