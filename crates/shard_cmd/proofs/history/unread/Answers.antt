use Rattle.script_model.specs.Bounds.{IsAsked}
use Rattle.shard_cmd.proofs.history.unread.Goals as goal

pub returns-in-Flat-clause-within : goal.returns-in-Flat-clause-within
unfolding IsAsked
returns-in-Flat-clause-within c = tt

pub returns-in-Trie-clause-within : goal.returns-in-Trie-clause-within
unfolding IsAsked
returns-in-Trie-clause-within c = tt

pub returns-in-Same-clause-within : goal.returns-in-Same-clause-within
unfolding IsAsked
returns-in-Same-clause-within c = tt

pub returns-in-Usage-clause-within : goal.returns-in-Usage-clause-within
unfolding IsAsked
returns-in-Usage-clause-within c = tt

pub returns-in-Stats-clause-within : goal.returns-in-Stats-clause-within
unfolding IsAsked
returns-in-Stats-clause-within c = tt
