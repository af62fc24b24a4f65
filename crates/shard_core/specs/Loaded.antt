-- What is told of a shard as a store of texts.
use Rattle.std.specs.Prelude.{◌≡◌, None}
use Rattle.text_store.specs.Store.{Store}
use Rattle.shard_core.specs.Shards.{ShardState}

-- Two shards have the same blocks, maps, limits and ledgers, and agree in whether a call was cut short. Their stores are alike.
pub record AreAlike {N : Type 0} (store : Store N) (old new : ShardState N) : Type 0 where
  pub nodes : store.alike old.nodes new.nodes
  pub rest : new ≡ record old { nodes = new.nodes }

-- the texts, loads and faults of its store
abbrev pub shard_store : {N : Type 0} → Store N → Store (ShardState N)
shard_store store = record {
  texts = λ s. store.texts s.nodes;
  loads = λ s. store.loads s.nodes;
  faults = λ s. store.faults s.nodes;
  kept = λ s. None;
  alike = AreAlike store;
}
