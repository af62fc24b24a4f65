-- What a shard keeps of live blocks with their states.
use Rattle.std.specs.Prelude.{◌≡◌, ℕ, ◌≤◌, Bool, false, List, refl}
use Rattle.std.specs.List.{AllByRecursion}
use Rattle.std.specs.FinMap as map
use Rattle.std.specs.FinMap.{len}
use Rattle.std.specs.Coded.{Coded, code_by, coded×, coded_ℕ, coded_list, coded_bool}
use Rattle.fork_model.specs.States.{ForkState, tree_of_blocks}
use Rattle.base_core.specs.Bounds.{AreLimits}
use Rattle.base_core.specs.declared.limits.Limits.{Limits}
use Rattle.text_store.specs.Store.{Store}
use Rattle.fork_tree.specs.Kept.{ForkTree, fork_tree_code}
use Rattle.flat_store.specs.Flats.{FlatState, IsFlatOf, flat_state_code}
use Rattle.shard_core.specs.KeptTries.{AreTriesOf}
use Rattle.shard_core.specs.Ledgers.{LedgerState, Ledgers, ledgers_of}
use Rattle.shard_core.specs.declared.tries.Tries.{Tries}

-- The store, the ledgers of live blocks, the tree of these, their flat storage, the limits, and whether an earlier call was cut short.
pub record ShardState (N : Type 0) : Type 0 where
  pub nodes : N
  pub ledgers : Ledgers
  pub forks : ForkTree
  pub flat : FlatState
  pub limits : Limits
  pub stopped : Bool

-- the code of its fields
abbrev ledger_code : Coded LedgerState
ledger_code =
    code_by ((List ℕ × ℕ) × (List (List ℕ × ℕ) × List (List ℕ × ℕ))) (coded× (coded× (coded_list coded_ℕ) coded_ℕ) (coded× (coded_list (coded× (coded_list coded_ℕ) coded_ℕ)) (coded_list (coded× (coded_list coded_ℕ) coded_ℕ))))
    (λ l. ((l.root, l.pairs), (l.gains, l.losses)))
    (λ p. record { root = p.0.0; pairs = p.0.1; gains = p.1.0; losses = p.1.1 })
    (λ _. refl)

abbrev limits_code : Coded Limits
limits_code = code_by (ℕ × (ℕ × ℕ)) (coded× coded_ℕ (coded× coded_ℕ coded_ℕ)) (λ l. (l.pairs, (l.blocks, l.changes))) (λ p. record { pairs = p.0; blocks = p.1.0; changes = p.1.1 }) (λ _. refl)

abbrev pub shard_state_code : {N : Type 0} → Coded N → Coded (ShardState N)
shard_state_code {N} nodes_code =
    code_by ((N × Ledgers) × ((ForkTree × FlatState) × (Limits × Bool)))
    (coded× (coded× nodes_code (map.code (coded_list coded_ℕ) ledger_code)) (coded× (coded× fork_tree_code flat_state_code) (coded× limits_code coded_bool)))
    (λ s. ((s.nodes, s.ledgers), ((s.forks, s.flat), (s.limits, s.stopped))))
    (λ p. record { nodes = p.0.0; ledgers = p.0.1; forks = p.1.0.0; flat = p.1.0.1; limits = p.1.1.0; stopped = p.1.1.1 })
    (λ _. refl)

-- of its parts, while it is going
abbrev pub shard_of : {N : Type 0} → Tries N → ForkTree → FlatState → Limits → ShardState N
shard_of tries forks flat limits = record { nodes = tries.nodes; ledgers = ledgers_of tries.ledgers.entries; forks = forks; flat = flat; limits = limits; stopped = false }

-- What it keeps is of these blocks: their tries, their tree and their flat storage. None of their states has more pairs than it may have.
pub record IsShardOf {N : Type 0} (store : Store N) (count_of : N → List ℕ → ℕ) (blocks : ForkState) (shard : ShardState N) : Type 0 where
  pub tries : AreTriesOf (store.texts shard.nodes) (count_of shard.nodes) shard.ledgers blocks
  pub tree : shard.forks.tree ≡ tree_of_blocks blocks
  pub flat : IsFlatOf blocks shard.flat
  pub few : AllByRecursion (λ block. len block.state ≤ shard.limits.pairs) blocks.blocks

-- Unless a call was cut short, there are blocks of which it is a shard.
pub record IsShard {N : Type 0} (store : Store N) (count_of : N → List ℕ → ℕ) (shard : ShardState N) : Type 0 where
  pub limits : AreLimits shard.limits
  pub most : shard.forks.most ≡ shard.limits.blocks
  pub going : shard.stopped ≡ false → (blocks : ForkState) × IsShardOf store count_of blocks shard
