-- What reading a live block's trie leaves of a shard: the same blocks, and the loads that are defined.
use Rattle.std.proofs.Common.{◌≡◌, ℕ, Bool, true, false, List, length, Option, None, Some, Result, Ok, Err, refl, sym, ap, subst, ◌↔◌, ◌∙◌, arith}
use Rattle.std.specs.Prelude.{⊤}
use Rattle.std.specs.Borrow.{Bor}
use Rattle.std.specs.Option.{IsSomeAnd, option_copied, option_map}
use Rattle.std.specs.FinMap.{get}
use Rattle.byte_model.specs.Nibbles.{AreBytes}
use Rattle.trie_model.specs.State.{State, IsState}
use Rattle.trie_model.specs.Root as trie
use Rattle.trie_model.specs.Root.{Holds, Table, total}
use Rattle.fork_model.specs.Trees.{is_live}
use Rattle.fork_model.specs.States.{ForkState, state_at, tree_of_blocks}
use Rattle.visit_model.specs.Visits.{lookup_visits, top_visits}
use Rattle.count_model.specs.Counts.{in_state}
use Rattle.count_model.specs.Loads.{Access, loads, look_up, lookup_loads, tell_usage, usage_loads}
use Rattle.count_model.specs.Tables.{HoldsCounted}
use Rattle.count_model.proofs.Loaded.{lookup-loaded, usage-loaded}
use Rattle.base_core.specs.Faults.{risen}
use Rattle.text_store.specs.Leaves.{CountsLoads, Leaves}
use Rattle.text_store.specs.Store.{Store}
use Rattle.trie_read.specs.declared.errors.ReadError.{ReadError}
use Rattle.trie_read.specs.Lookups.{AnswersState}
use Rattle.trie_read.specs.Usages.{AnswersTotal}
use Rattle.shard_core.specs.KeptTries.{AreTriesOf}
use Rattle.shard_core.specs.Ledgers.{LedgerState, Ledgers}
use Rattle.shard_core.specs.Shards.{IsShardOf, ShardState}
use Rattle.shard_core.specs.ShardAnswers.{LeavesReading, trie_ended}
use Rattle.shard_core.specs.declared.errors.TrieError.{TrieError}
use Rattle.shard_core.specs.declared.errors.TrieError.TheVariants.{Stopped, NotLive, StoreFault}
use Rattle.shard_core.proofs.Behind.{state-live}
use Rattle.shard_core.proofs.OfBlocks.{holds-there, root-at, state-there, state-there_is}

differ : true ≡ false → ⊥
differ e = cc

pub tries-alike : (texts later : Table) (count_of count_after : List ℕ → ℕ) (ledgers : Ledgers) (blocks : ForkState) → texts ≡ later → ((digest : List ℕ) → count_of digest ≡ count_after digest) → AreTriesOf texts count_of ledgers blocks → AreTriesOf later count_after ledgers blocks
tries-alike texts later count_of count_after ledgers blocks same counts is = record {
  blocks = is.blocks;
  states = is.states;
  held = subst (λ (m : Table). HoldsCounted m blocks) same is.held;
  counts = λ digest. sym (counts digest) ∙ is.counts digest;
  each = is.each;
}

-- of a block that is not live nothing is loaded
none-at : (blocks : ForkState) (id : List ℕ) → is_live (tree_of_blocks blocks) id ≡ false → state_at blocks id ≡ None
none-at blocks id dead = by_case (state_at blocks id) refl
  where
    by_case : (o : Option State) → state_at blocks id ≡ o → state_at blocks id ≡ None
    by_case None e = e
    by_case (Some state) e = absurd (differ (sym (state-live blocks id state e) ∙ dead))

-- a read that came to no load
module _ {N : Type 0} (store : Store N) (count_of : N → List ℕ → ℕ) (itself : (a : N) → store.alike a a) (access : Access) (shard : ShardState N) {X : Type 0} where
  leaves-unread : shard.stopped ≡ false → ((blocks : ForkState) → IsShardOf store count_of blocks shard → loads shard.limits.blocks blocks access ≡ 0) → LeavesReading {X = X} store count_of access shard shard (Err NotLive)
  leaves-unread going none = record {
    state = λ blocks is. is;
    rest = refl;
    going = refl;
    limits = refl;
    alike = itself shard.nodes;
    loads = λ blocks _ is. no_more (store.loads shard.nodes) ∙ ap (risen (store.loads shard.nodes)) (sym (none blocks is));
    faults = refl;
    asleep = λ stopped. absurd (differ (sym stopped ∙ going));
  }
    where
      no_more : (n : ℕ) → n ≡ risen n 0
      no_more n = omega arith

module _ {N : Type 0} (store : Store N) (count_of : N → List ℕ → ℕ) (itself : (a : N) → store.alike a a) (id : List ℕ) (shard : ShardState N) (going : shard.stopped ≡ false) (dead : is_live shard.forks.tree id ≡ false) where
  gone : (blocks : ForkState) → IsShardOf store count_of blocks shard → state_at blocks id ≡ None
  gone blocks is = none-at blocks id (subst (λ t. is_live t id ≡ false) is.tree dead)

  pub leaves-no_usage : {X : Type 0} → LeavesReading {X = X} store count_of (tell_usage id) shard shard (Err NotLive)
  unfolding loads
  leaves-no_usage = leaves-unread store count_of itself (tell_usage id) shard going (λ blocks is. ap (in_state usage_loads) (gone blocks is))

  pub leaves-no_lookup : {X : Type 0} (key : List ℕ) → LeavesReading {X = X} store count_of (look_up id key) shard shard (Err NotLive)
  unfolding loads
  leaves-no_lookup key = leaves-unread store count_of itself (look_up id key) shard going (λ blocks is. ap (in_state (λ state. lookup_loads state key)) (gone blocks is))

-- a read that loaded
module _ {N : Type 0} (store : Store N) (count_of : N → List ℕ → ℕ) (alike_texts : (a b : N) → store.alike a b → store.texts a ≡ store.texts b) (alike_counts : (a b : N) → store.alike a b → (digest : List ℕ) → count_of a digest ≡ count_of b digest) (access : Access) (shard : ShardState N) (new : N) (digests : List (List ℕ)) {X : Type 0} (result : Result X TrieError) where
  pub leaves-read : shard.stopped ≡ false → Leaves store shard.nodes new digests (trie_ended result) → ((blocks : ForkState) → IsShardOf store count_of blocks shard → length digests ≡ loads shard.limits.blocks blocks access) → LeavesReading store count_of access shard (record shard { nodes = new }) result
  leaves-read going left loaded = record {
    state = λ blocks is. record {
      tries = tries-alike _ _ _ _ _ _ (alike_texts shard.nodes new left.same) (alike_counts shard.nodes new left.same) is.tries;
      tree = is.tree;
      flat = is.flat;
      few = is.few;
    };
    rest = refl;
    going = refl;
    limits = refl;
    alike = left.same;
    loads = λ blocks _ is. subst (CountsLoads (trie_ended result) (store.loads shard.nodes) (store.loads new)) (loaded blocks is) left.loaded;
    faults = left.counted;
    asleep = λ stopped. absurd (differ (sym stopped ∙ going));
  }

-- ---- what it answers

-- of a live block's trie
abbrev pub Answered : {X : Type 0} → Result X TrieError → Type 0
Answered (Ok found) = ⊤
Answered (Err Stopped) = ⊥
Answered (Err NotLive) = ⊥
Answered (Err StoreFault) = ⊤

pub answered-going : {X : Type 0} (result : Result X TrieError) → Answered result → (stopped : Bool) → stopped ≡ false → (result ≡ Err Stopped) ↔ (stopped ≡ true)
answered-going result answered stopped going = (λ same. absurd (subst Answered same answered), λ yes. absurd (differ (sym yes ∙ going)))

pub answered-live : {X : Type 0} (result : Result X TrieError) → Answered result → (live : Bool) → live ≡ true → (result ≡ Err NotLive) ↔ (live ≡ false)
answered-live result answered live is = (λ same. absurd (subst Answered same answered), λ no. absurd (differ (sym is ∙ no)))

-- of a block that is not live
abbrev pub Unread : {X : Type 0} → Result X TrieError → Type 0
Unread (Ok found) = ⊥
Unread (Err Stopped) = ⊥
Unread (Err NotLive) = ⊤
Unread (Err StoreFault) = ⊥

pub unread-going : {X : Type 0} (result : Result X TrieError) → Unread result → (stopped : Bool) → stopped ≡ false → (result ≡ Err Stopped) ↔ (stopped ≡ true)
unread-going result unread stopped going = (λ same. absurd (subst Unread same unread), λ yes. absurd (differ (sym yes ∙ going)))

-- ---- by its visits

module _ {N : Type 0} (store : Store N) (count_of : N → List ℕ → ℕ) (blocks : ForkState) (shard : ShardState N) (is : IsShardOf store count_of blocks shard) (id : List ℕ) (live : is_live shard.forks.tree id ≡ true) (root : List ℕ) (told : Some root ≡ option_map (λ (l : LedgerState). l.root) (get shard.ledgers id)) where
  pub there : (state : State) × (state_at blocks id ≡ Some state)
  there = state-there store count_of blocks shard is id live

  pub root-of_there : root ≡ trie.root there.0
  root-of_there = root-at store count_of blocks shard is id live root told there.0 there.1

  pub holds-of_there : Holds (store.texts shard.nodes) there.0
  holds-of_there = holds-there store count_of blocks shard is id there.0 there.1

  pub is-of_there : IsState there.0
  is-of_there = state-there_is store count_of blocks shard is id there.0 there.1

  pub there-has : (P : State → Type 0) → P there.0 → IsSomeAnd (state_at blocks id) P
  there-has P has = subst (λ o. IsSomeAnd o P) (sym there.1) has

  pub loads-usage : length (top_visits (store.texts shard.nodes) root).digests ≡ loads shard.limits.blocks blocks (tell_usage id)
  unfolding loads
  loads-usage =
      ap (λ r. length (top_visits (store.texts shard.nodes) r).digests) root-of_there
      ∙ usage-loaded (store.texts shard.nodes) there.0 holds-of_there is-of_there
      ∙ ap (in_state usage_loads) (sym there.1)

  pub loads-lookup : (key : List ℕ) → AreBytes key → length (lookup_visits (store.texts shard.nodes) root key).digests ≡ loads shard.limits.blocks blocks (look_up id key)
  unfolding loads
  loads-lookup key bytes =
      ap (λ r. length (lookup_visits (store.texts shard.nodes) r key).digests) root-of_there
      ∙ lookup-loaded (store.texts shard.nodes) there.0 holds-of_there is-of_there key bytes
      ∙ ap (in_state (λ state. lookup_loads state key)) (sym there.1)

  -- the store has all texts of the state, so no reading of it is refused
  met-usage : (result : Result ℕ ReadError) → ((state : State) → Holds (store.texts shard.nodes) state → IsState state → root ≡ trie.root state → AnswersTotal (total state) result) → AnswersTotal (total there.0) result
  met-usage result answers = answers there.0 holds-of_there is-of_there root-of_there

  pub unmet-usage : (error other : ReadError) → error ≡ other → ((state : State) → Holds (store.texts shard.nodes) state → IsState state → root ≡ trie.root state → AnswersTotal (total state) (Err error)) → AnswersTotal (total there.0) (Err other)
  unmet-usage error other same answers = subst (λ e. AnswersTotal (total there.0) (Err e)) same (met-usage (Err error) answers)

  pub usage-told : (usage : ℕ) → ((state : State) → Holds (store.texts shard.nodes) state → IsState state → root ≡ trie.root state → AnswersTotal (total state) (Ok usage)) → IsSomeAnd (state_at blocks id) (λ state. usage ≡ total state)
  usage-told usage answers = there-has (λ state. usage ≡ total state) (met-usage (Ok usage) answers)

  met-lookup : (key : List ℕ) (result : Result (Option (Bor (List ℕ))) ReadError) → ((state : State) → Holds (store.texts shard.nodes) state → IsState state → root ≡ trie.root state → AnswersState (get state key) result) → AnswersState (get there.0 key) result
  met-lookup key result answers = answers there.0 holds-of_there is-of_there root-of_there

  pub unmet-lookup : (key : List ℕ) (error other : ReadError) → error ≡ other → ((state : State) → Holds (store.texts shard.nodes) state → IsState state → root ≡ trie.root state → AnswersState (get state key) (Err error)) → AnswersState (get there.0 key) (Err other)
  unmet-lookup key error other same answers = subst (λ e. AnswersState (get there.0 key) (Err e)) same (met-lookup key (Err error) answers)

  pub value-told : (key : List ℕ) (found : Option (Bor (List ℕ))) → ((state : State) → Holds (store.texts shard.nodes) state → IsState state → root ≡ trie.root state → AnswersState (get state key) (Ok found)) → IsSomeAnd (state_at blocks id) (λ state. option_copied found ≡ get state key)
  value-told key found answers = there-has (λ state. option_copied found ≡ get state key) (met-lookup key (Ok found) answers)
