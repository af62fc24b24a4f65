-- What the things keep to that lines ask for.
use Rattle.std.specs.Prelude.{◌≡◌, ℕ, ◌^◌, ◌<◌, ◌≤◌, List, length, ⊤}
use Rattle.std.specs.List.{AllByRecursion}
use Rattle.byte_model.specs.Nibbles.{AreBytes}
use Rattle.byte_model.specs.Node.{digest_width}
use Rattle.trie_model.specs.State.{IsPair, longest_key}
use Rattle.script_model.specs.Lines.{Event, nothing, block, set, delete, block_end, head, flat, trie, same, usage, stats}
use Rattle.script_model.specs.Words as words
use Rattle.script_model.specs.Words.{Op, Command, root, apply, get, prove, replay, most_operations}

pub record IsId (id : List ℕ) : Type 0 where
  pub bytes : AreBytes id
  pub width : length id ≡ digest_width

pub record IsKey (key : List ℕ) : Type 0 where
  pub bytes : AreBytes key
  pub short : length key ≤ longest_key

unfoldable pub IsAsked : Event → Type 0
IsAsked nothing = ⊤
IsAsked (block id prev height) = IsId id × IsId prev × (height < 2 ^ 64)
IsAsked (set key value) = IsPair (key, value)
IsAsked (delete key) = IsKey key
IsAsked block_end = ⊤
IsAsked (head id) = IsId id
IsAsked (flat id key) = IsId id × IsKey key
IsAsked (trie id key) = IsId id × IsKey key
IsAsked (same a b) = IsId a × IsId b
IsAsked (usage id) = IsId id
IsAsked stats = ⊤

-- and what command words ask for
unfoldable pub IsOp : Op → Type 0
IsOp (words.read key) = IsKey key
IsOp (words.set key value) = IsPair (key, value)
IsOp (words.delete key) = IsKey key

unfoldable pub IsCommanded : Command → Type 0
IsCommanded root = ⊤
IsCommanded apply = ⊤
IsCommanded (get id key) = IsId id × IsKey key
IsCommanded (prove id ops) = IsId id × AllByRecursion IsOp ops × (1 ≤ length ops) × (length ops ≤ most_operations)
IsCommanded replay = ⊤
