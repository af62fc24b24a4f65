-- The types of this crate as the definitions of the script language have them.
use Rattle.std.specs.Prelude.{◌≡◌, ℕ, List, map, Option, Some, None, IsSome, Result, Ok, Err}
use Rattle.script_model.specs.Words as words
use Rattle.script_model.specs.Lines as lines
use Rattle.script_model.specs.Lines.{both}
use Rattle.script_model.specs.Spellings.{key_of, value_of}
use Rattle.script_io.specs.declared.op_list.Op.{Op}
use Rattle.script_io.specs.declared.op_list.Op.TheVariants as ops
use Rattle.script_io.specs.declared.command.Command.{Command}
use Rattle.script_io.specs.declared.command.Command.TheVariants.{Root, Apply, Get, Prove, Replay}
use Rattle.script_io.specs.declared.event.Event.{Event}
use Rattle.script_io.specs.declared.event.Event.TheVariants.{Nothing, Open, Set, Del, End, Head, Flat, Trie, Same, Usage, Stats}
use Rattle.script_io.specs.declared.event.EventError.{EventError}
use Rattle.script_io.specs.declared.event.EventError.TheVariants.{Bad, NoMemory}

abbrev pub op : Op → words.Op
op (ops.Read key) = words.read key
op (ops.Set key value) = words.set key value
op (ops.Delete key) = words.delete key

abbrev pub command : Command → words.Command
command Root = words.root
command Apply = words.apply
command (Get id key) = words.get id.0 key
command (Prove id asked) = words.prove id.0 (map op asked)
command Replay = words.replay

abbrev pub event : Event → lines.Event
event Nothing = lines.nothing
event (Open id prev height) = lines.block id.0 prev.0 height
event (Set key value) = lines.set key value
event (Del key) = lines.delete key
event End = lines.block_end
event (Head id) = lines.head id.0
event (Flat id key) = lines.flat id.0 key
event (Trie id key) = lines.trie id.0 key
event (Same a b) = lines.same a.0 b.0
event (Usage id) = lines.usage id.0
event Stats = lines.stats

-- the key and the value that two texts write, where they do
abbrev pub pair_of : (key value : List ℕ) → Option (List ℕ × List ℕ)
pair_of key value = both (λ k v. (k, v)) (key_of key) (value_of value)

-- What is read of a text, seen by view, is what the text means. It is refused as bad exactly where it means nothing, and for want of memory only where it means something.
abbrev pub IsRead : {X Y : Type 0} → (X → Y) → Option Y → Result X EventError → Type 0
IsRead view meant (Ok found) = meant ≡ Some (view found)
IsRead view meant (Err Bad) = meant ≡ None
IsRead view meant (Err NoMemory) = IsSome meant
