-- The command words, without the name of the program.
use Rattle.std.specs.Prelude.{ℕ, ◌==◌, nat_le, List, [], ◌∷◌, length, codes, Option, None, Some, if◌then◌else◌, Bool}
use Rattle.std.specs.Option.{option_map}
use Rattle.std.specs.List.{before_first, after_first, list_any}
use Rattle.std.specs.Str.{bytes_eq}
use Rattle.script_model.specs.Spellings.{key_of, value_of, id_of}
use Rattle.script_model.specs.Lines.{both}

-- what is done with one key: it is read, becomes a value, or is deleted
pub data Op : Type 0 where
  read : (key : List ℕ) → Op
  set : (key value : List ℕ) → Op
  delete : (key : List ℕ) → Op

pub data Command : Type 0 where
  root : Command
  apply : Command
  get : (id key : List ℕ) → Command
  prove : (id : List ℕ) (ops : List Op) → Command
  replay : Command

-- ---- operations

abbrev pub is_equals : ℕ → Bool
is_equals byte = byte == 61

-- `K=V`: a key, and behind the first `=` a value
abbrev pub set_of : List ℕ → Option Op
set_of text = if list_any is_equals text then both set (key_of (before_first is_equals text)) (value_of (after_first is_equals text)) else None

-- the operation that a word is, if it is one: `?K`, `+K=V`, `-K`
unfoldable pub op_of : List ℕ → Option Op
op_of [] = None
op_of (byte ∷ text) =
    if byte == 63 then option_map read (key_of text)
    else if byte == 43 then set_of text
    else if byte == 45 then option_map delete (key_of text)
    else None

-- those that some words are, where each is one
unfoldable pub ops_of : List (List ℕ) → Option (List Op)
ops_of [] = Some []
ops_of (word ∷ words) = both (λ op ops. op ∷ ops) (op_of word) (ops_of words)

-- the most operations of a command
abbrev pub most_operations : ℕ
most_operations = 65536

abbrev pub few_ops_of : List (List ℕ) → Option (List Op)
few_ops_of words = if nat_le (length words) most_operations then ops_of words else None

-- ---- commands

-- a word alone, and a word with at least two behind it
abbrev pub command_of_one : List ℕ → Option Command
command_of_one word =
    if bytes_eq word (codes "root") then Some root
    else if bytes_eq word (codes "apply") then Some apply
    else if bytes_eq word (codes "replay") then Some replay
    else None

abbrev pub get_of : List ℕ → List (List ℕ) → Option Command
get_of id (key ∷ []) = both get (id_of id) (key_of key)
get_of id [] = None
get_of id (key ∷ next ∷ words) = None

abbrev pub command_of_more : (word id : List ℕ) → List (List ℕ) → Option Command
command_of_more word id words =
    if bytes_eq word (codes "get") then get_of id words
    else if bytes_eq word (codes "prove") then both prove (id_of id) (few_ops_of words)
    else None

-- The command that the words are, if they are one: `root`, `apply`, `replay`, `get ID K`, `prove ID OP ..` with at least one operation.
abbrev pub command_of : List (List ℕ) → Option Command
command_of [] = None
command_of (word ∷ []) = command_of_one word
command_of (word ∷ id ∷ []) = None
command_of (word ∷ id ∷ next ∷ words) = command_of_more word id (next ∷ words)
