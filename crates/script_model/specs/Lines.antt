-- A script, line by line. Line feeds end lines and are not counted into them, and what comes behind the last of them is a line too where it has a byte. Between two words stands one space, and spaces stand nowhere else. No line holds a carriage return. The language is this project's own.
use Rattle.std.specs.Prelude.{ℕ, ◌+◌, ◌^◌, ◌==◌, ◌&&◌, nat_le, nat_lt, List, [], ◌∷◌, length, codes, Bool, Option, None, Some, if◌then◌else◌}
use Rattle.std.specs.Option.{option_map}
use Rattle.std.specs.List.{list_any, slice_split, position_or_len, before_first, after_first}
use Rattle.std.specs.Str.{bytes_eq}
use Rattle.script_model.specs.Spellings.{key_of, value_of, id_of, number_of}

abbrev pub line_feed : ℕ
line_feed = 10

abbrev pub is_line_feed : ℕ → Bool
is_line_feed byte = byte == line_feed

abbrev pub is_carriage_return : ℕ → Bool
is_carriage_return byte = byte == 13

abbrev pub is_space : ℕ → Bool
is_space byte = byte == 32

-- what begins a comment
abbrev pub is_hash : ℕ → Bool
is_hash byte = byte == 35

-- ---- what a line asks for

-- A block begins over another, with a height, and ends; keys are set and deleted; the head moves to a block. What is asked of live blocks: a key in flat storage, and in a trie; whether two have one state; the usage of one; and how much is kept.
pub data Event : Type 0 where
  nothing : Event
  block : (id prev : List ℕ) (height : ℕ) → Event
  set : (key value : List ℕ) → Event
  delete : (key : List ℕ) → Event
  block_end : Event
  head : (id : List ℕ) → Event
  flat : (id key : List ℕ) → Event
  trie : (id key : List ℕ) → Event
  same : (a b : List ℕ) → Event
  usage : (id : List ℕ) → Event
  stats : Event

-- what is made of two or three things, where all are there
abbrev pub both : {A B C : Type 0} → (A → B → C) → Option A → Option B → Option C
both make None b = None
both make (Some a) None = None
both make (Some a) (Some b) = Some (make a b)

abbrev pub all_three : {A B C : Type 0} → (A → B → C → Event) → Option A → Option B → Option C → Option Event
all_three make None b c = None
all_three make (Some a) b c = both (make a) b c

-- a word alone, and a word with one, two and three things behind it
abbrev pub event_of_one : List ℕ → Option Event
event_of_one word =
    if bytes_eq word (codes "end") then Some block_end
    else if bytes_eq word (codes "stats") then Some stats
    else None

abbrev pub event_of_two : List ℕ → List ℕ → Option Event
event_of_two word a =
    if bytes_eq word (codes "del") then option_map delete (key_of a)
    else if bytes_eq word (codes "head") then option_map head (id_of a)
    else if bytes_eq word (codes "usage") then option_map usage (id_of a)
    else None

abbrev pub event_of_three : List ℕ → List ℕ → List ℕ → Option Event
event_of_three word a b =
    if bytes_eq word (codes "set") then both set (key_of a) (value_of b)
    else if bytes_eq word (codes "flat") then both flat (id_of a) (key_of b)
    else if bytes_eq word (codes "trie") then both trie (id_of a) (key_of b)
    else if bytes_eq word (codes "same") then both same (id_of a) (id_of b)
    else None

abbrev pub event_of_four : List ℕ → List ℕ → List ℕ → List ℕ → Option Event
event_of_four word a b c = if bytes_eq word (codes "block") then all_three block (id_of a) (id_of b) (number_of c) else None

-- `end`, `stats`, `del K`, `head ID`, `usage ID`, `set K V`, `flat ID K`, `trie ID K`, `same ID ID`, `block ID ID NUM`
abbrev pub event_of_words : List (List ℕ) → Option Event
event_of_words [] = None
event_of_words (word ∷ []) = event_of_one word
event_of_words (word ∷ a ∷ []) = event_of_two word a
event_of_words (word ∷ a ∷ b ∷ []) = event_of_three word a b
event_of_words (word ∷ a ∷ b ∷ c ∷ []) = event_of_four word a b c
event_of_words (word ∷ a ∷ b ∷ c ∷ d ∷ words) = None

-- a comment asks for nothing
abbrev pub comment : List ℕ → Option Event
comment line = if list_any is_carriage_return line then None else Some nothing

-- what the line asks for, if it is one of a script: it is empty, or begins with `#`, or is one of words
unfoldable pub event_of : List ℕ → Option Event
event_of [] = Some nothing
event_of (byte ∷ line) = if is_hash byte then comment line else event_of_words (slice_split is_space (byte ∷ line))

-- ---- lines of an input

-- the most bytes of a line, without its line feed, and of an input
abbrev pub longest_line : ℕ
longest_line = 8400000

abbrev pub longest_input : ℕ
longest_input = 2 ^ 30

-- What stands between line feeds, in order. The last of them is a line where it has a byte.
abbrev pub pieces : List ℕ → List (List ℕ)
pieces input = slice_split is_line_feed input

-- why a line is not read
pub data LineFault : Type 0 where
  long : LineFault
  past : LineFault

-- What is wrong with a line that begins behind so many bytes of the input, its line feed told apart from its length. It may have more bytes than a line may, or go on behind the last byte that an input may have. Of the two the one that is met first counts.
unfoldable pub line_fault : (before length feed : ℕ) → Option LineFault
line_fault before length feed =
    if nat_lt longest_line length && nat_le (before + longest_line) longest_input then Some long
    else if nat_lt longest_input (before + length + feed) then Some past
    else None

-- the line with which bytes begin, how many line feeds end it, and what comes behind
abbrev pub first_line : List ℕ → List ℕ
first_line bytes = before_first is_line_feed bytes

abbrev pub first_feed : List ℕ → ℕ
first_feed bytes = if nat_lt (position_or_len is_line_feed bytes) (length bytes) then 1 else 0

abbrev pub behind_line : List ℕ → List ℕ
behind_line bytes = after_first is_line_feed bytes

-- why the line with which bytes begin is not read, where so many bytes came before
abbrev pub first_fault : ℕ → List ℕ → Option LineFault
first_fault before bytes = line_fault before (length (first_line bytes)) (first_feed bytes)

-- what a line asks for, if it is read
abbrev pub event_if : Option LineFault → List ℕ → Option Event
event_if None line = event_of line
event_if (Some fault) line = None

-- what a line asks for that begins behind so many bytes, if it is read and is one of a script
unfoldable pub read_at : (before feed : ℕ) → List ℕ → Option Event
read_at before feed line = event_if (line_fault before (length line) feed) line
