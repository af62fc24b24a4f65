-- How a run ends and what it has written then. Want of memory and faults of the outside are no part of it.
use Rattle.std.specs.Prelude.{ℕ, List, [], ◌∷◌, ◌++◌, codes}
use Rattle.std.specs.Fmt.{decimal}
use Rattle.hex.specs.Hex.{encode_lower}
use Rattle.script_model.specs.Lines.{line_feed}

-- All was written; the words are no command; a line is none of a script or stands where it may not, or bytes are no recording; what was asked for is refused by name; texts clash.
pub data Ending : Type 0 where
  done : Ending
  usage : Ending
  syntax : Ending
  refused : Ending
  clash : Ending

pub record Output : Type 0 where
  pub bytes : List ℕ
  pub ending : Ending

-- how much a run takes in: pairs of a state, live blocks, keys changed by a block
pub record RunLimits : Type 0 where
  pub pairs : ℕ
  pub blocks : ℕ
  pub changes : ℕ

-- one line
abbrev pub line_of : List ℕ → List ℕ
line_of text = text ++ line_feed ∷ []

abbrev pub bad_command : Output
bad_command = record { bytes = line_of (codes "bad command"); ending = usage }

-- the line with this number is refused, or the byte at this offset
abbrev pub syntax_at : ℕ → Output
syntax_at number = record { bytes = line_of (codes "syntax " ++ decimal number); ending = syntax }

-- the state would have more pairs than it may
abbrev pub full_pairs : Output
full_pairs = record { bytes = line_of (codes "refused full-pairs"); ending = refused }

-- a block is asked for that is not live
abbrev pub not_live : Output
not_live = record { bytes = line_of (codes "refused not-live"); ending = refused }

-- what was asked for is refused by this name, with a place, or with a digest
abbrev pub refused_place : (name : List ℕ) (place : ℕ) → Output
refused_place name place = record { bytes = line_of (codes "refused " ++ name ++ codes " " ++ decimal place); ending = refused }

abbrev pub refused_digest : (name digest : List ℕ) → Output
refused_digest name digest = record { bytes = line_of (codes "refused " ++ name ++ codes " " ++ encode_lower digest); ending = refused }

-- texts clash, with this digest
abbrev pub clash_at : (digest : List ℕ) → Output
clash_at digest = record { bytes = line_of (codes "clash " ++ encode_lower digest); ending = clash }
