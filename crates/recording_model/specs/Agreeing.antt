-- When texts of a stranger can't be taken for other texts of a state.
use Rattle.std.specs.Prelude.{◌≡◌, ℕ, List, Some, Contains}
use Rattle.std.specs.FinMap.{get}
use Rattle.sha2.specs.Sha256.{sha256}
use Rattle.trie_model.specs.State.{State}
use Rattle.partial_model.specs.Texts.{Rise}
use Rattle.trie_model.specs.Root.{Table, texts_of}

-- Under the digest of a text of the state a table has that text, or none.
abbrev pub Agrees : Table → State → Type 0
Agrees table state = (t text : List ℕ) → Contains (texts_of state) t → get table (sha256 t) ≡ Some text → t ≡ text

-- A table has some texts, which rise, each under its digest, and no others.
pub record IsTableOf (table : Table) (texts : List (List ℕ)) : Type 0 where
  pub rise : Rise texts
  pub held : (text : List ℕ) → Contains texts text → get table (sha256 text) ≡ Some text
  pub only : (digest text : List ℕ) → get table digest ≡ Some text → Contains texts text
