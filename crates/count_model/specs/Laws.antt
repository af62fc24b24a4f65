-- What the laws over the definitions speak of.
use Rattle.std.specs.Prelude.{◌≡◌, ◌≢◌, ℕ, List, Contains, IsTrue}
use Rattle.std.specs.Ordering.{nat_cmp, is_le}
use Rattle.std.specs.Cmp.Lexicographic.{slice_cmp}
use Rattle.trie_model.specs.Root.{zero_digest}

-- A text of some and a different one of others have this name.
pub record IsShared (name : List ℕ → List ℕ) (texts others : List (List ℕ)) (digest : List ℕ) : Type 0 where
  pub one : List ℕ
  pub other : List ℕ
  pub first : Contains texts one
  pub second : Contains others other
  pub different : one ≢ other
  pub is_of_one : name one ≡ digest
  pub is_of_other : name other ≡ digest

-- Or a text of some has it, and it is the zero one.
pub data ClashesWith (name : List ℕ → List ℕ) (held made : List (List ℕ)) (digest : List ℕ) : Type 0 where
  zero_name : (t : List ℕ) → Contains made t → name t ≡ digest → digest ≡ zero_digest → ClashesWith name held made digest
  shared_name : IsShared name made held digest → ClashesWith name held made digest

-- the least of the digests with a property
pub record IsLeast (P : List ℕ → Type 0) (digest : List ℕ) : Type 0 where
  pub has : P digest
  pub least : (other : List ℕ) → P other → IsTrue (is_le (slice_cmp nat_cmp digest other))
