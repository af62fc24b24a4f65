-- Some texts in the order of their bytes, the first that is out of order, and the least digest that two of them share.
use Rattle.std.specs.Prelude.{◌≡◌, ◌≢◌, ℕ, ◌+◌, ◌||◌, nat_eq, Bool, List, [], ◌∷◌, ◌++◌, length, Option, None, Some, if◌then◌else◌, Contains}
use Rattle.std.specs.List.{list_any}
use Rattle.std.specs.List.Sorted.{IsStrictlySortedBy}
use Rattle.std.specs.declared.cmp.Ordering.TheVariants.{Less, Greater}
use Rattle.std.specs.Ordering.{is_lt, nat_cmp}
use Rattle.std.specs.Cmp.Lexicographic.{slice_cmp, pointwise}
use Rattle.std.specs.FinMap.{FinMap, empty, insert, keys}
use Rattle.trie_model.specs.Root.{zero_digest}

-- ---- order

-- Each text is above those before it, in the order of the bytes, a prefix first.
abbrev pub Rise : List (List ℕ) → Type 0
Rise texts = IsStrictlySortedBy (slice_cmp nat_cmp) texts

abbrev pub is_above : List ℕ → List ℕ → Bool
is_above text earlier = is_lt (slice_cmp nat_cmp earlier text)

-- The place of the first text that is not above the one before it. The first of these texts stands at this place, right behind an earlier one.
unfoldable pub fall_behind : (earlier : List ℕ) (place : ℕ) → List (List ℕ) → Option ℕ
fall_behind earlier place [] = None
fall_behind earlier place (t ∷ ts) = if is_above t earlier then fall_behind t (place + 1) ts else Some place

-- the same of a whole list, whose places begin with 0
abbrev pub first_fall : List (List ℕ) → Option ℕ
first_fall [] = None
first_fall (t ∷ ts) = fall_behind t 1 ts

-- The text at a place is not above the one before it, and up to there each text is.
pub record FallsAt (texts : List (List ℕ)) (place : ℕ) : Type 0 where
  pub front : List (List ℕ)
  pub earlier : List ℕ
  pub text : List ℕ
  pub rest : List (List ℕ)
  pub parts : texts ≡ front ++ earlier ∷ text ∷ rest
  pub here : place ≡ length front + 1
  pub rising : Rise (front ++ earlier ∷ [])
  pub falls : slice_cmp nat_cmp earlier text ≢ Less

-- ---- sets

-- a set of texts: a finite map that has nothing at each
abbrev pub SetOfTexts : Type 0
SetOfTexts = FinMap (slice_cmp nat_cmp) (Unit {0})

abbrev pub with_text : SetOfTexts → List ℕ → SetOfTexts
with_text set text = insert set text tt

-- the set of some texts, which may stand in any order and several times
abbrev pub set_of : List (List ℕ) → SetOfTexts
set_of [] = empty
set_of (t ∷ ts) = with_text (set_of ts) t

-- the texts of a set, which rise
abbrev pub texts_in : SetOfTexts → List (List ℕ)
texts_in set = keys set

-- ---- digests

-- What follows is said of any way to name a text, so that worked examples can have a name that is shared. It is used with SHA-256 alone.

-- Whether the name of a text is the zero one, or that of an earlier text. Where texts rise, an earlier text is another one.
abbrev pub is_taken : (List ℕ → List ℕ) → List (List ℕ) → List ℕ → Bool
is_taken name earlier text = pointwise nat_eq (name text) zero_digest || list_any (λ other. pointwise nat_eq (name other) (name text)) earlier

-- the lesser of two names, where there are two
unfoldable pub lesser : Option (List ℕ) → Option (List ℕ) → Option (List ℕ)
lesser None other = other
lesser (Some one) None = Some one
lesser (Some one) (Some other) = Some (if is_lt (slice_cmp nat_cmp other one) then other else one)

-- the least name of one of these texts that is taken, by earlier texts and by those among these that stand before it
unfoldable pub least_taken : (List ℕ → List ℕ) → (earlier texts : List (List ℕ)) → Option (List ℕ)
least_taken name earlier [] = None
least_taken name earlier (t ∷ ts) = lesser (if is_taken name earlier t then Some (name t) else None) (least_taken name (t ∷ earlier) ts)

abbrev pub least_clash : (List ℕ → List ℕ) → List (List ℕ) → Option (List ℕ)
least_clash name texts = least_taken name [] texts

-- Two different texts have this name, or one has it and it is the zero one.
pub data IsClash (name : List ℕ → List ℕ) (texts : List (List ℕ)) (digest : List ℕ) : Type 0 where
  is_zero : (text : List ℕ) → Contains texts text → name text ≡ digest → digest ≡ zero_digest → IsClash name texts digest
  is_shared : (one other : List ℕ) → Contains texts one → Contains texts other → one ≢ other → name one ≡ digest → name other ≡ digest → IsClash name texts digest

pub record IsLeastClash (name : List ℕ → List ℕ) (texts : List (List ℕ)) (digest : List ℕ) : Type 0 where
  pub clashes : IsClash name texts digest
  pub least : (other : List ℕ) → IsClash name texts other → slice_cmp nat_cmp digest other ≢ Greater
