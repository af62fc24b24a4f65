-- Two trees of what can be seen that a batch can't tell apart: at the places that it visits they are the same, and of the others they have the same digests.
use Rattle.std.specs.Prelude.{◌≡◌, ℕ, ◌<◌, List, [], ◌∷◌, Option, None, Some}
use Rattle.visit_model.specs.Seen.{Seen, nothing, missing, bad, leaf, branch, extension}
use Rattle.batch_model.specs.Changes.{Change}
use Rattle.change_model.specs.Visits.{changes_behind, merged_child}

-- the digest under which something is seen
unfoldable pub digest_of : Seen → Option (List ℕ)
digest_of nothing = None
digest_of (missing digest) = Some digest
digest_of (bad digest) = Some digest
digest_of (leaf digest usage path ref) = Some digest
digest_of (branch digest usage ref kids) = Some digest
digest_of (extension digest usage path child) = Some digest

abbrev pub SameName : Seen → Seen → Type 0
SameName s other = digest_of s ≡ digest_of other

-- the same node, with children of the same names
unfoldable pub SameTop : Seen → Seen → Type 0
SameTop nothing other = other ≡ nothing
SameTop (missing digest) other = other ≡ missing digest
SameTop (bad digest) other = other ≡ bad digest
SameTop (leaf digest usage path ref) other = other ≡ leaf digest usage path ref
SameTop (branch digest usage ref kids) other = (others : ℕ → Seen) × (other ≡ branch digest usage ref others) × ((x : ℕ) → x < 16 → SameName (kids x) (others x))
SameTop (extension digest usage path child) other = (below : Seen) × (other ≡ extension digest usage path below) × SameName child below

-- one fact where a batch changes something, and another where it does not
abbrev pub IfTouched : List Change → Type 0 → Type 0 → Type 0
IfTouched [] touched untouched = untouched
IfTouched (change ∷ changes) touched untouched = touched

-- The same along the changes below a place, where there are some.
unfoldable pub SameAlong : Seen → Seen → List Change → Type 0
SameAlong nothing other changes = other ≡ nothing
SameAlong (missing digest) other changes = other ≡ missing digest
SameAlong (bad digest) other changes = other ≡ bad digest
SameAlong (leaf digest usage path ref) other changes = other ≡ leaf digest usage path ref
SameAlong (branch digest usage ref kids) other changes = (others : ℕ → Seen) × (other ≡ branch digest usage ref others)
    × ((x : ℕ) → x < 16 → IfTouched (changes_behind (x ∷ []) changes) (SameAlong (kids x) (others x) (changes_behind (x ∷ []) changes)) (SameName (kids x) (others x)))
    × ((x : ℕ) → merged_child ref kids changes ≡ Some x → SameTop (kids x) (others x))
SameAlong (extension digest usage path child) other changes = (below : Seen) × (other ≡ extension digest usage path below)
    × IfTouched (changes_behind path changes) (SameAlong child below (changes_behind path changes)) (SameName child below)
