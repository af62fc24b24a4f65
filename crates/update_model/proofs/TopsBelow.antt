-- Tops with nibbles put before them, and what of a top stands behind a nibble.
use Rattle.std.proofs.Common.{◌≡◌, ◌≢◌, ℕ, ◌+◌, ◌≤◌, ◌==◌, if◌then◌else◌, true, false, List, [], ◌∷◌, ◌++◌, length, refl, arith, length-append}
use Rattle.std.specs.Prelude.{⊤}
use Rattle.byte_model.specs.Nibbles.{AreNibbles}
use Rattle.byte_model.specs.PackedPath.{longest_path}
use Rattle.byte_model.proofs.Digits.{AreNibbles-append}
use Rattle.update_model.specs.Tops.{Top, empty, leaf, branch, extension, lowered, top_behind}
use Rattle.update_model.specs.Joins.{is_there, known}
use Rattle.update_model.specs.Sound.{StandsAt}

-- ---- nibbles before a top

longer_some : (nibbles path : List ℕ) → path ≢ [] → nibbles ++ path ≢ []
longer_some [] path some e = some e
longer_some (x ∷ nibbles) path some e = cc

pub stands-lowered : (depth : ℕ) (nibbles : List ℕ) (top : Top) → AreNibbles nibbles → StandsAt (depth + length nibbles) top → StandsAt depth (lowered nibbles top)
unfolding lowered StandsAt
stands-lowered depth nibbles empty are stands = tt
stands-lowered depth nibbles (leaf path ref) are stands =
    let long = length-append nibbles path in
    let short = stands.1 in
    (AreNibbles-append nibbles path are stands.0, omega arith, stands.2)
stands-lowered depth [] (branch digest used) are stands = let short : depth + 0 ≤ longest_path = stands in omega arith
stands-lowered depth (x ∷ nibbles) (branch digest used) are stands = (are, stands, λ e. cc)
stands-lowered depth nibbles (extension path child used) are stands =
    let long = length-append nibbles path in
    let short = stands.1 in
    (AreNibbles-append nibbles path are stands.0, omega arith, longer_some nibbles path stands.2)

pub there-lowered : (nibbles : List ℕ) (top : Top) → is_there (known (lowered nibbles top)) ≡ is_there (known top)
unfolding lowered is_there
there-lowered nibbles empty = refl
there-lowered nibbles (leaf path ref) = refl
there-lowered [] (branch digest used) = refl
there-lowered (x ∷ nibbles) (branch digest used) = refl
there-lowered nibbles (extension path child used) = refl

-- ---- behind a nibble

-- of what is no branch
abbrev pub NoBranch : Top → Type 0
NoBranch empty = ⊤
NoBranch (leaf path ref) = ⊤
NoBranch (branch digest used) = ⊥
NoBranch (extension path child used) = ⊤

pub stands-top_behind : (x depth : ℕ) (old : Top) → NoBranch old → StandsAt depth old → StandsAt (depth + 1) (top_behind x old)
unfolding top_behind lowered StandsAt
stands-top_behind x depth empty over stands = tt
stands-top_behind x depth (leaf [] ref) over stands = tt
stands-top_behind x depth (leaf (y ∷ path) ref) over stands =
    let short = stands.1 in
    elim (x == y) as (λ b. StandsAt (depth + 1) (if b then leaf path ref else empty)) [ true ↦ (stands.0.1, omega arith, stands.2) | false ↦ tt ]
stands-top_behind x depth (branch digest used) over stands = absurd over
stands-top_behind x depth (extension [] child used) over stands = tt
stands-top_behind x depth (extension (y ∷ []) child used) over stands =
    let short = stands.1 in
    elim (x == y) as (λ b. StandsAt (depth + 1) (if b then branch child used else empty)) [ true ↦ omega arith | false ↦ tt ]
stands-top_behind x depth (extension (y ∷ z ∷ path) child used) over stands =
    let short = stands.1 in
    elim (x == y) as (λ b. StandsAt (depth + 1) (if b then extension (z ∷ path) child used else empty)) [ true ↦ (stands.0.1, omega arith, λ e. cc) | false ↦ tt ]
