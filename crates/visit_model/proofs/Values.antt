-- The values of a state in a table that holds it, and the visit of one.
use Rattle.std.proofs.Common.{◌≡◌, ℕ, List, length, map, Some, if◌then◌else◌, ◌∙◌, ap}
use Rattle.std.specs.List.{AllByRecursion}
use Rattle.std.specs.FinMap.{get}
use Rattle.sha2.specs.Sha256.{sha256}
use Rattle.trie_model.specs.State.{State, Row, rows_of}
use Rattle.trie_model.specs.Root.{Table, Holds, text_at, places_of, texts_of}
use Rattle.trie_model.specs.Texts.{value_ref}
use Rattle.trie_model.proofs.Rests.{same_nibble}
use Rattle.visit_model.specs.Visits.{Visits, bad, value_first, refused, value_visit}
use Rattle.trie_model.proofs.Members.{IsIn, in-append_right, in-map, all_at, all_of}

-- a value stands under its digest
abbrev pub HeldValue : Table → List ℕ → Type 0
HeldValue table value = get table (sha256 value) ≡ Some value

-- a value that is held is visited
pub value_visit-held : (table : Table) (path v : List ℕ) (after : Visits) → HeldValue table v → value_visit path (value_ref v) (get table (sha256 v)) after ≡ value_first (sha256 v) (path, v) after
unfolding value_visit
value_visit-held table path v after h =
    ap (λ o. value_visit path (value_ref v) o after) h
    ∙ ap (λ b. if b then value_first (sha256 v) (path, v) after else refused (sha256 v) (bad (sha256 v))) (same_nibble (length v))

pub held_values : (table : Table) (state : State) → Holds table state → AllByRecursion (λ row. HeldValue table row.1) (rows_of state)
unfolding texts_of
held_values table state held = all_of _ (rows_of state) (λ row here.
    let value_of : Row → List ℕ = λ r. r.1 in
    let there : IsIn (texts_of state) row.1 = in-append_right (map (text_at state) (places_of state)) (map value_of (rows_of state)) row.1 (in-map value_of (rows_of state) row here) in
    all_at (HeldValue table) (texts_of state) row.1 held.found there)
