-- What a batch visits below what stood at a place, taken down one nibble.
use Rattle.std.proofs.Common.{◌≡◌, ℕ, ◌+◌, true, List, [], ◌∷◌, length, ap₂, arith}
use Rattle.trie_model.specs.Root.{Table}
use Rattle.visit_model.specs.Seen.{seen_at}
use Rattle.batch_model.specs.Changes.{Change}
use Rattle.change_model.specs.Visits.{Visits, changes_behind, where_touched, visits_at}
use Rattle.update_model.proofs.Behind.{changes_behind-append}

-- what is visited behind some nibbles of a path that leads to a digest
abbrev pub led_visits : Table → ℕ → List ℕ → List ℕ → List Change → Visits
led_visits table depth path digest changes = where_touched (changes_behind path changes) (visits_at (seen_at table (depth + length path) true digest) (changes_behind path changes))

-- is what is visited one nibble further, with the changes there
pub led-down : (table : Table) (depth x : ℕ) (path digest : List ℕ) (changes : List Change) → led_visits table depth (x ∷ path) digest changes ≡ led_visits table (depth + 1) path digest (changes_behind (x ∷ []) changes)
led-down table depth x path digest changes =
    let same = changes_behind-append (x ∷ []) path changes in
    let deep : depth + length (x ∷ path) ≡ depth + 1 + length path = omega arith in
    ap₂ (λ (cs : List Change) (n : ℕ). where_touched cs (visits_at (seen_at table n true digest) cs)) same deep
