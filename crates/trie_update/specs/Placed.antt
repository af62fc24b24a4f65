-- What the calls of the update answer of a place, and add to the ledger.
use Rattle.std.specs.Prelude.{◌≡◌, ℕ, ◌+◌, ◌-◌, ◌^◌, ◌≤◌, ◌<◌, List, [], ◌∷◌, ◌++◌, length, min, Option, option_map}
use Rattle.byte_model.specs.Below.{sum_below, joined_below}
use Rattle.byte_model.specs.Node.{ValueRef}
use Rattle.batch_model.specs.Changes.{Change}
use Rattle.visit_model.specs.Seen.{Seen}
use Rattle.change_model.specs.Visits.{Visits, before, change_at, changes_behind, closed, merge_visits, merged_child, visits_at, visits_below, where_touched}
use Rattle.node_codec.specs.Meanings.{value_of}
use Rattle.update_model.specs.Updates.{Outcome, ref_after, value_made, value_lost, appearing, disappearing, parts}
use Rattle.trie_update.specs.declared.joining.Child.{Child}
use Rattle.trie_update.specs.declared.joining.Left.{Left}
use Rattle.trie_update.specs.declared.updating.Placed.{Placed}
use Rattle.trie_update.specs.declared.ledger.Ledger.{Ledger}
use Rattle.trie_update.specs.Adds.{Adds}
use Rattle.trie_update.specs.Places.{Place, PlaceKeeps, place_kid, place_outcome, place_stated}
use Rattle.trie_update.specs.Subs.{kid_at, kid_of, top_of_sub}

-- so many keys at most appeared, and so many disappeared
pub record Counted (old new : Ledger) (n : ℕ) : Type 0 where
  pub fresh : new.fresh ≤ old.fresh + n
  pub gone : new.gone ≤ old.gone + n

-- a place has become what the model says
pub record IsPlaced (outcome : Outcome) (told n : ℕ) (old new : Ledger) (placed : Placed) : Type 0 where
  pub top : top_of_sub placed.sub ≡ outcome.top
  pub stated : placed.stated ≡ told
  pub adds : Adds old new outcome.made outcome.lost outcome.fresh outcome.gone
  pub counts : Counted old new n

-- and so has a child of a branch, which had this name there before, if it had any
pub record IsChild (name : Option (List ℕ)) (depth : ℕ) (place : Place) (changes : List Change) (old new : Ledger) (child : Child × ℕ) : Type 0 where
  pub kid : kid_of name child.0 ≡ place_kid place changes
  pub stated : child.1 ≡ place_stated place changes
  pub adds : Adds old new (place_outcome place changes).made (place_outcome place changes).lost (place_outcome place changes).fresh (place_outcome place changes).gone
  pub counts : Counted old new (length changes)
  pub keeps : PlaceKeeps depth place changes

abbrev pub run_at : List Change → ℕ → List Change
run_at changes x = changes_behind (x ∷ []) changes

-- what the value's change and the changes behind the nibbles below n add
abbrev pub AddsBelow : Option ValueRef → (ℕ → Place) → List Change → ℕ → Ledger → Ledger → Type 0
AddsBelow former places changes n old new =
    Adds old new
    (value_made (change_at [] changes) ++ joined_below (λ x. (place_outcome (places x) (run_at changes x)).made) n)
    (value_lost former (change_at [] changes) ++ joined_below (λ x. (place_outcome (places x) (run_at changes x)).lost) n)
    (appearing former (change_at [] changes) + sum_below (λ x. (place_outcome (places x) (run_at changes x)).fresh) n)
    (disappearing former (change_at [] changes) + sum_below (λ x. (place_outcome (places x) (run_at changes x)).gone) n)

-- What is left of a branch, and what its visited children stated: a sum past the end of eight bytes stops there.
pub record IsParted (names : ℕ → Option (List ℕ)) (depth : ℕ) (former : Option ValueRef) (places : ℕ → Place) (changes : List Change) (old new : Ledger) (parted : Left × ℕ) : Type 0 where
  pub value : option_map value_of parted.0.value ≡ ref_after former (change_at [] changes)
  pub sixteen : length parted.0.children.items ≡ 16
  pub kids : (x : ℕ) → x < 16 → kid_at names parted.0.children.items x ≡ place_kid (places x) (run_at changes x)
  pub stated : parted.1 ≡ min (sum_below (λ x. place_stated (places x) (run_at changes x)) 16) (2 ^ 64 - 1)
  pub adds : AddsBelow former places changes 16 old new
  pub counts : Counted old new (length changes)
  pub keeps : (x : ℕ) → x < 16 → PlaceKeeps (depth + 1) (places x) (run_at changes x)

-- ---- a branch that was read

-- what is visited below it, then the child that is merged, and then the test of what it states
abbrev pub branch_inside : List ℕ → ℕ → Option ValueRef → (ℕ → Seen) → List Change → Visits
branch_inside digest stated ref children changes =
    before (visits_below (λ x. where_touched (run_at changes x) (visits_at (children x) (run_at changes x))) 16)
    (before (merge_visits children (merged_child ref children changes)) (closed digest stated (parts ref children changes)))
