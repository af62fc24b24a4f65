-- A read of one key, on the way from a live block to the head.
use Rattle.std.proofs.Common.{◌≡◌, ℕ, true, List, Option, None, Some, refl, sym, ap, ◌∙◌}
use Rattle.std.specs.Option.{option_and_then, option_map, unwrap_or}
use Rattle.std.specs.FinMap.{empty, get, get-empty}
use Rattle.trie_model.specs.State.{State}
use Rattle.batch_model.specs.Changes.{Changes, decided}
use Rattle.batch_model.proofs.Laying.{get-after}
use Rattle.base_core.proofs.ByteMaps.{order}
use Rattle.fork_model.specs.Trees.{BlockTree, IsTree, is_live, prev_of}
use Rattle.flat_store.specs.Flats.{Deltas, FlatState, IsOnWay, delta_of, map_of}
use Rattle.base_core.specs.ChangeMaps.{ChangeMap}
use Rattle.flat_store.specs.Kept.{Batches, change_at, deltas_of}
use Rattle.flat_store.proofs.Tables.{batch_at, get-deltas}
use Rattle.flat_store.proofs.Ways.{map-at_head, map-over, one-step}

abbrev Value : Type 0
Value = Option (List ℕ)

pub change-delta : (deltas : Deltas) (id key : List ℕ) → get (delta_of deltas id) key ≡ change_at deltas id key
change-delta deltas id key = by_case (get deltas id)
  where
    by_case : (o : Option Changes) → get (unwrap_or o empty) key ≡ option_and_then (λ changes. get changes key) o
    by_case None = get-empty order key
    by_case (Some changes) = refl

-- what the table tells of them
pub change-found : (es : Batches) (id key : List ℕ) (m : ChangeMap) → batch_at es id ≡ Some m → change_at (deltas_of es) id key ≡ get m.changes key
change-found es id key m e = ap (option_and_then (λ (changes : Changes). get changes key)) (get-deltas es id ∙ ap (option_map (λ (m : ChangeMap). m.changes)) e)

pub change-missing : (es : Batches) (id key : List ℕ) → batch_at es id ≡ None → change_at (deltas_of es) id key ≡ None
change-missing es id key e = ap (option_and_then (λ (changes : Changes). get changes key)) (get-deltas es id ∙ ap (option_map (λ (m : ChangeMap). m.changes)) e)

pub way-start : (tree : BlockTree) (flat : FlatState) (key id : List ℕ) → is_live tree id ≡ true → IsOnWay tree flat key id id
way-start tree flat key id live = record { told = refl; first = live; live = live }

module _ (tree : BlockTree) (flat : FlatState) (key id at : List ℕ) (is : IsTree tree) (way : IsOnWay tree flat key id at) where
  at-block : (prev : List ℕ) → prev_of tree at ≡ Some prev → get (map_of flat tree at) key ≡ decided (change_at flat.deltas at key) (get (map_of flat tree prev) key)
  at-block prev step =
      ap (λ (s : State). get s key) (map-over flat.deltas tree at prev flat.head is step) ∙ get-after (map_of flat tree prev) (delta_of flat.deltas at) key
      ∙ ap (λ (o : Option Value). decided o (get (map_of flat tree prev) key)) (change-delta flat.deltas at key)

  pub way-step : (prev : List ℕ) → prev_of tree at ≡ Some prev → change_at flat.deltas at key ≡ None → IsOnWay tree flat key id prev
  way-step prev step none = record {
    told = sym (at-block prev step ∙ ap (λ (o : Option Value). decided o (get (map_of flat tree prev) key)) none) ∙ way.told;
    first = way.first;
    live = (one-step tree at prev is step).live;
  }

  pub way-found : (prev : List ℕ) (v : Value) → prev_of tree at ≡ Some prev → change_at flat.deltas at key ≡ Some v → v ≡ get (map_of flat tree id) key
  way-found prev v step some = sym (at-block prev step ∙ ap (λ (o : Option Value). decided o (get (map_of flat tree prev) key)) some) ∙ way.told

  pub way-end : prev_of tree at ≡ None → get flat.head key ≡ get (map_of flat tree id) key
  way-end none = ap (λ (s : State). get s key) (sym (map-at_head flat.deltas tree at flat.head is way.live none)) ∙ way.told
