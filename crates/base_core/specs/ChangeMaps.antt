-- What `Changes` are seen as: a batch, and how many keys it may change.
use Rattle.std.specs.Prelude.{ℕ, List, [], Option, refl}
use Rattle.std.specs.Option.{unwrap_or}
use Rattle.std.specs.FinMap as map
use Rattle.std.specs.FinMap.{insert}
use Rattle.std.specs.Coded.{Coded, code_by, coded×, coded_ℕ, coded_list, coded_option}
use Rattle.batch_model.specs.Changes.{Changes, IsChange, most_changes}
use Rattle.base_core.specs.KeptMaps.{IsWithin, refusal_of}
use Rattle.base_core.specs.declared.put_error.PutError.{PutError}

pub record ChangeMap : Type 0 where
  pub changes : Changes
  pub most : ℕ

abbrev pub change_map_code : Coded ChangeMap
change_map_code =
    code_by (Changes × ℕ) (coded× (map.code (coded_list coded_ℕ) (coded_option (coded_list coded_ℕ))) coded_ℕ) (λ h. (h.changes, h.most)) (λ p. record { changes = p.0; most = p.1 }) (λ _. refl)

-- Keys and values are byte strings within the limits, and there are no more keys than may be.
abbrev pub IsChangeMap : ChangeMap → Type 0
IsChangeMap held = IsWithin IsChange most_changes held.changes held.most

-- the batch, with what one key becomes laid over
abbrev pub changed : ChangeMap → List ℕ → Option (List ℕ) → ChangeMap
changed held key value = record { changes = insert held.changes key value; most = held.most }

-- Why a change is not taken, if it is not. A key that is deleted has no value that could be too long.
abbrev pub change_refusal : ChangeMap → List ℕ → Option (List ℕ) → Option PutError
change_refusal held key value = refusal_of held.changes held.most key (unwrap_or value [])
