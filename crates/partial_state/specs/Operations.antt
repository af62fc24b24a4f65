-- What `Ops` are seen as: reads, and a batch of changes.
use Rattle.std.specs.Prelude.{ℕ, ◌≤◌, nat_lt, nat_le, List, [], ◌∷◌, ◌++◌, length, Option, Some, None, if◌then◌else◌, refl}
use Rattle.std.specs.List.{AllByRecursion}
use Rattle.std.specs.Coded.{Coded, code_by, coded×, coded_ℕ, coded_list}
use Rattle.byte_model.specs.Nibbles.{longest_key}
use Rattle.base_core.specs.ChangeMaps.{ChangeMap, change_map_code, changed}
use Rattle.base_core.specs.declared.put_error.PutError.{PutError}
use Rattle.base_core.specs.declared.put_error.PutError.TheVariants.{KeyLong, Full}
use Rattle.partial_model.specs.Recording.{IsKey, most_reads}

-- The reads stand in the order in which they were given, and may repeat.
pub record Operations : Type 0 where
  pub reads : List (List ℕ)
  pub batch : ChangeMap

abbrev pub operations_code : Coded Operations
operations_code =
    code_by (List (List ℕ) × ChangeMap) (coded× (coded_list (coded_list coded_ℕ)) change_map_code) (λ o. (o.reads, o.batch)) (λ p. record { reads = p.0; batch = p.1 }) (λ _. refl)

-- The keys are byte strings within the limit, and there are no more than may be.
pub record AreReads (reads : List (List ℕ)) : Type 0 where
  pub few : length reads ≤ most_reads
  pub each : AllByRecursion IsKey reads

-- why a key is not read once more, if it is not
abbrev pub refusal_of_read : List (List ℕ) → List ℕ → Option PutError
refusal_of_read reads key =
    if nat_lt longest_key (length key) then Some (KeyLong (length key))
    else if nat_le most_reads (length reads) then Some Full
    else None

abbrev pub read_refusal : Operations → List ℕ → Option PutError
read_refusal ops key = refusal_of_read ops.reads key

-- the key is read last
abbrev pub with_read : Operations → List ℕ → Operations
with_read ops key = record { reads = ops.reads ++ key ∷ []; batch = ops.batch }

-- what one key becomes is laid over
abbrev pub with_change : Operations → List ℕ → Option (List ℕ) → Operations
with_change ops key value = record { reads = ops.reads; batch = changed ops.batch key value }
