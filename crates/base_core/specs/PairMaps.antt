-- What `Pairs` are seen as: a state, and how many pairs it may have.
use Rattle.std.specs.Prelude.{ℕ, List, Option, refl}
use Rattle.std.specs.FinMap as map
use Rattle.std.specs.FinMap.{insert}
use Rattle.std.specs.Coded.{Coded, code_by, coded×, coded_ℕ, coded_list}
use Rattle.trie_model.specs.State.{State, IsPair}
use Rattle.base_core.specs.Bounds.{most_pairs}
use Rattle.base_core.specs.KeptMaps.{IsWithin, refusal_of}
use Rattle.base_core.specs.declared.put_error.PutError.{PutError}

pub record PairMap : Type 0 where
  pub state : State
  pub most : ℕ

abbrev pub pair_map_code : Coded PairMap
pair_map_code =
    code_by (State × ℕ) (coded× (map.code (coded_list coded_ℕ) (coded_list coded_ℕ)) coded_ℕ) (λ h. (h.state, h.most)) (λ p. record { state = p.0; most = p.1 }) (λ _. refl)

-- Keys and values are byte strings within the limits, and there are no more than may be.
abbrev pub IsPairMap : PairMap → Type 0
IsPairMap held = IsWithin IsPair most_pairs held.state held.most

-- the state, with one pair laid over
abbrev pub laid : PairMap → List ℕ → List ℕ → PairMap
laid held key value = record { state = insert held.state key value; most = held.most }

-- why a pair is not taken, if it is not
abbrev pub refusal : PairMap → List ℕ → List ℕ → Option PutError
refusal held key value = refusal_of held.state held.most key value
