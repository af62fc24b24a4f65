-- A store of nodes in memory.
use Rattle.std.specs.Prelude.{◌≡◌, ℕ, List, map, None, unwrap_or, refl}
use Rattle.std.specs.Ordering.{nat_cmp}
use Rattle.std.specs.Cmp.Lexicographic.{slice_cmp}
use Rattle.std.specs.FinMap as map
use Rattle.std.specs.FinMap.{FinMap, get, from_entries}
use Rattle.std.specs.Coded.{Coded, code_by, coded×, coded_ℕ, coded_list}
use Rattle.trie_model.specs.Root.{Table}
use Rattle.base_core.specs.declared.hash.Digest.{Digest}
use Rattle.base_core.specs.Faults.{risen}
use Rattle.base_core.specs.Failing.{Failing, failing_code, after_call}
use Rattle.text_store.specs.declared.held.Held.{Held}
use Rattle.text_store.specs.Store.{Store}
use Rattle.text_store.specs.Counting.{IsStored}

-- the count of each digest that has one
abbrev pub Counts : Type 0
Counts = FinMap (slice_cmp nat_cmp) ℕ

-- The texts and their counts, for how many further texts there is room, how many loads there were, and which calls fail.
pub record StoreState : Type 0 where
  pub texts : Table
  pub counts : Counts
  pub spare : ℕ
  pub loads : ℕ
  pub failing : Failing

abbrev pub count_in : StoreState → List ℕ → ℕ
count_in state digest = unwrap_or (get state.counts digest) 0

-- Two such stores are alike where they have the same texts and counts. The digests loaded are not kept.
abbrev pub mem_store : Store StoreState
mem_store = record {
  texts = λ state. state.texts;
  loads = λ state. state.loads;
  faults = λ state. state.failing.faults;
  kept = λ _. None;
  alike = λ a b. (a.texts ≡ b.texts) × (a.counts ≡ b.counts);
}

-- after a load
abbrev pub after_load : StoreState → StoreState
after_load state = record state { loads = risen state.loads 1; failing = after_call state.failing }

abbrev pub store_state_code : Coded StoreState
store_state_code =
    code_by ((Table × Counts) × ((ℕ × ℕ) × Failing))
    (coded× (coded× (map.code (coded_list coded_ℕ) (coded_list coded_ℕ)) (map.code (coded_list coded_ℕ) coded_ℕ)) (coded× (coded× coded_ℕ coded_ℕ) failing_code))
    (λ s. ((s.texts, s.counts), ((s.spare, s.loads), s.failing)))
    (λ p. record { texts = p.0.0; counts = p.0.1; spare = p.1.0.0; loads = p.1.0.1; failing = p.1.1 })
    (λ _. refl)

-- the table in which they are kept
abbrev pub texts_of : List (Digest × Held) → Table
texts_of es = from_entries (map (λ e. (e.0.0, e.1.text)) es)

abbrev pub counts_of : List (Digest × Held) → Counts
counts_of es = from_entries (map (λ e. (e.0.0, e.1.count)) es)

-- what the table keeps: the texts held are those with a count of at least 1
abbrev pub IsKept : List (Digest × Held) → Type 0
IsKept es = IsStored (texts_of es) (λ digest. unwrap_or (get (counts_of es) digest) 0)
