-- What is left of a store where a reading broke off.
use Rattle.std.proofs.Common.{◌≡◌, ℕ, ◌≤◌, List, length, refl, arith}
use Rattle.base_core.specs.Faults.{failed, short_of_memory}
use Rattle.text_store.specs.Store.{Store}
use Rattle.text_store.specs.Leaves.{Leaves}
use Rattle.trie_read.specs.Endings.{by_error, by_list_error, as_listed}
use Rattle.trie_read.specs.declared.errors.ReadError.{ReadError}
use Rattle.trie_read.specs.declared.errors.ReadError.TheVariants.{Missing, Bad, Fault}

-- being alike carries over
abbrev pub Onward : {S : Type 0} → Store S → Type 0
Onward {S} store = (a b c : S) → store.alike a b → store.alike b c → store.alike a c

-- The whole reading has no fewer visits than those before the break.
pub Leaves-failed : {S : Type 0} (store : Store S) (old new : S) (digests all : List (List ℕ)) → length digests ≤ length all → Leaves store old new digests failed → Leaves store old new all failed
Leaves-failed store old new digests all few left = record { same = left.same; loaded = (left.loaded.0, (let most = left.loaded.1 in omega arith)); counted = left.counted; remembered = tt }

pub Leaves-short : {S : Type 0} (store : Store S) (old new : S) (digests all : List (List ℕ)) → length digests ≤ length all → Leaves store old new digests short_of_memory → Leaves store old new all short_of_memory
Leaves-short store old new digests all few left = record { same = left.same; loaded = (left.loaded.0, (let most = left.loaded.1 in omega arith)); counted = left.counted; remembered = tt }

pub ended-as_listed : (error : ReadError) → by_error error ≡ by_list_error (as_listed error)
ended-as_listed (Missing digest) = refl
ended-as_listed (Bad digest) = refl
ended-as_listed Fault = refl
