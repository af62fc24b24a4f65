-- What a store of texts holds, and what a load says and leaves.
use Rattle.std.specs.Prelude.{◌≡◌, ℕ, List, Option, None, Some, IfSome, IsSomeAnd, Result, Ok, Err}
use Rattle.std.specs.Borrow.{GName}
use Rattle.std.specs.FinMap.{get}
use Rattle.std.specs.FinSet.{insert}
use Rattle.sha2.specs.Sha256.{sha256}
use Rattle.trie_model.specs.Root.{Table, zero_digest}
use Rattle.base_core.specs.Faults.{risen, IsCounted}
use Rattle.text_store.specs.Store.{Digests, Store}
use mathlib.Core.Option as maybe

-- no reference, for a result from which nothing is written
abbrev pub NO_NAME : maybe.Option GName
NO_NAME = maybe.none

-- Each text stands under its own SHA-256, and none under the zero digest.
pub record IsNamed (texts : Table) : Type 0 where
  pub own : (digest text : List ℕ) → get texts digest ≡ Some text → sha256 text ≡ digest
  pub nonzero : get texts zero_digest ≡ None

-- What becomes of the digests kept as loaded. Where a text was answered, and they are told then, they are those of before with one more. Where none was, nothing has changed.
abbrev pub Keeps : {A E : Type 0} → Option Digests → Option Digests → List ℕ → Result (Option A) E → Type 0
Keeps before after digest (Ok (Some text)) = IfSome after (λ now. IsSomeAnd before (λ were. now ≡ insert were digest))
Keeps before after digest (Ok None) = after ≡ before
Keeps before after digest (Err fault) = after ≡ before

-- Where the digests kept are told afterwards, they were told before and are the same.
abbrev pub StaysKept : Option Digests → Option Digests → Type 0
StaysKept before after = IfSome after (λ now. before ≡ Some now)

-- What a load of a digest leaves of the store: it is alike, the load is counted, also where it answers a fault, and so is the fault.
pub record Loaded {S A E : Type 0} (store : Store S) (old new : S) (digest : List ℕ) (result : Result (Option A) E) : Type 0 where
  pub same : store.alike old new
  pub loaded : store.loads new ≡ risen (store.loads old) 1
  pub failed : IsCounted (store.faults old) (store.faults new) result
  pub remembered : Keeps (store.kept old) (store.kept new) digest result
