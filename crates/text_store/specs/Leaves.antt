-- What a call that visits texts leaves of a store.
use Rattle.std.specs.Prelude.{◌≡◌, ℕ, ◌≤◌, List, [], ◌∷◌, length, Option, IfSome, IsSomeAnd, Some, None, Result, Ok, Err, ⊤}
use Rattle.std.specs.FinSet.{insert}
use Rattle.base_core.specs.Faults.{risen, Ended, done, refused, failed, short_of_memory, faults_after}
use Rattle.text_store.specs.Store.{Digests, Store}

-- a set of digests, and further ones
unfoldable pub with_all : Digests → List (List ℕ) → Digests
with_all kept [] = kept
with_all kept (digest ∷ digests) = with_all (insert kept digest) digests

-- Where the digests kept are told afterwards, they were told before, and exactly these were added.
abbrev pub Remembers : Option Digests → Option Digests → List (List ℕ) → Type 0
Remembers before after digests = IfSome after (λ now. IsSomeAnd before (λ were. now ≡ with_all were digests))

-- A count of loads, after a call with n visits that ended so: each was one load, but for those that came no more after a fault or where memory was wanted.
abbrev pub CountsLoads : Ended → (before after n : ℕ) → Type 0
CountsLoads done before after n = after ≡ risen before n
CountsLoads refused before after n = after ≡ risen before n
CountsLoads failed before after n = (before ≤ after) × (after ≤ risen before n)
CountsLoads short_of_memory before after n = (before ≤ after) × (after ≤ risen before n)

-- The digests kept, after a call with these visits that ended so. Nothing is told of them where it was not done.
abbrev pub KeepsVisits : Ended → Option Digests → Option Digests → List (List ℕ) → Type 0
KeepsVisits done before after digests = Remembers before after digests
KeepsVisits refused before after digests = ⊤
KeepsVisits failed before after digests = ⊤
KeepsVisits short_of_memory before after digests = ⊤

-- What a call that visits the texts of these digests leaves of a store, by how it ended.
pub record Leaves {S : Type 0} (store : Store S) (old new : S) (digests : List (List ℕ)) (ended : Ended) : Type 0 where
  pub same : store.alike old new
  pub loaded : CountsLoads ended (store.loads old) (store.loads new) (length digests)
  pub counted : store.faults new ≡ faults_after ended (store.faults old)
  pub remembered : KeepsVisits ended (store.kept old) (store.kept new) digests

-- how a visit ended for which a text is wanted, by what the load answered
abbrev pub visit_ended : {A E : Type 0} → Result (Option A) E → Ended
visit_ended (Ok (Some text)) = done
visit_ended (Ok None) = refused
visit_ended (Err fault) = failed
