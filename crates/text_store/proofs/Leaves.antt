-- Visits of a store: none, one, one after the other, and those that did not come to their end.
use Rattle.std.proofs.Common.{◌≡◌, ℕ, ◌+◌, List, [], ◌∷◌, ◌++◌, length, Option, None, Some, Result, Ok, Err, refl, sym, ap, ◌∙◌, subst, arith}
use Rattle.std.proofs.lemmas.List.{length-append}
use Rattle.std.specs.Prelude.{IfSome, IsSomeAnd}
use Rattle.std.specs.FinSet.{insert}
use Rattle.base_core.specs.Faults.{risen, Ended, done, refused, failed, short_of_memory, faults_after}
use Rattle.text_store.specs.Store.{Digests, Store}
use Rattle.text_store.specs.Loading.{Loaded}
use Rattle.text_store.specs.Leaves.{with_all, Remembers, CountsLoads, KeepsVisits, Leaves, visit_ended}

-- ---- the digests kept

with_all-append : (kept : Digests) (digests others : List (List ℕ)) → with_all kept (digests ++ others) ≡ with_all (with_all kept digests) others
unfolding with_all
with_all-append kept [] others = refl
with_all-append kept (first ∷ digests) others = with_all-append (insert kept first) digests others

Remembers-none : (kept : Option Digests) → Remembers kept kept []
unfolding with_all
Remembers-none None = tt
Remembers-none (Some were) = refl

Remembers-one : (before after : Option Digests) (digest : List ℕ) → IfSome after (λ now. IsSomeAnd before (λ were. now ≡ insert were digest)) → Remembers before after (digest ∷ [])
unfolding with_all
Remembers-one before None digest h = tt
Remembers-one None (Some now) digest h = absurd h
Remembers-one (Some were) (Some now) digest h = h

Remembers-then : (before mid after : Option Digests) (digests others : List (List ℕ)) → Remembers before mid digests → Remembers mid after others → Remembers before after (digests ++ others)
Remembers-then before mid None digests others first last = tt
Remembers-then before None (Some now) digests others first last = absurd last
Remembers-then None (Some there) (Some now) digests others first last = absurd first
Remembers-then (Some were) (Some there) (Some now) digests others first last = last ∙ ap (λ k. with_all k others) first ∙ sym (with_all-append were digests others)

-- ---- counts

loads-then : (ended : Ended) (before mid after n m : ℕ) → mid ≡ risen before n → CountsLoads ended mid after m → CountsLoads ended before after (n + m)
loads-then done before mid after n m first last = omega arith
loads-then refused before mid after n m first last = omega arith
loads-then failed before mid after n m first last = (omega (arith, last.0), omega (arith, last.1))
loads-then short_of_memory before mid after n m first last = (omega (arith, last.0), omega (arith, last.1))

keeps-then : (ended : Ended) (before mid after : Option Digests) (digests others : List (List ℕ)) → Remembers before mid digests → KeepsVisits ended mid after others → KeepsVisits ended before after (digests ++ others)
keeps-then done before mid after digests others first last = Remembers-then before mid after digests others first last
keeps-then refused before mid after digests others first last = tt
keeps-then failed before mid after digests others first last = tt
keeps-then short_of_memory before mid after digests others first last = tt

-- ---- visits of a store

module _ {S : Type 0} (store : Store S) where
  -- nothing was visited
  pub Leaves-none : (old : S) → store.alike old old → Leaves store old old [] done
  Leaves-none old same = record { same = same; loaded = omega arith; counted = refl; remembered = Remembers-none (store.kept old) }

  -- one text was visited, if there is one
  pub Leaves-one : {A E : Type 0} (old new : S) (digest : List ℕ) (result : Result (Option A) E) → Loaded store old new digest result → Leaves store old new (digest ∷ []) (visit_ended result)
  Leaves-one old new digest (Ok (Some text)) l = record { same = l.same; loaded = l.loaded; counted = l.failed.same; remembered = Remembers-one _ _ digest l.remembered }
  Leaves-one old new digest (Ok None) l = record { same = l.same; loaded = l.loaded; counted = l.failed.same; remembered = tt }
  Leaves-one old new digest (Err fault) l = record { same = l.same; loaded = let one = l.loaded in (omega arith, omega arith); counted = l.failed.rose; remembered = tt }

  -- visits after visits
  pub Leaves-then : ((a b c : S) → store.alike a b → store.alike b c → store.alike a c) → (old mid new : S) (first last : List (List ℕ)) (ended : Ended) → Leaves store old mid first done → Leaves store mid new last ended → Leaves store old new (first ++ last) ended
  Leaves-then onward old mid new first last ended before after = record {
    same = onward old mid new before.same after.same;
    loaded = subst (CountsLoads ended (store.loads old) (store.loads new)) (sym (length-append first last)) (loads-then ended _ _ _ (length first) (length last) before.loaded after.loaded);
    counted = after.counted ∙ ap (faults_after ended) before.counted;
    remembered = keeps-then ended _ _ _ first last before.remembered after.remembered;
  }

  -- the same visits, where what was read is refused
  pub Leaves-refused : (old new : S) (digests : List (List ℕ)) → Leaves store old new digests done → Leaves store old new digests refused
  Leaves-refused old new digests l = record { same = l.same; loaded = l.loaded; counted = l.counted; remembered = tt }

  -- the first of the visits, where there was no memory for the rest
  pub Leaves-short : (old new : S) (first rest : List (List ℕ)) → Leaves store old new first done → Leaves store old new (first ++ rest) short_of_memory
  Leaves-short old new first rest l = record { same = l.same; loaded = let loads = l.loaded in let length = length-append first rest in (omega arith, omega arith); counted = l.counted; remembered = tt }

  -- the first of the visits, where a call broke off among them
  pub Leaves-within : (old new : S) (first rest : List (List ℕ)) → Leaves store old new first failed → Leaves store old new (first ++ rest) failed
  Leaves-within old new first rest l = record { same = l.same; loaded = let loads = l.loaded in let length = length-append first rest in (loads.0, omega (arith, loads.1)); counted = l.counted; remembered = tt }

  pub Leaves-short_within : (old new : S) (first rest : List (List ℕ)) → Leaves store old new first short_of_memory → Leaves store old new (first ++ rest) short_of_memory
  Leaves-short_within old new first rest l = record { same = l.same; loaded = let loads = l.loaded in let length = length-append first rest in (loads.0, omega (arith, loads.1)); counted = l.counted; remembered = tt }
