-- Changes laid over a map, one change after the other.
use Rattle.std.proofs.Common.{◌≡◌, ℕ, ◌≤◌, ◌+◌, [], ◌∷◌, length, Some, refl, sym, ap, ◌∙◌, arith, suc}
use Rattle.std.specs.List.{AllByRecursion, cons_option}
use Rattle.std.specs.FinMap.{entries}
use Rattle.trie_model.specs.State.{State, IsPair}
use Rattle.batch_model.specs.Changes.{Change, Changes, after, after_change, after_each}

-- What a map is while changes are laid over it: with those laid over that are left, it is the map with all of them. Of each change one place is taken at most.
pub record IsLaying (start now : State) (whole rest : Changes) (first spare : ℕ) : Type 0 where
  pub told : after start whole ≡ after_each now (entries rest)
  pub pairs : AllByRecursion IsPair (entries now)
  pub room : first + length (entries rest) ≤ spare + length (entries whole)

pub laying-start : (start : State) (whole : Changes) (first : ℕ) → AllByRecursion IsPair (entries start) → IsLaying start start whole whole first first
unfolding after
laying-start start whole first pairs = record { told = refl; pairs = pairs; room = omega arith }

-- there is room for each change that is left
pub laying-room : (start now : State) (whole rest after : Changes) (first spare : ℕ) (change : Change) → IsLaying start now whole rest first spare → length (entries whole) ≤ first → entries rest ≡ cons_option (Some change) (entries after) → 1 ≤ spare
laying-room start now whole rest after first spare change is few taken =
    let room : first + length (entries rest) ≤ spare + length (entries whole) = is.room in
    let more : length (entries rest) ≡ length (change ∷ entries after) = ap length taken in
    from_parts (length (entries rest)) (length (entries whole)) (length (entries after)) room more few
  where
    from_parts : (n m k : ℕ) → first + n ≤ spare + m → n ≡ suc k → m ≤ first → 1 ≤ spare
    from_parts n m k room more few = omega arith

pub laying-step : (start now next : State) (whole rest left : Changes) (first spare after : ℕ) (change : Change) → IsLaying start now whole rest first spare → entries rest ≡ cons_option (Some change) (entries left)
    → next ≡ after_change now change → AllByRecursion IsPair (entries next) → spare ≤ after + 1 → IsLaying start next whole left first after
unfolding after_each
laying-step start now next whole rest left first spare after change is taken laid pairs room =
    let before : first + length (entries rest) ≤ spare + length (entries whole) = is.room in
    record {
      told = is.told ∙ ap (after_each now) taken ∙ ap (λ s. after_each s (entries left)) (sym laid);
      pairs = pairs;
      room = from_parts (length (entries rest)) (length (entries whole)) (length (entries left)) before (ap length taken) room;
    }
  where
    from_parts : (n m k : ℕ) → first + n ≤ spare + m → n ≡ suc k → spare ≤ after + 1 → first + k ≤ after + m
    from_parts n m k before more room = omega arith

pub laying-end : (start now : State) (whole rest : Changes) (first spare : ℕ) → IsLaying start now whole rest first spare → entries rest ≡ [] → after start whole ≡ now
unfolding after_each
laying-end start now whole rest first spare is nothing = is.told ∙ ap (after_each now) nothing
