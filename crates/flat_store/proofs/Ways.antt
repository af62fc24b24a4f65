-- The way from a live block to the head, and what is met on it.
use Rattle.std.proofs.Common.{◌≡◌, ℕ, ◌+◌, ◌<◌, Bool, true, false, cond, List, [], ◌∷◌, ◌++◌, length, Option, None, Some, is_some, refl, sym, ap, ◌∙◌, arith}
use Rattle.std.specs.Option.{option_map}
use Rattle.std.specs.Str.{bytes_eq}
use Rattle.std.specs.List.{AllByRecursion}
use Rattle.std.proofs.lemmas.List.{length-append}
use Rattle.std.specs.FinMap.{entries}
use Rattle.trie_model.specs.State.{State}
use Rattle.batch_model.specs.Changes.{Changes, IsChange, after}
use Rattle.fork_model.specs.Trees.{BlockTree, Header, IsTree, block_of, is_live, line, passed, prev_of}
use Rattle.fork_model.proofs.Ids.{same_from}
use Rattle.fork_model.proofs.Lines.{StandsIn, stands_in}
use Rattle.fork_model.proofs.Passed.{passed-head, passed-over}
use Rattle.fork_model.proofs.Told.{HasPrev, has_prev, line-over}
use Rattle.flat_store.specs.Flats.{Deltas, delta_of, laid_over}

-- ---- one block further

-- what holds of the block on which another stands
pub record IsStep (tree : BlockTree) (id prev : List ℕ) : Type 0 where
  pub live : is_live tree prev ≡ true
  pub passed : passed tree id ≡ passed tree prev ++ id ∷ []
  pub line : line tree id ≡ line tree prev ++ id ∷ []

pub one-step : (tree : BlockTree) (id prev : List ℕ) → IsTree tree → prev_of tree id ≡ Some prev → IsStep tree id prev
one-step tree id prev is at =
    let has : HasPrev tree id prev = has_prev tree id prev at in
    let stands : StandsIn tree id has.block = stands_in tree is id has.block has.is has.other in
    record {
      live = ap is_some (ap (block_of tree.blocks) (sym has.prev_is) ∙ stands.over.is);
      passed = passed-over tree is id has.block has.is has.other ∙ ap (λ q. passed tree q ++ id ∷ []) has.prev_is;
      line = line-over tree id prev is at;
    }

pub shorter : (tree : BlockTree) (id prev : List ℕ) → IsTree tree → prev_of tree id ≡ Some prev → length (line tree prev) < length (line tree id)
shorter tree id prev is at =
    let more : length (line tree id) ≡ length (line tree prev) + 1 = ap length (one-step tree id prev is at).line ∙ length-append (line tree prev) (id ∷ []) in
    omega (arith, more)

-- a live block without a prev is the head, to which a move passes nothing
pub at-head : (tree : BlockTree) (id : List ℕ) → IsTree tree → is_live tree id ≡ true → prev_of tree id ≡ None → passed tree id ≡ []
at-head tree id is live none = by_test (bytes_eq id tree.head) refl
  where
    not_none : (o : Option Header) → is_some o ≡ true → option_map (λ (b : Header). b.prev) o ≡ None → ⊥
    not_none None e f = absurd cc
    not_none (Some b) e f = absurd cc

    by_test : (b : Bool) → bytes_eq id tree.head ≡ b → passed tree id ≡ []
    by_test true same = ap (passed tree) (same_from id tree.head same) ∙ passed-head tree is
    by_test false other = absurd (not_none (block_of tree.blocks id) live (ap (λ b. cond b None (option_map (λ (b : Header). b.prev) (block_of tree.blocks id))) (sym other) ∙ none))

-- ---- maps on the way

pub laid-push : (deltas : Deltas) (ids : List (List ℕ)) (id : List ℕ) (state : State) → laid_over deltas (ids ++ id ∷ []) state ≡ after (laid_over deltas ids state) (delta_of deltas id)
unfolding laid_over
laid-push deltas [] id state = refl
laid-push deltas (x ∷ ids) id state = laid-push deltas ids id (after state (delta_of deltas x))

pub map-over : (deltas : Deltas) (tree : BlockTree) (id prev : List ℕ) (state : State) → IsTree tree → prev_of tree id ≡ Some prev → laid_over deltas (passed tree id) state ≡ after (laid_over deltas (passed tree prev) state) (delta_of deltas id)
map-over deltas tree id prev state is at = ap (λ ids. laid_over deltas ids state) (one-step tree id prev is at).passed ∙ laid-push deltas (passed tree prev) id state

pub map-at_head : (deltas : Deltas) (tree : BlockTree) (id : List ℕ) (state : State) → IsTree tree → is_live tree id ≡ true → prev_of tree id ≡ None → laid_over deltas (passed tree id) state ≡ state
unfolding laid_over
map-at_head deltas tree id state is live none = ap (λ ids. laid_over deltas ids state) (at-head tree id is live none)

-- ---- changes that are gathered on the way

-- With what is gathered laid over, the map where the way stands is that of the block at its begin with what was gathered before.
pub record IsGathered (tree : BlockTree) (deltas : Deltas) (id at : List ℕ) (first now : Changes) : Type 0 where
  pub told : (head : State) → after (laid_over deltas (passed tree at) head) now ≡ after (laid_over deltas (passed tree id) head) first
  pub live : is_live tree at ≡ true
  pub changes : AllByRecursion IsChange (entries now)

pub gathered-start : (tree : BlockTree) (deltas : Deltas) (id : List ℕ) (first : Changes) → is_live tree id ≡ true → AllByRecursion IsChange (entries first) → IsGathered tree deltas id id first first
gathered-start tree deltas id first live changes = record { told = λ head. refl; live = live; changes = changes }

pub gathered-step : (tree : BlockTree) (deltas : Deltas) (id at prev : List ℕ) (first now next : Changes) → IsTree tree → IsGathered tree deltas id at first now → prev_of tree at ≡ Some prev
    → ((state : State) → after state next ≡ after (after state (delta_of deltas at)) now) → AllByRecursion IsChange (entries next) → IsGathered tree deltas id prev first next
gathered-step tree deltas id at prev first now next is gathered step joined changes = record {
  told = λ head. joined (laid_over deltas (passed tree prev) head) ∙ ap (λ (s : State). after s now) (sym (map-over deltas tree at prev head is step)) ∙ gathered.told head;
  live = (one-step tree at prev is step).live;
  changes = changes;
}

pub gathered-all : (tree : BlockTree) (deltas : Deltas) (id at : List ℕ) (first now : Changes) → IsTree tree → IsGathered tree deltas id at first now → prev_of tree at ≡ None → (head : State) → after head now ≡ after (laid_over deltas (passed tree id) head) first
gathered-all tree deltas id at first now is gathered none head = ap (λ (s : State). after s now) (sym (map-at_head deltas tree at head is gathered.live none)) ∙ gathered.told head
