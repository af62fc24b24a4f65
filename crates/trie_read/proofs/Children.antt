-- Taking up the children of a branch, the last one first.
use Rattle.std.proofs.Common.{◌≡◌, ℕ, suc, ◌<◌, ◌≤◌, List, [], ◌∷◌, ◌++◌, length, Option, sym, ap, ◌∙◌, subst, arith, append_assoc, append-nil}
use Rattle.byte_model.specs.Below.{joined_below}
use Rattle.byte_model.specs.PackedPath.{longest_path}
use Rattle.trie_model.specs.Root.{Table}
use Rattle.visit_model.specs.Steps.{Step}
use Rattle.trie_read.specs.declared.walk.Place.{Place}
use Rattle.trie_read.specs.Walks.{steps_of, Stacked, IsBound, child_steps, ChildPlace}
use Rattle.trie_read.proofs.Stacks.{steps_of-push, Stacked-push}

-- the children from a nibble on were taken up
pub record TakenUp (kids : ℕ → Option (List ℕ)) (depth : ℕ) (bound : List ℕ) (old new : List Place) (nibble : ℕ) : Type 0 where
  pub within : nibble ≤ 16
  pub steps : (table : Table) (from path : List ℕ) → length path ≡ depth → IsBound from depth bound → joined_below (child_steps table path bound kids) 16 ++ steps_of table from path old ≡ joined_below (child_steps table path bound kids) nibble ++ steps_of table from path new
  pub stacked : depth < longest_path → Stacked depth old → Stacked depth new

-- one that has a place
pub taken-more : (kids : ℕ → Option (List ℕ)) (depth : ℕ) (bound : List ℕ) (old mid new : List Place) (nibble : ℕ) (place : Place) → TakenUp kids depth bound old mid (suc nibble) → ChildPlace kids nibble depth bound place → new ≡ mid ++ place ∷ [] → TakenUp kids depth bound old new nibble
unfolding joined_below
taken-more kids depth bound old mid new nibble place taken child is = record {
  within = let h = taken.within in omega arith;
  steps = λ table from path long at.
      taken.steps table from path long at
      ∙ append_assoc (joined_below (child_steps table path bound kids) nibble) (child_steps table path bound kids nibble) (steps_of table from path mid)
      ∙ ap (λ (l : List Step). joined_below (child_steps table path bound kids) nibble ++ (l ++ steps_of table from path mid)) (child.steps table from path long at)
      ∙ ap (λ (l : List Step). joined_below (child_steps table path bound kids) nibble ++ l) (sym (steps_of-push table from path mid place) ∙ ap (steps_of table from path) (sym is));
  stacked = λ room all. subst (Stacked depth) (sym is) (Stacked-push depth mid place (taken.stacked room all) (record { prefix = let f = child.prefix in omega arith; deep = let d = child.depth_is in omega arith; small = child.small }) child.prefix);
}

-- one that has none
pub taken-none : (kids : ℕ → Option (List ℕ)) (depth : ℕ) (bound : List ℕ) (old new : List Place) (nibble : ℕ) → TakenUp kids depth bound old new (suc nibble) → ((table : Table) (path : List ℕ) → child_steps table path bound kids nibble ≡ []) → TakenUp kids depth bound old new nibble
unfolding joined_below
taken-none kids depth bound old new nibble taken none = record {
  within = let h = taken.within in omega arith;
  steps = λ table from path long at.
      taken.steps table from path long at
      ∙ ap (λ (l : List Step). (joined_below (child_steps table path bound kids) nibble ++ l) ++ steps_of table from path new) (none table path)
      ∙ ap (λ (l : List Step). l ++ steps_of table from path new) (append-nil (joined_below (child_steps table path bound kids) nibble));
  stacked = taken.stacked;
}

pub taken-all : (kids : ℕ → Option (List ℕ)) (depth : ℕ) (bound : List ℕ) (old new : List Place) → TakenUp kids depth bound old new 0 → (table : Table) (from path : List ℕ) → length path ≡ depth → IsBound from depth bound → joined_below (child_steps table path bound kids) 16 ++ steps_of table from path old ≡ steps_of table from path new
unfolding joined_below
taken-all kids depth bound old new taken table from path long at = taken.steps table from path long at
