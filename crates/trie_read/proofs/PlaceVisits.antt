-- Going to a place, and what was visited there.
use Rattle.std.proofs.Common.{◌≡◌, ℕ, zero, suc, ◌+◌, ◌≤◌, Bool, true, false, List, [], ◌∷◌, ◌++◌, length, take, drop, Option, Err, refl, sym, ap, ap₂, ◌∙◌, subst, arith, length-append, inl, inr}
use Rattle.std.specs.Prelude.{if◌then◌else◌}
use Rattle.std.proofs.lemmas.List.{length-take-le, take_at}
use Rattle.byte_model.specs.Nibbles.{AreNibbles}
use Rattle.byte_model.specs.PackedPath.{longest_path}
use Rattle.byte_model.proofs.Digits.{AreNibbles-append}
use Rattle.trie_model.specs.Root.{Table}
use Rattle.byte_model.specs.Node.{Node}
use Rattle.visit_model.specs.Seen.{Seen, seen_at, seen_node}
use Rattle.visit_model.specs.Steps.{Step, listing_steps}
use Rattle.visit_model.specs.Bounds.{at_most_one}
use Rattle.visit_model.proofs.SeenTexts.{seen-missing, seen-bad}
use Rattle.node_codec.specs.declared.value_ref.ValueRef as codec
use Rattle.trie_read.specs.declared.walk.Place.{Place}
use Rattle.trie_read.specs.declared.walk.Walk.{Walk}
use Rattle.trie_read.specs.Walks.{place_before, place_depth, place_bound, steps_of, IsPlace, Stacked, IsWalk, IsBound, Enters}
use Rattle.trie_read.specs.declared.errors.ReadError.{ReadError}
use Rattle.trie_read.specs.declared.errors.ReadError.TheVariants.{Missing, Bad, Fault}
use Rattle.trie_read.specs.Loads.{IsStopped}
use Rattle.trie_read.specs.Endings.{as_listed}
use Rattle.trie_read.specs.Listings.{Passed, AnswersPlace}
use Rattle.trie_read.proofs.HeldNodes.{SeesNode}
use Rattle.trie_read.proofs.Stacks.{steps_of-same, Stacked-widen}

small-take : (n : ℕ) (path : List ℕ) → AreNibbles path → AreNibbles (take n path)
small-take zero path small = tt
small-take (suc n) [] small = tt
small-take (suc n) (x ∷ path) small = (small.0, small-take n path small.1)

prefix_length : (path : List ℕ) (place : Place) → IsPlace (length path) place → length (take place.prefix path) ≡ place.prefix
prefix_length path place is = length-take-le place.prefix path is.prefix

pub before-depth : (path : List ℕ) (place : Place) → IsPlace (length path) place → length (place_before path place) ≡ place_depth place
before-depth path place is = length-append (take place.prefix path) (at_most_one place.nibble) ∙ ap (λ (n : ℕ). n + length (at_most_one place.nibble)) (prefix_length path place is)

-- the walk at the place
pub walk-before : (path : List ℕ) (pending : List Place) (place : Place) → IsPlace (length path) place → IsWalk path pending → Stacked place.prefix pending → IsWalk (place_before path place) pending
walk-before path pending place is walk stacked = record {
  small = AreNibbles-append (take place.prefix path) (at_most_one place.nibble) (small-take place.prefix path walk.small) is.small;
  stacked = Stacked-widen place.prefix (length (place_before path place)) pending (let depth = before-depth path place is in omega arith) stacked;
}

before-agrees : (path : List ℕ) (place : Place) → IsPlace (length path) place → take place.prefix path ≡ take place.prefix (place_before path place)
before-agrees path place is = sym (take_at (take place.prefix path) (at_most_one place.nibble) place.prefix (prefix_length path place is))

-- ---- what was visited

-- a test that failed
pub place-stopped : (table : Table) (from : List ℕ) (old new : Walk) (place : Place) (error : ReadError) → place_depth place ≤ longest_path → IsStopped table place.digest (place_depth place) place.after_extension error → AnswersPlace table from old new place (Err (as_listed error))
unfolding listing_steps
place-stopped table from old new place (Missing named) deep answer = (answer.0, ap (λ (s : Seen). listing_steps s (place_before old.path.items place) (place_bound from place)) (seen-missing table (place_depth place) place.after_extension place.digest.0 deep answer.1))
place-stopped table from old new place (Bad named) deep answer = (answer.0, ap (λ (s : Seen). listing_steps s (place_before old.path.items place) (place_bound from place)) (seen-bad table (place_depth place) place.after_extension place.digest.0 deep answer.1))
place-stopped table from old new place Fault deep answer = tt

at_bound : (from : List ℕ) (place : Place) → IsBound from (place_depth place) (place_bound from place)
at_bound from place = go place.bounded
  where
    go : (b : Bool) → IsBound from (place_depth place) (if b then drop (place_depth place) from else [])
    go true = inl refl
    go false = inr refl

-- a node that fits
pub place-passed : (table : Table) (from : List ℕ) (old mid new : Walk) (place : Place) (n : Node) (usage : ℕ) (found : Option codec.ValueRef) → IsPlace (length old.path.items) place → Stacked place.prefix old.pending.items → mid.path.items ≡ place_before old.path.items place → mid.pending.items ≡ old.pending.items → SeesNode table (place_depth place) place.after_extension place.digest.0 n usage → Enters mid new n (place_bound from place) found → Passed table from old new place found
place-passed table from old mid new place n usage found is stacked path_is pending_is sees enters =
    let depth : length mid.path.items ≡ place_depth place = ap length path_is ∙ before-depth old.path.items place is in
    let bound = subst (λ (n : ℕ). IsBound from n (place_bound from place)) (sym depth) (at_bound from place) in
    record {
      steps =
          ap₂ (λ (s : Seen) (l : List Step). listing_steps s (place_before old.path.items place) (place_bound from place) ++ l) sees.seen
          (steps_of-same table from old.path.items (place_before old.path.items place) place.prefix old.pending.items stacked (before-agrees old.path.items place is))
          ∙ (λ i. listing_steps (seen_node (seen_at table) (sym depth i) place.digest.0 n usage) (sym path_is i) (place_bound from place) ++ steps_of table from (sym path_is i) (sym pending_is i))
          ∙ enters.steps table place.digest.0 from usage bound;
      walk = enters.walk;
      names = enters.names;
    }
