-- Places that are still to be visited, one upon another.
use Rattle.std.proofs.Common.{◌≡◌, ℕ, ◌+◌, ◌<◌, ◌≤◌, Bool, true, false, List, [], ◌∷◌, ◌++◌, length, take, drop, Option, None, Some, refl, sym, ap, ap₂, ◌∙◌, arith, append_assoc, append-nil, inl, inr}
use Rattle.std.specs.Prelude.{if◌then◌else◌}
use Rattle.std.specs.List.{AllByRecursion}
use Rattle.std.proofs.lemmas.List.{take_all, take-take, drop-drop}
use Rattle.trie_model.specs.Root.{Table}
use Rattle.visit_model.specs.Seen.{seen_at, seen_child}
use Rattle.visit_model.specs.Steps.{Step, behind, bound_behind, listing_steps}
use Rattle.visit_model.specs.Bounds.{at_most_one}
use Rattle.base_core.specs.declared.hash.Digest.{Digest}
use Rattle.trie_read.specs.declared.walk.Place.{Place}
use Rattle.trie_read.specs.Walks.{place_depth, place_bound, steps_at, steps_of, IsPlace, Stacked, IsChildBound, IsBound, child_steps, ChildPlace}

-- ---- the steps of a stack

pub steps_of-push : (table : Table) (from path : List ℕ) (places : List Place) (place : Place) → steps_of table from path (places ++ place ∷ []) ≡ steps_at table from path place ++ steps_of table from path places
unfolding steps_of
steps_of-push table from path [] place = sym (append-nil (steps_at table from path place))
steps_of-push table from path (first ∷ places) place =
    ap (λ (l : List Step). l ++ steps_at table from path first) (steps_of-push table from path places place)
    ∙ append_assoc (steps_at table from path place) (steps_of table from path places) (steps_at table from path first)

prefix_same : (m k : ℕ) (path other : List ℕ) → k ≤ m → take m path ≡ take m other → take k path ≡ take k other
prefix_same m k path other h e = sym (take-take k m path h) ∙ ap (take k) e ∙ take-take k m other h

-- paths that agree as far as the places share them
pub steps_of-same : (table : Table) (from path other : List ℕ) (m : ℕ) (places : List Place) → Stacked m places → take m path ≡ take m other → steps_of table from path places ≡ steps_of table from other places
unfolding steps_of
steps_of-same table from path other m [] stacked same = refl
steps_of-same table from path other m (place ∷ places) stacked same =
    ap₂ (λ (k l : List Step). k ++ l) (steps_of-same table from path other m places stacked.2 same)
    (ap (λ (prefix : List ℕ). listing_steps (seen_at table (place_depth place) place.after_extension place.digest.0) (prefix ++ at_most_one place.nibble) (place_bound from place)) (prefix_same m place.prefix path other stacked.0.prefix same))

-- ---- putting a place upon others, and taking it off

all_push : (P : Place → Type 0) (places : List Place) (place : Place) → AllByRecursion P places → P place → AllByRecursion P (places ++ place ∷ [])
all_push P [] place all one = (one, tt)
all_push P (first ∷ places) place all one = (all.0, all_push P places place all.1 one)

all_pop : (P : Place → Type 0) (places : List Place) (place : Place) → AllByRecursion P (places ++ place ∷ []) → AllByRecursion P places × P place
all_pop P [] place all = (tt, all.0)
all_pop P (first ∷ places) place all = let further = all_pop P places place all.1 in ((all.0, further.0), further.1)

pub Stacked-push : (m : ℕ) (places : List Place) (place : Place) → Stacked m places → IsPlace m place → place.prefix ≡ m → Stacked m (places ++ place ∷ [])
Stacked-push m [] place stacked is top = (is, tt, tt)
Stacked-push m (first ∷ places) place stacked is top =
    (stacked.0, all_push (λ other. first.prefix ≤ other.prefix) places place stacked.1 (let h = stacked.0.prefix in omega arith), Stacked-push m places place stacked.2 is top)

-- what is left, and the place
pub record Popped (m : ℕ) (places : List Place) (place : Place) : Type 0 where
  pub is : IsPlace m place
  pub stacked : Stacked place.prefix places

IsPlace-at : (m k : ℕ) (place : Place) → IsPlace m place → place.prefix ≤ k → IsPlace k place
IsPlace-at m k place is h = record { prefix = h; deep = is.deep; small = is.small }

pub Stacked-pop : (m : ℕ) (places : List Place) (place : Place) → Stacked m (places ++ place ∷ []) → Popped m places place
Stacked-pop m [] place stacked = record { is = stacked.0; stacked = tt }
Stacked-pop m (first ∷ places) place stacked =
    let further = Stacked-pop m places place stacked.2 in
    let all = all_pop (λ other. first.prefix ≤ other.prefix) places place stacked.1 in
    record { is = further.is; stacked = (IsPlace-at m place.prefix first stacked.0 all.1, all.0, further.stacked) }

pub Stacked-widen : (m k : ℕ) (places : List Place) → m ≤ k → Stacked m places → Stacked k places
Stacked-widen m k [] h stacked = tt
Stacked-widen m k (place ∷ places) h stacked = (IsPlace-at m k place stacked.0 (let f = stacked.0.prefix in omega arith), stacked.1, Stacked-widen m k places h stacked.2)

-- ---- the children of a branch

pub child-none : (kids : ℕ → Option (List ℕ)) (x : ℕ) (bound : List ℕ) → None ≡ kids x → (table : Table) (path : List ℕ) → child_steps table path bound kids x ≡ []
unfolding behind seen_child listing_steps
child-none kids x bound none table path =
    ap (λ (o : Option (List ℕ)). behind (listing_steps (seen_child (seen_at table (length path + 1) false) o) (path ++ x ∷ [])) (bound_behind (x ∷ []) bound)) (sym none) ∙ go (bound_behind (x ∷ []) bound)
  where
    go : (o : Option (List ℕ)) → behind (listing_steps (seen_child (seen_at table (length path + 1) false) None) (path ++ x ∷ [])) o ≡ []
    go None = refl
    go (Some rest) = refl

pub child-below : (kids : ℕ → Option (List ℕ)) (x : ℕ) (bound : List ℕ) → bound_behind (x ∷ []) bound ≡ None → (table : Table) (path : List ℕ) → child_steps table path bound kids x ≡ []
unfolding behind
child-below kids x bound below table path = ap (behind (listing_steps (seen_child (seen_at table (length path + 1) false) (kids x)) (path ++ x ∷ []))) below

bound_left : (x depth : ℕ) (bound from : List ℕ) (bounded : Bool) → IsChildBound x bound (Some bounded) → IsBound from depth bound → bound_behind (x ∷ []) bound ≡ Some (if bounded then drop (depth + 1) from else [])
bound_left x depth bound from false is at = is
bound_left x depth bound from true is (inl e) = is.0 ∙ ap (λ (l : List ℕ). Some (drop 1 l)) e ∙ ap (λ (l : List ℕ). Some l) (drop-drop 1 depth from)
bound_left x depth [] from true is (inr e) = absurd (let some = is.1 in omega arith)
bound_left x depth (y ∷ bound) from true is (inr e) = absurd cc

pub child-place : (kids : ℕ → Option (List ℕ)) (x depth : ℕ) (bound : List ℕ) (digest : Digest) (bounded : Bool) → x < 16 → Some digest.0 ≡ kids x → IsChildBound x bound (Some bounded) → ChildPlace kids x depth bound (record { digest = digest; prefix = depth; nibble = Some x; after_extension = false; bounded = bounded })
unfolding behind seen_child
child-place kids x depth bound digest bounded small there is = record {
  prefix = refl;
  depth_is = refl;
  small = (small, tt);
  steps = λ table from path long at.
      ap₂ (λ (o p : Option (List ℕ)). behind (listing_steps (seen_child (seen_at table (length path + 1) false) o) (path ++ x ∷ [])) p) (sym there) (bound_left x depth bound from bounded is at)
      ∙ ap₂ (λ (n : ℕ) (prefix : List ℕ). listing_steps (seen_at table (n + 1) false digest.0) (prefix ++ x ∷ []) (if bounded then drop (depth + 1) from else [])) long (sym (take_all depth path (omega arith)));
}
