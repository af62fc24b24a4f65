-- What entering a node leaves to be visited.
use Rattle.std.proofs.Common.{◌≡◌, ◌≢◌, ◌⊎◌, IfSome, OnOk, Result, Ok, Err, ℕ, ◌+◌, ◌-◌, ◌<◌, ◌≤◌, ◌%◌, Bool, true, false, List, [], ◌∷◌, ◌++◌, length, take, drop, Option, None, Some, refl, sym, ap, ap₂, ◌∙◌, subst, arith, append_assoc, append-nil, length-append, inl, inr}
use Rattle.std.specs.Prelude.{if◌then◌else◌, nat_lt, nat_le, not, ◌&&◌}
use Rattle.std.specs.Option.{option_map}
use Rattle.std.proofs.lemmas.Bool.{and_parts, eqb-true, ltb-true, leb-true}
use Rattle.std.proofs.lemmas.List.{take_all, take_at, drop-drop, length-drop}
use Rattle.byte_model.specs.Below.{joined_below}
use Rattle.byte_model.specs.Nibbles.{AreNibbles}
use Rattle.byte_model.specs.PackedPath.{longest_path}
use Rattle.byte_model.specs.Node as node
use Rattle.byte_model.specs.Node.{Node, longest_value, child_count}
use Rattle.record_model.specs.Fits.{is_whole, has_place, fits_at}
use Rattle.trie_model.specs.Root.{Table}
use Rattle.visit_model.specs.Seen.{seen_at, seen_node}
use Rattle.visit_model.specs.Steps.{Step, value_steps, reached_steps, behind, bound_behind, listing_steps}
use Rattle.visit_model.specs.Steps as step
use Rattle.visit_model.proofs.SeenBounds.{shape_fits, place_fits, branch_room, extension_room}
use Rattle.base_core.specs.declared.hash.Digest.{Digest}
use Rattle.node_codec.specs.declared.value_ref.ValueRef as codec
use Rattle.node_codec.specs.Meanings.{value_of}
use Rattle.trie_read.specs.declared.walk.Place.{Place}
use Rattle.trie_read.specs.declared.walk.Walk.{Walk}
use Rattle.trie_read.specs.Walks.{steps_at, steps_of, Stacked, IsWalk, IsBound, IsValueAt, FitsSomewhere, child_steps, Enters}
use Rattle.trie_read.proofs.Stacks.{steps_of-push, steps_of-same, Stacked-push, Stacked-widen}

-- a prefix agrees with what is longer
prefix_agrees : (before more : List ℕ) → take (length before) before ≡ take (length before) (before ++ more)
prefix_agrees before more = take_all (length before) before (omega arith) ∙ sym (take_at before more (length before) refl)

-- ---- a leaf

-- none of its key's value is visited
pub leaf-passed : (walk : Walk) (path bound : List ℕ) (ref : codec.ValueRef) → IsWalk walk.path.items walk.pending.items → ((before : List ℕ) → reached_steps before (Some (value_of ref)) (bound_behind path bound) ≡ []) → Enters walk walk (node.leaf path (value_of ref)) bound None
unfolding listing_steps seen_node
leaf-passed walk path bound ref is none = record {
  steps = λ table digest from usage at. ap (λ (l : List Step). (step.node digest ∷ l) ++ steps_of table from walk.path.items walk.pending.items) (none (walk.path.items ++ path));
  walk = is;
  names = tt;
}

pub passed-below : (path bound : List ℕ) (ref : codec.ValueRef) → bound_behind path bound ≡ None → (before : List ℕ) → reached_steps before (Some (value_of ref)) (bound_behind path bound) ≡ []
unfolding reached_steps
passed-below path bound ref below before = ap (reached_steps before (Some (value_of ref))) below

pub passed-within : (path bound : List ℕ) (ref : codec.ValueRef) → bound_behind path bound ≡ Some (drop (length path) bound) → length path < length bound → (before : List ℕ) → reached_steps before (Some (value_of ref)) (bound_behind path bound) ≡ []
unfolding reached_steps
passed-within path bound ref within less before = ap (reached_steps before (Some (value_of ref))) within ∙ go (drop (length path) bound) (length-drop (length path) bound)
  where
    go : (l : List ℕ) → length l ≡ length bound - length path → reached_steps before (Some (value_of ref)) (Some l) ≡ []
    go [] e = absurd (omega arith)
    go (y ∷ l) e = refl

-- it is
pub leaf-entered : (old new : Walk) (path bound : List ℕ) (ref : codec.ValueRef) → FitsSomewhere (length old.path.items) (node.leaf path (value_of ref)) → IsWalk old.path.items old.pending.items → bound_behind path bound ≡ Some [] → new.path.items ≡ old.path.items ++ path → AreNibbles new.path.items → new.pending.items ≡ old.pending.items → Enters old new (node.leaf path (value_of ref)) bound (Some ref)
unfolding listing_steps seen_node reached_steps has_place
leaf-entered old new path bound ref fits is above path_is small pending_is =
    let before = old.path.items in
    let count : length new.path.items ≡ length before + length path = ap length path_is ∙ length-append before path in
    let room = and_parts (is_whole (length before + length path) && nat_le (length before + length path) longest_path) (not fits.0) (place_fits (length before) fits.0 (node.leaf path (value_of ref)) fits.1) in
    let both = and_parts (is_whole (length before + length path)) (nat_le (length before + length path) longest_path) room.0 in
    let even : (length before + length path) % 2 ≡ 0 = eqb-true _ _ both.0 in
    let short : length before + length path ≤ longest_path = leb-true _ _ both.1 in
    record {
      steps = λ table digest from usage at.
          ap (λ (o : Option (List ℕ)). (step.node digest ∷ reached_steps (before ++ path) (Some (value_of ref)) o) ++ steps_of table from before old.pending.items) above
          ∙ ap (λ (l : List Step). step.node digest ∷ value_steps (before ++ path) (Some (value_of ref)) ++ l)
          (steps_of-same table from before (before ++ path) (length before) old.pending.items is.stacked (prefix_agrees before path))
          ∙ ap₂ (λ (p : List ℕ) (places : List Place). step.node digest ∷ value_steps p (Some (value_of ref)) ++ steps_of table from p places) (sym path_is) (sym pending_is);
      walk = record {
        small = small;
        stacked = subst (Stacked (length new.path.items)) (sym pending_is) (Stacked-widen (length before) (length new.path.items) old.pending.items (omega arith) is.stacked);
      };
      names = record { whole = omega arith; short = omega arith; value = leb-true _ _ (shape_fits (length before) fits.0 (node.leaf path (value_of ref)) fits.1) };
    }

-- ---- a branch

branch_value : (before bound : List ℕ) (ref : Option codec.ValueRef) → length bound ≡ 0 → reached_steps before (option_map value_of ref) (Some bound) ≡ value_steps before (option_map value_of ref)
unfolding reached_steps
branch_value before [] ref none = refl
branch_value before (y ∷ bound) ref none = absurd (omega arith)

branch_no_value : (before bound : List ℕ) (ref : Option codec.ValueRef) → length bound ≢ 0 → reached_steps before (option_map value_of ref) (Some bound) ≡ []
unfolding reached_steps
branch_no_value before [] ref some = absurd (some refl)
branch_no_value before (y ∷ bound) ref some = refl

branch_names : (path : List ℕ) (after_extension : Bool) (ref : codec.ValueRef) (kids : ℕ → Option (List ℕ)) → fits_at (length path) after_extension (node.branch (Some (value_of ref)) kids) ≡ true → IsValueAt path ref
unfolding has_place
branch_names path after_extension ref kids fits =
    let n = node.branch (Some (value_of ref)) kids in
    let place = and_parts (nat_lt (length path) longest_path) (is_whole (length path)) (place_fits (length path) after_extension n fits) in
    let shape = and_parts (nat_le ref.length longest_value) (nat_le 1 (child_count kids)) (shape_fits (length path) after_extension n fits) in
    let room : length path < longest_path = ltb-true _ _ place.0 in
    record { whole = eqb-true _ _ place.1; short = omega arith; value = leb-true _ _ shape.0 }

-- what taking up the children says
abbrev pub Pushed : (ℕ → Option (List ℕ)) → List ℕ → (old new : List Place) → ℕ → Type 0
Pushed kids bound old new depth = (table : Table) (from path : List ℕ) → length path ≡ depth → IsBound from depth bound → joined_below (child_steps table path bound kids) 16 ++ steps_of table from path old ≡ steps_of table from path new

abbrev pub StaysStacked : (old new : List Place) → ℕ → Type 0
StaysStacked old new depth = depth < longest_path → Stacked depth old → Stacked depth new

-- with the value that is visited first, if one is
branch_steps : (old new : Walk) (bound : List ℕ) (ref found : Option codec.ValueRef) (kids : ℕ → Option (List ℕ)) → reached_steps old.path.items (option_map value_of ref) (Some bound) ≡ value_steps old.path.items (option_map value_of found) → Pushed kids bound old.pending.items new.pending.items (length old.path.items) → new.path.items ≡ old.path.items → (table : Table) (digest from : List ℕ) (usage : ℕ) → IsBound from (length old.path.items) bound →
    listing_steps (seen_node (seen_at table) (length old.path.items) digest (node.branch (option_map value_of ref) kids) usage) old.path.items bound ++ steps_of table from old.path.items old.pending.items
    ≡ step.node digest ∷ value_steps new.path.items (option_map value_of found) ++ steps_of table from new.path.items new.pending.items
unfolding listing_steps seen_node
branch_steps old new bound ref found kids first pushed path_is table digest from usage at =
    let before = old.path.items in
    let below = joined_below (child_steps table before bound kids) 16 in
    ap (λ (l : List Step). step.node digest ∷ ((l ++ below) ++ steps_of table from before old.pending.items)) first
    ∙ ap (λ (l : List Step). step.node digest ∷ l) (append_assoc (value_steps before (option_map value_of found)) below (steps_of table from before old.pending.items))
    ∙ ap (λ (l : List Step). step.node digest ∷ value_steps before (option_map value_of found) ++ l) (pushed table from before refl at)
    ∙ ap (λ (p : List ℕ). step.node digest ∷ value_steps p (option_map value_of found) ++ steps_of table from p new.pending.items) (sym path_is)

-- ---- an extension

-- the child's keys are all below the bound
pub extension-passed : (walk : Walk) (path child bound : List ℕ) → IsWalk walk.path.items walk.pending.items → bound_behind path bound ≡ None → Enters walk walk (node.extension path child) bound None
unfolding listing_steps seen_node behind
extension-passed walk path child bound is below = record {
  steps = λ table digest from usage at. ap (λ (o : Option (List ℕ)). (step.node digest ∷ behind (listing_steps (seen_at table (length walk.path.items + length path) true child) (walk.path.items ++ path)) o) ++ steps_of table from walk.path.items walk.pending.items) below;
  walk = is;
  names = tt;
}

-- of a bound within the path's keys what is behind the path, else nothing
abbrev pub Left : Bool → List ℕ → List ℕ → List ℕ → Type 0
Left true path bound rest = (rest ≡ drop (length path) bound) × (length path < length bound)
Left false path bound rest = rest ≡ []

-- what is left of the bound at the child
child_bound : (path bound from : List ℕ) (depth : ℕ) (bounded : Bool) (rest : List ℕ) → bound_behind path bound ≡ Some rest → Left bounded path bound rest → IsBound from depth bound → rest ≡ (if bounded then drop (depth + length path) from else [])
child_bound path bound from depth false rest is left at = left
child_bound path bound from depth true rest is left (inl e) = left.0 ∙ ap (drop (length path)) e ∙ drop-drop (length path) depth from
child_bound path [] from depth true rest is left (inr e) = absurd (let less = left.1 in omega arith)
child_bound path (y ∷ bound) from depth true rest is left (inr e) = absurd cc

-- they are not
pub extension-entered : (old new : Walk) (path bound rest : List ℕ) (child : Digest) (bounded : Bool) → FitsSomewhere (length old.path.items) (node.extension path child.0) → IsWalk old.path.items old.pending.items → bound_behind path bound ≡ Some rest → Left bounded path bound rest → new.path.items ≡ old.path.items ++ path → AreNibbles new.path.items → new.pending.items ≡ old.pending.items ++ record { digest = child; prefix = length new.path.items; nibble = None; after_extension = true; bounded = bounded } ∷ [] → Enters old new (node.extension path child.0) bound None
unfolding listing_steps seen_node behind
extension-entered old new path bound rest child bounded fits is reached left path_is small pending_is =
    let before = old.path.items in
    let place : Place = record { digest = child; prefix = length new.path.items; nibble = None; after_extension = true; bounded = bounded } in
    let count : length new.path.items ≡ length before + length path = ap length path_is ∙ length-append before path in
    let depth : length before + length path ≡ length new.path.items + 0 = omega arith in
    let prefix : before ++ path ≡ take (length new.path.items) new.path.items ++ [] = sym path_is ∙ sym (take_all (length new.path.items) new.path.items (omega arith)) ∙ sym (append-nil _) in
    let room = extension_room (length before) fits.0 path child.0 (place_fits (length before) fits.0 (node.extension path child.0) fits.1) in
    record {
      steps = λ table digest from usage at.
          let bound_is : rest ≡ (if bounded then drop (length new.path.items + 0) from else []) = child_bound path bound from (length before) bounded rest reached left at ∙ ap (λ (n : ℕ). if bounded then drop n from else []) depth in
          let below : listing_steps (seen_at table (length before + length path) true child.0) (before ++ path) rest ≡ steps_at table from new.path.items place = λ i. listing_steps (seen_at table (depth i) true child.0) (prefix i) (bound_is i) in
          ap (λ (o : Option (List ℕ)). (step.node digest ∷ behind (listing_steps (seen_at table (length before + length path) true child.0) (before ++ path)) o) ++ steps_of table from before old.pending.items) reached
          ∙ ap₂ (λ (k l : List Step). step.node digest ∷ k ++ l) below (steps_of-same table from before (before ++ path) (length before) old.pending.items is.stacked (prefix_agrees before path) ∙ ap (λ (p : List ℕ). steps_of table from p old.pending.items) (sym path_is))
          ∙ ap (λ (l : List Step). step.node digest ∷ l) (sym (steps_of-push table from new.path.items old.pending.items place) ∙ ap (steps_of table from new.path.items) (sym pending_is));
      walk = record {
        small = small;
        stacked = subst (Stacked (length new.path.items)) (sym pending_is) (Stacked-push (length new.path.items) old.pending.items place (Stacked-widen (length before) (length new.path.items) old.pending.items (omega arith) is.stacked) (record { prefix = omega arith; deep = omega arith; small = tt }) refl);
      };
      names = tt;
    }

pub branch-entered : (old new : Walk) (bound : List ℕ) (ref found : Option codec.ValueRef) (kids : ℕ → Option (List ℕ)) → FitsSomewhere (length old.path.items) (node.branch (option_map value_of ref) kids) → IsWalk old.path.items old.pending.items → ((length bound ≡ 0) × (found ≡ ref)) ⊎ ((length bound ≢ 0) × (found ≡ None)) → Pushed kids bound old.pending.items new.pending.items (length old.path.items) → StaysStacked old.pending.items new.pending.items (length old.path.items) → new.path.items ≡ old.path.items → Enters old new (node.branch (option_map value_of ref) kids) bound found
branch-entered old new bound ref found kids fits is which pushed stacks path_is =
    let before = old.path.items in
    let room = branch_room (length before) fits.0 (option_map value_of ref) kids (place_fits (length before) fits.0 (node.branch (option_map value_of ref) kids) fits.1) in
    record {
      steps = branch_steps old new bound ref found kids (first which) pushed path_is;
      walk = record {
        small = subst AreNibbles (sym path_is) is.small;
        stacked = subst (λ (p : List ℕ). Stacked (length p) new.pending.items) (sym path_is) (stacks (omega arith) is.stacked);
      };
      names = subst (λ (p : List ℕ). IfSome found (IsValueAt p)) (sym path_is) (names found which);
    }
  where
    first : ((length bound ≡ 0) × (found ≡ ref)) ⊎ ((length bound ≢ 0) × (found ≡ None)) → reached_steps old.path.items (option_map value_of ref) (Some bound) ≡ value_steps old.path.items (option_map value_of found)
    first (inl h) = branch_value old.path.items bound ref h.0 ∙ ap (λ (o : Option codec.ValueRef). value_steps old.path.items (option_map value_of o)) (sym h.1)
    first (inr h) = branch_no_value old.path.items bound ref h.0 ∙ ap (λ (o : Option codec.ValueRef). value_steps old.path.items (option_map value_of o)) (sym h.1)

    own : (o : Option codec.ValueRef) → ref ≡ o → IfSome o (IsValueAt old.path.items)
    own None e = tt
    own (Some v) e = branch_names old.path.items fits.0 v kids (subst (λ (o : Option codec.ValueRef). fits_at (length old.path.items) fits.0 (node.branch (option_map value_of o) kids) ≡ true) e fits.1)

    names : (o : Option codec.ValueRef) → ((length bound ≡ 0) × (o ≡ ref)) ⊎ ((length bound ≢ 0) × (o ≡ None)) → IfSome o (IsValueAt old.path.items)
    names o (inl h) = own o (sym h.1)
    names None (inr h) = tt
    names (Some v) (inr h) = absurd (let no = h.1 in cc)

-- three facts of a call that did not fail
pub on_ok : {A E : Type 0} (result : Result A E) (P Q R S : Type 0) → (P → Q → R → S) → OnOk result P → OnOk result Q → OnOk result R → OnOk result S
on_ok (Ok x) P Q R S f p q r = f p q r
on_ok (Err e) P Q R S f p q r = tt
