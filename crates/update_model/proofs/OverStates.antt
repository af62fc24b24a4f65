-- What a batch makes of what is seen of a state, over a table that has the texts of the touched places: the trie of the state after it.
use Rattle.std.proofs.Common.{◌≡◌, ◌≢◌, ℕ, ◌+◌, ◌∷◌, ◌==◌, ◌&&◌, ◌||◌, Bool, true, false, cond, if◌then◌else◌, not, List, [], map, length, Option, None, Some, is_some, is_none, refl, sym, ◌∙◌, ap, ap₂, subst, arith}
use Rattle.std.specs.List.{AllByRecursion, count_by}
use Rattle.std.specs.FinMap.{entries, get, contains_key}
use Rattle.std.proofs.lemmas.List.Sums.{sum_by-cons}
use Rattle.sha2.specs.Sha256.{sha256}
use Rattle.byte_model.specs.Nibbles.{nibbles}
use Rattle.byte_model.proofs.Digits.{AreNibbles-nibbles}
use Rattle.trie_model.specs.State.{State, Row, IsState, rows_of}
use Rattle.trie_model.specs.Tree.{Tree, nothing, leaf, branch, extension, below, tree_of}
use Rattle.trie_model.specs.Texts.{text, places, name_of}
use Rattle.trie_model.specs.Root.{Table, root, root_of, text_at, subtree_at, places_of, zero_digest}
use Rattle.trie_model.proofs.Members.{IsIn, all_at}
use Rattle.trie_model.proofs.Children.{root_is_place}
use Rattle.trie_model.proofs.Costs.{subtree_at-root}
use Rattle.trie_model.proofs.Order.{rising-rows_of}
use Rattle.trie_model.proofs.Pairs.{small-rows_of}
use Rattle.trie_model.proofs.Rests.{below-nil}
use Rattle.trie_model.proofs.Trees.{tree_of-nil}
use Rattle.visit_model.specs.Keys.{key_of}
use Rattle.visit_model.specs.Seen.{Seen, seen}
use Rattle.visit_model.specs.Shown.{shown}
use Rattle.visit_model.proofs.ShownFits.{IsThere, FitsBelow, state_fits}
use Rattle.visit_model.proofs.ShownStates.{root_looked_up, no_root}
use Rattle.batch_model.specs.Changes.{Changes, Change, IsChange, AreChanges, after, after_each, change_rows, found_at}
use Rattle.change_model.specs.Places.{above, is_branch, all_stand_below, leads_to, is_touched, remains_alone, touched_places}
use Rattle.change_model.specs.Ledger.{fresh, gone}
use Rattle.change_model.specs.Along.{SameAlong}
use Rattle.change_model.specs.Tables.{HoldsPlaces}
use Rattle.change_model.proofs.Alone.{alone, touched, touched-root}
use Rattle.change_model.proofs.Filtered.{in_filter}
use Rattle.change_model.proofs.Laid.{laid-after, test_of_path, found_at-get, key_of-nibbles}
use Rattle.change_model.proofs.Left.{apart-change_rows}
use Rattle.change_model.proofs.Seeing.{IsHeldText, HeldAlong, seen_along}
use Rattle.change_model.proofs.Touched.{small-after}
use Rattle.change_model.proofs.Visited.{held_along}
use Rattle.std.specs.Option.{unwrap_or}
use Rattle.update_model.specs.Tops.{top_of, top_digest}
use Rattle.update_model.proofs.Joints.{top_digest-top_of}
use Rattle.update_model.specs.Updates.{updated}
use Rattle.update_model.proofs.FoundRows.{InOrder}
use Rattle.update_model.proofs.LaidBelow.{SmallChanges}
use Rattle.update_model.proofs.NewTrees.{updated-rows}
use Rattle.update_model.proofs.Counts.{fresh-rows, gone-rows}
use Rattle.update_model.proofs.SameUpdates.{updated-same}
pub use Rattle.change_model.proofs.Visited.{paths-change_rows}
use Rattle.change_model.proofs.Merging.{touched_some}

-- ---- the changes of a batch

pub small-change_rows : (changes : Changes) → AreChanges changes → SmallChanges (change_rows changes)
small-change_rows changes are = go (entries changes) are.each
  where
    go : (es : List Change) → AllByRecursion IsChange es → SmallChanges (map (λ change. (nibbles change.0, change.1)) es)
    go [] h = tt
    go (e ∷ es) h = (AreNibbles-nibbles e.0 h.0.key, go es h.1)

-- ---- rows of states

pub in_order-rows_of : (state : State) → IsState state → InOrder (rows_of state)
in_order-rows_of state is = record { rising = rising-rows_of state; small = small-rows_of state is }

pub in_order-after : (state : State) (changes : Changes) → IsState state → AreChanges changes → InOrder (rows_of (after state changes))
in_order-after state changes is are = record { rising = rising-rows_of (after state changes); small = small-after state changes is are }

-- what a key's path has is what the key has
pub found_at-key : (state : State) (key : List ℕ) → found_at (nibbles key) (rows_of state) ≡ get state key
unfolding rows_of
found_at-key state key =
    found_at-get (nibbles key) state
    ∙ ap₂ (λ (b : Bool) (k : List ℕ). if b then get state k else None) (test_of_path (nibbles (key_of (nibbles key))) (nibbles key) (ap nibbles (key_of-nibbles key))) (key_of-nibbles key)

-- ---- the new top

pub top-over_state : (state : State) (changes : Changes) → IsState state → AreChanges changes → change_rows changes ≢ [] → (updated (shown (subtree_at state [])) (change_rows changes)).top ≡ top_of (subtree_at (after state changes) [])
top-over_state state changes is are some =
    ap (λ t. (updated (shown t) (change_rows changes)).top) (subtree_at-root state)
    ∙ updated-rows (rows_of state) (change_rows changes) (rows_of (after state changes)) some (apart-change_rows changes) (laid-after state changes) (in_order-rows_of state is) (in_order-after state changes is are)
    ∙ ap top_of (sym (subtree_at-root (after state changes)))

-- ---- counts

counted-keys : (state : State) (test : Bool → Option (List ℕ) → Bool) (es : List Change) → count_by (λ (change : Change). test (is_some (found_at change.0 (rows_of state))) change.1) (map (λ (change : Change). (nibbles change.0, change.1)) es) ≡ count_by (λ (change : Change). test (is_some (get state change.0)) change.1) es
counted-keys state test [] = refl
counted-keys state test (e ∷ es) =
    sum_by-cons (λ (change : Change). cond (test (is_some (found_at change.0 (rows_of state))) change.1) 1 0) (nibbles e.0, e.1) (map (λ change. (nibbles change.0, change.1)) es)
    ∙ ap₂ (λ (a b : ℕ). a + b) (ap (λ (o : Option (List ℕ)). cond (test (is_some o) e.1) 1 0) (found_at-key state e.0)) (counted-keys state test es)
    ∙ sym (sum_by-cons (λ (change : Change). cond (test (is_some (get state change.0)) change.1) 1 0) e es)

pub fresh-over_state : (state : State) (changes : Changes) → AreChanges changes → change_rows changes ≢ [] → (updated (shown (subtree_at state [])) (change_rows changes)).fresh ≡ fresh state changes
fresh-over_state state changes are some =
    ap (λ t. (updated (shown t) (change_rows changes)).fresh) (subtree_at-root state)
    ∙ fresh-rows (rows_of state) (change_rows changes) some (apart-change_rows changes) (small-change_rows changes are)
    ∙ counted-keys state (λ there becomes. is_some becomes && not there) (entries changes)

pub gone-over_state : (state : State) (changes : Changes) → AreChanges changes → change_rows changes ≢ [] → (updated (shown (subtree_at state [])) (change_rows changes)).gone ≡ gone state changes
gone-over_state state changes are some =
    ap (λ t. (updated (shown t) (change_rows changes)).gone) (subtree_at-root state)
    ∙ gone-rows (rows_of state) (change_rows changes) some (apart-change_rows changes) (small-change_rows changes are)
    ∙ counted-keys state (λ there becomes. is_none becomes && there) (entries changes)

-- ---- what is seen (the first four are in change_model/proofs/Visited.antt, not pub)

module _ (state : State) (changes : Changes) (is : IsState state) (are : AreChanges changes) (some : change_rows changes ≢ []) (table : Table) (holds : HoldsPlaces table state (touched_places state [] changes)) where
  abbrev rows : List Row
  rows = rows_of state

  abbrev cs : List Change
  cs = change_rows changes

  abbrev later : List Row
  later = rows_of (after state changes)

  touched-is_touched : (q : List ℕ) → is_touched state [] changes q ≡ touched rows cs later q
  unfolding is_touched remains_alone subtree_at touched alone
  touched-is_touched q =
      ap (λ (ps : List (List ℕ)). leads_to ps q || (not (length q == 0) && is_branch (tree_of (below (above q) rows)) && not (leads_to ps q) && all_stand_below later (above q) q))
      (paths-change_rows changes)

  whole : tree_of (below [] rows) ≡ tree_of rows
  whole = ap tree_of (below-nil rows)

  held : (q : List ℕ) → IsIn (places (tree_of rows)) q → touched rows cs later q ≡ true → IsHeldText table (tree_of (below q rows))
  unfolding subtree_at
  held q h t =
      all_at (λ (place : List ℕ). get table (sha256 (text_at state place)) ≡ Some (text_at state place)) (touched_places state [] changes) q holds.found
      (in_filter (is_touched state [] changes) (places_of state) q (subst (λ t. IsIn (places t) q) (sym whole) h) (touched-is_touched q ∙ t))

  nonzero : IsThere (tree_of rows) → sha256 (text (tree_of rows)) ≢ zero_digest
  unfolding subtree_at
  nonzero there e =
      all_at (λ (place : List ℕ). sha256 (text_at state place) ≢ zero_digest) (touched_places state [] changes) [] holds.nonzero
      (in_filter (is_touched state [] changes) (places_of state) [] (subst (λ t. IsIn (places t) []) (sym whole) (root_is_place rows (rows_there there))) (touched-is_touched [] ∙ touched-root rows cs later (touched_some cs some)))
      (ap (λ t. sha256 (text t)) whole ∙ e)
    where
      rows_there : IsThere (tree_of rows) → rows ≢ []
      rows_there there none = subst IsThere tree_of-nil (subst (λ (rs : List Row). IsThere (tree_of rs)) none there)

  along : (tree : Tree) → tree_of rows ≡ tree → IsThere tree → SameAlong (shown tree) (seen table (sha256 (text tree))) cs
  along tree is_tree there =
      subst (λ (s : Seen). SameAlong (shown tree) s cs) (sym (root_looked_up table (sha256 (text tree)) (subst (λ t. sha256 (text t) ≢ zero_digest) is_tree (nonzero (subst IsThere (sym is_tree) there)))))
      (seen_along table tree cs 0 false (omega arith) (subst (FitsBelow 0 false) (subtree_at-root state ∙ is_tree) (state_fits state is))
      (subst (λ t. HeldAlong table t cs) is_tree (held_along table rows cs later (touched_some cs some) (apart-change_rows changes) (laid-after state changes) (small-after state changes is are) held)) there)

  same_along : (tree : Tree) → tree_of rows ≡ tree → SameAlong (shown tree) (seen table (root_of tree)) cs
  unfolding SameAlong shown root_of
  same_along nothing is_tree = no_root table
  same_along (leaf path value) is_tree = along (leaf path value) is_tree tt
  same_along (branch value kids) is_tree = along (branch value kids) is_tree tt
  same_along (extension path child) is_tree = along (extension path child) is_tree tt

  -- the batch can't tell what is seen from the state's trie
  pub seen-over_state : SameAlong (shown (subtree_at state [])) (seen table (root state)) (change_rows changes)
  seen-over_state = subst (λ t. SameAlong (shown t) (seen table (root_of t)) cs) (sym (subtree_at-root state)) (same_along (tree_of rows) refl)

  -- and makes the same of both
  pub updated-over_state : updated (seen table (root state)) (change_rows changes) ≡ updated (shown (subtree_at state [])) (change_rows changes)
  updated-over_state = updated-same (shown (subtree_at state [])) (seen table (root state)) (change_rows changes) seen-over_state some

-- ---- without changes

no_entries : (es : List Change) → map {B = Change} (λ (change : Change). (nibbles change.0, change.1)) es ≡ [] → es ≡ []
no_entries [] e = refl
no_entries (c ∷ es) e = cc

pub entries-none : (changes : Changes) → change_rows changes ≡ [] → entries changes ≡ []
entries-none changes e = no_entries (entries changes) e

pub after-none : (state : State) (changes : Changes) → change_rows changes ≡ [] → after state changes ≡ state
unfolding after after_each
after-none state changes e = ap (after_each state) (entries-none changes e)

pub counts-none : (state : State) (changes : Changes) → change_rows changes ≡ [] → fresh state changes ≡ 0 × (gone state changes ≡ 0)
counts-none state changes e = (
  ap (λ (es : List Change). count_by (λ (change : Change). is_some change.1 && not (contains_key state change.0)) es) (entries-none changes e),
  ap (λ (es : List Change). count_by (λ (change : Change). is_none change.1 && contains_key state change.0) es) (entries-none changes e),
)

-- ---- the root

pub root-top_of : (t : Tree) → unwrap_or (top_digest (top_of t)) zero_digest ≡ root_of t
unfolding root_of name_of
root-top_of t = ap (λ (o : Option (List ℕ)). unwrap_or o zero_digest) (top_digest-top_of t) ∙ go t
  where
    go : (t : Tree) → unwrap_or (name_of t (text t)) zero_digest ≡ root_of t
    go nothing = refl
    go (leaf path value) = refl
    go (branch value kids) = refl
    go (extension path child) = refl
