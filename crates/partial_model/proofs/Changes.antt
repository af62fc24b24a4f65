-- Changed keys that follow one another are those of a map in order.
use Rattle.std.proofs.Common.{◌≡◌, ℕ, Bool, true, false, ◌&&◌, List, [], ◌∷◌, Option, None, Some, T, refl}
use Rattle.std.specs.Ordering.{is_lt, nat_cmp}
use Rattle.std.specs.Cmp.Lexicographic.{slice_cmp}
use Rattle.std.specs.FinMap.{entries, entries_sorted, from_sorted, entries-from_sorted, same_entries_map}
use Rattle.std.specs.FinMap.Entries.{below_all, is_sorted}
use Rattle.batch_model.specs.Changes.{Changes, Change}
use Rattle.trie_model.proofs.Order.{first_test, second_test}
use Rattle.partial_model.specs.Recording.{follows}
use Rattle.partial_model.proofs.Clashes.{before_then}

-- each key is above the one before it
abbrev pub FollowOn : Option (List ℕ) → List Change → Type 0
FollowOn earlier [] = Unit {0}
FollowOn earlier (change ∷ changes) = (follows earlier change.0 ≡ true) × FollowOn (Some change.0) changes

to_T : (b : Bool) → b ≡ true → T b
to_T true e = tt
to_T false e = cc

of_T : (b : Bool) → T b → b ≡ true
of_T true h = refl
of_T false h = absurd h

both_T : (a b : Bool) → T a → T b → T (a && b)
both_T true b h k = k
both_T false b h k = h

below_further : (p q : List ℕ) (changes : List Change) → is_lt (slice_cmp nat_cmp p q) ≡ true → T (below_all (slice_cmp nat_cmp) q changes) → T (below_all (slice_cmp nat_cmp) p changes)
below_further p q [] h k = tt
below_further p q (change ∷ changes) h k =
    both_T (is_lt (slice_cmp nat_cmp p change.0)) _ (to_T _ (before_then p q change.0 h (of_T _ (first_test _ _ k)))) (below_further p q changes h (second_test _ _ k))

below_following : (key : List ℕ) (changes : List Change) → FollowOn (Some key) changes → T (below_all (slice_cmp nat_cmp) key changes)
below_following key [] h = tt
below_following key (change ∷ changes) h =
    both_T (is_lt (slice_cmp nat_cmp key change.0)) _ (to_T _ h.0) (below_further key change.0 changes h.0 (below_following change.0 changes h.1))

pub sorted-following : (earlier : Option (List ℕ)) (changes : List Change) → FollowOn earlier changes → T (is_sorted (slice_cmp nat_cmp) changes)
sorted-following earlier [] h = tt
sorted-following earlier (change ∷ changes) h = both_T (below_all (slice_cmp nat_cmp) change.0 changes) _ (below_following change.0 changes h.1) (sorted-following (Some change.0) changes h.1)

following_some : (key : List ℕ) (changes : List Change) → T (below_all (slice_cmp nat_cmp) key changes) → T (is_sorted (slice_cmp nat_cmp) changes) → FollowOn (Some key) changes
following_some key [] h k = tt
following_some key (change ∷ changes) h k = (of_T _ (first_test _ _ h), following_some change.0 changes (first_test _ _ k) (second_test _ _ k))

following_none : (changes : List Change) → T (is_sorted (slice_cmp nat_cmp) changes) → FollowOn None changes
following_none [] k = tt
following_none (change ∷ changes) k = (refl, following_some change.0 changes (first_test _ _ k) (second_test _ _ k))

pub following-entries : (changes : Changes) → FollowOn None (entries changes)
following-entries changes = following_none (entries changes) (entries_sorted changes)

-- a map is told by its entries
pub from_sorted-entries : (changes : Changes) → from_sorted (entries changes) ≡ changes
from_sorted-entries changes = same_entries_map _ _ (entries-from_sorted (slice_cmp nat_cmp) (entries changes) (entries_sorted changes))

pub entries-following : (changes : List Change) → FollowOn None changes → entries (from_sorted {R = slice_cmp nat_cmp} changes) ≡ changes
entries-following changes h = entries-from_sorted (slice_cmp nat_cmp) changes (sorted-following None changes h)
