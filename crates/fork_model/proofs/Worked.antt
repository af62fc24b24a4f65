-- Worked histories by computing.
use Rattle.std.proofs.Common.{◌≡◌, ℕ, List, [], ◌∷◌, T, length, Option, None, Some, nat_cmp, sym, ◌∙◌, ap, ap₂}
use Rattle.std.specs.Cmp.Lexicographic.{slice_cmp}
use Rattle.std.specs.FinMap.{empty, entries, entries-from_sorted, find, from_sorted, get, get-empty, get-from_sorted, is_sorted, len-empty, len-entries}
use Rattle.trie_model.specs.State.{State}
use Rattle.batch_model.specs.Changes.{Change, Changes, after, decided}
use Rattle.batch_model.proofs.Laying.{get-after}
use Rattle.fork_model.specs.Examples.{a_for_b, set_a}
use Rattle.fork_model.specs.Trees.{block_of, leading, line, descends, block_fault, after_block, moved, after_move, passed, dropped}
use Rattle.fork_model.specs.States.{block_at, laid_along, kept_changes, with_block, after_offer, head_moved, after_head}

-- what a proof by computing opens
unfoldable pub all_of_forks : ℕ
unfolding block_of leading line descends block_fault after_block moved after_move passed dropped block_at laid_along kept_changes with_block after_offer head_moved after_head
all_of_forks = 0

-- what a key has after a batch that is given by its changes in order
after-sorted : (state : State) (changes : List Change) (key : List ℕ) → T (is_sorted (slice_cmp nat_cmp) changes) → get (after state (from_sorted changes)) key ≡ decided (find (slice_cmp nat_cmp) key changes) (get state key)
after-sorted state changes key sorted = get-after state (from_sorted changes) key ∙ ap (λ o. decided o (get state key)) (get-from_sorted (slice_cmp nat_cmp) changes key sorted)

after-none : (state : State) (key : List ℕ) → get (after state empty) key ≡ get state key
after-none state key = get-after state empty key ∙ ap (λ o. decided o (get state key)) (get-empty (slice_cmp nat_cmp) key)

-- ---- the states of the worked history

abbrev pub key_a : List ℕ
key_a = 0x61 ∷ []

abbrev pub key_b : List ℕ
key_b = 0x62 ∷ []

pub two_keys : (u v x y : Option (List ℕ)) → u ≡ x → v ≡ y → (Some u ∷ Some v ∷ []) ≡ (Some x ∷ Some y ∷ [])
two_keys u v x y e f = ap₂ (λ (p s : Option (List ℕ)). Some p ∷ Some s ∷ []) e f

abbrev pub with_a : State
with_a = after empty set_a

pub a-with_a : get with_a key_a ≡ Some key_a
a-with_a = after-sorted empty _ key_a tt

pub b-with_a : get with_a key_b ≡ None
b-with_a = after-sorted empty _ key_b tt ∙ get-empty (slice_cmp nat_cmp) key_b

pub a-a_for_b : get (after with_a a_for_b) key_a ≡ None
a-a_for_b = after-sorted with_a _ key_a tt

pub b-a_for_b : get (after with_a a_for_b) key_b ≡ Some key_b
b-a_for_b = after-sorted with_a _ key_b tt

pub none-twice : (state : State) (key : List ℕ) → get (after (after state empty) empty) key ≡ get state key
none-twice state key = after-none (after state empty) key ∙ after-none state key

-- how many keys these batches change
pub keys-set_a : length (entries set_a) ≡ 1
keys-set_a = ap length (entries-from_sorted (slice_cmp nat_cmp) _ tt)

pub keys-a_for_b : length (entries a_for_b) ≡ 2
keys-a_for_b = ap length (entries-from_sorted (slice_cmp nat_cmp) _ tt)

abbrev no_changes : Changes
no_changes = empty

pub keys-empty : length (entries no_changes) ≡ 0
keys-empty = sym (len-entries no_changes) ∙ len-empty (slice_cmp nat_cmp) (Option (List ℕ))
