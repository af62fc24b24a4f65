-- Blocks that a move passes or drops were live and are not the head, and a block that stays and is not the new head was not the head before.
use Rattle.std.proofs.Common.{◌≡◌, ℕ, Bool, true, false, ◌||◌, List, [], ◌∷◌, ◌++◌, Option, None, Some, Contains, is_some, inl, inr, refl, sym, ap, ◌∙◌}
use Rattle.std.specs.Prelude.{if◌then◌else◌}
use Rattle.std.specs.Option.{option_map}
use Rattle.std.specs.List.Sorted.{IsPermutation}
use Rattle.std.specs.Str.{bytes_eq}
use Rattle.std.proofs.lemmas.List.Sorted.{list_any-IsPermutation}
use Rattle.std.proofs.lemmas.Map.Keys.{IsDistinct-IsPermutation, IsDistinct-head}
use Rattle.trie_model.specs.State.{State}
use Rattle.trie_model.proofs.Members.{IsIn, all_at, in-append_left, in-append_right, in_of_contains}
use Rattle.fork_model.specs.Trees.{BlockTree, IsTree, descends, dropped, ids_of, is_among, is_live, moved, passed}
use Rattle.fork_model.specs.Laws.{ids_behind}
use Rattle.fork_model.specs.States.{Block, ForkState, IsForkState, block_at, head_moved, state_at, tree_of_blocks}
use Rattle.fork_model.proofs.Descent.{descends-head}
use Rattle.fork_model.proofs.Ids.{same-itself, same_from}
use Rattle.fork_model.proofs.Partition.{among_live, ids_apart}
use Rattle.fork_model.proofs.States.{block_of-at}
use Rattle.fork_model.proofs.Told.{all-told, states-kept}
use Rattle.fork_tree.proofs.Kept.{turned}

in-among : (q : List ℕ) (xs : List (List ℕ)) → IsIn xs q → is_among q xs ≡ true
in-among q [] i = absurd i
in-among q (x ∷ xs) (inl e) = ap (λ (y : List ℕ). bytes_eq q y || is_among q xs) e ∙ ap (λ b. b || is_among q xs) (same-itself q)
in-among q (x ∷ xs) (inr i) = either (bytes_eq q x) (is_among q xs) (in-among q xs i)
  where
    either : (a b : Bool) → b ≡ true → (a || b) ≡ true
    either true b e = refl
    either false b e = e

-- ---- what goes

module _ (tree : BlockTree) (id : List ℕ) (is : IsTree tree) (live : is_live tree id ≡ true) where
  abbrev gone : List (List ℕ)
  gone = passed tree id ++ dropped tree id

  told : IsPermutation (ids_of tree.blocks) (tree.head ∷ gone ++ ids_behind (moved tree id))
  told = all-told tree id is live

  gone-other : (q : List ℕ) → IsIn gone q → bytes_eq q tree.head ≡ false
  gone-other q i =
      turned q tree.head
      ∙ all_at (λ (y : List ℕ). bytes_eq tree.head y ≡ false) (gone ++ ids_behind (moved tree id)) q
      (IsDistinct-head bytes_eq tree.head (gone ++ ids_behind (moved tree id)) (IsDistinct-IsPermutation bytes_eq turned _ _ told (ids_apart tree is)))
      (in-append_left gone (ids_behind (moved tree id)) q i)

  gone-live : (q : List ℕ) → IsIn gone q → is_live tree q ≡ true
  gone-live q i = sym (among_live tree is q) ∙ list_any-IsPermutation (bytes_eq q) _ _ told ∙ in-among q (tree.head ∷ gone ++ ids_behind (moved tree id)) (inr (in-append_left gone (ids_behind (moved tree id)) q i))

  pub passed-gone : (q : List ℕ) → Contains (passed tree id) q → (is_live tree q ≡ true) × (bytes_eq q tree.head ≡ false)
  passed-gone q c =
      let i = in-append_left (passed tree id) (dropped tree id) q (in_of_contains (passed tree id) q c) in
      (gone-live q i, gone-other q i)

  pub dropped-gone : (q : List ℕ) → Contains (dropped tree id) q → (is_live tree q ≡ true) × (bytes_eq q tree.head ≡ false)
  dropped-gone q c =
      let i = in-append_right (passed tree id) (dropped tree id) q (in_of_contains (dropped tree id) q c) in
      (gone-live q i, gone-other q i)

-- ---- states of live blocks

pub live-state : (forks : ForkState) (q : List ℕ) → is_live (tree_of_blocks forks) q ≡ true → (state : State) × (state_at forks q ≡ Some state)
live-state forks q live = by_case (block_at forks.blocks q) refl (ap is_some (sym (block_of-at forks.blocks q)) ∙ live)
  where
    by_case : (o : Option Block) → block_at forks.blocks q ≡ o → is_some (option_map (λ (b : Block). b.header) (block_at forks.blocks q)) ≡ true → (state : State) × (state_at forks q ≡ Some state)
    by_case None e h = absurd (differ (sym (ap (λ o. is_some (option_map (λ (b : Block). b.header) o)) e) ∙ h))
      where
        differ : false ≡ true → ⊥
        differ e = cc
    by_case (Some b) e h = (b.state, ap (option_map (λ (b : Block). b.state)) e)

pub state-live : (forks : ForkState) (q : List ℕ) (state : State) → state_at forks q ≡ Some state → is_live (tree_of_blocks forks) q ≡ true
state-live forks q state at = ap is_some (block_of-at forks.blocks q) ∙ by_case (block_at forks.blocks q) at
  where
    by_case : (o : Option Block) → option_map (λ (b : Block). b.state) o ≡ Some state → is_some (option_map (λ (b : Block). b.header) o) ≡ true
    by_case None e = absurd cc
    by_case (Some b) e = refl

-- what stays keeps its state
pub stays-state : (forks : ForkState) (id q : List ℕ) (state : State) → state_at (head_moved forks id) q ≡ Some state → (descends (tree_of_blocks forks) id q ≡ true) × (state_at forks q ≡ Some state)
stays-state forks id q state at = by_test (descends (tree_of_blocks forks) id q) refl (ap (option_map (λ (b : Block). b.state)) (sym (states-kept forks id q)) ∙ at)
  where
    by_test : (b : Bool) → descends (tree_of_blocks forks) id q ≡ b → option_map (λ (b : Block). b.state) (if b then block_at forks.blocks q else None) ≡ Some state → (descends (tree_of_blocks forks) id q ≡ true) × (state_at forks q ≡ Some state)
    by_test true e h = (e, h)
    by_test false e h = absurd cc

pub stays-other : (forks : ForkState) (id q : List ℕ) → IsForkState forks → descends (tree_of_blocks forks) id q ≡ true → bytes_eq q id ≡ false → bytes_eq q forks.head ≡ false
stays-other forks id q is stays other = by_test (bytes_eq q forks.head) refl
  where
    by_test : (b : Bool) → bytes_eq q forks.head ≡ b → bytes_eq q forks.head ≡ false
    by_test false e = e
    by_test true e =
        let same : q ≡ forks.head = same_from q forks.head e in
        let head : bytes_eq id q ≡ true = ap (bytes_eq id) same ∙ sym (descends-head (tree_of_blocks forks) is.tree id) ∙ ap (descends (tree_of_blocks forks) id) (sym same) ∙ stays in
        absurd (differ (sym other ∙ turned q id ∙ head))
      where
        differ : false ≡ true → ⊥
        differ e = cc
