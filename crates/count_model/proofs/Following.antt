-- A table that is changed as blocks are accepted and the head moves keeps exactly the counted texts.
use Rattle.std.proofs.Common.{◌≡◌, ◌≢◌, ℕ, ◌≤◌, nat_lt, true, List, [], ◌∷◌, ◌++◌, Option, None, Some, is_some, Contains, ◌⊎◌, inl, inr, refl, sym, ◌∙◌, ap, subst, arith}
use Rattle.std.specs.List.{AllByRecursion}
use Rattle.std.specs.Option.{option_map}
use Rattle.std.specs.FinMap.{contains_key, empty, get, get-empty}
use Rattle.std.specs.Ordering.{nat_cmp}
use Rattle.std.specs.Cmp.Lexicographic.{slice_cmp}
use Rattle.std.proofs.lemmas.Bool.Decides.{nat_tests}
use Rattle.sha2.specs.Sha256.{sha256}
use Rattle.trie_model.specs.State.{State}
use Rattle.trie_model.specs.Root.{Holds, Table, texts_of, zero_digest}
use Rattle.trie_model.proofs.Members.{IsIn, all_at, all_of, contains_of_in, in-append_cases, in_of_contains}
use Rattle.batch_model.specs.Changes.{Changes, after}
use Rattle.change_model.specs.Ledger.{made_texts}
use Rattle.change_model.proofs.Filtered.{in_filter_from}
use Rattle.fork_model.specs.Trees.{Header, block_fault, descends, is_live}
use Rattle.fork_model.specs.States.{Block, ForkState, IsForkState, block_at, first_fork, head_moved, state_at, tree_of_blocks, with_block}
use Rattle.fork_model.proofs.Faults.{accepted}
use Rattle.fork_model.proofs.Ids.{found_not_none}
use Rattle.fork_model.proofs.States.{after_offer-keeps, block_of-at, first-is, head_moved-keeps, over_prev, with_block-is}
use Rattle.count_model.specs.Counts.{digest_count}
use Rattle.count_model.specs.Tables.{HoldsCounted, live_texts}
use Rattle.count_model.proofs.Completed.{holds-after, holds-later}
use Rattle.count_model.proofs.Held.{holds-counted, holds-live}
use Rattle.count_model.proofs.Live.{block-at_in, block-of_state, digests-counted, live-in}
use Rattle.trie_model.proofs.Worked.{texts_of-empty}

-- ---- keys that are counted

abbrev HasCounted : Table → ForkState → Type 0
HasCounted table forks = (digest : List ℕ) → contains_key table digest ≡ nat_lt 0 (digest_count forks digest)

some_counted : (table : Table) (forks : ForkState) → HasCounted table forks → (digest t : List ℕ) → get table digest ≡ Some t → 1 ≤ digest_count forks digest
some_counted table forks keys digest t at = positive (digest_count forks digest) (sym (keys digest) ∙ ap is_some at)
  where
    positive : (n : ℕ) → nat_lt 0 n ≡ true → 1 ≤ n
    positive n e = grind (arith, nat_tests)

counted_some : (table : Table) (forks : ForkState) → HasCounted table forks → (digest : List ℕ) → 1 ≤ digest_count forks digest → (t : List ℕ) × (get table digest ≡ Some t)
counted_some table forks keys digest some = by_case (get table digest) refl (keys digest ∙ test (digest_count forks digest) some)
  where
    test : (n : ℕ) → 1 ≤ n → nat_lt 0 n ≡ true
    test n h = grind (arith, nat_tests)

    by_case : (o : Option (List ℕ)) → get table digest ≡ o → is_some (get table digest) ≡ true → (t : List ℕ) × (get table digest ≡ Some t)
    by_case None e h = absurd (differ (sym (ap is_some e) ∙ h))
      where
        differ : is_some {T = List ℕ} None ≡ true → ⊥
        differ e = cc
    by_case (Some t) e h = (t, e)

-- ---- a block

module _ (table later : Table) (most : ℕ) (forks : ForkState) (header : Header) (changes : Changes) (prev : State) (is : IsForkState forks) (fault : block_fault most (tree_of_blocks forks) header ≡ None) (at : state_at forks header.prev ≡ Some prev) (holds : HoldsCounted table forks) where
  pub follows-block : ((digest t : List ℕ) → get table digest ≡ Some t → get later digest ≡ Some t) → ((t : List ℕ) → Contains (made_texts prev changes) t → get later (sha256 t) ≡ Some t) → get later zero_digest ≡ None → HasCounted later (with_block forks header changes) → HoldsCounted later (with_block forks header changes)
  follows-block kept made nonzero keys =
      holds-counted later (with_block forks header changes) (after_offer-keeps most forks header changes is (accepted most (tree_of_blocks forks) header fault)) each (some_counted later (with_block forks header changes) keys)
    where
      stays : (state : State) → Holds table state → Holds later state
      stays state h = holds-later table later state h (λ t here. let found = all_at (λ u. get table (sha256 u) ≡ Some u) (texts_of state) t h.found (in_of_contains (texts_of state) t here) in kept (sha256 t) t found ∙ sym found)

      new : Holds later (after prev changes)
      new = holds-after prev changes later (stays prev (holds-live table forks is holds header.prev prev at)) (λ t here. (made t here, λ zero. found_not_none (sym (ap (get later) zero) ∙ made t here) nonzero))

      each : AllByRecursion (λ block. Holds later block.state) (with_block forks header changes).blocks
      each =
          let block = block-of_state forks header.prev prev at in
          subst (λ (f : ForkState). AllByRecursion (λ block. Holds later block.state) f.blocks) (sym (with_block-is forks header changes block.0 block.1))
          (all_of (λ block. Holds later block.state) (forks.blocks ++ over_prev header changes block.0 ∷ []) (λ b i. go block.0 block.2 b (in-append_cases forks.blocks (over_prev header changes block.0 ∷ []) b i)))
        where
          go : (p : Block) → p.state ≡ prev → (b : Block) → IsIn forks.blocks b ⊎ IsIn (over_prev header changes p ∷ []) b → Holds later b.state
          go p same b (inl i) = stays b.state (holds-live table forks is holds b.header.id b.state (ap (option_map (λ block. block.state)) (block-at_in forks is b i)))
          go p same b (inr (inl e)) = subst (λ (x : Block). Holds later x.state) e (subst (λ (s : State). Holds later (after s changes)) (sym same) new)
          go p same b (inr (inr none)) = absurd none

-- ---- a move

pub follows-move : (table later : Table) (forks : ForkState) (id : List ℕ) → IsForkState forks → is_live (tree_of_blocks forks) id ≡ true → HoldsCounted table forks → ((digest t : List ℕ) → get later digest ≡ Some t → get table digest ≡ Some t) → HasCounted later (head_moved forks id) → HoldsCounted later (head_moved forks id)
unfolding head_moved
follows-move table later forks id is live holds less keys =
    holds-counted later (head_moved forks id) moved-is (all_of (λ block. Holds later block.state) (head_moved forks id).blocks each) (some_counted later (head_moved forks id) keys)
  where
    block_live : (o : Option Block) → block_at forks.blocks id ≡ o → (b : Block) × (block_at forks.blocks id ≡ Some b)
    block_live None e = absurd (found_none (sym (ap is_some (block_of-at forks.blocks id ∙ ap (option_map (λ block. block.header)) e)) ∙ live))
      where
        found_none : is_some {T = Header} None ≡ true → ⊥
        found_none e = cc
    block_live (Some b) e = (b, e)

    moved-is : IsForkState (head_moved forks id)
    moved-is = let b = block_live (block_at forks.blocks id) refl in head_moved-keeps forks is id b.0 b.1

    each : (b : Block) → IsIn (head_moved forks id).blocks b → Holds later b.state
    each b i =
        let was = (in_filter_from (λ (block : Block). descends (tree_of_blocks forks) id block.header.id) forks.blocks b i).0 in
        holds-later table later b.state (holds-live table forks is holds b.header.id b.state (ap (option_map (λ block. block.state)) (block-at_in forks is b was)))
        (λ t here.
        let counted = (digests-counted (head_moved forks id) moved-is (sha256 t)).1 (t, contains_of_in (live_texts (head_moved forks id)) t (live-in (head_moved forks id) b t i (in_of_contains (texts_of b.state) t here)), refl) in
        let at = counted_some later (head_moved forks id) keys (sha256 t) counted in
        at.1 ∙ sym (less (sha256 t) at.0 at.1))

-- ---- the start

abbrev no_texts : Table
no_texts = empty

pub follows-start : HoldsCounted no_texts first_fork
follows-start = holds-counted no_texts first_fork first-is (none_held, tt) (λ digest t at. absurd (found_not_none at (get-empty (slice_cmp nat_cmp) digest)))
  where
    none_held : Holds no_texts empty
    none_held = record {
      found = subst (AllByRecursion (λ t. get no_texts (sha256 t) ≡ Some t)) (sym texts_of-empty) tt;
      nonzero = subst (AllByRecursion (λ t. sha256 t ≢ zero_digest)) (sym texts_of-empty) tt;
    }
