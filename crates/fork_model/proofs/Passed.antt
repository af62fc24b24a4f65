-- What a move passes: over prevs, and from one head to the next.
use Rattle.std.proofs.Common.{◌≡◌, ◌≢◌, ℕ, Bool, true, false, cond, List, [], ◌∷◌, ◌++◌, drop, None, Some, refl, sym, ◌∙◌, ap}
use Rattle.std.proofs.lemmas.List.{append-nil, append_assoc}
use Rattle.fork_model.specs.Trees.{Header, BlockTree, IsTree, block_of, descends, line, moved, passed}
use Rattle.fork_model.proofs.Ids.{same_from, found-filter}
use Rattle.fork_model.proofs.Lines.{id_key, by_lines, line-head, stands_in, StandsIn}
use Rattle.fork_model.proofs.Moves.{moved-is}
use Rattle.fork_model.proofs.Descent.{descends-head}

-- what is live after a move was live before it, and descends from the new head
pub live-moved : (tree : BlockTree) (id q : List ℕ) → block_of (moved tree id).blocks q ≡ cond (descends tree id q) (block_of tree.blocks q) None
unfolding moved block_of
live-moved tree id q = found-filter id_key (descends tree id) tree.blocks q

module _ (tree : BlockTree) (is : IsTree tree) where
  pub passed-head : passed tree tree.head ≡ []
  unfolding passed
  passed-head = ap (drop 1) (line-head tree is)

  -- a line begins at the head
  pub line-passed : (q : List ℕ) (b : Header) → block_of tree.blocks q ≡ Some b → line tree q ≡ tree.head ∷ passed tree q
  unfolding passed
  line-passed q b at = by_lines tree is (λ q. line tree q ≡ tree.head ∷ drop 1 (line tree q)) first step q b at
    where
      first : line tree tree.head ≡ tree.head ∷ drop 1 (line tree tree.head)
      first = line-head tree is ∙ ap (λ ids. tree.head ∷ drop 1 ids) (sym (line-head tree is))

      step : (q : List ℕ) (b : Header) → block_of tree.blocks q ≡ Some b → (q ≢ tree.head) → StandsIn tree q b → line tree b.prev ≡ tree.head ∷ drop 1 (line tree b.prev) → line tree q ≡ tree.head ∷ drop 1 (line tree q)
      step q b at other s below =
          let all : line tree q ≡ tree.head ∷ (drop 1 (line tree b.prev) ++ q ∷ []) = s.line ∙ ap (λ ids. ids ++ q ∷ []) below in
          all ∙ ap (λ ids. tree.head ∷ drop 1 ids) (sym all)

  pub passed-over : (q : List ℕ) (b : Header) → block_of tree.blocks q ≡ Some b → (q ≢ tree.head) → passed tree q ≡ passed tree b.prev ++ q ∷ []
  unfolding passed
  passed-over q b at other =
      let s = stands_in tree is q b at other in
      ap (drop 1) (s.line ∙ ap (λ ids. ids ++ q ∷ []) (line-passed b.prev s.over.prev s.over.is))

  pub was-live : (id q : List ℕ) (b : Header) → block_of (moved tree id).blocks q ≡ Some b → (descends tree id q ≡ true) × (block_of tree.blocks q ≡ Some b)
  was-live id q b at = by_test (descends tree id q) refl
    where
      by_test : (t : Bool) → descends tree id q ≡ t → (descends tree id q ≡ true) × (block_of tree.blocks q ≡ Some b)
      by_test true e = (e, sym (live-moved tree id q ∙ ap (λ t. cond t (block_of tree.blocks q) None) e) ∙ at)
      by_test false e = absurd (none_not_some (sym (live-moved tree id q ∙ ap (λ t. cond t (block_of tree.blocks q) None) e) ∙ at))
        where
          none_not_some : None ≡ Some b → ⊥
          none_not_some e = cc

  -- what descends from a block that is not the head, is not the head
  pub behind_head : (id q : List ℕ) → descends tree id q ≡ true → (q ≢ id) → q ≢ tree.head
  behind_head id q down other same = other (same ∙ sym (same_from id tree.head (sym (descends-head tree is id) ∙ ap (descends tree id) (sym same) ∙ down)))

-- A move in two steps passes what the steps pass, one after the other.
pub passed-onward : (tree : BlockTree) (is : IsTree tree) (id : List ℕ) (c : Header) → block_of tree.blocks id ≡ Some c → (q : List ℕ) (b : Header) → block_of (moved tree id).blocks q ≡ Some b → passed tree q ≡ passed tree id ++ passed (moved tree id) q
unfolding moved
passed-onward tree is id c at_id q b at = by_lines next next-is (λ q. passed tree q ≡ passed tree id ++ passed next q) first step q b at
  where
    next : BlockTree
    next = moved tree id

    next-is : IsTree next
    next-is = moved-is tree is id c at_id

    first : passed tree id ≡ passed tree id ++ passed next id
    first = sym (append-nil (passed tree id)) ∙ ap (λ ids. passed tree id ++ ids) (sym (passed-head next next-is))

    step : (q : List ℕ) (b : Header) → block_of next.blocks q ≡ Some b → (q ≢ id) → StandsIn next q b → passed tree b.prev ≡ passed tree id ++ passed next b.prev → passed tree q ≡ passed tree id ++ passed next q
    step q b at other s below =
        let was = was-live tree is id q b at in
        passed-over tree is q b was.1 (behind_head tree is id q was.0 other)
        ∙ ap (λ ids. ids ++ q ∷ []) below
        ∙ append_assoc (passed tree id) (passed next b.prev) (q ∷ [])
        ∙ ap (λ ids. passed tree id ++ ids) (sym (passed-over next next-is q b at other))
