-- Who descends from whom in a tree: by the prevs of blocks, and by their heights.
use Rattle.std.proofs.Common.{◌≡◌, ◌≢◌, ℕ, ◌<◌, Bool, true, false, ◌||◌, List, Some, ◌⊎◌, inl, inr, ⊎_elim, refl, sym, ◌∙◌, ap, subst, arith}
use Rattle.std.specs.Str.{bytes_eq}
use Rattle.std.proofs.lemmas.Bool.{or_cases}
use Rattle.fork_model.specs.Trees.{Header, BlockTree, IsTree, block_of, descends, is_among, line}
use Rattle.fork_model.proofs.Ids.{same-itself, same_from, same_or_other}
use Rattle.fork_model.proofs.Lines.{by_lines, line-head, stands_in, StandsIn}
use Rattle.fork_model.proofs.Moves.{among-push, or_false, or_true}

module _ (tree : BlockTree) (is : IsTree tree) where
  pub descends-head : (from : List ℕ) → descends tree from tree.head ≡ bytes_eq from tree.head
  unfolding descends
  descends-head from = ap (is_among from) (line-head tree is) ∙ or_false _

  -- a block that is not the head descends from what its prev descends from, and is from itself
  pub descends-over : (from q : List ℕ) (b : Header) → block_of tree.blocks q ≡ Some b → (q ≢ tree.head) → descends tree from q ≡ (descends tree from b.prev || bytes_eq from q)
  unfolding descends
  descends-over from q b at other = ap (is_among from) (stands_in tree is q b at other).line ∙ among-push from (line tree b.prev) q

  pub descends-itself : (q : List ℕ) (b : Header) → block_of tree.blocks q ≡ Some b → descends tree q q ≡ true
  descends-itself q b at =
      ⊎_elim
      (λ (same : q ≡ tree.head). subst (λ k. descends tree k k ≡ true) (sym same) (descends-head tree.head ∙ same-itself tree.head))
      (λ other. descends-over q q b at other ∙ ap (λ t. descends tree q b.prev || t) (same-itself q) ∙ or_true _)
      (same_or_other q tree.head)

  -- What stands on the line to a block is that block, or a lower one.
  abbrev pub IsUpTo : (from q : List ℕ) → Type 0
  IsUpTo from q = (b : Header) → block_of tree.blocks q ≡ Some b → (from ≡ q) ⊎ ((c : Header) × (block_of tree.blocks from ≡ Some c) × (c.height < b.height))

  pub up_to : (from q : List ℕ) (b : Header) → block_of tree.blocks q ≡ Some b → descends tree from q ≡ true → IsUpTo from q
  up_to from q b at = by_lines tree is (λ q. descends tree from q ≡ true → IsUpTo from q) first step q b at
    where
      first : descends tree from tree.head ≡ true → IsUpTo from tree.head
      first e b at = inl (same_from from tree.head (sym (descends-head from) ∙ e))

      step : (q : List ℕ) (b : Header) → block_of tree.blocks q ≡ Some b → (q ≢ tree.head) → StandsIn tree q b → (descends tree from b.prev ≡ true → IsUpTo from b.prev) → descends tree from q ≡ true → IsUpTo from q
      step q b at other s below e c is_c =
          let it : b ≡ c = cc (at, is_c) in
          let lower : s.over.prev.height < c.height = subst (λ x. s.over.prev.height < x.height) it s.over.has in
          ⊎_elim
          (λ up. ⊎_elim
          (λ (same : from ≡ b.prev). inr (s.over.prev, ap (block_of tree.blocks) same ∙ s.over.is, lower))
          (λ far. let l = far.2 in inr (far.0, far.1, omega (arith, l, lower)))
          (below up s.over.prev s.over.is))
          (λ same. inl (same_from from q same))
          (or_cases _ _ (sym (descends-over from q b at other) ∙ e))

  -- two blocks that descend from each other are one
  pub descends-both : (p q : List ℕ) (b c : Header) → block_of tree.blocks p ≡ Some b → block_of tree.blocks q ≡ Some c → descends tree p q ≡ true → descends tree q p ≡ true → p ≡ q
  descends-both p q b c at_p at_q down up =
      ⊎_elim (λ same. same)
      (λ lower.
      ⊎_elim (λ same. sym same)
      (λ higher.
      let it : lower.0 ≡ b = cc (lower.1, at_p) in
      let that : higher.0 ≡ c = cc (higher.1, at_q) in
      let l : b.height < c.height = subst (λ x. x.height < c.height) it lower.2 in
      let r : c.height < b.height = subst (λ x. x.height < b.height) that higher.2 in
      absurd (omega (arith, l, r)))
      (up_to q p b at_p up b at_p))
      (up_to p q c at_q down c at_q)

  -- what descends from a live block descends from what that descends from
  pub descends-onward : (a p q : List ℕ) (c : Header) → block_of tree.blocks q ≡ Some c → descends tree a p ≡ true → descends tree p q ≡ true → descends tree a q ≡ true
  descends-onward a p q c at first = by_lines tree is (λ q. descends tree p q ≡ true → descends tree a q ≡ true) at_head step q c at
    where
      at_head : descends tree p tree.head ≡ true → descends tree a tree.head ≡ true
      at_head e = ap (descends tree a) (sym (same_from p tree.head (sym (descends-head p) ∙ e))) ∙ first

      step : (q : List ℕ) (b : Header) → block_of tree.blocks q ≡ Some b → (q ≢ tree.head) → StandsIn tree q b → (descends tree p b.prev ≡ true → descends tree a b.prev ≡ true) → descends tree p q ≡ true → descends tree a q ≡ true
      step q b at other s below e =
          ⊎_elim
          (λ up. descends-over a q b at other ∙ ap (λ t. t || bytes_eq a q) (below up))
          (λ same. ap (descends tree a) (sym (same_from p q same)) ∙ first)
          (or_cases _ _ (sym (descends-over p q b at other) ∙ e))

  -- no block leads to its own prev
  pub not_above : (q : List ℕ) (b : Header) → block_of tree.blocks q ≡ Some b → (q ≢ tree.head) → descends tree q b.prev ≡ false
  not_above q b at other = by_test (descends tree q b.prev) refl
    where
      s : StandsIn tree q b
      s = stands_in tree is q b at other

      by_test : (t : Bool) → descends tree q b.prev ≡ t → descends tree q b.prev ≡ false
      by_test false e = e
      by_test true e =
          ⊎_elim
          (λ (same : q ≡ b.prev).
          let it : b ≡ s.over.prev = cc (at, ap (block_of tree.blocks) same, s.over.is) in
          let l : b.height < b.height = subst (λ x. x.height < b.height) (sym it) s.over.has in
          absurd (omega (arith, l)))
          (λ lower.
          let it : lower.0 ≡ b = cc (lower.1, at) in
          let l : b.height < s.over.prev.height = subst (λ x. x.height < s.over.prev.height) it lower.2 in
          let r = s.over.has in
          absurd (omega (arith, l, r)))
          (up_to q b.prev s.over.prev s.over.is e s.over.prev s.over.is)
