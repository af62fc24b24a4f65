-- Lines of descent: each leads from the head over the prevs of the blocks, and the heights rise along it.
use Rattle.std.proofs.Common.{◌≡◌, ◌≢◌, ℕ, zero, suc, ◌+◌, ◌<◌, cond, List, [], ◌∷◌, ◌++◌, Option, None, Some, ⊎_elim, refl, sym, ◌∙◌, ap, subst, reverse, arith}
use Rattle.std.specs.Option.{IsSomeAnd}
use Rattle.std.specs.Str.{bytes_eq}
use Rattle.std.proofs.lemmas.List.{reverse-reverse}
use Rattle.fork_model.specs.Trees.{Header, BlockTree, IsTree, AreGrown, Follows, block_of, leading, line}
use Rattle.fork_model.proofs.Ids.{found, same-itself, apart_is, same_or_other, found_not_none, found-here, found-behind, found-reverse, AreApart}

abbrev pub id_key : Header → List ℕ
id_key block = block.id

-- ---- newest blocks first

pub apart-grown : (head : List ℕ) (bs : List Header) → AreGrown head bs → AreApart id_key bs
unfolding block_of
apart-grown head [] grown = tt
apart-grown head (b ∷ []) grown = (refl, tt)
apart-grown head (b ∷ o ∷ rest) grown = (grown.0.new, apart-grown head (o ∷ rest) grown.1)

pub leading-here : (b : Header) (older : List Header) (q : List ℕ) → q ≡ b.id → leading (b ∷ older) q ≡ leading older b.prev ++ q ∷ []
unfolding leading
leading-here b older q same = ap (λ t. cond t (leading older b.prev ++ q ∷ []) (leading older q)) (ap (λ k. bytes_eq k b.id) same ∙ same-itself b.id)

pub leading-behind : (b : Header) (older : List Header) (q : List ℕ) → (q ≢ b.id) → leading (b ∷ older) q ≡ leading older q
unfolding leading
leading-behind b older q other = ap (λ t. cond t (leading older b.prev ++ q ∷ []) (leading older q)) (apart_is q b.id other)

-- the prev that a block has
pub record PrevOf {X : Type 0} (o : Option X) (P : X → Type 0) : Type 0 where
  pub prev : X
  pub is : o ≡ Some prev
  pub has : P prev

pub prev_from : {X : Type 0} (o : Option X) (P : X → Type 0) → IsSomeAnd o P → PrevOf o P
prev_from None P h = absurd h
prev_from (Some x) P h = record { prev = x; is = refl; has = h }

-- what is found in older blocks is not the next one
not_new : (older : List Header) (b : Header) → Follows older b → (q : List ℕ) (c : Header) → block_of older q ≡ Some c → q ≢ b.id
not_new older b follows q c is same = found_not_none is (ap (block_of older) same ∙ follows.new)

module _ (head : List ℕ) where
  head-found : (bs : List Header) → AreGrown head bs → (b : Header) × (block_of bs head ≡ Some b)
  unfolding block_of
  head-found [] grown = absurd grown
  head-found (b ∷ []) grown = (b, found-here id_key b [] head grown)
  head-found (b ∷ o ∷ rest) grown =
      let older = head-found (o ∷ rest) grown.1 in
      (older.0, found-behind id_key b (o ∷ rest) head (not_new (o ∷ rest) b grown.0 head older.0 older.1) ∙ older.1)

  leading-head : (bs : List Header) → AreGrown head bs → leading bs head ≡ head ∷ []
  unfolding leading
  leading-head [] grown = absurd grown
  leading-head (b ∷ []) grown = leading-here b [] head grown
  leading-head (b ∷ o ∷ rest) grown =
      let older = head-found (o ∷ rest) grown.1 in
      leading-behind b (o ∷ rest) head (not_new (o ∷ rest) b grown.0 head older.0 older.1) ∙ leading-head (o ∷ rest) grown.1

  -- a block that is not the head stands over its prev
  record Stands (bs : List Header) (q : List ℕ) (b : Header) : Type 0 where
    over : PrevOf (block_of bs b.prev) (λ prev. prev.height < b.height)
    leads : leading bs q ≡ leading bs b.prev ++ q ∷ []

  stands : (bs : List Header) → AreGrown head bs → (q : List ℕ) (b : Header) → block_of bs q ≡ Some b → (q ≢ head) → Stands bs q b
  unfolding block_of
  stands [] grown q b is other = absurd grown
  stands (c ∷ []) grown q b is other = absurd (found_not_none is (found-behind id_key c [] q (λ same. other (same ∙ sym grown))))
  stands (c ∷ o ∷ rest) grown q b is other = ⊎_elim here (λ apart. behind apart (λ found_in. stands (o ∷ rest) grown.1 q b found_in other)) (same_or_other q c.id)
    where
      older : List Header
      older = o ∷ rest

      up : (k : List ℕ) (x : Header) → found id_key older k ≡ Some x → found id_key (c ∷ older) k ≡ Some x
      up k x e = found-behind id_key c older k (not_new older c grown.0 k x e) ∙ e

      lead : (k : List ℕ) (x : Header) → found id_key older k ≡ Some x → leading (c ∷ older) k ≡ leading older k
      lead k x e = leading-behind c older k (not_new older c grown.0 k x e)

      here : q ≡ c.id → Stands (c ∷ older) q b
      here same =
          let it : c ≡ b = cc (found-here id_key c older q same, is) in
          let over = prev_from _ _ grown.0.higher in
          subst (Stands (c ∷ older) q) it (record {
            over = record { prev = over.prev; is = up c.prev over.prev over.is; has = over.has };
            leads = leading-here c older q same ∙ ap (λ ids. ids ++ q ∷ []) (sym (lead c.prev over.prev over.is));
          })

      lifted : found id_key older q ≡ Some b → Stands older q b → Stands (c ∷ older) q b
      lifted found_in below = record {
        over = record { prev = below.over.prev; is = up b.prev below.over.prev below.over.is; has = below.over.has };
        leads = lead q b found_in ∙ below.leads ∙ ap (λ ids. ids ++ q ∷ []) (sym (lead b.prev below.over.prev below.over.is));
      }

      behind : (q ≢ c.id) → (found id_key older q ≡ Some b → Stands older q b) → Stands (c ∷ older) q b
      behind apart below = let found_in = sym (found-behind id_key c older q apart) ∙ is in lifted found_in (below found_in)

-- ---- in a tree

-- which way round the blocks are sought does not matter
pub block_of-reverse : (tree : BlockTree) → IsTree tree → (q : List ℕ) → block_of tree.blocks q ≡ block_of (reverse tree.blocks) q
unfolding block_of
block_of-reverse tree is q = ap (λ bs. found id_key bs q) (sym (reverse-reverse tree.blocks)) ∙ found-reverse id_key (reverse tree.blocks) q (apart-grown tree.head _ is.grown)

-- A live block that is not the head: its prev is live and lower, and the line to it is the line to its prev, and itself.
pub record StandsIn (tree : BlockTree) (q : List ℕ) (b : Header) : Type 0 where
  pub over : PrevOf (block_of tree.blocks b.prev) (λ prev. prev.height < b.height)
  pub line : line tree q ≡ line tree b.prev ++ q ∷ []

module _ (tree : BlockTree) (is : IsTree tree) where
  pub head-live : (b : Header) × (block_of tree.blocks tree.head ≡ Some b)
  head-live = let head = head-found tree.head _ is.grown in (head.0, block_of-reverse tree is tree.head ∙ head.1)

  pub line-head : line tree tree.head ≡ tree.head ∷ []
  unfolding line
  line-head = leading-head tree.head _ is.grown

  pub stands_in : (q : List ℕ) (b : Header) → block_of tree.blocks q ≡ Some b → (q ≢ tree.head) → StandsIn tree q b
  unfolding line
  stands_in q b found_at other =
      let s = stands tree.head _ is.grown q b (sym (block_of-reverse tree is q) ∙ found_at) other in
      record {
        over = record { prev = s.over.prev; is = block_of-reverse tree is b.prev ∙ s.over.is; has = s.over.has };
        line = s.leads;
      }

  -- What holds of the head, and of each block of whose prev it holds, holds of all live blocks.
  pub by_lines : (P : List ℕ → Type 0) → P tree.head → ((q : List ℕ) (b : Header) → block_of tree.blocks q ≡ Some b → (q ≢ tree.head) → StandsIn tree q b → P b.prev → P q) → (q : List ℕ) (b : Header) → block_of tree.blocks q ≡ Some b → P q
  by_lines P first step q b found_at = below (b.height + 1) q b found_at (omega arith)
    where
      below : (n : ℕ) (q : List ℕ) (b : Header) → block_of tree.blocks q ≡ Some b → b.height < n → P q
      below zero q b found_at lt = absurd (omega arith)
      below (suc n) q b found_at lt =
          ⊎_elim
          (λ (same : q ≡ tree.head). subst P (sym same) first)
          (λ other. over q b found_at other lt (stands_in q b found_at other) (λ c at low. below n b.prev c at low))
          (same_or_other q tree.head)
        where
          over : (q : List ℕ) (b : Header) → block_of tree.blocks q ≡ Some b → (q ≢ tree.head) → b.height < suc n → StandsIn tree q b → ((c : Header) → block_of tree.blocks b.prev ≡ Some c → c.height < n → P b.prev) → P q
          over q b found_at other lt s rec = step q b found_at other s (rec s.over.prev s.over.is (let l = s.over.has in omega (arith, l, lt)))
