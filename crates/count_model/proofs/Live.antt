-- The texts of live blocks, and what is counted of them.
use Rattle.std.proofs.Common.{◌≡◌, ◌↔◌, ℕ, ◌-◌, ◌≤◌, nat_eq, Bool, true, false, cond, List, [], ◌∷◌, map, Option, None, Some, Contains, ◌⊎◌, inl, inr, ⊎_elim, refl, sym, ◌∙◌, ap, subst, arith}
use Rattle.std.specs.List.{count_by, flat_map}
use Rattle.std.specs.Option.{option_map}
use Rattle.std.specs.Cmp.Lexicographic.{pointwise}
use Rattle.sha2.specs.Sha256.{sha256}
use Rattle.trie_model.specs.State.{State}
use Rattle.trie_model.specs.Root.{digest_occurrences, occurrences, texts_of}
use Rattle.trie_model.proofs.Members.{IsIn, contains_of_in, in_of_contains, in-append_left, in-append_right, in-append_cases}
use Rattle.fork_model.specs.Trees.{BlockTree, block_of, ids_of}
use Rattle.fork_model.specs.States.{Block, ForkState, IsForkState, block_at, state_at, tree_of_blocks}
use Rattle.fork_model.proofs.Ids.{found, found-behind, found-here, found_not_none, same-itself, same_from, same_or_other, AreApart}
use Rattle.fork_model.proofs.Lines.{id_key}
use Rattle.fork_model.proofs.Partition.{apart_blocks}
use Rattle.fork_model.proofs.States.{block_key, block_of-at}
use Rattle.count_model.specs.Counts.{Measure, count, counted, digest_count, in_state, of_digest, of_text, rise}
use Rattle.count_model.specs.Tables.{live_texts}
use Rattle.count_model.proofs.Sums.{sum_by-member, sum_by-some}
use Rattle.count_model.proofs.Counted.{counted-all, counted-le}

-- ---- lists

pub in-flat_map : {X Y : Type 0} (f : X → List Y) (xs : List X) (x : X) (y : Y) → IsIn xs x → IsIn (f x) y → IsIn (flat_map f xs) y
in-flat_map f [] x y i j = absurd i
in-flat_map f (z ∷ xs) x y (inl e) j = in-append_left (f z) (flat_map f xs) y (subst (λ w. IsIn (f w) y) (sym e) j)
in-flat_map f (z ∷ xs) x y (inr i) j = in-append_right (f z) (flat_map f xs) y (in-flat_map f xs x y i j)

pub in_flat_map_from : {X Y : Type 0} (f : X → List Y) (xs : List X) (y : Y) → IsIn (flat_map f xs) y → (x : X) × IsIn xs x × IsIn (f x) y
in_flat_map_from f [] y i = absurd i
in_flat_map_from {X} {Y} f (z ∷ xs) y i = go (λ j. in_flat_map_from f xs y j) (in-append_cases (f z) (flat_map f xs) y i)
  where
    go : (IsIn (flat_map f xs) y → (x : X) × IsIn xs x × IsIn (f x) y) → IsIn (f z) y ⊎ IsIn (flat_map f xs) y → (x : X) × IsIn (z ∷ xs) x × IsIn (f x) y
    go further (inl h) = (z, inl refl, h)
    go further (inr h) = let rest = further h in (rest.0, inr rest.1, rest.2)

-- how many pass a test
pub count-some : {X : Type 0} (test : X → Bool) (xs : List X) → 1 ≤ count_by test xs → (x : X) × IsIn xs x × (test x ≡ true)
count-some {X} test xs some = let one = sum_by-some (λ x. cond (test x) 1 0) xs some in (one.0, one.1, passes (test one.0) one.2)
  where
    passes : (b : Bool) → 1 ≤ cond b 1 0 → b ≡ true
    passes true h = refl
    passes false h = absurd (omega (arith, h))

pub count-member : {X : Type 0} (test : X → Bool) (xs : List X) (x : X) → IsIn xs x → test x ≡ true → 1 ≤ count_by test xs
count-member test xs x i passes = subst (λ b. cond b 1 0 ≤ count_by test xs) passes (sum_by-member (λ x. cond (test x) 1 0) xs x i)

-- ---- occurrences

pub text-occurs : (state : State) (t : List ℕ) → IsIn (texts_of state) t → 1 ≤ occurrences state t
text-occurs state t i = count-member (λ other. pointwise nat_eq other t) (texts_of state) t i (same-itself t)

pub text_occurs_from : (state : State) (t : List ℕ) → 1 ≤ occurrences state t → IsIn (texts_of state) t
text_occurs_from state t some = let one = count-some (λ other. pointwise nat_eq other t) (texts_of state) some in subst (IsIn (texts_of state)) (same_from one.0 t one.2) one.1

pub digest-occurs : (state : State) (t : List ℕ) → IsIn (texts_of state) t → 1 ≤ digest_occurrences state (sha256 t)
digest-occurs state t i = count-member (λ other. pointwise nat_eq (sha256 other) (sha256 t)) (texts_of state) t i (same-itself (sha256 t))

pub digest_occurs_from : (state : State) (digest : List ℕ) → 1 ≤ digest_occurrences state digest → (t : List ℕ) × IsIn (texts_of state) t × (sha256 t ≡ digest)
digest_occurs_from state digest some = let one = count-some (λ other. pointwise nat_eq (sha256 other) digest) (texts_of state) some in (one.0, one.1, same_from (sha256 one.0) digest one.2)

-- ---- live blocks

-- blocks whose ids are apart are found by them
found_apart : (bs : List Block) → AreApart id_key (map (λ block. block.header) bs) → (b : Block) → IsIn bs b → block_at bs b.header.id ≡ Some b
unfolding block_at block_of
found_apart [] apart b i = absurd i
found_apart (c ∷ bs) apart b (inl e) = subst (λ x. found block_key (c ∷ bs) x.header.id ≡ Some x) e (found-here block_key c bs c.header.id refl)
found_apart (c ∷ bs) apart b (inr i) =
    let below = found_apart bs apart.1 b i in
    found-behind block_key c bs b.header.id (λ same. found_not_none (block_of-at bs b.header.id ∙ ap (option_map (λ block. block.header)) below) (ap (found id_key (map (λ block. block.header) bs)) same ∙ apart.0)) ∙ below

pub found-in : {B : Type 0} (key : B → List ℕ) (bs : List B) (q : List ℕ) (b : B) → found key bs q ≡ Some b → IsIn bs b
found-in key [] q b e = cc
found-in {B} key (c ∷ bs) q b e =
    let further = found-in key bs q b in
    ⊎_elim
    (λ (same : q ≡ key c). let is : c ≡ b = cc (found-here key c bs q same, e) in inl is)
    (λ other. inr (further (sym (found-behind key c bs q other) ∙ e)))
    (same_or_other q (key c))

-- the block of a live state
pub block-of_state : (forks : ForkState) (id : List ℕ) (state : State) → state_at forks id ≡ Some state → (b : Block) × (block_at forks.blocks id ≡ Some b) × (b.state ≡ state)
block-of_state forks id state e = by_case (block_at forks.blocks id) refl e
  where
    by_case : (o : Option Block) → block_at forks.blocks id ≡ o → option_map (λ block. block.state) o ≡ Some state → (b : Block) × (block_at forks.blocks id ≡ Some b) × (b.state ≡ state)
    by_case None is e = cc
    by_case (Some b) is e = (b, is, cc)

pub block-in : (forks : ForkState) (id : List ℕ) (b : Block) → block_at forks.blocks id ≡ Some b → IsIn forks.blocks b
unfolding block_at
block-in forks id b at = found-in block_key forks.blocks id b at

pub live-in : (forks : ForkState) (b : Block) (t : List ℕ) → IsIn forks.blocks b → IsIn (texts_of b.state) t → IsIn (live_texts forks) t
unfolding live_texts
live-in forks b t i j = in-flat_map (λ block. texts_of block.state) forks.blocks b t i j

pub live_in_from : (forks : ForkState) (t : List ℕ) → IsIn (live_texts forks) t → (b : Block) × IsIn forks.blocks b × IsIn (texts_of b.state) t
unfolding live_texts
live_in_from forks t i = in_flat_map_from (λ block. texts_of block.state) forks.blocks t i

pub live-of_state : (forks : ForkState) (id t : List ℕ) (state : State) → state_at forks id ≡ Some state → Contains (texts_of state) t → Contains (live_texts forks) t
live-of_state forks id t state e here =
    let b = block-of_state forks id state e in
    contains_of_in (live_texts forks) t (live-in forks b.0 t (block-in forks id b.0 b.1) (subst (λ s. IsIn (texts_of s) t) (sym b.2) (in_of_contains (texts_of state) t here)))

module _ (forks : ForkState) (is : IsForkState forks) where
  abbrev tree : BlockTree
  tree = tree_of_blocks forks

  pub block-at_in : (b : Block) → IsIn forks.blocks b → block_at forks.blocks b.header.id ≡ Some b
  block-at_in b i = found_apart forks.blocks (apart_blocks tree is.tree) b i

  -- no live state has more than is counted
  pub measured-le : (measure : Measure) (id : List ℕ) (state : State) → state_at forks id ≡ Some state → measure state ≤ counted measure forks
  measured-le measure id state e =
      let b = block-of_state forks id state e in
      subst (λ o. in_state measure o ≤ counted measure forks) e
      (counted-le measure forks is id b.0.header (block_of-at forks.blocks id ∙ ap (option_map (λ block. block.header)) b.1))

  pub block-le : (measure : Measure) (b : Block) → IsIn forks.blocks b → measure b.state ≤ counted measure forks
  block-le measure b i = measured-le measure b.header.id b.state (ap (option_map (λ block. block.state)) (block-at_in b i))

  -- what is counted is in the state of some live block
  pub counted_from : (measure : Measure) → 1 ≤ counted measure forks → (b : Block) × IsIn forks.blocks b × (1 ≤ measure b.state)
  unfolding rise
  counted_from measure some =
      let one = sum_by-some (rise measure forks) (ids_of tree.blocks) (subst (λ n. 1 ≤ n) (counted-all measure forks is) some) in
      by_case one.0 (block_at forks.blocks one.0) refl one.2
    where
      part : (here former : ℕ) → 1 ≤ here - former → 1 ≤ here
      part here former h = omega (arith, h)

      by_case : (q : List ℕ) (o : Option Block) → block_at forks.blocks q ≡ o → 1 ≤ rise measure forks q → (b : Block) × IsIn forks.blocks b × (1 ≤ measure b.state)
      by_case q None e h = absurd (no_one (subst (λ o. 1 ≤ in_state measure (option_map (λ block. block.state) o)) e (part (in_state measure (state_at forks q)) _ h)))
        where
          no_one : 1 ≤ 0 → ⊥
          no_one h = omega (arith, h)
      by_case q (Some b) e h = (b, block-in forks q b e, subst (λ o. 1 ≤ in_state measure (option_map (λ block. block.state) o)) e (part (in_state measure (state_at forks q)) _ h))

  pub texts-counted : (t : List ℕ) → (1 ≤ count forks t) ↔ Contains (live_texts forks) t
  texts-counted t = (
    λ some. let from = counted_from (of_text t) some in contains_of_in (live_texts forks) t (live-in forks from.0 t from.1 (text_occurs_from from.0.state t from.2)),
    λ live.
        let from = live_in_from forks t (in_of_contains (live_texts forks) t live) in
        let here = text-occurs from.0.state t from.2 in
        let most = block-le (of_text t) from.0 from.1 in
        omega (arith, here, most),
  )

  pub digests-counted : (digest : List ℕ) → (1 ≤ digest_count forks digest) ↔ ((t : List ℕ) × Contains (live_texts forks) t × (sha256 t ≡ digest))
  digests-counted digest = (
    λ some.
        let from = counted_from (of_digest digest) some in
        let text = digest_occurs_from from.0.state digest from.2 in
        (text.0, contains_of_in (live_texts forks) text.0 (live-in forks from.0 text.0 from.1 text.1), text.2),
    λ live.
        let from = live_in_from forks live.0 (in_of_contains (live_texts forks) live.0 live.1) in
        let here = subst (λ d. 1 ≤ digest_occurrences from.0.state d) live.2 (digest-occurs from.0.state live.0 from.2) in
        let most = block-le (of_digest digest) from.0 from.1 in
        omega (arith, here, most),
  )
