-- A move tells each live block once: it is on the line to the new head, dropped, or stays behind the new head.
use Rattle.std.proofs.Common.{◌≡◌, ◌≢◌, ℕ, Bool, true, false, cond, not, ◌&&◌, ◌||◌, List, [], ◌∷◌, ◌++◌, map, reverse, Option, None, Some, is_some, ⊎_elim, refl, sym, ◌∙◌, ap, ap₂, subst}
use Rattle.std.specs.List.{filter, AllByRecursion, IsDistinct}
use Rattle.std.specs.List.Sorted.{IsPermutation}
use Rattle.std.specs.Str.{bytes_eq}
use Rattle.std.proofs.lemmas.Bool.{true≢false}
use Rattle.std.proofs.lemmas.List.{append_assoc, map-append, reverse-append, reverse-reverse}
use Rattle.std.proofs.lemmas.List.Sorted.{IsPermutation-append_right, IsPermutation-filter_both, IsPermutation-trans}
use Rattle.fork_model.specs.Trees.{Header, BlockTree, IsTree, block_of, descends, dropped, ids_of, is_among, leading, line, moved}
use Rattle.fork_model.specs.Laws.{ids_behind}
use Rattle.fork_model.proofs.Ids.{found, same-itself, apart_is, apart_from, same_from, same_or_other, found_not_none, found-here, found-behind, found-push_new, found-reverse, filter_without, AreApart}
use Rattle.fork_model.proofs.Lines.{id_key, apart-grown, leading-here, leading-behind, by_lines}
use Rattle.fork_model.proofs.Moves.{among-push, filter-reverse, not_leading, or_false, or_true}
use Rattle.fork_model.proofs.Descent.{descends-itself, descends-both, descends-head, descends-over}

-- ---- lists that are filtered

pub filter-filter : {X : Type 0} (p s : X → Bool) (xs : List X) → filter p (filter s xs) ≡ filter (λ x. s x && p x) xs
filter-filter p s [] = refl
filter-filter {X} p s (x ∷ xs) = by_test (s x) (filter-filter p s xs)
  where
    by_test : (t : Bool) → filter p (filter s xs) ≡ filter (λ y. s y && p y) xs → filter p (cond t (x ∷ filter s xs) (filter s xs)) ≡ cond (t && p x) (x ∷ filter (λ y. s y && p y) xs) (filter (λ y. s y && p y) xs)
    by_test true rest = ap (λ (ys : List X). cond (p x) (x ∷ ys) ys) rest
    by_test false rest = rest

pub filter-map : {X Y : Type 0} (p : Y → Bool) (f : X → Y) (xs : List X) → filter p (map f xs) ≡ map f (filter (λ x. p (f x)) xs)
filter-map p f [] = refl
filter-map {X} {Y} p f (x ∷ xs) = ap (λ (ys : List Y). cond (p (f x)) (f x ∷ ys) ys) (filter-map p f xs) ∙ by_test (p (f x))
  where
    by_test : (t : Bool) → cond t (f x ∷ map f (filter (λ z. p (f z)) xs)) (map f (filter (λ z. p (f z)) xs)) ≡ map f (cond t (x ∷ filter (λ z. p (f z)) xs) (filter (λ z. p (f z)) xs))
    by_test true = refl
    by_test false = refl

pub map-reverse : {X Y : Type 0} (f : X → Y) (xs : List X) → map f (reverse xs) ≡ reverse (map f xs)
map-reverse f [] = refl
map-reverse {X} {Y} f (x ∷ xs) = ap (map f) (reverse-append (x ∷ []) xs) ∙ map-append f (reverse xs) (x ∷ []) ∙ ap (λ (ys : List Y). ys ++ f x ∷ []) (map-reverse f xs) ∙ sym (reverse-append (f x ∷ []) (map f xs))

-- tests that agree on the ids of a list
pub filter_alike : (p s : List ℕ → Bool) (xs : List (List ℕ)) → ((x : List ℕ) → is_among x xs ≡ true → p x ≡ s x) → filter p xs ≡ filter s xs
filter_alike p s [] alike = refl
filter_alike p s (x ∷ xs) alike =
    ap₂ (λ (t : Bool) (rest : List (List ℕ)). cond t (x ∷ rest) rest) (alike x (ap (λ t. t || is_among x xs) (same-itself x)))
    (filter_alike p s xs (λ y among. alike y (ap (λ t. bytes_eq y x || t) among ∙ or_true _)))

-- tests that agree on the ids that are found
pub filter_found : {B : Type 0} (key : B → List ℕ) (p s : List ℕ → Bool) (bs : List B) → ((q : List ℕ) → is_some (found key bs q) ≡ true → p q ≡ s q) → filter (λ b. p (key b)) bs ≡ filter (λ b. s (key b)) bs
filter_found key p s [] alike = refl
filter_found {B} key p s (b ∷ bs) alike =
    ap₂ (λ (t : Bool) (rest : List B). cond t (b ∷ rest) rest) (alike (key b) (ap is_some (found-here key b bs (key b) refl)))
    (filter_found key p s bs (λ q live. alike q (
    ⊎_elim (λ (same : q ≡ key b). ap is_some (found-here key b bs q same)) (λ other. ap is_some (found-behind key b bs q other) ∙ live) (same_or_other q (key b)))))

pub filter-all : {X : Type 0} (xs : List X) → filter (λ _. true) xs ≡ xs
filter-all [] = refl
filter-all {X} (x ∷ xs) = ap (λ ys. x ∷ ys) (filter-all xs)

pub filter-nothing : {X : Type 0} (xs : List X) → filter (λ _. false) xs ≡ []
filter-nothing [] = refl
filter-nothing {X} (x ∷ xs) = filter-nothing xs

-- ---- ids

-- whose ids are told apart: each from those behind it
pub apart-push : {B : Type 0} (key : B → List ℕ) (bs : List B) (b : B) → AreApart key bs → found key bs (key b) ≡ None → AreApart key (bs ++ b ∷ [])
apart-push key [] b apart none = (refl, tt)
apart-push {B} key (c ∷ bs) b apart none =
    let other : key b ≢ key c = λ same. found_not_none (found-here key c bs (key b) same) none in (
      found-push_new key bs b (key c) apart.0 ∙ ap (λ t. cond t (Some b) None) (apart_is (key c) (key b) (λ e. other (sym e))),
      apart-push key bs b apart.1 (sym (found-behind key c bs (key b) other) ∙ none),
    )

pub apart-reverse : {B : Type 0} (key : B → List ℕ) (bs : List B) → AreApart key bs → AreApart key (reverse bs)
apart-reverse key [] apart = tt
apart-reverse {B} key (b ∷ bs) apart =
    subst (AreApart key) (sym (reverse-append (b ∷ []) bs)) (apart-push key (reverse bs) b (apart-reverse key bs apart.1) (found-reverse key bs (key b) apart.1 ∙ apart.0))

distinct : {B : Type 0} (key : B → List ℕ) (bs : List B) → AreApart key bs → IsDistinct bytes_eq (map key bs)
unfolding IsDistinct
distinct key [] apart = tt
distinct {B} key (b ∷ bs) apart = (each bs apart.0, distinct key bs apart.1)
  where
    each : (cs : List B) → found key cs (key b) ≡ None → AllByRecursion (λ y. bytes_eq (key b) y ≡ false) (map key cs)
    each [] none = tt
    each (c ∷ cs) none =
        let other : key b ≢ key c = λ same. found_not_none (found-here key c cs (key b) same) none in
        (apart_is (key b) (key c) other, each cs (sym (found-behind key c cs (key b) other) ∙ none))

pub among_ids : {B : Type 0} (key : B → List ℕ) (bs : List B) (q : List ℕ) → is_among q (map key bs) ≡ is_some (found key bs q)
among_ids key [] q = refl
among_ids {B} key (b ∷ bs) q = by_test (bytes_eq q (key b)) (among_ids key bs q)
  where
    by_test : (t : Bool) → is_among q (map key bs) ≡ is_some (found key bs q) → (t || is_among q (map key bs)) ≡ is_some (cond t (Some b) (found key bs q))
    by_test true rest = refl
    by_test false rest = rest

-- ---- the line to a block, in the order of acceptance

-- those of the blocks that are in a list, by their ids
abbrev told : List (List ℕ) → List Header → List (List ℕ)
told ids bs = map id_key (filter (λ b. is_among b.id ids) bs)

leading-nil : (q : List ℕ) → leading [] q ≡ []
unfolding leading
leading-nil q = refl

-- newest blocks first
led_by : (bs : List Header) → AreApart id_key bs → (q : List ℕ) → told (leading bs q) bs ≡ reverse (leading bs q)
unfolding block_of
led_by [] apart q = ap reverse (sym (leading-nil q))
led_by (b ∷ older) apart q =
    ⊎_elim
    (λ (same : q ≡ b.id). subst (λ ids. told ids (b ∷ older) ≡ reverse ids) (sym (leading-here b older q same)) (here (leading older b.prev) same (led_by older apart.1 b.prev)))
    (λ (other : q ≢ b.id). subst (λ ids. told ids (b ∷ older) ≡ reverse ids) (sym (leading-behind b older q other)) (behind (not_leading b.id older apart.0 q) (led_by older apart.1 q)))
    (same_or_other q b.id)
  where
    here : (ids : List (List ℕ)) → q ≡ b.id → told ids older ≡ reverse ids → told (ids ++ q ∷ []) (b ∷ older) ≡ reverse (ids ++ q ∷ [])
    here ids same rest =
        let it : is_among b.id (ids ++ q ∷ []) ≡ true = among-push b.id ids q ∙ ap (λ t. is_among b.id ids || t) (ap (bytes_eq b.id) same ∙ same-itself b.id) ∙ or_true _ in
        let others : filter (λ c. is_among c.id (ids ++ q ∷ [])) older ≡ filter (λ c. is_among c.id ids) older
        = filter_without id_key b.id (λ k. is_among k (ids ++ q ∷ [])) (λ k. is_among k ids) (λ k n. among-push k ids q ∙ ap (λ t. is_among k ids || t) (apart_is k q (λ e. n (e ∙ same))) ∙ or_false _) older apart.0 in
        ap₂ (λ (t : Bool) (cs : List Header). map id_key (cond t (b ∷ cs) cs)) it others
        ∙ ap₂ (λ (x : List ℕ) (xs : List (List ℕ)). x ∷ xs) (sym same) rest
        ∙ sym (reverse-append ids (q ∷ []))

    behind : is_among b.id (leading older q) ≡ false → told (leading older q) older ≡ reverse (leading older q) → told (leading older q) (b ∷ older) ≡ reverse (leading older q)
    behind none rest = ap (λ t. map id_key (cond t (b ∷ filter (λ c. is_among c.id (leading older q)) older) (filter (λ c. is_among c.id (leading older q)) older))) none ∙ rest

not_not : (t : Bool) → not (not t) ≡ t
not_not true = refl
not_not false = refl

-- ---- in a tree

module _ (tree : BlockTree) (is : IsTree tree) where
  pub apart_blocks : AreApart id_key tree.blocks
  apart_blocks = subst (AreApart id_key) (reverse-reverse tree.blocks) (apart-reverse id_key (reverse tree.blocks) (apart-grown tree.head _ is.grown))

  -- no two live blocks have one id
  pub ids_apart : IsDistinct bytes_eq (ids_of tree.blocks)
  ids_apart = distinct id_key tree.blocks apart_blocks

  pub among_live : (q : List ℕ) → is_among q (ids_of tree.blocks) ≡ is_some (block_of tree.blocks q)
  unfolding block_of
  among_live q = among_ids id_key tree.blocks q

  -- a line is in the order of acceptance
  pub line-told : (q : List ℕ) → filter (λ k. is_among k (line tree q)) (ids_of tree.blocks) ≡ line tree q
  unfolding line
  line-told q =
      let ids : List (List ℕ) = leading (reverse tree.blocks) q in
      let p : Header → Bool = λ b. is_among b.id ids in
      filter-map (λ k. is_among k ids) id_key tree.blocks
      ∙ ap (map id_key) (sym (reverse-reverse (filter p tree.blocks)) ∙ ap reverse (sym (filter-reverse p tree.blocks)))
      ∙ map-reverse id_key (filter p (reverse tree.blocks))
      ∙ ap reverse (led_by (reverse tree.blocks) (apart-grown tree.head _ is.grown) q)
      ∙ reverse-reverse ids

  live_from : (q : List ℕ) → is_among q (ids_of tree.blocks) ≡ true → (b : Header) × (block_of tree.blocks q ≡ Some b)
  live_from q among = by_case (block_of tree.blocks q) refl
    where
      by_case : (o : Option Header) → block_of tree.blocks q ≡ o → (b : Header) × (block_of tree.blocks q ≡ Some b)
      by_case None e = absurd (true≢false (sym among ∙ among_live q ∙ ap is_some e))
      by_case (Some b) e = (b, e)

  module _ (id : List ℕ) (b : Header) (at : block_of tree.blocks id ≡ Some b) where
    on_line : (q : List ℕ) → is_among q (line tree id) ≡ descends tree q id
    unfolding descends
    on_line q = refl

    -- of what descends from the new head it alone is on the line to it
    behind-alike : (q : List ℕ) (c : Header) → block_of tree.blocks q ≡ Some c → (not (is_among q (line tree id)) && descends tree id q) ≡ (descends tree id q && not (bytes_eq q id))
    behind-alike q c is_c = by_test (descends tree id q) refl
      where
        none : (t : Bool) → (t && false) ≡ false
        none true = refl
        none false = refl

        by_test : (t : Bool) → descends tree id q ≡ t → (not (is_among q (line tree id)) && t) ≡ (t && not (bytes_eq q id))
        by_test false e = none _
        by_test true e = ap (λ t. not t && true) (on_line q ∙ by_id (bytes_eq q id) refl (descends tree q id) refl) ∙ all _
          where
            all : (t : Bool) → (t && true) ≡ t
            all true = refl
            all false = refl

            by_id : (t : Bool) → bytes_eq q id ≡ t → (s : Bool) → descends tree q id ≡ s → s ≡ bytes_eq q id
            by_id true same s is_s = sym is_s ∙ ap (λ k. descends tree k id) (same_from q id same) ∙ descends-itself tree is id b at ∙ sym same
            by_id false other true is_s = absurd (apart_from q id other (sym (descends-both tree is id q b c at is_c e is_s)))
            by_id false other false is_s = sym other

    -- The blocks that a move tells of, and those that stay behind the new head, are the live blocks, each once.
    pub told_once : IsPermutation (ids_of tree.blocks) (line tree id ++ dropped tree id ++ ids_behind (moved tree id))
    unfolding dropped moved
    told_once =
        let ids : List (List ℕ) = ids_of tree.blocks in
        let p : List ℕ → Bool = λ q. is_among q (line tree id) in
        let d : List ℕ → Bool = descends tree id in
        let rest : List (List ℕ) = filter (λ q. not (p q)) ids in
        let stay : filter d rest ≡ ids_behind (moved tree id)
        = filter-filter d (λ q. not (p q)) ids
        ∙ filter_alike (λ q. not (p q) && d q) (λ q. d q && not (bytes_eq q id)) ids (λ q among. let c = live_from q among in behind-alike q c.0 c.1)
        ∙ sym (filter-filter (λ q. not (bytes_eq q id)) d ids)
        ∙ ap (filter (λ q. not (bytes_eq q id))) (filter-map d id_key tree.blocks) in
        let parts : IsPermutation rest (dropped tree id ++ ids_behind (moved tree id))
        = subst (λ ys. IsPermutation rest ys) (ap₂ (λ xs ys. xs ++ ys) (filter-filter (λ q. not (d q)) (λ q. not (p q)) ids) stay)
        (IsPermutation-filter_both (λ q. not (d q)) d (λ q. sym (not_not (d q))) rest) in
        let all : IsPermutation ids (filter p ids ++ rest) = IsPermutation-filter_both p (λ q. not (p q)) (λ _. refl) ids in
        let onward : IsPermutation ids (line tree id ++ (dropped tree id ++ ids_behind (moved tree id)))
        = subst (λ xs. IsPermutation ids (xs ++ (dropped tree id ++ ids_behind (moved tree id)))) (line-told id)
        (IsPermutation-trans ids _ _ all (IsPermutation-append_right (filter p ids) _ _ parts)) in
        subst (IsPermutation ids) (sym (append_assoc (line tree id) (dropped tree id) (ids_behind (moved tree id)))) onward

  -- ---- a move to the head

  pub descends-from_head : (q : List ℕ) (b : Header) → block_of tree.blocks q ≡ Some b → descends tree tree.head q ≡ true
  descends-from_head q b at =
      by_lines tree is (λ q. descends tree tree.head q ≡ true) (descends-head tree is tree.head ∙ same-itself tree.head)
      (λ q b at other s below. descends-over tree is tree.head q b at other ∙ ap (λ t. t || bytes_eq tree.head q) below) q b at

  from_head : (q : List ℕ) → is_some (block_of tree.blocks q) ≡ true → descends tree tree.head q ≡ true
  from_head q live = let b = live_from q (among_live q ∙ live) in descends-from_head q b.0 b.1

  pub moved-head : moved tree tree.head ≡ tree
  unfolding moved block_of
  moved-head = ap (λ blocks. record { head = tree.head; blocks = blocks }) (filter_found id_key (descends tree tree.head) (λ _. true) tree.blocks from_head ∙ filter-all tree.blocks)

  pub dropped-head : dropped tree tree.head ≡ []
  unfolding dropped
  dropped-head =
      filter_alike _ (λ _. false) (ids_of tree.blocks)
      (λ q among. ap (λ t. not (is_among q (line tree tree.head)) && not t) (from_head q (sym (among_live q) ∙ among)) ∙ none (not (is_among q (line tree tree.head))))
      ∙ filter-nothing (ids_of tree.blocks)
    where
      none : (t : Bool) → (t && false) ≡ false
      none true = refl
      none false = refl
