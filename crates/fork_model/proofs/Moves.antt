-- A block accepted and a move of the head leave a tree, and who descends from whom.
use Rattle.std.proofs.Common.{◌≡◌, ◌≢◌, ℕ, ◌<◌, Bool, true, false, cond, ◌||◌, List, [], ◌∷◌, ◌++◌, Option, None, Some, ⊎_elim, refl, sym, ◌∙◌, ap, ap₂, subst, reverse}
use Rattle.std.specs.Option.{IsSomeAnd}
use Rattle.std.specs.List.{filter}
use Rattle.std.specs.Str.{bytes_eq}
use Rattle.std.proofs.lemmas.List.{append-nil, reverse-append}
use Rattle.std.proofs.lemmas.List.Folds.{list_any-append}
use Rattle.std.proofs.lemmas.List.Elements.{filter-append}
use Rattle.fork_model.specs.Trees.{Header, BlockTree, IsTree, AreGrown, Follows, block_of, descends, grown, is_among, leading, line, moved}
use Rattle.fork_model.proofs.Ids.{found, same-itself, apart_is, same_or_other, found_not_none, found-here, found-behind, found-filter, filter_without}
use Rattle.fork_model.proofs.Lines.{id_key, block_of-reverse, leading-behind, leading-here}

-- ---- ids in lists

pub or_false : (a : Bool) → (a || false) ≡ a
or_false true = refl
or_false false = refl

pub or_true : (a : Bool) → (a || true) ≡ true
or_true true = refl
or_true false = refl

pub among-push : (x : List ℕ) (xs : List (List ℕ)) (y : List ℕ) → is_among x (xs ++ y ∷ []) ≡ (is_among x xs || bytes_eq x y)
among-push x xs y = list_any-append (bytes_eq x) xs (y ∷ []) ∙ ap (λ b. is_among x xs || b) (or_false (bytes_eq x y))

filter_none : {X : Type 0} (p : X → Bool) → ((x : X) → p x ≡ false) → (xs : List X) → filter p xs ≡ []
filter_none {X} p none [] = refl
filter_none {X} p none (x ∷ xs) = ap₂ (λ (t : Bool) (rest : List X). cond t (x ∷ rest) rest) (none x) (filter_none p none xs)

pub filter-reverse : {X : Type 0} (p : X → Bool) (xs : List X) → filter p (reverse xs) ≡ reverse (filter p xs)
filter-reverse p [] = refl
filter-reverse p (x ∷ xs) =
    ap (filter p) (reverse-append (x ∷ []) xs) ∙ filter-append p (reverse xs) (x ∷ []) ∙ ap (λ ys. ys ++ cond (p x) (x ∷ []) []) (filter-reverse p xs) ∙ by_test (p x)
  where
    by_test : (t : Bool) → reverse (filter p xs) ++ cond t (x ∷ []) [] ≡ reverse (cond t (x ∷ filter p xs) (filter p xs))
    by_test true = sym (reverse-append (x ∷ []) (filter p xs))
    by_test false = append-nil (reverse (filter p xs))

-- ---- newest blocks first

pub AreGrown-cons : (head : List ℕ) (b : Header) (older : List Header) → AreGrown head older → Follows older b → AreGrown head (b ∷ older)
AreGrown-cons head b [] grown follows = absurd grown
AreGrown-cons head b (o ∷ rest) grown follows = (follows, grown)

-- what is not among the blocks leads to none of them
pub not_leading : (x : List ℕ) (bs : List Header) → block_of bs x ≡ None → (q : List ℕ) → is_among x (leading bs q) ≡ false
unfolding leading block_of
not_leading x [] none q = refl
not_leading x (b ∷ older) none q =
    ⊎_elim
    (λ (same : x ≡ b.id). absurd (found_not_none (found-here id_key b older x same) none))
    (λ (other : x ≢ b.id).
    let below = not_leading x older (sym (found-behind id_key b older x other) ∙ none) in
    ⊎_elim
    (λ (same : q ≡ b.id). ap (is_among x) (leading-here b older q same) ∙ among-push x (leading older b.prev) q ∙ ap₂ (λ s t. s || t) (below b.prev) (apart_is x q (λ e. other (e ∙ same))))
    (λ (apart : q ≢ b.id). ap (is_among x) (leading-behind b older q apart) ∙ below q)
    (same_or_other q b.id))
    (same_or_other x b.id)

-- those that descend from one of them, that one among them
abbrev staying : List ℕ → List Header → List Header → List Header
staying id all bs = filter (λ b. is_among id (leading all b.id)) bs

-- A block stays where its prev does, and where it is the one.
stays-next : (id : List ℕ) (b : Header) (older : List Header) → is_among id (leading (b ∷ older) b.id) ≡ (is_among id (leading older b.prev) || bytes_eq id b.id)
stays-next id b older = ap (is_among id) (leading-here b older b.id refl) ∙ among-push id (leading older b.prev) b.id

-- what stays of older blocks does not depend on a newer one
staying-older : (id : List ℕ) (b : Header) (older : List Header) → block_of older b.id ≡ None → staying id (b ∷ older) older ≡ staying id older older
unfolding block_of
staying-older id b older new =
    filter_without id_key b.id (λ q. is_among id (leading (b ∷ older) q)) (λ q. is_among id (leading older q)) (λ q other. ap (is_among id) (leading-behind b older q other)) older new

-- the newest one is it
staying-newest : (id : List ℕ) (b : Header) (older : List Header) → block_of older b.id ≡ None → id ≡ b.id → AreGrown id (staying id (b ∷ older) (b ∷ older))
staying-newest id b older new same =
    let stays : is_among id (leading (b ∷ older) b.id) ≡ true = stays-next id b older ∙ ap (λ t. is_among id (leading older b.prev) || t) (ap (λ k. bytes_eq k b.id) same ∙ same-itself b.id) ∙ or_true _ in
    let none : staying id (b ∷ older) older ≡ [] = staying-older id b older new ∙ filter_none (λ x. is_among id (leading older x.id)) (λ x. not_leading id older (ap (block_of older) same ∙ new) x.id) older in
    let P : Bool → List Header → Type 0 = λ t rest. AreGrown id (cond t (b ∷ rest) rest) in
    subst (λ t. P t (staying id (b ∷ older) older)) (sym stays) (subst (P true) (sym none) same)

staying-behind : (id : List ℕ) (b : Header) (older : List Header) → Follows older b → (id ≢ b.id) → AreGrown id (staying id older older) → AreGrown id (staying id (b ∷ older) (b ∷ older))
unfolding block_of
staying-behind id b older follows other below = by_test (is_among id (leading older b.prev)) refl
  where
    kept : List Header
    kept = staying id older older

    test : is_among id (leading (b ∷ older) b.id) ≡ is_among id (leading older b.prev)
    test = stays-next id b older ∙ ap (λ t. is_among id (leading older b.prev) || t) (apart_is id b.id other) ∙ or_false _

    rest : staying id (b ∷ older) older ≡ kept
    rest = staying-older id b older follows.new

    found_kept : (q : List ℕ) → found id_key kept q ≡ cond (is_among id (leading older q)) (found id_key older q) None
    found_kept q = found-filter id_key (λ k. is_among id (leading older k)) older q

    none_there : (t : Bool) → cond t (found id_key older b.id) None ≡ None
    none_there true = follows.new
    none_there false = refl

    where_kept : (t : Bool) → is_among id (leading older b.prev) ≡ t → AreGrown id (cond t (b ∷ kept) kept)
    where_kept true e = AreGrown-cons id b kept below (record {
      new = found_kept b.id ∙ none_there _;
      higher = subst (λ (o : Option Header). IsSomeAnd o (λ prev. prev.height < b.height)) (sym (found_kept b.prev ∙ ap (λ t. cond t (found id_key older b.prev) None) e)) follows.higher;
    })
    where_kept false e = below

    by_test : (t : Bool) → is_among id (leading older b.prev) ≡ t → AreGrown id (staying id (b ∷ older) (b ∷ older))
    by_test t e =
        let P : Bool → List Header → Type 0 = λ t rest. AreGrown id (cond t (b ∷ rest) rest) in
        subst (λ s. P s (staying id (b ∷ older) older)) (sym (test ∙ e)) (subst (P t) (sym rest) (where_kept t e))

staying-grown : (head : List ℕ) (bs : List Header) → AreGrown head bs → (id : List ℕ) (c : Header) → block_of bs id ≡ Some c → AreGrown id (staying id bs bs)
unfolding block_of
staying-grown head [] grown id c is = absurd grown
staying-grown head (b ∷ []) grown id c is =
    ⊎_elim (staying-newest id b [] refl) (λ other. absurd (found_not_none is (found-behind id_key b [] id other))) (same_or_other id b.id)
staying-grown head (b ∷ o ∷ rest) grown id c is =
    ⊎_elim (staying-newest id b (o ∷ rest) grown.0.new) (λ other. staying-behind id b (o ∷ rest) grown.0 other (staying-grown head (o ∷ rest) grown.1 id c (sym (found-behind id_key b (o ∷ rest) id other) ∙ is))) (same_or_other id b.id)

-- ---- a tree after a move, and after a block

pub moved-is : (tree : BlockTree) → IsTree tree → (id : List ℕ) (b : Header) → block_of tree.blocks id ≡ Some b → IsTree (moved tree id)
unfolding moved descends line
moved-is tree is id b found_at = record {
  grown = subst (AreGrown id) (filter-reverse (λ b. is_among id (leading (reverse tree.blocks) b.id)) tree.blocks) (staying-grown tree.head (reverse tree.blocks) is.grown id b (sym (block_of-reverse tree is id) ∙ found_at));
}

pub grown-is : (tree : BlockTree) → IsTree tree → (b : Header) → block_of tree.blocks b.id ≡ None → IsSomeAnd (block_of tree.blocks b.prev) (λ prev. prev.height < b.height) → IsTree (grown tree b)
grown-is tree is b new higher = record {
  grown = subst (AreGrown tree.head) (sym (reverse-append tree.blocks (b ∷ []))) (AreGrown-cons tree.head b (reverse tree.blocks) is.grown (record {
    new = sym (block_of-reverse tree is b.id) ∙ new;
    higher = subst (λ o. IsSomeAnd o (λ prev. prev.height < b.height)) (block_of-reverse tree is b.prev) higher;
  }));
}
