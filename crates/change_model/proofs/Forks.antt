-- Which paths are places, told by the rows below them: the root, each path at which rows fork, and each path one nibble behind such a path that has a row below it.
use Rattle.byte_model.proofs.Lists.{first_same, rest_same}
use Rattle.trie_model.specs.Grown.{grown}
use Rattle.std.proofs.Common.{◌≡◌, ◌≢◌, ℕ, ◌<◌, ◌==◌, true, false, if◌then◌else◌, List, [], ◌∷◌, ◌++◌, Option, None, Some, refl, sym, ◌∙◌, ap, subst, ap₂, inl, inr, append_assoc, append-nil}
use Rattle.std.specs.List.{cons_option}
use Rattle.std.specs.Option.{option_map}
use Rattle.std.proofs.lemmas.Bool.{false≢true, cases_eq}
use Rattle.std.proofs.lemmas.List.{append_cancel_left}
use Rattle.trie_model.specs.State.{Row}
use Rattle.trie_model.specs.Tree.{Tree, nothing, leaf, branch, extension, rest_behind, below, ends_here, common_prefix, tree_of}
use Rattle.trie_model.specs.Texts.{places}
use Rattle.trie_model.proofs.Members.{IsIn}
use Rattle.trie_model.proofs.Rests.{HasPrefix, AllHavePrefix, common_prefix-all, under, under-below, below-under, below-nil, below-append, prefix_and_rest, none_cons, equal_of_test}
use Rattle.trie_model.proofs.Trees.{tree_of-nil, tree_of-one, tree_of-forks, tree_of-shares, by_cases}
use Rattle.trie_model.proofs.Children.{no_place, root_is_place, in_branch, in_branch_from, in_extension, in_extension_from}
use Rattle.trie_model.proofs.Pairs.{Small, small-below}
use Rattle.trie_model.proofs.Growth.{tree_of-under, common_prefix-under, tree_of-prefix, below-under_other}
use Rattle.change_model.specs.Places.{is_branch}

-- ---- rows that fork

-- the trie of some rows has a branch at its top
abbrev pub Fork : List Row → Type 0
Fork rows = is_branch (tree_of rows) ≡ true

pub fork-nil : Fork [] → ⊥
unfolding is_branch
fork-nil h = false≢true (sym (ap is_branch tree_of-nil) ∙ h)

fork-one : (row : Row) → Fork (row ∷ []) → ⊥
unfolding is_branch
fork-one row h = false≢true (sym (ap is_branch (tree_of-one row)) ∙ h)

fork-forks : (row next : Row) (rows : List Row) → common_prefix row (next ∷ rows) ≡ [] → Fork (row ∷ next ∷ rows)
unfolding is_branch
fork-forks row next rows e = ap is_branch (tree_of-forks row next rows e)

is_branch-grown : (x : ℕ) (prefix : List ℕ) (tree : Tree) → is_branch (grown (x ∷ prefix) tree) ≡ false
unfolding is_branch grown
is_branch-grown x prefix nothing = refl
is_branch-grown x prefix (leaf path value) = refl
is_branch-grown x prefix (branch value kids) = refl
is_branch-grown x prefix (extension path child) = refl

fork-below_one : (place : List ℕ) (row : Row) → Fork (below place (row ∷ [])) → ⊥
unfolding below
fork-below_one place row = go (rest_behind place row.0)
  where
    go : (r : Option (List ℕ)) → Fork (cons_option (option_map (λ rest. (rest, row.1)) r) []) → ⊥
    go None h = fork-nil h
    go (Some rest) h = fork-one (rest, row.1) h

-- rows that all begin with a nibble don't
pub fork-under : (x : ℕ) (prefix : List ℕ) (rows : List Row) → Fork (under (x ∷ prefix) rows) → ⊥
fork-under x prefix rows h = false≢true (sym (is_branch-grown x prefix (tree_of rows)) ∙ ap is_branch (sym (tree_of-under (x ∷ prefix) rows)) ∙ h)

pub fork-prefix : (x : ℕ) (prefix : List ℕ) (rows : List Row) → AllHavePrefix (x ∷ prefix) rows → Fork rows → ⊥
fork-prefix x prefix rows all h = false≢true (sym (is_branch-grown x prefix (tree_of (below (x ∷ prefix) rows))) ∙ ap is_branch (sym (tree_of-prefix (x ∷ prefix) rows all)) ∙ h)

-- ---- rows behind a prefix

under-cons : (x : ℕ) (prefix : List ℕ) (rows : List Row) → under (x ∷ prefix) rows ≡ under (x ∷ []) (under prefix rows)
under-cons x prefix [] = refl
under-cons x prefix (row ∷ rows) = ap (λ (others : List Row). (x ∷ prefix ++ row.0, row.1) ∷ others) (under-cons x prefix rows)

pub below-under_cons : (y x : ℕ) (q prefix : List ℕ) (rows : List Row) → below (y ∷ q) (under (x ∷ prefix) rows) ≡ below q (below (y ∷ []) (under (x ∷ []) (under prefix rows)))
below-under_cons y x q prefix rows = below-append (y ∷ []) q (under (x ∷ prefix) rows) ∙ ap (λ (rs : List Row). below q (below (y ∷ []) rs)) (under-cons x prefix rows)

-- rows that are put behind a prefix fork behind it alone
fork-below_under : (prefix q : List ℕ) (rows : List Row) → Fork (below q (under prefix rows)) → HasPrefix prefix q
unfolding below
fork-below_under [] q rows h = (q, refl)
fork-below_under (x ∷ prefix) [] rows h = absurd (fork-under x prefix rows (subst Fork (below-nil (under (x ∷ prefix) rows)) h))
fork-below_under (x ∷ prefix) (y ∷ q) rows h =
    let k = subst Fork (below-under_cons y x q prefix rows) h in
    elim (cases_eq y x) [
      | inl same ↦
          let rs : below (y ∷ []) (under (x ∷ []) (under prefix rows)) ≡ under prefix rows = subst (λ z. below (z ∷ []) (under (x ∷ []) (under prefix rows)) ≡ under prefix rows) (sym same) (below-under (x ∷ []) (under prefix rows)) in
          let further = fork-below_under prefix q rows (subst (λ (others : List Row). Fork (below q others)) rs k) in
          (further.0, ap₂ (λ (a : ℕ) (others : List ℕ). a ∷ others) same further.1)
      | inr apart ↦ absurd (fork-nil (subst (λ (others : List Row). Fork (below q others)) (below-under_other y x (under prefix rows) apart) k))
    ]

fork_behind : (prefix q : List ℕ) (rows : List Row) → AllHavePrefix prefix rows → Fork (below q rows) → HasPrefix prefix q
fork_behind prefix q rows all h = fork-below_under prefix q (below prefix rows) (subst (λ (rs : List Row). Fork (below q rs)) (sym (under-below prefix rows all)) h)

-- rows of which some begin with a nibble, but not all, fork
begin_alike : (x y : ℕ) (prefix : List ℕ) (rows : List Row) → AllHavePrefix (y ∷ prefix) rows → below (x ∷ []) rows ≢ [] → x ≡ y
unfolding below
begin_alike x y prefix rows all some =
    elim (cases_eq x y) [
      | inl same ↦ same
      | inr apart ↦ absurd (some (
          ap (below (x ∷ [])) (sym (under-below (y ∷ prefix) rows all) ∙ under-cons y prefix (below (y ∷ prefix) rows))
          ∙ below-under_other x y (under prefix (below (y ∷ prefix) rows)) apart))
    ]

all_begin : (y : ℕ) (prefix : List ℕ) (rows : List Row) → AllHavePrefix (y ∷ prefix) rows → AllHavePrefix (y ∷ []) rows
all_begin y prefix [] all = tt
all_begin y prefix (row ∷ rows) all = ((prefix ++ all.0.0, all.0.1), all_begin y prefix rows all.1)

pub fork_unless_alone : (x : ℕ) (rows : List Row) → below (x ∷ []) rows ≢ [] → (AllHavePrefix (x ∷ []) rows → ⊥) → Fork rows
unfolding below
fork_unless_alone x [] some apart = absurd (some refl)
fork_unless_alone x (row ∷ []) some apart = go (rest_behind (x ∷ []) row.0) refl
  where
    go : (r : Option (List ℕ)) → rest_behind (x ∷ []) row.0 ≡ r → Fork (row ∷ [])
    go None e = absurd (some (ap (λ (r : Option (List ℕ)). cons_option (option_map (λ rest. (rest, row.1)) r) []) e))
    go (Some rest) e = absurd (apart ((rest, prefix_and_rest (x ∷ []) row.0 rest e), tt))
fork_unless_alone x (row ∷ next ∷ rows) some apart = go (common_prefix row (next ∷ rows)) refl
  where
    go : (prefix : List ℕ) → common_prefix row (next ∷ rows) ≡ prefix → Fork (row ∷ next ∷ rows)
    go [] e = fork-forks row next rows e
    go (y ∷ prefix) e =
        let all = subst (λ (f : List ℕ). AllHavePrefix f (row ∷ next ∷ rows)) e (common_prefix-all row (next ∷ rows)) in
        let same = begin_alike x y prefix (row ∷ next ∷ rows) all some in
        absurd (apart (subst (λ z. AllHavePrefix (z ∷ []) (row ∷ next ∷ rows)) (sym same) (all_begin y prefix (row ∷ next ∷ rows) all)))

-- rows fork below the prefix that they share
pub shared_prefix : List Row → List ℕ
shared_prefix [] = []
shared_prefix (row ∷ rows) = common_prefix row rows

pub fork_of_under : (prefix : List ℕ) (rest : List Row) (row next : Row) (rows : List Row) → under prefix rest ≡ row ∷ next ∷ rows → common_prefix row (next ∷ rows) ≡ prefix → Fork rest
unfolding shared_prefix
fork_of_under prefix [] row next rows same e = cc
fork_of_under prefix (one ∷ []) row next rows same e = cc
fork_of_under prefix (one ∷ two ∷ rest) row next rows same e =
    fork-forks one two rest (append_cancel_left prefix (common_prefix one (two ∷ rest)) [] (sym (common_prefix-under prefix one (two ∷ rest)) ∙ ap shared_prefix same ∙ e ∙ sym (append-nil prefix)))

pub fork_of_shared : (prefix : List ℕ) (row next : Row) (rows : List Row) → common_prefix row (next ∷ rows) ≡ prefix → AllHavePrefix prefix (row ∷ next ∷ rows) → Fork (below prefix (row ∷ next ∷ rows))
fork_of_shared prefix row next rows e all = fork_of_under prefix (below prefix (row ∷ next ∷ rows)) row next rows (under-below prefix (row ∷ next ∷ rows) all) e

-- ---- places

pub data Stands (rows : List Row) (place : List ℕ) : Type 0 where
  at_root : place ≡ [] → rows ≢ [] → Stands rows place
  at_fork : Fork (below place rows) → Stands rows place
  behind_fork : (fork : List ℕ) (x : ℕ) → place ≡ fork ++ x ∷ [] → Fork (below fork rows) → below place rows ≢ [] → Stands rows place

-- a place is one of these
AllStand : List Row → Type 0
AllStand rows = (place : List ℕ) → IsIn (places (tree_of rows)) place → Stands rows place

stands_one : (row : Row) → AllStand (row ∷ [])
unfolding AllStand places
stands_one row place h = elim (let i : IsIn ([] ∷ []) place = subst (λ t. IsIn (places t) place) (tree_of-one row) h in i) [
  | inl e ↦ at_root (sym e) (some row)
  | inr none ↦ absurd none
]
  where
    some : (row : Row) → row ∷ [] ≢ []
    some row e = cc

stands_branch : (rows : List Row) → Fork rows → tree_of rows ≡ branch (ends_here rows) (λ x. tree_of (below (x ∷ []) rows)) → ((x : ℕ) → AllStand (below (x ∷ []) rows)) → AllStand rows
unfolding AllStand
stands_branch rows fork e further [] h = at_fork (subst Fork (sym (below-nil rows)) fork)
stands_branch rows fork e further (x ∷ place) h =
    let r = in_branch_from (ends_here rows) (λ y. tree_of (below (y ∷ []) rows)) x place (subst (λ t. IsIn (places t) (x ∷ place)) e h) in
    go (further x place r.1)
  where
    go : Stands (below (x ∷ []) rows) place → Stands rows (x ∷ place)
    go (at_root top some) = behind_fork [] x (ap (λ (p : List ℕ). x ∷ p) top) (subst Fork (sym (below-nil rows)) fork) (subst (λ (p : List ℕ). below (x ∷ p) rows ≢ []) (sym top) some)
    go (at_fork f) = at_fork (subst Fork (sym (below-append (x ∷ []) place rows)) f)
    go (behind_fork q y path f some) = behind_fork (x ∷ q) y (ap (λ (p : List ℕ). x ∷ p) path) (subst Fork (sym (below-append (x ∷ []) q rows)) f) (subst (λ (rs : List Row). rs ≢ []) (sym (below-append (x ∷ []) place rows)) some)

stands_extension : (rows : List Row) (prefix : List ℕ) → rows ≢ [] → tree_of rows ≡ extension prefix (tree_of (below prefix rows)) → Fork (below prefix rows) → AllStand (below prefix rows) → AllStand rows
unfolding AllStand
stands_extension rows prefix some e fork further place h =
    elim (in_extension_from prefix (tree_of (below prefix rows)) place (subst (λ t. IsIn (places t) place) e h)) [
      | inl none ↦ at_root (sym none) some
      | inr r ↦ subst (Stands rows) r.2 (go r.0 (further r.0 r.1))
    ]
  where
    go : (p : List ℕ) → Stands (below prefix rows) p → Stands rows (prefix ++ p)
    go p (at_root top some) = at_fork (subst (λ (q : List ℕ). Fork (below (prefix ++ q) rows)) (sym top) (subst (λ (q : List ℕ). Fork (below q rows)) (sym (append-nil prefix)) fork))
    go p (at_fork f) = at_fork (subst Fork (sym (below-append prefix p rows)) f)
    go p (behind_fork q y path f some) = behind_fork (prefix ++ q) y (ap (λ (r : List ℕ). prefix ++ r) path ∙ sym (append_assoc prefix q (y ∷ []))) (subst Fork (sym (below-append prefix q rows)) f) (subst (λ (rs : List Row). rs ≢ []) (sym (below-append prefix p rows)) some)

pub stands : (rows : List Row) (place : List ℕ) → IsIn (places (tree_of rows)) place → Stands rows place
unfolding AllStand
stands = by_cases AllStand (record {
  none = λ place h. absurd (no_place place h);
  one = stands_one;
  forks = λ row next rows e further. stands_branch (row ∷ next ∷ rows) (fork-forks row next rows e) (tree_of-forks row next rows e) further;
  shares = λ row next rows x prefix e further.
      let all = subst (λ (f : List ℕ). AllHavePrefix f (row ∷ next ∷ rows)) e (common_prefix-all row (next ∷ rows)) in
      stands_extension (row ∷ next ∷ rows) (x ∷ prefix) (some row (next ∷ rows)) (tree_of-shares row next rows x prefix e) (fork_of_shared (x ∷ prefix) row next rows e all) further;
})
  where
    some : (row : Row) (rows : List Row) → row ∷ rows ≢ []
    some row rows e = cc

-- ---- and each of these is a place

stands_somewhere : (rows : List Row) (place : List ℕ) → Stands rows place → rows ≢ []
unfolding below
stands_somewhere rows place (at_root top some) e = some e
stands_somewhere rows place (at_fork f) e = fork-nil (subst (λ (rs : List Row). Fork (below place rs)) e f)
stands_somewhere rows place (behind_fork q x path f some) e = fork-nil (subst (λ (rs : List Row). Fork (below q rs)) e f)

pub small_nibble : (x : ℕ) (rows : List Row) → Small rows → below (x ∷ []) rows ≢ [] → x < 16
unfolding below rest_behind
small_nibble x [] small some = absurd (some refl)
small_nibble x (([], value) ∷ rows) small some = small_nibble x rows small.1 some
small_nibble x ((y ∷ path, value) ∷ rows) small some =
    elim (x == y) as (λ b. (x == y) ≡ b → cons_option (option_map (λ (rest : List ℕ). (rest, value)) (if b then Some path else None)) (below (x ∷ []) rows) ≢ [] → x < 16) [
      | true ↦ λ t _. subst (λ z. z < 16) (sym (equal_of_test x y t)) small.0.0
      | false ↦ λ t more. small_nibble x rows small.1 more
    ] refl some

ArePlaces : List Row → Type 0
ArePlaces rows = Small rows → (place : List ℕ) → Stands rows place → IsIn (places (tree_of rows)) place

places_one : (row : Row) → ArePlaces (row ∷ [])
unfolding ArePlaces
places_one row small place (at_root top some) = subst (IsIn (places (tree_of (row ∷ [])))) (sym top) (root_is_place (row ∷ []) some)
places_one row small place (at_fork f) = absurd (fork-below_one place row f)
places_one row small place (behind_fork q x path f some) = absurd (fork-below_one q row f)

places_branch : (rows : List Row) → rows ≢ [] → tree_of rows ≡ branch (ends_here rows) (λ x. tree_of (below (x ∷ []) rows)) → ((x : ℕ) → ArePlaces (below (x ∷ []) rows)) → ArePlaces rows
unfolding ArePlaces
places_branch rows some e further small [] h = root_is_place rows some
places_branch rows some e further small (x ∷ place) h =
    let below_x = go h in
    let tiny = small_nibble x rows small (stands_somewhere (below (x ∷ []) rows) place below_x) in
    subst (λ t. IsIn (places t) (x ∷ place)) (sym e) (in_branch (ends_here rows) (λ y. tree_of (below (y ∷ []) rows)) x place tiny (further x (small-below (x ∷ []) rows small) place below_x))
  where
    behind : (q : List ℕ) (y : ℕ) → x ∷ place ≡ q ++ y ∷ [] → Fork (below q rows) → below place (below (x ∷ []) rows) ≢ [] → Stands (below (x ∷ []) rows) place
    behind [] y path f more =
        let top : place ≡ [] = rest_same path in
        at_root top (subst (λ (rs : List Row). rs ≢ []) (below-nil (below (x ∷ []) rows)) (subst (λ (p : List ℕ). below p (below (x ∷ []) rows) ≢ []) top more))
    behind (z ∷ q) y path f more =
        let first : x ≡ z = first_same path in
        behind_fork q y (rest_same path) (subst (λ w. Fork (below q (below (w ∷ []) rows))) (sym first) (subst Fork (below-append (z ∷ []) q rows) f)) more

    go : Stands rows (x ∷ place) → Stands (below (x ∷ []) rows) place
    go (at_root top more) = absurd (none_cons x place (sym top))
    go (at_fork f) = at_fork (subst Fork (below-append (x ∷ []) place rows) f)
    go (behind_fork q y path f more) = behind q y path f (subst (λ (rs : List Row). rs ≢ []) (below-append (x ∷ []) place rows) more)

places_extension : (rows : List Row) (prefix : List ℕ) → rows ≢ [] → AllHavePrefix prefix rows → tree_of rows ≡ extension prefix (tree_of (below prefix rows)) → ArePlaces (below prefix rows) → ArePlaces rows
unfolding ArePlaces
places_extension rows prefix some all e further small place h = go h
  where
    inner : (p : List ℕ) → Stands (below prefix rows) p → IsIn (places (tree_of rows)) (prefix ++ p)
    inner p h = subst (λ t. IsIn (places t) (prefix ++ p)) (sym e) (in_extension prefix (tree_of (below prefix rows)) p (further (small-below prefix rows small) p h))

    go : Stands rows place → IsIn (places (tree_of rows)) place
    go (at_root top more) = subst (IsIn (places (tree_of rows))) (sym top) (root_is_place rows more)
    go (at_fork f) =
        let there = fork_behind prefix place rows all f in
        subst (IsIn (places (tree_of rows))) (sym there.1) (inner there.0 (at_fork (subst Fork (below-append prefix there.0 rows) (subst (λ (p : List ℕ). Fork (below p rows)) there.1 f))))
    go (behind_fork q y path f more) =
        let there = fork_behind prefix q rows all f in
        let whole : place ≡ prefix ++ (there.0 ++ y ∷ []) = path ∙ ap (λ (p : List ℕ). p ++ y ∷ []) there.1 ∙ append_assoc prefix there.0 (y ∷ []) in
        subst (IsIn (places (tree_of rows))) (sym whole)
        (inner (there.0 ++ y ∷ []) (behind_fork there.0 y refl (subst Fork (below-append prefix there.0 rows) (subst (λ (p : List ℕ). Fork (below p rows)) there.1 f)) (subst (λ (rs : List Row). rs ≢ []) (below-append prefix (there.0 ++ y ∷ []) rows) (subst (λ (p : List ℕ). below p rows ≢ []) whole more))))

pub places_stand : (rows : List Row) → Small rows → (place : List ℕ) → Stands rows place → IsIn (places (tree_of rows)) place
unfolding ArePlaces
places_stand = by_cases ArePlaces (record {
  none = λ small place h. absurd (stands_somewhere [] place h refl);
  one = places_one;
  forks = λ row next rows e further. places_branch (row ∷ next ∷ rows) (some row (next ∷ rows)) (tree_of-forks row next rows e) further;
  shares = λ row next rows x prefix e further.
      let all = subst (λ (f : List ℕ). AllHavePrefix f (row ∷ next ∷ rows)) e (common_prefix-all row (next ∷ rows)) in
      places_extension (row ∷ next ∷ rows) (x ∷ prefix) (some row (next ∷ rows)) all (tree_of-shares row next rows x prefix e) further;
})
  where
    some : (row : Row) (rows : List Row) → row ∷ rows ≢ []
    some row rows e = cc
