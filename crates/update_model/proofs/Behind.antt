-- The changes behind a prefix: what they keep to, how many they are, and which of the changes ends here.
use Rattle.std.proofs.Common.{◌≡◌, ◌≢◌, ℕ, zero, suc, ◌+◌, ◌<◌, ◌≤◌, ◌==◌, Bool, true, false, List, [], ◌∷◌, ◌++◌, length, map, Option, None, Some, is_some, option_map, option_and_then, refl, sym, ◌∙◌, ap, ap₂, subst, arith, max, inl, inr, ◌⊎◌}
use Rattle.std.specs.Prelude.{◌||◌, ⊤}
use Rattle.std.specs.List.{AllByRecursion, cons_option}
use Rattle.std.specs.List.Sorted.{IsStrictlySortedBy}
use Rattle.std.specs.Ordering.{nat_cmp}
use Rattle.std.specs.Cmp.Lexicographic.{slice_cmp}
use Rattle.std.proofs.lemmas.Bool.{cases_lt, false≢true, or_cases, ne_eqb}
use Rattle.byte_model.specs.Below.{sum_below}
use Rattle.byte_model.specs.Nibbles.{AreNibbles}
use Rattle.byte_model.specs.PackedPath.{longest_path}
use Rattle.byte_model.proofs.Below.{sum_below-agree}
use Rattle.byte_model.proofs.Digits.{AreNibbles-rest}
use Rattle.byte_model.proofs.Lists.{AllByRecursion-weaker}
use Rattle.trie_model.specs.Tree.{rest_behind}
use Rattle.trie_model.proofs.Rests.{prefix_and_rest, equal_of_test, rest_behind-append, same_nibble}
use Rattle.trie_model.proofs.Trees.{length-rest_behind}
use Rattle.trie_model.proofs.Order.{Before, slice_cmp-prefix}
use Rattle.batch_model.specs.Changes.{Change, found_at}
use Rattle.change_model.specs.Visits.{changes_behind, change_at, sets_some, any_below}
use Rattle.change_model.proofs.Left.{any_below-at, any_below_from, found_sets}
use Rattle.change_model.proofs.Laid.{same_tests}
use Rattle.change_model.proofs.Alone.{none-behind}
use Rattle.update_model.specs.Sound.{IsBelow, AreBelow, Rises}
use Rattle.update_model.specs.Updates.{longest_change}

-- ---- what holds of each change

pub all-behind : (P Q : Change → Type 0) (prefix : List ℕ) → ((change : Change) (rest : List ℕ) → rest_behind prefix change.0 ≡ Some rest → P change → Q (rest, change.1)) → (changes : List Change) → AllByRecursion P changes → AllByRecursion Q (changes_behind prefix changes)
unfolding changes_behind
all-behind P Q prefix step [] h = tt
all-behind P Q prefix step (change ∷ changes) h =
    let further = all-behind P Q prefix step changes h.1 in
    elim (rest_behind prefix change.0) as (λ r. rest_behind prefix change.0 ≡ r → AllByRecursion Q (cons_option (option_map (λ rest. (rest, change.1)) r) (changes_behind prefix changes))) [
      | None ↦ λ e. further
      | Some rest ↦ λ e. (step change rest e h.0, further)
    ] refl

rest_nibbles : (prefix path rest : List ℕ) → rest_behind prefix path ≡ Some rest → AreNibbles path → AreNibbles rest
rest_nibbles prefix path rest e h = AreNibbles-rest prefix rest (subst AreNibbles (prefix_and_rest prefix path rest e) h)

-- ---- changes in order

-- each path stands before those of later changes
abbrev pub RisingChanges : List Change → Type 0
RisingChanges [] = ⊤
RisingChanges (change ∷ changes) = AllByRecursion (λ later. Before change.0 later.0) changes × RisingChanges changes

all_changes : (p : List ℕ) (changes : List Change) → AllByRecursion (λ q. Before p q) (map (λ change. change.0) changes) → AllByRecursion (λ later. Before p later.0) changes
all_changes p [] h = tt
all_changes p (change ∷ changes) h = (h.0, all_changes p changes h.1)

all_paths : (p : List ℕ) (changes : List Change) → AllByRecursion (λ later. Before p later.0) changes → AllByRecursion (λ q. Before p q) (map (λ change. change.0) changes)
all_paths p [] h = tt
all_paths p (change ∷ changes) h = (h.0, all_paths p changes h.1)

pub rising : (changes : List Change) → Rises changes → RisingChanges changes
unfolding IsStrictlySortedBy
rising [] h = tt
rising (change ∷ changes) h = (all_changes change.0 changes h.0, rising changes h.1)

pub rises : (changes : List Change) → RisingChanges changes → Rises changes
unfolding IsStrictlySortedBy
rises [] h = tt
rises (change ∷ changes) h = (all_paths change.0 changes h.0, rises changes h.1)

pub rising-behind : (prefix : List ℕ) (changes : List Change) → RisingChanges changes → RisingChanges (changes_behind prefix changes)
unfolding changes_behind
rising-behind prefix [] h = tt
rising-behind prefix (change ∷ changes) h =
    let further = rising-behind prefix changes h.1 in
    elim (rest_behind prefix change.0) as (λ r. rest_behind prefix change.0 ≡ r → RisingChanges (cons_option (option_map (λ rest. (rest, change.1)) r) (changes_behind prefix changes))) [
      | None ↦ λ e. further
      | Some rest ↦ λ e. (
        all-behind (λ later. Before change.0 later.0) (λ later. Before rest later.0) prefix (λ later rest' e' b.
            sym (slice_cmp-prefix prefix rest rest') ∙ ap₂ (slice_cmp nat_cmp) (sym (prefix_and_rest prefix change.0 rest e)) (sym (prefix_and_rest prefix later.0 rest' e')) ∙ b) changes h.0,
        further,
      )
    ] refl

-- ---- the changes of keys that go on below a depth

below-rest : (prefix : List ℕ) (depth : ℕ) (change : Change) (rest : List ℕ) → rest_behind prefix change.0 ≡ Some rest → IsBelow depth change → IsBelow (depth + length prefix) (rest, change.1)
below-rest prefix depth change rest e h =
    let n = length-rest_behind prefix change.0 rest e in
    let short = h.short in
    record { nibbles = rest_nibbles prefix change.0 rest e h.nibbles; short = omega arith; value = h.value }

pub below-prefix : (prefix : List ℕ) (depth : ℕ) (changes : List Change) → AreBelow depth changes → AreBelow (depth + length prefix) (changes_behind prefix changes)
below-prefix prefix depth changes h = record {
  rise = rises (changes_behind prefix changes) (rising-behind prefix changes (rising changes h.rise));
  each = all-behind (IsBelow depth) (IsBelow (depth + length prefix)) prefix (λ change rest e k. below-rest prefix depth change rest e k) changes h.each;
}

pub below-nibble : (x depth : ℕ) (changes : List Change) → AreBelow depth changes → AreBelow (depth + 1) (changes_behind (x ∷ []) changes)
below-nibble x depth changes h = below-prefix (x ∷ []) depth changes h

pub below-tail : (depth : ℕ) (change : Change) (changes : List Change) → AreBelow depth (change ∷ changes) → AreBelow depth changes
below-tail depth change changes h = record { rise = rises changes (rising (change ∷ changes) h.rise).1; each = h.each.1 }

-- where a key goes on below a depth, that depth is not past the longest path
pub below-depth : (depth : ℕ) (changes : List Change) → changes ≢ [] → AreBelow depth changes → depth ≤ longest_path
below-depth depth [] some h = absurd (some refl)
below-depth depth (change ∷ changes) some h = let short = h.each.0.short in omega arith

-- ---- one prefix behind another

pub changes_behind-append : (p q : List ℕ) (changes : List Change) → changes_behind (p ++ q) changes ≡ changes_behind q (changes_behind p changes)
unfolding changes_behind
changes_behind-append p q [] = refl
changes_behind-append p q (change ∷ changes) =
    ap (λ r. cons_option (option_map (λ rest. (rest, change.1)) r) (changes_behind (p ++ q) changes)) (rest_behind-append p q change.0)
    ∙ elim (rest_behind p change.0) as (λ r. cons_option (option_map (λ rest. (rest, change.1)) (option_and_then (rest_behind q) r)) (changes_behind (p ++ q) changes) ≡ changes_behind q (cons_option (option_map (λ rest. (rest, change.1)) r) (changes_behind p changes))) [
      | None ↦ changes_behind-append p q changes
      | Some rest ↦ ap (cons_option (option_map (λ left. (left, change.1)) (rest_behind q rest))) (changes_behind-append p q changes)
    ]

pub changes_behind-nil : (changes : List Change) → changes_behind [] changes ≡ changes
unfolding changes_behind rest_behind
changes_behind-nil [] = refl
changes_behind-nil (change ∷ changes) = ap (λ (cs : List Change). change ∷ cs) (changes_behind-nil changes)

-- ---- the change that ends here

-- all of them go on
abbrev pub GoOn : List Change → Type 0
GoOn changes = AllByRecursion (λ change. change.0 ≢ []) changes

before_some : (p q : List ℕ) → Before p q → q ≢ []
before_some [] [] b e = cc
before_some (x ∷ p) [] b e = cc
before_some p (y ∷ q) b e = cc

pub later_go_on : (change : Change) (changes : List Change) → RisingChanges (change ∷ changes) → GoOn changes
later_go_on change changes h = AllByRecursion-weaker (λ later. Before change.0 later.0) (λ later. later.0 ≢ []) (λ later b. before_some change.0 later.0 b) changes h.0

pub none-ends : (changes : List Change) → GoOn changes → change_at [] changes ≡ None
unfolding found_at
none-ends [] h = refl
none-ends (([], value) ∷ changes) h = absurd (h.0 refl)
none-ends ((x ∷ path, value) ∷ changes) h = none-ends changes h.1

pub first-ends : (value : Option (List ℕ)) (changes : List Change) → change_at [] (([], value) ∷ changes) ≡ Some value
unfolding found_at
first-ends value changes = refl

pub behind-first : (x : ℕ) (value : Option (List ℕ)) (changes : List Change) → changes_behind (x ∷ []) (([], value) ∷ changes) ≡ changes_behind (x ∷ []) changes
unfolding changes_behind rest_behind
behind-first x value changes = refl

-- the first alone may end here
pub record EndsFirst (changes : List Change) : Type 0 where
  pub value : Option (List ℕ)
  pub rest : List Change
  pub is : changes ≡ ([], value) ∷ rest
  pub others : GoOn rest

pub ends_first : (depth : ℕ) (changes : List Change) → AreBelow depth changes → GoOn changes ⊎ EndsFirst changes
ends_first depth [] h = inl tt
ends_first depth (([], value) ∷ changes) h = inr (record { value = value; rest = changes; is = refl; others = later_go_on ([], value) changes (rising (([], value) ∷ changes) h.rise) })
ends_first depth ((x ∷ path, value) ∷ changes) h = inl ((λ e. cc), later_go_on (x ∷ path, value) changes (rising ((x ∷ path, value) ∷ changes) h.rise))

-- ---- how many there are

-- one, where the key of the place itself is changed
abbrev pub one_if : {X : Type 0} → Option X → ℕ
one_if None = 0
one_if (Some x) = 1

-- one more where f has one more at one number
sum-one_more : (f g : ℕ → ℕ) (x n : ℕ) → x < n → g x ≡ suc (f x) → ((y : ℕ) → y ≢ x → g y ≡ f y) → sum_below g n ≡ suc (sum_below f n)
unfolding sum_below
sum-one_more f g x zero h here others = absurd (omega arith)
sum-one_more f g x (suc n) h here others = elim (cases_lt x n) [
  | inl less ↦ (let further = sum-one_more f g x n less here others in let last = others n (omega arith) in omega arith)
  | inr least ↦ (
      let same : n ≡ x = omega arith in
      let last : g n ≡ suc (f n) = subst (λ y. g y ≡ suc (f y)) (sym same) here in
      let further = sum_below-agree g f n (λ y l. others y (omega arith)) in
      omega arith)
]

behind-same : (x : ℕ) (path : List ℕ) (value : Option (List ℕ)) (changes : List Change) → changes_behind (x ∷ []) ((x ∷ path, value) ∷ changes) ≡ (path, value) ∷ changes_behind (x ∷ []) changes
unfolding changes_behind rest_behind
behind-same x path value changes = rw (same_nibble x) refl

behind-other : (y x : ℕ) (path : List ℕ) (value : Option (List ℕ)) (changes : List Change) → y ≢ x → changes_behind (y ∷ []) ((x ∷ path, value) ∷ changes) ≡ changes_behind (y ∷ []) changes
unfolding changes_behind rest_behind
behind-other y x path value changes apart = rw (ne_eqb y x apart) refl

abbrev pub number_behind : List Change → ℕ
number_behind changes = sum_below (λ x. length (changes_behind (x ∷ []) changes)) 16

number-none : (n : ℕ) → sum_below (λ x. length (changes_behind (x ∷ []) [])) n ≡ 0
unfolding sum_below changes_behind
number-none zero = refl
number-none (suc n) = let further = number-none n in omega arith

number-go_on : (changes : List Change) → AllByRecursion (λ change. AreNibbles change.0) changes → GoOn changes → length changes ≡ number_behind changes
number-go_on [] nibbles h = sym (number-none 16)
number-go_on (([], value) ∷ changes) nibbles h = absurd (h.0 refl)
number-go_on ((x ∷ path, value) ∷ changes) nibbles h =
    let further = number-go_on changes nibbles.1 h.1 in
    let more = sum-one_more (λ y. length (changes_behind (y ∷ []) changes)) (λ y. length (changes_behind (y ∷ []) ((x ∷ path, value) ∷ changes))) x 16 nibbles.0.0
    (ap length (behind-same x path value changes)) (λ y apart. ap length (behind-other y x path value changes apart)) in
    omega arith

nibbles_of : (depth : ℕ) (changes : List Change) → AreBelow depth changes → AllByRecursion (λ change. AreNibbles change.0) changes
nibbles_of depth changes h = AllByRecursion-weaker (IsBelow depth) (λ change. AreNibbles change.0) (λ change k. k.nibbles) changes h.each

-- All changes end here or go on with some nibble.
pub length-behind : (depth : ℕ) (changes : List Change) → AreBelow depth changes → length changes ≡ one_if (change_at [] changes) + sum_below (λ x. length (changes_behind (x ∷ []) changes)) 16
length-behind depth changes h = elim (ends_first depth changes h) [
  | inl on ↦ (
      let all = number-go_on changes (nibbles_of depth changes h) on in
      let none = ap one_if (none-ends changes on) in
      omega arith)
  | inr ends ↦ (
      let whole : AreBelow depth (([], ends.value) ∷ ends.rest) = subst (AreBelow depth) ends.is h in
      let all = number-go_on ends.rest (nibbles_of depth (([], ends.value) ∷ ends.rest) whole).1 ends.others in
      let one : one_if (change_at [] changes) ≡ 1 = ap (λ (cs : List Change). one_if (change_at [] cs)) ends.is ∙ ap one_if (first-ends ends.value ends.rest) in
      let same : number_behind changes ≡ number_behind ends.rest = ap number_behind ends.is ∙ sum_below-agree _ _ 16 (λ x _. ap length (behind-first x ends.value ends.rest)) in
      let count : length changes ≡ suc (length ends.rest) = ap length ends.is in
      omega arith)
]

-- ---- how long their paths are

longest-cons : (path : List ℕ) (value : Option (List ℕ)) (changes : List Change) → longest_change ((path, value) ∷ changes) ≡ max (length path) (longest_change changes)
unfolding longest_change
longest-cons path value changes = refl

longest-none : longest_change [] ≡ 0
unfolding longest_change
longest-none = refl

abbrev Shorter : ℕ → List Change → Type 0
Shorter x changes = (changes_behind (x ∷ []) changes ≡ []) ⊎ (longest_change (changes_behind (x ∷ []) changes) < longest_change changes)

shorter : (x : ℕ) (changes : List Change) → Shorter x changes
shorter x [] = inl (none-behind (x ∷ []))
shorter x (([], value) ∷ changes) =
    let whole = longest-cons [] value changes in
    let same = behind-first x value changes in
    elim (shorter x changes) [
      | inl none ↦ inl (same ∙ none)
      | inr less ↦ (let long = ap longest_change same in inr (omega arith))
    ]
shorter x ((y ∷ path, value) ∷ changes) =
    let whole = longest-cons (y ∷ path) value changes in
    elim (x == y) as (λ b. (x == y) ≡ b → Shorter x ((y ∷ path, value) ∷ changes)) [
      | true ↦ λ t.
          let is : x ≡ y = equal_of_test x y t in
          let same : changes_behind (x ∷ []) ((y ∷ path, value) ∷ changes) ≡ (path, value) ∷ changes_behind (x ∷ []) changes = subst (λ z. changes_behind (x ∷ []) ((z ∷ path, value) ∷ changes) ≡ (path, value) ∷ changes_behind (x ∷ []) changes) is (behind-same x path value changes) in
          let long = ap longest_change same ∙ longest-cons path value (changes_behind (x ∷ []) changes) in
          elim (shorter x changes) [
            | inl none ↦ (let none_long = ap longest_change none ∙ longest-none in inr (omega arith))
            | inr less ↦ inr (omega arith)
          ]
      | false ↦ λ t.
          let same = behind-other x y path value changes (λ e. false≢true (sym t ∙ ap (λ z. z == y) e ∙ same_nibble y)) in
          elim (shorter x changes) [
            | inl none ↦ inl (same ∙ none)
            | inr less ↦ (let long = ap longest_change same in inr (omega arith))
          ]
    ] refl

-- what is left behind a nibble is shorter
pub longest-behind : (x : ℕ) (changes : List Change) → changes_behind (x ∷ []) changes ≢ [] → longest_change (changes_behind (x ∷ []) changes) < longest_change changes
longest-behind x changes some = elim (shorter x changes) [ inl none ↦ absurd (some none) | inr less ↦ less ]

-- ---- whether one of them sets a key

-- whether the key of the place itself is set
abbrev pub is_set : Option (Option (List ℕ)) → Bool
is_set None = false
is_set (Some value) = is_some value

pub or_true : (a b : Bool) → (a ≡ true) ⊎ (b ≡ true) → (a || b) ≡ true
or_true true b h = refl
or_true false b (inl e) = cc
or_true false b (inr e) = e

abbrev SetsBehind : List Change → Type 0
SetsBehind changes = (x : ℕ) × (x < 16) × (sets_some (changes_behind (x ∷ []) changes) ≡ true)

sets-go_on : (changes : List Change) → AllByRecursion (λ change. AreNibbles change.0) changes → GoOn changes → sets_some changes ≡ true → SetsBehind changes
sets-go_on [] nibbles h sets = cc
sets-go_on (([], value) ∷ changes) nibbles h sets = absurd (h.0 refl)
sets-go_on ((y ∷ path, value) ∷ changes) nibbles h sets = elim (or_cases (is_some value) (sets_some changes) sets) [
  | inl here ↦ (y, nibbles.0.0, ap sets_some (behind-same y path value changes) ∙ or_true (is_some value) (sets_some (changes_behind (y ∷ []) changes)) (inl here))
  | inr later ↦ (
      let r = sets-go_on changes nibbles.1 h.1 later in (
        r.0,
        r.1,
        elim (r.0 == y) as (λ b. (r.0 == y) ≡ b → sets_some (changes_behind (r.0 ∷ []) ((y ∷ path, value) ∷ changes)) ≡ true) [
          | true ↦ λ t. subst (λ z. sets_some (changes_behind (z ∷ []) ((y ∷ path, value) ∷ changes)) ≡ true) (sym (equal_of_test r.0 y t))
              (ap sets_some (behind-same y path value changes) ∙ or_true (is_some value) (sets_some (changes_behind (y ∷ []) changes)) (inr (subst (λ z. sets_some (changes_behind (z ∷ []) changes) ≡ true) (equal_of_test r.0 y t) r.2)))
          | false ↦ λ t. ap sets_some (behind-other r.0 y path value changes (λ e. false≢true (sym t ∙ ap (λ z. z == y) e ∙ same_nibble y))) ∙ r.2
        ] refl,
      ))
]

-- where one behind a prefix sets a key, one of them does
pub sets-behind : (prefix : List ℕ) (changes : List Change) → sets_some (changes_behind prefix changes) ≡ true → sets_some changes ≡ true
unfolding changes_behind
sets-behind prefix [] e = e
sets-behind prefix (change ∷ changes) e = go (rest_behind prefix change.0) e (sets-behind prefix changes)
  where
    go : (o : Option (List ℕ)) → sets_some (cons_option (option_map (λ rest. (rest, change.1)) o) (changes_behind prefix changes)) ≡ true → (sets_some (changes_behind prefix changes) ≡ true → sets_some changes ≡ true) → sets_some (change ∷ changes) ≡ true
    go None k further = or_true (is_some change.1) (sets_some changes) (inr (further k))
    go (Some rest) k further = elim (or_cases (is_some change.1) (sets_some (changes_behind prefix changes)) k) [
      | inl here ↦ or_true (is_some change.1) (sets_some changes) (inl here)
      | inr later ↦ or_true (is_some change.1) (sets_some changes) (inr (further later))
    ]

pub sets-here : (changes : List Change) → is_set (change_at [] changes) ≡ true → sets_some changes ≡ true
sets-here changes e = go (change_at [] changes) refl e
  where
    go : (o : Option (Option (List ℕ))) → change_at [] changes ≡ o → is_set o ≡ true → sets_some changes ≡ true
    go None is k = cc
    go (Some None) is k = cc
    go (Some (Some value)) is k = found_sets changes [] value is

-- One of them sets a key where the one of the place itself does, or one behind some nibble.
pub sets_some-behind : (depth : ℕ) (changes : List Change) → AreBelow depth changes → sets_some changes ≡ (is_set (change_at [] changes) || any_below (λ x. sets_some (changes_behind (x ∷ []) changes)) 16)
sets_some-behind depth changes h = same_tests (sets_some changes) (is_set (change_at [] changes) || any_below sets 16) onward back
  where
    sets : ℕ → Bool
    sets x = sets_some (changes_behind (x ∷ []) changes)

    any : SetsBehind changes → (is_set (change_at [] changes) || any_below sets 16) ≡ true
    any r = or_true (is_set (change_at [] changes)) (any_below sets 16) (inr (any_below-at sets 16 r.0 r.1 r.2))

    onward : sets_some changes ≡ true → (is_set (change_at [] changes) || any_below sets 16) ≡ true
    onward e = elim (ends_first depth changes h) [
      | inl on ↦ any (sets-go_on changes (nibbles_of depth changes h) on e)
      | inr ends ↦ (
          let whole : AreBelow depth (([], ends.value) ∷ ends.rest) = subst (AreBelow depth) ends.is h in
          let some : (is_some ends.value || sets_some ends.rest) ≡ true = ap sets_some (sym ends.is) ∙ e in
          elim (or_cases (is_some ends.value) (sets_some ends.rest) some) [
            | inl here ↦ or_true (is_set (change_at [] changes)) (any_below sets 16) (inl (ap (λ (cs : List Change). is_set (change_at [] cs)) ends.is ∙ ap is_set (first-ends ends.value ends.rest) ∙ here))
            | inr later ↦ (
                let r = sets-go_on ends.rest (nibbles_of depth (([], ends.value) ∷ ends.rest) whole).1 ends.others later in
                any (r.0, r.1, ap (λ (cs : List Change). sets_some (changes_behind (r.0 ∷ []) cs)) ends.is ∙ ap sets_some (behind-first r.0 ends.value ends.rest) ∙ r.2))
          ])
    ]

    back : (is_set (change_at [] changes) || any_below sets 16) ≡ true → sets_some changes ≡ true
    back e = elim (or_cases (is_set (change_at [] changes)) (any_below sets 16) e) [
      | inl here ↦ sets-here changes here
      | inr any_one ↦ (let r = any_below_from sets 16 any_one in sets-behind (r.0 ∷ []) changes r.2)
    ]

-- ---- no more than before

pub fewer-behind : (prefix : List ℕ) (changes : List Change) → length (changes_behind prefix changes) ≤ length changes
unfolding changes_behind
fewer-behind prefix [] = omega arith
fewer-behind prefix (change ∷ changes) =
    let further = fewer-behind prefix changes in
    elim (rest_behind prefix change.0) as (λ r. length (cons_option (option_map (λ rest. (rest, change.1)) r) (changes_behind prefix changes)) ≤ suc (length changes)) [
      | None ↦ omega arith
      | Some rest ↦ omega arith
    ]
