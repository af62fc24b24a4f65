-- Rows with changes laid over, with all that passes on to the rows below a path.
use Rattle.std.proofs.Common.{◌≡◌, ◌≢◌, ℕ, ◌+◌, ◌==◌, true, false, if◌then◌else◌, List, [], ◌∷◌, sum_by, Option, None, Some, option_map, refl, ◌∙◌, ap, subst, arith}
use Rattle.std.specs.List.{AllByRecursion, cons_option}
use Rattle.std.proofs.lemmas.Bool.Decides.{nat_tests}
use Rattle.std.proofs.lemmas.List.Sums.{sum_by-cons}
use Rattle.byte_model.specs.Below.{sum_below}
use Rattle.byte_model.specs.Nibbles.{AreNibbles}
use Rattle.byte_model.proofs.Below.{sum_below-agree, sum_below-plus, sum_below-none, sum_below-single}
use Rattle.byte_model.proofs.Digits.{AreNibbles-rest}
use Rattle.trie_model.specs.State.{Row}
use Rattle.trie_model.specs.Tree.{below, rest_behind}
use Rattle.trie_model.proofs.Rests.{prefix_and_rest, same_nibble}
use Rattle.batch_model.specs.Changes.{Change, found_at}
use Rattle.change_model.specs.Visits.{changes_behind, change_at}
use Rattle.change_model.proofs.Laid.{IsLaid, laid-below}
use Rattle.change_model.proofs.Left.{Apart, apart-behind}
use Rattle.update_model.proofs.FoundRows.{InOrder, in_order-below}
use Rattle.update_model.proofs.LaidTrees.{untouched-below}

-- changes of paths of nibbles
abbrev pub SmallChanges : List Change → Type 0
SmallChanges changes = AllByRecursion (λ change. AreNibbles change.0) changes

pub small_changes-behind : (p : List ℕ) (changes : List Change) → SmallChanges changes → SmallChanges (changes_behind p changes)
unfolding changes_behind
small_changes-behind p [] small = tt
small_changes-behind p (change ∷ changes) small =
    elim (rest_behind p change.0) as (λ r. rest_behind p change.0 ≡ r → SmallChanges (cons_option (option_map (λ rest. (rest, change.1)) r) (changes_behind p changes))) [
      | None ↦ λ e. small_changes-behind p changes small.1
      | Some rest ↦ λ e. (AreNibbles-rest p rest (subst AreNibbles (prefix_and_rest p change.0 rest e) small.0), small_changes-behind p changes small.1)
    ] refl

pub record Laying (rows : List Row) (changes : List Change) (later : List Row) : Type 0 where
  pub laid : IsLaid rows changes later
  pub apart : Apart changes
  pub nibbles : SmallChanges changes
  pub before : InOrder rows
  pub after : InOrder later

pub laying-below : (p : List ℕ) (rows : List Row) (changes : List Change) (later : List Row) → Laying rows changes later → Laying (below p rows) (changes_behind p changes) (below p later)
laying-below p rows changes later h = record {
  laid = laid-below p rows changes later h.laid;
  apart = apart-behind p changes h.apart;
  nibbles = small_changes-behind p changes h.nibbles;
  before = in_order-below p rows h.before;
  after = in_order-below p later h.after;
}

-- Below a path on which no change stands, the rows stay.
pub laying-same : (p : List ℕ) (rows : List Row) (changes : List Change) (later : List Row) → Laying rows changes later → changes_behind p changes ≡ [] → below p later ≡ below p rows
laying-same p rows changes later h none = untouched-below p rows changes later h.laid h.before h.after none

-- ---- the changes by their first nibbles

abbrev pub if_found : Option (Option (List ℕ)) → ℕ → ℕ
if_found None n = 0
if_found (Some change) n = n

-- what each path counts for
module _ (g : List ℕ → ℕ) where
  abbrev behind_nibble : List Change → ℕ → ℕ
  behind_nibble changes x = sum_by (λ (c : Change). g (x ∷ c.0)) (changes_behind (x ∷ []) changes)

  one_more : (y : ℕ) (p : List ℕ) (value : Option (List ℕ)) (changes : List Change) (x : ℕ) → behind_nibble ((y ∷ p, value) ∷ changes) x ≡ (if x == y then g (x ∷ p) else 0) + behind_nibble changes x
  unfolding changes_behind rest_behind
  one_more y p value changes x = elim (x == y) as (λ b. sum_by (λ (c : Change). g (x ∷ c.0)) (cons_option (option_map (λ (rest : List ℕ). (rest, value)) (if b then Some p else None)) (changes_behind (x ∷ []) changes)) ≡ (if b then g (x ∷ p) else 0) + behind_nibble changes x) [
    | true ↦ sum_by-cons (λ (c : Change). g (x ∷ c.0)) (p, value) (changes_behind (x ∷ []) changes)
    | false ↦ let n : ℕ = behind_nibble changes x in omega arith
  ]

  pub changes_by_nibble : (changes : List Change) → Apart changes → SmallChanges changes → sum_by (λ (c : Change). g c.0) changes ≡ if_found (change_at [] changes) (g []) + sum_below (behind_nibble changes) 16
  unfolding changes_behind rest_behind found_at Apart
  changes_by_nibble [] apart small = let zeros = sum_below-none (behind_nibble []) 16 (λ x k. refl) in omega arith
  changes_by_nibble (([], value) ∷ changes) apart small =
      let first = sum_by-cons (λ (c : Change). g c.0) ([], value) changes in
      let others = changes_by_nibble changes apart.1 small.1 in
      let none : if_found (change_at [] changes) (g []) ≡ 0 = ap (λ o. if_found o (g [])) apart.0 in
      omega arith
  changes_by_nibble ((y ∷ p, value) ∷ changes) apart small =
      let first = sum_by-cons (λ (c : Change). g c.0) (y ∷ p, value) changes in
      let others = changes_by_nibble changes apart.1 small.1 in
      let each = sum_below-agree (behind_nibble ((y ∷ p, value) ∷ changes)) (λ x. (if x == y then g (x ∷ p) else 0) + behind_nibble changes x) 16 (λ x k. one_more y p value changes x) in
      let parts = sum_below-plus (λ x. if x == y then g (x ∷ p) else 0) (behind_nibble changes) 16 in
      let single = sum_below-single (λ x. if x == y then g (x ∷ p) else 0) 16 y small.0.0 (λ x k apart. other x apart) ∙ ap (λ b. if b then g (y ∷ p) else 0) (same_nibble y) in
      omega arith
    where
      other : (x : ℕ) → x ≢ y → (if x == y then g (x ∷ p) else 0) ≡ 0
      other x apart = let test : (x == y) ≡ false = grind (arith, nat_tests) in ap (λ b. if b then g (x ∷ p) else 0) test
