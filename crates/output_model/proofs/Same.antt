-- States with the same pairs are equal.
use Rattle.std.proofs.Common.{◌≡◌, ◌≢◌, ℕ, Bool, true, false, List, [], ◌∷◌, Some, refl, ap₂, subst}
use Rattle.std.specs.Prelude.{codes}
use Rattle.std.specs.Str.{bytes_eq}
use Rattle.std.specs.FinMap.{entries, same_entries_map}
use Rattle.std.specs.Cmp.Lexicographic.{pointwise}
use Rattle.std.proofs.lemmas.Bool.{and_parts, and_from}
use Rattle.trie_model.specs.State.{State}
use Rattle.fork_model.proofs.Ids.{same_from, same-itself}
use Rattle.output_model.specs.Readings.{same_pair, same_states, same_text}

abbrev Pair : Type 0
Pair = List ℕ × List ℕ

pairs-equal : (first second : Pair) → same_pair first second ≡ true → first ≡ second
pairs-equal first second e =
    let both = and_parts (bytes_eq first.0 second.0) (bytes_eq first.1 second.1) e in
    ap₂ (λ (k v : List ℕ). (k, v)) (same_from first.0 second.0 both.0) (same_from first.1 second.1 both.1)

pair-self : (pair : Pair) → same_pair pair pair ≡ true
pair-self pair = and_from (bytes_eq pair.0 pair.0) (bytes_eq pair.1 pair.1) (same-itself pair.0) (same-itself pair.1)

lists-equal : (first second : List Pair) → pointwise same_pair first second ≡ true → first ≡ second
lists-equal [] [] e = refl
lists-equal [] (y ∷ second) e = absurd cc
lists-equal (x ∷ first) [] e = absurd cc
lists-equal (x ∷ first) (y ∷ second) e =
    let both = and_parts (same_pair x y) (pointwise same_pair first second) e in
    ap₂ (λ (p : Pair) (ps : List Pair). p ∷ ps) (pairs-equal x y both.0) (lists-equal first second both.1)

list-self : (pairs : List Pair) → pointwise same_pair pairs pairs ≡ true
list-self [] = refl
list-self (x ∷ pairs) = and_from (same_pair x x) (pointwise same_pair pairs pairs) (pair-self x) (list-self pairs)

pub states-equal : (first second : State) → same_states first second ≡ true → first ≡ second
unfolding same_states
states-equal first second e = same_entries_map first second (lists-equal (entries first) (entries second) e)

pub states-same : (first second : State) → first ≡ second → same_states first second ≡ true
unfolding same_states
states-same first second e = subst (λ (s : State). same_states first s ≡ true) e (list-self (entries first))

pub states_differ : (first second : State) → first ≢ second → same_states first second ≡ false
states_differ first second h = by_test (same_states first second) refl
  where
    by_test : (b : Bool) → same_states first second ≡ b → b ≡ false
    by_test true e = absurd (h (states-equal first second e))
    by_test false e = refl

pub text-yes : (first second : State) → first ≡ second → same_text (Some first) (Some second) ≡ codes "yes"
text-yes first second e = rw (states-same first second e) refl

pub text-no : (first second : State) → first ≢ second → same_text (Some first) (Some second) ≡ codes "no"
text-no first second h = rw (states_differ first second h) refl
