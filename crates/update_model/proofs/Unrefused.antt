-- What holds of the places that a batch visits where no test fails.
use Rattle.std.proofs.Common.{◌≡◌, ◌≢◌, ℕ, zero, suc, ◌+◌, ◌<◌, ◌≤◌, nat_lt, if◌then◌else◌, true, false, List, [], ◌∷◌, Option, None, Some, inl, inr, refl, subst, arith}
use Rattle.std.proofs.lemmas.Bool.{cases_lt}
use Rattle.std.proofs.lemmas.Bool.Decides.{nat_tests}
use Rattle.byte_model.specs.Node.{ValueRef}
use Rattle.visit_model.specs.Seen.{Seen, missing, bad, leaf, branch, extension, stated_usage}
use Rattle.batch_model.specs.Changes.{Change}
use Rattle.change_model.specs.Visits.{Visits, Refusal, no_text, no_node, no_usage, and_then, before, opened, closed, most_usage, visits_below, changes_behind, merged_child, visit_alone, visits_at, where_touched, if_touched, merge_visits, leaf_cost, branch_cost, extension_cost}
use Rattle.update_model.specs.Updates.{parts}

-- ---- no test fails

abbrev pub IsDone : Visits → Type 0
IsDone visits = visits.refusal ≡ None

some_why : (why : Refusal) → Some why ≡ None → ⊥
some_why why e = cc

both_done : (o : Option Refusal) (digests : List (List ℕ)) (further : Visits) → IsDone (and_then o digests further) → (o ≡ None) × IsDone further
unfolding and_then
both_done None digests further e = (refl, e)
both_done (Some why) digests further e = cc

before_done : (first further : Visits) → IsDone (before first further) → IsDone first × IsDone further
before_done first further e = both_done first.refusal first.digests further e

opened_done : (digest : List ℕ) (usage : ℕ) → IsDone (opened digest usage) → usage ≤ most_usage
unfolding opened
opened_done digest usage e =
    elim (nat_lt most_usage usage) as (λ b. nat_lt most_usage usage ≡ b → (if b then Some (no_usage digest) else None) ≡ None → usage ≤ most_usage) [
      | true ↦ λ t k. absurd (some_why (no_usage digest) k)
      | false ↦ λ t k. grind (arith, nat_tests)
    ] refl e

closed_done : (digest : List ℕ) (usage least : ℕ) → IsDone (closed digest usage least) → least ≤ usage
unfolding closed
closed_done digest usage least e =
    elim (nat_lt usage least) as (λ b. nat_lt usage least ≡ b → (if b then Some (no_usage digest) else None) ≡ None → least ≤ usage) [
      | true ↦ λ t k. absurd (some_why (no_usage digest) k)
      | false ↦ λ t k. grind (arith, nat_tests)
    ] refl e

below_done : (f : ℕ → Visits) (n : ℕ) → IsDone (visits_below f n) → (x : ℕ) → x < n → IsDone (f x)
unfolding visits_below
below_done f zero e x h = absurd (omega arith)
below_done f (suc n) e x h =
    let both = before_done (visits_below f n) (f n) e in
    elim (cases_lt x n) [
      | inl less ↦ below_done f n both.0 x less
      | inr least ↦ (let same : n ≡ x = omega arith in subst (λ y. IsDone (f y)) same both.1)
    ]

pub touched_done : (changes : List Change) (visits : Visits) → changes ≢ [] → IsDone (where_touched changes visits) → IsDone visits
touched_done [] visits some e = absurd (some refl)
touched_done (change ∷ changes) visits some e = e

-- ---- at a place

pub missing-refused : (digest : List ℕ) (changes : List Change) → IsDone (visits_at (missing digest) changes) → ⊥
unfolding visits_at
missing-refused digest changes e = some_why (no_text digest) e

pub bad-refused : (digest : List ℕ) (changes : List Change) → IsDone (visits_at (bad digest) changes) → ⊥
unfolding visits_at
bad-refused digest changes e = some_why (no_node digest) e

pub record LeafDone (usage : ℕ) (path : List ℕ) (ref : ValueRef) : Type 0 where
  pub most : usage ≤ most_usage
  pub least : leaf_cost path ref ≤ usage

pub leaf-done : (digest : List ℕ) (usage : ℕ) (path : List ℕ) (ref : ValueRef) (changes : List Change) → IsDone (visits_at (leaf digest usage path ref) changes) → LeafDone usage path ref
unfolding visits_at
leaf-done digest usage path ref changes e =
    let both = before_done (opened digest usage) (closed digest usage (leaf_cost path ref)) e in
    record { most = opened_done digest usage both.0; least = closed_done digest usage (leaf_cost path ref) both.1 }

pub record BranchDone (usage : ℕ) (ref : Option ValueRef) (kids : ℕ → Seen) (changes : List Change) : Type 0 where
  pub most : usage ≤ most_usage
  pub touched : (x : ℕ) → x < 16 → changes_behind (x ∷ []) changes ≢ [] → IsDone (visits_at (kids x) (changes_behind (x ∷ []) changes))
  pub merged : (x : ℕ) → merged_child ref kids changes ≡ Some x → IsDone (visit_alone (kids x))
  pub least : parts ref kids changes ≤ usage

pub branch-done : (digest : List ℕ) (usage : ℕ) (ref : Option ValueRef) (kids : ℕ → Seen) (changes : List Change) → IsDone (visits_at (branch digest usage ref kids) changes) → BranchDone usage ref kids changes
unfolding visits_at
branch-done digest usage ref kids changes e =
    let touched : ℕ → Visits = λ x. where_touched (changes_behind (x ∷ []) changes) (visits_at (kids x) (changes_behind (x ∷ []) changes)) in
    let merge : Visits = merge_visits kids (merged_child ref kids changes) in
    let end : Visits = closed digest usage (parts ref kids changes) in
    let first = before_done (opened digest usage) (before (visits_below touched 16) (before merge end)) e in
    let second = before_done (visits_below touched 16) (before merge end) first.1 in
    let third = before_done merge end second.1 in
    record {
      most = opened_done digest usage first.0;
      touched = λ x small some. touched_done (changes_behind (x ∷ []) changes) (visits_at (kids x) (changes_behind (x ∷ []) changes)) some (below_done touched 16 second.0 x small);
      merged = λ x is. subst (λ (m : Option ℕ). IsDone (merge_visits kids m)) is third.0;
      least = closed_done digest usage (parts ref kids changes) third.1;
    }

pub record ExtensionDone (usage : ℕ) (path : List ℕ) (child : Seen) (changes : List Change) : Type 0 where
  pub most : usage ≤ most_usage
  pub touched : changes_behind path changes ≢ [] → IsDone (visits_at child (changes_behind path changes))
  pub least : extension_cost path + if_touched (changes_behind path changes) (stated_usage child) ≤ usage

pub extension-done : (digest : List ℕ) (usage : ℕ) (path : List ℕ) (child : Seen) (changes : List Change) → IsDone (visits_at (extension digest usage path child) changes) → ExtensionDone usage path child changes
unfolding visits_at
extension-done digest usage path child changes e =
    let touched : Visits = where_touched (changes_behind path changes) (visits_at child (changes_behind path changes)) in
    let end : Visits = closed digest usage (extension_cost path + if_touched (changes_behind path changes) (stated_usage child)) in
    let first = before_done (opened digest usage) (before touched end) e in
    let second = before_done touched end first.1 in
    record {
      most = opened_done digest usage first.0;
      touched = λ some. touched_done (changes_behind path changes) (visits_at child (changes_behind path changes)) some second.0;
      least = closed_done digest usage (extension_cost path + if_touched (changes_behind path changes) (stated_usage child)) second.1;
    }

-- ---- of a place below which no change stands

pub alone-missing : (digest : List ℕ) → IsDone (visit_alone (missing digest)) → ⊥
unfolding visit_alone
alone-missing digest e = some_why (no_text digest) e

pub alone-bad : (digest : List ℕ) → IsDone (visit_alone (bad digest)) → ⊥
unfolding visit_alone
alone-bad digest e = some_why (no_node digest) e

pub alone-leaf : (digest : List ℕ) (usage : ℕ) (path : List ℕ) (ref : ValueRef) → IsDone (visit_alone (leaf digest usage path ref)) → LeafDone usage path ref
unfolding visit_alone
alone-leaf digest usage path ref e =
    let both = before_done (opened digest usage) (closed digest usage (leaf_cost path ref)) e in
    record { most = opened_done digest usage both.0; least = closed_done digest usage (leaf_cost path ref) both.1 }

pub alone-branch : (digest : List ℕ) (usage : ℕ) (ref : Option ValueRef) (kids : ℕ → Seen) → IsDone (visit_alone (branch digest usage ref kids)) → (usage ≤ most_usage) × (branch_cost ref ≤ usage)
unfolding visit_alone
alone-branch digest usage ref kids e =
    let both = before_done (opened digest usage) (closed digest usage (branch_cost ref)) e in
    (opened_done digest usage both.0, closed_done digest usage (branch_cost ref) both.1)

pub alone-extension : (digest : List ℕ) (usage : ℕ) (path : List ℕ) (child : Seen) → IsDone (visit_alone (extension digest usage path child)) → (usage ≤ most_usage) × (extension_cost path ≤ usage)
unfolding visit_alone
alone-extension digest usage path child e =
    let both = before_done (opened digest usage) (closed digest usage (extension_cost path)) e in
    (opened_done digest usage both.0, closed_done digest usage (extension_cost path) both.1)
