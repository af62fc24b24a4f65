-- Something stands at a place after a batch exactly where something is left there.
use Rattle.std.proofs.Common.{◌≡◌, ◌≢◌, ℕ, ◌+◌, ◌-◌, ◌<◌, ◌==◌, if◌then◌else◌, not, Bool, true, false, List, [], ◌∷◌, length, Option, None, Some, is_some, inl, inr, ◌⊎◌, refl, sym, ◌∙◌, ap, ap₂, subst, arith}
use Rattle.std.specs.Prelude.{◌||◌}
use Rattle.std.proofs.lemmas.Bool.{false≢true, or_cases, ne_eqb}
use Rattle.byte_model.specs.Node.{ValueRef}
use Rattle.trie_model.proofs.Rests.{equal_of_test, same_nibble}
use Rattle.visit_model.specs.Seen as seen
use Rattle.visit_model.specs.Seen.{Seen}
use Rattle.batch_model.specs.Changes.{Change, found_at}
use Rattle.change_model.specs.Along.{digest_of}
use Rattle.change_model.specs.Visits.{changes_behind, change_at, is_untouched, sets_some, is_deletion, is_deleted, is_some_after, has_value_after, any_below, is_left, is_named, numbers_below, lone_child, merged_child, visits_at, visit_alone, extension_cost}
use Rattle.change_model.proofs.Along.{any_below-agree, numbers_below-agree, is_left-untouched}
use Rattle.change_model.proofs.Laid.{same_tests, found_at-changes_behind}
use Rattle.change_model.proofs.Left.{any_below-at, any_below_from}
use Rattle.update_model.specs.Tops.{Top, empty, leaf, branch, extension, lowered, top_behind, ref_here}
use Rattle.update_model.specs.Joins.{Kid, known, is_there, kid_top, there, joint}
use Rattle.update_model.specs.Sound.{AreBelow, StandsAt}
use Rattle.update_model.specs.Updates.{Outcome, ref_after, parted, behind_outcome, laid, no_branch, kid_kept, kid_after, kids_after, merged_kids, top_seen, digest_or_none, parts, updated}
use Rattle.update_model.proofs.Behind.{below-nibble, below-prefix, changes_behind-append, changes_behind-nil, is_set, or_true, sets-behind, sets-here, sets_some-behind}
use Rattle.update_model.proofs.Stands.{StandsAlong, where_touched_stands}
use Rattle.update_model.proofs.Unrefused.{IsDone, missing-refused, bad-refused, branch-done, extension-done, alone-missing, alone-bad}
use Rattle.update_model.proofs.TopsBelow.{NoBranch}
use Rattle.update_model.proofs.LaidKeeps.{OfChild, PassesOn, laid-keeps}
use Rattle.update_model.proofs.Joined.{KnowsLone, there-joint, only-holds}
use Rattle.change_model.proofs.Merging.{untouched_none, lone_from}
use Rattle.change_model.proofs.Alone.{none-behind}

-- ---- where changes are laid over a top

-- What is left of a top, where `further` says what is left of the branch, by the changes that reach it.
unfoldable pub left_of : (List Change → Bool) → Top → List Change → Bool
left_of further empty changes = sets_some changes
left_of further (leaf path ref) changes = is_untouched changes || sets_some changes || not (is_deleted path changes)
left_of further (branch digest used) changes = is_untouched changes || sets_some changes || further changes
left_of further (extension path digest used) changes = is_untouched changes || sets_some changes || further (changes_behind path changes)

left_of-untouched : (further : List Change → Bool) (top : Top) → is_there (known top) ≡ left_of further top []
unfolding left_of is_there
left_of-untouched further empty = refl
left_of-untouched further (leaf path ref) = refl
left_of-untouched further (branch digest used) = refl
left_of-untouched further (extension path digest used) = refl

-- a former value that is not deleted stays, or another is set
abbrev value_after : Option ValueRef → List Change → Bool
value_after former changes = is_some (ref_after former (change_at [] changes))

after_none : (o : Option (Option (List ℕ))) → is_some (ref_after None o) ≡ is_set o
after_none None = refl
after_none (Some None) = refl
after_none (Some (Some value)) = refl

after_some : (ref : ValueRef) (o : Option (Option (List ℕ))) → is_some (ref_after (Some ref) o) ≡ not (is_deletion o)
after_some ref None = refl
after_some ref (Some None) = refl
after_some ref (Some (Some value)) = refl

set_not_deleted : (o : Option (Option (List ℕ))) → is_set o ≡ true → not (is_deletion o) ≡ true
set_not_deleted None e = cc
set_not_deleted (Some None) e = cc
set_not_deleted (Some (Some value)) e = refl

any-at : (f : ℕ → Bool) (a : Bool) (x : ℕ) → x < 16 → f x ≡ true → (a || any_below f 16) ≡ true
any-at f a x small e = or_true a (any_below f 16) (inr (any_below-at f 16 x small e))

-- three causes for which something is left
three : (a b c : Bool) → (a || b || c) ≡ true → (a ≡ true) ⊎ ((b ≡ true) ⊎ (c ≡ true))
three true b c e = inl refl
three false true c e = inr (inl refl)
three false false c e = inr (inr e)

three_from : (a b c : Bool) → (b ≡ true) ⊎ (c ≡ true) → (a || b || c) ≡ true
three_from true b c h = refl
three_from false true c h = refl
three_from false false c (inl e) = cc
three_from false false c (inr e) = e

left_of-sets : (further : List Change → Bool) (top : Top) (changes : List Change) → sets_some changes ≡ true → left_of further top changes ≡ true
unfolding left_of
left_of-sets further empty changes e = e
left_of-sets further (leaf path ref) changes e = three_from (is_untouched changes) (sets_some changes) (not (is_deleted path changes)) (inl e)
left_of-sets further (branch digest used) changes e = three_from (is_untouched changes) (sets_some changes) (further changes) (inl e)
left_of-sets further (extension path digest used) changes e = three_from (is_untouched changes) (sets_some changes) (further (changes_behind path changes)) (inl e)

module _ (depth : ℕ) (changes : List Change) (below : AreBelow depth changes) (some : changes ≢ []) where
  abbrev behind : ℕ → List Change
  behind x = changes_behind (x ∷ []) changes

  -- below an empty place
  fork-empty : sets_some changes ≡ (value_after None changes || any_below (λ x. sets_some (behind x)) 16)
  fork-empty = sets_some-behind depth changes below ∙ ap (λ (b : Bool). b || any_below (λ x. sets_some (behind x)) 16) (sym (after_none (change_at [] changes)))

  set_or_behind : sets_some changes ≡ true → (is_set (change_at [] changes) ≡ true) ⊎ (any_below (λ x. sets_some (behind x)) 16 ≡ true)
  set_or_behind e = or_cases (is_set (change_at [] changes)) (any_below (λ x. sets_some (behind x)) 16) (sym (sets_some-behind depth changes below) ∙ e)

  -- at a leaf whose path is used up
  fork-here : (ref : ValueRef) → (is_untouched changes || sets_some changes || not (is_deleted [] changes)) ≡ (value_after (Some ref) changes || any_below (λ x. sets_some (behind x)) 16)
  fork-here ref = same_tests (is_untouched changes || sets_some changes || not (is_deleted [] changes)) (value_after (Some ref) changes || any) onward back
    where
      any : Bool
      any = any_below (λ x. sets_some (behind x)) 16

      stays : not (is_deleted [] changes) ≡ true → (value_after (Some ref) changes || any) ≡ true
      stays e = or_true (value_after (Some ref) changes) any (inl (after_some ref (change_at [] changes) ∙ e))

      onward : (is_untouched changes || sets_some changes || not (is_deleted [] changes)) ≡ true → (value_after (Some ref) changes || any) ≡ true
      onward e = elim (three (is_untouched changes) (sets_some changes) (not (is_deleted [] changes)) e) [
        | inl untouched ↦ absurd (some (untouched_none changes untouched))
        | inr more ↦ elim more [
          | inl sets ↦ elim (set_or_behind sets) [
            | inl here ↦ stays (set_not_deleted (change_at [] changes) here)
            | inr further ↦ or_true (value_after (Some ref) changes) any (inr further)
          ]
          | inr kept ↦ stays kept
        ]
      ]

      back : (value_after (Some ref) changes || any) ≡ true → (is_untouched changes || sets_some changes || not (is_deleted [] changes)) ≡ true
      back e = elim (or_cases (value_after (Some ref) changes) any e) [
        | inl here ↦ three_from (is_untouched changes) (sets_some changes) (not (is_deleted [] changes)) (inr (sym (after_some ref (change_at [] changes)) ∙ here))
        | inr further ↦ three_from (is_untouched changes) (sets_some changes) (not (is_deleted [] changes)) (inl (sets_some-behind depth changes below ∙ or_true (is_set (change_at [] changes)) any (inr further)))
      ]

  -- where what stood there goes on with one nibble
  fork-on : (y : ℕ) → y < 16 → (inner : ℕ → Bool) (whole : Bool) → inner y ≡ (is_untouched (behind y) || sets_some (behind y) || whole) → ((x : ℕ) → x ≢ y → inner x ≡ sets_some (behind x)) → (behind y ≡ [] → whole ≡ true)
      → (is_untouched changes || sets_some changes || whole) ≡ (value_after None changes || any_below inner 16)
  fork-on y small inner whole at_y at_others alone = same_tests (is_untouched changes || sets_some changes || whole) (value_after None changes || any_below inner 16) onward back
    where
      inner-sets : (x : ℕ) → sets_some (behind x) ≡ true → inner x ≡ true
      inner-sets x e =
          elim (x == y) as (λ b. (x == y) ≡ b → inner x ≡ true) [
            | true ↦ λ t. subst (λ z. sets_some (behind z) ≡ true → inner z ≡ true) (sym (equal_of_test x y t)) (λ s. at_y ∙ three_from (is_untouched (behind y)) (sets_some (behind y)) whole (inl s)) e
            | false ↦ λ t. at_others x (not_same x t) ∙ e
          ] refl
        where
          not_same : (x : ℕ) → (x == y) ≡ false → x ≢ y
          not_same x t e = false≢true (sym t ∙ ap (λ z. z == y) e ∙ same_nibble y)

      onward : (is_untouched changes || sets_some changes || whole) ≡ true → (value_after None changes || any_below inner 16) ≡ true
      onward e = elim (three (is_untouched changes) (sets_some changes) whole e) [
        | inl untouched ↦ absurd (some (untouched_none changes untouched))
        | inr more ↦ elim more [
          | inl sets ↦ elim (set_or_behind sets) [
            | inl here ↦ or_true (value_after None changes) (any_below inner 16) (inl (after_none (change_at [] changes) ∙ here))
            | inr further ↦ (let r = any_below_from (λ x. sets_some (behind x)) 16 further in any-at inner (value_after None changes) r.0 r.1 (inner-sets r.0 r.2))
          ]
          | inr kept ↦ any-at inner (value_after None changes) y small (at_y ∙ three_from (is_untouched (behind y)) (sets_some (behind y)) whole (inr kept))
        ]
      ]

      from_sets : (x : ℕ) → sets_some (behind x) ≡ true → (is_untouched changes || sets_some changes || whole) ≡ true
      from_sets x e = three_from (is_untouched changes) (sets_some changes) whole (inl (sets-behind (x ∷ []) changes e))

      back : (value_after None changes || any_below inner 16) ≡ true → (is_untouched changes || sets_some changes || whole) ≡ true
      back e = elim (or_cases (value_after None changes) (any_below inner 16) e) [
        | inl here ↦ three_from (is_untouched changes) (sets_some changes) whole (inl (sets-here changes (sym (after_none (change_at [] changes)) ∙ here)))
        | inr further ↦ (
            let r = any_below_from inner 16 further in
            elim (r.0 == y) as (λ b. (r.0 == y) ≡ b → (is_untouched changes || sets_some changes || whole) ≡ true) [
              | true ↦ λ t.
                  let here : inner y ≡ true = subst (λ z. inner z ≡ true) (equal_of_test r.0 y t) r.2 in
                  elim (three (is_untouched (behind y)) (sets_some (behind y)) whole (sym at_y ∙ here)) [
                    | inl untouched ↦ three_from (is_untouched changes) (sets_some changes) whole (inr (alone (untouched_none (behind y) untouched)))
                    | inr more ↦ elim more [
                      | inl sets ↦ from_sets y sets
                      | inr kept ↦ three_from (is_untouched changes) (sets_some changes) whole (inr kept)
                    ]
                  ]
              | false ↦ λ t. from_sets r.0 (sym (at_others r.0 (λ e. false≢true (sym t ∙ ap (λ z. z == y) e ∙ same_nibble y))) ∙ r.2)
            ] refl)
      ]

module _ (further : List Change → Bool) (none : further [] ≡ true) where
  left_of-lowered : (path digest : List ℕ) (used : ℕ) (changes : List Change) → left_of further (lowered path (branch digest used)) changes ≡ (is_untouched changes || sets_some changes || further (changes_behind path changes))
  unfolding left_of lowered
  left_of-lowered [] digest used changes = ap (λ (cs : List Change). is_untouched changes || sets_some changes || further cs) (sym (changes_behind-nil changes))
  left_of-lowered (x ∷ path) digest used changes = refl

  left_of-fork : (depth : ℕ) (old : Top) (changes : List Change) → NoBranch old → StandsAt depth old → AreBelow depth changes → changes ≢ []
      → left_of further old changes ≡ (value_after (ref_here old) changes || any_below (λ x. left_of further (top_behind x old) (changes_behind (x ∷ []) changes)) 16)
  unfolding left_of top_behind ref_here StandsAt found_at
  left_of-fork depth empty changes over stands below some = fork-empty depth changes below some
  left_of-fork depth (leaf [] ref) changes over stands below some = fork-here depth changes below some ref
  left_of-fork depth (leaf (y ∷ path) ref) changes over stands below some =
      let found = found_at-changes_behind (y ∷ []) path changes in
      fork-on depth changes below some y stands.0.0 (λ x. left_of further (top_behind x (leaf (y ∷ path) ref)) (changes_behind (x ∷ []) changes)) (not (is_deleted (y ∷ path) changes))
      (rw (same_nibble y) (ap (λ o. is_untouched (changes_behind (y ∷ []) changes) || sets_some (changes_behind (y ∷ []) changes) || not (is_deletion o)) found))
      (λ x apart. rw (ne_eqb x y apart) refl)
      (λ e. ap (λ o. not (is_deletion o)) (sym found ∙ ap (λ (cs : List Change). found_at path cs) e))
  left_of-fork depth (branch digest used) changes over stands below some = absurd over
  left_of-fork depth (extension [] digest used) changes over stands below some = absurd (stands.2 refl)
  left_of-fork depth (extension (y ∷ path) digest used) changes over stands below some =
      let behind = changes_behind-append (y ∷ []) path changes in
      fork-on depth changes below some y stands.0.0 (λ x. left_of further (top_behind x (extension (y ∷ path) digest used)) (changes_behind (x ∷ []) changes)) (further (changes_behind (y ∷ path) changes))
      (rw (same_nibble y) (left_of-lowered path digest used (changes_behind (y ∷ []) changes) ∙ ap (λ (cs : List Change). is_untouched (changes_behind (y ∷ []) changes) || sets_some (changes_behind (y ∷ []) changes) || further cs) (sym behind)))
      (λ x apart. rw (ne_eqb x y apart) refl)
      (λ e. ap further (behind ∙ ap (changes_behind path) e ∙ none-behind path) ∙ none)

-- ---- changes laid over a top

abbrev pub LeftAs : (List Change → Bool) → ℕ → Top → List Change → Outcome → Type 0
LeftAs further depth old changes outcome = is_there (known outcome.top) ≡ left_of further old changes

module _ (further : List Change → Bool) (none : further [] ≡ true) where
  pub behind-left : (step : Top → List Change → Outcome) (depth : ℕ) (old : Top) (changes : List Change) → (changes ≢ [] → LeftAs further depth old changes (step old changes)) → LeftAs further depth old changes (behind_outcome step old changes)
  behind-left step depth old [] h = left_of-untouched further old
  behind-left step depth old (change ∷ changes) h = h (λ e. cc)

  pub passes-left : (child : List Change → Outcome) → PassesOn (LeftAs further) child
  unfolding kid_top
  passes-left child step depth old changes over stands below some each =
      let ref : Option ValueRef = ref_after (ref_here old) (change_at [] changes) in
      let kids : ℕ → Kid = λ x. known (parted step old changes x).top in
      there-joint ref kids 0 (λ x _ _. refl)
      ∙ ap (λ (b : Bool). is_some ref || b) (any_below-agree (λ x. is_there (kids x)) (λ x. left_of further (top_behind x old) (changes_behind (x ∷ []) changes)) 16
      (λ x small. behind-left step (depth + 1) (top_behind x old) (changes_behind (x ∷ []) changes) (each x small)))
      ∙ sym (left_of-fork further none depth old changes over stands below some)

  -- Something stands where changes are laid over a top exactly where something of it is left.
  pub laid-left : (child : List Change → Outcome) (depth : ℕ) (old : Top) (changes : List Change) → StandsAt depth old → AreBelow depth changes → changes ≢ [] → OfChild (LeftAs further) child depth old changes
      → is_there (known (laid child old changes).top) ≡ left_of further old changes
  laid-left child depth old changes stands below some h = laid-keeps (LeftAs further) child (passes-left child) depth old changes stands below some h

-- ---- the children of a branch

pub is_left-none : (s : Seen) → is_left s [] ≡ is_some (digest_of s)
unfolding digest_of
is_left-none s = is_left-untouched s ∙ go s
  where
    go : (s : Seen) → is_named s ≡ is_some (digest_of s)
    go seen.nothing = refl
    go (seen.missing digest) = refl
    go (seen.bad digest) = refl
    go (seen.leaf digest usage path ref) = refl
    go (seen.branch digest usage ref kids) = refl
    go (seen.extension digest usage path child) = refl

kept-there : (o : Option (List ℕ)) → is_there (kid_kept o) ≡ is_some o
unfolding is_there
kept-there None = refl
kept-there (Some digest) = refl

-- A child is there after the changes below it where something is left of it.
pub kid-left : (child : Seen) (changes : List Change) (outcome : Outcome) → (changes ≢ [] → is_there (known outcome.top) ≡ is_left child changes) → is_there (kid_after child changes outcome) ≡ is_left child changes
kid-left child [] outcome h = kept-there (digest_of child) ∙ sym (is_left-none child)
kid-left child (change ∷ changes) outcome h = h (λ e. cc)

-- a child that was visited alone is there, if it is named
pub alone-there : (s : Seen) → IsDone (visit_alone s) → is_left s [] ≡ true → is_there (known (top_seen s)) ≡ true
unfolding top_seen is_there digest_of
alone-there seen.nothing done left = absurd (false≢true (sym (is_left-none seen.nothing) ∙ left))
alone-there (seen.missing digest) done left = absurd (alone-missing digest done)
alone-there (seen.bad digest) done left = absurd (alone-bad digest done)
alone-there (seen.leaf digest usage path ref) done left = refl
alone-there (seen.branch digest usage ref kids) done left = refl
alone-there (seen.extension digest usage path child) done left = refl

value_after-is : (ref : Option ValueRef) (o : Option (Option (List ℕ))) → is_some (ref_after ref o) ≡ is_some_after ref o
value_after-is ref None = refl
value_after-is ref (Some None) = refl
value_after-is ref (Some (Some value)) = refl

-- a branch has a value after the changes where it has one in its new node
pub has_value-after : (ref : Option ValueRef) (changes : List Change) → is_some (ref_after ref (change_at [] changes)) ≡ has_value_after ref changes
has_value-after ref changes = value_after-is ref (change_at [] changes)

module _ (ref : Option ValueRef) (children : ℕ → Seen) (changes : List Change) (outcomes : ℕ → Outcome)
    (each : (x : ℕ) → x < 16 → changes_behind (x ∷ []) changes ≢ [] → is_there (known (outcomes x).top) ≡ is_left (children x) (changes_behind (x ∷ []) changes)) where
  abbrev left : ℕ → Bool
  left x = is_left (children x) (changes_behind (x ∷ []) changes)

  abbrev inner : ℕ → Kid
  inner x = kid_after (children x) (changes_behind (x ∷ []) changes) (outcomes x)

  abbrev merged : Option ℕ
  merged = merged_child ref children changes

  abbrev kids : ℕ → Kid
  kids = kids_after ref children changes outcomes

  pub inner-left : (x : ℕ) → x < 16 → is_there (inner x) ≡ left x
  inner-left x small = kid-left (children x) (changes_behind (x ∷ []) changes) (outcomes x) (each x small)

  -- The children that are there after their changes are those of which something is left.
  pub there-inner : there inner ≡ numbers_below left 16
  there-inner = numbers_below-agree (λ x. is_there (inner x)) left 16 inner-left

  module _ (done : (x : ℕ) → merged ≡ Some x → IsDone (visit_alone (children x))) where
    merged-there : (x : ℕ) → merged ≡ Some x → (is_there (known (top_seen (children x))) ≡ true) × (left x ≡ true)
    merged-there x e =
        let lone = lone_from (has_value_after ref changes) (numbers_below left 16) changes x e in
        let here : left x ≡ true = (only-holds left 16 x lone.only).1 in
        (alone-there (children x) (done x e) (ap (is_left (children x)) (sym lone.untouched) ∙ here), here)

    pub kids-left : (x : ℕ) → x < 16 → is_there (kids x) ≡ left x
    kids-left x small = go merged refl
      where
        go : (m : Option ℕ) → merged ≡ m → is_there (merged_kids m children inner x) ≡ left x
        go None e = inner-left x small
        go (Some y) e =
            elim (x == y) as (λ b. (x == y) ≡ b → is_there (if b then known (top_seen (children x)) else inner x) ≡ left x) [
              | true ↦ λ t. let r = merged-there x (e ∙ ap Some (sym (equal_of_test x y t))) in r.0 ∙ sym r.1
              | false ↦ λ t. inner-left x small
            ] refl

    pub there-kids : there kids ≡ numbers_below left 16
    there-kids = numbers_below-agree (λ x. is_there (kids x)) left 16 kids-left

    -- of the only child that is left more is known than its name, if no value is
    pub knows-lone : KnowsLone (ref_after ref (change_at [] changes)) kids
    unfolding kid_top
    knows-lone x no_value only = go (changes_behind (x ∷ []) changes) refl
      where
        merged_is : merged ≡ (if is_untouched (changes_behind (x ∷ []) changes) then Some x else None)
        merged_is = ap₂ (λ (b : Bool) (l : List ℕ). lone_child b l changes) (sym (has_value-after ref changes) ∙ ap is_some no_value) (sym there-kids ∙ only)

        go : (cs : List Change) → changes_behind (x ∷ []) changes ≡ cs → kids x ≡ known (kid_top (kids x))
        go [] e =
            let is : merged ≡ Some x = merged_is ∙ ap (λ (cs : List Change). if is_untouched cs then Some x else None) e in
            let here : kids x ≡ known (top_seen (children x)) = ap (λ (m : Option ℕ). merged_kids m children inner x) is ∙ ap (λ (b : Bool). if b then known (top_seen (children x)) else inner x) (same_nibble x) in
            subst (λ (k : Kid). k ≡ known (kid_top k)) (sym here) refl
        go (c ∷ cs) e =
            let is : merged ≡ None = merged_is ∙ ap (λ (cs : List Change). if is_untouched cs then Some x else None) e in
            let here : kids x ≡ known (outcomes x).top = ap (λ (m : Option ℕ). merged_kids m children inner x) is ∙ ap (λ (cs : List Change). kid_after (children x) cs (outcomes x)) e in
            subst (λ (k : Kid). k ≡ known (kid_top k)) (sym here) refl

    -- Of a branch something is there after the changes where its value or a child is left.
    pub branch-left : (used : ℕ) → is_there (known (joint (ref_after ref (change_at [] changes)) kids used).top) ≡ (has_value_after ref changes || any_below left 16)
    branch-left used =
        there-joint (ref_after ref (change_at [] changes)) kids used knows-lone
        ∙ ap₂ (λ (a b : Bool). a || b) (has_value-after ref changes) (any_below-agree (λ x. is_there (kids x)) left 16 kids-left)

-- ---- what is seen

left-sets : (s : Seen) (changes : List Change) → sets_some changes ≡ true → is_left s changes ≡ true
unfolding is_left
left-sets seen.nothing changes e = e
left-sets (seen.missing digest) changes e = or_true (is_untouched changes) (sets_some changes) (inr e)
left-sets (seen.bad digest) changes e = or_true (is_untouched changes) (sets_some changes) (inr e)
left-sets (seen.leaf digest usage path ref) changes e = three_from (is_untouched changes) (sets_some changes) (not (is_deleted path changes)) (inl e)
left-sets (seen.branch digest usage ref kids) changes e =
    let any : Bool = any_below (λ x. is_left (kids x) (changes_behind (x ∷ []) changes)) 16 in
    or_true (is_untouched changes || sets_some changes || has_value_after ref changes) any (inl (three_from (is_untouched changes) (sets_some changes) (has_value_after ref changes) (inl e)))
left-sets (seen.extension digest usage path child) changes e = three_from (is_untouched changes) (sets_some changes) (is_left child (changes_behind path changes)) (inl e)

pub left-absorbs : (s : Seen) (changes : List Change) → changes ≢ [] → is_left s changes ≡ (is_untouched changes || sets_some changes || is_left s changes)
left-absorbs s changes some = same_tests (is_left s changes) (is_untouched changes || sets_some changes || is_left s changes) (λ e. three_from (is_untouched changes) (sets_some changes) (is_left s changes) (inr e)) (λ e.
    elim (three (is_untouched changes) (sets_some changes) (is_left s changes) e) [
      | inl untouched ↦ absurd (some (untouched_none changes untouched))
      | inr others ↦ elim others [ inl sets ↦ left-sets s changes sets | inr left ↦ left ]
    ])

pub left-some : (s : Seen) → s ≢ seen.nothing → is_left s [] ≡ true
unfolding digest_of
left-some seen.nothing some = absurd (some refl)
left-some (seen.missing digest) some = is_left-none (seen.missing digest)
left-some (seen.bad digest) some = is_left-none (seen.bad digest)
left-some (seen.leaf digest usage path ref) some = is_left-none (seen.leaf digest usage path ref)
left-some (seen.branch digest usage ref kids) some = is_left-none (seen.branch digest usage ref kids)
left-some (seen.extension digest usage path child) some = is_left-none (seen.extension digest usage path child)

-- where the changes of a branch leave something, one of its causes is there
pub branch-causes : (depth : ℕ) (ref : Option ValueRef) (kids : ℕ → Seen) (changes : List Change) → AreBelow depth changes → changes ≢ []
    → (has_value_after ref changes || any_below (λ x. is_left (kids x) (changes_behind (x ∷ []) changes)) 16) ≡ (is_untouched changes || sets_some changes || has_value_after ref changes || any_below (λ x. is_left (kids x) (changes_behind (x ∷ []) changes)) 16)
branch-causes depth ref kids changes below some = same_tests (value || any) (is_untouched changes || sets_some changes || value || any) onward back
  where
    value : Bool
    value = has_value_after ref changes

    left : ℕ → Bool
    left x = is_left (kids x) (changes_behind (x ∷ []) changes)

    any : Bool
    any = any_below left 16

    onward : (value || any) ≡ true → (is_untouched changes || sets_some changes || value || any) ≡ true
    onward e = elim (or_cases value any e) [
      | inl here ↦ or_true (is_untouched changes || sets_some changes || value) any (inl (three_from (is_untouched changes) (sets_some changes) value (inr here)))
      | inr further ↦ or_true (is_untouched changes || sets_some changes || value) any (inr further)
    ]

    set_here : (o : Option (Option (List ℕ))) → is_set o ≡ true → is_some_after ref o ≡ true
    set_here None k = cc
    set_here (Some value) k = k

    sets : sets_some changes ≡ true → (value || any) ≡ true
    sets e = elim (set_or_behind depth changes below some e) [
      | inl here ↦ or_true value any (inl (set_here (change_at [] changes) here))
      | inr further ↦ (let r = any_below_from (λ x. sets_some (changes_behind (x ∷ []) changes)) 16 further in any-at left value r.0 r.1 (left-sets (kids r.0) (changes_behind (r.0 ∷ []) changes) r.2))
    ]

    back : (is_untouched changes || sets_some changes || value || any) ≡ true → (value || any) ≡ true
    back e = elim (or_cases (is_untouched changes || sets_some changes || value) any e) [
      | inl first ↦ elim (three (is_untouched changes) (sets_some changes) value first) [
        | inl untouched ↦ absurd (some (untouched_none changes untouched))
        | inr more ↦ elim more [ inl set ↦ sets set | inr here ↦ or_true value any (inl here) ]
      ]
      | inr further ↦ or_true value any (inr further)
    ]

-- Something stands after a batch exactly where something is left.
pub updated-left : (s : Seen) (depth : ℕ) (after_extension : Bool) (changes : List Change) → StandsAlong depth after_extension s changes → AreBelow depth changes → changes ≢ [] → IsDone (visits_at s changes) → is_there (known (updated s changes).top) ≡ is_left s changes
unfolding updated is_left left_of StandsAt
updated-left seen.nothing depth after_extension changes stands below some done = laid-left (λ cs. true) refl no_branch depth empty changes tt below some tt
updated-left (seen.missing digest) depth after_extension changes stands below some done = absurd (missing-refused digest changes done)
updated-left (seen.bad digest) depth after_extension changes stands below some done = absurd (bad-refused digest changes done)
updated-left (seen.leaf digest usage path ref) depth after_extension changes stands below some done =
    laid-left (λ cs. true) refl no_branch depth (leaf path ref) changes (stands.nibbles, stands.short, stands.value) below some tt
updated-left (seen.branch digest usage ref kids) depth after_extension changes stands below some done =
    let visited = branch-done digest usage ref kids changes done in
    branch-left ref kids changes (λ x. updated (kids x) (changes_behind (x ∷ []) changes))
    (λ x small more. updated-left (kids x) (depth + 1) false (changes_behind (x ∷ []) changes) (where_touched_stands (changes_behind (x ∷ []) changes) (stands.1 x small) more) (below-nibble x depth changes below) more (visited.touched x small more))
    visited.merged (usage - parts ref kids changes)
    ∙ branch-causes depth ref kids changes below some
updated-left (seen.extension digest usage path child) depth after_extension changes stands below some done =
    let visited = extension-done digest usage path child changes done in
    let room = stands.0.room in
    laid-left (is_left child) (left-some child stands.0.there) (λ cs. updated child cs) depth (extension path (digest_or_none (digest_of child)) (usage - extension_cost path)) changes (stands.0.nibbles, omega arith, stands.0.some) below some
    (λ more.
    updated-left child (depth + length path) true (changes_behind path changes) (where_touched_stands (changes_behind path changes) stands.1 more) (below-prefix path depth changes below) more (visited.touched more)
    ∙ left-absorbs child (changes_behind path changes) more)

-- ---- what is left of a top is what is left of what is seen there

pub left_of-empty : (further : List Change → Bool) (changes : List Change) → left_of further empty changes ≡ is_left seen.nothing changes
unfolding left_of is_left
left_of-empty further changes = refl

pub left_of-leaf : (further : List Change → Bool) (digest : List ℕ) (usage : ℕ) (path : List ℕ) (ref : ValueRef) (changes : List Change) → left_of further (leaf path ref) changes ≡ is_left (seen.leaf digest usage path ref) changes
unfolding left_of is_left
left_of-leaf further digest usage path ref changes = refl

pub left_of-extension : (child : Seen) (digest name : List ℕ) (usage used : ℕ) (path : List ℕ) (changes : List Change) → left_of (is_left child) (extension path name used) changes ≡ is_left (seen.extension digest usage path child) changes
unfolding left_of is_left
left_of-extension child digest name usage used path changes = refl
