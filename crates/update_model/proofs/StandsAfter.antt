-- The top of what a batch makes stands where it is made.
use Rattle.std.proofs.Common.{◌≡◌, ◌≢◌, ℕ, ◌+◌, ◌-◌, ◌<◌, ◌≤◌, ◌==◌, if◌then◌else◌, Bool, true, false, List, [], ◌∷◌, length, Option, None, Some, IfSome, refl, sym, ap, ◌∙◌, subst, arith}
use Rattle.std.specs.List.{AllByRecursion}
use Rattle.std.proofs.lemmas.Bool.{eqb-true}
use Rattle.byte_model.specs.Node as node
use Rattle.byte_model.specs.Node.{ValueRef, IsShaped, longest_value}
use Rattle.visit_model.specs.Seen as seen
use Rattle.visit_model.specs.Seen.{Seen}
use Rattle.batch_model.specs.Changes.{Change, found_at}
use Rattle.change_model.specs.Along.{digest_of}
use Rattle.change_model.specs.Visits.{changes_behind, change_at, merged_child, extension_cost}
use Rattle.change_model.proofs.Laid.{same_path}
use Rattle.update_model.specs.Tops.{Top, empty, leaf, branch, extension, top_behind, ref_here}
use Rattle.update_model.specs.Joins.{Kid, known, kid_top}
use Rattle.update_model.specs.Sound.{IsBelow, AreBelow, StandsAt}
use Rattle.update_model.specs.Updates.{Outcome, ref_after, parted, behind_outcome, laid, no_branch, kid_kept, kid_after, kids_after, merged_kids, top_seen, digest_or_none, parts, updated}
use Rattle.update_model.proofs.Behind.{below-nibble, below-prefix, below-depth}
use Rattle.update_model.proofs.Stands.{TopStandsSeen, StandsAlong, where_touched_stands}
use Rattle.update_model.proofs.TopsBelow.{stands-top_behind}
use Rattle.update_model.proofs.LaidKeeps.{OfChild, PassesOn, laid-keeps}
use Rattle.update_model.proofs.Joined.{ShortValue, stands-joint}

-- ---- values are short

found-short : (depth : ℕ) (path : List ℕ) (changes : List Change) → AllByRecursion (IsBelow depth) changes → (o : Option (List ℕ)) → found_at path changes ≡ Some o → IfSome o (λ v. length v ≤ longest_value)
unfolding found_at
found-short depth path [] all o e = cc
found-short depth path (change ∷ changes) all o e =
    elim (same_path change.0 path) as (λ b. (if b then Some change.1 else found_at path changes) ≡ Some o → IfSome o (λ v. length v ≤ longest_value)) [
      | true ↦ λ k. (let same : change.1 ≡ o = cc in subst (λ (o : Option (List ℕ)). IfSome o (λ v. length v ≤ longest_value)) same all.0.value)
      | false ↦ λ k. found-short depth path changes all.1 o k
    ] e

-- A value stays short, and one that is set is short.
pub short-after : (depth : ℕ) (former : Option ValueRef) (changes : List Change) → AreBelow depth changes → ShortValue former → ShortValue (ref_after former (change_at [] changes))
short-after depth former changes below short = go (change_at [] changes) refl
  where
    go : (o : Option (Option (List ℕ))) → change_at [] changes ≡ o → ShortValue (ref_after former o)
    go None e = short
    go (Some None) e = tt
    go (Some (Some value)) e = found-short depth [] changes below.each (Some value) e

pub short-here : (depth : ℕ) (old : Top) → StandsAt depth old → ShortValue (ref_here old)
unfolding ref_here StandsAt
short-here depth empty stands = tt
short-here depth (leaf [] ref) stands = stands.2
short-here depth (leaf (x ∷ path) ref) stands = tt
short-here depth (branch digest used) stands = tt
short-here depth (extension path child used) stands = tt

-- of a branch of good shape
pub short-branch : (ref : Option ValueRef) (kids : ℕ → Option (List ℕ)) → IsShaped (node.branch ref kids) → ShortValue ref
short-branch None kids shape = tt
short-branch (Some ref) kids shape = shape.0

-- ---- changes laid over a top

abbrev pub TopStands : ℕ → Top → List Change → Outcome → Type 0
TopStands depth old changes outcome = StandsAt depth outcome.top

pub behind-stands : (step : Top → List Change → Outcome) (depth : ℕ) (old : Top) (changes : List Change) → StandsAt depth old → (changes ≢ [] → StandsAt depth (step old changes).top) → StandsAt depth (behind_outcome step old changes).top
behind-stands step depth old [] stands h = stands
behind-stands step depth old (change ∷ changes) stands h = h (λ e. cc)

pub passes-stands : (child : List Change → Outcome) → PassesOn TopStands child
unfolding kid_top
passes-stands child step depth old changes over stands below some each =
    stands-joint depth (ref_after (ref_here old) (change_at [] changes)) (λ x. known (parted step old changes x).top) 0
    (below-depth depth changes some below) (short-after depth (ref_here old) changes below (short-here depth old stands))
    (λ x small. behind-stands step (depth + 1) (top_behind x old) (changes_behind (x ∷ []) changes) (stands-top_behind x depth old over stands) (each x small))

-- Changes laid over a top that stands at a depth make one that stands there.
pub laid-stands : (child : List Change → Outcome) (depth : ℕ) (old : Top) (changes : List Change) → StandsAt depth old → AreBelow depth changes → changes ≢ [] → OfChild TopStands child depth old changes → StandsAt depth (laid child old changes).top
laid-stands child depth old changes stands below some h = laid-keeps TopStands child (passes-stands child) depth old changes stands below some h

-- ---- what is seen

pub top_seen-stands : (depth : ℕ) (after_extension : Bool) (s : Seen) → TopStandsSeen depth after_extension s → StandsAt depth (top_seen s)
unfolding top_seen StandsAt
top_seen-stands depth after_extension seen.nothing stands = tt
top_seen-stands depth after_extension (seen.missing digest) stands = tt
top_seen-stands depth after_extension (seen.bad digest) stands = tt
top_seen-stands depth after_extension (seen.leaf digest usage path ref) stands = (stands.nibbles, stands.short, stands.value)
top_seen-stands depth after_extension (seen.branch digest usage ref kids) stands = let room = stands.room in omega arith
top_seen-stands depth after_extension (seen.extension digest usage path child) stands = let room = stands.room in (stands.nibbles, omega arith, stands.some)

kept-stands : (depth : ℕ) (o : Option (List ℕ)) → StandsAt depth (kid_top (kid_kept o))
unfolding kid_top StandsAt
kept-stands depth None = tt
kept-stands depth (Some digest) = tt

pub kid-stands : (depth : ℕ) (child : Seen) (changes : List Change) (outcome : Outcome) → (changes ≢ [] → StandsAt depth outcome.top) → StandsAt depth (kid_top (kid_after child changes outcome))
unfolding kid_top
kid-stands depth child [] outcome h = kept-stands depth (digest_of child)
kid-stands depth child (change ∷ changes) outcome h = h (λ e. cc)

module _ (depth : ℕ) (ref : Option ValueRef) (children : ℕ → Seen) (changes : List Change) (outcomes : ℕ → Outcome)
    (stands : (x : ℕ) → merged_child ref children changes ≡ Some x → TopStandsSeen (depth + 1) false (children x))
    (each : (x : ℕ) → x < 16 → changes_behind (x ∷ []) changes ≢ [] → StandsAt (depth + 1) (outcomes x).top) where
  abbrev inner : ℕ → Kid
  inner x = kid_after (children x) (changes_behind (x ∷ []) changes) (outcomes x)

  pub inner-stands : (x : ℕ) → x < 16 → StandsAt (depth + 1) (kid_top (inner x))
  inner-stands x small = kid-stands (depth + 1) (children x) (changes_behind (x ∷ []) changes) (outcomes x) (each x small)

  -- each child after the changes stands one nibble further
  pub kids-stand : (x : ℕ) → x < 16 → StandsAt (depth + 1) (kid_top (kids_after ref children changes outcomes x))
  unfolding kid_top
  kids-stand x small = go (merged_child ref children changes) refl
    where
      go : (m : Option ℕ) → merged_child ref children changes ≡ m → StandsAt (depth + 1) (kid_top (merged_kids m children inner x))
      go None e = inner-stands x small
      go (Some y) e =
          elim (x == y) as (λ b. (x == y) ≡ b → StandsAt (depth + 1) (kid_top (if b then known (top_seen (children x)) else inner x))) [
            | true ↦ λ t. top_seen-stands (depth + 1) false (children x) (stands x (e ∙ ap Some (sym (eqb-true x y t))))
            | false ↦ λ t. inner-stands x small
          ] refl

-- What a batch makes of what is seen at a depth has a top that stands there.
pub updated-stands : (s : Seen) (depth : ℕ) (after_extension : Bool) (changes : List Change) → StandsAlong depth after_extension s changes → AreBelow depth changes → changes ≢ [] → StandsAt depth (updated s changes).top
unfolding updated StandsAt
updated-stands seen.nothing depth after_extension changes stands below some = laid-stands no_branch depth empty changes tt below some tt
updated-stands (seen.missing digest) depth after_extension changes stands below some = tt
updated-stands (seen.bad digest) depth after_extension changes stands below some = tt
updated-stands (seen.leaf digest usage path ref) depth after_extension changes stands below some = laid-stands no_branch depth (leaf path ref) changes (stands.nibbles, stands.short, stands.value) below some tt
updated-stands (seen.branch digest usage ref kids) depth after_extension changes stands below some =
    let room = stands.0.room in
    stands-joint depth (ref_after ref (change_at [] changes)) (kids_after ref kids changes (λ x. updated (kids x) (changes_behind (x ∷ []) changes))) (usage - parts ref kids changes)
    (omega arith) (short-after depth ref changes below (short-branch ref (λ x. digest_of (kids x)) stands.0.shape))
    (kids-stand depth ref kids changes (λ x. updated (kids x) (changes_behind (x ∷ []) changes)) stands.2
    (λ x small more. updated-stands (kids x) (depth + 1) false (changes_behind (x ∷ []) changes) (where_touched_stands (changes_behind (x ∷ []) changes) (stands.1 x small) more) (below-nibble x depth changes below) more))
updated-stands (seen.extension digest usage path child) depth after_extension changes stands below some =
    let room = stands.0.room in
    laid-stands (λ cs. updated child cs) depth (extension path (digest_or_none (digest_of child)) (usage - extension_cost path)) changes (stands.0.nibbles, omega arith, stands.0.some) below some
    (λ more. updated-stands child (depth + length path) true (changes_behind path changes) (where_touched_stands (changes_behind path changes) stands.1 more) (below-prefix path depth changes below) more)
