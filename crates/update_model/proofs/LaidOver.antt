-- Changes laid over a top, nibble by nibble: what is there afterwards, where it stands and what it uses.
use Rattle.std.proofs.Common.{◌≡◌, ◌≢◌, ℕ, ◌+◌, ◌*◌, ◌^◌, ◌<◌, ◌≤◌, Bool, true, List, [], ◌∷◌, length, refl, ◌∙◌, arith}
use Rattle.byte_model.specs.Below.{sum_below}
use Rattle.byte_model.specs.Node as node
use Rattle.byte_model.specs.Node.{ValueRef, IsShaped}
use Rattle.visit_model.specs.Seen as seen
use Rattle.visit_model.specs.Seen.{Seen, stated_usage}
use Rattle.batch_model.specs.Changes.{Change, most_changes}
use Rattle.change_model.specs.Visits.{changes_behind, change_at, is_left, visits_at, branch_cost, most_usage}
use Rattle.update_model.specs.Tops.{Top, empty, leaf, top_usage, top_behind, ref_here}
use Rattle.update_model.specs.Joins.{Kid, known, is_there, there, kid_name, kid_usage}
use Rattle.update_model.specs.Sound.{AreBelow, StandsAt}
use Rattle.update_model.specs.Updates.{Outcome, no_branch, ref_after, parted, laid, updated}
use Rattle.update_model.proofs.Stands.{StandsAlong}
use Rattle.update_model.proofs.StandsAfter.{TopStands, short-after, short-here, passes-stands, behind-stands, laid-stands, updated-stands}
use Rattle.update_model.proofs.Unrefused.{IsDone}
use Rattle.update_model.proofs.TopsBelow.{NoBranch, stands-top_behind}
use Rattle.update_model.proofs.LaidKeeps.{OfChild, of_child-behind, laid-keeps_behind, of_child-map}
use Rattle.update_model.proofs.WhatIsLeft.{LeftAs, left_of, behind-left, passes-left, laid-left, left-some, left-absorbs, updated-left}
use Rattle.update_model.proofs.Joined.{ShortValue, MakesBranch, shaped-joint}
use Rattle.update_model.proofs.Limits.{most_before, usage-small, reached-small}
use Rattle.update_model.proofs.UsagesAfter.{Grows, grown-branch, laid-grows, passes-grows, reached, fork-sums, fork-kids, updated-grows}
use Rattle.update_model.specs.Growth.{growth}

-- ---- what becomes of the branch before which a top stands

-- Where changes reach it, it stands there, uses no more than so much and what the changes add, and something is there where something is left.
pub record BranchKeeps (child : List Change → Outcome) (most : ℕ) (further : List Change → Bool) (depth : ℕ) (old : Top) (changes : List Change) : Type 0 where
  pub none : further [] ≡ true
  pub stands : OfChild TopStands child depth old changes
  pub grows : OfChild (Grows most) child depth old changes
  pub left : OfChild (LeftAs further) child depth old changes

pub keeps-empty : (depth : ℕ) (changes : List Change) → BranchKeeps no_branch 0 (λ cs. true) depth empty changes
keeps-empty depth changes = record { none = refl; stands = tt; grows = tt; left = tt }

pub keeps-leaf : (depth : ℕ) (path : List ℕ) (ref : ValueRef) (changes : List Change) → BranchKeeps no_branch 0 (λ cs. true) depth (leaf path ref) changes
keeps-leaf depth path ref changes = record { none = refl; stands = tt; grows = tt; left = tt }

-- Where changes reach the branch, it is seen where it is looked at, behind an extension, and no test fails below it.
abbrev SeenWell : Seen → ℕ → Top → List Change → Outcome → Type 0
SeenWell s depth old changes outcome = StandsAlong depth true s changes × IsDone (visits_at s changes)

abbrev pub ReachesWell : Seen → ℕ → Top → List Change → Type 0
ReachesWell s = OfChild (SeenWell s) no_branch

pub keeps-seen : (s : Seen) (depth : ℕ) (old : Top) (changes : List Change) → s ≢ seen.nothing → AreBelow depth changes → ReachesWell s depth old changes → BranchKeeps (λ cs. updated s cs) (stated_usage s) (is_left s) depth old changes
unfolding left_of
keeps-seen s depth old changes there below well = record {
  none = left-some s there;
  stands = of_child-map (SeenWell s) TopStands no_branch (λ cs. updated s cs) (λ d digest used cs b some h. updated-stands s d true cs h.0 b some) depth old changes below well;
  grows = of_child-map (SeenWell s) (Grows (stated_usage s)) no_branch (λ cs. updated s cs)
      (λ d digest used cs b some h. grown-branch (stated_usage s) d digest used cs (updated s cs) some (updated-grows s d true cs h.0 b some h.1)) depth old changes below well;
  left = of_child-map (SeenWell s) (LeftAs (is_left s)) no_branch (λ cs. updated s cs)
      (λ d digest used cs b some h. updated-left s d true cs h.0 b some h.1 ∙ left-absorbs s cs some) depth old changes below well;
}

module _ (child : List Change → Outcome) (most : ℕ) (further : List Change → Bool) (depth : ℕ) (old : Top) (changes : List Change) (stands : StandsAt depth old) (below : AreBelow depth changes) (keeps : BranchKeeps child most further depth old changes) where
  -- ---- the whole

  pub laid_over-stands : changes ≢ [] → StandsAt depth (laid child old changes).top
  laid_over-stands some = laid-stands child depth old changes stands below some keeps.stands

  pub laid_over-left : changes ≢ [] → is_there (known (laid child old changes).top) ≡ left_of further old changes
  laid_over-left some = laid-left further keeps.none child depth old changes stands below some keeps.left

  pub laid_over-grows : changes ≢ [] → top_usage (laid child old changes).top ≤ reached most old changes + length changes * growth depth
  laid_over-grows some = laid-grows most child depth old changes stands below some keeps.grows

  -- ---- behind a nibble

  module _ (over : NoBranch old) where
    pub keeps-behind : (x : ℕ) → BranchKeeps child most further (depth + 1) (top_behind x old) (changes_behind (x ∷ []) changes)
    keeps-behind x = record {
      none = keeps.none;
      stands = of_child-behind TopStands child x depth old changes over stands keeps.stands;
      grows = of_child-behind (Grows most) child x depth old changes over stands keeps.grows;
      left = of_child-behind (LeftAs further) child x depth old changes over stands keeps.left;
    }

    abbrev kids : ℕ → Kid
    kids x = known (parted (laid child) old changes x).top

    pub parted-stands : (x : ℕ) → StandsAt (depth + 1) (parted (laid child) old changes x).top
    parted-stands x = behind-stands (laid child) (depth + 1) (top_behind x old) (changes_behind (x ∷ []) changes) (stands-top_behind x depth old over stands)
        (λ more. laid-keeps_behind TopStands child (passes-stands child) x depth old changes over stands below keeps.stands more)

    pub parted-left : (x : ℕ) → is_there (kids x) ≡ left_of further (top_behind x old) (changes_behind (x ∷ []) changes)
    parted-left x = behind-left further keeps.none (laid child) (depth + 1) (top_behind x old) (changes_behind (x ∷ []) changes)
        (λ more. laid-keeps_behind (LeftAs further) child (passes-left further keeps.none child) x depth old changes over stands below keeps.left more)

    grown : (x : ℕ) → x < 16 → changes_behind (x ∷ []) changes ≢ [] → Grows most (depth + 1) (top_behind x old) (changes_behind (x ∷ []) changes) (laid child (top_behind x old) (changes_behind (x ∷ []) changes))
    grown x small more = laid-keeps_behind (Grows most) child (passes-grows most child) x depth old changes over stands below keeps.grows more

    -- what each child uses, and each sum that is made on the way to the branch's usage
    pub parted-kids : changes ≢ [] → (x : ℕ) → x < 16 → kid_usage (kids x) ≤ reached most old changes + length changes * growth depth
    parted-kids some = fork-kids most (laid child) depth old changes over below some grown

    pub parted-sums : changes ≢ [] → (n : ℕ) → n ≤ 16 → branch_cost (ref_after (ref_here old) (change_at [] changes)) + sum_below (λ x. kid_usage (kids x)) n ≤ reached most old changes + length changes * growth depth
    parted-sums some = fork-sums most (laid child) depth old changes over below some grown

    -- all of them stay small
    pub parted-small : changes ≢ [] → top_usage old ≤ most_before → most ≤ most_usage → length changes ≤ most_changes → (n : ℕ) → n ≤ 16 → branch_cost (ref_after (ref_here old) (change_at [] changes)) + sum_below (λ x. kid_usage (kids x)) n < 2 ^ 63
    parted-small some low small few n h =
        let sums = parted-sums some n h in
        let before = reached-small most depth old changes stands low small in
        let all = usage-small (reached most old changes) (length changes) depth before few in
        omega arith

    pub parted-kid_small : changes ≢ [] → top_usage old ≤ most_before → most ≤ most_usage → length changes ≤ most_changes → (x : ℕ) → x < 16 → kid_usage (kids x) < 2 ^ 63
    parted-kid_small some low small few x h =
        let kid = parted-kids some x h in
        let before = reached-small most depth old changes stands low small in
        let all = usage-small (reached most old changes) (length changes) depth before few in
        omega arith

    -- ---- the branch that is made

    pub parted-short : ShortValue (ref_after (ref_here old) (change_at [] changes))
    parted-short = short-after depth (ref_here old) changes below (short-here depth old stands)

    pub parted-shaped : MakesBranch (ref_after (ref_here old) (change_at [] changes)) (there kids) → IsShaped (node.branch (ref_after (ref_here old) (change_at [] changes)) (λ x. kid_name (kids x)))
    parted-shaped makes = shaped-joint (ref_after (ref_here old) (change_at [] changes)) kids parted-short makes

  pub laid_over-small : changes ≢ [] → top_usage old ≤ most_before → most ≤ most_usage → length changes ≤ most_changes → top_usage (laid child old changes).top < 2 ^ 63
  laid_over-small some low small few =
      let grown = laid_over-grows some in
      let before = reached-small most depth old changes stands low small in
      let all = usage-small (reached most old changes) (length changes) depth before few in
      omega arith
