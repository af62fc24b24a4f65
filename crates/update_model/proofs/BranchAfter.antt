-- A branch that was read, by what a batch makes of each of its children.
use Rattle.std.proofs.Common.{◌≡◌, ◌≢◌, ℕ, ◌+◌, ◌-◌, ◌*◌, ◌^◌, ◌<◌, ◌≤◌, false, List, [], ◌∷◌, length, Option, Some, arith}
use Rattle.byte_model.specs.Below.{sum_below}
use Rattle.byte_model.specs.Node as node
use Rattle.byte_model.specs.Node.{ValueRef, IsShaped}
use Rattle.visit_model.specs.Seen.{Seen, stated_usage}
use Rattle.batch_model.specs.Changes.{Change, most_changes}
use Rattle.change_model.specs.Along.{digest_of}
use Rattle.change_model.specs.Visits.{changes_behind, change_at, is_left, numbers_below, merged_child, visits_at, visit_alone, if_touched, branch_cost}
use Rattle.update_model.specs.Tops.{top_usage}
use Rattle.update_model.specs.Joins.{Kid, known, is_there, kid_top, kid_name, kid_usage, there, joint}
use Rattle.update_model.specs.Sound.{AreBelow, StandsAt}
use Rattle.update_model.specs.Updates.{Outcome, ref_after, kid_after, kids_after, parts, updated}
use Rattle.update_model.proofs.Behind.{below-nibble, fewer-behind}
use Rattle.update_model.proofs.Stands.{StandsAlong, TopStandsSeen, BranchStands}
use Rattle.update_model.proofs.StandsAfter.{short-branch, short-after, kid-stands, kids-stand, updated-stands}
use Rattle.update_model.proofs.Unrefused.{IsDone, BranchDone}
use Rattle.update_model.proofs.Joined.{ShortValue, KnowsLone, MakesBranch, shaped-joint}
use Rattle.update_model.proofs.WhatIsLeft.{kid-left, there-inner, there-kids, knows-lone, updated-left}
use Rattle.update_model.proofs.UsagesAfter.{kid-grows, branch-grows, branch-sums, branch-kids, updated-grows}
use Rattle.update_model.proofs.Limits.{usage-small, updated-small}
use Rattle.update_model.specs.Growth.{growth}

module _ (depth : ℕ) (ref : Option ValueRef) (children : ℕ → Seen) (changes : List Change) (stands : BranchStands depth ref children) (each : (x : ℕ) → x < 16 → changes_behind (x ∷ []) changes ≢ [] → StandsAlong (depth + 1) false (children x) (changes_behind (x ∷ []) changes)) (below : AreBelow depth changes) where
  abbrev behind : ℕ → List Change
  behind x = changes_behind (x ∷ []) changes

  abbrev outcome : ℕ → Outcome
  outcome x = updated (children x) (behind x)

  abbrev inner : ℕ → Kid
  inner x = kid_after (children x) (behind x) (outcome x)

  abbrev kids : ℕ → Kid
  kids = kids_after ref children changes outcome

  -- ---- one child

  pub child-left : (x : ℕ) → x < 16 → (behind x ≢ [] → IsDone (visits_at (children x) (behind x))) → is_there (inner x) ≡ is_left (children x) (behind x)
  child-left x small done = kid-left (children x) (behind x) (outcome x) (λ more. updated-left (children x) (depth + 1) false (behind x) (each x small more) (below-nibble x depth changes below) more (done more))

  pub child-stands : (x : ℕ) → x < 16 → StandsAt (depth + 1) (kid_top (inner x))
  child-stands x small = kid-stands (depth + 1) (children x) (behind x) (outcome x) (λ more. updated-stands (children x) (depth + 1) false (behind x) (each x small more) (below-nibble x depth changes below) more)

  pub child-grows : (x : ℕ) → x < 16 → (behind x ≢ [] → IsDone (visits_at (children x) (behind x))) → kid_usage (inner x) ≤ if_touched (behind x) (stated_usage (children x)) + length (behind x) * growth (depth + 1)
  child-grows x small done = kid-grows (depth + 1) (children x) (behind x) (outcome x) (λ more. updated-grows (children x) (depth + 1) false (behind x) (each x small more) (below-nibble x depth changes below) more (done more))

  pub child-small : (x : ℕ) → x < 16 → length changes ≤ most_changes → behind x ≢ [] → IsDone (visits_at (children x) (behind x)) → top_usage (outcome x).top < 2 ^ 63
  child-small x small few more done =
      let fewer = fewer-behind (x ∷ []) changes in
      updated-small (children x) (depth + 1) false (behind x) (each x small more) (below-nibble x depth changes below) more done (omega arith)

  -- ---- all of them

  module _ (done : (x : ℕ) → x < 16 → behind x ≢ [] → IsDone (visits_at (children x) (behind x))) where
    each_left : (x : ℕ) → x < 16 → behind x ≢ [] → is_there (known (outcome x).top) ≡ is_left (children x) (behind x)
    each_left x small more = updated-left (children x) (depth + 1) false (behind x) (each x small more) (below-nibble x depth changes below) more (done x small more)

    -- those that are there are those of which something is left: by them the child that is merged is chosen
    pub there-children : there inner ≡ numbers_below (λ x. is_left (children x) (behind x)) 16
    there-children = there-inner ref children changes outcome each_left

    module _ (alone : (x : ℕ) → merged_child ref children changes ≡ Some x → IsDone (visit_alone (children x))) where
      pub there-after : there kids ≡ numbers_below (λ x. is_left (children x) (behind x)) 16
      there-after = there-kids ref children changes outcome each_left alone

      pub lone-known : KnowsLone (ref_after ref (change_at [] changes)) kids
      lone-known = knows-lone ref children changes outcome each_left alone

  -- ---- what they join to

  pub after-stands : ((x : ℕ) → merged_child ref children changes ≡ Some x → TopStandsSeen (depth + 1) false (children x)) → changes ≢ [] → (x : ℕ) → x < 16 → StandsAt (depth + 1) (kid_top (kids x))
  after-stands merged some x small = kids-stand depth ref children changes outcome merged (λ y l more. updated-stands (children y) (depth + 1) false (behind y) (each y l more) (below-nibble y depth changes below) more) x small

  pub after-short : ShortValue (ref_after ref (change_at [] changes))
  after-short = short-after depth ref changes below (short-branch ref (λ x. digest_of (children x)) stands.shape)

  pub after-shaped : MakesBranch (ref_after ref (change_at [] changes)) (there kids) → IsShaped (node.branch (ref_after ref (change_at [] changes)) (λ x. kid_name (kids x)))
  after-shaped makes = shaped-joint (ref_after ref (change_at [] changes)) kids after-short makes

  module _ (usage : ℕ) (some : changes ≢ []) (done : BranchDone usage ref children changes) where
    each_grows : (x : ℕ) → x < 16 → behind x ≢ [] → top_usage (outcome x).top ≤ stated_usage (children x) + length (behind x) * growth (depth + 1)
    each_grows x small more = updated-grows (children x) (depth + 1) false (behind x) (each x small more) (below-nibble x depth changes below) more (done.touched x small more)

    pub after-grows : top_usage (joint (ref_after ref (change_at [] changes)) kids (usage - parts ref children changes)).top ≤ usage + length changes * growth depth
    after-grows = branch-grows depth usage ref children changes outcome below some each_grows done.merged done.least

    -- each sum that is made on the way to the branch's usage, and what is known of each child's
    pub after-sums : (n : ℕ) → n ≤ 16 → branch_cost (ref_after ref (change_at [] changes)) + (usage - parts ref children changes + sum_below (λ x. kid_usage (kids x)) n) ≤ usage + length changes * growth depth
    after-sums = branch-sums depth usage ref children changes outcome below some each_grows done.merged done.least

    pub after-kids : (x : ℕ) → x < 16 → kid_usage (kids x) ≤ usage + length changes * growth depth
    after-kids = branch-kids depth usage ref children changes outcome below some each_grows done.merged done.least

    -- all of them stay small
    pub after-small : length changes ≤ most_changes → (n : ℕ) → n ≤ 16 → branch_cost (ref_after ref (change_at [] changes)) + (usage - parts ref children changes + sum_below (λ x. kid_usage (kids x)) n) < 2 ^ 63
    after-small few n h =
        let sums = after-sums n h in
        let most = done.most in
        let all = usage-small usage (length changes) depth (omega arith) few in
        omega arith

    pub after-kid_small : length changes ≤ most_changes → (x : ℕ) → x < 16 → kid_usage (kids x) < 2 ^ 63
    after-kid_small few x h =
        let kid = after-kids x h in
        let most = done.most in
        let all = usage-small usage (length changes) depth (omega arith) few in
        omega arith
