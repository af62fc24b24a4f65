-- What a batch makes of what is seen uses no more than that states, and so much more for each change; and so do the sums on the way.
use Rattle.std.proofs.Common.{◌≡◌, ◌≢◌, ℕ, ◌+◌, ◌-◌, ◌*◌, ◌<◌, ◌≤◌, ◌==◌, if◌then◌else◌, Bool, true, false, List, [], ◌∷◌, length, Option, None, Some, refl, sym, ◌∙◌, ap, subst, arith}
use Rattle.std.proofs.lemmas.Bool.{ne_eqb}
use Rattle.byte_model.specs.Below.{sum_below}
use Rattle.byte_model.specs.Node.{ValueRef, longest_value}
use Rattle.byte_model.proofs.Below.{sum_below-add_mul, sum_below-least, sum_below-part, sum_below-at}
use Rattle.trie_model.specs.Texts.{value_ref}
use Rattle.visit_model.specs.Seen as seen
use Rattle.visit_model.specs.Seen.{Seen, stated_usage}
use Rattle.batch_model.specs.Changes.{Change}
use Rattle.change_model.specs.Along.{digest_of}
use Rattle.change_model.specs.Visits.{changes_behind, change_at, merged_child, merge_usage, if_touched, visits_at, visit_alone, branch_cost, leaf_cost, extension_cost}
use Rattle.update_model.specs.Tops.{Top, empty, leaf, branch, extension, lowered, top_usage, top_behind, ref_here}
use Rattle.update_model.specs.Joins.{Kid, known, kid_usage, joint}
use Rattle.update_model.specs.Sound.{AreBelow, StandsAt}
use Rattle.update_model.specs.Updates.{Outcome, ref_after, parted, behind_outcome, fork_outcome, laid, no_branch, kid_kept, kid_after, kids_after, merged_kids, top_seen, digest_or_none, parts, updated}
use Rattle.trie_model.proofs.Rests.{equal_of_test, same_nibble}
use Rattle.change_model.proofs.Alone.{none-behind}
use Rattle.update_model.proofs.Behind.{one_if, length-behind, below-nibble, below-prefix, below-depth, changes_behind-nil, changes_behind-append, number_behind}
use Rattle.update_model.proofs.Stands.{StandsAlong, where_touched_stands}
use Rattle.update_model.proofs.StandsAfter.{short-after}
use Rattle.update_model.proofs.Unrefused.{IsDone, missing-refused, bad-refused, leaf-done, branch-done, extension-done, alone-leaf, alone-extension}
use Rattle.update_model.proofs.TopsBelow.{NoBranch}
use Rattle.update_model.proofs.LaidKeeps.{OfChild, PassesOn, laid-keeps}
use Rattle.update_model.proofs.Joined.{ShortValue}
use Rattle.update_model.proofs.Usages.{growth-further, growth-least, grows, sum-one_le, sum-none, sum-only, value_cost, branch_cost-value, leaf_cost-nil, leaf_cost-cons, extension_cost-cons, usage-joint}
use Rattle.update_model.specs.Growth.{growth}

-- ---- a value that is set

one_if-most : {X : Type 0} (o : Option X) → one_if o ≤ 1
one_if-most None = omega arith
one_if-most (Some x) = omega arith

value_cost-set : (o : Option ValueRef) → ShortValue o → value_cost o ≤ 50 + longest_value
value_cost-set None short = omega arith
value_cost-set (Some ref) short = let most : ref.length ≤ longest_value = short in omega arith

-- what the value costs after a change
value-after : (depth : ℕ) (former : Option ValueRef) (changes : List Change) → AreBelow depth changes → value_cost (ref_after former (change_at [] changes)) ≤ value_cost former + one_if (change_at [] changes) * (50 + longest_value)
value-after depth former changes below = go (change_at [] changes) (short-after depth None changes below tt)
  where
    go : (o : Option (Option (List ℕ))) → ShortValue (ref_after None o) → value_cost (ref_after former o) ≤ value_cost former + one_if o * (50 + longest_value)
    go None short = omega arith
    go (Some None) short = omega arith
    go (Some (Some value)) short = let most = value_cost-set (Some (value_ref value)) short in omega arith

-- ---- joined after changes

some_change : (changes : List Change) → changes ≢ [] → 1 ≤ length changes
some_change [] some = absurd (some refl)
some_change (change ∷ changes) some = omega arith

-- where what stands at each nibble uses no more than it did, and so much for each change there
module _ (depth : ℕ) (changes : List Change) (below : AreBelow depth changes) (some : changes ≢ []) (former : Option ValueRef) (kids : ℕ → Kid) (used base : ℕ) (bases : ℕ → ℕ)
    (each : (x : ℕ) → x < 16 → kid_usage (kids x) ≤ bases x + length (changes_behind (x ∷ []) changes) * growth (depth + 1))
    (whole : value_cost former + (used + sum_below bases 16) ≤ base) where
  abbrev after : Option ValueRef
  after = ref_after former (change_at [] changes)

  sums : sum_below (λ x. kid_usage (kids x)) 16 ≤ sum_below bases 16 + number_behind changes * growth (depth + 1)
  sums =
      let first = sum_below-least (λ x. kid_usage (kids x)) (λ x. bases x + length (changes_behind (x ∷ []) changes) * growth (depth + 1)) 16 each in
      let split = sum_below-add_mul bases (λ x. length (changes_behind (x ∷ []) changes)) (growth (depth + 1)) 16 in
      omega arith

  all-grow : (total : ℕ) → total ≤ 52 + (value_cost after + (used + sum_below (λ x. kid_usage (kids x)) 16)) → total ≤ base + length changes * growth depth
  all-grow total h =
      let value = value-after depth former changes below in
      let kid_sums = sums in
      let here = one_if-most (change_at [] changes) in
      let count = length-behind depth changes below in
      let one = some_change changes some in
      let least = growth-least (depth + 1) in
      let most = grows (one_if (change_at [] changes)) (number_behind changes) (growth (depth + 1)) total base here (omega arith) least (omega arith) in
      let further = growth-further depth (below-depth depth changes some below) in
      subst (λ n. total ≤ base + n * growth depth) (sym count) (subst (λ g. total ≤ base + (one_if (change_at [] changes) + number_behind changes) * g) (sym further) most)

  joint-grows : top_usage (joint after kids used).top ≤ base + length changes * growth depth
  joint-grows = all-grow (top_usage (joint after kids used).top) (usage-joint after kids used)

  -- and so do the sums up to a branch's usage
  sums-grow : (n : ℕ) → n ≤ 16 → branch_cost after + (used + sum_below (λ x. kid_usage (kids x)) n) ≤ base + length changes * growth depth
  sums-grow n h =
      let part = sum_below-part (λ x. kid_usage (kids x)) n 16 h in
      let cost = branch_cost-value after in
      all-grow (branch_cost after + (used + sum_below (λ x. kid_usage (kids x)) n)) (omega arith)

-- ---- changes laid over a top

-- what a top uses, where its branch is to use so much once a change reaches it
abbrev pub if_reached : List Change → ℕ → ℕ → ℕ
if_reached [] most used = used
if_reached (change ∷ changes) most used = most

unfoldable pub reached : ℕ → Top → List Change → ℕ
reached most empty changes = 0
reached most (leaf path ref) changes = leaf_cost path ref
reached most (branch digest used) changes = if_reached changes most used
reached most (extension path digest used) changes = extension_cost path + if_reached (changes_behind path changes) most used

-- where no change is, it is what the top uses
reached-none : (most : ℕ) (top : Top) → reached most top [] ≡ top_usage top
unfolding reached top_usage
reached-none most empty = refl
reached-none most (leaf path ref) = refl
reached-none most (branch digest used) = refl
reached-none most (extension path digest used) = ap (λ (cs : List Change). extension_cost path + if_reached cs most used) (none-behind path)

pub if_reached-most : (changes : List Change) (most used : ℕ) → most ≤ used → if_reached changes most used ≤ used
if_reached-most [] most used h = omega arith
if_reached-most (change ∷ changes) most used h = h

pub if_reached-le : (changes : List Change) (most used bound : ℕ) → most ≤ bound → used ≤ bound → if_reached changes most used ≤ bound
if_reached-le [] most used bound h k = k
if_reached-le (change ∷ changes) most used bound h k = h

reached-before : (most : ℕ) (path digest : List ℕ) (used : ℕ) (changes : List Change) → reached most (lowered path (branch digest used)) changes ≤ extension_cost path + if_reached (changes_behind path changes) most used
unfolding reached lowered
reached-before most [] digest used changes = let same = ap (λ (cs : List Change). if_reached cs most used) (changes_behind-nil changes) in omega arith
reached-before most (x ∷ path) digest used changes = omega arith

-- what stands behind the nibbles, and the value here, are no more than the whole
reached-behind : (most : ℕ) (old : Top) (changes : List Change) → NoBranch old → value_cost (ref_here old) + sum_below (λ x. reached most (top_behind x old) (changes_behind (x ∷ []) changes)) 16 ≤ reached most old changes
unfolding top_behind ref_here reached
reached-behind most empty changes over = let none = sum-none (λ x. 0) 16 (λ x. refl) in omega arith
reached-behind most (leaf [] ref) changes over = let none = sum-none (λ x. 0) 16 (λ x. refl) in let cost = leaf_cost-nil ref in omega arith
reached-behind most (leaf (y ∷ path) ref) changes over =
    let f : ℕ → ℕ = λ x. reached most (top_behind x (leaf (y ∷ path) ref)) (changes_behind (x ∷ []) changes) in
    let one = sum-only f y 16 (λ x apart. rw (ne_eqb x y apart) refl) in
    let here : f y ≡ leaf_cost path ref = rw (same_nibble y) refl in
    let less = (leaf_cost-cons y path ref).0 in
    omega arith
reached-behind most (branch digest used) changes over = absurd over
reached-behind most (extension [] digest used) changes over = let none = sum-none (λ x. 0) 16 (λ x. refl) in omega arith
reached-behind most (extension (y ∷ path) digest used) changes over =
    let f : ℕ → ℕ = λ x. reached most (top_behind x (extension (y ∷ path) digest used)) (changes_behind (x ∷ []) changes) in
    let one = sum-only f y 16 (λ x apart. rw (ne_eqb x y apart) refl) in
    let here : f y ≡ reached most (lowered path (branch digest used)) (changes_behind (y ∷ []) changes) = rw (same_nibble y) refl in
    let less = (extension_cost-cons y path).0 in
    let low = reached-before most path digest used (changes_behind (y ∷ []) changes) in
    let same = ap (λ (cs : List Change). if_reached cs most used) (changes_behind-append (y ∷ []) path changes) in
    omega arith

-- where the branch uses no more than it did
pub reached-usage : (most : ℕ) (path digest : List ℕ) (used : ℕ) (changes : List Change) → most ≤ used → reached most (extension path digest used) changes ≤ extension_cost path + used
unfolding reached
reached-usage most path digest used changes h = let less = if_reached-most (changes_behind path changes) most used h in omega arith

module _ (most : ℕ) where
  abbrev pub Grows : ℕ → Top → List Change → Outcome → Type 0
  Grows depth old changes outcome = top_usage outcome.top ≤ reached most old changes + length changes * growth depth

  behind-grows : (step : Top → List Change → Outcome) (depth : ℕ) (old : Top) (changes : List Change) → (changes ≢ [] → Grows depth old changes (step old changes)) → Grows depth old changes (behind_outcome step old changes)
  behind-grows step depth old [] h = let none = reached-none most old in omega arith
  behind-grows step depth old (change ∷ changes) h = h (λ e. cc)

  -- of what stands behind the nibbles of a top
  module _ (step : Top → List Change → Outcome) (depth : ℕ) (old : Top) (changes : List Change) (over : NoBranch old) (below : AreBelow depth changes) (some : changes ≢ [])
      (each : (x : ℕ) → x < 16 → changes_behind (x ∷ []) changes ≢ [] → Grows (depth + 1) (top_behind x old) (changes_behind (x ∷ []) changes) (step (top_behind x old) (changes_behind (x ∷ []) changes))) where
    abbrev parted_kids : ℕ → Kid
    parted_kids x = known (parted step old changes x).top

    abbrev old_kids : ℕ → ℕ
    old_kids x = reached most (top_behind x old) (changes_behind (x ∷ []) changes)

    pub parted-grows : (x : ℕ) → x < 16 → kid_usage (parted_kids x) ≤ old_kids x + length (changes_behind (x ∷ []) changes) * growth (depth + 1)
    unfolding kid_usage
    parted-grows x small = behind-grows step (depth + 1) (top_behind x old) (changes_behind (x ∷ []) changes) (each x small)

    pub fork-grows : Grows depth old changes (fork_outcome step old changes)
    fork-grows = joint-grows depth changes below some (ref_here old) parted_kids 0 (reached most old changes) old_kids parted-grows (let whole = reached-behind most old changes over in omega arith)

    -- and each sum that is made on the way, up to the branch's usage
    pub fork-sums : (n : ℕ) → n ≤ 16 → branch_cost (ref_after (ref_here old) (change_at [] changes)) + sum_below (λ x. kid_usage (parted_kids x)) n ≤ reached most old changes + length changes * growth depth
    fork-sums n h =
        let sums = sums-grow depth changes below some (ref_here old) parted_kids 0 (reached most old changes) old_kids parted-grows (let whole = reached-behind most old changes over in omega arith) n h in
        omega arith

    pub fork-kids : (x : ℕ) → x < 16 → kid_usage (parted_kids x) ≤ reached most old changes + length changes * growth depth
    fork-kids x small =
        let all = fork-sums 16 (omega arith) in
        let one = sum_below-at (λ x. kid_usage (parted_kids x)) x 16 small in
        omega arith

  pub passes-grows : (child : List Change → Outcome) → PassesOn Grows child
  passes-grows child step depth old changes over stands below some each = fork-grows step depth old changes over below some each

  -- Changes laid over a top use no more than that did, or its branch uses once it is reached, and so much more for each of them.
  pub laid-grows : (child : List Change → Outcome) (depth : ℕ) (old : Top) (changes : List Change) → StandsAt depth old → AreBelow depth changes → changes ≢ [] → OfChild Grows child depth old changes
      → top_usage (laid child old changes).top ≤ reached most old changes + length changes * growth depth
  laid-grows child depth old changes stands below some h = laid-keeps Grows child (passes-grows child) depth old changes stands below some h

  -- a branch that is reached
  pub grown-branch : (depth : ℕ) (digest : List ℕ) (used : ℕ) (changes : List Change) (outcome : Outcome) → changes ≢ [] → top_usage outcome.top ≤ most + length changes * growth depth → Grows depth (branch digest used) changes outcome
  unfolding reached
  grown-branch depth digest used [] outcome some h = absurd (some refl)
  grown-branch depth digest used (change ∷ changes) outcome some h = h

-- ---- a branch that was read

-- what a child that is visited alone uses
pub usage-alone : (s : Seen) → IsDone (visit_alone s) → top_usage (top_seen s) ≤ stated_usage s
unfolding top_seen top_usage stated_usage
usage-alone seen.nothing done = omega arith
usage-alone (seen.missing digest) done = omega arith
usage-alone (seen.bad digest) done = omega arith
usage-alone (seen.leaf digest usage path ref) done = (alone-leaf digest usage path ref done).least
usage-alone (seen.branch digest usage ref kids) done = omega arith
usage-alone (seen.extension digest usage path child) done = let least = (alone-extension digest usage path child done).1 in omega arith

kid-kept : (o : Option (List ℕ)) → kid_usage (kid_kept o) ≡ 0
unfolding kid_usage top_usage
kid-kept None = refl
kid-kept (Some digest) = refl

-- what a child uses after the changes below it, as far as that is known
pub kid-grows : (depth : ℕ) (child : Seen) (changes : List Change) (outcome : Outcome) → (changes ≢ [] → top_usage outcome.top ≤ stated_usage child + length changes * growth depth) → kid_usage (kid_after child changes outcome) ≤ if_touched changes (stated_usage child) + length changes * growth depth
unfolding kid_usage
kid-grows depth child [] outcome h = let none = kid-kept (digest_of child) in omega arith
kid-grows depth child (change ∷ changes) outcome h = h (λ e. cc)

module _ (depth usage : ℕ) (ref : Option ValueRef) (children : ℕ → Seen) (changes : List Change) (outcomes : ℕ → Outcome) (below : AreBelow depth changes) (some : changes ≢ [])
    (each : (x : ℕ) → x < 16 → changes_behind (x ∷ []) changes ≢ [] → top_usage (outcomes x).top ≤ stated_usage (children x) + length (changes_behind (x ∷ []) changes) * growth (depth + 1))
    (done : (x : ℕ) → merged_child ref children changes ≡ Some x → IsDone (visit_alone (children x))) (least : parts ref children changes ≤ usage) where
  abbrev inner : ℕ → Kid
  inner x = kid_after (children x) (changes_behind (x ∷ []) changes) (outcomes x)

  abbrev visited : ℕ → ℕ
  visited x = if_touched (changes_behind (x ∷ []) changes) (stated_usage (children x))

  abbrev later : ℕ → Kid
  later = kids_after ref children changes outcomes

  merged_part : Option ℕ → ℕ → ℕ
  merged_part None x = 0
  merged_part (Some y) x = if x == y then stated_usage (children x) else 0

  abbrev bases : ℕ → ℕ
  bases x = visited x + merged_part (merged_child ref children changes) x

  inner-grows : (x : ℕ) → x < 16 → kid_usage (inner x) ≤ visited x + length (changes_behind (x ∷ []) changes) * growth (depth + 1)
  inner-grows x small = kid-grows (depth + 1) (children x) (changes_behind (x ∷ []) changes) (outcomes x) (each x small)

  later-grows : (x : ℕ) → x < 16 → kid_usage (later x) ≤ bases x + length (changes_behind (x ∷ []) changes) * growth (depth + 1)
  unfolding merged_part kid_usage
  later-grows x small = go (merged_child ref children changes) refl
    where
      go : (m : Option ℕ) → merged_child ref children changes ≡ m → kid_usage (merged_kids m children inner x) ≤ visited x + merged_part m x + length (changes_behind (x ∷ []) changes) * growth (depth + 1)
      go None e = let h = inner-grows x small in omega arith
      go (Some y) e =
          elim (x == y) as (λ b. (x == y) ≡ b → kid_usage (if b then known (top_seen (children x)) else inner x) ≤ visited x + (if b then stated_usage (children x) else 0) + length (changes_behind (x ∷ []) changes) * growth (depth + 1)) [
            | true ↦ λ t. (let h = usage-alone (children x) (done x (e ∙ ap Some (sym (equal_of_test x y t)))) in omega arith)
            | false ↦ λ t. (let h = inner-grows x small in omega arith)
          ] refl

  bases-sum : sum_below bases 16 ≤ sum_below visited 16 + merge_usage children (merged_child ref children changes)
  unfolding merged_part
  bases-sum = go (merged_child ref children changes)
    where
      go : (m : Option ℕ) → sum_below (λ x. visited x + merged_part m x) 16 ≤ sum_below visited 16 + merge_usage children m
      go None = let all = sum_below-least (λ x. visited x + 0) visited 16 (λ x h. omega arith) in omega arith
      go (Some y) = sum-one_le (λ x. visited x + (if x == y then stated_usage (children x) else 0)) visited y (stated_usage (children y)) 16
          (λ x h apart. rw (ne_eqb x y apart) (omega arith)) (rw (same_nibble y) (omega arith))

  whole : value_cost ref + (usage - parts ref children changes + sum_below bases 16) ≤ usage
  whole =
      let sum = bases-sum in
      let cost = branch_cost-value ref in
      omega arith

  -- What a branch's value and children join to uses no more than the branch states, and so much more for each change.
  pub branch-grows : top_usage (joint (ref_after ref (change_at [] changes)) later (usage - parts ref children changes)).top ≤ usage + length changes * growth depth
  branch-grows = joint-grows depth changes below some ref later (usage - parts ref children changes) usage bases later-grows whole

  -- and each sum that is made on the way, up to the branch's usage
  pub branch-sums : (n : ℕ) → n ≤ 16 → branch_cost (ref_after ref (change_at [] changes)) + (usage - parts ref children changes + sum_below (λ x. kid_usage (later x)) n) ≤ usage + length changes * growth depth
  branch-sums n h = sums-grow depth changes below some ref later (usage - parts ref children changes) usage bases later-grows whole n h

  pub branch-kids : (x : ℕ) → x < 16 → kid_usage (later x) ≤ usage + length changes * growth depth
  branch-kids x small =
      let all = branch-sums 16 (omega arith) in
      let one = sum_below-at (λ x. kid_usage (later x)) x 16 small in
      omega arith

-- ---- what is seen

pub reached-extension : (path digest : List ℕ) (usage stated : ℕ) (changes : List Change) → extension_cost path + if_touched (changes_behind path changes) stated ≤ usage → reached stated (extension path digest (usage - extension_cost path)) changes ≤ usage
unfolding reached
reached-extension path digest usage stated changes least = go (changes_behind path changes) least
  where
    go : (cs : List Change) → extension_cost path + if_touched cs stated ≤ usage → extension_cost path + if_reached cs stated (usage - extension_cost path) ≤ usage
    go [] h = omega arith
    go (change ∷ cs) h = h

-- What a batch makes of what is seen uses no more than that states, and so much more for each change.
pub updated-grows : (s : Seen) (depth : ℕ) (after_extension : Bool) (changes : List Change) → StandsAlong depth after_extension s changes → AreBelow depth changes → changes ≢ [] → IsDone (visits_at s changes)
    → top_usage (updated s changes).top ≤ stated_usage s + length changes * growth depth
unfolding updated stated_usage StandsAt reached
updated-grows seen.nothing depth after_extension changes stands below some done = laid-grows 0 no_branch depth empty changes tt below some tt
updated-grows (seen.missing digest) depth after_extension changes stands below some done = absurd (missing-refused digest changes done)
updated-grows (seen.bad digest) depth after_extension changes stands below some done = absurd (bad-refused digest changes done)
updated-grows (seen.leaf digest usage path ref) depth after_extension changes stands below some done =
    let laid_over = laid-grows 0 no_branch depth (leaf path ref) changes (stands.nibbles, stands.short, stands.value) below some tt in
    let least = (leaf-done digest usage path ref changes done).least in
    omega arith
updated-grows (seen.branch digest usage ref kids) depth after_extension changes stands below some done =
    let visited = branch-done digest usage ref kids changes done in
    branch-grows depth usage ref kids changes (λ x. updated (kids x) (changes_behind (x ∷ []) changes)) below some
    (λ x small more. updated-grows (kids x) (depth + 1) false (changes_behind (x ∷ []) changes) (where_touched_stands (changes_behind (x ∷ []) changes) (stands.1 x small) more) (below-nibble x depth changes below) more (visited.touched x small more))
    visited.merged visited.least
updated-grows (seen.extension digest usage path child) depth after_extension changes stands below some done =
    let visited = extension-done digest usage path child changes done in
    let room = stands.0.room in
    let least = visited.least in
    let old : Top = extension path (digest_or_none (digest_of child)) (usage - extension_cost path) in
    let laid_over = laid-grows (stated_usage child) (λ cs. updated child cs) depth old changes (stands.0.nibbles, omega arith, stands.0.some) below some
    (λ more. grown-branch (stated_usage child) (depth + length path) (digest_or_none (digest_of child)) (usage - extension_cost path) (changes_behind path changes) (updated child (changes_behind path changes)) more
    (updated-grows child (depth + length path) true (changes_behind path changes) (where_touched_stands (changes_behind path changes) stands.1 more) (below-prefix path depth changes below) more (visited.touched more))) in
    let most = reached-extension path (digest_or_none (digest_of child)) usage (stated_usage child) changes least in
    omega arith
