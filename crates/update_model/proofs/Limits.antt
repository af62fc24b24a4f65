-- Within the limits of a batch all usages stay far below 2 ^ 64.
use Rattle.std.proofs.Common.{◌≡◌, ◌≢◌, ℕ, suc, ◌+◌, ◌*◌, ◌^◌, ◌<◌, ◌≤◌, Bool, false, List, [], ◌∷◌, length, map, refl, ◌∙◌, ap, arith, T, nat_cmp}
use Rattle.std.proofs.Math.Nat.{mul-le-mul}
use Rattle.std.specs.List.{AllByRecursion}
use Rattle.std.specs.FinMap.{entries, entries_sorted, is_sorted}
use Rattle.std.specs.FinMap.Entries.{below_all}
use Rattle.std.specs.Cmp.Lexicographic.{slice_cmp}
use Rattle.byte_model.specs.Nibbles.{nibbles}
use Rattle.byte_model.specs.PackedPath.{longest_path}
use Rattle.byte_model.proofs.Digits.{AreNibbles-nibbles, length-nibbles, slice_cmp-nibbles}
use Rattle.byte_model.proofs.Paths.{length-packed}
use Rattle.trie_model.specs.Root.{Table}
use Rattle.trie_model.proofs.Order.{Before, first_test, second_test, less_of_test}
use Rattle.visit_model.specs.Keys.{AreByteTexts}
use Rattle.visit_model.specs.Seen as seen
use Rattle.visit_model.specs.Seen.{Seen, stated_usage}
use Rattle.batch_model.specs.Changes.{Changes, Change, IsChange, AreChanges, most_changes, change_rows}
use Rattle.change_model.specs.Visits.{changes_behind, most_usage, visits_at, batch_visits, extension_cost}
use Rattle.update_model.specs.Tops.{Top, empty, leaf, branch, extension, top_usage}
use Rattle.update_model.specs.Sound.{IsBelow, AreBelow, StandsAt}
use Rattle.update_model.specs.Updates.{updated}
use Rattle.update_model.proofs.Behind.{RisingChanges, rises}
use Rattle.update_model.proofs.Stands.{StandsAlong, along-stands, stands-seen}
use Rattle.update_model.proofs.Unrefused.{IsDone, touched_done, missing-refused, bad-refused, leaf-done, branch-done, extension-done}
use Rattle.update_model.proofs.Usages.{growth-most}
use Rattle.update_model.proofs.UsagesAfter.{reached, if_reached, if_reached-le, updated-grows}
use Rattle.update_model.specs.Growth.{growth}

-- ---- numbers

-- for each change at most 2 ^ 24
pub growth-all : (count depth : ℕ) → count * growth depth ≤ count * 2 ^ 24
growth-all count depth =
    let each = growth-most depth in
    let itself : count ≤ count = omega arith in
    mul-le-mul itself each

-- what a place may use before its changes: it states 2 ^ 62 at most, and an extension before it costs little
abbrev pub most_before : ℕ
most_before = 2 ^ 62 + 2 ^ 13

pub usage-small : (base count depth : ℕ) → base ≤ most_before → count ≤ most_changes → base + count * growth depth < 2 ^ 63
usage-small base count depth low few = let all = growth-all count depth in omega arith

-- where no test fails, a place states no more than it may
pub stated-most : (s : Seen) (changes : List Change) → IsDone (visits_at s changes) → stated_usage s ≤ most_usage
unfolding stated_usage
stated-most seen.nothing changes done = omega arith
stated-most (seen.missing digest) changes done = absurd (missing-refused digest changes done)
stated-most (seen.bad digest) changes done = absurd (bad-refused digest changes done)
stated-most (seen.leaf digest usage path ref) changes done = (leaf-done digest usage path ref changes done).most
stated-most (seen.branch digest usage ref kids) changes done = (branch-done digest usage ref kids changes done).most
stated-most (seen.extension digest usage path child) changes done = (extension-done digest usage path child changes done).most

extension_cost-most : (path : List ℕ) → length path ≤ longest_path → extension_cost path ≤ 2 ^ 13
extension_cost-most path short = let bytes = length-packed false path in omega arith

-- what a top uses, and what its branch states once it is reached
pub reached-small : (most depth : ℕ) (old : Top) (changes : List Change) → StandsAt depth old → top_usage old ≤ most_before → most ≤ most_usage → reached most old changes ≤ most_before
unfolding reached top_usage StandsAt
reached-small most depth empty changes stands low small = omega arith
reached-small most depth (leaf path ref) changes stands low small = low
reached-small most depth (branch digest used) changes stands low small = if_reached-le changes most used most_before (omega arith) low
reached-small most depth (extension path digest used) changes stands low small =
    let short = stands.1 in
    let cost = extension_cost-most path (omega arith) in
    go (changes_behind path changes) cost
  where
    go : (cs : List Change) → extension_cost path ≤ 2 ^ 13 → extension_cost path + if_reached cs most used ≤ most_before
    go [] cost = low
    go (change ∷ cs) cost = omega arith

-- What a batch makes of what is seen uses less than 2 ^ 63, where no test fails.
pub updated-small : (s : Seen) (depth : ℕ) (after_extension : Bool) (changes : List Change) → StandsAlong depth after_extension s changes → AreBelow depth changes → changes ≢ [] → IsDone (visits_at s changes) → length changes ≤ most_changes
    → top_usage (updated s changes).top < 2 ^ 63
updated-small s depth after_extension changes stands below some done few =
    let grown = updated-grows s depth after_extension changes stands below some done in
    let stated = stated-most s changes done in
    let small = usage-small (stated_usage s) (length changes) depth (omega arith) few in
    omega arith

-- ---- the changes of a batch

abbrev rows_of_changes : List Change → List Change
rows_of_changes changes = map (λ change. (nibbles change.0, change.1)) changes

all_later : (key : List ℕ) (changes : List Change) → T (below_all (slice_cmp nat_cmp) key changes) → AllByRecursion (λ later. Before (nibbles key) later.0) (rows_of_changes changes)
all_later key [] h = tt
all_later key (change ∷ changes) h = (slice_cmp-nibbles key change.0 ∙ less_of_test _ (first_test _ _ h), all_later key changes (second_test _ _ h))

rising_changes : (changes : List Change) → T (is_sorted (slice_cmp nat_cmp) changes) → RisingChanges (rows_of_changes changes)
rising_changes [] h = tt
rising_changes (change ∷ changes) h = (all_later change.0 changes (first_test _ _ h), rising_changes changes (second_test _ _ h))

changes_below : (changes : List Change) → AllByRecursion IsChange changes → AllByRecursion (IsBelow 0) (rows_of_changes changes)
changes_below [] h = tt
changes_below (change ∷ changes) h =
    let long = length-nibbles change.0 in
    let short = h.0.key_length in
    (record { nibbles = AreNibbles-nibbles change.0 h.0.key; short = omega arith; value = h.0.value_length }, changes_below changes h.1)

-- The changes of a batch go on below the root.
pub below-change_rows : (changes : Changes) → AreChanges changes → AreBelow 0 (change_rows changes)
below-change_rows changes are = record {
  rise = rises (change_rows changes) (rising_changes (entries changes) (entries_sorted changes));
  each = changes_below (entries changes) are.each;
}

pub few-change_rows : (changes : Changes) → AreChanges changes → length (change_rows changes) ≤ most_changes
few-change_rows changes are =
    let same : length (change_rows changes) ≡ length (entries changes) = count (entries changes) in
    let few = are.few in
    omega arith
  where
    count : (changes : List Change) → length (rows_of_changes changes) ≡ length changes
    count [] = refl
    count (change ∷ changes) = ap suc (count changes)

-- ---- over any texts

module _ (table : Table) (root : List ℕ) (changes : Changes) (bytes : AreByteTexts table) (are : AreChanges changes) (some : change_rows changes ≢ []) (done : IsDone (batch_visits table root changes)) where
  root_done : IsDone (visits_at (seen.seen table root) (change_rows changes))
  root_done = touched_done (change_rows changes) (visits_at (seen.seen table root) (change_rows changes)) some done

  pub root-small : top_usage (updated (seen.seen table root) (change_rows changes)).top < 2 ^ 63
  root-small = updated-small (seen.seen table root) 0 false (change_rows changes) (along-stands (seen.seen table root) 0 false (change_rows changes) (stands-seen table bytes root)) (below-change_rows changes are) some root_done (few-change_rows changes are)

  pub root-grows : top_usage (updated (seen.seen table root) (change_rows changes)).top ≤ stated_usage (seen.seen table root) + length (change_rows changes) * 2 ^ 24
  root-grows =
      let grown = updated-grows (seen.seen table root) 0 false (change_rows changes) (along-stands (seen.seen table root) 0 false (change_rows changes) (stands-seen table bytes root)) (below-change_rows changes are) some root_done in
      let all = growth-all (length (change_rows changes)) 0 in
      omega arith
