-- The changes of a whole batch, as the slices that are carried out.
use Rattle.std.proofs.Common.{◌≡◌, ◌≢◌, ℕ, ◌≤◌, T, List, [], ◌∷◌, map, length, Option, None, Some, refl, sym, ap, subst, ◌∙◌, arith, nat_cmp}
use Rattle.std.specs.Prelude.{IfSome}
use Rattle.std.specs.Option.{option_copied}
use Rattle.std.specs.List.{AllByRecursion}
use Rattle.std.specs.Borrow.{Bor}
use Rattle.std.specs.Cmp.Lexicographic.{slice_cmp}
use Rattle.std.specs.FinMap.{entries, entries_sorted, is_sorted}
use Rattle.std.specs.FinMap.Entries.{below_all}
use Rattle.std.proofs.lemmas.List.{length-map}
use Rattle.byte_model.specs.Nibbles.{nibbles}
use Rattle.byte_model.specs.Node.{longest_value}
use Rattle.byte_model.proofs.Digits.{length-nibbles, slice_cmp-nibbles, AreNibbles-nibbles}
use Rattle.trie_model.proofs.Order.{Before, first_test, second_test, less_of_test}
use Rattle.batch_model.specs.Changes.{Change, IsChange, AreChanges, change_rows, most_changes}
use Rattle.change_model.specs.Visits.{Visits, where_touched}
use Rattle.update_model.proofs.Behind.{rises, RisingChanges}
use Rattle.base_core.specs.ChangeMaps.{ChangeMap, IsChangeMap}
use Rattle.trie_update.specs.ChangesAt.{Lent, Rises, AreChangesAt, IsChangeAt, changes_at, value_lent}

-- slices, as the changes that they are
abbrev pub lent : List Lent → List Change
lent rows = map (λ row. (row.0.now, option_copied row.1)) rows

abbrev by_paths : List Change → List Change
by_paths changes = map (λ change. (nibbles change.0, change.1)) changes

same_value : (value : Option (Bor (List ℕ))) → value_lent value ≡ option_copied value
same_value None = refl
same_value (Some value) = refl

changes_at-lent : (rows : List Lent) → changes_at 0 rows ≡ by_paths (lent rows)
changes_at-lent [] = refl
changes_at-lent (row ∷ rows) =
    let value = same_value row.1 in
    let further = changes_at-lent rows in
    λ i. (nibbles row.0.now, value i) ∷ further i

-- ---- they rise

all_later : (key : List ℕ) (changes : List Change) → T (below_all (slice_cmp nat_cmp) key changes) → AllByRecursion (λ later. Before (nibbles key) later.0) (by_paths changes)
all_later key [] h = tt
all_later key (change ∷ changes) h = (slice_cmp-nibbles key change.0 ∙ less_of_test _ (first_test _ _ h), all_later key changes (second_test _ _ h))

rising_changes : (changes : List Change) → T (is_sorted (slice_cmp nat_cmp) changes) → RisingChanges (by_paths changes)
rising_changes [] h = tt
rising_changes (change ∷ changes) h = (all_later change.0 changes (first_test _ _ h), rising_changes changes (second_test _ _ h))

-- ---- each is within the limits

lent_value : (value : Option (Bor (List ℕ))) → IfSome (option_copied value) (λ v. length v ≤ longest_value) → IfSome value (λ v. length v.now ≤ longest_value)
lent_value None h = tt
lent_value (Some value) h = h

each-change : (rows : List Lent) → AllByRecursion IsChange (lent rows) → AllByRecursion (IsChangeAt 0) rows
each-change [] h = tt
each-change (row ∷ rows) h =
    let long = length-nibbles row.0.now in
    let short = h.0.key_length in
    (record { deep = omega arith; short = omega arith; nibbles = AreNibbles-nibbles row.0.now h.0.key; value = lent_value row.1 h.0.value_length }, each-change rows h.1)

module _ (held : ChangeMap) (rows : List Lent) (is : IsChangeMap held) (e : lent rows ≡ entries held.changes) where
  pub batch-rows : changes_at 0 rows ≡ change_rows held.changes
  batch-rows = changes_at-lent rows ∙ ap by_paths e

  pub batch-at : AreChangesAt 0 rows
  batch-at = record {
    rises = subst Rises (sym batch-rows) (rises (change_rows held.changes) (rising_changes (entries held.changes) (entries_sorted held.changes)));
    each = each-change rows (subst (AllByRecursion IsChange) (sym e) is.each);
  }

  pub batch-length : length rows ≡ length (entries held.changes)
  batch-length = sym (length-map rows _) ∙ ap length e

  pub batch-few : length rows ≤ most_changes
  batch-few = let few = is.few in let most = is.bounded in let same = batch-length in omega arith

  pub batch-changes : AreChanges held.changes
  batch-changes = record { each = is.each; few = let few = is.few in let most = is.bounded in omega arith }

-- something is changed exactly where there is a slice
pub some-length : (rows : List Lent) {changes : List Change} → changes_at 0 rows ≡ changes → changes ≢ [] → 1 ≤ length rows
some-length [] e some = absurd (some (sym e))
some-length (row ∷ rows) e some = omega arith

pub no-changes : (rows : List Lent) {changes : List Change} → changes_at 0 rows ≡ changes → changes ≡ [] → rows ≡ []
no-changes [] e none = refl
no-changes (row ∷ rows) e none = absurd cc

-- where no key is changed nothing is visited
pub no-touch : (rows : List Lent) (v : Visits) → length rows ≡ 0 → (where_touched (changes_at 0 rows) v).digests ≡ []
no-touch [] v e = refl
no-touch (row ∷ rows) v e = absurd cc
