-- The texts that a batch visits are held, where every visit passed its test.
use Rattle.std.proofs.Common.{◌≡◌, ◌≢◌, ℕ, zero, suc, ◌+◌, ◌-◌, ◌<◌, Bool, true, false, if◌then◌else◌, nat_eq, List, [], ◌∷◌, length, Option, None, Some, Result, Ok, Err, refl, arith}
use Rattle.std.specs.Prelude.{⊤}
use Rattle.std.specs.List.{AllByRecursion}
use Rattle.std.specs.Cmp.Lexicographic.{pointwise}
use Rattle.std.specs.FinMap.{get}
use Rattle.byte_model.specs.PackedPath.{longest_path}
use Rattle.byte_model.specs.Node as node
use Rattle.byte_model.specs.Node.{Node, ValueRef}
use Rattle.byte_model.proofs.Lists.{AllByRecursion-append}
use Rattle.record_model.specs.Records.{RecordFault, record_in}
use Rattle.record_model.specs.Fits.{fits_at}
use Rattle.trie_model.specs.Root.{Table, zero_digest}
use Rattle.visit_model.specs.Seen.{Seen, Looks, nothing, missing, bad, leaf, branch, extension, seen_child, seen_node, seen_record, seen_text, seen_within, seen_at, seen, stated_usage}
use Rattle.batch_model.specs.Changes.{Change, Changes, change_rows}
use Rattle.change_model.specs.Visits.{Visits, Refusal, and_then, before, opened, closed, visits_below, changes_behind, merged_child, visit_alone, visits_at, where_touched, merge_visits, if_touched, batch_visits, leaf_cost, branch_cost, extension_cost}
use Rattle.update_model.specs.Updates.{parts}
use Rattle.update_model.proofs.Unrefused.{IsDone, missing-refused, bad-refused, branch-done, extension-done, alone-missing, alone-bad}

-- a text is held under a digest
abbrev pub Has : Table → List ℕ → Type 0
Has table digest = (text : List ℕ) × (get table digest ≡ Some text)

-- the text of each node that is seen is held
unfoldable pub Stored : Table → Seen → Type 0
Stored table nothing = ⊤
Stored table (missing digest) = ⊤
Stored table (bad digest) = ⊤
Stored table (leaf digest usage path ref) = Has table digest
Stored table (branch digest usage ref kids) = Has table digest × ((x : ℕ) → Stored table (kids x))
Stored table (extension digest usage path child) = Has table digest × Stored table child

module _ (table : Table) where
  -- ---- what is seen is held

  abbrev AllStored : Looks → Type 0
  AllStored look = (depth : ℕ) (after_extension : Bool) (digest : List ℕ) → Stored table (look depth after_extension digest)

  stored-child : (look : Looks) → AllStored look → (depth : ℕ) (name : Option (List ℕ)) → Stored table (seen_child (look depth false) name)
  unfolding Stored seen_child
  stored-child look further depth None = tt
  stored-child look further depth (Some digest) = further depth false digest

  stored-node : (look : Looks) → AllStored look → (depth : ℕ) (digest : List ℕ) (n : Node) (used : ℕ) → Has table digest → Stored table (seen_node look depth digest n used)
  unfolding Stored seen_node
  stored-node look further depth digest (node.leaf path ref) used h = h
  stored-node look further depth digest (node.branch ref kids) used h = (h, (λ x. stored-child look further (depth + 1) (kids x)))
  stored-node look further depth digest (node.extension path child) used h = (h, further (depth + length path) true child)

  stored-record : (look : Looks) → AllStored look → (depth : ℕ) (after_extension : Bool) (digest : List ℕ) (read : Result (Node × ℕ) RecordFault) → Has table digest → Stored table (seen_record look depth after_extension digest read)
  unfolding Stored seen_record
  stored-record look further depth after_extension digest (Err fault) h = tt
  stored-record look further depth after_extension digest (Ok found) h =
      elim (fits_at depth after_extension found.0) as (λ b. Stored table (if b then seen_node look depth digest found.0 found.1 else bad digest)) [
        | true ↦ stored-node look further depth digest found.0 found.1 h
        | false ↦ tt
      ]

  stored-within : (n depth : ℕ) (after_extension : Bool) (digest : List ℕ) → Stored table (seen_within n table depth after_extension digest)
  unfolding Stored seen_within seen_text
  stored-within zero depth after_extension digest = tt
  stored-within (suc n) depth after_extension digest = go (stored-within n) (get table digest) refl
    where
      go : AllStored (seen_within n table) → (held : Option (List ℕ)) → get table digest ≡ held → Stored table (seen_text (seen_within n table) depth after_extension digest held)
      go further None e = tt
      go further (Some text) e = stored-record (seen_within n table) further depth after_extension digest (record_in text) (text, e)

  pub stored-seen : (root : List ℕ) → Stored table (seen table root)
  unfolding Stored seen seen_at
  stored-seen root =
      elim (pointwise nat_eq root zero_digest) as (λ b. Stored table (if b then nothing else seen_at table 0 false root)) [
        | true ↦ tt
        | false ↦ stored-within (suc longest_path - 0) 0 false root
      ]

  -- ---- what is visited is held

  abbrev AreHeld : Visits → Type 0
  AreHeld visits = AllByRecursion (Has table) visits.digests

  held-and : (o : Option Refusal) (digests : List (List ℕ)) (further : Visits) → AllByRecursion (Has table) digests → AreHeld further → AreHeld (and_then o digests further)
  unfolding and_then
  held-and None digests further h k = AllByRecursion-append (Has table) digests further.digests h k
  held-and (Some why) digests further h k = h

  held-before : (first further : Visits) → AreHeld first → AreHeld further → AreHeld (before first further)
  held-before first further h k = held-and first.refusal first.digests further h k

  held-below : (f : ℕ → Visits) (n : ℕ) → ((x : ℕ) → x < n → AreHeld (f x)) → AreHeld (visits_below f n)
  unfolding visits_below
  held-below f zero each = tt
  held-below f (suc n) each = held-before (visits_below f n) (f n) (held-below f n (λ x small. each x (omega arith))) (each n (omega arith))

  held-opened : (digest : List ℕ) (usage : ℕ) → Has table digest → AreHeld (opened digest usage)
  unfolding opened
  held-opened digest usage h = (h, tt)

  held-closed : (digest : List ℕ) (usage least : ℕ) → AreHeld (closed digest usage least)
  unfolding closed
  held-closed digest usage least = tt

  held-alone : (s : Seen) → Stored table s → IsDone (visit_alone s) → AreHeld (visit_alone s)
  unfolding Stored visit_alone
  held-alone nothing h done = tt
  held-alone (missing digest) h done = absurd (alone-missing digest done)
  held-alone (bad digest) h done = absurd (alone-bad digest done)
  held-alone (leaf digest usage path ref) h done = held-before (opened digest usage) (closed digest usage (leaf_cost path ref)) (held-opened digest usage h) (held-closed digest usage (leaf_cost path ref))
  held-alone (branch digest usage ref kids) h done = held-before (opened digest usage) (closed digest usage (branch_cost ref)) (held-opened digest usage h.0) (held-closed digest usage (branch_cost ref))
  held-alone (extension digest usage path child) h done = held-before (opened digest usage) (closed digest usage (extension_cost path)) (held-opened digest usage h.0) (held-closed digest usage (extension_cost path))

  held-merge : (kids : ℕ → Seen) (merged : Option ℕ) → ((x : ℕ) → merged ≡ Some x → AreHeld (visit_alone (kids x))) → AreHeld (merge_visits kids merged)
  held-merge kids None each = tt
  held-merge kids (Some x) each = each x refl

  not_none : (c : Change) (cs : List Change) → c ∷ cs ≢ []
  not_none c cs e = cc

  held-touched : (changes : List Change) (visits : Visits) → (changes ≢ [] → AreHeld visits) → AreHeld (where_touched changes visits)
  held-touched [] visits h = tt
  held-touched (c ∷ cs) visits h = h (not_none c cs)

  held-at : (s : Seen) (changes : List Change) → Stored table s → IsDone (visits_at s changes) → AreHeld (visits_at s changes)
  unfolding Stored visits_at
  held-at nothing changes h done = tt
  held-at (missing digest) changes h done = absurd (missing-refused digest changes done)
  held-at (bad digest) changes h done = absurd (bad-refused digest changes done)
  held-at (leaf digest usage path ref) changes h done = held-before (opened digest usage) (closed digest usage (leaf_cost path ref)) (held-opened digest usage h) (held-closed digest usage (leaf_cost path ref))
  held-at (branch digest usage ref kids) changes h done =
      let all = branch-done digest usage ref kids changes done in
      let touched : ℕ → Visits = λ x. where_touched (changes_behind (x ∷ []) changes) (visits_at (kids x) (changes_behind (x ∷ []) changes)) in
      let merge : Visits = merge_visits kids (merged_child ref kids changes) in
      let end : Visits = closed digest usage (parts ref kids changes) in
      held-before (opened digest usage) (before (visits_below touched 16) (before merge end)) (held-opened digest usage h.0)
      (held-before (visits_below touched 16) (before merge end)
      (held-below touched 16 (λ x small. held-touched (changes_behind (x ∷ []) changes) (visits_at (kids x) (changes_behind (x ∷ []) changes)) (λ some. held-at (kids x) (changes_behind (x ∷ []) changes) (h.1 x) (all.touched x small some))))
      (held-before merge end (held-merge kids (merged_child ref kids changes) (λ x is. held-alone (kids x) (h.1 x) (all.merged x is))) (held-closed digest usage (parts ref kids changes))))
  held-at (extension digest usage path child) changes h done =
      let all = extension-done digest usage path child changes done in
      let touched : Visits = where_touched (changes_behind path changes) (visits_at child (changes_behind path changes)) in
      let end : Visits = closed digest usage (extension_cost path + if_touched (changes_behind path changes) (stated_usage child)) in
      held-before (opened digest usage) (before touched end) (held-opened digest usage h.0)
      (held-before touched end (held-touched (changes_behind path changes) (visits_at child (changes_behind path changes)) (λ some. held-at child (changes_behind path changes) h.1 (all.touched some)))
      (held-closed digest usage (extension_cost path + if_touched (changes_behind path changes) (stated_usage child))))

  pub held-batch : (root : List ℕ) (changes : Changes) → (batch_visits table root changes).refusal ≡ None → AreHeld (batch_visits table root changes)
  held-batch root changes passed = go (change_rows changes) passed
    where
      go : (rows : List Change) → (where_touched rows (visits_at (seen table root) rows)).refusal ≡ None → AreHeld (where_touched rows (visits_at (seen table root) rows))
      go [] k = tt
      go (c ∷ cs) k = held-at (seen table root) (c ∷ cs) (stored-seen root) k
