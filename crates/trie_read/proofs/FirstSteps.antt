-- What is seen of a digest is never nothing, so each visit of a place is a step.
use Rattle.std.proofs.Common.{◌≡◌, ℕ, zero, suc, ◌-◌, Bool, true, false, List, [], ◌∷◌, Option, None, Some, Result, Ok, Err, refl}
use Rattle.std.specs.Prelude.{if◌then◌else◌, ⊤}
use Rattle.std.specs.FinMap.{get}
use Rattle.byte_model.specs.PackedPath.{longest_path}
use Rattle.byte_model.specs.Node as node
use Rattle.byte_model.specs.Node.{Node}
use Rattle.record_model.specs.Records.{RecordFault, record_in}
use Rattle.record_model.specs.Fits.{fits_at}
use Rattle.trie_model.specs.Root.{Table}
use Rattle.visit_model.specs.Seen.{Seen, Looks, nothing, missing, bad, leaf, branch, extension, seen_at, seen_node, seen_record, seen_text, seen_within}
use Rattle.visit_model.specs.Steps.{Step, top_steps, lookup_steps, listing_steps}

abbrev pub IsSomething : Seen → Type 0
IsSomething nothing = ⊥
IsSomething (missing digest) = ⊤
IsSomething (bad digest) = ⊤
IsSomething (leaf digest usage path ref) = ⊤
IsSomething (branch digest usage ref kids) = ⊤
IsSomething (extension digest usage path child) = ⊤

node-something : (look : Looks) (depth : ℕ) (digest : List ℕ) (n : Node) (usage : ℕ) → IsSomething (seen_node look depth digest n usage)
unfolding seen_node
node-something look depth digest (node.leaf path ref) usage = tt
node-something look depth digest (node.branch ref kids) usage = tt
node-something look depth digest (node.extension path below) usage = tt

fitting-something : (look : Looks) (depth : ℕ) (digest : List ℕ) (n : Node) (usage : ℕ) (fits : Bool) → IsSomething (if fits then seen_node look depth digest n usage else bad digest)
fitting-something look depth digest n usage true = node-something look depth digest n usage
fitting-something look depth digest n usage false = tt

record-something : (look : Looks) (depth : ℕ) (after_extension : Bool) (digest : List ℕ) (read : Result (Node × ℕ) RecordFault) → IsSomething (seen_record look depth after_extension digest read)
unfolding seen_record
record-something look depth after_extension digest (Err e) = tt
record-something look depth after_extension digest (Ok r) = fitting-something look depth digest r.0 r.1 (fits_at depth after_extension r.0)

text-something : (look : Looks) (depth : ℕ) (after_extension : Bool) (digest : List ℕ) (held : Option (List ℕ)) → IsSomething (seen_text look depth after_extension digest held)
unfolding seen_text
text-something look depth after_extension digest None = tt
text-something look depth after_extension digest (Some text) = record-something look depth after_extension digest (record_in text)

within-something : (n : ℕ) (table : Table) (depth : ℕ) (after_extension : Bool) (digest : List ℕ) → IsSomething (seen_within n table depth after_extension digest)
unfolding seen_within
within-something zero table depth after_extension digest = tt
within-something (suc n) table depth after_extension digest = text-something (seen_within n table) depth after_extension digest (get table digest)

pub seen_at-something : (table : Table) (depth : ℕ) (after_extension : Bool) (digest : List ℕ) → IsSomething (seen_at table depth after_extension digest)
unfolding seen_at
seen_at-something table depth after_extension digest = within-something (suc longest_path - depth) table depth after_extension digest

-- ---- a step at least

abbrev pub IsSome : List Step → Type 0
IsSome steps = (first : Step) × (further : List Step) × (steps ≡ first ∷ further)

pub lookup-some : (seen : Seen) (before rest : List ℕ) → IsSomething seen → IsSome (lookup_steps seen before rest)
unfolding lookup_steps
lookup-some nothing before rest some = absurd some
lookup-some (missing digest) before rest some = (_, _, refl)
lookup-some (bad digest) before rest some = (_, _, refl)
lookup-some (leaf digest usage path ref) before rest some = (_, _, refl)
lookup-some (branch digest usage ref kids) before [] some = (_, _, refl)
lookup-some (branch digest usage ref kids) before (x ∷ rest) some = (_, _, refl)
lookup-some (extension digest usage path child) before rest some = (_, _, refl)

pub listing-some : (seen : Seen) (before bound : List ℕ) → IsSomething seen → IsSome (listing_steps seen before bound)
unfolding listing_steps
listing-some nothing before bound some = absurd some
listing-some (missing digest) before bound some = (_, _, refl)
listing-some (bad digest) before bound some = (_, _, refl)
listing-some (leaf digest usage path ref) before bound some = (_, _, refl)
listing-some (branch digest usage ref kids) before bound some = (_, _, refl)
listing-some (extension digest usage path child) before bound some = (_, _, refl)

pub top-some : (seen : Seen) → IsSomething seen → IsSome (top_steps seen)
unfolding top_steps
top-some nothing some = absurd some
top-some (missing digest) some = (_, _, refl)
top-some (bad digest) some = (_, _, refl)
top-some (leaf digest usage path ref) some = (_, _, refl)
top-some (branch digest usage ref kids) some = (_, _, refl)
top-some (extension digest usage path child) some = (_, _, refl)
