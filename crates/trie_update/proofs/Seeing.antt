-- What is seen at a place, by the text that is held there.
use Rattle.std.proofs.Common.{◌≡◌, ℕ, suc, zero, ◌-◌, Bool, true, false, List, Option, None, Some, Result, Ok, Err, refl, if◌then◌else◌}
use Rattle.std.specs.FinMap.{get}
use Rattle.byte_model.specs.PackedPath.{longest_path}
use Rattle.byte_model.specs.Node as node
use Rattle.byte_model.specs.Node.{Node}
use Rattle.record_model.specs.Records.{RecordFault, record_in}
use Rattle.record_model.specs.Fits.{fits_at}
use Rattle.trie_model.specs.Root.{Table}
use Rattle.visit_model.specs.Seen.{Looks, bad, seen_at, seen_within, seen_node, seen_text, seen_record}
use Rattle.change_model.specs.Visits.{is_named}

-- ---- a digest is seen as something, if only as missing

named-node : (look : Looks) (depth : ℕ) (digest : List ℕ) (n : Node) (usage : ℕ) → is_named (seen_node look depth digest n usage) ≡ true
unfolding seen_node
named-node look depth digest (node.leaf path ref) usage = refl
named-node look depth digest (node.branch ref kids) usage = refl
named-node look depth digest (node.extension path child) usage = refl

named-record : (look : Looks) (depth : ℕ) (after_extension : Bool) (digest : List ℕ) (read : Result (Node × ℕ) RecordFault) → is_named (seen_record look depth after_extension digest read) ≡ true
unfolding seen_record
named-record look depth after_extension digest (Err fault) = refl
named-record look depth after_extension digest (Ok found) =
    elim (fits_at depth after_extension found.0) as (λ b. is_named (if b then seen_node look depth digest found.0 found.1 else bad digest) ≡ true) [
      | true ↦ named-node look depth digest found.0 found.1
      | false ↦ refl
    ]

named-text : (look : Looks) (depth : ℕ) (after_extension : Bool) (digest : List ℕ) (held : Option (List ℕ)) → is_named (seen_text look depth after_extension digest held) ≡ true
unfolding seen_text
named-text look depth after_extension digest None = refl
named-text look depth after_extension digest (Some text) = named-record look depth after_extension digest (record_in text)

named-within : (n : ℕ) (table : Table) (depth : ℕ) (after_extension : Bool) (digest : List ℕ) → is_named (seen_within n table depth after_extension digest) ≡ true
unfolding seen_within
named-within zero table depth after_extension digest = refl
named-within (suc n) table depth after_extension digest = named-text (seen_within n table) depth after_extension digest (get table digest)

pub named-seen_at : (table : Table) (depth : ℕ) (after_extension : Bool) (digest : List ℕ) → is_named (seen_at table depth after_extension digest) ≡ true
unfolding seen_at
named-seen_at table depth after_extension digest = named-within (suc longest_path - depth) table depth after_extension digest
