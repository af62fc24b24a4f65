-- What is seen at a place, by the text that is held there.
use Rattle.std.proofs.Common.{◌≡◌, ℕ, ◌≤◌, Bool, true, false, List, Option, None, Some, Result, Ok, Err, refl, ap, ◌∙◌, if◌then◌else◌}
use Rattle.std.specs.Prelude.{IsSomeAnd}
use Rattle.std.specs.FinMap.{get}
use Rattle.byte_model.specs.PackedPath.{longest_path}
use Rattle.byte_model.specs.Node.{Node}
use Rattle.record_model.specs.Records.{RecordFault, record_in}
use Rattle.record_model.specs.Fits.{fits_at, fitting, fitting_node}
use Rattle.record_model.proofs.Fitting.{record_fits}
use Rattle.trie_model.specs.Root.{Table}
use Rattle.visit_model.specs.Seen.{Looks, missing, bad, seen_at, seen_node, seen_text, seen_record}
use Rattle.visit_model.proofs.SeenBounds.{seen_at-seen_text}

record_bad : (look : Looks) (depth : ℕ) (after_extension : Bool) (digest : List ℕ) (read : Result (Node × ℕ) RecordFault) → fitting depth after_extension read ≡ None → seen_record look depth after_extension digest read ≡ bad digest
unfolding seen_record
record_bad look depth after_extension digest (Err fault) e = refl
record_bad look depth after_extension digest (Ok found) e = go (fits_at depth after_extension found.0) refl
  where
    go : (b : Bool) → fits_at depth after_extension found.0 ≡ b → (if b then seen_node look depth digest found.0 found.1 else bad digest) ≡ bad digest
    go true f = absurd (let some : Some found ≡ None = rw f at e in cc)
    go false f = refl

pub seen-held : (table : Table) (depth : ℕ) (after_extension : Bool) (digest : List ℕ) (held : Option (List ℕ)) → depth ≤ longest_path → get table digest ≡ held → seen_at table depth after_extension digest ≡ seen_text (seen_at table) depth after_extension digest held
seen-held table depth after_extension digest held deep e = seen_at-seen_text table depth after_extension digest deep ∙ ap (seen_text (seen_at table) depth after_extension digest) e

pub seen-missing : (table : Table) (depth : ℕ) (after_extension : Bool) (digest : List ℕ) → depth ≤ longest_path → get table digest ≡ None → seen_at table depth after_extension digest ≡ missing digest
unfolding seen_text
seen-missing table depth after_extension digest deep e = seen-held table depth after_extension digest None deep e

pub seen-bad : (table : Table) (depth : ℕ) (after_extension : Bool) (digest : List ℕ) → depth ≤ longest_path → IsSomeAnd (get table digest) (λ text. fitting_node depth after_extension text ≡ None) → seen_at table depth after_extension digest ≡ bad digest
unfolding seen_text
seen-bad table depth after_extension digest deep = go (get table digest) refl
  where
    go : (held : Option (List ℕ)) → get table digest ≡ held → IsSomeAnd held (λ text. fitting_node depth after_extension text ≡ None) → seen_at table depth after_extension digest ≡ bad digest
    go None e h = absurd h
    go (Some text) e h = seen-held table depth after_extension digest (Some text) deep e ∙ record_bad (seen_at table) depth after_extension digest (record_in text) h

pub seen-node : (table : Table) (depth : ℕ) (after_extension : Bool) (digest text : List ℕ) (n : Node) (usage : ℕ) → depth ≤ longest_path → get table digest ≡ Some text → fitting_node depth after_extension text ≡ Some (n, usage) → seen_at table depth after_extension digest ≡ seen_node (seen_at table) depth digest n usage
unfolding seen_text seen_record
seen-node table depth after_extension digest text n usage deep e h =
    let read = record_fits depth after_extension (record_in text) n usage h in
    seen-held table depth after_extension digest (Some text) deep e ∙ rw (read.0, read.1) refl
