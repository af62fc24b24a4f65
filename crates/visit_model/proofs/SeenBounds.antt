-- The bound on the depth of what is seen never shows.
use Rattle.std.proofs.Common.{◌≡◌, ℕ, zero, suc, ◌+◌, ◌-◌, ◌<◌, ◌≤◌, not, nat_lt, Bool, true, false, if◌then◌else◌, List, length, Option, None, Some, Result, Ok, Err, refl, sym, ◌∙◌, ap, arith}
use Rattle.std.proofs.lemmas.Bool.{and_parts}
use Rattle.std.proofs.lemmas.Bool.Decides.{nat_tests}
use Rattle.std.specs.FinMap.{get}
use mathlib.Core.Path.{fun_ext}
use Rattle.byte_model.specs.PackedPath.{longest_path}
use Rattle.byte_model.specs.Node as node
use Rattle.byte_model.specs.Node.{Node, ValueRef}
use Rattle.record_model.specs.Records.{RecordFault, record_in, has_shape}
use Rattle.record_model.specs.Fits.{fits_at, has_place, is_whole}
use Rattle.trie_model.specs.Root.{Table}
use Rattle.visit_model.specs.Seen.{Looks, bad, branch, extension, seen_child, seen_node, seen_record, seen_text, seen_within, seen_at}

-- ---- the two tests of a node that fits

pub shape_fits : (depth : ℕ) (after_extension : Bool) (n : Node) → fits_at depth after_extension n ≡ true → has_shape n ≡ true
shape_fits depth after_extension n fits = (and_parts (has_shape n) (has_place depth after_extension n) fits).0

pub place_fits : (depth : ℕ) (after_extension : Bool) (n : Node) → fits_at depth after_extension n ≡ true → has_place depth after_extension n ≡ true
place_fits depth after_extension n fits = (and_parts (has_shape n) (has_place depth after_extension n) fits).1

-- ---- the depth of a child of a node that fits

pub branch_room : (depth : ℕ) (after_extension : Bool) (value : Option ValueRef) (kids : ℕ → Option (List ℕ)) → has_place depth after_extension (node.branch value kids) ≡ true → depth + 1 ≤ longest_path
unfolding has_place
branch_room depth after_extension None kids fits = grind (arith, nat_tests)
branch_room depth after_extension (Some value) kids fits =
    let room : nat_lt depth longest_path ≡ true = (and_parts (nat_lt depth longest_path) (is_whole depth) fits).0 in
    grind (arith, nat_tests)

pub extension_room : (depth : ℕ) (after_extension : Bool) (path child : List ℕ) → has_place depth after_extension (node.extension path child) ≡ true → depth + length path < longest_path
unfolding has_place
extension_room depth after_extension path child fits =
    let room : nat_lt (depth + length path) longest_path ≡ true = (and_parts (nat_lt (depth + length path) longest_path) (not after_extension) fits).0 in
    grind (arith, nat_tests)

pub extension_some : (path child : List ℕ) → has_shape (node.extension path child) ≡ true → 0 < length path
extension_some path child shape = grind (arith, nat_tests)

-- ---- what is seen of a text depends on what is seen further down alone

-- two ways of looking agree further down
abbrev pub AgreeBelow : ℕ → Looks → Looks → Type 0
AgreeBelow depth f g = (deeper : ℕ) (after_extension : Bool) (digest : List ℕ) → depth < deeper → deeper ≤ longest_path → f deeper after_extension digest ≡ g deeper after_extension digest

module _ (f g : Looks) (depth : ℕ) (agree : AgreeBelow depth f g) where
  seen_child-agree : depth + 1 ≤ longest_path → (child : Option (List ℕ)) → seen_child (f (depth + 1) false) child ≡ seen_child (g (depth + 1) false) child
  unfolding seen_child
  seen_child-agree room None = refl
  seen_child-agree room (Some digest) = agree (depth + 1) false digest (omega arith) room

  seen_node-agree : (after_extension : Bool) (digest : List ℕ) (n : Node) (usage : ℕ) → fits_at depth after_extension n ≡ true → seen_node f depth digest n usage ≡ seen_node g depth digest n usage
  unfolding seen_node
  seen_node-agree after_extension digest (node.leaf path value) usage fits = refl
  seen_node-agree after_extension digest (node.branch value kids) usage fits =
      let room = branch_room depth after_extension value kids (place_fits depth after_extension (node.branch value kids) fits) in
      ap (branch digest usage value) (fun_ext (λ x. seen_child-agree room (kids x)))
  seen_node-agree after_extension digest (node.extension path child) usage fits =
      let some = extension_some path child (shape_fits depth after_extension (node.extension path child) fits) in
      let room = extension_room depth after_extension path child (place_fits depth after_extension (node.extension path child) fits) in
      ap (extension digest usage path) (agree (depth + length path) true child (omega arith) (omega arith))

  seen_record-agree : (after_extension : Bool) (digest : List ℕ) (record_read : Result (Node × ℕ) RecordFault) → seen_record f depth after_extension digest record_read ≡ seen_record g depth after_extension digest record_read
  unfolding seen_record
  seen_record-agree after_extension digest (Err e) = refl
  seen_record-agree after_extension digest (Ok r) =
      elim (fits_at depth after_extension r.0) as (λ b. fits_at depth after_extension r.0 ≡ b → (if b then seen_node f depth digest r.0 r.1 else bad digest) ≡ (if b then seen_node g depth digest r.0 r.1 else bad digest)) [
        | true ↦ λ fits. seen_node-agree after_extension digest r.0 r.1 fits
        | false ↦ λ fits. refl
      ] refl

  pub seen_text-agree : (after_extension : Bool) (digest : List ℕ) (text : Option (List ℕ)) → seen_text f depth after_extension digest text ≡ seen_text g depth after_extension digest text
  unfolding seen_text
  seen_text-agree after_extension digest None = refl
  seen_text-agree after_extension digest (Some text) = seen_record-agree after_extension digest (record_in text)

-- ---- any two bounds that suffice see the same

pub seen_within-seen_within : (table : Table) (m n depth : ℕ) (after_extension : Bool) (digest : List ℕ) → depth ≤ longest_path → longest_path < depth + m → longest_path < depth + n → seen_within m table depth after_extension digest ≡ seen_within n table depth after_extension digest
unfolding seen_within
seen_within-seen_within table zero n depth after_extension digest room h k = absurd (omega arith)
seen_within-seen_within table (suc m) zero depth after_extension digest room h k = absurd (omega arith)
seen_within-seen_within table (suc m) (suc n) depth after_extension digest room h k =
    seen_text-agree (seen_within m table) (seen_within n table) depth (λ deeper after below further still. seen_within-seen_within table m n deeper after below still (omega arith) (omega arith)) after_extension digest (get table digest)

-- a bound that suffices sees what is seen
pub seen_within-enough : (table : Table) (n depth : ℕ) (after_extension : Bool) (digest : List ℕ) → depth ≤ longest_path → longest_path < depth + n → seen_within n table depth after_extension digest ≡ seen_at table depth after_extension digest
unfolding seen_at
seen_within-enough table n depth after_extension digest room enough =
    seen_within-seen_within table n (suc longest_path - depth) depth after_extension digest room enough (omega arith)

seen_within-suc : (table : Table) (n depth : ℕ) (after_extension : Bool) (digest : List ℕ) → seen_within (suc n) table depth after_extension digest ≡ seen_text (seen_within n table) depth after_extension digest (get table digest)
unfolding seen_within
seen_within-suc table n depth after_extension digest = refl

-- What is seen below a digest is what is seen of its text, by what is seen below the digests in it.
pub seen_at-seen_text : (table : Table) (depth : ℕ) (after_extension : Bool) (digest : List ℕ) → depth ≤ longest_path → seen_at table depth after_extension digest ≡ seen_text (seen_at table) depth after_extension digest (get table digest)
seen_at-seen_text table depth after_extension digest room =
    let n : ℕ = longest_path - depth in
    sym (seen_within-enough table (suc n) depth after_extension digest room (omega arith))
    ∙ seen_within-suc table n depth after_extension digest
    ∙ seen_text-agree (seen_within n table) (seen_at table) depth (λ deeper after below further still. seen_within-enough table n deeper after below still (omega arith)) after_extension digest (get table digest)
