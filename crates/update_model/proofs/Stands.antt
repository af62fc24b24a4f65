-- What is seen at a depth keeps to that depth: paths and values within their limits, nodes of good shape.
use Rattle.std.proofs.Common.{◌≡◌, ◌≢◌, ℕ, zero, suc, ◌+◌, ◌-◌, ◌&&◌, not, nat_lt, nat_le, if◌then◌else◌, Bool, true, false, List, [], ◌∷◌, length, Option, None, Some, Result, Ok, Err, refl, sym, ◌∙◌, ap, subst, arith}
use Rattle.std.specs.Prelude.{⊤, nat_eq}
use Rattle.std.specs.Cmp.Lexicographic.{pointwise}
use Rattle.std.specs.FinMap.{get}
use Rattle.std.proofs.lemmas.Bool.{and_parts, not-true}
use Rattle.std.proofs.lemmas.Bool.Decides.{nat_tests}
use Rattle.std.proofs.lemmas.Result.{IfOk-at_ok}
use mathlib.Core.Path.{fun_ext}
use Rattle.byte_model.specs.Nibbles.{AreBytes}
use Rattle.byte_model.specs.PackedPath.{longest_path}
use Rattle.byte_model.specs.Node as node
use Rattle.byte_model.specs.Node.{Node, ValueRef, IsShaped}
use Rattle.byte_model.specs.Laws.{FitsRecord}
use Rattle.record_model.specs.Records.{RecordFault, IsRecord, HasNibblesOnly, record_in}
use Rattle.record_model.specs.Fits.{fits_at, has_place, is_whole}
use Rattle.record_model.proofs.Nodes.{record_in-found}
use Rattle.trie_model.specs.Root.{Table, zero_digest}
use Rattle.visit_model.specs.Keys.{AreByteTexts}
use Rattle.visit_model.specs.Seen.{Seen, Looks, nothing, missing, bad, leaf, branch, extension, seen_child, seen_node, seen_record, seen_text, seen_within, seen_at, seen}
use Rattle.visit_model.proofs.SeenBounds.{place_fits, branch_room, extension_room}
use Rattle.batch_model.specs.Changes.{Change}
use Rattle.change_model.specs.Along.{digest_of, IfTouched}
use Rattle.change_model.specs.Visits.{changes_behind}
-- ---- what is seen stands at a depth, with all below it

pub use Rattle.update_model.specs.Stands.{LeafStands, ExtensionStands, BranchStands, TopStandsSeen, StandsAlong}

abbrev pub SeenStands : ℕ → Bool → Seen → Type 0
SeenStands depth after_extension nothing = ⊤
SeenStands depth after_extension (missing digest) = ⊤
SeenStands depth after_extension (bad digest) = ⊤
SeenStands depth after_extension (leaf digest usage path ref) = LeafStands depth after_extension path ref
SeenStands depth after_extension (branch digest usage ref kids) = BranchStands depth ref kids × ((x : ℕ) → SeenStands (depth + 1) false (kids x))
SeenStands depth after_extension (extension digest usage path child) = ExtensionStands depth after_extension path child × SeenStands (depth + length path) true child

-- ---- where a batch visits it

pub where_touched_stands : {P : Type 0} (changes : List Change) → IfTouched changes P ⊤ → changes ≢ [] → P
where_touched_stands [] h some = absurd (some refl)
where_touched_stands (change ∷ changes) h some = h

if_touched_stands : {P : Type 0} (changes : List Change) → P → IfTouched changes P ⊤
if_touched_stands [] h = tt
if_touched_stands (change ∷ changes) h = h

top-stands : (depth : ℕ) (after_extension : Bool) (s : Seen) → SeenStands depth after_extension s → TopStandsSeen depth after_extension s
top-stands depth after_extension nothing h = tt
top-stands depth after_extension (missing digest) h = tt
top-stands depth after_extension (bad digest) h = tt
top-stands depth after_extension (leaf digest usage path ref) h = h
top-stands depth after_extension (branch digest usage ref kids) h = h.0
top-stands depth after_extension (extension digest usage path child) h = h.0

-- What stands at all places stands at those that are visited.
pub along-stands : (s : Seen) (depth : ℕ) (after_extension : Bool) (changes : List Change) → SeenStands depth after_extension s → StandsAlong depth after_extension s changes
along-stands nothing depth after_extension changes h = tt
along-stands (missing digest) depth after_extension changes h = tt
along-stands (bad digest) depth after_extension changes h = tt
along-stands (leaf digest usage path ref) depth after_extension changes h = h
along-stands (branch digest usage ref kids) depth after_extension changes h =
    (h.0, (λ x small. if_touched_stands (changes_behind (x ∷ []) changes) (along-stands (kids x) (depth + 1) false (changes_behind (x ∷ []) changes) (h.1 x))), λ x e. top-stands (depth + 1) false (kids x) (h.1 x))
along-stands (extension digest usage path child) depth after_extension changes h =
    (h.0, if_touched_stands (changes_behind path changes) (along-stands child (depth + length path) true (changes_behind path changes) h.1))

-- ---- of a node that was read

-- a node whose parts fit their fields, of good shape
abbrev IsSound : Node → Type 0
IsSound n = FitsRecord n × IsShaped n

sound_in : (bytes : List ℕ) (n : Node) (usage : ℕ) → AreBytes bytes → record_in bytes ≡ Ok (n, usage) → IsSound n
sound_in bytes n usage h e =
    let read : IsRecord n usage bytes × HasNibblesOnly n = IfOk-at_ok (λ r. IsRecord r.0 r.1 bytes × HasNibblesOnly r.0) e (record_in-found bytes h).given in
    (read.0.fields, read.0.shape)

leaf_stands : (depth : ℕ) (after_extension : Bool) (path : List ℕ) (ref : ValueRef) → IsSound (node.leaf path ref) → has_place depth after_extension (node.leaf path ref) ≡ true → LeafStands depth after_extension path ref
unfolding has_place
leaf_stands depth after_extension path ref sound place =
    let ends = and_parts (is_whole (depth + length path) && nat_le (depth + length path) longest_path) (not after_extension) place in
    let room : nat_le (depth + length path) longest_path ≡ true = (and_parts (is_whole (depth + length path)) (nat_le (depth + length path) longest_path) ends.0).1 in
    record { nibbles = sound.0.0; short = grind (arith, nat_tests); value = sound.1; not_after = not-true after_extension ends.1 }

extension_after : (depth : ℕ) (after_extension : Bool) (path child : List ℕ) → has_place depth after_extension (node.extension path child) ≡ true → after_extension ≡ false
unfolding has_place
extension_after depth after_extension path child place = not-true after_extension (and_parts (nat_lt (depth + length path) longest_path) (not after_extension) place).1

not_nothing : (s : Seen) (digest : List ℕ) → digest_of s ≡ Some digest → s ≢ nothing
unfolding digest_of
not_nothing s digest named none = no_name digest (sym (ap digest_of none) ∙ named)
  where
    no_name : (digest : List ℕ) → None ≡ Some digest → ⊥
    no_name digest e = cc

-- ---- of any texts that are bytes

-- what is seen of a digest stands where it is looked at, and is seen under the digest
abbrev Sees : ℕ → Bool → List ℕ → Seen → Type 0
Sees depth after_extension digest s = SeenStands depth after_extension s × (digest_of s ≡ Some digest)

abbrev LooksWell : Looks → Type 0
LooksWell look = (depth : ℕ) (after_extension : Bool) (digest : List ℕ) → Sees depth after_extension digest (look depth after_extension digest)

child_stands : (look : Looks) → LooksWell look → (depth : ℕ) (child : Option (List ℕ)) → SeenStands (depth + 1) false (seen_child (look (depth + 1) false) child) × (digest_of (seen_child (look (depth + 1) false) child) ≡ child)
unfolding seen_child digest_of
child_stands look well depth None = (tt, refl)
child_stands look well depth (Some digest) = well (depth + 1) false digest

node_stands : (look : Looks) → LooksWell look → (depth : ℕ) (after_extension : Bool) (digest : List ℕ) (n : Node) (usage : ℕ) → IsSound n → fits_at depth after_extension n ≡ true → Sees depth after_extension digest (seen_node look depth digest n usage)
unfolding seen_node digest_of
node_stands look well depth after_extension digest (node.leaf path ref) usage sound fits = (leaf_stands depth after_extension path ref sound (place_fits depth after_extension (node.leaf path ref) fits), refl)
node_stands look well depth after_extension digest (node.branch ref kids) usage sound fits =
    let named : (λ x. digest_of (seen_child (look (depth + 1) false) (kids x))) ≡ kids = fun_ext (λ x. (child_stands look well depth (kids x)).1) in
    let room = branch_room depth after_extension ref kids (place_fits depth after_extension (node.branch ref kids) fits) in
    ((record { room = omega arith; shape = subst (λ ks. IsShaped (node.branch ref ks)) (sym named) sound.1 }, λ x. (child_stands look well depth (kids x)).0), refl)
node_stands look well depth after_extension digest (node.extension path child) usage sound fits =
    let place = place_fits depth after_extension (node.extension path child) fits in
    let below = well (depth + length path) true child in (
      (
        record {
          nibbles = sound.0.0;
          some = sound.1;
          room = extension_room depth after_extension path child place;
          not_after = extension_after depth after_extension path child place;
          there = not_nothing (look (depth + length path) true child) child below.1;
        },
        below.0,
      ),
      refl,
    )

text_stands : (look : Looks) → LooksWell look → (depth : ℕ) (after_extension : Bool) (digest : List ℕ) (text : Option (List ℕ)) → ((bytes : List ℕ) → text ≡ Some bytes → AreBytes bytes) → Sees depth after_extension digest (seen_text look depth after_extension digest text)
unfolding seen_text seen_record digest_of
text_stands look well depth after_extension digest None bytes = (tt, refl)
text_stands look well depth after_extension digest (Some text) bytes = go (record_in text) refl
  where
    go : (r : Result (Node × ℕ) RecordFault) → record_in text ≡ r → Sees depth after_extension digest (seen_record look depth after_extension digest r)
    go (Err fault) e = (tt, refl)
    go (Ok found) e =
        elim (fits_at depth after_extension found.0) as (λ b. fits_at depth after_extension found.0 ≡ b → Sees depth after_extension digest (if b then seen_node look depth digest found.0 found.1 else bad digest)) [
          | true ↦ λ fits. node_stands look well depth after_extension digest found.0 found.1 (sound_in text found.0 found.1 (bytes text refl) e) fits
          | false ↦ λ fits. (tt, refl)
        ] refl

module _ (table : Table) (bytes : AreByteTexts table) where
  within_stands : (n : ℕ) → LooksWell (seen_within n table)
  unfolding seen_within digest_of
  within_stands zero depth after_extension digest = (tt, refl)
  within_stands (suc n) depth after_extension digest = text_stands (seen_within n table) (within_stands n) depth after_extension digest (get table digest) (λ text held. bytes digest text held)

  -- What is seen below a digest stands where it is looked at, and is seen under that digest.
  pub stands-seen_at : (depth : ℕ) (after_extension : Bool) (digest : List ℕ) → SeenStands depth after_extension (seen_at table depth after_extension digest)
  unfolding seen_at
  stands-seen_at depth after_extension digest = (within_stands (suc longest_path - depth) depth after_extension digest).0

  pub named-seen_at : (depth : ℕ) (after_extension : Bool) (digest : List ℕ) → digest_of (seen_at table depth after_extension digest) ≡ Some digest
  unfolding seen_at
  named-seen_at depth after_extension digest = (within_stands (suc longest_path - depth) depth after_extension digest).1

  pub stands-seen_child : (depth : ℕ) (child : Option (List ℕ)) → SeenStands (depth + 1) false (seen_child (seen_at table (depth + 1) false) child)
  stands-seen_child depth child = (child_stands (seen_at table) (λ d a digest. (stands-seen_at d a digest, named-seen_at d a digest)) depth child).0

  pub named-seen_child : (depth : ℕ) (child : Option (List ℕ)) → digest_of (seen_child (seen_at table (depth + 1) false) child) ≡ child
  named-seen_child depth child = (child_stands (seen_at table) (λ d a digest. (stands-seen_at d a digest, named-seen_at d a digest)) depth child).1

  pub stands-seen : (root : List ℕ) → SeenStands 0 false (seen table root)
  unfolding seen
  stands-seen root =
      elim (pointwise nat_eq root zero_digest) as (λ b. SeenStands 0 false (if b then nothing else seen_at table 0 false root)) [
        | true ↦ tt
        | false ↦ stands-seen_at 0 false root
      ]
