-- Where a table has the texts that a batch touches below a place of a trie, the batch can't tell what is seen there from the trie.
use Rattle.std.proofs.Common.{◌≡◌, ℕ, zero, suc, ◌+◌, ◌-◌, if◌then◌else◌, Result, Ok, Err, ◌<◌, ◌≤◌, true, false, Bool, List, [], ◌∷◌, length, Option, None, Some, option_map, ◌⊎◌, inl, inr, refl, sym, ◌∙◌, ap, ap₂, arith}
use Rattle.std.specs.Prelude.{⊤}
use Rattle.std.specs.FinMap.{get}
use Rattle.std.proofs.lemmas.Bool.{cases_lt}
use mathlib.Core.Path.{fun_ext}
use Rattle.sha2.specs.Sha256.{sha256}
use Rattle.byte_model.specs.PackedPath.{longest_path}
use Rattle.byte_model.specs.Node as node
use Rattle.byte_model.specs.Node.{Node}
use Rattle.trie_model.specs.Tree.{Tree, nothing, leaf, branch, extension}
use Rattle.trie_model.specs.Texts.{text, usage, name_of, node_of, value_ref}
use Rattle.trie_model.specs.Root.{Table}
use Rattle.visit_model.specs.Seen as seen
use Rattle.record_model.specs.Records.{RecordFault, record_in}
use Rattle.record_model.specs.Fits.{fits_at}
use Rattle.visit_model.specs.Seen.{Seen, Looks, seen_child, seen_node, seen_text, seen_record, seen_within, seen_at}
use Rattle.visit_model.specs.Shown.{shown}
use Rattle.visit_model.proofs.SeenBounds.{place_fits, branch_room, extension_room}
use Rattle.visit_model.proofs.ShownFits.{IsThere, FitsBelow}
use Rattle.visit_model.proofs.ShownTrees.{TopSees, top_seen}
use Rattle.batch_model.specs.Changes.{Change}
use Rattle.change_model.specs.Visits.{changes_behind, merged_child}
use Rattle.change_model.specs.Along.{digest_of, SameName, SameTop, IfTouched, SameAlong}

-- ---- digests

-- whatever is seen below a digest is seen under it
digest_of-node : (look : Looks) (depth : ℕ) (digest : List ℕ) (n : Node) (used : ℕ) → digest_of (seen_node look depth digest n used) ≡ Some digest
unfolding digest_of seen_node
digest_of-node look depth digest (node.leaf path value) used = refl
digest_of-node look depth digest (node.branch value kids) used = refl
digest_of-node look depth digest (node.extension path child) used = refl

digest_of-record : (look : Looks) (depth : ℕ) (after_extension : Bool) (digest : List ℕ) (read : Result (Node × ℕ) RecordFault) → digest_of (seen_record look depth after_extension digest read) ≡ Some digest
unfolding digest_of seen_record
digest_of-record look depth after_extension digest (Err fault) = refl
digest_of-record look depth after_extension digest (Ok found) =
    elim (fits_at depth after_extension found.0) as (λ b. digest_of (if b then seen_node look depth digest found.0 found.1 else seen.bad digest) ≡ Some digest) [
      | true ↦ digest_of-node look depth digest found.0 found.1
      | false ↦ refl
    ]

digest_of-text : (look : Looks) (depth : ℕ) (after_extension : Bool) (digest : List ℕ) (held : Option (List ℕ)) → digest_of (seen_text look depth after_extension digest held) ≡ Some digest
unfolding digest_of seen_text
digest_of-text look depth after_extension digest None = refl
digest_of-text look depth after_extension digest (Some bytes) = digest_of-record look depth after_extension digest (record_in bytes)

digest_of-within : (n : ℕ) (table : Table) (depth : ℕ) (after_extension : Bool) (digest : List ℕ) → digest_of (seen_within n table depth after_extension digest) ≡ Some digest
unfolding digest_of seen_within
digest_of-within zero table depth after_extension digest = refl
digest_of-within (suc n) table depth after_extension digest = digest_of-text (seen_within n table) depth after_extension digest (get table digest)

pub digest_of-seen_at : (table : Table) (depth : ℕ) (after_extension : Bool) (digest : List ℕ) → digest_of (seen_at table depth after_extension digest) ≡ Some digest
unfolding seen_at
digest_of-seen_at table depth after_extension digest = digest_of-within (suc longest_path - depth) table depth after_extension digest

pub digest_of-shown : (tree : Tree) → digest_of (shown tree) ≡ name_of tree (text tree)
unfolding digest_of shown name_of
digest_of-shown nothing = refl
digest_of-shown (leaf path value) = refl
digest_of-shown (branch value kids) = refl
digest_of-shown (extension path child) = refl

pub digest_of-child : (table : Table) (depth : ℕ) (name : Option (List ℕ)) → digest_of (seen_child (seen_at table depth false) name) ≡ name
unfolding seen_child digest_of
digest_of-child table depth None = refl
digest_of-child table depth (Some digest) = digest_of-seen_at table depth false digest

-- ---- the top of a tree

module _ (table : Table) where
  abbrev pub IsHeldText : Tree → Type 0
  IsHeldText tree = get table (sha256 (text tree)) ≡ Some (text tree)

  -- what is seen of a child of a branch
  abbrev child_view : ℕ → Tree → Seen
  child_view depth tree = seen_child (seen_at table depth false) (name_of tree (text tree))

  -- the top of a tree, with whatever is seen below its children's digests
  abbrev top_view : ℕ → Tree → Seen
  top_view depth nothing = seen.nothing
  top_view depth (leaf path value) = seen.leaf (sha256 (text (leaf path value))) (usage (leaf path value)) path (value_ref value)
  top_view depth (branch value kids) = seen.branch (sha256 (text (branch value kids))) (usage (branch value kids)) (option_map value_ref value) (λ x. child_view (depth + 1) (kids x))
  top_view depth (extension path child) = seen.extension (sha256 (text (extension path child))) (usage (extension path child)) path (seen_at table (depth + length path) true (sha256 (text child)))

  leaf_view : (depth : ℕ) (path value : List ℕ) → TopSees table depth (leaf path value) (node.leaf path (value_ref value)) (top_view depth (leaf path value))
  unfolding seen_node
  leaf_view depth path value (node.leaf p v) same none = ap₂ (seen.leaf (sha256 (text (leaf path value))) (usage (leaf path value))) same.0 same.1
  leaf_view depth path value (node.branch v kids) same none = absurd same
  leaf_view depth path value (node.extension p child) same none = absurd same

  no_name : (tree : Tree) → tree ≡ nothing → name_of tree (text tree) ≡ None
  unfolding name_of
  no_name tree e = ap (λ t. name_of t (text t)) e

  branch_view : (depth : ℕ) (value : Option (List ℕ)) (kids : ℕ → Tree) → ((x : ℕ) → 16 ≤ x → kids x ≡ nothing) → TopSees table depth (branch value kids) (node.branch (option_map value_ref value) (λ x. name_of (kids x) (text (kids x)))) (top_view depth (branch value kids))
  unfolding seen_node
  branch_view depth value kids past (node.leaf p v) same none = absurd same
  branch_view depth value kids past (node.branch v ks) same none =
      ap₂ (seen.branch (sha256 (text (branch value kids))) (usage (branch value kids))) same.0 (fun_ext (λ x. ap (seen_child (seen_at table (depth + 1) false)) (each x (cases_lt x 16))))
    where
      each : (x : ℕ) → (x < 16) ⊎ (16 ≤ x) → ks x ≡ name_of (kids x) (text (kids x))
      each x (inl small) = same.1 x small
      each x (inr large) = none x large ∙ sym (no_name (kids x) (past x large))
  branch_view depth value kids past (node.extension p child) same none = absurd same

  extension_view : (depth : ℕ) (path : List ℕ) (child : Tree) → TopSees table depth (extension path child) (node.extension path (sha256 (text child))) (top_view depth (extension path child))
  unfolding seen_node
  extension_view depth path child (node.leaf p v) same none = absurd same
  extension_view depth path child (node.branch v kids) same none = absurd same
  extension_view depth path child (node.extension p digest) same none =
      ap₂ (λ q d. seen.extension (sha256 (text (extension path child))) (usage (extension path child)) q (seen_at table (depth + length q) true d)) same.0 same.1

  top_seen_as : (tree : Tree) (depth : ℕ) (after_extension : Bool) → depth ≤ longest_path → FitsBelow depth after_extension tree → IsHeldText tree → IsThere tree → seen_at table depth after_extension (sha256 (text tree)) ≡ top_view depth tree
  unfolding node_of
  top_seen_as nothing depth after_extension room fits held there = absurd there
  top_seen_as (leaf path value) depth after_extension room fits held there =
      top_seen table depth after_extension (leaf path value) (node.leaf path (value_ref value)) (top_view depth (leaf path value)) room held fits.0 fits.1 (leaf_view depth path value)
  top_seen_as (branch value kids) depth after_extension room fits held there =
      top_seen table depth after_extension (branch value kids) (node.branch (option_map value_ref value) (λ x. name_of (kids x) (text (kids x)))) (top_view depth (branch value kids)) room held fits.0.0 fits.0.1 (branch_view depth value kids fits.2)
  top_seen_as (extension path child) depth after_extension room fits held there =
      top_seen table depth after_extension (extension path child) (node.extension path (sha256 (text child))) (top_view depth (extension path child)) room held fits.0.0 fits.0.1 (extension_view depth path child)

  -- ---- names

  child_named : (depth : ℕ) (tree : Tree) → SameName (shown tree) (child_view depth tree)
  child_named depth tree = digest_of-shown tree ∙ sym (digest_of-child table depth (name_of tree (text tree)))

  below_named : (depth : ℕ) (tree : Tree) → IsThere tree → SameName (shown tree) (seen_at table depth true (sha256 (text tree)))
  unfolding name_of
  below_named depth nothing there = absurd there
  below_named depth (leaf path value) there = digest_of-shown (leaf path value) ∙ sym (digest_of-seen_at table depth true (sha256 (text (leaf path value))))
  below_named depth (branch value kids) there = digest_of-shown (branch value kids) ∙ sym (digest_of-seen_at table depth true (sha256 (text (branch value kids))))
  below_named depth (extension path child) there = digest_of-shown (extension path child) ∙ sym (digest_of-seen_at table depth true (sha256 (text (extension path child))))

  -- ---- a place alone

  child_top : (depth : ℕ) (tree : Tree) → depth ≤ longest_path → FitsBelow depth false tree → IsHeldText tree → SameTop (shown tree) (child_view depth tree)
  unfolding SameTop shown seen_child name_of
  child_top depth nothing room fits held = refl
  child_top depth (leaf path value) room fits held = top_seen_as (leaf path value) depth false room fits held tt
  child_top depth (branch value kids) room fits held = ((λ x. child_view (depth + 1) (kids x)), top_seen_as (branch value kids) depth false room fits held tt, (λ x small. child_named (depth + 1) (kids x)))
  child_top depth (extension path child) room fits held =
      (seen_at table (depth + length path) true (sha256 (text child)), top_seen_as (extension path child) depth false room fits held tt, below_named (depth + length path) child fits.2)

  -- ---- along the changes

  -- the texts that a batch touches below a place are held
  unfoldable pub HeldAlong : Tree → List Change → Type 0
  HeldAlong nothing changes = ⊤
  HeldAlong (leaf path value) changes = IsHeldText (leaf path value)
  HeldAlong (branch value kids) changes = IsHeldText (branch value kids)
      × ((x : ℕ) → x < 16 → IfTouched (changes_behind (x ∷ []) changes) (HeldAlong (kids x) (changes_behind (x ∷ []) changes)) ⊤)
      × ((x : ℕ) → merged_child (option_map value_ref value) (λ y. shown (kids y)) changes ≡ Some x → IsHeldText (kids x))
  HeldAlong (extension path child) changes = IsHeldText (extension path child) × IfTouched (changes_behind path changes) (HeldAlong child (changes_behind path changes)) ⊤

  abbrev SeenAlong : Tree → List Change → Type 0
  SeenAlong tree changes = (depth : ℕ) (after_extension : Bool) → depth ≤ longest_path → FitsBelow depth after_extension tree → HeldAlong tree changes → IsThere tree → SameAlong (shown tree) (seen_at table depth after_extension (sha256 (text tree))) changes

  child_along : (depth : ℕ) (tree : Tree) (changes : List Change) → depth ≤ longest_path → FitsBelow depth false tree → SeenAlong tree changes → IfTouched changes (HeldAlong tree changes) ⊤ → IfTouched changes (SameAlong (shown tree) (child_view depth tree) changes) (SameName (shown tree) (child_view depth tree))
  unfolding SameAlong shown seen_child name_of
  child_along depth tree [] room fits further held = child_named depth tree
  child_along depth nothing (c ∷ cs) room fits further held = refl
  child_along depth (leaf path value) (c ∷ cs) room fits further held = further depth false room fits held tt
  child_along depth (branch value kids) (c ∷ cs) room fits further held = further depth false room fits held tt
  child_along depth (extension path child) (c ∷ cs) room fits further held = further depth false room fits held tt

  below_along : (depth : ℕ) (tree : Tree) (changes : List Change) → depth ≤ longest_path → FitsBelow depth true tree → IsThere tree → SeenAlong tree changes → IfTouched changes (HeldAlong tree changes) ⊤ → IfTouched changes (SameAlong (shown tree) (seen_at table depth true (sha256 (text tree))) changes) (SameName (shown tree) (seen_at table depth true (sha256 (text tree))))
  below_along depth tree [] room fits there further held = below_named depth tree there
  below_along depth tree (c ∷ cs) room fits there further held = further depth true room fits held there

  pub seen_along : (tree : Tree) (changes : List Change) → SeenAlong tree changes
  unfolding HeldAlong SameAlong shown node_of
  seen_along nothing changes depth after_extension room fits held there = absurd there
  seen_along (leaf path value) changes depth after_extension room fits held there = top_seen_as (leaf path value) depth after_extension room fits held tt
  seen_along (branch value kids) changes depth after_extension room fits held there =
      let n : Node = node.branch (option_map value_ref value) (λ x. name_of (kids x) (text (kids x))) in
      let deeper = branch_room depth after_extension (option_map value_ref value) (λ x. name_of (kids x) (text (kids x))) (place_fits depth after_extension n fits.0.1) in (
        (λ x. child_view (depth + 1) (kids x)),
        top_seen_as (branch value kids) depth after_extension room fits held.0 tt,
        (λ x small. child_along (depth + 1) (kids x) (changes_behind (x ∷ []) changes) deeper (fits.1 x) (seen_along (kids x) (changes_behind (x ∷ []) changes)) (held.1 x small)),
        (λ x merged. child_top (depth + 1) (kids x) deeper (fits.1 x) (held.2 x merged)),
      )
  seen_along (extension path child) changes depth after_extension room fits held there =
      let n : Node = node.extension path (sha256 (text child)) in
      let deeper = extension_room depth after_extension path (sha256 (text child)) (place_fits depth after_extension n fits.0.1) in (
        seen_at table (depth + length path) true (sha256 (text child)),
        top_seen_as (extension path child) depth after_extension room fits held.0 tt,
        below_along (depth + length path) child (changes_behind path changes) (omega arith) fits.1 fits.2 (seen_along child (changes_behind path changes)) held.1,
      )
