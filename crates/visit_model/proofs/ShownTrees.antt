-- What is seen of a trie whose texts are all held, and whose nodes fit, is the trie.
use Rattle.std.proofs.Common.{◌≡◌, ℕ, ◌+◌, ◌<◌, ◌≤◌, ◌&&◌, nat_le, nat_lt, Bool, true, false, if◌then◌else◌, List, length, Option, None, Some, option_map, Result, Ok, Err, IsOkAnd, ◌⊎◌, inl, inr, refl, sym, ◌∙◌, ap, ap₂, arith}
use Rattle.std.specs.FinMap.{get}
use Rattle.std.proofs.lemmas.Bool.{cases_lt}
use mathlib.Core.Path.{fun_ext}
use Rattle.sha2.specs.Sha256.{sha256}
use Rattle.byte_model.specs.PackedPath.{longest_path}
use Rattle.byte_model.specs.Node as node
use Rattle.byte_model.specs.Node.{Node, ValueRef, longest_value, child_count}
use Rattle.byte_model.specs.Laws.{SameNode}
use Rattle.record_model.specs.Records.{IsRecord, HasNibblesOnly, RecordFault, record_in}
use Rattle.record_model.specs.Fits.{fits_at, has_place, is_whole}
use Rattle.record_model.proofs.Kids.{child_count-same}
use Rattle.record_model.proofs.Nodes.{record_in-only}
use Rattle.trie_model.specs.Tree.{Tree, nothing, leaf, branch, extension}
use Rattle.trie_model.specs.Texts.{text, usage, name_of, node_of, value_ref}
use Rattle.trie_model.specs.Root.{Table}
use Rattle.trie_model.proofs.Members.{IsIn, in-joined_below}
use Rattle.trie_model.proofs.Places.{gathered, tree_texts}
use Rattle.visit_model.specs.Seen as seen
use Rattle.visit_model.specs.Seen.{Seen, seen_child, seen_node, seen_record, seen_text, seen_at}
use Rattle.visit_model.specs.Shown.{shown}
use Rattle.visit_model.proofs.SeenBounds.{seen_at-seen_text, place_fits, branch_room, extension_room}
use Rattle.visit_model.proofs.ShownFits.{IsThere, FitsBelow}

-- ---- the same node fits at the same places

branch-same : (depth : ℕ) (after_extension : Bool) (value : Option ValueRef) (kids others : ℕ → Option (List ℕ)) → child_count kids ≡ child_count others → fits_at depth after_extension (node.branch value kids) ≡ fits_at depth after_extension (node.branch value others)
unfolding has_place
branch-same depth after_extension None kids others count = ap (λ n. nat_le 2 n && nat_lt depth longest_path) count
branch-same depth after_extension (Some value) kids others count = ap (λ n. (nat_le value.length longest_value && nat_le 1 n) && (nat_lt depth longest_path && is_whole depth)) count

fits_at-same : (depth : ℕ) (after_extension : Bool) (m n : Node) → SameNode m n → fits_at depth after_extension m ≡ fits_at depth after_extension n
fits_at-same depth after_extension (node.leaf path value) (node.leaf other_path other_value) same = ap₂ (λ p v. fits_at depth after_extension (node.leaf p v)) same.0 same.1
fits_at-same depth after_extension (node.leaf path value) (node.branch other kids) same = absurd same
fits_at-same depth after_extension (node.leaf path value) (node.extension other child) same = absurd same
fits_at-same depth after_extension (node.branch value kids) (node.leaf path other) same = absurd same
fits_at-same depth after_extension (node.branch value kids) (node.branch other others) same =
    ap (λ v. fits_at depth after_extension (node.branch v kids)) same.0 ∙ branch-same depth after_extension other kids others (child_count-same kids others same.1)
fits_at-same depth after_extension (node.branch value kids) (node.extension other child) same = absurd same
fits_at-same depth after_extension (node.extension path child) (node.leaf other value) same = absurd same
fits_at-same depth after_extension (node.extension path child) (node.branch value kids) same = absurd same
fits_at-same depth after_extension (node.extension path child) (node.extension other_path other_child) same = ap₂ (λ p c. fits_at depth after_extension (node.extension p c)) same.0 same.1

-- ---- the texts of a tree

-- that of its top is among them
pub top_text : (tree : Tree) → IsThere tree → IsIn (tree_texts tree) (text tree)
unfolding gathered
top_text nothing there = absurd there
top_text (leaf path value) there = inl refl
top_text (branch value kids) there = inl refl
top_text (extension path child) there = inl refl

-- ---- a text, by the record that it is

module _ (table : Table) where
  -- the text of a tree is seen as the tree
  abbrev pub Sees : ℕ → Bool → Tree → Type 0
  Sees depth after_extension tree = seen_at table depth after_extension (sha256 (text tree)) ≡ shown tree

  -- what the top node of a tree is seen as, whichever of the same nodes was read
  abbrev pub TopSees : ℕ → Tree → Node → Seen → Type 0
  TopSees depth tree n target = (m : Node) → SameNode m n → HasNibblesOnly m → seen_node (seen_at table) depth (sha256 (text tree)) m (usage tree) ≡ target

  abbrev Shows : ℕ → Tree → Node → Type 0
  Shows depth tree n = TopSees depth tree n (shown tree)

  record_seen : (depth : ℕ) (after_extension : Bool) (tree : Tree) (n : Node) (target : Seen) (read : Result (Node × ℕ) RecordFault) → IsOkAnd read (λ r. SameNode r.0 n × (r.1 ≡ usage tree) × HasNibblesOnly r.0) → fits_at depth after_extension n ≡ true → TopSees depth tree n target → seen_record (seen_at table) depth after_extension (sha256 (text tree)) read ≡ target
  unfolding seen_record
  record_seen depth after_extension tree n target (Err e) is fits sees = absurd is
  record_seen depth after_extension tree n target (Ok r) is fits sees =
      ap (λ b. if b then seen_node (seen_at table) depth (sha256 (text tree)) r.0 r.1 else seen.bad (sha256 (text tree))) (fits_at-same depth after_extension r.0 n is.0 ∙ fits)
      ∙ ap (seen_node (seen_at table) depth (sha256 (text tree)) r.0) is.1
      ∙ sees r.0 is.0 is.2

  -- The text of a tree's top node is held: the top is seen, whatever is seen below it.
  pub top_seen : (depth : ℕ) (after_extension : Bool) (tree : Tree) (n : Node) (target : Seen) → depth ≤ longest_path → get table (sha256 (text tree)) ≡ Some (text tree) → IsRecord n (usage tree) (text tree) → fits_at depth after_extension n ≡ true → TopSees depth tree n target → seen_at table depth after_extension (sha256 (text tree)) ≡ target
  unfolding seen_text
  top_seen depth after_extension tree n target room held is fits sees =
      seen_at-seen_text table depth after_extension (sha256 (text tree)) room
      ∙ ap (seen_text (seen_at table) depth after_extension (sha256 (text tree))) held
      ∙ record_seen depth after_extension tree n target (record_in (text tree)) (record_in-only n (usage tree) (text tree) is) fits sees

  -- ---- by what the tree is

  leaf_shows : (depth : ℕ) (path value : List ℕ) → Shows depth (leaf path value) (node.leaf path (value_ref value))
  unfolding seen_node shown
  leaf_shows depth path value (node.leaf p v) same none = ap₂ (seen.leaf (sha256 (text (leaf path value))) (usage (leaf path value))) same.0 same.1
  leaf_shows depth path value (node.branch v kids) same none = absurd same
  leaf_shows depth path value (node.extension p child) same none = absurd same

  child_seen : (depth : ℕ) (tree : Tree) → (IsThere tree → Sees depth false tree) → seen_child (seen_at table depth false) (name_of tree (text tree)) ≡ shown tree
  unfolding seen_child name_of shown
  child_seen depth nothing sees = refl
  child_seen depth (leaf path value) sees = sees tt
  child_seen depth (branch value kids) sees = sees tt
  child_seen depth (extension path child) sees = sees tt

  no_child_seen : (depth : ℕ) (tree : Tree) (child : Option (List ℕ)) → child ≡ None → tree ≡ nothing → seen_child (seen_at table depth false) child ≡ shown tree
  unfolding seen_child shown
  no_child_seen depth tree child none e = ap (seen_child (seen_at table depth false)) none ∙ ap shown (sym e)

  branch_shows : (depth : ℕ) (value : Option (List ℕ)) (kids : ℕ → Tree) → ((x : ℕ) → x < 16 → IsThere (kids x) → Sees (depth + 1) false (kids x)) → ((x : ℕ) → 16 ≤ x → kids x ≡ nothing) → Shows depth (branch value kids) (node.branch (option_map value_ref value) (λ x. name_of (kids x) (text (kids x))))
  unfolding seen_node shown
  branch_shows depth value kids further past (node.leaf p v) same none = absurd same
  branch_shows depth value kids further past (node.branch v ks) same none =
      ap₂ (seen.branch (sha256 (text (branch value kids))) (usage (branch value kids))) same.0 (fun_ext (λ x. each x (cases_lt x 16)))
    where
      each : (x : ℕ) → (x < 16) ⊎ (16 ≤ x) → seen_child (seen_at table (depth + 1) false) (ks x) ≡ shown (kids x)
      each x (inl small) = ap (seen_child (seen_at table (depth + 1) false)) (same.1 x small) ∙ child_seen (depth + 1) (kids x) (further x small)
      each x (inr large) = no_child_seen (depth + 1) (kids x) (ks x) (none x large) (past x large)
  branch_shows depth value kids further past (node.extension p child) same none = absurd same

  extension_shows : (depth : ℕ) (path : List ℕ) (child : Tree) → Sees (depth + length path) true child → Shows depth (extension path child) (node.extension path (sha256 (text child)))
  unfolding seen_node shown
  extension_shows depth path child further (node.leaf p v) same none = absurd same
  extension_shows depth path child further (node.branch v kids) same none = absurd same
  extension_shows depth path child further (node.extension p digest) same none =
      ap₂ (λ q d. seen.extension (sha256 (text (extension path child))) (usage (extension path child)) q (seen_at table (depth + length q) true d)) same.0 same.1
      ∙ ap (seen.extension (sha256 (text (extension path child))) (usage (extension path child)) path) further

  -- ---- all of the tree

  -- each of its texts stands under its digest
  abbrev pub AreHeld : Tree → Type 0
  AreHeld tree = (t : List ℕ) → IsIn (tree_texts tree) t → get table (sha256 t) ≡ Some t

  top_held : (tree : Tree) → IsThere tree → AreHeld tree → get table (sha256 (text tree)) ≡ Some (text tree)
  top_held tree there held = held (text tree) (top_text tree there)

  branch_child_held : (value : Option (List ℕ)) (kids : ℕ → Tree) (x : ℕ) → x < 16 → AreHeld (branch value kids) → AreHeld (kids x)
  unfolding gathered
  branch_child_held value kids x small held t h = held t (inr (in-joined_below (λ i. gathered text (kids i)) 16 x t small h))

  child_held : (path : List ℕ) (child : Tree) → AreHeld (extension path child) → AreHeld child
  unfolding gathered
  child_held path child held t h = held t (inr h)

  pub tree_seen : (tree : Tree) (depth : ℕ) (after_extension : Bool) → depth ≤ longest_path → FitsBelow depth after_extension tree → AreHeld tree → IsThere tree → Sees depth after_extension tree
  unfolding node_of
  tree_seen nothing depth after_extension room fits held there = absurd there
  tree_seen (leaf path value) depth after_extension room fits held there =
      top_seen depth after_extension (leaf path value) (node.leaf path (value_ref value)) (shown (leaf path value)) room (top_held (leaf path value) tt held) fits.0 fits.1 (leaf_shows depth path value)
  tree_seen (branch value kids) depth after_extension room fits held there =
      let n : Node = node.branch (option_map value_ref value) (λ x. name_of (kids x) (text (kids x))) in
      let deeper = branch_room depth after_extension (option_map value_ref value) (λ x. name_of (kids x) (text (kids x))) (place_fits depth after_extension n fits.0.1) in
      top_seen depth after_extension (branch value kids) n (shown (branch value kids)) room (top_held (branch value kids) tt held) fits.0.0 fits.0.1
      (branch_shows depth value kids (λ x small there. tree_seen (kids x) (depth + 1) false deeper (fits.1 x) (branch_child_held value kids x small held) there) fits.2)
  tree_seen (extension path child) depth after_extension room fits held there =
      let n : Node = node.extension path (sha256 (text child)) in
      let deeper = extension_room depth after_extension path (sha256 (text child)) (place_fits depth after_extension n fits.0.1) in
      top_seen depth after_extension (extension path child) n (shown (extension path child)) room (top_held (extension path child) tt held) fits.0.0 fits.0.1
      (extension_shows depth path child (tree_seen child (depth + length path) true (omega arith) fits.1 (child_held path child held) fits.2))
