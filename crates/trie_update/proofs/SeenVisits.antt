-- What is seen of a digest whose visit was done, by the copy of its node.
use Rattle.std.proofs.Common.{◌≡◌, ℕ, ◌+◌, ◌≤◌, ◌<◌, ◌&&◌, not, nat_lt, nat_le, Bool, true, false, List, length, Option, None, Some, Ok, option_map, refl, sym, ap, subst}
use Rattle.std.specs.Prelude.{IfSome, IsSomeAnd}
use Rattle.std.specs.FinMap.{get}
use Rattle.std.proofs.lemmas.Bool.{and_parts, not-true}
use Rattle.byte_model.specs.Nibbles.{AreNibbles}
use Rattle.byte_model.specs.PackedPath.{longest_path}
use Rattle.byte_model.specs.Node as node
use Rattle.byte_model.specs.Node.{Node, ValueRef, own_cost, longest_value}
use Rattle.byte_model.specs.Laws.{SameNode}
use Rattle.record_model.specs.Records.{has_shape}
use Rattle.record_model.specs.Fits.{fits_at, has_place, is_whole}
use Rattle.record_model.proofs.Fitting.{fitting_node-fits}
use Rattle.trie_model.specs.Root.{Table}
use Rattle.visit_model.specs.Seen.{Seen, leaf, branch, extension, seen_at, seen_node, seen_child}
use Rattle.visit_model.proofs.SeenBounds.{shape_fits, place_fits, branch_room, extension_room, extension_some}
use Rattle.visit_model.proofs.SeenTexts.{seen-node}
use Rattle.change_model.specs.Visits.{most_usage, leaf_cost, branch_cost, extension_cost}
use Rattle.base_core.specs.declared.hash.Digest.{Digest}
use Rattle.node_codec.specs.Meanings.{value_of, node_of, path_of, children_in}
use Rattle.node_codec.specs.declared.node.Node as code
use Rattle.node_codec.specs.declared.node.Node.TheVariants.{Leaf, Branch, Extension}
use Rattle.trie_update.specs.declared.visiting.Visited.{Visited}
use Rattle.trie_update.specs.Visiting.{AnswersVisit, IsVisited}
use Rattle.trie_update.proofs.Fitting.{leaf_room, leaf_length, branch_length}

-- ---- what fits

leaf_first : (depth : ℕ) (after_extension : Bool) (path : List ℕ) (ref : ValueRef) → has_place depth after_extension (node.leaf path ref) ≡ true → not after_extension ≡ true
unfolding has_place
leaf_first depth after_extension path ref fits = (and_parts (is_whole (depth + length path) && nat_le (depth + length path) longest_path) (not after_extension) fits).1

extension_first : (depth : ℕ) (after_extension : Bool) (path child : List ℕ) → has_place depth after_extension (node.extension path child) ≡ true → not after_extension ≡ true
unfolding has_place
extension_first depth after_extension path child fits = (and_parts (nat_lt (depth + length path) longest_path) (not after_extension) fits).1

ref_small : (ref : Option ValueRef) (kids : ℕ → Option (List ℕ)) → has_shape (node.branch ref kids) ≡ true → IfSome ref (λ r. r.length ≤ longest_value)
ref_small None kids shape = tt
ref_small (Some ref) kids shape = branch_length ref kids shape

module _ (table : Table) (depth : ℕ) (after_extension : Bool) (digest : Digest) (visited : Visited) where
  pub record SeesLeaf (path : List ℕ) (ref : ValueRef) : Type 0 where
    pub seen : seen_at table depth after_extension digest.0 ≡ leaf digest.0 visited.stated path ref
    pub own : visited.own ≡ leaf_cost path ref
    pub most : visited.stated ≤ most_usage
    pub first : after_extension ≡ false
    pub nibbles : AreNibbles path
    pub room : depth + length path ≤ longest_path
    pub small : ref.length ≤ longest_value

  pub record SeesExtension (path child : List ℕ) : Type 0 where
    pub seen : seen_at table depth after_extension digest.0 ≡ extension digest.0 visited.stated path (seen_at table (depth + length path) true child)
    pub own : visited.own ≡ extension_cost path
    pub most : visited.stated ≤ most_usage
    pub first : after_extension ≡ false
    pub nibbles : AreNibbles path
    pub some : 0 < length path
    pub room : depth + length path < longest_path

  pub record SeesBranch (ref : Option ValueRef) (kids : ℕ → Option (List ℕ)) : Type 0 where
    pub below : ℕ → Seen
    pub seen : seen_at table depth after_extension digest.0 ≡ branch digest.0 visited.stated ref below
    pub children : (x : ℕ) → x < 16 → below x ≡ seen_child (seen_at table (depth + 1) false) (kids x)
    pub own : visited.own ≡ branch_cost ref
    pub most : visited.stated ≤ most_usage
    pub room : depth + 1 ≤ longest_path
    pub small : IfSome ref (λ r. r.length ≤ longest_value)

  -- by the copy
  abbrev pub SeesCopy : code.Node → Type 0
  SeesCopy (Leaf path value) = SeesLeaf path (value_of value)
  SeesCopy (Branch value kids) = SeesBranch (option_map value_of value) (children_in kids.value)
  SeesCopy (Extension path child) = SeesExtension path child.0

  -- ---- of the text that is held

  module _ (deep : depth ≤ longest_path) (text : List ℕ) (held : get table digest.0 ≡ Some text) where
    seen_is : (n : Node) → IsVisited text depth after_extension visited n → seen_at table depth after_extension digest.0 ≡ seen_node (seen_at table) depth digest.0 n visited.stated
    seen_is n h = seen-node table depth after_extension digest.0 text n visited.stated deep held h.fits

    fits_is : (n : Node) → IsVisited text depth after_extension visited n → fits_at depth after_extension n ≡ true
    fits_is n h = fitting_node-fits depth after_extension text n visited.stated h.fits

    by_leaf : (path : List ℕ) (ref : ValueRef) → AreNibbles path → IsVisited text depth after_extension visited (node.leaf path ref) → SeesLeaf path ref
    unfolding seen_node own_cost
    by_leaf path ref nibbles h =
        let fits = fits_is (node.leaf path ref) h in
        let place = place_fits depth after_extension (node.leaf path ref) fits in
        record {
          seen = seen_is (node.leaf path ref) h;
          own = h.own;
          most = h.most;
          first = not-true after_extension (leaf_first depth after_extension path ref place);
          nibbles = nibbles;
          room = leaf_room depth after_extension path ref place;
          small = leaf_length path ref (shape_fits depth after_extension (node.leaf path ref) fits);
        }

    by_extension : (path child : List ℕ) → AreNibbles path → IsVisited text depth after_extension visited (node.extension path child) → SeesExtension path child
    unfolding seen_node own_cost
    by_extension path child nibbles h =
        let fits = fits_is (node.extension path child) h in
        let place = place_fits depth after_extension (node.extension path child) fits in
        record {
          seen = seen_is (node.extension path child) h;
          own = h.own;
          most = h.most;
          first = not-true after_extension (extension_first depth after_extension path child place);
          nibbles = nibbles;
          some = extension_some path child (shape_fits depth after_extension (node.extension path child) fits);
          room = extension_room depth after_extension path child place;
        }

    by_branch : (ref : Option ValueRef) (kids copied : ℕ → Option (List ℕ)) → ((x : ℕ) → x < 16 → copied x ≡ kids x) → IsVisited text depth after_extension visited (node.branch ref kids) → SeesBranch ref copied
    unfolding seen_node own_cost
    by_branch ref kids copied same h =
        let fits = fits_is (node.branch ref kids) h in
        record {
          below = λ x. seen_child (seen_at table (depth + 1) false) (kids x);
          seen = seen_is (node.branch ref kids) h;
          children = λ x small. ap (seen_child (seen_at table (depth + 1) false)) (sym (same x small));
          own = h.own;
          most = h.most;
          room = branch_room depth after_extension ref kids (place_fits depth after_extension (node.branch ref kids) fits);
          small = ref_small ref kids (shape_fits depth after_extension (node.branch ref kids) fits);
        }

    by_copy : (copy : code.Node) (n : Node) → SameNode (node_of copy) n → AreNibbles (path_of copy) → IsVisited text depth after_extension visited n → SeesCopy copy
    by_copy (Leaf path value) (node.leaf p r) same nibbles h =
        subst (λ (q : List ℕ). SeesLeaf q (value_of value)) (sym same.0) (subst (λ (s : ValueRef). SeesLeaf p s) (sym same.1) (by_leaf p r (subst AreNibbles same.0 nibbles) h))
    by_copy (Leaf path value) (node.branch r kids) same nibbles h = absurd same
    by_copy (Leaf path value) (node.extension p c) same nibbles h = absurd same
    by_copy (Branch value kids) (node.leaf p r) same nibbles h = absurd same
    by_copy (Branch value kids) (node.branch r viewed) same nibbles h =
        subst (λ (s : Option ValueRef). SeesBranch s (children_in kids.value)) (sym same.0) (by_branch r viewed (children_in kids.value) same.1 h)
    by_copy (Branch value kids) (node.extension p c) same nibbles h = absurd same
    by_copy (Extension path child) (node.leaf p r) same nibbles h = absurd same
    by_copy (Extension path child) (node.branch r kids) same nibbles h = absurd same
    by_copy (Extension path child) (node.extension p c) same nibbles h =
        subst (λ (q : List ℕ). SeesExtension q child.0) (sym same.0) (subst (λ (d : List ℕ). SeesExtension p d) (sym same.1) (by_extension p c (subst AreNibbles same.0 nibbles) h))

  pub sees-visited : depth ≤ longest_path → AnswersVisit table digest depth after_extension (Ok visited) → SeesCopy visited.node
  sees-visited deep answer = go (get table digest.0) refl answer
    where
      go : (found : Option (List ℕ)) → get table digest.0 ≡ found → IsSomeAnd found (λ text. (n : Node) × IsVisited text depth after_extension visited n) → SeesCopy visited.node
      go None held h = absurd h
      go (Some text) held h = by_copy deep text held visited.node h.0 h.1.same h.1.nibbles h.1
