-- The layout, the path and the shape of a record together: what is read is spelled so, and what is spelled so is read.
use Rattle.std.proofs.Common.{◌≡◌, ℕ, ◌^◌, ◌<◌, ◌==◌, Bool, true, false, List, [], ◌∷◌, ◌++◌, length, Option, None, Some, Result, Ok, Err, IfOk, IsOkAnd, refl, sym, ◌∙◌, ap, subst, arith, append-nil}
use Rattle.std.proofs.lemmas.Bool.{leb-true, le-leb, eqb-true, eqb-false, ne_eqb, and_parts, and_from, not-true, not_from_false}
use Rattle.std.proofs.lemmas.List.{nil_from_length, append_cancel_right}
use Rattle.byte_model.specs.Nibbles.{AreBytes, AreNibbles}
use Rattle.byte_model.specs.PackedPath.{packed}
use Rattle.byte_model.specs.Borsh.{borsh_u64}
use Rattle.byte_model.specs.Node as node
use Rattle.byte_model.specs.Node.{Node, spelled, spelled_value, IsShaped}
use Rattle.byte_model.specs.Laws.{FitsRecord, SameNode}
use Rattle.byte_model.proofs.Spellings.{spelled-same}
use Rattle.record_model.specs.Fields.{FrameFault, Cursor, start_of, end_of}
use Rattle.record_model.specs.Paths.{PathFault, path_in}
use Rattle.record_model.specs.Records.{Layout, leaf, branch, extension, layout_at, layout_of, child_in, has_shape, shaped, suited, node_in, record_in, HasShortPath, HasNibblesOnly, IsRecord}
use Rattle.record_model.proofs.Steps.{Gives, gives, and_then, by_test}
use Rattle.record_model.proofs.PackedPaths.{path_in-found, path_in-only}
use Rattle.record_model.proofs.Layouts.{spelled_layout, FitsLayout, HasPathBytes, layout_taken, layout_again}
use Rattle.record_model.proofs.Kids.{bitmap_of, digests_of, bitmap_of-fits, child_in-digest, child_in-past, child_in-again, spelled_children-child_in, child_count-same}

-- ---- the layout of all the bytes

record IsLayout (bytes : List ℕ) (read : Layout × ℕ) : Type 0 where
  pub spelling : bytes ≡ spelled_layout read.0 read.1
  pub fits : FitsLayout read.0
  pub path : HasPathBytes read.0
  pub usage_fits : read.1 < 2 ^ 64

layout_found : (bytes : List ℕ) → AreBytes bytes → Gives (layout_of bytes) (IsLayout bytes)
unfolding layout_of end_of
layout_found bytes small = and_then (layout_taken (start_of bytes) small) (λ layout h. by_test (length layout.1.left == 0)
    (λ e. gives _ (record {
      spelling = h.took.parts ∙ ap (λ (rest : List ℕ). spelled_layout layout.0.0 layout.0.1 ++ rest) (nil_from_length layout.1.left (eqb-true _ _ e)) ∙ append-nil (spelled_layout layout.0.0 layout.0.1);
      fits = h.fits;
      path = h.path;
      usage_fits = h.usage_fits;
    }))
    (λ _. record { given = tt }))

pub layout_only : (layout : Layout) (usage : ℕ) → FitsLayout layout → usage < 2 ^ 64 → layout_of (spelled_layout layout usage) ≡ Ok (layout, usage)
unfolding layout_of end_of
layout_only layout usage fits lt =
    let again = layout_again layout usage 0 [] fits lt in
    let all = ap (λ (bytes : List ℕ). layout_at (start_of bytes)) (sym (append-nil (spelled_layout layout usage))) ∙ again.1 in
    rw all refl

-- ---- paths and shapes

abbrev IsPathOf : Bool → List ℕ → List ℕ → Type 0
IsPathOf flag bytes path = AreNibbles path × (bytes ≡ packed flag path)

suited_found : (flag : Bool) (bytes : List ℕ) → AreBytes bytes → Gives (suited flag bytes) (IsPathOf flag bytes)
unfolding suited
suited_found flag bytes small = go flag (path_in bytes) refl (path_in-found bytes small)
  where
    go : (flag : Bool) (read : Result (List ℕ × Bool) PathFault) → path_in bytes ≡ read → IfOk read (λ path. AreNibbles path.0 × (bytes ≡ packed path.1 path.0)) → Gives (suited flag bytes) (IsPathOf flag bytes)
    go flag (Err fault) e h = rw e (record { given = tt })
    go true (Ok (path, true)) e h = rw e (gives path h)
    go true (Ok (path, false)) e h = rw e (record { given = tt })
    go false (Ok (path, true)) e h = rw e (record { given = tt })
    go false (Ok (path, false)) e h = rw e (gives path h)

suited_only : (flag : Bool) (path : List ℕ) → AreNibbles path → suited flag (packed flag path) ≡ Ok path
unfolding suited
suited_only true path small = rw (path_in-only true path small) refl
suited_only false path small = rw (path_in-only false path small) refl

pub shape_found : (n : Node) → has_shape n ≡ true → IsShaped n
shape_found (node.leaf path value) e = leb-true _ _ e
shape_found (node.branch None kids) e = leb-true _ _ e
shape_found (node.branch (Some value) kids) e = let both = and_parts _ _ e in (leb-true _ _ both.0, leb-true _ _ both.1)
shape_found (node.extension path child) e = λ empty. eqb-false (length path) 0 (not-true _ e) (ap length empty)

pub shape_only : (n : Node) → IsShaped n → has_shape n ≡ true
shape_only (node.leaf path value) h = le-leb _ _ h
shape_only (node.branch None kids) h = le-leb _ _ h
shape_only (node.branch (Some value) kids) h = and_from _ _ (le-leb _ _ h.0) (le-leb _ _ h.1)
shape_only (node.extension path child) h = not_from_false _ (ne_eqb (length path) 0 (λ e. h (nil_from_length path e)))

-- ---- the node of a layout

record IsNodeOf (layout : Layout) (n : Node) : Type 0 where
  pub spelling : (usage : ℕ) → spelled_layout layout usage ≡ spelled n usage
  pub fields : FitsRecord n
  pub path : HasShortPath n
  pub shape : IsShaped n
  pub nibbles : HasNibblesOnly n

shaped_found : (layout : Layout) (n : Node) → ((usage : ℕ) → spelled_layout layout usage ≡ spelled n usage) → FitsRecord n → HasShortPath n → HasNibblesOnly n → Gives (shaped n) (IsNodeOf layout)
unfolding shaped
shaped_found layout n spelling fields path nibbles = by_test (has_shape n) (λ e. gives _ (record { spelling = spelling; fields = fields; path = path; shape = shape_found n e; nibbles = nibbles })) (λ _. record { given = tt })

node_found : (layout : Layout) → FitsLayout layout → HasPathBytes layout → Gives (node_in layout) (IsNodeOf layout)
unfolding node_in spelled
node_found (leaf bytes value) fits small = and_then (suited_found true bytes small) (λ path h.
    shaped_found (leaf bytes value) (node.leaf path value)
    (λ usage. ap (λ bytes. spelled_layout (leaf bytes value) usage) h.1)
    (h.0, fits.1)
    (subst (λ bytes. length bytes < 2 ^ 32) h.1 fits.0)
    tt)
node_found (branch None bitmap digests) fits small =
    shaped_found (branch None bitmap digests) (node.branch None (child_in bitmap digests))
    (λ usage. ap (λ (kids : List ℕ). 1 ∷ (kids ++ borsh_u64 usage)) (sym (spelled_children-child_in bitmap digests fits.1)))
    (tt, child_in-digest bitmap digests fits.1)
    tt
    (child_in-past bitmap digests fits.1.0)
node_found (branch (Some value) bitmap digests) fits small =
    shaped_found (branch (Some value) bitmap digests) (node.branch (Some value) (child_in bitmap digests))
    (λ usage. ap (λ (kids : List ℕ). 2 ∷ ((spelled_value value ++ kids) ++ borsh_u64 usage)) (sym (spelled_children-child_in bitmap digests fits.1)))
    (fits.0, child_in-digest bitmap digests fits.1)
    tt
    (child_in-past bitmap digests fits.1.0)
node_found (extension bytes child) fits small = and_then (suited_found false bytes small) (λ path h.
    shaped_found (extension bytes child) (node.extension path child)
    (λ usage. ap (λ bytes. spelled_layout (extension bytes child) usage) h.1)
    (h.0, fits.1)
    (subst (λ bytes. length bytes < 2 ^ 32) h.1 fits.0)
    tt)

-- the fields of a node's record
abbrev layout_from : Node → Layout
layout_from (node.leaf path value) = leaf (packed true path) value
layout_from (node.branch value kids) = branch value (bitmap_of kids) (digests_of kids)
layout_from (node.extension path child) = extension (packed false path) child

layout_from-fits : (n : Node) → FitsRecord n → HasShortPath n → FitsLayout (layout_from n)
layout_from-fits (node.leaf path value) fields short = (short, fields.1)
layout_from-fits (node.branch value kids) fields short = (fields.0, bitmap_of-fits kids fields.1)
layout_from-fits (node.extension path child) fields short = (short, fields.1)

spelled_layout-from : (n : Node) (usage : ℕ) → spelled n usage ≡ spelled_layout (layout_from n) usage
unfolding spelled node.spelled_children
spelled_layout-from (node.leaf path value) usage = refl
spelled_layout-from (node.branch None kids) usage = refl
spelled_layout-from (node.branch (Some value) kids) usage = refl
spelled_layout-from (node.extension path child) usage = refl

-- a branch's children, read from their own bitmap and digests
abbrev children_again : (ℕ → Option (List ℕ)) → ℕ → Option (List ℕ)
children_again kids = child_in (bitmap_of kids) (digests_of kids)

node_only : (n : Node) → FitsRecord n → IsShaped n → (m : Node) × (node_in (layout_from n) ≡ Ok m) × SameNode m n × HasNibblesOnly m
unfolding node_in shaped
node_only (node.leaf path value) fields shape =
    (node.leaf path value, rw (suited_only true path fields.0, shape_only (node.leaf path value) shape) refl, (refl, refl), tt)
node_only (node.branch None kids) fields shape =
    let same = child_in-again kids fields.1 in
    let many = child_count-same (children_again kids) kids same in
    let shape : has_shape (node.branch None (children_again kids)) ≡ true = shape_only (node.branch None (children_again kids)) (omega (arith, many, shape)) in
    (node.branch None (children_again kids), rw shape refl, (refl, same), child_in-past (bitmap_of kids) (digests_of kids) (bitmap_of-fits kids fields.1).0)
node_only (node.branch (Some value) kids) fields shape =
    let same = child_in-again kids fields.1 in
    let many = child_count-same (children_again kids) kids same in
    let shape : has_shape (node.branch (Some value) (children_again kids)) ≡ true = shape_only (node.branch (Some value) (children_again kids)) (shape.0, omega (arith, many, shape.1)) in
    (node.branch (Some value) (children_again kids), rw shape refl, (refl, same), child_in-past (bitmap_of kids) (digests_of kids) (bitmap_of-fits kids fields.1).0)
node_only (node.extension path child) fields shape =
    (node.extension path child, rw (suited_only false path fields.0, shape_only (node.extension path child) shape) refl, (refl, refl), tt)

-- ---- records

pub record_in-found : (bytes : List ℕ) → AreBytes bytes → Gives (record_in bytes) (λ r. IsRecord r.0 r.1 bytes × HasNibblesOnly r.0)
unfolding record_in
record_in-found bytes small = go (layout_of bytes) refl (layout_found bytes small)
  where
    go : (read : Result (Layout × ℕ) FrameFault) → layout_of bytes ≡ read → Gives read (IsLayout bytes) → Gives (record_in bytes) (λ r. IsRecord r.0 r.1 bytes × HasNibblesOnly r.0)
    go (Err fault) e h = rw e (record { given = tt })
    go (Ok layout) e h = let layout_is = h.given in rw e (and_then (node_found layout.0 layout_is.fits layout_is.path) (λ n k. gives _ (
      record {
        spelling = layout_is.spelling ∙ k.spelling layout.1;
        fields = k.fields;
        path = k.path;
        usage_fits = layout_is.usage_fits;
        shape = k.shape;
      },
      k.nibbles,
    )))

pub record_in-only : (n : Node) (usage : ℕ) (bytes : List ℕ) → IsRecord n usage bytes → IsOkAnd (record_in bytes) (λ r. SameNode r.0 n × (r.1 ≡ usage) × HasNibblesOnly r.0)
unfolding record_in
record_in-only n usage bytes h =
    let layout : layout_of bytes ≡ Ok (layout_from n, usage) = ap layout_of (h.spelling ∙ spelled_layout-from n usage) ∙ layout_only (layout_from n) usage (layout_from-fits n h.fields h.path) h.usage_fits in
    let read = node_only n h.fields h.shape in
    rw (layout, read.1) (read.2, refl, read.3)

-- ---- what begins with a record

abbrev left_behind : Result ((Layout × ℕ) × Cursor) FrameFault → List ℕ
left_behind (Ok read) = read.1.left
left_behind (Err e) = []

-- reading leaves what stands behind it
spelled-leaves : (n : Node) (usage : ℕ) (rest : List ℕ) → FitsRecord n → HasShortPath n → usage < 2 ^ 64 → left_behind (layout_at (start_of (spelled n usage ++ rest))) ≡ rest
spelled-leaves n usage rest fields short lt =
    ap (λ (bytes : List ℕ). left_behind (layout_at (start_of (bytes ++ rest)))) (spelled_layout-from n usage) ∙ ap left_behind (layout_again (layout_from n) usage 0 rest (layout_from-fits n fields short) lt).1

pub spelled-not_prefix : (m n : Node) (usage other : ℕ) (more rest : List ℕ) → FitsRecord m → HasShortPath m → usage < 2 ^ 64 → FitsRecord n → HasShortPath n → other < 2 ^ 64 → spelled m usage ++ more ≡ spelled n other ++ rest → SameNode m n × (usage ≡ other) × (more ≡ rest)
spelled-not_prefix m n usage other more rest fields short lt fields' short' lt' e =
    let behind : more ≡ rest = sym (spelled-leaves m usage more fields short lt) ∙ ap (λ (bytes : List ℕ). left_behind (layout_at (start_of bytes))) e ∙ spelled-leaves n other rest fields' short' lt' in
    let same : spelled m usage ≡ spelled n other = append_cancel_right (spelled m usage) (spelled n other) more (e ∙ ap (λ (bytes : List ℕ). spelled n other ++ bytes) (sym behind)) in
    let both = spelled-same m n usage other fields fields' lt lt' same in
    (both.0, both.1, behind)

pub record-not_prefix : (m n : Node) (usage other : ℕ) (one two more rest : List ℕ) → IsRecord m usage one → IsRecord n other two → one ++ more ≡ two ++ rest → SameNode m n × (usage ≡ other) × (one ≡ two)
record-not_prefix m n usage other one two more rest h k e =
    let spellings : spelled m usage ++ more ≡ spelled n other ++ rest = ap (λ (bytes : List ℕ). bytes ++ more) (sym h.spelling) ∙ e ∙ ap (λ (bytes : List ℕ). bytes ++ rest) k.spelling in
    let both = spelled-not_prefix m n usage other more rest h.fields h.path h.usage_fits k.fields k.path k.usage_fits spellings in
    (both.0, both.1, append_cancel_right one two more (e ∙ ap (λ (bytes : List ℕ). two ++ bytes) (sym both.2)))
