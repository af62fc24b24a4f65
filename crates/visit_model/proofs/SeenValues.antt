-- What holds of each value that is seen, by the nodes that were read: keys of whole bytes, and key and value within the limits.
use Rattle.std.proofs.Common.{◌≡◌, ℕ, zero, suc, ◌+◌, ◌-◌, ◌%◌, ◌<◌, ◌≤◌, ◌&&◌, not, nat_le, nat_lt, nat_eq, Bool, true, false, if◌then◌else◌, List, [], ◌∷◌, ◌++◌, length, Option, None, Some, Result, Ok, Err, refl, sym, ◌∙◌, ap, arith, length-append}
use Rattle.std.specs.List.{AllByRecursion}
use Rattle.std.specs.Cmp.Lexicographic.{pointwise}
use Rattle.std.specs.FinMap.{get}
use Rattle.std.proofs.lemmas.Bool.{and_parts}
use Rattle.std.proofs.lemmas.Bool.Decides.{nat_tests}
use Rattle.byte_model.specs.Below.{joined_below}
use Rattle.byte_model.proofs.Lists.{AllByRecursion-append}
use Rattle.byte_model.specs.PackedPath.{longest_path}
use Rattle.byte_model.specs.Node as node
use Rattle.byte_model.specs.Node.{Node, ValueRef, longest_value, child_count}
use Rattle.record_model.specs.Records.{RecordFault, record_in}
use Rattle.record_model.specs.Fits.{is_whole, has_place, fits_at}
use Rattle.trie_model.specs.Root.{Table, zero_digest}
use Rattle.visit_model.specs.Seen.{Seen, nothing, bad, Looks, seen_child, seen_node, seen_record, seen_text, seen_within, seen_at, seen}
use Rattle.visit_model.proofs.Rows.{Named, beneath, name_here, named_in}

-- ---- a property that passes from each node to its parent

-- a node that was read at a depth
pub record WasRead (table : Table) (depth : ℕ) (after_extension : Bool) (n : Node) : Type 0 where
  pub digest : List ℕ
  pub text : List ℕ
  pub usage : ℕ
  pub held : get table digest ≡ Some text
  pub spells : record_in text ≡ Ok (n, usage)
  pub fits : fits_at depth after_extension n ≡ true

-- a property of the values below a depth: of those that a node names, and of those that it is told of its children
pub record PassesUp (table : Table) (P : ℕ → Named → Type 0) : Type 0 where
  pub leaf : (depth : ℕ) (after_extension : Bool) (path : List ℕ) (ref : ValueRef) → WasRead table depth after_extension (node.leaf path ref) → P depth (path, ref)
  pub here : (depth : ℕ) (after_extension : Bool) (ref : ValueRef) (kids : ℕ → Option (List ℕ)) → WasRead table depth after_extension (node.branch (Some ref) kids) → P depth ([], ref)
  pub in_branch : (depth x : ℕ) (name : Named) → x < 16 → P (depth + 1) name → P depth (x ∷ name.0, name.1)
  pub in_extension : (depth : ℕ) (after_extension : Bool) (path child : List ℕ) → WasRead table depth after_extension (node.extension path child) → (name : Named) → P (depth + length path) name → P depth (path ++ name.0, name.1)

all-beneath : (P Q : Named → Type 0) (prefix : List ℕ) → ((name : Named) → P name → Q (prefix ++ name.0, name.1)) → (names : List Named) → AllByRecursion P names → AllByRecursion Q (beneath prefix names)
all-beneath P Q prefix step [] h = tt
all-beneath P Q prefix step (name ∷ names) h = (step name h.0, all-beneath P Q prefix step names h.1)

all-joined_below : (P : Named → Type 0) (names : ℕ → List Named) (n : ℕ) → ((x : ℕ) → x < n → AllByRecursion P (names x)) → AllByRecursion P (joined_below names n)
unfolding joined_below
all-joined_below P names zero each = tt
all-joined_below P names (suc n) each = AllByRecursion-append P (joined_below names n) (names n) (all-joined_below P names n (λ x h. each x (omega arith))) (each n (omega arith))

module _ (table : Table) (P : ℕ → Named → Type 0) (passes : PassesUp table P) where
  -- it holds of all values below what is looked at
  abbrev LooksSo : Looks → Type 0
  LooksSo look = (depth : ℕ) (after_extension : Bool) (digest : List ℕ) → AllByRecursion (P depth) (named_in (look depth after_extension digest))

  all_of_child : (look : Looks) → LooksSo look → (depth : ℕ) (child : Option (List ℕ)) → AllByRecursion (P (depth + 1)) (named_in (seen_child (look (depth + 1) false) child))
  unfolding seen_child named_in
  all_of_child look so depth None = tt
  all_of_child look so depth (Some digest) = so (depth + 1) false digest

  all_here : (depth : ℕ) (after_extension : Bool) (value : Option ValueRef) (kids : ℕ → Option (List ℕ)) → WasRead table depth after_extension (node.branch value kids) → AllByRecursion (P depth) (name_here value)
  all_here depth after_extension None kids h = tt
  all_here depth after_extension (Some ref) kids h = (passes.here depth after_extension ref kids h, tt)

  all_of_node : (look : Looks) → LooksSo look → (depth : ℕ) (after_extension : Bool) (digest : List ℕ) (n : Node) (usage : ℕ) → WasRead table depth after_extension n → AllByRecursion (P depth) (named_in (seen_node look depth digest n usage))
  unfolding seen_node named_in
  all_of_node look so depth after_extension digest (node.leaf path ref) usage h = (passes.leaf depth after_extension path ref h, tt)
  all_of_node look so depth after_extension digest (node.branch value kids) usage h =
      let child : ℕ → Seen = λ x. seen_child (look (depth + 1) false) (kids x) in
      AllByRecursion-append (P depth) (name_here value) (joined_below (λ x. beneath (x ∷ []) (named_in (child x))) 16) (all_here depth after_extension value kids h)
      (all-joined_below (P depth) (λ x. beneath (x ∷ []) (named_in (child x))) 16 (λ x small. all-beneath (P (depth + 1)) (P depth) (x ∷ []) (λ name k. passes.in_branch depth x name small k) (named_in (child x)) (all_of_child look so depth (kids x))))
  all_of_node look so depth after_extension digest (node.extension path child) usage h =
      all-beneath (P (depth + length path)) (P depth) path (passes.in_extension depth after_extension path child h) (named_in (look (depth + length path) true child)) (so (depth + length path) true child)

  all_of_text : (look : Looks) → LooksSo look → (depth : ℕ) (after_extension : Bool) (digest : List ℕ) (text : Option (List ℕ)) → get table digest ≡ text → AllByRecursion (P depth) (named_in (seen_text look depth after_extension digest text))
  unfolding seen_text seen_record named_in
  all_of_text look so depth after_extension digest None held = tt
  all_of_text look so depth after_extension digest (Some text) held = go (record_in text) refl
    where
      go : (r : Result (Node × ℕ) RecordFault) → record_in text ≡ r → AllByRecursion (P depth) (named_in (seen_record look depth after_extension digest r))
      go (Err fault) e = tt
      go (Ok r) e =
          elim (fits_at depth after_extension r.0) as (λ b. fits_at depth after_extension r.0 ≡ b → AllByRecursion (P depth) (named_in (if b then seen_node look depth digest r.0 r.1 else bad digest))) [
            | true ↦ λ h. all_of_node look so depth after_extension digest r.0 r.1 (record { digest = digest; text = text; usage = r.1; held = held; spells = e; fits = h })
            | false ↦ λ h. tt
          ] refl

  all_within : (n : ℕ) → LooksSo (seen_within n table)
  unfolding seen_within named_in
  all_within zero depth after_extension digest = tt
  all_within (suc n) depth after_extension digest = all_of_text (seen_within n table) (all_within n) depth after_extension digest (get table digest) refl

  pub all_seen : (root : List ℕ) → AllByRecursion (P 0) (named_in (seen table root))
  unfolding seen seen_at named_in
  all_seen root =
      elim (pointwise nat_eq root zero_digest) as (λ b. AllByRecursion (P 0) (named_in (if b then nothing else seen_at table 0 false root))) [
        | true ↦ tt
        | false ↦ all_within (suc longest_path - 0) 0 false root
      ]

-- ---- keys and values within their limits

-- a value below so many nibbles
pub record NameFits (depth : ℕ) (name : Named) : Type 0 where
  pub whole : (depth + length name.0) % 2 ≡ 0
  pub path_length : depth + length name.0 ≤ longest_path
  pub value_length : name.1.length ≤ longest_value

is_whole-even : (n : ℕ) → is_whole n ≡ true → n % 2 ≡ 0
is_whole-even n h = grind (arith, nat_tests)

nat_le-le : (m n : ℕ) → nat_le m n ≡ true → m ≤ n
nat_le-le m n h = grind (arith, nat_tests)

nat_lt-lt : (m n : ℕ) → nat_lt m n ≡ true → m < n
nat_lt-lt m n h = grind (arith, nat_tests)

fits_leaf : (depth : ℕ) (after_extension : Bool) (path : List ℕ) (ref : ValueRef) → fits_at depth after_extension (node.leaf path ref) ≡ true → NameFits depth (path, ref)
unfolding has_place
fits_leaf depth after_extension path ref h =
    let n : ℕ = depth + length path in
    let fits = and_parts (nat_le ref.length longest_value) (is_whole n && nat_le n longest_path && not after_extension) h in
    let ends = and_parts (is_whole n) (nat_le n longest_path) (and_parts (is_whole n && nat_le n longest_path) (not after_extension) fits.1).0 in
    record {
      whole = is_whole-even n ends.0;
      path_length = nat_le-le n longest_path ends.1;
      value_length = nat_le-le ref.length longest_value fits.0;
    }

fits_here : (depth : ℕ) (after_extension : Bool) (ref : ValueRef) (kids : ℕ → Option (List ℕ)) → fits_at depth after_extension (node.branch (Some ref) kids) ≡ true → NameFits depth ([], ref)
unfolding has_place
fits_here depth after_extension ref kids h =
    let fits = and_parts (nat_le ref.length longest_value && nat_le 1 (child_count kids)) (nat_lt depth longest_path && is_whole depth) h in
    let shape = and_parts (nat_le ref.length longest_value) (nat_le 1 (child_count kids)) fits.0 in
    let place = and_parts (nat_lt depth longest_path) (is_whole depth) fits.1 in
    let inside : depth < longest_path = nat_lt-lt depth longest_path place.0 in
    let even : depth % 2 ≡ 0 = is_whole-even depth place.1 in
    record {
      whole = omega arith;
      path_length = omega arith;
      value_length = nat_le-le ref.length longest_value shape.0;
    }

fits_behind : (depth : ℕ) (prefix : List ℕ) (name : Named) → NameFits (depth + length prefix) name → NameFits depth (prefix ++ name.0, name.1)
fits_behind depth prefix name h =
    let long = length-append prefix name.0 in
    let same : (depth + length prefix) + length name.0 ≡ depth + length (prefix ++ name.0) = omega arith in
    let fits : (depth + length prefix) + length name.0 ≤ longest_path = h.path_length in
    record { whole = ap (λ n. n % 2) (sym same) ∙ h.whole; path_length = omega arith; value_length = h.value_length }

pub fit-seen : (table : Table) (root : List ℕ) → AllByRecursion (NameFits 0) (named_in (seen table root))
fit-seen table root = all_seen table NameFits (record {
  leaf = λ depth after_extension path ref h. fits_leaf depth after_extension path ref h.fits;
  here = λ depth after_extension ref kids h. fits_here depth after_extension ref kids h.fits;
  in_branch = λ depth x name small h. fits_behind depth (x ∷ []) name h;
  in_extension = λ depth after_extension path child h name k. fits_behind depth path name k;
}) root
