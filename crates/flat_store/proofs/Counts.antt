-- How many keys are changed, and how many blocks have changes.
use Rattle.std.proofs.Common.{◌≡◌, ℕ, ◌+◌, Bool, true, false, cond, not, List, [], ◌∷◌, filter, length, map, sum_by, Option, None, Some, Less, Equal, Greater, refl, sym, ap, subst, ◌∙◌, arith}
use Rattle.std.specs.Prelude.{nat_eq}
use Rattle.std.specs.Ordering.{is_eq}
use Rattle.std.specs.Option.{option_map}
use Rattle.std.specs.Map.{keys_of}
use Rattle.std.specs.List.{AllByRecursion, IsDistinct}
use Rattle.std.specs.Str.{bytes_eq}
use Rattle.std.specs.Cmp.Lexicographic.{nat_list_cmp_total, pointwise}
use Rattle.std.proofs.lemmas.List.Sums.{sum_by-cons}
use Rattle.std.proofs.lemmas.Map.Lookups.{exact_bytes}
use Rattle.std.proofs.lemmas.Map.Made.{IsDistinct-keys_filter}
use Rattle.std.specs.FinMap.{empty, entries, find, get-entries, entries-insert, len-empty, len-entries, same_map}
use Rattle.std.specs.FinMap.Entries.{by_order, put}
use Rattle.batch_model.specs.Changes.{Changes}
use Rattle.base_core.specs.ChangeMaps.{ChangeMap}
use Rattle.base_core.specs.declared.hash.Digest.{Digest}
use Rattle.base_core.proofs.ByteMaps.{order}
use Rattle.base_core.proofs.HashTables.{apart-seen, found, get-seen, len-seen, seen}
use Rattle.fork_model.specs.Trees.{ids_of}
use Rattle.fork_model.specs.Laws.{first_id}
use Rattle.fork_model.specs.States.{Block, ForkState, IsForkState, block_at, kept_changes, tree_of_blocks}
use Rattle.fork_model.proofs.Ids.{same_from, same-itself}
use Rattle.fork_model.proofs.Partition.{ids_apart}
use Rattle.fork_model.proofs.Told.{first-head}
use Rattle.flat_store.specs.Flats.{Deltas, FlatState, IsFlatOf, keys_changed}
use Rattle.flat_store.specs.Kept.{Batches, deltas_of}

-- how many keys a list of changes has, each entry by itself
abbrev Entry : Type 0
Entry = List ℕ × Changes

pub size : List Entry → ℕ
size [] = 0
size (e ∷ es) = length (entries e.1) + size es

size-sum : (es : List Entry) → sum_by (λ (e : Entry). length (entries e.1)) es ≡ size es
unfolding size
size-sum [] = refl
size-sum (e ∷ es) = sum_by-cons (λ (e : Entry). length (entries e.1)) e es ∙ ap (λ n. length (entries e.1) + n) (size-sum es)

size-put : (k : List ℕ) (v : Changes) (es : List Entry) → find order k es ≡ None → size (put order k v es) ≡ length (entries v) + size es
unfolding size
size-put k v [] none = omega arith
size-put k v (e ∷ es) none =
    elim (order k e.0) as (λ r. order k e.0 ≡ r → size (by_order r ((k, v) ∷ e ∷ es) ((e.0, v) ∷ es) (e ∷ put order k v es)) ≡ length (entries v) + (length (entries e.1) + size es)) [
      | Less ↦ λ _. refl
      | Equal ↦ λ same. absurd (not_none (ap (λ r. cond (is_eq r) (Some e.1) (find order k es)) (sym same) ∙ none))
      | Greater ↦ λ more. let behind : size (put order k v es) ≡ length (entries v) + size es = size-put k v es (ap (λ r. cond (is_eq r) (Some e.1) (find order k es)) (sym more) ∙ none) in omega (arith, behind)
    ] refl
  where
    not_none : Some e.1 ≡ None → ⊥
    not_none e = cc

size-seen : {K V : Type 0} (key : K → List ℕ) (f : V → Changes) (es : List (K × V)) → IsDistinct (λ (a b : K). pointwise nat_eq (key a) (key b)) (keys_of es) → size (entries (seen key f es)) ≡ size (map (λ (e : K × V). (key e.0, f e.1)) es)
unfolding IsDistinct size
size-seen key f [] h = ap size (nothing _ (sym (len-entries (empty {K = List ℕ} {X = Changes} {R = order})) ∙ len-empty order Changes))
  where
    nothing : (es : List Entry) → length es ≡ 0 → es ≡ []
    nothing [] e = refl
    nothing (x ∷ es) e = absurd (omega arith)
size-seen key f (e ∷ es) h =
    ap size (entries-insert nat_list_cmp_total (seen key f es) (key e.0) (f e.1))
    ∙ size-put (key e.0) (f e.1) (entries (seen key f es)) (sym (get-entries (seen key f es) (key e.0)) ∙ apart-seen key f e es h)
    ∙ ap (λ n. length (entries (f e.1)) + n) (size-seen key f es h.1)

-- ---- as the table has them

-- how many keys the batches of a table change
pub listed : List ChangeMap → ℕ
listed [] = 0
listed (m ∷ ms) = length (entries m.changes) + listed ms

listed-size : (es : Batches) → size (map (λ (e : Digest × ChangeMap). (e.0.0, e.1.changes)) es) ≡ listed (map (λ (e : Digest × ChangeMap). e.1) es)
unfolding listed size
listed-size [] = refl
listed-size (e ∷ es) = ap (λ n. length (entries e.1.changes) + n) (listed-size es)

pub keys-listed : (es : Batches) → IsDistinct (λ (a b : Digest). pointwise nat_eq a.0 b.0) (keys_of es) → keys_changed (deltas_of es) ≡ listed (map (λ (e : Digest × ChangeMap). e.1) es)
unfolding keys_changed
keys-listed es apart = size-sum (entries (deltas_of es)) ∙ size-seen (λ (d : Digest). d.0) (λ (m : ChangeMap). m.changes) es apart ∙ listed-size es

-- ---- as the live blocks have them

module _ (head : List ℕ) where
  abbrev behind : List Block → List Entry
  behind blocks = filter (λ (e : Entry). not (bytes_eq head e.0)) (map (λ (b : Block). (b.header.id, b.changes)) blocks)

  -- what is found behind the head
  behind-found : (blocks : List Block) (q : List ℕ) → found (λ (k : List ℕ). k) (behind blocks) q ≡ cond (bytes_eq q head) None (option_map (λ (b : Block). b.changes) (block_at blocks q))
  unfolding block_at
  behind-found [] q = by_test (bytes_eq q head)
    where
      by_test : (t : Bool) → None ≡ cond {A = Option Changes} t None None
      by_test true = refl
      by_test false = refl
  behind-found (b ∷ blocks) q = by_tests (bytes_eq head b.header.id) (bytes_eq q b.header.id) (bytes_eq q head) refl refl refl (behind-found blocks q)
    where
      by_tests : (s t u : Bool) → bytes_eq head b.header.id ≡ s → bytes_eq q b.header.id ≡ t → bytes_eq q head ≡ u
          → found (λ (k : List ℕ). k) (behind blocks) q ≡ cond (bytes_eq q head) None (option_map (λ (b : Block). b.changes) (block_at blocks q))
          → found (λ (k : List ℕ). k) (cond (not s) ((b.header.id, b.changes) ∷ behind blocks) (behind blocks)) q ≡ cond u None (option_map (λ (b : Block). b.changes) (cond t (Some b) (block_at blocks q)))
      by_tests true t true es et eu rest = rest ∙ ap (λ x. cond x None (option_map (λ (b : Block). b.changes) (block_at blocks q))) eu
      by_tests true true false es et eu rest = let no : false ≡ true = sym eu ∙ ap (λ k. bytes_eq q k) (same_from head b.header.id es) ∙ et in absurd cc
      by_tests true false false es et eu rest = rest ∙ ap (λ x. cond x None (option_map (λ (b : Block). b.changes) (block_at blocks q))) eu
      by_tests false true true es et eu rest = let no : false ≡ true = sym es ∙ ap (λ k. bytes_eq k b.header.id) (sym (same_from q head eu)) ∙ et in absurd cc
      by_tests false true false es et eu rest = ap (λ x. cond x (Some b.changes) (found (λ (k : List ℕ). k) (behind blocks) q)) et
      by_tests false false u es et eu rest = ap (λ x. cond x (Some b.changes) (found (λ (k : List ℕ). k) (behind blocks) q)) et ∙ rest ∙ ap (λ x. cond x None (option_map (λ (b : Block). b.changes) (block_at blocks q))) eu

  behind-size : (blocks : List Block) → sum_by (λ (b : Block). length (entries b.changes)) (filter (λ (b : Block). not (bytes_eq head b.header.id)) blocks) ≡ size (behind blocks)
  unfolding size
  behind-size [] = refl
  behind-size (b ∷ blocks) = by_test (not (bytes_eq head b.header.id)) (behind-size blocks)
    where
      by_test : (t : Bool) → sum_by (λ (b : Block). length (entries b.changes)) (filter (λ (b : Block). not (bytes_eq head b.header.id)) blocks) ≡ size (behind blocks)
          → sum_by (λ (b : Block). length (entries b.changes)) (cond t (b ∷ filter (λ (b : Block). not (bytes_eq head b.header.id)) blocks) (filter (λ (b : Block). not (bytes_eq head b.header.id)) blocks))
          ≡ size (cond t ((b.header.id, b.changes) ∷ behind blocks) (behind blocks))
      by_test true rest = sum_by-cons (λ (b : Block). length (entries b.changes)) b (filter (λ (b : Block). not (bytes_eq head b.header.id)) blocks) ∙ ap (λ n. length (entries b.changes) + n) rest
      by_test false rest = rest

ids-behind : (blocks : List Block) → keys_of (map (λ (b : Block). (b.header.id, b.changes)) blocks) ≡ ids_of (map (λ (b : Block). b.header) blocks)
ids-behind [] = refl
ids-behind (b ∷ blocks) = ap (λ ids. b.header.id ∷ ids) (ids-behind blocks)

-- all blocks but the head stand behind it
all-behind : (head : List ℕ) (blocks : List Block) → AllByRecursion (λ (y : List ℕ). bytes_eq head y ≡ false) (ids_of (map (λ (b : Block). b.header) blocks)) → length (behind head blocks) ≡ length blocks
all-behind head [] all = refl
all-behind head (b ∷ blocks) all =
    let here : length (behind head (b ∷ blocks)) ≡ length ((b.header.id, b.changes) ∷ behind head blocks) = ap (λ t. length (cond (not t) ((b.header.id, b.changes) ∷ behind head blocks) (behind head blocks))) all.0 in
    let rest : length (behind head blocks) ≡ length blocks = all-behind head blocks all.1 in
    omega (arith, here, rest)

module _ (blocks : ForkState) (flat : FlatState) (well : IsForkState blocks) (is : IsFlatOf blocks flat) where
  abbrev kept : List Entry
  kept = behind blocks.head blocks.blocks

  apart : IsDistinct bytes_eq (keys_of kept)
  apart =
      IsDistinct-keys_filter bytes_eq (λ (e : Entry). not (bytes_eq blocks.head e.0)) (map (λ (b : Block). (b.header.id, b.changes)) blocks.blocks)
      (subst (IsDistinct bytes_eq) (sym (ids-behind blocks.blocks)) (ids_apart (tree_of_blocks blocks) well.tree))

  as-seen : flat.deltas ≡ seen (λ (k : List ℕ). k) (λ (c : Changes). c) kept
  as-seen = same_map nat_list_cmp_total exact_bytes _ _ (λ q. is.deltas q ∙ sym (behind-found blocks.head blocks.blocks q) ∙ sym (get-seen (λ (k : List ℕ). k) (λ (c : Changes). c) kept q ∙ itself (found (λ (k : List ℕ). k) kept q)))
    where
      itself : (o : Option Changes) → option_map (λ (c : Changes). c) o ≡ o
      itself None = refl
      itself (Some c) = refl

  same-entries : (es : List Entry) → map (λ (e : Entry). (e.0, e.1)) es ≡ es
  same-entries [] = refl
  same-entries (e ∷ es) = ap (λ xs. e ∷ xs) (same-entries es)

  pub keys-kept : keys_changed flat.deltas ≡ kept_changes blocks
  unfolding keys_changed kept_changes
  keys-kept =
      size-sum (entries flat.deltas) ∙ ap (λ (m : Deltas). size (entries m)) as-seen ∙ size-seen (λ (k : List ℕ). k) (λ (c : Changes). c) kept apart ∙ ap size (same-entries kept)
      ∙ sym (behind-size blocks.head blocks.blocks)

  pub blocks-kept : length (entries flat.deltas) + 1 ≡ length blocks.blocks
  unfolding IsDistinct
  blocks-kept =
      let all : length (entries flat.deltas) ≡ length kept = ap (λ (m : Deltas). length (entries m)) as-seen ∙ sym (len-entries _) ∙ len-seen (λ (k : List ℕ). k) (λ (c : Changes). c) kept apart in
      ap (λ n. n + 1) all ∙ by_first blocks.blocks (first-head (tree_of_blocks blocks) well.tree) (ids_apart (tree_of_blocks blocks) well.tree)
    where
      by_first : (bs : List Block) → first_id (map (λ (b : Block). b.header) bs) ≡ Some blocks.head → IsDistinct bytes_eq (ids_of (map (λ (b : Block). b.header) bs)) → length (behind blocks.head bs) + 1 ≡ length bs
      by_first [] first apart = absurd cc
      by_first (b ∷ bs) first apart =
          let head : b.header.id ≡ blocks.head = cc in
          let others : AllByRecursion (λ (y : List ℕ). bytes_eq blocks.head y ≡ false) (ids_of (map (λ (b : Block). b.header) bs)) = subst (λ h. AllByRecursion (λ (y : List ℕ). bytes_eq h y ≡ false) (ids_of (map (λ (b : Block). b.header) bs))) head apart.0 in
          let here : bytes_eq blocks.head b.header.id ≡ true = ap (bytes_eq blocks.head) head ∙ same-itself blocks.head in
          let none : length (behind blocks.head (b ∷ bs)) ≡ length (behind blocks.head bs) = ap (λ t. length (cond (not t) ((b.header.id, b.changes) ∷ behind blocks.head bs) (behind blocks.head bs))) here in
          let rest : length (behind blocks.head bs) ≡ length bs = all-behind blocks.head bs others in
          omega (arith, none, rest)

-- ---- batch by batch

pub listed-more : (left rest : List ChangeMap) (m : ChangeMap) → left ≡ m ∷ rest → listed left ≡ length (entries m.changes) + listed rest
unfolding listed
listed-more left rest m steps = ap listed steps

pub listed-end : (left : List ChangeMap) → left ≡ [] → listed left ≡ 0
unfolding listed
listed-end left none = ap listed none
