-- What a move passes: no block twice, and no more blocks than have changes.
use Rattle.std.proofs.Common.{◌≡◌, ℕ, ◌≤◌, Bool, true, false, cond, ◌||◌, List, [], ◌∷◌, ◌++◌, length, map, Option, None, Some, is_some, refl, sym, ap, subst, ◌∙◌}
use Rattle.std.specs.Prelude.{nat_eq}
use Rattle.std.specs.Option.{option_map}
use Rattle.std.specs.Map.{lookup}
use Rattle.std.specs.List.{AllByRecursion, IsDistinct}
use Rattle.std.specs.List.Sorted.{IsPermutation}
use Rattle.std.specs.Str.{bytes_eq}
use Rattle.std.specs.Cmp.Lexicographic.{nat_list_eq_equiv, pointwise}
use Rattle.std.proofs.lemmas.List.{length-map}
use Rattle.std.proofs.lemmas.List.Sorted.{list_any-IsPermutation}
use Rattle.std.proofs.lemmas.Map.Keys.{IsDistinct-IsPermutation, IsDistinct-head, IsDistinct-tail}
use Rattle.std.proofs.lemmas.Map.Steps.{length-le_from_keys}
use Rattle.base_core.specs.ChangeMaps.{ChangeMap}
use Rattle.base_core.specs.declared.hash.Digest.{Digest}
use Rattle.fork_model.specs.Trees.{BlockTree, Header, IsTree, block_of, dropped, ids_of, is_among, is_live, moved, passed, prev_of}
use Rattle.fork_model.specs.Laws.{ids_behind}
use Rattle.fork_model.proofs.Ids.{same_from}
use Rattle.fork_model.proofs.Partition.{among_live, ids_apart}
use Rattle.fork_model.proofs.Told.{all-told}
use Rattle.fork_tree.proofs.Kept.{turned}
use Rattle.flat_store.specs.Flats.{HasSameBlocks}
use Rattle.flat_store.specs.Kept.{Batches, deltas_of}
use Rattle.flat_store.proofs.Tables.{batch_at, get-deltas}

-- ---- what stands in front

all-front : {X : Type 0} (P : X → Type 0) (xs ys : List X) → AllByRecursion P (xs ++ ys) → AllByRecursion P xs
all-front P [] ys all = tt
all-front P (x ∷ xs) ys all = (all.0, all-front P xs ys all.1)

distinct-front : (xs ys : List (List ℕ)) → IsDistinct bytes_eq (xs ++ ys) → IsDistinct bytes_eq xs
unfolding IsDistinct
distinct-front [] ys apart = tt
distinct-front (x ∷ xs) ys apart = (all-front (λ (y : List ℕ). bytes_eq x y ≡ false) xs ys apart.0, distinct-front xs ys apart.1)

among-front : (q : List ℕ) (xs ys : List (List ℕ)) → is_among q xs ≡ true → is_among q (xs ++ ys) ≡ true
among-front q [] ys e = absurd cc
among-front q (x ∷ xs) ys e = by_test (bytes_eq q x) refl (among-front q xs ys)
  where
    by_test : (b : Bool) → bytes_eq q x ≡ b → (is_among q xs ≡ true → is_among q (xs ++ ys) ≡ true) → is_among q ((x ∷ xs) ++ ys) ≡ true
    by_test true same behind = ap (λ b. b || is_among q (xs ++ ys)) same
    by_test false other behind = ap (λ b. b || is_among q (xs ++ ys)) other ∙ behind (ap (λ b. b || is_among q xs) (sym other) ∙ e)

all-among : (h q : List ℕ) (xs : List (List ℕ)) → AllByRecursion (λ (y : List ℕ). bytes_eq h y ≡ false) xs → is_among q xs ≡ true → bytes_eq h q ≡ false
all-among h q [] all e = absurd cc
all-among h q (x ∷ xs) all e = by_test (bytes_eq q x) refl (all-among h q xs all.1)
  where
    by_test : (b : Bool) → bytes_eq q x ≡ b → (is_among q xs ≡ true → bytes_eq h q ≡ false) → bytes_eq h q ≡ false
    by_test true same behind = ap (bytes_eq h) (same_from q x same) ∙ all.0
    by_test false other behind = behind (ap (λ b. b || is_among q xs) (sym other) ∙ e)

found-by : (es : Batches) (q : List ℕ) → lookup (pointwise nat_eq q) (map (λ (e : Digest × ChangeMap). (e.0.0, e.1)) es) ≡ batch_at es q
found-by [] q = refl
found-by (e ∷ es) q = ap (cond (pointwise nat_eq q e.0.0) (Some e.1)) (found-by es q)

-- ---- what is passed

module _ (tree : BlockTree) (id : List ℕ) (is : IsTree tree) (live : is_live tree id ≡ true) where
  abbrev rest : List (List ℕ)
  rest = (passed tree id ++ dropped tree id) ++ ids_behind (moved tree id)

  told : IsPermutation (ids_of tree.blocks) (tree.head ∷ rest)
  told = all-told tree id is live

  apart : IsDistinct bytes_eq (tree.head ∷ rest)
  apart = IsDistinct-IsPermutation bytes_eq turned _ _ told (ids_apart tree is)

  pub passed-apart : IsDistinct bytes_eq (passed tree id)
  passed-apart = distinct-front _ _ (distinct-front _ _ (IsDistinct-tail bytes_eq _ _ apart))

  passed-behind : (q : List ℕ) → is_among q (passed tree id) ≡ true → is_some (prev_of tree q) ≡ true
  passed-behind q among =
      let behind : is_among q rest ≡ true = among-front q (passed tree id ++ dropped tree id) _ (among-front q (passed tree id) _ among) in
      let other : bytes_eq q tree.head ≡ false = turned q tree.head ∙ all-among tree.head q rest (IsDistinct-head bytes_eq _ _ apart) behind in
      let there : is_some (block_of tree.blocks q) ≡ true = sym (among_live tree is q) ∙ list_any-IsPermutation (bytes_eq q) _ _ told ∙ ap (λ b. b || is_among q rest) other ∙ behind in
      ap (λ b. is_some (cond b None (option_map (λ (h : Header). h.prev) (block_of tree.blocks q)))) other ∙ by_case (block_of tree.blocks q) there
    where
      by_case : (o : Option Header) → is_some o ≡ true → is_some (option_map (λ (h : Header). h.prev) o) ≡ true
      by_case None e = absurd cc
      by_case (Some h) e = refl

  -- no more blocks are passed than have changes
  pub passed-few : (es : Batches) → HasSameBlocks tree (deltas_of es) → length (passed tree id) ≤ length es
  passed-few es same =
      subst (λ n. length (passed tree id) ≤ n) (length-map es (λ (e : Digest × ChangeMap). (e.0.0, e.1)))
      (length-le_from_keys nat_list_eq_equiv (passed tree id) (map (λ (e : Digest × ChangeMap). (e.0.0, e.1)) es) passed-apart (λ q among.
      ap is_some (found-by es q) ∙ some (batch_at es q) ∙ ap is_some (sym (get-deltas es q)) ∙ same q ∙ passed-behind q among))
    where
      some : (o : Option ChangeMap) → is_some o ≡ is_some (option_map (λ (m : ChangeMap). m.changes) o)
      some None = refl
      some (Some m) = refl
