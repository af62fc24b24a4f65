-- Sums over the places of a trie, and the places of rows below a path.
use Rattle.std.proofs.Common.{◌≡◌, ◌≢◌, ℕ, ◌+◌, Bool, true, cond, List, [], ◌∷◌, ◌++◌, sum_by, ◌⊎◌, inl, inr, refl, sym, ◌∙◌, ap, ap₂, subst, arith, append_assoc}
use Rattle.std.specs.Prelude.{nat_eq}
use Rattle.std.specs.List.{list_any}
use Rattle.std.specs.Cmp.Lexicographic.{pointwise}
use Rattle.std.proofs.lemmas.List.{append_cancel_left}
use Rattle.std.proofs.lemmas.List.Sums.{sum_by-cons}
use Rattle.byte_model.proofs.Lists.{first_same}
use Rattle.byte_model.proofs.Below.{sum_below-none}
use Rattle.trie_model.specs.State.{Row}
use Rattle.trie_model.specs.Tree.{below, ends_here, common_prefix, tree_of}
use Rattle.trie_model.specs.Texts.{places}
use Rattle.trie_model.proofs.Members.{IsIn}
use Rattle.trie_model.proofs.Rests.{below-append}
use Rattle.trie_model.proofs.Trees.{tree_of-nil, tree_of-one, tree_of-forks, tree_of-shares}
use Rattle.trie_model.proofs.Children.{in_branch, in_extension}
use Rattle.trie_model.proofs.Pairs.{Small, small-below}
use Rattle.change_model.specs.Places.{above}
use Rattle.change_model.proofs.Forks.{Fork, Stands, at_root, at_fork, behind_fork, stands, places_stand}
use Rattle.change_model.proofs.Laid.{same_tests}
use Rattle.change_model.proofs.Left.{has_rows}
use Rattle.change_model.proofs.Touched.{above-behind, split_last}
pub use Rattle.change_model.proofs.Touching.{sum_by-branch, sum_by-extension}
use Rattle.change_model.proofs.Touched.{any_of_in, in_of_any}

-- ---- sums

pub sum_by-none : {X : Type 0} (g : X → ℕ) (xs : List X) → ((x : X) → IsIn xs x → g x ≡ 0) → sum_by g xs ≡ 0
sum_by-none g [] none = refl
sum_by-none g (x ∷ xs) none =
    let h = sum_by-none g xs (λ y i. none y (inr i)) in
    let first = none x (inl refl) in
    sum_by-cons g x xs ∙ (omega arith)

pub sum_by-agree : {X : Type 0} (g h : X → ℕ) (xs : List X) → ((x : X) → g x ≡ h x) → sum_by g xs ≡ sum_by h xs
sum_by-agree g h [] same = refl
sum_by-agree g h (x ∷ xs) same = sum_by-cons g x xs ∙ ap₂ (λ (a b : ℕ). a + b) (same x) (sum_by-agree g h xs same) ∙ sym (sum_by-cons h x xs)

-- what is 0 at all places but the root
pub sum_at_root : (g : List ℕ → ℕ) (rows : List Row) → ((q : List ℕ) → IsIn (places (tree_of rows)) q → q ≢ [] → g q ≡ 0) → sum_by g (places (tree_of rows)) ≡ cond (has_rows rows) (g []) 0
unfolding places has_rows
sum_at_root g [] none = ap (λ t. sum_by g (places t)) tree_of-nil
sum_at_root g (row ∷ []) none = ap (λ t. sum_by g (places t)) (tree_of-one row) ∙ sum_by-cons g [] [] ∙ (let n : ℕ = g [] in omega arith)
sum_at_root g (row ∷ next ∷ others) none = go (common_prefix row (next ∷ others)) refl
  where
    rows : List Row
    rows = row ∷ next ∷ others

    some : (x : ℕ) (q : List ℕ) → x ∷ q ≢ []
    some x q e = cc

    go : (prefix : List ℕ) → common_prefix row (next ∷ others) ≡ prefix → sum_by g (places (tree_of (row ∷ next ∷ others))) ≡ g []
    go [] e =
        let t = tree_of-forks row next others e in
        let zeros = sum_below-none (λ x. sum_by (λ q. g (x ∷ q)) (places (tree_of (below (x ∷ []) rows)))) 16 (λ x h. sum_by-none (λ q. g (x ∷ q)) (places (tree_of (below (x ∷ []) rows))) (λ q i.
        none (x ∷ q) (subst (λ tree. IsIn (places tree) (x ∷ q)) (sym t) (in_branch (ends_here rows) (λ y. tree_of (below (y ∷ []) rows)) x q h i)) (some x q))) in
        ap (λ tree. sum_by g (places tree)) t ∙ sum_by-branch g (ends_here rows) (λ x. tree_of (below (x ∷ []) rows)) ∙ (omega arith)
    go (x ∷ prefix) e =
        let t = tree_of-shares row next others x prefix e in
        let zeros = sum_by-none (λ q. g (x ∷ prefix ++ q)) (places (tree_of (below (x ∷ prefix) rows))) (λ q i.
        none (x ∷ (prefix ++ q)) (subst (λ tree. IsIn (places tree) (x ∷ (prefix ++ q))) (sym t) (in_extension (x ∷ prefix) (tree_of (below (x ∷ prefix) rows)) q i)) (some x (prefix ++ q))) in
        ap (λ tree. sum_by g (places tree)) t ∙ sum_by-extension g (x ∷ prefix) (tree_of (below (x ∷ prefix) rows)) ∙ (omega arith)

-- ---- places below a path

abbrev pub place_in : List Row → List ℕ → Bool
place_in rows place = list_any (λ other. pointwise nat_eq other place) (places (tree_of rows))

pub place_is_in : (rows : List Row) (place : List ℕ) → IsIn (places (tree_of rows)) place → place_in rows place ≡ true
place_is_in rows place h = any_of_in place (places (tree_of rows)) h

pub place_stands : (rows : List Row) (place : List ℕ) → place_in rows place ≡ true → Stands rows place
place_stands rows place e = stands rows place (in_of_any place (places (tree_of rows)) e)

pub place_of_stands : (rows : List Row) (place : List ℕ) → Small rows → Stands rows place → place_in rows place ≡ true
place_of_stands rows place small h = place_is_in rows place (places_stand rows small place h)

same_ends : (p q : List ℕ) (x y : ℕ) → p ++ x ∷ [] ≡ q ++ y ∷ [] → (p ≡ q) × (x ≡ y)
same_ends p q x y e =
    let fronts : p ≡ q = sym (above-behind p x) ∙ ap above e ∙ above-behind q y in
    (fronts, first_same (append_cancel_left q (x ∷ []) (y ∷ []) (ap (λ (r : List ℕ). r ++ x ∷ []) (sym fronts) ∙ e)))

module _ (p : List ℕ) (rows : List Row) where
  stands-down : (q : List ℕ) → q ≢ [] → Stands rows (p ++ q) → Stands (below p rows) q
  stands-down q some (at_root e there) = absurd (some (tail_none p q e))
    where
      tail_none : (p q : List ℕ) → p ++ q ≡ [] → q ≡ []
      tail_none [] q e = e
      tail_none (x ∷ p) q e = cc
  stands-down q some (at_fork f) = at_fork (subst Fork (below-append p q rows) f)
  stands-down q some (behind_fork s y path f there) = go (split_last q)
    where
      go : (q ≡ []) ⊎ ((r : List ℕ) × (x : ℕ) × (q ≡ r ++ x ∷ [])) → Stands (below p rows) q
      go (inl none) = absurd (some none)
      go (inr last) =
          let ends = same_ends (p ++ last.0) s last.1 y (append_assoc p last.0 (last.1 ∷ []) ∙ ap (λ (r : List ℕ). p ++ r) (sym last.2) ∙ path) in
          behind_fork last.0 last.1 last.2
          (subst Fork (below-append p last.0 rows) (subst (λ (r : List ℕ). Fork (below r rows)) (sym ends.0) f))
          (subst (λ (rs : List Row). rs ≢ []) (below-append p q rows) there)

  stands-up : (q : List ℕ) → q ≢ [] → Stands (below p rows) q → Stands rows (p ++ q)
  stands-up q some (at_root e there) = absurd (some e)
  stands-up q some (at_fork f) = at_fork (subst Fork (sym (below-append p q rows)) f)
  stands-up q some (behind_fork s y path f there) =
      behind_fork (p ++ s) y (ap (λ (r : List ℕ). p ++ r) path ∙ sym (append_assoc p s (y ∷ [])))
      (subst Fork (sym (below-append p s rows)) f)
      (subst (λ (rs : List Row). rs ≢ []) (sym (below-append p q rows)) there)

  -- further down than the path itself
  pub place_in-behind : (q : List ℕ) → Small rows → q ≢ [] → place_in rows (p ++ q) ≡ place_in (below p rows) q
  place_in-behind q small some =
      same_tests (place_in rows (p ++ q)) (place_in (below p rows) q)
      (λ e. place_of_stands (below p rows) q (small-below p rows small) (stands-down q some (place_stands rows (p ++ q) e)))
      (λ e. place_of_stands rows (p ++ q) small (stands-up q some (place_stands (below p rows) q e)))
