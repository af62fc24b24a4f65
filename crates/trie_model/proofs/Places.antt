-- The places of a trie: what stands at each, seen in the tree and in the rows below.
use Rattle.std.proofs.Common.{◌≡◌, ℕ, ◌<◌, List, [], ◌∷◌, map, Option, refl, sym, ◌∙◌, ap, ap₂, subst}
use Rattle.byte_model.specs.Below.{joined_below}
use Rattle.trie_model.specs.State.{Row}
use Rattle.trie_model.specs.Tree.{Tree, nothing, leaf, branch, extension, below, tree_of}
use Rattle.trie_model.specs.Texts.{text, behind, places}
use Rattle.byte_model.proofs.Below.{map-joined_below, joined_below-agree}
use Rattle.trie_model.proofs.Rests.{below-nil, below-append}
use Rattle.trie_model.proofs.Trees.{tree_of-nil, tree_of-one, tree_of-forks, tree_of-shares, by_cases}

-- what F makes of each subtree of a tree, in the order of their places
unfoldable pub gathered : {X : Type 0} → (Tree → X) → Tree → List X
gathered F nothing = []
gathered F (leaf path value) = F (leaf path value) ∷ []
gathered F (branch value kids) = F (branch value kids) ∷ joined_below (λ x. gathered F (kids x)) 16
gathered F (extension path child) = F (extension path child) ∷ gathered F child

-- what F makes of the trie of the rows below a place
abbrev pub at_place : {X : Type 0} → (Tree → X) → List Row → List ℕ → X
at_place F rows place = F (tree_of (below place rows))

-- behind a prefix, it is that of the rows below the prefix
pub map-behind : {X : Type 0} (F : Tree → X) (rows : List Row) (prefix : List ℕ) (paths : List (List ℕ)) → map (at_place F rows) (behind prefix paths) ≡ map (at_place F (below prefix rows)) paths
map-behind F rows prefix [] = refl
map-behind {X} F rows prefix (path ∷ paths) = ap₂ (λ (a : X) (others : List X). a ∷ others) (ap (λ rs. F (tree_of rs)) (below-append prefix path rows)) (map-behind F rows prefix paths)

abbrev Gathers : {X : Type 0} → (Tree → X) → List Row → Type 0
Gathers F rows = map (at_place F rows) (places (tree_of rows)) ≡ gathered F (tree_of rows)

at_top : {X : Type 0} (F : Tree → X) (rows : List Row) (tree : Tree) → tree_of rows ≡ tree → at_place F rows [] ≡ F tree
at_top F rows tree e = ap (λ rs. F (tree_of rs)) (below-nil rows) ∙ ap F e

gathers_none : {X : Type 0} (F : Tree → X) → Gathers F []
unfolding places gathered
gathers_none F = subst (λ t. map (at_place F []) (places t) ≡ gathered F t) (sym tree_of-nil) refl

gathers_one : {X : Type 0} (F : Tree → X) (row : Row) → Gathers F (row ∷ [])
unfolding places gathered
gathers_one {X} F row =
    let e = tree_of-one row in
    subst (λ t. map (at_place F (row ∷ [])) (places t) ≡ gathered F t) (sym e) (ap (λ (a : X). a ∷ []) (at_top F (row ∷ []) _ e))

gathers_branch : {X : Type 0} (F : Tree → X) (rows : List Row) (value : Option (List ℕ)) → tree_of rows ≡ branch value (λ x. tree_of (below (x ∷ []) rows)) → ((x : ℕ) → Gathers F (below (x ∷ []) rows)) → Gathers F rows
unfolding places gathered
gathers_branch {X} F rows value e further =
    let each : (x : ℕ) → x < 16 → map (at_place F rows) (behind (x ∷ []) (places (tree_of (below (x ∷ []) rows)))) ≡ gathered F (tree_of (below (x ∷ []) rows)) = λ x _. map-behind F rows (x ∷ []) _ ∙ further x in
    subst (λ t. map (at_place F rows) (places t) ≡ gathered F t) (sym e)
    (ap₂ (λ (a : X) (others : List X). a ∷ others) (at_top F rows _ e)
    (map-joined_below (at_place F rows) (λ x. behind (x ∷ []) (places (tree_of (below (x ∷ []) rows)))) 16 ∙ joined_below-agree _ _ 16 each))

gathers_extension : {X : Type 0} (F : Tree → X) (rows : List Row) (prefix : List ℕ) → tree_of rows ≡ extension prefix (tree_of (below prefix rows)) → Gathers F (below prefix rows) → Gathers F rows
unfolding places gathered
gathers_extension {X} F rows prefix e further =
    subst (λ t. map (at_place F rows) (places t) ≡ gathered F t) (sym e)
    (ap₂ (λ (a : X) (others : List X). a ∷ others) (at_top F rows _ e) (map-behind F rows prefix _ ∙ further))

-- The trie of the rows below a place is the subtree there.
pub map-places : {X : Type 0} (F : Tree → X) (rows : List Row) → map (at_place F rows) (places (tree_of rows)) ≡ gathered F (tree_of rows)
map-places F = by_cases (Gathers F) (record {
  none = gathers_none F;
  one = gathers_one F;
  forks = λ row next rows e further. gathers_branch F (row ∷ next ∷ rows) _ (tree_of-forks row next rows e) further;
  shares = λ row next rows x prefix e further. gathers_extension F (row ∷ next ∷ rows) (x ∷ prefix) (tree_of-shares row next rows x prefix e) further;
})

-- the texts of a tree by recursion
abbrev pub tree_texts : Tree → List (List ℕ)
tree_texts tree = gathered text tree
