-- Rows over whose top changes are laid: none, one, or those of a branch with a path before them; what the top shows of them here and behind each nibble.
use Rattle.std.proofs.Common.{◌≡◌, ◌≢◌, ℕ, ◌==◌, true, false, if◌then◌else◌, List, [], ◌∷◌, None, Some, option_map, inl, inr, refl, sym, ◌∙◌, ap, subst, arith}
use Rattle.std.specs.List.{cons_option}
use Rattle.std.proofs.lemmas.Bool.{false≢true, cases_eq}
use Rattle.std.proofs.lemmas.Bool.Decides.{nat_tests}
use Rattle.trie_model.specs.State.{Row}
use Rattle.trie_model.specs.Tree as tree
use Rattle.trie_model.specs.Tree.{Tree, rest_behind, below, ends_here, tree_of}
use Rattle.trie_model.specs.Texts.{value_ref}
use Rattle.trie_model.specs.Grown.{under}
use Rattle.trie_model.proofs.Rests.{below-nil, below-none, below-under, same_nibble}
use Rattle.trie_model.proofs.Trees.{tree_of-nil, tree_of-one}
use Rattle.trie_model.proofs.Growth.{tree_of-under, under-nil, below-under_other}
use Rattle.batch_model.specs.Changes.{Change}
use Rattle.change_model.specs.Places.{is_branch}
use Rattle.change_model.proofs.Forks.{Fork, below-under_cons}
use Rattle.update_model.specs.Tops.{Top, empty, leaf, branch, extension, top_of, lowered, top_behind, ref_here}
use Rattle.update_model.specs.Updates.{Outcome, fork_outcome, laid_step}
use Rattle.update_model.proofs.Joints.{top_of-grown}

-- ---- rows behind a nibble

pub below-under_same : (x : ℕ) (path : List ℕ) (rows : List Row) → below (x ∷ []) (under (x ∷ path) rows) ≡ under path rows
below-under_same x path rows = below-under_cons x x [] path rows ∙ below-nil (below (x ∷ []) (under (x ∷ []) (under path rows))) ∙ below-under (x ∷ []) (under path rows)

pub below-under_apart : (x y : ℕ) (path : List ℕ) (rows : List Row) → x ≢ y → below (x ∷ []) (under (y ∷ path) rows) ≡ []
below-under_apart x y path rows apart = below-under_cons x y [] path rows ∙ below-nil (below (x ∷ []) (under (y ∷ []) (under path rows))) ∙ below-under_other x y (under path rows) apart

-- by what is known of the branch's rows
module _ (Right : List Row → Type 0) where
  pub data Layable (rows : List Row) : Type 0 where
    no_row : rows ≡ [] → Layable rows
    one_row : (row : Row) → rows ≡ row ∷ [] → Layable rows
    before_branch : (path : List ℕ) (inner : List Row) → rows ≡ under path inner → Fork inner → Right inner → Layable rows

  -- where they don't fork here: what the top shows here and behind each nibble is what the rows have there
  pub record Behind (old : Top) (rows : List Row) : Type 0 where
    pub ref : ref_here old ≡ option_map value_ref (ends_here rows)
    pub behind : (x : ℕ) → top_behind x old ≡ top_of (tree_of (below (x ∷ []) rows))
    pub further : (x : ℕ) → Layable (below (x ∷ []) rows)
    pub forks : (f : Top → List Change → Outcome) (child : List Change → Outcome) (changes : List Change) → laid_step f child old changes ≡ fork_outcome f old changes

  pub behind_none : Behind empty []
  unfolding ref_here ends_here top_behind top_of
  behind_none = record {
    ref = refl;
    behind = λ x. ap top_of (sym (ap tree_of (below-none (x ∷ [])) ∙ tree_of-nil));
    further = λ x. no_row (below-none (x ∷ []));
    forks = λ f child changes. refl;
  }

  pub behind_one : (path value : List ℕ) → Behind (leaf path (value_ref value)) ((path, value) ∷ [])
  unfolding ref_here ends_here top_behind top_of below rest_behind
  behind_one [] value = record {
    ref = refl;
    behind = λ x. ap top_of (sym tree_of-nil);
    further = λ x. no_row refl;
    forks = λ f child changes. refl;
  }
  behind_one (y ∷ path) value = record {
    ref = refl;
    behind = λ x. elim (x == y) as (λ b. (if b then leaf path (value_ref value) else empty) ≡ top_of (tree_of (cons_option (option_map (λ (rest : List ℕ). (rest, value)) (if b then Some path else None)) []))) [
      | true ↦ ap top_of (sym (tree_of-one (path, value)))
      | false ↦ ap top_of (sym tree_of-nil)
    ];
    further = λ x. elim (x == y) as (λ b. Layable (cons_option (option_map (λ (rest : List ℕ). (rest, value)) (if b then Some path else None)) [])) [
      | true ↦ one_row (path, value) refl
      | false ↦ no_row refl
    ];
    forks = λ f child changes. refl;
  }

  pub ends_here-under : (x : ℕ) (path : List ℕ) (rows : List Row) → ends_here (under (x ∷ path) rows) ≡ None
  unfolding ends_here
  ends_here-under x path [] = refl
  ends_here-under x path (row ∷ rows) = ends_here-under x path rows

  pub behind_path : (y : ℕ) (path : List ℕ) (inner : List Row) (digest : List ℕ) (used : ℕ) → top_of (tree_of inner) ≡ branch digest used → Fork inner → Right inner → Behind (extension (y ∷ path) digest used) (under (y ∷ path) inner)
  unfolding ref_here top_behind top_of lowered
  behind_path y path inner digest used top fork right = record {
    ref = ap (option_map value_ref) (sym (ends_here-under y path inner));
    behind = λ x. elim (cases_eq x y) [
      | inl same ↦
          let test : (x == y) ≡ true = ap (λ z. z == y) same ∙ same_nibble y in
          ap (λ b. if b then lowered path (branch digest used) else empty) test
          ∙ ap (lowered path) (sym top)
          ∙ sym (top_of-grown path (tree_of inner))
          ∙ ap top_of (sym (tree_of-under path inner))
          ∙ ap (λ (rs : List Row). top_of (tree_of rs)) (sym (subst (λ z. below (z ∷ []) (under (y ∷ path) inner) ≡ under path inner) (sym same) (below-under_same y path inner)))
      | inr apart ↦
          let test : (x == y) ≡ false = grind (arith, nat_tests) in
          ap (λ b. if b then lowered path (branch digest used) else empty) test
          ∙ ap top_of (sym tree_of-nil)
          ∙ ap (λ (rs : List Row). top_of (tree_of rs)) (sym (below-under_apart x y path inner apart))
    ];
    further = λ x. elim (cases_eq x y) [
      | inl same ↦ before_branch path inner (subst (λ z. below (z ∷ []) (under (y ∷ path) inner) ≡ under path inner) (sym same) (below-under_same y path inner)) fork right
      | inr apart ↦ no_row (below-under_apart x y path inner apart)
    ];
    forks = λ f child changes. refl;
  }

  -- the top of rows that fork
  pub fork-top : (inner : List Row) → Fork inner → (digest : List ℕ) × (used : ℕ) × (top_of (tree_of inner) ≡ branch digest used)
  unfolding is_branch top_of
  fork-top inner fork = go (tree_of inner) refl fork
    where
      go : (t : Tree) → tree_of inner ≡ t → is_branch t ≡ true → (digest : List ℕ) × (used : ℕ) × (top_of (tree_of inner) ≡ branch digest used)
      go tree.nothing e h = absurd (false≢true h)
      go (tree.leaf path value) e h = absurd (false≢true h)
      go (tree.branch value kids) e h = (_, _, ap top_of e)
      go (tree.extension path below_it) e h = absurd (false≢true h)

  -- Such rows don't fork here, or are the branch's.
  pub data Laid (rows : List Row) : Type 0 where
    before_fork : Behind (top_of (tree_of rows)) rows → Laid rows
    at_branch : (digest : List ℕ) (used : ℕ) → top_of (tree_of rows) ≡ branch digest used → Right rows → Laid rows

  pub layable-cases : (rows : List Row) → Layable rows → Laid rows
  unfolding top_of lowered
  layable-cases rows (no_row e) = before_fork (subst (λ (rs : List Row). Behind (top_of (tree_of rs)) rs) (sym e) (subst (λ t. Behind (top_of t) []) (sym tree_of-nil) behind_none))
  layable-cases rows (one_row row e) = before_fork (subst (λ (rs : List Row). Behind (top_of (tree_of rs)) rs) (sym e) (subst (λ t. Behind (top_of t) (row ∷ [])) (sym (tree_of-one row)) (behind_one row.0 row.1)))
  layable-cases rows (before_branch [] inner e forks right) =
      let t = fork-top inner forks in
      let same : rows ≡ inner = e ∙ under-nil inner in
      at_branch t.0 t.1 (ap (λ (rs : List Row). top_of (tree_of rs)) same ∙ t.2) (subst Right (sym same) right)
  layable-cases rows (before_branch (y ∷ path) inner e forks right) =
      let t = fork-top inner forks in
      let whole : top_of (tree_of (under (y ∷ path) inner)) ≡ extension (y ∷ path) t.0 t.1 = ap top_of (tree_of-under (y ∷ path) inner) ∙ top_of-grown (y ∷ path) (tree_of inner) ∙ ap (lowered (y ∷ path)) t.2 in
      before_fork (subst (λ (rs : List Row). Behind (top_of (tree_of rs)) rs) (sym e) (subst (λ (top : Top). Behind top (under (y ∷ path) inner)) (sym whole) (behind_path y path inner t.0 t.1 t.2 forks right)))
