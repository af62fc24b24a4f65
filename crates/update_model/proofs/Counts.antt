-- What an outcome counts over the changes: how many keys appear, and how many disappear.
use Rattle.std.proofs.Common.{◌≡◌, ◌≢◌, ℕ, ◌+◌, ◌==◌, ◌&&◌, not, Bool, true, false, cond, if◌then◌else◌, List, [], ◌∷◌, sum_by, Option, None, Some, is_some, is_none, option_map, refl, sym, ◌∙◌, ap, ap₂, subst, arith}
use Rattle.std.specs.List.{cons_option, count_by}
use Rattle.std.proofs.lemmas.Bool.Decides.{nat_tests}
use Rattle.std.proofs.lemmas.List.Sums.{sum_by-cons}
use mathlib.Core.Path.{fun_ext}
use Rattle.byte_model.specs.Below.{sum_below}
use Rattle.byte_model.specs.Node.{ValueRef}
use Rattle.byte_model.proofs.Below.{sum_below-agree, sum_below-plus, sum_below-none, sum_below-single}
use Rattle.byte_model.proofs.Lists.{some_items}
use Rattle.trie_model.specs.State.{Row}
use Rattle.trie_model.specs.Tree as tree
use Rattle.trie_model.specs.Tree.{below, rest_behind, ends_here, common_prefix, tree_of}
use Rattle.trie_model.specs.Texts.{value_ref}
use Rattle.trie_model.proofs.Rests.{AllHavePrefix, common_prefix-all, under-below, same_nibble, below-some}
use Rattle.trie_model.proofs.Shapes.{name_of-some}
use Rattle.trie_model.proofs.Trees.{tree_of-nil, tree_of-one, tree_of-forks, tree_of-shares, by_cases}
use Rattle.visit_model.specs.Shown.{shown}
use Rattle.batch_model.specs.Changes.{Change, found_at}
use Rattle.change_model.specs.Visits.{changes_behind, change_at}
use Rattle.change_model.proofs.Laid.{found_at-below}
use Rattle.change_model.proofs.Left.{ends_here-found_at, apart-behind, Apart}
use Rattle.update_model.specs.Tops.{Top, top_of, top_behind, branch}
use Rattle.update_model.specs.Joins.{known, Joint, joint}
use Rattle.update_model.specs.Updates.{Outcome, unchanged, losing, node_outcome, ref_after, behind_outcome, parted, kid_outcome, no_branch, laid, top_seen, updated}
use Rattle.update_model.proofs.LaidSteps.{laid-step, Steps, by_steps}
use Rattle.update_model.proofs.LaidBelow.{SmallChanges, small_changes-behind}
use Rattle.update_model.proofs.Layable.{Layable, no_row, one_row, before_branch, Behind, Laid, before_fork, at_branch, layable-cases}
use Rattle.update_model.proofs.NewTrees.{top_seen-extension, fork_of_shared}

-- ---- what each change counts for, by whether its key was there and by what it becomes

abbrev pub Weight : Type 0
Weight = Bool → Option (List ℕ) → ℕ

-- of a key that is changed
abbrev pub weight_here : Weight → Bool → Option (Option (List ℕ)) → ℕ
weight_here w there None = 0
weight_here w there (Some becomes) = w there becomes

-- of all changes, over some rows
abbrev pub weighed : Weight → List Row → List Change → ℕ
weighed w rows changes = sum_by (λ change. w (is_some (found_at change.0 rows)) change.1) changes

-- ---- by the first nibbles

module _ (g : List ℕ → Option (List ℕ) → ℕ) where
  abbrev here_of : Option (Option (List ℕ)) → ℕ
  here_of None = 0
  here_of (Some becomes) = g [] becomes

  abbrev at_nibble : List Change → ℕ → ℕ
  at_nibble changes x = sum_by (λ (c : Change). g (x ∷ c.0) c.1) (changes_behind (x ∷ []) changes)

  one_more : (y : ℕ) (p : List ℕ) (value : Option (List ℕ)) (changes : List Change) (x : ℕ) → at_nibble ((y ∷ p, value) ∷ changes) x ≡ (if x == y then g (x ∷ p) value else 0) + at_nibble changes x
  unfolding changes_behind rest_behind
  one_more y p value changes x = elim (x == y) as (λ b. sum_by (λ (c : Change). g (x ∷ c.0) c.1) (cons_option (option_map (λ (rest : List ℕ). (rest, value)) (if b then Some p else None)) (changes_behind (x ∷ []) changes)) ≡ (if b then g (x ∷ p) value else 0) + at_nibble changes x) [
    | true ↦ sum_by-cons (λ (c : Change). g (x ∷ c.0) c.1) (p, value) (changes_behind (x ∷ []) changes)
    | false ↦ let n : ℕ = at_nibble changes x in omega arith
  ]

  weighed_by_nibble : (changes : List Change) → Apart changes → SmallChanges changes → sum_by (λ (c : Change). g c.0 c.1) changes ≡ here_of (change_at [] changes) + sum_below (at_nibble changes) 16
  unfolding changes_behind rest_behind found_at Apart
  weighed_by_nibble [] apart small = let zeros = sum_below-none (at_nibble []) 16 (λ x k. refl) in omega arith
  weighed_by_nibble (([], value) ∷ changes) apart small =
      let first = sum_by-cons (λ (c : Change). g c.0 c.1) ([], value) changes in
      let others = weighed_by_nibble changes apart.1 small.1 in
      let none : here_of (change_at [] changes) ≡ 0 = ap (λ o. here_of o) apart.0 in
      omega arith
  weighed_by_nibble ((y ∷ p, value) ∷ changes) apart small =
      let first = sum_by-cons (λ (c : Change). g c.0 c.1) (y ∷ p, value) changes in
      let others = weighed_by_nibble changes apart.1 small.1 in
      let each = sum_below-agree (at_nibble ((y ∷ p, value) ∷ changes)) (λ x. (if x == y then g (x ∷ p) value else 0) + at_nibble changes x) 16 (λ x k. one_more y p value changes x) in
      let parts = sum_below-plus (λ x. if x == y then g (x ∷ p) value else 0) (at_nibble changes) 16 in
      let single = sum_below-single (λ x. if x == y then g (x ∷ p) value else 0) 16 y small.0.0 (λ x k apart. other x apart) ∙ ap (λ b. if b then g (y ∷ p) value else 0) (same_nibble y) in
      omega arith
    where
      other : (x : ℕ) → x ≢ y → (if x == y then g (x ∷ p) value else 0) ≡ 0
      other x apart = let test : (x == y) ≡ false = grind (arith, nat_tests) in ap (λ b. if b then g (x ∷ p) value else 0) test

pub weighed-nibbles : (w : Weight) (rows : List Row) (changes : List Change) → Apart changes → SmallChanges changes → weighed w rows changes ≡ weight_here w (is_some (ends_here rows)) (change_at [] changes) + sum_below (λ x. weighed w (below (x ∷ []) rows) (changes_behind (x ∷ []) changes)) 16
weighed-nibbles w rows changes apart small =
    weighed_by_nibble (λ (q : List ℕ) (b : Option (List ℕ)). w (is_some (found_at q rows)) b) changes apart small
    ∙ ap₂ (λ (a b : ℕ). a + b) (go (change_at [] changes))
    (sum_below-agree _ _ 16 (λ x k. ap (λ (f : Change → ℕ). sum_by f (changes_behind (x ∷ []) changes)) (fun_ext (λ c. ap (λ (o : Option (List ℕ)). w (is_some o) c.1) (sym (found_at-below (x ∷ []) c.0 rows))))))
  where
    go : (o : Option (Option (List ℕ))) → here_of (λ (q : List ℕ) (b : Option (List ℕ)). w (is_some (found_at q rows)) b) o ≡ weight_here w (is_some (ends_here rows)) o
    go None = refl
    go (Some becomes) = ap (λ (o : Option (List ℕ)). w (is_some o) becomes) (sym (ends_here-found_at rows))

-- ---- what counts so

pub record Counts (count : Outcome → ℕ) (w : Weight) : Type 0 where
  pub node : (former : Option (List ℕ)) (change : Option (Option (List ℕ))) (behind : ℕ → Outcome) (whole : Joint) (further : List (List ℕ)) → count (node_outcome (option_map value_ref former) change behind whole further) ≡ weight_here w (is_some former) change + sum_below (λ x. count (behind x)) 16
  pub none : (top : Top) → count (unchanged top) ≡ 0
  pub lost : (digest : List ℕ) (outcome : Outcome) → count (losing digest outcome) ≡ count outcome

module _ (count : Outcome → ℕ) (w : Weight) (counts : Counts count w) where
  -- what becomes of a branch's rows counts so
  abbrev CountedBy : (List Change → Outcome) → List Row → Type 0
  CountedBy child rows = (changes : List Change) → changes ≢ [] → Apart changes → SmallChanges changes → count (child changes) ≡ weighed w rows changes

  -- the parts of a node, one for each nibble behind which there are changes
  parts-counted : (rows : List Row) (changes : List Change) (behind : ℕ → Outcome)
      → ((x : ℕ) → changes_behind (x ∷ []) changes ≡ [] → count (behind x) ≡ 0)
      → ((x : ℕ) → changes_behind (x ∷ []) changes ≢ [] → count (behind x) ≡ weighed w (below (x ∷ []) rows) (changes_behind (x ∷ []) changes))
      → sum_below (λ x. count (behind x)) 16 ≡ sum_below (λ x. weighed w (below (x ∷ []) rows) (changes_behind (x ∷ []) changes)) 16
  parts-counted rows changes behind untouched touched =
      sum_below-agree _ _ 16 (λ x k. go x (changes_behind (x ∷ []) changes) refl)
    where
      go : (x : ℕ) (cs : List Change) → changes_behind (x ∷ []) changes ≡ cs → count (behind x) ≡ weighed w (below (x ∷ []) rows) (changes_behind (x ∷ []) changes)
      go x [] e = untouched x e ∙ sym (ap (weighed w (below (x ∷ []) rows)) e)
      go x (c ∷ cs) e = touched x (subst (λ (l : List Change). l ≢ []) (sym e) (some_items c cs))

  module _ (child : List Change → Outcome) where
    CountLaid : Top → List Change → Type 0
    CountLaid old changes = (rows : List Row) → old ≡ top_of (tree_of rows) → Layable (CountedBy child) rows → changes ≢ [] → Apart changes → SmallChanges changes → count (laid child old changes) ≡ weighed w rows changes

    behind_some : (old : Top) (cs : List Change) → cs ≢ [] → behind_outcome (laid child) old cs ≡ laid child old cs
    behind_some old [] some = absurd (some refl)
    behind_some old (c ∷ cs) some = refl

    behind_no : (old : Top) (cs : List Change) → cs ≡ [] → behind_outcome (laid child) old cs ≡ unchanged old
    behind_no old cs e = ap (behind_outcome (laid child) old) e

    count_laid : Steps CountLaid
    unfolding CountLaid
    count_laid old changes further rows top layable some apart small = go (layable-cases (CountedBy child) rows layable)
      where
        whole : Option ValueRef → Joint
        whole r = joint (ref_after r (change_at [] changes)) (λ x. known (parted (laid child) old changes x).top) 0

        fork : Behind (CountedBy child) old rows → count (laid child old changes) ≡ weighed w rows changes
        fork b =
            ap count (laid-step child old changes ∙ b.forks (laid child) child changes)
            ∙ ap (λ (r : Option ValueRef). count (node_outcome r (change_at [] changes) (parted (laid child) old changes) (whole r) [])) b.ref
            ∙ counts.node (ends_here rows) (change_at [] changes) (parted (laid child) old changes) (whole (option_map value_ref (ends_here rows))) []
            ∙ ap (λ n. weight_here w (is_some (ends_here rows)) (change_at [] changes) + n)
            (parts-counted rows changes (parted (laid child) old changes)
            (λ x none. ap count (behind_no (top_behind x old) (changes_behind (x ∷ []) changes) none) ∙ counts.none (top_behind x old))
            (λ x there. ap count (behind_some (top_behind x old) (changes_behind (x ∷ []) changes) there) ∙ further x (top_behind x old) there (below (x ∷ []) rows) (b.behind x) (b.further x) there (apart-behind (x ∷ []) changes apart) (small_changes-behind (x ∷ []) changes small)))
            ∙ sym (weighed-nibbles w rows changes apart small)

        go : Laid (CountedBy child) rows → count (laid child old changes) ≡ weighed w rows changes
        go (before_fork b) = fork (subst (λ (t : Top). Behind (CountedBy child) t rows) (sym top) b)
        go (at_branch digest used is right) = ap count (ap (λ t. laid child t changes) (top ∙ is) ∙ laid-step child (branch digest used) changes) ∙ right changes some apart small

    pub laid-counted : (rows : List Row) → Layable (CountedBy child) rows → CountedBy (λ cs. laid child (top_of (tree_of rows)) cs) rows
    unfolding CountLaid
    laid-counted rows layable changes = by_steps CountLaid count_laid (top_of (tree_of rows)) changes rows refl layable

  -- ---- by the cases of a trie

  Counted : List Row → Type 0
  Counted rows = (changes : List Change) → changes ≢ [] → Apart changes → SmallChanges changes → count (updated (shown (tree_of rows)) changes) ≡ weighed w rows changes

  counted_none : Counted []
  unfolding Counted updated shown top_of
  counted_none changes some apart small =
      ap (λ t. count (updated (shown t) changes)) tree_of-nil
      ∙ ap (λ (t : Top). count (laid no_branch t changes)) (sym (ap top_of tree_of-nil))
      ∙ laid-counted no_branch [] (no_row refl) changes some apart small

  counted_one : (row : Row) → Counted (row ∷ [])
  unfolding Counted updated shown top_of
  counted_one row changes some apart small =
      ap (λ t. count (updated (shown t) changes)) (tree_of-one row)
      ∙ counts.lost _ _
      ∙ ap (λ (t : Top). count (laid no_branch t changes)) (sym (ap top_of (tree_of-one row)))
      ∙ laid-counted no_branch (row ∷ []) (one_row row refl) changes some apart small

  counted_shares : (row next : Row) (others : List Row) (x : ℕ) (prefix : List ℕ) → common_prefix row (next ∷ others) ≡ x ∷ prefix → Counted (below (x ∷ prefix) (row ∷ next ∷ others)) → Counted (row ∷ next ∷ others)
  unfolding Counted updated shown top_seen
  counted_shares row next others x prefix e further changes some apart small =
      let rows : List Row = row ∷ next ∷ others in
      let path : List ℕ = x ∷ prefix in
      let inner : List Row = below path rows in
      let whole : tree_of rows ≡ tree.extension path (tree_of inner) = tree_of-shares row next others x prefix e in
      let all : AllHavePrefix path rows = subst (λ (f : List ℕ). AllHavePrefix f rows) e (common_prefix-all row (next ∷ others)) in
      let there = name_of-some inner _ (below-some path row (next ∷ others) all.0) in
      ap (λ t. count (updated (shown t) changes)) whole
      ∙ counts.lost _ _
      ∙ ap (λ (t : Top). count (laid (λ cs. updated (shown (tree_of inner)) cs) t changes)) (top_seen-extension path (tree_of inner) there ∙ ap top_of (sym whole))
      ∙ laid-counted (λ cs. updated (shown (tree_of inner)) cs) rows (before_branch path inner (sym (under-below path rows all)) (fork_of_shared path row next others e all) further) changes some apart small

  counted_forks : (row next : Row) (others : List Row) → common_prefix row (next ∷ others) ≡ [] → ((x : ℕ) → Counted (below (x ∷ []) (row ∷ next ∷ others))) → Counted (row ∷ next ∷ others)
  unfolding Counted updated shown
  counted_forks row next others e further changes some apart small =
      ap (λ t. count (updated (shown t) changes)) (tree_of-forks row next others e)
      ∙ counts.lost _ _
      ∙ counts.node (ends_here rows) (change_at [] changes) (λ x. kid_outcome (changes_behind (x ∷ []) changes) (outcomes x)) _ _
      ∙ ap (λ n. weight_here w (is_some (ends_here rows)) (change_at [] changes) + n)
      (parts-counted rows changes (λ x. kid_outcome (changes_behind (x ∷ []) changes) (outcomes x))
      (λ x none. ap (λ (cs : List Change). count (kid_outcome cs (outcomes x))) none ∙ counts.none _)
      (λ x there. ap count (kid_some (changes_behind (x ∷ []) changes) (outcomes x) there) ∙ further x (changes_behind (x ∷ []) changes) there (apart-behind (x ∷ []) changes apart) (small_changes-behind (x ∷ []) changes small)))
      ∙ sym (weighed-nibbles w rows changes apart small)
    where
      rows : List Row
      rows = row ∷ next ∷ others

      outcomes : ℕ → Outcome
      outcomes x = updated (shown (tree_of (below (x ∷ []) rows))) (changes_behind (x ∷ []) changes)

      kid_some : (cs : List Change) (outcome : Outcome) → cs ≢ [] → kid_outcome cs outcome ≡ outcome
      kid_some [] outcome there = absurd (there refl)
      kid_some (c ∷ cs) outcome there = refl

  pub counted-rows : (rows : List Row) (changes : List Change) → changes ≢ [] → Apart changes → SmallChanges changes → count (updated (shown (tree_of rows)) changes) ≡ weighed w rows changes
  unfolding Counted
  counted-rows = by_cases Counted (record { none = counted_none; one = counted_one; forks = counted_forks; shares = counted_shares })

-- ---- the two counts

abbrev pub appears : Weight
appears there becomes = cond (is_some becomes && not there) 1 0

abbrev pub disappears : Weight
disappears there becomes = cond (is_none becomes && there) 1 0

pub fresh-counts : Counts (λ outcome. outcome.fresh) appears
fresh-counts = record { node = node; none = λ top. refl; lost = λ digest outcome. refl }
  where
    node : (former : Option (List ℕ)) (change : Option (Option (List ℕ))) (behind : ℕ → Outcome) (whole : Joint) (further : List (List ℕ)) → (node_outcome (option_map value_ref former) change behind whole further).fresh ≡ weight_here appears (is_some former) change + sum_below (λ x. (behind x).fresh) 16
    node former None behind whole further = refl
    node former (Some None) behind whole further = refl
    node None (Some (Some value)) behind whole further = refl
    node (Some held) (Some (Some value)) behind whole further = refl

pub gone-counts : Counts (λ outcome. outcome.gone) disappears
gone-counts = record { node = node; none = λ top. refl; lost = λ digest outcome. refl }
  where
    node : (former : Option (List ℕ)) (change : Option (Option (List ℕ))) (behind : ℕ → Outcome) (whole : Joint) (further : List (List ℕ)) → (node_outcome (option_map value_ref former) change behind whole further).gone ≡ weight_here disappears (is_some former) change + sum_below (λ x. (behind x).gone) 16
    node former None behind whole further = refl
    node None (Some None) behind whole further = refl
    node (Some held) (Some None) behind whole further = refl
    node former (Some (Some value)) behind whole further = refl

pub fresh-rows : (rows : List Row) (changes : List Change) → changes ≢ [] → Apart changes → SmallChanges changes → (updated (shown (tree_of rows)) changes).fresh ≡ count_by (λ change. is_some change.1 && not (is_some (found_at change.0 rows))) changes
fresh-rows = counted-rows (λ outcome. outcome.fresh) appears fresh-counts

pub gone-rows : (rows : List Row) (changes : List Change) → changes ≢ [] → Apart changes → SmallChanges changes → (updated (shown (tree_of rows)) changes).gone ≡ count_by (λ change. is_none change.1 && is_some (found_at change.0 rows)) changes
gone-rows = counted-rows (λ outcome. outcome.gone) disappears gone-counts
