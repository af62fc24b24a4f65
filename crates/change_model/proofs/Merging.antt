-- Which child a branch is merged with: the one place below it that remains alone.
use Rattle.byte_model.proofs.Lists.{first_same}
use Rattle.std.proofs.Common.{◌≡◌, ◌≢◌, ℕ, zero, suc, ◌<◌, Bool, true, false, if◌then◌else◌, not, List, [], ◌∷◌, ◌++◌, Option, None, Some, is_some, option_map, inl, inr, refl, sym, ◌∙◌, ap, ap₂, subst, arith}
use Rattle.std.proofs.lemmas.Bool.{false≢true, cases_lt, true_from_ne_false, false_from_ne_true}
use Rattle.byte_model.specs.Node.{ValueRef}
use Rattle.trie_model.specs.State.{Row}
use Rattle.trie_model.specs.Tree.{below, ends_here, common_prefix, tree_of}
use Rattle.trie_model.specs.Texts.{value_ref}
use Rattle.trie_model.proofs.Members.{IsIn, in-append_left, in-append_right, in-append_cases}
use Rattle.trie_model.proofs.Rests.{AllHavePrefix, HasPrefix, below-nil}
use Rattle.trie_model.proofs.Trees.{tree_of-forks}
use Rattle.trie_model.proofs.Pairs.{Small, small-below}
use Rattle.visit_model.specs.Seen.{Seen}
use Rattle.visit_model.specs.Shown.{shown}
use Rattle.batch_model.specs.Changes.{Change, found_at, decided}
use Rattle.change_model.specs.Places.{is_branch}
use Rattle.change_model.specs.Visits.{changes_behind, is_untouched, has_value_after, is_left, numbers_below, lone_child, merged_child}
use Rattle.change_model.proofs.Forks.{Fork}
use Rattle.change_model.proofs.Laid.{IsLaid, laid-below, found_at-below, found_at-changes_behind}
use Rattle.change_model.proofs.Left.{Apart, apart-behind, has_rows, has_rows-found, found_of_rows, small_found, value_left, left_as}
use Rattle.change_model.proofs.Alone.{leads_to-here, Alone, alone, alone_from, alone_to, found_all, all_found}

-- ---- the numbers at which a test holds

pub in_numbers : (f : ℕ → Bool) (n y : ℕ) → y < n → f y ≡ true → IsIn (numbers_below f n) y
unfolding numbers_below
in_numbers f zero y h e = absurd (omega arith)
in_numbers f (suc n) y h e =
    elim (cases_lt y n) [
      | inl l ↦ in-append_left (numbers_below f n) (if f n then n ∷ [] else []) y (in_numbers f n y l e)
      | inr r ↦
          let last : n ≡ y = omega arith in
          let here : f n ≡ true = ap f last ∙ e in
          in-append_right (numbers_below f n) (if f n then n ∷ [] else []) y (subst (λ (b : Bool). IsIn (if b then n ∷ [] else []) y) (sym here) (inl last))
    ]

pub number_from : (f : ℕ → Bool) (n y : ℕ) → IsIn (numbers_below f n) y → (y < n) × (f y ≡ true)
unfolding numbers_below
number_from f zero y h = absurd h
number_from f (suc n) y h =
    elim (in-append_cases (numbers_below f n) (if f n then n ∷ [] else []) y h) [
      | inl l ↦ let r = number_from f n y l in ((let k : y < n = r.0 in omega arith), r.1)
      | inr r ↦ last (f n) refl r
    ]
  where
    last : (b : Bool) → f n ≡ b → IsIn (if b then n ∷ [] else []) y → (y < suc n) × (f y ≡ true)
    last true e (inl same) = ((let k : n ≡ y = same in omega arith), ap f (sym same) ∙ e)
    last true e (inr none) = absurd none
    last false e none = absurd none

pub no_numbers : (f : ℕ → Bool) (n : ℕ) → ((y : ℕ) → y < n → f y ≡ false) → numbers_below f n ≡ []
unfolding numbers_below
no_numbers f zero none = refl
no_numbers f (suc n) none = ap₂ (λ (a : List ℕ) (b : Bool). a ++ (if b then n ∷ [] else [])) (no_numbers f n (λ y h. none y (omega arith))) (none n (omega arith))

pub only_number : (f : ℕ → Bool) (n x : ℕ) → x < n → f x ≡ true → ((y : ℕ) → y < n → y ≢ x → f y ≡ false) → numbers_below f n ≡ x ∷ []
unfolding numbers_below
only_number f zero x h e none = absurd (omega arith)
only_number f (suc n) x h e none =
    elim (cases_lt x n) [
      | inl l ↦ ap₂ (λ (a : List ℕ) (b : Bool). a ++ (if b then n ∷ [] else [])) (only_number f n x l e (λ y k apart. none y (omega arith) apart)) (none n (omega arith) (omega arith))
      | inr r ↦
          let last : n ≡ x = omega arith in
          ap₂ (λ (a : List ℕ) (b : Bool). a ++ (if b then n ∷ [] else [])) (no_numbers f n (λ y k. none y (omega arith) (omega arith))) (ap f last ∙ e) ∙ ap (λ y. y ∷ []) last
    ]

-- ---- the lone child

pub record IsLone (value : Bool) (left : List ℕ) (changes : List Change) (x : ℕ) : Type 0 where
  pub no_value : value ≡ false
  pub only : left ≡ x ∷ []
  pub untouched : changes_behind (x ∷ []) changes ≡ []

pub untouched_none : (cs : List Change) → is_untouched cs ≡ true → cs ≡ []
untouched_none [] e = refl
untouched_none (c ∷ cs) e = absurd (false≢true e)

pub touched_some : (cs : List Change) → cs ≢ [] → is_untouched cs ≡ false
touched_some [] some = absurd (some refl)
touched_some (c ∷ cs) some = refl

pub lone_from : (value : Bool) (left : List ℕ) (changes : List Change) (x : ℕ) → lone_child value left changes ≡ Some x → IsLone value left changes x
lone_from true left changes x e = cc
lone_from false [] changes x e = cc
lone_from false (y ∷ []) changes x e = go (is_untouched (changes_behind (y ∷ []) changes)) refl e
  where
    go : (b : Bool) → is_untouched (changes_behind (y ∷ []) changes) ≡ b → (if b then Some y else None) ≡ Some x → IsLone false (y ∷ []) changes x
    go true t k =
        let same : y ≡ x = cc in
        record { no_value = refl; only = ap (λ z. z ∷ []) same; untouched = subst (λ z. changes_behind (z ∷ []) changes ≡ []) same (untouched_none (changes_behind (y ∷ []) changes) t) }
    go false t k = cc
lone_from false (y ∷ z ∷ left) changes x e = cc

lone_to : (value : Bool) (left : List ℕ) (changes : List Change) (x : ℕ) → IsLone value left changes x → lone_child value left changes ≡ Some x
lone_to value left changes x h =
    ap₂ (λ (b : Bool) (l : List ℕ). lone_child b l changes) h.no_value h.only
    ∙ ap (λ (cs : List Change). if is_untouched cs then Some x else None) h.untouched

-- ---- of rows that fork

module _ (row next : Row) (others : List Row) (e : common_prefix row (next ∷ others) ≡ []) (changes : List Change) (later : List Row) (apart : Apart changes) (laid : IsLaid (row ∷ next ∷ others) changes later) (small : Small later) where
  abbrev rows : List Row
  rows = row ∷ next ∷ others

  abbrev ref : Option ValueRef
  ref = option_map value_ref (ends_here rows)

  abbrev kids : ℕ → Seen
  kids x = shown (tree_of (below (x ∷ []) rows))

  abbrev left : ℕ → Bool
  left x = is_left (kids x) (changes_behind (x ∷ []) changes)

  abbrev merged : Option ℕ
  merged = merged_child ref kids changes

  left_is : (x : ℕ) → left x ≡ has_rows (below (x ∷ []) later)
  left_is x = left_as (below (x ∷ []) rows) (changes_behind (x ∷ []) changes) (below (x ∷ []) later) (apart-behind (x ∷ []) changes apart) (laid-below (x ∷ []) rows changes later laid) (small-below (x ∷ []) later small)

  fork : Fork (below [] rows)
  unfolding is_branch
  fork = ap (λ (rs : List Row). is_branch (tree_of rs)) (below-nil rows) ∙ ap is_branch (tree_of-forks row next others e)

  pub record IsMerged (x : ℕ) : Type 0 where
    pub nibble : x < 16
    pub untouched : changes_behind (x ∷ []) changes ≡ []
    pub some : has_rows (below (x ∷ []) later) ≡ true
    pub remains : alone rows changes later (x ∷ []) ≡ true

  pub merged_remains : (x : ℕ) → merged ≡ Some x → IsMerged x
  merged_remains x is =
      let lone = lone_from (has_value_after ref changes) (numbers_below left 16) changes x is in
      let here = number_from left 16 x (subst (λ (l : List ℕ). IsIn l x) (sym lone.only) (inl refl)) in
      record {
        nibble = here.0;
        untouched = lone.untouched;
        some = sym (left_is x) ∙ here.1;
        remains = alone_from rows changes later [] x (record {
          fork = fork;
          untouched = leads_to-here (x ∷ []) changes ∙ ap (λ (cs : List Change). not (is_untouched cs)) lone.untouched;
          all = subst (AllHavePrefix (x ∷ [])) (sym (below-nil later)) (all_found (HasPrefix (x ∷ [])) later (λ q v found. behind_it lone q v found));
        });
      }
    where
      behind_it : IsLone (has_value_after ref changes) (numbers_below left 16) changes x → (q v : List ℕ) → found_at q later ≡ Some v → HasPrefix (x ∷ []) q
      behind_it lone [] v found = absurd (false≢true (sym lone.no_value ∙ value_left rows changes later laid ∙ ap is_some found))
      behind_it lone (y ∷ q) v found =
          let tiny = small_found later y q v small found in
          let there = left_is y ∙ has_rows-found (below (y ∷ []) later) q v (found_at-below (y ∷ []) q later ∙ found) in
          let same : x ≡ y = only y (subst (λ (l : List ℕ). IsIn l y) lone.only (in_numbers left 16 y tiny there)) in
          (q, ap (λ z. z ∷ q) (sym same))
        where
          only : (y : ℕ) → IsIn (x ∷ []) y → x ≡ y
          only y (inl same) = same
          only y (inr none) = absurd none

  pub remaining_merges : (x : ℕ) → has_rows (below (x ∷ []) rows) ≡ true → alone rows changes later (x ∷ []) ≡ true → merged ≡ Some x
  unfolding found_at
  remaining_merges x some remains =
      lone_to (has_value_after ref changes) (numbers_below left 16) changes x (record {
        no_value = value_left rows changes later laid ∙ no_value;
        only = only_number left 16 x nibble (left_is x ∙ has_rows-found (below (x ∷ []) later) there.0 there.1 (found_at-below (x ∷ []) there.0 later ∙ still)) others_gone;
        untouched = none;
      })
    where
      h : Alone rows changes later [] x
      h = alone_to rows changes later [] x remains

      all : AllHavePrefix (x ∷ []) later
      all = subst (AllHavePrefix (x ∷ [])) (below-nil later) h.all

      none : changes_behind (x ∷ []) changes ≡ []
      none = untouched_none (changes_behind (x ∷ []) changes) (true_from_ne_false (is_untouched (changes_behind (x ∷ []) changes)) (λ k. false≢true (sym h.untouched ∙ leads_to-here (x ∷ []) changes ∙ ap not k)))

      there : (q : List ℕ) × (v : List ℕ) × (found_at q (below (x ∷ []) rows) ≡ Some v)
      there = found_of_rows (below (x ∷ []) rows) some

      still : found_at (x ∷ there.0) later ≡ Some there.1
      still =
          laid.at (x ∷ there.0)
          ∙ ap₂ (λ (o : Option (Option (List ℕ))) (former : Option (List ℕ)). decided o former)
          (sym (found_at-changes_behind (x ∷ []) there.0 changes) ∙ ap (λ (cs : List Change). found_at there.0 cs) none)
          (sym (found_at-below (x ∷ []) there.0 rows) ∙ there.2)

      nibble : x < 16
      nibble = small_found later x there.0 there.1 small still

      no_prefix : HasPrefix (x ∷ []) [] → ⊥
      no_prefix p = no_cons p.0 p.1
        where
          no_cons : (q : List ℕ) → [] ≡ x ∷ q → ⊥
          no_cons q e = cc

      no_value : is_some (found_at [] later) ≡ false
      no_value = go (found_at [] later) refl
        where
          go : (o : Option (List ℕ)) → found_at [] later ≡ o → is_some o ≡ false
          go None is = refl
          go (Some v) is = absurd (no_prefix (found_all (HasPrefix (x ∷ [])) later [] v all is))

      others_gone : (y : ℕ) → y < 16 → y ≢ x → left y ≡ false
      others_gone y small_y differs = false_from_ne_true (left y) (λ t.
          let r = found_of_rows (below (y ∷ []) later) (sym (left_is y) ∙ t) in
          let p = found_all (HasPrefix (x ∷ [])) later (y ∷ r.0) r.1 all (sym (found_at-below (y ∷ []) r.0 later) ∙ r.2) in
          differs (first_same p.1))
