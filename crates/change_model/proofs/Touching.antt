-- Over a trie whose texts are all there, a batch visits the touched places, each once, and no test fails.
use Rattle.std.proofs.Common.{◌≡◌, ◌≢◌, ℕ, zero, suc, ◌+◌, ◌<◌, ◌≤◌, ◌==◌, Bool, true, false, cond, if◌then◌else◌, List, [], ◌∷◌, ◌++◌, length, sum_by, Option, None, Some, option_map, ◌⊎◌, inl, inr, refl, sym, ◌∙◌, ap, ap₂, subst, arith, append-nil}
use Rattle.std.specs.Prelude.{nat_lt}
use Rattle.std.specs.List.{count_by}
use Rattle.std.proofs.lemmas.Bool.{false≢true, cases_eq}
use Rattle.std.proofs.lemmas.Bool.Decides.{nat_tests}
use Rattle.std.proofs.lemmas.List.Sums.{sum_by-append, sum_by-cons}
use mathlib.Core.Path.{fun_ext}
use Rattle.sha2.specs.Sha256.{sha256}
use Rattle.byte_model.specs.Below.{sum_below, joined_below}
use Rattle.byte_model.specs.Node.{ValueRef, cost_of}
use Rattle.trie_model.specs.State.{Row}
use Rattle.trie_model.specs.Tree.{Tree, nothing, leaf, branch, extension, below, ends_here, common_prefix, tree_of}
use Rattle.trie_model.specs.Texts.{text, usage, top_cost, value_ref, places, behind}
use Rattle.byte_model.proofs.Below.{sum_below-agree, sum_by-joined_below, sum_below-none, sum_below-least, sum_below-single, sum_below-plus}
use Rattle.trie_model.proofs.Rests.{AllHavePrefix, below-nil, below-append, common_prefix-all}
use Rattle.trie_model.proofs.Trees.{tree_of-nil, tree_of-one, tree_of-forks, tree_of-shares, by_cases}
use Rattle.trie_model.proofs.Pairs.{Small, small-below}
use Rattle.visit_model.specs.Seen.{stated_usage}
use Rattle.visit_model.specs.Shown.{shown}
use Rattle.batch_model.specs.Changes.{Change, found_at}
use Rattle.change_model.specs.Visits.{Visits, no_usage, no_visits, before, and_then, opened, closed, most_usage, visits_below, changes_behind, is_untouched, merged_child, visit_alone, visits_at, where_touched, if_touched, merge_visits, merge_usage, branch_cost, extension_cost}
use Rattle.change_model.proofs.Laid.{IsLaid, laid-below}
use Rattle.change_model.proofs.Left.{Apart, apart-behind, has_rows, has_rows-found, found_of_rows}
use Rattle.change_model.proofs.Merging.{merged_remains, remaining_merges}
use Rattle.change_model.proofs.Alone.{alone, touched, touched-root, touched-behind, touched-here, untouched-behind, untouched-here, shared_not_alone}

-- ---- sums

sum_by-none : (f : List ℕ → ℕ) (ps : List (List ℕ)) → ((q : List ℕ) → f q ≡ 0) → sum_by f ps ≡ 0
sum_by-none f [] none = refl
sum_by-none f (p ∷ ps) none = let h = sum_by-none f ps none in let first = none p in sum_by-cons f p ps ∙ (omega arith)

pub sum_by-behind : (f : List ℕ → ℕ) (prefix : List ℕ) (ps : List (List ℕ)) → sum_by f (behind prefix ps) ≡ sum_by (λ q. f (prefix ++ q)) ps
sum_by-behind f prefix [] = refl
sum_by-behind f prefix (p ∷ ps) =
    sum_by-cons f (prefix ++ p) (behind prefix ps) ∙ ap (λ n. f (prefix ++ p) + n) (sum_by-behind f prefix ps) ∙ sym (sum_by-cons (λ q. f (prefix ++ q)) p ps)

-- over the places of a branch and of an extension
pub sum_by-branch : (f : List ℕ → ℕ) (value : Option (List ℕ)) (kids : ℕ → Tree) → sum_by f (places (branch value kids)) ≡ f [] + sum_below (λ x. sum_by (λ q. f (x ∷ q)) (places (kids x))) 16
unfolding places
sum_by-branch f value kids =
    sum_by-cons f [] (joined_below (λ x. behind (x ∷ []) (places (kids x))) 16)
    ∙ ap (λ n. f [] + n) (sum_by-joined_below f (λ x. behind (x ∷ []) (places (kids x))) 16 ∙ sum_below-agree _ _ 16 (λ x h. sum_by-behind f (x ∷ []) (places (kids x))))

pub sum_by-extension : (f : List ℕ → ℕ) (path : List ℕ) (child : Tree) → sum_by f (places (extension path child)) ≡ f [] + sum_by (λ q. f (path ++ q)) (places child)
unfolding places
sum_by-extension f path child = sum_by-cons f [] (behind path (places child)) ∙ ap (λ n. f [] + n) (sum_by-behind f path (places child))

-- what is 0 at all places but the root
sum_at_root : (f : List ℕ → ℕ) (rows : List Row) → ((q : List ℕ) → q ≢ [] → f q ≡ 0) → sum_by f (places (tree_of rows)) ≡ cond (has_rows rows) (f []) 0
unfolding places has_rows
sum_at_root f [] none = ap (λ t. sum_by f (places t)) tree_of-nil
sum_at_root f (row ∷ []) none = ap (λ t. sum_by f (places t)) (tree_of-one row) ∙ sum_by-cons f [] [] ∙ (let n : ℕ = f [] in omega arith)
sum_at_root f (row ∷ next ∷ others) none = go (common_prefix row (next ∷ others)) refl
  where
    some : (x : ℕ) (q : List ℕ) → x ∷ q ≢ []
    some x q e = cc

    go : (prefix : List ℕ) → common_prefix row (next ∷ others) ≡ prefix → sum_by f (places (tree_of (row ∷ next ∷ others))) ≡ f []
    go [] e =
        let zeros = sum_below-none (λ x. sum_by (λ q. f (x ∷ q)) (places (tree_of (below (x ∷ []) (row ∷ next ∷ others))))) 16 (λ x h. sum_by-none (λ q. f (x ∷ q)) (places (tree_of (below (x ∷ []) (row ∷ next ∷ others)))) (λ q. none (x ∷ q) (some x q))) in
        ap (λ t. sum_by f (places t)) (tree_of-forks row next others e) ∙ sum_by-branch f (ends_here (row ∷ next ∷ others)) (λ x. tree_of (below (x ∷ []) (row ∷ next ∷ others))) ∙ (omega arith)
    go (x ∷ prefix) e =
        let zeros = sum_by-none (λ q. f (x ∷ prefix ++ q)) (places (tree_of (below (x ∷ prefix) (row ∷ next ∷ others)))) (λ q. none (x ∷ (prefix ++ q)) (some x (prefix ++ q))) in
        ap (λ t. sum_by f (places t)) (tree_of-shares row next others x prefix e) ∙ sum_by-extension f (x ∷ prefix) (tree_of (below (x ∷ prefix) (row ∷ next ∷ others))) ∙ (omega arith)

-- a test that all pass counts all
pub count-all : {X : Type 0} (xs : List X) → count_by (λ (x : X). true) xs ≡ length xs
count-all [] = refl
count-all {X} (x ∷ xs) = let h = count-all xs in sum_by-cons (λ (x : X). 1) x xs ∙ (omega arith)

-- ---- visits of which no test fails

module _ (test : List ℕ → Bool) where
  abbrev pub one : List ℕ → ℕ
  one digest = cond (test digest) 1 0

  -- no test fails, and so many of the digests pass
  pub record Passes (visits : Visits) (n : ℕ) : Type 0 where
    pub passed : visits.refusal ≡ None
    pub counted : count_by test visits.digests ≡ n

  pub passes-none : Passes no_visits 0
  passes-none = record { passed = refl; counted = refl }

  passes-before : (a b : Visits) (m n : ℕ) → Passes a m → Passes b n → Passes (before a b) (m + n)
  unfolding and_then
  passes-before a b m n first last = record {
    passed = ap (λ r. (and_then r a.digests b).refusal) first.passed ∙ last.passed;
    counted = ap (λ r. count_by test (and_then r a.digests b).digests) first.passed ∙ sum_by-append (λ d. one d) a.digests b.digests ∙ ap₂ (λ (x y : ℕ). x + y) first.counted last.counted;
  }

  passes-below : (f : ℕ → Visits) (k : ℕ → ℕ) (n : ℕ) → ((x : ℕ) → x < n → Passes (f x) (k x)) → Passes (visits_below f n) (sum_below k n)
  unfolding visits_below sum_below
  passes-below f k zero each = passes-none
  passes-below f k (suc n) each = passes-before (visits_below f n) (f n) (sum_below k n) (k n) (passes-below f k n (λ x h. each x (omega arith))) (each n (omega arith))

  passes-opened : (digest : List ℕ) (used : ℕ) → used ≤ most_usage → Passes (opened digest used) (one digest)
  unfolding opened
  passes-opened digest used small =
      let fits : nat_lt most_usage used ≡ false = grind (arith, nat_tests) in
      record {
        passed = ap (λ b. if b then Some (no_usage digest) else None) fits;
        counted = sum_by-cons (λ d. one d) digest [] ∙ (let n : ℕ = one digest in omega arith);
      }

  passes-closed : (digest : List ℕ) (used parts : ℕ) → parts ≤ used → Passes (closed digest used parts) 0
  unfolding closed
  passes-closed digest used parts small =
      let fits : nat_lt used parts ≡ false = grind (arith, nat_tests) in
      record {
        passed = ap (λ b. if b then Some (no_usage digest) else None) fits;
        counted = refl;
      }

  passes-as : (v : Visits) (m n : ℕ) → m ≡ n → Passes v m → Passes v n
  passes-as v m n e h = subst (Passes v) e h

  -- ---- usages

  stated-shown : (tree : Tree) → stated_usage (shown tree) ≡ usage tree
  unfolding stated_usage shown usage
  stated-shown nothing = refl
  stated-shown (leaf path value) = refl
  stated-shown (branch value kids) = refl
  stated-shown (extension path child) = refl

  branch_cost-is : (value : Option (List ℕ)) → branch_cost (option_map value_ref value) ≡ cost_of 0 (option_map length value)
  branch_cost-is None = refl
  branch_cost-is (Some v) = refl

  abbrev Fits : List Row → Type 0
  Fits rows = (p : List ℕ) → usage (tree_of (below p rows)) ≤ most_usage

  fits-below : (r : List ℕ) (rows : List Row) → Fits rows → Fits (below r rows)
  fits-below r rows fits p = subst (λ (rs : List Row). usage (tree_of rs) ≤ most_usage) (below-append r p rows) (fits (r ++ p))

  fits-here : (rows : List Row) → Fits rows → usage (tree_of rows) ≤ most_usage
  fits-here rows fits = subst (λ (rs : List Row). usage (tree_of rs) ≤ most_usage) (below-nil rows) (fits [])

  -- ---- a place alone

  abbrev name : List Row → List ℕ
  name rows = sha256 (text (tree_of rows))

  passes-alone : (tree : Tree) → tree ≢ nothing → usage tree ≤ most_usage → Passes (visit_alone (shown tree)) (one (sha256 (text tree)))
  unfolding visit_alone shown usage top_cost
  passes-alone nothing there small = absurd (there refl)
  passes-alone (leaf path value) there small =
      let digest : List ℕ = sha256 (text (leaf path value)) in
      passes-as _ (one digest + 0) (one digest) (omega arith) (passes-before _ _ (one digest) 0 (passes-opened digest _ small) (passes-closed digest _ _ (omega arith)))
  passes-alone (branch value kids) there small =
      let digest : List ℕ = sha256 (text (branch value kids)) in
      let cost = branch_cost-is value in
      passes-as _ (one digest + 0) (one digest) (omega arith) (passes-before _ _ (one digest) 0 (passes-opened digest _ small) (passes-closed digest _ _ (omega arith)))
  passes-alone (extension path child) there small =
      let digest : List ℕ = sha256 (text (extension path child)) in
      passes-as _ (one digest + 0) (one digest) (omega arith) (passes-before _ _ (one digest) 0 (passes-opened digest _ small) (passes-closed digest _ _ (omega arith)))

  -- ---- what each place counts for

  pub counts_at : List Row → List Change → List Row → List ℕ → ℕ
  counts_at rows changes later q = cond (touched rows changes later q) (one (name (below q rows))) 0

  pub counts_at-def : (rows : List Row) (changes : List Change) (later : List Row) (q : List ℕ) → counts_at rows changes later q ≡ cond (touched rows changes later q) (one (name (below q rows))) 0
  unfolding counts_at
  counts_at-def rows changes later q = refl

  counts-root : (rows : List Row) (changes : List Change) (later : List Row) → is_untouched changes ≡ false → counts_at rows changes later [] ≡ one (name rows)
  unfolding counts_at
  counts-root rows changes later some = ap₂ (λ (b : Bool) (rs : List Row). cond b (one (name rs)) 0) (touched-root rows changes later some) (below-nil rows)

  -- below a path where a change stands, as among the rows there
  counts-behind : (r q : List ℕ) (rows : List Row) (changes : List Change) (later : List Row) → is_untouched (changes_behind r changes) ≡ false → counts_at rows changes later (r ++ q) ≡ counts_at (below r rows) (changes_behind r changes) (below r later) q
  unfolding counts_at
  counts-behind r [] rows changes later some =
      ap₂ (λ (b : Bool) (rs : List Row). cond b (one (name rs)) 0)
      (ap (touched rows changes later) (append-nil r) ∙ touched-here r rows changes later some ∙ sym (touched-root (below r rows) (changes_behind r changes) (below r later) some))
      (below-append r [] rows)
  counts-behind r (x ∷ q) rows changes later some =
      ap₂ (λ (b : Bool) (rs : List Row). cond b (one (name rs)) 0) (touched-behind r (x ∷ q) rows changes later (no_cons x q)) (below-append r (x ∷ q) rows)
    where
      no_cons : (x : ℕ) (q : List ℕ) → x ∷ q ≢ []
      no_cons x q e = cc

  -- and below another not at all
  counts-untouched : (r q : List ℕ) (rows : List Row) (changes : List Change) (later : List Row) → IsLaid rows changes later → changes_behind r changes ≡ [] → q ≢ [] → counts_at rows changes later (r ++ q) ≡ 0
  unfolding counts_at
  counts-untouched r q rows changes later laid none some = ap (λ b. cond b (one (name (below (r ++ q) rows))) 0) (untouched-behind r q rows changes later laid none some)

  counts-alone : (r : List ℕ) (rows : List Row) (changes : List Change) (later : List Row) → changes_behind r changes ≡ [] → counts_at rows changes later (r ++ []) ≡ cond (alone rows changes later r) (one (name (below r rows))) 0
  unfolding counts_at
  counts-alone r rows changes later none =
      ap (λ (p : List ℕ). cond (touched rows changes later p) (one (name (below p rows))) 0) (append-nil r)
      ∙ ap (λ b. cond b (one (name (below r rows))) 0) (untouched-here r rows changes later none)

  -- of all places below a path
  abbrev below_count : List ℕ → List Row → List Change → List Row → ℕ
  below_count r rows changes later = sum_by (λ q. counts_at rows changes later (r ++ q)) (places (tree_of (below r rows)))

  below_count-touched : (r : List ℕ) (rows : List Row) (changes : List Change) (later : List Row) → is_untouched (changes_behind r changes) ≡ false → below_count r rows changes later ≡ sum_by (counts_at (below r rows) (changes_behind r changes) (below r later)) (places (tree_of (below r rows)))
  below_count-touched r rows changes later some = ap (λ (f : List ℕ → ℕ). sum_by f (places (tree_of (below r rows)))) (fun_ext (λ q. counts-behind r q rows changes later some))

  below_count-alone : (r : List ℕ) (rows : List Row) (changes : List Change) (later : List Row) → IsLaid rows changes later → changes_behind r changes ≡ [] → below_count r rows changes later ≡ cond (has_rows (below r rows)) (cond (alone rows changes later r) (one (name (below r rows))) 0) 0
  below_count-alone r rows changes later laid none =
      sum_at_root (λ q. counts_at rows changes later (r ++ q)) (below r rows) (λ q some. counts-untouched r q rows changes later laid none some)
      ∙ ap (λ n. cond (has_rows (below r rows)) n 0) (counts-alone r rows changes later none)

  -- ---- the visits

  abbrev PassesTouched : List Row → Type 0
  PassesTouched rows = (changes : List Change) (later : List Row) → is_untouched changes ≡ false → Apart changes → IsLaid rows changes later → Small later → Fits rows → Passes (visits_at (shown (tree_of rows)) changes) (sum_by (counts_at rows changes later) (places (tree_of rows)))

  passes_none : PassesTouched []
  unfolding visits_at shown places
  passes_none changes later some apart laid small fits =
      subst (λ t. Passes (visits_at (shown t) changes) (sum_by (counts_at [] changes later) (places t))) (sym tree_of-nil) passes-none

  passes_one : (row : Row) → PassesTouched (row ∷ [])
  unfolding visits_at shown places usage top_cost
  passes_one row changes later some apart laid small fits =
      let digest : List ℕ = sha256 (text (leaf row.0 row.1)) in
      let t = tree_of-one row in
      let bound : usage (leaf row.0 row.1) ≤ most_usage = subst (λ t. usage t ≤ most_usage) t (fits-here (row ∷ []) fits) in
      let root : counts_at (row ∷ []) changes later [] ≡ one digest = counts-root (row ∷ []) changes later some ∙ ap (λ t. one (sha256 (text t))) t in
      subst (λ t. Passes (visits_at (shown t) changes) (sum_by (counts_at (row ∷ []) changes later) (places t))) (sym t)
      (passes-as _ (one digest + 0) _ (ap (λ n. n + 0) (sym root) ∙ sym (sum_by-cons (counts_at (row ∷ []) changes later) [] [])) (passes-before _ _ (one digest) 0 (passes-opened digest _ bound) (passes-closed digest _ _ (omega arith))))

  pub tree_there : (rows : List Row) → has_rows rows ≡ true → tree_of rows ≢ nothing
  unfolding has_rows
  tree_there [] some e = absurd (false≢true some)
  tree_there (row ∷ []) some e = not_leaf row.0 row.1 (sym (tree_of-one row) ∙ e)
    where
      not_leaf : (path value : List ℕ) → leaf path value ≡ nothing → ⊥
      not_leaf path value e = cc
  tree_there (row ∷ next ∷ others) some e = go (common_prefix row (next ∷ others)) refl
    where
      not_branch : (value : Option (List ℕ)) (kids : ℕ → Tree) → branch value kids ≡ nothing → ⊥
      not_branch value kids e = cc

      not_extension : (path : List ℕ) (child : Tree) → extension path child ≡ nothing → ⊥
      not_extension path child e = cc

      go : (prefix : List ℕ) → common_prefix row (next ∷ others) ≡ prefix → ⊥
      go [] shared = not_branch _ _ (sym (tree_of-forks row next others shared) ∙ e)
      go (x ∷ prefix) shared = not_extension _ _ (sym (tree_of-shares row next others x prefix shared) ∙ e)

  -- where no change stands, the later rows are there where the rows are
  pub rows_before : (rows later : List Row) → IsLaid rows [] later → has_rows later ≡ true → has_rows rows ≡ true
  unfolding found_at
  rows_before rows later laid some = let r = found_of_rows later some in has_rows-found rows r.0 r.1 (sym (laid.at r.0) ∙ r.2)

  module _ (row next : Row) (others : List Row) (e : common_prefix row (next ∷ others) ≡ []) (further : (x : ℕ) → PassesTouched (below (x ∷ []) (row ∷ next ∷ others))) (changes : List Change) (later : List Row) (some : is_untouched changes ≡ false) (apart : Apart changes) (laid : IsLaid (row ∷ next ∷ others) changes later) (small : Small later) (fits : Fits (row ∷ next ∷ others)) where
    abbrev fork_rows : List Row
    fork_rows = row ∷ next ∷ others

    abbrev at_nibble : ℕ → List Row
    at_nibble x = below (x ∷ []) fork_rows

    abbrev kid : ℕ → Tree
    kid x = tree_of (at_nibble x)

    abbrev changes_at : ℕ → List Change
    changes_at x = changes_behind (x ∷ []) changes

    abbrev fork_ref : Option ValueRef
    fork_ref = option_map value_ref (ends_here fork_rows)

    abbrev merge : Option ℕ
    merge = merged_child fork_ref (λ x. shown (kid x)) changes

    abbrev whole : ℕ → ℕ
    whole x = below_count (x ∷ []) fork_rows changes later

    abbrev of_touched : ℕ → ℕ
    of_touched x = cond (is_untouched (changes_at x)) 0 (whole x)

    abbrev of_untouched : ℕ → ℕ
    of_untouched x = cond (is_untouched (changes_at x)) (whole x) 0

    laid_at : (x : ℕ) → IsLaid (at_nibble x) (changes_at x) (below (x ∷ []) later)
    laid_at x = laid-below (x ∷ []) fork_rows changes later laid

    child_passes : (x : ℕ) → Passes (where_touched (changes_at x) (visits_at (shown (kid x)) (changes_at x))) (of_touched x)
    child_passes x = go (changes_at x) refl
      where
        go : (cs : List Change) → changes_at x ≡ cs → Passes (where_touched cs (visits_at (shown (kid x)) cs)) (cond (is_untouched cs) 0 (whole x))
        go [] is = passes-none
        go (c ∷ cs) is =
            let touched_here : is_untouched (changes_at x) ≡ false = ap is_untouched is in
            subst (λ (l : List Change). Passes (visits_at (shown (kid x)) l) (whole x)) is
            (passes-as _ _ _ (sym (below_count-touched (x ∷ []) fork_rows changes later touched_here))
            (further x (changes_at x) (below (x ∷ []) later) touched_here (apart-behind (x ∷ []) changes apart) (laid_at x) (small-below (x ∷ []) later small) (fits-below (x ∷ []) fork_rows fits)))

    halves : (x : ℕ) → whole x ≡ of_touched x + of_untouched x
    halves x = go (is_untouched (changes_at x))
      where
        go : (b : Bool) → whole x ≡ cond b 0 (whole x) + cond b (whole x) 0
        go true = let n : ℕ = whole x in omega arith
        go false = let n : ℕ = whole x in omega arith

    abbrev merge_count : Option ℕ → ℕ
    merge_count None = 0
    merge_count (Some y) = one (name (at_nibble y))

    remains_merged : (x : ℕ) → has_rows (at_nibble x) ≡ true → alone fork_rows changes later (x ∷ []) ≡ true → merge ≡ Some x
    remains_merged x = remaining_merges row next others e changes later apart laid small x

    untouched_list : (cs : List Change) → is_untouched cs ≡ true → cs ≡ []
    untouched_list [] e = refl
    untouched_list (c ∷ cs) e = absurd (false≢true e)

    -- an untouched child counts for nothing unless it is the merged one
    uncounted : (x : ℕ) → (merge ≡ Some x → ⊥) → of_untouched x ≡ 0
    uncounted x other = go (is_untouched (changes_at x)) refl
      where
        gone : (a b : Bool) (n : ℕ) → ((a ≡ true) → (b ≡ true) → ⊥) → cond a (cond b n 0) 0 ≡ 0
        gone true true n none = absurd (none refl refl)
        gone true false n none = refl
        gone false b n none = refl

        go : (b : Bool) → is_untouched (changes_at x) ≡ b → cond b (whole x) 0 ≡ 0
        go true is = below_count-alone (x ∷ []) fork_rows changes later laid (untouched_list (changes_at x) is) ∙ gone (has_rows (at_nibble x)) (alone fork_rows changes later (x ∷ [])) _ (λ there remains. other (remains_merged x there remains))
        go false is = refl

    merged_there : (y : ℕ) → merge ≡ Some y → has_rows (at_nibble y) ≡ true
    merged_there y is =
        let m = merged_remains row next others e changes later apart laid small y is in
        rows_before (at_nibble y) (below (y ∷ []) later) (subst (λ (cs : List Change). IsLaid (at_nibble y) cs (below (y ∷ []) later)) m.untouched (laid_at y)) m.some

    counted_once : (y : ℕ) → merge ≡ Some y → of_untouched y ≡ one (name (at_nibble y))
    counted_once y is =
        let m = merged_remains row next others e changes later apart laid small y is in
        ap (λ (cs : List Change). cond (is_untouched cs) (whole y) 0) m.untouched
        ∙ below_count-alone (y ∷ []) fork_rows changes later laid m.untouched
        ∙ ap₂ (λ (a b : Bool). cond a (cond b (one (name (at_nibble y))) 0) 0) (merged_there y is) m.remains

    untouched_sum : (m : Option ℕ) → merge ≡ m → sum_below of_untouched 16 ≡ merge_count m
    untouched_sum None is = sum_below-none of_untouched 16 (λ x h. uncounted x (λ other. none_some x (sym is ∙ other)))
      where
        none_some : (x : ℕ) → None ≡ Some x → ⊥
        none_some x e = cc
    untouched_sum (Some y) is =
        let m = merged_remains row next others e changes later apart laid small y is in
        sum_below-single of_untouched 16 y m.nibble (λ x h differs. uncounted x (λ other. differs (same_some x y (sym other ∙ is)))) ∙ counted_once y is
      where
        same_some : (x y : ℕ) → Some x ≡ Some y → x ≡ y
        same_some x y e = cc

    merge_passes : (m : Option ℕ) → merge ≡ m → Passes (merge_visits (λ x. shown (kid x)) m) (merge_count m)
    merge_passes None is = passes-none
    merge_passes (Some y) is = passes-alone (kid y) (tree_there (at_nibble y) (merged_there y is)) (fits (y ∷ []))

    -- the visited children state no more than all children use
    stated_at : ℕ → ℕ
    stated_at x = if_touched (changes_at x) (stated_usage (shown (kid x)))

    stated_le : (x : ℕ) → stated_at x ≤ usage (kid x)
    unfolding stated_at
    stated_le x = go (changes_at x)
      where
        go : (cs : List Change) → if_touched cs (stated_usage (shown (kid x))) ≤ usage (kid x)
        go [] = omega arith
        go (c ∷ cs) = let is = stated-shown (kid x) in omega arith

    stated_sum : (m : Option ℕ) → merge ≡ m → sum_below stated_at 16 + merge_usage (λ x. shown (kid x)) m ≤ sum_below (λ x. usage (kid x)) 16
    unfolding stated_at
    stated_sum None is = let h = sum_below-least stated_at (λ x. usage (kid x)) 16 (λ x k. stated_le x) in omega arith
    stated_sum (Some y) is =
        let m = merged_remains row next others e changes later apart laid small y is in
        let alone_there : ℕ → ℕ = λ x. cond (x == y) (usage (kid y)) 0 in
        let single = sum_below-single alone_there 16 y m.nibble (λ x h differs. ap (λ b. cond b (usage (kid y)) 0) (differs_test x differs)) in
        let at_y : alone_there y ≡ usage (kid y) = ap (λ b. cond b (usage (kid y)) 0) (same_test y) in
        let split = sum_below-plus stated_at alone_there 16 in
        let bound = sum_below-least (λ x. stated_at x + alone_there x) (λ x. usage (kid x)) 16 (λ x k. each m.untouched x (cases_eq x y)) in
        let is_stated = stated-shown (kid y) in
        omega arith
      where
        differs_test : (x : ℕ) → x ≢ y → (x == y) ≡ false
        differs_test x differs = grind (arith, nat_tests)

        same_test : (x : ℕ) → (x == x) ≡ true
        same_test x = grind (arith, nat_tests)

        each : changes_at y ≡ [] → (x : ℕ) → (x ≡ y) ⊎ (x ≢ y) → stated_at x + cond (x == y) (usage (kid y)) 0 ≤ usage (kid x)
        each untouched x (inl same) =
            let zero_there : stated_at x ≡ 0 = ap (λ z. if_touched (changes_at z) (stated_usage (shown (kid x)))) same ∙ ap (λ (cs : List Change). if_touched cs (stated_usage (shown (kid x)))) untouched in
            let test_is : cond (x == y) (usage (kid y)) 0 ≡ usage (kid y) = ap (λ z. cond (z == y) (usage (kid y)) 0) same ∙ ap (λ b. cond b (usage (kid y)) 0) (same_test y) in
            let used : usage (kid x) ≡ usage (kid y) = ap (λ z. usage (kid z)) same in
            omega arith
        each untouched x (inr differs) =
            let none : cond (x == y) (usage (kid y)) 0 ≡ 0 = ap (λ b. cond b (usage (kid y)) 0) (differs_test x differs) in
            let le = stated_le x in
            omega arith

    passes_fork : Passes (visits_at (shown (tree_of fork_rows)) changes) (sum_by (counts_at fork_rows changes later) (places (tree_of fork_rows)))
    unfolding visits_at shown usage top_cost stated_at
    passes_fork =
        let t = tree_of-forks row next others e in
        let top : Tree = branch (ends_here fork_rows) kid in
        let digest : List ℕ = sha256 (text top) in
        let bound : usage top ≤ most_usage = subst (λ t. usage t ≤ most_usage) t (fits-here fork_rows fits) in
        let root : counts_at fork_rows changes later [] ≡ one digest = counts-root fork_rows changes later some ∙ ap (λ t. one (sha256 (text t))) t in
        let total : one digest + (sum_below of_touched 16 + (merge_count merge + 0)) ≡ sum_by (counts_at fork_rows changes later) (places top) =
        let u = untouched_sum merge refl in
        let k = sum_below-agree whole (λ x. of_touched x + of_untouched x) 16 (λ x h. halves x) ∙ sum_below-plus of_touched of_untouched 16 in
        sums (one digest) (sum_below of_touched 16) (sum_below of_untouched 16) (merge_count merge) (sum_below whole 16) (counts_at fork_rows changes later []) u k root ∙ sym (sum_by-branch (counts_at fork_rows changes later) (ends_here fork_rows) kid)
        in
        let parts = stated_sum merge refl in
        let own = branch_cost-is (ends_here fork_rows) in
        subst (λ t. Passes (visits_at (shown t) changes) (sum_by (counts_at fork_rows changes later) (places t))) (sym t)
        (passes-as _ _ _ total
        (passes-before _ _ (one digest) _ (passes-opened digest (usage top) bound)
        (passes-before _ _ (sum_below of_touched 16) _ (passes-below (λ x. where_touched (changes_at x) (visits_at (shown (kid x)) (changes_at x))) of_touched 16 (λ x h. child_passes x))
        (passes-before _ _ (merge_count merge) 0 (merge_passes merge refl)
        (passes-closed digest (usage top) _ (omega arith))))))
      where
        sums : (d a u m k r : ℕ) → u ≡ m → k ≡ a + u → r ≡ d → d + (a + (m + 0)) ≡ r + k
        sums d a u m k r p q s = omega arith

  passes_shares : (row next : Row) (others : List Row) (x : ℕ) (prefix : List ℕ) → common_prefix row (next ∷ others) ≡ x ∷ prefix → PassesTouched (below (x ∷ prefix) (row ∷ next ∷ others)) → PassesTouched (row ∷ next ∷ others)
  unfolding visits_at shown usage top_cost
  passes_shares row next others x prefix e further changes later some apart laid small fits =
      subst (λ t. Passes (visits_at (shown t) changes) (sum_by (counts_at rows changes later) (places t))) (sym t)
      (passes-as _ _ _ total
      (passes-before _ _ (one digest) _ (passes-opened digest (usage top) bound)
      (passes-before _ _ (below_count path rows changes later) 0 (below_passes (changes_behind path changes) refl) (passes-closed digest (usage top) _ parts))))
    where
      rows : List Row
      rows = row ∷ next ∷ others

      path : List ℕ
      path = x ∷ prefix

      child : Tree
      child = tree_of (below path rows)

      t : tree_of rows ≡ extension path child
      t = tree_of-shares row next others x prefix e

      top : Tree
      top = extension path child

      digest : List ℕ
      digest = sha256 (text top)

      bound : usage top ≤ most_usage
      bound = subst (λ t. usage t ≤ most_usage) t (fits-here rows fits)

      root : counts_at rows changes later [] ≡ one digest
      root = counts-root rows changes later some ∙ ap (λ t. one (sha256 (text t))) t

      total : one digest + (below_count path rows changes later + 0) ≡ sum_by (counts_at rows changes later) (places top)
      total = sums (one digest) (below_count path rows changes later) (counts_at rows changes later []) root ∙ sym (sum_by-extension (counts_at rows changes later) path child)
        where
          sums : (d n r : ℕ) → r ≡ d → d + (n + 0) ≡ r + n
          sums d n r e = omega arith

      all : AllHavePrefix path rows
      all = subst (λ (f : List ℕ). AllHavePrefix f rows) e (common_prefix-all row (next ∷ others))

      -- a place inside the path of an extension has no branch above it
      none_below : changes_behind path changes ≡ [] → below_count path rows changes later ≡ 0
      none_below none = below_count-alone path rows changes later laid none ∙ ap (λ b. cond (has_rows (below path rows)) (cond b (one (name (below path rows))) 0) 0) (shared_not_alone path rows changes later (no_cons x prefix) all) ∙ either (has_rows (below path rows)) 0 refl
        where
          no_cons : (x : ℕ) (q : List ℕ) → x ∷ q ≢ []
          no_cons x q e = cc

          either : (b : Bool) (n : ℕ) → n ≡ 0 → cond b n 0 ≡ 0
          either true n zeros = zeros
          either false n zeros = refl

      below_passes : (cs : List Change) → changes_behind path changes ≡ cs → Passes (where_touched cs (visits_at (shown child) cs)) (below_count path rows changes later)
      below_passes [] is = passes-as _ 0 _ (sym (none_below is)) passes-none
      below_passes (c ∷ cs) is =
          let touched_here : is_untouched (changes_behind path changes) ≡ false = ap is_untouched is in
          subst (λ (l : List Change). Passes (visits_at (shown child) l) (below_count path rows changes later)) is
          (passes-as _ _ _ (sym (below_count-touched path rows changes later touched_here))
          (further (changes_behind path changes) (below path later) touched_here (apart-behind path changes apart) (laid-below path rows changes later laid) (small-below path later small) (fits-below path rows fits)))

      parts : extension_cost path + if_touched (changes_behind path changes) (stated_usage (shown child)) ≤ usage top
      parts = go (changes_behind path changes)
        where
          go : (cs : List Change) → extension_cost path + if_touched cs (stated_usage (shown child)) ≤ usage top
          go [] = omega arith
          go (c ∷ cs) = let is = stated-shown child in omega arith

  pub passes_touched : (rows : List Row) → PassesTouched rows
  passes_touched = by_cases PassesTouched (record { none = passes_none; one = passes_one; forks = passes_fork; shares = passes_shares })
