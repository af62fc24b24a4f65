-- What a batch takes out of a trie is all that it does not leave as it is, by the digests of the texts.
use Rattle.std.proofs.Common.{◌≡◌, ◌≢◌, ℕ, zero, suc, ◌+◌, ◌-◌, ◌<◌, ◌==◌, Bool, true, false, if◌then◌else◌, List, [], ◌∷◌, ◌++◌, sum_by, Option, None, Some, option_map, inl, refl, sym, ◌∙◌, ap, ap₂, subst, arith}
use Rattle.std.proofs.lemmas.Bool.Decides.{nat_tests}
use Rattle.std.proofs.lemmas.List.Sums.{sum_by-cons, sum_by-append}
use Rattle.sha2.specs.Sha256.{sha256}
use Rattle.byte_model.specs.Below.{sum_below, joined_below}
use Rattle.byte_model.specs.Nibbles.{AreNibbles}
use Rattle.byte_model.specs.Node.{ValueRef}
use Rattle.byte_model.proofs.Below.{sum_below-agree, sum_by-joined_below, sum_below-plus, sum_below-none, sum_below-single}
use Rattle.trie_model.specs.Tree.{Tree, nothing, leaf, branch, extension}
use Rattle.trie_model.specs.Texts.{text, usage, value_ref}
use Rattle.trie_model.proofs.Members.{IsIn}
use Rattle.trie_model.proofs.Rests.{same_nibble, equal_of_test}
use Rattle.visit_model.specs.Seen.{Seen}
use Rattle.visit_model.specs.Shown.{shown}
use Rattle.batch_model.specs.Changes.{Change, found_at}
use Rattle.change_model.specs.Visits.{changes_behind, change_at, merged_child, lone_child, has_value_after, is_left, numbers_below, is_untouched, extension_cost}
use Rattle.change_model.specs.Along.{digest_of}
use Rattle.change_model.proofs.Laid.{found_at-changes_behind}
use Rattle.change_model.proofs.Merging.{untouched_none}
use Rattle.update_model.specs.Tops.{Top, lowered, top_behind, ref_here}
use Rattle.update_model.specs.Tops as tops
use Rattle.update_model.specs.Updates.{Outcome, losing, value_lost, ref_after, node_outcome, behind_outcome, parted, fork_outcome, laid_within, laid, no_branch, kid_outcome, lost_alone, merged_lost, kids_after, parts, branch_outcome, digest_or_none, updated}
use Rattle.update_model.specs.Joins.{Joint, known, joint}
use Rattle.update_model.proofs.JointsAlike.{number_from}
use Rattle.update_model.proofs.LaidSteps.{laid-step, changes_behind-nil, changes_behind-append}
use Rattle.update_model.proofs.Weights.{Nibbled, by_touch, by_merge, of_value, whole, inner, staying, kept}

-- ---- the child that is merged

-- it is a child, and no change stands below it
pub record IsChild (changes : List Change) (x : ℕ) : Type 0 where
  pub nibble : x < 16
  pub untouched : changes_behind (x ∷ []) changes ≡ []

pub merged_is_child : (ref : Option ValueRef) (kids : ℕ → Seen) (changes : List Change) (x : ℕ) → merged_child ref kids changes ≡ Some x → IsChild changes x
merged_is_child ref kids changes x is =
    go (has_value_after ref changes) (numbers_below left 16) (λ y h. (number_from left 16 y h).0) is
  where
    left : ℕ → Bool
    left y = is_left (kids y) (changes_behind (y ∷ []) changes)

    one : (y : ℕ) → y < 16 → (b : Bool) → is_untouched (changes_behind (y ∷ []) changes) ≡ b → (if b then Some y else None) ≡ Some x → IsChild changes x
    one y small true t k =
        let same : y ≡ x = cc in
        subst (λ z. IsChild changes z) same (record { nibble = small; untouched = untouched_none (changes_behind (y ∷ []) changes) t })
    one y small false t k = cc

    go : (value : Bool) (ns : List ℕ) → ((y : ℕ) → IsIn ns y → y < 16) → lone_child value ns changes ≡ Some x → IsChild changes x
    go true ns below e = cc
    go false [] below e = cc
    go false (y ∷ []) below e = one y (below y (inl refl)) (is_untouched (changes_behind (y ∷ []) changes)) refl e
    go false (y ∷ z ∷ ns) below e = cc

-- ---- what is lost

module _ (w : List ℕ → ℕ) where
  -- of a text, by its digest
  abbrev pub by_digest : List ℕ → ℕ
  by_digest t = w (sha256 t)

  abbrev pub lost : Outcome → ℕ
  lost outcome = sum_by w outcome.lost

  value-lost : (value : Option (List ℕ)) (change : Option (Option (List ℕ))) → sum_by w (value_lost (option_map value_ref value) change) + staying by_digest value change ≡ of_value by_digest value
  value-lost None None = refl
  value-lost (Some v) None = let n : ℕ = w (sha256 v) in omega arith
  value-lost None (Some c) = refl
  value-lost (Some v) (Some c) = let h = sum_by-cons w (sha256 v) [] in omega arith

  node-lost : (former : Option ValueRef) (change : Option (Option (List ℕ))) (behind : ℕ → Outcome) (whole : Joint) (further : List (List ℕ)) → lost (node_outcome former change behind whole further) ≡ sum_by w (value_lost former change) + sum_below (λ x. lost (behind x)) 16 + sum_by w further
  node-lost former change behind whole further =
      let a = sum_by-append w (value_lost former change ++ joined_below (λ x. (behind x).lost) 16) further in
      let b = sum_by-append w (value_lost former change) (joined_below (λ x. (behind x).lost) 16) in
      let c = sum_by-joined_below w (λ x. (behind x).lost) 16 in
      omega arith

  fork-lost : (onward : Top → List Change → Outcome) (old : Top) (changes : List Change) → lost (fork_outcome onward old changes) ≡ sum_by w (value_lost (ref_here old) (change_at [] changes)) + sum_below (λ x. lost (parted onward old changes x)) 16
  fork-lost onward old changes =
      let h = node-lost (ref_here old) (change_at [] changes) (parted onward old changes) (joint (ref_after (ref_here old) (change_at [] changes)) (λ x. known (parted onward old changes x).top) 0) [] in
      omega arith

  no_value-lost : (change : Option (Option (List ℕ))) → sum_by w (value_lost None change) ≡ 0
  no_value-lost None = refl
  no_value-lost (Some c) = refl

  -- ---- of changes laid over nothing, a leaf, or an extension

  module _ (child : List Change → Outcome) where
    empty-within : (n : ℕ) (changes : List Change) → lost (laid_within n child tops.empty changes) ≡ 0
    unfolding laid_within ref_here top_behind
    empty-within zero changes = refl
    empty-within (suc n) changes =
        let h = fork-lost (laid_within n child) tops.empty changes in
        let value = no_value-lost (change_at [] changes) in
        let none = sum_below-none (λ x. lost (parted (laid_within n child) tops.empty changes x)) 16 (λ x small. go (empty-within n) (changes_behind (x ∷ []) changes)) in
        omega arith
      where
        go : ((cs : List Change) → lost (laid_within n child tops.empty cs) ≡ 0) → (cs : List Change) → lost (behind_outcome (laid_within n child) tops.empty cs) ≡ 0
        go further [] = refl
        go further (c ∷ cs) = further (c ∷ cs)

    empty-lost : (changes : List Change) → lost (laid child tops.empty changes) ≡ 0
    unfolding laid
    empty-lost changes = empty-within _ changes

    behind_empty : (cs : List Change) → lost (behind_outcome (laid child) tops.empty cs) ≡ 0
    behind_empty [] = refl
    behind_empty (c ∷ cs) = empty-lost (c ∷ cs)

    -- of what begins with one nibble, what is lost behind it
    fork-lost_at : (old : Top) (y : ℕ) (further : Top) (changes : List Change) → y < 16 → ref_here old ≡ None → ((x : ℕ) → top_behind x old ≡ (if x == y then further else tops.empty)) → lost (fork_outcome (laid child) old changes) ≡ lost (behind_outcome (laid child) further (changes_behind (y ∷ []) changes))
    fork-lost_at old y further changes small no_value tops_are =
        let value : sum_by w (value_lost (ref_here old) (change_at [] changes)) ≡ 0 = ap (λ (o : Option ValueRef). sum_by w (value_lost o (change_at [] changes))) no_value ∙ no_value-lost (change_at [] changes) in
        let here : lost (parted (laid child) old changes y) ≡ lost (behind_outcome (laid child) further (changes_behind (y ∷ []) changes)) = ap (λ t. lost (behind_outcome (laid child) t (changes_behind (y ∷ []) changes))) (tops_are y ∙ ap (λ b. if b then further else tops.empty) (same_nibble y)) in
        let single = sum_below-single (λ x. lost (parted (laid child) old changes x)) 16 y small (λ x k apart. other x apart) in
        fork-lost (laid child) old changes ∙ (omega arith)
      where
        other : (x : ℕ) → x ≢ y → lost (parted (laid child) old changes x) ≡ 0
        other x apart =
            let test : (x == y) ≡ false = grind (arith, nat_tests) in
            ap (λ t. lost (behind_outcome (laid child) t (changes_behind (x ∷ []) changes))) (tops_are x ∙ ap (λ b. if b then further else tops.empty) test)
            ∙ behind_empty (changes_behind (x ∷ []) changes)

    leaf-lost : (path value : List ℕ) (changes : List Change) → AreNibbles path → lost (laid child (tops.leaf path (value_ref value)) changes) + staying by_digest (Some value) (change_at path changes) ≡ w (sha256 value)
    unfolding ref_here top_behind found_at
    leaf-lost [] value changes small =
        let step = ap lost (laid-step child (tops.leaf [] (value_ref value)) changes) in
        let fork = fork-lost (laid child) (tops.leaf [] (value_ref value)) changes in
        let others = sum_below-none (λ x. lost (parted (laid child) (tops.leaf [] (value_ref value)) changes x)) 16 (λ x k. behind_empty (changes_behind (x ∷ []) changes)) in
        let here = value-lost (Some value) (change_at [] changes) in
        omega arith
    leaf-lost (y ∷ path) value changes small =
        ap₂ (λ (a b : ℕ). a + b)
        (ap lost (laid-step child (tops.leaf (y ∷ path) (value_ref value)) changes) ∙ fork-lost_at (tops.leaf (y ∷ path) (value_ref value)) y (tops.leaf path (value_ref value)) changes small.0 refl (λ x. refl))
        (ap (staying by_digest (Some value)) (sym (found_at-changes_behind (y ∷ []) path changes)))
        ∙ go (λ cs. leaf-lost path value cs small.1) (changes_behind (y ∷ []) changes)
      where
        go : ((cs : List Change) → lost (laid child (tops.leaf path (value_ref value)) cs) + staying by_digest (Some value) (change_at path cs) ≡ w (sha256 value)) → (cs : List Change) → lost (behind_outcome (laid child) (tops.leaf path (value_ref value)) cs) + staying by_digest (Some value) (change_at path cs) ≡ w (sha256 value)
        go further [] = let n : ℕ = w (sha256 value) in omega arith
        go further (c ∷ cs) = further (c ∷ cs)

    -- what stands before a branch, of which `child` says what it loses
    module _ (tree : Tree) (digest : List ℕ) (used : ℕ) (loses : (cs : List Change) → lost (child cs) + kept by_digest tree cs ≡ whole by_digest tree) where
      abbrev staying_below : List Change → ℕ
      staying_below cs = by_touch cs (whole by_digest tree) (kept by_digest tree cs)

      first-lost : (y : ℕ) (path : List ℕ) (changes : List Change) → y < 16 → lost (laid child (tops.extension (y ∷ path) digest used) changes) ≡ lost (behind_outcome (laid child) (lowered path (tops.branch digest used)) (changes_behind (y ∷ []) changes))
      unfolding ref_here top_behind
      first-lost y path changes small =
          ap lost (laid-step child (tops.extension (y ∷ path) digest used) changes)
          ∙ fork-lost_at (tops.extension (y ∷ path) digest used) y (lowered path (tops.branch digest used)) changes small refl (λ x. refl)

      behind-lost : (path : List ℕ) (changes : List Change) → AreNibbles path → lost (behind_outcome (laid child) (lowered path (tops.branch digest used)) changes) + staying_below (changes_behind path changes) ≡ whole by_digest tree
      unfolding lowered changes_behind
      behind-lost path [] small = let n : ℕ = whole by_digest tree in omega arith
      behind-lost [] (c ∷ cs) small =
          ap₂ (λ (a : ℕ) (ds : List Change). a + staying_below ds) (ap lost (laid-step child (tops.branch digest used) (c ∷ cs))) (changes_behind-nil (c ∷ cs))
          ∙ loses (c ∷ cs)
      behind-lost (y ∷ path) (c ∷ cs) small =
          ap₂ (λ (a : ℕ) (ds : List Change). a + staying_below ds) (first-lost y path (c ∷ cs) small.0) (changes_behind-append (y ∷ []) path (c ∷ cs))
          ∙ behind-lost path (changes_behind (y ∷ []) (c ∷ cs)) small.1

      extension-lost : (path : List ℕ) (changes : List Change) → AreNibbles path → path ≢ [] → lost (laid child (tops.extension path digest used) changes) + staying_below (changes_behind path changes) ≡ whole by_digest tree
      extension-lost [] changes small some = absurd (some refl)
      extension-lost (y ∷ path) changes small some =
          ap₂ (λ (a : ℕ) (ds : List Change). a + staying_below ds) (first-lost y path changes small.0) (changes_behind-append (y ∷ []) path changes)
          ∙ behind-lost path (changes_behind (y ∷ []) changes) small.1

  -- ---- of a branch

  losing-lost : (digest : List ℕ) (outcome : Outcome) → lost (losing digest outcome) ≡ w digest + lost outcome
  losing-lost digest outcome = sum_by-cons w digest outcome.lost

  -- the record of a child that is merged
  own : Tree → ℕ
  own tree = sum_by w (lost_alone (shown tree))

  own-inner : (tree : Tree) → inner by_digest tree + own tree ≡ whole by_digest tree
  unfolding own lost_alone shown inner whole
  own-inner nothing = refl
  own-inner (leaf path value) = let h = sum_by-cons w (sha256 (text (leaf path value))) [] in omega arith
  own-inner (branch value kids) = let n : ℕ = whole by_digest (branch value kids) in omega arith
  own-inner (extension path child) = let h = sum_by-cons w (sha256 (text (extension path child))) [] in omega arith

  merge-lost : (merged : Option ℕ) (kids : ℕ → Tree) → ((x : ℕ) → merged ≡ Some x → x < 16) → sum_below (λ x. by_merge merged x (own (kids x)) 0) 16 ≡ sum_by w (merged_lost merged (λ x. shown (kids x)))
  unfolding own
  merge-lost None kids small = sum_below-none (λ x. 0) 16 (λ x k. refl)
  merge-lost (Some y) kids small =
      sum_below-single (λ x. by_merge (Some y) x (own (kids x)) 0) 16 y (small y refl) (λ x k apart. other x apart)
      ∙ ap (λ b. if b then own (kids y) else 0) (same_nibble y)
    where
      other : (x : ℕ) → x ≢ y → by_merge (Some y) x (own (kids x)) 0 ≡ 0
      other x apart = let test : (x == y) ≡ false = grind (arith, nat_tests) in ap (λ b. if b then own (kids x) else 0) test

  module _ (value : Option (List ℕ)) (kids : ℕ → Tree) (changes : List Change) (further : (x : ℕ) (cs : List Change) → lost (updated (shown (kids x)) cs) + kept by_digest (kids x) cs ≡ whole by_digest (kids x)) where
    abbrev merged : Option ℕ
    merged = merged_child (option_map value_ref value) (λ y. shown (kids y)) changes

    abbrev outcome_at : ℕ → Outcome
    outcome_at x = kid_outcome (changes_behind (x ∷ []) changes) (updated (shown (kids x)) (changes_behind (x ∷ []) changes))

    abbrev kept_at : ℕ → ℕ
    kept_at x = by_touch (changes_behind (x ∷ []) changes) (by_merge merged x (inner by_digest (kids x)) (whole by_digest (kids x))) (kept by_digest (kids x) (changes_behind (x ∷ []) changes))

    abbrev merged_at : ℕ → ℕ
    merged_at x = by_merge merged x (own (kids x)) 0

    kid-lost : (x : ℕ) → lost (outcome_at x) + kept_at x + merged_at x ≡ whole by_digest (kids x)
    kid-lost x = go (changes_behind (x ∷ []) changes) (λ is. (merged_is_child (option_map value_ref value) (λ y. shown (kids y)) changes x is).untouched) (further x (changes_behind (x ∷ []) changes)) merged refl
      where
        go : (cs : List Change) → (merged ≡ Some x → cs ≡ []) → lost (updated (shown (kids x)) cs) + kept by_digest (kids x) cs ≡ whole by_digest (kids x) → (m : Option ℕ) → merged ≡ m
            → lost (kid_outcome cs (updated (shown (kids x)) cs)) + by_touch cs (by_merge m x (inner by_digest (kids x)) (whole by_digest (kids x))) (kept by_digest (kids x) cs) + by_merge m x (own (kids x)) 0 ≡ whole by_digest (kids x)
        go [] untouched h None is = let n : ℕ = whole by_digest (kids x) in omega arith
        go [] untouched h (Some y) is = elim (x == y) as (λ b. 0 + (if b then inner by_digest (kids x) else whole by_digest (kids x)) + (if b then own (kids x) else 0) ≡ whole by_digest (kids x)) [
          | true ↦ let k = own-inner (kids x) in omega arith
          | false ↦ let n : ℕ = whole by_digest (kids x) in omega arith
        ]
        go (c ∷ cs) untouched h None is = omega arith
        go (c ∷ cs) untouched h (Some y) is = elim (x == y) as (λ b. (x == y) ≡ b → lost (updated (shown (kids x)) (c ∷ cs)) + kept by_digest (kids x) (c ∷ cs) + (if b then own (kids x) else 0) ≡ whole by_digest (kids x)) [
          | true ↦ λ t. absurd (some_change c cs (untouched (is ∙ ap (λ (z : ℕ). Some z) (sym (equal_of_test x y t)))))
          | false ↦ λ t. omega arith
        ] refl
          where
            some_change : (c : Change) (cs : List Change) → c ∷ cs ≡ [] → ⊥
            some_change c cs e = cc

    branch-lost : (usage : ℕ) → lost (branch_outcome usage (option_map value_ref value) (λ x. shown (kids x)) changes (λ x. updated (shown (kids x)) (changes_behind (x ∷ []) changes))) + kept by_digest (branch value kids) changes ≡ of_value by_digest value + sum_below (λ x. whole by_digest (kids x)) 16
    unfolding kept
    branch-lost usage =
        let node = node-lost (option_map value_ref value) (change_at [] changes) outcome_at (joint (ref_after (option_map value_ref value) (change_at [] changes)) (kids_after (option_map value_ref value) (λ x. shown (kids x)) changes (λ x. updated (shown (kids x)) (changes_behind (x ∷ []) changes))) (usage - parts (option_map value_ref value) (λ x. shown (kids x)) changes)) (merged_lost merged (λ x. shown (kids x))) in
        let here = value-lost value (change_at [] changes) in
        let sums = sum_below-agree (λ x. lost (outcome_at x) + kept_at x + merged_at x) (λ x. whole by_digest (kids x)) 16 (λ x small. kid-lost x) in
        let first = sum_below-plus (λ x. lost (outcome_at x) + kept_at x) merged_at 16 in
        let second = sum_below-plus (λ x. lost (outcome_at x)) kept_at 16 in
        let merge = merge-lost merged kids (λ x is. (merged_is_child (option_map value_ref value) (λ y. shown (kids y)) changes x is).nibble) in
        omega arith

  pub updated-lost : (tree : Tree) → Nibbled tree → (changes : List Change) → lost (updated (shown tree) changes) + kept by_digest tree changes ≡ whole by_digest tree
  unfolding updated shown kept whole Nibbled
  updated-lost nothing small changes = let h = empty-lost no_branch changes in omega arith
  updated-lost (leaf path value) small changes =
      let a = losing-lost (sha256 (text (leaf path value))) (laid no_branch (tops.leaf path (value_ref value)) changes) in
      let b = leaf-lost no_branch path value changes small in
      omega arith
  updated-lost (extension path child) small changes =
      let d : List ℕ = digest_or_none (digest_of (shown child)) in
      let u : ℕ = usage (extension path child) - extension_cost path in
      let a = losing-lost (sha256 (text (extension path child))) (laid (λ cs. updated (shown child) cs) (tops.extension path d u) changes) in
      let b = extension-lost (λ cs. updated (shown child) cs) child d u (λ cs. updated-lost child small.2 cs) path changes small.0 small.1 in
      omega arith
  updated-lost (branch value kids) small changes =
      let a = losing-lost (sha256 (text (branch value kids))) (branch_outcome (usage (branch value kids)) (option_map value_ref value) (λ x. shown (kids x)) changes (λ x. updated (shown (kids x)) (changes_behind (x ∷ []) changes))) in
      let b = branch-lost value kids changes (λ x cs. updated-lost (kids x) (small x) cs) (usage (branch value kids)) in
      omega arith
