-- What the texts of a trie weigh, whatever each of them does, and those of them that a batch leaves as they are.
use Rattle.std.proofs.Common.{◌≡◌, ◌≢◌, ℕ, ◌+◌, ◌==◌, if◌then◌else◌, List, [], ◌∷◌, sum_by, Option, None, Some, option_map, refl, arith}
use Rattle.std.specs.Prelude.{⊤}
use Rattle.std.proofs.lemmas.List.Sums.{sum_by-cons}
use Rattle.byte_model.specs.Below.{sum_below}
use Rattle.byte_model.specs.Nibbles.{AreNibbles}
use Rattle.trie_model.specs.Tree.{Tree, nothing, leaf, branch, extension}
use Rattle.trie_model.specs.Texts.{text, usage, top_cost, value_ref}
use Rattle.trie_model.specs.Grown.{grown}
use Rattle.visit_model.specs.Shown.{shown}
use Rattle.batch_model.specs.Changes.{Change}
use Rattle.change_model.specs.Visits.{changes_behind, change_at, merged_child}
use Rattle.update_model.specs.Tops.{top_of, pending}

-- paths of nibbles, and no extension without one
unfoldable pub Nibbled : Tree → Type 0
Nibbled nothing = ⊤
Nibbled (leaf path value) = AreNibbles path
Nibbled (branch value kids) = (x : ℕ) → Nibbled (kids x)
Nibbled (extension path child) = AreNibbles path × (path ≢ []) × Nibbled child

-- by whether a change stands there
abbrev pub by_touch : List Change → ℕ → ℕ → ℕ
by_touch [] untouched touched = untouched
by_touch (change ∷ changes) untouched touched = touched

-- by whether a child is the one that is merged
abbrev pub by_merge : Option ℕ → ℕ → ℕ → ℕ → ℕ
by_merge None x merged other = other
by_merge (Some y) x merged other = if x == y then merged else other

module _ (f : List ℕ → ℕ) where
  abbrev pub of_value : Option (List ℕ) → ℕ
  of_value None = 0
  of_value (Some value) = f value

  -- all texts: the records of the nodes, and the values
  unfoldable pub whole : Tree → ℕ
  whole nothing = 0
  whole (leaf path value) = f (text (leaf path value)) + f value
  whole (branch value kids) = f (text (branch value kids)) + (of_value value + sum_below (λ x. whole (kids x)) 16)
  whole (extension path child) = f (text (extension path child)) + whole child

  -- all but the record of the top, where that is not made at once
  unfoldable pub inner : Tree → ℕ
  inner nothing = 0
  inner (leaf path value) = f value
  inner (branch value kids) = whole (branch value kids)
  inner (extension path child) = whole child

  pub inner_and_pending : (tree : Tree) → inner tree + sum_by f (pending (top_of tree)) ≡ whole tree
  unfolding whole inner top_of pending text usage top_cost
  inner_and_pending nothing = refl
  inner_and_pending (leaf path value) = let h = sum_by-cons f (text (leaf path value)) [] in omega arith
  inner_and_pending (branch value kids) = let n : ℕ = whole (branch value kids) in omega arith
  inner_and_pending (extension path child) = let h = sum_by-cons f (text (extension path child)) [] in omega arith

  -- nibbles before it change no more than that record
  pub inner-grown : (prefix : List ℕ) (tree : Tree) → inner (grown prefix tree) ≡ inner tree
  unfolding inner grown
  inner-grown prefix nothing = refl
  inner-grown prefix (leaf path value) = refl
  inner-grown [] (branch value kids) = refl
  inner-grown (x ∷ prefix) (branch value kids) = refl
  inner-grown prefix (extension path child) = refl

  -- ---- what stays

  -- a value, if it is not changed
  abbrev pub staying : Option (List ℕ) → Option (Option (List ℕ)) → ℕ
  staying value None = of_value value
  staying value (Some change) = 0

  -- A batch leaves what stands below a child without a change, all but the record of a leaf or an extension that is merged; and the values of the keys that it does not change.
  unfoldable pub kept : Tree → List Change → ℕ
  kept nothing changes = 0
  kept (leaf path value) changes = staying (Some value) (change_at path changes)
  kept (branch value kids) changes =
      staying value (change_at [] changes)
      + sum_below (λ x. by_touch (changes_behind (x ∷ []) changes) (by_merge (merged_child (option_map value_ref value) (λ y. shown (kids y)) changes) x (inner (kids x)) (whole (kids x))) (kept (kids x) (changes_behind (x ∷ []) changes))) 16
  kept (extension path child) changes = by_touch (changes_behind path changes) (whole child) (kept child (changes_behind path changes))

  -- where there may be no change
  abbrev pub kept_if : Tree → List Change → ℕ
  kept_if tree changes = by_touch changes (inner tree) (kept tree changes)
