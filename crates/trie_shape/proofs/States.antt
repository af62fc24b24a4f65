-- The rows of a whole state, and of its places.
use Rattle.std.proofs.Common.{◌≡◌, ℕ, ◌^◌, ◌<◌, List, [], ◌∷◌, map, Option, None, Some, unwrap_or, option_map, refl, sym, ◌∙◌, ap, subst, arith}
use Rattle.std.specs.List.{AllByRecursion}
use Rattle.std.specs.FinMap.{entries}
use Rattle.byte_model.specs.Nibbles.{nibbles}
use Rattle.byte_model.specs.Node as node
use Rattle.byte_model.specs.Node.{IsShaped, ValueRef as ValueOfRecord}
use Rattle.byte_model.proofs.Digits.{length-nibbles, AreNibbles-nibbles}
use Rattle.trie_model.specs.State.{State, Row, rows_of, IsPair, IsState}
use Rattle.trie_model.specs.Tree.{Tree, nothing, leaf, branch, extension, below, tree_of}
use Rattle.trie_model.specs.Texts.{usage, text, name_of}
use Rattle.trie_model.specs.Root.{zero_digest, root_of, root, total, subtree_at}
use Rattle.trie_model.proofs.Bounds.{usage-lt}
use Rattle.trie_model.proofs.Costs.{subtree_at-root}
use Rattle.trie_model.proofs.Order.{rising-rows_of}
use Rattle.base_core.specs.declared.hash.Digest.{Digest}
use Rattle.base_core.specs.PairMaps.{PairMap, IsPairMap}
use Rattle.trie_shape.specs.declared.sub.Sub.{Sub}
use Rattle.trie_shape.specs.Runs.{Rises}
use Rattle.trie_shape.specs.RowsAt.{Lent, rows_at, IsRowAt, AreRowsAt}
use Rattle.trie_shape.specs.Shows.{Shows, MayClose, IsName, IsBranchOf}
use Rattle.trie_shape.proofs.Runs.{rises}
use Rattle.trie_shape.proofs.SoundRows.{sound-below, sound-rows_of, sound-tree_of, shaped-forks}
use Rattle.trie_shape.proofs.Shows.{may_close}

abbrev Entry : Type 0
Entry = List ℕ × List ℕ

abbrev pub lent : List Lent → List Entry
lent rows = map (λ row. (row.0.now, row.1.now)) rows

abbrev from_entries : List Entry → List Row
from_entries es = map (λ pair. (nibbles pair.0, pair.1)) es

rows_at-lent : (rows : List Lent) → rows_at 0 rows ≡ from_entries (lent rows)
rows_at-lent [] = refl
rows_at-lent (row ∷ rows) = ap (λ (rs : List Row). (nibbles row.0.now, row.1.now) ∷ rs) (rows_at-lent rows)

pub rows_at-state : (state : State) (rows : List Lent) → lent rows ≡ entries state → rows_at 0 rows ≡ rows_of state
unfolding rows_of
rows_at-state state rows e = rows_at-lent rows ∙ ap from_entries e

each-row : (rows : List Lent) → AllByRecursion IsPair (lent rows) → AllByRecursion (IsRowAt 0) rows
each-row [] h = tt
each-row (row ∷ rows) h =
    let long = length-nibbles row.0.now in
    let short = h.0.key_length in
    (record { deep = omega arith; short = omega arith; nibbles = AreNibbles-nibbles row.0.now h.0.key; value = h.0.value_length }, each-row rows h.1)

module _ (held : PairMap) (rows : List Lent) (is : IsPairMap held) (e : lent rows ≡ entries held.state) where
  pub state-rows : AreRowsAt 0 rows
  state-rows = record {
    rises = subst Rises (sym (rows_at-state held.state rows e)) (rises (rows_of held.state) (rising-rows_of held.state));
    each = each-row rows (subst (AllByRecursion IsPair) (sym e) is.each);
  }

  whole_tree : tree_of (rows_at 0 rows) ≡ subtree_at held.state []
  whole_tree = ap tree_of (rows_at-state held.state rows e) ∙ sym (subtree_at-root held.state)

  pub state-fits : usage (tree_of (rows_at 0 rows)) < 2 ^ 64
  state-fits =
      let few = is.few in
      let most = is.bounded in
      let small = usage-lt held.state (record { pairs = is.each; few = omega arith }) [] in
      let same = ap usage whole_tree in
      omega arith

  pub state-total : (name : Option Digest × ℕ) → IsName name (tree_of (rows_at 0 rows)) → name.1 ≡ total held.state
  state-total name is = is.usage ∙ ap usage whole_tree

  root-name : (tree : Tree) → root_of tree ≡ unwrap_or (name_of tree (text tree)) zero_digest
  unfolding root_of name_of
  root-name nothing = refl
  root-name (leaf path value) = refl
  root-name (branch value kids) = refl
  root-name (extension path child) = refl

  or_zero : (name : Option Digest) (zero : Digest) → zero.0 ≡ zero_digest → (unwrap_or name zero).0 ≡ unwrap_or (option_map (λ d. d.0) name) zero_digest
  or_zero None zero e = e
  or_zero (Some digest) zero e = refl

  pub state-root : (name : Option Digest × ℕ) (zero : Digest) → zero.0 ≡ zero_digest → IsName name (tree_of (rows_at 0 rows)) → (unwrap_or name.0 zero).0 ≡ root held.state
  state-root name zero z is = or_zero name.0 zero z ∙ ap (λ o. unwrap_or o zero_digest) is.digest ∙ sym (root-name (tree_of (rows_at 0 rows))) ∙ ap root_of whole_tree

-- ---- subtrees at the places of a state

pub place-may_close : (state : State) → IsState state → (place : List ℕ) (sub : Sub) → Shows sub (subtree_at state place) → MayClose sub
unfolding subtree_at
place-may_close state is place sub h = may_close sub (tree_of (below place (rows_of state))) h (sound-tree_of (below place (rows_of state)) (sound-below place (rows_of state) (sound-rows_of state is)))

pub place-shaped : (state : State) → IsState state → (place : List ℕ) (value : Option ValueOfRecord) (kids : ℕ → Option (List ℕ)) (used : ℕ) → IsBranchOf (below place (rows_of state)) value kids used → IsShaped (node.branch value kids)
place-shaped state is place = shaped-forks (below place (rows_of state)) (sound-below place (rows_of state) (sound-rows_of state is))
