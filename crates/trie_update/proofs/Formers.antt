-- A branch as it was read, and one that comes out so: its record and its digest are those of before.
use Rattle.std.proofs.Common.{◌≡◌, ℕ, ◌+◌, ◌<◌, List, Option, option_map, Box, Global, ap, sym, ◌∙◌, arith}
use Rattle.sha2.specs.Sha256.{sha256}
use Rattle.byte_model.specs.Node as node
use Rattle.byte_model.specs.Node.{own_cost, spelled}
use Rattle.byte_model.proofs.Spellings.{spelled_branch-agree}
use Rattle.change_model.specs.Visits.{branch_cost}
use Rattle.base_core.specs.declared.hash.Digest.{Digest}
use Rattle.node_codec.specs.declared.kids.Kids.{Kids}
use Rattle.node_codec.specs.declared.node.Node.TheVariants.{Branch}
use Rattle.node_codec.specs.declared.value_ref.ValueRef.{ValueRef}
use Rattle.node_codec.specs.Meanings.{children_in, node_of, value_of}
use Rattle.trie_shape.specs.declared.closed.Closed.{Closed}
use Rattle.trie_shape.specs.Shows.{IsRecord}
use Rattle.trie_update.specs.declared.former.FormerBranch.{FormerBranch}
use Rattle.trie_update.specs.declared.visiting.Visited.{Visited}
use Rattle.trie_update.specs.Formers.{IsFormer}
use Rattle.trie_update.proofs.Children.{own-branch}

-- of a node that was visited
pub record-read : (digest : List ℕ) (visited : Visited) (value : Option ValueRef) (boxed : Box Kids Global) (kids : List (Option Digest)) → digest ≡ sha256 (spelled (node_of visited.node) visited.stated) → visited.node ≡ Branch value boxed → kids ≡ boxed.value
    → digest ≡ sha256 (spelled (node.branch (option_map value_of value) (children_in kids)) visited.stated)
record-read digest visited value boxed kids record_is is same =
    record_is ∙ ap (λ n. sha256 (spelled (node_of n) visited.stated)) is ∙ ap (λ ks. sha256 (spelled (node.branch (option_map value_of value) (children_in ks)) visited.stated)) (sym same)

module _ (former : FormerBranch) (read : IsFormer former) (value : Option ValueRef) (kids : List (Option Digest)) (usage : ℕ)
    (uses : former.stated ≡ former.own + usage) (same_value : former.value.now ≡ value) (same_kids : (x : ℕ) → x < 16 → children_in former.kids.now x ≡ children_in kids x) where
  again-stated : former.stated ≡ own_cost (node.branch (option_map value_of value) (children_in kids)) + usage
  again-stated =
      let own : former.own ≡ branch_cost (option_map value_of value) = read.own ∙ ap (λ (v : Option ValueRef). branch_cost (option_map value_of v)) same_value in
      let cost = own-branch (option_map value_of value) (children_in kids) in
      omega arith

  pub again-record : (closed : Closed) → IsRecord closed (node.branch (option_map value_of former.value.now) (children_in former.kids.now)) former.stated → IsRecord closed (node.branch (option_map value_of value) (children_in kids)) (own_cost (node.branch (option_map value_of value) (children_in kids)) + usage)
  again-record closed is = record {
    text =
        is.text ∙ ap (λ (v : Option ValueRef). spelled (node.branch (option_map value_of v) (children_in former.kids.now)) former.stated) same_value
        ∙ ap (λ (n : ℕ). spelled (node.branch (option_map value_of value) (children_in former.kids.now)) n) again-stated
        ∙ spelled_branch-agree (option_map value_of value) (children_in former.kids.now) (children_in kids) (own_cost (node.branch (option_map value_of value) (children_in kids)) + usage) same_kids;
    digest = is.digest;
    usage = is.usage ∙ again-stated;
  }
