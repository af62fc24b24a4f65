-- What subtrees show.
use Rattle.std.proofs.Common.{◌≡◌, ℕ, ◌+◌, List, [], ◌∷◌, ◌++◌, ◌<◌, ◌≤◌, Option, None, Some, Result, Ok, option_map, IfSome, IfNone, IsSome, refl, sym, ap, ap₂, subst, ◌∙◌, arith}
use Rattle.sha2.specs.Sha256.{sha256}
use Rattle.byte_model.specs.Below.{sum_below}
use Rattle.byte_model.specs.Borsh.{borsh_u64}
use Rattle.byte_model.specs.Node as node
use Rattle.byte_model.specs.Node.{Node, IsShaped, longest_value, spelled_value, spelled, own_cost, ValueRef as ValueOfRecord}
use Rattle.byte_model.proofs.Spellings.{spelled_children-agree}
use Rattle.trie_model.specs.Grown.{grown, under}
use Rattle.trie_model.specs.State.{Row}
use Rattle.trie_model.specs.Tree.{Tree, nothing, leaf, branch, extension, ends_here, tree_of}
use Rattle.trie_model.specs.Texts.{text, usage, top_cost, value_ref, name_of, node_of}
use Rattle.trie_model.proofs.Growth.{tree_of-under}
use Rattle.base_core.specs.declared.hash.Digest.{Digest}
use Rattle.node_codec.specs.Meanings.{value_of}
use Rattle.node_codec.specs.declared.value_ref.ValueRef.{ValueRef}
use Rattle.trie_shape.specs.declared.close_error.CloseError.{CloseError}
use Rattle.trie_shape.specs.declared.closed.Closed.{Closed}
use Rattle.trie_shape.specs.declared.sub.Sub.{Sub}
use Rattle.trie_shape.specs.declared.sub.Sub.TheVariants.{Empty, Leaf, Branch, Extension}
use Rattle.trie_shape.specs.Shows.{Shows, MayClose, under_of, top_node, usage_of, digest_of, IsRead, IsRecord, IsTop, IsName, child_of, AreChildren, IsBranchOf}
use Rattle.trie_shape.specs.Runs.{DoFork}
use Rattle.trie_shape.proofs.SoundRows.{IsSound, tree-forks}

-- ---- the four ways to show a trie

record ByKind (P : Sub → Tree → Type 0) : Type 0 where
  empty : P Empty nothing
  one : (path v : List ℕ) (value : ValueRef) → value_of value ≡ value_ref v → P (Leaf path value) (leaf path v)
  forks : (digest : Digest) (used : ℕ) (v : Option (List ℕ)) (kids : ℕ → Tree) → digest.0 ≡ sha256 (text (branch v kids)) → used ≡ usage (branch v kids) → P (Branch digest used) (branch v kids)
  shares : (path : List ℕ) (child : Digest) (used : ℕ) (tree : Tree) → child.0 ≡ sha256 (text tree) → used ≡ usage tree → P (Extension path child used) (extension path tree)

by_kind : (P : Sub → Tree → Type 0) → ByKind P → (sub : Sub) (tree : Tree) → Shows sub tree → P sub tree
by_kind P cases Empty nothing h = cases.empty
by_kind P cases (Leaf path value) (leaf p v) h = subst (λ (q : List ℕ). P (Leaf path value) (leaf q v)) h.0 (cases.one path v value h.1)
by_kind P cases (Branch digest used) (branch v kids) h = cases.forks digest used v kids h.0 h.1
by_kind P cases (Extension path child used) (extension p tree) h = subst (λ (q : List ℕ). P (Extension path child used) (extension q tree)) h.0 (cases.shares path child used tree h.1 h.2)
by_kind P cases Empty (leaf p v) h = absurd h
by_kind P cases Empty (branch v kids) h = absurd h
by_kind P cases Empty (extension p t) h = absurd h
by_kind P cases (Leaf path value) nothing h = absurd h
by_kind P cases (Leaf path value) (branch v kids) h = absurd h
by_kind P cases (Leaf path value) (extension p t) h = absurd h
by_kind P cases (Branch digest used) nothing h = absurd h
by_kind P cases (Branch digest used) (leaf p v) h = absurd h
by_kind P cases (Branch digest used) (extension p t) h = absurd h
by_kind P cases (Extension path child used) nothing h = absurd h
by_kind P cases (Extension path child used) (leaf p v) h = absurd h
by_kind P cases (Extension path child used) (branch v kids) h = absurd h

-- ---- of a node that was read

leaf-read : (path p v : List ℕ) (value : ValueRef) → node.leaf p (value_ref v) ≡ node.leaf path (value_of value) → Shows (Leaf path value) (leaf p v)
leaf-read path p v value e =
    let along : path ≡ p = cc in
    let named : value_of value ≡ value_ref v = cc in
    (along, named)

extension-read : (path p : List ℕ) (child : Digest) (below : ℕ) (tree : Tree) → node.extension p (sha256 (text tree)) ≡ node.extension path child.0 → usage (extension p tree) ≡ own_cost (node.extension p (sha256 (text tree))) + below → Shows (Extension path child below) (extension p tree)
unfolding own_cost usage top_cost
extension-read path p child below tree e uses =
    let along : path ≡ p = cc in
    let named : child.0 ≡ sha256 (text tree) = cc in
    (along, named, omega arith)

pub read-shown : (sub : Sub) (tree : Tree) → IfSome (node_of tree) (λ node. IsRead sub node (sha256 (text tree)) (usage tree) → Shows sub tree)
unfolding node_of
read-shown sub nothing = tt
read-shown (Leaf path value) (leaf p v) = leaf-read path p v value
read-shown (Branch digest used) (branch v kids) = λ h. h
read-shown (Extension path child used) (extension p tree) = λ h. extension-read path p child used tree h.0 h.1
read-shown Empty (leaf p v) = λ h. absurd h
read-shown Empty (branch v kids) = λ h. absurd h
read-shown Empty (extension p t) = λ h. absurd h
read-shown (Leaf path value) (branch v kids) = λ h. cc
read-shown (Leaf path value) (extension p t) = λ h. cc
read-shown (Branch digest used) (leaf p v) = λ h. absurd h
read-shown (Branch digest used) (extension p t) = λ h. absurd h
read-shown (Extension path child used) (leaf p v) = λ h. let e = h.0 in cc
read-shown (Extension path child used) (branch v kids) = λ h. let e = h.0 in cc

-- ---- nibbles put before it

under_branch : (nibbles : List ℕ) (digest : Digest) (used : ℕ) (v : Option (List ℕ)) (kids : ℕ → Tree) → digest.0 ≡ sha256 (text (branch v kids)) → used ≡ usage (branch v kids) → Shows (under_of nibbles (Branch digest used)) (grown nibbles (branch v kids))
unfolding grown
under_branch [] digest used v kids named uses = (named, uses)
under_branch (x ∷ nibbles) digest used v kids named uses = (refl, named, uses)

under-shown : (nibbles : List ℕ) (self : Sub) (tree : Tree) → Shows self tree → Shows (under_of nibbles self) (grown nibbles tree)
unfolding grown
under-shown nibbles = by_kind (λ self tree. Shows (under_of nibbles self) (grown nibbles tree)) (record {
  empty = tt;
  one = λ path v value named. (refl, named);
  forks = under_branch nibbles;
  shares = λ path child used tree named uses. (refl, named, uses);
})

pub shown-under : (nibbles : List ℕ) (self sub : Sub) → sub ≡ under_of nibbles self → (tree : Tree) → Shows self tree → Shows sub (grown nibbles tree)
shown-under nibbles self sub e tree h = subst (λ s. Shows s (grown nibbles tree)) (sym e) (under-shown nibbles self tree h)

pub shown-under_rows : (nibbles : List ℕ) (self sub : Sub) → sub ≡ under_of nibbles self → (rows : List Row) → Shows self (tree_of rows) → Shows sub (tree_of (under nibbles rows))
shown-under_rows nibbles self sub e rows h = subst (Shows sub) (sym (tree_of-under nibbles rows)) (shown-under nibbles self sub e (tree_of rows) h)

-- ---- its usage, and the digest that names it

pub usage-shown : (self : Sub) (tree : Tree) → Shows self tree → usage_of self ≡ usage tree
unfolding own_cost usage top_cost
usage-shown = by_kind (λ self tree. usage_of self ≡ usage tree) (record {
  empty = refl;
  one = λ path v value named. ap (λ (r : ValueOfRecord). own_cost (node.leaf path r)) named;
  forks = λ digest used v kids named uses. uses;
  shares = λ path child used tree named uses. ap (λ n. own_cost (node.extension path child.0) + n) uses;
})

pub digest-shown : (self : Sub) (tree : Tree) → Shows self tree → digest_of self ≡ name_of tree (text tree)
unfolding own_cost usage top_cost text name_of
digest-shown = by_kind (λ self tree. digest_of self ≡ name_of tree (text tree)) (record {
  empty = refl;
  one = λ path v value named. ap (λ (r : ValueOfRecord). Some (sha256 (spelled (node.leaf path r) (own_cost (node.leaf path r))))) named;
  forks = λ digest used v kids named uses. ap Some named;
  shares = λ path child used tree named uses. ap₂ (λ (d : List ℕ) (n : ℕ). Some (sha256 (spelled (node.extension path d) (own_cost (node.extension path d) + n)))) named uses;
})

pub name-shown : (self : Sub) (name : Option Digest × ℕ) → option_map (λ d. d.0) name.0 ≡ digest_of self → name.1 ≡ usage_of self → (tree : Tree) → Shows self tree → IsName name tree
name-shown self name named uses tree h = record { digest = named ∙ digest-shown self tree h; usage = uses ∙ usage-shown self tree h }

-- ---- the record of its top

no_top : IsSome (top_node Empty) → ⊥
no_top some = cc

pub top-shown : (self : Sub) (closed : Closed) (tree : Tree) → IfSome (top_node self) (λ node. IsRecord closed node (usage_of self)) → IsSome (top_node self) → Shows self tree → IsTop closed tree
unfolding own_cost usage top_cost text
top-shown self closed tree written some h = by_kind (λ self tree. IfSome (top_node self) (λ node. IsRecord closed node (usage_of self)) → IsSome (top_node self) → IsTop closed tree) (record {
  empty = λ written some. absurd (no_top some);
  one = λ path v value named written some. record {
    text = written.text ∙ ap (λ (r : ValueOfRecord). spelled (node.leaf path r) (own_cost (node.leaf path r))) named;
    digest = written.digest;
    usage = written.usage ∙ ap (λ (r : ValueOfRecord). own_cost (node.leaf path r)) named;
  };
  forks = λ digest used v kids named uses written some. absurd (no_top some);
  shares = λ path child used tree named uses written some. record {
    text = written.text ∙ ap₂ (λ (d : List ℕ) (n : ℕ). spelled (node.extension path d) (own_cost (node.extension path d) + n)) named uses;
    digest = written.digest;
    usage = written.usage ∙ ap (λ (n : ℕ). own_cost (node.extension path child.0) + n) uses;
  };
}) self tree h written some

pub record IsNamed (self : Sub) (closed : Closed) : Type 0 where
  pub digest : Some closed.digest.0 ≡ digest_of self
  pub usage : closed.usage ≡ usage_of self

abbrev pub IsAbsent : Closed → Type 0
IsAbsent closed = let result : Result (Option Closed) CloseError = Ok (Some closed) in result ≡ Ok None

pub not_absent : (closed : Closed) → IsAbsent closed → ⊥
not_absent closed absent = cc

-- what is closed is named by its record
pub name-closed : (self : Sub) (closed : Closed) → IfNone (top_node self) (IsAbsent closed) → IfSome (top_node self) (λ node. IsRecord closed node (usage_of self)) → IsNamed self closed
name-closed Empty closed none written = absurd (not_absent closed none)
name-closed (Branch digest used) closed none written = absurd (not_absent closed none)
name-closed (Leaf path value) closed none written = record { digest = ap Some (written.digest ∙ ap sha256 written.text); usage = written.usage }
name-closed (Extension path child used) closed none written = record { digest = ap Some (written.digest ∙ ap sha256 written.text); usage = written.usage }

-- ---- whether that may be written

pub no_node : (n : Node) → None ≡ Some n → IsShaped n
no_node n e = cc

pub one_node : (n other : Node) → IsShaped n → Some n ≡ Some other → IsShaped other
one_node n other h e = let same : n ≡ other = cc in subst IsShaped same h

pub may_close : (self : Sub) (tree : Tree) → Shows self tree → IsSound tree → MayClose self
may_close = by_kind (λ self tree. IsSound tree → MayClose self) (record {
  empty = λ sound. record { nibbles = tt; short = omega arith; shaped = no_node };
  one = λ path v value named sound. record {
    nibbles = sound.0;
    short = sound.1;
    shaped = λ other. one_node (node.leaf path (value_of value)) other (subst (λ (r : ValueOfRecord). r.length ≤ longest_value) (sym named) sound.2);
  };
  forks = λ digest used v kids named uses sound. record { nibbles = tt; short = omega arith; shaped = no_node };
  shares = λ path child used tree named uses sound. record { nibbles = sound.0; short = sound.1; shaped = λ other. one_node (node.extension path child.0) other sound.2 };
})

-- ---- the record of a branch

spelled-branch : (value : Option ValueOfRecord) (kids others : ℕ → Option (List ℕ)) (used : ℕ) → ((x : ℕ) → x < 16 → kids x ≡ others x) → spelled (node.branch value kids) used ≡ spelled (node.branch value others) used
unfolding spelled
spelled-branch None kids others used same = ap (λ (bytes : List ℕ). 1 ∷ bytes ++ borsh_u64 used) (spelled_children-agree kids others same)
spelled-branch (Some value) kids others used same = ap (λ (bytes : List ℕ). 2 ∷ spelled_value value ++ bytes ++ borsh_u64 used) (spelled_children-agree kids others same)

branch_cost : (v : Option (List ℕ)) (kids : ℕ → Option (List ℕ)) (trees : ℕ → Tree) → own_cost (node.branch (option_map value_ref v) kids) ≡ top_cost (branch v trees)
unfolding own_cost top_cost
branch_cost None kids trees = refl
branch_cost (Some v) kids trees = refl

pub branch_top : (closed : Closed) (value : Option ValueOfRecord) (kids : ℕ → Option (List ℕ)) (kids_usage : ℕ) → IsRecord closed (node.branch value kids) (own_cost (node.branch value kids) + kids_usage)
    → (v : Option (List ℕ)) (trees : ℕ → Tree) → value ≡ option_map value_ref v → AreChildren kids kids_usage trees → IsTop closed (branch v trees)
unfolding text usage
branch_top closed value kids kids_usage written v trees names children =
    let others = λ (x : ℕ). name_of (trees x) (text (trees x)) in
    let cost : own_cost (node.branch value kids) + kids_usage ≡ usage (branch v trees) = ap₂ (λ (a b : ℕ). a + b) (ap (λ (r : Option ValueOfRecord). own_cost (node.branch r kids)) names ∙ branch_cost v kids trees) children.together in
    record {
      text = written.text ∙ ap₂ (λ (r : Option ValueOfRecord) (u : ℕ). spelled (node.branch r kids) u) names cost ∙ spelled-branch (option_map value_ref v) kids others (usage (branch v trees)) children.named;
      digest = written.digest;
      usage = written.usage ∙ cost;
    }

pub rows_top : (closed : Closed) (value : Option ValueOfRecord) (kids : ℕ → Option (List ℕ)) (kids_usage : ℕ) → IsRecord closed (node.branch value kids) (own_cost (node.branch value kids) + kids_usage)
    → (rows : List Row) → IsBranchOf rows value kids kids_usage → IsTop closed (tree_of rows)
rows_top closed value kids kids_usage written rows is = subst (IsTop closed) (sym (tree-forks rows is.fork)) (branch_top closed value kids kids_usage written (ends_here rows) (child_of rows) is.ends is.children)

usage-branch : (value : Option (List ℕ)) (kids : ℕ → Tree) → usage (branch value kids) ≡ top_cost (branch value kids) + sum_below (λ x. usage (kids x)) 16
unfolding usage
usage-branch value kids = refl

pub usage-forks : (rows : List Row) → DoFork rows → usage (tree_of rows) ≡ top_cost (branch (ends_here rows) (child_of rows)) + sum_below (λ x. usage (child_of rows x)) 16
usage-forks rows fork = ap usage (tree-forks rows fork) ∙ usage-branch (ends_here rows) (child_of rows)

pub branch-uses : (rows : List Row) (value : Option ValueOfRecord) (kids : ℕ → Option (List ℕ)) (used : ℕ) → IsBranchOf rows value kids used → own_cost (node.branch value kids) + used ≡ usage (tree_of rows)
branch-uses rows value kids used is =
    ap₂ (λ (a b : ℕ). a + b) (ap (λ (r : Option ValueOfRecord). own_cost (node.branch r kids)) is.ends ∙ branch_cost (ends_here rows) kids (child_of rows)) is.children.together
    ∙ sym (usage-forks rows is.fork)

-- a branch whose record is written
pub branch-shown : (closed : Closed) (v : Option (List ℕ)) (trees : ℕ → Tree) → IsTop closed (branch v trees) → Shows (Branch closed.digest closed.usage) (branch v trees)
branch-shown closed v trees top = (top.digest ∙ ap sha256 top.text, top.usage)

pub rows-shown : (closed : Closed) (rows : List Row) → DoFork rows → IsTop closed (tree_of rows) → Shows (Branch closed.digest closed.usage) (tree_of rows)
rows-shown closed rows fork top =
    let forks = tree-forks rows fork in
    subst (Shows (Branch closed.digest closed.usage)) (sym forks) (branch-shown closed (ends_here rows) (child_of rows) (subst (IsTop closed) forks top))
