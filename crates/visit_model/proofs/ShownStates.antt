-- Below the root of a state whose texts are all held, its trie is seen.
use Rattle.std.proofs.Common.{◌≡◌, ◌≢◌, ℕ, false, if◌then◌else◌, List, [], map, Some, refl, sym, ◌∙◌, ap, subst, arith}
use Rattle.std.specs.Prelude.{nat_eq}
use Rattle.std.specs.Cmp.Lexicographic.{pointwise}
use Rattle.std.specs.FinMap.{get}
use Rattle.std.proofs.lemmas.Bool.{false_from_ne_true}
use Rattle.std.proofs.lemmas.Slice.Eq.{bytes_eq-Decides}
use Rattle.sha2.specs.Sha256.{sha256}
use Rattle.trie_model.specs.State.{State, Row, IsState, rows_of}
use Rattle.trie_model.specs.Tree.{Tree, nothing, leaf, branch, extension, tree_of}
use Rattle.trie_model.specs.Texts.{text}
use Rattle.trie_model.specs.Root.{Table, Holds, zero_digest, root_of, root, subtree_at, texts_of}
use Rattle.trie_model.proofs.Costs.{subtree_at-root, texts_of-tree_texts}
use Rattle.trie_model.proofs.Members.{IsIn, in-append_left, all_at}
use Rattle.trie_model.proofs.Places.{tree_texts}
use Rattle.visit_model.specs.Seen as seen
use Rattle.visit_model.specs.Seen.{seen_at, seen}
use Rattle.visit_model.specs.Shown.{shown}
use Rattle.visit_model.proofs.ShownFits.{IsThere, state_fits}
use Rattle.visit_model.proofs.ShownTrees.{top_text, tree_seen}

-- ---- the root

-- a digest that is not zero is looked up
pub root_looked_up : (table : Table) (digest : List ℕ) → digest ≢ zero_digest → seen table digest ≡ seen_at table 0 false digest
unfolding seen
root_looked_up table digest nonzero =
    let test : pointwise nat_eq digest zero_digest ≡ false = false_from_ne_true (pointwise nat_eq digest zero_digest) (λ e. nonzero ((bytes_eq-Decides digest zero_digest).0 e)) in
    ap (λ b. if b then seen.nothing else seen_at table 0 false digest) test

pub no_root : (table : Table) → seen table zero_digest ≡ seen.nothing
unfolding seen
no_root table = refl

-- the root of a tree is the digest of its text, or zero where there is none
root_seen : (table : Table) (tree : Tree) → (IsThere tree → sha256 (text tree) ≢ zero_digest) → (IsThere tree → seen_at table 0 false (sha256 (text tree)) ≡ shown tree) → seen table (root_of tree) ≡ shown tree
unfolding root_of shown
root_seen table nothing nonzero further = no_root table
root_seen table (leaf path value) nonzero further = root_looked_up table (sha256 (text (leaf path value))) (nonzero tt) ∙ further tt
root_seen table (branch value kids) nonzero further = root_looked_up table (sha256 (text (branch value kids))) (nonzero tt) ∙ further tt
root_seen table (extension path child) nonzero further = root_looked_up table (sha256 (text (extension path child))) (nonzero tt) ∙ further tt

-- ---- texts

-- the texts of a state's nodes are among its texts
tree_texts_among : (state : State) (t : List ℕ) → IsIn (tree_texts (subtree_at state [])) t → IsIn (texts_of state) t
tree_texts_among state t h =
    let there : IsIn (tree_texts (tree_of (rows_of state))) t = subst (λ tree. IsIn (tree_texts tree) t) (subtree_at-root state) h in
    subst (λ (texts : List (List ℕ)). IsIn texts t) (sym (texts_of-tree_texts state)) (in-append_left (tree_texts (tree_of (rows_of state))) (map (λ (row : Row). row.1) (rows_of state)) t there)

-- ---- the state

pub state_seen : (table : Table) (state : State) → Holds table state → IsState state → seen table (root state) ≡ shown (subtree_at state [])
state_seen table state held is =
    let tree : Tree = subtree_at state [] in
    root_seen table tree
    (λ there. all_at (λ (t : List ℕ). sha256 t ≢ zero_digest) (texts_of state) (text tree) held.nonzero (tree_texts_among state (text tree) (top_text tree there)))
    (λ there. tree_seen table tree 0 false (omega arith) (state_fits state is)
    (λ t h. all_at (λ (t : List ℕ). get table (sha256 t) ≡ Some t) (texts_of state) t held.found (tree_texts_among state t h)) there)
