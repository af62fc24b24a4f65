-- The visit of the root of a state.
use Rattle.std.proofs.Common.{◌≡◌, ◌≢◌, [], ap, ◌∙◌, refl}
use Rattle.std.specs.FinMap.{empty}
use Rattle.trie_model.specs.State.{State, IsState}
use Rattle.trie_model.specs.Tree as tree
use Rattle.trie_model.specs.Tree.{Tree}
use Rattle.trie_model.specs.Root.{Table, Holds, root, root_of, subtree_at, texts_of}
use Rattle.trie_model.proofs.Members.{all_at, in_of_contains}
use Rattle.trie_model.proofs.Roots.{root-zero}
use Rattle.trie_model.proofs.Worked.{root-empty}
use Rattle.visit_model.specs.Seen.{seen}
use Rattle.visit_model.specs.Shown.{shown}
use Rattle.visit_model.specs.Steps.{top_steps}
use Rattle.visit_model.specs.Visits.{no_visits, node_first, visits_of, top_visits}
use Rattle.visit_model.proofs.ShownStates.{state_seen}

-- the zero digest is visited in no table
pub top_visits-empty : (table : Table) → top_visits table (root empty) ≡ no_visits
unfolding seen top_steps visits_of
top_visits-empty table = ap (top_visits table) root-empty

pub top_visits-state : (table : Table) (state : State) → Holds table state → IsState state → state ≢ empty → top_visits table (root state) ≡ node_first (root state) no_visits
unfolding shown top_steps visits_of root_of
top_visits-state table state held is some =
    ap (λ s. visits_of table 1 (top_steps s)) (state_seen table state held is) ∙ go (subtree_at state []) refl
  where
    go : (t : Tree) → subtree_at state [] ≡ t → visits_of table 1 (top_steps (shown t)) ≡ node_first (root_of t) no_visits
    go tree.nothing e = absurd (some ((root-zero state (λ t here. all_at _ (texts_of state) t held.nonzero (in_of_contains _ t here))).0 (ap root_of e)))
    go (tree.leaf path value) e = refl
    go (tree.branch value kids) e = refl
    go (tree.extension path child) e = refl
