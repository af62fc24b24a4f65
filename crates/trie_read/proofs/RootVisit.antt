-- The visit of a root, by what its load answers.
use Rattle.std.proofs.Common.{◌≡◌, ℕ, ◌≤◌, Bool, true, false, List, [], ◌∷◌, length, None, Some, Result, Ok, Err, refl, sym, ap, ◌∙◌, subst, arith}
use Rattle.std.specs.Prelude.{nat_eq, IsSomeAnd, if◌then◌else◌}
use Rattle.std.specs.Cmp.Lexicographic.{pointwise}
use Rattle.std.specs.FinMap.{get}
use Rattle.byte_model.specs.Node as node
use Rattle.byte_model.specs.Node.{Node}
use Rattle.record_model.specs.Fits.{fitting_node}
use Rattle.trie_model.specs.Root.{Table, Holds, root, total, zero_digest, subtree_at}
use Rattle.trie_model.specs.State.{State, IsState}
use Rattle.trie_model.specs.Tree as tree
use Rattle.trie_model.specs.Tree.{Tree}
use Rattle.trie_model.specs.Texts as texts
use Rattle.visit_model.specs.Seen.{Seen, Looks, nothing, missing, bad, seen, seen_at, seen_node, stated_usage}
use Rattle.visit_model.specs.Shown.{shown}
use Rattle.visit_model.specs.Steps.{Step, top_steps}
use Rattle.visit_model.specs.Visits as visits
use Rattle.visit_model.specs.Visits.{Visits, no_visits, refused, node_first, visits_of, top_visits}
use Rattle.visit_model.proofs.ShownStates.{state_seen}
use Rattle.visit_model.proofs.SeenTexts.{seen-missing, seen-bad}
use Rattle.base_core.specs.declared.hash.Digest.{Digest}
use Rattle.trie_read.specs.declared.errors.ReadError.{ReadError}
use Rattle.trie_read.specs.declared.errors.ReadError.TheVariants.{Missing, Bad, Fault}
use Rattle.base_core.specs.Faults as ended
use Rattle.text_store.specs.Store.{Store}
use Rattle.text_store.specs.Leaves.{Leaves}
use Rattle.trie_read.specs.Endings.{by_error, read_ended}
use Rattle.trie_read.specs.Loads.{IsStopped}
use Rattle.trie_read.specs.Usages.{AnswersUsage, AnswersTotal}
use Rattle.text_store.proofs.Leaves.{Leaves-none}
use Rattle.trie_read.proofs.Loads.{Leaves-failed}
use Rattle.trie_read.proofs.HeldNodes.{sees-node}
use Rattle.trie_read.proofs.States.{none_some}
use Rattle.trie_read.proofs.FirstSteps.{seen_at-something, top-some}
use Rattle.trie_read.proofs.LookupVisits.{visits-some}
use Rattle.trie_read.proofs.LookupProgress.{root-seen}

-- ---- what is seen at the root

at_top : (table : Table) (top : List ℕ) → false ≡ pointwise nat_eq top zero_digest → (s : Seen) → seen_at table 0 false top ≡ s → seen table top ≡ s
at_top table top nonzero s e = root-seen table top nonzero ∙ e

visits-node : (table : Table) (top : List ℕ) (look : Looks) (digest : List ℕ) (n : Node) (usage : ℕ) → visits_of table 1 (top_steps (seen_node look 0 digest n usage)) ≡ node_first digest no_visits
unfolding seen_node top_steps visits_of
visits-node table top look digest (node.leaf path ref) usage = refl
visits-node table top look digest (node.branch ref kids) usage = refl
visits-node table top look digest (node.extension path below) usage = refl

stated-node : (look : Looks) (digest : List ℕ) (n : Node) (usage : ℕ) → stated_usage (seen_node look 0 digest n usage) ≡ usage
unfolding seen_node stated_usage
stated-node look digest (node.leaf path ref) usage = refl
stated-node look digest (node.branch ref kids) usage = refl
stated-node look digest (node.extension path below) usage = refl

-- the root is visited at least
top_visits-some : (table : Table) (top : List ℕ) → false ≡ pointwise nat_eq top zero_digest → 1 ≤ length (top_visits table top).digests
top_visits-some table top nonzero =
    let steps : top_steps (seen table top) ≡ top_steps (seen_at table 0 false top) = ap top_steps (root-seen table top nonzero) in
    let some = top-some (seen_at table 0 false top) (seen_at-something table 0 false top) in
    subst (λ (l : List Step). 1 ≤ length (visits_of table 1 l).digests) (sym (steps ∙ some.2)) (visits-some table 0 some.0 some.1)

-- ---- the answers

-- what is owed for an answer
pub record Answered {S : Type 0} (store : Store S) (old new : S) (table : Table) (top : List ℕ) (result : Result ℕ ReadError) : Type 0 where
  pub leaves : Leaves store old new (top_visits table top).digests (read_ended result)
  pub answers : AnswersUsage table top result

-- no root
zero-visits : (table : Table) (top : List ℕ) → true ≡ pointwise nat_eq top zero_digest → top_visits table top ≡ no_visits
unfolding seen top_steps visits_of
zero-visits table top is = ap (λ (b : Bool). visits_of table 1 (top_steps (if b then nothing else seen_at table 0 false top))) (sym is)

pub answered-zero : {S : Type 0} (store : Store S) (old : S) (table : Table) (top : List ℕ) → store.alike old old → true ≡ pointwise nat_eq top zero_digest → Answered store old old table top (Ok 0)
unfolding seen stated_usage
answered-zero store old table top itself is = record {
  leaves = subst (λ (v : Visits). Leaves store old old v.digests ended.done) (sym (zero-visits table top is)) (Leaves-none store old itself);
  answers = (ap (λ (b : Bool). stated_usage (if b then nothing else seen_at table 0 false top)) is, ap (λ (v : Visits). v.refusal) (zero-visits table top is));
}

-- a test that failed
missing-visits : (table : Table) (top : List ℕ) → seen table top ≡ missing top → top_visits table top ≡ refused top (visits.missing top)
unfolding top_steps visits_of
missing-visits table top e = ap (λ (s : Seen). visits_of table 1 (top_steps s)) e

bad-visits : (table : Table) (top : List ℕ) → seen table top ≡ bad top → top_visits table top ≡ refused top (visits.bad top)
unfolding top_steps visits_of
bad-visits table top e = ap (λ (s : Seen). visits_of table 1 (top_steps s)) e

pub answered-stopped : {S : Type 0} (store : Store S) (old new : S) (table : Table) (top : Digest) (error : ReadError) → false ≡ pointwise nat_eq top.0 zero_digest → IsStopped table top 0 false error → Leaves store old new (top.0 ∷ []) (by_error error) → Answered store old new table top.0 (Err error)
answered-stopped store old new table top (Missing named) nonzero answer left =
    let one = missing-visits table top.0 (at_top table top.0 nonzero (missing top.0) (seen-missing table 0 false top.0 (omega arith) answer.1)) in
    record {
      leaves = subst (λ (v : Visits). Leaves store old new v.digests ended.refused) (sym one) left;
      answers = ap (λ (v : Visits). v.refusal) one ∙ ap (λ (d : Digest). Some (visits.missing d.0)) (sym answer.0);
    }
answered-stopped store old new table top (Bad named) nonzero answer left =
    let one = bad-visits table top.0 (at_top table top.0 nonzero (bad top.0) (seen-bad table 0 false top.0 (omega arith) answer.1)) in
    record {
      leaves = subst (λ (v : Visits). Leaves store old new v.digests ended.refused) (sym one) left;
      answers = ap (λ (v : Visits). v.refusal) one ∙ ap (λ (d : Digest). Some (visits.bad d.0)) (sym answer.0);
    }
answered-stopped store old new table top Fault nonzero answer left = record {
  leaves = Leaves-failed store old new (top.0 ∷ []) (top_visits table top.0).digests (top_visits-some table top.0 nonzero) left;
  answers = tt;
}

-- a node that fits
pub answered-node : {S : Type 0} (store : Store S) (old new : S) (table : Table) (top : List ℕ) (n : Node) (usage : ℕ) → false ≡ pointwise nat_eq top zero_digest → IsSomeAnd (get table top) (λ text. fitting_node 0 false text ≡ Some (n, usage)) → Leaves store old new (top ∷ []) ended.done → Answered store old new table top (Ok usage)
answered-node store old new table top n usage nonzero held left =
    let sees = at_top table top nonzero (seen_node (seen_at table) 0 top n usage) ((sees-node table 0 false top n usage (omega arith) held).seen) in
    let one : top_visits table top ≡ node_first top no_visits = ap (λ (s : Seen). visits_of table 1 (top_steps s)) sees ∙ visits-node table top (seen_at table) top n usage in
    record {
      leaves = subst (λ (v : Visits). Leaves store old new v.digests ended.done) (sym one) left;
      answers = (sym (ap stated_usage sees ∙ stated-node (seen_at table) top n usage), ap (λ (v : Visits). v.refusal) one);
    }

-- ---- over the texts of a state

shown-refusal : (table : Table) (t : Tree) → (visits_of table 1 (top_steps (shown t))).refusal ≡ None
unfolding shown top_steps visits_of
shown-refusal table tree.nothing = refl
shown-refusal table (tree.leaf path held) = refl
shown-refusal table (tree.branch held kids) = refl
shown-refusal table (tree.extension path below) = refl

shown-usage : (t : Tree) → stated_usage (shown t) ≡ texts.usage t
unfolding shown stated_usage texts.usage
shown-usage tree.nothing = refl
shown-usage (tree.leaf path held) = refl
shown-usage (tree.branch held kids) = refl
shown-usage (tree.extension path below) = refl

pub usage-state : (table : Table) (top : List ℕ) (result : Result ℕ ReadError) → AnswersUsage table top result → (state : State) → Holds table state → IsState state → top ≡ root state → AnswersTotal (total state) result
usage-state table top result answer state holds is top_is =
    let there : seen table top ≡ shown (subtree_at state []) = ap (seen table) top_is ∙ state_seen table state holds is in
    let refusal : (top_visits table top).refusal ≡ None = ap (λ (s : Seen). (visits_of table 1 (top_steps s)).refusal) there ∙ shown-refusal table (subtree_at state []) in
    go result answer (ap stated_usage there ∙ shown-usage (subtree_at state [])) refusal
  where
    go : (r : Result ℕ ReadError) → AnswersUsage table top r → stated_usage (seen table top) ≡ total state → (top_visits table top).refusal ≡ None → AnswersTotal (total state) r
    go (Ok usage) a u n = a.0 ∙ u
    go (Err (Missing digest)) a u n = none_some _ _ n a
    go (Err (Bad digest)) a u n = none_some _ _ n a
    go (Err Fault) a u n = tt
