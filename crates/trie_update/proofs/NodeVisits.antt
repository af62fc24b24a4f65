-- The visit of a node, by what its load and the reading of its text answered.
use Rattle.std.proofs.Common.{◌≡◌, ℕ, ◌-◌, ◌^◌, ◌≤◌, Bool, List, [], ◌∷◌, min, Option, Some, Result, Ok, Err, sym, subst, ap, ap₂, ◌∙◌, arith}
use Rattle.std.specs.Prelude.{IfOk, IsSomeAnd}
use Rattle.std.specs.FinMap.{get}
use Rattle.byte_model.specs.Node as node
use Rattle.byte_model.specs.Node.{Node, ValueRef, own_cost, spelled}
use Rattle.byte_model.specs.Laws.{SameNode}
use Rattle.byte_model.specs.Nibbles.{AreBytes, AreNibbles}
use Rattle.byte_model.proofs.Spellings.{spelled_branch-agree}
use Rattle.record_model.specs.Fits.{fitting_node}
use Rattle.record_model.specs.Records.{HasNibblesOnly, IsRecord, RecordFault, record_in}
use Rattle.record_model.proofs.Fitting.{record_fits}
use Rattle.record_model.proofs.Nodes.{record_in-found}
use Rattle.trie_model.specs.Root.{Table}
use Rattle.base_core.specs.Faults as ended
use Rattle.base_core.specs.declared.hash.Digest.{Digest}
use Rattle.change_model.specs.Visits.{most_usage}
use Rattle.node_codec.specs.Meanings.{node_of, path_of}
use Rattle.node_codec.specs.declared.node.Node as code
use Rattle.text_store.specs.Store.{Store}
use Rattle.text_store.specs.Leaves.{Leaves}
use Rattle.text_store.proofs.Leaves.{Leaves-refused}
use Rattle.trie_update.specs.declared.errors.UpdateError.{UpdateError}
use Rattle.trie_update.specs.declared.errors.UpdateError.TheVariants.{Missing, Bad, Usage, Clash, Fault, NoMemory}
use Rattle.trie_update.specs.declared.visiting.Visited.{Visited}
use Rattle.trie_update.specs.Endings.{update_ended}
use Rattle.trie_update.specs.Visiting.{AnswersNode, AnswersVisit, IsVisited}
use Rattle.trie_update.proofs.Fitting.{own_cost-is}

-- a visit whose load was done, where there was no memory for the node
leaves_short : {S : Type 0} (store : Store S) (old new : S) (digest : List ℕ) → Leaves store old new (digest ∷ []) ended.done → Leaves store old new (digest ∷ []) ended.short_of_memory
leaves_short store old new digest left = record { same = left.same; loaded = let loads = left.loaded in (omega arith, omega arith); counted = left.counted; remembered = tt }

pub visited-left : {S : Type 0} (store : Store S) (old new : S) (digest : Digest) (depth : ℕ) (after_extension : Bool) (text : List ℕ) (result : Result Visited UpdateError) → AnswersNode text digest depth after_extension result → Leaves store old new (digest.0 ∷ []) ended.done → Leaves store old new (digest.0 ∷ []) (update_ended result)
visited-left store old new digest depth after_extension text (Ok visited) answer left = left
visited-left store old new digest depth after_extension text (Err (Missing named)) answer left = absurd answer
visited-left store old new digest depth after_extension text (Err (Bad named)) answer left = Leaves-refused store old new (digest.0 ∷ []) left
visited-left store old new digest depth after_extension text (Err (Usage named)) answer left = Leaves-refused store old new (digest.0 ∷ []) left
visited-left store old new digest depth after_extension text (Err (Clash named one other)) answer left = absurd answer
visited-left store old new digest depth after_extension text (Err Fault) answer left = absurd answer
visited-left store old new digest depth after_extension text (Err NoMemory) answer left = leaves_short store old new digest.0 left

-- of a text that is held
held : (table : Table) (digest text : List ℕ) (P : List ℕ → Type 0) → get table digest ≡ Some text → P text → IsSomeAnd (get table digest) P
held table digest text P is h = subst (λ (o : Option (List ℕ)). IsSomeAnd o P) (sym is) h

pub visited-answer : (table : Table) (digest : Digest) (depth : ℕ) (after_extension : Bool) (text : List ℕ) (result : Result Visited UpdateError) → get table digest.0 ≡ Some text → AnswersNode text digest depth after_extension result → AnswersVisit table digest depth after_extension result
visited-answer table digest depth after_extension text (Ok visited) is answer = held table digest.0 text (λ t. AnswersNode t digest depth after_extension (Ok visited)) is answer
visited-answer table digest depth after_extension text (Err (Missing named)) is answer = absurd answer
visited-answer table digest depth after_extension text (Err (Bad named)) is answer = held table digest.0 text (λ t. AnswersNode t digest depth after_extension (Err (Bad named))) is answer
visited-answer table digest depth after_extension text (Err (Usage named)) is answer = held table digest.0 text (λ t. AnswersNode t digest depth after_extension (Err (Usage named))) is answer
visited-answer table digest depth after_extension text (Err (Clash named one other)) is answer = absurd answer
visited-answer table digest depth after_extension text (Err Fault) is answer = absurd answer
visited-answer table digest depth after_extension text (Err NoMemory) is answer = held table digest.0 text (λ t. AnswersNode t digest depth after_extension (Err NoMemory)) is answer

-- of a node that was copied
pub visited-node : (text : List ℕ) (depth : ℕ) (after_extension : Bool) (visited : Visited) (n : Node) → fitting_node depth after_extension text ≡ Some (n, visited.stated) → SameNode (node_of visited.node) n → AreNibbles (path_of visited.node) → visited.own ≡ min (own_cost n) (2 ^ 64 - 1) → visited.stated ≤ most_usage
    → (m : Node) × IsVisited text depth after_extension visited m
visited-node text depth after_extension visited n fits same nibbles own most =
    (n, record { fits = fits; same = same; nibbles = nibbles; own = own_cost-is depth after_extension text n visited.stated visited.own fits own; most = most })

-- ---- its text is its record

spelled-agree : (m n : Node) (used : ℕ) → SameNode m n → spelled m used ≡ spelled n used
spelled-agree (node.leaf path value) (node.leaf other_path other_value) used same = ap₂ (λ (p : List ℕ) (v : ValueRef). spelled (node.leaf p v) used) same.0 same.1
spelled-agree (node.leaf path value) (node.branch ref kids) used same = absurd same
spelled-agree (node.leaf path value) (node.extension other child) used same = absurd same
spelled-agree (node.branch ref kids) (node.leaf path value) used same = absurd same
spelled-agree (node.branch ref kids) (node.branch other_ref others) used same = ap (λ (v : Option ValueRef). spelled (node.branch v kids) used) same.0 ∙ spelled_branch-agree other_ref kids others used same.1
spelled-agree (node.branch ref kids) (node.extension path child) used same = absurd same
spelled-agree (node.extension path child) (node.leaf other value) used same = absurd same
spelled-agree (node.extension path child) (node.branch ref kids) used same = absurd same
spelled-agree (node.extension path child) (node.extension other_path other_child) used same = ap₂ (λ (p c : List ℕ). spelled (node.extension p c) used) same.0 same.1

pub visited-record : (text : List ℕ) (depth : ℕ) (after_extension : Bool) (copy : code.Node) (n : Node) (stated : ℕ) → AreBytes text → fitting_node depth after_extension text ≡ Some (n, stated) → SameNode (node_of copy) n → text ≡ spelled (node_of copy) stated
visited-record text depth after_extension copy n stated bytes fits same =
    let read = (record_fits depth after_extension (record_in text) n stated fits).0 in
    let is = subst (λ (r : Result (Node × ℕ) RecordFault). IfOk r (λ (found : Node × ℕ). IsRecord found.0 found.1 text × HasNibblesOnly found.0)) read (record_in-found text bytes).given in
    is.0.spelling ∙ sym (spelled-agree (node_of copy) n stated same)
