use Rattle.std.proofs.Common.{ℕ, List, [], ◌∷◌, Some, Ok, false, sym, subst}
use Rattle.std.specs.Borrow.{Bor}
use Rattle.base_core.proofs.PassedOn.{passed_on}
use Rattle.node_codec.specs.Views.{node_viewed}
use Rattle.text_store.specs.Leaves.{Leaves}
use Rattle.text_store.proofs.Leaves.{Leaves-refused}
use Rattle.trie_read.specs.Endings.{by_error, read_ended}
use Rattle.trie_read.proofs.HeldNodes.{stopped-text, stopped-node, held-node}
use Rattle.trie_read.proofs.RootVisit.{Answered, answered-zero, answered-stopped, answered-node, usage-state}
use Rattle.trie_read.proofs.usage.usage_of.Goals as goal

pub returns-then-eq-clause-after : goal.returns-then-eq-clause-after
returns-then-eq-clause-after g c =
    let table = g.T.Texts.store.texts c.args.store.now in
    let top = c.args.root.now in
    let all = answered-zero g.T.Texts.store c.args.store.now table top.0 (g.met.T.Texts.alike_itself c.args.store.now) c.if-eq.ensures in
    all.leaves

pub returns-then-eq-clause-answer : goal.returns-then-eq-clause-answer
returns-then-eq-clause-answer g c =
    let table = g.T.Texts.store.texts c.args.store.now in
    let top = c.args.root.now in
    let all = answered-zero g.T.Texts.store c.args.store.now table top.0 (g.met.T.Texts.alike_itself c.args.store.now) c.if-eq.ensures in
    all.answers

pub returns-then-eq-clause-state : goal.returns-then-eq-clause-state
returns-then-eq-clause-state g c =
    let table = g.T.Texts.store.texts c.args.store.now in
    let top = c.args.root.now in
    let all = answered-zero g.T.Texts.store c.args.store.now table top.0 (g.met.T.Texts.alike_itself c.args.store.now) c.if-eq.ensures in
    usage-state table top.0 (Ok 0) all.answers

pub returns-in_err-text-clause-after : goal.returns-in_err-text-clause-after
returns-in_err-text-clause-after g c =
    let table = g.T.Texts.store.texts c.args.store.now in
    let top = c.args.root.now in
    let new = c.load_text.follows.lender-at-none in
    let error = c.in_err-text.field-0.0 in
    let left = subst (λ r. Leaves g.T.Texts.store c.args.store.now new (top.0 ∷ []) (read_ended {X = Bor (List ℕ)} r)) c.in_err-text.was c.load_text.follows.holds-at-none in
    let all = passed_on (Answered g.T.Texts.store c.args.store.now new table top.0) c.from_residual.result error c.from_residual.ensures.1
    (answered-stopped g.T.Texts.store c.args.store.now new table top error c.if-eq.ensures (stopped-text table top 0 false error c.in_err-text.ensures.answer) left) in
    all.leaves

pub returns-in_err-text-clause-answer : goal.returns-in_err-text-clause-answer
returns-in_err-text-clause-answer g c =
    let table = g.T.Texts.store.texts c.args.store.now in
    let top = c.args.root.now in
    let new = c.load_text.follows.lender-at-none in
    let error = c.in_err-text.field-0.0 in
    let left = subst (λ r. Leaves g.T.Texts.store c.args.store.now new (top.0 ∷ []) (read_ended {X = Bor (List ℕ)} r)) c.in_err-text.was c.load_text.follows.holds-at-none in
    let all = passed_on (Answered g.T.Texts.store c.args.store.now new table top.0) c.from_residual.result error c.from_residual.ensures.1
    (answered-stopped g.T.Texts.store c.args.store.now new table top error c.if-eq.ensures (stopped-text table top 0 false error c.in_err-text.ensures.answer) left) in
    all.answers

pub returns-in_err-text-clause-state : goal.returns-in_err-text-clause-state
returns-in_err-text-clause-state g c =
    let table = g.T.Texts.store.texts c.args.store.now in
    let top = c.args.root.now in
    let new = c.load_text.follows.lender-at-none in
    let error = c.in_err-text.field-0.0 in
    let left = subst (λ r. Leaves g.T.Texts.store c.args.store.now new (top.0 ∷ []) (read_ended {X = Bor (List ℕ)} r)) c.in_err-text.was c.load_text.follows.holds-at-none in
    let all = passed_on (Answered g.T.Texts.store c.args.store.now new table top.0) c.from_residual.result error c.from_residual.ensures.1
    (answered-stopped g.T.Texts.store c.args.store.now new table top error c.if-eq.ensures (stopped-text table top 0 false error c.in_err-text.ensures.answer) left) in
    usage-state table top.0 c.from_residual.result all.answers

pub returns-in_err-usage-clause-after : goal.returns-in_err-usage-clause-after
returns-in_err-usage-clause-after g c =
    let table = g.T.Texts.store.texts c.args.store.now in
    let top = c.args.root.now in
    let new = c.load_text.follows.lender-at-none in
    let error = c.in_err-usage.field-0.0 in
    let read = subst (λ r. Leaves g.T.Texts.store c.args.store.now new (top.0 ∷ []) (read_ended {X = Bor (List ℕ)} r)) c.in_ok-text.was c.load_text.follows.holds-at-none in
    let left = subst (λ e. Leaves g.T.Texts.store c.args.store.now new (top.0 ∷ []) (by_error e)) (sym c.in_err-usage.ensures.0) (Leaves-refused g.T.Texts.store c.args.store.now new (top.0 ∷ []) read) in
    let all = passed_on (Answered g.T.Texts.store c.args.store.now new table top.0) c.from_residual-in_err-usage.result error c.from_residual-in_err-usage.ensures.1
    (answered-stopped g.T.Texts.store c.args.store.now new table top error c.if-eq.ensures (stopped-node table top 0 false c.in_ok-text.text.now error c.in_ok-text.ensures.answer c.in_err-usage.ensures) left) in
    all.leaves

pub returns-in_err-usage-clause-answer : goal.returns-in_err-usage-clause-answer
returns-in_err-usage-clause-answer g c =
    let table = g.T.Texts.store.texts c.args.store.now in
    let top = c.args.root.now in
    let new = c.load_text.follows.lender-at-none in
    let error = c.in_err-usage.field-0.0 in
    let read = subst (λ r. Leaves g.T.Texts.store c.args.store.now new (top.0 ∷ []) (read_ended {X = Bor (List ℕ)} r)) c.in_ok-text.was c.load_text.follows.holds-at-none in
    let left = subst (λ e. Leaves g.T.Texts.store c.args.store.now new (top.0 ∷ []) (by_error e)) (sym c.in_err-usage.ensures.0) (Leaves-refused g.T.Texts.store c.args.store.now new (top.0 ∷ []) read) in
    let all = passed_on (Answered g.T.Texts.store c.args.store.now new table top.0) c.from_residual-in_err-usage.result error c.from_residual-in_err-usage.ensures.1
    (answered-stopped g.T.Texts.store c.args.store.now new table top error c.if-eq.ensures (stopped-node table top 0 false c.in_ok-text.text.now error c.in_ok-text.ensures.answer c.in_err-usage.ensures) left) in
    all.answers

pub returns-in_err-usage-clause-state : goal.returns-in_err-usage-clause-state
returns-in_err-usage-clause-state g c =
    let table = g.T.Texts.store.texts c.args.store.now in
    let top = c.args.root.now in
    let new = c.load_text.follows.lender-at-none in
    let error = c.in_err-usage.field-0.0 in
    let read = subst (λ r. Leaves g.T.Texts.store c.args.store.now new (top.0 ∷ []) (read_ended {X = Bor (List ℕ)} r)) c.in_ok-text.was c.load_text.follows.holds-at-none in
    let left = subst (λ e. Leaves g.T.Texts.store c.args.store.now new (top.0 ∷ []) (by_error e)) (sym c.in_err-usage.ensures.0) (Leaves-refused g.T.Texts.store c.args.store.now new (top.0 ∷ []) read) in
    let all = passed_on (Answered g.T.Texts.store c.args.store.now new table top.0) c.from_residual-in_err-usage.result error c.from_residual-in_err-usage.ensures.1
    (answered-stopped g.T.Texts.store c.args.store.now new table top error c.if-eq.ensures (stopped-node table top 0 false c.in_ok-text.text.now error c.in_ok-text.ensures.answer c.in_err-usage.ensures) left) in
    usage-state table top.0 c.from_residual-in_err-usage.result all.answers

pub returns-clause-after : goal.returns-clause-after
returns-clause-after g c =
    let table = g.T.Texts.store.texts c.args.store.now in
    let top = c.args.root.now in
    let new = c.load_text.follows.lender-at-none in
    let found = c.in_ok-usage.field-0-0 in
    let usage = c.in_ok-usage.usage in
    let left = subst (λ r. Leaves g.T.Texts.store c.args.store.now new (top.0 ∷ []) (read_ended {X = Bor (List ℕ)} r)) c.in_ok-text.was c.load_text.follows.holds-at-none in
    let held = held-node table 0 false top.0 c.in_ok-text.text.now (Some (node_viewed found, usage)) c.in_ok-text.ensures.answer c.in_ok-usage.ensures in
    let all = answered-node g.T.Texts.store c.args.store.now new table top.0 (node_viewed found) usage c.if-eq.ensures held left in
    all.leaves

pub returns-clause-answer : goal.returns-clause-answer
returns-clause-answer g c =
    let table = g.T.Texts.store.texts c.args.store.now in
    let top = c.args.root.now in
    let new = c.load_text.follows.lender-at-none in
    let found = c.in_ok-usage.field-0-0 in
    let usage = c.in_ok-usage.usage in
    let left = subst (λ r. Leaves g.T.Texts.store c.args.store.now new (top.0 ∷ []) (read_ended {X = Bor (List ℕ)} r)) c.in_ok-text.was c.load_text.follows.holds-at-none in
    let held = held-node table 0 false top.0 c.in_ok-text.text.now (Some (node_viewed found, usage)) c.in_ok-text.ensures.answer c.in_ok-usage.ensures in
    let all = answered-node g.T.Texts.store c.args.store.now new table top.0 (node_viewed found) usage c.if-eq.ensures held left in
    all.answers

pub returns-clause-state : goal.returns-clause-state
returns-clause-state g c =
    let table = g.T.Texts.store.texts c.args.store.now in
    let top = c.args.root.now in
    let new = c.load_text.follows.lender-at-none in
    let found = c.in_ok-usage.field-0-0 in
    let usage = c.in_ok-usage.usage in
    let left = subst (λ r. Leaves g.T.Texts.store c.args.store.now new (top.0 ∷ []) (read_ended {X = Bor (List ℕ)} r)) c.in_ok-text.was c.load_text.follows.holds-at-none in
    let held = held-node table 0 false top.0 c.in_ok-text.text.now (Some (node_viewed found, usage)) c.in_ok-text.ensures.answer c.in_ok-usage.ensures in
    let all = answered-node g.T.Texts.store c.args.store.now new table top.0 (node_viewed found) usage c.if-eq.ensures held left in
    usage-state table top.0 (Ok usage) all.answers
