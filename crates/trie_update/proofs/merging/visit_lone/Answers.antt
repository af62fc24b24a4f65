use Rattle.std.proofs.Common.{◌≡◌, ℕ, false, [], Ok, Err, refl, sym, subst, ◌∙◌}
use Rattle.std.specs.Prelude.{IsErrAnd}
use Rattle.visit_model.specs.Seen.{seen_at}
use Rattle.change_model.specs.Visits.{opened, closed, visit_alone}
use Rattle.trie_update.specs.declared.errors.UpdateError.TheVariants.{Usage, NoMemory}
use Rattle.update_model.specs.Updates.{lost_alone}
use Rattle.trie_update.specs.Carries.{Carries}
use Rattle.trie_update.specs.Merges.{lost_read}
use Rattle.trie_update.proofs.Adding.{adds-same}
use Rattle.trie_update.proofs.AloneVisits.{read-alone}
use Rattle.trie_update.proofs.Carrying.{carries-then, carries-opened, carries-closed, carries-less, carries-late, carries-ok, carries-passed, opens-alone, visit-stopped}
use Rattle.trie_update.proofs.SeenVisits.{sees-visited}
use Rattle.trie_update.proofs.merging.visit_lone.Goals as goal

pub returns-in_err-node-clause-carries : goal.returns-in_err-node-clause-carries
returns-in_err-node-clause-carries g c =
    let store = g.T.Texts.store in
    let old = c.args.store.now in
    let new = c.visit.new.store in
    let visits = visit_alone (seen_at (store.texts old) c.args.depth false c.args.digest.0) in
    let error = c.in_err-node.field-0.0 in
    carries-passed store old new visits error c.from_residual.result c.from_residual.ensures.1 (visit-stopped store old new (store.texts old) c.args.digest c.args.depth false c.requires.deep visit_alone opens-alone {X = ℕ} error c.in_err-node.ensures.answer c.in_err-node.ensures.left)

pub returns-in_err-states_enough-clause-carries : goal.returns-in_err-states_enough-clause-carries
returns-in_err-states_enough-clause-carries g c =
    let store = g.T.Texts.store in
    let old = c.args.store.now in
    let new = c.visit.new.store in
    let table = store.texts old in
    let digest = c.args.digest in
    let visited = c.in_ok-node.field-0 in
    let read = read-alone table c.args.depth digest visited visited.node refl (sees-visited table c.args.depth false digest visited c.requires.deep c.in_ok-node.ensures.answer) in
    let same = g.met.T.Texts.alike_itself new in
    let first = carries-opened store {X = ℕ} old new digest.0 visited.stated 0 read.most c.in_ok-node.ensures.left in
    let less = c.in_err-states_enough.ensures.less in
    let all = carries-then store g.met.T.Texts.alike_onward old new new (opened digest.0 visited.stated) (closed digest.0 visited.stated visited.own) 0 _ first (carries-less store {X = ℕ} new digest visited.stated visited.own same less.1) in
    carries-passed store old new (visit_alone (seen_at table c.args.depth false digest.0)) (Usage digest) c.from_residual-in_err-states_enough.result (subst (λ e. IsErrAnd c.from_residual-in_err-states_enough.result (λ given. given ≡ e)) less.0 c.from_residual-in_err-states_enough.ensures.1)
    (subst (λ v. Carries {X = ℕ} store old new v (Err (Usage digest))) (sym read.visits) all)

pub returns-in_err-sub-clause-carries : goal.returns-in_err-sub-clause-carries
returns-in_err-sub-clause-carries g c =
    let store = g.T.Texts.store in
    let old = c.args.store.now in
    let new = c.visit.new.store in
    let table = store.texts old in
    let digest = c.args.digest in
    let visited = c.in_ok-node.field-0 in
    let read = read-alone table c.args.depth digest visited visited.node refl (sees-visited table c.args.depth false digest visited c.requires.deep c.in_ok-node.ensures.answer) in
    let same = g.met.T.Texts.alike_itself new in
    let first = carries-opened store {X = ℕ} old new digest.0 visited.stated 0 read.most c.in_ok-node.ensures.left in
    let all = carries-then store g.met.T.Texts.alike_onward old new new (opened digest.0 visited.stated) (closed digest.0 visited.stated visited.own) 0 _ first (carries-closed store {X = ℕ} new digest.0 visited.stated visited.own 0 same c.in_ok-states_enough.ensures.enough) in
    let whole = subst (λ v. Carries {X = ℕ} store old new v (Ok 0)) (sym read.visits) all in
    carries-passed store old new (visit_alone (seen_at table c.args.depth false digest.0)) NoMemory c.from_residual-in_err-sub.result c.from_residual-in_err-sub.ensures.1
    (carries-late store {Y = ℕ} old new (visit_alone (seen_at table c.args.depth false digest.0)) 0 whole)

pub returns-clause-carries : goal.returns-clause-carries
returns-clause-carries g c =
    let store = g.T.Texts.store in
    let old = c.args.store.now in
    let new = c.visit.new.store in
    let table = store.texts old in
    let digest = c.args.digest in
    let visited = c.in_ok-node.field-0 in
    let read = read-alone table c.args.depth digest visited visited.node refl (sees-visited table c.args.depth false digest visited c.requires.deep c.in_ok-node.ensures.answer) in
    let same = g.met.T.Texts.alike_itself new in
    let first = carries-opened store {X = ℕ} old new digest.0 visited.stated 0 read.most c.in_ok-node.ensures.left in
    let all = carries-then store g.met.T.Texts.alike_onward old new new (opened digest.0 visited.stated) (closed digest.0 visited.stated visited.own) 0 _ first (carries-closed store {X = ℕ} new digest.0 visited.stated visited.own 0 same c.in_ok-states_enough.ensures.enough) in
    let whole = subst (λ v. Carries {X = ℕ} store old new v (Ok 0)) (sym read.visits) all in
    carries-ok store {X = ℕ} old new (visit_alone (seen_at table c.args.depth false digest.0)) 0 (c.in_ok-sub.sub, c.in_ok-node.field-0.stated) whole

pub returns-clause-alone : goal.returns-clause-alone
returns-clause-alone g c =
    let store = g.T.Texts.store in
    let table = store.texts c.args.store.now in
    let digest = c.args.digest in
    let visited = c.in_ok-node.field-0 in
    let read = read-alone table c.args.depth digest visited visited.node refl (sees-visited table c.args.depth false digest visited c.requires.deep c.in_ok-node.ensures.answer) in
    record {
      top = c.in_ok-sub.ensures.top ∙ read.top;
      stated = read.stated;
      adds = adds-same c.args.ledger.now c.lone_sub.new.ledger [] (lost_read digest.0 visited.node) 0 0 [] (lost_alone (seen_at table c.args.depth false digest.0)) 0 0 refl read.lost refl refl c.in_ok-sub.ensures.adds;
      stands = read.stands;
    }
