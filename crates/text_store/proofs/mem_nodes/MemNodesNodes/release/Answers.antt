use Rattle.std.proofs.Common.{◌≤◌, ◌-◌, is_some, sym, subst, ap, arith}
use Rattle.text_store.specs.Counting.{Releases}
use Rattle.text_store.specs.StoreStates.{texts_of, count_in}
use Rattle.text_store.proofs.Stored.{stored-releases}
use Rattle.text_store.proofs.StoreStates.{releases-told}
use Rattle.text_store.proofs.Changes.{count_seen, count-found, releases-put, releases-taken, releases-none}
use Rattle.text_store.proofs.mem_nodes.MemNodesNodes.release.Goals as goal
use Rattle.text_store.proofs.mem_nodes.MemNodesNodes.release.Goals.{in-Some-1, in-None-1}

pub overflow_sub-held : goal.overflow_sub-held
overflow_sub-held c =
    let le : c.args.times ≤ count_seen c.self.inside.held.entries c.args.d.now.0 = subst (λ s. c.args.times ≤ count_in s c.args.d.now.0) (sym c.self.view_is) c.requires in
    omega (arith, le, count-found _ c.args.d.now.0 _ c.in-Some.ensures.value)

pub returns-in-None-clause-ok : goal.returns-in-None-clause-ok
returns-in-None-clause-ok c =
    let le : c.args.times ≤ count_seen c.self.inside.held.entries c.args.d.now.0 = subst (λ s. c.args.times ≤ count_in s c.args.d.now.0) (sym c.self.view_is) c.requires in
    let none = releases-none c.self.inside.held.entries c.args.d.now.0 c.args.times c.in-None.ensures.value le in
    subst (λ m. Releases c.args.self.now.texts (texts_of m.entries) (count_in c.args.self.now) (count_seen m.entries) c.args.d.now.0 c.args.times) (sym c.get_mut.follows.holds-at-none) (releases-told _ _ c.self.view_is none)

pub invariant_of-self-else-left-eq0 : goal.invariant_of-self-else-left-eq0
invariant_of-self-else-left-eq0 c =
    let le : c.args.times ≤ count_seen c.self.inside.held.entries c.args.d.now.0 = subst (λ s. c.args.times ≤ count_in s c.args.d.now.0) (sym c.self.view_is) c.requires in
    let count = count-found _ c.args.d.now.0 _ c.in-Some.ensures.value in
    let put = (c.get_mut.follows.holds (record { text = c.in-Some.held.now.text; count = c.in-Some.held.now.count - c.args.times })).3 (sym (ap is_some c.in-Some.ensures.value)) in
    stored-releases _ _ _ _ c.args.d.now.0 c.args.times c.self.invariant le (releases-put _ _ c.args.d.now.0 c.in-Some.held.now c.args.times c.in-Some.ensures.value (λ q. put.0 (record { 0 = q })) (omega (arith, le, count)) c.if-left-eq0.false)

pub returns-else-left-eq0-clause-ok : goal.returns-else-left-eq0-clause-ok
returns-else-left-eq0-clause-ok c =
    let le : c.args.times ≤ count_seen c.self.inside.held.entries c.args.d.now.0 = subst (λ s. c.args.times ≤ count_in s c.args.d.now.0) (sym c.self.view_is) c.requires in
    let count = count-found _ c.args.d.now.0 _ c.in-Some.ensures.value in
    let put = (c.get_mut.follows.holds (record { text = c.in-Some.held.now.text; count = c.in-Some.held.now.count - c.args.times })).3 (sym (ap is_some c.in-Some.ensures.value)) in
    releases-told _ _ c.self.view_is (releases-put _ _ c.args.d.now.0 c.in-Some.held.now c.args.times c.in-Some.ensures.value (λ q. put.0 (record { 0 = q })) (omega (arith, le, count)) c.if-left-eq0.false)

pub invariant_of-self-then-left-eq0 : goal.invariant_of-self-then-left-eq0
invariant_of-self-then-left-eq0 c =
    let le : c.args.times ≤ count_seen c.self.inside.held.entries c.args.d.now.0 = subst (λ s. c.args.times ≤ count_in s c.args.d.now.0) (sym c.self.view_is) c.requires in
    let count = count-found _ c.args.d.now.0 _ c.in-Some.ensures.value in
    let put = (c.get_mut.follows.holds (record { text = c.in-Some.held.now.text; count = c.in-Some.held.now.count - c.args.times })).3 (sym (ap is_some c.in-Some.ensures.value)) in
    stored-releases _ _ _ _ c.args.d.now.0 c.args.times c.self.invariant le (releases-taken _ _ _ c.args.d.now.0 c.in-Some.held.now c.args.times c.in-Some.ensures.value (λ q. put.0 (record { 0 = q })) (omega (arith, le, count)) c.if-left-eq0.true (λ q. c.remove.ensures.updates.0 (record { 0 = q })))

pub returns-then-left-eq0-clause-ok : goal.returns-then-left-eq0-clause-ok
returns-then-left-eq0-clause-ok c =
    let le : c.args.times ≤ count_seen c.self.inside.held.entries c.args.d.now.0 = subst (λ s. c.args.times ≤ count_in s c.args.d.now.0) (sym c.self.view_is) c.requires in
    let count = count-found _ c.args.d.now.0 _ c.in-Some.ensures.value in
    let put = (c.get_mut.follows.holds (record { text = c.in-Some.held.now.text; count = c.in-Some.held.now.count - c.args.times })).3 (sym (ap is_some c.in-Some.ensures.value)) in
    let released = releases-told _ _ c.self.view_is (releases-taken _ _ _ c.args.d.now.0 c.in-Some.held.now c.args.times c.in-Some.ensures.value (λ q. put.0 (record { 0 = q })) (omega (arith, le, count)) c.if-left-eq0.true (λ q. c.remove.ensures.updates.0 (record { 0 = q }))) in
    elim c.match-remove.branch [
      | in-Some-1 w ↦ subst (λ s. Releases c.args.self.now.texts s.texts (count_in c.args.self.now) (count_in s) c.args.d.now.0 c.args.times) (sym w.self-is) released
      | in-None-1 w ↦ subst (λ s. Releases c.args.self.now.texts s.texts (count_in c.args.self.now) (count_in s) c.args.d.now.0 c.args.times) (sym w.self-is) released
    ]
