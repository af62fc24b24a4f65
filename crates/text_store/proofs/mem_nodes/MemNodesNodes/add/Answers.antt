use Rattle.std.proofs.Common.{◌≢◌, ◌≤◌, cond, IfNone, ◌+◌, ◌<◌, ◌^◌, Some, is_some, refl, sym, subst, ap, ◌∙◌, arith}
use Rattle.std.specs.FinMap.{get}
use Rattle.base_core.proofs.ByteMaps.{apart_by_eq, apart_by_ne, same_by_ne}
use Rattle.text_store.specs.Counting.{Adds}
use Rattle.text_store.specs.StoreStates.{count_in}
use Rattle.text_store.proofs.Stored.{stored-unchanged, stored-adds}
use Rattle.text_store.proofs.StoreStates.{unchanged-told, adds-told, clashes-other, clashes-same, clashes-none}
use Rattle.text_store.proofs.Changes.{count_seen, text-found, text-missing, count-found, put-back, unchanged-same, Puts, adds-new, adds-more, counted-more}
use Rattle.text_store.proofs.mem_nodes.MemNodesNodes.add.Goals as goal
use Rattle.text_store.proofs.mem_nodes.MemNodesNodes.add.Goals.{in-Ok+in-Some-1, in-Ok+in-None-1, in-Err-1}
use Rattle.text_store.proofs.Tables.{found}
use Rattle.std.specs.Prelude.{nat_eq}
use Rattle.std.specs.Cmp.Lexicographic.{pointwise}

-- ---- another text is held

pub invariant_of-self-then-ne : goal.invariant_of-self-then-ne
invariant_of-self-then-ne c =
    let put = (c.get_mut.follows.holds c.in-Some.held.now).3 (sym (ap is_some c.in-Some.ensures.value)) in
    stored-unchanged _ _ _ _ c.self.invariant (unchanged-same _ _ (put-back _ _ c.args.d.now.0 c.in-Some.held.now c.in-Some.ensures.value (λ q. put.0 (record { 0 = q }))))

pub returns-then-ne-clause-err : goal.returns-then-ne-clause-err
returns-then-ne-clause-err c =
    let put = (c.get_mut.follows.holds c.in-Some.held.now).3 (sym (ap is_some c.in-Some.ensures.value)) in
    unchanged-told _ _ c.self.view_is (unchanged-same _ _ (put-back _ _ c.args.d.now.0 c.in-Some.held.now c.in-Some.ensures.value (λ q. put.0 (record { 0 = q }))))

pub returns-then-ne-clause-answer : goal.returns-then-ne-clause-answer
returns-then-ne-clause-answer c =
    let held = sym (ap (λ s. get s.texts c.args.d.now.0) c.self.view_is) ∙ text-found _ c.args.d.now.0 _ c.in-Some.ensures.value in
    let other : c.in-Some.held.now.text ≢ c.args.text = λ same. apart_by_ne _ _ _ c.if-ne.true c.ne.ensures (c.as_slice.ensures ∙ same ∙ sym c.as_slice-in-Some.ensures) in
    (refl, clashes-other _ _ _ _ held other)

-- ---- the same text is held

pub overflow_add-held : goal.overflow_add-held
overflow_add-held c =
    let fits : count_seen c.self.inside.held.entries c.args.d.now.0 + c.args.times < 2 ^ 64 = subst (λ s. count_in s c.args.d.now.0 + c.args.times < 2 ^ 64) (sym c.self.view_is) c.requires.fits in
    omega (arith, fits, count-found _ c.args.d.now.0 _ c.in-Some.ensures.value)

pub invariant_of-self-in-Some-1 : goal.invariant_of-self-in-Some-1
invariant_of-self-in-Some-1 c =
    let put = (c.get_mut.follows.holds (record { text = c.in-Some.held.now.text; count = c.in-Some.held.now.count + c.args.times })).3 (sym (ap is_some c.in-Some.ensures.value)) in
    let same = sym c.as_slice.ensures ∙ same_by_ne _ _ _ c.if-ne.false c.ne.ensures ∙ c.as_slice-in-Some.ensures in
    let adds = adds-more _ _ c.args.d.now.0 c.args.text c.args.times c.in-Some.held.now c.in-Some.ensures.value same (λ q. put.0 (record { 0 = q })) in
    stored-adds _ _ _ c.args.d.now.0 c.self.invariant c.args.text c.args.times _ adds (apart_by_eq _ _ _ c.if-eq.false c.eq.ensures) (sym c.requires.digest) (counted-more _ _ c.args.times c.self.invariant c.in-Some.held.now c.in-Some.ensures.value)

pub returns-else-ne-clause-ok : goal.returns-else-ne-clause-ok
returns-else-ne-clause-ok c =
    let put = (c.get_mut.follows.holds (record { text = c.in-Some.held.now.text; count = c.in-Some.held.now.count + c.args.times })).3 (sym (ap is_some c.in-Some.ensures.value)) in
    let same = sym c.as_slice.ensures ∙ same_by_ne _ _ _ c.if-ne.false c.ne.ensures ∙ c.as_slice-in-Some.ensures in
    adds-told _ _ c.self.view_is (adds-more _ _ c.args.d.now.0 c.args.text c.args.times c.in-Some.held.now c.in-Some.ensures.value same (λ q. put.0 (record { 0 = q })))

pub returns-else-ne-clause-answer : goal.returns-else-ne-clause-answer
returns-else-ne-clause-answer c =
    let held = sym (ap (λ s. get s.texts c.args.d.now.0) c.self.view_is) ∙ text-found _ c.args.d.now.0 _ c.in-Some.ensures.value in
    let same = sym c.as_slice.ensures ∙ same_by_ne _ _ _ c.if-ne.false c.ne.ensures ∙ c.as_slice-in-Some.ensures in
    clashes-same _ _ _ _ (apart_by_eq _ _ _ c.if-eq.false c.eq.ensures) held same

-- ---- no text is held

pub invariant_of-self-in-Ok-2 : goal.invariant_of-self-in-Ok-2
invariant_of-self-in-Ok-2 c =
    let put : Puts c.self.inside.held.entries c.insert.new.self.entries c.args.d.now.0 (Some (record { text = c.args.text; count = c.args.times }))
    = λ q. c.in-Ok.ensures.updates.0 (record { 0 = q }) ∙ ap (λ m. cond (pointwise nat_eq c.args.d.now.0 q) (Some (record { text = c.args.text; count = c.args.times })) (found m.entries q)) c.get_mut.follows.holds-at-none in
    let none = text-missing _ c.args.d.now.0 c.in-None.ensures.value in
    let some : 1 ≤ c.args.times = subst (λ o. IfNone o (1 ≤ c.args.times)) (sym (ap (λ s. get s.texts c.args.d.now.0) c.self.view_is) ∙ none) c.requires.times in
    stored-adds _ _ _ c.args.d.now.0 c.self.invariant c.args.text c.args.times _ (adds-new _ _ c.args.d.now.0 c.args.text c.args.times c.in-None.ensures.value put) (apart_by_eq _ _ _ c.if-eq.false c.eq.ensures) (sym c.requires.digest) (omega (arith, some))

pub returns-in-Ok-clause-ok : goal.returns-in-Ok-clause-ok
returns-in-Ok-clause-ok c =
    let put : Puts c.self.inside.held.entries c.insert.new.self.entries c.args.d.now.0 (Some (record { text = c.args.text; count = c.args.times }))
    = λ q. c.in-Ok.ensures.updates.0 (record { 0 = q }) ∙ ap (λ m. cond (pointwise nat_eq c.args.d.now.0 q) (Some (record { text = c.args.text; count = c.args.times })) (found m.entries q)) c.get_mut.follows.holds-at-none in
    let adds = adds-told _ _ c.self.view_is (adds-new _ _ c.args.d.now.0 c.args.text c.args.times c.in-None.ensures.value put) in
    elim c.match-this.branch [
      | in-Ok+in-Some-1 w ↦ subst (λ s. Adds c.args.self.now.texts s.texts (count_in c.args.self.now) (count_in s) c.args.d.now.0 c.args.text c.args.times) (sym w.self-is) adds
      | in-Ok+in-None-1 w ↦ subst (λ s. Adds c.args.self.now.texts s.texts (count_in c.args.self.now) (count_in s) c.args.d.now.0 c.args.text c.args.times) (sym w.self-is) adds
      | in-Err-1 w ↦ subst (λ s. Adds c.args.self.now.texts s.texts (count_in c.args.self.now) (count_in s) c.args.d.now.0 c.args.text c.args.times) (sym w.self-is) adds
    ]

pub returns-in-Ok-clause-answer : goal.returns-in-Ok-clause-answer
returns-in-Ok-clause-answer c =
    clashes-none _ _ _ (apart_by_eq _ _ _ c.if-eq.false c.eq.ensures) (sym (ap (λ s. get s.texts c.args.d.now.0) c.self.view_is) ∙ text-missing _ c.args.d.now.0 c.in-None.ensures.value)
