use Rattle.std.proofs.Common.{◌≤◌, ◌<◌, length, sym, ◌∙◌, arith}
use Rattle.fork_model.proofs.Faults.{fault-full, fault-height, fault-known, fault-none, fault-over}
use Rattle.fork_tree.specs.Kept.{headers}
use Rattle.fork_tree.proofs.Kept.{fault_none_told, fault_told, length-headers, placed-live, placed-none, placed-read, placed-within}
use Rattle.fork_tree.proofs.forks.Forks.check.Goals as goal

pub returns-then-contains_key-clause-answer : goal.returns-then-contains_key-clause-answer
returns-then-contains_key-clause-answer c =
    fault_told _ _ _ _ c.self.view_is (fault-known _ _ _ (sym (placed-live _ _ c.self.invariant.kept c.args.id.now.0) ∙ sym c.contains_key.ensures ∙ c.if-contains_key.true))

pub returns-in_default-clause-answer : goal.returns-in_default-clause-answer
returns-in_default-clause-answer c =
    let new = sym (placed-live _ _ c.self.invariant.kept c.args.id.now.0) ∙ sym c.contains_key.ensures ∙ c.if-contains_key.false in
    fault_told _ _ _ _ c.self.view_is (fault-over _ _ _ new _ (placed-none _ _ c.self.invariant.kept c.args.prev.now.0 c.in_default.ensures.value))

pub index-requires : goal.index-requires
index-requires c = let w = placed-within _ _ c.self.invariant.kept c.args.prev.now.0 _ c.in-Some.ensures.value in let l = c.self.inside.live.ok.0 in omega (arith, w, l)

pub returns-then-height-index-clause-answer : goal.returns-then-height-index-clause-answer
returns-then-height-index-clause-answer c =
    let new = sym (placed-live _ _ c.self.invariant.kept c.args.id.now.0) ∙ sym c.contains_key.ensures ∙ c.if-contains_key.false in
    let prev = placed-read _ _ c.self.invariant.kept c.args.prev.now.0 _ c.index.result.now c.in-Some.ensures.value c.index.ensures in
    let low : c.args.height ≤ c.index.result.now.height = c.if-height-index.true in
    fault_told _ _ _ _ c.self.view_is (fault-height _ _ _ new _ prev low)

pub returns-then-len-self-clause-answer : goal.returns-then-len-self-clause-answer
returns-then-len-self-clause-answer c =
    let new = sym (placed-live _ _ c.self.invariant.kept c.args.id.now.0) ∙ sym c.contains_key.ensures ∙ c.if-contains_key.false in
    let prev = placed-read _ _ c.self.invariant.kept c.args.prev.now.0 _ c.index.result.now c.in-Some.ensures.value c.index.ensures in
    let high : c.index.result.now.height < c.args.height = c.if-height-index.false in
    let many : c.self.inside.most ≤ length (headers c.self.inside.live.items) = (let l = c.self.inside.live.ok.0 in let m = length-headers c.self.inside.live.items in omega (arith, l, m, c.len.ensures, c.if-len-self.true)) in
    fault_told _ _ _ _ c.self.view_is (fault-full _ _ _ new _ prev high many)

pub returns-clause-answer : goal.returns-clause-answer
returns-clause-answer c =
    let new = sym (placed-live _ _ c.self.invariant.kept c.args.id.now.0) ∙ sym c.contains_key.ensures ∙ c.if-contains_key.false in
    let prev = placed-read _ _ c.self.invariant.kept c.args.prev.now.0 _ c.index.result.now c.in-Some.ensures.value c.index.ensures in
    let high : c.index.result.now.height < c.args.height = c.if-height-index.false in
    let few : length (headers c.self.inside.live.items) < c.self.inside.most = (let l = c.self.inside.live.ok.0 in let m = length-headers c.self.inside.live.items in omega (arith, l, m, c.len.ensures, c.if-len-self.false)) in
    fault_told _ _ _ _ c.self.view_is (fault-none _ _ _ new _ prev high few)

pub returns-clause-accepted : goal.returns-clause-accepted
returns-clause-accepted c =
    let new = sym (placed-live _ _ c.self.invariant.kept c.args.id.now.0) ∙ sym c.contains_key.ensures ∙ c.if-contains_key.false in
    let prev = placed-read _ _ c.self.invariant.kept c.args.prev.now.0 _ c.index.result.now c.in-Some.ensures.value c.index.ensures in
    let high : c.index.result.now.height < c.args.height = c.if-height-index.false in
    let few : length (headers c.self.inside.live.items) < c.self.inside.most = (let l = c.self.inside.live.ok.0 in let m = length-headers c.self.inside.live.items in omega (arith, l, m, c.len.ensures, c.if-len-self.false)) in
    fault_none_told _ _ _ c.self.view_is (fault-none _ _ _ new _ prev high few)
