use Rattle.std.proofs.Common.{◌+◌, cond, length, Some, arith, sym, ◌∙◌, ap, subst}
use Rattle.std.proofs.lemmas.List.{length-append}
use Rattle.std.specs.Str.{bytes_eq}
use Rattle.fork_model.specs.Trees.{block_fault}
use Rattle.fork_model.proofs.Faults.{accepted}
use Rattle.fork_tree.specs.Kept.{AreLinked, IsCut, IsKept, placed}
use Rattle.fork_tree.proofs.Kept.{kept-push, length-headers, placed-within, prev_live, tree-push}
use Rattle.fork_tree.proofs.Linking.{linked-push}
use Rattle.fork_tree.proofs.Planned.{place-id}
use Rattle.fork_tree.proofs.forks.Forks.add.Goals as goal

pub unreachable-requires : goal.unreachable-requires
unreachable-requires c =
    let ok = ap (λ s. block_fault s.most s.tree (record { id = c.args.id.0; prev = c.args.prev.0; height = c.args.height })) c.self.view_is ∙ c.requires.accepted in
    prev_live _ _ _ _ c.self.invariant.kept ok c.in_default.ensures.value

pub links_over-links-requires-clause-linked : goal.links_over-links-requires-clause-linked
links_over-links-requires-clause-linked c =
    let within = placed-within _ _ c.self.invariant.kept c.args.prev.0 _ c.in-Some.ensures.value in
    subst (λ blocks. AreLinked blocks (c.in-Some.before.now + 1)) (sym c.deref.ensures.value) (λ place block counted at. c.self.invariant.kept.linked place block (omega (arith, within, counted)) at)

pub links_over-links-requires-clause-within : goal.links_over-links-requires-clause-within
links_over-links-requires-clause-within c =
    let within = placed-within _ _ c.self.invariant.kept c.args.prev.0 _ c.in-Some.ensures.value in
    let same = ap length c.deref.ensures.value in
    omega (arith, within, same)

pub invariant_of-self : goal.invariant_of-self
invariant_of-self c =
    let ok = ap (λ s. block_fault s.most s.tree (record { id = c.args.id.0; prev = c.args.prev.0; height = c.args.height })) c.self.view_is ∙ c.requires.accepted in
    let place = c.len-place.ensures ∙ c.self.inside.live.ok.0 in
    let taken = accepted _ _ _ ok in
    let room = taken.room in
    let all = length-headers c.self.inside.live.items in
    let more = ap length c.in-Ok.ensures.items ∙ length-append c.self.inside.live.items _ in
    let before = c.in-Some.ensures.value in
    let within = placed-within _ _ c.self.invariant.kept c.args.prev.0 _ before in
    let linked = linked-push c.self.inside.live.items (record { id = c.args.id; prev = c.args.prev; height = c.args.height; links = c.links_over-links.result }) c.self.invariant.kept.tree taken.new
    (tree-push _ c.self.inside.live.items _ c.self.invariant.kept.tree ok) c.self.invariant.kept.linked c.in-Some.before.now within (place-id _ _ c.self.invariant.kept c.args.prev.0 _ before)
    c.links_over-links.ensures.before c.links_over-links.ensures.back
    (subst (λ blocks. IsCut blocks c.in-Some.before.now c.links_over-links.result.jump c.links_over-links.result.jump) c.deref.ensures.value c.links_over-links.ensures.cut) in
    record {
      kept = subst (λ blocks. IsKept blocks c.insert.new.self.entries) (sym c.in-Ok.ensures.items)
          (kept-push _ _ _ _ c.insert.new.self.entries c.self.invariant.kept ok linked
          (λ q. c.in-Ok-insert.ensures.updates.0 (record { 0 = q }) ∙ ap (λ n. cond (bytes_eq c.args.id.0 q) (Some n) (placed c.self.inside.places.entries q)) place));
      bounded = omega (arith, room, all, more);
    }
