use Rattle.std.proofs.Common.{◌≡◌, ℕ, ◌<◌, length, None, Some, is_some, cond, sym, ◌∙◌, ap, subst, arith}
use Rattle.std.specs.Option.{option_or}
use Rattle.fork_model.specs.Trees.{IsTree, moved}
use Rattle.fork_tree.specs.Kept.{IsPlaced, headers, id_at, place_of, placed, tree_of}
use Rattle.fork_tree.proofs.Apart.{places_apart}
use Rattle.fork_tree.proofs.Kept.{head-first, kept-linked, length-same, nonempty, tree-same}
use Rattle.fork_tree.proofs.Leaving.{carried, no_way, places-stay, plan-of, plan-stays, staying-is, tree-stays}
use Rattle.fork_tree.proofs.forks.Forks.commit_move.Goals as goal

pub returns-in_default-clause-tree : goal.returns-in_default-clause-tree
returns-in_default-clause-tree c = λ id given.
    let plan = plan-of (tree_of c.self.inside.live.items) _ id _ (ap (λ s. s.tree) c.self.view_is) given in
    let stays = plan-stays (tree_of c.self.inside.live.items) c.self.invariant.kept.tree id plan.live (sym plan.passed ∙ sym c.as_slice.ensures ∙ no_way c.as_slice.result.now c.in_default.ensures.cases) in
    sym (ap (λ s. moved s.tree id) (sym c.self.view_is) ∙ stays ∙ ap (λ s. s.tree) c.self.view_is)

pub put_places-requires : goal.put_places-requires
put_places-requires c =
    let id = c.requires.0 in
    let plan = plan-of (tree_of c.self.inside.live.items) _ id _ (ap (λ s. s.tree) c.self.view_is) c.requires.1 in
    let first = head-first c.self.inside.live.items c.index.result.now (nonempty c.self.inside.live.items c.self.invariant.kept.tree) c.index.ensures in
    let now = placed c.forget_all.new.places.entries in
    let carry = carried _ _ c.self.invariant.kept c.args.m.now id plan c.as_slice.result.now c.in-Some.before.now _ c.as_slice.ensures c.in-Some.ensures.cases.0 c.as_slice-2.result.now c.as_slice-2.ensures c.index.result.now.id.0 first now c.forget_all.ensures.places in
    let stay = staying-is c.self.inside.live.items c.self.invariant.kept.tree id plan.live now carry in
    record { apart = subst (λ bs. (i : ℕ) → i < length bs → place_of (headers bs) (id_at bs i) ≡ Some i) (sym (c.deref.ensures.value ∙ c.keep_placed.ensures.items)) (places_apart _ stay) }

pub link_all-requires-clause-tree : goal.link_all-requires-clause-tree
link_all-requires-clause-tree c =
    let id = c.requires.0 in
    let plan = plan-of (tree_of c.self.inside.live.items) _ id _ (ap (λ s. s.tree) c.self.view_is) c.requires.1 in
    let first = head-first c.self.inside.live.items c.index.result.now (nonempty c.self.inside.live.items c.self.invariant.kept.tree) c.index.ensures in
    let now = placed c.forget_all.new.places.entries in
    let carry = carried _ _ c.self.invariant.kept c.args.m.now id plan c.as_slice.result.now c.in-Some.before.now _ c.as_slice.ensures c.in-Some.ensures.cases.0 c.as_slice-2.result.now c.as_slice-2.ensures c.index.result.now.id.0 first now c.forget_all.ensures.places in
    subst (λ bs. IsTree (tree_of bs)) (sym c.keep_placed.ensures.items) (staying-is c.self.inside.live.items c.self.invariant.kept.tree id plan.live now carry)

pub link_all-requires-clause-placed : goal.link_all-requires-clause-placed
link_all-requires-clause-placed c =
    let id = c.requires.0 in
    let plan = plan-of (tree_of c.self.inside.live.items) _ id _ (ap (λ s. s.tree) c.self.view_is) c.requires.1 in
    let first = head-first c.self.inside.live.items c.index.result.now (nonempty c.self.inside.live.items c.self.invariant.kept.tree) c.index.ensures in
    let now = placed c.forget_all.new.places.entries in
    let carry = carried _ _ c.self.invariant.kept c.args.m.now id plan c.as_slice.result.now c.in-Some.before.now _ c.as_slice.ensures c.in-Some.ensures.cases.0 c.as_slice-2.result.now c.as_slice-2.ensures c.index.result.now.id.0 first now c.forget_all.ensures.places in
    subst (λ bs. IsPlaced bs c.put_places.new.places.entries) (sym c.keep_placed.ensures.items) (λ q.
    c.put_places.ensures.places q
    ∙ ap (λ bs. cond (is_some (now q)) (option_or (place_of (headers bs) q) (now q)) None) (c.deref.ensures.value ∙ c.keep_placed.ensures.items)
    ∙ places-stay c.self.inside.live.items c.self.invariant.kept.tree id plan.live now carry q)

pub invariant_of-self : goal.invariant_of-self
invariant_of-self c =
    let id = c.requires.0 in
    let plan = plan-of (tree_of c.self.inside.live.items) _ id _ (ap (λ s. s.tree) c.self.view_is) c.requires.1 in
    let first = head-first c.self.inside.live.items c.index.result.now (nonempty c.self.inside.live.items c.self.invariant.kept.tree) c.index.ensures in
    let now = placed c.forget_all.new.places.entries in
    let carry = carried _ _ c.self.invariant.kept c.args.m.now id plan c.as_slice.result.now c.in-Some.before.now _ c.as_slice.ensures c.in-Some.ensures.cases.0 c.as_slice-2.result.now c.as_slice-2.ensures c.index.result.now.id.0 first now c.forget_all.ensures.places in
    let before = c.self.inside.live.ok.0 in
    let after = c.keep_placed.new.blocks.ok.0 in
    let same = length-same c.link_all.new.blocks.items c.keep_placed.new.blocks.items c.link_all.ensures.headers in
    record {
      kept = kept-linked c.keep_placed.new.blocks.items c.link_all.new.blocks.items c.put_places.new.places.entries
          (subst (λ bs. IsTree (tree_of bs)) (sym c.keep_placed.ensures.items) (staying-is c.self.inside.live.items c.self.invariant.kept.tree id plan.live now carry))
          (subst (λ bs. IsPlaced bs c.put_places.new.places.entries) (sym c.keep_placed.ensures.items) (λ q.
          c.put_places.ensures.places q
          ∙ ap (λ bs. cond (is_some (now q)) (option_or (place_of (headers bs) q) (now q)) None) (c.deref.ensures.value ∙ c.keep_placed.ensures.items)
          ∙ places-stay c.self.inside.live.items c.self.invariant.kept.tree id plan.live now carry q))
          c.link_all.ensures.headers c.link_all.ensures.linked;
      bounded = omega (arith, before, after, same, c.keep_placed.ensures.bound, c.self.invariant.bounded);
    }

pub returns-clause-tree : goal.returns-clause-tree
returns-clause-tree c = λ id given.
    let plan = plan-of (tree_of c.self.inside.live.items) _ id _ (ap (λ s. s.tree) c.self.view_is) given in
    let first = head-first c.self.inside.live.items c.index.result.now (nonempty c.self.inside.live.items c.self.invariant.kept.tree) c.index.ensures in
    let now = placed c.forget_all.new.places.entries in
    let carry = carried _ _ c.self.invariant.kept c.args.m.now id plan c.as_slice.result.now c.in-Some.before.now _ c.as_slice.ensures c.in-Some.ensures.cases.0 c.as_slice-2.result.now c.as_slice-2.ensures c.index.result.now.id.0 first now c.forget_all.ensures.places in
    tree-same c.link_all.new.blocks.items c.keep_placed.new.blocks.items c.link_all.ensures.headers
    ∙ ap tree_of c.keep_placed.ensures.items
    ∙ tree-stays c.self.inside.live.items c.self.invariant.kept.tree id plan.live now carry
    ∙ ap (λ s. moved s.tree id) c.self.view_is

pub returns-clause-room : goal.returns-clause-room
returns-clause-room c =
    let room = ap (λ s. s.spare) c.self.view_is in
    let same = length-same c.link_all.new.blocks.items c.keep_placed.new.blocks.items c.link_all.ensures.headers in
    let before = c.keep_placed.new.blocks.ok.0 in
    let after = c.link_all.new.blocks.ok.0 in
    omega (arith, room, same, before, after, c.link_all.ensures.capacity, c.keep_placed.ensures.capacity, c.keep_placed.ensures.bound, c.forget_all.ensures.room, c.put_places.ensures.room)
