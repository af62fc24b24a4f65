use Rattle.std.proofs.Common.{rules, ◌≡◌, ◌≢◌, length, refl, sym, ◌∙◌, subst, inl, inr, None}
use Rattle.node_codec.specs.Children.{children_viewed}
use Rattle.trie_read.specs.declared.walk.Walk.{Walk}
use Rattle.trie_read.proofs.Entries.{Pushed, StaysStacked, branch-entered}
use Rattle.trie_read.proofs.walk.Walk.enter_branch.Goals as goal

pub returns-then-len-eq0 : goal.returns-then-len-eq0
returns-then-len-eq0 c =
    let kids = children_viewed c.args.kids.now in
    let depth : c.len.result ≡ length c.args.self.now.path.items = search rules in
    let new : Walk = record { path = c.args.self.now.path; pending = c.push_children.new.pending } in
    let pushed = subst (Pushed kids c.args.bound.now c.args.self.now.pending.items c.push_children.new.pending.items) depth c.in_ok-push_children.ensures.steps in
    let stacks = subst (StaysStacked c.args.self.now.pending.items c.push_children.new.pending.items) depth c.in_ok-push_children.ensures.stacked in
    branch-entered c.args.self.now new c.args.bound.now c.args.value.now c.args.value.now kids c.requires.fits c.requires.walk (inl (sym c.len-2.ensures ∙ c.if-len-eq0.true, refl)) pushed stacks refl

pub returns-else-len-eq0 : goal.returns-else-len-eq0
returns-else-len-eq0 c =
    let kids = children_viewed c.args.kids.now in
    let depth : c.len.result ≡ length c.args.self.now.path.items = search rules in
    let new : Walk = record { path = c.args.self.now.path; pending = c.push_children.new.pending } in
    let pushed = subst (Pushed kids c.args.bound.now c.args.self.now.pending.items c.push_children.new.pending.items) depth c.in_ok-push_children.ensures.steps in
    let stacks = subst (StaysStacked c.args.self.now.pending.items c.push_children.new.pending.items) depth c.in_ok-push_children.ensures.stacked in
    let some : length c.args.bound.now ≢ 0 = λ none. c.if-len-eq0.false (c.len-2.ensures ∙ none) in
    branch-entered c.args.self.now new c.args.bound.now c.args.value.now None kids c.requires.fits c.requires.walk (inr (some, refl)) pushed stacks refl
