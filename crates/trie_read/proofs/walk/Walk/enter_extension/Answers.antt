use Rattle.std.proofs.Common.{ℕ, List, [], true, false, drop, length, refl, subst}
use Rattle.trie_read.specs.declared.walk.Side.TheVariants.{Below, Within, Above}
use Rattle.trie_read.specs.Walks.{IsSide}
use Rattle.trie_read.proofs.Entries.{extension-passed, extension-entered, on_ok}
use Rattle.trie_read.proofs.walk.Walk.enter_extension.Goals as goal

pub returns-in-Below : goal.returns-in-Below
returns-in-Below c =
    let side = subst (λ (p : List ℕ). IsSide p c.args.bound.now Below) c.nibbles.ensures c.in-Below.ensures in
    extension-passed c.args.self.now c.args.path.now c.args.child.now.0 c.args.bound.now c.requires.walk side

pub returns-in-Within : goal.returns-in-Within
returns-in-Within c =
    let side = subst (λ (p : List ℕ). IsSide p c.args.bound.now Within) c.nibbles.ensures c.in-Within.ensures in
    on_ok c.take_up.result _ _ _ _
    (λ path small pending. extension-entered c.args.self.now c.take_up.new.self c.args.path.now c.args.bound.now (drop (length c.args.path.now) c.args.bound.now) c.args.child.now true c.requires.fits c.requires.walk side.0 (refl, side.1) path (small c.requires.walk.small) pending)
    c.take_up.ensures.path c.take_up.ensures.small c.take_up.ensures.pending

pub returns-in-Above : goal.returns-in-Above
returns-in-Above c =
    let side = subst (λ (p : List ℕ). IsSide p c.args.bound.now Above) c.nibbles.ensures c.in-Above.ensures in
    on_ok c.take_up-in-Above.result _ _ _ _
    (λ path small pending. extension-entered c.args.self.now c.take_up-in-Above.new.self c.args.path.now c.args.bound.now [] c.args.child.now false c.requires.fits c.requires.walk side refl path (small c.requires.walk.small) pending)
    c.take_up-in-Above.ensures.path c.take_up-in-Above.ensures.small c.take_up-in-Above.ensures.pending
