use Rattle.std.proofs.Common.{ℕ, List, refl, subst}
use Rattle.trie_read.specs.declared.walk.Side.TheVariants.{Below, Within, Above}
use Rattle.trie_read.specs.Walks.{IsSide}
use Rattle.trie_read.proofs.Entries.{leaf-passed, passed-below, passed-within, leaf-entered}
use Rattle.trie_read.proofs.walk.Walk.enter_leaf.Goals as goal

pub returns-in-Below : goal.returns-in-Below
returns-in-Below c =
    let side = subst (λ (p : List ℕ). IsSide p c.args.bound.now Below) c.nibbles.ensures c.in-Below.ensures in
    leaf-passed c.args.self.now c.args.path.now c.args.bound.now c.args.value.now c.requires.walk (passed-below c.args.path.now c.args.bound.now c.args.value.now side)

pub returns-in-Within : goal.returns-in-Within
returns-in-Within c =
    let side = subst (λ (p : List ℕ). IsSide p c.args.bound.now Within) c.nibbles.ensures c.in-Within.ensures in
    leaf-passed c.args.self.now c.args.path.now c.args.bound.now c.args.value.now c.requires.walk (passed-within c.args.path.now c.args.bound.now c.args.value.now side.0 side.1)

pub returns-in_ok-extend-in-Above : goal.returns-in_ok-extend-in-Above
returns-in_ok-extend-in-Above c =
    let side = subst (λ (p : List ℕ). IsSide p c.args.bound.now Above) c.nibbles.ensures c.in-Above.ensures in
    let extended = c.in_ok-extend-in-Above.ensures in
    leaf-entered c.args.self.now _ c.args.path.now c.args.bound.now c.args.value.now c.requires.fits c.requires.walk side extended.nibbles (extended.small c.requires.walk.small) refl
