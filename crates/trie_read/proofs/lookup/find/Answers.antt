use Rattle.std.proofs.Common.{[], arith, sym}
use Rattle.byte_model.specs.Nibbles.{nibbles}
use Rattle.visit_model.specs.Seen.{seen}
use Rattle.visit_model.specs.Steps.{lookup_steps}
use Rattle.text_store.proofs.Leaves.{Leaves-none}
use Rattle.trie_read.proofs.HeldNodes.{within_key}
use Rattle.trie_read.proofs.LookupProgress.{root-zero, at_root, found_end, found_stopped, found_deeper}
use Rattle.trie_read.proofs.lookup.find.Goals as goal

pub returns-then-eq-clause-found : goal.returns-then-eq-clause-found
returns-then-eq-clause-found g c = record {
  digests = [];
  finds = root-zero (g.T.Texts.store.texts c.args.store.now) c.args.root.now.0 (nibbles c.args.key.now) c.if-eq.ensures;
  left = Leaves-none g.T.Texts.store c.args.store.now (g.met.T.Texts.alike_itself c.args.store.now);
}

pub loop-error-init : goal.loop-error-init
loop-error-init g c = at_root g.T.Texts.store c.args.store.now (g.T.Texts.store.texts c.args.store.now) c.args.root.now.0 (nibbles c.args.key.now) (g.met.T.Texts.alike_itself c.args.store.now) c.if-eq.ensures

pub visit-requires-clause-depth : goal.visit-requires-clause-depth
visit-requires-clause-depth g c = c.loop-error.invariant.reaches.deep

pub returns-in-Err-clause-found : goal.returns-in-Err-clause-found
returns-in-Err-clause-found g c =
    let texts = g.T.Texts.store.texts in
    let short = within_key c.args.key.now c.loop-error.depth c.loop-error.invariant.reaches.deep c.requires in
    let same = sym (g.met.T.Texts.alike_texts c.args.store.now c.loop-error.store c.loop-error.invariant.left.same) in
    found_stopped g.T.Texts.store c.args.store.now c.loop-error.store c.visit.new.store (texts c.args.store.now) (texts c.loop-error.store) (lookup_steps (seen (texts c.args.store.now) c.args.root.now.0) [] (nibbles c.args.key.now)) (nibbles c.args.key.now) c.loop-error.digest c.loop-error.depth c.loop-error.after_extension c.in-Err.error g.met.T.Texts.alike_onward same short c.loop-error.invariant c.in-Err.ensures.answer c.in-Err.ensures.left

pub returns-in-Ok-End-clause-found : goal.returns-in-Ok-End-clause-found
returns-in-Ok-End-clause-found g c =
    let texts = g.T.Texts.store.texts in
    let short = within_key c.args.key.now c.loop-error.depth c.loop-error.invariant.reaches.deep c.requires in
    let same = sym (g.met.T.Texts.alike_texts c.args.store.now c.loop-error.store c.loop-error.invariant.left.same) in
    found_end g.T.Texts.store c.args.store.now c.loop-error.store c.visit.new.store (texts c.args.store.now) (texts c.loop-error.store) (lookup_steps (seen (texts c.args.store.now) c.args.root.now.0) [] (nibbles c.args.key.now)) (nibbles c.args.key.now) c.loop-error.digest.0 c.loop-error.depth c.loop-error.after_extension c.in-Ok-End.value g.met.T.Texts.alike_onward same short c.loop-error.invariant (rw c.in-Ok-End.field-0-is at c.in-Ok-End.ensures.answer) c.in-Ok-End.ensures.left

pub loop-error-smaller : goal.loop-error-smaller
loop-error-smaller g c =
    let texts = g.T.Texts.store.texts in
    let short = within_key c.args.key.now c.loop-error.depth c.loop-error.invariant.reaches.deep c.requires in
    let same = sym (g.met.T.Texts.alike_texts c.args.store.now c.loop-error.store c.loop-error.invariant.left.same) in
    let on = (found_deeper g.T.Texts.store c.args.store.now c.loop-error.store c.visit.new.store (texts c.args.store.now) (texts c.loop-error.store) (lookup_steps (seen (texts c.args.store.now) c.args.root.now.0) [] (nibbles c.args.key.now)) (nibbles c.args.key.now) c.loop-error.digest.0 c.loop-error.depth c.loop-error.after_extension c.in-Ok-Child.child c.in-Ok-Child.deeper c.in-Ok-Child.extended g.met.T.Texts.alike_onward same short c.loop-error.invariant (rw c.in-Ok-Child.field-0-is at c.in-Ok-Child.ensures.answer) c.in-Ok-Child.ensures.left) in
    let deep = on.0.reaches.deep in
    let below = on.1 in
    omega arith

pub loop-error-preserved : goal.loop-error-preserved
loop-error-preserved g c =
    let texts = g.T.Texts.store.texts in
    let short = within_key c.args.key.now c.loop-error.depth c.loop-error.invariant.reaches.deep c.requires in
    let same = sym (g.met.T.Texts.alike_texts c.args.store.now c.loop-error.store c.loop-error.invariant.left.same) in
    (found_deeper g.T.Texts.store c.args.store.now c.loop-error.store c.visit.new.store (texts c.args.store.now) (texts c.loop-error.store) (lookup_steps (seen (texts c.args.store.now) c.args.root.now.0) [] (nibbles c.args.key.now)) (nibbles c.args.key.now) c.loop-error.digest.0 c.loop-error.depth c.loop-error.after_extension c.in-Ok-Child.child c.in-Ok-Child.deeper c.in-Ok-Child.extended g.met.T.Texts.alike_onward same short c.loop-error.invariant (rw c.in-Ok-Child.field-0-is at c.in-Ok-Child.ensures.answer) c.in-Ok-Child.ensures.left).0
