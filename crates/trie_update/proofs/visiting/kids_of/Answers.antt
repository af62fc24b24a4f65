use Rattle.std.proofs.Common.{◌+◌, set, ap, sym, ◌∙◌, subst}
use Rattle.node_codec.specs.Children.{children_viewed}
use Rattle.trie_update.proofs.KidCopies.{Copied, copied-more}
use Rattle.trie_update.proofs.visiting.kids_of.Goals as goal

pub loop-nibble-preserved : goal.loop-nibble-preserved
loop-nibble-preserved c =
    let more = copied-more c.loop-nibble.kids.value (children_viewed c.args.view.now) c.loop-nibble.nibble c.get.result c.loop-nibble-test.true c.get.ensures c.loop-nibble.invariant in
    let kids = c.set.ensures.value ∙ ap (λ kids. set kids c.loop-nibble.nibble c.get.result) c.deref_mut.ensures.value in
    subst (λ kids. Copied (c.loop-nibble.nibble + 1) kids (children_viewed c.args.view.now)) (sym kids) more
