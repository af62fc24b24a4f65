use Rattle.std.proofs.Common.{[], None, ap, ◌∙◌, drop}
use Rattle.trie_update.specs.ChangesAt.{Lent}
use Rattle.trie_update.proofs.Beginnings.{found-first, parted-first}
use Rattle.trie_update.proofs.old.common_length.Goals as goal

pub returns-clause-begin : goal.returns-clause-begin
returns-clause-begin c =
    let d : Lent = (record { ref_ptr = (0, 0); now = [] }, None) in
    found-first c.args.depth c.args.changes.now d c.rest-first.result c.rest.result c.common.result c.requires.some c.requires.changes
    (c.rest-first.ensures ∙ ap (drop c.args.depth) c.new.ensures) (c.rest.ensures ∙ ap (drop c.args.depth) c.new-2.ensures) c.common.ensures

pub returns-clause-parted : goal.returns-clause-parted
returns-clause-parted c =
    let d : Lent = (record { ref_ptr = (0, 0); now = [] }, None) in
    parted-first c.args.depth c.args.changes.now d c.rest-first.result c.rest.result c.common.result c.requires.some
    (c.rest-first.ensures ∙ ap (drop c.args.depth) c.new.ensures) (c.rest.ensures ∙ ap (drop c.args.depth) c.new-2.ensures) c.common.ensures
