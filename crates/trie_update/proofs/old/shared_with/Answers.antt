use Rattle.std.proofs.Common.{[], None, ap, sym, ◌∙◌, arith, drop, take, length, get_or}
use Rattle.trie_update.specs.ChangesAt.{Lent}
use Rattle.trie_update.proofs.Beginnings.{at_depth, fewer-first, begin-path, begin-deeper, begin-as, parted-path}
use Rattle.trie_update.proofs.old.shared_with.Goals as goal

abbrev no_change : Lent
no_change = (record { ref_ptr = (0, 0); now = [] }, None)

pub common_with-requires : goal.common_with-requires
common_with-requires c =
    let key = c.rest.ensures ∙ ap (drop c.args.depth) c.new.ensures in
    omega (arith, ap length key, c.common_length-most.ensures.deep no_change)

pub returns-clause-deeper : goal.returns-clause-deeper
returns-clause-deeper c =
    let deep = c.common_length-most.ensures.deep no_change in
    begin-deeper c.args.depth c.args.changes.now (at_depth c.args.depth (get_or c.args.changes.now 0 no_change)) c.common_with.result (omega (arith, deep, c.common_with.ensures.most))
    (fewer-first c.args.depth c.args.changes.now c.common_length-most.result c.common_with.result c.common_with.ensures.most c.common_length-most.ensures.begin no_change) c.requires.changes

pub returns-clause-keys : goal.returns-clause-keys
returns-clause-keys c = fewer-first c.args.depth c.args.changes.now c.common_length-most.result c.common_with.result c.common_with.ensures.most c.common_length-most.ensures.begin

pub returns-clause-begin : goal.returns-clause-begin
returns-clause-begin c =
    let key = c.rest.ensures ∙ ap (drop c.args.depth) c.new.ensures in
    begin-as c.args.depth c.args.changes.now c.args.path.now c.common_with.result c.common_with.ensures.path
    (begin-path c.args.depth c.args.changes.now (at_depth c.args.depth (get_or c.args.changes.now 0 no_change)) c.args.path.now c.common_length-most.result c.common_with.result c.common_with.ensures.most
    (ap (take c.common_with.result) (sym key) ∙ c.common_with.ensures.shared) (c.common_length-most.ensures.begin no_change))

pub returns-clause-parted : goal.returns-clause-parted
returns-clause-parted c =
    parted-path c.args.depth c.args.changes.now no_change c.rest.result c.args.path.now c.common_length-most.result c.common_with.result c.requires.some (c.rest.ensures ∙ ap (drop c.args.depth) c.new.ensures) c.common_with.ensures.most
    c.common_length-most.ensures.parted c.common_with.ensures.longest
