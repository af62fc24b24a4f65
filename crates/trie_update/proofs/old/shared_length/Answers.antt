use Rattle.std.proofs.Common.{[], None, get_or}
use Rattle.trie_update.specs.ChangesAt.{Lent}
use Rattle.trie_update.proofs.Beginnings.{at_depth, begin-deeper}
use Rattle.trie_update.proofs.old.shared_length.Goals as goal

abbrev no_change : Lent
no_change = (record { ref_ptr = (0, 0); now = [] }, None)

pub returns-in-Nothing-clause-deeper : goal.returns-in-Nothing-clause-deeper
returns-in-Nothing-clause-deeper c =
    begin-deeper c.args.depth c.args.changes.now (at_depth c.args.depth (get_or c.args.changes.now 0 no_change)) c.common_length.result (c.common_length.ensures.deep no_change) (c.common_length.ensures.begin no_change) c.requires.changes

pub returns-in-Nothing-clause-parted : goal.returns-in-Nothing-clause-parted
returns-in-Nothing-clause-parted c = λ x all _. c.common_length.ensures.parted x all
