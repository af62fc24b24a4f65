use Rattle.std.proofs.Common.{sym, rules}
use Rattle.base_core.proofs.KeptMaps.{are_bytes}
use Rattle.node_codec.specs.Views.{node_viewed}
use Rattle.trie_update.proofs.NodeVisits.{visited-node, visited-record}
use Rattle.trie_update.proofs.visiting.node_in.Goals as goal

pub returns-in-Ok-clause-answer : goal.returns-in-Ok-clause-answer
returns-in-Ok-clause-answer c = visited-node c.args.text.now c.args.depth c.args.after_extension _ (node_viewed c.in-Some.view) (sym c.in-Some.ensures) c.in-Ok.ensures.same c.in-Ok.ensures.nibbles c.own_cost-own.ensures (search rules)

pub returns-in-Ok-clause-record : goal.returns-in-Ok-clause-record
returns-in-Ok-clause-record c =
    visited-record c.args.text.now c.args.depth c.args.after_extension c.in-Ok.node (node_viewed c.in-Some.view) c.in-Some.stated (are_bytes _ c.type_inv.text) (sym c.in-Some.ensures) c.in-Ok.ensures.same
