use Rattle.std.proofs.Common.{None, ap, sym, ◌∙◌}
use Rattle.std.proofs.lemmas.Result.{IfOk-weaker}
use Rattle.update_model.specs.Joins.{known}
use Rattle.trie_update.specs.Subs.{top_of_sub}
use Rattle.trie_update.proofs.PlaceFacts.{sub-top}
use Rattle.trie_update.proofs.updating.unchanged_old.Goals as goal

pub returns-in-Empty : goal.returns-in-Empty
returns-in-Empty c = record { child = ap known (ap top_of_sub (sym c.in-Empty.is) ∙ ap top_of_sub c.in_ok-sub.ensures ∙ sub-top c.args.old.now) }

pub returns-in_default : goal.returns-in_default
returns-in_default c = record { child = IfOk-weaker c.known.result _ _ (λ child e. e None ∙ ap (λ s. known (top_of_sub s)) c.in_ok-sub.ensures ∙ ap known (sub-top c.args.old.now)) c.known.ensures.child }
