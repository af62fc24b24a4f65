use Rattle.std.proofs.Common.{sym, ◌∙◌}
use Rattle.sha2.specs.Sha256.{sha256}
use Rattle.indexmap.proofs.CallerLemmas.{insert_entry-new}
use Rattle.text_store.proofs.Holding.{has-put, last-put}
use Rattle.text_store.proofs.marked.hold.Goals as goal

pub returns-in-Ok-None-clause-has : goal.returns-in-Ok-None-clause-has
returns-in-Ok-None-clause-has c = has-put c.args.held.now.entries _ c.args.digest _ (sha256 c.args.text) c.requires c.in-Ok-None.ensures.updates.0

pub returns-in-Ok-None-clause-last : goal.returns-in-Ok-None-clause-last
returns-in-Ok-None-clause-last c = last-put c.args.held.now.entries _ c.args.digest c.args.text c.requires (c.in-Ok-None.ensures.entries ∙ insert_entry-new _ c.args.held.now c.args.digest _ (sym c.in-Ok-None.ensures.old ∙ c.in-Ok-None.field-0-is))

pub returns-in-Ok-clause-has : goal.returns-in-Ok-clause-has
returns-in-Ok-clause-has c = has-put c.args.held.now.entries _ c.args.digest _ (sha256 c.args.text) c.requires c.in-Ok.ensures.updates.0
