use Rattle.std.proofs.Common.{Err, [], ◌∷◌, option_map, refl, ap, sym, subst, ◌∙◌, arith, rules}
use Rattle.std.proofs.lemmas.Result.{IfOk-weaker, on_ok_weaker}
use Rattle.update_model.specs.Tops.{top_digest, top_usage, pending}
use Rattle.trie_update.specs.Adds.{Adds}
use Rattle.trie_update.specs.Subs.{top_of_sub}
use Rattle.trie_update.proofs.Adding.{adds-none, adds-same, adds-gained}
use Rattle.trie_update.proofs.Tops.{usage-top, may-close, closed-pending}
use Rattle.trie_update.proofs.joining.recorded.Goals as goal

pub close-requires-clause-nibbles : goal.close-requires-clause-nibbles
close-requires-clause-nibbles c = (may-close c.args.sub c.requires.stands).nibbles

pub close-requires-clause-short : goal.close-requires-clause-short
close-requires-clause-short c = (may-close c.args.sub c.requires.stands).short

pub close-requires-clause-shaped : goal.close-requires-clause-shaped
close-requires-clause-shaped c = (may-close c.args.sub c.requires.stands).shaped

pub unreachable-requires-in-Err-Usage : goal.unreachable-requires-in-Err-Usage
unreachable-requires-in-Err-Usage c =
    let past = c.close.ensures.usage.0 (c.in-Err-Usage.is ∙ ap Err c.in-Err-Usage.field-0-is) in
    let same = usage-top c.args.sub in
    let fits = c.requires.fits in
    absurd (omega arith)

pub returns-in-Empty-clause-name : goal.returns-in-Empty-clause-name
unfolding top_digest
returns-in-Empty-clause-name c = search rules

pub returns-in-Empty-clause-used : goal.returns-in-Empty-clause-used
unfolding top_usage
returns-in-Empty-clause-used c = search rules

pub returns-in-Empty-clause-adds : goal.returns-in-Empty-clause-adds
unfolding pending
returns-in-Empty-clause-adds c = subst (λ sub. Adds c.args.ledger.now c.args.ledger.now (pending (top_of_sub sub)) [] 0 0) (sym c.in-Empty.is) (adds-none c.args.ledger.now)

pub returns-in-Branch-clause-name : goal.returns-in-Branch-clause-name
unfolding top_digest
returns-in-Branch-clause-name c = search rules

pub returns-in-Branch-clause-used : goal.returns-in-Branch-clause-used
unfolding top_usage
returns-in-Branch-clause-used c = search rules

pub returns-in-Branch-clause-adds : goal.returns-in-Branch-clause-adds
unfolding pending
returns-in-Branch-clause-adds c = subst (λ sub. Adds c.args.ledger.now c.args.ledger.now (pending (top_of_sub sub)) [] 0 0) (sym c.in-Branch.is) (adds-none c.args.ledger.now)

pub returns-in-Ok-Some-clause-name : goal.returns-in-Ok-Some-clause-name
returns-in-Ok-Some-clause-name c =
    let none = rw c.in-Ok-Some.field-0-is at c.in-Ok-Some.ensures.none in
    let written = rw c.in-Ok-Some.field-0-is at c.in-Ok-Some.ensures.written in
    let is = closed-pending c.args.sub c.in-Ok-Some.closed none written in
    IfOk-weaker c.written.result _ _ (λ name e. ap (λ n. option_map (λ d. d.0) n.0) e ∙ is.name) c.written.ensures.name

pub returns-in-Ok-Some-clause-used : goal.returns-in-Ok-Some-clause-used
returns-in-Ok-Some-clause-used c =
    let none = rw c.in-Ok-Some.field-0-is at c.in-Ok-Some.ensures.none in
    let written = rw c.in-Ok-Some.field-0-is at c.in-Ok-Some.ensures.written in
    let is = closed-pending c.args.sub c.in-Ok-Some.closed none written in
    IfOk-weaker c.written.result _ _ (λ name e. ap (λ n. n.1) e ∙ is.used) c.written.ensures.name

pub returns-in-Ok-Some-clause-adds : goal.returns-in-Ok-Some-clause-adds
returns-in-Ok-Some-clause-adds c =
    let none = rw c.in-Ok-Some.field-0-is at c.in-Ok-Some.ensures.none in
    let written = rw c.in-Ok-Some.field-0-is at c.in-Ok-Some.ensures.written in
    let is = closed-pending c.args.sub c.in-Ok-Some.closed none written in
    on_ok_weaker c.written.result (λ gains. adds-same c.args.ledger.now c.written.new.ledger (c.in-Ok-Some.closed.text ∷ []) [] 0 0 (pending (top_of_sub c.args.sub)) [] 0 0 (sym is.text) refl refl refl (adds-gained c.args.ledger.now c.written.new.ledger c.in-Ok-Some.closed.digest c.in-Ok-Some.closed.text is.digest gains)) c.written.ensures.gains
