use Rattle.std.proofs.Common.{subst, Ok, ◌≡◌}
use Rattle.partial_model.specs.Partial.{framed, listed_at, tested}
use Rattle.text_store.specs.PartialStates.{AnswersTexts, IsRefused}
use Rattle.text_store.proofs.Listing.{bytes_of}
use Rattle.text_store.proofs.Answering.{first_refused, first_untested, first_answered}
use Rattle.text_store.proofs.partial_texts.PartialTexts.read_from.Goals as goal

pub returns-in_err-texts-clause-read : goal.returns-in_err-texts-clause-read
returns-in_err-texts-clause-read c = first_refused c.args.r.now c.args.r.now c.from_residual.result c.in_err-texts.field-0.0 c.from_residual.ensures.1
    (subst (λ cursor. IsRefused c.in_err-texts.field-0.0 (framed (listed_at cursor))) c.fork-ahead.ensures c.in_err-texts.ensures.read)

pub returns-in_err-held-clause-read : goal.returns-in_err-held-clause-read
returns-in_err-held-clause-read c = first_untested c.args.r.now (bytes_of c.in_ok-texts.texts.items) c.read_texts.new.reader c.from_residual-in_err-held.result c.in_err-held.field-0.0 c.from_residual-in_err-held.ensures.1
    (subst (λ cursor. listed_at cursor ≡ Ok (bytes_of c.in_ok-texts.texts.items, c.read_texts.new.reader)) c.fork-ahead.ensures c.in_ok-texts.ensures.read)
    (subst (λ texts. IsRefused c.in_err-held.field-0.0 (tested (bytes_of texts))) c.as_slice.ensures.value c.in_err-held.ensures)

pub returns-clause-read : goal.returns-clause-read
returns-clause-read c = first_answered c.args.r.now (bytes_of c.in_ok-texts.texts.items) c.read_texts.new.reader (Ok c.in_ok-held.held)
    (subst (λ cursor. listed_at cursor ≡ Ok (bytes_of c.in_ok-texts.texts.items, c.read_texts.new.reader)) c.fork-ahead.ensures c.in_ok-texts.ensures.read)
    (subst (λ texts. AnswersTexts (Ok c.in_ok-held.held) (bytes_of texts)) c.as_slice.ensures.value c.in_ok-held.ensures)
