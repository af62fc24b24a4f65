use Rattle.std.proofs.Common.{subst, ◌≡◌, Ok}
use Rattle.partial_model.specs.Partial.{framed, listed_at}
use Rattle.text_store.specs.PartialStates.{IsRefused, AnswersTexts}
use Rattle.text_store.proofs.Listing.{bytes_of}
use Rattle.text_store.proofs.Answering.{whole_refused, rest_refused, whole_answered}
use Rattle.text_store.proofs.partial_texts.PartialTexts.read.Goals as goal

pub returns-in_err-texts : goal.returns-in_err-texts
returns-in_err-texts c = whole_refused c.args.bytes.now c.from_residual.result c.in_err-texts.field-0.0 c.from_residual.ensures.1
    (subst (λ cursor. IsRefused c.in_err-texts.field-0.0 (framed (listed_at cursor))) c.new-reader.ensures c.in_err-texts.ensures.read)

pub returns-in_err-end : goal.returns-in_err-end
returns-in_err-end c = rest_refused c.args.bytes.now (bytes_of c.in_ok-texts.texts.items) c.read_texts.new.reader c.from_residual-in_err-end.result c.in_err-end.field-0.0 c.from_residual-in_err-end.ensures.1
    (subst (λ cursor. listed_at cursor ≡ Ok (bytes_of c.in_ok-texts.texts.items, c.read_texts.new.reader)) c.new-reader.ensures c.in_ok-texts.ensures.read) c.in_err-end.ensures

pub returns : goal.returns
returns c = whole_answered c.args.bytes.now (bytes_of c.in_ok-texts.texts.items) c.read_texts.new.reader c.of_texts.result
    (subst (λ cursor. listed_at cursor ≡ Ok (bytes_of c.in_ok-texts.texts.items, c.read_texts.new.reader)) c.new-reader.ensures c.in_ok-texts.ensures.read) c.in_ok-end.ensures
    (subst (λ texts. AnswersTexts c.of_texts.result (bytes_of texts)) c.as_slice.ensures.value c.of_texts.ensures)
