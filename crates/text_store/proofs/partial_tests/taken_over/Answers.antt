use Rattle.std.proofs.Common.{◌∙◌}
use Rattle.partial_model.specs.Texts.{texts_in}
use Rattle.text_store.proofs.Answering.{read_apart}
use Rattle.text_store.proofs.partial_tests.taken_over.Goals as goal

pub of_set-requires : goal.of_set-requires
of_set-requires c = read_apart (texts_in c.args.set) c.as_slice.result.now c.in-Ok.texts c.in_ok-bytes.ensures.held c.len.ensures.apart (c.as_slice.ensures ∙ c.in_ok-bytes.ensures.bytes) c.in-Ok.ensures.0
