use Rattle.partial_model.proofs.Sets.{rise-texts_in, texts_in-set_of}
use Rattle.partial_model.proofs.laws.sets_of_texts_rise.Goals as goal

pub returns-clause-rise : goal.returns-clause-rise
returns-clause-rise c = rise-texts_in

pub returns-clause-back : goal.returns-clause-back
returns-clause-back c = texts_in-set_of
