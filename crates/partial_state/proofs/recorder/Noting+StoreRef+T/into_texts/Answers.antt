use Rattle.partial_state.proofs.Notes.{apart}
use Rattle.partial_state.proofs.recorder.Noting+StoreRef+T.into_texts.Goals as goal

pub into_texts-requires : goal.into_texts-requires
into_texts-requires g c = apart (g.T.Texts.store.texts c.args.self.store.store.now) c.args.self.notes.texts c.requires.held
