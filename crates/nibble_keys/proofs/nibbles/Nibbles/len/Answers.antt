use Rattle.std.proofs.Common.{sym}
use Rattle.nibble_keys.proofs.NibbleLists.{length-view}
use Rattle.nibble_keys.proofs.nibbles.Nibbles.len.Goals as goal

pub returns : goal.returns
returns c = sym (length-view c.self.inside.key.now c.args.self.now c.self.inside.start c.self.view_is)
