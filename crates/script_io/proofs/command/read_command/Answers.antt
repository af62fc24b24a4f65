use Rattle.std.proofs.Common.{rules}
use Rattle.script_model.specs.Bounds.{IsCommanded}
use Rattle.script_io.proofs.Commands.{got-within, proving-within}
use Rattle.script_io.proofs.command.read_command.Goals as goal

pub returns-in-len1-clause-within : goal.returns-in-len1-clause-within
unfolding IsCommanded
returns-in-len1-clause-within c = tt

pub returns-in-len1-2-clause-within : goal.returns-in-len1-2-clause-within
unfolding IsCommanded
returns-in-len1-2-clause-within c = tt

pub returns-in-len1-3-clause-within : goal.returns-in-len1-3-clause-within
unfolding IsCommanded
returns-in-len1-3-clause-within c = tt

pub returns-in-len3-clause-within : goal.returns-in-len3-clause-within
returns-in-len3-clause-within c = got-within c.as_slice-in-len3.result.now c.as_slice-in-len3-2.result.now c.read_get.result c.read_get.ensures.ok

pub returns-in-len2-up-clause-within : goal.returns-in-len2-up-clause-within
returns-in-len2-up-clause-within c = proving-within c.as_slice-in-len2-up.result.now _ c.read_prove.result (search rules) c.read_prove.ensures.ok
