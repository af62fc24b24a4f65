use Rattle.partial_state.proofs.Made.{made-apart}
use Rattle.partial_state.proofs.carrying.carry_out.Goals as goal

pub returns-in-Ok-clause-state : goal.returns-in-Ok-clause-state
returns-in-Ok-clause-state g c state is holds root =
    let after = c.in-Ok.ensures.state state is holds root in
    (after.root, made-apart state c.args.changes.now.changes c.in-Ok.change.made after.made)
