use Rattle.std.proofs.Common.{map, refl, subst}
use Rattle.output_model.specs.Output.{live_behind, prove_outcome}
use Rattle.output_model.specs.Prove.{full_changes}
use Rattle.output_model.specs.Scripts.{script_outcome}
use Rattle.script_io.specs.Meanings.{op}
use Rattle.shard_cmd.specs.Ends.{run_limits}
use Rattle.shard_cmd.specs.HandedBack.{EndsRun}
use Rattle.shard_cmd.specs.Requests.{request_script}
use Rattle.shard_cmd.specs.declared.request.Request.TheVariants.{Prove}
use Rattle.shard_cmd.proofs.Proving.{full-ends, gathered-outcome}
use Rattle.shard_cmd.proofs.Runs.{by_input}
use Rattle.shard_cmd.proofs.prove.run_prove.Goals as goal

pub returns-in-Ok-clause-ends : goal.returns-in-Ok-clause-ends
returns-in-Ok-clause-ends g c =
    let limits = run_limits c.args.limits.now in
    let list = map op c.args.list.now in
    let got = c.in-Ok.ensures in
    by_input (g.S.Source.left c.args.source.now)
    (λ input. EndsRun g.N.Texts.store g.N.Nodes.count_of (live_behind (script_outcome (request_script limits (Prove c.args.id.now c.in-Ok.ops)) input)) c.args.nodes c.run_request.result.nodes (g.K.Sink.written c.args.sink.now) (g.K.Sink.written c.run_request.new.sink) c.run_request.result.status)
    (λ input. EndsRun g.N.Texts.store g.N.Nodes.count_of (prove_outcome limits c.args.id.now.0 list input) c.args.nodes c.run_request.result.nodes (g.K.Sink.written c.args.sink.now) (g.K.Sink.written c.run_request.new.sink) c.run_request.result.status)
    (λ input ends. subst (λ o. EndsRun g.N.Texts.store g.N.Nodes.count_of o c.args.nodes c.run_request.result.nodes (g.K.Sink.written c.args.sink.now) (g.K.Sink.written c.run_request.new.sink) c.run_request.result.status) (gathered-outcome limits c.args.id.now list c.in-Ok.ops input got.0 got.1 got.2) ends)
    c.run_request.ensures.ends

pub returns-in-Err-Full-clause-ends : goal.returns-in-Err-Full-clause-ends
returns-in-Err-Full-clause-ends g c =
    full-ends g.N.Texts.store g.N.Nodes.count_of (run_limits c.args.limits.now) c.args.id.now (map op c.args.list.now) c.args.nodes (g.S.Source.left c.args.source.now) (g.K.Sink.written c.args.sink.now) (g.K.Sink.written c.finish.new.sink) c.finish.result _ _ c.requires.empty c.distinct-none.ensures.stored
    (rw c.in-Err-Full.field-0-is at c.in-Err-Full.ensures) (c.finish.ensures.output full_changes refl refl) c.finish.ensures.status
