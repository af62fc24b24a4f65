use Rattle.std.proofs.Common.{rules, ◌≤◌, length, map, sym, subst}
use Rattle.std.proofs.lemmas.List.{length-map}
use Rattle.script_io.specs.Meanings.{op as meant}
use Rattle.shard_cmd.proofs.Gathered.{gathers-all, gathers-more, gathers-none, gathers-refused}
use Rattle.shard_cmd.proofs.prove.gather.Goals as goal

pub loop-place-init : goal.loop-place-init
loop-place-init c = gathers-none (map meant c.args.list.now) c.args.most c.new-ops.result c.new-ops.ensures.reads c.new-ops.ensures.changes c.new-ops.ensures.most

pub loop-place-preserved : goal.loop-place-preserved
loop-place-preserved c = gathers-more meant c.args.list.now c.args.most c.loop-place.place c.loop-place.ops c.loop-place.invariant c.at.result.now c.at.ensures c.add.new.ops c.in_ok-add.ensures

pub returns-in_err-add : goal.returns-in_err-add
returns-in_err-add c = gathers-refused meant c.args.list.now c.args.most c.loop-place.place c.loop-place.ops c.loop-place.invariant c.at.result.now c.at.ensures c.add.new.ops c.in_err-add.field-0.0 c.from_residual.result c.requires.each c.requires.few c.in_err-add.ensures c.from_residual.ensures.1

pub returns : goal.returns
returns c =
    let past : length c.args.list.now ≤ c.loop-place.place = search rules in
    gathers-all (map meant c.args.list.now) c.args.most c.loop-place.place c.loop-place.ops c.loop-place.invariant (subst (λ n. n ≤ c.loop-place.place) (sym (length-map c.args.list.now meant)) past)
