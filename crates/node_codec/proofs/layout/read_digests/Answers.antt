use Rattle.std.proofs.Common.{rules, ◌*◌, ◌/◌, ◌<◌, ◌≤◌, arith}
use Rattle.record_model.specs.Fields.{bytes_at, digests_at}
use Rattle.node_codec.proofs.Digests.{Follows-same, digests-whole, digests-short}
use Rattle.node_codec.proofs.layout.read_digests.Goals as goal

pub returns-then-whole-count-clause-read : goal.returns-then-whole-count-clause-read
returns-then-whole-count-clause-read c =
    let left = c.left.ensures.left in
    let less : c.left.result / 32 < c.args.count = search rules in
    rw (c.place.ensures, left) (digests-short c.args.count c.args.reader.now (omega arith))

pub returns-clause-read : goal.returns-clause-read
returns-clause-read c =
    let left = c.left.ensures.left in
    let enough : c.args.count ≤ c.left.result / 32 = search rules in
    Follows-same (λ digests. digests.now) c.take.result c.args.reader.now c.take.new.self (bytes_at (c.args.count * 32)) (digests_at c.args.count) (digests-whole c.args.count c.args.reader.now (omega arith)) c.take.ensures.read
