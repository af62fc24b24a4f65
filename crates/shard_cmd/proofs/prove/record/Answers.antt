use Rattle.std.proofs.Common.{[], refl}
use Rattle.trie_model.proofs.Roots.{NoClash-held}
use Rattle.count_model.proofs.Loaded.{holds-touched}
use Rattle.recording_model.proofs.Complete.{holds-agrees}
use Rattle.shard_core.proofs.Batches.{least-clash}
use Rattle.output_model.specs.Ends.{clash_at}
use Rattle.shard_cmd.specs.declared.status.Status.TheVariants.{Clash}
use Rattle.shard_cmd.proofs.Proving.{apart-none, clash-told, fault-told, made-told, memory-told, puts_unless, recorded-is}
use Rattle.shard_cmd.proofs.prove.record.Goals as goal

pub returns-in-Ok : goal.returns-in-Ok
returns-in-Ok g c = λ state held.
    let table = g.N.Texts.store.texts c.args.shard.now.nodes in
    let changes = c.args.ops.batch.changes in
    made-told g.N.Texts.store state c.args.ops c.args.shard.now c.prove.new.store c.args.replies.now.bytes c.put_proof.new.replies.bytes c.args.root.now.0 held c.in-Ok.ensures.within c.in-Ok.ensures.left c.in-Ok.proof c.put_proof.result
    (apart-none state changes (c.in-Ok.ensures.state state held.is (holds-touched table state held.holds [] changes) held.root_is))
    (recorded-is state c.args.root.now c.args.ops table _ c.in-Ok.proof held c.in-Ok.ensures.recording (c.in-Ok.ensures.exact state held.is (NoClash-held table state held.holds) (holds-agrees table state held.holds) held.root_is))
    c.put_proof.ensures

pub returns-in-Err-Clash : goal.returns-in-Err-Clash
returns-in-Err-Clash g c = λ state held.
    let table = g.N.Texts.store.texts c.args.shard.now.nodes in
    let changes = c.args.ops.batch.changes in
    let digest = c.in-Err-Clash.digest in
    clash-told g.N.Texts.store state c.args.ops c.args.shard.now c.prove.new.store c.args.replies.now.bytes c.put_clash.new.replies.bytes c.args.root.now.0 held c.in-Err-Clash.ensures.within (rw c.in-Err-Clash.field-0-is at c.in-Err-Clash.ensures.left) digest.0 c.unless_short.result
    (least-clash state changes digest c.in-Err-Clash.field-0-1 c.in-Err-Clash.field-0-2 (rw c.in-Err-Clash.field-0-is at c.in-Err-Clash.ensures.state state held.is (holds-touched table state held.holds [] changes) held.root_is))
    (puts_unless c.args.replies.now.bytes c.put_clash.new.replies.bytes (clash_at digest.0).bytes Clash c.unless_short.result c.put_clash.result (rw c.in-Err-Clash.field-0-is at c.put_clash.ensures) c.unless_short.ensures.ok c.unless_short.ensures.err)

pub returns-in-Err-Fault : goal.returns-in-Err-Fault
returns-in-Err-Fault g c = λ state held. fault-told g.N.Texts.store state c.args.ops c.args.shard.now c.prove.new.store c.args.replies.now.bytes c.args.replies.now.bytes c.args.root.now.0 held c.in-Err-Fault.ensures.within (rw c.in-Err-Fault.field-0-is at c.in-Err-Fault.ensures.left) refl

pub returns-in-Err-NoMemory : goal.returns-in-Err-NoMemory
returns-in-Err-NoMemory g c = λ state held. memory-told g.N.Texts.store state c.args.ops c.args.shard.now c.prove.new.store c.args.replies.now.bytes c.args.replies.now.bytes c.args.root.now.0 held c.in-Err-NoMemory.ensures.within (rw c.in-Err-NoMemory.field-0-is at c.in-Err-NoMemory.ensures.left)
