use Rattle.std.proofs.Common.{◌≡◌, Err, refl, ap, ap₂, ◌∙◌}
use Rattle.base_core.proofs.PassedOn.{passed_on}
use Rattle.base_core.specs.Faults.{done, refused, short_of_memory, faults_after}
use Rattle.fork_model.specs.Trees.{block_fault}
use Rattle.count_model.specs.BlockEnds.{block_end}
use Rattle.count_model.specs.Loads.{carry_out, loads}
use Rattle.text_store.specs.Leaves.{CountsLoads}
use Rattle.shard_core.specs.Answers.{apply_ended, by_error}
use Rattle.shard_core.specs.Shards.{shard_of}
use Rattle.shard_core.specs.ShardAnswers.{AnswersApply, LeavesApply, header_of}
use Rattle.shard_core.specs.declared.errors.ApplyError.TheVariants.{FullPairs, NoMemory}
use Rattle.shard_core.proofs.Offered.{add-few, add-new, carry-faults, carry-left, carry-loads, carry-refused, over-prev, take-answer, take-faults, take-left, take-loads, take-requires, taken-answer, taken-left, too-many}
use Rattle.shard_core.proofs.accepting.accept.Goals as goal

pub carry_out-requires : goal.carry_out-requires
carry_out-requires g c =
    let over = over-prev g.N.Texts.store g.N.Nodes.count_of c.requires.blocks.0 c.args.tries.now c.args.forks.now c.args.flat.now c.args.limits.now c.requires.blocks.1 (header_of c.args.block) c.requires.faultless in
    (c.requires.blocks.0, over.0, over.1)

pub returns-in_err-carried-clause-answer : goal.returns-in_err-carried-clause-answer
returns-in_err-carried-clause-answer g c = λ blocks is.
    passed_on (λ r. AnswersApply (block_end c.args.limits.now.pairs c.args.limits.now.blocks blocks (header_of c.args.block) c.args.block.changes.changes) r) c.from_residual.result c.in_err-carried.field-0.0 c.from_residual.ensures.1
    (carry-refused g.N.Texts.store g.N.Nodes.count_of g.met.N.Texts.alike_texts g.met.N.Nodes.alike_counts blocks c.args.tries.now c.args.forks.now c.args.flat.now c.args.limits.now is (header_of c.args.block) c.requires.faultless c.args.block.changes.changes c.in_err-carried.ensures.within c.in_err-carried.field-0.0 c.in_err-carried.ensures.answer)

pub returns-in_err-carried-clause-state : goal.returns-in_err-carried-clause-state
returns-in_err-carried-clause-state g c = λ blocks is.
    passed_on (λ r. LeavesApply g.N.Texts.store g.N.Nodes.count_of blocks (header_of c.args.block) c.args.block.changes.changes r (shard_of c.carry_out.new.self c.args.forks.now c.args.flat.now c.args.limits.now)) c.from_residual.result c.in_err-carried.field-0.0 c.from_residual.ensures.1
    (carry-left g.N.Texts.store g.N.Nodes.count_of g.met.N.Texts.alike_texts g.met.N.Nodes.alike_counts blocks c.args.tries.now c.args.forks.now c.args.flat.now c.args.limits.now is (header_of c.args.block) c.requires.faultless c.args.block.changes.changes c.in_err-carried.ensures.within c.carry_out.new.self (by_error c.in_err-carried.field-0.0) c.in_err-carried.ensures.ledgers c.in_err-carried.ensures.left c.args.forks.now c.args.flat.now refl (λ kept. kept) c.in_err-carried.field-0.0)

pub returns-in_err-carried-clause-loads : goal.returns-in_err-carried-clause-loads
returns-in_err-carried-clause-loads g c = λ blocks is.
    passed_on (λ r. CountsLoads (apply_ended r) (g.N.Texts.store.loads c.args.tries.now.nodes) (g.N.Texts.store.loads c.carry_out.new.self.nodes) (loads c.args.limits.now.blocks blocks (carry_out (header_of c.args.block) c.args.block.changes.changes))) c.from_residual.result c.in_err-carried.field-0.0 c.from_residual.ensures.1
    (carry-loads g.N.Texts.store g.N.Nodes.count_of g.met.N.Texts.alike_texts g.met.N.Nodes.alike_counts blocks c.args.tries.now c.args.forks.now c.args.flat.now c.args.limits.now is (header_of c.args.block) c.requires.faultless c.args.block.changes.changes c.in_err-carried.ensures.within c.carry_out.new.self (by_error c.in_err-carried.field-0.0) c.in_err-carried.ensures.ledgers c.in_err-carried.ensures.left)

pub returns-in_err-carried-clause-faults : goal.returns-in_err-carried-clause-faults
returns-in_err-carried-clause-faults g c =
    passed_on (λ r. g.N.Texts.store.faults c.carry_out.new.self.nodes ≡ faults_after (apply_ended r) (g.N.Texts.store.faults c.args.tries.now.nodes)) c.from_residual.result c.in_err-carried.field-0.0 c.from_residual.ensures.1
    (carry-faults g.N.Texts.store g.N.Nodes.count_of g.met.N.Texts.alike_texts g.met.N.Nodes.alike_counts c.requires.blocks.0 c.args.tries.now c.args.forks.now c.args.flat.now c.args.limits.now c.requires.blocks.1 (header_of c.args.block) c.requires.faultless c.args.block.changes.changes c.in_err-carried.ensures.within c.carry_out.new.self (by_error c.in_err-carried.field-0.0) c.in_err-carried.ensures.ledgers c.in_err-carried.ensures.left)

pub returns-then-carried-limits-clause-answer : goal.returns-then-carried-limits-clause-answer
returns-then-carried-limits-clause-answer g c = λ blocks is. too-many g.N.Texts.store g.N.Nodes.count_of g.met.N.Texts.alike_texts g.met.N.Nodes.alike_counts blocks c.args.tries.now c.args.forks.now c.args.flat.now c.args.limits.now is (header_of c.args.block) c.requires.faultless c.args.block.changes.changes c.in_ok-carried.ensures.within c.carry_out.new.self c.in_ok-carried.ensures.ledgers c.in_ok-carried.ensures.left c.in_ok-carried.carried c.in_ok-carried.ensures.answer c.if-carried-limits.true

pub returns-then-carried-limits-clause-state : goal.returns-then-carried-limits-clause-state
returns-then-carried-limits-clause-state g c = λ blocks is. carry-left g.N.Texts.store g.N.Nodes.count_of g.met.N.Texts.alike_texts g.met.N.Nodes.alike_counts blocks c.args.tries.now c.args.forks.now c.args.flat.now c.args.limits.now is (header_of c.args.block) c.requires.faultless c.args.block.changes.changes c.in_ok-carried.ensures.within c.carry_out.new.self done c.in_ok-carried.ensures.ledgers c.in_ok-carried.ensures.left c.args.forks.now c.args.flat.now refl (λ kept. kept) FullPairs

pub returns-then-carried-limits-clause-loads : goal.returns-then-carried-limits-clause-loads
returns-then-carried-limits-clause-loads g c = λ blocks is. take-loads g.N.Texts.store g.N.Nodes.count_of g.met.N.Texts.alike_texts g.met.N.Nodes.alike_counts blocks c.args.tries.now c.args.forks.now c.args.flat.now c.args.limits.now is (header_of c.args.block) c.requires.faultless c.args.block.changes.changes c.in_ok-carried.ensures.within c.carry_out.new.self c.in_ok-carried.ensures.ledgers c.in_ok-carried.ensures.left c.in_ok-carried.carried c.in_ok-carried.ensures.answer refused c.carry_out.new.self.nodes refl

pub returns-then-carried-limits-clause-faults : goal.returns-then-carried-limits-clause-faults
returns-then-carried-limits-clause-faults g c = take-faults g.N.Texts.store g.N.Nodes.count_of g.met.N.Texts.alike_texts g.met.N.Nodes.alike_counts c.requires.blocks.0 c.args.tries.now c.args.forks.now c.args.flat.now c.args.limits.now c.requires.blocks.1 (header_of c.args.block) c.requires.faultless c.args.block.changes.changes c.in_ok-carried.ensures.within c.carry_out.new.self c.in_ok-carried.ensures.ledgers c.in_ok-carried.ensures.left c.in_ok-carried.carried c.in_ok-carried.ensures.answer refused c.carry_out.new.self.nodes refl

pub returns-in_err-reserve-clause-answer : goal.returns-in_err-reserve-clause-answer
returns-in_err-reserve-clause-answer g c = λ blocks is.
    passed_on (λ r. AnswersApply (block_end c.args.limits.now.pairs c.args.limits.now.blocks blocks (header_of c.args.block) c.args.block.changes.changes) r) c.from_residual-in_err-reserve.result NoMemory c.from_residual-in_err-reserve.ensures.1
    (carry-refused g.N.Texts.store g.N.Nodes.count_of g.met.N.Texts.alike_texts g.met.N.Nodes.alike_counts blocks c.args.tries.now c.args.forks.now c.args.flat.now c.args.limits.now is (header_of c.args.block) c.requires.faultless c.args.block.changes.changes c.in_ok-carried.ensures.within NoMemory (λ _ _ _. tt))

pub returns-in_err-reserve-clause-state : goal.returns-in_err-reserve-clause-state
returns-in_err-reserve-clause-state g c = λ blocks is.
    passed_on (λ r. LeavesApply g.N.Texts.store g.N.Nodes.count_of blocks (header_of c.args.block) c.args.block.changes.changes r (shard_of c.carry_out.new.self c.reserve.new.self c.args.flat.now c.args.limits.now)) c.from_residual-in_err-reserve.result NoMemory c.from_residual-in_err-reserve.ensures.1
    (carry-left g.N.Texts.store g.N.Nodes.count_of g.met.N.Texts.alike_texts g.met.N.Nodes.alike_counts blocks c.args.tries.now c.args.forks.now c.args.flat.now c.args.limits.now is (header_of c.args.block) c.requires.faultless c.args.block.changes.changes c.in_ok-carried.ensures.within c.carry_out.new.self done c.in_ok-carried.ensures.ledgers c.in_ok-carried.ensures.left c.reserve.new.self c.args.flat.now c.in_err-reserve.ensures.tree (λ kept. kept) NoMemory)

pub returns-in_err-reserve-clause-loads : goal.returns-in_err-reserve-clause-loads
returns-in_err-reserve-clause-loads g c = λ blocks is.
    passed_on (λ r. CountsLoads (apply_ended r) (g.N.Texts.store.loads c.args.tries.now.nodes) (g.N.Texts.store.loads c.carry_out.new.self.nodes) (loads c.args.limits.now.blocks blocks (carry_out (header_of c.args.block) c.args.block.changes.changes))) c.from_residual-in_err-reserve.result NoMemory c.from_residual-in_err-reserve.ensures.1
    (take-loads g.N.Texts.store g.N.Nodes.count_of g.met.N.Texts.alike_texts g.met.N.Nodes.alike_counts blocks c.args.tries.now c.args.forks.now c.args.flat.now c.args.limits.now is (header_of c.args.block) c.requires.faultless c.args.block.changes.changes c.in_ok-carried.ensures.within c.carry_out.new.self c.in_ok-carried.ensures.ledgers c.in_ok-carried.ensures.left c.in_ok-carried.carried c.in_ok-carried.ensures.answer short_of_memory c.carry_out.new.self.nodes refl)

pub returns-in_err-reserve-clause-faults : goal.returns-in_err-reserve-clause-faults
returns-in_err-reserve-clause-faults g c =
    passed_on (λ r. g.N.Texts.store.faults c.carry_out.new.self.nodes ≡ faults_after (apply_ended r) (g.N.Texts.store.faults c.args.tries.now.nodes)) c.from_residual-in_err-reserve.result NoMemory c.from_residual-in_err-reserve.ensures.1
    (take-faults g.N.Texts.store g.N.Nodes.count_of g.met.N.Texts.alike_texts g.met.N.Nodes.alike_counts c.requires.blocks.0 c.args.tries.now c.args.forks.now c.args.flat.now c.args.limits.now c.requires.blocks.1 (header_of c.args.block) c.requires.faultless c.args.block.changes.changes c.in_ok-carried.ensures.within c.carry_out.new.self c.in_ok-carried.ensures.ledgers c.in_ok-carried.ensures.left c.in_ok-carried.carried c.in_ok-carried.ensures.answer short_of_memory c.carry_out.new.self.nodes refl)

pub returns-in_err-reserve-2-clause-answer : goal.returns-in_err-reserve-2-clause-answer
returns-in_err-reserve-2-clause-answer g c = λ blocks is.
    passed_on (λ r. AnswersApply (block_end c.args.limits.now.pairs c.args.limits.now.blocks blocks (header_of c.args.block) c.args.block.changes.changes) r) c.from_residual-in_err-reserve-2.result NoMemory c.from_residual-in_err-reserve-2.ensures.1
    (carry-refused g.N.Texts.store g.N.Nodes.count_of g.met.N.Texts.alike_texts g.met.N.Nodes.alike_counts blocks c.args.tries.now c.args.forks.now c.args.flat.now c.args.limits.now is (header_of c.args.block) c.requires.faultless c.args.block.changes.changes c.in_ok-carried.ensures.within NoMemory (λ _ _ _. tt))

pub returns-in_err-reserve-2-clause-state : goal.returns-in_err-reserve-2-clause-state
returns-in_err-reserve-2-clause-state g c = λ blocks is.
    passed_on (λ r. LeavesApply g.N.Texts.store g.N.Nodes.count_of blocks (header_of c.args.block) c.args.block.changes.changes r (shard_of c.carry_out.new.self c.reserve.new.self c.reserve-2.new.self c.args.limits.now)) c.from_residual-in_err-reserve-2.result NoMemory c.from_residual-in_err-reserve-2.ensures.1
    (carry-left g.N.Texts.store g.N.Nodes.count_of g.met.N.Texts.alike_texts g.met.N.Nodes.alike_counts blocks c.args.tries.now c.args.forks.now c.args.flat.now c.args.limits.now is (header_of c.args.block) c.requires.faultless c.args.block.changes.changes c.in_ok-carried.ensures.within c.carry_out.new.self done c.in_ok-carried.ensures.ledgers c.in_ok-carried.ensures.left c.reserve.new.self c.reserve-2.new.self c.in_ok-reserve.ensures.tree (c.in_err-reserve-2.ensures.state blocks) NoMemory)

pub returns-in_err-reserve-2-clause-loads : goal.returns-in_err-reserve-2-clause-loads
returns-in_err-reserve-2-clause-loads g c = λ blocks is.
    passed_on (λ r. CountsLoads (apply_ended r) (g.N.Texts.store.loads c.args.tries.now.nodes) (g.N.Texts.store.loads c.carry_out.new.self.nodes) (loads c.args.limits.now.blocks blocks (carry_out (header_of c.args.block) c.args.block.changes.changes))) c.from_residual-in_err-reserve-2.result NoMemory c.from_residual-in_err-reserve-2.ensures.1
    (take-loads g.N.Texts.store g.N.Nodes.count_of g.met.N.Texts.alike_texts g.met.N.Nodes.alike_counts blocks c.args.tries.now c.args.forks.now c.args.flat.now c.args.limits.now is (header_of c.args.block) c.requires.faultless c.args.block.changes.changes c.in_ok-carried.ensures.within c.carry_out.new.self c.in_ok-carried.ensures.ledgers c.in_ok-carried.ensures.left c.in_ok-carried.carried c.in_ok-carried.ensures.answer short_of_memory c.carry_out.new.self.nodes refl)

pub returns-in_err-reserve-2-clause-faults : goal.returns-in_err-reserve-2-clause-faults
returns-in_err-reserve-2-clause-faults g c =
    passed_on (λ r. g.N.Texts.store.faults c.carry_out.new.self.nodes ≡ faults_after (apply_ended r) (g.N.Texts.store.faults c.args.tries.now.nodes)) c.from_residual-in_err-reserve-2.result NoMemory c.from_residual-in_err-reserve-2.ensures.1
    (take-faults g.N.Texts.store g.N.Nodes.count_of g.met.N.Texts.alike_texts g.met.N.Nodes.alike_counts c.requires.blocks.0 c.args.tries.now c.args.forks.now c.args.flat.now c.args.limits.now c.requires.blocks.1 (header_of c.args.block) c.requires.faultless c.args.block.changes.changes c.in_ok-carried.ensures.within c.carry_out.new.self c.in_ok-carried.ensures.ledgers c.in_ok-carried.ensures.left c.in_ok-carried.carried c.in_ok-carried.ensures.answer short_of_memory c.carry_out.new.self.nodes refl)

pub take_in-requires : goal.take_in-requires
take_in-requires g c = take-requires g.N.Texts.store g.N.Nodes.count_of g.met.N.Texts.alike_texts g.met.N.Nodes.alike_counts c.requires.blocks.0 c.args.tries.now c.args.forks.now c.args.flat.now c.args.limits.now c.requires.blocks.1 (header_of c.args.block) c.requires.faultless c.args.block.changes.changes c.in_ok-carried.ensures.within c.carry_out.new.self c.in_ok-carried.ensures.ledgers c.in_ok-carried.ensures.left c.in_ok-carried.carried c.in_ok-carried.ensures.answer c.requires.limits c.if-carried-limits.false

pub returns-in_err-root-clause-answer : goal.returns-in_err-root-clause-answer
returns-in_err-root-clause-answer g c = λ blocks is.
    passed_on (λ r. AnswersApply (block_end c.args.limits.now.pairs c.args.limits.now.blocks blocks (header_of c.args.block) c.args.block.changes.changes) r) c.from_residual-in_err-root.result c.in_err-root.field-0.0 c.from_residual-in_err-root.ensures.1
    (take-answer g.N.Texts.store g.N.Nodes.count_of g.met.N.Texts.alike_texts g.met.N.Nodes.alike_counts blocks c.args.tries.now c.args.forks.now c.args.flat.now c.args.limits.now is (header_of c.args.block) c.requires.faultless c.args.block.changes.changes c.in_ok-carried.ensures.within c.carry_out.new.self c.in_ok-carried.ensures.ledgers c.in_ok-carried.ensures.left c.in_ok-carried.carried c.in_ok-carried.ensures.answer c.requires.limits c.if-carried-limits.false c.take_in.new.self c.in_err-root.field-0.0 c.in_err-root.ensures.answer)

pub returns-in_err-root-clause-state : goal.returns-in_err-root-clause-state
returns-in_err-root-clause-state g c = λ blocks is.
    passed_on (λ r. LeavesApply g.N.Texts.store g.N.Nodes.count_of blocks (header_of c.args.block) c.args.block.changes.changes r (shard_of c.take_in.new.self c.reserve.new.self c.reserve-2.new.self c.args.limits.now)) c.from_residual-in_err-root.result c.in_err-root.field-0.0 c.from_residual-in_err-root.ensures.1
    (take-left g.N.Texts.store g.N.Nodes.count_of g.met.N.Texts.alike_texts g.met.N.Nodes.alike_counts blocks c.args.tries.now c.args.forks.now c.args.flat.now c.args.limits.now is (header_of c.args.block) c.requires.faultless c.args.block.changes.changes c.in_ok-carried.ensures.within c.carry_out.new.self c.in_ok-carried.ensures.ledgers c.in_ok-carried.ensures.left c.in_ok-carried.carried c.in_ok-carried.ensures.answer c.requires.limits c.if-carried-limits.false c.take_in.new.self c.in_err-root.field-0.0 c.in_err-root.ensures.answer (λ short forks of. c.in_err-root.ensures.memory forks of (ap Err short)) c.in_err-root.ensures.amid c.reserve.new.self c.reserve-2.new.self c.in_ok-reserve.ensures.tree (c.in_ok-reserve-2.ensures.state blocks))

pub returns-in_err-root-clause-loads : goal.returns-in_err-root-clause-loads
returns-in_err-root-clause-loads g c = λ blocks is.
    passed_on (λ r. CountsLoads (apply_ended r) (g.N.Texts.store.loads c.args.tries.now.nodes) (g.N.Texts.store.loads c.take_in.new.self.nodes) (loads c.args.limits.now.blocks blocks (carry_out (header_of c.args.block) c.args.block.changes.changes))) c.from_residual-in_err-root.result c.in_err-root.field-0.0 c.from_residual-in_err-root.ensures.1
    (take-loads g.N.Texts.store g.N.Nodes.count_of g.met.N.Texts.alike_texts g.met.N.Nodes.alike_counts blocks c.args.tries.now c.args.forks.now c.args.flat.now c.args.limits.now is (header_of c.args.block) c.requires.faultless c.args.block.changes.changes c.in_ok-carried.ensures.within c.carry_out.new.self c.in_ok-carried.ensures.ledgers c.in_ok-carried.ensures.left c.in_ok-carried.carried c.in_ok-carried.ensures.answer (by_error c.in_err-root.field-0.0) c.take_in.new.self.nodes c.in_err-root.ensures.loads)

pub returns-in_err-root-clause-faults : goal.returns-in_err-root-clause-faults
returns-in_err-root-clause-faults g c =
    passed_on (λ r. g.N.Texts.store.faults c.take_in.new.self.nodes ≡ faults_after (apply_ended r) (g.N.Texts.store.faults c.args.tries.now.nodes)) c.from_residual-in_err-root.result c.in_err-root.field-0.0 c.from_residual-in_err-root.ensures.1
    (take-faults g.N.Texts.store g.N.Nodes.count_of g.met.N.Texts.alike_texts g.met.N.Nodes.alike_counts c.requires.blocks.0 c.args.tries.now c.args.forks.now c.args.flat.now c.args.limits.now c.requires.blocks.1 (header_of c.args.block) c.requires.faultless c.args.block.changes.changes c.in_ok-carried.ensures.within c.carry_out.new.self c.in_ok-carried.ensures.ledgers c.in_ok-carried.ensures.left c.in_ok-carried.carried c.in_ok-carried.ensures.answer (by_error c.in_err-root.field-0.0) c.take_in.new.self.nodes c.in_err-root.ensures.counted)

pub add-requires-clause-accepted : goal.add-requires-clause-accepted
add-requires-clause-accepted g c = ap₂ (λ most tree. block_fault most tree (header_of c.args.block)) (c.in_ok-reserve.ensures.most ∙ c.requires.most) c.in_ok-reserve.ensures.tree ∙ c.requires.faultless

pub add-requires-2-clause-few : goal.add-requires-2-clause-few
add-requires-2-clause-few g c = add-few g.N.Texts.store g.N.Nodes.count_of c.requires.blocks.0 c.args.tries.now c.args.forks.now c.args.flat.now c.args.limits.now c.requires.blocks.1 (header_of c.args.block) c.requires.faultless c.reserve-2.new.self c.in_ok-reserve-2.ensures.deltas c.requires.limits

pub add-requires-2-clause-new : goal.add-requires-2-clause-new
add-requires-2-clause-new g c = add-new g.N.Texts.store g.N.Nodes.count_of c.requires.blocks.0 c.args.tries.now c.args.forks.now c.args.flat.now c.args.limits.now c.requires.blocks.1 (header_of c.args.block) c.requires.faultless c.reserve-2.new.self c.in_ok-reserve-2.ensures.deltas

pub returns-clause-answer : goal.returns-clause-answer
returns-clause-answer g c = λ blocks is. taken-answer g.N.Texts.store g.N.Nodes.count_of g.met.N.Texts.alike_texts g.met.N.Nodes.alike_counts blocks c.args.tries.now c.args.forks.now c.args.flat.now c.args.limits.now is (header_of c.args.block) c.requires.faultless c.args.block.changes.changes c.in_ok-carried.ensures.within c.carry_out.new.self c.in_ok-carried.ensures.ledgers c.in_ok-carried.ensures.left c.in_ok-carried.carried c.in_ok-carried.ensures.answer c.requires.limits c.if-carried-limits.false c.take_in.new.self c.in_ok-root.root c.in_ok-root.ensures.answer c.in_ok-root.ensures.root

pub returns-clause-state : goal.returns-clause-state
returns-clause-state g c = λ blocks is. taken-left g.N.Texts.store g.N.Nodes.count_of g.met.N.Texts.alike_texts g.met.N.Nodes.alike_counts blocks c.args.tries.now c.args.forks.now c.args.flat.now c.args.limits.now is (header_of c.args.block) c.requires.faultless c.args.block.changes.changes c.in_ok-carried.ensures.within c.carry_out.new.self c.in_ok-carried.ensures.ledgers c.in_ok-carried.ensures.left c.in_ok-carried.carried c.in_ok-carried.ensures.answer c.requires.limits c.if-carried-limits.false c.take_in.new.self c.in_ok-root.ensures.ok c.reserve.new.self c.add.new.self c.reserve-2.new.self c.add-2.new.self c.in_ok-reserve.ensures.tree (c.in_ok-reserve-2.ensures.state blocks) c.add.ensures.tree c.add-2.ensures.state

pub returns-clause-most : goal.returns-clause-most
returns-clause-most g c = c.add.ensures.most ∙ c.in_ok-reserve.ensures.most

pub returns-clause-loads : goal.returns-clause-loads
returns-clause-loads g c = λ blocks is. take-loads g.N.Texts.store g.N.Nodes.count_of g.met.N.Texts.alike_texts g.met.N.Nodes.alike_counts blocks c.args.tries.now c.args.forks.now c.args.flat.now c.args.limits.now is (header_of c.args.block) c.requires.faultless c.args.block.changes.changes c.in_ok-carried.ensures.within c.carry_out.new.self c.in_ok-carried.ensures.ledgers c.in_ok-carried.ensures.left c.in_ok-carried.carried c.in_ok-carried.ensures.answer done c.take_in.new.self.nodes c.in_ok-root.ensures.loads

pub returns-clause-faults : goal.returns-clause-faults
returns-clause-faults g c = take-faults g.N.Texts.store g.N.Nodes.count_of g.met.N.Texts.alike_texts g.met.N.Nodes.alike_counts c.requires.blocks.0 c.args.tries.now c.args.forks.now c.args.flat.now c.args.limits.now c.requires.blocks.1 (header_of c.args.block) c.requires.faultless c.args.block.changes.changes c.in_ok-carried.ensures.within c.carry_out.new.self c.in_ok-carried.ensures.ledgers c.in_ok-carried.ensures.left c.in_ok-carried.carried c.in_ok-carried.ensures.answer done c.take_in.new.self.nodes c.in_ok-root.ensures.counted
