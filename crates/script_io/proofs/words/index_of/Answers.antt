use Rattle.std.proofs.Common.{◌==◌, ◌∙◌, ap, sym}
use Rattle.std.specs.Prelude.{position}
use Rattle.script_io.proofs.Cuts.{position-behind, position-none_behind}
use Rattle.script_io.proofs.words.index_of.Goals as goal

pub returns-in-Some-clause-first : goal.returns-in-Some-clause-first
returns-in-Some-clause-first c = sym (position-behind (λ b. b == c.args.byte) c.passed_over-passed.result c.in-Some.more c.args.bytes.now c.passed_over-passed.ensures.none (ap (position (λ b. b == c.args.byte)) (sym c.split_at.ensures.back) ∙ sym c.in-Some.ensures.first)).0

pub returns-in-None-clause-first : goal.returns-in-None-clause-first
returns-in-None-clause-first c = sym (position-none_behind (λ b. b == c.args.byte) c.passed_over-passed.result c.args.bytes.now c.passed_over-passed.ensures.none (ap (position (λ b. b == c.args.byte)) (sym c.split_at.ensures.back) ∙ sym c.in-None.ensures.first))
