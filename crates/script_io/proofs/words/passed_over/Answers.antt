use Rattle.std.proofs.Common.{ℕ, List, ◌==◌, ◌+◌, ◌≤◌, ◌∙◌, ap, sym, take, length, arith}
use Rattle.std.specs.List.{list_any}
use Rattle.std.proofs.lemmas.List.{length-drop, take_rest}
use Rattle.script_io.proofs.Cuts.{passed-more}
use Rattle.script_io.proofs.words.passed_over.Goals as goal

pub loop-chunk-preserved : goal.loop-chunk-preserved
loop-chunk-preserved c =
    let within : c.loop-chunk.passed + 16 ≤ length c.args.bytes.now = omega (arith, c.in-Some.ensures.cases.2, length-drop c.loop-chunk.passed c.args.bytes.now) in
    record {
      within = within;
      none = passed-more (λ b. b == c.args.byte) c.loop-chunk.passed 16 c.args.bytes.now within (ap (λ (rest : List ℕ). list_any (λ b. b == c.args.byte) (take 16 rest)) (sym (take_rest c.args.bytes.now c.loop-chunk.passed)) ∙ ap (list_any (λ b. b == c.args.byte)) (sym c.in-Some.ensures.cases.0) ∙ sym c.has.ensures ∙ c.if-has.false) c.loop-chunk.invariant.none;
    }
