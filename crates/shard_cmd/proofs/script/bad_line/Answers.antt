use Rattle.std.proofs.Common.{ℕ, List, [], ◌∷◌, ◌++◌, ◌≡◌, ◌∙◌, ap, append_assoc, inl, refl}
use Rattle.std.specs.Prelude.{codes}
use Rattle.std.specs.Fmt.{decimal}
use Rattle.script_model.specs.Lines.{line_feed}
use Rattle.output_model.specs.Ends.{syntax_at}
use Rattle.shard_cmd.proofs.script.bad_line.Goals as goal

parts : (old : List ℕ) (number : ℕ) → (old ++ codes "syntax " ++ decimal number ++ line_feed ∷ []) ≡ old ++ (syntax_at number).bytes
parts old number = ap (λ (l : List ℕ). l ++ line_feed ∷ []) (append_assoc old (codes "syntax ") (decimal number)) ∙ append_assoc old (codes "syntax " ++ decimal number) (line_feed ∷ [])

pub returns-in-Ok : goal.returns-in-Ok
returns-in-Ok c = inl (refl, c.in-Ok.ensures ∙ parts c.args.replies.now.bytes c.args.number)
