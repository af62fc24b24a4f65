use Rattle.std.proofs.Common.{ℕ, List, [], ◌∷◌, ◌++◌, ◌≡◌, ap, ◌∙◌}
use Rattle.std.specs.Prelude.{codes}
use Rattle.std.specs.Option.{unwrap_or}
use Rattle.hex.specs.Hex.{encode_lower}
use Rattle.script_model.specs.Lines.{line_feed}
use Rattle.shard_cmd.proofs.Answered.{appended}
use Rattle.shard_cmd.proofs.Histories.{line_put}
use Rattle.shard_cmd.proofs.reply_lines.put_not_moved.Goals as goal

pub returns : goal.returns
returns c =
    let old : List ℕ = c.args.replies.now.bytes in
    let digits : List ℕ = encode_lower c.args.id.now.0 in
    let first : c.put.new.sink.bytes ≡ old ++ codes "head " = ap (λ o. unwrap_or o []) c.in_ok-put.ensures.written in
    line_put old (codes "head ") digits (codes " refused not-live") (line_feed ∷ []) c.put_digits.new.replies.bytes c.put-2.new.sink.bytes c.put-2.result
    (c.in_ok-put_digits.ensures ∙ ap (λ (l : List ℕ). l ++ digits) first)
    (appended c.put_digits.new.replies.bytes c.put-2.new.sink.bytes (codes " refused not-live" ++ line_feed ∷ []) c.put-2.result c.put-2.ensures.written)
