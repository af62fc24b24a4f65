use Rattle.std.proofs.Common.{rules, ◌≡◌, ℕ, ◌*◌, ◌-◌, ◌≤◌, List, length, arith, ap, ◌∙◌}
use Rattle.std.proofs.lemmas.List.{length-drop}
use Rattle.byte_model.specs.Nibbles.{nibbles}
use Rattle.byte_model.proofs.Digits.{length-nibbles}
use Rattle.trie_read.proofs.following.follow.Goals as goal

pub overflow_add-result : goal.overflow_add-result
overflow_add-result c =
    let count : length (nibbles c.args.key.now) ≡ 2 * length c.args.key.now = length-nibbles c.args.key.now in
    let depth = c.requires.depth in
    let short = c.requires.short in
    omega arith

pub overflow_add-result-then-is_prefix : goal.overflow_add-result-then-is_prefix
overflow_add-result-then-is_prefix c =
    let count : length (nibbles c.args.key.now) ≡ 2 * length c.args.key.now = length-nibbles c.args.key.now in
    let depth = c.requires.depth in
    let short = c.requires.short in
    let within : c.len-then-is_prefix.result ≤ length c.rest-rest.result = search rules in
    let left : length c.rest-rest.result ≡ length (nibbles c.args.key.now) - c.args.depth = ap length c.rest-rest.ensures ∙ length-drop c.args.depth c.new.result ∙ ap (λ (l : List ℕ). length l - c.args.depth) c.new.ensures in
    omega arith
