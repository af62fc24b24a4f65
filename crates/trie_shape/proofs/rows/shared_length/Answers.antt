use Rattle.std.proofs.Common.{ℕ, List, ap, sym, ◌∙◌, length, drop}
use Rattle.byte_model.specs.Nibbles.{nibbles}
use Rattle.trie_model.specs.Tree.{common}
use Rattle.trie_shape.proofs.Prefixes.{length-common}
use Rattle.trie_shape.proofs.rows.shared_length.Goals as goal

pub returns : goal.returns
returns c =
    let first = c.rest-path.ensures ∙ ap (drop c.args.depth) c.new.ensures in
    let last = c.rest.ensures ∙ ap (drop c.args.depth) c.new-2.ensures in
    sym (ap (λ (p : List ℕ). length (common p (drop c.args.depth (nibbles c.args.last.now)))) (sym first) ∙ ap (λ (q : List ℕ). length (common c.rest-path.result q)) (sym last)
    ∙ length-common _ _ c.common.result c.common.ensures.in_first c.common.ensures.in_second c.common.ensures.shared c.common.ensures.longest)
