use Rattle.std.proofs.Common.{◌≡◌, take, drop, slice_index_or, sym, ap, ◌∙◌, arith}
use Rattle.byte_model.specs.Nibbles.{nibbles}
use Rattle.update_model.specs.Tops.{lowered}
use Rattle.trie_update.specs.Subs.{top_of_sub}
use Rattle.trie_update.proofs.Lowering.{lowered-nil}
use Rattle.trie_update.proofs.updating.lower.Goals as goal

pub returns-then-count-eq0-clause-top : goal.returns-then-count-eq0-clause-top
returns-then-count-eq0-clause-top c =
    let none : c.args.count ≡ 0 = omega arith in
    λ d. sym (ap (λ n. lowered (take n (drop c.args.depth (nibbles (slice_index_or c.args.changes.now 0 d).0.now))) (top_of_sub c.args.placed.sub)) none ∙ lowered-nil (top_of_sub c.args.placed.sub))
