use Rattle.std.proofs.Common.{[], ◌∷◌, ◌++◌, cond, length, Some, refl, arith, sym, ◌∙◌, ap, subst}
use Rattle.std.specs.Str.{bytes_eq}
use Rattle.trie_model.specs.Root.{zero_digest}
use Rattle.fork_tree.specs.declared.block.Block.{Block}
use Rattle.fork_tree.specs.Kept.{IsKept, placed}
use Rattle.fork_tree.proofs.Kept.{kept-first}
use Rattle.fork_tree.proofs.Linking.{linked-first}
use Rattle.fork_tree.proofs.forks.Forks.new.Goals as goal

pub invariant_of-result : goal.invariant_of-result
invariant_of-result c =
    let head : Block = record { id = record { 0 = zero_digest }; prev = record { 0 = zero_digest }; height = 0; links = record { before = 0; jump = 0; depth = 0 } } in
    let items = c.in_ok-push.ensures.items ∙ ap (λ xs. xs ++ head ∷ []) c.new-live.ensures.items in
    let one = ap length items in
    record {
      kept = subst (λ blocks. IsKept blocks c.insert.new.self.entries) (sym items)
          (kept-first head c.insert.new.self.entries (linked-first head refl)
          (λ q. c.in_ok-insert.ensures.updates.0 (record { 0 = q }) ∙ ap (λ es. cond (bytes_eq zero_digest q) (Some 0) (placed es q)) c.new-places.ensures.empty));
      bounded = omega (arith, one, c.requires);
    }
