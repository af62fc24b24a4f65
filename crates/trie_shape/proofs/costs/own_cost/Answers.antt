use Rattle.std.proofs.Common.{rules, ◌≡◌, ℕ, ◌^◌, ◌-◌, ◌≤◌, min, sym, ap, ◌∙◌}
use Rattle.std.proofs.Math.Nat.{min-eq_left}
use Rattle.byte_model.specs.Node.{own_cost}
use Rattle.node_codec.specs.Children.{children_viewed}
use Rattle.node_codec.specs.Views.{node_viewed}
use Rattle.trie_shape.proofs.costs.own_cost.Goals as goal

-- the cost of a branch ends far below the end of eight bytes
pub returns-in-Branch : goal.returns-in-Branch
returns-in-Branch c =
    let small : c.branch_cost.result ≤ 2 ^ 64 - 1 = search rules in
    let cost : c.branch_cost.result ≡ own_cost (node_viewed c.args.view.now) = rw c.in-Branch.is (c.branch_cost.ensures (children_viewed c.in-Branch.kids)) in
    sym (min-eq_left small) ∙ ap (λ (n : ℕ). min n (2 ^ 64 - 1)) cost
