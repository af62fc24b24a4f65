use Rattle.std.proofs.Common.{◌≡◌, length, rules, ◌∙◌}
use Rattle.std.specs.Option.{is_some}
use Rattle.std.specs.List.{count_by}
use Rattle.node_codec.proofs.Children.{count_by-kids}
use Rattle.node_codec.proofs.kids.Kids.count.Goals as goal

pub returns-clause-value : goal.returns-clause-value
returns-clause-value c =
    let counted : c.count.result ≡ count_by is_some c.args.self.now = search rules in
    let sixteen : length c.args.self.now ≡ 16 = search rules in
    counted ∙ count_by-kids c.args.self.now sixteen
