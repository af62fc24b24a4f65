use Rattle.std.proofs.Common.{ℕ, List, ap, ◌∙◌, subst}
use Rattle.std.specs.Prelude.{nat_eq}
use Rattle.nibble_keys.specs.CommonLength.{IsCommonLength}
use Rattle.trie_read.proofs.Prefixes.{common-prefix}
use Rattle.trie_read.proofs.following.is_prefix.Goals as goal

pub returns-clause-prefix : goal.returns-clause-prefix
returns-clause-prefix c =
    let shared : IsCommonLength c.args.path.now c.args.rest.now c.common.result = subst (λ (p : List ℕ). IsCommonLength p c.args.rest.now c.common.result) c.nibbles.ensures c.common.ensures in
    ap (nat_eq c.common.result) c.len.ensures ∙ common-prefix c.args.path.now c.args.rest.now c.common.result shared
