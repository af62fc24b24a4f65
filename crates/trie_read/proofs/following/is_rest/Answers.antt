use Rattle.std.proofs.Common.{ℕ, List, ap, ◌∙◌, subst}
use Rattle.std.specs.Prelude.{nat_eq}
use Rattle.nibble_keys.specs.CommonLength.{IsCommonLength}
use Rattle.trie_read.proofs.Prefixes.{common-both}
use Rattle.trie_read.proofs.following.is_rest.Goals as goal

pub returns-then-shared-len : goal.returns-then-shared-len
returns-then-shared-len c =
    let shared : IsCommonLength c.args.path.now c.args.rest.now c.common-shared.result = subst (λ (p : List ℕ). IsCommonLength p c.args.rest.now c.common-shared.result) c.nibbles.ensures c.common-shared.ensures in
    ap (nat_eq c.common-shared.result) c.len-then-shared-len.ensures ∙ common-both c.args.path.now c.args.rest.now c.common-shared.result shared (c.if-shared-len.true ∙ c.len.ensures)
