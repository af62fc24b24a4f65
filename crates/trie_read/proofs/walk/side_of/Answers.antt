use Rattle.std.proofs.Common.{rules, ◌≡◌, ◌≢◌, ◌<◌, ◌≤◌, length, ◌∙◌, arith}
use Rattle.trie_read.proofs.Bounds.{side-above, side-within, side-below_at, side-above_at}
use Rattle.trie_read.proofs.walk.side_of.Goals as goal

pub returns-then-shared-len : goal.returns-then-shared-len
returns-then-shared-len c = side-above c.args.prefix.now c.args.bound.now c.common-shared.result c.common-shared.ensures (c.if-shared-len.true ∙ c.len.ensures)

pub returns-then-shared-len-2 : goal.returns-then-shared-len-2
returns-then-shared-len-2 c =
    let all : c.common-shared.result ≡ length c.args.prefix.now = c.if-shared-len-2.true ∙ c.len-else-shared-len.ensures in
    let other : c.common-shared.result ≢ c.len.result = search rules in
    let within = c.common-shared.ensures.in_second in
    let count = c.len.ensures in
    (side-within c.args.prefix.now c.args.bound.now c.common-shared.result c.common-shared.ensures all, omega arith)

pub returns-then-at : goal.returns-then-at
returns-then-at c =
    let other : c.common-shared.result ≢ c.len.result = search rules in
    let others : c.common-shared.result ≢ c.len-else-shared-len.result = search rules in
    let first = c.common-shared.ensures.in_first in
    let second = c.common-shared.ensures.in_second in
    let one = c.len.ensures in
    let two = c.len-else-shared-len.ensures in
    let less : c.at.result < c.at-else-shared-len-2.result = search rules in
    let left = c.at.ensures.value in
    let right = c.at-else-shared-len-2.ensures.value in
    side-below_at c.args.prefix.now c.args.bound.now c.common-shared.result c.common-shared.ensures (omega arith) (omega arith) (omega arith)

pub returns-else-at : goal.returns-else-at
returns-else-at c =
    let other : c.common-shared.result ≢ c.len.result = search rules in
    let others : c.common-shared.result ≢ c.len-else-shared-len.result = search rules in
    let first = c.common-shared.ensures.in_first in
    let second = c.common-shared.ensures.in_second in
    let one = c.len.ensures in
    let two = c.len-else-shared-len.ensures in
    let most : c.at-else-shared-len-2.result ≤ c.at.result = search rules in
    let left = c.at.ensures.value in
    let right = c.at-else-shared-len-2.ensures.value in
    side-above_at c.args.prefix.now c.args.bound.now c.common-shared.result c.common-shared.ensures (omega arith) (omega arith) (omega arith)
