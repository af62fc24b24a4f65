use Rattle.std.proofs.Common.{rules, ◌≢◌, ◌<◌, ◌≤◌, length, ◌∙◌, sym, arith}
use Rattle.trie_read.proofs.Bounds.{child-free, child-below, child-same, child-above}
use Rattle.trie_read.proofs.walk.child_bound.Goals as goal

pub returns-then-len-eq0 : goal.returns-then-len-eq0
returns-then-len-eq0 c = child-free c.args.nibble c.args.bound.now (sym c.len.ensures ∙ c.if-len-eq0.true)

pub returns-then-nibble-first : goal.returns-then-nibble-first
returns-then-nibble-first c =
    let some : length c.args.bound.now ≢ 0 = search rules in
    let less : c.args.nibble < c.at-first.result = search rules in
    let value = c.at-first.ensures.value in
    child-below c.args.nibble c.args.bound.now some (omega arith)

pub returns-then-nibble-first-2 : goal.returns-then-nibble-first-2
returns-then-nibble-first-2 c =
    let some : length c.args.bound.now ≢ 0 = search rules in
    let same = c.if-nibble-first-2.true in
    let value = c.at-first.ensures.value in
    (child-same c.args.nibble c.args.bound.now some (omega arith), omega arith)

pub returns-else-nibble-first-2 : goal.returns-else-nibble-first-2
returns-else-nibble-first-2 c =
    let some : length c.args.bound.now ≢ 0 = search rules in
    let most : c.at-first.result ≤ c.args.nibble = search rules in
    let other : c.args.nibble ≢ c.at-first.result = search rules in
    let value = c.at-first.ensures.value in
    child-above c.args.nibble c.args.bound.now some (omega arith)
