use Rattle.std.proofs.Common.{rules, ◌≡◌, ◌≤◌, ◌++◌, List, length, map, ap, ◌∙◌, arith}
use Rattle.std.proofs.lemmas.List.{length-map}
use Rattle.std.specs.FinMap.{entries}
use Rattle.byte_model.specs.Borsh.{borsh_u32}
use Rattle.partial_state.proofs.Written.{Lent, seen, writes-changes, next-key, next-value, next-change, all-changes}
use Rattle.partial_state.proofs.writing.write_changes.Goals as goal

pub loop-row-init : goal.loop-row-init
loop-row-init c =
    let same : map seen c.as_slice-row-items.result.now ≡ entries c.args.changes.now.changes = ap (λ (rows : List Lent). map seen rows) c.as_slice-row-items.ensures.value ∙ c.in_ok-rows.ensures.rows in
    let count : c.len.result ≡ length (map seen c.as_slice-row-items.result.now) = omega (arith, c.len.ensures, c.as_slice-row-items.ensures.len, length-map c.as_slice-row-items.result.now seen) in
    writes-changes (map seen c.as_slice-row-items.result.now) (entries c.args.changes.now.changes) c.args.writer.now c.put_u32.new.self c.in_ok-rows.ensures.held.each same (c.in_ok-put_u32.ensures.ok ∙ ap (λ n. c.args.writer.now ++ borsh_u32 n) count)

pub write_change-requires-clause-key : goal.write_change-requires-clause-key
write_change-requires-clause-key c = next-key _ c.as_slice-row-items.result.now c.loop-row.row-index c.loop-row.writer _ c.loop-row-test.true c.loop-row.invariant

pub write_change-requires-clause-value : goal.write_change-requires-clause-value
write_change-requires-clause-value c = next-value _ c.as_slice-row-items.result.now c.loop-row.row-index c.loop-row.writer _ c.loop-row-test.true c.loop-row.invariant

pub loop-row-preserved : goal.loop-row-preserved
loop-row-preserved c = next-change _ c.as_slice-row-items.result.now c.loop-row.row-index c.loop-row.writer _ c.loop-row-test.true c.loop-row.invariant c.write_change.new.writer c.in_ok-write_change.ensures

pub returns-clause-ok : goal.returns-clause-ok
returns-clause-ok c =
    let over : length c.as_slice-row-items.result.now ≤ c.loop-row.row-index = search rules in
    let ended : length (map seen c.as_slice-row-items.result.now) ≤ c.loop-row.row-index = omega (arith, over, length-map c.as_slice-row-items.result.now seen) in
    all-changes _ (map seen c.as_slice-row-items.result.now) c.loop-row.row-index c.loop-row.writer ended c.loop-row.invariant
