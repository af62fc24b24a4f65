use Rattle.std.proofs.Common.{◌≡◌, ◌+◌, ◌<◌, ◌≤◌, ◌^◌, length, set, arith, ap, sym, subst, ◌∙◌, rules, option_map, refl}
use Rattle.byte_model.specs.PackedPath.{longest_path}
use Rattle.byte_model.specs.Node.{IsShaped, own_cost}
use Rattle.byte_model.specs.Node as node
use Rattle.trie_model.specs.Tree.{tree_of}
use Rattle.node_codec.specs.Meanings.{value_of, children_in}
use Rattle.trie_shape.specs.RowsAt.{rows_at}
use Rattle.trie_shape.proofs.Runs.{run-short}
use Rattle.trie_shape.specs.Shows.{IsBranchOf}
use Rattle.trie_shape.proofs.Branches.{gathered-none, length-rows_at, sound-rows_at, turn-rows, turn-fits, turn-adds, turn-more, IsGathered, end-branch, forks}
use Rattle.trie_shape.proofs.SoundRows.{sound-tree_of, shaped-forks}
use Rattle.trie_shape.proofs.Shows.{may_close, usage-shown, branch-uses}
use Rattle.trie_shape.proofs.Subtrees.{empty-shown, one-shown, shared-prefix, deeper-short, deeper-rows, deeper-apart, deeper-fits, deep-first, several-shown}
use Rattle.std.proofs.lemmas.Result.{IfOk-weaker}
use Rattle.trie_shape.proofs.building.+build.Goals as goal

pub branch-loop-nibble-init : goal.branch-loop-nibble-init
branch-loop-nibble-init t c = gathered-none c.args.depth c.args.rows.now c.ending-value.result.1.now c.in_ok-kids.kids.value c.ending-value.ensures.left c.in_ok-kids.ensures

pub branch-split_at-requires : goal.branch-split_at-requires
branch-split_at-requires t c =
    let short = run-short c.loop-nibble.nibble (rows_at c.args.depth c.loop-nibble.rest.now) in
    let long = length-rows_at c.args.depth c.loop-nibble.rest.now in
    let is = c.run_length.ensures in
    omega arith

pub branch-named-requires : goal.branch-named-requires
branch-named-requires t c =
    let deeper : c.args.depth + 1 ≤ longest_path + 1 = omega arith in (
      search rules,
      (
        turn-rows c.args.depth c.args.rows.now c.loop-nibble.rest.now c.loop-nibble.nibble c.loop-nibble.kids.value c.loop-nibble.kids_usage c.loop-nibble.invariant c.split_at.result.0.now c.split_at.result.1.now c.run_length.result c.run_length.ensures c.split_at.ensures.front c.split_at.ensures.back,
        (
          deeper,
          turn-fits c.args.depth c.args.rows.now c.loop-nibble.rest.now c.loop-nibble.nibble c.loop-nibble.kids.value c.loop-nibble.kids_usage c.loop-nibble.invariant c.split_at.result.0.now c.split_at.result.1.now c.run_length.result c.run_length.ensures c.split_at.ensures.front c.split_at.ensures.back
              c.requires.forks c.loop-nibble-test.true c.requires.fits,
        ),
      ),
    )

pub branch-overflow_add-kids_usage : goal.branch-overflow_add-kids_usage
branch-overflow_add-kids_usage t c = record {
  fits = turn-adds c.args.depth c.args.rows.now c.loop-nibble.rest.now c.loop-nibble.nibble c.loop-nibble.kids.value c.loop-nibble.kids_usage c.loop-nibble.invariant c.split_at.result.0.now c.split_at.result.1.now c.run_length.result c.run_length.ensures c.split_at.ensures.front c.split_at.ensures.back
      c.requires.forks c.loop-nibble-test.true c.requires.fits (c.in_ok-name.name, c.in_ok-name.usage) c.in_ok-name.ensures;
}

pub branch-loop-nibble-preserved : goal.branch-loop-nibble-preserved
branch-loop-nibble-preserved t c =
    let more = turn-more c.args.depth c.args.rows.now c.loop-nibble.rest.now c.loop-nibble.nibble c.loop-nibble.kids.value c.loop-nibble.kids_usage c.loop-nibble.invariant c.split_at.result.0.now c.split_at.result.1.now c.run_length.result c.run_length.ensures c.split_at.ensures.front c.split_at.ensures.back
    c.loop-nibble-test.true (c.in_ok-name.name, c.in_ok-name.usage) c.in_ok-name.ensures in
    let kids = c.set.ensures.value ∙ ap (λ kids. set kids c.loop-nibble.nibble c.in_ok-name.name) c.deref_mut.ensures.value in
    subst (λ kids. IsGathered c.args.depth c.args.rows.now c.split_at.result.1.now (c.loop-nibble.nibble + 1) kids (c.loop-nibble.kids_usage + c.in_ok-name.usage)) (sym kids) more

pub branch-fork_of-requires : goal.branch-fork_of-requires
branch-fork_of-requires t c =
    let done : c.loop-nibble.nibble ≡ 16 = omega arith in
    let rows = rows_at c.args.depth c.args.rows.now in
    let value = option_map value_of c.ending-value.result.0 in
    let kids = children_in c.loop-nibble.kids.value in
    let is = end-branch c.args.depth c.args.rows.now c.loop-nibble.rest.now c.loop-nibble.nibble c.loop-nibble.kids.value c.loop-nibble.kids_usage done c.loop-nibble.invariant c.requires.forks value c.ending-value.ensures.value in
    let shaped = shaped-forks rows (sound-rows_at c.args.depth c.args.rows.now c.requires.rows) value kids c.loop-nibble.kids_usage is in
    let uses = branch-uses rows value kids c.loop-nibble.kids_usage is in
    let whole = c.requires.fits in
    let fits : own_cost (node.branch value kids) + c.loop-nibble.kids_usage < 2 ^ 64 = omega arith in
    record {
      shaped = subst (λ kids. IsShaped (node.branch value (children_in kids))) (sym c.deref.ensures) shaped;
      fits = subst (λ kids. own_cost (node.branch value (children_in kids)) + c.loop-nibble.kids_usage < 2 ^ 64) (sym c.deref.ensures) fits;
    }

pub branch-returns : goal.branch-returns
branch-returns t c =
    let done : c.loop-nibble.nibble ≡ 16 = omega arith in
    let rows = rows_at c.args.depth c.args.rows.now in
    let value = option_map value_of c.ending-value.result.0 in
    let is = end-branch c.args.depth c.args.rows.now c.loop-nibble.rest.now c.loop-nibble.nibble c.loop-nibble.kids.value c.loop-nibble.kids_usage done c.loop-nibble.invariant c.requires.forks value c.ending-value.ensures.value in
    IfOk-weaker c.fork_of.result _ _ (λ sub shows. shows rows (subst (λ kids. IsBranchOf rows value (children_in kids) c.loop-nibble.kids_usage) (sym c.deref.ensures) is)) c.fork_of.ensures

pub named-name_of-requires : goal.named-name_of-requires
named-name_of-requires t c =
    let rows = rows_at c.args.depth c.args.rows.now in
    let shows = c.in_ok-sub.ensures in
    let same = usage-shown c.in_ok-sub.sub (tree_of rows) shows in
    let fits = c.requires.fits in
    record { closes = may_close c.in_ok-sub.sub (tree_of rows) shows (sound-tree_of rows (sound-rows_at c.args.depth c.args.rows.now c.requires.rows)); fits = omega arith }

pub named-returns : goal.named-returns
named-returns t c = IfOk-weaker c.name_of.result _ _ (λ name is. is _ c.in_ok-sub.ensures) c.name_of.ensures

pub subtree-returns-in-empty : goal.subtree-returns-in-empty
subtree-returns-in-empty t c = let none : length c.args.rows.now ≡ 0 = omega arith in empty-shown c.args.depth c.args.rows.now none

pub subtree-returns-in-len1 : goal.subtree-returns-in-len1
subtree-returns-in-len1 t c = let one : length c.args.rows.now ≡ 1 = omega arith in IfOk-weaker c.one.result _ _ (λ sub. one-shown c.args.depth c.args.rows.now _ sub one) c.one.ensures

pub subtree-overflow_add-depth : goal.subtree-overflow_add-depth
subtree-overflow_add-depth t c =
    let two = c.in-len2-up.len_at_least in
    let shared = c.shared_length-shared.ensures ∙ shared-prefix c.args.depth c.args.rows.now _ (omega arith) c.requires.rows in
    let short = deeper-short c.args.depth c.shared_length-shared.result c.args.rows.now c.requires.rows shared (omega arith) in
    record { fits = omega arith }

pub subtree-branch-alloc-requires : goal.subtree-branch-alloc-requires
subtree-branch-alloc-requires t c =
    let two = c.in-len2-up.len_at_least in
    let some : 1 ≤ length c.args.rows.now = omega arith in
    let shared = c.shared_length-shared.ensures ∙ shared-prefix c.args.depth c.args.rows.now _ some c.requires.rows in
    let short = deeper-short c.args.depth c.shared_length-shared.result c.args.rows.now c.requires.rows shared some in (
      search rules,
      (
        deeper-rows c.args.depth c.shared_length-shared.result c.args.rows.now c.requires.rows shared,
        (
          short,
          (
            forks (c.args.depth + c.shared_length-shared.result) c.args.rows.now (deeper-apart c.args.depth c.shared_length-shared.result c.args.rows.now c.requires.rows shared) two,
            deeper-fits c.args.depth c.shared_length-shared.result c.args.rows.now c.requires.rows shared two c.requires.fits,
          ),
        ),
      ),
    )

pub subtree-under_nibbles-requires : goal.subtree-under_nibbles-requires
subtree-under_nibbles-requires t c =
    let two = c.in-len2-up.len_at_least in
    let some : 1 ≤ length c.args.rows.now = omega arith in
    let shared = c.shared_length-shared.ensures ∙ shared-prefix c.args.depth c.args.rows.now _ some c.requires.rows in
    deep-first c.args.depth c.shared_length-shared.result c.args.rows.now c.requires.rows shared _ some

pub subtree-returns-in_ok-fork-in-len2-up : goal.subtree-returns-in_ok-fork-in-len2-up
subtree-returns-in_ok-fork-in-len2-up t c =
    let two = c.in-len2-up.len_at_least in
    let some : 1 ≤ length c.args.rows.now = omega arith in
    let shared = c.shared_length-shared.ensures ∙ shared-prefix c.args.depth c.args.rows.now _ some c.requires.rows in
    IfOk-weaker c.under_nibbles.result _ _ (λ sub grows. several-shown c.args.depth c.shared_length-shared.result c.args.rows.now c.requires.rows shared _ sub _ some refl (grows _ c.in_ok-fork-in-len2-up.ensures)) c.under_nibbles.ensures
