use Rattle.std.proofs.Common.{rules, ◌≡◌, ◌≤◌, ◌<◌, ◌+◌, ℕ, option_map, List, Ok, Err, refl, ap, sym, subst, ◌∙◌, arith, [], length, false, Result, ◌-◌}
use Rattle.std.specs.Prelude.{IsErrAnd, true}
use Rattle.change_model.specs.Visits.{visits_below, before, closed, visits_at, merge_visits, merge_usage}
use Rattle.node_codec.specs.Meanings.{value_of, children_in}
use Rattle.update_model.specs.Updates.{ref_after, laid, updated, Outcome, fork_outcome, merged_kids, merged_lost}
use Rattle.trie_update.specs.declared.joining.Left.{Left}
use Rattle.trie_update.specs.declared.joining.Child.{Child}
use Rattle.trie_update.specs.declared.errors.UpdateError.TheVariants.{NoMemory, Usage}
use Rattle.trie_update.specs.ChangesAt.{changes_at}
use Rattle.trie_update.specs.Places.{FitsFormer, parent_names, place_behind, place_visits, old_past, seen_past, top_visits, top_stated, TopKeeps}
use Rattle.trie_update.specs.Placed.{run_at, branch_inside}
use Rattle.trie_update.proofs.Carrying.{carries-passed, opens-changed, visit-stopped, carries-none, carries-ok, carries-stopped, carries-then, carries-less, carries-closed, carries-end, carries-late}
use Rattle.trie_update.proofs.Turning.{IsGathered, run-short, end-carries, end-parted, gathered-none, turn-changes, turn-fewer, turn-more, turn-room, turn-short, turn-stopped}
use Rattle.trie_update.specs.Carries.{Carries}
use Rattle.trie_update.proofs.PlaceFacts.{untouched-visits}
use Rattle.trie_update.proofs.FormerCalls.{child-untouched, empty-changes, some-changes, known-touched, named-touched, known-keeps, named-keeps, carries-placed, child-placed}
use Rattle.visit_model.specs.Seen.{seen_at, stated_usage, Seen, seen_child}
use Rattle.trie_update.specs.declared.updating.Placed.{Placed}
use Rattle.std.proofs.lemmas.Result.{IfOk-weaker}
use Rattle.batch_model.specs.Changes.{Change, most_changes}
use Rattle.trie_update.proofs.PathCalls.{if_ok-both, laid-fork, led-keeps, led-none, led-outcome, led-some, led-stated, led-visits, path-fits, path-keeps, path-placed, path-visits, reaches-begin, some-lent}
use Rattle.trie_update.proofs.Alone.{ends-carries, ends-keeps, ends-past, ends-placed}
use Rattle.trie_update.proofs.Below.{below-changes_at}
use Rattle.trie_update.proofs.ForkCalls.{former-past, places-visits, fork-end-can, fork-end-placed, fork-end-keeps}
use Rattle.byte_model.specs.PackedPath.{longest_path}
use Rattle.update_model.specs.Joins.{joint}
use Rattle.trie_shape.specs.declared.sub.Sub.{Sub}
use Rattle.trie_update.specs.declared.errors.UpdateError.{UpdateError}
use Rattle.trie_update.specs.Adds.{Adds}
use Rattle.trie_update.specs.Merges.{CanSettle, MergedStands, lone_named, seen_kids}
use Rattle.trie_update.specs.Subs.{kid_at, top_of_sub}
use Rattle.trie_update.proofs.BranchCalls.{branch-carries, branch-keeps, branch-placed, branch-places, branch-settles, branch-stopped, small-mapped}
use Rattle.trie_update.proofs.Digests.{copy-old, extension-old, leaf-old, lose-named, lose-room, old-carries, old-keeps, old-placed, opened-short, opens-first, value-small, visited-carries, visited-children, visited-keeps, visited-placed}
use Rattle.trie_update.proofs.Formers.{record-read}
use Rattle.trie_update.proofs.SeenVisits.{SeesBranch, sees-visited}
use Rattle.trie_update.proofs.updating.+update.Goals as goal
use Rattle.trie_update.proofs.ChangesAt.{changes-some, lent-deep, length-changes_at}

pub at_branch-returns-in_err-left-clause-carries : goal.at_branch-returns-in_err-left-clause-carries
at_branch-returns-in_err-left-clause-carries g t c = λ children are.
    let store = g.T.Texts.store in
    let old = c.args.store.now in
    let table = store.texts old in
    let mid = c.at_nibbles.new.store in
    let changes = c.args.changes.now in
    let cs = changes_at c.args.depth changes in
    let ref = option_map value_of c.args.former.now.value.now in
    let names = children_in c.args.former.now.kids.now in
    let below_it = below-changes_at c.args.depth changes c.requires.changes in
    let more = changes-some c.args.depth changes c.requires.some in
    carries-passed store {X = Placed} {Y = Placed} old mid (branch_inside c.args.former.now.digest.now.0 c.args.former.now.stated ref children cs) c.in_err-left.field-0.0 c.from_residual.result c.from_residual.ensures.1
    (branch-stopped table c.args.depth ref names children are cs below_it more _ (branch-places table c.args.depth _) {X = Left × ℕ} {Y = Placed} store old mid c.args.former.now.digest.now.0 c.args.former.now.stated c.in_err-left.field-0.0 c.in_err-left.ensures.carries)

pub at_branch-settle-requires-clause-joins : goal.at_branch-settle-requires-clause-joins
at_branch-settle-requires-clause-joins g t c =
    let store = g.T.Texts.store in
    let old = c.args.store.now in
    let table = store.texts old in
    let mid = c.at_nibbles.new.store in
    let changes = c.args.changes.now in
    let cs = changes_at c.args.depth changes in
    let ref = option_map value_of c.args.former.now.value.now in
    let names = children_in c.args.former.now.kids.now in
    let below_it = below-changes_at c.args.depth changes c.requires.changes in
    let more = changes-some c.args.depth changes c.requires.some in
    let long = length-changes_at c.args.depth changes in
    let few : length cs ≤ most_changes = (let f = c.requires.few in omega arith) in
    let short = small-mapped c.args.former.now.value.now c.requires.former.small in
    let left = c.in_ok-left.left in
    let told = c.in_ok-left.below in
    let value = option_map value_of left.value in
    let kids = kid_at names left.children.items in
    let above = c.saturating_add-above.result in
    let texts = g.met.T.Texts.alike_texts old mid c.in_ok-left.ensures.carries.left.same in
    let children : ℕ → Seen = λ x. seen_child (seen_at table (c.args.depth + 1) false) (names x) in
    subst (λ tb. CanSettle tb (c.args.depth + 1) value kids c.args.former.now.stated above) texts (branch-settles table c.args.depth ref names children (λ x small. refl) cs below_it more _ (branch-places table c.args.depth _) c.args.ledger.now c.at_nibbles.new.ledger left told c.in_ok-left.ensures.parted c.args.former.now.own above c.args.former.now.stated c.requires.former.own c.saturating_add-above.ensures c.requires.former.most short few)

pub at_branch-returns-in_err-sub-clause-carries : goal.at_branch-returns-in_err-sub-clause-carries
at_branch-returns-in_err-sub-clause-carries g t c = λ children are.
    let store = g.T.Texts.store in
    let old = c.args.store.now in
    let table = store.texts old in
    let mid = c.at_nibbles.new.store in
    let changes = c.args.changes.now in
    let cs = changes_at c.args.depth changes in
    let ref = option_map value_of c.args.former.now.value.now in
    let names = children_in c.args.former.now.kids.now in
    let below_it = below-changes_at c.args.depth changes c.requires.changes in
    let more = changes-some c.args.depth changes c.requires.some in
    let long = length-changes_at c.args.depth changes in
    let few : length cs ≤ most_changes = (let f = c.requires.few in omega arith) in
    let short = small-mapped c.args.former.now.value.now c.requires.former.small in
    let left = c.in_ok-left.left in
    let told = c.in_ok-left.below in
    let value = option_map value_of left.value in
    let kids = kid_at names left.children.items in
    let above = c.saturating_add-above.result in
    let texts = g.met.T.Texts.alike_texts old mid c.in_ok-left.ensures.carries.left.same in
    let new = c.settle.new.store in
    let settled = λ (result : Result Sub UpdateError) (h : Carries {X = Sub} store mid new (before (merge_visits (seen_kids (store.texts mid) (c.args.depth + 1) kids) (lone_named value kids)) (closed c.args.former.now.digest.now.0 c.args.former.now.stated (above + merge_usage (seen_kids (store.texts mid) (c.args.depth + 1) kids) (lone_named value kids)))) result).
    subst (λ tb. Carries {X = Sub} store mid new (before (merge_visits (seen_kids tb (c.args.depth + 1) kids) (lone_named value kids)) (closed c.args.former.now.digest.now.0 c.args.former.now.stated (above + merge_usage (seen_kids tb (c.args.depth + 1) kids) (lone_named value kids)))) result) (sym texts) h in
    carries-passed store {X = Sub} {Y = Placed} old new (branch_inside c.args.former.now.digest.now.0 c.args.former.now.stated ref children cs) c.in_err-sub.field-0.0 c.from_residual-in_err-sub.result c.from_residual-in_err-sub.ensures.1
    (branch-carries table c.args.depth ref names children are cs below_it more _ (branch-places table c.args.depth _) c.args.ledger.now c.at_nibbles.new.ledger left told c.in_ok-left.ensures.parted c.args.former.now.own above c.args.former.now.stated c.requires.former.own c.saturating_add-above.ensures c.requires.former.most short few {Y = Sub} store g.met.T.Texts.alike_onward old mid new c.args.former.now.digest.now.0 (Err c.in_err-sub.field-0.0) c.in_ok-left.ensures.carries (settled (Err c.in_err-sub.field-0.0) c.in_err-sub.ensures.carries))

pub at_branch-returns-clause-carries : goal.at_branch-returns-clause-carries
at_branch-returns-clause-carries g t c = λ children are.
    let store = g.T.Texts.store in
    let old = c.args.store.now in
    let table = store.texts old in
    let mid = c.at_nibbles.new.store in
    let changes = c.args.changes.now in
    let cs = changes_at c.args.depth changes in
    let ref = option_map value_of c.args.former.now.value.now in
    let names = children_in c.args.former.now.kids.now in
    let below_it = below-changes_at c.args.depth changes c.requires.changes in
    let more = changes-some c.args.depth changes c.requires.some in
    let long = length-changes_at c.args.depth changes in
    let few : length cs ≤ most_changes = (let f = c.requires.few in omega arith) in
    let short = small-mapped c.args.former.now.value.now c.requires.former.small in
    let left = c.in_ok-left.left in
    let told = c.in_ok-left.below in
    let value = option_map value_of left.value in
    let kids = kid_at names left.children.items in
    let above = c.saturating_add-above.result in
    let texts = g.met.T.Texts.alike_texts old mid c.in_ok-left.ensures.carries.left.same in
    let new = c.settle.new.store in
    let settled = λ (result : Result Sub UpdateError) (h : Carries {X = Sub} store mid new (before (merge_visits (seen_kids (store.texts mid) (c.args.depth + 1) kids) (lone_named value kids)) (closed c.args.former.now.digest.now.0 c.args.former.now.stated (above + merge_usage (seen_kids (store.texts mid) (c.args.depth + 1) kids) (lone_named value kids)))) result).
    subst (λ tb. Carries {X = Sub} store mid new (before (merge_visits (seen_kids tb (c.args.depth + 1) kids) (lone_named value kids)) (closed c.args.former.now.digest.now.0 c.args.former.now.stated (above + merge_usage (seen_kids tb (c.args.depth + 1) kids) (lone_named value kids)))) result) (sym texts) h in
    let whole = branch-carries table c.args.depth ref names children are cs below_it more _ (branch-places table c.args.depth _) c.args.ledger.now c.at_nibbles.new.ledger left told c.in_ok-left.ensures.parted c.args.former.now.own above c.args.former.now.stated c.requires.former.own c.saturating_add-above.ensures c.requires.former.most short few {Y = Sub} store g.met.T.Texts.alike_onward old mid new c.args.former.now.digest.now.0 (Ok c.in_ok-sub.sub) c.in_ok-left.ensures.carries (settled (Ok c.in_ok-sub.sub) c.in_ok-sub.ensures.carries) in
    carries-ok store {X = Sub} {Y = Placed} old new (branch_inside c.args.former.now.digest.now.0 c.args.former.now.stated ref children cs) c.in_ok-sub.sub _ whole

pub at_branch-returns-clause-placed : goal.at_branch-returns-clause-placed
at_branch-returns-clause-placed g t c = λ children are.
    let store = g.T.Texts.store in
    let old = c.args.store.now in
    let table = store.texts old in
    let mid = c.at_nibbles.new.store in
    let changes = c.args.changes.now in
    let cs = changes_at c.args.depth changes in
    let ref = option_map value_of c.args.former.now.value.now in
    let names = children_in c.args.former.now.kids.now in
    let below_it = below-changes_at c.args.depth changes c.requires.changes in
    let more = changes-some c.args.depth changes c.requires.some in
    let long = length-changes_at c.args.depth changes in
    let few : length cs ≤ most_changes = (let f = c.requires.few in omega arith) in
    let short = small-mapped c.args.former.now.value.now c.requires.former.small in
    let left = c.in_ok-left.left in
    let told = c.in_ok-left.below in
    let value = option_map value_of left.value in
    let kids = kid_at names left.children.items in
    let above = c.saturating_add-above.result in
    let texts = g.met.T.Texts.alike_texts old mid c.in_ok-left.ensures.carries.left.same in
    let new = c.settle.new.store in
    let settled = λ (result : Result Sub UpdateError) (h : Carries {X = Sub} store mid new (before (merge_visits (seen_kids (store.texts mid) (c.args.depth + 1) kids) (lone_named value kids)) (closed c.args.former.now.digest.now.0 c.args.former.now.stated (above + merge_usage (seen_kids (store.texts mid) (c.args.depth + 1) kids) (lone_named value kids)))) result).
    subst (λ tb. Carries {X = Sub} store mid new (before (merge_visits (seen_kids tb (c.args.depth + 1) kids) (lone_named value kids)) (closed c.args.former.now.digest.now.0 c.args.former.now.stated (above + merge_usage (seen_kids tb (c.args.depth + 1) kids) (lone_named value kids)))) result) (sym texts) h in
    let whole = branch-carries table c.args.depth ref names children are cs below_it more _ (branch-places table c.args.depth _) c.args.ledger.now c.at_nibbles.new.ledger left told c.in_ok-left.ensures.parted c.args.former.now.own above c.args.former.now.stated c.requires.former.own c.saturating_add-above.ensures c.requires.former.most short few {Y = Sub} store g.met.T.Texts.alike_onward old mid new c.args.former.now.digest.now.0 (Ok c.in_ok-sub.sub) c.in_ok-left.ensures.carries (settled (Ok c.in_ok-sub.sub) c.in_ok-sub.ensures.carries) in
    let top = subst (λ tb. top_of_sub c.in_ok-sub.sub ≡ (joint value (merged_kids (lone_named value kids) (seen_kids tb (c.args.depth + 1) kids) kids) (c.args.former.now.stated - (above + merge_usage (seen_kids tb (c.args.depth + 1) kids) (lone_named value kids)))).top) (sym texts) c.in_ok-sub.ensures.top in
    let adds = subst (λ tb. Adds c.at_nibbles.new.ledger c.settle.new.ledger (joint value (merged_kids (lone_named value kids) (seen_kids tb (c.args.depth + 1) kids) kids) (c.args.former.now.stated - (above + merge_usage (seen_kids tb (c.args.depth + 1) kids) (lone_named value kids)))).made (merged_lost (lone_named value kids) (seen_kids tb (c.args.depth + 1) kids)) 0 0) (sym texts) c.in_ok-sub.ensures.adds in
    branch-placed table c.args.depth ref names children are cs below_it more _ (branch-places table c.args.depth _) c.args.ledger.now c.at_nibbles.new.ledger left told c.in_ok-left.ensures.parted c.args.former.now.own above c.args.former.now.stated c.requires.former.own c.saturating_add-above.ensures c.requires.former.most short few c.args.former.now.digest.now.0 whole.answer (length changes) c.settle.new.ledger (record { sub = c.in_ok-sub.sub; stated = c.args.former.now.stated }) long refl top adds

pub at_branch-returns-clause-keeps : goal.at_branch-returns-clause-keeps
at_branch-returns-clause-keeps g t c = λ children are.
    let store = g.T.Texts.store in
    let old = c.args.store.now in
    let table = store.texts old in
    let mid = c.at_nibbles.new.store in
    let changes = c.args.changes.now in
    let cs = changes_at c.args.depth changes in
    let ref = option_map value_of c.args.former.now.value.now in
    let names = children_in c.args.former.now.kids.now in
    let below_it = below-changes_at c.args.depth changes c.requires.changes in
    let more = changes-some c.args.depth changes c.requires.some in
    let long = length-changes_at c.args.depth changes in
    let few : length cs ≤ most_changes = (let f = c.requires.few in omega arith) in
    let short = small-mapped c.args.former.now.value.now c.requires.former.small in
    let left = c.in_ok-left.left in
    let told = c.in_ok-left.below in
    let value = option_map value_of left.value in
    let kids = kid_at names left.children.items in
    let above = c.saturating_add-above.result in
    let texts = g.met.T.Texts.alike_texts old mid c.in_ok-left.ensures.carries.left.same in
    let new = c.settle.new.store in
    let settled = λ (result : Result Sub UpdateError) (h : Carries {X = Sub} store mid new (before (merge_visits (seen_kids (store.texts mid) (c.args.depth + 1) kids) (lone_named value kids)) (closed c.args.former.now.digest.now.0 c.args.former.now.stated (above + merge_usage (seen_kids (store.texts mid) (c.args.depth + 1) kids) (lone_named value kids)))) result).
    subst (λ tb. Carries {X = Sub} store mid new (before (merge_visits (seen_kids tb (c.args.depth + 1) kids) (lone_named value kids)) (closed c.args.former.now.digest.now.0 c.args.former.now.stated (above + merge_usage (seen_kids tb (c.args.depth + 1) kids) (lone_named value kids)))) result) (sym texts) h in
    let whole = branch-carries table c.args.depth ref names children are cs below_it more _ (branch-places table c.args.depth _) c.args.ledger.now c.at_nibbles.new.ledger left told c.in_ok-left.ensures.parted c.args.former.now.own above c.args.former.now.stated c.requires.former.own c.saturating_add-above.ensures c.requires.former.most short few {Y = Sub} store g.met.T.Texts.alike_onward old mid new c.args.former.now.digest.now.0 (Ok c.in_ok-sub.sub) c.in_ok-left.ensures.carries (settled (Ok c.in_ok-sub.sub) c.in_ok-sub.ensures.carries) in
    let deep : c.args.depth ≤ longest_path = (let d = c.requires.deep in omega arith) in
    let stands = subst (λ tb. MergedStands (c.args.depth + 1) (lone_named value kids) (seen_kids tb (c.args.depth + 1) kids)) (sym texts) c.in_ok-sub.ensures.stands in
    branch-keeps table c.args.depth ref names children are cs below_it more _ (branch-places table c.args.depth _) c.args.ledger.now c.at_nibbles.new.ledger left told c.in_ok-left.ensures.parted c.args.former.now.own above c.args.former.now.stated c.requires.former.own c.saturating_add-above.ensures c.requires.former.most short few c.args.former.now.digest.now.0 whole.answer deep stands

pub at_digest-returns-in_err-node-clause-carries : goal.at_digest-returns-in_err-node-clause-carries
at_digest-returns-in_err-node-clause-carries g t c =
    let store = g.T.Texts.store in
    let first = c.args.store.now in
    let mid = c.visit.new.store in
    let table = store.texts first in
    let depth = c.args.depth in
    let after = c.args.after_extension in
    let digest = c.args.digest.now in
    let cs = changes_at depth c.args.changes.now in
    let deep = lent-deep depth c.args.changes.now c.requires.changes c.requires.some in
    let error = c.in_err-node.field-0.0 in
    carries-passed store {X = Placed} {Y = Placed} first mid (visits_at (seen_at table depth after digest.0) cs) error c.from_residual.result c.from_residual.ensures.1
    (visit-stopped store first mid table digest depth after deep (λ s. visits_at s cs) (opens-changed cs) {X = Placed} error c.in_err-node.ensures.answer c.in_err-node.ensures.left)

pub at_digest-returns-in_err-lose-clause-carries : goal.at_digest-returns-in_err-lose-clause-carries
at_digest-returns-in_err-lose-clause-carries g t c =
    let store = g.T.Texts.store in
    let first = c.args.store.now in
    let mid = c.visit.new.store in
    let table = store.texts first in
    let depth = c.args.depth in
    let after = c.args.after_extension in
    let digest = c.args.digest.now in
    let cs = changes_at depth c.args.changes.now in
    let deep = lent-deep depth c.args.changes.now c.requires.changes c.requires.some in
    let visited = c.in_ok-node.field-0 in
    let left = c.in_ok-node.ensures.left in
    let sees = sees-visited table depth after digest visited deep c.in_ok-node.ensures.answer in
    let onward = g.met.T.Texts.alike_onward in
    let same = g.met.T.Texts.alike_texts first mid left.same in
    carries-passed store {X = Placed} {Y = Placed} first mid (visits_at (seen_at table depth after digest.0) cs) NoMemory c.from_residual-in_err-lose.result c.from_residual-in_err-lose.ensures.1
    (opened-short store onward first mid mid same depth after digest visited left cs (opens-first table depth after digest visited cs visited.node sees))

pub at_digest-at_old-requires : goal.at_digest-at_old-requires
at_digest-at_old-requires g t c =
    let store = g.T.Texts.store in
    let here = copy-old (store.texts c.args.store.now) c.args.depth c.args.after_extension c.args.digest.now c.args.changes.now c.requires.changes c.requires.some c.in_ok-node.field-0 c.in_ok-node.ensures.answer _ c.in-Leaf.is in
    let reads = leaf-old (store.texts c.args.store.now) c.args.depth c.args.after_extension c.args.digest.now c.args.changes.now c.requires.changes c.requires.some c.in_ok-node.field-0 c.in_ok-node.ensures.answer c.as_slice.result c.in-Leaf.path c.in-Leaf.value c.in-Leaf.is c.as_slice.ensures in
    λ κs h. (search rules, (h, (c.requires.changes, (c.requires.some, (c.requires.few, (lose-room c.args.ledger.now c.lose.new.self c.args.digest.now _ c.in_ok-lose.ensures.loses c.requires.room, (lose-named c.args.ledger.now c.lose.new.self c.args.digest.now c.in_ok-lose.ensures.loses c.requires.named, (reads.reads.fits, reads.most))))))))

pub at_digest-at_old-requires-in-Extension : goal.at_digest-at_old-requires-in-Extension
at_digest-at_old-requires-in-Extension g t c =
    let store = g.T.Texts.store in
    let here = copy-old (store.texts c.args.store.now) c.args.depth c.args.after_extension c.args.digest.now c.args.changes.now c.requires.changes c.requires.some c.in_ok-node.field-0 c.in_ok-node.ensures.answer _ c.in-Extension.is in
    let reads = extension-old (store.texts c.args.store.now) c.args.depth c.args.after_extension c.args.digest.now c.args.changes.now c.requires.changes c.requires.some c.in_ok-node.field-0 c.in_ok-node.ensures.answer c.as_slice-in-Extension.result c.in-Extension.path c.in-Extension.child c.saturating_sub.result c.in-Extension.is c.as_slice-in-Extension.ensures c.saturating_sub.ensures in
    λ κs h. (search rules, (h, (c.requires.changes, (c.requires.some, (c.requires.few, (lose-room c.args.ledger.now c.lose.new.self c.args.digest.now _ c.in_ok-lose.ensures.loses c.requires.room, (lose-named c.args.ledger.now c.lose.new.self c.args.digest.now c.in_ok-lose.ensures.loses c.requires.named, (reads.reads.fits, reads.most))))))))

pub at_digest-at_branch-requires : goal.at_digest-at_branch-requires
at_digest-at_branch-requires g t c =
    let copy = copy-old (g.T.Texts.store.texts c.args.store.now) c.args.depth c.args.after_extension c.args.digest.now c.args.changes.now c.requires.changes c.requires.some c.in_ok-node.field-0 c.in_ok-node.ensures.answer _ c.in-Branch.is in
    let sees = subst (λ kids. SeesBranch (g.T.Texts.store.texts c.args.store.now) c.args.depth c.args.after_extension c.args.digest.now c.in_ok-node.field-0 (option_map value_of c.in-Branch.value) (children_in kids)) (sym c.deref.ensures) copy in
    let record_is = record-read c.args.digest.now.0 c.in_ok-node.field-0 c.in-Branch.value c.in-Branch.kids c.deref.result.now c.in_ok-node.ensures.record c.in-Branch.is c.deref.ensures in
    λ κs h. (search rules, (h, (c.requires.changes, (c.requires.some, (c.requires.few, (lose-room c.args.ledger.now c.lose.new.self c.args.digest.now _ c.in_ok-lose.ensures.loses c.requires.room, (lose-named c.args.ledger.now c.lose.new.self c.args.digest.now c.in_ok-lose.ensures.loses c.requires.named, (sees.room, record { digest = record_is; own = sees.own; most = sees.most; small = value-small c.in-Branch.value sees.small }))))))))

pub at_digest-returns-in-Leaf-clause-carries : goal.at_digest-returns-in-Leaf-clause-carries
at_digest-returns-in-Leaf-clause-carries g t c =
    let store = g.T.Texts.store in
    let reads = leaf-old (store.texts c.args.store.now) c.args.depth c.args.after_extension c.args.digest.now c.args.changes.now c.requires.changes c.requires.some c.in_ok-node.field-0 c.in_ok-node.ensures.answer c.as_slice.result c.in-Leaf.path c.in-Leaf.value c.in-Leaf.is c.as_slice.ensures in
    old-carries store g.met.T.Texts.alike_onward c.args.store.now c.visit.new.store c.at_old.new.store (g.met.T.Texts.alike_texts c.args.store.now c.visit.new.store c.in_ok-node.ensures.left.same) c.args.depth c.args.after_extension c.args.digest.now c.in_ok-node.field-0 c.in_ok-node.ensures.left _ reads (changes_at c.args.depth c.args.changes.now) c.at_old.result c.at_old.ensures.carries

pub at_digest-returns-in-Leaf-clause-placed : goal.at_digest-returns-in-Leaf-clause-placed
at_digest-returns-in-Leaf-clause-placed g t c =
    let store = g.T.Texts.store in
    let reads = leaf-old (store.texts c.args.store.now) c.args.depth c.args.after_extension c.args.digest.now c.args.changes.now c.requires.changes c.requires.some c.in_ok-node.field-0 c.in_ok-node.ensures.answer c.as_slice.result c.in-Leaf.path c.in-Leaf.value c.in-Leaf.is c.as_slice.ensures in
    old-placed store g.met.T.Texts.alike_onward c.args.store.now c.visit.new.store c.at_old.new.store (g.met.T.Texts.alike_texts c.args.store.now c.visit.new.store c.in_ok-node.ensures.left.same) c.args.depth c.args.after_extension c.args.digest.now c.in_ok-node.field-0 c.in_ok-node.ensures.left _ reads (changes_at c.args.depth c.args.changes.now) c.at_old.result c.args.ledger.now c.lose.new.self c.at_old.new.ledger _ (changes-some c.args.depth c.args.changes.now c.requires.some) c.in_ok-lose.ensures.loses c.at_old.ensures.placed

pub at_digest-returns-in-Leaf-clause-keeps : goal.at_digest-returns-in-Leaf-clause-keeps
at_digest-returns-in-Leaf-clause-keeps g t c =
    let store = g.T.Texts.store in
    let reads = leaf-old (store.texts c.args.store.now) c.args.depth c.args.after_extension c.args.digest.now c.args.changes.now c.requires.changes c.requires.some c.in_ok-node.field-0 c.in_ok-node.ensures.answer c.as_slice.result c.in-Leaf.path c.in-Leaf.value c.in-Leaf.is c.as_slice.ensures in
    old-keeps store g.met.T.Texts.alike_onward c.args.store.now c.visit.new.store c.at_old.new.store (g.met.T.Texts.alike_texts c.args.store.now c.visit.new.store c.in_ok-node.ensures.left.same) c.args.depth c.args.after_extension c.args.digest.now c.in_ok-node.field-0 c.in_ok-node.ensures.left _ reads (changes_at c.args.depth c.args.changes.now) (below-changes_at c.args.depth c.args.changes.now c.requires.changes) (changes-some c.args.depth c.args.changes.now c.requires.some) c.at_old.result (old-carries store g.met.T.Texts.alike_onward c.args.store.now c.visit.new.store c.at_old.new.store (g.met.T.Texts.alike_texts c.args.store.now c.visit.new.store c.in_ok-node.ensures.left.same) c.args.depth c.args.after_extension c.args.digest.now c.in_ok-node.field-0 c.in_ok-node.ensures.left _ reads (changes_at c.args.depth c.args.changes.now) c.at_old.result c.at_old.ensures.carries) c.at_old.ensures.keeps

pub at_digest-returns-in-Extension-clause-carries : goal.at_digest-returns-in-Extension-clause-carries
at_digest-returns-in-Extension-clause-carries g t c =
    let store = g.T.Texts.store in
    let reads = extension-old (store.texts c.args.store.now) c.args.depth c.args.after_extension c.args.digest.now c.args.changes.now c.requires.changes c.requires.some c.in_ok-node.field-0 c.in_ok-node.ensures.answer c.as_slice-in-Extension.result c.in-Extension.path c.in-Extension.child c.saturating_sub.result c.in-Extension.is c.as_slice-in-Extension.ensures c.saturating_sub.ensures in
    old-carries store g.met.T.Texts.alike_onward c.args.store.now c.visit.new.store c.at_old-in-Extension.new.store (g.met.T.Texts.alike_texts c.args.store.now c.visit.new.store c.in_ok-node.ensures.left.same) c.args.depth c.args.after_extension c.args.digest.now c.in_ok-node.field-0 c.in_ok-node.ensures.left _ reads (changes_at c.args.depth c.args.changes.now) c.at_old-in-Extension.result c.at_old-in-Extension.ensures.carries

pub at_digest-returns-in-Extension-clause-placed : goal.at_digest-returns-in-Extension-clause-placed
at_digest-returns-in-Extension-clause-placed g t c =
    let store = g.T.Texts.store in
    let reads = extension-old (store.texts c.args.store.now) c.args.depth c.args.after_extension c.args.digest.now c.args.changes.now c.requires.changes c.requires.some c.in_ok-node.field-0 c.in_ok-node.ensures.answer c.as_slice-in-Extension.result c.in-Extension.path c.in-Extension.child c.saturating_sub.result c.in-Extension.is c.as_slice-in-Extension.ensures c.saturating_sub.ensures in
    old-placed store g.met.T.Texts.alike_onward c.args.store.now c.visit.new.store c.at_old-in-Extension.new.store (g.met.T.Texts.alike_texts c.args.store.now c.visit.new.store c.in_ok-node.ensures.left.same) c.args.depth c.args.after_extension c.args.digest.now c.in_ok-node.field-0 c.in_ok-node.ensures.left _ reads (changes_at c.args.depth c.args.changes.now) c.at_old-in-Extension.result c.args.ledger.now c.lose.new.self c.at_old-in-Extension.new.ledger _ (changes-some c.args.depth c.args.changes.now c.requires.some) c.in_ok-lose.ensures.loses c.at_old-in-Extension.ensures.placed

pub at_digest-returns-in-Extension-clause-keeps : goal.at_digest-returns-in-Extension-clause-keeps
at_digest-returns-in-Extension-clause-keeps g t c =
    let store = g.T.Texts.store in
    let reads = extension-old (store.texts c.args.store.now) c.args.depth c.args.after_extension c.args.digest.now c.args.changes.now c.requires.changes c.requires.some c.in_ok-node.field-0 c.in_ok-node.ensures.answer c.as_slice-in-Extension.result c.in-Extension.path c.in-Extension.child c.saturating_sub.result c.in-Extension.is c.as_slice-in-Extension.ensures c.saturating_sub.ensures in
    old-keeps store g.met.T.Texts.alike_onward c.args.store.now c.visit.new.store c.at_old-in-Extension.new.store (g.met.T.Texts.alike_texts c.args.store.now c.visit.new.store c.in_ok-node.ensures.left.same) c.args.depth c.args.after_extension c.args.digest.now c.in_ok-node.field-0 c.in_ok-node.ensures.left _ reads (changes_at c.args.depth c.args.changes.now) (below-changes_at c.args.depth c.args.changes.now c.requires.changes) (changes-some c.args.depth c.args.changes.now c.requires.some) c.at_old-in-Extension.result (old-carries store g.met.T.Texts.alike_onward c.args.store.now c.visit.new.store c.at_old-in-Extension.new.store (g.met.T.Texts.alike_texts c.args.store.now c.visit.new.store c.in_ok-node.ensures.left.same) c.args.depth c.args.after_extension c.args.digest.now c.in_ok-node.field-0 c.in_ok-node.ensures.left _ reads (changes_at c.args.depth c.args.changes.now) c.at_old-in-Extension.result c.at_old-in-Extension.ensures.carries) c.at_old-in-Extension.ensures.keeps

pub at_digest-returns-in-Branch-clause-carries : goal.at_digest-returns-in-Branch-clause-carries
at_digest-returns-in-Branch-clause-carries g t c =
    let store = g.T.Texts.store in
    let copy = copy-old (store.texts c.args.store.now) c.args.depth c.args.after_extension c.args.digest.now c.args.changes.now c.requires.changes c.requires.some c.in_ok-node.field-0 c.in_ok-node.ensures.answer _ c.in-Branch.is in
    let sees = subst (λ kids. SeesBranch (store.texts c.args.store.now) c.args.depth c.args.after_extension c.args.digest.now c.in_ok-node.field-0 (option_map value_of c.in-Branch.value) (children_in kids)) (sym c.deref.ensures) copy in
    let children = visited-children store g.met.T.Texts.alike_onward c.args.store.now c.visit.new.store c.at_branch.new.store (g.met.T.Texts.alike_texts c.args.store.now c.visit.new.store c.in_ok-node.ensures.left.same) c.args.depth c.args.after_extension c.args.digest.now c.in_ok-node.field-0 c.in_ok-node.ensures.left (option_map value_of c.in-Branch.value) (children_in c.deref.result.now) sees (changes_at c.args.depth c.args.changes.now) c.at_branch.result in
    visited-carries store g.met.T.Texts.alike_onward c.args.store.now c.visit.new.store c.at_branch.new.store (g.met.T.Texts.alike_texts c.args.store.now c.visit.new.store c.in_ok-node.ensures.left.same) c.args.depth c.args.after_extension c.args.digest.now c.in_ok-node.field-0 c.in_ok-node.ensures.left (option_map value_of c.in-Branch.value) (children_in c.deref.result.now) sees (changes_at c.args.depth c.args.changes.now) c.at_branch.result (c.at_branch.ensures.carries sees.below children)

pub at_digest-returns-in-Branch-clause-placed : goal.at_digest-returns-in-Branch-clause-placed
at_digest-returns-in-Branch-clause-placed g t c =
    let store = g.T.Texts.store in
    let copy = copy-old (store.texts c.args.store.now) c.args.depth c.args.after_extension c.args.digest.now c.args.changes.now c.requires.changes c.requires.some c.in_ok-node.field-0 c.in_ok-node.ensures.answer _ c.in-Branch.is in
    let sees = subst (λ kids. SeesBranch (store.texts c.args.store.now) c.args.depth c.args.after_extension c.args.digest.now c.in_ok-node.field-0 (option_map value_of c.in-Branch.value) (children_in kids)) (sym c.deref.ensures) copy in
    let children = visited-children store g.met.T.Texts.alike_onward c.args.store.now c.visit.new.store c.at_branch.new.store (g.met.T.Texts.alike_texts c.args.store.now c.visit.new.store c.in_ok-node.ensures.left.same) c.args.depth c.args.after_extension c.args.digest.now c.in_ok-node.field-0 c.in_ok-node.ensures.left (option_map value_of c.in-Branch.value) (children_in c.deref.result.now) sees (changes_at c.args.depth c.args.changes.now) c.at_branch.result in
    visited-placed store g.met.T.Texts.alike_onward c.args.store.now c.visit.new.store c.at_branch.new.store (g.met.T.Texts.alike_texts c.args.store.now c.visit.new.store c.in_ok-node.ensures.left.same) c.args.depth c.args.after_extension c.args.digest.now c.in_ok-node.field-0 c.in_ok-node.ensures.left (option_map value_of c.in-Branch.value) (children_in c.deref.result.now) sees (changes_at c.args.depth c.args.changes.now) c.at_branch.result c.args.ledger.now c.lose.new.self c.at_branch.new.ledger _ c.in_ok-lose.ensures.loses (c.at_branch.ensures.placed sees.below children)

pub at_digest-returns-in-Branch-clause-keeps : goal.at_digest-returns-in-Branch-clause-keeps
at_digest-returns-in-Branch-clause-keeps g t c =
    let store = g.T.Texts.store in
    let copy = copy-old (store.texts c.args.store.now) c.args.depth c.args.after_extension c.args.digest.now c.args.changes.now c.requires.changes c.requires.some c.in_ok-node.field-0 c.in_ok-node.ensures.answer _ c.in-Branch.is in
    let sees = subst (λ kids. SeesBranch (store.texts c.args.store.now) c.args.depth c.args.after_extension c.args.digest.now c.in_ok-node.field-0 (option_map value_of c.in-Branch.value) (children_in kids)) (sym c.deref.ensures) copy in
    let children = visited-children store g.met.T.Texts.alike_onward c.args.store.now c.visit.new.store c.at_branch.new.store (g.met.T.Texts.alike_texts c.args.store.now c.visit.new.store c.in_ok-node.ensures.left.same) c.args.depth c.args.after_extension c.args.digest.now c.in_ok-node.field-0 c.in_ok-node.ensures.left (option_map value_of c.in-Branch.value) (children_in c.deref.result.now) sees (changes_at c.args.depth c.args.changes.now) c.at_branch.result in
    visited-keeps store g.met.T.Texts.alike_onward c.args.store.now c.visit.new.store c.at_branch.new.store (g.met.T.Texts.alike_texts c.args.store.now c.visit.new.store c.in_ok-node.ensures.left.same) c.args.depth c.args.after_extension c.args.digest.now c.in_ok-node.field-0 c.in_ok-node.ensures.left (option_map value_of c.in-Branch.value) (children_in c.deref.result.now) sees (changes_at c.args.depth c.args.changes.now) c.at_branch.result (c.at_branch.ensures.keeps sees.below children)

pub at_fork-value_alone-requires-clause-room : goal.at_fork-value_alone-requires-clause-room
at_fork-value_alone-requires-clause-room g t c = let room = c.requires.room in let some = c.requires.some in (omega arith, omega arith)

pub at_fork-returns-in_err-only-clause-carries : goal.at_fork-returns-in_err-only-clause-carries
at_fork-returns-in_err-only-clause-carries g t c =
    let store = g.T.Texts.store in
    let now = c.args.store.now in
    let carried = ends-carries store g.met.T.Texts.alike_itself now (seen_past (store.texts now) c.args.depth c.args.shared c.args.old.now) (old_past c.args.shared c.args.old.now) (changes_at c.args.depth c.args.changes.now) (ends-past c.args.shared c.args.old.now (sym c.if-ends.ensures)) in
    carries-passed store {X = Placed} {Y = Placed} now now _ NoMemory c.from_residual.result c.from_residual.ensures.1 (carries-late store {X = ℕ} {Y = Placed} now now _ 0 carried)

pub at_fork-returns-in-Some-clause-carries : goal.at_fork-returns-in-Some-clause-carries
at_fork-returns-in-Some-clause-carries g t c =
    let store = g.T.Texts.store in
    let now = c.args.store.now in
    let carried = ends-carries store g.met.T.Texts.alike_itself now (seen_past (store.texts now) c.args.depth c.args.shared c.args.old.now) (old_past c.args.shared c.args.old.now) (changes_at c.args.depth c.args.changes.now) (ends-past c.args.shared c.args.old.now (sym c.if-ends.ensures)) in
    carries-ok store {X = ℕ} {Y = Placed} now now _ 0 _ carried

pub at_fork-returns-in-Some-clause-placed : goal.at_fork-returns-in-Some-clause-placed
at_fork-returns-in-Some-clause-placed g t c =
    let below = seen_past (g.T.Texts.store.texts c.args.store.now) c.args.depth c.args.shared c.args.old.now in
    let same = ap (option_map value_of) c.value_at-value.ensures ∙ former-past c.args.shared c.args.old.now c.requires.reaches in
    ends-placed (laid (λ cs. updated below cs)) below (old_past c.args.shared c.args.old.now) (changes_at c.args.depth c.args.changes.now) _ (length c.args.changes.now) _ c.args.ledger.now c.value_alone.new.ledger (ends-past c.args.shared c.args.old.now (sym c.if-ends.ensures)) c.in-Some.ensures.lone (length-changes_at c.args.depth c.args.changes.now) same
    (record { sub = c.in_ok-only.only; stated = 0 }) c.in_ok-only.ensures.top refl c.in_ok-only.ensures.grows c.in_ok-only.ensures.names

pub at_fork-returns-in-Some-clause-keeps : goal.at_fork-returns-in-Some-clause-keeps
at_fork-returns-in-Some-clause-keeps g t c = ends-keeps c.args.depth (seen_past (g.T.Texts.store.texts c.args.store.now) c.args.depth c.args.shared c.args.old.now) (old_past c.args.shared c.args.old.now) (changes_at c.args.depth c.args.changes.now) (ends-past c.args.shared c.args.old.now (sym c.if-ends.ensures))

pub at_fork-returns-in_err-left-clause-carries : goal.at_fork-returns-in_err-left-clause-carries
at_fork-returns-in_err-left-clause-carries g t c =
    let store = g.T.Texts.store in
    let old = c.args.store.now in
    let table = store.texts old in
    let new = c.at_nibbles.new.store in
    let changes = c.args.changes.now in
    let cs = changes_at c.args.depth changes in
    let stood = c.args.old.now in
    let below_it = below-changes_at c.args.depth changes c.requires.changes in
    let whole = top_visits (seen_past table c.args.depth c.args.shared stood) (old_past c.args.shared stood) cs in
    let visits = places-visits table c.args.depth c.args.shared stood cs c.value_at-value.result c.value_at-value.ensures c.requires.reaches c.requires.forks c.requires.old below_it in
    carries-passed store {X = Left × ℕ} {Y = Placed} old new whole c.in_err-left.field-0.0 c.from_residual-in_err-left.result c.from_residual-in_err-left.ensures.1
    (subst (λ v. Carries {X = Left × ℕ} store old new v (Err c.in_err-left.field-0.0)) visits c.in_err-left.ensures.carries)

pub at_fork-join-requires-clause-joins : goal.at_fork-join-requires-clause-joins
at_fork-join-requires-clause-joins g t c =
    let store = g.T.Texts.store in
    let old = c.args.store.now in
    let table = store.texts old in
    let changes = c.args.changes.now in
    let cs = changes_at c.args.depth changes in
    let stood = c.args.old.now in
    let below_it = below-changes_at c.args.depth changes c.requires.changes in
    let more = changes-some c.args.depth changes c.requires.some in
    let long = length-changes_at c.args.depth changes in
    let few : length cs ≤ most_changes = (let f = c.requires.few in omega arith) in
    fork-end-can table c.args.depth c.args.shared stood cs c.value_at-value.result c.value_at-value.ensures c.requires.reaches c.requires.forks c.requires.old below_it more few c.args.ledger.now c.at_nibbles.new.ledger c.in_ok-left.left c.in_ok-left.stated c.in_ok-left.ensures.parted

pub at_fork-returns-in_err-sub-clause-carries : goal.at_fork-returns-in_err-sub-clause-carries
at_fork-returns-in_err-sub-clause-carries g t c =
    let store = g.T.Texts.store in
    let old = c.args.store.now in
    let table = store.texts old in
    let new = c.at_nibbles.new.store in
    let changes = c.args.changes.now in
    let cs = changes_at c.args.depth changes in
    let stood = c.args.old.now in
    let below_it = below-changes_at c.args.depth changes c.requires.changes in
    let whole = top_visits (seen_past table c.args.depth c.args.shared stood) (old_past c.args.shared stood) cs in
    let visits = places-visits table c.args.depth c.args.shared stood cs c.value_at-value.result c.value_at-value.ensures c.requires.reaches c.requires.forks c.requires.old below_it in
    let carried = subst (λ v. Carries {X = Left × ℕ} store old new v (Ok (c.in_ok-left.left, c.in_ok-left.stated))) visits c.in_ok-left.ensures.carries in
    carries-passed store {X = Placed} {Y = Placed} old new whole NoMemory c.from_residual-in_err-sub.result
    c.from_residual-in_err-sub.ensures.1
    (carries-late store {X = Left × ℕ} {Y = Placed} old new whole (c.in_ok-left.left, c.in_ok-left.stated) carried)

pub at_fork-returns-clause-carries : goal.at_fork-returns-clause-carries
at_fork-returns-clause-carries g t c =
    let store = g.T.Texts.store in
    let old = c.args.store.now in
    let table = store.texts old in
    let new = c.at_nibbles.new.store in
    let changes = c.args.changes.now in
    let cs = changes_at c.args.depth changes in
    let stood = c.args.old.now in
    let below_it = below-changes_at c.args.depth changes c.requires.changes in
    let whole = top_visits (seen_past table c.args.depth c.args.shared stood) (old_past c.args.shared stood) cs in
    let visits = places-visits table c.args.depth c.args.shared stood cs c.value_at-value.result c.value_at-value.ensures c.requires.reaches c.requires.forks c.requires.old below_it in
    let carried = subst (λ v. Carries {X = Left × ℕ} store old new v (Ok (c.in_ok-left.left, c.in_ok-left.stated))) visits c.in_ok-left.ensures.carries in
    carries-ok store {X = Left × ℕ} {Y = Placed} old new whole (c.in_ok-left.left, c.in_ok-left.stated) _ carried

pub at_fork-returns-clause-placed : goal.at_fork-returns-clause-placed
at_fork-returns-clause-placed g t c =
    let store = g.T.Texts.store in
    let old = c.args.store.now in
    let table = store.texts old in
    let changes = c.args.changes.now in
    let cs = changes_at c.args.depth changes in
    let stood = c.args.old.now in
    let below_it = below-changes_at c.args.depth changes c.requires.changes in
    let more = changes-some c.args.depth changes c.requires.some in
    let long = length-changes_at c.args.depth changes in
    let few : length cs ≤ most_changes = (let f = c.requires.few in omega arith) in
    fork-end-placed table c.args.depth c.args.shared stood cs c.value_at-value.result c.value_at-value.ensures c.requires.reaches c.requires.forks c.requires.old below_it more few c.args.ledger.now c.at_nibbles.new.ledger c.in_ok-left.left c.in_ok-left.stated c.in_ok-left.ensures.parted (length changes) c.join.new.ledger (record { sub = c.in_ok-sub.sub; stated = c.in_ok-left.stated }) long c.in_ok-sub.ensures.top refl c.in_ok-sub.ensures.adds

pub at_fork-returns-clause-keeps : goal.at_fork-returns-clause-keeps
at_fork-returns-clause-keeps g t c =
    let store = g.T.Texts.store in
    let old = c.args.store.now in
    let table = store.texts old in
    let changes = c.args.changes.now in
    let cs = changes_at c.args.depth changes in
    let stood = c.args.old.now in
    let below_it = below-changes_at c.args.depth changes c.requires.changes in
    let more = changes-some c.args.depth changes c.requires.some in
    let long = length-changes_at c.args.depth changes in
    let few : length cs ≤ most_changes = (let f = c.requires.few in omega arith) in
    fork-end-keeps table c.args.depth c.args.shared stood cs c.value_at-value.result c.value_at-value.ensures c.requires.reaches c.requires.forks c.requires.old below_it more few c.args.ledger.now c.at_nibbles.new.ledger c.in_ok-left.left c.in_ok-left.stated c.in_ok-left.ensures.parted

pub at_nibble-returns-then-is_empty-clause-carries : goal.at_nibble-returns-then-is_empty-clause-carries
at_nibble-returns-then-is_empty-clause-carries g t c =
    let store = g.T.Texts.store in
    let old = c.args.store.now in
    let table = store.texts old in
    let cs = changes_at (c.args.depth + 1) c.args.changes.now in
    let p = place_behind table c.args.depth c.args.parent.now c.args.nibble in
    let none : cs ≡ [] = ap (changes_at (c.args.depth + 1)) (empty-changes c.args.changes.now c.if-is_empty.ensures) in
    let visits = ap (place_visits p) none ∙ untouched-visits p in
    subst (λ v. Carries {X = Child × ℕ} store old old v (Ok (c.in_ok-unchanged.field-0, 0))) (sym visits) (carries-none store {X = Child × ℕ} old (c.in_ok-unchanged.field-0, 0) (g.met.T.Texts.alike_itself old))

pub at_nibble-returns-then-is_empty-clause-child : goal.at_nibble-returns-then-is_empty-clause-child
at_nibble-returns-then-is_empty-clause-child g t c =
    let store = g.T.Texts.store in
    let old = c.args.store.now in
    let table = store.texts old in
    let cs = changes_at (c.args.depth + 1) c.args.changes.now in
    let none : cs ≡ [] = ap (changes_at (c.args.depth + 1)) (empty-changes c.args.changes.now c.if-is_empty.ensures) in
    child-untouched (parent_names c.args.parent.now c.args.nibble) (c.args.depth + 1) (place_behind table c.args.depth c.args.parent.now c.args.nibble) cs c.args.ledger.now c.in_ok-unchanged.field-0 none (c.in_ok-unchanged.ensures.child table c.args.depth)

pub at_nibble-at_path-requires : goal.at_nibble-at_path-requires
at_nibble-at_path-requires g t c =
    let fits = subst (FitsFormer (c.args.depth + 1)) c.in-Known.is (c.behind-former.ensures.fits (g.T.Texts.store.texts c.args.store.now) c.args.depth c.requires.parent) in
    λ κs h. (search rules, (h, (c.requires.changes, (some-changes c.args.changes.now c.if-is_empty.ensures, (c.requires.few, (c.requires.room, (c.requires.named, fits)))))))

pub at_nibble-returns-in_err-placed-in-Known-clause-carries : goal.at_nibble-returns-in_err-placed-in-Known-clause-carries
at_nibble-returns-in_err-placed-in-Known-clause-carries g t c =
    let store = g.T.Texts.store in
    let place = c.behind-former.ensures.place (store.texts c.args.store.now) c.args.depth c.requires.parent in
    let some = some-changes c.args.changes.now c.if-is_empty.ensures in
    let touched = known-touched _ (c.args.depth + 1) c.behind-former.result _ place c.args.changes.now some c.in-Known.old c.in-Known.is in
    carries-placed (c.args.depth + 1) _ _ _ _ _ _ touched (length-changes_at (c.args.depth + 1) c.args.changes.now) store c.args.store.now c.at_path.new.store c.from_residual-in_err-placed-in-Known.result
    (carries-passed store {X = Placed} {Y = Child × ℕ} c.args.store.now c.at_path.new.store _ c.in_err-placed-in-Known.field-0.0 c.from_residual-in_err-placed-in-Known.result c.from_residual-in_err-placed-in-Known.ensures.1 c.in_err-placed-in-Known.ensures.carries)

pub at_nibble-returns-in_err-placed-in-Named-clause-carries : goal.at_nibble-returns-in_err-placed-in-Named-clause-carries
at_nibble-returns-in_err-placed-in-Named-clause-carries g t c =
    let store = g.T.Texts.store in
    let place = c.behind-former.ensures.place (store.texts c.args.store.now) c.args.depth c.requires.parent in
    let some = some-changes c.args.changes.now c.if-is_empty.ensures in
    let touched = named-touched _ (c.args.depth + 1) c.behind-former.result _ place c.args.changes.now some c.in-Named.digest c.in-Named.is in
    carries-placed (c.args.depth + 1) _ _ _ _ _ _ touched (length-changes_at (c.args.depth + 1) c.args.changes.now) store c.args.store.now c.at_digest.new.store c.from_residual-in_err-placed-in-Named.result
    (carries-passed store {X = Placed} {Y = Child × ℕ} c.args.store.now c.at_digest.new.store _ c.in_err-placed-in-Named.field-0.0 c.from_residual-in_err-placed-in-Named.result c.from_residual-in_err-placed-in-Named.ensures.1 c.in_err-placed-in-Named.ensures.carries)

pub at_nibble-returns-in_ok-placed-in-Known-clause-carries : goal.at_nibble-returns-in_ok-placed-in-Known-clause-carries
at_nibble-returns-in_ok-placed-in-Known-clause-carries g t c =
    let store = g.T.Texts.store in
    let place = c.behind-former.ensures.place (store.texts c.args.store.now) c.args.depth c.requires.parent in
    let some = some-changes c.args.changes.now c.if-is_empty.ensures in
    let touched = known-touched _ (c.args.depth + 1) c.behind-former.result _ place c.args.changes.now some c.in-Known.old c.in-Known.is in
    carries-placed (c.args.depth + 1) _ _ _ _ _ _ touched (length-changes_at (c.args.depth + 1) c.args.changes.now) {X = Child × ℕ} store c.args.store.now c.at_path.new.store c.child_placed.result
    (carries-end store {X = Placed} {Y = Child × ℕ} c.args.store.now c.at_path.new.store _ c.in_ok-placed-in-Known.placed c.child_placed.result c.child_placed.ensures.error c.in_ok-placed-in-Known.ensures.carries)

pub at_nibble-returns-in_ok-placed-in-Known-clause-child : goal.at_nibble-returns-in_ok-placed-in-Known-clause-child
at_nibble-returns-in_ok-placed-in-Known-clause-child g t c =
    let store = g.T.Texts.store in
    let place = c.behind-former.ensures.place (store.texts c.args.store.now) c.args.depth c.requires.parent in
    let some = some-changes c.args.changes.now c.if-is_empty.ensures in
    let touched = known-touched _ (c.args.depth + 1) c.behind-former.result _ place c.args.changes.now some c.in-Known.old c.in-Known.is in
    IfOk-weaker c.child_placed.result _ _ (λ child is. child-placed (c.args.depth + 1) _ _ _ _ _ _ touched (length-changes_at (c.args.depth + 1) c.args.changes.now) (parent_names c.args.parent.now c.args.nibble) c.args.ledger.now c.at_path.new.ledger c.in_ok-placed-in-Known.placed c.in_ok-placed-in-Known.ensures.placed
    (known-keeps _ (c.args.depth + 1) c.behind-former.result _ place c.args.changes.now some c.in-Known.old c.in-Known.is c.in_ok-placed-in-Known.ensures.keeps) child is.0 is.1) c.child_placed.ensures.child

pub at_nibble-returns-in_ok-placed-in-Named-clause-carries : goal.at_nibble-returns-in_ok-placed-in-Named-clause-carries
at_nibble-returns-in_ok-placed-in-Named-clause-carries g t c =
    let store = g.T.Texts.store in
    let place = c.behind-former.ensures.place (store.texts c.args.store.now) c.args.depth c.requires.parent in
    let some = some-changes c.args.changes.now c.if-is_empty.ensures in
    let touched = named-touched _ (c.args.depth + 1) c.behind-former.result _ place c.args.changes.now some c.in-Named.digest c.in-Named.is in
    carries-placed (c.args.depth + 1) _ _ _ _ _ _ touched (length-changes_at (c.args.depth + 1) c.args.changes.now) {X = Child × ℕ} store c.args.store.now c.at_digest.new.store c.child_placed-in-Named.result
    (carries-end store {X = Placed} {Y = Child × ℕ} c.args.store.now c.at_digest.new.store _ c.in_ok-placed-in-Named.placed c.child_placed-in-Named.result c.child_placed-in-Named.ensures.error c.in_ok-placed-in-Named.ensures.carries)

pub at_nibble-returns-in_ok-placed-in-Named-clause-child : goal.at_nibble-returns-in_ok-placed-in-Named-clause-child
at_nibble-returns-in_ok-placed-in-Named-clause-child g t c =
    let store = g.T.Texts.store in
    let place = c.behind-former.ensures.place (store.texts c.args.store.now) c.args.depth c.requires.parent in
    let some = some-changes c.args.changes.now c.if-is_empty.ensures in
    let touched = named-touched _ (c.args.depth + 1) c.behind-former.result _ place c.args.changes.now some c.in-Named.digest c.in-Named.is in
    IfOk-weaker c.child_placed-in-Named.result _ _ (λ child is. child-placed (c.args.depth + 1) _ _ _ _ _ _ touched (length-changes_at (c.args.depth + 1) c.args.changes.now) (parent_names c.args.parent.now c.args.nibble) c.args.ledger.now c.at_digest.new.ledger c.in_ok-placed-in-Named.placed c.in_ok-placed-in-Named.ensures.placed
    (named-keeps _ (c.args.depth + 1) c.behind-former.result _ place c.args.changes.now some c.in-Named.digest c.in-Named.is c.in_ok-placed-in-Named.ensures.keeps) child is.0 is.1) c.child_placed-in-Named.ensures.child

pub at_nibbles-run_length-requires-clause-rises : goal.at_nibbles-run_length-requires-clause-rises
at_nibbles-run_length-requires-clause-rises g t c = c.loop-nibble.invariant.left.changes.rises

pub at_nibbles-run_length-requires-clause-from : goal.at_nibbles-run_length-requires-clause-from
at_nibbles-run_length-requires-clause-from g t c = c.loop-nibble.invariant.left.from

pub at_nibbles-split_at-requires : goal.at_nibbles-split_at-requires
at_nibbles-split_at-requires g t c =
    let short = run-short c.loop-nibble.nibble (changes_at c.args.depth c.loop-nibble.rest.now) in
    let long = length-changes_at c.args.depth c.loop-nibble.rest.now in
    let is = c.run_length.ensures in
    omega arith

pub at_nibbles-at_nibble-requires : goal.at_nibbles-at_nibble-requires
at_nibbles-at_nibble-requires g t c =
    let store = g.T.Texts.store in
    let ref = option_map value_of c.args.former in
    let table = store.texts c.args.store.now in
    let places = place_behind table c.args.depth c.args.parent.now in
    let deep = lent-deep c.args.depth c.args.changes.now c.requires.changes c.requires.some in
    let fewer = turn-fewer store (parent_names c.args.parent.now) c.args.depth ref places c.args.changes.now c.loop-nibble.rest.now c.loop-nibble.nibble c.loop-nibble.children.items c.loop-nibble.stated c.args.store.now c.loop-nibble.store c.args.ledger.now c.loop-nibble.ledger c.loop-nibble.invariant c.split_at.result.0.now c.split_at.result.1.now c.run_length.result c.run_length.ensures c.split_at.ensures.front c.split_at.ensures.back in
    let few = c.requires.few in
    λ κs h. (search rules, (h, (turn-changes store (parent_names c.args.parent.now) c.args.depth ref places c.args.changes.now c.loop-nibble.rest.now c.loop-nibble.nibble c.loop-nibble.children.items c.loop-nibble.stated c.args.store.now c.loop-nibble.store c.args.ledger.now c.loop-nibble.ledger c.loop-nibble.invariant c.split_at.result.0.now c.split_at.result.1.now c.run_length.result c.run_length.ensures c.split_at.ensures.front c.split_at.ensures.back, (omega arith, (turn-room store (parent_names c.args.parent.now) c.args.depth ref places c.args.changes.now c.loop-nibble.rest.now c.loop-nibble.nibble c.loop-nibble.children.items c.loop-nibble.stated c.args.store.now c.loop-nibble.store c.args.ledger.now c.loop-nibble.ledger c.loop-nibble.invariant c.split_at.result.0.now c.split_at.result.1.now c.run_length.result c.run_length.ensures c.split_at.ensures.front c.split_at.ensures.back c.requires.room, (c.loop-nibble.invariant.named, (c.requires.parent, (c.loop-nibble-test.true, omega arith))))))))

pub at_nibbles-returns-in_err-child-clause-carries : goal.at_nibbles-returns-in_err-child-clause-carries
at_nibbles-returns-in_err-child-clause-carries g t c =
    let store = g.T.Texts.store in
    let ref = option_map value_of c.args.former in
    let table = store.texts c.args.store.now in
    let places = place_behind table c.args.depth c.args.parent.now in
    let texts = g.met.T.Texts.alike_texts c.args.store.now c.loop-nibble.store c.loop-nibble.invariant.carries.left.same in
    let now = store.texts c.loop-nibble.store in
    let place = ap (λ t. place_behind t c.args.depth c.args.parent.now c.loop-nibble.nibble) (sym texts) in
    carries-passed store {X = Left × ℕ} {Y = Left × ℕ} c.args.store.now c.at_nibble.new.store (visits_below (λ x. place_visits (places x) (run_at (changes_at c.args.depth c.args.changes.now) x)) 16) c.in_err-child.field-0.0 c.from_residual-in_err-child.result c.from_residual-in_err-child.ensures.1
    (turn-stopped store (parent_names c.args.parent.now) c.args.depth ref places c.args.changes.now c.loop-nibble.rest.now c.loop-nibble.nibble c.loop-nibble.children.items c.loop-nibble.stated c.args.store.now c.loop-nibble.store c.args.ledger.now c.loop-nibble.ledger c.loop-nibble.invariant c.split_at.result.0.now c.split_at.result.1.now c.run_length.result c.run_length.ensures c.split_at.ensures.front c.split_at.ensures.back (place_behind now c.args.depth c.args.parent.now c.loop-nibble.nibble) place {X = Child × ℕ} {Y = Left × ℕ} g.met.T.Texts.alike_onward c.at_nibble.new.store c.in_err-child.field-0.0 c.loop-nibble-test.true c.in_err-child.ensures.carries)

pub at_nibbles-returns-in_err-push-clause-carries : goal.at_nibbles-returns-in_err-push-clause-carries
at_nibbles-returns-in_err-push-clause-carries g t c =
    let store = g.T.Texts.store in
    let ref = option_map value_of c.args.former in
    let table = store.texts c.args.store.now in
    let places = place_behind table c.args.depth c.args.parent.now in
    let texts = g.met.T.Texts.alike_texts c.args.store.now c.loop-nibble.store c.loop-nibble.invariant.carries.left.same in
    let now = store.texts c.loop-nibble.store in
    let place = ap (λ t. place_behind t c.args.depth c.args.parent.now c.loop-nibble.nibble) (sym texts) in
    carries-passed store {X = Left × ℕ} {Y = Left × ℕ} c.args.store.now c.at_nibble.new.store (visits_below (λ x. place_visits (places x) (run_at (changes_at c.args.depth c.args.changes.now) x)) 16) NoMemory c.from_residual-in_err-push.result
    c.from_residual-in_err-push.ensures.1
    (turn-short store (parent_names c.args.parent.now) c.args.depth ref places c.args.changes.now c.loop-nibble.rest.now c.loop-nibble.nibble c.loop-nibble.children.items c.loop-nibble.stated c.args.store.now c.loop-nibble.store c.args.ledger.now c.loop-nibble.ledger c.loop-nibble.invariant c.split_at.result.0.now c.split_at.result.1.now c.run_length.result c.run_length.ensures c.split_at.ensures.front c.split_at.ensures.back (place_behind now c.args.depth c.args.parent.now c.loop-nibble.nibble) place c.at_nibble.new.store c.at_nibble.new.ledger (c.in_ok-child.child, c.in_ok-child.used) c.in_ok-child.ensures.child g.met.T.Texts.alike_onward c.in_ok-child.ensures.carries {Y = Left × ℕ} c.loop-nibble-test.true)

pub at_nibbles-returns-clause-carries : goal.at_nibbles-returns-clause-carries
at_nibbles-returns-clause-carries g t c =
    let store = g.T.Texts.store in
    let ref = option_map value_of c.args.former in
    let table = store.texts c.args.store.now in
    let places = place_behind table c.args.depth c.args.parent.now in
    let done : c.loop-nibble.nibble ≡ 16 = omega arith in
    end-carries store (parent_names c.args.parent.now) c.args.depth ref places c.args.changes.now c.loop-nibble.rest.now c.loop-nibble.nibble c.loop-nibble.children.items c.loop-nibble.stated c.args.store.now c.loop-nibble.store c.args.ledger.now c.loop-nibble.ledger c.loop-nibble.invariant done {Y = Left × ℕ} _

pub at_nibbles-returns-clause-parted : goal.at_nibbles-returns-clause-parted
at_nibbles-returns-clause-parted g t c =
    let store = g.T.Texts.store in
    let ref = option_map value_of c.args.former in
    let table = store.texts c.args.store.now in
    let places = place_behind table c.args.depth c.args.parent.now in
    let done : c.loop-nibble.nibble ≡ 16 = omega arith in
    end-parted store (parent_names c.args.parent.now) c.args.depth ref places c.args.changes.now c.loop-nibble.rest.now c.loop-nibble.nibble c.loop-nibble.children.items c.loop-nibble.stated c.args.store.now c.loop-nibble.store c.args.ledger.now c.loop-nibble.ledger c.loop-nibble.invariant done (record { value = c.in_ok-value.value; children = c.loop-nibble.children }) refl
    (c.in_ok-value.ensures.value ∙ ap (λ h. ref_after ref h) c.ending.ensures.value)

pub at_old-returns-in_err-placed-clause-carries : goal.at_old-returns-in_err-placed-clause-carries
at_old-returns-in_err-placed-clause-carries g t c =
    let store = g.T.Texts.store in
    let old = c.args.store.now in
    let new = c.at_path.new.store in
    let table = store.texts old in
    let cs = changes_at c.args.depth c.args.changes.now in
    let below = seen_past table c.args.depth 0 c.args.old.now in
    let top = old_past 0 c.args.old.now in
    let first = top_visits below top cs in
    let second = closed c.args.digest.now.0 c.args.stated (c.args.own + top_stated below top cs) in
    carries-passed store {X = Placed} {Y = Placed} old new (before first second) c.in_err-placed.field-0.0 c.from_residual.result c.from_residual.ensures.1
    (carries-stopped store {X = Placed} {Y = Placed} old new first second c.in_err-placed.field-0.0 c.in_err-placed.ensures.carries)

pub at_old-returns-in_err-states_enough-clause-carries : goal.at_old-returns-in_err-states_enough-clause-carries
at_old-returns-in_err-states_enough-clause-carries g t c =
    let store = g.T.Texts.store in
    let old = c.args.store.now in
    let new = c.at_path.new.store in
    let table = store.texts old in
    let cs = changes_at c.args.depth c.args.changes.now in
    let below = seen_past table c.args.depth 0 c.args.old.now in
    let top = old_past 0 c.args.old.now in
    let first = top_visits below top cs in
    let second = closed c.args.digest.now.0 c.args.stated (c.args.own + top_stated below top cs) in
    let told = c.in_ok-placed.ensures.placed.stated in
    let sum = c.saturating_add.ensures in
    let most = c.requires.most in
    let less = c.in_err-states_enough.ensures.less in
    let fewer : c.args.stated < c.args.own + top_stated below top cs = (let l = less.1 in omega arith) in
    let all = carries-then store {X = Placed} {Y = Placed} g.met.T.Texts.alike_onward old new new first second c.in_ok-placed.placed _ c.in_ok-placed.ensures.carries (carries-less store {X = Placed} new c.args.digest.now c.args.stated (c.args.own + top_stated below top cs) (g.met.T.Texts.alike_itself new) fewer) in
    carries-passed store {X = Placed} {Y = Placed} old new (before first second) (Usage c.args.digest.now) c.from_residual-in_err-states_enough.result
    (subst (λ e. IsErrAnd c.from_residual-in_err-states_enough.result (λ given. given ≡ e)) less.0 c.from_residual-in_err-states_enough.ensures.1) all

pub at_old-returns-clause-carries : goal.at_old-returns-clause-carries
at_old-returns-clause-carries g t c =
    let store = g.T.Texts.store in
    let old = c.args.store.now in
    let new = c.at_path.new.store in
    let table = store.texts old in
    let cs = changes_at c.args.depth c.args.changes.now in
    let below = seen_past table c.args.depth 0 c.args.old.now in
    let top = old_past 0 c.args.old.now in
    let first = top_visits below top cs in
    let second = closed c.args.digest.now.0 c.args.stated (c.args.own + top_stated below top cs) in
    let told = c.in_ok-placed.ensures.placed.stated in
    let sum = c.saturating_add.ensures in
    let most = c.requires.most in
    let enough = c.in_ok-states_enough.ensures.enough in
    let fewer : c.args.own + top_stated below top cs ≤ c.args.stated = omega arith in
    carries-then store {X = Placed} {Y = Placed} g.met.T.Texts.alike_onward old new new first second c.in_ok-placed.placed _ c.in_ok-placed.ensures.carries (carries-closed store {X = Placed} new c.args.digest.now.0 c.args.stated (c.args.own + top_stated below top cs) _ (g.met.T.Texts.alike_itself new) fewer)

pub at_path-overflow_add-below : goal.at_path-overflow_add-below
at_path-overflow_add-below g t c =
    let deep = lent-deep (c.args.depth + c.shared_length-shared.result) c.args.changes.now c.shared_length-shared.ensures.deeper c.requires.some in
    record { fits = omega arith }

pub at_path-returns-in_err-placed-in-Some-clause-carries : goal.at_path-returns-in_err-placed-in-Some-clause-carries
at_path-returns-in_err-placed-in-Some-clause-carries g t c =
    let store = g.T.Texts.store in
    let old = c.args.store.now in
    let table = store.texts old in
    let shared = c.shared_length-shared in
    let count = shared.result in
    let below = c.args.depth + count in
    let changes = c.args.changes.now in
    let stood = c.args.old.now in
    let d = some-lent changes c.requires.some in
    let visits = path-visits table c.args.depth count changes d stood c.requires.some shared.ensures.deeper shared.ensures.keys shared.ensures.begin in
    let led = led-some table below count stood c.in-Some.child.now c.in-Some.ensures in
    let more = changes-some below changes c.requires.some in
    let cs = changes_at below changes in
    let led_is = led-visits table below count stood c.in-Some.child.now led cs more in
    let new = c.at_digest.new.store in
    let whole = top_visits (seen_past table c.args.depth 0 stood) (old_past 0 stood) (changes_at c.args.depth changes) in
    carries-passed store {X = Placed} {Y = Placed} old new whole c.in_err-placed-in-Some.field-0.0 c.from_residual.result c.from_residual.ensures.1
    (subst (λ v. Carries {X = Placed} store old new v (Err c.in_err-placed-in-Some.field-0.0)) (sym (visits ∙ led_is)) c.in_err-placed-in-Some.ensures.carries)

pub at_path-at_fork-requires : goal.at_path-at_fork-requires
at_path-at_fork-requires g t c =
    let store = g.T.Texts.store in
    let old = c.args.store.now in
    let table = store.texts old in
    let shared = c.shared_length-shared in
    let count = shared.result in
    let below = c.args.depth + count in
    let changes = c.args.changes.now in
    let stood = c.args.old.now in
    let d = some-lent changes c.requires.some in
    let visits = path-visits table c.args.depth count changes d stood c.requires.some shared.ensures.deeper shared.ensures.keys shared.ensures.begin in
    let reaches = reaches-begin c.args.depth changes count stood shared.ensures.begin in
    λ κs h. (search rules, (h, (shared.ensures.deeper, (c.requires.some, (c.requires.few, (c.requires.room, (c.requires.named, (path-fits table c.args.depth count changes d stood c.requires.some shared.ensures.deeper shared.ensures.keys shared.ensures.begin c.requires.old, (reaches, led-none count stood c.in-None.ensures reaches)))))))))

pub at_path-returns-in_err-placed-in-None-clause-carries : goal.at_path-returns-in_err-placed-in-None-clause-carries
at_path-returns-in_err-placed-in-None-clause-carries g t c =
    let store = g.T.Texts.store in
    let old = c.args.store.now in
    let table = store.texts old in
    let shared = c.shared_length-shared in
    let count = shared.result in
    let changes = c.args.changes.now in
    let stood = c.args.old.now in
    let d = some-lent changes c.requires.some in
    let visits = path-visits table c.args.depth count changes d stood c.requires.some shared.ensures.deeper shared.ensures.keys shared.ensures.begin in
    let new = c.at_fork.new.store in
    let whole = top_visits (seen_past table c.args.depth 0 stood) (old_past 0 stood) (changes_at c.args.depth changes) in
    carries-passed store {X = Placed} {Y = Placed} old new whole c.in_err-placed-in-None.field-0.0 c.from_residual-in_err-placed-in-None.result c.from_residual-in_err-placed-in-None.ensures.1
    (subst (λ v. Carries {X = Placed} store old new v (Err c.in_err-placed-in-None.field-0.0)) (sym visits) c.in_err-placed-in-None.ensures.carries)

pub at_path-returns-in_ok-placed-in-Some-clause-carries : goal.at_path-returns-in_ok-placed-in-Some-clause-carries
at_path-returns-in_ok-placed-in-Some-clause-carries g t c =
    let store = g.T.Texts.store in
    let old = c.args.store.now in
    let table = store.texts old in
    let shared = c.shared_length-shared in
    let count = shared.result in
    let below = c.args.depth + count in
    let changes = c.args.changes.now in
    let stood = c.args.old.now in
    let d = some-lent changes c.requires.some in
    let visits = path-visits table c.args.depth count changes d stood c.requires.some shared.ensures.deeper shared.ensures.keys shared.ensures.begin in
    let led = led-some table below count stood c.in-Some.child.now c.in-Some.ensures in
    let more = changes-some below changes c.requires.some in
    let cs = changes_at below changes in
    let led_is = led-visits table below count stood c.in-Some.child.now led cs more in
    let new = c.at_digest.new.store in
    let whole = top_visits (seen_past table c.args.depth 0 stood) (old_past 0 stood) (changes_at c.args.depth changes) in
    carries-end store {X = Placed} {Y = Placed} old new whole c.in_ok-placed-in-Some.placed c.lower.result c.lower.ensures.error
    (subst (λ v. Carries {X = Placed} store old new v (Ok c.in_ok-placed-in-Some.placed)) (sym (visits ∙ led_is)) c.in_ok-placed-in-Some.ensures.carries)

pub at_path-returns-in_ok-placed-in-Some-clause-placed : goal.at_path-returns-in_ok-placed-in-Some-clause-placed
at_path-returns-in_ok-placed-in-Some-clause-placed g t c =
    let store = g.T.Texts.store in
    let old = c.args.store.now in
    let table = store.texts old in
    let shared = c.shared_length-shared in
    let count = shared.result in
    let below = c.args.depth + count in
    let changes = c.args.changes.now in
    let stood = c.args.old.now in
    let d = some-lent changes c.requires.some in
    let led = led-some table below count stood c.in-Some.child.now c.in-Some.ensures in
    let more = changes-some below changes c.requires.some in
    let there = seen_at table below true c.in-Some.child.now.0 in
    let cs = changes_at below changes in
    if_ok-both c.lower.result _ _ _ (λ lower top stated. path-placed table c.args.depth count changes d stood c.requires.some shared.ensures.deeper shared.ensures.keys shared.ensures.begin (updated there cs) (stated_usage there) (length changes) c.args.ledger.now c.at_digest.new.ledger c.in_ok-placed-in-Some.placed lower
    (led-outcome table below count stood c.in-Some.child.now led cs more) (led-stated table below count stood c.in-Some.child.now led cs more) c.in_ok-placed-in-Some.ensures.placed (top d) stated) c.lower.ensures.top c.lower.ensures.stated

pub at_path-returns-in_ok-placed-in-Some-clause-keeps : goal.at_path-returns-in_ok-placed-in-Some-clause-keeps
at_path-returns-in_ok-placed-in-Some-clause-keeps g t c =
    let store = g.T.Texts.store in
    let old = c.args.store.now in
    let table = store.texts old in
    let shared = c.shared_length-shared in
    let count = shared.result in
    let below = c.args.depth + count in
    let changes = c.args.changes.now in
    let stood = c.args.old.now in
    let d = some-lent changes c.requires.some in
    let led = led-some table below count stood c.in-Some.child.now c.in-Some.ensures in
    let more = changes-some below changes c.requires.some in
    let cs = changes_at below changes in
    let keeps = path-keeps table c.args.depth count changes d stood c.requires.some shared.ensures.deeper shared.ensures.keys shared.ensures.begin (led-keeps table below count stood c.in-Some.child.now led cs more c.in_ok-placed-in-Some.ensures.keeps) in
    IfOk-weaker c.lower.result _ (λ _. TopKeeps c.args.depth (seen_past table c.args.depth 0 stood) (old_past 0 stood) (changes_at c.args.depth changes)) (λ lower e. keeps) c.lower.ensures.stated

pub at_path-returns-in_ok-placed-in-None-clause-carries : goal.at_path-returns-in_ok-placed-in-None-clause-carries
at_path-returns-in_ok-placed-in-None-clause-carries g t c =
    let store = g.T.Texts.store in
    let old = c.args.store.now in
    let table = store.texts old in
    let shared = c.shared_length-shared in
    let count = shared.result in
    let changes = c.args.changes.now in
    let stood = c.args.old.now in
    let d = some-lent changes c.requires.some in
    let visits = path-visits table c.args.depth count changes d stood c.requires.some shared.ensures.deeper shared.ensures.keys shared.ensures.begin in
    let new = c.at_fork.new.store in
    let whole = top_visits (seen_past table c.args.depth 0 stood) (old_past 0 stood) (changes_at c.args.depth changes) in
    carries-end store {X = Placed} {Y = Placed} old new whole c.in_ok-placed-in-None.placed c.lower-in-None.result c.lower-in-None.ensures.error
    (subst (λ v. Carries {X = Placed} store old new v (Ok c.in_ok-placed-in-None.placed)) (sym visits) c.in_ok-placed-in-None.ensures.carries)

pub at_path-returns-in_ok-placed-in-None-clause-placed : goal.at_path-returns-in_ok-placed-in-None-clause-placed
at_path-returns-in_ok-placed-in-None-clause-placed g t c =
    let store = g.T.Texts.store in
    let old = c.args.store.now in
    let table = store.texts old in
    let shared = c.shared_length-shared in
    let count = shared.result in
    let below = c.args.depth + count in
    let changes = c.args.changes.now in
    let stood = c.args.old.now in
    let d = some-lent changes c.requires.some in
    let base = old_past count stood in
    let seen = seen_past table below count stood in
    let cs = changes_at below changes in
    let forks = led-none count stood c.in-None.ensures (reaches-begin c.args.depth changes count stood shared.ensures.begin) in
    let child : List Change → Outcome = λ ds. updated seen ds in
    if_ok-both c.lower-in-None.result _ _ _ (λ lower top stated. path-placed table c.args.depth count changes d stood c.requires.some shared.ensures.deeper shared.ensures.keys shared.ensures.begin (fork_outcome (laid child) base cs) (top_stated seen base cs) (length changes) c.args.ledger.now c.at_fork.new.ledger c.in_ok-placed-in-None.placed lower
    (laid-fork child base cs forks) refl c.in_ok-placed-in-None.ensures.placed (top d) stated) c.lower-in-None.ensures.top c.lower-in-None.ensures.stated

pub at_path-returns-in_ok-placed-in-None-clause-keeps : goal.at_path-returns-in_ok-placed-in-None-clause-keeps
at_path-returns-in_ok-placed-in-None-clause-keeps g t c =
    let store = g.T.Texts.store in
    let old = c.args.store.now in
    let table = store.texts old in
    let shared = c.shared_length-shared in
    let count = shared.result in
    let changes = c.args.changes.now in
    let stood = c.args.old.now in
    let d = some-lent changes c.requires.some in
    let keeps = path-keeps table c.args.depth count changes d stood c.requires.some shared.ensures.deeper shared.ensures.keys shared.ensures.begin c.in_ok-placed-in-None.ensures.keeps in
    IfOk-weaker c.lower-in-None.result _ (λ _. TopKeeps c.args.depth (seen_past table c.args.depth 0 stood) (old_past 0 stood) (changes_at c.args.depth changes)) (λ lower e. keeps) c.lower-in-None.ensures.stated

pub at_nibbles-loop-nibble-init : goal.at_nibbles-loop-nibble-init
at_nibbles-loop-nibble-init g t c =
    let store = g.T.Texts.store in
    let ref = option_map value_of c.args.former in
    let table = store.texts c.args.store.now in
    let places = place_behind table c.args.depth c.args.parent.now in
    subst (λ items. IsGathered store (parent_names c.args.parent.now) c.args.depth ref places c.args.changes.now c.ending.result.1.now 0 items 0 c.args.store.now c.args.store.now c.args.ledger.now c.value_after.new.ledger) (sym c.in_ok-children.ensures.items)
    (gathered-none store (parent_names c.args.parent.now) c.args.depth ref places c.args.changes.now c.ending.result.1.now c.args.store.now c.args.ledger.now c.value_after.new.ledger c.ending.result.0 c.ending.ensures.value c.ending.ensures.left c.ending.ensures.fewer c.requires.named c.in_ok-value.ensures.grows c.in_ok-value.ensures.names (g.met.T.Texts.alike_itself c.args.store.now))

pub at_nibbles-loop-nibble-preserved : goal.at_nibbles-loop-nibble-preserved
at_nibbles-loop-nibble-preserved g t c =
    let store = g.T.Texts.store in
    let ref = option_map value_of c.args.former in
    let table = store.texts c.args.store.now in
    let places = place_behind table c.args.depth c.args.parent.now in
    let texts = g.met.T.Texts.alike_texts c.args.store.now c.loop-nibble.store c.loop-nibble.invariant.carries.left.same in
    let now = store.texts c.loop-nibble.store in
    let place = ap (λ t. place_behind t c.args.depth c.args.parent.now c.loop-nibble.nibble) (sym texts) in
    let more = turn-more store (parent_names c.args.parent.now) c.args.depth ref places c.args.changes.now c.loop-nibble.rest.now c.loop-nibble.nibble c.loop-nibble.children.items c.loop-nibble.stated c.args.store.now c.loop-nibble.store c.args.ledger.now c.loop-nibble.ledger c.loop-nibble.invariant c.split_at.result.0.now c.split_at.result.1.now c.run_length.result c.run_length.ensures c.split_at.ensures.front c.split_at.ensures.back (place_behind now c.args.depth c.args.parent.now c.loop-nibble.nibble) place c.at_nibble.new.store c.at_nibble.new.ledger (c.in_ok-child.child, c.in_ok-child.used) c.in_ok-child.ensures.child g.met.T.Texts.alike_onward c.in_ok-child.ensures.carries c.push.new.children.items c.in_ok-push.ensures.items c.loop-nibble-test.true in
    subst (λ n. IsGathered store (parent_names c.args.parent.now) c.args.depth ref places c.args.changes.now c.split_at.result.1.now (c.loop-nibble.nibble + 1) c.push.new.children.items n c.args.store.now c.at_nibble.new.store c.args.ledger.now c.at_nibble.new.ledger) (sym c.saturating_add-stated.ensures) more
