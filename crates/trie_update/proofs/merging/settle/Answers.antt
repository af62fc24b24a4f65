use Rattle.std.proofs.Common.{◌≡◌, ◌<◌, ◌≤◌, ◌+◌, ◌-◌, ℕ, [], ◌++◌, Option, option_map, ap, ap₂, sym, subst, ◌∙◌, append-nil, arith}
use Rattle.std.specs.Prelude.{IsErrAnd}
use Rattle.node_codec.specs.declared.value_ref.ValueRef.{ValueRef}
use Rattle.node_codec.specs.Meanings.{children_in, value_of}
use Rattle.change_model.specs.Visits.{before, closed, merge_visits, merge_usage}
use Rattle.update_model.specs.Joins.{Joint, joint}
use Rattle.update_model.specs.Updates.{merged_kids, merged_lost}
use Rattle.update_model.proofs.JointsAlike.{joint-agree}
use Rattle.trie_shape.specs.declared.sub.Sub.{Sub}
use Rattle.trie_update.specs.declared.joining.Left.{Left}
use Rattle.trie_update.specs.declared.errors.UpdateError.TheVariants.{NoMemory, Usage}
use Rattle.trie_update.specs.Merges.{lone_named, seen_kids}
use Rattle.trie_update.specs.Subs.{CanJoin, kid_at}
use Rattle.trie_update.proofs.Adding.{adds-then, adds-same}
use Rattle.trie_update.proofs.Carrying.{carries-then, carries-stopped, carries-closed, carries-late, carries-less, carries-ok, carries-passed}
use Rattle.trie_update.proofs.Lones.{can-join-agree}
use Rattle.trie_update.proofs.merging.settle.Goals as goal

pub returns-in_err-left-clause-carries : goal.returns-in_err-left-clause-carries
returns-in_err-left-clause-carries g c =
    let store = g.T.Texts.store in
    let names = children_in c.args.former.now.kids.now in
    let old = c.args.store.now in
    let table = store.texts old in
    let ref = option_map value_of c.args.left.value in
    let items = c.args.left.children.items in
    let seen = seen_kids table c.args.depth (kid_at names items) in
    let merged = lone_named ref (kid_at names items) in
    let new = c.merge.new.store in
    let first = merge_visits seen merged in
    let second = closed c.args.former.now.digest.now.0 c.args.former.now.stated (c.args.above + merge_usage seen merged) in
    carries-passed store old new (before first second) c.in_err-left.field-0.0 c.from_residual.result c.from_residual.ensures.1
    (carries-stopped store {X = Left × ℕ} {Y = Sub} old new first second c.in_err-left.field-0.0 c.in_err-left.ensures.carries)

pub returns-in_err-states_enough-clause-carries : goal.returns-in_err-states_enough-clause-carries
returns-in_err-states_enough-clause-carries g c =
    let store = g.T.Texts.store in
    let names = children_in c.args.former.now.kids.now in
    let old = c.args.store.now in
    let table = store.texts old in
    let ref = option_map value_of c.args.left.value in
    let items = c.args.left.children.items in
    let kids = kid_at names items in
    let seen = seen_kids table c.args.depth kids in
    let merged = lone_named ref kids in
    let new = c.merge.new.store in
    let first = merge_visits seen merged in
    let parts = c.args.above + merge_usage seen merged in
    let second = closed c.args.former.now.digest.now.0 c.args.former.now.stated parts in
    let is = c.in_ok-left.ensures.merged in
    let stated = is.stated in
    let sum = c.saturating_add-parts.ensures in
    let most = c.requires.former.most in
    let less = c.in_err-states_enough.ensures.less in
    let fewer : c.args.former.now.stated < c.args.above + merge_usage seen merged = (let l = less.1 in omega arith) in
    let all = carries-then store {X = Left × ℕ} {Y = Sub} g.met.T.Texts.alike_onward old new new first second (c.in_ok-left.left, c.in_ok-left.merged) _ c.in_ok-left.ensures.carries (carries-less store {X = Sub} new c.args.former.now.digest.now c.args.former.now.stated parts (g.met.T.Texts.alike_itself new) fewer) in
    carries-passed store {X = Sub} {Y = Sub} old new (before first second) (Usage c.args.former.now.digest.now) c.from_residual-in_err-states_enough.result
    (subst (λ e. IsErrAnd c.from_residual-in_err-states_enough.result (λ given. given ≡ e)) less.0 c.from_residual-in_err-states_enough.ensures.1) all

pub join-requires-clause-joins : goal.join-requires-clause-joins
join-requires-clause-joins g c =
    let store = g.T.Texts.store in
    let names = children_in c.args.former.now.kids.now in
    let old = c.args.store.now in
    let table = store.texts old in
    let ref = option_map value_of c.args.left.value in
    let items = c.args.left.children.items in
    let kids = kid_at names items in
    let seen = seen_kids table c.args.depth kids in
    let merged = lone_named ref kids in
    let new = c.merge.new.store in
    let first = merge_visits seen merged in
    let parts = c.args.above + merge_usage seen merged in
    let second = closed c.args.former.now.digest.now.0 c.args.former.now.stated parts in
    let is = c.in_ok-left.ensures.merged in
    let stated = is.stated in
    let sum = c.saturating_add-parts.ensures in
    let most = c.requires.former.most in
    let enough = c.in_ok-states_enough.ensures.enough in
    let fewer : c.args.above + merge_usage seen merged ≤ c.args.former.now.stated = omega arith in
    let used : c.args.former.now.stated - c.saturating_add-parts.result ≡ c.args.former.now.stated - (c.args.above + merge_usage seen merged) = omega arith in
    let can = c.requires.joins c.in_ok-left.ensures.carries.answer is.stands fewer in
    subst (λ n. CanJoin (option_map value_of c.in_ok-left.left.value) (kid_at names c.in_ok-left.left.children.items) n) (sym used)
    (subst (λ v. CanJoin (option_map value_of v) (kid_at names c.in_ok-left.left.children.items) (c.args.former.now.stated - (c.args.above + merge_usage seen merged))) (sym is.value)
    (can-join-agree ref (kid_at names c.in_ok-left.left.children.items) (merged_kids merged seen kids) (c.args.former.now.stated - (c.args.above + merge_usage seen merged)) is.kids can))

pub returns-clause-carries : goal.returns-clause-carries
returns-clause-carries g c =
    let store = g.T.Texts.store in
    let names = children_in c.args.former.now.kids.now in
    let old = c.args.store.now in
    let table = store.texts old in
    let ref = option_map value_of c.args.left.value in
    let items = c.args.left.children.items in
    let kids = kid_at names items in
    let seen = seen_kids table c.args.depth kids in
    let merged = lone_named ref kids in
    let new = c.merge.new.store in
    let first = merge_visits seen merged in
    let parts = c.args.above + merge_usage seen merged in
    let second = closed c.args.former.now.digest.now.0 c.args.former.now.stated parts in
    let is = c.in_ok-left.ensures.merged in
    let stated = is.stated in
    let sum = c.saturating_add-parts.ensures in
    let most = c.requires.former.most in
    let enough = c.in_ok-states_enough.ensures.enough in
    let fewer : c.args.above + merge_usage seen merged ≤ c.args.former.now.stated = omega arith in
    let used : c.args.former.now.stated - c.saturating_add-parts.result ≡ c.args.former.now.stated - (c.args.above + merge_usage seen merged) = omega arith in
    let all = carries-then store {X = Left × ℕ} {Y = ℕ} g.met.T.Texts.alike_onward old new new first second (c.in_ok-left.left, c.in_ok-left.merged) _ c.in_ok-left.ensures.carries (carries-closed store {X = ℕ} new c.args.former.now.digest.now.0 c.args.former.now.stated parts 0 (g.met.T.Texts.alike_itself new) fewer) in
    carries-ok store {X = ℕ} {Y = Sub} old new (before first second) 0 c.in_ok-join.field-0 all

pub returns-in_err-join-clause-carries : goal.returns-in_err-join-clause-carries
returns-in_err-join-clause-carries g c =
    let store = g.T.Texts.store in
    let names = children_in c.args.former.now.kids.now in
    let old = c.args.store.now in
    let table = store.texts old in
    let ref = option_map value_of c.args.left.value in
    let kids = kid_at names c.args.left.children.items in
    let seen = seen_kids table c.args.depth kids in
    let merged = lone_named ref kids in
    let new = c.merge.new.store in
    let first = merge_visits seen merged in
    let parts = c.args.above + merge_usage seen merged in
    let second = closed c.args.former.now.digest.now.0 c.args.former.now.stated parts in
    let stated = c.in_ok-left.ensures.merged.stated in
    let sum = c.saturating_add-parts.ensures in
    let most = c.requires.former.most in
    let enough = c.in_ok-states_enough.ensures.enough in
    let fewer : parts ≤ c.args.former.now.stated = omega arith in
    let all = carries-then store {X = Left × ℕ} {Y = ℕ} g.met.T.Texts.alike_onward old new new first second (c.in_ok-left.left, c.in_ok-left.merged) _ c.in_ok-left.ensures.carries (carries-closed store {X = ℕ} new c.args.former.now.digest.now.0 c.args.former.now.stated parts 0 (g.met.T.Texts.alike_itself new) fewer) in
    carries-passed store {X = ℕ} {Y = Sub} old new (before first second) NoMemory c.from_residual-in_err-join.result c.from_residual-in_err-join.ensures.1 (carries-late store {X = ℕ} {Y = ℕ} old new (before first second) 0 all)

pub returns-clause-top : goal.returns-clause-top
returns-clause-top g c =
    let store = g.T.Texts.store in
    let names = children_in c.args.former.now.kids.now in
    let old = c.args.store.now in
    let table = store.texts old in
    let ref = option_map value_of c.args.left.value in
    let items = c.args.left.children.items in
    let kids = kid_at names items in
    let seen = seen_kids table c.args.depth kids in
    let merged = lone_named ref kids in
    let new = c.merge.new.store in
    let first = merge_visits seen merged in
    let parts = c.args.above + merge_usage seen merged in
    let second = closed c.args.former.now.digest.now.0 c.args.former.now.stated parts in
    let is = c.in_ok-left.ensures.merged in
    let stated = is.stated in
    let sum = c.saturating_add-parts.ensures in
    let most = c.requires.former.most in
    let enough = c.in_ok-states_enough.ensures.enough in
    let fewer : c.args.above + merge_usage seen merged ≤ c.args.former.now.stated = omega arith in
    let used : c.args.former.now.stated - c.saturating_add-parts.result ≡ c.args.former.now.stated - (c.args.above + merge_usage seen merged) = omega arith in
    let left = c.in_ok-left.left in
    let joins : joint (option_map value_of left.value) (kid_at names left.children.items) (c.args.former.now.stated - c.saturating_add-parts.result) ≡ joint ref (merged_kids merged seen kids) (c.args.former.now.stated - (c.args.above + merge_usage seen merged)) =
    ap₂ (λ (v : Option ValueRef) (n : ℕ). joint (option_map value_of v) (kid_at names left.children.items) n) is.value used ∙ joint-agree ref (kid_at names left.children.items) (merged_kids merged seen kids) (c.args.former.now.stated - (c.args.above + merge_usage seen merged)) is.kids in
    c.in_ok-join.ensures.top ∙ ap (λ (j : Joint). j.top) joins

pub returns-clause-adds : goal.returns-clause-adds
returns-clause-adds g c =
    let store = g.T.Texts.store in
    let names = children_in c.args.former.now.kids.now in
    let old = c.args.store.now in
    let table = store.texts old in
    let ref = option_map value_of c.args.left.value in
    let items = c.args.left.children.items in
    let kids = kid_at names items in
    let seen = seen_kids table c.args.depth kids in
    let merged = lone_named ref kids in
    let new = c.merge.new.store in
    let first = merge_visits seen merged in
    let parts = c.args.above + merge_usage seen merged in
    let second = closed c.args.former.now.digest.now.0 c.args.former.now.stated parts in
    let is = c.in_ok-left.ensures.merged in
    let stated = is.stated in
    let sum = c.saturating_add-parts.ensures in
    let most = c.requires.former.most in
    let enough = c.in_ok-states_enough.ensures.enough in
    let fewer : c.args.above + merge_usage seen merged ≤ c.args.former.now.stated = omega arith in
    let used : c.args.former.now.stated - c.saturating_add-parts.result ≡ c.args.former.now.stated - (c.args.above + merge_usage seen merged) = omega arith in
    let left = c.in_ok-left.left in
    let joins : joint (option_map value_of left.value) (kid_at names left.children.items) (c.args.former.now.stated - c.saturating_add-parts.result) ≡ joint ref (merged_kids merged seen kids) (c.args.former.now.stated - (c.args.above + merge_usage seen merged)) =
    ap₂ (λ (v : Option ValueRef) (n : ℕ). joint (option_map value_of v) (kid_at names left.children.items) n) is.value used ∙ joint-agree ref (kid_at names left.children.items) (merged_kids merged seen kids) (c.args.former.now.stated - (c.args.above + merge_usage seen merged)) is.kids in
    let both = adds-then c.args.ledger.now c.merge.new.ledger c.join.new.ledger [] (merged_lost merged seen) 0 0 (joint (option_map value_of left.value) (kid_at names left.children.items) (c.args.former.now.stated - c.saturating_add-parts.result)).made [] 0 0 is.adds c.in_ok-join.ensures.adds in
    adds-same c.args.ledger.now c.join.new.ledger ([] ++ (joint (option_map value_of left.value) (kid_at names left.children.items) (c.args.former.now.stated - c.saturating_add-parts.result)).made) (merged_lost merged seen ++ []) (0 + 0) (0 + 0) (joint ref (merged_kids merged seen kids) (c.args.former.now.stated - (c.args.above + merge_usage seen merged))).made (merged_lost merged seen) 0 0
    (ap (λ (j : Joint). j.made) joins) (append-nil (merged_lost merged seen)) (omega arith) (omega arith) both
