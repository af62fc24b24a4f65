use Rattle.std.proofs.Common.{◌≡◌, ◌<◌, ℕ, false, [], length, None, Ok, option_map, refl, ap, sym, subst, ◌∙◌, arith}
use Rattle.std.proofs.Math.ListN.{length-set}
use Rattle.node_codec.specs.Meanings.{children_in, value_of}
use Rattle.change_model.specs.Visits.{merge_visits, merge_usage, visit_alone}
use Rattle.visit_model.specs.Seen.{seen_at}
use Rattle.update_model.specs.Updates.{lost_alone, merged_lost}
use Rattle.trie_shape.specs.declared.sub.Sub.{Sub}
use Rattle.trie_update.specs.declared.joining.Left.{Left}
use Rattle.trie_update.specs.declared.errors.UpdateError.TheVariants.{NoMemory}
use Rattle.trie_update.specs.Carries.{Carries}
use Rattle.trie_update.specs.Merges.{IsFound, MergedStands, lone_named, seen_kids}
use Rattle.trie_update.specs.Subs.{kid_at, top_of_sub}
use Rattle.trie_update.proofs.Adding.{adds-none, adds-same}
use Rattle.trie_update.proofs.Carrying.{carries-none, carries-ok, carries-passed, carries-late}
use Rattle.trie_update.proofs.Lones.{kids-kept, kids-put, visits-found, usage-found, lost-found, stands-found}
use Rattle.trie_update.proofs.merging.merge.Goals as goal

pub returns-in_default-clause-carries : goal.returns-in_default-clause-carries
returns-in_default-clause-carries g c =
    let store = g.T.Texts.store in
    let names = children_in c.args.former.now.kids.now in
    let none = subst (λ items. lone_named (option_map value_of c.args.left.value) (kid_at names items) ≡ None) c.deref.ensures.value c.in_default.ensures in
    let seen = seen_kids (store.texts c.args.store.now) c.args.depth (kid_at names c.args.left.children.items) in
    let all = subst (λ m. Carries {X = ℕ} store c.args.store.now c.args.store.now (merge_visits seen m) (Ok 0)) (sym none) (carries-none store {X = ℕ} c.args.store.now 0 (g.met.T.Texts.alike_itself c.args.store.now)) in
    carries-ok store {X = ℕ} {Y = Left × ℕ} c.args.store.now c.args.store.now (merge_visits seen (lone_named (option_map value_of c.args.left.value) (kid_at names c.args.left.children.items))) 0 _ all

pub returns-in_default-clause-merged : goal.returns-in_default-clause-merged
returns-in_default-clause-merged g c =
    let store = g.T.Texts.store in
    let names = children_in c.args.former.now.kids.now in
    let table = store.texts c.args.store.now in
    let items = c.args.left.children.items in
    let none = subst (λ items. lone_named (option_map value_of c.args.left.value) (kid_at names items) ≡ None) c.deref.ensures.value c.in_default.ensures in
    let seen = seen_kids table c.args.depth (kid_at names items) in
    record {
      value = refl;
      sixteen = c.requires.sixteen;
      kids = λ x small. kids-kept names table c.args.depth (option_map value_of c.args.left.value) items none x;
      stated = sym (ap (λ m. merge_usage seen m) none);
      adds = adds-same c.args.ledger.now c.args.ledger.now [] [] 0 0 [] (merged_lost (lone_named (option_map value_of c.args.left.value) (kid_at names items)) seen) 0 0 refl (sym (ap (λ m. merged_lost m seen) none)) refl refl (adds-none c.args.ledger.now);
      stands = subst (λ m. MergedStands c.args.depth m seen) (sym none) tt;
    }

pub returns-in_err-sub-clause-carries : goal.returns-in_err-sub-clause-carries
returns-in_err-sub-clause-carries g c =
    let store = g.T.Texts.store in
    let names = children_in c.args.former.now.kids.now in
    let old = c.args.store.now in
    let new = c.visit_lone.new.store in
    let items = c.args.left.children.items in
    let found = subst (λ items. IsFound (option_map value_of c.args.left.value) (kid_at names items) c.in-Some.nibble c.in-Some.digest) c.deref.ensures.value c.in-Some.ensures in
    let visits = visits-found names (store.texts old) c.args.depth (option_map value_of c.args.left.value) items c.in-Some.nibble c.in-Some.digest found in
    subst (λ v. Carries {X = Left × ℕ} store old new v c.from_residual.result) (sym visits)
    (carries-passed store old new (visit_alone (seen_at (store.texts old) c.args.depth false c.in-Some.digest.0)) c.in_err-sub.field-0.0 c.from_residual.result c.from_residual.ensures.1 c.in_err-sub.ensures.carries)

pub returns-in_err-children-clause-carries : goal.returns-in_err-children-clause-carries
returns-in_err-children-clause-carries g c =
    let store = g.T.Texts.store in
    let names = children_in c.args.former.now.kids.now in
    let old = c.args.store.now in
    let new = c.visit_lone.new.store in
    let items = c.args.left.children.items in
    let found = subst (λ items. IsFound (option_map value_of c.args.left.value) (kid_at names items) c.in-Some.nibble c.in-Some.digest) c.deref.ensures.value c.in-Some.ensures in
    let visits = visits-found names (store.texts old) c.args.depth (option_map value_of c.args.left.value) items c.in-Some.nibble c.in-Some.digest found in
    let all = subst (λ v. Carries {X = Sub × ℕ} store old new v (Ok (c.in_ok-sub.sub, c.in_ok-sub.stated))) (sym visits) c.in_ok-sub.ensures.carries in
    carries-passed store {X = Left × ℕ} {Y = Left × ℕ} old new _ NoMemory c.from_residual-in_err-children.result
    c.from_residual-in_err-children.ensures.1
    (carries-late store {X = Sub × ℕ} {Y = Left × ℕ} old new _ (c.in_ok-sub.sub, c.in_ok-sub.stated) all)

pub returns-clause-carries : goal.returns-clause-carries
returns-clause-carries g c =
    let store = g.T.Texts.store in
    let names = children_in c.args.former.now.kids.now in
    let old = c.args.store.now in
    let new = c.visit_lone.new.store in
    let items = c.args.left.children.items in
    let found = subst (λ items. IsFound (option_map value_of c.args.left.value) (kid_at names items) c.in-Some.nibble c.in-Some.digest) c.deref.ensures.value c.in-Some.ensures in
    let visits = visits-found names (store.texts old) c.args.depth (option_map value_of c.args.left.value) items c.in-Some.nibble c.in-Some.digest found in
    let seen = seen_kids (store.texts old) c.args.depth (kid_at names items) in
    let all = subst (λ v. Carries {X = Sub × ℕ} store old new v (Ok (c.in_ok-sub.sub, c.in_ok-sub.stated))) (sym visits) c.in_ok-sub.ensures.carries in
    carries-ok store {X = Sub × ℕ} {Y = Left × ℕ} old new (merge_visits seen (lone_named (option_map value_of c.args.left.value) (kid_at names items))) (c.in_ok-sub.sub, c.in_ok-sub.stated) _ all

pub returns-clause-merged : goal.returns-clause-merged
returns-clause-merged g c =
    let store = g.T.Texts.store in
    let names = children_in c.args.former.now.kids.now in
    let table = store.texts c.args.store.now in
    let ref = option_map value_of c.args.left.value in
    let items = c.args.left.children.items in
    let nibble = c.in-Some.nibble in
    let digest = c.in-Some.digest in
    let found = subst (λ items. IsFound ref (kid_at names items) nibble digest) c.deref.ensures.value c.in-Some.ensures in
    let alone = c.in_ok-sub.ensures.alone in
    let seen = seen_kids table c.args.depth (kid_at names items) in
    let inside : nibble < length items = (let small = found.small in let all = c.requires.sixteen in omega arith) in
    let new = c.in_ok-children.field-0 in
    record {
      value = refl;
      sixteen = length-set items nibble new ∙ c.requires.sixteen;
      kids = λ x small. kids-put names table c.args.depth ref items nibble digest found (top_of_sub c.in_ok-sub.sub) new inside (c.in_ok-children.ensures.child (names nibble)) alone.top x;
      stated = alone.stated ∙ sym (usage-found names table c.args.depth ref items nibble digest found);
      adds = adds-same c.args.ledger.now c.visit_lone.new.ledger [] (lost_alone (seen_at table c.args.depth false digest.0)) 0 0 [] (merged_lost (lone_named ref (kid_at names items)) seen) 0 0 refl (sym (lost-found names table c.args.depth ref items nibble digest found)) refl refl alone.adds;
      stands = stands-found names table c.args.depth ref items nibble digest found alone.stands;
    }
