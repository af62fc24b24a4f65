use Rattle.std.proofs.Common.{rules, ◌≡◌, ◌<◌, ◌≤◌, ℕ, List, length, Ok, Err, None, Some, refl, sym, subst, arith}
use Rattle.byte_model.specs.Nibbles.{nibbles}
use Rattle.trie_model.specs.Root.{Table}
use Rattle.trie_model.specs.State.{rows_of}
use Rattle.visit_model.specs.Visits.{listing_visits}
use Rattle.visit_model.proofs.ListedRows.{listing-rises}
use Rattle.base_core.proofs.PassedOn.{passed_on}
use Rattle.trie_read.specs.declared.walk.Walk.{Walk}
use Rattle.trie_read.specs.Walks.{Stacked}
use Rattle.trie_read.specs.Listings.{Passed, AnswersPlace, AnswersPair}
use Rattle.trie_read.proofs.Stacks.{Stacked-pop, Stacked-widen}
use Rattle.trie_read.proofs.ListingProgress.{place-passed, no-value, value-added}
use Rattle.trie_read.proofs.ListingVisits.{Answered, no_root, listed_none, at_root, all_visited, enough_visited, place-refused, pair-refused, list-state, place-shorter, none_of_length, rows_of-length}
use Rattle.trie_read.proofs.listing.list.Goals as goal

pub returns-then-eq-clause-after : goal.returns-then-eq-clause-after
returns-then-eq-clause-after g c =
    let table = g.T.Texts.store.texts c.args.store.now in
    let path = nibbles c.args.from.now in
    let visits = listing_visits table c.args.root.now.0 c.args.from.now c.args.most in
    let all = listed_none g.T.Texts.store c.args.store.now visits c.args.most c.new-pairs.result (g.met.T.Texts.alike_itself c.args.store.now) (no_root table c.args.root.now.0 path c.args.most c.if-eq.ensures) c.new-pairs.ensures.state c.new-pairs.ensures.most in
    all.leaves

pub returns-then-eq-clause-answer : goal.returns-then-eq-clause-answer
returns-then-eq-clause-answer g c =
    let table = g.T.Texts.store.texts c.args.store.now in
    let path = nibbles c.args.from.now in
    let visits = listing_visits table c.args.root.now.0 c.args.from.now c.args.most in
    let all = listed_none g.T.Texts.store c.args.store.now visits c.args.most c.new-pairs.result (g.met.T.Texts.alike_itself c.args.store.now) (no_root table c.args.root.now.0 path c.args.most c.if-eq.ensures) c.new-pairs.ensures.state c.new-pairs.ensures.most in
    all.answers

pub returns-then-eq-clause-state : goal.returns-then-eq-clause-state
returns-then-eq-clause-state g c =
    let table = g.T.Texts.store.texts c.args.store.now in
    let path = nibbles c.args.from.now in
    let visits = listing_visits table c.args.root.now.0 c.args.from.now c.args.most in
    let all = listed_none g.T.Texts.store c.args.store.now visits c.args.most c.new-pairs.result (g.met.T.Texts.alike_itself c.args.store.now) (no_root table c.args.root.now.0 path c.args.most c.if-eq.ensures) c.new-pairs.ensures.state c.new-pairs.ensures.most in
    list-state table c.args.root.now.0 c.args.from.now c.args.most (Ok c.new-pairs.result) all.answers

pub loop-alloc-init : goal.loop-alloc-init
loop-alloc-init g c =
    at_root g.T.Texts.store c.args.store.now (g.T.Texts.store.texts c.args.store.now) c.args.root.now (nibbles c.args.from.now) c.args.most c.in_ok-walk.walk c.new-pairs.result (g.met.T.Texts.alike_itself c.args.store.now) c.if-eq.ensures c.in_ok-walk.ensures.path c.in_ok-walk.ensures.pending c.new-pairs.ensures.state c.new-pairs.ensures.most

pub returns-in_default-clause-after : goal.returns-in_default-clause-after
returns-in_default-clause-after g c =
    let table = g.T.Texts.store.texts c.args.store.now in
    let path = nibbles c.args.from.now in
    let visits = listing_visits table c.args.root.now.0 c.args.from.now c.args.most in
    let empty_now : length c.loop-alloc.walk.pending.items ≡ 0 = search rules in
    let all = all_visited g.T.Texts.store c.args.store.now c.loop-alloc.store table path visits c.args.most c.loop-alloc.walk c.loop-alloc.pairs c.loop-alloc.invariant (none_of_length c.loop-alloc.walk.pending.items empty_now) in
    all.leaves

pub returns-in_default-clause-answer : goal.returns-in_default-clause-answer
returns-in_default-clause-answer g c =
    let table = g.T.Texts.store.texts c.args.store.now in
    let path = nibbles c.args.from.now in
    let visits = listing_visits table c.args.root.now.0 c.args.from.now c.args.most in
    let empty_now : length c.loop-alloc.walk.pending.items ≡ 0 = search rules in
    let all = all_visited g.T.Texts.store c.args.store.now c.loop-alloc.store table path visits c.args.most c.loop-alloc.walk c.loop-alloc.pairs c.loop-alloc.invariant (none_of_length c.loop-alloc.walk.pending.items empty_now) in
    all.answers

pub returns-in_default-clause-state : goal.returns-in_default-clause-state
returns-in_default-clause-state g c =
    let table = g.T.Texts.store.texts c.args.store.now in
    let path = nibbles c.args.from.now in
    let visits = listing_visits table c.args.root.now.0 c.args.from.now c.args.most in
    let empty_now : length c.loop-alloc.walk.pending.items ≡ 0 = search rules in
    let all = all_visited g.T.Texts.store c.args.store.now c.loop-alloc.store table path visits c.args.most c.loop-alloc.walk c.loop-alloc.pairs c.loop-alloc.invariant (none_of_length c.loop-alloc.walk.pending.items empty_now) in
    list-state table c.args.root.now.0 c.args.from.now c.args.most (Ok c.loop-alloc.pairs) all.answers

pub visit_place-requires-clause-place : goal.visit_place-requires-clause-place
visit_place-requires-clause-place g c =
    let top = Stacked-pop (length c.loop-alloc.walk.path.items) c.pop.new.self.items c.in-Some.place (subst (Stacked (length c.loop-alloc.walk.path.items)) c.in-Some.ensures.items c.loop-alloc.invariant.walk_is.stacked) in
    top.is

pub visit_place-requires-clause-walk : goal.visit_place-requires-clause-walk
visit_place-requires-clause-walk g c =
    let top = Stacked-pop (length c.loop-alloc.walk.path.items) c.pop.new.self.items c.in-Some.place (subst (Stacked (length c.loop-alloc.walk.path.items)) c.in-Some.ensures.items c.loop-alloc.invariant.walk_is.stacked) in
    record { small = c.loop-alloc.invariant.walk_is.small; stacked = Stacked-widen c.in-Some.place.prefix (length c.loop-alloc.walk.path.items) c.pop.new.self.items top.is.prefix top.stacked }

pub visit_place-requires-clause-stacked : goal.visit_place-requires-clause-stacked
visit_place-requires-clause-stacked g c =
    let top = Stacked-pop (length c.loop-alloc.walk.path.items) c.pop.new.self.items c.in-Some.place (subst (Stacked (length c.loop-alloc.walk.path.items)) c.in-Some.ensures.items c.loop-alloc.invariant.walk_is.stacked) in
    top.stacked

pub returns-in_err-found-clause-after : goal.returns-in_err-found-clause-after
returns-in_err-found-clause-after g c =
    let table = g.T.Texts.store.texts c.args.store.now in
    let path = nibbles c.args.from.now in
    let visits = listing_visits table c.args.root.now.0 c.args.from.now c.args.most in
    let popped : Walk = record { path = c.loop-alloc.walk.path; pending = c.pop.new.self } in
    let same = sym (g.met.T.Texts.alike_texts c.args.store.now c.loop-alloc.store c.loop-alloc.invariant.left.same) in
    let room : length (rows_of c.loop-alloc.pairs.state) < c.args.most = (let count = rows_of-length c.loop-alloc.pairs.state in let few = c.len.ensures.len in let test = c.loop-alloc-test.true in omega arith) in
    let error = c.in_err-found.field-0.0 in
    let answer = subst (λ (t : Table). AnswersPlace t path popped c.visit_place.new.walk c.in-Some.place (Err error)) same c.in_err-found.ensures.answer in
    let all = passed_on (Answered g.T.Texts.store c.args.store.now c.visit_place.new.store visits c.args.most) c.from_residual-in_err-found.result error c.from_residual-in_err-found.ensures.1
    (place-refused g.T.Texts.store c.args.store.now c.loop-alloc.store c.visit_place.new.store table path visits c.args.most c.loop-alloc.walk popped c.visit_place.new.walk c.loop-alloc.pairs c.in-Some.place error g.met.T.Texts.alike_onward c.loop-alloc.invariant room c.in-Some.ensures.items refl answer c.in_err-found.ensures.left) in
    all.leaves

pub returns-in_err-found-clause-answer : goal.returns-in_err-found-clause-answer
returns-in_err-found-clause-answer g c =
    let table = g.T.Texts.store.texts c.args.store.now in
    let path = nibbles c.args.from.now in
    let visits = listing_visits table c.args.root.now.0 c.args.from.now c.args.most in
    let popped : Walk = record { path = c.loop-alloc.walk.path; pending = c.pop.new.self } in
    let same = sym (g.met.T.Texts.alike_texts c.args.store.now c.loop-alloc.store c.loop-alloc.invariant.left.same) in
    let room : length (rows_of c.loop-alloc.pairs.state) < c.args.most = (let count = rows_of-length c.loop-alloc.pairs.state in let few = c.len.ensures.len in let test = c.loop-alloc-test.true in omega arith) in
    let error = c.in_err-found.field-0.0 in
    let answer = subst (λ (t : Table). AnswersPlace t path popped c.visit_place.new.walk c.in-Some.place (Err error)) same c.in_err-found.ensures.answer in
    let all = passed_on (Answered g.T.Texts.store c.args.store.now c.visit_place.new.store visits c.args.most) c.from_residual-in_err-found.result error c.from_residual-in_err-found.ensures.1
    (place-refused g.T.Texts.store c.args.store.now c.loop-alloc.store c.visit_place.new.store table path visits c.args.most c.loop-alloc.walk popped c.visit_place.new.walk c.loop-alloc.pairs c.in-Some.place error g.met.T.Texts.alike_onward c.loop-alloc.invariant room c.in-Some.ensures.items refl answer c.in_err-found.ensures.left) in
    all.answers

pub returns-in_err-found-clause-state : goal.returns-in_err-found-clause-state
returns-in_err-found-clause-state g c =
    let table = g.T.Texts.store.texts c.args.store.now in
    let path = nibbles c.args.from.now in
    let visits = listing_visits table c.args.root.now.0 c.args.from.now c.args.most in
    let popped : Walk = record { path = c.loop-alloc.walk.path; pending = c.pop.new.self } in
    let same = sym (g.met.T.Texts.alike_texts c.args.store.now c.loop-alloc.store c.loop-alloc.invariant.left.same) in
    let room : length (rows_of c.loop-alloc.pairs.state) < c.args.most = (let count = rows_of-length c.loop-alloc.pairs.state in let few = c.len.ensures.len in let test = c.loop-alloc-test.true in omega arith) in
    let error = c.in_err-found.field-0.0 in
    let answer = subst (λ (t : Table). AnswersPlace t path popped c.visit_place.new.walk c.in-Some.place (Err error)) same c.in_err-found.ensures.answer in
    let all = passed_on (Answered g.T.Texts.store c.args.store.now c.visit_place.new.store visits c.args.most) c.from_residual-in_err-found.result error c.from_residual-in_err-found.ensures.1
    (place-refused g.T.Texts.store c.args.store.now c.loop-alloc.store c.visit_place.new.store table path visits c.args.most c.loop-alloc.walk popped c.visit_place.new.walk c.loop-alloc.pairs c.in-Some.place error g.met.T.Texts.alike_onward c.loop-alloc.invariant room c.in-Some.ensures.items refl answer c.in_err-found.ensures.left) in
    list-state table c.args.root.now.0 c.args.from.now c.args.most c.from_residual-in_err-found.result all.answers

pub loop-alloc-smaller : goal.loop-alloc-smaller
loop-alloc-smaller g c =
    let table = g.T.Texts.store.texts c.args.store.now in
    let path = nibbles c.args.from.now in
    let visits = listing_visits table c.args.root.now.0 c.args.from.now c.args.most in
    let popped : Walk = record { path = c.loop-alloc.walk.path; pending = c.pop.new.self } in
    let same = sym (g.met.T.Texts.alike_texts c.args.store.now c.loop-alloc.store c.loop-alloc.invariant.left.same) in
    let answered = subst (λ (t : Table). Passed t path popped c.visit_place.new.walk c.in-Some.place c.in_ok-found.found) same c.in_ok-found.ensures.answer in
    let passed = subst (Passed table path popped c.visit_place.new.walk c.in-Some.place) c.in_default-found.is answered in
    place-shorter table path c.loop-alloc.walk popped c.visit_place.new.walk c.in-Some.place None c.in-Some.ensures.items refl passed

pub loop-alloc-preserved : goal.loop-alloc-preserved
loop-alloc-preserved g c =
    let table = g.T.Texts.store.texts c.args.store.now in
    let path = nibbles c.args.from.now in
    let visits = listing_visits table c.args.root.now.0 c.args.from.now c.args.most in
    let popped : Walk = record { path = c.loop-alloc.walk.path; pending = c.pop.new.self } in
    let same = sym (g.met.T.Texts.alike_texts c.args.store.now c.loop-alloc.store c.loop-alloc.invariant.left.same) in
    let room : length (rows_of c.loop-alloc.pairs.state) < c.args.most = (let count = rows_of-length c.loop-alloc.pairs.state in let few = c.len.ensures.len in let test = c.loop-alloc-test.true in omega arith) in
    let answered = subst (λ (t : Table). Passed t path popped c.visit_place.new.walk c.in-Some.place c.in_ok-found.found) same c.in_ok-found.ensures.answer in
    let passed = subst (Passed table path popped c.visit_place.new.walk c.in-Some.place) c.in_default-found.is answered in
    let between = place-passed g.T.Texts.store c.args.store.now c.loop-alloc.store c.visit_place.new.store table path visits c.args.most c.loop-alloc.walk popped c.visit_place.new.walk c.loop-alloc.pairs c.in-Some.place None g.met.T.Texts.alike_onward c.loop-alloc.invariant room c.in-Some.ensures.items refl passed c.in_ok-found.ensures.left in
    no-value g.T.Texts.store c.args.store.now c.visit_place.new.store table path visits c.args.most c.visit_place.new.walk c.loop-alloc.pairs between

pub returns-in_err-add_pair-clause-after : goal.returns-in_err-add_pair-clause-after
returns-in_err-add_pair-clause-after g c =
    let table = g.T.Texts.store.texts c.args.store.now in
    let path = nibbles c.args.from.now in
    let visits = listing_visits table c.args.root.now.0 c.args.from.now c.args.most in
    let popped : Walk = record { path = c.loop-alloc.walk.path; pending = c.pop.new.self } in
    let same = sym (g.met.T.Texts.alike_texts c.args.store.now c.loop-alloc.store c.loop-alloc.invariant.left.same) in
    let room : length (rows_of c.loop-alloc.pairs.state) < c.args.most = (let count = rows_of-length c.loop-alloc.pairs.state in let few = c.len.ensures.len in let test = c.loop-alloc-test.true in omega arith) in
    let answered = subst (λ (t : Table). Passed t path popped c.visit_place.new.walk c.in-Some.place c.in_ok-found.found) same c.in_ok-found.ensures.answer in
    let passed = subst (Passed table path popped c.visit_place.new.walk c.in-Some.place) c.in-Some-found.is answered in
    let between = place-passed g.T.Texts.store c.args.store.now c.loop-alloc.store c.visit_place.new.store table path visits c.args.most c.loop-alloc.walk popped c.visit_place.new.walk c.loop-alloc.pairs c.in-Some.place (Some c.in-Some-found.value) g.met.T.Texts.alike_onward c.loop-alloc.invariant room c.in-Some.ensures.items refl passed c.in_ok-found.ensures.left in
    let later = sym (g.met.T.Texts.alike_texts c.args.store.now c.visit_place.new.store between.left.same) in
    let error = c.in_err-add_pair.field-0.0 in
    let given = subst (λ (t : Table). AnswersPair t c.as_slice.result.now c.in-Some-found.value c.loop-alloc.pairs c.add_pair.new.pairs (Err error)) later c.in_err-add_pair.ensures.answer in
    let answer = subst (λ (p : List ℕ). AnswersPair table p c.in-Some-found.value c.loop-alloc.pairs c.add_pair.new.pairs (Err error)) c.as_slice.ensures.value given in
    let all = passed_on (Answered g.T.Texts.store c.args.store.now c.add_pair.new.store visits c.args.most) c.from_residual-in_err-add_pair.result error c.from_residual-in_err-add_pair.ensures.1
    (pair-refused g.T.Texts.store c.args.store.now c.visit_place.new.store c.add_pair.new.store table path visits c.args.most c.visit_place.new.walk c.loop-alloc.pairs c.add_pair.new.pairs c.in-Some-found.value error g.met.T.Texts.alike_onward between answer c.in_err-add_pair.ensures.left) in
    all.leaves

pub returns-in_err-add_pair-clause-answer : goal.returns-in_err-add_pair-clause-answer
returns-in_err-add_pair-clause-answer g c =
    let table = g.T.Texts.store.texts c.args.store.now in
    let path = nibbles c.args.from.now in
    let visits = listing_visits table c.args.root.now.0 c.args.from.now c.args.most in
    let popped : Walk = record { path = c.loop-alloc.walk.path; pending = c.pop.new.self } in
    let same = sym (g.met.T.Texts.alike_texts c.args.store.now c.loop-alloc.store c.loop-alloc.invariant.left.same) in
    let room : length (rows_of c.loop-alloc.pairs.state) < c.args.most = (let count = rows_of-length c.loop-alloc.pairs.state in let few = c.len.ensures.len in let test = c.loop-alloc-test.true in omega arith) in
    let answered = subst (λ (t : Table). Passed t path popped c.visit_place.new.walk c.in-Some.place c.in_ok-found.found) same c.in_ok-found.ensures.answer in
    let passed = subst (Passed table path popped c.visit_place.new.walk c.in-Some.place) c.in-Some-found.is answered in
    let between = place-passed g.T.Texts.store c.args.store.now c.loop-alloc.store c.visit_place.new.store table path visits c.args.most c.loop-alloc.walk popped c.visit_place.new.walk c.loop-alloc.pairs c.in-Some.place (Some c.in-Some-found.value) g.met.T.Texts.alike_onward c.loop-alloc.invariant room c.in-Some.ensures.items refl passed c.in_ok-found.ensures.left in
    let later = sym (g.met.T.Texts.alike_texts c.args.store.now c.visit_place.new.store between.left.same) in
    let error = c.in_err-add_pair.field-0.0 in
    let given = subst (λ (t : Table). AnswersPair t c.as_slice.result.now c.in-Some-found.value c.loop-alloc.pairs c.add_pair.new.pairs (Err error)) later c.in_err-add_pair.ensures.answer in
    let answer = subst (λ (p : List ℕ). AnswersPair table p c.in-Some-found.value c.loop-alloc.pairs c.add_pair.new.pairs (Err error)) c.as_slice.ensures.value given in
    let all = passed_on (Answered g.T.Texts.store c.args.store.now c.add_pair.new.store visits c.args.most) c.from_residual-in_err-add_pair.result error c.from_residual-in_err-add_pair.ensures.1
    (pair-refused g.T.Texts.store c.args.store.now c.visit_place.new.store c.add_pair.new.store table path visits c.args.most c.visit_place.new.walk c.loop-alloc.pairs c.add_pair.new.pairs c.in-Some-found.value error g.met.T.Texts.alike_onward between answer c.in_err-add_pair.ensures.left) in
    all.answers

pub returns-in_err-add_pair-clause-state : goal.returns-in_err-add_pair-clause-state
returns-in_err-add_pair-clause-state g c =
    let table = g.T.Texts.store.texts c.args.store.now in
    let path = nibbles c.args.from.now in
    let visits = listing_visits table c.args.root.now.0 c.args.from.now c.args.most in
    let popped : Walk = record { path = c.loop-alloc.walk.path; pending = c.pop.new.self } in
    let same = sym (g.met.T.Texts.alike_texts c.args.store.now c.loop-alloc.store c.loop-alloc.invariant.left.same) in
    let room : length (rows_of c.loop-alloc.pairs.state) < c.args.most = (let count = rows_of-length c.loop-alloc.pairs.state in let few = c.len.ensures.len in let test = c.loop-alloc-test.true in omega arith) in
    let answered = subst (λ (t : Table). Passed t path popped c.visit_place.new.walk c.in-Some.place c.in_ok-found.found) same c.in_ok-found.ensures.answer in
    let passed = subst (Passed table path popped c.visit_place.new.walk c.in-Some.place) c.in-Some-found.is answered in
    let between = place-passed g.T.Texts.store c.args.store.now c.loop-alloc.store c.visit_place.new.store table path visits c.args.most c.loop-alloc.walk popped c.visit_place.new.walk c.loop-alloc.pairs c.in-Some.place (Some c.in-Some-found.value) g.met.T.Texts.alike_onward c.loop-alloc.invariant room c.in-Some.ensures.items refl passed c.in_ok-found.ensures.left in
    let later = sym (g.met.T.Texts.alike_texts c.args.store.now c.visit_place.new.store between.left.same) in
    let error = c.in_err-add_pair.field-0.0 in
    let given = subst (λ (t : Table). AnswersPair t c.as_slice.result.now c.in-Some-found.value c.loop-alloc.pairs c.add_pair.new.pairs (Err error)) later c.in_err-add_pair.ensures.answer in
    let answer = subst (λ (p : List ℕ). AnswersPair table p c.in-Some-found.value c.loop-alloc.pairs c.add_pair.new.pairs (Err error)) c.as_slice.ensures.value given in
    let all = passed_on (Answered g.T.Texts.store c.args.store.now c.add_pair.new.store visits c.args.most) c.from_residual-in_err-add_pair.result error c.from_residual-in_err-add_pair.ensures.1
    (pair-refused g.T.Texts.store c.args.store.now c.visit_place.new.store c.add_pair.new.store table path visits c.args.most c.visit_place.new.walk c.loop-alloc.pairs c.add_pair.new.pairs c.in-Some-found.value error g.met.T.Texts.alike_onward between answer c.in_err-add_pair.ensures.left) in
    list-state table c.args.root.now.0 c.args.from.now c.args.most c.from_residual-in_err-add_pair.result all.answers

pub loop-alloc-smaller-in-Continue-branch-3 : goal.loop-alloc-smaller-in-Continue-branch-3
loop-alloc-smaller-in-Continue-branch-3 g c =
    let table = g.T.Texts.store.texts c.args.store.now in
    let path = nibbles c.args.from.now in
    let visits = listing_visits table c.args.root.now.0 c.args.from.now c.args.most in
    let popped : Walk = record { path = c.loop-alloc.walk.path; pending = c.pop.new.self } in
    let same = sym (g.met.T.Texts.alike_texts c.args.store.now c.loop-alloc.store c.loop-alloc.invariant.left.same) in
    let answered = subst (λ (t : Table). Passed t path popped c.visit_place.new.walk c.in-Some.place c.in_ok-found.found) same c.in_ok-found.ensures.answer in
    let passed = subst (Passed table path popped c.visit_place.new.walk c.in-Some.place) c.in-Some-found.is answered in
    place-shorter table path c.loop-alloc.walk popped c.visit_place.new.walk c.in-Some.place (Some c.in-Some-found.value) c.in-Some.ensures.items refl passed

pub loop-alloc-preserved-in-Continue-branch-3 : goal.loop-alloc-preserved-in-Continue-branch-3
loop-alloc-preserved-in-Continue-branch-3 g c =
    let table = g.T.Texts.store.texts c.args.store.now in
    let path = nibbles c.args.from.now in
    let visits = listing_visits table c.args.root.now.0 c.args.from.now c.args.most in
    let popped : Walk = record { path = c.loop-alloc.walk.path; pending = c.pop.new.self } in
    let same = sym (g.met.T.Texts.alike_texts c.args.store.now c.loop-alloc.store c.loop-alloc.invariant.left.same) in
    let room : length (rows_of c.loop-alloc.pairs.state) < c.args.most = (let count = rows_of-length c.loop-alloc.pairs.state in let few = c.len.ensures.len in let test = c.loop-alloc-test.true in omega arith) in
    let answered = subst (λ (t : Table). Passed t path popped c.visit_place.new.walk c.in-Some.place c.in_ok-found.found) same c.in_ok-found.ensures.answer in
    let passed = subst (Passed table path popped c.visit_place.new.walk c.in-Some.place) c.in-Some-found.is answered in
    let between = place-passed g.T.Texts.store c.args.store.now c.loop-alloc.store c.visit_place.new.store table path visits c.args.most c.loop-alloc.walk popped c.visit_place.new.walk c.loop-alloc.pairs c.in-Some.place (Some c.in-Some-found.value) g.met.T.Texts.alike_onward c.loop-alloc.invariant room c.in-Some.ensures.items refl passed c.in_ok-found.ensures.left in
    let later = sym (g.met.T.Texts.alike_texts c.args.store.now c.visit_place.new.store between.left.same) in
    let given = subst (λ (t : Table). AnswersPair t c.as_slice.result.now c.in-Some-found.value c.loop-alloc.pairs c.add_pair.new.pairs (Ok tt)) later c.in_ok-add_pair.ensures.answer in
    let answer = subst (λ (p : List ℕ). AnswersPair table p c.in-Some-found.value c.loop-alloc.pairs c.add_pair.new.pairs (Ok tt)) c.as_slice.ensures.value given in
    value-added g.T.Texts.store c.args.store.now c.visit_place.new.store c.add_pair.new.store table path visits c.args.most c.visit_place.new.walk c.loop-alloc.pairs c.add_pair.new.pairs c.in-Some-found.value g.met.T.Texts.alike_onward (listing-rises table c.args.root.now.0 c.args.from.now c.args.most) between answer c.in_ok-add_pair.ensures.left

pub returns-clause-after : goal.returns-clause-after
returns-clause-after g c =
    let table = g.T.Texts.store.texts c.args.store.now in
    let path = nibbles c.args.from.now in
    let visits = listing_visits table c.args.root.now.0 c.args.from.now c.args.most in
    let enough : c.args.most ≤ length (rows_of c.loop-alloc.pairs.state) = (let count = rows_of-length c.loop-alloc.pairs.state in let few = c.len.ensures.len in let most : c.args.most ≤ c.len.result = search rules in omega arith) in
    let all = enough_visited g.T.Texts.store c.args.store.now c.loop-alloc.store table path visits c.args.most c.loop-alloc.walk c.loop-alloc.pairs c.loop-alloc.invariant enough in
    all.leaves

pub returns-clause-answer : goal.returns-clause-answer
returns-clause-answer g c =
    let table = g.T.Texts.store.texts c.args.store.now in
    let path = nibbles c.args.from.now in
    let visits = listing_visits table c.args.root.now.0 c.args.from.now c.args.most in
    let enough : c.args.most ≤ length (rows_of c.loop-alloc.pairs.state) = (let count = rows_of-length c.loop-alloc.pairs.state in let few = c.len.ensures.len in let most : c.args.most ≤ c.len.result = search rules in omega arith) in
    let all = enough_visited g.T.Texts.store c.args.store.now c.loop-alloc.store table path visits c.args.most c.loop-alloc.walk c.loop-alloc.pairs c.loop-alloc.invariant enough in
    all.answers

pub returns-clause-state : goal.returns-clause-state
returns-clause-state g c =
    let table = g.T.Texts.store.texts c.args.store.now in
    let path = nibbles c.args.from.now in
    let visits = listing_visits table c.args.root.now.0 c.args.from.now c.args.most in
    let enough : c.args.most ≤ length (rows_of c.loop-alloc.pairs.state) = (let count = rows_of-length c.loop-alloc.pairs.state in let few = c.len.ensures.len in let most : c.args.most ≤ c.len.result = search rules in omega arith) in
    let all = enough_visited g.T.Texts.store c.args.store.now c.loop-alloc.store table path visits c.args.most c.loop-alloc.walk c.loop-alloc.pairs c.loop-alloc.invariant enough in
    list-state table c.args.root.now.0 c.args.from.now c.args.most (Ok c.loop-alloc.pairs) all.answers
