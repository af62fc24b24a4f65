use Rattle.std.proofs.Common.{[], ◌∷◌, List, ℕ, Some, None, Ok, Err, refl, sym, subst}
use Rattle.std.specs.Borrow.{Bor}
use Rattle.trie_model.specs.Root.{Table}
use Rattle.byte_model.specs.Nibbles.{nibbles}
use Rattle.visit_model.specs.Seen.{seen}
use Rattle.visit_model.specs.Steps.{lookup_steps}
use Rattle.trie_read.specs.Loads.{AnswersValue}
use Rattle.text_store.specs.Leaves.{Leaves}
use Rattle.trie_read.specs.Endings.{read_ended}
use Rattle.trie_read.proofs.LookupVisits.{refused_on_the_way, none_at_the_end, value_at_the_end, refused_at_the_end}
use Rattle.trie_read.proofs.States.{get-state}
use Rattle.trie_read.proofs.lookup.get.Goals as goal

pub returns-in-Err : goal.returns-in-Err
returns-in-Err g c =
    let table = g.T.Texts.store.texts c.args.store.now in
    let steps = lookup_steps (seen table c.args.root.now.0) [] (nibbles c.args.key.now) in
    let all = refused_on_the_way g.T.Texts.store c.args.store.now c.find.new.store table steps (nibbles c.args.key.now) c.in-Err.error c.in-Err.ensures.found in
    ((refl, λ _. tt, all.leaves), record { after = tt; answer = all.answers; state = get-state table c.args.root.now.0 c.args.key.now (Err c.in-Err.error) c.find.ensures.key all.answers })

pub returns-in-Ok-None : goal.returns-in-Ok-None
returns-in-Ok-None g c =
    let table = g.T.Texts.store.texts c.args.store.now in
    let steps = lookup_steps (seen table c.args.root.now.0) [] (nibbles c.args.key.now) in
    let all = none_at_the_end g.T.Texts.store c.args.store.now c.find.new.store table steps (nibbles c.args.key.now) (rw c.in-Ok-None.field-0-is at c.in-Ok-None.ensures.found) in
    ((refl, λ _. tt, all.leaves), record { after = tt; answer = all.answers; state = get-state table c.args.root.now.0 c.args.key.now (Ok None) c.find.ensures.key all.answers })

pub returns-in-Ok : goal.returns-in-Ok
returns-in-Ok g c =
    let table = g.T.Texts.store.texts c.args.store.now in
    let steps = lookup_steps (seen table c.args.root.now.0) [] (nibbles c.args.key.now) in
    let new = c.load_value.follows.lender-at-none in
    let found = rw c.in-Ok-Some.field-0-is at c.in-Ok-Some.ensures.found in
    let same = sym (g.met.T.Texts.alike_texts c.args.store.now c.find.new.store found.left.same) in
    let answer = subst (λ (t : Table). AnswersValue t c.in-Ok-Some.value (Ok c.in-Ok.text)) same c.in-Ok.ensures.answer in
    let left = subst (λ r. Leaves g.T.Texts.store c.find.new.store new (c.in-Ok-Some.value.digest.0 ∷ []) (read_ended {X = Bor (List ℕ)} r)) c.in-Ok.is c.load_value.follows.holds-at-none in
    let all = value_at_the_end g.T.Texts.store c.args.store.now c.find.new.store new table steps (nibbles c.args.key.now) c.in-Ok-Some.value c.in-Ok.text g.met.T.Texts.alike_onward found answer left in
    ((refl, λ _. tt, all.leaves), record { after = tt; answer = all.answers; state = get-state table c.args.root.now.0 c.args.key.now (Ok (Some c.in-Ok.text)) c.find.ensures.key all.answers })

pub returns-in-Err-load_value : goal.returns-in-Err-load_value
returns-in-Err-load_value g c =
    let table = g.T.Texts.store.texts c.args.store.now in
    let steps = lookup_steps (seen table c.args.root.now.0) [] (nibbles c.args.key.now) in
    let new = c.load_value.follows.lender-at-none in
    let found = rw c.in-Ok-Some.field-0-is at c.in-Ok-Some.ensures.found in
    let same = sym (g.met.T.Texts.alike_texts c.args.store.now c.find.new.store found.left.same) in
    let answer = subst (λ (t : Table). AnswersValue t c.in-Ok-Some.value (Err c.in-Err-load_value.error)) same c.in-Err-load_value.ensures.answer in
    let left = subst (λ r. Leaves g.T.Texts.store c.find.new.store new (c.in-Ok-Some.value.digest.0 ∷ []) (read_ended {X = Bor (List ℕ)} r)) c.in-Err-load_value.is c.load_value.follows.holds-at-none in
    let all = refused_at_the_end g.T.Texts.store c.args.store.now c.find.new.store new table steps (nibbles c.args.key.now) c.in-Ok-Some.value c.in-Err-load_value.error g.met.T.Texts.alike_onward found answer left in
    ((refl, λ _. tt, all.leaves), record { after = tt; answer = all.answers; state = get-state table c.args.root.now.0 c.args.key.now (Err c.in-Err-load_value.error) c.find.ensures.key all.answers })
