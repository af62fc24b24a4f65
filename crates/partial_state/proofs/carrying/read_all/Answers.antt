use Rattle.std.proofs.Common.{rules, ◌≡◌, ◌<◌, ◌≤◌, ◌+◌, ◌++◌, ◌∷◌, [], ℕ, List, Option, length, drop, sym, ap, subst, ◌∙◌}
use Rattle.std.specs.Prelude.{Vec}
use Rattle.std.specs.declared.alloc.Global.{Global}
use Rattle.std.proofs.lemmas.List.{drop_more, drop_all}
use Rattle.partial_state.proofs.Looked.{IsReading, reading-start, reading-more, reading-refused, reading-short, reading-all}
use Rattle.partial_state.proofs.carrying.read_all.Goals as goal

pub loop-key-init : goal.loop-key-init
loop-key-init g c =
    subst (λ (items : List (Option (List ℕ))). IsReading g.T.Texts.store c.args.store.now c.args.store.now (g.T.Texts.store.texts c.args.store.now) c.args.root.now.0 c.args.reads.now c.args.reads.now items) (sym c.new-answers.ensures.items)
    (reading-start g.T.Texts.store c.args.store.now (g.met.T.Texts.alike_itself c.args.store.now) (g.T.Texts.store.texts c.args.store.now) c.args.root.now.0 c.args.reads.now)

pub returns-in_default-clause-left : goal.returns-in_default-clause-left
returns-in_default-clause-left g c =
    let rest : List (List ℕ) = drop (c.loop-key.key-index + 1) c.args.reads.now in
    let within : c.loop-key.key-index < length c.args.reads.now = search rules in
    let here : drop c.loop-key.key-index c.args.reads.now ≡ c.as_slice.result.now ∷ rest = drop_more c.args.reads.now c.loop-key.key-index _ within ∙ ap (λ (t : List ℕ). t ∷ rest) (sym c.key-item.is ∙ sym c.as_slice.ensures) in
    reading-short g.T.Texts.store c.args.store.now c.read_one.new.store (g.T.Texts.store.texts c.args.store.now) c.args.root.now.0 c.args.reads.now rest (c.loop-key.answers.items ++ c.in-Ok.value ∷ [])
    (reading-more g.T.Texts.store g.met.T.Texts.alike_onward g.met.T.Texts.alike_texts c.args.store.now c.loop-key.store c.read_one.new.store c.args.root.now.0 c.as_slice.result.now c.args.reads.now (drop c.loop-key.key-index c.args.reads.now) rest c.loop-key.answers.items here c.loop-key.invariant c.in-Ok.value c.in-Ok.ensures.answer c.in-Ok.ensures.left)

pub returns-in-Err-clause-answer : goal.returns-in-Err-clause-answer
returns-in-Err-clause-answer g c =
    let rest : List (List ℕ) = drop (c.loop-key.key-index + 1) c.args.reads.now in
    let within : c.loop-key.key-index < length c.args.reads.now = search rules in
    let here : drop c.loop-key.key-index c.args.reads.now ≡ c.as_slice.result.now ∷ rest = drop_more c.args.reads.now c.loop-key.key-index _ within ∙ ap (λ (t : List ℕ). t ∷ rest) (sym c.key-item.is ∙ sym c.as_slice.ensures) in
    (reading-refused g.T.Texts.store g.met.T.Texts.alike_onward g.met.T.Texts.alike_texts c.args.store.now c.loop-key.store c.read_one.new.store c.args.root.now.0 c.as_slice.result.now c.args.reads.now (drop c.loop-key.key-index c.args.reads.now) rest c.loop-key.answers.items here c.loop-key.invariant (λ (answers : Vec (Option (List ℕ)) Global). answers.items) c.in-Err.error c.in-Err.ensures.answer c.in-Err.ensures.left).0

pub returns-in-Err-clause-left : goal.returns-in-Err-clause-left
returns-in-Err-clause-left g c =
    let rest : List (List ℕ) = drop (c.loop-key.key-index + 1) c.args.reads.now in
    let within : c.loop-key.key-index < length c.args.reads.now = search rules in
    let here : drop c.loop-key.key-index c.args.reads.now ≡ c.as_slice.result.now ∷ rest = drop_more c.args.reads.now c.loop-key.key-index _ within ∙ ap (λ (t : List ℕ). t ∷ rest) (sym c.key-item.is ∙ sym c.as_slice.ensures) in
    (reading-refused g.T.Texts.store g.met.T.Texts.alike_onward g.met.T.Texts.alike_texts c.args.store.now c.loop-key.store c.read_one.new.store c.args.root.now.0 c.as_slice.result.now c.args.reads.now (drop c.loop-key.key-index c.args.reads.now) rest c.loop-key.answers.items here c.loop-key.invariant (λ (answers : List (Option (List ℕ))). answers) c.in-Err.error c.in-Err.ensures.answer c.in-Err.ensures.left).1

pub loop-key-preserved : goal.loop-key-preserved
loop-key-preserved g c =
    let rest : List (List ℕ) = drop (c.loop-key.key-index + 1) c.args.reads.now in
    let within : c.loop-key.key-index < length c.args.reads.now = search rules in
    let here : drop c.loop-key.key-index c.args.reads.now ≡ c.as_slice.result.now ∷ rest = drop_more c.args.reads.now c.loop-key.key-index _ within ∙ ap (λ (t : List ℕ). t ∷ rest) (sym c.key-item.is ∙ sym c.as_slice.ensures) in
    subst (λ (items : List (Option (List ℕ))). IsReading g.T.Texts.store c.args.store.now c.read_one.new.store (g.T.Texts.store.texts c.args.store.now) c.args.root.now.0 c.args.reads.now rest items) (sym c.in-Ok-push.ensures.items)
    (reading-more g.T.Texts.store g.met.T.Texts.alike_onward g.met.T.Texts.alike_texts c.args.store.now c.loop-key.store c.read_one.new.store c.args.root.now.0 c.as_slice.result.now c.args.reads.now (drop c.loop-key.key-index c.args.reads.now) rest c.loop-key.answers.items here c.loop-key.invariant c.in-Ok.value c.in-Ok.ensures.answer c.in-Ok.ensures.left)

pub returns-clause-answer : goal.returns-clause-answer
returns-clause-answer g c =
    let over : length c.args.reads.now ≤ c.loop-key.key-index = search rules in
    (reading-all g.T.Texts.store c.args.store.now c.loop-key.store (g.T.Texts.store.texts c.args.store.now) c.args.root.now.0 c.args.reads.now c.loop-key.answers.items
    (subst (λ (keys : List (List ℕ)). IsReading g.T.Texts.store c.args.store.now c.loop-key.store (g.T.Texts.store.texts c.args.store.now) c.args.root.now.0 c.args.reads.now keys c.loop-key.answers.items) (drop_all c.loop-key.key-index c.args.reads.now over) c.loop-key.invariant)).0

pub returns-clause-left : goal.returns-clause-left
returns-clause-left g c =
    let over : length c.args.reads.now ≤ c.loop-key.key-index = search rules in
    (reading-all g.T.Texts.store c.args.store.now c.loop-key.store (g.T.Texts.store.texts c.args.store.now) c.args.root.now.0 c.args.reads.now c.loop-key.answers.items
    (subst (λ (keys : List (List ℕ)). IsReading g.T.Texts.store c.args.store.now c.loop-key.store (g.T.Texts.store.texts c.args.store.now) c.args.root.now.0 c.args.reads.now keys c.loop-key.answers.items) (drop_all c.loop-key.key-index c.args.reads.now over) c.loop-key.invariant)).1
