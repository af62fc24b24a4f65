use Rattle.std.proofs.Common.{rules, ◌≡◌, ◌<◌, ◌≤◌, ◌+◌, ◌∷◌, ℕ, List, length, drop, refl, sym, ap, subst, ◌∙◌}
use Rattle.std.proofs.lemmas.List.{drop_more, drop_all}
use Rattle.recording_model.specs.Replays.{reads_visits}
use Rattle.partial_state.proofs.Looked.{IsPassing, passing-start, passing-more, passing-refused, passing-all}
use Rattle.partial_state.proofs.passing.pass_reads.Goals as goal

pub loop-key-init : goal.loop-key-init
loop-key-init g c = passing-start g.T.Texts.store c.args.store.now (g.met.T.Texts.alike_itself c.args.store.now) (g.T.Texts.store.texts c.args.store.now) c.args.root.now.0 c.args.reads.now

pub returns-in-Err-clause-answer : goal.returns-in-Err-clause-answer
returns-in-Err-clause-answer g c =
    let rest : List (List ℕ) = drop (c.loop-key.key-index + 1) c.args.reads.now in
    let within : c.loop-key.key-index < length c.args.reads.now = search rules in
    let here : drop c.loop-key.key-index c.args.reads.now ≡ c.as_slice.result.now ∷ rest = drop_more c.args.reads.now c.loop-key.key-index _ within ∙ ap (λ (t : List ℕ). t ∷ rest) (sym c.key-item.is ∙ sym c.as_slice.ensures) in
    (passing-refused g.T.Texts.store g.met.T.Texts.alike_onward g.met.T.Texts.alike_texts c.args.store.now c.loop-key.store c.pass_one.new.store c.args.root.now.0 c.as_slice.result.now c.args.reads.now (drop c.loop-key.key-index c.args.reads.now) rest here c.loop-key.invariant (λ (passed : Unit {0}). (reads_visits (g.T.Texts.store.texts c.args.store.now) c.args.root.now.0 c.args.reads.now).answers) c.in-Err.error c.in-Err.ensures.answer c.in-Err.ensures.left).0

pub returns-in-Err-clause-left : goal.returns-in-Err-clause-left
returns-in-Err-clause-left g c =
    let rest : List (List ℕ) = drop (c.loop-key.key-index + 1) c.args.reads.now in
    let within : c.loop-key.key-index < length c.args.reads.now = search rules in
    let here : drop c.loop-key.key-index c.args.reads.now ≡ c.as_slice.result.now ∷ rest = drop_more c.args.reads.now c.loop-key.key-index _ within ∙ ap (λ (t : List ℕ). t ∷ rest) (sym c.key-item.is ∙ sym c.as_slice.ensures) in
    (passing-refused g.T.Texts.store g.met.T.Texts.alike_onward g.met.T.Texts.alike_texts c.args.store.now c.loop-key.store c.pass_one.new.store c.args.root.now.0 c.as_slice.result.now c.args.reads.now (drop c.loop-key.key-index c.args.reads.now) rest here c.loop-key.invariant (λ (passed : Unit {0}). (reads_visits (g.T.Texts.store.texts c.args.store.now) c.args.root.now.0 c.args.reads.now).answers) c.in-Err.error c.in-Err.ensures.answer c.in-Err.ensures.left).1

pub loop-key-preserved : goal.loop-key-preserved
loop-key-preserved g c =
    let rest : List (List ℕ) = drop (c.loop-key.key-index + 1) c.args.reads.now in
    let within : c.loop-key.key-index < length c.args.reads.now = search rules in
    let here : drop c.loop-key.key-index c.args.reads.now ≡ c.as_slice.result.now ∷ rest = drop_more c.args.reads.now c.loop-key.key-index _ within ∙ ap (λ (t : List ℕ). t ∷ rest) (sym c.key-item.is ∙ sym c.as_slice.ensures) in
    passing-more g.T.Texts.store g.met.T.Texts.alike_onward g.met.T.Texts.alike_texts c.args.store.now c.loop-key.store c.pass_one.new.store c.args.root.now.0 c.as_slice.result.now c.args.reads.now (drop c.loop-key.key-index c.args.reads.now) rest here c.loop-key.invariant c.in-Ok.ensures.answer c.in-Ok.ensures.left

pub returns-clause-answer : goal.returns-clause-answer
returns-clause-answer g c =
    let over : length c.args.reads.now ≤ c.loop-key.key-index = search rules in
    let ended = passing-all g.T.Texts.store c.args.store.now c.loop-key.store (g.T.Texts.store.texts c.args.store.now) c.args.root.now.0 c.args.reads.now
    (subst (λ (keys : List (List ℕ)). IsPassing g.T.Texts.store c.args.store.now c.loop-key.store (g.T.Texts.store.texts c.args.store.now) c.args.root.now.0 c.args.reads.now keys) (drop_all c.loop-key.key-index c.args.reads.now over) c.loop-key.invariant) in
    (ended.0, refl)

pub returns-clause-left : goal.returns-clause-left
returns-clause-left g c =
    let over : length c.args.reads.now ≤ c.loop-key.key-index = search rules in
    let ended = passing-all g.T.Texts.store c.args.store.now c.loop-key.store (g.T.Texts.store.texts c.args.store.now) c.args.root.now.0 c.args.reads.now
    (subst (λ (keys : List (List ℕ)). IsPassing g.T.Texts.store c.args.store.now c.loop-key.store (g.T.Texts.store.texts c.args.store.now) c.args.root.now.0 c.args.reads.now keys) (drop_all c.loop-key.key-index c.args.reads.now over) c.loop-key.invariant) in
    ended.1
