use Rattle.std.proofs.Common.{rules, ◌≡◌, ℕ, List, [], length, drop, Some, sym, ap, ◌∙◌, subst}
use Rattle.std.specs.Prelude.{if◌then◌else◌}
use Rattle.byte_model.specs.Nibbles.{nibbles}
use Rattle.record_model.specs.Fits.{fitting_node}
use Rattle.base_core.proofs.PassedOn.{passed_on}
use Rattle.node_codec.specs.Views.{node_viewed}
use Rattle.trie_read.specs.Endings.{as_listed}
use Rattle.trie_read.specs.Loads.{IsStopped}
use Rattle.trie_read.specs.Walks.{IsWalk, Enters, place_before, place_bound, place_depth}
use Rattle.trie_read.specs.Listings.{AnswersPlace}
use Rattle.trie_read.proofs.HeldNodes.{stopped-text, stopped-node, held-node, sees-node}
use Rattle.trie_read.proofs.PlaceVisits.{before-depth, walk-before, place-stopped, place-passed}
use Rattle.trie_read.proofs.listing.visit_place.Goals as goal

pub returns-in_err-text-clause-answer : goal.returns-in_err-text-clause-answer
returns-in_err-text-clause-answer g c =
    let table = g.T.Texts.store.texts c.args.store.now in
    let place = c.args.place.now in
    let error = c.in_err-text.field-0.0 in
    let why = stopped-text table place.digest (place_depth place) place.after_extension error c.in_err-text.ensures.answer in
    passed_on (AnswersPlace table (nibbles c.args.from.now) c.args.walk.now c.go_to.new.self place) c.from_residual-in_err-text.result (as_listed error) c.from_residual-in_err-text.ensures.1
    (place-stopped table (nibbles c.args.from.now) c.args.walk.now c.go_to.new.self place error c.requires.place.deep why)

pub returns-in_err-node-clause-answer : goal.returns-in_err-node-clause-answer
returns-in_err-node-clause-answer g c =
    let table = g.T.Texts.store.texts c.args.store.now in
    let place = c.args.place.now in
    let error = c.in_err-node.field-0.0 in
    let depth : c.len-depth.result ≡ place_depth c.args.place.now = (let whole : c.len-depth.result ≡ length c.go_to.new.self.path.items = search rules in whole) ∙ ap length c.in_ok-go_to.ensures.path ∙ before-depth c.args.walk.now.path.items c.args.place.now c.requires.place in
    let why = stopped-node table place.digest c.len-depth.result place.after_extension c.in_ok-text.text.now error c.in_ok-text.ensures.answer c.in_err-node.ensures in
    passed_on (AnswersPlace table (nibbles c.args.from.now) c.args.walk.now c.go_to.new.self place) c.from_residual-in_err-node.result (as_listed error) c.from_residual-in_err-node.ensures.1
    (place-stopped table (nibbles c.args.from.now) c.args.walk.now c.go_to.new.self place error c.requires.place.deep (subst (λ (n : ℕ). IsStopped table place.digest n place.after_extension error) depth why))

pub enter-requires-clause-walk : goal.enter-requires-clause-walk
enter-requires-clause-walk g c =
    let walk = walk-before c.args.walk.now.path.items c.args.walk.now.pending.items c.args.place.now c.requires.place c.requires.walk c.requires.stacked in
    subst (λ (p : List ℕ). IsWalk p c.go_to.new.self.pending.items) (sym c.in_ok-go_to.ensures.path) (subst (IsWalk (place_before c.args.walk.now.path.items c.args.place.now)) (sym c.go_to.ensures.pending) walk)

pub returns-clause-answer : goal.returns-clause-answer
returns-clause-answer g c =
    let table = g.T.Texts.store.texts c.args.store.now in
    let from = nibbles c.args.from.now in
    let place = c.args.place.now in
    let n = node_viewed c.in_ok-node.node in
    let usage = c.in_ok-node.field-0-1 in
    let depth : c.len-depth.result ≡ place_depth c.args.place.now = (let whole : c.len-depth.result ≡ length c.go_to.new.self.path.items = search rules in whole) ∙ ap length c.in_ok-go_to.ensures.path ∙ before-depth c.args.walk.now.path.items c.args.place.now c.requires.place in
    let fits = subst (λ (k : ℕ). fitting_node k place.after_extension c.in_ok-text.text.now ≡ Some (n, usage)) depth c.in_ok-node.ensures in
    let sees = sees-node table (place_depth place) place.after_extension place.digest.0 n usage c.requires.place.deep (held-node table (place_depth place) place.after_extension place.digest.0 c.in_ok-text.text.now (Some (n, usage)) c.in_ok-text.ensures.answer fits) in
    let bound : c.bound_at-bound.result ≡ place_bound from place = c.bound_at-bound.ensures ∙ ap (λ (k : ℕ). if place.bounded then drop k from else []) depth in
    place-passed table from c.args.walk.now c.go_to.new.self c.enter.new.self place n usage c.in_ok-value.value c.requires.place c.requires.stacked c.in_ok-go_to.ensures.path c.go_to.ensures.pending sees
    (subst (λ (b : List ℕ). Enters c.go_to.new.self c.enter.new.self n b c.in_ok-value.value) bound c.in_ok-value.ensures)
