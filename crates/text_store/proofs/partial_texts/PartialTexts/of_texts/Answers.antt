use Rattle.std.proofs.Common.{rules, ◌≡◌, ◌<◌, ◌≤◌, [], ◌∷◌, ◌++◌, IfNone, length, get_or, refl, sym, ap, subst, ◌∙◌, arith}
use Rattle.std.proofs.lemmas.List.{length-map}
use Rattle.sha2.specs.Sha256.{sha256}
use Rattle.byte_model.specs.Nibbles.{AreBytes}
use Rattle.partial_model.specs.Texts.{lesser}
use Rattle.text_store.specs.PartialStates.{fresh_entry}
use Rattle.partial_model.proofs.Clashes.{lesser-none}
use Rattle.text_store.proofs.Listing.{bytes_of}
use Rattle.text_store.proofs.Gathering.{Gathers-init, Gathers-more, element, short-bytes, gathered-clash, gathered-all, gathered-entries, gathered-held, unread-fresh, name_of, some_is_none}
use Rattle.text_store.proofs.Naming.{named-at}
use Rattle.text_store.proofs.partial_texts.PartialTexts.of_texts.Goals as goal
use Rattle.text_store.proofs.partial_texts.PartialTexts.of_texts.Goals.{in-Some-2, in_default-2}

pub loop-place-init : goal.loop-place-init
loop-place-init c = Gathers-init (bytes_of c.args.texts.now) _ c.in_ok-held.ensures

pub hold-requires : goal.hold-requires
hold-requires c =
    let long : length (bytes_of c.args.texts.now) ≡ length c.args.texts.now = length-map c.args.texts.now _ in
    ap (λ digest. digest.0) c.index.ensures ∙ named-at c.in_ok-digests.digests.items (bytes_of c.args.texts.now) c.loop-place.place c.index.result.now c.in_ok-digests.ensures (omega (arith, long, c.loop-place-test.true))
    ∙ ap sha256 (element c.args.texts.now c.loop-place.place _ c.in_ok-copy.field-0 refl c.in_ok-copy.ensures.copy)

pub loop-place-preserved : goal.loop-place-preserved
loop-place-preserved c =
    let long : length (bytes_of c.args.texts.now) ≡ length c.args.texts.now = length-map c.args.texts.now _ in
    let within : c.loop-place.place < length (bytes_of c.args.texts.now) = omega (arith, long, c.loop-place-test.true) in
    let here : get_or (bytes_of c.args.texts.now) c.loop-place.place [] ≡ c.in_ok-copy.field-0 = element c.args.texts.now c.loop-place.place _ c.in_ok-copy.field-0 refl c.in_ok-copy.ensures.copy in
    let small : AreBytes c.in_ok-copy.field-0 = subst AreBytes (sym c.in_ok-copy.ensures.copy) c.copy.ensures.bytes in
    elim c.match-branch-5.branch [
      | in-Some-2 w ↦ Gathers-more (bytes_of c.args.texts.now) c.loop-place.place c.in_ok-copy.field-0 c.loop-place.held.entries c.hold.new.held.entries c.loop-place.least c.match-branch-5.least within here small c.in_ok-digest.ensures.has
          (ap name_of w.least-is ∙ w.least_of.ensures ∙ ap (lesser (name_of c.loop-place.least)) (sym (ap name_of w.in-Some-2.is) ∙ c.in_ok-digest.ensures.taken))
          (λ none. absurd (some_is_none w.least_of.result (sym w.least-is ∙ none))) c.loop-place.invariant
      | in_default-2 w ↦ Gathers-more (bytes_of c.args.texts.now) c.loop-place.place c.in_ok-copy.field-0 c.loop-place.held.entries c.hold.new.held.entries c.loop-place.least c.match-branch-5.least within here small c.in_ok-digest.ensures.has
          (ap name_of w.least-is ∙ sym (lesser-none (name_of c.loop-place.least)) ∙ ap (lesser (name_of c.loop-place.least)) (sym (ap name_of w.in_default-2.is) ∙ c.in_ok-digest.ensures.taken))
          (λ none. (subst (λ o. IfNone o (c.hold.new.held.entries ≡ c.loop-place.held.entries ++ fresh_entry c.in_ok-copy.field-0 ∷ [])) w.in_default-2.is c.in_ok-digest.ensures.last, sym w.least-is ∙ none)) c.loop-place.invariant
    ]

pub invariant_of-result : goal.invariant_of-result
invariant_of-result c =
    let long : length (bytes_of c.args.texts.now) ≡ length c.args.texts.now = length-map c.args.texts.now _ in
    let over : length c.args.texts.now ≤ c.loop-place.place = search rules in
    let ended : length (bytes_of c.args.texts.now) ≤ c.loop-place.place = omega (arith, long, over) in
    gathered-held (bytes_of c.args.texts.now) c.loop-place.place c.loop-place.held.entries c.loop-place.least ended c.loop-place.invariant c.in-None.is (sym c.in_default.is ∙ c.fall_among.ensures) (omega (arith, long, c.requires.few)) (short-bytes c.args.texts.now c.requires.short)

pub returns-in-Some-least : goal.returns-in-Some-least
returns-in-Some-least c =
    let long : length (bytes_of c.args.texts.now) ≡ length c.args.texts.now = length-map c.args.texts.now _ in
    let over : length c.args.texts.now ≤ c.loop-place.place = search rules in
    let ended : length (bytes_of c.args.texts.now) ≤ c.loop-place.place = omega (arith, long, over) in
    gathered-clash (bytes_of c.args.texts.now) c.loop-place.place c.loop-place.held.entries c.loop-place.least ended c.loop-place.invariant c.in-Some-least.digest c.in-Some-least.is (sym c.in_default.is ∙ c.fall_among.ensures)

pub returns : goal.returns
returns c =
    let long : length (bytes_of c.args.texts.now) ≡ length c.args.texts.now = length-map c.args.texts.now _ in
    let over : length c.args.texts.now ≤ c.loop-place.place = search rules in
    let ended : length (bytes_of c.args.texts.now) ≤ c.loop-place.place = omega (arith, long, over) in (
      gathered-all (bytes_of c.args.texts.now) c.loop-place.place c.loop-place.held.entries c.loop-place.least ended c.loop-place.invariant c.in-None.is (sym c.in_default.is ∙ c.fall_among.ensures),
      unread-fresh c.loop-place.held.entries (bytes_of c.args.texts.now) (gathered-entries (bytes_of c.args.texts.now) c.loop-place.place c.loop-place.held.entries c.loop-place.least ended c.loop-place.invariant c.in-None.is),
    )
