use Rattle.std.proofs.Common.{rules, ◌≡◌, ◌<◌, ◌≤◌, ◌++◌, map, length, ap, sym, ◌∙◌, arith}
use Rattle.std.proofs.lemmas.List.{length-map}
use Rattle.std.proofs.Math.ListN.{get_or-map}
use Rattle.sha2.specs.Sha256.{sha256}
use Rattle.text_store.proofs.Listing.{bytes_of}
use Rattle.text_store.proofs.Naming.{names_of, names-next, names-all}
use Rattle.text_store.proofs.keyed.digests_of.Goals as goal

pub loop-text-init : goal.loop-text-init
loop-text-init c = ap (λ digests. names_of digests ++ map sha256 (bytes_of c.args.texts.now)) c.in_ok-digests.ensures.items

pub loop-text-preserved : goal.loop-text-preserved
loop-text-preserved c =
    let long : length (bytes_of c.args.texts.now) ≡ length c.args.texts.now = length-map c.args.texts.now _ in
    let more : c.loop-text.text-index < length c.args.texts.now = search rules in
    names-next (bytes_of c.args.texts.now) c.loop-text.text-index c.loop-text.digests.items _ c.digest.result (omega (arith, long, more)) c.loop-text.invariant
    (c.digest.ensures ∙ ap sha256 (sym (get_or-map (λ text. text.now) c.args.texts.now c.loop-text.text-index _))) c.in_ok-push.ensures.items

pub returns : goal.returns
returns c =
    let long : length (bytes_of c.args.texts.now) ≡ length c.args.texts.now = length-map c.args.texts.now _ in
    let over : length c.args.texts.now ≤ c.loop-text.text-index = search rules in
    names-all (bytes_of c.args.texts.now) c.loop-text.text-index c.loop-text.digests.items (omega (arith, long, over)) c.loop-text.invariant
