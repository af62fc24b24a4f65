use Rattle.std.proofs.Common.{◌≡◌, true, false, sym, subst}
use Rattle.std.specs.Prelude.{nat_eq}
use Rattle.std.specs.Cmp.Lexicographic.{pointwise}
use Rattle.trie_model.specs.Root.{zero_digest}
use Rattle.change_model.specs.Visits.{Visits, visits_at}
use Rattle.visit_model.specs.Seen.{Seen}
use Rattle.update_model.specs.Sound.{StandsAt}
use Rattle.trie_update.specs.Carries.{Carries}
use Rattle.trie_update.specs.ChangesAt.{changes_at}
use Rattle.trie_update.specs.Places.{old_past, MostTop}
use Rattle.trie_update.proofs.Finishing.{seen-zero, seen-root, visits-zero, rooted-zero, rooted-digest}
use Rattle.trie_update.proofs.sorted.at_root.Goals as goal

pub at_path-requires-clause-old : goal.at_path-requires-clause-old
unfolding old_past StandsAt MostTop
at_path-requires-clause-old g c = record { stands = tt; most = tt }

pub returns-then-eq-clause-carries : goal.returns-then-eq-clause-carries
returns-then-eq-clause-carries g c =
    let zero : pointwise nat_eq c.args.root.now.0 zero_digest ≡ true = sym c.if-eq.ensures in
    subst (λ (v : Visits). Carries g.T.Texts.store c.args.store.now c.at_path.new.store v c.at_path.result)
    (visits-zero (g.T.Texts.store.texts c.args.store.now) c.args.root.now.0 (changes_at 0 c.args.changes.now) (seen-zero (g.T.Texts.store.texts c.args.store.now) c.args.root.now.0 zero)) c.at_path.ensures.carries

pub returns-then-eq-clause-rooted : goal.returns-then-eq-clause-rooted
returns-then-eq-clause-rooted g c =
    let zero : pointwise nat_eq c.args.root.now.0 zero_digest ≡ true = sym c.if-eq.ensures in
    rooted-zero (g.T.Texts.store.texts c.args.store.now) c.args.root.now c.args.changes.now c.requires.changes c.requires.some c.requires.few zero c.args.ledger.now c.at_path.new.ledger _ _ c.at_path.result c.at_path.ensures.placed

pub returns-else-eq-clause-carries : goal.returns-else-eq-clause-carries
returns-else-eq-clause-carries g c =
    let there : pointwise nat_eq c.args.root.now.0 zero_digest ≡ false = sym c.if-eq.ensures in
    subst (λ (s : Seen). Carries g.T.Texts.store c.args.store.now c.at_digest.new.store (visits_at s (changes_at 0 c.args.changes.now)) c.at_digest.result)
    (sym (seen-root (g.T.Texts.store.texts c.args.store.now) c.args.root.now.0 there)) c.at_digest.ensures.carries

pub returns-else-eq-clause-rooted : goal.returns-else-eq-clause-rooted
returns-else-eq-clause-rooted g c =
    let there : pointwise nat_eq c.args.root.now.0 zero_digest ≡ false = sym c.if-eq.ensures in
    rooted-digest (g.T.Texts.store.texts c.args.store.now) c.args.root.now c.args.changes.now c.requires.changes c.requires.some c.requires.few there c.args.ledger.now c.at_digest.new.ledger _ _ c.at_digest.result c.at_digest.ensures.placed c.at_digest.ensures.keeps
