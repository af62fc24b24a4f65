-- The root of a trie, and what is left of a call once it has become what it becomes: its record, gains and losses, and the answer.
use Rattle.std.proofs.Common.{◌≡◌, ◌≢◌, ℕ, zero, suc, ◌+◌, ◌*◌, ◌^◌, ◌<◌, ◌≤◌, ◌==◌, Bool, true, false, if◌then◌else◌, List, [], ◌∷◌, ◌++◌, length, map, None, Result, Ok, Err, refl, sym, ap, subst, ◌∙◌, arith}
use Rattle.std.specs.Prelude.{nat_eq, IfOk, OnOk}
use Rattle.std.specs.List.{AllByRecursion}
use Rattle.std.specs.Cmp.Lexicographic.{pointwise}
use Rattle.sha2.specs.Sha256.{sha256}
use Rattle.trie_model.specs.Root.{Table, zero_digest}
use Rattle.visit_model.specs.Seen as seen
use Rattle.visit_model.specs.Seen.{Seen, seen_at, stated_usage}
use Rattle.batch_model.specs.Changes.{Change, most_changes}
use Rattle.change_model.specs.Visits.{Visits, visits_at, where_touched}
use Rattle.update_model.specs.Sound.{StandsAt}
use Rattle.update_model.specs.Tops.{empty, top_usage}
use Rattle.update_model.specs.Updates.{Outcome, laid, no_branch, updated}
use Rattle.update_model.proofs.LaidOver.{keeps-empty, laid_over-stands, laid_over-small}
use Rattle.update_model.proofs.LaidSteps.{laid-agree}
use Rattle.update_model.proofs.Limits.{usage-small}
use Rattle.update_model.specs.Growth.{growth}
use Rattle.base_core.specs.declared.hash.Digest.{Digest}
use Rattle.trie_update.specs.Adds.{Adds}
use Rattle.trie_update.specs.ChangesAt.{Lent, AreChangesAt, changes_at}
use Rattle.trie_update.specs.Placed.{IsPlaced}
use Rattle.trie_update.specs.Places.{Keeps, old_past, seen_past, top_visits}
use Rattle.trie_update.specs.Sorted.{CanFinish, IsRooted, OnlyClash}
use Rattle.trie_update.specs.Updates.{AnswersUpdate, ComesTo}
use Rattle.trie_update.specs.declared.change.Change as code
use Rattle.trie_update.specs.declared.errors.UpdateError.{UpdateError}
use Rattle.trie_update.specs.declared.errors.UpdateError.TheVariants.{Missing, Bad, Usage, Clash, Fault, NoMemory}
use Rattle.trie_update.specs.declared.ledger.Gained.{Gained}
use Rattle.trie_update.specs.declared.ledger.Ledger.{Ledger}
use Rattle.trie_update.specs.declared.old.Old.TheVariants.{Nothing}
use Rattle.trie_update.specs.declared.updating.Placed.{Placed}
use Rattle.trie_update.proofs.StateAnswers.{digest-of_gained}
use Rattle.trie_update.proofs.Below.{below-changes_at}
use Rattle.trie_update.proofs.ChangesAt.{length-changes_at}

-- ---- the root

pub seen-zero : (table : Table) (root : List ℕ) → pointwise nat_eq root zero_digest ≡ true → seen.seen table root ≡ seen.nothing
unfolding seen.seen
seen-zero table root e = ap (λ (b : Bool). if b then seen.nothing else seen_at table 0 false root) e

pub seen-root : (table : Table) (root : List ℕ) → pointwise nat_eq root zero_digest ≡ false → seen.seen table root ≡ seen_at table 0 false root
unfolding seen.seen
seen-root table root e = ap (λ (b : Bool). if b then seen.nothing else seen_at table 0 false root) e

pub visits-zero : (table : Table) (root : List ℕ) (changes : List Change) → seen.seen table root ≡ seen.nothing → top_visits (seen_past table 0 0 Nothing) (old_past 0 Nothing) changes ≡ visits_at (seen.seen table root) changes
unfolding top_visits old_past seen_past visits_at
visits-zero table root changes e = ap (λ (s : Seen). visits_at s changes) (sym e)

-- ---- the changes of a call

some-at : (changes : List Lent) → 1 ≤ length changes → changes_at 0 changes ≢ []
some-at [] some = absurd (omega arith)
some-at (change ∷ changes) some = λ e. cc

-- ---- it has become what the model says

module _ (table : Table) (root : Digest) (changes : List Lent) (are : AreChangesAt 0 changes) (some : 1 ≤ length changes) (few : length changes ≤ most_changes) where
  abbrev rows : List Change
  rows = changes_at 0 changes

  small_rows : length rows ≤ most_changes
  small_rows = let same = length-changes_at 0 changes in omega arith

  pub rooted-zero : pointwise nat_eq root.0 zero_digest ≡ true → (old new : Ledger) (told n : ℕ) (result : Result Placed UpdateError)
      → IfOk result (IsPlaced (laid (λ cs. updated (seen_past table 0 0 Nothing) cs) (old_past 0 Nothing) rows) told n old new)
      → IfOk result (IsRooted (updated (seen.seen table root.0) rows) old new)
  unfolding old_past seen_past updated StandsAt top_usage
  rooted-zero none old new told n (Ok placed) is =
      let whole : laid (λ cs. updated seen.nothing cs) empty rows ≡ updated (seen.seen table root.0) rows =
      laid-agree (λ cs. updated seen.nothing cs) no_branch empty rows (some-at changes some) tt ∙ ap (λ (s : Seen). updated s rows) (sym (seen-zero table root.0 none)) in
      let stands : StandsAt 0 (laid no_branch empty rows).top = laid_over-stands no_branch 0 (λ cs. true) 0 empty rows tt (below-changes_at 0 changes are) (keeps-empty 0 rows) (some-at changes some) in
      let small : top_usage (laid no_branch empty rows).top < 2 ^ 63 = laid_over-small no_branch 0 (λ cs. true) 0 empty rows tt (below-changes_at 0 changes are) (keeps-empty 0 rows) (some-at changes some) (omega arith) (omega arith) small_rows in
      let same : updated (seen.seen table root.0) rows ≡ laid no_branch empty rows = ap (λ (s : Seen). updated s rows) (seen-zero table root.0 none) in
      record {
        top = is.top ∙ ap (λ o. o.top) whole;
        adds = subst (λ (o : Outcome). Adds old new o.made o.lost o.fresh o.gone) whole is.adds;
        stands = subst (λ (o : Outcome). StandsAt 0 o.top) (sym same) stands;
        small = subst (λ (o : Outcome). top_usage o.top < 2 ^ 63) (sym same) small;
      }
  rooted-zero none old new told n (Err error) is = tt

  pub rooted-digest : pointwise nat_eq root.0 zero_digest ≡ false → (old new : Ledger) (told n : ℕ) (result : Result Placed UpdateError)
      → IfOk result (IsPlaced (updated (seen_at table 0 false root.0) rows) told n old new) → OnOk result (Keeps 0 (seen_at table 0 false root.0) rows)
      → IfOk result (IsRooted (updated (seen.seen table root.0) rows) old new)
  rooted-digest there old new told n (Ok placed) is keeps =
      let seen_is : seen_at table 0 false root.0 ≡ seen.seen table root.0 = sym (seen-root table root.0 there) in
      let grows = keeps.grows in
      let most = keeps.most in
      let small : stated_usage (seen_at table 0 false root.0) + length rows * growth 0 < 2 ^ 63 = usage-small (stated_usage (seen_at table 0 false root.0)) (length rows) 0 (omega arith) small_rows in
      subst (λ (s : Seen). IsRooted (updated s rows) old new placed) seen_is (record { top = is.top; adds = is.adds; stands = keeps.stands; small = omega arith })
  rooted-digest there old new told n (Err error) is keeps = tt

-- ---- the answer

answers-only : (visits : Visits) (outcome : Outcome) (result : Result code.Change UpdateError) → visits.refusal ≡ None → OnlyClash result → ComesTo outcome result → AnswersUpdate visits result
answers-only visits outcome (Ok change) passed only is = passed
answers-only visits outcome (Err (Missing named)) passed only is = absurd only
answers-only visits outcome (Err (Bad named)) passed only is = absurd only
answers-only visits outcome (Err (Usage named)) passed only is = absurd only
answers-only visits outcome (Err (Clash digest one other)) passed only is = (
  passed,
  record {
    first = sym (digest-of_gained is.gained digest.0 one is.account.named is.clash.has_first);
    second = sym (digest-of_gained is.gained digest.0 other is.account.named is.clash.has_second);
    differ = is.clash.differ;
  },
)
answers-only visits outcome (Err Fault) passed only is = absurd only
answers-only visits outcome (Err NoMemory) passed only is = tt

touched-rows : (changes : List Lent) (v : Visits) → 1 ≤ length changes → where_touched (changes_at 0 changes) v ≡ v
touched-rows [] v some = absurd (omega arith)
touched-rows (change ∷ changes) v some = refl

pub answers-rows : (changes : List Lent) (visits : Visits) (outcome : Outcome) (result : Result code.Change UpdateError) → 1 ≤ length changes → visits.refusal ≡ None → OnlyClash result → ComesTo outcome result
    → AnswersUpdate (where_touched (changes_at 0 changes) visits) result
answers-rows changes visits outcome result some passed only is = subst (λ (v : Visits). AnswersUpdate v result) (sym (touched-rows changes visits some)) (answers-only visits outcome result passed only is)

pub some-rows : (n : ℕ) → (n == 0) ≡ false → 1 ≤ n
some-rows zero e = absurd cc
some-rows (suc n) e = omega arith

-- a ledger that was empty before the root was visited
pub can_finish : (outcome : Outcome) (old new : Ledger) (placed : Placed) → old.gained.items ≡ [] → old.lost.items ≡ [] → old.fresh ≡ 0 → old.gone ≡ 0 → IsRooted outcome old new placed → CanFinish outcome new placed
can_finish outcome old new placed no_gain no_loss no_fresh no_gone is =
    let fresh = is.adds.grows.fresh in
    let gone = is.adds.grows.gone in
    record {
      top = is.top;
      texts = is.adds.grows.gained ∙ ap (λ (gs : List Gained). map (λ g. g.text) gs ++ outcome.made) no_gain;
      named = is.adds.named (subst (AllByRecursion (λ (g : Gained). g.digest.0 ≡ sha256 g.text)) (sym no_gain) tt);
      digests = is.adds.grows.lost ∙ ap (λ (ds : List Digest). map (λ d. d.0) ds ++ outcome.lost) no_loss;
      fresh = omega arith;
      gone = omega arith;
    }
