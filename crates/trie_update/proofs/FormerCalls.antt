-- What has become of what stood behind a nibble, by the call that was made there.
use Rattle.std.proofs.Common.{◌≡◌, ℕ, ◌≤◌, ◌==◌, true, false, List, [], ◌∷◌, length, Option, Result, refl, sym, ◌∙◌, ap, subst, arith}
use Rattle.trie_model.proofs.Rests.{equal_of_test}
use Rattle.trie_model.specs.Root.{Table}
use Rattle.visit_model.specs.Seen.{seen_at, stated_usage}
use Rattle.batch_model.specs.Changes.{Change}
use Rattle.change_model.specs.Visits.{Visits, visits_at}
use Rattle.text_store.specs.Store.{Store}
use Rattle.base_core.specs.declared.hash.Digest.{Digest}
use Rattle.update_model.specs.Joins.{known}
use Rattle.update_model.specs.Updates.{Outcome, laid, updated}
use Rattle.trie_update.specs.declared.errors.UpdateError.{UpdateError}
use Rattle.trie_update.specs.declared.former.Former.{Former}
use Rattle.trie_update.specs.declared.former.Former.TheVariants as former
use Rattle.trie_update.specs.declared.joining.Child.{Child}
use Rattle.trie_update.specs.declared.ledger.Ledger.{Ledger}
use Rattle.trie_update.specs.declared.old.Old.{Old}
use Rattle.trie_update.specs.declared.updating.Placed.{Placed}
use Rattle.trie_update.specs.Adds.{Adds}
use Rattle.trie_update.specs.Carries.{Carries}
use Rattle.trie_update.specs.ChangesAt.{Lent, changes_at}
use Rattle.trie_update.specs.Places.{Keeps, Place, PlaceKeeps, TopKeeps, old_past, place_kid, place_of, place_outcome, place_visits, seen_past, top_stated, top_visits}
use Rattle.trie_update.specs.Placed.{IsChild, IsPlaced}
use Rattle.trie_update.specs.Subs.{kid_of, top_of_sub}
use Rattle.trie_update.proofs.Adding.{adds-none, adds-same}
use Rattle.trie_update.proofs.PlaceFacts.{IsTouched, touched-child, touched-over, untouched-adds, untouched-keeps, untouched-stated}
use Rattle.trie_update.proofs.ChangesAt.{changes-some}

pub empty-changes : {X : Type 0} (xs : List X) → true ≡ (length xs == 0) → xs ≡ []
empty-changes [] e = refl
empty-changes (x ∷ xs) e = let none = equal_of_test (length (x ∷ xs)) 0 (sym e) in absurd (omega arith)

pub some-changes : {X : Type 0} (xs : List X) → false ≡ (length xs == 0) → 1 ≤ length xs
some-changes [] e = cc
some-changes (x ∷ xs) e = omega arith

-- ---- where no key is changed

pub child-untouched : (name : Option (List ℕ)) (depth : ℕ) (p : Place) (changes : List Change) (ledger : Ledger) (new : Child) → changes ≡ [] → kid_of name new ≡ place_kid p [] → IsChild name depth p changes ledger ledger (new, 0)
child-untouched name depth p changes ledger new none is =
    let nothing = untouched-adds p in
    subst (λ (cs : List Change). IsChild name depth p cs ledger ledger (new, 0)) (sym none) (record {
      kid = is;
      stated = sym (untouched-stated p);
      adds = adds-same ledger ledger [] [] 0 0 (place_outcome p []).made (place_outcome p []).lost (place_outcome p []).fresh (place_outcome p []).gone (sym nothing.made) (sym nothing.lost) (sym nothing.fresh) (sym nothing.gone) (adds-none ledger);
      counts = record { fresh = omega arith; gone = omega arith };
      keeps = untouched-keeps depth p;
    })

-- ---- where some are

module _ (depth : ℕ) (p : Place) (changes : List Change) (n : ℕ) (visits : Visits) (stated : ℕ) (outcome : Outcome) (touched : IsTouched p changes visits stated outcome) (long : length changes ≡ n) where
  pub child-placed : (name : Option (List ℕ)) (old new : Ledger) (placed : Placed) → IsPlaced outcome stated n old new placed → PlaceKeeps depth p changes → (child : Child × ℕ) → ((m : Option (List ℕ)) → kid_of m child.0 ≡ known (top_of_sub placed.sub)) → child.1 ≡ placed.stated → IsChild name depth p changes old new child
  child-placed name old new placed is keeps child kid_is stated_is = record {
    kid = kid_is name ∙ ap known is.top ∙ sym touched.kid_is;
    stated = stated_is ∙ is.stated ∙ sym touched.stated_is;
    adds = subst (λ (o : Outcome). Adds old new o.made o.lost o.fresh o.gone) (sym touched.outcome_is) is.adds;
    counts = record { fresh = (let f = is.counts.fresh in omega arith); gone = (let f = is.counts.gone in omega arith) };
    keeps = keeps;
  }

  pub carries-placed : {S X : Type 0} (store : Store S) (old new : S) (result : Result X UpdateError) → Carries store old new visits result → Carries store old new (place_visits p changes) result
  carries-placed {S} {X} store old new result c = subst (λ (v : Visits). Carries {X = X} store old new v result) (sym touched.visits_is) c

module _ (table : Table) (depth : ℕ) (stood : Former) (p : Place) (place_is : place_of table depth stood ≡ p) (changes : List Lent) (some : 1 ≤ length changes) where
  pub known-touched : (old : Old) → stood ≡ former.Known old → IsTouched p (changes_at depth changes) (top_visits (seen_past table depth 0 old) (old_past 0 old) (changes_at depth changes)) (top_stated (seen_past table depth 0 old) (old_past 0 old) (changes_at depth changes)) (laid (λ cs. updated (seen_past table depth 0 old) cs) (old_past 0 old) (changes_at depth changes))
  unfolding place_of
  known-touched old e =
      subst (λ (q : Place). IsTouched q (changes_at depth changes) (top_visits (seen_past table depth 0 old) (old_past 0 old) (changes_at depth changes)) (top_stated (seen_past table depth 0 old) (old_past 0 old) (changes_at depth changes)) (laid (λ cs. updated (seen_past table depth 0 old) cs) (old_past 0 old) (changes_at depth changes))) (ap (place_of table depth) (sym e) ∙ place_is)
      (touched-over (seen_past table depth 0 old) (old_past 0 old) (changes_at depth changes) (changes-some depth changes some))

  pub known-keeps : (old : Old) → stood ≡ former.Known old → TopKeeps depth (seen_past table depth 0 old) (old_past 0 old) (changes_at depth changes) → PlaceKeeps depth p (changes_at depth changes)
  unfolding place_of PlaceKeeps
  known-keeps old e keeps = subst (λ (q : Place). PlaceKeeps depth q (changes_at depth changes)) (ap (place_of table depth) (sym e) ∙ place_is) keeps

  pub named-touched : (digest : Digest) → stood ≡ former.Named digest → IsTouched p (changes_at depth changes) (visits_at (seen_at table depth false digest.0) (changes_at depth changes)) (stated_usage (seen_at table depth false digest.0)) (updated (seen_at table depth false digest.0) (changes_at depth changes))
  unfolding place_of
  named-touched digest e =
      subst (λ (q : Place). IsTouched q (changes_at depth changes) (visits_at (seen_at table depth false digest.0) (changes_at depth changes)) (stated_usage (seen_at table depth false digest.0)) (updated (seen_at table depth false digest.0) (changes_at depth changes))) (ap (place_of table depth) (sym e) ∙ place_is)
      (touched-child (seen_at table depth false digest.0) (changes_at depth changes) (changes-some depth changes some))

  pub named-keeps : (digest : Digest) → stood ≡ former.Named digest → Keeps depth (seen_at table depth false digest.0) (changes_at depth changes) → PlaceKeeps depth p (changes_at depth changes)
  unfolding place_of PlaceKeeps
  named-keeps digest e keeps = subst (λ (q : Place). PlaceKeeps depth q (changes_at depth changes)) (ap (place_of table depth) (sym e) ∙ place_is) (λ some. keeps)
