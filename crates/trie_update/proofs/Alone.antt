-- A place where one key ends, and nothing goes on.
use Rattle.std.proofs.Common.{◌≡◌, true, ℕ, ◌≤◌, List, [], ◌∷◌, length, drop, Option, None, Some, Ok, refl, sym, ◌∙◌, ap, subst, arith}
use Rattle.std.specs.Prelude.{IfSome}
use Rattle.std.proofs.lemmas.Bool.{false≢true}
use Rattle.std.proofs.lemmas.List.{drop_all}
use Rattle.byte_model.specs.Below.{sum_below, joined_below}
use Rattle.byte_model.specs.Nibbles.{nibbles}
use Rattle.byte_model.specs.Node.{ValueRef, longest_value}
use Rattle.byte_model.proofs.Lists.{some_items}
use Rattle.trie_model.specs.Tree.{rest_behind}
use Rattle.trie_model.proofs.Rests.{equal_of_test}
use Rattle.batch_model.specs.Changes.{Change, found_at}
use Rattle.visit_model.specs.Seen.{Seen}
use Rattle.change_model.specs.Visits.{changes_behind, no_visits, numbers_below}
use Rattle.update_model.specs.Tops.{Top, empty, leaf, branch, extension, ref_here, top_behind}
use Rattle.update_model.specs.Joins.{is_there, joint}
use Rattle.update_model.specs.Updates.{Outcome, appearing, disappearing, fork_outcome, ref_after, value_lost, value_made}
use Rattle.trie_update.specs.declared.ledger.Ledger.{Ledger}
use Rattle.trie_update.specs.declared.updating.Placed.{Placed}
use Rattle.text_store.specs.Store.{Store}
use Rattle.trie_update.specs.Carries.{Carries}
use Rattle.trie_update.specs.Accounts.{GrowsBy, IsNamed}
use Rattle.trie_update.specs.Alone.{Ends, ends_by}
use Rattle.trie_update.specs.declared.old.Old.{Old}
use Rattle.trie_update.specs.declared.old.Old.TheVariants.{Nothing, Leaf, Extension}
use Rattle.trie_update.specs.ChangesAt.{AreChangesAt, Lent, changes_at, value_lent}
use Rattle.trie_update.specs.Places.{TopKeeps, old_past, top_stated, top_visits}
use Rattle.trie_update.specs.Placed.{IsPlaced}
use Rattle.trie_update.specs.Subs.{childless, top_of_sub}
use Rattle.trie_update.proofs.Carrying.{carries-none}
use Rattle.trie_update.proofs.Turning.{appears, disappears}

-- ---- the one change

pub lone-change : (depth : ℕ) (changes : List Lent) (change : Lent) → changes ≡ change ∷ [] → length (nibbles change.0.now) ≡ depth → changes_at depth changes ≡ ([], value_lent change.1) ∷ []
lone-change depth changes change e ends =
    let none : drop depth (nibbles change.0.now) ≡ [] = drop_all depth (nibbles change.0.now) (omega arith) in
    ap (λ (cs : List Lent). changes_at depth cs) e ∙ ap (λ (p : List ℕ). (p, value_lent change.1) ∷ []) none

pub lone-short : (depth : ℕ) (changes : List Lent) (change : Lent) → changes ≡ change ∷ [] → AreChangesAt depth changes → IfSome change.1 (λ v. length v.now ≤ longest_value)
lone-short depth changes change e h = (subst (AreChangesAt depth) e h).each.0.value

-- ---- what stood there

pub ends-past : (count : ℕ) (old : Old) → ends_by count old ≡ true → Ends (old_past count old)
unfolding old_past
ends-past count Nothing h = tt
ends-past count (Leaf path value) h = let same = equal_of_test (length path.now) count h in drop_all count path.now (omega arith)
ends-past count (Extension path child used) h = absurd (false≢true h)

-- ---- what is visited, and what it keeps to

ends-visits : (below : Seen) (top : Top) (changes : List Change) → Ends top → top_visits below top changes ≡ no_visits
unfolding top_visits
ends-visits below empty changes h = refl
ends-visits below (leaf path ref) changes h = refl
ends-visits below (branch digest used) changes h = absurd h
ends-visits below (extension path child used) changes h = absurd h

-- so it is carried out over a store without a call
pub ends-carries : {S : Type 0} (store : Store S) → ((a : S) → store.alike a a) → (now : S) (below : Seen) (top : Top) (changes : List Change) → Ends top → Carries {X = ℕ} store now now (top_visits below top changes) (Ok 0)
ends-carries store itself now below top changes h = subst (λ v. Carries {X = ℕ} store now now v (Ok 0)) (sym (ends-visits below top changes h)) (carries-none store {X = ℕ} now 0 (itself now))

ends-stated : (below : Seen) (top : Top) (changes : List Change) → Ends top → top_stated below top changes ≡ 0
unfolding top_stated
ends-stated below empty changes h = refl
ends-stated below (leaf path ref) changes h = refl
ends-stated below (branch digest used) changes h = absurd h
ends-stated below (extension path child used) changes h = absurd h

pub ends-keeps : (depth : ℕ) (below : Seen) (top : Top) (changes : List Change) → Ends top → TopKeeps depth below top changes
unfolding TopKeeps
ends-keeps depth below empty changes h = tt
ends-keeps depth below (leaf path ref) changes h = tt
ends-keeps depth below (branch digest used) changes h = absurd h
ends-keeps depth below (extension path child used) changes h = absurd h

-- ---- what becomes of it

abbrev lone_outcome : Option ValueRef → Option (List ℕ) → Outcome
lone_outcome former change = record {
  top = childless (ref_after former (Some change));
  made = value_made (Some change);
  lost = value_lost former (Some change);
  fresh = appearing former (Some change);
  gone = disappearing former (Some change);
}

ends-outcome : (further : Top → List Change → Outcome) (top : Top) (change : Option (List ℕ)) → Ends top → fork_outcome further top (([], change) ∷ []) ≡ lone_outcome (ref_here top) change
unfolding joint is_there numbers_below changes_behind rest_behind top_behind found_at joined_below sum_below ref_here
ends-outcome further empty None h = refl
ends-outcome further empty (Some value) h = refl
ends-outcome further (leaf [] ref) None h = refl
ends-outcome further (leaf [] ref) (Some value) h = refl
ends-outcome further (leaf (x ∷ path) ref) change h = absurd (some_items x path h)
ends-outcome further (branch digest used) change h = absurd h
ends-outcome further (extension path child used) change h = absurd h

module _ (further : Top → List Change → Outcome) (below : Seen) (top : Top) (changes : List Change) (change : Option (List ℕ)) (n : ℕ) (former : Option ValueRef) (old new : Ledger) (ends : Ends top) (lone : changes ≡ ([], change) ∷ []) (long : length changes ≡ n) (same : former ≡ ref_here top) where
  pub ends-placed : (placed : Placed) → top_of_sub placed.sub ≡ childless (ref_after former (Some change)) → placed.stated ≡ 0 → GrowsBy old new former (Some change) → IsNamed new → IsPlaced (fork_outcome further top changes) (top_stated below top changes) n old new placed
  ends-placed placed is_top is_stated grows named =
      let whole : fork_outcome further top changes ≡ lone_outcome (ref_here top) change = ap (λ (cs : List Change). fork_outcome further top cs) lone ∙ ends-outcome further top change ends in
      let one : 1 ≡ n = sym (ap length lone) ∙ long in
      subst (λ (o : Outcome). IsPlaced o (top_stated below top changes) n old new placed) (sym whole) (record {
        top = is_top ∙ ap (λ (r : Option ValueRef). childless (ref_after r (Some change))) same;
        stated = is_stated ∙ sym (ends-stated below top changes ends);
        adds = record { grows = subst (λ (r : Option ValueRef). GrowsBy old new r (Some change)) same grows; named = λ _. named };
        counts = record {
          fresh = (let f = grows.fresh in let o = appears former (Some change) in omega arith);
          gone = (let f = grows.gone in let o = disappears former (Some change) in omega arith);
        };
      })
