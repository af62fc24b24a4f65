-- What is visited over many texts is visited over fewer, where these have every text that was visited.
use Rattle.std.proofs.Common.{◌≡◌, ℕ, ◌==◌, Bool, true, false, if◌then◌else◌, nat_eq, List, [], ◌∷◌, ◌++◌, length, Option, None, Some, inl, inr, refl, sym, ◌∙◌, subst}
use Rattle.std.specs.List.{AllByRecursion}
use Rattle.std.specs.Cmp.Lexicographic.{pointwise}
use Rattle.std.specs.FinMap.{get}
use Rattle.byte_model.specs.Nibbles.{nibbles}
use Rattle.byte_model.specs.Node.{ValueRef}
use Rattle.trie_model.specs.Root.{Table}
use Rattle.trie_model.specs.Tree.{rest_behind}
use Rattle.visit_model.specs.Seen.{Seen, nothing, missing, bad, leaf, branch, extension, seen}
use Rattle.visit_model.specs.Steps.{value, value_steps, behind, lookup_steps}
use Rattle.visit_model.specs.Visits as looking
use Rattle.visit_model.specs.Visits.{value_visit, value_first, visits_of, lookup_visits}
use Rattle.change_model.specs.Along.{digest_of}
use Rattle.recording_model.proofs.More.{HasMore, LessSeen, less-seen}
use Rattle.recording_model.proofs.VisitedTexts.{Has}

module _ (table full : Table) (has : HasMore table full) where
  none_some : {X : Type 0} (x : X) → None ≡ Some x → ⊥
  none_some x e = cc

  value-back : (path : List ℕ) (ref : ValueRef) → (visits_of full 1 (value path ref ∷ [])).refusal ≡ None → AllByRecursion (Has table) (visits_of full 1 (value path ref ∷ [])).digests → (visits_of table 1 (value path ref ∷ [])).refusal ≡ None
  unfolding visits_of value_visit
  value-back path ref passed held = go (get table ref.digest) refl (get full ref.digest) refl passed held
    where
      first_held : (text : List ℕ) (b : Bool) → AllByRecursion (Has table) (if b then value_first ref.digest (path, text) looking.no_visits else looking.refused ref.digest (looking.bad ref.digest)).digests → Has table ref.digest
      first_held text true h = h.0
      first_held text false h = h.0

      go : (here : Option (List ℕ)) → get table ref.digest ≡ here → (there : Option (List ℕ)) → get full ref.digest ≡ there → (value_visit path ref there looking.no_visits).refusal ≡ None → AllByRecursion (Has table) (value_visit path ref there looking.no_visits).digests → (value_visit path ref here looking.no_visits).refusal ≡ None
      go here e None f k h = cc
      go None e (Some text) f k h =
          let one = first_held text (length text == ref.length) h in
          absurd (none_some one.0 (sym e ∙ one.1))
      go (Some text) e (Some other) f k h = subst (λ (o : Option (List ℕ)). (value_visit path ref o looking.no_visits).refusal ≡ None) (sym f ∙ has ref.digest text e) k

  values-back : (path : List ℕ) (ref : Option ValueRef) → (visits_of full 1 (value_steps path ref)).refusal ≡ None → AllByRecursion (Has table) (visits_of full 1 (value_steps path ref)).digests → (visits_of table 1 (value_steps path ref)).refusal ≡ None
  unfolding visits_of
  values-back path None passed held = refl
  values-back path (Some ref) passed held = value-back path ref passed held

  -- the visits over more texts passed every test, and the text of each is here
  PassesHeld : Seen → List ℕ → List ℕ → Type 0
  PassesHeld s before rest = ((visits_of full 1 (lookup_steps s before rest)).refusal ≡ None) × AllByRecursion (Has table) (visits_of full 1 (lookup_steps s before rest)).digests

  -- what is seen there is not missing here
  not_missing : (other : Seen) (digest before rest : List ℕ) → digest_of other ≡ Some digest → get table digest ≡ None → PassesHeld other before rest → ⊥
  unfolding digest_of lookup_steps visits_of PassesHeld
  not_missing nothing digest before rest is none h = cc
  not_missing (missing d) digest before rest is none h = cc (h.0)
  not_missing (bad d) digest before rest is none h = cc (h.0)
  not_missing (leaf d usage path ref) digest before rest is none h = cc (none, is, h.1.0.1)
  not_missing (branch d usage ref kids) digest before [] is none h = cc (none, is, h.1.0.1)
  not_missing (branch d usage ref kids) digest before (x ∷ rest) is none h = cc (none, is, h.1.0.1)
  not_missing (extension d usage path child) digest before rest is none h = cc (none, is, h.1.0.1)

  steps-back : (s other : Seen) → LessSeen table s other → (before rest : List ℕ) → PassesHeld other before rest → (visits_of table 1 (lookup_steps s before rest)).refusal ≡ None
  unfolding LessSeen lookup_steps visits_of behind PassesHeld
  steps-back nothing other less before rest h = refl
  steps-back (missing digest) other (is, inl same) before rest h = (subst (λ (o : Seen). PassesHeld o before rest) same h).0
  steps-back (missing digest) other (is, inr none) before rest h = absurd (not_missing other digest before rest is none h)
  steps-back (bad digest) other less before rest h = (subst (λ (o : Seen). PassesHeld o before rest) less h).0
  steps-back (leaf digest usage path ref) other less before rest h =
      let k = subst (λ (o : Seen). PassesHeld o before rest) less h in
      go (pointwise nat_eq path rest) k.0 k.1.1
    where
      go : (b : Bool) → (visits_of full 1 (if b then value (before ++ path) ref ∷ [] else [])).refusal ≡ None → AllByRecursion (Has table) (visits_of full 1 (if b then value (before ++ path) ref ∷ [] else [])).digests → (visits_of table 1 (if b then value (before ++ path) ref ∷ [] else [])).refusal ≡ None
      go true k h = value-back (before ++ path) ref k h
      go false k h = refl
  steps-back (branch digest usage ref kids) other less before [] h =
      let k = subst (λ (o : Seen). PassesHeld o before []) less.1 h in
      values-back before ref k.0 k.1.1
  steps-back (branch digest usage ref kids) other less before (x ∷ rest) h =
      let k = subst (λ (o : Seen). PassesHeld o before (x ∷ rest)) less.1 h in
      steps-back (kids x) (less.0 x) (less.2 x) (before ++ x ∷ []) rest (k.0, k.1.1)
  steps-back (extension digest usage path child) other less before rest h =
      let k = subst (λ (o : Seen). PassesHeld o before rest) less.1 h in
      go (rest_behind path rest) k.0 k.1.1 (steps-back child less.0 less.2 (before ++ path))
    where
      go : (r : Option (List ℕ)) → (visits_of full 1 (behind (lookup_steps less.0 (before ++ path)) r)).refusal ≡ None → AllByRecursion (Has table) (visits_of full 1 (behind (lookup_steps less.0 (before ++ path)) r)).digests → ((deeper : List ℕ) → PassesHeld less.0 (before ++ path) deeper → (visits_of table 1 (lookup_steps child (before ++ path) deeper)).refusal ≡ None) → (visits_of table 1 (behind (lookup_steps child (before ++ path)) r)).refusal ≡ None
      go None k h further = refl
      go (Some deeper) k h further = further deeper (k, h)

  pub lookup-back : (root key : List ℕ) → (lookup_visits full root key).refusal ≡ None → AllByRecursion (Has table) (lookup_visits full root key).digests → (lookup_visits table root key).refusal ≡ None
  unfolding PassesHeld
  lookup-back root key passed held = steps-back (seen table root) (seen full root) (less-seen table full has root) [] (nibbles key) (passed, held)
