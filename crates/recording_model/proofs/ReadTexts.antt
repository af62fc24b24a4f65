-- The texts that reads visit are held, where every visit passed its test.
use Rattle.std.proofs.Common.{◌≡◌, ℕ, ◌==◌, Bool, true, false, if◌then◌else◌, nat_eq, List, [], ◌∷◌, ◌++◌, length, Option, None, Some, refl}
use Rattle.std.specs.List.{AllByRecursion}
use Rattle.std.specs.Cmp.Lexicographic.{pointwise}
use Rattle.std.specs.FinMap.{get}
use Rattle.byte_model.specs.Nibbles.{nibbles}
use Rattle.byte_model.specs.Node.{ValueRef}
use Rattle.byte_model.proofs.Lists.{AllByRecursion-append}
use Rattle.trie_model.specs.Root.{Table}
use Rattle.trie_model.specs.Tree.{rest_behind}
use Rattle.visit_model.specs.Seen.{Seen, nothing, missing, bad, leaf, branch, extension, seen}
use Rattle.visit_model.specs.Steps.{value, value_steps, behind, lookup_steps}
use Rattle.visit_model.specs.Visits as looking
use Rattle.visit_model.specs.Visits.{value_visit, value_first, visits_of, lookup_visits}
use Rattle.recording_model.specs.Replays.{Visits, value_among, and_reads, reads_visits}
use Rattle.recording_model.proofs.Behind.{reads-passed}
use Rattle.recording_model.proofs.VisitedTexts.{Has, Stored, stored-seen}

module _ (table : Table) where
  value-held : (path : List ℕ) (ref : ValueRef) → (visits_of table 1 (value path ref ∷ [])).refusal ≡ None → AllByRecursion (Has table) (visits_of table 1 (value path ref ∷ [])).digests
  unfolding visits_of value_visit
  value-held path ref passed = go (get table ref.digest) refl passed
    where
      by_length : (text : List ℕ) → get table ref.digest ≡ Some text → (b : Bool) → AllByRecursion (Has table) (if b then value_first ref.digest (path, text) looking.no_visits else looking.refused ref.digest (looking.bad ref.digest)).digests
      by_length text e true = ((text, e), tt)
      by_length text e false = ((text, e), tt)

      go : (held : Option (List ℕ)) → get table ref.digest ≡ held → (value_visit path ref held looking.no_visits).refusal ≡ None → AllByRecursion (Has table) (value_visit path ref held looking.no_visits).digests
      go None e k = cc
      go (Some text) e k = by_length text e (length text == ref.length)

  values-held : (path : List ℕ) (ref : Option ValueRef) → (visits_of table 1 (value_steps path ref)).refusal ≡ None → AllByRecursion (Has table) (visits_of table 1 (value_steps path ref)).digests
  unfolding visits_of
  values-held path None passed = tt
  values-held path (Some ref) passed = value-held path ref passed

  steps-held : (s : Seen) → Stored table s → (before rest : List ℕ) → (visits_of table 1 (lookup_steps s before rest)).refusal ≡ None → AllByRecursion (Has table) (visits_of table 1 (lookup_steps s before rest)).digests
  unfolding Stored lookup_steps visits_of behind
  steps-held nothing h before rest passed = tt
  steps-held (missing digest) h before rest passed = cc
  steps-held (bad digest) h before rest passed = cc
  steps-held (leaf digest usage path ref) h before rest passed = (h, go (pointwise nat_eq path rest) passed)
    where
      go : (b : Bool) → (visits_of table 1 (if b then value (before ++ path) ref ∷ [] else [])).refusal ≡ None → AllByRecursion (Has table) (visits_of table 1 (if b then value (before ++ path) ref ∷ [] else [])).digests
      go true k = value-held (before ++ path) ref k
      go false k = tt
  steps-held (branch digest usage ref kids) h before [] passed = (h.0, values-held before ref passed)
  steps-held (branch digest usage ref kids) h before (x ∷ rest) passed = (h.0, steps-held (kids x) (h.1 x) (before ++ x ∷ []) rest passed)
  steps-held (extension digest usage path child) h before rest passed = (h.0, go (rest_behind path rest) passed (steps-held child h.1 (before ++ path)))
    where
      go : (r : Option (List ℕ)) → (visits_of table 1 (behind (lookup_steps child (before ++ path)) r)).refusal ≡ None → ((rest : List ℕ) → (visits_of table 1 (lookup_steps child (before ++ path) rest)).refusal ≡ None → AllByRecursion (Has table) (visits_of table 1 (lookup_steps child (before ++ path) rest)).digests) → AllByRecursion (Has table) (visits_of table 1 (behind (lookup_steps child (before ++ path)) r)).digests
      go None k further = tt
      go (Some deeper) k further = further deeper k

  held-and : (o : Option looking.Refusal) (digests : List (List ℕ)) (value : Option (List ℕ)) (further : Visits) → AllByRecursion (Has table) digests → AllByRecursion (Has table) further.digests → AllByRecursion (Has table) (and_reads o digests value further).digests
  unfolding and_reads
  held-and None digests x further h k = AllByRecursion-append (Has table) digests further.digests h k
  held-and (Some why) digests x further h k = h

  pub held-reads : (root : List ℕ) (reads : List (List ℕ)) → (reads_visits table root reads).refusal ≡ None → AllByRecursion (Has table) (reads_visits table root reads).digests
  unfolding reads_visits
  held-reads root [] passed = tt
  held-reads root (key ∷ reads) passed =
      let v = lookup_visits table root key in
      let both = reads-passed v.refusal v.digests (value_among v.values) (reads_visits table root reads) passed in
      held-and v.refusal v.digests (value_among v.values) (reads_visits table root reads) (steps-held (seen table root) (stored-seen table root) [] (nibbles key) both.0) (held-reads root reads both.1)
