-- A batch that passed every test over some texts visits the same over more, and so does a recording that is replayed.
use Rattle.std.proofs.Common.{◌≡◌, ◌≢◌, ℕ, List, [], ◌∷◌, None, refl, sym, ap, ap₂}
use Rattle.trie_model.specs.Root.{Table}
use Rattle.visit_model.specs.Seen.{Seen, nothing, missing, bad, leaf, branch, extension, seen}
use Rattle.visit_model.specs.Visits as looking
use Rattle.visit_model.specs.Visits.{lookup_visits}
use Rattle.batch_model.specs.Changes.{Change, Changes, change_rows}
use Rattle.change_model.specs.Visits.{changes_behind, visit_alone, visits_at, where_touched, batch_visits}
use Rattle.change_model.specs.Along.{digest_of, SameName, SameTop, IfTouched, SameAlong}
use Rattle.change_model.proofs.Along.{visits_at-same}
use Rattle.update_model.proofs.Unrefused.{IsDone, missing-refused, bad-refused, branch-done, extension-done, alone-missing, alone-bad}
use Rattle.recording_model.specs.Replays.{Visits, value_among, read_first, reads_visits, batch_behind, replay_visits}
use Rattle.recording_model.proofs.Behind.{reads-passed, both-passed}
use Rattle.recording_model.proofs.More.{HasMore, LessSeen, less-seen, lookup-more}

-- ---- at a place

not_none : (c : Change) (cs : List Change) → c ∷ cs ≢ []
not_none c cs e = cc

module _ (table : Table) where
  name-more : (s other : Seen) → LessSeen table s other → SameName s other
  unfolding LessSeen digest_of
  name-more nothing other less = sym (ap digest_of less)
  name-more (missing digest) other less = sym less.0
  name-more (bad digest) other less = sym (ap digest_of less)
  name-more (leaf digest usage path ref) other less = sym (ap digest_of less)
  name-more (branch digest usage ref kids) other less = sym (ap digest_of less.1)
  name-more (extension digest usage path child) other less = sym (ap digest_of less.1)

  top-more : (s other : Seen) → LessSeen table s other → IsDone (visit_alone s) → SameTop s other
  unfolding LessSeen SameTop
  top-more nothing other less done = less
  top-more (missing digest) other less done = absurd (alone-missing digest done)
  top-more (bad digest) other less done = absurd (alone-bad digest done)
  top-more (leaf digest usage path ref) other less done = less
  top-more (branch digest usage ref kids) other less done = (less.0, less.1, (λ x small. name-more (kids x) (less.0 x) (less.2 x)))
  top-more (extension digest usage path child) other less done = (less.0, less.1, name-more child less.0 less.2)

  below-more : (s other : Seen) (changes : List Change) → LessSeen table s other → (changes ≢ [] → IsDone (visits_at s changes)) → (IsDone (visits_at s changes) → SameAlong s other changes) → IfTouched changes (SameAlong s other changes) (SameName s other)
  below-more s other [] less done further = name-more s other less
  below-more s other (c ∷ cs) less done further = further (done (not_none c cs))

  along-more : (s other : Seen) (changes : List Change) → LessSeen table s other → IsDone (visits_at s changes) → SameAlong s other changes
  unfolding LessSeen SameAlong
  along-more nothing other changes less done = less
  along-more (missing digest) other changes less done = absurd (missing-refused digest changes done)
  along-more (bad digest) other changes less done = absurd (bad-refused digest changes done)
  along-more (leaf digest usage path ref) other changes less done = less
  along-more (branch digest usage ref kids) other changes less done =
      let parts = branch-done digest usage ref kids changes done in (
        less.0,
        less.1,
        (λ x small. below-more (kids x) (less.0 x) (changes_behind (x ∷ []) changes) (less.2 x) (parts.touched x small) (along-more (kids x) (less.0 x) (changes_behind (x ∷ []) changes) (less.2 x))),
        (λ x merged. top-more (kids x) (less.0 x) (less.2 x) (parts.merged x merged)),
      )
  along-more (extension digest usage path child) other changes less done =
      let parts = extension-done digest usage path child changes done in (
        less.0,
        less.1,
        below-more child less.0 (changes_behind path changes) less.2 parts.touched (along-more child less.0 (changes_behind path changes) less.2),
      )

-- ---- the whole

module _ (table full : Table) (has : HasMore table full) (root : List ℕ) where
  pub batch-more : (changes : Changes) → (batch_visits table root changes).refusal ≡ None → batch_visits full root changes ≡ batch_visits table root changes
  batch-more changes passed = go (change_rows changes) passed
    where
      go : (rows : List Change) → (where_touched rows (visits_at (seen table root) rows)).refusal ≡ None → where_touched rows (visits_at (seen full root) rows) ≡ where_touched rows (visits_at (seen table root) rows)
      go [] k = refl
      go (c ∷ cs) k = visits_at-same (seen table root) (seen full root) (c ∷ cs) (along-more table (seen table root) (seen full root) (c ∷ cs) (less-seen table full has root) k)

  pub reads-more : (reads : List (List ℕ)) → (reads_visits table root reads).refusal ≡ None → reads_visits full root reads ≡ reads_visits table root reads
  unfolding reads_visits
  reads-more [] passed = refl
  reads-more (key ∷ reads) passed =
      let v = lookup_visits table root key in
      let both = reads-passed v.refusal v.digests (value_among v.values) (reads_visits table root reads) passed in
      ap₂ (λ (w : looking.Visits) (further : Visits). read_first w further) (lookup-more table full has root key both.0) (reads-more reads both.1)

  pub replay-more : (reads : List (List ℕ)) (changes : Changes) → (replay_visits table root reads changes).refusal ≡ None → replay_visits full root reads changes ≡ replay_visits table root reads changes
  replay-more reads changes passed =
      let both = both-passed (reads_visits table root reads) (batch_visits table root changes) passed in
      ap₂ batch_behind (reads-more reads both.0) (batch-more changes both.1)
