-- Reads, one after the other: how far they have come, and what each makes of that.
use Rattle.std.proofs.Common.{◌≡◌, ℕ, List, [], ◌∷◌, ◌++◌, Option, None, Some, Ok, Err, refl, sym, ap, ap₂, ◌∙◌, subst, append_assoc, append-nil}
use Rattle.trie_model.specs.Root.{Table}
use Rattle.visit_model.specs.Visits as looking
use Rattle.visit_model.specs.Visits.{lookup_visits}
use Rattle.recording_model.specs.Replays.{Visits, and_reads, read_first, value_among, of_lookup, reads_visits}
use Rattle.base_core.specs.Faults.{done, refused, failed, short_of_memory}
use Rattle.text_store.specs.Store.{Store}
use Rattle.text_store.specs.Leaves.{Leaves}
use Rattle.text_store.proofs.Leaves.{Leaves-none, Leaves-then, Leaves-within, Leaves-short_within, Leaves-short}
use Rattle.partial_state.specs.declared.prove_error.ProveError.{ProveError}
use Rattle.partial_state.specs.declared.prove_error.ProveError.TheVariants.{Missing, Bad, Usage, Clash, Fault, NoMemory}
use Rattle.partial_state.specs.Replays.{by_prove_error, AnswersRead, AnswersReads}
use Rattle.partial_state.proofs.Carried.{Onward}

-- what was visited and answered before
abbrev pub after : List (List ℕ) → List (Option (List ℕ)) → Visits → Visits
after digests answers v = record { digests = digests ++ v.digests; answers = answers ++ v.answers; refusal = v.refusal }

-- These answers were given, and the rest of the keys is still to be read.
pub record IsReading {S : Type 0} (store : Store S) (old now : S) (table : Table) (root : List ℕ) (all rest : List (List ℕ)) (answers : List (Option (List ℕ))) : Type 0 where
  pub digests : List (List ℕ)
  pub told : reads_visits table root all ≡ after digests answers (reads_visits table root rest)
  pub left : Leaves store old now digests done

pub reading-start : {S : Type 0} (store : Store S) (old : S) → store.alike old old → (table : Table) (root : List ℕ) (all : List (List ℕ)) → IsReading store old old table root all all []
reading-start store old same table root all = record { digests = []; told = refl; left = Leaves-none store old same }

-- ---- one more

passed : (digests : List (List ℕ)) (answers : List (Option (List ℕ))) (v : looking.Visits) (value : Option (List ℕ)) (further : Visits) → v.refusal ≡ None → value_among v.values ≡ value → after digests answers (read_first v further) ≡ after (digests ++ v.digests) (answers ++ value ∷ []) further
unfolding and_reads
passed digests answers v value further e is =
    ap₂ (λ (o : Option looking.Refusal) (x : Option (List ℕ)). after digests answers (and_reads o v.digests x further)) e is
    ∙ ap₂ (λ (ds : List (List ℕ)) (os : List (Option (List ℕ))). record { digests = ds; answers = os; refusal = further.refusal }) (sym (append_assoc digests v.digests further.digests)) (sym (append_assoc answers (value ∷ []) further.answers))

stopped : (v : looking.Visits) (further : Visits) (why : looking.Refusal) → v.refusal ≡ Some why → read_first v further ≡ record { digests = v.digests; answers = []; refusal = Some (of_lookup why) }
unfolding and_reads
stopped v further why e = ap (λ (o : Option looking.Refusal). and_reads o v.digests (value_among v.values) further) e

begins : (o : Option looking.Refusal) (digests : List (List ℕ)) (value : Option (List ℕ)) (further : Visits) → (rest : List (List ℕ)) × ((and_reads o digests value further).digests ≡ digests ++ rest)
unfolding and_reads
begins None digests value further = (further.digests, refl)
begins (Some why) digests value further = ([], sym (append-nil digests))

opens : (table : Table) (root key : List ℕ) (rest : List (List ℕ)) → reads_visits table root (key ∷ rest) ≡ read_first (lookup_visits table root key) (reads_visits table root rest)
unfolding reads_visits
opens table root key rest = refl

-- what is asked of being alike
abbrev pub SameTexts : {S : Type 0} → Store S → Type 0
SameTexts {S} store = (a b : S) → store.alike a b → store.texts a ≡ store.texts b

module _ {S : Type 0} (store : Store S) (onward : Onward store) (texts : SameTexts store) (old mid new : S) (root key : List ℕ) (all now rest : List (List ℕ)) (answers : List (Option (List ℕ))) (here : now ≡ key ∷ rest) (h : IsReading store old mid (store.texts old) root all now answers) where
  abbrev table : Table
  table = store.texts old

  abbrev there : Table
  there = store.texts mid

  same : table ≡ there
  same = texts old mid h.left.same

  abbrev v : looking.Visits
  v = lookup_visits table root key

  abbrev further : Visits
  further = reads_visits table root rest

  told : reads_visits table root all ≡ after h.digests answers (read_first v further)
  told = h.told ∙ ap (λ (keys : List (List ℕ)). after h.digests answers (reads_visits table root keys)) here ∙ ap (after h.digests answers) (opens table root key rest)

  pub reading-more : (value : Option (List ℕ)) → AnswersRead (lookup_visits there root key) (Ok value) → Leaves store mid new (lookup_visits there root key).digests done → IsReading store old new table root all rest (answers ++ value ∷ [])
  reading-more value a l =
      let a' : AnswersRead v (Ok value) = subst (λ (t : Table). AnswersRead (lookup_visits t root key) (Ok value)) (sym same) a in
      let l' : Leaves store mid new v.digests done = subst (λ (t : Table). Leaves store mid new (lookup_visits t root key).digests done) (sym same) l in
      record {
        digests = h.digests ++ v.digests;
        told = told ∙ passed h.digests answers v value further a'.0 a'.1;
        left = Leaves-then store onward old mid new h.digests v.digests done h.left l';
      }

  refused_by : (why : looking.Refusal) → v.refusal ≡ Some why → Leaves store mid new v.digests refused → ((reads_visits table root all).refusal ≡ Some (of_lookup why)) × Leaves store old new (reads_visits table root all).digests refused
  refused_by why e l =
      let is : reads_visits table root all ≡ record { digests = h.digests ++ v.digests; answers = answers ++ []; refusal = Some (of_lookup why) } = told ∙ ap (after h.digests answers) (stopped v further why e) in
      (ap (λ (w : Visits). w.refusal) is, subst (λ (w : Visits). Leaves store old new w.digests refused) (sym is) (Leaves-then store onward old mid new h.digests v.digests refused h.left l))

  -- what is visited up to a read that broke off
  so_far : (more : List (List ℕ)) × ((reads_visits table root all).digests ≡ (h.digests ++ v.digests) ++ more)
  so_far =
      let more = begins v.refusal v.digests (value_among v.values) further in
      (more.0, ap (λ (w : Visits). w.digests) told ∙ ap (λ (ds : List (List ℕ)). h.digests ++ ds) more.1 ∙ sym (append_assoc h.digests v.digests more.0))

  go : {X : Type 0} (view : X → List (Option (List ℕ))) (error : ProveError) → AnswersRead v (Err error) → Leaves store mid new v.digests (by_prove_error error) → AnswersReads view (reads_visits table root all) (Err error) × Leaves store old new (reads_visits table root all).digests (by_prove_error error)
  go view (Missing digest) a l = refused_by (looking.missing digest.0) a l
  go view (Bad digest) a l = refused_by (looking.bad digest.0) a l
  go view (Usage digest) a l = absurd a
  go view (Clash digest one other) a l = absurd a
  go view Fault a l = (tt, subst (λ (ds : List (List ℕ)). Leaves store old new ds failed) (sym so_far.1) (Leaves-within store old new (h.digests ++ v.digests) so_far.0 (Leaves-then store onward old mid new h.digests v.digests failed h.left l)))
  go view NoMemory a l = (tt, subst (λ (ds : List (List ℕ)). Leaves store old new ds short_of_memory) (sym so_far.1) (Leaves-short_within store old new (h.digests ++ v.digests) so_far.0 (Leaves-then store onward old mid new h.digests v.digests short_of_memory h.left l)))

  pub reading-refused : {X : Type 0} (view : X → List (Option (List ℕ))) (error : ProveError) → AnswersRead (lookup_visits there root key) (Err error) → Leaves store mid new (lookup_visits there root key).digests (by_prove_error error) → AnswersReads view (reads_visits table root all) (Err error) × Leaves store old new (reads_visits table root all).digests (by_prove_error error)
  reading-refused view error a l =
      go view error
      (subst (λ (t : Table). AnswersRead (lookup_visits t root key) (Err error)) (sym same) a)
      (subst (λ (t : Table). Leaves store mid new (lookup_visits t root key).digests (by_prove_error error)) (sym same) l)

-- ---- the end

pub reading-short : {S : Type 0} (store : Store S) (old now : S) (table : Table) (root : List ℕ) (all rest : List (List ℕ)) (answers : List (Option (List ℕ))) → IsReading store old now table root all rest answers → Leaves store old now (reads_visits table root all).digests short_of_memory
reading-short store old now table root all rest answers h =
    subst (λ (w : Visits). Leaves store old now w.digests short_of_memory) (sym h.told) (Leaves-short store old now h.digests (reads_visits table root rest).digests h.left)

pub reading-all : {S : Type 0} (store : Store S) (old now : S) (table : Table) (root : List ℕ) (all : List (List ℕ)) (answers : List (Option (List ℕ))) → IsReading store old now table root all [] answers → (((reads_visits table root all).refusal ≡ None) × (answers ≡ (reads_visits table root all).answers)) × Leaves store old now (reads_visits table root all).digests done
unfolding reads_visits
reading-all store old now table root all answers h = (
  (ap (λ (w : Visits). w.refusal) h.told, sym (ap (λ (w : Visits). w.answers) h.told ∙ append-nil answers)),
  subst (λ (ds : List (List ℕ)). Leaves store old now ds done) (sym (ap (λ (w : Visits). w.digests) h.told ∙ append-nil h.digests)) h.left,
)

-- ---- where no answer is kept

pub record IsPassing {S : Type 0} (store : Store S) (old now : S) (table : Table) (root : List ℕ) (all rest : List (List ℕ)) : Type 0 where
  pub answers : List (Option (List ℕ))
  pub reading : IsReading store old now table root all rest answers

pub passing-start : {S : Type 0} (store : Store S) (old : S) → store.alike old old → (table : Table) (root : List ℕ) (all : List (List ℕ)) → IsPassing store old old table root all all
passing-start store old same table root all = record { answers = []; reading = reading-start store old same table root all }

module _ {S : Type 0} (store : Store S) (onward : Onward store) (texts : SameTexts store) (old mid new : S) (root key : List ℕ) (all now rest : List (List ℕ)) (here : now ≡ key ∷ rest) (h : IsPassing store old mid (store.texts old) root all now) where
  abbrev visited : looking.Visits
  visited = lookup_visits (store.texts mid) root key

  pub passing-more : visited.refusal ≡ None → Leaves store mid new visited.digests done → IsPassing store old new (store.texts old) root all rest
  passing-more a l = record {
    answers = h.answers ++ value_among visited.values ∷ [];
    reading = reading-more store onward texts old mid new root key all now rest h.answers here h.reading (value_among visited.values) (a, refl) l;
  }

  pub passing-refused : {X : Type 0} (view : X → List (Option (List ℕ))) (error : ProveError) → AnswersRead visited (Err error) → Leaves store mid new visited.digests (by_prove_error error) → AnswersReads view (reads_visits (store.texts old) root all) (Err error) × Leaves store old new (reads_visits (store.texts old) root all).digests (by_prove_error error)
  passing-refused view error a l = reading-refused store onward texts old mid new root key all now rest h.answers here h.reading view error a l

pub passing-all : {S : Type 0} (store : Store S) (old now : S) (table : Table) (root : List ℕ) (all : List (List ℕ)) → IsPassing store old now table root all [] → ((reads_visits table root all).refusal ≡ None) × Leaves store old now (reads_visits table root all).digests done
passing-all store old now table root all h = let r = reading-all store old now table root all h.answers h.reading in (r.0.0, r.1)
