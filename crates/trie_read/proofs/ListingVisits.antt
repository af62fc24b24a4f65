-- How a listing begins and ends.
use Rattle.std.proofs.Common.{◌≡◌, ◌≢◌, ℕ, zero, suc, ◌+◌, ◌-◌, ◌<◌, ◌≤◌, Bool, true, false, List, [], ◌∷◌, ◌++◌, length, take, Option, None, Some, Result, Ok, Err, refl, sym, ap, ap₂, ◌∙◌, subst, arith, append-nil, length-append}
use Rattle.std.specs.Prelude.{if◌then◌else◌, nat_eq, IsSomeAnd, filter}
use Rattle.std.specs.Option.{option_map}
use Rattle.std.specs.Cmp.Lexicographic.{pointwise}
use Rattle.std.specs.FinMap.{get, entries, empty}
use Rattle.std.proofs.lemmas.List.{length-map}
use Rattle.trie_model.specs.Root.{Table, Holds, root, zero_digest}
use Rattle.trie_model.specs.State.{State, Row, IsState, rows_of}
use Rattle.trie_model.proofs.Worked.{rows_of-empty, rows_of_pairs}
use Rattle.trie_model.proofs.Roots.{pairs_same}
use Rattle.visit_model.specs.Seen.{Seen, nothing, seen, seen_at}
use Rattle.visit_model.specs.Steps.{Step, no_text, no_node, value, value_steps, listing_steps}
use Rattle.visit_model.specs.Visits.{Visits, Refusal, missing, bad, no_visits, refused, value_visit, visits_of, listing_visits}
use Rattle.visit_model.specs.Bounds.{reaches}
use Rattle.visit_model.proofs.Listings.{reads-state, rows_from-pairs}
use Rattle.base_core.specs.PairMaps.{PairMap}
use Rattle.base_core.specs.declared.hash.Digest.{Digest}
use Rattle.node_codec.specs.declared.value_ref.ValueRef as codec
use Rattle.node_codec.specs.Meanings.{value_of}
use Rattle.trie_read.specs.declared.errors.ListError.{ListError}
use Rattle.trie_read.specs.declared.errors.ListError.TheVariants.{Missing, Bad, Fault, NoMemory}
use Rattle.trie_read.specs.declared.walk.Place.{Place}
use Rattle.trie_read.specs.declared.walk.Walk.{Walk}
use Rattle.trie_read.specs.Walks.{place_before, place_depth, place_bound, steps_at, steps_of, IsWalk}
use Rattle.base_core.specs.Faults as ended
use Rattle.text_store.specs.Store.{Store}
use Rattle.text_store.specs.Leaves.{Leaves}
use Rattle.trie_read.specs.Endings.{by_list_error, list_ended}
use Rattle.trie_read.specs.Listings.{Passed, AnswersPlace, AnswersPair, AnswersListing, AnswersPairs}
use Rattle.text_store.proofs.Leaves.{Leaves-none, Leaves-then}
use Rattle.trie_read.proofs.Loads.{Onward, Leaves-failed, Leaves-short}
use Rattle.trie_read.proofs.States.{none_some}
use Rattle.trie_read.proofs.FirstSteps.{seen_at-something, listing-some}
use Rattle.trie_read.proofs.LookupVisits.{visits-some, other-value}
use Rattle.trie_read.proofs.LookupProgress.{root-seen}
use Rattle.trie_read.proofs.Stacks.{steps_of-push}
use Rattle.trie_read.proofs.ListingProgress.{after, left_of, IsListing, IsBetween, one_more, no_text-step, no_node-step, value-step}

-- what is owed for an answer
pub record Answered {S : Type 0} (store : Store S) (old new : S) (visits : Visits) (most : ℕ) (result : Result PairMap ListError) : Type 0 where
  pub leaves : Leaves store old new visits.digests (list_ended result)
  pub answers : AnswersListing visits most result

-- ---- the begin

-- no root
pub no_root : (table : Table) (top from : List ℕ) (most : ℕ) → true ≡ pointwise nat_eq top zero_digest → visits_of table most (listing_steps (seen table top) [] from) ≡ no_visits
unfolding seen listing_steps visits_of
no_root table top from most is = ap (λ (b : Bool). visits_of table most (listing_steps (if b then nothing else seen_at table 0 false top) [] from)) (sym is) ∙ none most
  where
    none : (n : ℕ) → visits_of table n [] ≡ no_visits
    none zero = refl
    none (suc n) = refl

pub listed_none : {S : Type 0} (store : Store S) (old : S) (visits : Visits) (most : ℕ) (pairs : PairMap) → store.alike old old → visits ≡ no_visits → pairs.state ≡ empty → pairs.most ≡ most → Answered store old old visits most (Ok pairs)
listed_none store old visits most pairs itself none state_is most_is = record {
  leaves = subst (λ (v : Visits). Leaves store old old v.digests ended.done) (sym none) (Leaves-none store old itself);
  answers = (ap rows_of state_is ∙ rows_of-empty ∙ sym (ap (λ (v : Visits). v.values) none), ap (λ (v : Visits). v.refusal) none, most_is);
}

from_none : (table : Table) (most : ℕ) (steps : List Step) (rows : List Row) → rows ≡ [] → visits_of table most steps ≡ after [] rows (visits_of table (most - length rows) steps)
from_none table most steps (row ∷ rows) none = absurd cc
from_none table most steps [] none = let all : most ≡ most - 0 = omega arith in ap (λ (n : ℕ). visits_of table n steps) all

-- the root is still to be visited
pub at_root : {S : Type 0} (store : Store S) (old : S) (table : Table) (top : Digest) (from : List ℕ) (most : ℕ) (walk : Walk) (pairs : PairMap) → store.alike old old → false ≡ pointwise nat_eq top.0 zero_digest → walk.path.items ≡ [] → walk.pending.items ≡ record { digest = top; prefix = 0; nibble = None; after_extension = false; bounded = true } ∷ [] → pairs.state ≡ empty → pairs.most ≡ most → IsListing store old old table from (visits_of table most (listing_steps (seen table top.0) [] from)) most walk pairs
unfolding steps_of
at_root store old table top from most walk pairs itself nonzero path_is pending_is state_is most_is =
    let rows : rows_of pairs.state ≡ [] = ap rows_of state_is ∙ rows_of-empty in
    let steps : listing_steps (seen table top.0) [] from ≡ steps_of table from walk.path.items walk.pending.items =
    ap (λ (s : Seen). listing_steps s [] from) (root-seen table top.0 nonzero) ∙ ap₂ (λ (p : List ℕ) (places : List Place). steps_of table from p places) (sym path_is) (sym pending_is) in
    record {
      digests = [];
      all = ap (visits_of table most) steps ∙ from_none table most (steps_of table from walk.path.items walk.pending.items) (rows_of pairs.state) rows;
      left = Leaves-none store old itself;
      walk_is = ap₂_walk (sym path_is) (sym pending_is);
      most_is = most_is;
    }
  where
    start : Place
    start = record { digest = top; prefix = 0; nibble = None; after_extension = false; bounded = true }

    ap₂_walk : [] ≡ walk.path.items → start ∷ [] ≡ walk.pending.items → IsWalk walk.path.items walk.pending.items
    ap₂_walk p q = subst (λ (places : List Place). IsWalk walk.path.items places) q (subst (λ (path : List ℕ). IsWalk path (start ∷ [])) p (record { small = tt; stacked = (record { prefix = omega arith; deep = omega arith; small = tt }, tt, tt) }))

-- ---- the end

listed : {S : Type 0} (store : Store S) (old now : S) (table : Table) (from : List ℕ) (visits : Visits) (most : ℕ) (walk : Walk) (pairs : PairMap) → IsListing store old now table from visits most walk pairs → left_of table from most walk pairs ≡ no_visits → Answered store old now visits most (Ok pairs)
listed store old now table from visits most walk pairs is none =
    let all : visits ≡ record { digests = is.digests; values = rows_of pairs.state; refusal = None } = is.all ∙ ap (after is.digests (rows_of pairs.state)) none ∙ ap₂ (λ (ds : List (List ℕ)) (rs : List Row). record { digests = ds; values = rs; refusal = None }) (append-nil is.digests) (append-nil (rows_of pairs.state)) in
    record {
      leaves = subst (λ (v : Visits). Leaves store old now v.digests ended.done) (sym all) is.left;
      answers = (sym (ap (λ (v : Visits). v.values) all), ap (λ (v : Visits). v.refusal) all, is.most_is);
    }

-- no place is left
pub all_visited : {S : Type 0} (store : Store S) (old now : S) (table : Table) (from : List ℕ) (visits : Visits) (most : ℕ) (walk : Walk) (pairs : PairMap) → IsListing store old now table from visits most walk pairs → walk.pending.items ≡ [] → Answered store old now visits most (Ok pairs)
unfolding steps_of visits_of
all_visited store old now table from visits most walk pairs is none =
    listed store old now table from visits most walk pairs is (ap (λ (places : List Place). visits_of table (most - length (rows_of pairs.state)) (steps_of table from walk.path.items places)) none ∙ nothing_left (most - length (rows_of pairs.state)))
  where
    nothing_left : (n : ℕ) → visits_of table n [] ≡ no_visits
    nothing_left zero = refl
    nothing_left (suc n) = refl

-- enough values were visited
pub enough_visited : {S : Type 0} (store : Store S) (old now : S) (table : Table) (from : List ℕ) (visits : Visits) (most : ℕ) (walk : Walk) (pairs : PairMap) → IsListing store old now table from visits most walk pairs → most ≤ length (rows_of pairs.state) → Answered store old now visits most (Ok pairs)
unfolding visits_of
enough_visited store old now table from visits most walk pairs is enough =
    let none : most - length (rows_of pairs.state) ≡ 0 = omega arith in
    listed store old now table from visits most walk pairs is (ap (λ (n : ℕ). visits_of table n (steps_of table from walk.path.items walk.pending.items)) none)

-- ---- a test that failed

refused-all : {S : Type 0} (store : Store S) (old mid new : S) (visits : Visits) (digests : List (List ℕ)) (rows : List Row) (digest : List ℕ) (why : Refusal) → Onward store → visits ≡ after digests rows (refused digest why) → Leaves store old mid digests ended.done → Leaves store mid new (digest ∷ []) ended.refused → Leaves store old new visits.digests ended.refused × (visits.refusal ≡ Some why)
refused-all store old mid new visits digests rows digest why onward all before more = (
  subst (λ (v : Visits). Leaves store old new v.digests ended.refused) (sym all) (Leaves-then store onward old mid new digests (digest ∷ []) ended.refused before more),
  ap (λ (v : Visits). v.refusal) all,
)

-- the step that was cut off is one of the visits
one_within : (visits : Visits) (digests : List (List ℕ)) (rows : List Row) (rest : Visits) (digest : List ℕ) → visits ≡ after digests rows rest → 0 < length rest.digests → length (digests ++ digest ∷ []) ≤ length visits.digests
one_within visits digests rows rest digest all some =
    let count : length visits.digests ≡ length digests + length rest.digests = ap (λ (v : Visits). length v.digests) all ∙ length-append digests rest.digests in
    let one = length-append digests (digest ∷ []) in
    omega arith

some-left : (table : Table) (most n : ℕ) (first : Step) (further : List Step) → n < most → 0 < length (visits_of table (most - n) (first ∷ further)).digests
some-left table most n first further h = rw (one_more most n h) (visits-some table (most - suc n) first further)

-- the first step of a walk is that of its last place
first-step : (table : Table) (from : List ℕ) (before popped : Walk) (place : Place) → before.pending.items ≡ popped.pending.items ++ place ∷ [] → popped.path.items ≡ before.path.items → steps_of table from before.path.items before.pending.items ≡ steps_at table from popped.path.items place ++ steps_of table from popped.path.items popped.pending.items
first-step table from before popped place pending_is path_is =
    ap₂ (λ (p : List ℕ) (places : List Place). steps_of table from p places) (sym path_is) pending_is ∙ steps_of-push table from popped.path.items popped.pending.items place

-- at a place
pub place-refused : {S : Type 0} (store : Store S) (old mid new : S) (table : Table) (from : List ℕ) (visits : Visits) (most : ℕ) (before popped walk : Walk) (pairs : PairMap) (place : Place) (error : ListError) → Onward store → IsListing store old mid table from visits most before pairs → length (rows_of pairs.state) < most → before.pending.items ≡ popped.pending.items ++ place ∷ [] → popped.path.items ≡ before.path.items → AnswersPlace table from popped walk place (Err error) → Leaves store mid new (place.digest.0 ∷ []) (by_list_error error) → Answered store old new visits most (Err error)
place-refused store old mid new table from visits most before popped walk pairs place error onward is room pending_is path_is answer left = go error answer left
  where
    rows : List Row
    rows = rows_of pairs.state

    rest : List Step
    rest = steps_of table from popped.path.items popped.pending.items

    whole : (steps : List Step) → steps_at table from popped.path.items place ≡ steps → visits ≡ after is.digests rows (visits_of table (most - length rows) (steps ++ rest))
    whole steps e = is.all ∙ ap (λ (l : List Step). after is.digests rows (visits_of table (most - length rows) l)) (first-step table from before popped place pending_is path_is ∙ ap (λ (l : List Step). l ++ rest) e)

    some : (first : Step) × (further : List Step) × (steps_at table from popped.path.items place ≡ first ∷ further)
    some = listing-some (seen_at table (place_depth place) place.after_extension place.digest.0) (place_before popped.path.items place) (place_bound from place) (seen_at-something table (place_depth place) place.after_extension place.digest.0)

    within : length (is.digests ++ place.digest.0 ∷ []) ≤ length visits.digests
    within = one_within visits is.digests rows _ place.digest.0 (whole (some.0 ∷ some.1) some.2) (some-left table most (length rows) some.0 (some.1 ++ rest) room)

    go : (e : ListError) → AnswersPlace table from popped walk place (Err e) → Leaves store mid new (place.digest.0 ∷ []) (by_list_error e) → Answered store old new visits most (Err e)
    go (Missing named) a l =
        let done = refused-all store old mid new visits is.digests rows place.digest.0 (missing place.digest.0) onward (whole (no_text place.digest.0 ∷ []) a.1 ∙ ap (after is.digests rows) (no_text-step table most (length rows) place.digest.0 rest room)) is.left l in
        record { leaves = done.0; answers = done.1 ∙ ap (λ d. Some (missing d.0)) (sym a.0) }
    go (Bad named) a l =
        let done = refused-all store old mid new visits is.digests rows place.digest.0 (bad place.digest.0) onward (whole (no_node place.digest.0 ∷ []) a.1 ∙ ap (after is.digests rows) (no_node-step table most (length rows) place.digest.0 rest room)) is.left l in
        record { leaves = done.0; answers = done.1 ∙ ap (λ d. Some (bad d.0)) (sym a.0) }
    go Fault a l = record { leaves = Leaves-failed store old new (is.digests ++ place.digest.0 ∷ []) visits.digests within (Leaves-then store onward old mid new is.digests (place.digest.0 ∷ []) ended.failed is.left l); answers = tt }
    go NoMemory a l = record { leaves = Leaves-short store old new (is.digests ++ place.digest.0 ∷ []) visits.digests within (Leaves-then store onward old mid new is.digests (place.digest.0 ∷ []) ended.short_of_memory is.left l); answers = tt }

-- at a value
pub pair-refused : {S : Type 0} (store : Store S) (old mid new : S) (table : Table) (from : List ℕ) (visits : Visits) (most : ℕ) (walk : Walk) (pairs collected : PairMap) (ref : codec.ValueRef) (error : ListError) → Onward store → IsBetween store old mid table from visits most walk pairs (Some ref) → AnswersPair table walk.path.items ref pairs collected (Err error) → Leaves store mid new (ref.digest.0 ∷ []) (by_list_error error) → Answered store old new visits most (Err error)
unfolding value_visit
pair-refused store old mid new table from visits most walk pairs collected ref error onward is answer left = go error answer left
  where
    rows : List Row
    rows = rows_of pairs.state

    steps : List Step
    steps = steps_of table from walk.path.items walk.pending.items

    later : Visits
    later = visits_of table (most - suc (length rows)) steps

    whole : (held : Option (List ℕ)) → get table ref.digest.0 ≡ held → visits ≡ after is.digests rows (value_visit walk.path.items (value_of ref) held later)
    whole held e = is.all ∙ ap (after is.digests rows) (value-step table most (length rows) walk.path.items ref held steps is.room e)

    within : length (is.digests ++ ref.digest.0 ∷ []) ≤ length visits.digests
    within = one_within visits is.digests rows _ ref.digest.0 is.all (some-left table most (length rows) (value walk.path.items (value_of ref)) steps is.room)

    go : (e : ListError) → AnswersPair table walk.path.items ref pairs collected (Err e) → Leaves store mid new (ref.digest.0 ∷ []) (by_list_error e) → Answered store old new visits most (Err e)
    go (Missing named) a l =
        let done = refused-all store old mid new visits is.digests rows ref.digest.0 (missing ref.digest.0) onward (whole None a.1) is.left l in
        record { leaves = done.0; answers = done.1 ∙ ap (λ d. Some (missing d.0)) (sym a.0) }
    go (Bad named) a l = held (get table ref.digest.0) refl a.1
      where
        held : (o : Option (List ℕ)) → get table ref.digest.0 ≡ o → IsSomeAnd o (λ text. length text ≢ ref.length) → Answered store old new visits most (Err (Bad named))
        held None e other = absurd other
        held (Some text) e other =
            let done = refused-all store old mid new visits is.digests rows ref.digest.0 (bad ref.digest.0) onward (whole (Some text) e ∙ ap (after is.digests rows) (other-value walk.path.items text ref later other)) is.left l in
            record { leaves = done.0; answers = done.1 ∙ ap (λ d. Some (bad d.0)) (sym a.0) }
    go Fault a l = record { leaves = Leaves-failed store old new (is.digests ++ ref.digest.0 ∷ []) visits.digests within (Leaves-then store onward old mid new is.digests (ref.digest.0 ∷ []) ended.failed is.left l); answers = tt }
    go NoMemory a l = record { leaves = Leaves-short store old new (is.digests ++ ref.digest.0 ∷ []) visits.digests within (Leaves-then store onward old mid new is.digests (ref.digest.0 ∷ []) ended.short_of_memory is.left l); answers = tt }

-- ---- over the texts of a state

pub list-state : (table : Table) (top from : List ℕ) (most : ℕ) (result : Result PairMap ListError) → AnswersListing (listing_visits table top from most) most result → (state : State) → Holds table state → IsState state → top ≡ root state → AnswersPairs (take most (filter (λ pair. reaches from pair.0) (entries state))) result
unfolding rows_of
list-state table top from most result answer state holds is top_is =
    let reads = reads-state table state from most holds is in
    let same : listing_visits table top from most ≡ listing_visits table (root state) from most = ap (λ (d : List ℕ). listing_visits table d from most) top_is in
    go result answer (ap (λ (v : Visits). v.values) same ∙ reads.values ∙ rows_from-pairs state from most) (ap (λ (v : Visits). v.refusal) same ∙ reads.refusal)
  where
    go : (r : Result PairMap ListError) → AnswersListing (listing_visits table top from most) most r → (listing_visits table top from most).values ≡ rows_of_pairs (take most (filter (λ pair. reaches from pair.0) (entries state))) → (listing_visits table top from most).refusal ≡ None → AnswersPairs (take most (filter (λ pair. reaches from pair.0) (entries state))) r
    go (Ok pairs) a values none = pairs_same (entries pairs.state) (take most (filter (λ pair. reaches from pair.0) (entries state))) (a.0 ∙ values)
    go (Err (Missing digest)) a values none = none_some _ _ none a
    go (Err (Bad digest)) a values none = none_some _ _ none a
    go (Err Fault) a values none = tt
    go (Err NoMemory) a values none = tt

-- ---- each turn leaves fewer steps

pub place-shorter : (table : Table) (from : List ℕ) (before popped walk : Walk) (place : Place) (found : Option codec.ValueRef) → before.pending.items ≡ popped.pending.items ++ place ∷ [] → popped.path.items ≡ before.path.items → Passed table from popped walk place found → length (steps_of table from walk.path.items walk.pending.items) < length (steps_of table from before.path.items before.pending.items)
place-shorter table from before popped walk place found pending_is path_is passed =
    let all = ap length (first-step table from before popped place pending_is path_is ∙ passed.steps) in
    let parts = length-append (value_steps walk.path.items (option_map value_of found)) (steps_of table from walk.path.items walk.pending.items) in
    omega arith

pub none_of_length : (places : List Place) → length places ≡ 0 → places ≡ []
none_of_length [] e = refl
none_of_length (place ∷ places) e = absurd (omega arith)

pub rows_of-length : (state : State) → length (rows_of state) ≡ length (entries state)
unfolding rows_of
rows_of-length state = length-map (entries state) _
