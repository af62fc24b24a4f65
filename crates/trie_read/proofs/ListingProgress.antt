-- How far a listing has come, and what each visit makes of that.
use Rattle.std.proofs.Common.{◌≡◌, ℕ, suc, ◌-◌, ◌<◌, List, [], ◌∷◌, ◌++◌, length, map, Option, None, Some, refl, sym, ap, ap₂, ◌∙◌, subst, arith, append_assoc, length-append}
use Rattle.std.specs.Option.{option_map}
use Rattle.std.specs.Ordering.{nat_cmp}
use Rattle.std.specs.List.Sorted.{IsStrictlySortedBy}
use Rattle.std.specs.Cmp.Lexicographic.{slice_cmp}
use Rattle.std.specs.FinMap.{get}
use Rattle.std.proofs.lemmas.Bool.{eq-eqb}
use Rattle.byte_model.specs.Nibbles.{nibbles}
use Rattle.trie_model.specs.Root.{Table}
use Rattle.trie_model.specs.State.{Row, rows_of}
use Rattle.visit_model.specs.Steps.{Step, no_text, no_node, value, value_steps, listing_steps}
use Rattle.visit_model.specs.Steps as step
use Rattle.visit_model.specs.Visits.{Visits, missing, bad, refused, node_first, value_first, value_visit, visits_of}
use Rattle.visit_model.proofs.RisingRows.{rows_of-insert}
use Rattle.base_core.specs.PairMaps.{PairMap}
use Rattle.node_codec.specs.declared.value_ref.ValueRef as codec
use Rattle.node_codec.specs.Meanings.{value_of}
use Rattle.trie_read.specs.declared.walk.Place.{Place}
use Rattle.trie_read.specs.declared.walk.Walk.{Walk}
use Rattle.trie_read.specs.Walks.{steps_of, IsWalk}
use Rattle.base_core.specs.Faults as ended
use Rattle.text_store.specs.Store.{Store}
use Rattle.text_store.specs.Leaves.{Leaves}
use Rattle.trie_read.specs.Listings.{Passed, Added}
use Rattle.text_store.proofs.Leaves.{Leaves-then}
use Rattle.trie_read.proofs.Loads.{Onward}
use Rattle.trie_read.proofs.Stacks.{steps_of-push}

-- what was visited before
abbrev pub after : List (List ℕ) → List Row → Visits → Visits
after digests rows v = record { digests = digests ++ v.digests; values = rows ++ v.values; refusal = v.refusal }

-- the places that are left, where so many further values may be visited
abbrev pub left_of : Table → List ℕ → ℕ → Walk → PairMap → Visits
left_of table from most walk pairs = visits_of table (most - length (rows_of pairs.state)) (steps_of table from walk.path.items walk.pending.items)

-- These texts were visited and these pairs collected, and the walk has the rest.
pub record IsListing {S : Type 0} (store : Store S) (old now : S) (table : Table) (from : List ℕ) (visits : Visits) (most : ℕ) (walk : Walk) (pairs : PairMap) : Type 0 where
  pub digests : List (List ℕ)
  pub all : visits ≡ after digests (rows_of pairs.state) (left_of table from most walk pairs)
  pub left : Leaves store old now digests ended.done
  pub walk_is : IsWalk walk.path.items walk.pending.items
  pub most_is : pairs.most ≡ most

-- the same with a node just visited, whose value comes next, if it has one
pub record IsBetween {S : Type 0} (store : Store S) (old now : S) (table : Table) (from : List ℕ) (visits : Visits) (most : ℕ) (walk : Walk) (pairs : PairMap) (found : Option codec.ValueRef) : Type 0 where
  pub digests : List (List ℕ)
  pub all : visits ≡ after digests (rows_of pairs.state) (visits_of table (most - length (rows_of pairs.state)) (value_steps walk.path.items (option_map value_of found) ++ steps_of table from walk.path.items walk.pending.items))
  pub left : Leaves store old now digests ended.done
  pub walk_is : IsWalk walk.path.items walk.pending.items
  pub most_is : pairs.most ≡ most
  pub room : length (rows_of pairs.state) < most

-- ---- visits

after-node : (digests : List (List ℕ)) (rows : List Row) (digest : List ℕ) (v : Visits) → after digests rows (node_first digest v) ≡ after (digests ++ digest ∷ []) rows v
after-node digests rows digest v = ap (λ (ds : List (List ℕ)). record { digests = ds; values = rows ++ v.values; refusal = v.refusal }) (sym (append_assoc digests (digest ∷ []) v.digests))

after-value : (digests : List (List ℕ)) (rows : List Row) (digest : List ℕ) (row : Row) (v : Visits) → after digests rows (value_first digest row v) ≡ after (digests ++ digest ∷ []) (rows ++ row ∷ []) v
after-value digests rows digest row v = ap₂ (λ (ds : List (List ℕ)) (rs : List Row). record { digests = ds; values = rs; refusal = v.refusal }) (sym (append_assoc digests (digest ∷ []) v.digests)) (sym (append_assoc rows (row ∷ []) v.values))

-- one value more is allowed
pub one_more : (most n : ℕ) → n < most → most - n ≡ suc (most - suc n)
one_more most n h = omega arith

pub node-step : (table : Table) (most n : ℕ) (digest : List ℕ) (steps : List Step) → n < most → visits_of table (most - n) (step.node digest ∷ steps) ≡ node_first digest (visits_of table (most - n) steps)
unfolding visits_of
node-step table most n digest steps h = rw (one_more most n h) refl

pub no_text-step : (table : Table) (most n : ℕ) (digest : List ℕ) (steps : List Step) → n < most → visits_of table (most - n) (no_text digest ∷ steps) ≡ refused digest (missing digest)
unfolding visits_of
no_text-step table most n digest steps h = rw (one_more most n h) refl

pub no_node-step : (table : Table) (most n : ℕ) (digest : List ℕ) (steps : List Step) → n < most → visits_of table (most - n) (no_node digest ∷ steps) ≡ refused digest (bad digest)
unfolding visits_of
no_node-step table most n digest steps h = rw (one_more most n h) refl

pub value-step : (table : Table) (most n : ℕ) (path : List ℕ) (ref : codec.ValueRef) (held : Option (List ℕ)) (steps : List Step) → n < most → get table ref.digest.0 ≡ held → visits_of table (most - n) (value path (value_of ref) ∷ steps) ≡ value_visit path (value_of ref) held (visits_of table (most - suc n) steps)
unfolding visits_of
value-step table most n path ref held steps h e = rw (one_more most n h) (ap (λ (o : Option (List ℕ)). value_visit path (value_of ref) o (visits_of table (most - suc n) steps)) e)

-- ---- the node of a place

pub place-passed : {S : Type 0} (store : Store S) (old mid new : S) (table : Table) (from : List ℕ) (visits : Visits) (most : ℕ) (before popped walk : Walk) (pairs : PairMap) (place : Place) (found : Option codec.ValueRef) → Onward store → IsListing store old mid table from visits most before pairs → length (rows_of pairs.state) < most → before.pending.items ≡ popped.pending.items ++ place ∷ [] → popped.path.items ≡ before.path.items → Passed table from popped walk place found → Leaves store mid new (place.digest.0 ∷ []) ended.done → IsBetween store old new table from visits most walk pairs found
place-passed store old mid new table from visits most before popped walk pairs place found onward is room pending_is path_is passed left =
    let rows = rows_of pairs.state in
    let further = value_steps walk.path.items (option_map value_of found) ++ steps_of table from walk.path.items walk.pending.items in
    let steps : steps_of table from before.path.items before.pending.items ≡ step.node place.digest.0 ∷ further =
    ap₂ (λ (p : List ℕ) (places : List Place). steps_of table from p places) (sym path_is) pending_is ∙ steps_of-push table from popped.path.items popped.pending.items place ∙ passed.steps in
    record {
      digests = is.digests ++ place.digest.0 ∷ [];
      all = is.all ∙ ap (λ (l : List Step). after is.digests rows (visits_of table (most - length rows) l)) steps ∙ ap (after is.digests rows) (node-step table most (length rows) place.digest.0 further room) ∙ after-node is.digests rows place.digest.0 _;
      left = Leaves-then store onward old mid new is.digests (place.digest.0 ∷ []) ended.done is.left left;
      walk_is = passed.walk;
      most_is = is.most_is;
      room = room;
    }

-- without a value
pub no-value : {S : Type 0} (store : Store S) (old now : S) (table : Table) (from : List ℕ) (visits : Visits) (most : ℕ) (walk : Walk) (pairs : PairMap) → IsBetween store old now table from visits most walk pairs None → IsListing store old now table from visits most walk pairs
no-value store old now table from visits most walk pairs is = record { digests = is.digests; all = is.all; left = is.left; walk_is = is.walk_is; most_is = is.most_is }

-- with one, which was collected
pub value-added : {S : Type 0} (store : Store S) (old mid new : S) (table : Table) (from : List ℕ) (visits : Visits) (most : ℕ) (walk : Walk) (pairs collected : PairMap) (ref : codec.ValueRef) → Onward store → IsStrictlySortedBy (slice_cmp nat_cmp) (map (λ row. row.0) visits.values) → IsBetween store old mid table from visits most walk pairs (Some ref) → Added table walk.path.items ref pairs collected → Leaves store mid new (ref.digest.0 ∷ []) ended.done → IsListing store old new table from visits most walk collected
unfolding value_visit
value-added store old mid new table from visits most walk pairs collected ref onward rising is added left =
    let rows = rows_of pairs.state in
    let path = walk.path.items in
    let steps = steps_of table from path walk.pending.items in
    let row : Row = (path, added.text) in
    let later = visits_of table (most - suc (length rows)) steps in
    let all : visits ≡ after (is.digests ++ ref.digest.0 ∷ []) (rows ++ row ∷ []) later =
    is.all ∙ ap (after is.digests rows) (value-step table most (length rows) path ref (Some added.text) steps is.room added.held ∙ rw (eq-eqb (length added.text) ref.length added.length_is) refl) ∙ after-value is.digests rows ref.digest.0 row later in
    let key_is : row ≡ (nibbles added.lays.key, added.text) = ap (λ (p : List ℕ). (p, added.text)) (sym added.lays.nibbles_are) in
    let values : visits.values ≡ rows ++ (nibbles added.lays.key, added.text) ∷ later.values = ap (λ (v : Visits). v.values) all ∙ append_assoc rows (row ∷ []) later.values ∙ ap (λ (r : Row). rows ++ r ∷ later.values) key_is in
    let put : rows_of collected.state ≡ rows ++ row ∷ [] = ap (λ (h : PairMap). rows_of h.state) added.lays.laid_is ∙ rows_of-insert pairs.state added.lays.key added.text later.values (subst (λ (rs : List Row). IsStrictlySortedBy (slice_cmp nat_cmp) (map (λ r. r.0) rs)) values rising) ∙ ap (λ (r : Row). rows ++ r ∷ []) (sym key_is) in
    let count : suc (length rows) ≡ length (rows_of collected.state) = (let n = length-append rows (row ∷ []) in omega arith) ∙ sym (ap length put) in
    record {
      digests = is.digests ++ ref.digest.0 ∷ [];
      all = all ∙ ap₂ (λ (rs : List Row) (n : ℕ). after (is.digests ++ ref.digest.0 ∷ []) rs (visits_of table (most - n) steps)) (sym put) count;
      left = Leaves-then store onward old mid new is.digests (ref.digest.0 ∷ []) ended.done is.left left;
      walk_is = is.walk_is;
      most_is = ap (λ (h : PairMap). h.most) added.lays.laid_is ∙ is.most_is;
    }
