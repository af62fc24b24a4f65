-- The visits of a lookup, by what finding the value's name and visiting the value have answered.
use Rattle.std.proofs.Common.{◌≡◌, ◌≢◌, ℕ, suc, ◌+◌, ◌<◌, ◌≤◌, Bool, true, false, List, [], ◌∷◌, ◌++◌, length, map, Option, None, Some, Result, Ok, Err, refl, sym, ap, ◌∙◌, subst, arith, append-nil, length-append}
use Rattle.std.specs.Prelude.{IsSomeAnd, if◌then◌else◌, ◌==◌}
use Rattle.std.specs.Borrow.{Bor}
use Rattle.std.specs.FinMap.{get}
use Rattle.std.proofs.lemmas.Bool.{eq-eqb, eqb-true}
use Rattle.trie_model.specs.Root.{Table}
use Rattle.byte_model.specs.Node.{ValueRef}
use Rattle.visit_model.specs.Steps.{Step, no_text, no_node, value}
use Rattle.visit_model.specs.Steps as step
use Rattle.visit_model.specs.Visits.{Visits, missing, bad, no_visits, refused, node_first, value_first, value_visit, visits_of}
use Rattle.node_codec.specs.declared.value_ref.ValueRef as codec
use Rattle.node_codec.specs.Meanings.{value_of}
use Rattle.trie_read.specs.declared.errors.ReadError.{ReadError}
use Rattle.trie_read.specs.declared.errors.ReadError.TheVariants.{Missing, Bad, Fault}
use Rattle.trie_read.specs.Loads.{AnswersValue}
use Rattle.trie_read.specs.Lookups.{EndsWith, Goes, Finds, Found, AnswersLookup}
use Rattle.text_store.proofs.Leaves.{Leaves-then}
use Rattle.trie_read.proofs.Loads.{Onward, Leaves-failed}
use Rattle.base_core.specs.Faults as ended
use Rattle.base_core.specs.Faults.{done}
use Rattle.text_store.specs.Store.{Store}
use Rattle.text_store.specs.Leaves.{Leaves}
use Rattle.trie_read.specs.Endings.{read_ended, by_error}

-- nodes that were visited before
abbrev pub after_nodes : List (List ℕ) → Visits → Visits
after_nodes digests v = record { digests = digests ++ v.digests; values = v.values; refusal = v.refusal }

pub visits-nodes : (table : Table) (most : ℕ) (digests : List (List ℕ)) (steps : List Step) → visits_of table (suc most) (map step.node digests ++ steps) ≡ after_nodes digests (visits_of table (suc most) steps)
unfolding visits_of
visits-nodes table most [] steps = refl
visits-nodes table most (digest ∷ digests) steps = ap (node_first digest) (visits-nodes table most digests steps)

-- a step visits a text at least
value-some : (path : List ℕ) (ref : ValueRef) (held : Option (List ℕ)) (after : Visits) → 0 < length (value_visit path ref held after).digests
unfolding value_visit
value-some path ref None after = omega arith
value-some path ref (Some text) after = elim (length text == ref.length) as (λ b. 0 < length (if b then value_first ref.digest (path, text) after else refused ref.digest (bad ref.digest)).digests) [ true ↦ omega arith | false ↦ omega arith ]

pub visits-some : (table : Table) (most : ℕ) (first : Step) (further : List Step) → 0 < length (visits_of table (suc most) (first ∷ further)).digests
unfolding visits_of
visits-some table most (step.node digest) further = omega arith
visits-some table most (no_text digest) further = omega arith
visits-some table most (no_node digest) further = omega arith
visits-some table most (value path ref) further = value-some path ref (get table ref.digest) (visits_of table most further)

-- ---- the test that failed on the way

ends-missing : (table : Table) (steps : List Step) (digests : List (List ℕ)) (digest : List ℕ) → EndsWith steps digests (no_text digest) digest → visits_of table 1 steps ≡ record { digests = digests; values = []; refusal = Some (missing digest) }
unfolding visits_of
ends-missing table steps digests digest e =
    ap (visits_of table 1) e.all ∙ visits-nodes table 0 e.before (no_text digest ∷ []) ∙ ap (λ (ds : List (List ℕ)). record { digests = ds; values = []; refusal = Some (missing digest) }) (sym e.visited)

ends-bad : (table : Table) (steps : List Step) (digests : List (List ℕ)) (digest : List ℕ) → EndsWith steps digests (no_node digest) digest → visits_of table 1 steps ≡ record { digests = digests; values = []; refusal = Some (bad digest) }
unfolding visits_of
ends-bad table steps digests digest e =
    ap (visits_of table 1) e.all ∙ visits-nodes table 0 e.before (no_node digest ∷ []) ∙ ap (λ (ds : List (List ℕ)). record { digests = ds; values = []; refusal = Some (bad digest) }) (sym e.visited)

goes-within : (table : Table) (steps : List Step) (digests : List (List ℕ)) → Goes steps digests → length digests ≤ length (visits_of table 1 steps).digests
goes-within table steps digests g =
    let all : (visits_of table 1 steps).digests ≡ g.before ++ (visits_of table 1 (g.last ∷ g.further)).digests = ap (λ (v : Visits). v.digests) (ap (visits_of table 1) g.all ∙ visits-nodes table 0 g.before (g.last ∷ g.further)) in
    let count = ap length all ∙ length-append g.before (visits_of table 1 (g.last ∷ g.further)).digests in
    let some = visits-some table 0 g.last g.further in
    let visited = g.visited in
    omega arith

-- what is owed for an answer
pub record Answered {S : Type 0} (store : Store S) (old new : S) (visits : Visits) (path : List ℕ) (result : Result (Option (Bor (List ℕ))) ReadError) : Type 0 where
  pub leaves : Leaves store old new visits.digests (read_ended result)
  pub answers : AnswersLookup visits path result

pub refused_on_the_way : {S : Type 0} (store : Store S) (old new : S) (table : Table) (steps : List Step) (path : List ℕ) (error : ReadError) → Found store old new steps path (Err error) → Answered store old new (visits_of table 1 steps) path (Err error)
refused_on_the_way store old new table steps path (Missing digest) f =
    let visits = ends-missing table steps f.digests digest.0 f.finds in
    record {
      leaves = subst (λ (v : Visits). Leaves store old new v.digests ended.refused) (sym visits) f.left;
      answers = ap (λ (v : Visits). v.refusal) visits;
    }
refused_on_the_way store old new table steps path (Bad digest) f =
    let visits = ends-bad table steps f.digests digest.0 f.finds in
    record {
      leaves = subst (λ (v : Visits). Leaves store old new v.digests ended.refused) (sym visits) f.left;
      answers = ap (λ (v : Visits). v.refusal) visits;
    }
refused_on_the_way store old new table steps path Fault f = record {
  leaves = Leaves-failed store old new f.digests (visits_of table 1 steps).digests (goes-within table steps f.digests f.finds) f.left;
  answers = tt;
}

-- ---- no value at the end

pub none_at_the_end : {S : Type 0} (store : Store S) (old new : S) (table : Table) (steps : List Step) (path : List ℕ) → Found store old new steps path (Ok None) → Answered store old new (visits_of table 1 steps) path (Ok None)
unfolding visits_of
none_at_the_end store old new table steps path f =
    let visits : visits_of table 1 steps ≡ record { digests = f.digests; values = []; refusal = None } =
    ap (visits_of table 1) (f.finds ∙ sym (append-nil (map step.node f.digests))) ∙ visits-nodes table 0 f.digests [] ∙ ap (λ (ds : List (List ℕ)). record { digests = ds; values = []; refusal = None }) (append-nil f.digests) in
    record {
      leaves = subst (λ (v : Visits). Leaves store old new v.digests done) (sym visits) f.left;
      answers = (ap (λ (v : Visits). v.values) visits, ap (λ (v : Visits). v.refusal) visits);
    }

-- ---- the value at the end

-- what is visited in all
value-last : (table : Table) (steps : List Step) (path : List ℕ) (digests : List (List ℕ)) (ref : codec.ValueRef) (held : Option (List ℕ)) → Finds steps path digests (Ok (Some ref)) → get table ref.digest.0 ≡ held → visits_of table 1 steps ≡ after_nodes digests (value_visit path (value_of ref) held no_visits)
unfolding visits_of
value-last table steps path digests ref held finds e = ap (visits_of table 1) finds ∙ visits-nodes table 0 digests (value path (value_of ref) ∷ []) ∙ ap (λ (o : Option (List ℕ)). after_nodes digests (value_visit path (value_of ref) o no_visits)) e

found-value : (path text : List ℕ) (ref : codec.ValueRef) → length text ≡ ref.length → value_visit path (value_of ref) (Some text) no_visits ≡ value_first ref.digest.0 (path, text) no_visits
unfolding value_visit
found-value path text ref same = rw (eq-eqb (length text) ref.length same) refl

pub other-value : (path text : List ℕ) (ref : codec.ValueRef) (later : Visits) → length text ≢ ref.length → value_visit path (value_of ref) (Some text) later ≡ refused ref.digest.0 (bad ref.digest.0)
unfolding value_visit
other-value path text ref later other = go (length text == ref.length) refl
  where
    go : (b : Bool) → (length text == ref.length) ≡ b → (if b then value_first ref.digest.0 (path, text) later else refused ref.digest.0 (bad ref.digest.0)) ≡ refused ref.digest.0 (bad ref.digest.0)
    go true e = absurd (other (eqb-true (length text) ref.length e))
    go false e = refl

pub value_at_the_end : {S : Type 0} (store : Store S) (old mid new : S) (table : Table) (steps : List Step) (path : List ℕ) (ref : codec.ValueRef) (text : Bor (List ℕ)) → Onward store → Found store old mid steps path (Ok (Some ref)) → AnswersValue table ref (Ok text) → Leaves store mid new (ref.digest.0 ∷ []) done → Answered store old new (visits_of table 1 steps) path (Ok (Some text))
value_at_the_end store old mid new table steps path ref text onward f answer more =
    let visits : visits_of table 1 steps ≡ record { digests = f.digests ++ ref.digest.0 ∷ []; values = (path, text.now) ∷ []; refusal = None } =
    value-last table steps path f.digests ref (Some text.now) f.finds answer.0 ∙ ap (after_nodes f.digests) (found-value path text.now ref answer.1) in
    record {
      leaves = subst (λ (v : Visits). Leaves store old new v.digests done) (sym visits) (Leaves-then store onward old mid new f.digests (ref.digest.0 ∷ []) done f.left more);
      answers = (ap (λ (v : Visits). v.values) visits, ap (λ (v : Visits). v.refusal) visits);
    }

pub refused_at_the_end : {S : Type 0} (store : Store S) (old mid new : S) (table : Table) (steps : List Step) (path : List ℕ) (ref : codec.ValueRef) (error : ReadError) → Onward store → Found store old mid steps path (Ok (Some ref)) → AnswersValue table ref (Err error) → Leaves store mid new (ref.digest.0 ∷ []) (by_error error) → Answered store old new (visits_of table 1 steps) path (Err error)
unfolding value_visit
refused_at_the_end store old mid new table steps path ref (Missing named) onward f answer more =
    let visits : visits_of table 1 steps ≡ record { digests = f.digests ++ ref.digest.0 ∷ []; values = []; refusal = Some (missing ref.digest.0) } = value-last table steps path f.digests ref None f.finds answer.1 in
    record {
      leaves = subst (λ (v : Visits). Leaves store old new v.digests ended.refused) (sym visits) (Leaves-then store onward old mid new f.digests (ref.digest.0 ∷ []) ended.refused f.left more);
      answers = ap (λ (v : Visits). v.refusal) visits ∙ ap (λ d. Some (missing d.0)) (sym answer.0);
    }
refused_at_the_end store old mid new table steps path ref (Bad named) onward f answer more = go (get table ref.digest.0) refl answer.1
  where
    go : (held : Option (List ℕ)) → get table ref.digest.0 ≡ held → IsSomeAnd held (λ text. length text ≢ ref.length) → Answered store old new (visits_of table 1 steps) path (Err (Bad named))
    go None e other = absurd other
    go (Some text) e other =
        let visits : visits_of table 1 steps ≡ record { digests = f.digests ++ ref.digest.0 ∷ []; values = []; refusal = Some (bad ref.digest.0) } =
        value-last table steps path f.digests ref (Some text) f.finds e ∙ ap (after_nodes f.digests) (other-value path text ref no_visits other) in
        record {
          leaves = subst (λ (v : Visits). Leaves store old new v.digests ended.refused) (sym visits) (Leaves-then store onward old mid new f.digests (ref.digest.0 ∷ []) ended.refused f.left more);
          answers = ap (λ (v : Visits). v.refusal) visits ∙ ap (λ d. Some (bad d.0)) (sym answer.0);
        }
refused_at_the_end store old mid new table steps path ref Fault onward f answer more =
    let visits = value-last table steps path f.digests ref (get table ref.digest.0) f.finds refl in
    let count : length (visits_of table 1 steps).digests ≡ length f.digests + length (value_visit path (value_of ref) (get table ref.digest.0) no_visits).digests = ap (λ (v : Visits). length v.digests) visits ∙ length-append f.digests _ in
    let some = value-some path (value_of ref) (get table ref.digest.0) no_visits in
    record {
      leaves = Leaves-failed store old new (f.digests ++ ref.digest.0 ∷ []) (visits_of table 1 steps).digests (let one = length-append f.digests (ref.digest.0 ∷ []) in omega arith) (Leaves-then store onward old mid new f.digests (ref.digest.0 ∷ []) ended.failed f.left more);
      answers = tt;
    }
