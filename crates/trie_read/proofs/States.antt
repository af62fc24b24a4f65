-- What a reading answers over a store that holds the texts of a state.
use Rattle.std.proofs.Common.{◌≡◌, ℕ, List, [], ◌∷◌, Option, None, Some, Result, Ok, Err, refl, sym, ap, ◌∙◌}
use Rattle.std.specs.Borrow.{Bor}
use Rattle.std.specs.Option.{option_map, option_copied}
use Rattle.std.specs.FinMap.{get}
use Rattle.byte_model.specs.Nibbles.{AreBytes, nibbles}
use Rattle.trie_model.specs.Root.{Table, Holds, root}
use Rattle.trie_model.specs.State.{State, Row, IsState}
use Rattle.visit_model.specs.Visits.{Visits, lookup_visits}
use Rattle.visit_model.specs.Bounds.{at_most_one}
use Rattle.visit_model.proofs.Lookups.{lookup_of, lookup_visits-state}
use Rattle.trie_read.specs.declared.errors.ReadError.{ReadError}
use Rattle.trie_read.specs.declared.errors.ReadError.TheVariants.{Missing, Bad, Fault}
use Rattle.trie_read.specs.Lookups.{AnswersLookup, AnswersState}

first_value : List Row → Option (List ℕ)
first_value [] = None
first_value (row ∷ rows) = Some row.1

one_same : (path : List ℕ) (a b : Option (List ℕ)) → at_most_one {X = Row} (option_map (λ v. (path, v)) a) ≡ at_most_one {X = Row} (option_map (λ v. (path, v)) b) → a ≡ b
unfolding first_value
one_same path None None e = refl
one_same path None (Some y) e = cc
one_same path (Some x) None e = cc
one_same path (Some x) (Some y) e = ap first_value e

pub none_some : {X : Type 0} (x : X) (o : Option X) → o ≡ None → o ≡ Some x → ⊥
none_some x o e f = let no : None ≡ Some x = sym e ∙ f in cc

-- the value that the visits have, where they are those of a lookup in a state
pub looked_up : (visits : Visits) (path : List ℕ) (held : Option (List ℕ)) (result : Result (Option (Bor (List ℕ))) ReadError) → visits.values ≡ at_most_one {X = Row} (option_map (λ v. (path, v)) held) → visits.refusal ≡ None → AnswersLookup visits path result → AnswersState held result
looked_up visits path held (Ok found) values none answer = one_same path (option_copied found) held (sym answer.0 ∙ values)
looked_up visits path held (Err (Missing digest)) values none answer = none_some _ visits.refusal none answer
looked_up visits path held (Err (Bad digest)) values none answer = none_some _ visits.refusal none answer
looked_up visits path held (Err Fault) values none answer = tt

pub get-state : (table : Table) (top : List ℕ) (key : List ℕ) (result : Result (Option (Bor (List ℕ))) ReadError) → AreBytes key → AnswersLookup (lookup_visits table top key) (nibbles key) result → (state : State) → Holds table state → IsState state → top ≡ root state → AnswersState (get state key) result
get-state table top key result bytes answer state holds is top_is =
    let visits : lookup_visits table top key ≡ lookup_of state key = ap (λ (d : List ℕ). lookup_visits table d key) top_is ∙ lookup_visits-state table state key holds is bytes in
    looked_up (lookup_visits table top key) (nibbles key) (get state key) result (ap (λ (v : Visits). v.values) visits) (ap (λ (v : Visits). v.refusal) visits) answer
