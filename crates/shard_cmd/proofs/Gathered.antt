-- Operations that are gathered, one after the other.
use Rattle.std.proofs.Common.{◌≡◌, ℕ, zero, suc, ◌+◌, ◌≤◌, ◌<◌, ◌&&◌, Bool, true, false, not, cond, ltb, leb, List, [], ◌∷◌, ◌++◌, length, length-append, drop, map, Option, None, Some, option_map, Result, Ok, Err, inl, inr, refl, sym, ap, subst, ◌∙◌, append_assoc, append-nil, nat_cmp, arith}
use Rattle.std.specs.Prelude.{slice_get}
use Rattle.std.specs.Option.{unwrap_or}
use Rattle.std.specs.List.{AllByRecursion}
use Rattle.std.specs.Result.{IsErrAnd}
use Rattle.std.specs.FinMap.{contains_key, empty, entries, insert, len, len-empty, len-entries, len-insert}
use Rattle.std.specs.Cmp.Lexicographic.{slice_cmp, nat_list_cmp_total}
use Rattle.std.proofs.lemmas.Bool.{le-ltb, leb-true, leb-false}
use Rattle.std.proofs.lemmas.List.{drop_all}
use Rattle.std.proofs.lemmas.Option.{slice_get-map, slice_get_within}
use Rattle.byte_model.specs.Node.{longest_value}
use Rattle.trie_model.specs.State.{longest_key}
use Rattle.batch_model.specs.Changes.{Changes}
use Rattle.partial_model.specs.Recording.{most_reads}
use Rattle.base_core.specs.ChangeMaps.{ChangeMap, change_refusal}
use Rattle.base_core.specs.declared.put_error.PutError.{PutError}
use Rattle.base_core.specs.declared.put_error.PutError.TheVariants.{KeyLong, ValueLong, Full}
use Rattle.script_model.specs.Bounds.{IsOp}
use Rattle.script_model.specs.Words.{Op, read, set, delete, most_operations}
use Rattle.partial_state.specs.Operations.{Operations, refusal_of_read, with_change}
use Rattle.output_model.specs.Prove.{changes_in, laid_over, reads_in}
use Rattle.output_model.proofs.Operations.{len-laid}
use Rattle.base_core.proofs.PassedOn.{passed_on}
use Rattle.shard_cmd.specs.Proving.{AddsOp, IsGathered, op_refusal, with_op}
use Rattle.shard_cmd.proofs.Recordings.{drop_at}

-- ---- why one is refused

-- a change within its limits is refused only where it is one too many
record IsFull (batch : ChangeMap) (key : List ℕ) (error : PutError) : Type 0 where
  full : error ≡ Full
  most : batch.most ≤ length (entries batch.changes)
  other : contains_key batch.changes key ≡ false

abbrev full_or : ChangeMap → List ℕ → Option PutError
full_or batch key = cond (leb batch.most (length (entries batch.changes)) && not (contains_key batch.changes key)) (Some Full) None

change-refused : (batch : ChangeMap) (key : List ℕ) (value : Option (List ℕ)) (error : PutError) → length key ≤ longest_key → length (unwrap_or value []) ≤ longest_value → change_refusal batch key value ≡ Some error → IsFull batch key error
change-refused batch key value error short few e =
    go (leb batch.most (length (entries batch.changes))) (contains_key batch.changes key) refl refl
    (sym (ap (λ b. cond b (Some (KeyLong (length key))) (cond (ltb longest_value (length (unwrap_or value []))) (Some (ValueLong (length (unwrap_or value [])))) (full_or batch key))) (le-ltb longest_key (length key) short) ∙ ap (λ b. cond b (Some (ValueLong (length (unwrap_or value [])))) (full_or batch key)) (le-ltb longest_value (length (unwrap_or value [])) few)) ∙ e)
  where
    go : (a b : Bool) → leb batch.most (length (entries batch.changes)) ≡ a → contains_key batch.changes key ≡ b → cond (a && not b) (Some Full) None ≡ Some error → IsFull batch key error
    go true false f g h = record { full = cc; most = leb-true batch.most (length (entries batch.changes)) f; other = g }
    go true true f g h = absurd cc
    go false b f g h = absurd cc

-- and a read within its limits is not refused while there are few
read-taken : (reads : List (List ℕ)) (key : List ℕ) → length key ≤ longest_key → length reads < most_reads → refusal_of_read reads key ≡ None
read-taken reads key short few =
    ap (λ b. cond b (Some (KeyLong (length key))) (cond (leb most_reads (length reads)) (Some Full) None)) (le-ltb longest_key (length key) short)
    ∙ ap (λ b. cond b (Some Full) None) (few_is most_reads (length reads) few)
  where
    few_is : (most n : ℕ) → n < most → leb most n ≡ false
    few_is most n h = by_test (leb most n) refl
      where
        by_test : (b : Bool) → leb most n ≡ b → leb most n ≡ false
        by_test false e = e
        by_test true e = absurd (omega (arith, h, leb-true most n e))

none-refused : (x y z : Bool) (a b c : PutError) → cond x (Some a) (cond y (Some b) (cond z (Some c) None)) ≡ None → z ≡ false
none-refused false false false a b c e = refl
none-refused false false true a b c e = absurd cc
none-refused false true z a b c e = absurd cc
none-refused true y z a b c e = absurd cc

-- ---- while they are gathered

-- The first of them, up to a place, have been gathered.
pub record Gathers (list : List Op) (most place : ℕ) (ops : Operations) : Type 0 where
  pub reads : ops.reads ++ reads_in (drop place list) ≡ reads_in list
  pub changes : laid_over ops.batch.changes (drop place list) ≡ changes_in list
  pub most_is : ops.batch.most ≡ most
  pub few_reads : length ops.reads ≤ place
  pub few : len ops.batch.changes ≤ most

pub gathers-none : (list : List Op) (most : ℕ) (ops : Operations) → ops.reads ≡ [] → ops.batch.changes ≡ empty → ops.batch.most ≡ most → Gathers list most 0 ops
gathers-none list most ops none unchanged is = record {
  reads = ap (λ (keys : List (List ℕ)). keys ++ reads_in list) none;
  changes = ap (λ (c : Changes). laid_over c list) unchanged;
  most_is = is;
  few_reads = omega (arith, ap length none);
  few = omega (arith, ap len unchanged ∙ len-empty (slice_cmp nat_cmp) (Option (List ℕ)));
}

module _ (list : List Op) (most place : ℕ) (old new : Operations) (given : Gathers list most place old) where
  more-read : (key : List ℕ) → slice_get list place ≡ Some (read key) → new ≡ with_op old (read key) → Gathers list most (place + 1) new
  unfolding reads_in laid_over
  more-read key at e = rw e (record {
    reads = append_assoc old.reads (key ∷ []) (reads_in (drop (place + 1) list)) ∙ ap (λ (ops : List Op). old.reads ++ reads_in ops) (sym (drop_at list place (read key) at)) ∙ given.reads;
    changes = ap (laid_over old.batch.changes) (sym (drop_at list place (read key) at)) ∙ given.changes;
    most_is = given.most_is;
    few_reads = omega (arith, length-append old.reads (key ∷ []), given.few_reads);
    few = given.few;
  })

  -- a change that is not refused
  len-kept : (key : List ℕ) (value : Option (List ℕ)) → change_refusal old.batch key value ≡ None → len (insert old.batch.changes key value) ≤ most
  len-kept key value e = by_tests (leb old.batch.most (length (entries old.batch.changes))) (contains_key old.batch.changes key) refl refl
      (none-refused (ltb longest_key (length key)) (ltb longest_value (length (unwrap_or value []))) (leb old.batch.most (length (entries old.batch.changes)) && not (contains_key old.batch.changes key)) (KeyLong (length key)) (ValueLong (length (unwrap_or value []))) Full e)
    where
      counted : length (entries old.batch.changes) ≡ len old.batch.changes
      counted = sym (len-entries old.batch.changes)

      inserted : (b : Bool) → contains_key old.batch.changes key ≡ b → len (insert old.batch.changes key value) ≡ cond b (len old.batch.changes) (len old.batch.changes + 1)
      inserted b g = len-insert nat_list_cmp_total old.batch.changes key value ∙ ap (λ t. cond t (len old.batch.changes) (len old.batch.changes + 1)) g

      by_tests : (a b : Bool) → leb old.batch.most (length (entries old.batch.changes)) ≡ a → contains_key old.batch.changes key ≡ b → (leb old.batch.most (length (entries old.batch.changes)) && not (contains_key old.batch.changes key)) ≡ false → len (insert old.batch.changes key value) ≤ most
      by_tests a true f g h = omega (arith, given.few, inserted true g)
      by_tests false false f g h = omega (arith, leb-false old.batch.most (length (entries old.batch.changes)) f, counted, given.most_is, inserted false g)
      by_tests true false f g h = absurd (cc (f, g, h))

  more-changed : (op : Op) (key : List ℕ) (value : Option (List ℕ)) → slice_get list place ≡ Some op → new ≡ with_change old key value → change_refusal old.batch key value ≡ None
      → ((rest : List Op) → reads_in (op ∷ rest) ≡ reads_in rest) → ((rest : List Op) → laid_over old.batch.changes (op ∷ rest) ≡ laid_over (insert old.batch.changes key value) rest) → Gathers list most (place + 1) new
  more-changed op key value at e taken reads changes = rw e (record {
    reads = ap (λ (keys : List (List ℕ)). old.reads ++ keys) (sym (reads (drop (place + 1) list)) ∙ ap reads_in (sym (drop_at list place op at))) ∙ given.reads;
    changes = sym (changes (drop (place + 1) list)) ∙ ap (laid_over old.batch.changes) (sym (drop_at list place op at)) ∙ given.changes;
    most_is = given.most_is;
    few_reads = omega (arith, given.few_reads);
    few = len-kept key value taken;
  })

  more-op : (op : Op) → slice_get list place ≡ Some op → new ≡ with_op old op → op_refusal old op ≡ None → Gathers list most (place + 1) new
  unfolding reads_in laid_over
  more-op (read key) at e taken = more-read key at e
  more-op (set key value) at e taken = more-changed (set key value) key (Some value) at e taken (λ rest. refl) (λ rest. refl)
  more-op (delete key) at e taken = more-changed (delete key) key None at e taken (λ rest. refl) (λ rest. refl)

  -- one is refused where all change too many keys
  full-changed : (op : Op) (key : List ℕ) (value : Option (List ℕ)) (error : PutError) → slice_get list place ≡ Some op → length key ≤ longest_key → length (unwrap_or value []) ≤ longest_value → change_refusal old.batch key value ≡ Some error
      → ((rest : List Op) → laid_over old.batch.changes (op ∷ rest) ≡ laid_over (insert old.batch.changes key value) rest) → IsGathered list most (Err error)
  full-changed op key value error at short small e changes =
      let is = change-refused old.batch key value error short small e in
      let all : laid_over (insert old.batch.changes key value) (drop (place + 1) list) ≡ changes_in list = sym (changes (drop (place + 1) list)) ∙ ap (laid_over old.batch.changes) (sym (drop_at list place op at)) ∙ given.changes in
      let more = len-laid (insert old.batch.changes key value) (drop (place + 1) list) in
      let one : len (insert old.batch.changes key value) ≡ len old.batch.changes + 1 = len-insert nat_list_cmp_total old.batch.changes key value ∙ ap (λ t. cond t (len old.batch.changes) (len old.batch.changes + 1)) is.other in
      rw is.full (omega (arith, more, one, is.most, len-entries old.batch.changes, given.most_is, ap len all))

  refused-op : (op : Op) (error : PutError) → slice_get list place ≡ Some op → IsOp op → place < most_reads → op_refusal old op ≡ Some error → IsGathered list most (Err error)
  unfolding IsOp laid_over
  refused-op (read key) error at is early e = absurd (cc (e, read-taken old.reads key is.short (omega (arith, given.few_reads, early))))
  refused-op (set key value) error at is early e = full-changed (set key value) key (Some value) error at is.key_length is.value_length e (λ rest. refl)
  refused-op (delete key) error at is early e = full-changed (delete key) key None error at is.short (omega arith) e (λ rest. refl)

-- ---- the operations as they are held

all_get : {X : Type 0} (P : X → Type 0) (xs : List X) (i : ℕ) (x : X) → AllByRecursion P xs → slice_get xs i ≡ Some x → P x
all_get P [] i x all at = absurd cc
all_get P (y ∷ xs) zero x all at = let same : y ≡ x = cc in subst P same all.0
all_get P (y ∷ xs) (suc i) x all at = all_get P xs i x all.1 at

module _ {X : Type 0} (view : X → Op) (held : List X) (most place : ℕ) (old : Operations) (given : Gathers (map view held) most place old) (x : X) (at : slice_get held place ≡ Some x) where
  op-at : slice_get (map view held) place ≡ Some (view x)
  op-at = slice_get-map view held place ∙ ap (option_map view) at

  pub gathers-more : (new : Operations) → AddsOp old new (view x) (Ok tt) → Gathers (map view held) most (place + 1) new
  gathers-more new taken = more-op (map view held) most place old new given (view x) op-at taken.0 taken.1

  refused-as : (new : Operations) (error : PutError) → AllByRecursion IsOp (map view held) → length held ≤ most_operations → AddsOp old new (view x) (Err error) → IsGathered (map view held) most (Err error)
  refused-as new error each few (inr none) = rw none tt
  refused-as new error each few (inl refused) =
      let within : place < length held = slice_get_within held place x at in
      refused-op (map view held) most place old new given (view x) error op-at (all_get IsOp (map view held) place (view x) each op-at) (omega (arith, within, few)) refused

  pub gathers-refused : (new : Operations) (error : PutError) (result : Result Operations PutError) → AllByRecursion IsOp (map view held) → length held ≤ most_operations → AddsOp old new (view x) (Err error) → IsErrAnd result (λ given. given ≡ error) → IsGathered (map view held) most result
  gathers-refused new error result each few refused is = passed_on (IsGathered (map view held) most) result error is (refused-as new error each few refused)

pub gathers-all : (list : List Op) (most place : ℕ) (ops : Operations) → Gathers list most place ops → length list ≤ place → IsGathered list most (Ok ops)
unfolding reads_in laid_over
gathers-all list most place ops is past =
    let changes : ops.batch.changes ≡ changes_in list = ap (laid_over ops.batch.changes) (sym (drop_all place list past)) ∙ is.changes in
    (sym (append-nil ops.reads) ∙ ap (λ (rest : List Op). ops.reads ++ reads_in rest) (sym (drop_all place list past)) ∙ is.reads, changes, subst (λ (c : Changes). len c ≤ most) changes is.few)
