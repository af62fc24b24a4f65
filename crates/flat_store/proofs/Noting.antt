-- Changes that are gathered from several blocks, the newest first.
use Rattle.std.proofs.Common.{◌≡◌, ℕ, ◌+◌, ◌<◌, ◌≤◌, Bool, true, false, cond, List, length, map, drop, get_or, Option, None, Some, is_some, Bor, Result, Ok, Err, IfOk, OnOk, refl, sym, ap, ◌∙◌}
use Rattle.std.specs.Option.{option_copied, option_or}
use Rattle.std.specs.Str.{bytes_eq}
use Rattle.std.specs.List.{AllByRecursion}
use Rattle.std.specs.Cmp.Lexicographic.{nat_list_cmp_total, texts_ties}
use Rattle.std.proofs.lemmas.Map.Lookups.{exact_bytes}
use Rattle.std.proofs.lemmas.List.{at_drop_more, drop_all}
use Rattle.std.specs.FinMap.{entries, find, get, insert, get-entries, get-insert, same_map}
use Rattle.trie_model.specs.State.{State}
use Rattle.batch_model.specs.Changes.{Change, Changes, IsChange, after, decided}
use Rattle.batch_model.proofs.Laying.{all_of_get, get-after, get_of_all}
use Rattle.fork_model.proofs.Ids.{same_from}
use Rattle.base_core.proofs.ByteMaps.{order}

abbrev Value : Type 0
Value = Option (List ℕ)

-- what a call that ended well says of it
pub on_ok : {X E : Type 0} {A B : Type 0} (r : Result X E) → (A → B) → OnOk r A → OnOk r B
on_ok (Ok x) f a = f a
on_ok (Err e) f a = a

pub if_ok : {X E : Type 0} {P Q : X → Type 0} (r : Result X E) → ((x : X) → P x → Q x) → IfOk r P → IfOk r Q
if_ok (Ok x) f p = f x p
if_ok (Err e) f p = p

-- ---- one key

or_none : {X : Type 0} (o : Option X) → option_or o None ≡ o
or_none None = refl
or_none (Some x) = refl

pub noted-held : (m : Changes) (key : List ℕ) (value : Value) → is_some (get m key) ≡ true → (q : List ℕ) → get m q ≡ option_or (get m q) (cond (bytes_eq q key) (Some value) None)
noted-held m key value held q = by_test (bytes_eq q key) refl
  where
    some : (o : Option Value) → is_some o ≡ true → o ≡ option_or o (Some value)
    some None e = absurd cc
    some (Some v) e = refl

    by_test : (b : Bool) → bytes_eq q key ≡ b → get m q ≡ option_or (get m q) (cond b (Some value) None)
    by_test true same = some (get m q) (ap (λ k. is_some (get m k)) (same_from q key same) ∙ held)
    by_test false other = sym (or_none (get m q))

pub noted-new : (m n : Changes) (key : List ℕ) (value : Value) → is_some (get m key) ≡ false → n ≡ insert m key value → (q : List ℕ) → get n q ≡ option_or (get m q) (cond (bytes_eq q key) (Some value) None)
noted-new m n key value new put q = ap (λ (c : Changes). get c q) put ∙ get-insert nat_list_cmp_total m key value q ∙ ap (λ b. cond b (Some value) (get m q)) (sym (texts_ties q key)) ∙ by_test (bytes_eq q key) refl
  where
    none : (o : Option Value) → is_some o ≡ false → Some value ≡ option_or o (Some value)
    none None e = refl
    none (Some v) e = absurd cc

    by_test : (b : Bool) → bytes_eq q key ≡ b → cond b (Some value) (get m q) ≡ option_or (get m q) (cond b (Some value) None)
    by_test true same = none (get m q) (ap (λ k. is_some (get m k)) (same_from q key same) ∙ new)
    by_test false other = sym (or_none (get m q))

-- ---- row by row

abbrev pub Row : Type 0
Row = Bor (List ℕ) × Option (Bor (List ℕ))

abbrev pub shown : List Row → List Change
shown rows = map (λ (row : Row). (row.0.now, option_copied row.1)) rows

abbrev pub IsNoted : (now old : Changes) → List Row → ℕ → Type 0
IsNoted now old rows i = (key : List ℕ) → option_or (get now key) (find order key (shown (drop i rows))) ≡ option_or (get old key) (find order key (shown rows))

pub noted-step : (now next old : Changes) (rows : List Row) (i : ℕ) (d : Row) → i < length rows → IsNoted now old rows i
    → ((q : List ℕ) → get next q ≡ option_or (get now q) (cond (bytes_eq q (get_or rows i d).0.now) (Some (option_copied (get_or rows i d).1)) None)) → IsNoted next old rows (i + 1)
noted-step now next old rows i d within is step q =
    ap (λ o. option_or o (find order q (shown (drop (i + 1) rows)))) (step q)
    ∙ regroup (get now q) (bytes_eq q (get_or rows i d).0.now) (option_copied (get_or rows i d).1) (find order q (shown (drop (i + 1) rows)))
    ∙ ap (λ b. option_or (get now q) (cond b (Some (option_copied (get_or rows i d).1)) (find order q (shown (drop (i + 1) rows))))) (texts_ties q (get_or rows i d).0.now)
    ∙ sym (at_drop_more (λ xs. option_or (get now q) (find order q (shown xs))) rows i d within)
    ∙ is q
  where
    regroup : (o : Option Value) (b : Bool) (v : Value) (p : Option Value) → option_or (option_or o (cond b (Some v) None)) p ≡ option_or o (cond b (Some v) p)
    regroup None true v p = refl
    regroup None false v p = refl
    regroup (Some w) b v p = refl

pub noted-all : (now old : Changes) (rows : List Row) (i : ℕ) → length rows ≤ i → IsNoted now old rows i → (q : List ℕ) → get now q ≡ option_or (get old q) (find order q (shown rows))
noted-all now old rows i past is q = sym (or_none (get now q)) ∙ sym (ap (λ xs. option_or (get now q) (find order q (shown xs))) (drop_all i rows past)) ∙ is q

-- ---- a batch that is older

-- what is gathered when a batch is noted of which all is older
abbrev pub IsJoined : (now old older : Changes) → Type 0
IsJoined now old older = (q : List ℕ) → get now q ≡ option_or (get old q) (get older q)

pub joined-rows : (now old older : Changes) (rows : List Change) → rows ≡ entries older → ((q : List ℕ) → get now q ≡ option_or (get old q) (find order q rows)) → IsJoined now old older
joined-rows now old older rows same is q = is q ∙ ap (option_or (get old q)) (ap (find order q) same ∙ sym (get-entries older q))

pub joined-after : (now old older : Changes) → IsJoined now old older → (state : State) → after state now ≡ after (after state older) old
joined-after now old older is state = same_map nat_list_cmp_total exact_bytes _ _ (λ q.
    get-after state now q ∙ ap (λ (o : Option Value). decided o (get state q)) (is q) ∙ split (get old q) (get older q) (get state q)
    ∙ sym (get-after (after state older) old q ∙ ap (decided (get old q)) (get-after state older q)))
  where
    split : (o p : Option Value) (v : Option (List ℕ)) → decided (option_or o p) v ≡ decided o (decided p v)
    split None p v = refl
    split (Some w) p v = refl

pub joined-changes : (now old older : Changes) → IsJoined now old older → AllByRecursion IsChange (entries old) → AllByRecursion IsChange (entries older) → AllByRecursion IsChange (entries now)
joined-changes now old older is first second = all_of_get IsChange now (λ q v found. by_case q v (get old q) refl (sym (is q) ∙ found))
  where
    by_case : (q : List ℕ) (v : Value) (o : Option Value) → get old q ≡ o → option_or o (get older q) ≡ Some v → IsChange (q, v)
    by_case q v None e found = get_of_all IsChange older second q v found
    by_case q v (Some w) e found = get_of_all IsChange old first q v (e ∙ found)
