-- Rows that rise are those of a state, and are put into it one behind the other.
use Rattle.std.proofs.Common.{◌≡◌, ℕ, zero, suc, ◌+◌, ◌*◌, ◌/◌, ◌%◌, ◌^◌, ◌<◌, ◌≤◌, ◌&&◌, Bool, true, T, List, [], ◌∷◌, ◌++◌, map, length, refl, sym, ◌∙◌, ap, subst, arith, nat_cmp, Less, Greater, false}
use Rattle.std.proofs.lemmas.List.{length-map}
use Rattle.std.specs.List.{AllByRecursion}
use Rattle.std.specs.List.Sorted.{IsStrictlySortedBy}
use Rattle.std.specs.Ordering.{is_lt, ordering_reverse}
use Rattle.std.specs.Cmp.Lexicographic.{slice_cmp, nat_list_cmp_total}
use Rattle.std.specs.FinMap.{entries, insert, put, from_sorted, entries-from_sorted, entries-insert, is_sorted}
use Rattle.std.specs.FinMap.Entries.{below_all, by_order}
use Rattle.byte_model.specs.Nibbles.{AreBytes, AreNibbles, nibbles}
use Rattle.byte_model.specs.PackedPath.{longest_path}
use Rattle.byte_model.proofs.Digits.{length-nibbles, slice_cmp-nibbles}
use Rattle.trie_model.specs.State.{State, Row, IsPair, IsState, rows_of}
use Rattle.trie_model.proofs.Worked.{Pair, rows_of_pairs}
use Rattle.trie_model.proofs.Order.{Rising}
use Rattle.visit_model.specs.Bounds.{IsListed}
use Rattle.visit_model.specs.Keys.{key_of, pair_of}

-- ---- the key of a path

-- the nibbles are those of whole bytes
abbrev IsWhole : List ℕ → Type 0
IsWhole path = length path % 2 ≡ 0

shorter : (x y : ℕ) (path : List ℕ) → IsWhole (x ∷ y ∷ path) → IsWhole path
shorter x y path h = let even : suc (suc (length path)) % 2 ≡ 0 = h in omega arith

pub nibbles-key_of : (path : List ℕ) → AreNibbles path → IsWhole path → nibbles (key_of path) ≡ path
unfolding nibbles key_of
nibbles-key_of [] small even = refl
nibbles-key_of (x ∷ []) small even = absurd (let odd : suc zero % 2 ≡ 0 = even in omega arith)
nibbles-key_of (x ∷ y ∷ path) small even =
    let low : y < 16 = small.1.0 in
    let first : (x * 16 + y) / 16 ≡ x = omega arith in
    let second : (x * 16 + y) % 16 ≡ y = omega arith in
    let further = nibbles-key_of path small.1.1 (shorter x y path even) in
    λ i. first i ∷ second i ∷ further i

pub AreBytes-key_of : (path : List ℕ) → AreNibbles path → AreBytes (key_of path)
unfolding key_of
AreBytes-key_of [] small = tt
AreBytes-key_of (x ∷ []) small = tt
AreBytes-key_of (x ∷ y ∷ path) small =
    let high : x < 16 = small.0 in
    let low : y < 16 = small.1.0 in
    (omega arith, AreBytes-key_of path small.1.1)

-- ---- the pairs of rows

-- a row of nibbles and bytes within the limits
abbrev pub IsRow : List ℕ → Row → Type 0
IsRow bound row = IsListed bound row × (AreNibbles row.0 × AreBytes row.1)

rows-pair_of : (bound : List ℕ) (rows : List Row) → AllByRecursion (IsRow bound) rows → rows_of_pairs (map pair_of rows) ≡ rows
rows-pair_of bound [] h = refl
rows-pair_of bound (row ∷ rows) h =
    let path = nibbles-key_of row.0 h.0.1.0 h.0.0.whole in
    let further = rows-pair_of bound rows h.1 in
    λ i. (path i, row.1) ∷ further i

is_pair : (bound : List ℕ) (row : Row) → IsRow bound row → IsPair (pair_of row)
is_pair bound row h =
    let path : List ℕ = row.0 in
    let whole : length (nibbles (key_of path)) ≡ length path = ap length (nibbles-key_of path h.1.0 h.0.whole) in
    let twice = length-nibbles (key_of path) in
    let most : length path ≤ longest_path = h.0.path_length in
    record { key = AreBytes-key_of path h.1.0; key_length = omega arith; value = h.1.1; value_length = h.0.value_length }

are_pairs : (bound : List ℕ) (rows : List Row) → AllByRecursion (IsRow bound) rows → AllByRecursion IsPair (map pair_of rows)
are_pairs bound [] h = tt
are_pairs bound (row ∷ rows) h = (is_pair bound row h.0, are_pairs bound rows h.1)

-- ---- rising rows are those of a state

pub both_so : (a b : Bool) → T a → T b → T (a && b)
both_so true b h k = k
both_so false b h k = absurd h

below_all-before : (key : List ℕ) (pairs : List Pair) → AllByRecursion (λ path. slice_cmp nat_cmp (nibbles key) path ≡ Less) (map (λ row. row.0) (rows_of_pairs pairs)) → T (below_all (slice_cmp nat_cmp) key pairs)
below_all-before key [] h = tt
below_all-before key (pair ∷ pairs) h =
    both_so (is_lt (slice_cmp nat_cmp key pair.0)) _ (subst (λ o. T (is_lt o)) (sym (sym (slice_cmp-nibbles key pair.0) ∙ h.0)) tt) (below_all-before key pairs h.1)

sorted-rising : (pairs : List Pair) → Rising (map (λ row. row.0) (rows_of_pairs pairs)) → T (is_sorted (slice_cmp nat_cmp) pairs)
unfolding IsStrictlySortedBy
sorted-rising [] h = tt
sorted-rising (pair ∷ pairs) h = both_so (below_all (slice_cmp nat_cmp) pair.0 pairs) _ (below_all-before pair.0 pairs h.0) (sorted-rising pairs h.1)

pub state-rising : (bound : List ℕ) (rows : List Row) → Rising (map (λ row. row.0) rows) → AllByRecursion (IsRow bound) rows → length rows ≤ 2 ^ 32 → (state : State) × IsState state × (rows_of state ≡ rows)
unfolding rows_of
state-rising bound rows rising are few =
    let pairs : List Pair = map pair_of rows in
    let same : rows_of_pairs pairs ≡ rows = rows-pair_of bound rows are in
    let sorted : T (is_sorted (slice_cmp nat_cmp) pairs) = sorted-rising pairs (subst (λ (rs : List Row). Rising (map (λ row. row.0) rs)) (sym same) rising) in
    let held = entries-from_sorted (slice_cmp nat_cmp) pairs sorted in (
      from_sorted pairs,
      record {
        pairs = subst (AllByRecursion IsPair) (sym held) (are_pairs bound rows are);
        few = subst (λ (ps : List Pair). length ps ≤ 2 ^ 32) (sym held) (subst (λ n. n ≤ 2 ^ 32) (sym (length-map rows pair_of)) few);
      },
      ap rows_of_pairs held ∙ same,
    )

-- ---- a pair behind all others

put-last : (key value : List ℕ) (pairs : List Pair) → AllByRecursion (λ pair. slice_cmp nat_cmp pair.0 key ≡ Less) pairs → put (slice_cmp nat_cmp) key value pairs ≡ pairs ++ (key, value) ∷ []
put-last key value [] h = refl
put-last key value (pair ∷ pairs) h =
    let later : slice_cmp nat_cmp key pair.0 ≡ Greater = nat_list_cmp_total.antisymm key pair.0 ∙ ap ordering_reverse h.0 in
    ap (λ o. by_order o ((key, value) ∷ pair ∷ pairs) ((pair.0, value) ∷ pairs) (pair ∷ put (slice_cmp nat_cmp) key value pairs)) later
    ∙ ap (λ (others : List Pair). pair ∷ others) (put-last key value pairs h.1)

-- what stands before rows stands before the last
before_last : (path : List ℕ) (pairs : List Pair) (row : Row) (rows : List Row) → AllByRecursion (λ later. slice_cmp nat_cmp path later ≡ Less) (map (λ r. r.0) (rows_of_pairs pairs ++ row ∷ rows)) → slice_cmp nat_cmp path row.0 ≡ Less
before_last path [] row rows h = h.0
before_last path (pair ∷ pairs) row rows h = before_last path pairs row rows h.1

all_before : (key value : List ℕ) (pairs : List Pair) (rows : List Row) → Rising (map (λ r. r.0) (rows_of_pairs pairs ++ (nibbles key, value) ∷ rows)) → AllByRecursion (λ pair. slice_cmp nat_cmp pair.0 key ≡ Less) pairs
unfolding IsStrictlySortedBy
all_before key value [] rows h = tt
all_before key value (pair ∷ pairs) rows h =
    (sym (slice_cmp-nibbles pair.0 key) ∙ before_last (nibbles pair.0) pairs (nibbles key, value) rows h.0, all_before key value pairs rows h.1)

rows_of_pairs-append : (pairs others : List Pair) → rows_of_pairs (pairs ++ others) ≡ rows_of_pairs pairs ++ rows_of_pairs others
rows_of_pairs-append [] others = refl
rows_of_pairs-append (pair ∷ pairs) others = ap (λ (rows : List Row). (nibbles pair.0, pair.1) ∷ rows) (rows_of_pairs-append pairs others)

pub entries-insert_last : (state : State) (key value : List ℕ) (rows : List Row) → IsStrictlySortedBy (slice_cmp nat_cmp) (map (λ row. row.0) (rows_of state ++ (nibbles key, value) ∷ rows)) → entries (insert state key value) ≡ entries state ++ (key, value) ∷ []
unfolding rows_of
entries-insert_last state key value rows h = entries-insert nat_list_cmp_total state key value ∙ put-last key value (entries state) (all_before key value (entries state) rows h)

pub rows_of-insert : (state : State) (key value : List ℕ) (rows : List Row) → IsStrictlySortedBy (slice_cmp nat_cmp) (map (λ row. row.0) (rows_of state ++ (nibbles key, value) ∷ rows)) → rows_of (insert state key value) ≡ rows_of state ++ (nibbles key, value) ∷ []
unfolding rows_of
rows_of-insert state key value rows h = ap rows_of_pairs (entries-insert_last state key value rows h) ∙ rows_of_pairs-append (entries state) ((key, value) ∷ [])
