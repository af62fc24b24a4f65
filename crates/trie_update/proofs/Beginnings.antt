-- Changes that begin with the same nibbles, and the changes behind these.
use Rattle.std.proofs.Common.{◌≡◌, ℕ, zero, suc, ◌+◌, ◌-◌, ◌<◌, ◌≤◌, ◌≢◌, true, List, [], ◌∷◌, ◌++◌, map, length, take, drop, get_or, Some, inl, inr, refl, sym, ◌∙◌, ap, ap₂, subst, arith}
use Rattle.std.specs.List.{AllByRecursion}
use Rattle.std.proofs.Math.Seq.{drop-append_seam}
use Rattle.std.proofs.lemmas.List.{length-append, length-drop, length-take-le, drop-drop}
use Rattle.std.proofs.lemmas.Bool.{cases_lt}
use Rattle.byte_model.specs.Nibbles.{nibbles}
use Rattle.trie_model.specs.Grown.{HasPrefix, AllHavePrefix}
use Rattle.trie_model.specs.State.{Row}
use Rattle.trie_model.specs.Tree.{rest_behind, common, common_prefix}
use Rattle.trie_model.proofs.Growth.{last_row, common_prefix-rising}
use Rattle.trie_model.proofs.Order.{Before, RisingRows, slice_cmp-prefix}
use Rattle.trie_model.proofs.Rests.{HasPrefix-HasPrefix, common_prefix-all, rest_behind-prefix}
use Rattle.trie_model.proofs.Rests.{equal_of_test}
use Rattle.trie_shape.specs.Runs.{goes_on}
use Rattle.trie_shape.proofs.Prefixes.{common-of_length}
use Rattle.nibble_keys.specs.CommonLength.{IsCommonLength}
use Rattle.batch_model.specs.Changes.{Change}
use Rattle.change_model.specs.Visits.{changes_behind}
use Rattle.update_model.proofs.Behind.{rising, rises, RisingChanges}
use Rattle.trie_update.specs.ChangesAt.{AllBegin, Lent, value_lent, change_at, changes_at, IsChangeAt, AreChangesAt, BeginAsFirst, AllGoOn}
use Rattle.trie_update.specs.Olds.{BeginAs}
use Rattle.trie_update.proofs.ChangesAt.{each_at}

-- ---- changes without a prefix

-- the changes without so many of their first nibbles
abbrev pub dropped : ℕ → List Change → List Change
dropped n changes = map (λ change. (drop n change.0, change.1)) changes

pub behind-dropped : (prefix : List ℕ) (changes : List Change) → AllBegin prefix changes → changes_behind prefix changes ≡ dropped (length prefix) changes
unfolding changes_behind
behind-dropped prefix [] h = refl
behind-dropped prefix (change ∷ changes) h =
    let e : change.0 ≡ prefix ++ h.0.0 = h.0.1 in
    let rest : rest_behind prefix change.0 ≡ Some h.0.0 = ap (rest_behind prefix) e ∙ rest_behind-prefix prefix h.0.0 in
    let left : drop (length prefix) change.0 ≡ h.0.0 = ap (drop (length prefix)) e ∙ drop-append_seam prefix h.0.0 in
    rw rest (ap₂ (λ (p : List ℕ) (others : List Change). (p, change.1) ∷ others) (sym left) (behind-dropped prefix changes h.1))

pub dropped-changes_at : (depth n : ℕ) (changes : List Lent) → dropped n (changes_at depth changes) ≡ changes_at (depth + n) changes
dropped-changes_at depth n [] = refl
dropped-changes_at depth n (change ∷ changes) = ap₂ (λ (p : List ℕ) (cs : List Change). (p, value_lent change.1) ∷ cs) (drop-drop n depth (nibbles change.0.now)) (dropped-changes_at depth n changes)

pub begin-shorter : (prefix longer : List ℕ) (changes : List Change) → HasPrefix prefix longer → AllBegin longer changes → AllBegin prefix changes
begin-shorter prefix longer [] shorter h = tt
begin-shorter prefix longer (change ∷ changes) shorter h = (HasPrefix-HasPrefix prefix longer change.0 shorter h.0, begin-shorter prefix longer changes shorter h.1)

-- ---- they rise as before

before-behind : (prefix p q : List ℕ) (left : HasPrefix prefix p) (right : HasPrefix prefix q) → Before p q → Before (drop (length prefix) p) (drop (length prefix) q)
before-behind prefix p q left right h =
    let first : drop (length prefix) p ≡ left.0 = ap (drop (length prefix)) left.1 ∙ drop-append_seam prefix left.0 in
    let last : drop (length prefix) q ≡ right.0 = ap (drop (length prefix)) right.1 ∙ drop-append_seam prefix right.0 in
    let one : Before (prefix ++ left.0) q = subst (λ (r : List ℕ). Before r q) left.1 h in
    let two : Before (prefix ++ left.0) (prefix ++ right.0) = subst (λ (r : List ℕ). Before (prefix ++ left.0) r) right.1 one in
    let rests : Before left.0 right.0 = sym (slice_cmp-prefix prefix left.0 right.0) ∙ two in
    subst (λ (r : List ℕ). Before r (drop (length prefix) q)) (sym first) (subst (λ (r : List ℕ). Before left.0 r) (sym last) rests)

all-dropped : (prefix p : List ℕ) (changes : List Change) → HasPrefix prefix p → AllBegin prefix changes → AllByRecursion (λ later. Before p later.0) changes → AllByRecursion (λ later. Before (drop (length prefix) p) later.0) (dropped (length prefix) changes)
all-dropped prefix p [] first begin h = tt
all-dropped prefix p (change ∷ changes) first begin h = (before-behind prefix p change.0 first begin.0 h.0, all-dropped prefix p changes first begin.1 h.1)

rising-dropped : (prefix : List ℕ) (changes : List Change) → AllBegin prefix changes → RisingChanges changes → RisingChanges (dropped (length prefix) changes)
rising-dropped prefix [] begin h = tt
rising-dropped prefix (change ∷ changes) begin h = (all-dropped prefix change.0 changes begin.0 begin.1 h.0, rising-dropped prefix changes begin.1 h.1)

each-deeper : (depth : ℕ) (prefix : List ℕ) (changes : List Lent) → AllBegin prefix (changes_at depth changes) → AllByRecursion (IsChangeAt depth) changes → AllByRecursion (IsChangeAt (depth + length prefix)) changes
each-deeper depth prefix [] begin each = tt
each-deeper depth prefix (change ∷ changes) begin each =
    let whole = ap length begin.0.1 ∙ length-append prefix begin.0.0 in
    let left = length-drop depth (nibbles change.0.now) in
    let deep = each.0.deep in
    (record { deep = omega arith; short = each.0.short; nibbles = each.0.nibbles; value = each.0.value }, each-deeper depth prefix changes begin.1 each.1)

pub deeper-changes : (depth : ℕ) (prefix : List ℕ) (changes : List Lent) → AllBegin prefix (changes_at depth changes) → AreChangesAt depth changes → AreChangesAt (depth + length prefix) changes
deeper-changes depth prefix changes begin h = record {
  rises = rises (changes_at (depth + length prefix) changes) (subst RisingChanges (dropped-changes_at depth (length prefix) changes) (rising-dropped prefix (changes_at depth changes) begin (rising (changes_at depth changes) h.rises)));
  each = each-deeper depth prefix changes begin h.each;
}

pub behind-changes : (depth : ℕ) (prefix : List ℕ) (changes : List Lent) → AllBegin prefix (changes_at depth changes) → changes_behind prefix (changes_at depth changes) ≡ changes_at (depth + length prefix) changes
behind-changes depth prefix changes begin = behind-dropped prefix (changes_at depth changes) begin ∙ dropped-changes_at depth (length prefix) changes

-- ---- what the first and the last share is what all share

abbrev key_row : Change → Row
key_row change = (change.0, [])

abbrev key_rows : List Change → List Row
key_rows changes = map key_row changes

all-keys : (p : List ℕ) (changes : List Change) → AllByRecursion (λ later. Before p later.0) changes → AllByRecursion (λ later. Before p later.0) (key_rows changes)
all-keys p [] h = tt
all-keys p (change ∷ changes) h = (h.0, all-keys p changes h.1)

rising-keys : (changes : List Change) → RisingChanges changes → RisingRows (key_rows changes)
rising-keys [] h = tt
rising-keys (change ∷ changes) h = (all-keys change.0 changes h.0, rising-keys changes h.1)

begin-keys : (prefix : List ℕ) (changes : List Change) → AllHavePrefix prefix (key_rows changes) → AllBegin prefix changes
begin-keys prefix [] h = tt
begin-keys prefix (change ∷ changes) h = (h.0, begin-keys prefix changes h.1)

abbrev pub at_depth : ℕ → Lent → List ℕ
at_depth depth change = drop depth (nibbles change.0.now)

last-keys : (depth : ℕ) (change : Lent) (changes : List Lent) (d : Lent) → (last_row (key_row (change_at depth change)) (key_rows (changes_at depth changes))).0 ≡ at_depth depth (get_or (change ∷ changes) (length changes) d)
last-keys depth change [] d = refl
last-keys depth change (next ∷ changes) d = last-keys depth next changes d

pub begin-common : (depth : ℕ) (changes : List Lent) (d : Lent) → 1 ≤ length changes → AreChangesAt depth changes → AllBegin (common (at_depth depth (get_or changes 0 d)) (at_depth depth (get_or changes (length changes - 1) d))) (changes_at depth changes)
begin-common depth [] d some h = absurd (omega arith)
begin-common depth (change ∷ changes) d some h =
    let end : suc (length changes) - 1 ≡ length changes = omega arith in
    let last = last-keys depth change changes d ∙ ap (λ n. at_depth depth (get_or (change ∷ changes) n d)) (sym end) in
    let first = key_row (change_at depth change) in
    let others = key_rows (changes_at depth changes) in
    let shared = common_prefix-rising first others (rising-keys (changes_at depth (change ∷ changes)) (rising (changes_at depth (change ∷ changes)) h.rises)) in
    let all = begin-keys (common_prefix first others) (changes_at depth (change ∷ changes)) (common_prefix-all first others) in
    subst (λ (p : List ℕ). AllBegin p (changes_at depth (change ∷ changes))) (shared ∙ ap (common (at_depth depth change)) last) all

-- a shorter piece of what all begin with
pub begin-take : (n m : ℕ) (p : List ℕ) (changes : List Change) → n ≤ m → AllBegin (take m p) changes → AllBegin (take n p) changes
begin-take n m p changes h begin = begin-shorter (take n p) (take m p) changes (take-prefix n m p h) begin
  where
    take-prefix : (i j : ℕ) (q : List ℕ) → i ≤ j → HasPrefix (take i q) (take j q)
    take-prefix zero j q le = (take j q, refl)
    take-prefix (suc i) zero q le = absurd (omega arith)
    take-prefix (suc i) (suc j) [] le = ([], refl)
    take-prefix (suc i) (suc j) (x ∷ q) le = let further = take-prefix i j q (omega arith) in (further.0, ap (λ (r : List ℕ). x ∷ r) further.1)

-- what the code finds of the first and the last
pub begin-found : (depth : ℕ) (changes : List Lent) (d : Lent) (n : ℕ) → 1 ≤ length changes → AreChangesAt depth changes → IsCommonLength (at_depth depth (get_or changes 0 d)) (at_depth depth (get_or changes (length changes - 1) d)) n → AllBegin (take n (at_depth depth (get_or changes 0 d))) (changes_at depth changes)
begin-found depth changes d n some h is =
    subst (λ (p : List ℕ). AllBegin p (changes_at depth changes)) (common-of_length n (at_depth depth (get_or changes 0 d)) (at_depth depth (get_or changes (length changes - 1) d)) is.in_first is.in_second is.shared is.longest) (begin-common depth changes d some h)

pub found-first : (depth : ℕ) (changes : List Lent) (d : Lent) (first last : List ℕ) (n : ℕ) → 1 ≤ length changes → AreChangesAt depth changes → first ≡ at_depth depth (get_or changes 0 d) → last ≡ at_depth depth (get_or changes (length changes - 1) d)
    → IsCommonLength first last n → BeginAsFirst depth changes n
found-first depth [] d first last n some h is_first is_last is = absurd (omega arith)
found-first depth (change ∷ changes) d first last n some h is_first is_last is = λ e.
    begin-found depth (change ∷ changes) d n some h (subst (λ (q : List ℕ). IsCommonLength (at_depth depth change) q n) is_last (subst (λ (p : List ℕ). IsCommonLength p last n) is_first is))

-- fewer nibbles of the first
pub fewer-first : (depth : ℕ) (changes : List Lent) (most n : ℕ) → n ≤ most → BeginAsFirst depth changes most → BeginAsFirst depth changes n
fewer-first depth changes most n few begin = λ d. begin-take n most (at_depth depth (get_or changes 0 d)) (changes_at depth changes) few (begin d)

-- ---- and with a path

pub begin-path : (depth : ℕ) (changes : List Lent) (key path : List ℕ) (most n : ℕ) → n ≤ most → take n key ≡ take n path → AllBegin (take most key) (changes_at depth changes) → AllBegin (take n path) (changes_at depth changes)
begin-path depth changes key path most n few same begin = subst (λ (p : List ℕ). AllBegin p (changes_at depth changes)) same (begin-take n most key (changes_at depth changes) few begin)

pub begin-as : (depth : ℕ) (changes : List Lent) (path : List ℕ) (n : ℕ) → n ≤ length path → AllBegin (take n path) (changes_at depth changes) → BeginAs depth changes n path
begin-as depth changes path n short begin = (short, behind-changes depth (take n path) changes begin ∙ ap (λ k. changes_at (depth + k) changes) (length-take-le n path short))

pub begin-deeper : (depth : ℕ) (changes : List Lent) (path : List ℕ) (n : ℕ) → n ≤ length path → AllBegin (take n path) (changes_at depth changes) → AreChangesAt depth changes → AreChangesAt (depth + n) changes
begin-deeper depth changes path n short begin h = subst (λ k. AreChangesAt (depth + k) changes) (length-take-le n path short) (deeper-changes depth (take n path) changes begin h)

-- ---- no more nibbles are shared

-- a path that goes on has that nibble
pub next-nibble : (x n : ℕ) (p : List ℕ) → goes_on x (drop n p) ≡ true → (n < length p) × (get_or p n 0 ≡ x)
next-nibble x zero [] h = cc
next-nibble x (suc n) [] h = cc
next-nibble x zero (y ∷ p) h = (omega arith, sym (equal_of_test x y h))
next-nibble x (suc n) (y ∷ p) h = let further = next-nibble x n p h in (omega (arith, further.0), further.1)

-- the key of each change has it, where all go on with it
next-key : (x depth n j : ℕ) (changes : List Lent) (d : Lent) (key : List ℕ) → j < length changes → key ≡ at_depth depth (get_or changes j d) → AllGoOn x (changes_at (depth + n) changes) → (n < length key) × (get_or key n 0 ≡ x)
next-key x depth n j changes d key h is all =
    let goes : goes_on x (drop (depth + n) (nibbles (get_or changes j d).0.now)) ≡ true = each_at (λ change. goes_on x change.0 ≡ true) (depth + n) changes j d h all in
    let behind : drop n key ≡ drop (depth + n) (nibbles (get_or changes j d).0.now) = ap (drop n) is ∙ drop-drop n depth (nibbles (get_or changes j d).0.now) in
    next-nibble x n key (ap (goes_on x) behind ∙ goes)

pub parted-first : (depth : ℕ) (changes : List Lent) (d : Lent) (first last : List ℕ) (n : ℕ) → 1 ≤ length changes → first ≡ at_depth depth (get_or changes 0 d) → last ≡ at_depth depth (get_or changes (length changes - 1) d)
    → IsCommonLength first last n → (x : ℕ) → AllGoOn x (changes_at (depth + n) changes) → ⊥
parted-first depth changes d first last n some is_first is_last is x all =
    let one = next-key x depth n 0 changes d first (omega arith) is_first all in
    let other = next-key x depth n (length changes - 1) changes d last (omega arith) is_last all in
    is.longest one.0 other.0 (one.1 ∙ sym other.1)

pub parted-path : (depth : ℕ) (changes : List Lent) (d : Lent) (key path : List ℕ) (most n : ℕ) → 1 ≤ length changes → key ≡ at_depth depth (get_or changes 0 d) → n ≤ most → ((x : ℕ) → AllGoOn x (changes_at (depth + most) changes) → ⊥)
    → (n < most → n < length path → get_or key n 0 ≢ get_or path n 0) → (x : ℕ) → AllGoOn x (changes_at (depth + n) changes) → goes_on x (drop n path) ≡ true → ⊥
parted-path depth changes d key path most n some is few none longest x all goes = elim (cases_lt n most) [
  | inl less ↦ (let there = next-nibble x n path goes in let first = next-key x depth n 0 changes d key (omega arith) is all in longest less there.0 (first.1 ∙ sym there.1))
  | inr least ↦ (let same : n ≡ most = omega arith in none x (subst (λ k. AllGoOn x (changes_at (depth + k) changes)) same all))
]
