-- Over any set of texts, what a listing gives rises by path, and its paths and values are within the limits.
use Rattle.std.proofs.Common.{◌≡◌, ℕ, zero, suc, ◌+◌, ◌%◌, ◌^◌, ◌<◌, ◌≤◌, ◌==◌, true, false, if◌then◌else◌, List, [], ◌∷◌, ◌++◌, map, filter, cond, length, Option, None, Some, refl, sym, ◌∙◌, ap, subst, arith, nat_cmp, Less, inl, inr}
use Rattle.std.specs.List.{AllByRecursion}
use Rattle.std.specs.List.Sorted.{IsStrictlySortedBy}
use Rattle.std.specs.Cmp.Lexicographic.{slice_cmp}
use Rattle.std.specs.FinMap.{get}
use Rattle.std.proofs.lemmas.List.{map-append}
use Rattle.std.proofs.lemmas.List.Kept.{IsStrictlySortedBy-filter}
use Rattle.byte_model.specs.Below.{joined_below}
use Rattle.byte_model.specs.Nibbles.{AreBytes, AreNibbles, nibbles}
use Rattle.byte_model.specs.PackedPath.{longest_path}
use Rattle.byte_model.specs.Node.{ValueRef, longest_value}
use Rattle.trie_model.specs.State.{State, Row, IsState, rows_of}
use Rattle.trie_model.specs.Texts.{behind}
use Rattle.trie_model.specs.Root.{Table}
use Rattle.byte_model.proofs.Below.{joined_below-agree, map-joined_below}
use Rattle.trie_model.proofs.Members.{IsIn, in_map_from, in_joined_below_from}
use Rattle.trie_model.proofs.Rests.{equal_of_test}
use Rattle.trie_model.proofs.Order.{Before, Rising, before_by_first, rising-append, rising-behind}
use Rattle.visit_model.specs.Seen.{Seen, nothing, missing, bad, leaf, branch, extension, seen}
use Rattle.visit_model.specs.Steps as step
use Rattle.visit_model.specs.Steps.{Step, listing_steps}
use Rattle.visit_model.specs.Visits as refusal
use Rattle.visit_model.specs.Visits.{Visits, Refusal, value_first, refused, value_visit, visits_of, listing_visits}
use Rattle.visit_model.specs.Bounds.{reaches, IsListed}
use Rattle.visit_model.specs.Keys.{AreByteTexts}
use Rattle.visit_model.proofs.SeenNibbles.{nibbles-seen}
use Rattle.visit_model.proofs.RisingRows.{state-rising}
use Rattle.visit_model.proofs.SeenValues.{NameFits, fit-seen}
use Rattle.visit_model.proofs.Rows.{Named, beneath, beneath-nil, name_here, named, named_in, reaching, named-listing_steps}

-- ---- what is seen rises

abbrev paths_of : List Named → List (List ℕ)
paths_of names = map (λ name. name.0) names

paths_of-beneath : (prefix : List ℕ) (names : List Named) → paths_of (beneath prefix names) ≡ behind prefix (paths_of names)
paths_of-beneath prefix [] = refl
paths_of-beneath prefix (name ∷ names) = ap (λ (paths : List (List ℕ)). (prefix ++ name.0) ∷ paths) (paths_of-beneath prefix names)

-- the paths behind each nibble below a bound
abbrev spread : (ℕ → List (List ℕ)) → ℕ → List (List ℕ)
spread paths n = joined_below (λ x. behind (x ∷ []) (paths x)) n

-- a path among them
record InSpread (paths : ℕ → List (List ℕ)) (n : ℕ) (path : List ℕ) : Type 0 where
  first : ℕ
  rest : List ℕ
  small : first < n
  whole : first ∷ rest ≡ path

in_spread : (paths : ℕ → List (List ℕ)) (n : ℕ) (path : List ℕ) → IsIn (spread paths n) path → InSpread paths n path
in_spread paths n path h =
    let lower = in_joined_below_from (λ x. behind (x ∷ []) (paths x)) n path h in
    let first = in_map_from (λ (rest : List ℕ). lower.0 ∷ rest) (paths lower.0) path lower.2 in
    record { first = lower.0; rest = first.0; small = lower.1; whole = first.2 }

rising-spread : (paths : ℕ → List (List ℕ)) (n : ℕ) → ((x : ℕ) → Rising (paths x)) → Rising (spread paths n)
unfolding joined_below IsStrictlySortedBy
rising-spread paths zero each = tt
rising-spread paths (suc n) each =
    rising-append (spread paths n) (behind (n ∷ []) (paths n)) (rising-spread paths n each) (rising-behind (n ∷ []) (paths n) (each n)) (λ p q i j.
    let low = in_spread paths n p i in
    let high = in_map_from (λ (rest : List ℕ). n ∷ rest) (paths n) q j in
    subst (λ r. Before p r) high.2 (subst (λ r. Before r (n ∷ high.0)) low.whole (before_by_first low.first n low.rest high.0 low.small)))

-- the empty path stands before those behind nibbles
rising-here_spread : (ref : Option ValueRef) (paths : ℕ → List (List ℕ)) (n : ℕ) → ((x : ℕ) → Rising (paths x)) → Rising (paths_of (name_here ref) ++ spread paths n)
unfolding IsStrictlySortedBy
rising-here_spread None paths n each = rising-spread paths n each
rising-here_spread (Some ref) paths n each =
    rising-append ([] ∷ []) (spread paths n) (tt, tt) (rising-spread paths n each) (λ p q i j. elim i [
      | inl e ↦
          let later = in_spread paths n q j in
          let before : Before [] (later.first ∷ later.rest) = refl in
          subst (λ r. Before r q) e (subst (λ r. Before [] r) later.whole before)
      | inr none ↦ absurd none
    ])

pub rising-named_in : (s : Seen) → Rising (paths_of (named_in s))
unfolding named_in IsStrictlySortedBy
rising-named_in nothing = tt
rising-named_in (missing digest) = tt
rising-named_in (bad digest) = tt
rising-named_in (leaf digest usage path ref) = (tt, tt)
rising-named_in (branch digest usage ref kids) =
    let paths : ℕ → List (List ℕ) = λ x. paths_of (named_in (kids x)) in
    let below_top : ℕ → List Named = λ x. beneath (x ∷ []) (named_in (kids x)) in
    let whole : paths_of (name_here ref ++ joined_below below_top 16) ≡ paths_of (name_here ref) ++ spread paths 16 =
    map-append (λ (name : Named). name.0) (name_here ref) (joined_below below_top 16)
    ∙ ap (λ (later : List (List ℕ)). paths_of (name_here ref) ++ later)
    (map-joined_below (λ (name : Named). name.0) below_top 16 ∙ joined_below-agree _ (λ x. behind (x ∷ []) (paths x)) 16 (λ x h. paths_of-beneath (x ∷ []) (named_in (kids x)))) in
    subst Rising (sym whole) (rising-here_spread ref paths 16 (λ x. rising-named_in (kids x)))
rising-named_in (extension digest usage path child) = subst Rising (sym (paths_of-beneath path (named_in child))) (rising-behind path (paths_of (named_in child)) (rising-named_in child))

-- ---- what the steps give

-- what is read of some names: the first of them, of each of which something holds
record ReadsPrefix (Q : Row → Type 0) (most : ℕ) (names : List Named) (visits : Visits) : Type 0 where
  few : length visits.values ≤ most
  others : List (List ℕ)
  prefix : paths_of names ≡ map (λ row. row.0) visits.values ++ others
  each : AllByRecursion Q visits.values

module _ (table : Table) (P : Named → Type 0) (Q : Row → Type 0) (read : (path : List ℕ) (ref : ValueRef) (text : List ℕ) → P (path, ref) → get table ref.digest ≡ Some text → length text ≡ ref.length → Q (path, text)) where
  reads_none : (most : ℕ) (names : List Named) (digests : List (List ℕ)) (refusal : Option Refusal) → ReadsPrefix Q most names (record { digests = digests; values = []; refusal = refusal })
  reads_none most names digests refusal = record { few = omega arith; others = paths_of names; prefix = refl; each = tt }

  reads_value : (most : ℕ) (path : List ℕ) (ref : ValueRef) (names : List Named) (after : Visits) → P (path, ref) → ReadsPrefix Q most names after → ReadsPrefix Q (suc most) ((path, ref) ∷ names) (value_visit path ref (get table ref.digest) after)
  unfolding value_visit
  reads_value most path ref names after fits further =
      elim (get table ref.digest) as (λ o. get table ref.digest ≡ o → ReadsPrefix Q (suc most) ((path, ref) ∷ names) (value_visit path ref o after)) [
        | None ↦ λ e. reads_none (suc most) ((path, ref) ∷ names) _ _
        | Some text ↦ λ e. elim (length text == ref.length) as (λ b. (length text == ref.length) ≡ b → ReadsPrefix Q (suc most) ((path, ref) ∷ names) (if b then value_first ref.digest (path, text) after else refused ref.digest (refusal.bad ref.digest))) [
          | true ↦ λ t. record {
            few = let n : length after.values ≤ most = further.few in omega arith;
            others = further.others;
            prefix = ap (λ (paths : List (List ℕ)). path ∷ paths) further.prefix;
            each = (read path ref text fits e (equal_of_test (length text) ref.length t), further.each);
          }
          | false ↦ λ t. reads_none (suc most) ((path, ref) ∷ names) _ _
        ] refl
      ] refl

  reads_prefix : (most : ℕ) (steps : List Step) → AllByRecursion P (named steps) → ReadsPrefix Q most (named steps) (visits_of table most steps)
  unfolding visits_of named
  reads_prefix zero steps all = reads_none zero (named steps) _ _
  reads_prefix (suc most) [] all = reads_none (suc most) [] _ _
  reads_prefix (suc most) (step.node digest ∷ steps) all =
      let further = reads_prefix (suc most) steps all in
      record { few = further.few; others = further.others; prefix = further.prefix; each = further.each }
  reads_prefix (suc most) (step.no_text digest ∷ steps) all = reads_none (suc most) (named steps) _ _
  reads_prefix (suc most) (step.no_node digest ∷ steps) all = reads_none (suc most) (named steps) _ _
  reads_prefix (suc most) (step.value path ref ∷ steps) all = reads_value most path ref (named steps) (visits_of table most steps) all.0 (reads_prefix most steps all.1)

-- ---- a listing

paths_of-reaching : (bound : List ℕ) (names : List Named) → paths_of (reaching bound names) ≡ filter (reaches bound) (paths_of names)
paths_of-reaching bound [] = refl
paths_of-reaching bound (name ∷ names) =
    let kept : List Named = reaching bound names in
    elim (reaches bound name.0) as (λ b. paths_of (cond b (name ∷ kept) kept) ≡ cond b (name.0 ∷ paths_of kept) (paths_of kept)) [
      | true ↦ refl
      | false ↦ refl
    ] ∙ ap (λ (paths : List (List ℕ)). cond (reaches bound name.0) (name.0 ∷ paths) paths) (paths_of-reaching bound names)

-- the names that pass keep what they had
all-reaching : (P : Named → Type 0) (bound : List ℕ) (names : List Named) → AllByRecursion P names → AllByRecursion (λ name. P name × (reaches bound name.0 ≡ true)) (reaching bound names)
all-reaching P bound [] h = tt
all-reaching P bound (name ∷ names) h =
    let further = all-reaching P bound names h.1 in
    elim (reaches bound name.0) as (λ b. reaches bound name.0 ≡ b → AllByRecursion (λ name. P name × (reaches bound name.0 ≡ true)) (cond b (name ∷ reaching bound names) (reaching bound names))) [
      | true ↦ λ e. ((h.0, e), further)
      | false ↦ λ e. further
    ] refl

rising-prefix : (paths others : List (List ℕ)) → Rising (paths ++ others) → Rising paths
unfolding IsStrictlySortedBy
rising-prefix [] others h = tt
rising-prefix (path ∷ paths) others h = (all_prefix paths h.0, rising-prefix paths others h.1)
  where
    all_prefix : (ps : List (List ℕ)) → AllByRecursion (λ later. slice_cmp nat_cmp path later ≡ Less) (ps ++ others) → AllByRecursion (λ later. slice_cmp nat_cmp path later ≡ Less) ps
    all_prefix [] h = tt
    all_prefix (p ∷ ps) h = (h.0, all_prefix ps h.1)

listed_names : (table : Table) (root from : List ℕ) → named (listing_steps (seen table root) [] (nibbles from)) ≡ reaching (nibbles from) (named_in (seen table root))
listed_names table root from = named-listing_steps (seen table root) [] (nibbles from) ∙ beneath-nil (reaching (nibbles from) (named_in (seen table root)))

abbrev Fitting : List ℕ → Named → Type 0
Fitting bound name = NameFits 0 name × (reaches bound name.0 ≡ true)

reads_listing : (table : Table) (root from : List ℕ) (most : ℕ) → ReadsPrefix (IsListed (nibbles from)) most (named (listing_steps (seen table root) [] (nibbles from))) (listing_visits table root from most)
reads_listing table root from most =
    let bound : List ℕ = nibbles from in
    reads_prefix table (Fitting bound) (IsListed bound) (λ path ref text fits e long.
    let size : ref.length ≤ longest_value = fits.0.value_length in
    let same : 0 + length path ≡ length path = omega arith in
    record { reached = fits.1; whole = ap (λ n. n % 2) (sym same) ∙ fits.0.whole; path_length = subst (λ n. n ≤ longest_path) same fits.0.path_length; value_length = omega arith })
    most (listing_steps (seen table root) [] bound)
    (subst (AllByRecursion (Fitting bound)) (sym (listed_names table root from)) (all-reaching (NameFits 0) bound (named_in (seen table root)) (fit-seen table root)))

pub listing-few : (table : Table) (root from : List ℕ) (most : ℕ) → length (listing_visits table root from most).values ≤ most
listing-few table root from most = (reads_listing table root from most).few

pub listing-fits : (table : Table) (root from : List ℕ) (most : ℕ) → AllByRecursion (IsListed (nibbles from)) (listing_visits table root from most).values
listing-fits table root from most = (reads_listing table root from most).each

pub listing-rises : (table : Table) (root from : List ℕ) (most : ℕ) → IsStrictlySortedBy (slice_cmp nat_cmp) (map (λ row. row.0) (listing_visits table root from most).values)
listing-rises table root from most =
    let bound : List ℕ = nibbles from in
    let names : List Named = named_in (seen table root) in
    let reads = reads_listing table root from most in
    rising-prefix (map (λ row. row.0) (listing_visits table root from most).values) reads.others
    (subst Rising (sym (paths_of-reaching bound names) ∙ ap paths_of (sym (listed_names table root from)) ∙ reads.prefix)
    (IsStrictlySortedBy-filter (slice_cmp nat_cmp) (reaches bound) (paths_of names) (rising-named_in (seen table root))))

-- ---- over texts of bytes

all-both : (P Q : Row → Type 0) (rows : List Row) → AllByRecursion P rows → AllByRecursion Q rows → AllByRecursion (λ row. P row × Q row) rows
all-both P Q [] h k = tt
all-both P Q (row ∷ rows) h k = ((h.0, k.0), all-both P Q rows h.1 k.1)

pub listing-bytes : (table : Table) (root from : List ℕ) (most : ℕ) → AreByteTexts table → AllByRecursion (λ row. AreNibbles row.0 × AreBytes row.1) (listing_visits table root from most).values
listing-bytes table root from most bytes =
    let bound : List ℕ = nibbles from in
    let names : List Named = named_in (seen table root) in
    let reads : ReadsPrefix (λ row. AreNibbles row.0 × AreBytes row.1) most (named (listing_steps (seen table root) [] bound)) (listing_visits table root from most) =
    reads_prefix table (λ name. AreNibbles name.0 × (reaches bound name.0 ≡ true)) (λ row. AreNibbles row.0 × AreBytes row.1) (λ path ref text small held long. (small.0, bytes ref.digest text held)) most (listing_steps (seen table root) [] bound)
    (subst (AllByRecursion (λ name. AreNibbles name.0 × (reaches bound name.0 ≡ true))) (sym (listed_names table root from)) (all-reaching (λ name. AreNibbles name.0) bound names (nibbles-seen table root bytes))) in
    reads.each

pub listing-state : (table : Table) (root from : List ℕ) (most : ℕ) → AreByteTexts table → most ≤ 2 ^ 32 → (state : State) × IsState state × (rows_of state ≡ (listing_visits table root from most).values)
listing-state table root from most bytes small =
    let rows : List Row = (listing_visits table root from most).values in
    let few : length rows ≤ most = listing-few table root from most in
    state-rising (nibbles from) rows (listing-rises table root from most) (all-both (IsListed (nibbles from)) (λ row. AreNibbles row.0 × AreBytes row.1) rows (listing-fits table root from most) (listing-bytes table root from most bytes)) (omega arith)
