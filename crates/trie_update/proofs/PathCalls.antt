-- What stood before a path, behind the nibbles that the changes share with it.
use Rattle.std.proofs.Common.{◌≡◌, ◌≢◌, ℕ, zero, suc, ◌+◌, ◌<◌, ◌≤◌, ◌==◌, if◌then◌else◌, Bool, true, false, List, [], ◌∷◌, ◌++◌, length, take, drop, get_or, None, Some, option_map, Result, Ok, Err, IfOk, refl, sym, ◌∙◌, ap, ap₂, subst, arith}
use Rattle.std.specs.List.{cons_option}
use Rattle.std.proofs.lemmas.List.{length-append, length-drop, length-take-le}
use Rattle.byte_model.specs.Nibbles.{nibbles, AreNibbles}
use Rattle.byte_model.proofs.Digits.{AreNibbles-rest}
use Rattle.byte_model.proofs.Lists.{AllByRecursion-take, AllByRecursion-drop}
use Rattle.trie_model.specs.Root.{Table}
use Rattle.trie_model.specs.Tree.{rest_behind}
use Rattle.trie_model.proofs.Rests.{equal_of_test, prefix_and_rest, same_nibble}
use Rattle.visit_model.specs.Seen.{Seen, seen_at, stated_usage}
use Rattle.batch_model.specs.Changes.{Change}
use Rattle.change_model.specs.Visits.{Visits, changes_behind, if_touched, visits_at, where_touched}
use Rattle.base_core.specs.declared.hash.Digest.{Digest}
use Rattle.node_codec.specs.Meanings.{value_of}
use Rattle.update_model.specs.Sound.{StandsAt}
use Rattle.update_model.specs.Tops.{Top, empty, leaf, branch, extension, lowered}
use Rattle.update_model.specs.Updates.{Outcome, fork_outcome, laid, updated}
use Rattle.update_model.proofs.Behind.{fewer-behind}
use Rattle.update_model.proofs.LaidSteps.{laid-step, changes_behind-append, changes_behind-nil}
use Rattle.trie_update.specs.declared.old.Old.{Old}
use Rattle.trie_update.specs.declared.old.Old.TheVariants.{Nothing, Leaf, Extension}
use Rattle.trie_update.specs.declared.ledger.Ledger.{Ledger}
use Rattle.trie_update.specs.declared.updating.Placed.{Placed}
use Rattle.trie_update.specs.ChangesAt.{AllBegin, AreChangesAt, BeginAsFirst, Lent, changes_at}
use Rattle.trie_update.specs.Olds.{BeginAs, BeginAsOld}
use Rattle.trie_update.specs.Places.{FitsTop, Keeps, MostTop, NoBranch, Reaches, TopKeeps, led_by, old_past, seen_past, top_stated, top_visits}
use Rattle.trie_update.specs.Placed.{IsPlaced}
use Rattle.trie_update.specs.Subs.{top_of_sub}
use Rattle.trie_update.proofs.Beginnings.{behind-changes}
use Rattle.trie_update.proofs.Lowering.{IsProper, below_nibbles, laid-lowered}
use Rattle.trie_update.proofs.ChangesAt.{changes-some, length-changes_at}

pub if_ok-both : {X E : Type 0} (r : Result X E) (P Q R : X → Type 0) → ((x : X) → P x → Q x → R x) → IfOk r P → IfOk r Q → IfOk r R
if_ok-both (Ok x) P Q R both h k = both x h k
if_ok-both (Err e) P Q R both h k = tt

-- ---- lists

take_drop : {X : Type 0} (n : ℕ) (xs : List X) → xs ≡ take n xs ++ drop n xs
take_drop zero xs = refl
take_drop (suc n) [] = refl
take_drop {X} (suc n) (x ∷ xs) = ap (λ (ys : List X). x ∷ ys) (take_drop n xs)

take-all : {X : Type 0} (prefix rest : List X) → take (length prefix) (prefix ++ rest) ≡ prefix
take-all [] rest = refl
take-all {X} (x ∷ prefix) rest = ap (λ (ys : List X). x ∷ ys) (take-all prefix rest)

drop-none : {X : Type 0} (n : ℕ) (xs : List X) → length xs ≤ n → drop n xs ≡ []
drop-none zero [] h = refl
drop-none zero (x ∷ xs) h = absurd (omega arith)
drop-none (suc n) [] h = refl
drop-none (suc n) (x ∷ xs) h = drop-none n xs (omega arith)

-- ---- all changes have a prefix where none is left out behind it

all-begin : (q : List ℕ) (changes : List Change) → length (changes_behind q changes) ≡ length changes → AllBegin q changes
unfolding changes_behind
all-begin q [] e = tt
all-begin q (change ∷ changes) e =
    elim (rest_behind q change.0) as (λ r. rest_behind q change.0 ≡ r → length (cons_option (option_map (λ rest. (rest, change.1)) r) (changes_behind q changes)) ≡ suc (length changes) → AllBegin q (change ∷ changes)) [
      | None ↦ λ none long. absurd (let fewer = fewer-behind q changes in omega arith)
      | Some rest ↦ λ some long. ((rest, prefix_and_rest q change.0 rest some), all-begin q changes (omega arith))
    ] refl e

-- some change, to speak of the first
pub some-lent : (changes : List Lent) → 1 ≤ length changes → Lent
some-lent [] some = absurd (omega arith)
some-lent (change ∷ changes) some = change

abbrev pub first_nibbles : ℕ → ℕ → List Lent → Lent → List ℕ
first_nibbles depth count changes d = take count (drop depth (nibbles (get_or changes 0 d).0.now))

first-begins : (depth : ℕ) (changes : List Lent) (d : Lent) (q : List ℕ) → 1 ≤ length changes → AllBegin q (changes_at depth changes) → first_nibbles depth (length q) changes d ≡ q
first-begins depth [] d q some begin = absurd (omega arith)
first-begins depth (change ∷ changes) d q some begin = ap (take (length q)) begin.0.1 ∙ take-all q begin.0.0

first-long : (depth count : ℕ) (changes : List Lent) (d : Lent) → 1 ≤ length changes → AreChangesAt (depth + count) changes → length (first_nibbles depth count changes d) ≡ count
first-long depth count [] d some h = absurd (omega arith)
first-long depth count (change ∷ changes) d some h =
    let deep = h.each.0.deep in
    let left = length-drop depth (nibbles change.0.now) in
    length-take-le count (drop depth (nibbles change.0.now)) (omega arith)

first-nibbles : (depth count : ℕ) (changes : List Lent) (d : Lent) → 1 ≤ length changes → AreChangesAt (depth + count) changes → AreNibbles (first_nibbles depth count changes d)
first-nibbles depth count [] d some h = absurd (omega arith)
first-nibbles depth count (change ∷ changes) d some h = AllByRecursion-take (λ nibble. nibble < 16) count (drop depth (nibbles change.0.now)) (AllByRecursion-drop (λ nibble. nibble < 16) depth (nibbles change.0.now) h.each.0.nibbles)

-- ---- what is shared

pub reaches-begin : (depth : ℕ) (changes : List Lent) (count : ℕ) (old : Old) → BeginAsOld depth changes count old → Reaches count old
reaches-begin depth changes count Nothing h = tt
reaches-begin depth changes count (Leaf path value) h = h.0
reaches-begin depth changes count (Extension path child used) h = h.0

-- the path begins with the nibbles that the changes share
path-begins : (depth count : ℕ) (changes : List Lent) (d : Lent) (path : List ℕ) → 1 ≤ length changes → BeginAs depth changes count path → take count path ≡ first_nibbles depth count changes d
path-begins depth count changes d path some h =
    let long : length (take count path) ≡ count = length-take-le count path h.0 in
    let whole = length-changes_at depth changes in
    let left = length-changes_at (depth + count) changes in
    let all = all-begin (take count path) (changes_at depth changes) (ap length h.1 ∙ left ∙ sym whole) in
    sym (ap (λ n. first_nibbles depth n changes d) (sym long) ∙ first-begins depth changes d (take count path) some all)

lowered-lowered : (p q digest : List ℕ) (used : ℕ) → lowered (p ++ q) (branch digest used) ≡ lowered p (lowered q (branch digest used))
unfolding lowered
lowered-lowered [] [] digest used = refl
lowered-lowered [] (x ∷ q) digest used = refl
lowered-lowered (y ∷ p) [] digest used = ap (λ (r : List ℕ). extension (y ∷ r) digest used) (append_nil p)
  where
    append_nil : (r : List ℕ) → r ++ [] ≡ r
    append_nil [] = refl
    append_nil (z ∷ r) = ap (λ (s : List ℕ). z ∷ s) (append_nil r)
lowered-lowered (y ∷ p) (x ∷ q) digest used = refl

pub before-past : (depth count : ℕ) (changes : List Lent) (d : Lent) (old : Old) → 1 ≤ length changes → BeginAsOld depth changes count old → old_past 0 old ≡ lowered (first_nibbles depth count changes d) (old_past count old)
unfolding old_past lowered
before-past depth count changes d Nothing some h = refl
before-past depth count changes d (Leaf path value) some h =
    ap (λ (p : List ℕ). leaf p (value_of value)) (take_drop count path.now ∙ ap (λ (p : List ℕ). p ++ drop count path.now) (path-begins depth count changes d path.now some h))
before-past depth count changes d (Extension path child used) some h =
    ap (λ (p : List ℕ). lowered p (branch child.0 used)) (take_drop count path.now ∙ ap (λ (p : List ℕ). p ++ drop count path.now) (path-begins depth count changes d path.now some h))
    ∙ lowered-lowered (first_nibbles depth count changes d) (drop count path.now) child.0 used

pub seen-later : (table : Table) (depth count : ℕ) (old : Old) → Reaches count old → seen_past table depth 0 old ≡ seen_past table (depth + count) count old
unfolding seen_past
seen-later table depth count Nothing h = refl
seen-later table depth count (Leaf path value) h = refl
seen-later table depth count (Extension path child used) h = let left = length-drop count path.now in let far : depth + length path.now ≡ depth + count + length (drop count path.now) = omega arith in ap (λ n. seen_at table n true child.0) far

proper-past : (count : ℕ) (old : Old) → IsProper (old_past count old)
unfolding old_past lowered
proper-past count Nothing = tt
proper-past count (Leaf path value) = tt
proper-past count (Extension path child used) = go (drop count path.now)
  where
    go : (p : List ℕ) → IsProper (lowered p (branch child.0 used))
    go [] = tt
    go (x ∷ p) = λ e. cc

-- ---- visits, sums and facts behind nibbles

visits-lowered : (p : List ℕ) (below : Seen) (base : Top) (changes : List Change) → top_visits below (lowered p base) changes ≡ top_visits below base (changes_behind p changes)
unfolding top_visits lowered
visits-lowered p below empty changes = refl
visits-lowered p below (leaf path ref) changes = refl
visits-lowered [] below (branch digest used) changes = ap (λ (cs : List Change). where_touched cs (visits_at below cs)) (sym (changes_behind-nil changes))
visits-lowered (x ∷ p) below (branch digest used) changes = refl
visits-lowered p below (extension path digest used) changes = ap (λ (cs : List Change). where_touched cs (visits_at below cs)) (changes_behind-append p path changes)

stated-lowered : (p : List ℕ) (below : Seen) (base : Top) (changes : List Change) → top_stated below (lowered p base) changes ≡ top_stated below base (changes_behind p changes)
unfolding top_stated lowered
stated-lowered p below empty changes = refl
stated-lowered p below (leaf path ref) changes = refl
stated-lowered [] below (branch digest used) changes = ap (λ (cs : List Change). if_touched cs (stated_usage below)) (sym (changes_behind-nil changes))
stated-lowered (x ∷ p) below (branch digest used) changes = refl
stated-lowered p below (extension path digest used) changes = ap (λ (cs : List Change). if_touched cs (stated_usage below)) (changes_behind-append p path changes)

keeps-along : (n m : ℕ) (below : Seen) (cs ds : List Change) → n ≡ m → cs ≡ ds → (cs ≢ [] → Keeps n below cs) → ds ≢ [] → Keeps m below ds
keeps-along n m below cs ds e f h = subst (λ (xs : List Change). xs ≢ [] → Keeps m below xs) f (subst (λ k. cs ≢ [] → Keeps k below cs) e h)

keeps-lowered : (depth : ℕ) (p : List ℕ) (below : Seen) (base : Top) (changes : List Change) → TopKeeps (depth + length p) below base (changes_behind p changes) → TopKeeps depth below (lowered p base) changes
unfolding TopKeeps lowered
keeps-lowered depth p below empty changes h = tt
keeps-lowered depth p below (leaf path ref) changes h = tt
keeps-lowered depth [] below (branch digest used) changes h = let same : depth + 0 ≡ depth = omega arith in keeps-along (depth + 0) depth below (changes_behind [] changes) changes same (changes_behind-nil changes) h
keeps-lowered depth (x ∷ p) below (branch digest used) changes h = h
keeps-lowered depth p below (extension path digest used) changes h =
    let long = length-append p path in
    let far : depth + length p + length path ≡ depth + length (p ++ path) = omega arith in
    keeps-along (depth + length p + length path) (depth + length (p ++ path)) below (changes_behind path (changes_behind p changes)) (changes_behind (p ++ path) changes) far (sym (changes_behind-append p path changes)) h

stands-past : (depth : ℕ) (p : List ℕ) (base : Top) → IsProper base → StandsAt depth (lowered p base) → StandsAt (depth + length p) base
unfolding StandsAt lowered
stands-past depth p empty proper h = tt
stands-past depth p (leaf path ref) proper h = (AreNibbles-rest p path h.0, (let long = length-append p path in let room = h.1 in omega arith), h.2)
stands-past depth [] (branch digest used) proper h = omega arith
stands-past depth (x ∷ p) (branch digest used) proper h = h.1
stands-past depth p (extension path digest used) proper h = (AreNibbles-rest p path h.0, (let long = length-append p path in let room = h.1 in omega arith), proper)

most-past : (p : List ℕ) (base : Top) → MostTop (lowered p base) → MostTop base
unfolding MostTop lowered
most-past p empty h = tt
most-past p (leaf path ref) h = tt
most-past [] (branch digest used) h = h
most-past (x ∷ p) (branch digest used) h = h
most-past p (extension path digest used) h = h

-- ---- one step of what is laid

pub laid-fork : (child : List Change → Outcome) (base : Top) (changes : List Change) → NoBranch base → laid child base changes ≡ fork_outcome (laid child) base changes
laid-fork child empty changes over_it = laid-step child empty changes
laid-fork child (leaf path ref) changes over_it = laid-step child (leaf path ref) changes
laid-fork child (branch digest used) changes over_it = absurd over_it
laid-fork child (extension path digest used) changes over_it = laid-step child (extension path digest used) changes

-- ---- the whole

module _ (table : Table) (depth count : ℕ) (changes : List Lent) (d : Lent) (old : Old) (some : 1 ≤ length changes) (deeper : AreChangesAt (depth + count) changes) (keys : BeginAsFirst depth changes count) (begin : BeginAsOld depth changes count old) where
  abbrev p : List ℕ
  p = first_nibbles depth count changes d

  abbrev later : List Change
  later = changes_at (depth + count) changes

  abbrev whole : List Change
  whole = changes_at depth changes

  abbrev below : Seen
  below = seen_past table (depth + count) count old

  abbrev base : Top
  base = old_past count old

  long : length p ≡ count
  long = first-long depth count changes d some deeper

  behind : changes_behind p whole ≡ later
  behind = behind-changes depth p changes (keys d) ∙ ap (λ n. changes_at (depth + n) changes) long

  seen_is : seen_past table depth 0 old ≡ below
  seen_is = seen-later table depth count old (reaches-begin depth changes count old begin)

  before_is : old_past 0 old ≡ lowered p base
  before_is = before-past depth count changes d old some begin

  pub path-visits : top_visits (seen_past table depth 0 old) (old_past 0 old) whole ≡ top_visits below base later
  path-visits = ap₂ (λ (s : Seen) (t : Top). top_visits s t whole) seen_is before_is ∙ visits-lowered p below base whole ∙ ap (top_visits below base) behind

  pub path-stated : top_stated (seen_past table depth 0 old) (old_past 0 old) whole ≡ top_stated below base later
  path-stated = ap₂ (λ (s : Seen) (t : Top). top_stated s t whole) seen_is before_is ∙ stated-lowered p below base whole ∙ ap (top_stated below base) behind

  pub path-outcome : laid (λ cs. updated (seen_past table depth 0 old) cs) (old_past 0 old) whole ≡ below_nibbles p (laid (λ cs. updated below cs) base later)
  path-outcome =
      ap₂ (λ (s : Seen) (t : Top). laid (λ cs. updated s cs) t whole) seen_is before_is
      ∙ laid-lowered p (λ cs. updated below cs) base whole (first-nibbles depth count changes d some deeper) (proper-past count old) (changes-some depth changes some) (keys d)
      ∙ ap (λ (cs : List Change). below_nibbles p (laid (λ ds. updated below ds) base cs)) behind

  pub path-keeps : TopKeeps (depth + count) below base later → TopKeeps depth (seen_past table depth 0 old) (old_past 0 old) whole
  path-keeps h =
      let here : TopKeeps (depth + length p) below base (changes_behind p whole) = subst (λ n. TopKeeps (depth + n) below base (changes_behind p whole)) (sym long) (subst (λ (cs : List Change). TopKeeps (depth + count) below base cs) (sym behind) h) in
      let all = keeps-lowered depth p below base whole here in
      subst (λ (s : Seen). TopKeeps depth s (old_past 0 old) whole) (sym seen_is) (subst (λ (t : Top). TopKeeps depth below t whole) (sym before_is) all)

  pub path-fits : FitsTop depth (old_past 0 old) → FitsTop (depth + count) base
  path-fits fits = record {
    stands = subst (λ n. StandsAt (depth + n) base) long (stands-past depth p base (proper-past count old) (subst (StandsAt depth) before_is fits.stands));
    most = most-past p base (subst MostTop before_is fits.most);
  }

  -- what has become of it, once the nibbles are put before it
  pub path-placed : (outcome : Outcome) (told n : ℕ) (first last : Ledger) (placed lower : Placed) → laid (λ cs. updated below cs) base later ≡ outcome → top_stated below base later ≡ told
      → IsPlaced outcome told n first last placed → top_of_sub lower.sub ≡ lowered p (top_of_sub placed.sub) → lower.stated ≡ placed.stated
      → IsPlaced (laid (λ cs. updated (seen_past table depth 0 old) cs) (old_past 0 old) whole) (top_stated (seen_past table depth 0 old) (old_past 0 old) whole) n first last lower
  path-placed outcome told n first last placed lower is told_is h top stated =
      let all : laid (λ cs. updated (seen_past table depth 0 old) cs) (old_past 0 old) whole ≡ below_nibbles p outcome = path-outcome ∙ ap (below_nibbles p) is in
      subst (λ (o : Outcome). IsPlaced o (top_stated (seen_past table depth 0 old) (old_past 0 old) whole) n first last lower) (sym all) (record {
        top = top ∙ ap (lowered p) h.top;
        stated = stated ∙ h.stated ∙ sym (path-stated ∙ told_is);
        adds = h.adds;
        counts = h.counts;
      })

-- ---- the branch that is reached, or none

pub record IsLed (table : Table) (depth count : ℕ) (old : Old) (digest : Digest) : Type 0 where
  pub used : ℕ
  pub top : old_past count old ≡ branch digest.0 used
  pub seen : seen_past table depth count old ≡ seen_at table depth true digest.0

pub led-some : (table : Table) (depth count : ℕ) (old : Old) (digest : Digest) → Some digest ≡ led_by count old → IsLed table depth count old digest
unfolding old_past seen_past lowered
led-some table depth count Nothing digest e = cc
led-some table depth count (Leaf path value) digest e = cc
led-some table depth count (Extension path child used) digest e =
    elim (length path.now == count) as (λ b. (length path.now == count) ≡ b → Some digest ≡ (if b then Some child else None) → IsLed table depth count (Extension path child used) digest) [
      | true ↦ λ t k. (let same : digest ≡ child = cc in
          let none : drop count path.now ≡ [] = (let all = equal_of_test (length path.now) count t in drop-none count path.now (omega arith)) in
          let here : depth + 0 ≡ depth = omega arith in
          record {
            used = used;
            top = ap₂ (λ (r : List ℕ) (c : Digest). lowered r (branch c.0 used)) none (sym same);
            seen = ap₂ (λ (r : List ℕ) (c : Digest). seen_at table (depth + length r) true c.0) none (sym same) ∙ ap (λ n. seen_at table n true digest.0) here;
          })
      | false ↦ λ t k. cc
    ] refl e

pub led-none : (count : ℕ) (old : Old) → None ≡ led_by count old → Reaches count old → NoBranch (old_past count old)
unfolding old_past lowered
led-none count Nothing e h = tt
led-none count (Leaf path value) e h = tt
led-none count (Extension path child used) e h = go (drop count path.now) refl
  where
    go : (r : List ℕ) → drop count path.now ≡ r → NoBranch (lowered r (branch child.0 used))
    go [] none =
        let left = length-drop count path.now in
        let same : length path.now ≡ count = (let l = ap length none in omega arith) in
        let test : (length path.now == count) ≡ true = ap (λ n. n == count) same ∙ same_nibble count in
        absurd (let k : None ≡ Some child = e ∙ ap (λ (b : Bool). if b then Some child else None) test in cc)
    go (x ∷ r) more = tt

module _ (table : Table) (depth count : ℕ) (old : Old) (digest : Digest) (led : IsLed table depth count old digest) (changes : List Change) (more : changes ≢ []) where
  touched : (cs : List Change) → cs ≢ [] → (v : Visits) → where_touched cs v ≡ v
  touched [] m v = absurd (m refl)
  touched (c ∷ cs) m v = refl

  counted : (cs : List Change) → cs ≢ [] → (n : ℕ) → if_touched cs n ≡ n
  counted [] m n = absurd (m refl)
  counted (c ∷ cs) m n = refl

  abbrev there : Seen
  there = seen_at table depth true digest.0

  pub led-visits : top_visits (seen_past table depth count old) (old_past count old) changes ≡ visits_at there changes
  unfolding top_visits
  led-visits = ap₂ (λ (s : Seen) (t : Top). top_visits s t changes) led.seen led.top ∙ touched changes more (visits_at there changes)

  pub led-stated : top_stated (seen_past table depth count old) (old_past count old) changes ≡ stated_usage there
  unfolding top_stated
  led-stated = ap₂ (λ (s : Seen) (t : Top). top_stated s t changes) led.seen led.top ∙ counted changes more (stated_usage there)

  pub led-outcome : laid (λ cs. updated (seen_past table depth count old) cs) (old_past count old) changes ≡ updated there changes
  led-outcome = ap₂ (λ (s : Seen) (t : Top). laid (λ cs. updated s cs) t changes) led.seen led.top ∙ laid-step (λ cs. updated there cs) (branch digest.0 led.used) changes

  pub led-keeps : Keeps depth there changes → TopKeeps depth (seen_past table depth count old) (old_past count old) changes
  unfolding TopKeeps
  led-keeps h = subst (λ (s : Seen). TopKeeps depth s (old_past count old) changes) (sym led.seen) (subst (λ (t : Top). TopKeeps depth there t changes) (sym led.top) (λ some. h))
