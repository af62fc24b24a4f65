-- The loop over the nibbles of a place that parts: what it has gathered, one turn, and its end.
use Rattle.std.proofs.Common.{◌≡◌, true, false, if◌then◌else◌, ℕ, zero, suc, ◌+◌, ◌-◌, ◌^◌, ◌<◌, ◌≤◌, List, [], ◌∷◌, ◌++◌, length, take, drop, min, Option, None, Some, Ok, Err, option_map, IfSome, inl, inr, refl, sym, ◌∙◌, ap, ap₂, subst, append_assoc, append-nil, arith}
use Rattle.std.specs.Borrow.{Bor}
use Rattle.std.proofs.lemmas.Bool.{cases_lt}
use Rattle.std.proofs.lemmas.List.{length-append}
use Rattle.byte_model.specs.Below.{sum_below, joined_below}
use Rattle.byte_model.proofs.Below.{sum_below-more, joined_below-more}
use Rattle.byte_model.specs.Node.{ValueRef}
use Rattle.trie_shape.specs.Runs.{goes_on}
use Rattle.batch_model.specs.Changes.{Change, found_at}
use Rattle.change_model.specs.Visits.{Visits, change_at, no_visits, visits_below}
use Rattle.text_store.specs.Store.{Store}
use Rattle.node_codec.specs.Meanings.{value_of}
use Rattle.update_model.specs.Updates.{Outcome, ref_after, value_made, value_lost, appearing, disappearing}
use Rattle.trie_update.specs.declared.errors.UpdateError.{UpdateError}
use Rattle.trie_update.specs.declared.errors.UpdateError.TheVariants.{NoMemory}
use Rattle.trie_update.specs.declared.joining.Child.{Child}
use Rattle.trie_update.specs.declared.joining.Left.{Left}
use Rattle.trie_update.specs.declared.ledger.Ledger.{Ledger}
use Rattle.trie_update.specs.Accounts.{CanCount, GrowsBy, IsNamed}
use Rattle.trie_update.specs.Adds.{Adds}
use Rattle.trie_update.specs.Carries.{Carries}
use Rattle.trie_update.specs.ChangesAt.{AreChangesAt, IsLeft, Lent, changes_at, run_of, value_lent}
use Rattle.trie_update.specs.Places.{Place, PlaceKeeps, place_kid, place_outcome, place_stated, place_visits}
use Rattle.trie_update.specs.Placed.{AddsBelow, IsChild, IsParted, run_at}
use Rattle.trie_update.specs.Subs.{child_at, kid_at, kid_of}
use Rattle.trie_update.proofs.Adding.{adds-then, adds-same}
use Rattle.trie_update.proofs.Carrying.{carries-then, carries-none, carries-ok, carries-stopped, carries-late, carries-error}
use Rattle.trie_update.proofs.Turns.{run_below, run_changes, run_left, run}
use Rattle.trie_update.proofs.ChangesAt.{length-changes_at}

pub run-short : (x : ℕ) (changes : List Change) → run_of x changes ≤ length changes
unfolding run_of
run-short x [] = omega arith
run-short x (change ∷ changes) =
    let further = run-short x changes in
    elim (goes_on x change.0) as (λ b. (if b then suc (run_of x changes) else 0) ≤ suc (length changes)) [ true ↦ omega arith | false ↦ omega arith ]

length-parts : {X : Type 0} (n : ℕ) (xs : List X) → length (take n xs) + length (drop n xs) ≡ length xs
length-parts zero xs = omega arith
length-parts (suc n) [] = omega arith
length-parts (suc n) (x ∷ xs) = let further = length-parts n xs in omega arith

-- ---- children, one after the other

child_at-before : (children : List Child) (new : Child) (y : ℕ) → y < length children → child_at (children ++ new ∷ []) y ≡ child_at children y
unfolding child_at
child_at-before [] new y h = absurd (omega arith)
child_at-before (child ∷ children) new zero h = refl
child_at-before (child ∷ children) new (suc y) h = child_at-before children new y (omega arith)

child_at-last : (children : List Child) (new : Child) → child_at (children ++ new ∷ []) (length children) ≡ new
unfolding child_at
child_at-last [] new = refl
child_at-last (child ∷ children) new = child_at-last children new

-- ---- visits that broke off behind some nibble

pub carries-below : {S X Y : Type 0} (store : Store S) (old new : S) (f : ℕ → Visits) (i n : ℕ) (error : UpdateError) → i ≤ n → Carries {X = X} store old new (visits_below f i) (Err error) → Carries {X = Y} store old new (visits_below f n) (Err error)
unfolding visits_below
carries-below {X = X} {Y = Y} store old new f i zero error h c = let none : i ≡ 0 = omega arith in carries-error store {X = X} {Y = Y} old new no_visits error (subst (λ k. Carries {X = X} store old new (visits_below f k) (Err error)) none c)
carries-below {X = X} {Y = Y} store old new f i (suc n) error h c = elim (cases_lt i (suc n)) [
  | inl less ↦ carries-stopped store {X = Y} {Y = Y} old new (visits_below f n) (f n) error (carries-below {X = X} {Y = Y} store old new f i n error (omega arith) c)
  | inr most ↦ (let same : i ≡ suc n = omega arith in carries-error store {X = X} {Y = Y} old new (visits_below f (suc n)) error (subst (λ k. Carries {X = X} store old new (visits_below f k) (Err error)) same c))
]

-- ---- what is gathered

pub record IsGathered {S : Type 0} (store : Store S) (names : ℕ → Option (List ℕ)) (depth : ℕ) (former : Option ValueRef) (places : ℕ → Place) (whole rest : List Lent) (nibble : ℕ) (children : List Child) (told : ℕ) (first now : S) (old new : Ledger) : Type 0 where
  pub left : IsLeft nibble depth whole rest
  pub count : length children ≡ nibble
  pub kids : (y : ℕ) → y < nibble → kid_at names children y ≡ place_kid (places y) (run_at (changes_at depth whole) y)
  pub stated : told ≡ min (sum_below (λ x. place_stated (places x) (run_at (changes_at depth whole) x)) nibble) (2 ^ 64 - 1)
  pub adds : AddsBelow former places (changes_at depth whole) nibble old new
  pub fresh : new.fresh + length rest ≤ old.fresh + length whole
  pub gone : new.gone + length rest ≤ old.gone + length whole
  pub named : IsNamed new
  pub keeps : (y : ℕ) → y < nibble → PlaceKeeps (depth + 1) (places y) (run_at (changes_at depth whole) y)
  pub carries : Carries {X = ℕ} store first now (visits_below (λ x. place_visits (places x) (run_at (changes_at depth whole) x)) nibble) (Ok 0)

-- before the first turn: the value's change is made

pub appears : {X : Type 0} (former : Option X) (change : Option (Option (List ℕ))) → appearing former change ≤ 1
appears former None = omega arith
appears former (Some None) = omega arith
appears None (Some (Some value)) = omega arith
appears (Some held) (Some (Some value)) = omega arith

pub disappears : {X : Type 0} (former : Option X) (change : Option (Option (List ℕ))) → disappearing former change ≤ 1
disappears former None = omega arith
disappears None (Some None) = omega arith
disappears (Some held) (Some None) = omega arith
disappears former (Some (Some value)) = omega arith

abbrev HereLent : Type 0
HereLent = Option (Option (Bor (List ℕ)))

counts_here : {X : Type 0} (former : Option X) (here : HereLent) (whole rest : List Lent) → length rest ≤ length whole → IfSome here (λ value. length rest < length whole)
    → (appearing former (option_map value_lent here) + length rest ≤ length whole) × (disappearing former (option_map value_lent here) + length rest ≤ length whole)
counts_here former None whole rest all fewer = (omega arith, omega arith)
counts_here former (Some value) whole rest all fewer =
    let once = appears former (Some (value_lent value)) in
    let gone = disappears former (Some (value_lent value)) in
    (omega arith, omega arith)

adds_here : (former : Option ValueRef) (change : Option (Option (List ℕ))) (old new : Ledger) → IsNamed old → GrowsBy old new former change → IsNamed new → Adds old new (value_made change) (value_lost former change) (appearing former change) (disappearing former change)
adds_here former change old new named grows names = record { grows = grows; named = λ h. names }

pub gathered-none : {S : Type 0} (store : Store S) (names : ℕ → Option (List ℕ)) (depth : ℕ) (former : Option ValueRef) (places : ℕ → Place) (whole rest : List Lent) (first : S) (old new : Ledger) (here : HereLent)
    → option_map value_lent here ≡ found_at [] (changes_at depth whole) → IsLeft 0 depth whole rest → IfSome here (λ value. length rest < length whole)
    → IsNamed old → GrowsBy old new former (option_map value_lent here) → IsNamed new → store.alike first first
    → IsGathered store names depth former places whole rest 0 [] 0 first first old new
unfolding sum_below joined_below visits_below
gathered-none store names depth former places whole rest first old new here value left fewer named grows named_then same =
    let change = option_map value_lent here in
    let counts = counts_here former here whole rest left.fewer fewer in
    let fresh = grows.fresh in
    let gone = grows.gone in
    record {
      left = left;
      count = refl;
      kids = λ y h. absurd (omega arith);
      stated = refl;
      adds = adds-same old new (value_made change) (value_lost former change) (appearing former change) (disappearing former change)
          (value_made (change_at [] (changes_at depth whole)) ++ []) (value_lost former (change_at [] (changes_at depth whole)) ++ []) (appearing former (change_at [] (changes_at depth whole)) + 0) (disappearing former (change_at [] (changes_at depth whole)) + 0)
          (ap value_made value ∙ sym (append-nil (value_made (change_at [] (changes_at depth whole))))) (ap (value_lost former) value ∙ sym (append-nil (value_lost former (change_at [] (changes_at depth whole)))))
          (let e = ap (appearing former) value in omega arith) (let e = ap (disappearing former) value in omega arith)
          (adds_here former change old new named grows named_then);
      fresh = (let c = counts.0 in omega arith);
      gone = (let c = counts.1 in omega arith);
      named = named_then;
      keeps = λ y h. absurd (omega arith);
      carries = carries-none store first 0 same;
    }

-- ---- one turn

module _ {S : Type 0} (store : Store S) (names : ℕ → Option (List ℕ)) (depth : ℕ) (former : Option ValueRef) (places : ℕ → Place) (whole rest : List Lent) (nibble : ℕ) (children : List Child) (told : ℕ) (first now : S) (old new : Ledger)
    (so_far : IsGathered store names depth former places whole rest nibble children told first now old new)
    (front back : List Lent) (n : ℕ) (is : n ≡ run_of nibble (changes_at depth rest)) (front_is : front ≡ take n rest) (back_is : back ≡ drop n rest) where
  front_run : front ≡ take (run_of nibble (changes_at depth rest)) rest
  front_run = front_is ∙ ap (λ k. take k rest) is

  pub turn-changes : AreChangesAt (depth + 1) front
  unfolding run
  turn-changes = subst (AreChangesAt (depth + 1)) (sym front_run) (run_changes nibble depth whole rest so_far.left)

  pub turn-run : changes_at (depth + 1) front ≡ run_at (changes_at depth whole) nibble
  unfolding run
  turn-run = ap (changes_at (depth + 1)) front_run ∙ run_below nibble depth whole rest so_far.left

  turn-parts : length front + length back ≡ length rest
  turn-parts = ap₂ (λ (a b : List Lent). length a + length b) front_is back_is ∙ length-parts n rest

  pub turn-fewer : length front ≤ length whole
  turn-fewer = let parts = turn-parts in let fewer = so_far.left.fewer in omega arith

  pub turn-room : CanCount old (length whole) → CanCount new (length front)
  turn-room room =
      let parts = turn-parts in
      let fresh = so_far.fresh in
      let gone = so_far.gone in
      let one = room.0 in
      let two = room.1 in
      (omega arith, omega arith)

  abbrev visits_of : ℕ → Visits
  visits_of x = place_visits (places x) (run_at (changes_at depth whole) x)

  -- the visits behind this nibble, as the call made them
  module _ (place : Place) (place_is : place ≡ places nibble) where
    same_visits : place_visits place (changes_at (depth + 1) front) ≡ visits_of nibble
    same_visits = ap₂ (λ (p : Place) (cs : List Change). place_visits p cs) place_is turn-run

    pub turn-stopped : {X Y : Type 0} → ((a b c : S) → store.alike a b → store.alike b c → store.alike a c) → (later : S) (error : UpdateError) → nibble < 16
        → Carries {X = X} store now later (place_visits place (changes_at (depth + 1) front)) (Err error) → Carries {X = Y} store first later (visits_below visits_of 16) (Err error)
    unfolding visits_below
    turn-stopped {X} {Y} onward later error small c =
        let here = subst (λ (v : Visits). Carries {X = X} store now later v (Err error)) same_visits c in
        let all : Carries {X = X} store first later (visits_below visits_of (suc nibble)) (Err error) = carries-then store {X = ℕ} {Y = X} onward first now later (visits_below visits_of nibble) (visits_of nibble) 0 (Err error) so_far.carries here in
        carries-below {X = X} {Y = Y} store first later visits_of (suc nibble) 16 error small all

    module _ (later : S) (after : Ledger) (child : Child × ℕ) (child_is : IsChild (names nibble) (depth + 1) place (changes_at (depth + 1) front) new after child) (onward : (a b c : S) → store.alike a b → store.alike b c → store.alike a c)
        (carried : Carries {X = Child × ℕ} store now later (place_visits place (changes_at (depth + 1) front)) (Ok child)) where
      all_visits : Carries {X = ℕ} store first later (visits_below visits_of (nibble + 1)) (Ok 0)
      unfolding visits_below
      all_visits =
          let here = subst (λ (v : Visits). Carries {X = Child × ℕ} store now later v (Ok child)) same_visits carried in
          let all : Carries {X = Child × ℕ} store first later (visits_below visits_of (suc nibble)) (Ok child) = carries-then store {X = ℕ} {Y = Child × ℕ} onward first now later (visits_below visits_of nibble) (visits_of nibble) 0 (Ok child) so_far.carries here in
          let next : suc nibble ≡ nibble + 1 = omega arith in
          subst (λ k. Carries {X = ℕ} store first later (visits_below visits_of k) (Ok 0)) next (carries-ok store {X = Child × ℕ} {Y = ℕ} first later (visits_below visits_of (suc nibble)) child 0 all)

      pub turn-short : {Y : Type 0} → nibble < 16 → Carries {X = Y} store first later (visits_below visits_of 16) (Err NoMemory)
      turn-short {Y} small = carries-below {X = ℕ} {Y = Y} store first later visits_of (nibble + 1) 16 NoMemory (omega arith) (carries-late store {X = ℕ} {Y = ℕ} first later (visits_below visits_of (nibble + 1)) 0 all_visits)

      same_outcome : place_outcome place (changes_at (depth + 1) front) ≡ place_outcome (places nibble) (run_at (changes_at depth whole) nibble)
      same_outcome = ap₂ (λ (p : Place) (cs : List Change). place_outcome p cs) place_is turn-run

      abbrev outcome_of : ℕ → Outcome
      outcome_of x = place_outcome (places x) (run_at (changes_at depth whole) x)

      abbrev change : Option (Option (List ℕ))
      change = change_at [] (changes_at depth whole)

      all_adds : AddsBelow former places (changes_at depth whole) (nibble + 1) old after
      all_adds =
          let here : Adds new after (outcome_of nibble).made (outcome_of nibble).lost (outcome_of nibble).fresh (outcome_of nibble).gone = subst (λ (o : Outcome). Adds new after o.made o.lost o.fresh o.gone) same_outcome child_is.adds in
          let both = adds-then old new after (value_made change ++ joined_below (λ x. (outcome_of x).made) nibble) (value_lost former change ++ joined_below (λ x. (outcome_of x).lost) nibble) (appearing former change + sum_below (λ x. (outcome_of x).fresh) nibble) (disappearing former change + sum_below (λ x. (outcome_of x).gone) nibble)
          (outcome_of nibble).made (outcome_of nibble).lost (outcome_of nibble).fresh (outcome_of nibble).gone so_far.adds here in
          adds-same old after
          (value_made change ++ joined_below (λ x. (outcome_of x).made) nibble ++ (outcome_of nibble).made) (value_lost former change ++ joined_below (λ x. (outcome_of x).lost) nibble ++ (outcome_of nibble).lost)
          (appearing former change + sum_below (λ x. (outcome_of x).fresh) nibble + (outcome_of nibble).fresh) (disappearing former change + sum_below (λ x. (outcome_of x).gone) nibble + (outcome_of nibble).gone)
          (value_made change ++ joined_below (λ x. (outcome_of x).made) (nibble + 1)) (value_lost former change ++ joined_below (λ x. (outcome_of x).lost) (nibble + 1)) (appearing former change + sum_below (λ x. (outcome_of x).fresh) (nibble + 1)) (disappearing former change + sum_below (λ x. (outcome_of x).gone) (nibble + 1))
          (append_assoc (value_made change) (joined_below (λ x. (outcome_of x).made) nibble) (outcome_of nibble).made ∙ ap (λ (l : List (List ℕ)). value_made change ++ l) (sym (joined_below-more (λ x. (outcome_of x).made) nibble)))
          (append_assoc (value_lost former change) (joined_below (λ x. (outcome_of x).lost) nibble) (outcome_of nibble).lost ∙ ap (λ (l : List (List ℕ)). value_lost former change ++ l) (sym (joined_below-more (λ x. (outcome_of x).lost) nibble)))
          (let more = sum_below-more (λ x. (outcome_of x).fresh) nibble in omega arith)
          (let more = sum_below-more (λ x. (outcome_of x).gone) nibble in omega arith)
          both

      pub turn-more : (more : List Child) → more ≡ children ++ child.0 ∷ [] → nibble < 16 → IsGathered store names depth former places whole back (nibble + 1) more (min (told + child.1) (2 ^ 64 - 1)) first later old after
      unfolding run
      turn-more more is_more small =
          let whole_kid : kid_of (names nibble) child.0 ≡ place_kid (places nibble) (run_at (changes_at depth whole) nibble) = child_is.kid ∙ ap₂ (λ (p : Place) (cs : List Change). place_kid p cs) place_is turn-run in
          let long = length-append children (child.0 ∷ []) in
          let parts = turn-parts in
          let counts = child_is.counts in
          let run_long : length (changes_at (depth + 1) front) ≡ length front = length-changes_at (depth + 1) front in
          record {
            left = subst (λ (rs : List Lent). IsLeft (nibble + 1) depth whole rs) (sym (back_is ∙ ap (λ k. drop k rest) is)) (run_left nibble depth whole rest so_far.left);
            count = (let all = ap length is_more in let so = so_far.count in omega arith);
            kids = λ y h. elim (cases_lt y nibble) [
              | inl less ↦ (let inside : y < length children = (let so = so_far.count in omega arith) in
                  ap (λ (cs : List Child). kid_at names cs y) is_more ∙ ap (kid_of (names y)) (child_at-before children child.0 y inside) ∙ so_far.kids y less)
              | inr most ↦ (let same : nibble ≡ y = omega arith in
                  subst (λ z. kid_at names more z ≡ place_kid (places z) (run_at (changes_at depth whole) z)) same
                  (ap (kid_of (names nibble)) (ap (λ (cs : List Child). child_at cs nibble) is_more ∙ ap (child_at (children ++ child.0 ∷ [])) (sym so_far.count) ∙ child_at-last children child.0) ∙ whole_kid))
            ];
            stated = (let used = child_is.stated ∙ ap₂ (λ (p : Place) (cs : List Change). place_stated p cs) place_is turn-run in let so = so_far.stated in let more_sum = sum_below-more (λ x. place_stated (places x) (run_at (changes_at depth whole) x)) nibble in omega arith);
            adds = all_adds;
            fresh = (let f = counts.fresh in let so = so_far.fresh in omega arith);
            gone = (let f = counts.gone in let so = so_far.gone in omega arith);
            named = child_is.adds.named so_far.named;
            keeps = λ y h. elim (cases_lt y nibble) [
              | inl less ↦ so_far.keeps y less
              | inr most ↦ (let same : nibble ≡ y = omega arith in
                  subst (λ z. PlaceKeeps (depth + 1) (places z) (run_at (changes_at depth whole) z)) same
                  (subst (λ (cs : List Change). PlaceKeeps (depth + 1) (places nibble) cs) turn-run (subst (λ (p : Place). PlaceKeeps (depth + 1) p (changes_at (depth + 1) front)) place_is child_is.keeps)))
            ];
            carries = all_visits;
          }

-- ---- after the last turn

module _ {S : Type 0} (store : Store S) (names : ℕ → Option (List ℕ)) (depth : ℕ) (former : Option ValueRef) (places : ℕ → Place) (whole rest : List Lent) (nibble : ℕ) (children : List Child) (told : ℕ) (first now : S) (old new : Ledger)
    (all : IsGathered store names depth former places whole rest nibble children told first now old new) (done : nibble ≡ 16) where
  pub end-carries : {Y : Type 0} (y : Y) → Carries store first now (visits_below (λ x. place_visits (places x) (run_at (changes_at depth whole) x)) 16) (Ok y)
  end-carries {Y} y = subst (λ k. Carries {X = Y} store first now (visits_below (λ x. place_visits (places x) (run_at (changes_at depth whole) x)) k) (Ok y)) done (carries-ok store {X = ℕ} {Y = Y} first now (visits_below (λ x. place_visits (places x) (run_at (changes_at depth whole) x)) nibble) 0 y all.carries)

  pub end-parted : (left : Left) → left.children.items ≡ children → option_map value_of left.value ≡ ref_after former (change_at [] (changes_at depth whole)) → IsParted names depth former places (changes_at depth whole) old new (left, told)
  end-parted left is_children is_value = record {
    value = is_value;
    sixteen = ap length is_children ∙ all.count ∙ done;
    kids = λ x small. ap (λ (cs : List Child). kid_at names cs x) is_children ∙ all.kids x (omega arith);
    stated = all.stated ∙ ap (λ k. min (sum_below (λ x. place_stated (places x) (run_at (changes_at depth whole) x)) k) (2 ^ 64 - 1)) done;
    adds = subst (λ k. AddsBelow former places (changes_at depth whole) k old new) done all.adds;
    counts = record {
      fresh = (let f = all.fresh in let long = length-changes_at depth whole in omega arith);
      gone = (let f = all.gone in let long = length-changes_at depth whole in omega arith);
    };
    keeps = λ x small. all.keeps x (omega arith);
  }
