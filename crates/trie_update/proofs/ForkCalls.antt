-- Where changes part from what stood before them: the places behind the nibbles, put together.
use Rattle.std.proofs.Common.{◌≡◌, ◌≢◌, ℕ, ◌+◌, ◌^◌, ◌<◌, ◌≤◌, ◌==◌, if◌then◌else◌, Bool, true, false, List, [], ◌∷◌, ◌++◌, length, drop, Option, None, Some, option_map, refl, sym, ◌∙◌, ap, ap₂, subst, arith}
use Rattle.std.proofs.lemmas.List.{length-drop}
use Rattle.std.proofs.lemmas.Bool.{ne_eqb}
use Rattle.byte_model.specs.Below.{sum_below, joined_below}
use Rattle.byte_model.proofs.Below.{sum_below-agree, joined_below-agree, sum_below-none}
use Rattle.byte_model.specs.Node.{ValueRef}
use Rattle.byte_model.proofs.Paths.{length-packed}
use Rattle.byte_model.proofs.Lists.{some_items}
use Rattle.trie_model.specs.Root.{Table}
use Rattle.trie_model.proofs.Rests.{same_nibble}
use Rattle.visit_model.specs.Seen as seen
use Rattle.visit_model.specs.Seen.{Seen, stated_usage}
use Rattle.batch_model.specs.Changes.{Change, most_changes}
use Rattle.change_model.specs.Visits.{change_at, changes_behind, extension_cost, if_touched, most_usage, no_visits, visits_at, visits_below, where_touched}
use Rattle.change_model.proofs.Along.{visits_below-agree}
use Rattle.change_model.proofs.Alone.{none-behind}
use Rattle.node_codec.specs.declared.value_ref.ValueRef as code
use Rattle.node_codec.specs.Meanings.{value_of}
use Rattle.update_model.specs.Sound.{AreBelow, StandsAt}
use Rattle.update_model.specs.Tops.{Top, empty, leaf, branch, extension, lowered, ref_here, top_behind}
use Rattle.update_model.specs.Joins.{Joint, Kid, known, joint, kid_usage}
use Rattle.update_model.specs.Updates.{Outcome, appearing, behind_outcome, disappearing, fork_outcome, laid, parted, ref_after, updated, value_lost, value_made}
use Rattle.update_model.proofs.Behind.{below-nibble}
use Rattle.update_model.proofs.JointsAlike.{joint-agree}
use Rattle.update_model.proofs.LaidKeeps.{OfChild, of_child-behind}
use Rattle.update_model.proofs.LaidSteps.{changes_behind-append, changes_behind-nil, laid-agree}
use Rattle.update_model.proofs.Limits.{most_before, usage-small}
use Rattle.update_model.proofs.StandsAfter.{TopStands, laid-stands, short-after, short-here}
use Rattle.update_model.proofs.TopsBelow.{stands-top_behind}
use Rattle.update_model.proofs.UsagesAfter.{Grows, fork-sums, grown-branch, if_reached, laid-grows, reached}
use Rattle.trie_update.specs.declared.old.Old.{Old}
use Rattle.trie_update.specs.declared.old.Old.TheVariants.{Nothing, Leaf, Extension}
use Rattle.trie_update.specs.declared.former.Parent.TheVariants as parent
use Rattle.trie_update.specs.declared.joining.Left.{Left}
use Rattle.trie_update.specs.declared.ledger.Ledger.{Ledger}
use Rattle.trie_update.specs.declared.updating.Placed.{Placed}
use Rattle.trie_update.specs.Adds.{Adds}
use Rattle.trie_update.specs.Olds.{value_behind}
use Rattle.trie_update.specs.Places.{FitsTop, Keeps, MostTop, NoBranch, Place, PlaceKeeps, Reaches, TopKeeps, old_past, only_before, over, place_behind, place_kid, place_outcome, place_stated, place_visits, seen_past, top_stated, top_visits}
use Rattle.trie_update.specs.Placed.{IsParted, IsPlaced, run_at}
use Rattle.trie_update.specs.Subs.{CanJoin, kid_at, top_of_sub}
use Rattle.trie_update.proofs.Adding.{adds-same, adds-then}
use Rattle.trie_update.proofs.Lones.{can-join-agree}
use Rattle.trie_update.proofs.OneNibble.{sum_below-one, visits_below-none, visits_below-one}

-- ---- the value that stood there

pub former-past : (count : ℕ) (old : Old) → Reaches count old → option_map value_of (value_behind count old) ≡ ref_here (old_past count old)
unfolding old_past ref_here lowered
former-past count Nothing h = refl
former-past count (Leaf path value) h = go (drop count path.now) refl
  where
    go : (r : List ℕ) → drop count path.now ≡ r → option_map value_of (value_behind count (Leaf path value)) ≡ ref_here (leaf r (value_of value))
    go [] none =
        let left = length-drop count path.now in
        let same : length path.now ≡ count = (let l = ap length none in omega arith) in
        let test : (length path.now == count) ≡ true = ap (λ n. n == count) same ∙ same_nibble count in
        ap (λ (b : Bool). option_map value_of (if b then Some value else None)) test
    go (x ∷ r) more =
        let left = length-drop count path.now in
        let other : length path.now ≢ count = (let l = ap length more in omega arith) in
        ap (λ (b : Bool). option_map value_of (if b then Some value else None)) (ne_eqb (length path.now) count other)
former-past count (Extension path child used) h = go (drop count path.now)
  where
    go : (r : List ℕ) → None ≡ ref_here (lowered r (branch child.0 used))
    go [] = refl
    go (x ∷ r) = refl

-- ---- what stood behind a nibble

pub over-outcome : (below : Seen) (top : Top) (changes : List Change) → place_outcome (over (only_before top below) top) changes ≡ behind_outcome (laid (λ cs. updated below cs)) top changes
unfolding place_outcome
over-outcome below top [] = refl
over-outcome below empty (change ∷ changes) = laid-agree (λ cs. updated seen.nothing cs) (λ cs. updated below cs) empty (change ∷ changes) (some_items change changes) tt
over-outcome below (leaf path ref) (change ∷ changes) = laid-agree (λ cs. updated seen.nothing cs) (λ cs. updated below cs) (leaf path ref) (change ∷ changes) (some_items change changes) tt
over-outcome below (branch digest used) (change ∷ changes) = refl
over-outcome below (extension path digest used) (change ∷ changes) = refl

over_kid : (below : Seen) (top : Top) (changes : List Change) → place_kid (over below top) changes ≡ known (place_outcome (over below top) changes).top
unfolding place_kid place_outcome
over_kid below top changes = refl

top_none : (below : Seen) (top : Top) → top_visits below top [] ≡ no_visits
unfolding top_visits
top_none below empty = refl
top_none below (leaf path ref) = refl
top_none below (branch digest used) = refl
top_none below (extension path digest used) = ap (λ (cs : List Change). where_touched cs (visits_at below cs)) (none-behind path)

pub over-visits : (below : Seen) (top : Top) (changes : List Change) → place_visits (over (only_before top below) top) changes ≡ top_visits below top changes
unfolding place_visits top_visits
over-visits below top [] = sym (top_none below top)
over-visits below empty (change ∷ changes) = refl
over-visits below (leaf path ref) (change ∷ changes) = refl
over-visits below (branch digest used) (change ∷ changes) = refl
over-visits below (extension path digest used) (change ∷ changes) = refl

top_still : (below : Seen) (top : Top) → top_stated below top [] ≡ 0
unfolding top_stated
top_still below empty = refl
top_still below (leaf path ref) = refl
top_still below (branch digest used) = refl
top_still below (extension path digest used) = ap (λ (cs : List Change). if_touched cs (stated_usage below)) (none-behind path)

pub over-stated : (below : Seen) (top : Top) (changes : List Change) → place_stated (over (only_before top below) top) changes ≡ top_stated below top changes
unfolding place_stated top_stated
over-stated below top [] = sym (top_still below top)
over-stated below empty (change ∷ changes) = refl
over-stated below (leaf path ref) (change ∷ changes) = refl
over-stated below (branch digest used) (change ∷ changes) = refl
over-stated below (extension path digest used) (change ∷ changes) = refl

over-keeps : (depth : ℕ) (below : Seen) (top : Top) (changes : List Change) → PlaceKeeps depth (over (only_before top below) top) changes → TopKeeps depth below top changes
unfolding PlaceKeeps TopKeeps
over-keeps depth below empty changes h = tt
over-keeps depth below (leaf path ref) changes h = tt
over-keeps depth below (branch digest used) changes h = h
over-keeps depth below (extension path digest used) changes h = h

-- ---- visits, sums and facts over the nibbles

-- the nibble with which its path goes on, if there is one
module _ (below : Seen) (changes : List Change) where
  visits-empty : (f : ℕ → Top) → ((x : ℕ) → f x ≡ empty) → visits_below (λ x. top_visits below (f x) (run_at changes x)) 16 ≡ no_visits
  unfolding top_visits
  visits-empty f none = visits_below-none (λ x. top_visits below (f x) (run_at changes x)) 16 (λ x small. ap (λ (t : Top). top_visits below t (run_at changes x)) (none x))

  stated-empty : (f : ℕ → Top) → ((x : ℕ) → f x ≡ empty) → sum_below (λ x. top_stated below (f x) (run_at changes x)) 16 ≡ 0
  unfolding top_stated
  stated-empty f none = sum_below-none (λ x. top_stated below (f x) (run_at changes x)) 16 (λ x small. ap (λ (t : Top). top_stated below t (run_at changes x)) (none x))

  -- what is before a branch
  reached_visits : (path digest : List ℕ) (used : ℕ) (cs : List Change) → top_visits below (lowered path (branch digest used)) cs ≡ where_touched (changes_behind path cs) (visits_at below (changes_behind path cs))
  unfolding top_visits lowered
  reached_visits [] digest used cs = ap (λ (ds : List Change). where_touched ds (visits_at below ds)) (sym (changes_behind-nil cs))
  reached_visits (x ∷ path) digest used cs = refl

  reached_stated : (path digest : List ℕ) (used : ℕ) (cs : List Change) → top_stated below (lowered path (branch digest used)) cs ≡ if_touched (changes_behind path cs) (stated_usage below)
  unfolding top_stated lowered
  reached_stated [] digest used cs = ap (λ (ds : List Change). if_touched ds (stated_usage below)) (sym (changes_behind-nil cs))
  reached_stated (x ∷ path) digest used cs = refl

  leaf_behind : (x : ℕ) (path : List ℕ) (ref : ValueRef) → top_visits below (top_behind x (leaf path ref)) (run_at changes x) ≡ no_visits
  unfolding top_visits top_behind
  leaf_behind x [] ref = refl
  leaf_behind x (y ∷ path) ref = elim (x == y) as (λ b. top_visits below (if b then leaf path ref else empty) (run_at changes x) ≡ no_visits) [ true ↦ refl | false ↦ refl ]

  leaf_still : (x : ℕ) (path : List ℕ) (ref : ValueRef) → top_stated below (top_behind x (leaf path ref)) (run_at changes x) ≡ 0
  unfolding top_stated top_behind
  leaf_still x [] ref = refl
  leaf_still x (y ∷ path) ref = elim (x == y) as (λ b. top_stated below (if b then leaf path ref else empty) (run_at changes x) ≡ 0) [ true ↦ refl | false ↦ refl ]

  pub fork-visits : (depth : ℕ) (top : Top) → NoBranch top → StandsAt depth top → visits_below (λ x. top_visits below (top_behind x top) (run_at changes x)) 16 ≡ top_visits below top changes
  unfolding top_visits top_behind StandsAt
  fork-visits depth empty over_it stands = visits-empty (λ x. top_behind x empty) (λ x. refl)
  fork-visits depth (leaf path ref) over_it stands = visits_below-none (λ x. top_visits below (top_behind x (leaf path ref)) (run_at changes x)) 16 (λ x small. leaf_behind x path ref)
  fork-visits depth (branch digest used) over_it stands = absurd over_it
  fork-visits depth (extension [] digest used) over_it stands = absurd (stands.2 refl)
  fork-visits depth (extension (y ∷ path) digest used) over_it stands =
      visits_below-one (λ x. top_visits below (top_behind x (extension (y ∷ path) digest used)) (run_at changes x)) y 16 stands.0.0
      (λ x other. ap (λ (b : Bool). top_visits below (if b then lowered path (branch digest used) else empty) (run_at changes x)) (ne_eqb x y other))
      ∙ ap (λ (b : Bool). top_visits below (if b then lowered path (branch digest used) else empty) (run_at changes y)) (same_nibble y)
      ∙ reached_visits path digest used (run_at changes y)
      ∙ ap (λ (ds : List Change). where_touched ds (visits_at below ds)) (sym (changes_behind-append (y ∷ []) path changes))

  pub fork-stated : (depth : ℕ) (top : Top) → NoBranch top → StandsAt depth top → sum_below (λ x. top_stated below (top_behind x top) (run_at changes x)) 16 ≡ top_stated below top changes
  unfolding top_stated top_behind StandsAt
  fork-stated depth empty over_it stands = stated-empty (λ x. top_behind x empty) (λ x. refl)
  fork-stated depth (leaf path ref) over_it stands = sum_below-none (λ x. top_stated below (top_behind x (leaf path ref)) (run_at changes x)) 16 (λ x small. leaf_still x path ref)
  fork-stated depth (branch digest used) over_it stands = absurd over_it
  fork-stated depth (extension [] digest used) over_it stands = absurd (stands.2 refl)
  fork-stated depth (extension (y ∷ path) digest used) over_it stands =
      sum_below-one (λ x. top_stated below (top_behind x (extension (y ∷ path) digest used)) (run_at changes x)) y 16 stands.0.0
      (λ x other. ap (λ (b : Bool). top_stated below (if b then lowered path (branch digest used) else empty) (run_at changes x)) (ne_eqb x y other))
      ∙ ap (λ (b : Bool). top_stated below (if b then lowered path (branch digest used) else empty) (run_at changes y)) (same_nibble y)
      ∙ reached_stated path digest used (run_at changes y)
      ∙ ap (λ (ds : List Change). if_touched ds (stated_usage below)) (sym (changes_behind-append (y ∷ []) path changes))

  keeps-along : (n m : ℕ) (cs ds : List Change) → n ≡ m → cs ≡ ds → (cs ≢ [] → Keeps n below cs) → ds ≢ [] → Keeps m below ds
  keeps-along n m cs ds e f h = subst (λ (xs : List Change). xs ≢ [] → Keeps m below xs) f (subst (λ k. cs ≢ [] → Keeps k below cs) e h)

  pub fork-keeps : (depth : ℕ) (top : Top) → NoBranch top → StandsAt depth top → ((x : ℕ) → x < 16 → TopKeeps (depth + 1) below (top_behind x top) (run_at changes x)) → TopKeeps depth below top changes
  unfolding TopKeeps top_behind StandsAt lowered
  fork-keeps depth empty over_it stands h = tt
  fork-keeps depth (leaf path ref) over_it stands h = tt
  fork-keeps depth (branch digest used) over_it stands h = absurd over_it
  fork-keeps depth (extension [] digest used) over_it stands h = absurd (stands.2 refl)
  fork-keeps depth (extension (y ∷ []) digest used) over_it stands h =
      subst (λ (b : Bool). TopKeeps (depth + 1) below (if b then branch digest used else empty) (run_at changes y)) (same_nibble y) (h y stands.0.0)
  fork-keeps depth (extension (y ∷ z ∷ path) digest used) over_it stands h =
      let here = subst (λ (b : Bool). TopKeeps (depth + 1) below (if b then extension (z ∷ path) digest used else empty) (run_at changes y)) (same_nibble y) (h y stands.0.0) in
      let far : depth + 1 + length (z ∷ path) ≡ depth + length (y ∷ z ∷ path) = omega arith in
      keeps-along (depth + 1 + length (z ∷ path)) (depth + length (y ∷ z ∷ path)) (changes_behind (z ∷ path) (run_at changes y)) (changes_behind (y ∷ z ∷ path) changes) far (sym (changes_behind-append (y ∷ []) (z ∷ path) changes)) here

-- what is stated below it is no more than it may be
pub stated-most : (depth : ℕ) (below : Seen) (top : Top) (changes : List Change) → TopKeeps depth below top changes → top_stated below top changes ≤ most_usage
unfolding TopKeeps top_stated
stated-most depth below empty changes h = omega arith
stated-most depth below (leaf path ref) changes h = omega arith
stated-most depth below (branch digest used) changes h = go changes h
  where
    go : (cs : List Change) → (cs ≢ [] → Keeps depth below cs) → if_touched cs (stated_usage below) ≤ most_usage
    go [] k = omega arith
    go (c ∷ cs) k = (k (some_items c cs)).most
stated-most depth below (extension path digest used) changes h = go (changes_behind path changes) h
  where
    go : (cs : List Change) → (cs ≢ [] → Keeps (depth + length path) below cs) → if_touched cs (stated_usage below) ≤ most_usage
    go [] k = omega arith
    go (c ∷ cs) k = (k (some_items c cs)).most

-- ---- what they join to

pub stands-anywhere : (depth : ℕ) (top : Top) → StandsAt depth top → StandsAt 0 top
unfolding StandsAt
stands-anywhere depth empty h = tt
stands-anywhere depth (leaf path ref) h = (h.0, (let room = h.1 in omega arith), h.2)
stands-anywhere depth (branch digest used) h = omega arith
stands-anywhere depth (extension path digest used) h = (h.0, (let room = h.1 in omega arith), h.2)

-- what it uses, or its branch states once that is reached
reached-most : (depth : ℕ) (below : Seen) (top : Top) (changes : List Change) → NoBranch top → StandsAt depth top → MostTop top → TopKeeps depth below top changes → reached (stated_usage below) top changes ≤ most_before
unfolding reached StandsAt MostTop TopKeeps
reached-most depth below empty changes over_it stands most keeps = omega arith
reached-most depth below (leaf path ref) changes over_it stands most keeps = let bytes = length-packed true path in let short = stands.1 in let value = stands.2 in omega arith
reached-most depth below (branch digest used) changes over_it stands most keeps = absurd over_it
reached-most depth below (extension path digest used) changes over_it stands most keeps =
    let bytes = length-packed false path in
    let short = stands.1 in
    let cost : extension_cost path ≤ 2 ^ 13 = omega arith in
    go (changes_behind path changes) keeps cost
  where
    go : (cs : List Change) → (cs ≢ [] → Keeps (depth + length path) below cs) → extension_cost path ≤ 2 ^ 13 → extension_cost path + if_reached cs (stated_usage below) used ≤ most_before
    go [] k cost = omega arith
    go (c ∷ cs) k cost = let told = (k (some_items c cs)).most in omega arith

module _ (depth : ℕ) (below : Seen) (top : Top) (changes : List Change) (over_it : NoBranch top) (fits : FitsTop depth top) (below_it : AreBelow depth changes) (some : changes ≢ []) (few : length changes ≤ most_changes) (keeps : TopKeeps depth below top changes) where
  abbrev child : List Change → Outcome
  child cs = updated below cs

  of_stands : (n : ℕ) (t : Top) (cs : List Change) → TopKeeps n below t cs → OfChild TopStands child n t cs
  unfolding TopKeeps
  of_stands n empty cs h = tt
  of_stands n (leaf path ref) cs h = tt
  of_stands n (branch digest used) cs h = λ more. (h more).stands
  of_stands n (extension path digest used) cs h = λ more. (h more).stands

  of_grows : (n : ℕ) (t : Top) (cs : List Change) → TopKeeps n below t cs → OfChild (Grows (stated_usage below)) child n t cs
  unfolding TopKeeps
  of_grows n empty cs h = tt
  of_grows n (leaf path ref) cs h = tt
  of_grows n (branch digest used) cs h = λ more. grown-branch (stated_usage below) n digest used cs (child cs) more (h more).grows
  of_grows n (extension path digest used) cs h = λ more. grown-branch (stated_usage below) (n + length path) digest used (changes_behind path cs) (child (changes_behind path cs)) more (h more).grows

  abbrev whole_kids : ℕ → Kid
  whole_kids x = known (parted (laid child) top changes x).top

  behind_stands : (x : ℕ) → StandsAt (depth + 1) (parted (laid child) top changes x).top
  behind_stands x = go (run_at changes x) refl
    where
      go : (cs : List Change) → run_at changes x ≡ cs → StandsAt (depth + 1) (behind_outcome (laid child) (top_behind x top) cs).top
      go [] e = stands-top_behind x depth top over_it fits.stands
      go (c ∷ cs) e =
          subst (λ (ds : List Change). StandsAt (depth + 1) (laid child (top_behind x top) ds).top) e
          (laid-stands child (depth + 1) (top_behind x top) (run_at changes x) (stands-top_behind x depth top over_it fits.stands) (below-nibble x depth changes below_it) (subst (λ (ds : List Change). ds ≢ []) (sym e) (some_items c cs))
          (of_child-behind TopStands child x depth top changes over_it fits.stands (of_stands depth top changes keeps)))

  behind_grows : (x : ℕ) → x < 16 → run_at changes x ≢ [] → Grows (stated_usage below) (depth + 1) (top_behind x top) (run_at changes x) (laid child (top_behind x top) (run_at changes x))
  behind_grows x small more =
      laid-grows (stated_usage below) child (depth + 1) (top_behind x top) (run_at changes x) (stands-top_behind x depth top over_it fits.stands) (below-nibble x depth changes below_it) more
      (of_child-behind (Grows (stated_usage below)) child x depth top changes over_it fits.stands (of_grows depth top changes keeps))

  pub fork-can : CanJoin (ref_after (ref_here top) (change_at [] changes)) whole_kids 0
  unfolding kid_usage
  fork-can = record {
    stands = λ x small. stands-anywhere (depth + 1) (parted (laid child) top changes x).top (behind_stands x);
    fits = (
        let sums = fork-sums (stated_usage below) (laid child) depth top changes over_it below_it some behind_grows 16 (omega arith) in
        let all = usage-small (reached (stated_usage below) top changes) (length changes) depth (reached-most depth below top changes over_it fits.stands fits.most keeps) few in
        omega arith);
    value = short-after depth (ref_here top) changes below_it (short-here depth top fits.stands);
    lone = λ x none one. tt;
  }

-- ---- in the code

module _ (table : Table) (depth count : ℕ) (old : Old) (changes : List Change) (former : Option code.ValueRef) (former_is : former ≡ value_behind count old) (reaches : Reaches count old) (over_it : NoBranch (old_past count old)) (fits : FitsTop depth (old_past count old)) (below_it : AreBelow depth changes) where
  abbrev below : Seen
  below = seen_past table depth count old

  abbrev top : Top
  top = old_past count old

  abbrev laid_child : Top → List Change → Outcome
  laid_child = laid (λ cs. updated below cs)

  abbrev places : ℕ → Place
  places = place_behind table depth (parent.Path old count)

  abbrev ref : Option ValueRef
  ref = option_map value_of former

  ref_is : ref ≡ ref_here top
  ref_is = ap (option_map value_of) former_is ∙ former-past count old reaches

  pub places-visits : visits_below (λ x. place_visits (places x) (run_at changes x)) 16 ≡ top_visits below top changes
  unfolding place_behind
  places-visits =
      visits_below-agree (λ x. place_visits (places x) (run_at changes x)) (λ x. top_visits below (top_behind x top) (run_at changes x)) 16 (λ x small. over-visits below (top_behind x top) (run_at changes x))
      ∙ fork-visits below changes depth top over_it fits.stands

  places-outcome : (x : ℕ) → place_outcome (places x) (run_at changes x) ≡ parted laid_child top changes x
  unfolding place_behind
  places-outcome x = over-outcome below (top_behind x top) (run_at changes x)

  places-kid : (x : ℕ) → place_kid (places x) (run_at changes x) ≡ known (parted laid_child top changes x).top
  unfolding place_behind
  places-kid x = over_kid (only_before (top_behind x top) below) (top_behind x top) (run_at changes x) ∙ ap (λ (o : Outcome). known o.top) (places-outcome x)

  module _ (some : changes ≢ []) (few : length changes ≤ most_changes) (old_ledger mid : Ledger) (left : Left) (told : ℕ) (is : IsParted (λ x. None) depth ref places changes old_ledger mid (left, told)) where
    pub fork-end-keeps : TopKeeps depth below top changes
    unfolding place_behind
    fork-end-keeps = fork-keeps below changes depth top over_it fits.stands (λ x small. over-keeps (depth + 1) below (top_behind x top) (run_at changes x) (is.keeps x small))

    abbrev change : Option (Option (List ℕ))
    change = change_at [] changes

    abbrev model_kids : ℕ → Kid
    model_kids x = known (parted laid_child top changes x).top

    value_is : option_map value_of left.value ≡ ref_after (ref_here top) change
    value_is = is.value ∙ ap (λ (r : Option ValueRef). ref_after r change) ref_is

    kids_are : (x : ℕ) → x < 16 → kid_at (λ x. None) left.children.items x ≡ model_kids x
    kids_are x small = is.kids x small ∙ places-kid x

    pub fork-end-can : CanJoin (option_map value_of left.value) (kid_at (λ x. None) left.children.items) 0
    fork-end-can =
        subst (λ (r : Option ValueRef). CanJoin r (kid_at (λ x. None) left.children.items) 0) (sym value_is)
        (can-join-agree (ref_after (ref_here top) change) (kid_at (λ x. None) left.children.items) model_kids 0 kids_are (fork-can depth below top changes over_it fits below_it some few fork-end-keeps))

    abbrev whole : Joint
    whole = joint (ref_after (ref_here top) change) model_kids 0

    joint_is : joint (option_map value_of left.value) (kid_at (λ x. None) left.children.items) 0 ≡ whole
    joint_is = ap (λ (r : Option ValueRef). joint r (kid_at (λ x. None) left.children.items) 0) value_is ∙ joint-agree (ref_after (ref_here top) change) (kid_at (λ x. None) left.children.items) model_kids 0 kids_are

    told_is : told ≡ top_stated below top changes
    unfolding place_behind
    told_is =
        let sum : sum_below (λ x. place_stated (places x) (run_at changes x)) 16 ≡ top_stated below top changes =
        sum_below-agree (λ x. place_stated (places x) (run_at changes x)) (λ x. top_stated below (top_behind x top) (run_at changes x)) 16 (λ x small. over-stated below (top_behind x top) (run_at changes x)) ∙ fork-stated below changes depth top over_it fits.stands in
        let most = stated-most depth below top changes fork-end-keeps in
        let here = is.stated in
        omega arith

    abbrev outcome : Outcome
    outcome = fork_outcome laid_child top changes

    adds_is : Adds old_ledger mid (value_made change ++ joined_below (λ x. (parted laid_child top changes x).made) 16) (value_lost (ref_here top) change ++ joined_below (λ x. (parted laid_child top changes x).lost) 16) outcome.fresh outcome.gone
    adds_is = adds-same old_ledger mid
        (value_made change ++ joined_below (λ x. (place_outcome (places x) (run_at changes x)).made) 16) (value_lost ref change ++ joined_below (λ x. (place_outcome (places x) (run_at changes x)).lost) 16)
        (appearing ref change + sum_below (λ x. (place_outcome (places x) (run_at changes x)).fresh) 16) (disappearing ref change + sum_below (λ x. (place_outcome (places x) (run_at changes x)).gone) 16)
        (value_made change ++ joined_below (λ x. (parted laid_child top changes x).made) 16) (value_lost (ref_here top) change ++ joined_below (λ x. (parted laid_child top changes x).lost) 16) outcome.fresh outcome.gone
        (ap (λ (l : List (List ℕ)). value_made change ++ l) (joined_below-agree _ _ 16 (λ x small. ap (λ (o : Outcome). o.made) (places-outcome x))))
        (ap₂ (λ (r : Option ValueRef) (l : List (List ℕ)). value_lost r change ++ l) ref_is (joined_below-agree _ _ 16 (λ x small. ap (λ (o : Outcome). o.lost) (places-outcome x))))
        (ap₂ (λ (r : Option ValueRef) (n : ℕ). appearing r change + n) ref_is (sum_below-agree _ _ 16 (λ x small. ap (λ (o : Outcome). o.fresh) (places-outcome x))))
        (ap₂ (λ (r : Option ValueRef) (n : ℕ). disappearing r change + n) ref_is (sum_below-agree _ _ 16 (λ x small. ap (λ (o : Outcome). o.gone) (places-outcome x))))
        is.adds

    pub fork-end-placed : (n : ℕ) (new : Ledger) (placed : Placed) → length changes ≡ n → top_of_sub placed.sub ≡ (joint (option_map value_of left.value) (kid_at (λ x. None) left.children.items) 0).top → placed.stated ≡ told
        → Adds mid new (joint (option_map value_of left.value) (kid_at (λ x. None) left.children.items) 0).made [] 0 0 → IsPlaced outcome (top_stated below top changes) n old_ledger new placed
    fork-end-placed n new placed long is_top is_told adds =
        let here : Adds mid new whole.made [] 0 0 = subst (λ (j : Joint). Adds mid new j.made [] 0 0) joint_is adds in
        let both = adds-then old_ledger mid new (value_made change ++ joined_below (λ x. (parted laid_child top changes x).made) 16) (value_lost (ref_here top) change ++ joined_below (λ x. (parted laid_child top changes x).lost) 16) outcome.fresh outcome.gone whole.made [] 0 0 adds_is here in
        record {
          top = is_top ∙ ap (λ (j : Joint). j.top) joint_is;
          stated = is_told ∙ told_is;
          adds = adds-same old_ledger new
              (value_made change ++ joined_below (λ x. (parted laid_child top changes x).made) 16 ++ whole.made) (value_lost (ref_here top) change ++ joined_below (λ x. (parted laid_child top changes x).lost) 16 ++ []) (outcome.fresh + 0) (outcome.gone + 0)
              outcome.made outcome.lost outcome.fresh outcome.gone refl refl (omega arith) (omega arith) both;
          counts = record {
            fresh = (let f = is.counts.fresh in let same = adds.grows.fresh in omega arith);
            gone = (let f = is.counts.gone in let same = adds.grows.gone in omega arith);
          };
        }
