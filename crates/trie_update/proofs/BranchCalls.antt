-- A branch that was read: the places behind its nibbles put together, and the child that is merged.
use Rattle.std.proofs.Common.{◌≡◌, ◌≢◌, ℕ, ◌+◌, ◌-◌, ◌*◌, ◌^◌, ◌<◌, ◌≤◌, ◌==◌, nat_lt, if◌then◌else◌, Bool, true, false, List, [], ◌∷◌, ◌++◌, length, min, Option, None, Some, is_some, option_map, Result, Ok, Err, refl, sym, ◌∙◌, ap, ap₂, subst, arith}
use Rattle.std.specs.Prelude.{IfSome}
use Rattle.std.specs.Borrow.{Bor}
use Rattle.std.proofs.lemmas.Bool.Decides.{nat_tests}
use Rattle.byte_model.specs.Below.{sum_below, joined_below}
use Rattle.byte_model.proofs.Below.{sum_below-agree, joined_below-agree}
use Rattle.byte_model.specs.PackedPath.{longest_path}
use Rattle.byte_model.specs.Node.{ValueRef, longest_value}
use Rattle.byte_model.proofs.Lists.{some_items}
use Rattle.trie_model.specs.Root.{Table}
use Rattle.trie_model.proofs.Rests.{equal_of_test}
use Rattle.visit_model.specs.Seen as seen
use Rattle.visit_model.specs.Seen.{Seen, seen_at, seen_child, stated_usage}
use Rattle.batch_model.specs.Changes.{Change, most_changes}
use Rattle.change_model.specs.Along.{digest_of}
use Rattle.change_model.specs.Visits.{Visits, no_usage, before, branch_cost, change_at, closed, has_value_after, if_touched, is_left, is_untouched, lone_child, merge_usage, merge_visits, merged_child, most_usage, numbers_below, opened, visit_alone, visits_at, visits_below, where_touched}
use Rattle.change_model.proofs.Along.{numbers_below-agree, visits_below-agree}
use Rattle.change_model.proofs.Laid.{same_tests}
use Rattle.change_model.proofs.Seeing.{digest_of-child}
use Rattle.change_model.proofs.Merging.{lone_from, IsLone}
use Rattle.text_store.specs.Store.{Store}
use Rattle.node_codec.specs.declared.value_ref.ValueRef as code
use Rattle.node_codec.specs.declared.kids.Kids.{Kids}
use Rattle.node_codec.specs.Meanings.{value_of, children_in}
use Rattle.update_model.specs.Sound.{AreBelow, StandsAt}
use Rattle.update_model.specs.Tops.{empty, top_usage}
use Rattle.update_model.specs.Joins.{Joint, Kid, known, named, is_there, joint, kid_top, there}
use Rattle.update_model.specs.Updates.{Outcome, appearing, branch_outcome, disappearing, kid_after, kid_kept, kid_outcome, kids_after, laid, lost_alone, merged_kids, merged_lost, no_branch, parts, ref_after, top_seen, updated, value_lost, value_made}
use Rattle.update_model.proofs.Behind.{below-nibble}
use Rattle.update_model.proofs.Joined.{ShortValue, stands-joint, only-holds}
use Rattle.update_model.proofs.JointsAlike.{joint-agree}
use Rattle.update_model.proofs.LaidSteps.{laid-agree}
use Rattle.update_model.proofs.Limits.{usage-small}
use Rattle.update_model.proofs.StandsAfter.{kid-stands, short-after, updated-stands}
use Rattle.update_model.proofs.Unrefused.{IsDone, BranchDone, branch-done}
use Rattle.update_model.proofs.UsagesAfter.{branch-grows, branch-sums, updated-grows}
use Rattle.update_model.proofs.WhatIsLeft.{branch-causes, branch-left, has_value-after, knows-lone, there-inner, updated-left}
use Rattle.update_model.specs.Growth.{growth}
use Rattle.trie_update.specs.declared.former.Parent.TheVariants as parent
use Rattle.trie_update.specs.declared.errors.UpdateError.{UpdateError}
use Rattle.trie_update.specs.declared.joining.Left.{Left}
use Rattle.trie_update.specs.declared.ledger.Ledger.{Ledger}
use Rattle.trie_update.specs.declared.updating.Placed.{Placed}
use Rattle.trie_update.specs.Adds.{Adds}
use Rattle.trie_update.specs.Carries.{Carries}
use Rattle.trie_update.specs.Merges.{CanSettle, MergedStands, if_named, lone_among, lone_named, seen_kid, seen_kids}
use Rattle.trie_update.specs.Places.{Keeps, Place, PlaceKeeps, kid_place, place_behind, place_kid, place_outcome, place_stated, place_visits, top_stated, top_visits}
use Rattle.trie_update.specs.Placed.{IsParted, IsPlaced, branch_inside, run_at}
use Rattle.trie_update.specs.Subs.{CanJoin, IsKnown, KidStands, kid_at, top_of_sub}
use Rattle.trie_update.proofs.Adding.{adds-same, adds-then}
use Rattle.trie_update.proofs.Carrying.{before-done, carries-stopped, carries-then}
use Rattle.trie_update.proofs.ForkCalls.{stands-anywhere}
use Rattle.trie_update.proofs.Lones.{can-join-agree}

-- ---- one child, by its name

none_named : (changes : List Change) → changes ≢ [] → laid (λ cs. updated seen.nothing cs) empty changes ≡ updated seen.nothing changes
unfolding updated
none_named changes some = laid-agree (λ cs. laid no_branch empty cs) no_branch empty changes some tt

nothing_stated : stated_usage seen.nothing ≤ most_usage
unfolding stated_usage
nothing_stated = omega arith

module _ (table : Table) (depth : ℕ) where
  abbrev look : List ℕ → Seen
  look = seen_at table depth false

  kid-outcome : (o : Option (List ℕ)) (changes : List Change) → place_outcome (kid_place table depth o) changes ≡ kid_outcome changes (updated (seen_child look o) changes)
  unfolding place_outcome seen_child
  kid-outcome None [] = refl
  kid-outcome None (change ∷ changes) = none_named (change ∷ changes) (some_items change changes)
  kid-outcome (Some digest) changes = refl

  kid-kid : (o : Option (List ℕ)) (changes : List Change) → place_kid (kid_place table depth o) changes ≡ kid_after (seen_child look o) changes (updated (seen_child look o) changes)
  unfolding place_kid seen_child digest_of
  kid-kid None [] = refl
  kid-kid None (change ∷ changes) = ap (λ (o : Outcome). known o.top) (none_named (change ∷ changes) (some_items change changes))
  kid-kid (Some digest) changes = refl

  kid-visits : (o : Option (List ℕ)) (changes : List Change) → place_visits (kid_place table depth o) changes ≡ where_touched changes (visits_at (seen_child look o) changes)
  unfolding place_visits top_visits seen_child visits_at
  kid-visits None [] = refl
  kid-visits None (change ∷ changes) = refl
  kid-visits (Some digest) changes = refl

  kid-stated : (o : Option (List ℕ)) (changes : List Change) → place_stated (kid_place table depth o) changes ≡ if_touched changes (stated_usage (seen_child look o))
  unfolding place_stated top_stated seen_child stated_usage
  kid-stated None [] = refl
  kid-stated None (change ∷ changes) = refl
  kid-stated (Some digest) changes = refl

  -- where there is no child, nothing is visited
  keeps_nothing : (changes : List Change) → AreBelow depth changes → changes ≢ [] → Keeps depth seen.nothing changes
  unfolding visits_at
  keeps_nothing changes below some = record {
    left = updated-left seen.nothing depth false changes tt below some refl;
    stands = updated-stands seen.nothing depth false changes tt below some;
    grows = updated-grows seen.nothing depth false changes tt below some refl;
    most = nothing_stated;
  }

  kid-keeps : (o : Option (List ℕ)) (changes : List Change) → AreBelow depth changes → PlaceKeeps depth (kid_place table depth o) changes → changes ≢ [] → Keeps depth (seen_child look o) changes
  unfolding PlaceKeeps seen_child
  kid-keeps None changes below h some = keeps_nothing changes below some
  kid-keeps (Some digest) changes below h some = h some

-- ---- the child that is merged

kid_code : (depth : ℕ) (kid : Kid) → StandsAt depth (kid_top kid) → KidStands kid
unfolding kid_top
kid_code depth (named digest) h = tt
kid_code depth (known top) h = stands-anywhere depth top h

kept_there : (o : Option (List ℕ)) (digest : List ℕ) → is_there (kid_kept o) ≡ true → (d : List ℕ) × (o ≡ Some d)
unfolding is_there
kept_there None digest e = cc
kept_there (Some d) digest e = (d, refl)

module _ (table : Table) (depth : ℕ) (ref : Option ValueRef) (names : ℕ → Option (List ℕ)) (children : ℕ → Seen) (children_is : (x : ℕ) → x < 16 → children x ≡ seen_child (seen_at table (depth + 1) false) (names x)) (changes : List Change) (below : AreBelow depth changes) (some : changes ≢ []) where
  abbrev run : ℕ → List Change
  run x = run_at changes x

  abbrev outcomes : ℕ → Outcome
  outcomes x = updated (children x) (run x)

  abbrev inner : ℕ → Kid
  inner x = kid_after (children x) (run x) (outcomes x)

  abbrev change : Option (Option (List ℕ))
  change = change_at [] changes

  abbrev after : Option ValueRef
  after = ref_after ref change

  abbrev merged : Option ℕ
  merged = merged_child ref children changes

  abbrev left : ℕ → Bool
  left x = is_left (children x) (run x)

  named_is : (x : ℕ) → x < 16 → digest_of (children x) ≡ names x
  named_is x small = ap digest_of (children_is x small) ∙ digest_of-child table (depth + 1) (names x)

  module _ (keeps : (x : ℕ) → x < 16 → run x ≢ [] → Keeps (depth + 1) (children x) (run x)) where
    each_left : (x : ℕ) → x < 16 → run x ≢ [] → is_there (known (outcomes x).top) ≡ is_left (children x) (run x)
    each_left x small more = (keeps x small more).left

    each_grows : (x : ℕ) → x < 16 → run x ≢ [] → top_usage (outcomes x).top ≤ stated_usage (children x) + length (run x) * growth (depth + 1)
    each_grows x small more = (keeps x small more).grows

    -- ---- the children that the code has

    module _ (kids : ℕ → Kid) (kids_are : (x : ℕ) → x < 16 → kids x ≡ inner x) where
      there_is : there kids ≡ numbers_below left 16
      there_is = numbers_below-agree (λ x. is_there (kids x)) (λ x. is_there (inner x)) 16 (λ x small. ap is_there (kids_are x small)) ∙ there-inner ref children changes outcomes each_left

      alone_is : (x : ℕ) → there kids ≡ x ∷ [] → if_named x (kids x) ≡ (if is_untouched (run x) then Some x else None)
      alone_is x only = go (run x) refl
        where
          here : (x < 16) × (is_there (kids x) ≡ true)
          here = only-holds (λ y. is_there (kids y)) 16 x only

          go : (cs : List Change) → run x ≡ cs → if_named x (kids x) ≡ (if is_untouched cs then Some x else None)
          go [] e =
              let kept : kids x ≡ kid_kept (digest_of (children x)) = kids_are x here.0 ∙ ap (λ (cs : List Change). kid_after (children x) cs (outcomes x)) e in
              let is = kept_there (digest_of (children x)) [] (sym (ap is_there kept) ∙ here.1) in
              ap (if_named x) (kept ∙ ap kid_kept is.1)
          go (c ∷ cs) e = ap (if_named x) (kids_are x here.0 ∙ ap (λ (ds : List Change). kid_after (children x) ds (outcomes x)) e)

      pub lone-is : lone_named after kids ≡ merged
      unfolding lone_named
      lone-is = go after (there kids) refl ∙ ap₂ (λ (b : Bool) (ns : List ℕ). lone_child b ns changes) (has_value-after ref changes) there_is
        where
          go : (r : Option ValueRef) (ns : List ℕ) → there kids ≡ ns → lone_among r ns kids ≡ lone_child (is_some r) ns changes
          go None [] e = refl
          go None (x ∷ []) e = alone_is x e
          go None (x ∷ y ∷ ns) e = refl
          go (Some v) [] e = refl
          go (Some v) (x ∷ ns) e = refl

      -- what is seen there is the child
      seen_is : (x : ℕ) → lone_named after kids ≡ Some x → (x < 16) × (seen_kid table (depth + 1) (kids x) ≡ children x)
      unfolding seen_kid seen_child
      seen_is x e = (small, ap (seen_kid table (depth + 1)) (kept ∙ ap kid_kept (named_is x small)) ∙ go (names x) refl)
        where
          lone : IsLone (has_value_after ref changes) (numbers_below left 16) changes x
          lone = lone_from (has_value_after ref changes) (numbers_below left 16) changes x (sym lone-is ∙ e)

          here : (x < 16) × (is_there (kids x) ≡ true)
          here = only-holds (λ y. is_there (kids y)) 16 x (there_is ∙ lone.only)

          small : x < 16
          small = here.0

          kept : kids x ≡ kid_kept (digest_of (children x))
          kept = kids_are x small ∙ ap (λ (cs : List Change). kid_after (children x) cs (outcomes x)) lone.untouched

          go : (o : Option (List ℕ)) → names x ≡ o → seen_kid table (depth + 1) (kid_kept o) ≡ children x
          go None n = sym (children_is x small ∙ ap (seen_child (seen_at table (depth + 1) false)) n)
          go (Some digest) n = sym (children_is x small ∙ ap (seen_child (seen_at table (depth + 1) false)) n)

      abbrev seen_here : ℕ → Seen
      seen_here = seen_kids table (depth + 1) kids

      abbrev lone_here : Option ℕ
      lone_here = lone_named after kids

      same_lone : {X : Type 0} (f : (ℕ → Seen) → Option ℕ → X) → (f seen_here None ≡ f children None) → ((x : ℕ) → seen_here x ≡ children x → f seen_here (Some x) ≡ f children (Some x)) → f seen_here lone_here ≡ f children merged
      same_lone f none one = go lone_here refl ∙ ap (f children) lone-is
        where
          go : (m : Option ℕ) → lone_here ≡ m → f seen_here m ≡ f children m
          go None e = none
          go (Some x) e = one x (seen_is x e).1

      pub merge-visits_is : merge_visits seen_here lone_here ≡ merge_visits children merged
      merge-visits_is = same_lone merge_visits refl (λ x e. ap visit_alone e)

      pub merge-usage_is : merge_usage seen_here lone_here ≡ merge_usage children merged
      merge-usage_is = same_lone merge_usage refl (λ x e. ap stated_usage e)

      pub merged-lost_is : merged_lost lone_here seen_here ≡ merged_lost merged children
      merged-lost_is = same_lone (λ s m. merged_lost m s) refl (λ x e. ap lost_alone e)

      pub merged-kids_is : (y : ℕ) → y < 16 → merged_kids lone_here seen_here kids y ≡ merged_kids merged children inner y
      merged-kids_is y small = go lone_here refl ∙ ap (λ (m : Option ℕ). merged_kids m children inner y) lone-is
        where
          go : (m : Option ℕ) → lone_here ≡ m → merged_kids m seen_here kids y ≡ merged_kids m children inner y
          go None e = kids_are y small
          go (Some x) e = elim (y == x) as (λ b. (y == x) ≡ b → (if b then known (top_seen (seen_here y)) else kids y) ≡ (if b then known (top_seen (children y)) else inner y)) [
            | true ↦ λ t. (let same = equal_of_test y x t in subst (λ z. known (top_seen (seen_here z)) ≡ known (top_seen (children z))) (sym same) (ap (λ (s : Seen). known (top_seen s)) (seen_is x e).1))
            | false ↦ λ t. kids_are y small
          ] refl

      merged_stands : MergedStands (depth + 1) lone_here seen_here → (x : ℕ) → merged ≡ Some x → StandsAt (depth + 1) (top_seen (children x))
      merged_stands h x e = go lone_here refl (lone-is ∙ e) h
        where
          go : (m : Option ℕ) → lone_here ≡ m → m ≡ Some x → MergedStands (depth + 1) m seen_here → StandsAt (depth + 1) (top_seen (children x))
          go None l k s = cc
          go (Some y) l k s =
              let same : y ≡ x = cc in
              subst (λ z. StandsAt (depth + 1) (top_seen (children z))) same (subst (λ (t : Seen). StandsAt (depth + 1) (top_seen t)) (seen_is y l).1 s)

      -- ---- they can be joined

      module _ (short : ShortValue ref) (few : length changes ≤ most_changes) (stated : ℕ) (most : stated ≤ most_usage) (stands : (x : ℕ) → merged ≡ Some x → StandsAt (depth + 1) (top_seen (children x)))
          (done : (x : ℕ) → merged ≡ Some x → IsDone (visit_alone (children x))) (least : parts ref children changes ≤ stated) where
        abbrev later : ℕ → Kid
        later = kids_after ref children changes outcomes

        later_stands : (x : ℕ) → x < 16 → StandsAt (depth + 1) (kid_top (later x))
        unfolding kid_top
        later_stands x small = go merged refl
          where
            inside : StandsAt (depth + 1) (kid_top (inner x))
            inside = kid-stands (depth + 1) (children x) (run x) (outcomes x) (λ more. (keeps x small more).stands)

            go : (m : Option ℕ) → merged ≡ m → StandsAt (depth + 1) (kid_top (merged_kids m children inner x))
            go None e = inside
            go (Some y) e = elim (x == y) as (λ b. (x == y) ≡ b → StandsAt (depth + 1) (kid_top (if b then known (top_seen (children x)) else inner x))) [
              | true ↦ λ t. stands x (e ∙ ap Some (sym (equal_of_test x y t)))
              | false ↦ λ t. inside
            ] refl

        later_short : ShortValue after
        later_short = short-after depth ref changes below short

        pub model-can : CanJoin after later (stated - parts ref children changes)
        model-can = record {
          stands = λ x small. kid_code (depth + 1) (later x) (later_stands x small);
          fits = (
              let sums = branch-sums depth stated ref children changes outcomes below some each_grows done least 16 (omega arith) in
              let all = usage-small stated (length changes) depth (omega arith) few in
              omega arith);
          value = later_short;
          lone = λ x none one. subst IsKnown (sym (knows-lone ref children changes outcomes each_left done x none one)) tt;
        }

        pub model-keeps : depth ≤ longest_path → (digest : List ℕ) → Keeps depth (seen.branch digest stated ref children) changes
        unfolding updated is_left stated_usage
        model-keeps deep digest = record {
          left = branch-left ref children changes outcomes each_left done (stated - parts ref children changes) ∙ branch-causes depth ref children changes below some;
          stands = stands-joint depth after later (stated - parts ref children changes) deep later_short later_stands;
          grows = branch-grows depth stated ref children changes outcomes below some each_grows done least;
          most = most;
        }

-- ---- in the code

less_same : (a b c : ℕ) → (a < b → a < c) → (a < c → a < b) → nat_lt a b ≡ nat_lt a c
less_same a b c onward back = same_tests (nat_lt a b) (nat_lt a c) (λ e. to c (onward (from b e))) (λ e. to b (back (from c e)))
  where
    from : (n : ℕ) → nat_lt a n ≡ true → a < n
    from n e = grind (arith, nat_tests)

    to : (n : ℕ) → a < n → nat_lt a n ≡ true
    to n h = grind (arith, nat_tests)

closed-same : (digest : List ℕ) (stated a b : ℕ) → (stated < a → stated < b) → (stated < b → stated < a) → closed digest stated a ≡ closed digest stated b
unfolding closed
closed-same digest stated a b onward back = ap (λ (t : Bool). record { digests = []; refusal = if t then Some (no_usage digest) else None }) (less_same stated a b onward back)

opened-done : (digest : List ℕ) (usage : ℕ) → usage ≤ most_usage → (opened digest usage).refusal ≡ None
unfolding opened
opened-done digest usage most =
    let test : nat_lt most_usage usage ≡ false = grind (arith, nat_tests) in
    ap (λ (b : Bool). if b then Some (no_usage digest) else None) test

inside-done : (digest : List ℕ) (stated : ℕ) (ref : Option ValueRef) (children : ℕ → Seen) (changes : List Change) → stated ≤ most_usage → (branch_inside digest stated ref children changes).refusal ≡ None → BranchDone stated ref children changes
unfolding visits_at
inside-done digest stated ref children changes most done =
    branch-done digest stated ref children changes (ap (λ (v : Visits). v.refusal) (before-done (opened digest stated) (branch_inside digest stated ref children changes) (opened-done digest stated most)) ∙ done)

module _ (table : Table) (depth : ℕ) (ref : Option ValueRef) (names : ℕ → Option (List ℕ)) (children : ℕ → Seen) (children_is : (x : ℕ) → x < 16 → children x ≡ seen_child (seen_at table (depth + 1) false) (names x)) (changes : List Change) (below : AreBelow depth changes) (some : changes ≢ [])
    (places : ℕ → Place) (places_are : (x : ℕ) → places x ≡ kid_place table (depth + 1) (names x)) where
  abbrev runs : ℕ → List Change
  runs x = run_at changes x

  abbrev made_of : ℕ → Outcome
  made_of x = updated (children x) (runs x)

  abbrev touched : ℕ → Visits
  touched x = where_touched (runs x) (visits_at (children x) (runs x))

  abbrev model_kids : ℕ → Kid
  model_kids x = kid_after (children x) (runs x) (made_of x)

  abbrev after_it : Option ValueRef
  after_it = ref_after ref (change_at [] changes)

  place_touched : (x : ℕ) → x < 16 → place_visits (places x) (runs x) ≡ touched x
  place_touched x small = ap (λ (p : Place). place_visits p (runs x)) (places_are x) ∙ kid-visits table (depth + 1) (names x) (runs x) ∙ ap (λ (s : Seen). where_touched (runs x) (visits_at s (runs x))) (sym (children_is x small))

  visits_are : visits_below (λ x. place_visits (places x) (runs x)) 16 ≡ visits_below touched 16
  visits_are = visits_below-agree (λ x. place_visits (places x) (runs x)) touched 16 place_touched

  -- the places broke off
  pub branch-stopped : {S X Y : Type 0} (store : Store S) (old new : S) (digest : List ℕ) (stated : ℕ) (error : UpdateError) → Carries {X = X} store old new (visits_below (λ x. place_visits (places x) (runs x)) 16) (Err error) → Carries {X = Y} store old new (branch_inside digest stated ref children changes) (Err error)
  branch-stopped {S} {X} {Y} store old new digest stated error c =
      carries-stopped store {X = X} {Y = Y} old new (visits_below touched 16) (before (merge_visits children (merged_child ref children changes)) (closed digest stated (parts ref children changes))) error
      (subst (λ (v : Visits). Carries {X = X} store old new v (Err error)) visits_are c)

  module _ (old mid : Ledger) (left : Left) (told : ℕ) (is : IsParted names depth ref places changes old mid (left, told)) where
    abbrev value : Option ValueRef
    value = option_map value_of left.value

    abbrev kids : ℕ → Kid
    kids = kid_at names left.children.items

    keeps_are : (x : ℕ) → x < 16 → runs x ≢ [] → Keeps (depth + 1) (children x) (runs x)
    keeps_are x small more =
        subst (λ (s : Seen). Keeps (depth + 1) s (runs x)) (sym (children_is x small))
        (kid-keeps table (depth + 1) (names x) (runs x) (below-nibble x depth changes below) (subst (λ (p : Place). PlaceKeeps (depth + 1) p (runs x)) (places_are x) (is.keeps x small)) more)

    kids_here : (x : ℕ) → x < 16 → kids x ≡ model_kids x
    kids_here x small =
        is.kids x small ∙ ap (λ (p : Place). place_kid p (runs x)) (places_are x) ∙ kid-kid table (depth + 1) (names x) (runs x)
        ∙ ap (λ (s : Seen). kid_after s (runs x) (updated s (runs x))) (sym (children_is x small))

    told_is : told ≡ min (sum_below (λ x. if_touched (runs x) (stated_usage (children x))) 16) (2 ^ 64 - 1)
    told_is = is.stated ∙ ap (λ n. min n (2 ^ 64 - 1)) (sum_below-agree _ _ 16 (λ x small.
        ap (λ (p : Place). place_stated p (runs x)) (places_are x) ∙ kid-stated table (depth + 1) (names x) (runs x) ∙ ap (λ (s : Seen). if_touched (runs x) (stated_usage s)) (sym (children_is x small))))

    abbrev seen_kid_of : ℕ → Seen
    seen_kid_of = seen_kids table (depth + 1) kids

    abbrev lone_of : Option ℕ
    lone_of = lone_named value kids

    -- by the value that the model says
    usage_here : merge_usage seen_kid_of lone_of ≡ merge_usage children (merged_child ref children changes)
    usage_here = ap (λ (r : Option ValueRef). merge_usage seen_kid_of (lone_named r kids)) is.value ∙ merge-usage_is table depth ref names children children_is changes below some keeps_are kids kids_here

    visits_here : merge_visits seen_kid_of lone_of ≡ merge_visits children (merged_child ref children changes)
    visits_here = ap (λ (r : Option ValueRef). merge_visits seen_kid_of (lone_named r kids)) is.value ∙ merge-visits_is table depth ref names children children_is changes below some keeps_are kids kids_here

    lost_here : merged_lost lone_of seen_kid_of ≡ merged_lost (merged_child ref children changes) children
    lost_here = ap (λ (r : Option ValueRef). merged_lost (lone_named r kids) seen_kid_of) is.value ∙ merged-lost_is table depth ref names children children_is changes below some keeps_are kids kids_here

    kids_later : (y : ℕ) → y < 16 → merged_kids lone_of seen_kid_of kids y ≡ kids_after ref children changes made_of y
    kids_later y small = ap (λ (r : Option ValueRef). merged_kids (lone_named r kids) seen_kid_of kids y) is.value ∙ merged-kids_is table depth ref names children children_is changes below some keeps_are kids kids_here y small

    stands_here : MergedStands (depth + 1) lone_of seen_kid_of → (x : ℕ) → merged_child ref children changes ≡ Some x → StandsAt (depth + 1) (top_seen (children x))
    stands_here h = merged_stands table depth ref names children children_is changes below some keeps_are kids kids_here (subst (λ (r : Option ValueRef). MergedStands (depth + 1) (lone_named r kids) seen_kid_of) is.value h)

    alone_here : (merge_visits seen_kid_of lone_of).refusal ≡ None → (x : ℕ) → merged_child ref children changes ≡ Some x → IsDone (visit_alone (children x))
    alone_here done x e = subst (λ (m : Option ℕ). IsDone (merge_visits children m)) e (sym (ap (λ (v : Visits). v.refusal) visits_here) ∙ done)

    module _ (own above stated : ℕ) (own_is : own ≡ branch_cost ref) (above_is : above ≡ min (own + told) (2 ^ 64 - 1)) (most : stated ≤ most_usage) (short : ShortValue ref) (few : length changes ≤ most_changes) where
      -- no more than is stated, and then nothing was cut off
      same_parts : above + merge_usage seen_kid_of lone_of ≤ stated → above + merge_usage seen_kid_of lone_of ≡ parts ref children changes
      same_parts enough = let usage = usage_here in let sum = told_is in omega arith

      fewer_parts : parts ref children changes ≤ stated → above + merge_usage seen_kid_of lone_of ≡ parts ref children changes
      fewer_parts enough = let usage = usage_here in let sum = told_is in omega arith

      closed_is : (digest : List ℕ) → closed digest stated (above + merge_usage seen_kid_of lone_of) ≡ closed digest stated (parts ref children changes)
      closed_is digest = closed-same digest stated (above + merge_usage seen_kid_of lone_of) (parts ref children changes)
          (λ less. (let usage = usage_here in let sum = told_is in omega arith))
          (λ less. (let usage = usage_here in let sum = told_is in omega arith))

      pub branch-settles : CanSettle table (depth + 1) value kids stated above
      branch-settles = λ done stands enough.
          let same = same_parts enough in
          let least : parts ref children changes ≤ stated = omega arith in
          let can = model-can table depth ref names children children_is changes below some keeps_are kids kids_here short few stated most (stands_here stands) (alone_here done) least in
          subst (λ n. CanJoin value (merged_kids lone_of seen_kid_of kids) (stated - n)) (sym same)
          (subst (λ (r : Option ValueRef). CanJoin r (merged_kids lone_of seen_kid_of kids) (stated - parts ref children changes)) (sym is.value)
          (can-join-agree after_it (merged_kids lone_of seen_kid_of kids) (kids_after ref children changes made_of) (stated - parts ref children changes) kids_later can))

      pub branch-carries : {S Y : Type 0} (store : Store S) (onward : (a b c : S) → store.alike a b → store.alike b c → store.alike a c) (first between last : S) (digest : List ℕ) (result : Result Y UpdateError)
          → Carries {X = Left × ℕ} store first between (visits_below (λ x. place_visits (places x) (runs x)) 16) (Ok (left, told))
          → Carries store between last (before (merge_visits seen_kid_of lone_of) (closed digest stated (above + merge_usage seen_kid_of lone_of))) result
          → Carries store first last (branch_inside digest stated ref children changes) result
      branch-carries {S} {Y} store onward first between last digest result a b =
          carries-then store {X = Left × ℕ} {Y = Y} onward first between last (visits_below touched 16) (before (merge_visits children (merged_child ref children changes)) (closed digest stated (parts ref children changes))) (left, told) result
          (subst (λ (v : Visits). Carries {X = Left × ℕ} store first between v (Ok (left, told))) visits_are a)
          (subst (λ (v : Visits). Carries {X = Y} store between last v result) (ap₂ (λ (v w : Visits). before v w) visits_here (closed_is digest)) b)

      module _ (digest : List ℕ) (done : (branch_inside digest stated ref children changes).refusal ≡ None) where
        abbrev model : Outcome
        model = branch_outcome stated ref children changes made_of

        all_done : BranchDone stated ref children changes
        all_done = inside-done digest stated ref children changes most done

        pub branch-keeps : depth ≤ longest_path → MergedStands (depth + 1) lone_of seen_kid_of → Keeps depth (seen.branch digest stated ref children) changes
        branch-keeps deep stands = model-keeps table depth ref names children children_is changes below some keeps_are kids kids_here short few stated most (stands_here stands) all_done.merged all_done.least deep digest

        abbrev model_joint : Joint
        model_joint = joint after_it (kids_after ref children changes made_of) (stated - parts ref children changes)

        joint_is : joint value (merged_kids lone_of seen_kid_of kids) (stated - (above + merge_usage seen_kid_of lone_of)) ≡ model_joint
        joint_is =
            ap₂ (λ (r : Option ValueRef) (n : ℕ). joint r (merged_kids lone_of seen_kid_of kids) (stated - n)) is.value (fewer_parts all_done.least)
            ∙ joint-agree after_it (merged_kids lone_of seen_kid_of kids) (kids_after ref children changes made_of) (stated - parts ref children changes) kids_later

        place_made : (x : ℕ) → x < 16 → place_outcome (places x) (runs x) ≡ kid_outcome (runs x) (made_of x)
        place_made x small = ap (λ (p : Place). place_outcome p (runs x)) (places_are x) ∙ kid-outcome table (depth + 1) (names x) (runs x) ∙ ap (λ (s : Seen). kid_outcome (runs x) (updated s (runs x))) (sym (children_is x small))

        abbrev change_here : Option (Option (List ℕ))
        change_here = change_at [] changes

        adds_are : Adds old mid (value_made change_here ++ joined_below (λ x. (kid_outcome (runs x) (made_of x)).made) 16) (value_lost ref change_here ++ joined_below (λ x. (kid_outcome (runs x) (made_of x)).lost) 16) model.fresh model.gone
        adds_are = adds-same old mid
            (value_made change_here ++ joined_below (λ x. (place_outcome (places x) (runs x)).made) 16) (value_lost ref change_here ++ joined_below (λ x. (place_outcome (places x) (runs x)).lost) 16)
            (appearing ref change_here + sum_below (λ x. (place_outcome (places x) (runs x)).fresh) 16) (disappearing ref change_here + sum_below (λ x. (place_outcome (places x) (runs x)).gone) 16)
            (value_made change_here ++ joined_below (λ x. (kid_outcome (runs x) (made_of x)).made) 16) (value_lost ref change_here ++ joined_below (λ x. (kid_outcome (runs x) (made_of x)).lost) 16) model.fresh model.gone
            (ap (λ (l : List (List ℕ)). value_made change_here ++ l) (joined_below-agree _ _ 16 (λ x small. ap (λ (o : Outcome). o.made) (place_made x small))))
            (ap (λ (l : List (List ℕ)). value_lost ref change_here ++ l) (joined_below-agree _ _ 16 (λ x small. ap (λ (o : Outcome). o.lost) (place_made x small))))
            (ap (λ (n : ℕ). appearing ref change_here + n) (sum_below-agree _ _ 16 (λ x small. ap (λ (o : Outcome). o.fresh) (place_made x small))))
            (ap (λ (n : ℕ). disappearing ref change_here + n) (sum_below-agree _ _ 16 (λ x small. ap (λ (o : Outcome). o.gone) (place_made x small))))
            is.adds

        pub branch-placed : (n : ℕ) (new : Ledger) (placed : Placed) → length changes ≡ n → placed.stated ≡ stated
            → top_of_sub placed.sub ≡ (joint value (merged_kids lone_of seen_kid_of kids) (stated - (above + merge_usage seen_kid_of lone_of))).top
            → Adds mid new (joint value (merged_kids lone_of seen_kid_of kids) (stated - (above + merge_usage seen_kid_of lone_of))).made (merged_lost lone_of seen_kid_of) 0 0
            → IsPlaced model stated n old new placed
        branch-placed n new placed long is_stated is_top adds =
            let here : Adds mid new model_joint.made (merged_lost (merged_child ref children changes) children) 0 0 = subst (λ (l : List (List ℕ)). Adds mid new model_joint.made l 0 0) lost_here (subst (λ (j : Joint). Adds mid new j.made (merged_lost lone_of seen_kid_of) 0 0) joint_is adds) in
            let both = adds-then old mid new (value_made change_here ++ joined_below (λ x. (kid_outcome (runs x) (made_of x)).made) 16) (value_lost ref change_here ++ joined_below (λ x. (kid_outcome (runs x) (made_of x)).lost) 16) model.fresh model.gone
            model_joint.made (merged_lost (merged_child ref children changes) children) 0 0 adds_are here in
            record {
              top = is_top ∙ ap (λ (j : Joint). j.top) joint_is;
              stated = is_stated;
              adds = adds-same old new
                  (value_made change_here ++ joined_below (λ x. (kid_outcome (runs x) (made_of x)).made) 16 ++ model_joint.made) (value_lost ref change_here ++ joined_below (λ x. (kid_outcome (runs x) (made_of x)).lost) 16 ++ merged_lost (merged_child ref children changes) children) (model.fresh + 0) (model.gone + 0)
                  model.made model.lost model.fresh model.gone refl refl (omega arith) (omega arith) both;
              counts = record {
                fresh = (let f = is.counts.fresh in let same = adds.grows.fresh in omega arith);
                gone = (let f = is.counts.gone in let same = adds.grows.gone in omega arith);
              };
            }

pub branch-places : (table : Table) (depth : ℕ) (kids : Bor Kids) (x : ℕ) → place_behind table depth (parent.Branch kids) x ≡ kid_place table (depth + 1) (children_in kids.now x)
unfolding place_behind
branch-places table depth kids x = refl

pub small-mapped : (value : Option code.ValueRef) → IfSome value (λ v. v.length ≤ longest_value) → ShortValue (option_map value_of value)
small-mapped None h = tt
small-mapped (Some v) h = h
