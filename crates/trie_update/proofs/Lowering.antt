-- Changes that all begin with the same nibbles, as what stood before them does: what is laid is laid behind these nibbles, and goes below them.
use Rattle.std.proofs.Common.{◌≡◌, ◌≢◌, ℕ, ◌+◌, ◌<◌, ◌==◌, if◌then◌else◌, Bool, true, false, List, [], ◌∷◌, ◌++◌, Option, None, refl, sym, ◌∙◌, ap, ap₂, subst, arith}
use Rattle.std.specs.Prelude.{⊤}
use Rattle.std.proofs.lemmas.Bool.{false≢true, ne_eqb}
use mathlib.Core.Path.{fun_ext}
use Rattle.std.proofs.lemmas.List.{append-nil}
use Rattle.byte_model.specs.Below.{sum_below, joined_below}
use Rattle.byte_model.specs.Nibbles.{AreNibbles}
use Rattle.byte_model.specs.Node.{ValueRef}
use Rattle.byte_model.proofs.Lists.{some_items}
use Rattle.byte_model.proofs.Below.{joined_below-only}
use Rattle.trie_model.specs.Tree.{rest_behind}
use Rattle.trie_model.proofs.Rests.{equal_of_test, same_nibble}
use Rattle.batch_model.specs.Changes.{Change}
use Rattle.change_model.specs.Visits.{changes_behind, change_at}
use Rattle.update_model.specs.Tops.{Top, empty, leaf, branch, extension, lowered, top_behind, ref_here}
use Rattle.update_model.specs.Joins.{Kid, known, is_there, there, kid_top, Joint, without_texts, joint_by, joint}
use Rattle.update_model.specs.Updates.{Outcome, unchanged, node_outcome, behind_outcome, parted, fork_outcome, laid, ref_after}
use Rattle.update_model.proofs.Behind.{GoOn, none-ends}
use Rattle.update_model.proofs.LaidSteps.{laid-step, changes_behind-nil, changes_behind-append}
use Rattle.update_model.proofs.Joints.{no_numbers, only_number}
use Rattle.trie_update.specs.ChangesAt.{AllBegin}
use Rattle.trie_update.proofs.OneNibble.{sum_below-one}

-- what is made, with nibbles put before its top
abbrev pub below_nibbles : List ℕ → Outcome → Outcome
below_nibbles nibbles outcome = record { top = lowered nibbles outcome.top; made = outcome.made; lost = outcome.lost; fresh = outcome.fresh; gone = outcome.gone }

-- a path before a branch has a nibble
abbrev pub IsProper : Top → Type 0
IsProper empty = ⊤
IsProper (leaf path ref) = ⊤
IsProper (branch digest used) = ⊤
IsProper (extension path digest used) = path ≢ []

-- ---- nibbles put before a top

pub lowered-nil : (top : Top) → lowered [] top ≡ top
unfolding lowered
lowered-nil empty = refl
lowered-nil (leaf path ref) = refl
lowered-nil (branch digest used) = refl
lowered-nil (extension path digest used) = refl

pub lowered-one : (x : ℕ) (p : List ℕ) (top : Top) → lowered (x ∷ []) (lowered p top) ≡ lowered (x ∷ p) top
unfolding lowered
lowered-one x p empty = refl
lowered-one x p (leaf path ref) = refl
lowered-one x [] (branch digest used) = refl
lowered-one x (y ∷ p) (branch digest used) = refl
lowered-one x p (extension path digest used) = refl

lowered-some : (p path digest : List ℕ) (used : ℕ) → path ≢ [] → lowered (p ++ path) (branch digest used) ≡ extension (p ++ path) digest used
unfolding lowered
lowered-some [] [] digest used some = absurd (some refl)
lowered-some [] (y ∷ path) digest used some = refl
lowered-some (x ∷ p) path digest used some = refl

behind-lowered : (x : ℕ) (p : List ℕ) (base : Top) → IsProper base → top_behind x (lowered (x ∷ p) base) ≡ lowered p base
unfolding lowered top_behind
behind-lowered x p empty proper = refl
behind-lowered x p (leaf path ref) proper = ap (λ (b : Bool). if b then leaf (p ++ path) ref else empty) (same_nibble x)
behind-lowered x p (branch digest used) proper = ap (λ (b : Bool). if b then lowered p (branch digest used) else empty) (same_nibble x)
behind-lowered x p (extension path digest used) proper = ap (λ (b : Bool). if b then lowered (p ++ path) (branch digest used) else empty) (same_nibble x) ∙ lowered-some p path digest used proper

apart-lowered : (x y : ℕ) (p : List ℕ) (base : Top) → y ≢ x → top_behind y (lowered (x ∷ p) base) ≡ empty
unfolding lowered top_behind
apart-lowered x y p empty other = refl
apart-lowered x y p (leaf path ref) other = ap (λ (b : Bool). if b then leaf (p ++ path) ref else empty) (ne_eqb y x other)
apart-lowered x y p (branch digest used) other = ap (λ (b : Bool). if b then lowered p (branch digest used) else empty) (ne_eqb y x other)
apart-lowered x y p (extension path digest used) other = ap (λ (b : Bool). if b then lowered (p ++ path) (branch digest used) else empty) (ne_eqb y x other)

none-here : (x : ℕ) (p : List ℕ) (base : Top) → ref_here (lowered (x ∷ p) base) ≡ None
unfolding lowered ref_here
none-here x p empty = refl
none-here x p (leaf path ref) = refl
none-here x p (branch digest used) = refl
none-here x p (extension path digest used) = refl

-- ---- changes that all go on with one nibble

nothing_before : (x : ℕ) (p rest : List ℕ) → [] ≡ (x ∷ p) ++ rest → ⊥
nothing_before x p rest e = cc

first_nibble : (x y : ℕ) (p path rest : List ℕ) → y ∷ path ≡ (x ∷ p) ++ rest → y ≡ x
first_nibble x y p path rest e = cc

further_nibbles : (x y : ℕ) (p path rest : List ℕ) → y ∷ path ≡ (x ∷ p) ++ rest → path ≡ p ++ rest
further_nibbles x y p path rest e = cc

go-on : (x : ℕ) (p : List ℕ) (changes : List Change) → AllBegin (x ∷ p) changes → GoOn changes
go-on x p [] begin = tt
go-on x p (([], value) ∷ changes) begin = absurd (nothing_before x p begin.0.0 begin.0.1)
go-on x p ((y ∷ path, value) ∷ changes) begin = (some_items y path, go-on x p changes begin.1)

none-apart : (x y : ℕ) (p : List ℕ) (changes : List Change) → AllBegin (x ∷ p) changes → y ≢ x → changes_behind (y ∷ []) changes ≡ []
unfolding changes_behind rest_behind
none-apart x y p [] begin other = refl
none-apart x y p (([], value) ∷ changes) begin other = absurd (nothing_before x p begin.0.0 begin.0.1)
none-apart x y p ((z ∷ path, value) ∷ changes) begin other =
    let same = first_nibble x z p path begin.0.0 begin.0.1 in
    let apart : (y == z) ≡ false = ap (λ w. y == w) same ∙ ne_eqb y x other in
    rw apart (none-apart x y p changes begin.1 other)

-- those behind the nibble begin with the others
pub begin-behind : (x : ℕ) (p : List ℕ) (changes : List Change) → AllBegin (x ∷ p) changes → AllBegin p (changes_behind (x ∷ []) changes)
unfolding changes_behind rest_behind
begin-behind x p [] begin = tt
begin-behind x p (([], value) ∷ changes) begin = absurd (nothing_before x p begin.0.0 begin.0.1)
begin-behind x p ((z ∷ path, value) ∷ changes) begin =
    let same : (x == z) ≡ true = ap (λ w. x == w) (first_nibble x z p path begin.0.0 begin.0.1) ∙ same_nibble x in
    rw same ((begin.0.0, further_nibbles x z p path begin.0.0 begin.0.1), begin-behind x p changes begin.1)

pub some-behind : (x : ℕ) (p : List ℕ) (changes : List Change) → AllBegin (x ∷ p) changes → changes ≢ [] → changes_behind (x ∷ []) changes ≢ []
unfolding changes_behind rest_behind
some-behind x p [] begin some = absurd (some refl)
some-behind x p (([], value) ∷ changes) begin some = absurd (nothing_before x p begin.0.0 begin.0.1)
some-behind x p ((z ∷ path, value) ∷ changes) begin some =
    let same : (x == z) ≡ true = ap (λ w. x == w) (first_nibble x z p path begin.0.0 begin.0.1) ∙ same_nibble x in
    rw same (some_items (path, value) (changes_behind (x ∷ []) changes))

-- ---- an outcome behind one nibble

abbrev at_nibble : ℕ → Outcome → ℕ → Outcome
at_nibble x outcome y = if y == x then outcome else unchanged empty

module _ (x : ℕ) (small : x < 16) (outcome : Outcome) where
  here : at_nibble x outcome x ≡ outcome
  here = ap (λ (b : Bool). if b then outcome else unchanged empty) (same_nibble x)

  elsewhere : (y : ℕ) → y ≢ x → at_nibble x outcome y ≡ unchanged empty
  elsewhere y other = ap (λ (b : Bool). if b then outcome else unchanged empty) (ne_eqb y x other)

  joins : {X : Type 0} (f : Outcome → List X) → f (unchanged empty) ≡ [] → joined_below (λ y. f (at_nibble x outcome y)) 16 ≡ f outcome
  joins f none = joined_below-only (λ y. f (at_nibble x outcome y)) x 16 small (λ y other. ap f (elsewhere y other) ∙ none) ∙ ap f here

  sums : (f : Outcome → ℕ) → f (unchanged empty) ≡ 0 → sum_below (λ y. f (at_nibble x outcome y)) 16 ≡ f outcome
  sums f none = sum_below-one (λ y. f (at_nibble x outcome y)) x 16 small (λ y other. ap f (elsewhere y other) ∙ none) ∙ ap f here

  kids : ℕ → Kid
  kids y = known (at_nibble x outcome y).top

  no-child : (y : ℕ) → y ≢ x → is_there (kids y) ≡ false
  unfolding is_there kids
  no-child y other = ap (λ (o : Outcome). is_there (known o.top)) (elsewhere y other)

  there-is : (b : Bool) → is_there (known outcome.top) ≡ b → there kids ≡ (if b then x ∷ [] else [])
  unfolding kids is_there
  there-is true e = only_number (λ y. is_there (kids y)) 16 x small (ap (λ (o : Outcome). is_there (known o.top)) here ∙ e) (λ y l other. no-child y other)
  there-is false e = no_numbers (λ y. is_there (kids y)) 16 (λ y l. elim (y == x) as (λ b. (y == x) ≡ b → is_there (kids y) ≡ false) [
    | true ↦ λ t. ap (λ (b : Bool). is_there (known (if b then outcome else unchanged empty).top)) t ∙ e
    | false ↦ λ t. ap (λ (b : Bool). is_there (known (if b then outcome else unchanged empty).top)) t ∙ nothing_there
  ] refl)
    where
      nothing_there : is_there (known empty) ≡ false
      nothing_there = refl

  -- the child alone takes the place, below its nibble
  whole : joint None kids 0 ≡ without_texts (lowered (x ∷ []) outcome.top)
  unfolding joint kids kid_top lowered is_there
  whole = go outcome.top refl
    where
      alone : there kids ≡ x ∷ [] → joint None kids 0 ≡ without_texts (lowered (x ∷ []) outcome.top)
      alone e = ap (λ (ns : List ℕ). joint_by None ns kids 0) e ∙ ap (λ (o : Outcome). without_texts (lowered (x ∷ []) o.top)) here

      go : (top : Top) → outcome.top ≡ top → joint None kids 0 ≡ without_texts (lowered (x ∷ []) outcome.top)
      go empty e = ap (λ (ns : List ℕ). joint_by None ns kids 0) (there-is false (ap (λ (t : Top). is_there (known t)) e)) ∙ ap (λ (t : Top). without_texts (lowered (x ∷ []) t)) (sym e)
      go (leaf path ref) e = alone (there-is true (ap (λ (t : Top). is_there (known t)) e))
      go (branch digest used) e = alone (there-is true (ap (λ (t : Top). is_there (known t)) e))
      go (extension path digest used) e = alone (there-is true (ap (λ (t : Top). is_there (known t)) e))

  pub one-nibble : node_outcome None None (at_nibble x outcome) (joint None (λ y. known (at_nibble x outcome y).top) 0) [] ≡ below_nibbles (x ∷ []) outcome
  unfolding kids
  one-nibble =
      let made : joined_below (λ y. (at_nibble x outcome y).made) 16 ≡ outcome.made = joins (λ o. o.made) refl in
      let lost : joined_below (λ y. (at_nibble x outcome y).lost) 16 ≡ outcome.lost = joins (λ o. o.lost) refl in
      let fresh : 0 + sum_below (λ y. (at_nibble x outcome y).fresh) 16 ≡ outcome.fresh = (let s = sums (λ o. o.fresh) refl in omega arith) in
      let gone : 0 + sum_below (λ y. (at_nibble x outcome y).gone) 16 ≡ outcome.gone = (let s = sums (λ o. o.gone) refl in omega arith) in
      let all_made : [] ++ joined_below (λ y. (at_nibble x outcome y).made) 16 ++ (joint None kids 0).made ≡ outcome.made = ap₂ (λ (a b : List (List ℕ)). a ++ b) made (ap (λ (j : Joint). j.made) whole) ∙ append-nil outcome.made in
      let all_lost : [] ++ joined_below (λ y. (at_nibble x outcome y).lost) 16 ++ [] ≡ outcome.lost = ap (λ (a : List (List ℕ)). a ++ []) lost ∙ append-nil outcome.lost in
      λ i. record { top = (whole i).top; made = all_made i; lost = all_lost i; fresh = fresh i; gone = gone i }

-- ---- what is laid

fork_of : (child : List Change → Outcome) (x : ℕ) (p : List ℕ) (base : Top) (changes : List Change) → laid child (lowered (x ∷ p) base) changes ≡ fork_outcome (laid child) (lowered (x ∷ p) base) changes
unfolding lowered
fork_of child x p empty changes = laid-step child empty changes
fork_of child x p (leaf path ref) changes = laid-step child (leaf ((x ∷ p) ++ path) ref) changes
fork_of child x p (branch digest used) changes = laid-step child (extension (x ∷ p) digest used) changes
fork_of child x p (extension path digest used) changes = laid-step child (extension ((x ∷ p) ++ path) digest used) changes

behind_some : (further : Top → List Change → Outcome) (old : Top) (changes : List Change) → changes ≢ [] → behind_outcome further old changes ≡ further old changes
behind_some further old [] some = absurd (some refl)
behind_some further old (change ∷ changes) some = refl

one_further : (child : List Change → Outcome) (x : ℕ) (p : List ℕ) (base : Top) (changes : List Change) → x < 16 → IsProper base → changes ≢ [] → AllBegin (x ∷ p) changes
    → laid child (lowered (x ∷ p) base) changes ≡ below_nibbles (x ∷ []) (laid child (lowered p base) (changes_behind (x ∷ []) changes))
one_further child x p base changes small proper some begin =
    let old : Top = lowered (x ∷ p) base in
    let outcome : Outcome = laid child (lowered p base) (changes_behind (x ∷ []) changes) in
    let behind : (y : ℕ) → parted (laid child) old changes y ≡ at_nibble x outcome y = λ y.
    elim (y == x) as (λ b. (y == x) ≡ b → parted (laid child) old changes y ≡ (if b then outcome else unchanged empty)) [
      | true ↦ λ t. (let same = equal_of_test y x t in
          subst (λ z. parted (laid child) old changes z ≡ outcome) (sym same)
          (ap (λ (top : Top). behind_outcome (laid child) top (changes_behind (x ∷ []) changes)) (behind-lowered x p base proper) ∙ behind_some (laid child) (lowered p base) (changes_behind (x ∷ []) changes) (some-behind x p changes begin some)))
      | false ↦ λ t. (let other : y ≢ x = apart_test y x t in
          ap₂ (λ (top : Top) (cs : List Change). behind_outcome (laid child) top cs) (apart-lowered x y p base other) (none-apart x y p changes begin other))
    ] refl in
    let none = none-ends changes (go-on x p changes begin) in
    let here = none-here x p base in
    fork_of child x p base changes
    ∙ ap (λ (f : ℕ → Outcome). node_outcome (ref_here old) (change_at [] changes) f (joint (ref_after (ref_here old) (change_at [] changes)) (λ y. known (f y).top) 0) []) (fun_ext behind)
    ∙ ap₂ (λ (r : Option ValueRef) (c : Option (Option (List ℕ))). node_outcome r c (at_nibble x outcome) (joint (ref_after r c) (λ y. known (at_nibble x outcome y).top) 0) []) here none
    ∙ one-nibble x small outcome
  where
    apart_test : (y z : ℕ) → (y == z) ≡ false → y ≢ z
    apart_test y z t e = absurd (false≢true (sym t ∙ ap (λ w. y == w) (sym e) ∙ same_nibble y))

-- Behind nibbles with which all changes begin, as what stood before them does.
pub laid-lowered : (p : List ℕ) (child : List Change → Outcome) (base : Top) (changes : List Change) → AreNibbles p → IsProper base → changes ≢ [] → AllBegin p changes
    → laid child (lowered p base) changes ≡ below_nibbles p (laid child base (changes_behind p changes))
laid-lowered [] child base changes nibbles proper some begin =
    let outcome : Outcome = laid child base changes in
    let top : outcome.top ≡ lowered [] outcome.top = sym (lowered-nil outcome.top) in
    ap (λ (top : Top). laid child top changes) (lowered-nil base)
    ∙ (λ i. record { top = top i; made = outcome.made; lost = outcome.lost; fresh = outcome.fresh; gone = outcome.gone })
    ∙ ap (λ (cs : List Change). below_nibbles [] (laid child base cs)) (sym (changes_behind-nil changes))
laid-lowered (x ∷ p) child base changes nibbles proper some begin =
    let further = laid-lowered p child base (changes_behind (x ∷ []) changes) nibbles.1 proper (some-behind x p changes begin some) (begin-behind x p changes begin) in
    let outcome : Outcome = laid child base (changes_behind p (changes_behind (x ∷ []) changes)) in
    let top : lowered (x ∷ []) (lowered p outcome.top) ≡ lowered (x ∷ p) outcome.top = lowered-one x p outcome.top in
    one_further child x p base changes nibbles.0 proper some begin
    ∙ ap (below_nibbles (x ∷ [])) further
    ∙ (λ i. record { top = top i; made = outcome.made; lost = outcome.lost; fresh = outcome.fresh; gone = outcome.gone })
    ∙ ap (λ (cs : List Change). below_nibbles (x ∷ p) (laid child base cs)) (sym (changes_behind-append (x ∷ []) p changes))
