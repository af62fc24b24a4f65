-- What stands at the sixteen nibbles of what is left of a branch: how many children are there, and what they join to.
use Rattle.std.proofs.Common.{◌≡◌, ◌≢◌, ℕ, zero, suc, ◌+◌, ◌^◌, ◌<◌, ◌≤◌, Bool, true, false, List, [], ◌∷◌, ◌++◌, length, drop, set, get_or, Option, None, Some, is_some, option_map, if◌then◌else◌, inl, inr, refl, sym, ◌∙◌, ap, ap₂, subst, arith, get_or-set_other, get_or-set_same}
use Rattle.std.specs.List.{AllByRecursion}
use Rattle.std.proofs.lemmas.Bool.{cases_lt}
use Rattle.std.proofs.lemmas.List.{length-append, length-drop, drop-drop}
use Rattle.sha2.specs.Sha256.{sha256}
use Rattle.byte_model.specs.Below.{sum_below, joined_below}
use Rattle.byte_model.proofs.Below.{sum_below-more, joined_below-more, sum_below-part}
use Rattle.byte_model.proofs.Lists.{AllByRecursion-append, AllByRecursion-weaker}
use Rattle.byte_model.specs.Node as node
use Rattle.byte_model.specs.Node.{ValueRef, IsShaped, own_cost, spelled}
use Rattle.byte_model.proofs.Spellings.{spelled_branch-agree}
use Rattle.record_model.proofs.Kids.{child_count-same}
use Rattle.change_model.specs.Visits.{numbers_below, branch_cost}
use Rattle.base_core.specs.declared.hash.Digest.{Digest}
use Rattle.node_codec.specs.Meanings.{children_in}
use Rattle.update_model.specs.Tops.{branch, empty, lowered, pending, top_digest, top_usage}
use Rattle.update_model.specs.Joins.{Kid, is_there, there, kid_top, kid_name, kid_usage, kid_pending, without_texts, branch_used, branch_text, branched, joint_by, joint}
use Rattle.update_model.specs.Updates.{kid_kept}
use Rattle.update_model.proofs.Joined.{child_count-there}
use Rattle.trie_shape.specs.declared.closed.Closed.{Closed}
use Rattle.trie_shape.specs.Shows.{IsRecord}
use Rattle.trie_update.specs.declared.joining.Child.{Child}
use Rattle.trie_update.specs.declared.joining.Few.{Few}
use Rattle.trie_update.specs.declared.joining.Few.TheVariants.{Zero, One, More}
use Rattle.trie_update.specs.declared.ledger.Ledger.{Ledger}
use Rattle.trie_update.specs.Adds.{Adds}
use Rattle.trie_update.specs.Subs.{CanFork, CanJoin, IsFew, IsKnown, IsNamedAt, KidStands, child_at, childless, kid_at, kid_of, more}
use Rattle.trie_update.proofs.Adding.{adds-none, adds-then, adds-same}

-- ---- the child at a nibble

pub child_at-item : (children : List Child) (x : ℕ) (item : Child) → x < length children → item ≡ get_or children x item → child_at children x ≡ item
unfolding child_at
child_at-item [] x item h e = absurd (omega arith)
child_at-item (first ∷ children) zero item h e = sym e
child_at-item (first ∷ children) (suc x) item h e = child_at-item children x item (omega arith) e

child_at-drop : (children : List Child) (n : ℕ) → child_at (drop n children) 0 ≡ child_at children n
unfolding child_at
child_at-drop children zero = refl
child_at-drop [] (suc n) = refl
child_at-drop (first ∷ children) (suc n) = child_at-drop children n

pub child_at-first : (children rest : List Child) (first : Child) → children ≡ first ∷ rest → child_at children 0 ≡ first
unfolding child_at
child_at-first children rest first e = ap (λ (cs : List Child). child_at cs 0) e

-- ---- one that is kept

pub kept-there : (o : Option Digest) → is_some o ≡ is_there (kid_kept (option_map (λ d. d.0) o))
unfolding is_there
kept-there None = refl
kept-there (Some digest) = refl

pub kept-name : (name : Option (List ℕ)) → name ≡ kid_name (kid_kept name)
unfolding kid_name top_digest
kept-name None = refl
kept-name (Some digest) = refl

pub kept-usage : (name : Option (List ℕ)) → 0 ≡ kid_usage (kid_kept name)
unfolding kid_usage top_usage
kept-usage None = refl
kept-usage (Some digest) = refl

pub kept-pending : (name : Option (List ℕ)) → [] ≡ kid_pending (kid_kept name)
unfolding kid_pending pending
kept-pending None = refl
kept-pending (Some digest) = refl

-- it is known that nothing is there
pub kept-known : (name : Option (List ℕ)) (x : ℕ) → IsKnown (kid_kept name) → empty ≡ lowered (x ∷ []) (kid_top (kid_kept name))
unfolding kid_top lowered
kept-known None x known_here = refl
kept-known (Some digest) x known_here = absurd known_here

-- ---- how many are there

pub few-none : (f : ℕ → Bool) → IsFew (numbers_below f 0) Zero
unfolding numbers_below
few-none f = refl

one_number : (f : ℕ → Bool) (n : ℕ) → f n ≡ true → numbers_below f (n + 1) ≡ numbers_below f n ++ n ∷ []
unfolding numbers_below
one_number f n e = let next : n + 1 ≡ suc n = omega arith in ap (numbers_below f) next ∙ ap (λ (b : Bool). numbers_below f n ++ (if b then n ∷ [] else [])) e

append_none : (xs : List ℕ) → xs ++ [] ≡ xs
append_none [] = refl
append_none (x ∷ xs) = ap (λ (ys : List ℕ). x ∷ ys) (append_none xs)

no_number : (f : ℕ → Bool) (n : ℕ) → f n ≡ false → numbers_below f (n + 1) ≡ numbers_below f n
unfolding numbers_below
no_number f n e = let next : n + 1 ≡ suc n = omega arith in ap (numbers_below f) next ∙ ap (λ (b : Bool). numbers_below f n ++ (if b then n ∷ [] else [])) e ∙ append_none (numbers_below f n)

more-few : (few : Few) (ns : List ℕ) (n : ℕ) → IsFew ns few → IsFew (ns ++ n ∷ []) (more few n)
more-few Zero ns n h = ap (λ (m : List ℕ). m ++ n ∷ []) h
more-few (One x) ns n h = let long = ap length h in let all = length-append ns (n ∷ []) in omega arith
more-few More ns n h = let all = length-append ns (n ∷ []) in omega arith

pub few-more : (f : ℕ → Bool) (n : ℕ) (few : Few) → IsFew (numbers_below f n) few → f n ≡ true → IsFew (numbers_below f (n + 1)) (more few n)
few-more f n few h e = subst (λ (ns : List ℕ). IsFew ns (more few n)) (sym (one_number f n e)) (more-few few (numbers_below f n) n h)

pub few-same : (f : ℕ → Bool) (n : ℕ) (few : Few) → IsFew (numbers_below f n) few → f n ≡ false → IsFew (numbers_below f (n + 1)) few
few-same f n few h e = subst (λ (ns : List ℕ). IsFew ns few) (sym (no_number f n e)) h

numbers-all : (f : ℕ → Bool) (n : ℕ) → AllByRecursion (λ y. (y < n) × (f y ≡ true)) (numbers_below f n)
unfolding numbers_below
numbers-all f zero = tt
numbers-all f (suc n) =
    AllByRecursion-append (λ y. (y < suc n) × (f y ≡ true)) (numbers_below f n) (if f n then n ∷ [] else [])
    (AllByRecursion-weaker (λ y. (y < n) × (f y ≡ true)) (λ y. (y < suc n) × (f y ≡ true)) (λ y h. (let small = h.0 in omega arith, h.1)) (numbers_below f n) (numbers-all f n))
    (elim (f n) as (λ b. f n ≡ b → AllByRecursion (λ y. (y < suc n) × (f y ≡ true)) (if b then n ∷ [] else [])) [ true ↦ λ e. ((omega arith, e), tt) | false ↦ λ e. tt ] refl)

-- ---- they fork

pub fork-two : (ref : Option ValueRef) (kids : ℕ → Kid) (used : ℕ) → CanJoin ref kids used → 2 ≤ length (there kids) → CanFork ref kids used
fork-two None kids used can two = record { stands = can.stands; fits = can.fits; shaped = let count = child_count-there kids in omega arith }
fork-two (Some ref) kids used can two = record { stands = can.stands; fits = can.fits; shaped = (can.value, let count = child_count-there kids in omega arith) }

pub fork-one : (ref : ValueRef) (kids : ℕ → Kid) (used x : ℕ) → CanJoin (Some ref) kids used → there kids ≡ x ∷ [] → CanFork (Some ref) kids used
fork-one ref kids used x can one = record { stands = can.stands; fits = can.fits; shaped = (can.value, let count = child_count-there kids in let long = ap length one in omega arith) }

-- ---- what they join to

pub joint-none : (ref : Option ValueRef) (kids : ℕ → Kid) (used : ℕ) → there kids ≡ [] → joint ref kids used ≡ without_texts (childless ref)
unfolding joint
joint-none None kids used e = ap (λ (ns : List ℕ). joint_by None ns kids used) e
joint-none (Some ref) kids used e = ap (λ (ns : List ℕ). joint_by (Some ref) ns kids used) e

pub joint-lone : (kids : ℕ → Kid) (used x : ℕ) → there kids ≡ x ∷ [] → joint None kids used ≡ without_texts (lowered (x ∷ []) (kid_top (kids x)))
unfolding joint
joint-lone kids used x e = ap (λ (ns : List ℕ). joint_by None ns kids used) e

pub joint-one : (ref : ValueRef) (kids : ℕ → Kid) (used x : ℕ) → there kids ≡ x ∷ [] → joint (Some ref) kids used ≡ branched (Some ref) kids used
unfolding joint
joint-one ref kids used x e = ap (λ (ns : List ℕ). joint_by (Some ref) ns kids used) e

pub joint-more : (ref : Option ValueRef) (kids : ℕ → Kid) (used : ℕ) → 2 ≤ length (there kids) → joint ref kids used ≡ branched ref kids used
unfolding joint
joint-more ref kids used h = go ref (there kids) h
  where
    go : (r : Option ValueRef) (ns : List ℕ) → 2 ≤ length ns → joint_by r ns kids used ≡ branched r kids used
    go None [] two = absurd (omega arith)
    go None (x ∷ []) two = absurd (omega arith)
    go None (x ∷ y ∷ left) two = refl
    go (Some ref) [] two = absurd (omega arith)
    go (Some ref) (x ∷ left) two = refl

-- ---- their names, one after the other

pub named-at : (old new : List (Option Digest)) (nibble : ℕ) (name : Option Digest) (digest : Option (List ℕ)) → length old ≡ 16 → nibble < 16 → new ≡ set old nibble name → option_map (λ d. d.0) name ≡ digest → IsNamedAt old new nibble digest
named-at old new nibble name digest sixteen small is_set is_name =
    let inside : nibble < length old = omega arith in
    subst (λ kids. IsNamedAt old kids nibble digest) (sym is_set) (record {
      name = ap (option_map (λ d. d.0)) (get_or-set_same old nibble name None inside) ∙ is_name;
      others = λ y other. ap (option_map (λ d. d.0)) (get_or-set_other old nibble y name None other);
    })

pub record IsNaming (stood : ℕ → Option (List ℕ)) (whole : List Child) (nibble : ℕ) (rest : List Child) (kids : List (Option Digest)) (kept usage : ℕ) (old new : Ledger) : Type 0 where
  pub left : rest ≡ drop nibble whole
  pub names : (y : ℕ) → y < nibble → children_in kids y ≡ kid_name (kid_at stood whole y)
  pub later : (y : ℕ) → nibble ≤ y → children_in kids y ≡ stood y
  pub used : usage ≡ kept + sum_below (λ x. kid_usage (kid_at stood whole x)) nibble
  pub adds : Adds old new (joined_below (λ x. kid_pending (kid_at stood whole x)) nibble) [] 0 0

pub naming-none : (stood : ℕ → Option (List ℕ)) (whole : List Child) (kids : List (Option Digest)) (kept : ℕ) (ledger : Ledger) → ((y : ℕ) → children_in kids y ≡ stood y) → IsNaming stood whole 0 whole kids kept kept ledger ledger
unfolding sum_below joined_below
naming-none stood whole kids kept ledger same = record { left = refl; names = λ y h. absurd (omega arith); later = λ y h. same y; used = omega arith; adds = adds-none ledger }

module _ (stood : ℕ → Option (List ℕ)) (whole : List Child) (nibble : ℕ) (rest : List Child) (kids : List (Option Digest)) (kept usage : ℕ) (old new : Ledger) (so_far : IsNaming stood whole nibble rest kids kept usage old new) (small : nibble < 16) (sixteen : length whole ≡ 16) where
  abbrev next_kid : Kid
  next_kid = kid_of (children_in kids nibble) (child_at rest 0)

  pub naming-some : 0 < length rest
  naming-some = let long = ap length so_far.left in let left = length-drop nibble whole in omega arith

  naming-next : next_kid ≡ kid_at stood whole nibble
  naming-next = ap₂ (λ (n : Option (List ℕ)) (c : Child). kid_of n c) (so_far.later nibble (omega arith)) (ap (λ (cs : List Child). child_at cs 0) so_far.left ∙ child_at-drop whole nibble)

  pub naming-stands : (ref : Option ValueRef) → CanFork ref (kid_at stood whole) kept → KidStands next_kid
  naming-stands ref can = subst KidStands (sym naming-next) (can.stands nibble small)

  pub naming-adds : (ref : Option ValueRef) → CanFork ref (kid_at stood whole) kept → usage + kid_usage next_kid < 2 ^ 64
  naming-adds ref can =
      let part = sum_below-part (λ x. kid_usage (kid_at stood whole x)) (nibble + 1) 16 (omega arith) in
      let next = sum_below-more (λ x. kid_usage (kid_at stood whole x)) nibble in
      let same = ap kid_usage naming-next in
      let used = so_far.used in
      let whole_fits = can.fits in
      omega arith

  pub naming-more : (others : List (Option Digest)) (used : ℕ) (left : List Child) (later : Ledger) → IsNamedAt kids others nibble (kid_name next_kid) → used ≡ kid_usage next_kid → left ≡ drop 1 rest → Adds new later (kid_pending next_kid) [] 0 0
      → IsNaming stood whole (nibble + 1) left others kept (usage + used) old later
  naming-more others used left later is_named is_used is_left adds =
      record {
        left = is_left ∙ ap (drop 1) so_far.left ∙ drop-drop 1 nibble whole;
        names = λ y h. elim (cases_lt y nibble) [
          | inl l ↦ (let other : y ≢ nibble = omega arith in is_named.others y other ∙ so_far.names y l)
          | inr g ↦ (let same : nibble ≡ y = omega arith in subst (λ k. children_in others k ≡ kid_name (kid_at stood whole k)) same (is_named.name ∙ ap kid_name naming-next))
        ];
        later = λ y h. (let other : y ≢ nibble = omega arith in is_named.others y other ∙ so_far.later y (omega arith));
        used = (let next = sum_below-more (λ x. kid_usage (kid_at stood whole x)) nibble in let same = ap kid_usage naming-next in let before_it = so_far.used in omega arith);
        adds =
            let both = adds-then old new later (joined_below (λ x. kid_pending (kid_at stood whole x)) nibble) [] 0 0 (kid_pending next_kid) [] 0 0 so_far.adds adds in
            adds-same old later (joined_below (λ x. kid_pending (kid_at stood whole x)) nibble ++ kid_pending next_kid) [] (0 + 0) (0 + 0) (joined_below (λ x. kid_pending (kid_at stood whole x)) (nibble + 1)) [] 0 0
            (ap (λ (k : Kid). joined_below (λ x. kid_pending (kid_at stood whole x)) nibble ++ kid_pending k) naming-next ∙ sym (joined_below-more (λ x. kid_pending (kid_at stood whole x)) nibble)) refl (omega arith) (omega arith) both;
      }

-- ---- the record of the branch

shaped-agree : (ref : Option ValueRef) (kids others : ℕ → Option (List ℕ)) → ((x : ℕ) → x < 16 → kids x ≡ others x) → IsShaped (node.branch ref others) → IsShaped (node.branch ref kids)
shaped-agree None kids others same h = let count = child_count-same kids others same in omega arith
shaped-agree (Some ref) kids others same h = (h.0, let count = child_count-same kids others same in let some = h.1 in omega arith)

pub own-branch : (ref : Option ValueRef) (kids : ℕ → Option (List ℕ)) → own_cost (node.branch ref kids) ≡ branch_cost ref
unfolding own_cost
own-branch None kids = refl
own-branch (Some ref) kids = refl

module _ (ref : Option ValueRef) (stood : ℕ → Option (List ℕ)) (whole : List Child) (nibble : ℕ) (rest : List Child) (kids : List (Option Digest)) (kept usage : ℕ) (old new : Ledger) (all : IsNaming stood whole nibble rest kids kept usage old new) (done : nibble ≡ 16) (can : CanFork ref (kid_at stood whole) kept) where
  all_names : (x : ℕ) → x < 16 → children_in kids x ≡ kid_name (kid_at stood whole x)
  all_names x h = all.names x (omega arith)

  all_used : usage ≡ kept + sum_below (λ x. kid_usage (kid_at stood whole x)) 16
  all_used = all.used ∙ ap (λ n. kept + sum_below (λ x. kid_usage (kid_at stood whole x)) n) done

  pub end-shaped : IsShaped (node.branch ref (children_in kids))
  end-shaped = shaped-agree ref (children_in kids) (λ x. kid_name (kid_at stood whole x)) all_names can.shaped

  end-cost : own_cost (node.branch ref (children_in kids)) + usage ≡ branch_used ref (kid_at stood whole) kept
  end-cost = let own = own-branch ref (children_in kids) in let used = all_used in omega arith

  pub end-fits : own_cost (node.branch ref (children_in kids)) + usage < 2 ^ 64
  end-fits = let cost = end-cost in let fits = can.fits in omega arith

  end-text : (closed : Closed) → IsRecord closed (node.branch ref (children_in kids)) (own_cost (node.branch ref (children_in kids)) + usage) → closed.text ≡ branch_text ref (kid_at stood whole) kept
  end-text closed is =
      is.text ∙ ap (λ n. spelled (node.branch ref (children_in kids)) n) end-cost
      ∙ spelled_branch-agree ref (children_in kids) (λ x. kid_name (kid_at stood whole x)) (branch_used ref (kid_at stood whole) kept) all_names

  pub end-top : (closed : Closed) → IsRecord closed (node.branch ref (children_in kids)) (own_cost (node.branch ref (children_in kids)) + usage) → branch closed.digest.0 closed.usage ≡ (branched ref (kid_at stood whole) kept).top
  end-top closed is = ap₂ branch (is.digest ∙ ap sha256 (end-text closed is)) (is.usage ∙ end-cost)

  pub end-adds : (closed : Closed) (later : Ledger) → IsRecord closed (node.branch ref (children_in kids)) (own_cost (node.branch ref (children_in kids)) + usage) → Adds new later (closed.text ∷ []) [] 0 0 → Adds old later (branched ref (kid_at stood whole) kept).made [] 0 0
  end-adds closed later is adds =
      let names = joined_below (λ x. kid_pending (kid_at stood whole x)) in
      adds-same old later (names nibble ++ closed.text ∷ []) [] (0 + 0) (0 + 0) (names 16 ++ branch_text ref (kid_at stood whole) kept ∷ []) [] 0 0
      (ap₂ (λ (n : ℕ) (t : List ℕ). names n ++ t ∷ []) done (end-text closed is)) refl (omega arith) (omega arith)
      (adds-then old new later (names nibble) [] 0 0 (closed.text ∷ []) [] 0 0 all.adds adds)
