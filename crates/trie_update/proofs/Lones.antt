-- The child that a branch is merged with, as it is found and as it is put back.
use Rattle.std.proofs.Common.{◌≡◌, ◌≢◌, ℕ, zero, suc, ◌<◌, ◌≤◌, ◌==◌, true, false, if◌then◌else◌, List, [], ◌∷◌, length, set, Option, None, Some, is_some, option_map, refl, sym, ◌∙◌, ap, ap₂, subst, arith}
use Rattle.std.proofs.lemmas.Bool.{false≢true}
use Rattle.byte_model.specs.Node.{ValueRef}
use Rattle.trie_model.proofs.Rests.{equal_of_test, same_nibble}
use Rattle.trie_model.specs.Root.{Table}
use Rattle.visit_model.specs.Seen.{Seen, seen_at, stated_usage}
use Rattle.change_model.specs.Visits.{merge_usage, merge_visits, visit_alone}
use Rattle.base_core.specs.declared.hash.Digest.{Digest}
use Rattle.update_model.specs.Tops.{Top}
use Rattle.update_model.specs.Joins.{Kid, named, known, is_there, there, kid_usage}
use Rattle.update_model.specs.Updates.{merged_kids, merged_lost, top_seen, lost_alone}
use Rattle.trie_update.specs.declared.joining.Child.{Child}
use Rattle.trie_update.specs.Merges.{IsFound, if_named, lone_among, lone_named, seen_kid, seen_kids, MergedStands}
use Rattle.trie_update.specs.Subs.{child_at, kid_at, kid_of, CanJoin, IsKnown, KidStands}
use Rattle.update_model.specs.Sound.{StandsAt}
use Rattle.byte_model.proofs.Below.{sum_below-agree}
use Rattle.change_model.proofs.Along.{numbers_below-agree}
use Rattle.update_model.proofs.Joined.{only-holds}

-- ---- as it is found

none-mapped : {X Y : Type 0} (f : X → Y) (o : Option X) → is_some o ≡ false → option_map f o ≡ None
none-mapped f None e = refl
none-mapped f (Some x) e = cc

pub lone-value : {X : Type 0} (f : X → ValueRef) (o : Option X) (kids : ℕ → Kid) → is_some o ≡ true → lone_named (option_map f o) kids ≡ None
unfolding lone_named
lone-value f None kids e = cc
lone-value f (Some x) kids e = go (there kids)
  where
    go : (ns : List ℕ) → lone_among (Some (f x)) ns kids ≡ None
    go [] = refl
    go (y ∷ ns) = refl

module _ {X : Type 0} (f : X → ValueRef) (o : Option X) (kids : ℕ → Kid) (none : is_some o ≡ false) where
  lone_is : (ns : List ℕ) → there kids ≡ ns → lone_named (option_map f o) kids ≡ lone_among None ns kids
  unfolding lone_named
  lone_is ns e = ap₂ (λ (r : Option ValueRef) (l : List ℕ). lone_among r l kids) (none-mapped f o none) e

  pub lone-zero : there kids ≡ [] → lone_named (option_map f o) kids ≡ None
  lone-zero e = lone_is [] e

  pub lone-one : (x : ℕ) → there kids ≡ x ∷ [] → lone_named (option_map f o) kids ≡ if_named x (kids x)
  lone-one x e = lone_is (x ∷ []) e

  pub lone-more : 2 ≤ length (there kids) → lone_named (option_map f o) kids ≡ None
  lone-more h = go (there kids) refl h
    where
      go : (ns : List ℕ) → there kids ≡ ns → 2 ≤ length ns → lone_named (option_map f o) kids ≡ None
      go [] e two = absurd (omega arith)
      go (x ∷ []) e two = absurd (omega arith)
      go (x ∷ y ∷ ns) e two = lone_is (x ∷ y ∷ ns) e

  pub lone-found : (x : ℕ) (digest : Digest) → there kids ≡ x ∷ [] → kids x ≡ named digest.0 → IsFound (option_map f o) kids x digest
  lone-found x digest e name = record { lone = lone-one x e ∙ ap (if_named x) name; name = name; small = (only-holds (λ y. is_there (kids y)) 16 x e).0 }

  pub lone-known : (x : ℕ) (top : Top) → there kids ≡ x ∷ [] → kids x ≡ known top → lone_named (option_map f o) kids ≡ None
  lone-known x top e is = lone-one x e ∙ ap (if_named x) is

-- ---- as it is put back

apart : (y z : ℕ) → (y == z) ≡ false → y ≢ z
apart y z t e = absurd (false≢true (sym t ∙ ap (λ w. y == w) (sym e) ∙ same_nibble y))

child_at-set_same : (children : List Child) (x : ℕ) (new : Child) → x < length children → child_at (set children x new) x ≡ new
unfolding child_at
child_at-set_same [] x new h = absurd (omega arith)
child_at-set_same (first ∷ children) zero new h = refl
child_at-set_same (first ∷ children) (suc x) new h = child_at-set_same children x new (omega arith)

child_at-set_other : (children : List Child) (x y : ℕ) (new : Child) → y ≢ x → child_at (set children x new) y ≡ child_at children y
unfolding child_at
child_at-set_other [] x y new other = refl
child_at-set_other (first ∷ children) zero zero new other = absurd (other refl)
child_at-set_other (first ∷ children) zero (suc y) new other = refl
child_at-set_other (first ∷ children) (suc x) zero new other = refl
child_at-set_other (first ∷ children) (suc x) (suc y) new other = child_at-set_other children x y new (λ e. other (ap suc e))

module _ (names : ℕ → Option (List ℕ)) (table : Table) (depth : ℕ) (ref : Option ValueRef) (children : List Child) (x : ℕ) (digest : Digest) (found : IsFound ref (kid_at names children) x digest) where
  pub seen-found : seen_kid table depth (kid_at names children x) ≡ seen_at table depth false digest.0
  unfolding seen_kid
  seen-found = ap (seen_kid table depth) found.name

  pub visits-found : merge_visits (seen_kids table depth (kid_at names children)) (lone_named ref (kid_at names children)) ≡ visit_alone (seen_at table depth false digest.0)
  visits-found = ap (λ (m : Option ℕ). merge_visits (seen_kids table depth (kid_at names children)) m) found.lone ∙ ap visit_alone seen-found

  pub usage-found : merge_usage (seen_kids table depth (kid_at names children)) (lone_named ref (kid_at names children)) ≡ stated_usage (seen_at table depth false digest.0)
  usage-found = ap (λ (m : Option ℕ). merge_usage (seen_kids table depth (kid_at names children)) m) found.lone ∙ ap stated_usage seen-found

  pub lost-found : merged_lost (lone_named ref (kid_at names children)) (seen_kids table depth (kid_at names children)) ≡ lost_alone (seen_at table depth false digest.0)
  lost-found = ap (λ (m : Option ℕ). merged_lost m (seen_kids table depth (kid_at names children))) found.lone ∙ ap lost_alone seen-found

  pub stands-found : StandsAt depth (top_seen (seen_at table depth false digest.0)) → MergedStands depth (lone_named ref (kid_at names children)) (seen_kids table depth (kid_at names children))
  stands-found h = subst (λ (m : Option ℕ). MergedStands depth m (seen_kids table depth (kid_at names children))) (sym found.lone) (subst (λ (s : Seen). StandsAt depth (top_seen s)) (sym seen-found) h)

  -- the new child, whose top is that of what is seen there
  pub kids-put : (top : Top) (new : Child) → x < length children → kid_of (names x) new ≡ known top → top ≡ top_seen (seen_at table depth false digest.0)
      → (y : ℕ) → kid_at names (set children x new) y ≡ merged_kids (lone_named ref (kid_at names children)) (seen_kids table depth (kid_at names children)) (kid_at names children) y
  kids-put top new inside is_known is_top y =
      elim (y == x) as (λ b. (y == x) ≡ b → kid_at names (set children x new) y ≡ (if b then known (top_seen (seen_kids table depth (kid_at names children) y)) else kid_at names children y)) [
        | true ↦ λ t. (let same = equal_of_test y x t in
            subst (λ z. kid_at names (set children x new) z ≡ known (top_seen (seen_kids table depth (kid_at names children) z))) (sym same)
            (ap (kid_of (names x)) (child_at-set_same children x new inside) ∙ is_known ∙ ap known is_top ∙ ap (λ (s : Seen). known (top_seen s)) (sym seen-found)))
        | false ↦ λ t. ap (kid_of (names y)) (child_at-set_other children x y new (apart y x t))
      ] refl
      ∙ ap (λ (m : Option ℕ). merged_kids m (seen_kids table depth (kid_at names children)) (kid_at names children) y) (sym found.lone)

-- where it was not found
pub kids-kept : (names : ℕ → Option (List ℕ)) (table : Table) (depth : ℕ) (ref : Option ValueRef) (children : List Child) → lone_named ref (kid_at names children) ≡ None → (y : ℕ) → kid_at names children y ≡ merged_kids (lone_named ref (kid_at names children)) (seen_kids table depth (kid_at names children)) (kid_at names children) y
kids-kept names table depth ref children none y = ap (λ (m : Option ℕ). merged_kids m (seen_kids table depth (kid_at names children)) (kid_at names children) y) (sym none)

-- ---- what can be joined

pub can-join-agree : (ref : Option ValueRef) (kids others : ℕ → Kid) (used : ℕ) → ((x : ℕ) → x < 16 → kids x ≡ others x) → CanJoin ref others used → CanJoin ref kids used
can-join-agree ref kids others used same can = record {
  stands = λ x small. subst KidStands (sym (same x small)) (can.stands x small);
  fits = (let sums = sum_below-agree (λ x. kid_usage (kids x)) (λ x. kid_usage (others x)) 16 (λ x small. ap kid_usage (same x small)) in let fits = can.fits in omega arith);
  value = can.value;
  lone = λ x none one.
      let alike = numbers_below-agree (λ y. is_there (kids y)) (λ y. is_there (others y)) 16 (λ y small. ap is_there (same y small)) in
      let small = (only-holds (λ y. is_there (kids y)) 16 x one).0 in
      subst IsKnown (sym (same x small)) (can.lone x none (sym alike ∙ one));
}
