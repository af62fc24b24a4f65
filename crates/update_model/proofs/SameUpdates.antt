-- What a batch can't tell apart it makes the same of.
use Rattle.std.proofs.Common.{◌≡◌, ◌≢◌, ℕ, ◌+◌, ◌-◌, ◌<◌, ◌==◌, true, false, if◌then◌else◌, List, [], ◌∷◌, Option, None, Some, refl, sym, ◌∙◌, ap, ap₂}
use Rattle.byte_model.specs.Node.{ValueRef}
use Rattle.byte_model.proofs.Below.{sum_below-agree}
use Rattle.byte_model.proofs.Lists.{some_items}
use Rattle.trie_model.proofs.Rests.{equal_of_test}
use Rattle.visit_model.specs.Seen.{Seen, nothing, missing, bad, leaf, branch, extension, stated_usage}
use Rattle.batch_model.specs.Changes.{Change}
use Rattle.change_model.specs.Visits.{changes_behind, change_at, merged_child, if_touched, merge_usage, branch_cost, extension_cost}
use Rattle.change_model.specs.Along.{digest_of, SameName, SameTop, SameAlong}
use Rattle.update_model.specs.Tops as top
use Rattle.update_model.specs.Joins.{Kid, known, Joint, joint}
use Rattle.update_model.specs.Updates.{losing, node_outcome, ref_after, laid, kid_kept, kid_after, kid_outcome, digest_or_none, top_seen, lost_alone, merged_kids, merged_lost, parts, kids_after, branch_outcome, updated}
use Rattle.update_model.proofs.LaidSteps.{laid-agree}
use Rattle.update_model.proofs.JointsAlike.{joint-agree, node_outcome-agree}
use Rattle.change_model.proofs.Along.{SameBelow, merged_child-same, stated-below, SameMerged, merge_usage-same}

-- ---- what is stated (these are in change_model/proofs/Along.antt, not pub)

-- ---- the child that is merged

top_seen-same : (s other : Seen) → SameTop s other → top_seen other ≡ top_seen s
unfolding SameTop top_seen
top_seen-same nothing other same = ap top_seen same
top_seen-same (missing digest) other same = ap top_seen same
top_seen-same (bad digest) other same = ap top_seen same
top_seen-same (leaf digest usage path ref) other same = ap top_seen same
top_seen-same (branch digest usage ref kids) other same = ap top_seen same.1
top_seen-same (extension digest usage path child) other same = ap top_seen same.1 ∙ ap (λ o. top.extension path (digest_or_none o) (usage - extension_cost path)) (sym same.2)

lost_alone-same : (s other : Seen) → SameTop s other → lost_alone other ≡ lost_alone s
unfolding SameTop lost_alone
lost_alone-same nothing other same = ap lost_alone same
lost_alone-same (missing digest) other same = ap lost_alone same
lost_alone-same (bad digest) other same = ap lost_alone same
lost_alone-same (leaf digest usage path ref) other same = ap lost_alone same
lost_alone-same (branch digest usage ref kids) other same = ap lost_alone same.1
lost_alone-same (extension digest usage path child) other same = ap lost_alone same.1

merged_lost-same : (kids others : ℕ → Seen) (merged : Option ℕ) → SameMerged kids others merged → merged_lost merged others ≡ merged_lost merged kids
merged_lost-same kids others None same = refl
merged_lost-same kids others (Some x) same = lost_alone-same (kids x) (others x) (same x refl)

merged_kids-same : (children others : ℕ → Seen) (merged : Option ℕ) (f g : ℕ → Kid) (x : ℕ) → SameMerged children others merged → f x ≡ g x → merged_kids merged others f x ≡ merged_kids merged children g x
merged_kids-same children others None f g x same e = e
merged_kids-same children others (Some y) f g x same e =
    elim (x == y) as (λ b. (x == y) ≡ b → (if b then known (top_seen (others x)) else f x) ≡ (if b then known (top_seen (children x)) else g x)) [
      | true ↦ λ t. ap known (top_seen-same (children x) (others x) (same x (ap Some (sym (equal_of_test x y t)))))
      | false ↦ λ t. e
    ] refl

-- ---- children

abbrev SameFurther : Seen → Seen → List Change → Type 0
SameFurther s other changes = SameAlong s other changes → changes ≢ [] → updated other changes ≡ updated s changes

kid_after-same : (s other : Seen) (cs : List Change) → SameFurther s other cs → SameBelow s other cs → kid_after other cs (updated other cs) ≡ kid_after s cs (updated s cs)
kid_after-same s other [] further same = ap kid_kept (sym same)
kid_after-same s other (c ∷ cs) further same = ap (λ o. known o.top) (further same (some_items c cs))

kid_outcome-same : (s other : Seen) (cs : List Change) → SameFurther s other cs → SameBelow s other cs → kid_outcome cs (updated other cs) ≡ kid_outcome cs (updated s cs)
kid_outcome-same s other [] further same = refl
kid_outcome-same s other (c ∷ cs) further same = further same (some_items c cs)

-- ---- the whole

module _ (usage : ℕ) (ref : Option ValueRef) (kids others : ℕ → Seen) (changes : List Change)
    (same : (x : ℕ) → x < 16 → SameBelow (kids x) (others x) (changes_behind (x ∷ []) changes))
    (alike : SameMerged kids others (merged_child ref kids changes))
    (further : (x : ℕ) → SameFurther (kids x) (others x) (changes_behind (x ∷ []) changes)) where
  abbrev cs : ℕ → List Change
  cs x = changes_behind (x ∷ []) changes

  parts-same : parts ref others changes ≡ parts ref kids changes
  parts-same =
      ap₂ (λ (m n : ℕ). branch_cost ref + (m + n))
      (sum_below-agree (λ x. if_touched (cs x) (stated_usage (others x))) (λ x. if_touched (cs x) (stated_usage (kids x))) 16 (λ x small. stated-below (kids x) (others x) (cs x) (same x small)))
      (ap (merge_usage others) (merged_child-same ref kids others changes same) ∙ merge_usage-same kids others (merged_child ref kids changes) alike)

  kids_after-same : (x : ℕ) → x < 16 → kids_after ref others changes (λ x. updated (others x) (cs x)) x ≡ kids_after ref kids changes (λ x. updated (kids x) (cs x)) x
  kids_after-same x small =
      ap (λ m. merged_kids m others (λ y. kid_after (others y) (cs y) (updated (others y) (cs y))) x) (merged_child-same ref kids others changes same)
      ∙ merged_kids-same kids others (merged_child ref kids changes) (λ y. kid_after (others y) (cs y) (updated (others y) (cs y))) (λ y. kid_after (kids y) (cs y) (updated (kids y) (cs y))) x alike (kid_after-same (kids x) (others x) (cs x) (further x) (same x small))

  branch_outcome-same : branch_outcome usage ref others changes (λ x. updated (others x) (cs x)) ≡ branch_outcome usage ref kids changes (λ x. updated (kids x) (cs x))
  branch_outcome-same =
      node_outcome-agree ref (change_at [] changes) (λ x. kid_outcome (cs x) (updated (others x) (cs x))) (λ x. kid_outcome (cs x) (updated (kids x) (cs x)))
      (joint (ref_after ref (change_at [] changes)) (kids_after ref others changes (λ x. updated (others x) (cs x))) (usage - parts ref others changes))
      (merged_lost (merged_child ref others changes) others)
      (λ x small. kid_outcome-same (kids x) (others x) (cs x) (further x) (same x small))
      ∙ ap₂ (λ (whole : Joint) (lost : List (List ℕ)). node_outcome ref (change_at [] changes) (λ x. kid_outcome (cs x) (updated (kids x) (cs x))) whole lost)
      (joint-agree (ref_after ref (change_at [] changes)) (kids_after ref others changes (λ x. updated (others x) (cs x))) (kids_after ref kids changes (λ x. updated (kids x) (cs x))) (usage - parts ref others changes) kids_after-same
      ∙ ap (λ (n : ℕ). joint (ref_after ref (change_at [] changes)) (kids_after ref kids changes (λ x. updated (kids x) (cs x))) (usage - n)) parts-same)
      (ap (λ m. merged_lost m others) (merged_child-same ref kids others changes same) ∙ merged_lost-same kids others (merged_child ref kids changes) alike)

-- below an extension, where there are changes
along_some : (s other : Seen) (changes : List Change) → SameBelow s other changes → changes ≢ [] → SameAlong s other changes
along_some s other [] same some = absurd (some refl)
along_some s other (c ∷ cs) same some = same

named-along : (s other : Seen) (changes : List Change) → SameAlong s other changes → SameName s other
unfolding SameAlong digest_of
named-along nothing other changes same = sym (ap digest_of same)
named-along (missing digest) other changes same = sym (ap digest_of same)
named-along (bad digest) other changes same = sym (ap digest_of same)
named-along (leaf digest usage path ref) other changes same = sym (ap digest_of same)
named-along (branch digest usage ref kids) other changes same = sym (ap digest_of same.1)
named-along (extension digest usage path child) other changes same = sym (ap digest_of same.1)

named-below : (s other : Seen) (changes : List Change) → SameBelow s other changes → SameName s other
named-below s other [] same = same
named-below s other (c ∷ cs) same = named-along s other (c ∷ cs) same

pub updated-same : (s other : Seen) (changes : List Change) → SameAlong s other changes → changes ≢ [] → updated other changes ≡ updated s changes
unfolding SameAlong updated
updated-same nothing other changes same some = ap (λ o. updated o changes) same
updated-same (missing digest) other changes same some = ap (λ o. updated o changes) same
updated-same (bad digest) other changes same some = ap (λ o. updated o changes) same
updated-same (leaf digest usage path ref) other changes same some = ap (λ o. updated o changes) same
updated-same (branch digest usage ref kids) other changes same some =
    ap (λ o. updated o changes) same.1
    ∙ ap (losing digest) (branch_outcome-same usage ref kids same.0 changes same.2 same.3 (λ x. updated-same (kids x) (same.0 x) (changes_behind (x ∷ []) changes)))
updated-same (extension digest usage path child) other changes same some =
    ap (λ o. updated o changes) same.1
    ∙ ap (λ o. losing digest (laid (λ cs. updated same.0 cs) (top.extension path (digest_or_none o) (usage - extension_cost path)) changes)) (sym (named-below child same.0 (changes_behind path changes) same.2))
    ∙ ap (losing digest) (laid-agree (λ cs. updated same.0 cs) (λ cs. updated child cs) (top.extension path (digest_or_none (digest_of child)) (usage - extension_cost path)) changes some
    (λ there. updated-same child same.0 (changes_behind path changes) (along_some child same.0 (changes_behind path changes) same.2 there) there))
