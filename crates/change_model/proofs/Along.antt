-- What a batch can't tell apart it visits alike.
use Rattle.std.proofs.Common.{◌≡◌, ℕ, zero, suc, ◌+◌, ◌<◌, ◌++◌, if◌then◌else◌, Bool, List, [], ◌∷◌, Option, None, Some, is_some, refl, sym, ◌∙◌, ap, ap₂, arith}
use Rattle.std.specs.Prelude.{◌||◌}
use Rattle.byte_model.specs.Node.{ValueRef}
use Rattle.byte_model.specs.Below.{sum_below}
use Rattle.byte_model.proofs.Below.{sum_below-agree}
use Rattle.visit_model.specs.Seen.{Seen, nothing, missing, bad, leaf, branch, extension, stated_usage}
use Rattle.batch_model.specs.Changes.{Change}
use Rattle.change_model.specs.Visits.{Visits, before, opened, closed, visits_below, changes_behind, is_untouched, sets_some, has_value_after, any_below, is_named, is_left, numbers_below, lone_child, merged_child, visit_alone, visits_at, where_touched, if_touched, merge_visits, merge_usage, branch_cost, extension_cost}
use Rattle.change_model.specs.Along.{digest_of, SameName, SameTop, IfTouched, SameAlong}

-- ---- made of what is the same at each nibble

pub any_below-agree : (f g : ℕ → Bool) (n : ℕ) → ((x : ℕ) → x < n → f x ≡ g x) → any_below f n ≡ any_below g n
unfolding any_below
any_below-agree f g zero same = refl
any_below-agree f g (suc n) same = ap₂ (λ (a b : Bool). a || b) (any_below-agree f g n (λ x h. same x (omega arith))) (same n (omega arith))

pub numbers_below-agree : (f g : ℕ → Bool) (n : ℕ) → ((x : ℕ) → x < n → f x ≡ g x) → numbers_below f n ≡ numbers_below g n
unfolding numbers_below
numbers_below-agree f g zero same = refl
numbers_below-agree f g (suc n) same =
    ap₂ (λ (a : List ℕ) (b : Bool). a ++ (if b then n ∷ [] else [])) (numbers_below-agree f g n (λ x h. same x (omega arith))) (same n (omega arith))

pub visits_below-agree : (f g : ℕ → Visits) (n : ℕ) → ((x : ℕ) → x < n → f x ≡ g x) → visits_below f n ≡ visits_below g n
unfolding visits_below
visits_below-agree f g zero same = refl
visits_below-agree f g (suc n) same = ap₂ before (visits_below-agree f g n (λ x h. same x (omega arith))) (same n (omega arith))

-- ---- what is left

is_named-digest_of : (s : Seen) → is_named s ≡ is_some (digest_of s)
unfolding digest_of
is_named-digest_of nothing = refl
is_named-digest_of (missing digest) = refl
is_named-digest_of (bad digest) = refl
is_named-digest_of (leaf digest usage path ref) = refl
is_named-digest_of (branch digest usage ref kids) = refl
is_named-digest_of (extension digest usage path child) = refl

is_named-same : (s other : Seen) → SameName s other → is_named other ≡ is_named s
is_named-same s other same = is_named-digest_of other ∙ ap is_some (sym same) ∙ sym (is_named-digest_of s)

pub is_left-untouched : (s : Seen) → is_left s [] ≡ is_named s
unfolding is_left
is_left-untouched nothing = refl
is_left-untouched (missing digest) = refl
is_left-untouched (bad digest) = refl
is_left-untouched (leaf digest usage path ref) = refl
is_left-untouched (branch digest usage ref kids) = refl
is_left-untouched (extension digest usage path child) = refl

abbrev pub SameBelow : Seen → Seen → List Change → Type 0
SameBelow s other changes = IfTouched changes (SameAlong s other changes) (SameName s other)

pub is_left-same : (s other : Seen) (changes : List Change) → SameBelow s other changes → is_left other changes ≡ is_left s changes
unfolding SameAlong is_left
is_left-same s other [] same = is_left-untouched other ∙ is_named-same s other same ∙ sym (is_left-untouched s)
is_left-same nothing other (c ∷ cs) same = ap (λ o. is_left o (c ∷ cs)) same
is_left-same (missing digest) other (c ∷ cs) same = ap (λ o. is_left o (c ∷ cs)) same
is_left-same (bad digest) other (c ∷ cs) same = ap (λ o. is_left o (c ∷ cs)) same
is_left-same (leaf digest usage path ref) other (c ∷ cs) same = ap (λ o. is_left o (c ∷ cs)) same
is_left-same (branch digest usage ref kids) other (c ∷ cs) same =
    ap (λ o. is_left o (c ∷ cs)) same.1
    ∙ ap (λ b. is_untouched (c ∷ cs) || sets_some (c ∷ cs) || has_value_after ref (c ∷ cs) || b)
    (any_below-agree (λ x. is_left (same.0 x) (changes_behind (x ∷ []) (c ∷ cs))) (λ x. is_left (kids x) (changes_behind (x ∷ []) (c ∷ cs))) 16
    (λ x small. is_left-same (kids x) (same.0 x) (changes_behind (x ∷ []) (c ∷ cs)) (same.2 x small)))
is_left-same (extension digest usage path child) other (c ∷ cs) same =
    ap (λ o. is_left o (c ∷ cs)) same.1
    ∙ ap (λ b. is_untouched (c ∷ cs) || sets_some (c ∷ cs) || b) (is_left-same child same.0 (changes_behind path (c ∷ cs)) same.2)

pub merged_child-same : (ref : Option ValueRef) (kids others : ℕ → Seen) (changes : List Change) → ((x : ℕ) → x < 16 → SameBelow (kids x) (others x) (changes_behind (x ∷ []) changes)) → merged_child ref others changes ≡ merged_child ref kids changes
merged_child-same ref kids others changes same =
    ap (λ (left : List ℕ). lone_child (has_value_after ref changes) left changes)
    (numbers_below-agree (λ x. is_left (others x) (changes_behind (x ∷ []) changes)) (λ x. is_left (kids x) (changes_behind (x ∷ []) changes)) 16
    (λ x small. is_left-same (kids x) (others x) (changes_behind (x ∷ []) changes) (same x small)))

-- ---- usages

pub stated-top : (s other : Seen) → SameTop s other → stated_usage other ≡ stated_usage s
unfolding SameTop stated_usage
stated-top nothing other same = ap stated_usage same
stated-top (missing digest) other same = ap stated_usage same
stated-top (bad digest) other same = ap stated_usage same
stated-top (leaf digest usage path ref) other same = ap stated_usage same
stated-top (branch digest usage ref kids) other same = ap stated_usage same.1
stated-top (extension digest usage path child) other same = ap stated_usage same.1

pub stated-along : (s other : Seen) (changes : List Change) → SameAlong s other changes → stated_usage other ≡ stated_usage s
unfolding SameAlong stated_usage
stated-along nothing other changes same = ap stated_usage same
stated-along (missing digest) other changes same = ap stated_usage same
stated-along (bad digest) other changes same = ap stated_usage same
stated-along (leaf digest usage path ref) other changes same = ap stated_usage same
stated-along (branch digest usage ref kids) other changes same = ap stated_usage same.1
stated-along (extension digest usage path child) other changes same = ap stated_usage same.1

pub stated-below : (s other : Seen) (changes : List Change) → SameBelow s other changes → if_touched changes (stated_usage other) ≡ if_touched changes (stated_usage s)
stated-below s other [] same = refl
stated-below s other (c ∷ cs) same = stated-along s other (c ∷ cs) same

-- ---- visits

visit_alone-same : (s other : Seen) → SameTop s other → visit_alone other ≡ visit_alone s
unfolding SameTop visit_alone
visit_alone-same nothing other same = ap visit_alone same
visit_alone-same (missing digest) other same = ap visit_alone same
visit_alone-same (bad digest) other same = ap visit_alone same
visit_alone-same (leaf digest usage path ref) other same = ap visit_alone same
visit_alone-same (branch digest usage ref kids) other same = ap visit_alone same.1
visit_alone-same (extension digest usage path child) other same = ap visit_alone same.1

abbrev pub SameMerged : (ℕ → Seen) → (ℕ → Seen) → Option ℕ → Type 0
SameMerged kids others merged = (x : ℕ) → merged ≡ Some x → SameTop (kids x) (others x)

merge_visits-same : (kids others : ℕ → Seen) (merged : Option ℕ) → SameMerged kids others merged → merge_visits others merged ≡ merge_visits kids merged
merge_visits-same kids others None same = refl
merge_visits-same kids others (Some x) same = visit_alone-same (kids x) (others x) (same x refl)

pub merge_usage-same : (kids others : ℕ → Seen) (merged : Option ℕ) → SameMerged kids others merged → merge_usage others merged ≡ merge_usage kids merged
merge_usage-same kids others None same = refl
merge_usage-same kids others (Some x) same = stated-top (kids x) (others x) (same x refl)

-- the visits of a branch, by those of its children
abbrev branch_visits : List ℕ → ℕ → Option ValueRef → (ℕ → Visits) → Visits → ℕ → ℕ → Visits
branch_visits digest usage ref touched merge parts merged =
    before (opened digest usage) (before (visits_below touched 16) (before merge (closed digest usage (branch_cost ref + (parts + merged)))))

pub visits_at-same : (s other : Seen) (changes : List Change) → SameAlong s other changes → visits_at other changes ≡ visits_at s changes
unfolding SameAlong visits_at
visits_at-same nothing other changes same = ap (λ o. visits_at o changes) same
visits_at-same (missing digest) other changes same = ap (λ o. visits_at o changes) same
visits_at-same (bad digest) other changes same = ap (λ o. visits_at o changes) same
visits_at-same (leaf digest usage path ref) other changes same = ap (λ o. visits_at o changes) same
visits_at-same (branch digest usage ref kids) other changes same =
    let others : ℕ → Seen = same.0 in
    let merged = merged_child-same ref kids others changes same.2 in
    ap (λ o. visits_at o changes) same.1
    ∙ ap (λ m. branch_visits digest usage ref (λ x. where_touched (changes_behind (x ∷ []) changes) (visits_at (others x) (changes_behind (x ∷ []) changes))) (merge_visits others m) (sum_below (λ x. if_touched (changes_behind (x ∷ []) changes) (stated_usage (others x))) 16) (merge_usage others m)) merged
    ∙ ap₂ (λ v n. branch_visits digest usage ref (λ x. where_touched (changes_behind (x ∷ []) changes) (visits_at (others x) (changes_behind (x ∷ []) changes))) v (sum_below (λ x. if_touched (changes_behind (x ∷ []) changes) (stated_usage (others x))) 16) n)
    (merge_visits-same kids others (merged_child ref kids changes) same.3) (merge_usage-same kids others (merged_child ref kids changes) same.3)
    ∙ ap₂ (λ v n. before (opened digest usage) (before v (before (merge_visits kids (merged_child ref kids changes)) (closed digest usage (branch_cost ref + (n + merge_usage kids (merged_child ref kids changes)))))))
    (visits_below-agree (λ x. where_touched (changes_behind (x ∷ []) changes) (visits_at (others x) (changes_behind (x ∷ []) changes))) (λ x. where_touched (changes_behind (x ∷ []) changes) (visits_at (kids x) (changes_behind (x ∷ []) changes))) 16
    (λ x small. below (kids x) (others x) (changes_behind (x ∷ []) changes) (visits_at-same (kids x) (others x) (changes_behind (x ∷ []) changes)) (same.2 x small)))
    (sum_below-agree _ _ 16 (λ x small. stated-below (kids x) (others x) (changes_behind (x ∷ []) changes) (same.2 x small)))
  where
    below : (s other : Seen) (cs : List Change) → (SameAlong s other cs → visits_at other cs ≡ visits_at s cs) → SameBelow s other cs → where_touched cs (visits_at other cs) ≡ where_touched cs (visits_at s cs)
    below s other [] further same = refl
    below s other (c ∷ cs) further same = further same
visits_at-same (extension digest usage path child) other changes same =
    ap (λ o. visits_at o changes) same.1
    ∙ ap₂ (λ v n. before (opened digest usage) (before v (closed digest usage (extension_cost path + n))))
    (below child same.0 (changes_behind path changes) (visits_at-same child same.0 (changes_behind path changes)) same.2)
    (stated-below child same.0 (changes_behind path changes) same.2)
  where
    below : (s other : Seen) (cs : List Change) → (SameAlong s other cs → visits_at other cs ≡ visits_at s cs) → SameBelow s other cs → where_touched cs (visits_at other cs) ≡ where_touched cs (visits_at s cs)
    below s other [] further same = refl
    below s other (c ∷ cs) further same = further same
