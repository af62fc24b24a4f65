-- The values that a listing names over anything that is seen: those of all keys that reach the bound.
use Rattle.std.proofs.Common.{◌≡◌, ℕ, zero, suc, ◌==◌, nat_lt, Bool, true, false, if◌then◌else◌, List, [], ◌∷◌, ◌++◌, map, filter, cond, Option, None, Some, refl, sym, ◌∙◌, ap, ap₂, append_assoc, append-nil, arith, nat_cmp, Less, Equal, Greater}
use Rattle.std.specs.Ordering.{is_ge, ordering_then}
use Rattle.std.specs.Cmp.Lexicographic.{slice_cmp}
use Rattle.std.proofs.lemmas.Bool.Decides.{nat_tests}
use Rattle.std.proofs.lemmas.List.{map-append}
use Rattle.std.proofs.lemmas.List.Elements.{filter-append}
use Rattle.byte_model.specs.Below.{joined_below}
use Rattle.byte_model.specs.Node.{ValueRef}
use Rattle.byte_model.proofs.Below.{joined_below-agree, map-joined_below}
use Rattle.visit_model.specs.Seen.{Seen, nothing, missing, bad, leaf, branch, extension}
use Rattle.visit_model.specs.Steps.{Step, node, no_text, no_node, value, behind, bound_behind, reached_steps, listing_steps}
use Rattle.visit_model.specs.Bounds.{reaches}
use Rattle.visit_model.proofs.Joins.{filter-joined_below}

-- the nibbles of a key, and how a node names its value
abbrev pub Named : Type 0
Named = List ℕ × ValueRef

-- with a prefix put before the path
abbrev pub beneath : List ℕ → List Named → List Named
beneath prefix names = map (λ name. (prefix ++ name.0, name.1)) names

abbrev pub name_here : Option ValueRef → List Named
name_here None = []
name_here (Some ref) = ([], ref) ∷ []

-- the values that some steps name
unfoldable pub named : List Step → List Named
named [] = []
named (node digest ∷ steps) = named steps
named (no_text digest ∷ steps) = named steps
named (no_node digest ∷ steps) = named steps
named (value path ref ∷ steps) = (path, ref) ∷ named steps

-- all values that are seen, by rising path
unfoldable pub named_in : Seen → List Named
named_in nothing = []
named_in (missing digest) = []
named_in (bad digest) = []
named_in (leaf digest usage path ref) = (path, ref) ∷ []
named_in (branch digest usage ref kids) = name_here ref ++ joined_below (λ x. beneath (x ∷ []) (named_in (kids x))) 16
named_in (extension digest usage path child) = beneath path (named_in child)

-- those whose paths reach a bound
abbrev pub reaching : List ℕ → List Named → List Named
reaching bound names = filter (λ name. reaches bound name.0) names

-- ---- a bound behind a prefix

-- what a prefix and the path behind it reach
abbrev pub reaches_behind : Option (List ℕ) → List ℕ → Bool
reaches_behind None path = false
reaches_behind (Some bound) path = reaches bound path

-- each path reaches the empty bound
reaches-empty : (path : List ℕ) → reaches [] path ≡ true
reaches-empty [] = refl
reaches-empty (x ∷ path) = refl

pub reaches-prefix : (prefix bound path : List ℕ) → reaches bound (prefix ++ path) ≡ reaches_behind (bound_behind prefix bound) path
unfolding bound_behind
reaches-prefix [] bound path = refl
reaches-prefix (x ∷ prefix) [] path = sym (reaches-empty path)
reaches-prefix (x ∷ prefix) (y ∷ bound) path = go (nat_lt x y) (x == y) refl refl (reaches-prefix prefix bound path)
  where
    go : (b c : Bool) → nat_lt x y ≡ b → (x == y) ≡ c → reaches bound (prefix ++ path) ≡ reaches_behind (bound_behind prefix bound) path → is_ge (ordering_then (cond b Less (cond c Equal Greater)) (slice_cmp nat_cmp (prefix ++ path) bound)) ≡ reaches_behind (if c then bound_behind prefix bound else if b then None else Some []) path
    go true true e f further = absurd (both e f)
      where
        both : nat_lt x y ≡ true → (x == y) ≡ true → ⊥
        both e f = grind (arith, nat_tests)
    go true false e f further = refl
    go false true e f further = further
    go false false e f further = sym (reaches-empty path)

-- of names behind a prefix, those that reach what is left of the bound
abbrev reaching_behind : List ℕ → Option (List ℕ) → List Named → List Named
reaching_behind prefix None names = []
reaching_behind prefix (Some bound) names = beneath prefix (reaching bound names)

reaching-beneath : (prefix bound : List ℕ) (names : List Named) → reaching bound (beneath prefix names) ≡ reaching_behind prefix (bound_behind prefix bound) names
reaching-beneath prefix bound [] = none (bound_behind prefix bound)
  where
    none : (b : Option (List ℕ)) → [] ≡ reaching_behind prefix b []
    none None = refl
    none (Some b) = refl
reaching-beneath prefix bound (name ∷ names) =
    ap₂ (λ b (others : List Named). cond b ((prefix ++ name.0, name.1) ∷ others) others) (reaches-prefix prefix bound name.0) (reaching-beneath prefix bound names)
    ∙ step (bound_behind prefix bound)
  where
    step : (b : Option (List ℕ)) → cond (reaches_behind b name.0) ((prefix ++ name.0, name.1) ∷ reaching_behind prefix b names) (reaching_behind prefix b names) ≡ reaching_behind prefix b (name ∷ names)
    step None = refl
    step (Some left) =
        elim (reaches left name.0) as (λ c. cond c ((prefix ++ name.0, name.1) ∷ beneath prefix (reaching left names)) (beneath prefix (reaching left names)) ≡ beneath prefix (cond c (name ∷ reaching left names) (reaching left names))) [
          | true ↦ refl
          | false ↦ refl
        ]

beneath-beneath : (prefix more : List ℕ) (names : List Named) → beneath (prefix ++ more) names ≡ beneath prefix (beneath more names)
beneath-beneath prefix more [] = refl
beneath-beneath prefix more (name ∷ names) = ap₂ (λ (path : List ℕ) (others : List Named). (path, name.1) ∷ others) (append_assoc prefix more name.0) (beneath-beneath prefix more names)

pub beneath-nil : (names : List Named) → beneath [] names ≡ names
beneath-nil [] = refl
beneath-nil (name ∷ names) = ap (λ (others : List Named). name ∷ others) (beneath-nil names)

-- ---- what is named

named-append : (steps others : List Step) → named (steps ++ others) ≡ named steps ++ named others
unfolding named
named-append [] others = refl
named-append (node digest ∷ steps) others = named-append steps others
named-append (no_text digest ∷ steps) others = named-append steps others
named-append (no_node digest ∷ steps) others = named-append steps others
named-append (value path ref ∷ steps) others = ap (λ (names : List Named). (path, ref) ∷ names) (named-append steps others)

named-joined_below : (f : ℕ → List Step) (n : ℕ) → named (joined_below f n) ≡ joined_below (λ x. named (f x)) n
unfolding named joined_below
named-joined_below f zero = refl
named-joined_below f (suc n) = named-append (joined_below f n) (f n) ∙ ap (λ (names : List Named). names ++ named (f n)) (named-joined_below f n)

-- the value of a key that ends at a path behind the place
named-reached : (before path : List ℕ) (ref : Option ValueRef) (bound : List ℕ) → named (reached_steps (before ++ path) ref (bound_behind path bound)) ≡ beneath before (reaching bound (beneath path (name_here ref)))
unfolding named reached_steps
named-reached before path ref bound =
    go ref (bound_behind path bound)
    ∙ sym (ap (beneath before) (reaching-beneath path bound (name_here ref)))
  where
    go : (r : Option ValueRef) (b : Option (List ℕ)) → named (reached_steps (before ++ path) r b) ≡ beneath before (reaching_behind path b (name_here r))
    go None None = refl
    go (Some r) None = refl
    go None (Some []) = refl
    go (Some r) (Some []) = ap (λ (p : List ℕ). (before ++ p, r) ∷ []) (sym (append-nil path))
    go None (Some (y ∷ bound)) = refl
    go (Some r) (Some (y ∷ bound)) = refl

-- a listing of what is seen names all that reaches the bound
abbrev Names : Seen → Type 0
Names seen = (before bound : List ℕ) → named (listing_steps seen before bound) ≡ beneath before (reaching bound (named_in seen))

named-behind : (seen : Seen) → Names seen → (before prefix bound : List ℕ) → named (behind (listing_steps seen (before ++ prefix)) (bound_behind prefix bound)) ≡ beneath before (reaching bound (beneath prefix (named_in seen)))
unfolding named behind
named-behind seen names before prefix bound =
    go (bound_behind prefix bound)
    ∙ sym (ap (beneath before) (reaching-beneath prefix bound (named_in seen)))
  where
    go : (b : Option (List ℕ)) → named (behind (listing_steps seen (before ++ prefix)) b) ≡ beneath before (reaching_behind prefix b (named_in seen))
    go None = refl
    go (Some left) = names (before ++ prefix) left ∙ beneath-beneath before prefix (reaching left (named_in seen))

pub named-listing_steps : (seen : Seen) (before bound : List ℕ) → named (listing_steps seen before bound) ≡ beneath before (reaching bound (named_in seen))
unfolding named named_in listing_steps bound_behind
named-listing_steps nothing before bound = refl
named-listing_steps (missing digest) before bound = refl
named-listing_steps (bad digest) before bound = refl
named-listing_steps (leaf digest usage path ref) before bound =
    named-reached before path (Some ref) bound ∙ ap (λ (p : List ℕ). beneath before (reaching bound ((p, ref) ∷ []))) (append-nil path)
named-listing_steps (branch digest usage ref kids) before bound =
    let below_top : ℕ → List Named = λ x. beneath (x ∷ []) (named_in (kids x)) in
    named-append (reached_steps before ref (Some bound)) _
    ∙ ap₂ (λ (a b : List Named). a ++ b)
    (ap (λ (p : List ℕ). named (reached_steps p ref (Some bound))) (sym (append-nil before)) ∙ named-reached before [] ref bound ∙ ap (λ (names : List Named). beneath before (reaching bound names)) (beneath-nil (name_here ref)))
    (named-joined_below (λ x. behind (listing_steps (kids x) (before ++ x ∷ [])) (bound_behind (x ∷ []) bound)) 16
    ∙ joined_below-agree _ (λ x. beneath before (reaching bound (below_top x))) 16 (λ x h. named-behind (kids x) (named-listing_steps (kids x)) before (x ∷ []) bound)
    ∙ sym (map-joined_below (λ name. (before ++ name.0, name.1)) (λ x. reaching bound (below_top x)) 16)
    ∙ ap (beneath before) (sym (filter-joined_below (λ name. reaches bound name.0) below_top 16)))
    ∙ sym (map-append (λ (name : Named). (before ++ name.0, name.1)) (reaching bound (name_here ref)) (reaching bound (joined_below below_top 16)))
    ∙ ap (beneath before) (sym (filter-append (λ name. reaches bound name.0) (name_here ref) (joined_below below_top 16)))
named-listing_steps (extension digest usage path child) before bound = named-behind child (named-listing_steps child) before path bound
