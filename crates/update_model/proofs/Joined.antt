-- What a value and children join to: whether something is there, where its top stands, and how many children a branch has.
use Rattle.std.proofs.Common.{◌≡◌, ℕ, zero, suc, ◌+◌, ◌<◌, ◌≤◌, if◌then◌else◌, Bool, true, false, List, [], ◌∷◌, ◌++◌, length, Option, None, Some, is_some, IfSome, inl, refl, sym, ◌∙◌, ap, ap₂, subst, arith, length-append}
use Rattle.std.specs.Prelude.{◌||◌, ⊤}
use Rattle.byte_model.specs.Below.{sum_below}
use Rattle.byte_model.specs.PackedPath.{longest_path}
use Rattle.byte_model.specs.Node as node
use Rattle.byte_model.specs.Node.{ValueRef, IsShaped, longest_value, child_count}
use Rattle.trie_model.proofs.Members.{IsIn}
use Rattle.change_model.specs.Visits.{any_below, numbers_below}
use Rattle.change_model.proofs.Merging.{number_from}
use Rattle.update_model.specs.Tops.{empty, leaf, branch, extension, top_digest}
use Rattle.update_model.specs.Joins.{Kid, named, known, is_there, kid_top, kid_name, there, joint, joint_by}
use Rattle.update_model.specs.Sound.{StandsAt}
use Rattle.update_model.proofs.TopsBelow.{stands-lowered, there-lowered}

-- ---- the numbers at which a test holds

pub has_some : List ℕ → Bool
has_some [] = false
has_some (x ∷ xs) = true

has_some-append : (xs ys : List ℕ) → has_some (xs ++ ys) ≡ (has_some xs || has_some ys)
unfolding has_some
has_some-append [] ys = refl
has_some-append (x ∷ xs) ys = refl

pub any-numbers : (f : ℕ → Bool) (n : ℕ) → any_below f n ≡ has_some (numbers_below f n)
unfolding any_below numbers_below has_some
any-numbers f zero = refl
any-numbers f (suc n) =
    ap₂ (λ (a b : Bool). a || b) (any-numbers f n) (last (f n))
    ∙ sym (has_some-append (numbers_below f n) (if f n then n ∷ [] else []))
  where
    last : (b : Bool) → b ≡ has_some (if b then n ∷ [] else [])
    last true = refl
    last false = refl

-- the only one
pub only-holds : (f : ℕ → Bool) (n x : ℕ) → numbers_below f n ≡ x ∷ [] → (x < n) × (f x ≡ true)
only-holds f n x e = number_from f n x (subst (λ (l : List ℕ). IsIn l x) (sym e) (inl refl))

-- they are as many as there are ones in the sum of the tests
pub count-numbers : (f : ℕ → Bool) (n : ℕ) → sum_below (λ i. if f i then 1 else 0) n ≡ length (numbers_below f n)
unfolding sum_below numbers_below
count-numbers f zero = refl
count-numbers f (suc n) =
    let further = count-numbers f n in
    let last = tail (f n) in
    let both = length-append (numbers_below f n) (if f n then n ∷ [] else []) in
    omega arith
  where
    tail : (b : Bool) → (if b then 1 else 0) ≡ length (if b then n ∷ [] else [])
    tail true = refl
    tail false = refl

-- ---- children that are there

pub there-kid_name : (kid : Kid) → is_some (kid_name kid) ≡ is_there kid
unfolding kid_name top_digest is_there
there-kid_name (named digest) = refl
there-kid_name (known empty) = refl
there-kid_name (known (leaf path ref)) = refl
there-kid_name (known (branch digest used)) = refl
there-kid_name (known (extension path child used)) = refl

pub child_count-there : (kids : ℕ → Kid) → child_count (λ x. kid_name (kids x)) ≡ length (there kids)
child_count-there kids = counts 16 ∙ count-numbers (λ x. is_there (kids x)) 16
  where
    counts : (n : ℕ) → sum_below (λ i. if is_some (kid_name (kids i)) then 1 else 0) n ≡ sum_below (λ i. if is_there (kids i) then 1 else 0) n
    counts n = ap (λ (f : ℕ → Bool). sum_below (λ i. if f i then 1 else 0) n) (λ i x. there-kid_name (kids x) i)

-- ---- something is there

-- of the child that is left alone more is known than its name
abbrev pub KnowsLone : Option ValueRef → (ℕ → Kid) → Type 0
KnowsLone ref kids = (x : ℕ) → ref ≡ None → there kids ≡ x ∷ [] → kids x ≡ known (kid_top (kids x))

pub there-joint : (ref : Option ValueRef) (kids : ℕ → Kid) (used : ℕ) → KnowsLone ref kids → is_there (known (joint ref kids used).top) ≡ (is_some ref || any_below (λ x. is_there (kids x)) 16)
unfolding joint is_there has_some
there-joint ref kids used knows = go ref refl (there kids) refl ∙ ap (λ (b : Bool). is_some ref || b) (sym (any-numbers (λ x. is_there (kids x)) 16))
  where
    go : (o : Option ValueRef) → ref ≡ o → (l : List ℕ) → there kids ≡ l → is_there (known (joint_by ref (there kids) kids used).top) ≡ (is_some ref || has_some (there kids))
    go None r [] e = rw (r, e) refl
    go None r (x ∷ []) e =
        let here : is_there (kids x) ≡ true = (only-holds (λ x. is_there (kids x)) 16 x e).1 in
        rw (r, e) (there-lowered (x ∷ []) (kid_top (kids x)) ∙ ap is_there (sym (knows x r e)) ∙ here)
    go None r (x ∷ y ∷ l) e = rw (r, e) refl
    go (Some value) r [] e = rw (r, e) refl
    go (Some value) r (x ∷ l) e = rw (r, e) refl

-- ---- where the top stands

-- a value of a branch is within the limit, if there is one
abbrev pub ShortValue : Option ValueRef → Type 0
ShortValue ref = IfSome ref (λ r. r.length ≤ longest_value)

pub stands-joint : (depth : ℕ) (ref : Option ValueRef) (kids : ℕ → Kid) (used : ℕ) → depth ≤ longest_path → ShortValue ref → ((x : ℕ) → x < 16 → StandsAt (depth + 1) (kid_top (kids x))) → StandsAt depth (joint ref kids used).top
unfolding joint StandsAt
stands-joint depth ref kids used deep short stands = go ref refl (there kids) refl
  where
    go : (o : Option ValueRef) → ref ≡ o → (l : List ℕ) → there kids ≡ l → StandsAt depth (joint_by ref (there kids) kids used).top
    go None r [] e = rw (r, e) tt
    go None r (x ∷ []) e =
        let small = (only-holds (λ x. is_there (kids x)) 16 x e).0 in
        rw (r, e) (stands-lowered depth (x ∷ []) (kid_top (kids x)) (small, tt) (stands x small))
    go None r (x ∷ y ∷ l) e = rw (r, e) deep
    go (Some value) r [] e =
        let fits : value.length ≤ longest_value = subst ShortValue r short in
        rw (r, e) (tt, omega arith, fits)
    go (Some value) r (x ∷ l) e = rw (r, e) deep

-- ---- the branch that is made

-- a branch is made of at least two of value and children
abbrev pub MakesBranch : Option ValueRef → List ℕ → Type 0
MakesBranch None [] = ⊥
MakesBranch None (x ∷ []) = ⊥
MakesBranch None (x ∷ y ∷ left) = ⊤
MakesBranch (Some ref) [] = ⊥
MakesBranch (Some ref) (x ∷ left) = ⊤

pub shaped-joint : (ref : Option ValueRef) (kids : ℕ → Kid) → ShortValue ref → MakesBranch ref (there kids) → IsShaped (node.branch ref (λ x. kid_name (kids x)))
shaped-joint ref kids short makes = go ref short (there kids) makes (child_count-there kids)
  where
    go : (o : Option ValueRef) → ShortValue o → (l : List ℕ) → MakesBranch o l → child_count (λ x. kid_name (kids x)) ≡ length l → IsShaped (node.branch o (λ x. kid_name (kids x)))
    go None s [] m e = absurd m
    go None s (x ∷ []) m e = absurd m
    go None s (x ∷ y ∷ l) m e = let n : child_count (λ x. kid_name (kids x)) ≡ length (x ∷ y ∷ l) = e in omega arith
    go (Some value) s [] m e = absurd m
    go (Some value) s (x ∷ l) m e = (s, (let n : child_count (λ x. kid_name (kids x)) ≡ length (x ∷ l) = e in omega arith))
