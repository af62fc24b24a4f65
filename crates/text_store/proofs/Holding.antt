-- A text that is put last into the table of a partial state.
use Rattle.std.proofs.Common.{◌≡◌, ℕ, Bool, true, false, cond, ◌||◌, nat_eq, List, [], ◌∷◌, ◌++◌, Option, None, Some, is_some, refl, ap, ◌∙◌}
use Rattle.std.specs.Prelude.{if◌then◌else◌}
use Rattle.std.specs.Option.{option_map}
use Rattle.std.specs.Ordering.{is_lt, nat_cmp}
use Rattle.std.specs.Map.{lookup}
use Rattle.std.specs.Cmp.Lexicographic.{pointwise, slice_cmp}
use Rattle.sha2.specs.Sha256.{sha256}
use Rattle.partial_model.specs.Texts.{lesser}
use Rattle.base_core.specs.declared.hash.Digest.{Digest}
use Rattle.text_store.specs.declared.marked.Marked.{Marked}
use Rattle.text_store.specs.PartialStates.{has_digest, fresh_entry}

some_under : (b : Bool) (m : Marked) (o : Option Marked) → is_some (cond b (Some m) o) ≡ (b || is_some o)
some_under true m o = refl
some_under false m o = refl

pub has-put : (es fs : List (Digest × Marked)) (d : Digest) (m : Marked) (name : List ℕ) → d.0 ≡ name
    → ((k : Digest) → lookup (λ key. pointwise nat_eq k.0 key.0) fs ≡ cond (pointwise nat_eq d.0 k.0) (Some m) (lookup (λ key. pointwise nat_eq k.0 key.0) es))
    → (q : List ℕ) → has_digest fs q ≡ (pointwise nat_eq name q || has_digest es q)
has-put es fs d m name is put q =
    ap is_some (put (record { 0 = q })) ∙ some_under (pointwise nat_eq d.0 q) m (lookup (λ key. pointwise nat_eq q key.0) es) ∙ ap (λ (n : List ℕ). pointwise nat_eq n q || has_digest es q) is

pub last-put : (es fs : List (Digest × Marked)) (d : Digest) (text : List ℕ) → d.0 ≡ sha256 text → fs ≡ es ++ (d, record { text = text; used = false }) ∷ [] → fs ≡ es ++ fresh_entry text ∷ []
last-put es fs d text is put = put ∙ (λ i. es ++ (record { 0 = is i }, record { text = text; used = false }) ∷ [])

-- ---- the least digest

pub least_of-some : (o : Option Digest) (one other least : Digest) → o ≡ Some one → least ≡ (if is_lt (slice_cmp nat_cmp other.0 one.0) then other else one) → Some least.0 ≡ lesser (option_map (λ d. d.0) o) (Some other.0)
unfolding lesser
least_of-some o one other least is e =
    rw is (ap (λ d. Some d.0) e ∙ elim (is_lt (slice_cmp nat_cmp other.0 one.0)) as (λ b. Some (if b then other else one).0 ≡ Some (if b then other.0 else one.0)) [ true ↦ refl | false ↦ refl ])

pub least_of-none : (o : Option Digest) (other : Digest) → o ≡ None → Some other.0 ≡ lesser (option_map (λ d. d.0) o) (Some other.0)
unfolding lesser
least_of-none o other is = rw is refl
