-- The first text that is not marked is the first that nothing visited.
use Rattle.std.proofs.Common.{◌≡◌, ℕ, Bool, true, false, not, ◌||◌, nat_eq, nat_cmp, List, [], ◌∷◌, position, refl, sym, ap, ◌∙◌}
use Rattle.std.specs.List.{list_any}
use Rattle.std.specs.Cmp.Lexicographic.{slice_cmp, nat_list_cmp_total, pointwise}
use Rattle.std.specs.FinSet.{contains, insert, empty, contains-insert, contains-empty}
use mathlib.Core.Path.{fun_ext}
use Rattle.sha2.specs.Sha256.{sha256}
use Rattle.recording_model.specs.Replays.{is_used, first_spare}
use Rattle.base_core.proofs.HashTables.{turned}
use Rattle.text_store.specs.Store.{Digests}
use Rattle.text_store.specs.Leaves.{with_all}
use Rattle.text_store.specs.PartialStates.{PartialState, first_unused}

moved : (a b c : Bool) → (a || (b || c)) ≡ ((b || a) || c)
moved true true c = refl
moved true false c = refl
moved false true c = refl
moved false false c = refl

or_false : (b : Bool) → (b || false) ≡ b
or_false true = refl
or_false false = refl

-- whether a digest is among some
abbrev pub among : List (List ℕ) → List ℕ → Bool
among digests q = list_any (λ digest. pointwise nat_eq digest q) digests

-- the digests kept are those of before, and those that were added
contains-with_all : (digests : List (List ℕ)) (kept : Digests) (q : List ℕ) → contains (with_all kept digests) q ≡ (among digests q || contains kept q)
unfolding with_all
contains-with_all [] kept q = refl
contains-with_all (d ∷ digests) kept q =
    contains-with_all digests (insert kept d) q
    ∙ ap (λ (b : Bool). among digests q || b) (contains-insert nat_list_cmp_total kept d q ∙ ap (λ (b : Bool). b || contains kept q) (turned q d))
    ∙ moved (among digests q) (pointwise nat_eq d q) (contains kept q)

pub contains-all : (digests : List (List ℕ)) (q : List ℕ) → contains (with_all empty digests) q ≡ among digests q
contains-all digests q =
    contains-with_all digests empty q
    ∙ ap (λ (b : Bool). among digests q || b) (contains-empty (slice_cmp nat_cmp) q)
    ∙ or_false (among digests q)

used : (digests : List (List ℕ)) (text : List ℕ) → contains (with_all empty digests) (sha256 text) ≡ is_used digests text
unfolding is_used
used digests text = contains-all digests (sha256 text)

pub unused-spare : (old new : PartialState) (digests : List (List ℕ)) → old.kept ≡ empty → old.texts ≡ new.texts → new.kept ≡ with_all old.kept digests → first_unused new ≡ first_spare digests old.texts
unfolding first_spare
unused-spare old new digests none same kept =
    ap (λ (texts : List (List ℕ)). position (λ t. not (contains new.kept (sha256 t))) texts) (sym same)
    ∙ ap (λ (test : List ℕ → Bool). position test old.texts)
    (fun_ext (λ t. ap (λ (k : Digests). not (contains k (sha256 t))) (kept ∙ ap (λ (k : Digests). with_all k digests) none) ∙ ap not (used digests t)))
