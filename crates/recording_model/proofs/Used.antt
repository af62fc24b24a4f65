-- No text is spare exactly where each is used.
use Rattle.std.proofs.Common.{◌≡◌, ℕ, ◌+◌, Bool, true, false, cond, not, List, [], ◌∷◌, None, Some, ◌⊎◌, inl, inr, position, refl, sym, ap, ◌∙◌}
use Rattle.std.specs.List.{position_from}
use Rattle.std.proofs.lemmas.Iterator.Adapters.{position_from-zero}
use Rattle.trie_model.proofs.Members.{IsIn}
use Rattle.recording_model.specs.Replays.{is_used, first_spare}

-- where no place is the least one of a test, no element passes it
none_from : {X : Type 0} (test : X → Bool) (i : ℕ) (xs : List X) → position_from test i xs ≡ None → (x : X) → IsIn xs x → test x ≡ false
none_from test i [] e x h = absurd h
none_from {X} test i (y ∷ ys) e x h = go (test y) refl e h (none_from test (i + 1) ys)
  where
    go : (b : Bool) → test y ≡ b → cond b (Some i) (position_from test (i + 1) ys) ≡ None → (y ≡ x) ⊎ IsIn ys x → (position_from test (i + 1) ys ≡ None → (z : X) → IsIn ys z → test z ≡ false) → test x ≡ false
    go true t k place rest = absurd (some_none k)
      where
        some_none : Some i ≡ None → ⊥
        some_none k = cc
    go false t k (inl same) rest = ap test (sym same) ∙ t
    go false t k (inr deeper) rest = rest k x deeper

none_passes : {X : Type 0} (test : X → Bool) (xs : List X) → position test xs ≡ None → (x : X) → IsIn xs x → test x ≡ false
none_passes test xs e = none_from test 0 xs (sym (position_from-zero test xs) ∙ e)

pub all-used : (digests texts : List (List ℕ)) → first_spare digests texts ≡ None → (text : List ℕ) → IsIn texts text → is_used digests text ≡ true
unfolding first_spare
all-used digests texts e text h = turned_round (is_used digests text) (none_passes (λ (t : List ℕ). not (is_used digests t)) texts e text h)
  where
    turned_round : (b : Bool) → not b ≡ false → b ≡ true
    turned_round true k = refl
    turned_round false k = cc

-- ---- and the other way round

none_passes_from : {X : Type 0} (test : X → Bool) (i : ℕ) (xs : List X) → ((x : X) → IsIn xs x → test x ≡ false) → position_from test i xs ≡ None
none_passes_from test i [] fails = refl
none_passes_from test i (y ∷ ys) fails = ap (λ (b : Bool). cond b (Some i) (position_from test (i + 1) ys)) (fails y (inl refl)) ∙ none_passes_from test (i + 1) ys (λ x h. fails x (inr h))

pub none-spare : (digests texts : List (List ℕ)) → ((text : List ℕ) → IsIn texts text → is_used digests text ≡ true) → first_spare digests texts ≡ None
unfolding first_spare
none-spare digests texts used =
    position_from-zero (λ (t : List ℕ). not (is_used digests t)) texts ∙ none_passes_from (λ (t : List ℕ). not (is_used digests t)) 0 texts (λ t h. ap not (used t h))
