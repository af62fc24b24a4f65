-- A table that is filled up with the texts of a state holds the state, where no texts clash.
use Rattle.std.proofs.Common.{◌≡◌, ℕ, Bool, true, false, cond, List, [], ◌∷◌, Some, inl, inr, refl, sym, ap, ◌∙◌}
use Rattle.std.specs.Ordering.{nat_cmp, eq_by_cmp}
use Rattle.std.specs.Cmp.Lexicographic.{slice_cmp, nat_list_cmp_total, texts_ties, bytes_decides}
use Rattle.std.specs.FinMap.{get, insert, get-insert}
use Rattle.sha2.specs.Sha256.{sha256}
use Rattle.trie_model.specs.State.{State}
use Rattle.trie_model.specs.Root.{Table, Holds, NoClash, texts_of}
use Rattle.trie_model.proofs.Members.{IsIn, all_of, contains_of_in}
use Rattle.recording_model.specs.Agreeing.{Agrees}
use Rattle.recording_model.proofs.More.{HasMore}

abbrev pub is_same : List ℕ → List ℕ → Bool
is_same = eq_by_cmp (slice_cmp nat_cmp)

pub filled : Table → List (List ℕ) → Table
filled table [] = table
filled table (t ∷ ts) = insert (filled table ts) (sha256 t) t

pub same_itself : (q : List ℕ) → is_same q q ≡ true
same_itself q = sym (texts_ties q q) ∙ (bytes_decides q q).1 refl

pub same_from : (q d : List ℕ) → is_same q d ≡ true → q ≡ d
same_from q d e = (bytes_decides q d).0 (texts_ties q d ∙ e)

-- under the digest of each of some texts there is that text, or none
abbrev AgreesAt : Table → List (List ℕ) → Type 0
AgreesAt table ts = (t text : List ℕ) → IsIn ts t → get table (sha256 t) ≡ Some text → t ≡ text

-- what stood in the table stands there still
filled-has : (table : Table) (ts : List (List ℕ)) → AgreesAt table ts → HasMore table (filled table ts)
unfolding filled
filled-has table [] agrees digest text e = e
filled-has table (t ∷ ts) agrees digest text e =
    get-insert nat_list_cmp_total (filled table ts) (sha256 t) t digest ∙ go (is_same digest (sha256 t)) refl (filled-has table ts (λ u v h. agrees u v (inr h)) digest text e)
  where
    go : (b : Bool) → is_same digest (sha256 t) ≡ b → get (filled table ts) digest ≡ Some text → cond b (Some t) (get (filled table ts) digest) ≡ Some text
    go true s further = ap Some (agrees t text (inl refl) (ap (get table) (sym (same_from digest (sha256 t) s)) ∙ e))
    go false s further = further

-- and each of the texts stands there
filled-at : (table : Table) (ts : List (List ℕ)) → ((a b : List ℕ) → IsIn ts a → IsIn ts b → sha256 a ≡ sha256 b → a ≡ b) → (t : List ℕ) → IsIn ts t → get (filled table ts) (sha256 t) ≡ Some t
unfolding filled
filled-at table [] apart t h = absurd h
filled-at table (u ∷ ts) apart t h =
    get-insert nat_list_cmp_total (filled table ts) (sha256 u) u (sha256 t) ∙ go (is_same (sha256 t) (sha256 u)) refl h (filled-at table ts (λ a b i j. apart a b (inr i) (inr j)) t)
  where
    differ : false ≡ true → ⊥
    differ e = cc

    go : (b : Bool) → is_same (sha256 t) (sha256 u) ≡ b → IsIn (u ∷ ts) t → (IsIn ts t → get (filled table ts) (sha256 t) ≡ Some t) → cond b (Some u) (get (filled table ts) (sha256 t)) ≡ Some t
    go true s k further = ap Some (apart u t (inl refl) k (sym (same_from (sha256 t) (sha256 u) s)))
    go false s (inl is) further = absurd (differ (sym s ∙ ap (λ (v : List ℕ). is_same (sha256 t) (sha256 v)) is ∙ same_itself (sha256 t)))
    go false s (inr k) further = further k

-- ---- with the texts of a state

abbrev pub full : Table → State → Table
full table state = filled table (texts_of state)

pub full-has : (table : Table) (state : State) → Agrees table state → HasMore table (full table state)
full-has table state agrees = filled-has table (texts_of state) (λ t text i e. agrees t text (contains_of_in (texts_of state) t i) e)

pub full-holds : (table : Table) (state : State) → NoClash (texts_of state) → Holds (full table state) state
full-holds table state apart = record {
  found = all_of _ (texts_of state) (filled-at table (texts_of state) (λ a b i j. apart.apart a b (contains_of_in (texts_of state) a i) (contains_of_in (texts_of state) b j)));
  nonzero = all_of _ (texts_of state) (λ t h. apart.nonzero t (contains_of_in (texts_of state) t h));
}
