-- The texts of a set put into a table one after the other: none is taken.
use Rattle.std.proofs.Common.{◌≡◌, ℕ, Bool, true, false, cond, ◌||◌, nat_eq, if◌then◌else◌, List, [], ◌∷◌, ◌++◌, map, Option, None, Some, IfNone, is_some, Contains, Vec, inl, inr, refl, sym, ap, ap₂, subst, ◌∙◌, append_assoc}
use Rattle.std.proofs.lemmas.List.{map-append, append-nil}
use Rattle.std.specs.Map.{lookup}
use Rattle.std.specs.List.Sorted.{IsStrictlySortedBy}
use Rattle.std.specs.Cmp.Lexicographic.{pointwise, bytes_decides}
use Rattle.std.specs.declared.alloc.Global.{Global}
use Rattle.sha2.specs.Sha256.{sha256}
use Rattle.trie_model.specs.Root.{NoClash, zero_digest}
use Rattle.trie_model.proofs.Members.{IsIn, contains_of_in, in-append_left, in-append_right, all_at}
use Rattle.trie_model.proofs.Order.{Before}
use Rattle.partial_model.specs.Texts.{Rise}
use Rattle.partial_model.specs.Partial.{IsPartial}
use Rattle.partial_model.proofs.Clashes.{before_differs}
use Rattle.base_core.specs.declared.hash.Digest.{Digest}
use Rattle.text_store.specs.declared.marked.Marked.{Marked}
use Rattle.text_store.specs.TextSets.{texts_of_keys}
use Rattle.text_store.specs.PartialStates.{AreHeld, digest_taken, digests_used, fresh_entry, has_digest, texts_held, unread}
use Rattle.text_store.proofs.Gathering.{name_of, held-fresh, unread-fresh}

-- the table has some of the texts, and the others are left
pub record Sets (all : List (List ℕ)) (es : List (Digest × Marked)) (left : List (Vec ℕ Global)) : Type 0 where
  pub done : List (List ℕ)
  pub whole : es ≡ map fresh_entry done
  pub parts : all ≡ done ++ texts_of_keys left

pub Sets-init : (all : List (List ℕ)) (es : List (Digest × Marked)) (left : List (Vec ℕ Global)) → es ≡ [] → texts_of_keys left ≡ all → Sets all es left
Sets-init all es left none is = record { done = []; whole = none; parts = sym is }

-- ---- no digest is taken

held_one : (done : List (List ℕ)) (q : List ℕ) → has_digest (map fresh_entry done) q ≡ true → (u : List ℕ) × IsIn done u × (q ≡ sha256 u)
held_one [] q e = cc
held_one (u ∷ done) q e = go (pointwise nat_eq q (sha256 u)) refl e (held_one done q)
  where
    go : (b : Bool) → pointwise nat_eq q (sha256 u) ≡ b → is_some (cond b (Some (fresh_entry u).1) (lookup (λ key. pointwise nat_eq q key.0) (map fresh_entry done))) ≡ true → (has_digest (map fresh_entry done) q ≡ true → (v : List ℕ) × IsIn done v × (q ≡ sha256 v)) → (v : List ℕ) × IsIn (u ∷ done) v × (q ≡ sha256 v)
    go true s h rest = (u, inl refl, (bytes_decides q (sha256 u)).0 s)
    go false s h rest = let found = rest h in (found.0, inr found.1, found.2)

before_next : (done : List (List ℕ)) (t : List ℕ) (rest : List (List ℕ)) (u : List ℕ) → Rise (done ++ t ∷ rest) → IsIn done u → Before u t
unfolding IsStrictlySortedBy
before_next [] t rest u rise h = absurd h
before_next (x ∷ done) t rest u rise (inl is) = subst (λ (v : List ℕ). Before v t) is (all_at (λ v. Before x v) (done ++ t ∷ rest) t rise.0 (in-append_right done (t ∷ rest) t (inl refl)))
before_next (x ∷ done) t rest u rise (inr h) = before_next done t rest u rise.1 h

none_taken : (done : List (List ℕ)) (t : List ℕ) (rest : List (List ℕ)) → Rise (done ++ t ∷ rest) → NoClash (done ++ t ∷ rest) → digest_taken (map fresh_entry done) (sha256 t) ≡ None
none_taken done t rest rise apart =
    ap₂ (λ (a b : Bool). if a || b then Some (sha256 t) else None) (not_zero (pointwise nat_eq (sha256 t) zero_digest) refl) (not_held (has_digest (map fresh_entry done) (sha256 t)) refl)
  where
    here : Contains (done ++ t ∷ rest) t
    here = contains_of_in (done ++ t ∷ rest) t (in-append_right done (t ∷ rest) t (inl refl))

    not_zero : (b : Bool) → pointwise nat_eq (sha256 t) zero_digest ≡ b → b ≡ false
    not_zero true e = absurd (apart.nonzero t here ((bytes_decides (sha256 t) zero_digest).0 e))
    not_zero false e = refl

    not_held : (b : Bool) → has_digest (map fresh_entry done) (sha256 t) ≡ b → b ≡ false
    not_held true e =
        let one = held_one done (sha256 t) e in
        absurd (before_differs one.0 t (before_next done t rest one.0 rise one.1)
        (apart.apart one.0 t (contains_of_in (done ++ t ∷ rest) one.0 (in-append_left done (t ∷ rest) one.0 one.1)) here (sym one.2)))
    not_held false e = refl

no_name : (taken : Option Digest) → name_of taken ≡ None → taken ≡ None
no_name None e = refl
no_name (Some d) e = cc

-- ---- one more text, and all of them

pub Sets-more : (all : List (List ℕ)) (es fs : List (Digest × Marked)) (key : Vec ℕ Global) (left : List (Vec ℕ Global)) (taken : Option Digest) (text : List ℕ) → IsPartial all → NoClash all → Sets all es (key ∷ left) → text ≡ key.items
    → name_of taken ≡ digest_taken es (sha256 text) → IfNone taken (fs ≡ es ++ fresh_entry text ∷ []) → Sets all fs left
Sets-more all es fs key left taken text partial apart h is told last =
    let free : digest_taken (map fresh_entry h.done) (sha256 key.items) ≡ None = none_taken h.done key.items (texts_of_keys left) (subst Rise h.parts partial.rise) (subst NoClash h.parts apart) in
    let none : taken ≡ None = no_name taken (told ∙ (λ i. digest_taken (h.whole i) (sha256 (is i))) ∙ free) in
    record {
      done = h.done ++ key.items ∷ [];
      whole = subst (λ o. IfNone o (fs ≡ es ++ fresh_entry text ∷ [])) none last ∙ (λ i. h.whole i ++ fresh_entry (is i) ∷ []) ∙ sym (map-append fresh_entry h.done (key.items ∷ []));
      parts = h.parts ∙ sym (append_assoc h.done (key.items ∷ []) (texts_of_keys left));
    }

Sets-done : (all : List (List ℕ)) (es : List (Digest × Marked)) (left : List (Vec ℕ Global)) → left ≡ [] → Sets all es left → es ≡ map fresh_entry all
Sets-done all es left none h = h.whole ∙ ap (map fresh_entry) (sym (h.parts ∙ ap (λ (keys : List (Vec ℕ Global)). h.done ++ texts_of_keys keys) none ∙ append-nil h.done))

pub Sets-held : (all : List (List ℕ)) (es : List (Digest × Marked)) (left : List (Vec ℕ Global)) → left ≡ [] → IsPartial all → NoClash all → Sets all es left → AreHeld es
Sets-held all es left none partial apart h = held-fresh es all (Sets-done all es left none h) partial apart

pub Sets-unread : (all : List (List ℕ)) (es : List (Digest × Marked)) (left : List (Vec ℕ Global)) → left ≡ [] → Sets all es left → record { texts = texts_held es; kept = digests_used es; loads = 0 } ≡ unread all
Sets-unread all es left none h = unread-fresh es all (Sets-done all es left none h)
