-- The notes of loads, against the digests that are kept.
use Rattle.std.proofs.Common.{◌≡◌, ◌≢◌, ℕ, Bool, true, false, cond, if◌then◌else◌, Result, Ok, Err, IfOk, List, [], ◌∷◌, map, Option, Some, None, Less, Equal, Greater, inl, inr, refl, sym, ap, subst, ◌∙◌}
use Rattle.std.specs.Prelude.{nat_eq, OnOk, OnErr, IfSome, IsSomeAnd, is_some, Contains}
use Rattle.std.specs.Cmp.{eq_by_cmp_equiv}
use Rattle.std.proofs.lemmas.Map.Views.{list_any-from_Contains}
use Rattle.std.specs.Borrow.{Bor}
use Rattle.std.specs.Ordering.{nat_cmp}
use Rattle.std.specs.Option.{option_copied}
use Rattle.std.specs.Cmp.Lexicographic.{slice_cmp, nat_list_cmp_total, bytes_decides, pointwise}
use Rattle.std.specs.FinMap.{get, empty, entries, entries-insert, get-insert, get-empty, contains_key-keys}
use Rattle.std.specs.FinMap.Entries.{put, by_order}
use Rattle.std.specs.List.{list_any}
use Rattle.std.specs.List.Sorted.{IsStrictlySortedBy}
use Rattle.std.specs.Result.{is_err}
use Rattle.std.specs.HashSet.{HashSet, Updates}
use Rattle.std.specs.FinSet as set
use Rattle.std.specs.FinSet.{insert}
use Rattle.std.proofs.lemmas.Map.Lookups.{exact_bytes}
use Rattle.std.proofs.lemmas.Option.{none-some}
use Rattle.sha2.specs.Sha256.{sha256}
use Rattle.trie_model.specs.Root.{Table, NoClash, zero_digest}
use Rattle.partial_model.specs.Texts.{SetOfTexts, with_text, texts_in}
use Rattle.partial_model.proofs.Sets.{texts_in-set_of}
use Rattle.base_core.specs.declared.hash.Digest.{Digest}
use Rattle.base_core.proofs.ByteMaps.{order, is_same, same_from}
use Rattle.text_store.specs.Store.{Digests, Store}
use Rattle.text_store.specs.Loading.{IsNamed, Loaded, Keeps}
use Rattle.text_store.proofs.Marks.{insert-again, insert-swap}
use Rattle.partial_state.specs.declared.noting.Notes.{Notes}
use Rattle.partial_state.specs.Recorders.{noted_digests, kept_by, AreTexts, IsNoted, NotesLoad, noting_store}
use Rattle.partial_state.specs.NotedTexts.{digests_of, IsDigestOf, AreDigestsOf, IsPut}

-- ---- the digests of one more text

abbrev texts : List (List ℕ × Unit {0}) → List (List ℕ)
texts es = map (λ e. e.0) es

put-digests : (es : List (List ℕ × Unit {0})) (t : List ℕ) → digests_of (texts (put (slice_cmp nat_cmp) t tt es)) ≡ insert (digests_of (texts es)) (sha256 t)
unfolding digests_of
put-digests [] t = refl
put-digests (e ∷ es) t =
    elim (order t e.0) as (λ r. order t e.0 ≡ r → digests_of (texts (by_order r ((t, tt) ∷ e ∷ es) ((e.0, tt) ∷ es) (e ∷ put (slice_cmp nat_cmp) t tt es))) ≡ insert (insert (digests_of (texts es)) (sha256 e.0)) (sha256 t)) [
      | Less ↦ λ _. refl
      | Equal ↦ λ same. sym (subst (λ (u : List ℕ). insert (insert (digests_of (texts es)) (sha256 e.0)) (sha256 u) ≡ insert (digests_of (texts es)) (sha256 e.0)) (sym (exact_bytes t e.0 same)) (insert-again (digests_of (texts es)) (sha256 e.0)))
      | Greater ↦ λ _. ap (λ (set : Digests). insert set (sha256 e.0)) (put-digests es t) ∙ insert-swap (digests_of (texts es)) (sha256 t) (sha256 e.0)
    ] refl

pub digests-with_text : (set : SetOfTexts) (t : List ℕ) → digests_of (texts_in (with_text set t)) ≡ insert (digests_of (texts_in set)) (sha256 t)
digests-with_text set t = ap (λ (es : List (List ℕ × Unit {0})). digests_of (texts es)) (entries-insert nat_list_cmp_total set t tt) ∙ put-digests (entries set) t

digests-put : (old new : SetOfTexts) (t : List ℕ) → IsPut old new t → digests_of (texts_in new) ≡ insert (digests_of (texts_in old)) (sha256 t)
digests-put old new t (inl put) = ap (λ (set : SetOfTexts). digests_of (texts_in set)) put ∙ digests-with_text old t
digests-put old new t (inr held) = ap (λ (set : SetOfTexts). digests_of (texts_in set)) held.0 ∙ sym held.1

-- ---- the digests under which texts were put in

pub digests-more : (set : SetOfTexts) (digests : List Digest) (t : List ℕ) → AreDigestsOf set digests → AreDigestsOf (with_text set t) digests
digests-more set digests t are digest among =
    subst (λ (ds : Digests). insert ds digest.0 ≡ ds) (sym (digests-with_text set t))
    (insert-swap (digests_of (texts_in set)) (sha256 t) digest.0 ∙ ap (λ (ds : Digests). insert ds (sha256 t)) (are digest among))

digest-put : (set : SetOfTexts) (t : List ℕ) → IsDigestOf (with_text set t) (sha256 t)
digest-put set t = subst (λ (ds : Digests). insert ds (sha256 t) ≡ ds) (sym (digests-with_text set t)) (insert-again (digests_of (texts_in set)) (sha256 t))

-- whether a digest is among these
abbrev among : List Digest → Digest → Bool
among digests digest = list_any (λ d. pointwise nat_eq digest.0 d.0) digests

digests-insert : (set : SetOfTexts) (old new : List Digest) (d : Digest) (t : List ℕ) → sha256 t ≡ d.0 → ((q : Digest) → among new q ≡ cond (pointwise nat_eq d.0 q.0) true (among old q)) → AreDigestsOf set old → AreDigestsOf (with_text set t) new
digests-insert set old new d t named updates are digest there = go (pointwise nat_eq d.0 digest.0) refl (sym (updates digest) ∙ there)
  where
    go : (b : Bool) → pointwise nat_eq d.0 digest.0 ≡ b → cond b true (among old digest) ≡ true → IsDigestOf (with_text set t) digest.0
    go true same e = subst (λ (q : List ℕ). IsDigestOf (with_text set t) q) (named ∙ (bytes_decides d.0 digest.0).0 same) (digest-put set t)
    go false differ e = digests-more set old t are digest e

-- where there is memory for the digest, and where there is none
pub digests-inserted : {A E S : Type 0} (set : SetOfTexts) (old new : HashSet Digest S) (d : Digest) (t : List ℕ) → sha256 t ≡ d.0 → (r : Result A E) → OnOk r (Updates (λ (a b : Digest). pointwise nat_eq a.0 b.0) old new d true) → OnErr r (new.keys ≡ old.keys) → AreDigestsOf set old.keys → AreDigestsOf (with_text set t) new.keys
digests-inserted set old new d t named (Ok a) updates same are = digests-insert set old.keys new.keys d t named updates.0 are
digests-inserted set old new d t named (Err e) updates same are = subst (λ (ds : List Digest). AreDigestsOf (with_text set t) ds) (sym same) (digests-more set old.keys t are)

-- ---- the notes, after their texts

pub noted-put : {A E : Type 0} (old : Notes) (texts : SetOfTexts) (t : List ℕ) (r : Result A E) → is_err r ≡ false → OnOk r (IsPut old.texts texts t) → IsNoted old (record old { texts = texts }) t
noted-put old texts t (Ok a) is put = inl (refl, put)
noted-put old texts t (Err e) is put = cc

pub noted-short : {A E : Type 0} (old : Notes) (texts : SetOfTexts) (t : List ℕ) (r : Result A E) → is_err r ≡ true → OnErr r (texts ≡ old.texts) → IsNoted old (record old { texts = texts; short = true }) t
noted-short old texts t (Ok a) is same = cc
noted-short old texts t (Err e) is same = inr (ap (λ (set : SetOfTexts). record old { texts = set; short = true }) same)

-- ---- what a load leaves

abbrev Kept : Notes → Notes → List ℕ → Type 0
Kept old new d = IfSome (kept_by new) (λ now. IsSomeAnd (kept_by old) (λ were. now ≡ insert were d))

keeps-noted : (old new : Notes) (t d : List ℕ) → sha256 t ≡ d → IsNoted old new t → Kept old new d
keeps-noted old new t d named (inl noted) =
    subst (λ (n : Notes). Kept old n d) (sym noted.0)
    (elim old.short as (λ b. IfSome (if b then None else Some (digests_of (texts_in new.texts))) (λ now. IsSomeAnd (if b then None else Some (digests_of (texts_in old.texts))) (λ were. now ≡ insert were d))) [
      | true ↦ tt
      | false ↦ digests-put old.texts new.texts t noted.1 ∙ ap (insert (digests_of (texts_in old.texts))) named
    ])
keeps-noted old new t d named (inr short) = subst (λ (n : Notes). Kept old n d) (sym short) tt

of_with_text : (set : SetOfTexts) (t : List ℕ) (P : List ℕ → Type 0) → P t → ((u : List ℕ) → get set u ≡ Some tt → P u) → (u : List ℕ) → get (with_text set t) u ≡ Some tt → P u
of_with_text set t P here others u there =
    elim (is_same u t) as (λ b. is_same u t ≡ b → cond b (Some tt) (get set u) ≡ Some (tt {0}) → P u) [
      | true ↦ λ same _. subst P (sym (same_from u t same)) here
      | false ↦ λ _ h. others u h
    ] refl (sym (get-insert nat_list_cmp_total set t tt u) ∙ there)

are-with_text : (table : Table) (set : SetOfTexts) (t : List ℕ) → get table (sha256 t) ≡ Some t → sha256 t ≢ zero_digest → AreTexts table set → AreTexts table (with_text set t)
are-with_text table set t held nonzero are = record {
  held = of_with_text set t (λ u. get table (sha256 u) ≡ Some u) held are.held;
  nonzero = of_with_text set t (λ u. sha256 u ≢ zero_digest) nonzero are.nonzero;
}

are-put : (table : Table) (old new : SetOfTexts) (t : List ℕ) → IsPut old new t → AreTexts table old → AreTexts table (with_text old t) → AreTexts table new
are-put table old new t (inl put) were are = subst (λ (set : SetOfTexts). AreTexts table set) (sym put) are
are-put table old new t (inr held) were are = subst (λ (set : SetOfTexts). AreTexts table set) (sym held.0) were

are-noted : (table : Table) (old new : Notes) (t d : List ℕ) → IsNamed table → get table d ≡ Some t → IsNoted old new t → AreTexts table old.texts → AreTexts table new.texts
are-noted table old new t d named found (inl noted) are =
    let is : sha256 t ≡ d = named.own d t found in
    are-put table old.texts new.texts t noted.1 are
    (are-with_text table old.texts t (subst (λ (q : List ℕ). get table q ≡ Some t) (sym is) found) (λ zero. none-some t (sym named.nonzero ∙ subst (λ (q : List ℕ). get table q ≡ Some t) (sym is ∙ zero) found)) are)
are-noted table old new t d named found (inr short) are = subst (λ (n : Notes). AreTexts table n.texts) (sym short) are

module _ {R S : Type 0} (store : Store S) (below : R → S) (notes : R → Notes) (a b : R) (d : List ℕ) where
  abbrev table : Table
  table = store.texts (below a)

  remembers : {E : Type 0} (r : Result (Option (Bor (List ℕ))) E) → IfOk r (λ found. option_copied found ≡ get table d) → IsNamed table → NotesLoad (notes a) (notes b) r → Keeps (kept_by (notes a)) (kept_by (notes b)) d r
  remembers (Ok (Some found)) value named noted = keeps-noted (notes a) (notes b) found.now d (named.own d found.now (sym value)) noted
  remembers (Ok None) value named noted = ap kept_by noted
  remembers (Err fault) value named noted = ap kept_by noted

  stays : {E : Type 0} (r : Result (Option (Bor (List ℕ))) E) → IfOk r (λ found. option_copied found ≡ get table d) → IsNamed table → NotesLoad (notes a) (notes b) r → AreTexts table (notes a).texts → AreTexts table (notes b).texts
  stays (Ok (Some found)) value named noted are =
      are-noted table (notes a) (notes b) found.now d named (sym value) noted are
  stays (Ok None) value named noted are = subst (λ (n : Notes). AreTexts table n.texts) (sym noted) are
  stays (Err fault) value named noted are = subst (λ (n : Notes). AreTexts table n.texts) (sym noted) are

  pub noted-load : {E : Type 0} (r : Result (Option (Bor (List ℕ))) E) → IfOk r (λ found. option_copied found ≡ get table d) → IsNamed table → table ≡ store.texts (below b) → Loaded store (below a) (below b) d r → NotesLoad (notes a) (notes b) r → Loaded (noting_store store below notes) a b d r
  noted-load r value named same loaded noted = record {
    same = (loaded.same, λ are. subst (λ (t : Table). AreTexts t (notes b).texts) same (stays r value named noted are));
    loaded = loaded.loaded;
    failed = loaded.failed;
    remembered = remembers r value named noted;
  }

-- ---- the notes as a partial state

pub are-none : (table : Table) → AreTexts table empty
are-none known = record {
  held = λ u there. absurd (none-some tt (sym (get-empty (slice_cmp nat_cmp) u) ∙ there));
  nonzero = λ u there. absurd (none-some tt (sym (get-empty (slice_cmp nat_cmp) u) ∙ there));
}

-- a text of the set is found there
pub found-in : (set : SetOfTexts) (t : List ℕ) → Contains (texts_in set) t → get set t ≡ Some tt
found-in set t i = known (get set t) (contains_key-keys set t ∙ list_any-from_Contains (eq_by_cmp_equiv nat_list_cmp_total) t (texts_in set) i)
  where
    known : (o : Option (Unit {0})) → is_some o ≡ true → o ≡ Some tt
    known (Some x) e = refl
    known None e = cc

pub apart : (table : Table) (set : SetOfTexts) → AreTexts table set → NoClash (texts_in set)
apart table set are = record {
  apart = λ a b ia ib same. one a b (sym (are.held a (found-in set a ia)) ∙ ap (get table) same ∙ are.held b (found-in set b ib));
  nonzero = λ a i. are.nonzero a (found-in set a i);
}
  where
    one : (a b : List ℕ) → Some a ≡ Some b → a ≡ b
    one a b e = cc e

pub noted-none : (notes : Notes) → notes.texts ≡ empty → noted_digests notes ≡ set.empty
unfolding digests_of IsStrictlySortedBy
noted-none notes none = ap (λ (set : SetOfTexts). digests_of (texts_in set)) none ∙ ap digests_of (texts_in-set_of [] tt)
