-- The digests of texts, each at its text's place.
use Rattle.std.proofs.Common.{◌≡◌, ℕ, zero, suc, ◌+◌, ◌<◌, ◌≤◌, List, [], ◌∷◌, ◌++◌, map, length, drop, get_or, Vec, refl, sym, ap, subst, ◌∙◌, arith, length-append, append_assoc}
use Rattle.std.proofs.lemmas.List.{append-nil, drop_more, length-map}
use Rattle.std.proofs.Math.ListN.{drop_of_length-le}
use Rattle.std.proofs.Math.Seq.{get_or-append_seam}
use Rattle.std.specs.declared.alloc.Global.{Global}
use Rattle.sha2.specs.Sha256.{sha256}
use Rattle.base_core.specs.declared.hash.Digest.{Digest}
use Rattle.text_store.specs.declared.marked.Marked.{Marked}
use Rattle.text_store.specs.PartialStates.{fresh_entry}
use Rattle.text_store.specs.TextSets.{texts_of_keys}
use Rattle.text_store.proofs.Setting.{Sets}

abbrev pub names_of : List Digest → List (List ℕ)
names_of digests = map (λ digest. digest.0) digests

-- ---- they are made one after the other

pub names-more : (all : List (List ℕ)) (digests after : List Digest) (d : Digest) (t : List ℕ) (left : List (List ℕ)) → names_of digests ++ map sha256 (t ∷ left) ≡ all → d.0 ≡ sha256 t → after ≡ digests ++ d ∷ [] → names_of after ++ map sha256 left ≡ all
names-more all digests after d t left h is put =
    ap (λ (ds : List Digest). names_of ds ++ map sha256 left) put ∙ ap (λ (ns : List (List ℕ)). ns ++ map sha256 left) (names-append digests) ∙ append_assoc (names_of digests) (d.0 ∷ []) (map sha256 left)
    ∙ ap (λ (n : List ℕ). names_of digests ++ n ∷ map sha256 left) is ∙ h
  where
    names-append : (ds : List Digest) → names_of (ds ++ d ∷ []) ≡ names_of ds ++ d.0 ∷ []
    names-append [] = refl
    names-append (e ∷ ds) = ap (λ (ns : List (List ℕ)). e.0 ∷ ns) (names-append ds)

pub names-next : (texts : List (List ℕ)) (i : ℕ) (digests after : List Digest) (d : Digest) → i < length texts → names_of digests ++ map sha256 (drop i texts) ≡ map sha256 texts → d.0 ≡ sha256 (get_or texts i []) → after ≡ digests ++ d ∷ [] → names_of after ++ map sha256 (drop (i + 1) texts) ≡ map sha256 texts
names-next texts i digests after d within h is put =
    names-more (map sha256 texts) digests after d (get_or texts i []) (drop (i + 1) texts) (subst (λ (ts : List (List ℕ)). names_of digests ++ map sha256 ts ≡ map sha256 texts) (drop_more texts i [] within) h) is put

pub names-all : (texts : List (List ℕ)) (i : ℕ) (digests : List Digest) → length texts ≤ i → names_of digests ++ map sha256 (drop i texts) ≡ map sha256 texts → names_of digests ≡ map sha256 texts
names-all texts i digests ended h = sym (append-nil (names_of digests)) ∙ sym (ap (λ (ts : List (List ℕ)). names_of digests ++ map sha256 ts) (drop_of_length-le texts {i = i} ended)) ∙ h

-- ---- one of them

pub named-at : (digests : List Digest) (texts : List (List ℕ)) (i : ℕ) (d : Digest) → names_of digests ≡ map sha256 texts → i < length texts → (get_or digests i d).0 ≡ sha256 (get_or texts i [])
named-at digests [] i d e within = absurd (omega (arith, within))
named-at [] (t ∷ texts) i d e within = cc
named-at (x ∷ digests) (t ∷ texts) zero d e within = ap (λ (ns : List (List ℕ)). get_or ns 0 []) e
named-at (x ∷ digests) (t ∷ texts) (suc i) d e within = named-at digests texts i d (ap (λ (ns : List (List ℕ)). drop 1 ns) e) (omega (arith, within))

-- the next text of a set that is put into a table
module _ (all : List (List ℕ)) (es : List (Digest × Marked)) (key : Vec ℕ Global) (left : List (Vec ℕ Global)) (digests : List Digest) (named : names_of digests ≡ map sha256 all) (h : Sets all es (key ∷ left)) where
  place : length es ≡ length h.done
  place = ap (λ (fs : List (Digest × Marked)). length fs) h.whole ∙ length-map h.done fresh_entry

  within : length es < length all
  within = let whole : length all ≡ length (h.done ++ texts_of_keys (key ∷ left)) = ap (λ (ts : List (List ℕ)). length ts) h.parts in omega (arith, place, whole, length-append h.done (texts_of_keys (key ∷ left)))

  pub next-named : (d : Digest) (text : List ℕ) → text ≡ key.items → (get_or digests (length es) d).0 ≡ sha256 text
  next-named d text is =
      named-at digests all (length es) d named within
      ∙ ap sha256 (ap (λ n. get_or all n []) place ∙ ap (λ (ts : List (List ℕ)). get_or ts (length h.done) []) h.parts ∙ get_or-append_seam h.done key.items (texts_of_keys left) [] ∙ sym is)
