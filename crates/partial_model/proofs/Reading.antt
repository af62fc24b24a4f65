-- What is read as a partial state is what is spelled.
use Rattle.std.proofs.Common.{◌≡◌, ℕ, zero, suc, ◌+◌, ◌^◌, ◌<◌, ◌==◌, List, [], ◌∷◌, ◌++◌, length, Option, None, Some, MatchOption, Result, Ok, Err, refl, sym, ◌∙◌, ap, subst, arith, length-append, append_assoc}
use Rattle.std.specs.List.{AllByRecursion}
use Rattle.std.proofs.lemmas.Bool.{eqb-true}
use Rattle.std.proofs.lemmas.List.{append-nil, nil_from_length}
use Rattle.sha2.specs.Sha256.{sha256}
use Rattle.byte_model.specs.Nibbles.{AreBytes}
use Rattle.byte_model.specs.Borsh.{borsh_u8, borsh_u32, borsh_bytes}
use Rattle.record_model.specs.Fields.{FrameFault, Cursor, Read, start_of, end_of}
use Rattle.record_model.specs.Exact.{ReadsExactly}
use Rattle.record_model.proofs.Steps.{Gives, gives, and_then, by_test, so_gives, Takes, Takes-then}
use Rattle.record_model.proofs.Fields.{behind, one_byte, four_bytes, number_taken, number_again, vector_taken, vector_again}
use Rattle.record_model.proofs.Exact.{exact}
use Rattle.trie_model.specs.Root.{NoClash}
use Rattle.partial_model.specs.Texts.{Rise, FallsAt, first_fall, least_clash}
use Rattle.partial_model.specs.Partial.{AreTexts, IsPartial, spelled_texts, spelled_partial, texts_at, counted_at, listed_at, PartialFault, framed, judged, tested, partial_at, partial_in}
use Rattle.partial_model.proofs.Falls.{falls_found, no_fall}
use Rattle.partial_model.proofs.Clashes.{NoClash-of_none, none_of_NoClash}

-- ---- texts

record TakesTexts (n : ℕ) (c : Cursor) (read : List (List ℕ) × Cursor) : Type 0 where
  took : Takes c (spelled_texts read.0) read.1
  count : length read.0 ≡ n
  each : AllByRecursion (λ t. AreBytes t × (length t < 2 ^ 32)) read.0

texts_taken : (n : ℕ) (c : Cursor) → AreBytes c.left → Gives (texts_at n c) (TakesTexts n c)
unfolding texts_at spelled_texts
texts_taken zero c small = gives _ (record { took = record { parts = refl; rest = small }; count = refl; each = tt })
texts_taken (suc n) c small = and_then (vector_taken c small) (λ first h. and_then (texts_taken n first.1 h.took.rest) (λ others k. gives _ (record {
  took = Takes-then h.took k.took;
  count = ap suc k.count;
  each = ((h.small, h.fits), k.each);
})))

texts_again : (ts : List (List ℕ)) (at : ℕ) (rest : List ℕ) → AllByRecursion (λ t. AreBytes t × (length t < 2 ^ 32)) ts → texts_at (length ts) (record { at = at; left = spelled_texts ts ++ rest }) ≡ Ok (ts, behind at (length (spelled_texts ts)) rest)
unfolding texts_at spelled_texts
texts_again [] at rest each = ap (λ (offset : ℕ). Ok ([], record { at = offset; left = rest })) (omega arith)
texts_again (t ∷ ts) at rest each =
    let offset : at + 4 + length t + length (spelled_texts ts) ≡ at + length (borsh_bytes t ++ spelled_texts ts) = omega (arith, length-append (borsh_bytes t) (spelled_texts ts), length-append (borsh_u32 (length t)) t, four_bytes.len (length t)) in
    rw (append_assoc (borsh_bytes t) (spelled_texts ts) rest, vector_again t at (spelled_texts ts ++ rest) each.0.1, texts_again ts (at + 4 + length t) rest each.1)
    (ap (λ (n : ℕ). Ok (t ∷ ts, record { at = n; left = rest })) offset)

-- ---- the layout

record TakesListed (c : Cursor) (read : List (List ℕ) × Cursor) : Type 0 where
  took : Takes c (spelled_partial read.0) read.1
  fit : AreTexts read.0

counted_taken : (c : Cursor) → AreBytes c.left → Gives (counted_at c) (λ read. Takes c (borsh_u32 (length read.0) ++ spelled_texts read.0) read.1 × AreTexts read.0)
unfolding counted_at
counted_taken c small = and_then (number_taken four_bytes c small) (λ count h. so_gives (texts_taken count.0 count.1 h.took.rest) (λ read k. (
  subst (λ n. Takes c (borsh_u32 n ++ spelled_texts read.0) read.1) (sym k.count) (Takes-then h.took k.took),
  record { few = omega (arith, k.count, h.fits); each = k.each },
)))

listed_taken : (c : Cursor) → AreBytes c.left → Gives (listed_at c) (TakesListed c)
unfolding listed_at spelled_partial
listed_taken c small = and_then (number_taken one_byte c small) (λ version h. by_test (version.0 == 0)
    (λ zeroed. so_gives (counted_taken version.1 h.took.rest) (λ read k. record {
      took = subst (λ (text : List ℕ). Takes c text read.1) (sym (append_assoc (borsh_u8 0) (borsh_u32 (length read.0)) (spelled_texts read.0)))
          (subst (λ n. Takes c (borsh_u8 n ++ (borsh_u32 (length read.0) ++ spelled_texts read.0)) read.1) (eqb-true _ _ zeroed) (Takes-then h.took k.0));
      fit = k.1;
    }))
    (λ other. record { given = tt }))

listed_again : (ts : List (List ℕ)) (at : ℕ) (rest : List ℕ) → AreTexts ts → listed_at (record { at = at; left = spelled_partial ts ++ rest }) ≡ Ok (ts, behind at (length (spelled_partial ts)) rest)
unfolding listed_at counted_at spelled_partial
listed_again ts at rest fit =
    let count = length ts in
    let parts : (borsh_u8 0 ++ borsh_u32 count ++ spelled_texts ts) ++ rest ≡ borsh_u8 0 ++ (borsh_u32 count ++ (spelled_texts ts ++ rest)) =
    append_assoc (borsh_u8 0 ++ borsh_u32 count) (spelled_texts ts) rest ∙ append_assoc (borsh_u8 0) (borsh_u32 count) (spelled_texts ts ++ rest) in
    let offset : at + 1 + 4 + length (spelled_texts ts) ≡ at + length (borsh_u8 0 ++ borsh_u32 count ++ spelled_texts ts) = omega (arith, length-append (borsh_u8 0 ++ borsh_u32 count) (spelled_texts ts), length-append (borsh_u8 0) (borsh_u32 count), four_bytes.len count) in
    rw (parts, number_again one_byte 0 at (borsh_u32 count ++ (spelled_texts ts ++ rest)) (omega arith), number_again four_bytes count (at + 1) (spelled_texts ts ++ rest) fit.few, texts_again ts (at + 1 + 4) rest fit.each)
    (ap (λ (n : ℕ). Ok (ts, record { at = n; left = rest })) offset)

pub listed-exact : ReadsExactly listed_at spelled_partial AreTexts
listed-exact = exact spelled_partial AreTexts (λ c small. so_gives (listed_taken c small) (λ r h. (h.fit, h.took))) listed_again

pub listed-prefix : (some others : List (List ℕ)) (more rest : List ℕ) → AreTexts some → AreTexts others → spelled_partial some ++ more ≡ spelled_partial others ++ rest → (some ≡ others) × (more ≡ rest)
listed-prefix some others more rest h k e =
    let read : ◌≡◌ {A = Read (List (List ℕ))} (Ok (some, behind 0 (length (spelled_partial some)) more)) (Ok (others, behind 0 (length (spelled_partial others)) rest)) =
    sym (listed_again some 0 more h) ∙ ap (λ (left : List ℕ). listed_at (record { at = 0; left = left })) e ∙ listed_again others 0 rest k in
    (ap texts_of read, ap left_of read)
  where
    texts_of : Read (List (List ℕ)) → List (List ℕ)
    texts_of (Ok r) = r.0
    texts_of (Err f) = []

    left_of : Read (List (List ℕ)) → List ℕ
    left_of (Ok r) = r.1.left
    left_of (Err f) = []

-- ---- the tests

record Passes (texts passed : List (List ℕ)) : Type 0 where
  same : passed ≡ texts
  rise : Rise texts
  apart : NoClash texts

tested_gives : (texts : List (List ℕ)) → Gives (tested texts) (Passes texts)
tested_gives texts = go (first_fall texts) (falls_found texts) (least_clash sha256 texts) refl
  where
    go : (fall : Option ℕ) → MatchOption fall (Rise texts) (FallsAt texts) → (found : Option (List ℕ)) → least_clash sha256 texts ≡ found → Gives (judged texts fall found) (Passes texts)
    go (Some place) h found e = record { given = tt }
    go None rise (Some digest) e = record { given = tt }
    go None rise None e = gives texts (record { same = refl; rise = rise; apart = NoClash-of_none texts rise e })

tested_only : (texts : List (List ℕ)) → Rise texts → NoClash texts → tested texts ≡ Ok texts
tested_only texts rise apart = rw (no_fall texts rise, none_of_NoClash texts rise apart) refl

-- ---- whole files, and what others follow

framed_gives : {X : Type 0} {P : X → Type 0} {read : Result X FrameFault} → Gives read P → Gives (framed read) P
framed_gives {read = Ok x} h = gives x h.given
framed_gives {read = Err e} h = record { given = tt }

abbrev pub IsFound : Cursor → List (List ℕ) × Cursor → Type 0
IsFound c read = IsPartial read.0 × NoClash read.0 × (c.left ≡ spelled_partial read.0 ++ read.1.left) × (read.1.at ≡ c.at + length (spelled_partial read.0))

listed_gives : (c : Cursor) → AreBytes c.left → Gives (listed_at c) (λ r. AreTexts r.0 × (c.left ≡ spelled_partial r.0 ++ r.1.left) × (r.1.at ≡ c.at + length (spelled_partial r.0)))
listed_gives c small = record { given = listed-exact.found c small }

pub partial_at-found : (c : Cursor) → AreBytes c.left → Gives (partial_at c) (IsFound c)
unfolding partial_at
partial_at-found c small = and_then (framed_gives (listed_gives c small)) (λ listed h. and_then (tested_gives listed.0) (λ texts k. gives _ (
  record { texts_fit = subst AreTexts (sym k.same) h.0; rise = subst Rise (sym k.same) k.rise },
  subst NoClash (sym k.same) k.apart,
  h.1 ∙ ap (λ (ts : List (List ℕ)). spelled_partial ts ++ listed.1.left) (sym k.same),
  h.2 ∙ ap (λ (ts : List (List ℕ)). listed_at_end c ts) (sym k.same),
)))
  where
    listed_at_end : Cursor → List (List ℕ) → ℕ
    listed_at_end c ts = c.at + length (spelled_partial ts)

pub partial_at-only : (texts : List (List ℕ)) (at : ℕ) (rest : List ℕ) → IsPartial texts → NoClash texts → partial_at (record { at = at; left = spelled_partial texts ++ rest }) ≡ Ok (texts, behind at (length (spelled_partial texts)) rest)
unfolding partial_at
partial_at-only texts at rest h apart = rw (listed_again texts at rest h.texts_fit, tested_only texts h.rise apart) refl

pub whole_gives : {X : Type 0} (x : X) (c : Cursor) → Gives (end_of x c) (λ y. (y ≡ x) × (c.left ≡ []))
unfolding end_of
whole_gives x c = by_test (length c.left == 0) (λ e. gives x (refl, nil_from_length c.left (eqb-true _ _ e))) (λ e. record { given = tt })

pub partial_in-found : (bytes : List ℕ) → AreBytes bytes → Gives (partial_in bytes) (λ texts. IsPartial texts × NoClash texts × (bytes ≡ spelled_partial texts))
unfolding partial_in
partial_in-found bytes small = and_then (framed_gives (listed_gives (start_of bytes) small)) (λ listed h. and_then (framed_gives (whole_gives listed.0 listed.1)) (λ whole e. so_gives (tested_gives whole) (λ texts k.
    let same : texts ≡ listed.0 = k.same ∙ e.0 in (
      record { texts_fit = subst AreTexts (sym same) h.0; rise = subst Rise (sym k.same) k.rise },
      subst NoClash (sym k.same) k.apart,
      h.1 ∙ ap (λ (left : List ℕ). spelled_partial listed.0 ++ left) e.1 ∙ append-nil (spelled_partial listed.0) ∙ ap spelled_partial (sym same),
    ))))

-- texts that are spelled are read and tested
pub partial_in-spelled : (texts : List (List ℕ)) → AreTexts texts → partial_in (spelled_partial texts) ≡ tested texts
unfolding partial_in end_of
partial_in-spelled texts fit =
    let listed : listed_at (start_of (spelled_partial texts)) ≡ Ok (texts, behind 0 (length (spelled_partial texts)) []) =
    ap (λ (left : List ℕ). listed_at (start_of left)) (sym (append-nil (spelled_partial texts))) ∙ listed_again texts 0 [] fit in
    rw listed refl

pub partial_in-only : (texts : List (List ℕ)) → IsPartial texts → NoClash texts → partial_in (spelled_partial texts) ≡ Ok texts
partial_in-only texts h apart = partial_in-spelled texts h.texts_fit ∙ tested_only texts h.rise apart

-- what passes the tests are the texts themselves
pub passed_are : (texts passed : List (List ℕ)) → tested texts ≡ Ok passed → passed ≡ texts
passed_are texts passed e = go (first_fall texts) (least_clash sha256 texts) e
  where
    texts_of : Result (List (List ℕ)) PartialFault → List (List ℕ)
    texts_of (Ok ts) = ts
    texts_of (Err f) = []

    go : (fall : Option ℕ) (found : Option (List ℕ)) → judged texts fall found ≡ Ok passed → passed ≡ texts
    go (Some place) found k = cc
    go None (Some digest) k = cc
    go None None k = ap texts_of (sym k)
