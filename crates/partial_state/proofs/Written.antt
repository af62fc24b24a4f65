-- Writing reads, texts and changes, one after the other.
use Rattle.std.proofs.Common.{◌≡◌, ◌++◌, ◌+◌, ◌<◌, ◌≤◌, ◌^◌, List, [], ◌∷◌, ℕ, length, map, drop, slice_get, get_or, Bor, Option, None, Some, IfSome, sym, ap, subst, ◌∙◌, arith, append_assoc}
use Rattle.std.proofs.lemmas.List.{append-nil, drop_more, length-map}
use Rattle.std.proofs.lemmas.Option.{slice_get_within, get_or_from_slice_get}
use Rattle.std.proofs.Math.ListN.{drop_of_length-le, get_or-map}
use Rattle.std.specs.List.{AllByRecursion}
use Rattle.std.specs.Option.{option_copied}
use Rattle.std.specs.FinMap.{entries}
use Rattle.byte_model.specs.Nibbles.{AreBytes, longest_key}
use Rattle.byte_model.specs.Borsh.{borsh_u8, borsh_u32, borsh_bytes}
use Rattle.byte_model.specs.Node.{longest_value}
use Rattle.batch_model.specs.Changes.{Change, IsChange}
use Rattle.byte_model.proofs.Lists.{AllByRecursion-weaker}
use Rattle.partial_model.specs.Partial.{IsPartial, spelled_texts, spelled_partial}
use Rattle.partial_model.specs.Recording.{Recording, spelled_change, spelled_changes, spelled_recording}

-- what was written, and then the texts that are left, are the whole
pub record WritesTexts (whole : List ℕ) (texts : List (List ℕ)) (i : ℕ) (written : List ℕ) : Type 0 where
  pub spells : written ++ spelled_texts (drop i texts) ≡ whole
  pub short : AllByRecursion (λ t. length t < 2 ^ 32) (drop i texts)

pub writes-state : (texts : List (List ℕ)) (start written : List ℕ) → IsPartial texts → written ≡ start ++ borsh_u8 0 ++ borsh_u32 (length texts) → WritesTexts (start ++ spelled_partial texts) texts 0 written
unfolding spelled_partial
writes-state texts start written h is = record {
  spells = ap (λ (w : List ℕ). w ++ spelled_texts texts) (is ∙ append_assoc start (borsh_u8 0) (borsh_u32 (length texts))) ∙ append_assoc start (borsh_u8 0 ++ borsh_u32 (length texts)) (spelled_texts texts);
  short = AllByRecursion-weaker (λ t. AreBytes t × (length t < 2 ^ 32)) (λ t. length t < 2 ^ 32) (λ t k. k.1) texts h.texts_fit.each;
}

module _ (whole : List ℕ) (texts : List (List ℕ)) (i : ℕ) (written text : List ℕ) (here : drop i texts ≡ text ∷ drop (i + 1) texts) (h : WritesTexts whole texts i written) where
  left : AllByRecursion (λ t. length t < 2 ^ 32) (text ∷ drop (i + 1) texts)
  left = subst (AllByRecursion (λ t. length t < 2 ^ 32)) here h.short

  pub next-short : length text < 2 ^ 32
  next-short = left.0

  pub next-written : (after : List ℕ) → after ≡ written ++ borsh_bytes text → WritesTexts whole texts (i + 1) after
  unfolding spelled_texts
  next-written after is = record {
    spells = ap (λ (w : List ℕ). w ++ spelled_texts (drop (i + 1) texts)) is ∙ append_assoc written (borsh_bytes text) (spelled_texts (drop (i + 1) texts)) ∙ ap (λ (ts : List (List ℕ)). written ++ spelled_texts ts) (sym here) ∙ h.spells;
    short = left.1;
  }

pub all-written : (whole : List ℕ) (texts : List (List ℕ)) (i : ℕ) (written : List ℕ) → length texts ≤ i → WritesTexts whole texts i written → written ≡ whole
unfolding spelled_texts
all-written whole texts i written ended h = sym (append-nil written) ∙ ap (λ (ts : List (List ℕ)). written ++ spelled_texts ts) (sym (drop_of_length-le texts {i = i} ended)) ∙ h.spells

-- a text at a place
pub drop-at : (texts : List (List ℕ)) (i : ℕ) (text : List ℕ) → slice_get texts i ≡ Some text → drop i texts ≡ text ∷ drop (i + 1) texts
drop-at texts i text e = drop_more texts i [] (slice_get_within texts i text e) ∙ ap (λ (u : List ℕ). u ∷ drop (i + 1) texts) (get_or_from_slice_get texts i text [] e)

-- ---- changes

pub record WritesChanges (whole : List ℕ) (changes : List Change) (i : ℕ) (written : List ℕ) : Type 0 where
  pub spells : written ++ spelled_changes (drop i changes) ≡ whole
  pub each : AllByRecursion IsChange (drop i changes)

pub writes-changes : (changes others : List Change) (start written : List ℕ) → AllByRecursion IsChange others → changes ≡ others → written ≡ start ++ borsh_u32 (length changes) → WritesChanges (start ++ (borsh_u32 (length others) ++ spelled_changes others)) changes 0 written
writes-changes changes others start written h same is = subst (λ (cs : List Change). WritesChanges (start ++ (borsh_u32 (length cs) ++ spelled_changes cs)) changes 0 written) same (record {
  spells = ap (λ (w : List ℕ). w ++ spelled_changes changes) is ∙ append_assoc start (borsh_u32 (length changes)) (spelled_changes changes);
  each = subst (AllByRecursion IsChange) (sym same) h;
})

-- a row as it is lent
abbrev pub Lent : Type 0
Lent = Bor (List ℕ) × Option (Bor (List ℕ))

abbrev pub seen : Lent → Change
seen row = (row.0.now, option_copied row.1)

short_value : (value : Option (Bor (List ℕ))) → IfSome (option_copied value) (λ v. length v ≤ longest_value) → IfSome value (λ v. length v.now < 2 ^ 32)
short_value None h = tt
short_value (Some v) h = omega (arith, h)

module _ (whole : List ℕ) (rows : List Lent) (i : ℕ) (written : List ℕ) (d : Lent) (within : i < length rows) (h : WritesChanges whole (map seen rows) i written) where
  here : drop i (map seen rows) ≡ seen (get_or rows i d) ∷ drop (i + 1) (map seen rows)
  here =
      let long : length (map seen rows) ≡ length rows = length-map rows seen in
      drop_more (map seen rows) i (seen d) (omega (arith, long, within)) ∙ ap (λ (change : Change). change ∷ drop (i + 1) (map seen rows)) (get_or-map seen rows i d)

  others : AllByRecursion IsChange (seen (get_or rows i d) ∷ drop (i + 1) (map seen rows))
  others = subst (AllByRecursion IsChange) here h.each

  pub next-key : length (get_or rows i d).0.now < 2 ^ 32
  next-key = let short : length (get_or rows i d).0.now ≤ longest_key = others.0.key_length in omega (arith, short)

  pub next-value : IfSome (get_or rows i d).1 (λ v. length v.now < 2 ^ 32)
  next-value = short_value (get_or rows i d).1 others.0.value_length

  pub next-change : (after : List ℕ) → after ≡ written ++ spelled_change (seen (get_or rows i d)) → WritesChanges whole (map seen rows) (i + 1) after
  unfolding spelled_changes
  next-change after is = record {
    spells = ap (λ (w : List ℕ). w ++ spelled_changes (drop (i + 1) (map seen rows))) is ∙ append_assoc written (spelled_change (seen (get_or rows i d))) (spelled_changes (drop (i + 1) (map seen rows))) ∙ ap (λ (cs : List Change). written ++ spelled_changes cs) (sym here) ∙ h.spells;
    each = others.1;
  }

pub all-changes : (whole : List ℕ) (changes : List Change) (i : ℕ) (written : List ℕ) → length changes ≤ i → WritesChanges whole changes i written → written ≡ whole
unfolding spelled_changes
all-changes whole changes i written ended h = sym (append-nil written) ∙ ap (λ (cs : List Change). written ++ spelled_changes cs) (sym (drop_of_length-le changes {i = i} ended)) ∙ h.spells

-- ---- the parts

pub recording-written : (r : Recording) (a b c d : List ℕ) → a ≡ r.root → b ≡ a ++ (borsh_u32 (length r.reads) ++ spelled_texts r.reads) → c ≡ b ++ (borsh_u32 (length (entries r.changes)) ++ spelled_changes (entries r.changes)) → d ≡ c ++ spelled_partial r.state
    → d ≡ spelled_recording r
unfolding spelled_recording
recording-written r a b c d root reads changes state =
    state ∙ ap (λ (w : List ℕ). w ++ spelled_partial r.state) (changes ∙ ap (λ (w : List ℕ). w ++ (borsh_u32 (length (entries r.changes)) ++ spelled_changes (entries r.changes))) (reads ∙ ap (λ (w : List ℕ). w ++ (borsh_u32 (length r.reads) ++ spelled_texts r.reads)) root))
