-- What a batch gains and loses, entry by entry.
use Rattle.std.proofs.Common.{◌≡◌, ℕ, ◌+◌, ◌≤◌, ◌<◌, Bool, true, false, nat_lt, cond, List, [], ◌∷◌, ◌++◌, length, drop, drop_of_length-le, Some, sym, ap, ◌∙◌, append_assoc, append-nil, arith}
use Rattle.std.specs.List.{filter, slice_get}
use Rattle.std.proofs.lemmas.List.{map-append}
use Rattle.std.proofs.lemmas.Bool.Decides.{nat_tests}
use Rattle.count_model.specs.Entries.{Entry}
use Rattle.flat_store.proofs.Passing.{drop_at}
use Rattle.trie_update.specs.declared.change.LostText.{LostText}
use Rattle.trie_update.specs.declared.change.MadeText.{MadeText}
use Rattle.shard_core.specs.Ledgers.{entries_of, gains_of, losses_of}
use Rattle.shard_core.specs.declared.occurrences.Occurrences.{Occurrences}

abbrev more_than_none : Entry → Bool
more_than_none entry = nat_lt 0 entry.1

abbrev pub counted_gains : List MadeText → List Entry
counted_gains made = filter (λ entry. nat_lt 0 entry.1) (gains_of made)

-- ---- gains

-- those that are gathered, and those that are left
abbrev pub Gathers : List Occurrences → (made : List MadeText) → ℕ → Type 0
Gathers gains made i = entries_of gains ++ counted_gains (drop i made) ≡ counted_gains made

module _ (gains : List Occurrences) (made : List MadeText) (i : ℕ) (m : MadeText) (at : slice_get made i ≡ Some m) (is : Gathers gains made i) where
  left : (b : Bool) → more_than_none (m.digest.0, m.times) ≡ b → counted_gains (drop i made) ≡ cond b ((m.digest.0, m.times) ∷ counted_gains (drop (i + 1) made)) (counted_gains (drop (i + 1) made))
  left b e = ap counted_gains (drop_at made i m at) ∙ ap (λ b. cond b ((m.digest.0, m.times) ∷ counted_gains (drop (i + 1) made)) (counted_gains (drop (i + 1) made))) e

  pub gathers-more : 0 < m.times → (later : List Occurrences) → later ≡ gains ++ record { digest = m.digest; times = m.times } ∷ [] → Gathers later made (i + 1)
  gathers-more some later put =
      ap (λ list. entries_of list ++ counted_gains (drop (i + 1) made)) put
      ∙ ap (λ list. list ++ counted_gains (drop (i + 1) made)) (map-append (λ (o : Occurrences). (o.digest.0, o.times)) gains (record { digest = m.digest; times = m.times } ∷ []))
      ∙ append_assoc (entries_of gains) ((m.digest.0, m.times) ∷ []) (counted_gains (drop (i + 1) made))
      ∙ ap (λ list. entries_of gains ++ list) (sym (left true (test m.times some)))
      ∙ is
    where
      test : (n : ℕ) → 0 < n → nat_lt 0 n ≡ true
      test n h = grind (arith, nat_tests)

  pub gathers-past : m.times ≤ 0 → Gathers gains made (i + 1)
  gathers-past none = ap (λ list. entries_of gains ++ list) (sym (left false (test m.times none))) ∙ is
    where
      test : (n : ℕ) → n ≤ 0 → nat_lt 0 n ≡ false
      test n h = grind (arith, nat_tests)

pub gathers-all : (gains : List Occurrences) (made : List MadeText) (i : ℕ) → Gathers gains made i → length made ≤ i → entries_of gains ≡ counted_gains made
gathers-all gains made i is ended = sym (append-nil (entries_of gains)) ∙ ap (λ list. entries_of gains ++ counted_gains list) (sym (drop_of_length-le made {i = i} ended)) ∙ is

-- ---- losses

abbrev pub Copies : List Occurrences → (lost : List LostText) → ℕ → Type 0
Copies losses lost i = entries_of losses ++ losses_of (drop i lost) ≡ losses_of lost

pub copies-more : (losses : List Occurrences) (lost : List LostText) (i : ℕ) (l : LostText) → slice_get lost i ≡ Some l → Copies losses lost i → (later : List Occurrences) → later ≡ losses ++ record { digest = l.digest; times = l.times } ∷ [] → Copies later lost (i + 1)
copies-more losses lost i l at is later put =
    ap (λ list. entries_of list ++ losses_of (drop (i + 1) lost)) put
    ∙ ap (λ list. list ++ losses_of (drop (i + 1) lost)) (map-append (λ (o : Occurrences). (o.digest.0, o.times)) losses (record { digest = l.digest; times = l.times } ∷ []))
    ∙ append_assoc (entries_of losses) ((l.digest.0, l.times) ∷ []) (losses_of (drop (i + 1) lost))
    ∙ ap (λ list. entries_of losses ++ losses_of list) (sym (drop_at lost i l at))
    ∙ is

pub copies-all : (losses : List Occurrences) (lost : List LostText) (i : ℕ) → Copies losses lost i → length lost ≤ i → entries_of losses ≡ losses_of lost
copies-all losses lost i is ended = sym (append-nil (entries_of losses)) ∙ ap (λ list. entries_of losses ++ losses_of list) (sym (drop_of_length-le lost {i = i} ended)) ∙ is
