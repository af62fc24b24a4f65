-- What is read as a recording is what is spelled.
use Rattle.std.proofs.Common.{◌≡◌, ℕ, zero, suc, ◌+◌, ◌^◌, ◌<◌, ◌≤◌, ◌==◌, true, false, if◌then◌else◌, List, [], ◌∷◌, ◌++◌, length, Option, None, Some, IfSome, Result, Ok, Err, refl, sym, ◌∙◌, ap, subst, arith, append_assoc}
use Rattle.std.specs.Prelude.{nat_lt}
use Rattle.std.specs.List.{AllByRecursion}
use Rattle.std.specs.FinMap.{entries, from_sorted}
use Rattle.std.proofs.lemmas.Bool.{eqb-true, ltb-false, le-ltb}
use Rattle.std.proofs.lemmas.List.{append-nil}
use Rattle.byte_model.specs.Nibbles.{AreBytes, longest_key}
use Rattle.byte_model.specs.Borsh.{borsh_u8, borsh_u32, borsh_bytes, borsh_option}
use Rattle.byte_model.specs.Node.{digest_width, longest_value}
use Rattle.record_model.specs.Fields.{FrameFault, Cursor, start_of, end_of}
use Rattle.record_model.proofs.Steps.{Gives, gives, and_then, unless, by_test, so_gives, Takes, Takes-then}
use Rattle.record_model.proofs.Fields.{one_byte, four_bytes, bytes_taken, bytes_again, number_taken, number_again, vector_taken, vector_again}
use Rattle.trie_model.specs.Root.{NoClash}
use Rattle.batch_model.specs.Changes.{Changes, Change, IsChange, most_changes}
use Rattle.partial_model.specs.Partial.{PartialFault, spelled_texts, spelled_partial}
use Rattle.partial_model.specs.Partial as partial
use Rattle.partial_model.specs.Recording.{head, Recording, IsRecording, IsKey, ReadHead, most_reads, spelled_change, spelled_changes, spelled_recording, in_frame, in_state, count_within, vector_within, keys_at, reads_at, value_at, becomes_at, follows, change_at, changes_from, changes_at, recording_in}
use Rattle.partial_model.proofs.Changes.{FollowOn, following-entries, from_sorted-entries, entries-following}
use Rattle.partial_model.proofs.Reading.{partial_at-found, partial_at-only, whole_gives}

-- ---- what was read was spelled

in_frame_gives : {X : Type 0} {P : X → Type 0} {read : Result X FrameFault} → Gives read P → Gives (in_frame read) P
in_frame_gives {read = Ok x} h = gives x h.given
in_frame_gives {read = Err e} h = record { given = tt }

in_state_gives : {X : Type 0} {P : X → Type 0} {read : Result X PartialFault} → Gives read P → Gives (in_state read) P
in_state_gives {read = Ok x} h = gives x h.given
in_state_gives {read = Err (partial.frame e)} h = record { given = tt }
in_state_gives {read = Err (partial.order place)} h = record { given = tt }
in_state_gives {read = Err (partial.clash digest)} h = record { given = tt }

record TakesCount (most : ℕ) (c : Cursor) (read : ℕ × Cursor) : Type 0 where
  took : Takes c (borsh_u32 read.0) read.1
  few : read.0 ≤ most

count_taken : (most : ℕ) (c : Cursor) → AreBytes c.left → Gives (count_within most c) (TakesCount most c)
unfolding count_within
count_taken most c small = and_then (in_frame_gives (number_taken four_bytes c small)) (λ count h. unless (nat_lt most count.0) _ _ (λ within. record { took = h.took; few = ltb-false _ _ within }))

record TakesWithin (most : ℕ) (c : Cursor) (read : List ℕ × Cursor) : Type 0 where
  took : Takes c (borsh_bytes read.0) read.1
  short : AreBytes read.0 × (length read.0 ≤ most)

within_taken : (most : ℕ) (c : Cursor) → AreBytes c.left → Gives (vector_within most c) (TakesWithin most c)
unfolding vector_within
within_taken most c small = and_then (in_frame_gives (vector_taken c small)) (λ bytes h. unless (nat_lt most (length bytes.0)) _ _ (λ within. record { took = h.took; short = (h.small, ltb-false _ _ within) }))

record TakesKeys (n : ℕ) (c : Cursor) (read : List (List ℕ) × Cursor) : Type 0 where
  took : Takes c (spelled_texts read.0) read.1
  count : length read.0 ≡ n
  each : AllByRecursion IsKey read.0

keys_taken : (n : ℕ) (c : Cursor) → AreBytes c.left → Gives (keys_at n c) (TakesKeys n c)
unfolding keys_at spelled_texts
keys_taken zero c small = gives _ (record { took = record { parts = refl; rest = small }; count = refl; each = tt })
keys_taken (suc n) c small = and_then (within_taken longest_key c small) (λ first h. and_then (keys_taken n first.1 h.took.rest) (λ others k. gives _ (record {
  took = Takes-then h.took k.took;
  count = ap suc k.count;
  each = (h.short, k.each);
})))

record TakesReads (c : Cursor) (read : List (List ℕ) × Cursor) : Type 0 where
  took : Takes c (borsh_u32 (length read.0) ++ spelled_texts read.0) read.1
  few : length read.0 ≤ most_reads
  each : AllByRecursion IsKey read.0

reads_taken : (c : Cursor) → AreBytes c.left → Gives (reads_at c) (TakesReads c)
unfolding reads_at
reads_taken c small = and_then (count_taken most_reads c small) (λ count h. so_gives (keys_taken count.0 count.1 h.took.rest) (λ read k. record {
  took = subst (λ n. Takes c (borsh_u32 n ++ spelled_texts read.0) read.1) (sym k.count) (Takes-then h.took k.took);
  few = omega (arith, k.count, h.few);
  each = k.each;
}))

record TakesBecomes (c : Cursor) (read : Option (List ℕ) × Cursor) : Type 0 where
  took : Takes c (borsh_option borsh_bytes read.0) read.1
  small : IfSome read.0 AreBytes
  short : IfSome read.0 (λ v. length v ≤ longest_value)

becomes_taken : (c : Cursor) → AreBytes c.left → Gives (becomes_at c) (TakesBecomes c)
unfolding becomes_at value_at
becomes_taken c small = and_then (in_frame_gives (number_taken one_byte c small)) (λ kind h. by_test (kind.0 == 0)
    (λ none. gives _ (record { took = subst (λ n. Takes c (borsh_u8 n) kind.1) (eqb-true _ _ none) h.took; small = tt; short = tt }))
    (λ some. by_test (kind.0 == 1)
    (λ one. and_then (within_taken longest_value kind.1 h.took.rest) (λ value k. gives _ (record {
      took = subst (λ n. Takes c (borsh_u8 n ++ borsh_bytes value.0) value.1) (eqb-true _ _ one) (Takes-then h.took k.took);
      small = k.short.0;
      short = k.short.1;
    })))
    (λ other. record { given = tt })))

record TakesChange (earlier : Option (List ℕ)) (c : Cursor) (read : Change × Cursor) : Type 0 where
  took : Takes c (spelled_change read.0) read.1
  change : IsChange read.0
  above : follows earlier read.0.0 ≡ true

above_taken : (earlier : Option (List ℕ)) (c : Cursor) (key : List ℕ × Cursor) → Gives (if follows earlier key.0 then Ok key else Err (head c.at)) (λ passed. (passed ≡ key) × (follows earlier key.0 ≡ true))
above_taken earlier c key = by_test (follows earlier key.0) (λ above. gives key (refl, above)) (λ below. record { given = tt })

change_taken : (earlier : Option (List ℕ)) (c : Cursor) → AreBytes c.left → Gives (change_at earlier c) (TakesChange earlier c)
unfolding change_at
change_taken earlier c small = and_then (within_taken longest_key c small) (λ key h. and_then (above_taken earlier c key) (λ passed above.
    let key_took : TakesWithin longest_key c passed = subst (TakesWithin longest_key c) (sym above.0) h in
    and_then (becomes_taken passed.1 key_took.took.rest) (λ value k. gives _ (record {
      took = Takes-then key_took.took k.took;
      change = record { key = key_took.short.0; key_length = key_took.short.1; value = k.small; value_length = k.short };
      above = ap (λ (p : List ℕ × Cursor). follows earlier p.0) above.0 ∙ above.1;
    }))))

record TakesChanges (n : ℕ) (earlier : Option (List ℕ)) (c : Cursor) (read : List Change × Cursor) : Type 0 where
  took : Takes c (spelled_changes read.0) read.1
  count : length read.0 ≡ n
  each : AllByRecursion IsChange read.0
  rising : FollowOn earlier read.0

changes_from_taken : (n : ℕ) (earlier : Option (List ℕ)) (c : Cursor) → AreBytes c.left → Gives (changes_from n earlier c) (TakesChanges n earlier c)
unfolding changes_from spelled_changes
changes_from_taken zero earlier c small = gives _ (record { took = record { parts = refl; rest = small }; count = refl; each = tt; rising = tt })
changes_from_taken (suc n) earlier c small = and_then (change_taken earlier c small) (λ first h. and_then (changes_from_taken n (Some first.0.0) first.1 h.took.rest) (λ others k. gives _ (record {
  took = Takes-then h.took k.took;
  count = ap suc k.count;
  each = (h.change, k.each);
  rising = (h.above, k.rising);
})))

record TakesBatch (c : Cursor) (read : List Change × Cursor) : Type 0 where
  took : Takes c (borsh_u32 (length read.0) ++ spelled_changes read.0) read.1
  few : length read.0 ≤ most_changes
  each : AllByRecursion IsChange read.0
  rising : FollowOn None read.0

changes_taken : (c : Cursor) → AreBytes c.left → Gives (changes_at c) (TakesBatch c)
unfolding changes_at
changes_taken c small = and_then (count_taken most_changes c small) (λ count h. so_gives (changes_from_taken count.0 None count.1 h.took.rest) (λ read k. record {
  took = subst (λ n. Takes c (borsh_u32 n ++ spelled_changes read.0) read.1) (sym k.count) (Takes-then h.took k.took);
  few = omega (arith, k.count, h.few);
  each = k.each;
  rising = k.rising;
}))

abbrev IsRead : List ℕ → Recording → Type 0
IsRead bytes r = IsRecording r × NoClash r.state × (bytes ≡ spelled_recording r)

pub recording_in-found : (bytes : List ℕ) → AreBytes bytes → Gives (recording_in bytes) (λ r. IsRecording r × NoClash r.state × (bytes ≡ spelled_recording r))
unfolding recording_in spelled_recording
recording_in-found bytes small = and_then (in_frame_gives (bytes_taken digest_width (start_of bytes) small)) (λ root h. and_then (reads_taken root.1 h.took.rest) (λ reads k.
    and_then (changes_taken reads.1 k.took.rest) (λ changes l. and_then (in_state_gives (partial_at-found changes.1 l.took.rest)) (λ state m.
    so_gives (in_frame_gives (whole_gives _ state.1)) (λ r e.
    let kept : entries (from_sorted changes.0) ≡ changes.0 = entries-following changes.0 l.rising in
    subst (IsRead bytes) (sym e.0) (
      record {
        root = (h.small, h.count);
        few_reads = k.few;
        each_read = k.each;
        changes = record { each = subst (AllByRecursion IsChange) (sym kept) l.each; few = subst (λ cs. length cs ≤ most_changes) (sym kept) l.few };
        state = m.0;
      },
      m.1,
      (Takes-then (Takes-then h.took k.took) l.took).parts ∙ ap (λ (left : List ℕ). root.0 ++ (borsh_u32 (length reads.0) ++ spelled_texts reads.0) ++ (borsh_u32 (length changes.0) ++ spelled_changes changes.0) ++ left) (m.2 ∙ ap (λ (left : List ℕ). spelled_partial state.0 ++ left) e.1 ∙ append-nil (spelled_partial state.0))
          ∙ ap (λ (cs : List Change). root.0 ++ (borsh_u32 (length reads.0) ++ spelled_texts reads.0) ++ (borsh_u32 (length cs) ++ spelled_changes cs) ++ spelled_partial state.0) (sym kept),
    ))))))

-- ---- what is spelled is read

-- a spelling is read as what it spells, whatever stands behind it, and some offset is reached
Again : {X : Type 0} → (Cursor → ReadHead X) → X → List ℕ → Type 0
Again read x text = (at : ℕ) (rest : List ℕ) → (after : ℕ) × (read (record { at = at; left = text ++ rest }) ≡ Ok (x, record { at = after; left = rest }))

count_again : (most n : ℕ) → n ≤ most → most < 2 ^ 32 → Again (count_within most) n (borsh_u32 n)
unfolding Again count_within
count_again most n few fits = λ at rest.
    let within : nat_lt most n ≡ false = le-ltb _ _ few in
    (at + 4, rw (number_again four_bytes n at rest (omega arith), within) refl)

within_again : (most : ℕ) (bytes : List ℕ) → length bytes ≤ most → most < 2 ^ 32 → Again (vector_within most) bytes (borsh_bytes bytes)
unfolding Again vector_within
within_again most bytes short fits = λ at rest.
    let within : nat_lt most (length bytes) ≡ false = le-ltb _ _ short in
    (at + 4 + length bytes, rw (vector_again bytes at rest (omega arith), within) refl)

keys_again : (keys : List (List ℕ)) → AllByRecursion IsKey keys → Again (keys_at (length keys)) keys (spelled_texts keys)
unfolding Again keys_at spelled_texts
keys_again [] each = λ at rest. (at, refl)
keys_again (key ∷ keys) each = λ at rest.
    let first = within_again longest_key key each.0.1 (omega arith) at (spelled_texts keys ++ rest) in
    let others = keys_again keys each.1 first.0 rest in
    (others.0, rw (append_assoc (borsh_bytes key) (spelled_texts keys) rest, first.1, others.1) refl)

reads_again : (keys : List (List ℕ)) → length keys ≤ most_reads → AllByRecursion IsKey keys → Again reads_at keys (borsh_u32 (length keys) ++ spelled_texts keys)
unfolding Again reads_at
reads_again keys few each = λ at rest.
    let count = count_again most_reads (length keys) few (omega arith) at (spelled_texts keys ++ rest) in
    let all = keys_again keys each count.0 rest in
    (all.0, rw (append_assoc (borsh_u32 (length keys)) (spelled_texts keys) rest, count.1) all.1)

becomes_again : (value : Option (List ℕ)) → IfSome value (λ v. length v ≤ longest_value) → Again becomes_at value (borsh_option borsh_bytes value)
unfolding Again becomes_at value_at
becomes_again None short = λ at rest. (at + 1, rw (number_again one_byte 0 at rest (omega arith)) refl)
becomes_again (Some v) short = λ at rest.
    let value = within_again longest_value v short (omega arith) (at + 1) rest in
    (value.0, rw (number_again one_byte 1 at (borsh_bytes v ++ rest) (omega arith), value.1) refl)

change_again : (earlier : Option (List ℕ)) (change : Change) → IsChange change → follows earlier change.0 ≡ true → Again (change_at earlier) change (spelled_change change)
unfolding Again change_at
change_again earlier change h above = λ at rest.
    let key = within_again longest_key change.0 h.key_length (omega arith) at (borsh_option borsh_bytes change.1 ++ rest) in
    let value = becomes_again change.1 h.value_length key.0 rest in
    (value.0, rw (append_assoc (borsh_bytes change.0) (borsh_option borsh_bytes change.1) rest, key.1, above, value.1) refl)

changes_from_again : (earlier : Option (List ℕ)) (changes : List Change) → AllByRecursion IsChange changes → FollowOn earlier changes → Again (changes_from (length changes) earlier) changes (spelled_changes changes)
unfolding Again changes_from spelled_changes
changes_from_again earlier [] each rising = λ at rest. (at, refl)
changes_from_again earlier (change ∷ changes) each rising = λ at rest.
    let first = change_again earlier change each.0 rising.0 at (spelled_changes changes ++ rest) in
    let others = changes_from_again (Some change.0) changes each.1 rising.1 first.0 rest in
    (others.0, rw (append_assoc (spelled_change change) (spelled_changes changes) rest, first.1, others.1) refl)

changes_again : (changes : List Change) → length changes ≤ most_changes → AllByRecursion IsChange changes → FollowOn None changes → Again changes_at changes (borsh_u32 (length changes) ++ spelled_changes changes)
unfolding Again changes_at
changes_again changes few each rising = λ at rest.
    let count = count_again most_changes (length changes) few (omega arith) at (spelled_changes changes ++ rest) in
    let all = changes_from_again None changes each rising count.0 rest in
    (all.0, rw (append_assoc (borsh_u32 (length changes)) (spelled_changes changes) rest, count.1) all.1)

pub recording_in-only : (r : Recording) → IsRecording r → NoClash r.state → recording_in (spelled_recording r) ≡ Ok r
unfolding Again recording_in spelled_recording end_of
recording_in-only r h apart =
    let reads_text = borsh_u32 (length r.reads) ++ spelled_texts r.reads in
    let changes_text = borsh_u32 (length (entries r.changes)) ++ spelled_changes (entries r.changes) in
    let state_text = spelled_partial r.state in
    let parts : r.root ++ reads_text ++ changes_text ++ state_text ≡ r.root ++ (reads_text ++ (changes_text ++ (state_text ++ []))) =
    append_assoc (r.root ++ reads_text) changes_text state_text ∙ append_assoc r.root reads_text (changes_text ++ state_text) ∙ ap (λ (left : List ℕ). r.root ++ (reads_text ++ (changes_text ++ left))) (sym (append-nil state_text)) in
    let reads = reads_again r.reads h.few_reads h.each_read (0 + digest_width) (changes_text ++ (state_text ++ [])) in
    let changes = changes_again (entries r.changes) h.changes.few h.changes.each (following-entries r.changes) reads.0 (state_text ++ []) in
    let same = from_sorted-entries r.changes in
    rw (parts, bytes_again digest_width r.root 0 (reads_text ++ (changes_text ++ (state_text ++ []))) h.root.1, reads.1, changes.1, partial_at-only r.state changes.0 [] h.state apart)
    (ap (λ (cs : Changes). Ok (record { root = r.root; reads = r.reads; changes = cs; state = r.state })) same)
