-- What `PartialTexts` are seen as, and what is answered where bytes are read as such.
use Rattle.std.specs.Prelude.{◌≡◌, ℕ, not, ◌||◌, nat_eq, Bool, false, is_some, None, List, [], ◌∷◌, map, Option, Some, position, Result, Ok, Err, if◌then◌else◌, ⊤, refl}
use Rattle.std.specs.List.{AllByRecursion}
use Rattle.std.specs.Cmp.Lexicographic.{pointwise}
use Rattle.std.specs.Map.{lookup}
use Rattle.std.specs.FinMap.{from_entries}
use Rattle.std.specs.FinSet as set
use Rattle.std.specs.FinSet.{empty, contains, insert}
use Rattle.std.specs.Coded.{Coded, code_by, coded×, coded_ℕ, coded_list}
use Rattle.sha2.specs.Sha256.{sha256}
use Rattle.record_model.specs.Fields.{Cursor, Read}
use Rattle.trie_model.specs.Root.{Table, NoClash, zero_digest}
use Rattle.partial_model.specs.Partial.{IsPartial, PartialFault, frame, order, clash, framed, tested, partial_at, partial_in}
use Rattle.base_core.specs.declared.hash.Digest.{Digest}
use Rattle.base_core.specs.Reading.{fault_of}
use Rattle.text_store.specs.Store.{Digests, Store}
use Rattle.text_store.specs.declared.errors.PartialError.{PartialError}
use Rattle.text_store.specs.declared.errors.PartialError.TheVariants.{Frame, Order, Clash, NoMemory}
use Rattle.text_store.specs.declared.marked.Marked.{Marked}

-- ---- what they are seen as

-- the texts at their places, the digests of those that were loaded, and how many loads there were
pub record PartialState : Type 0 where
  pub texts : List (List ℕ)
  pub kept : Digests
  pub loads : ℕ

abbrev pub partial_state_code : Coded PartialState
partial_state_code =
    code_by (List (List ℕ) × (Digests × ℕ)) (coded× (coded_list (coded_list coded_ℕ)) (coded× (set.code (coded_list coded_ℕ)) coded_ℕ))
    (λ s. (s.texts, (s.kept, s.loads)))
    (λ p. record { texts = p.0; kept = p.1.0; loads = p.1.1 })
    (λ _. refl)

-- before any load
abbrev pub unread : List (List ℕ) → PartialState
unread texts = record { texts = texts; kept = empty; loads = 0 }

-- each text under its digest
abbrev pub table_of : List (List ℕ) → Table
table_of texts = from_entries (map (λ t. (sha256 t, t)) texts)

-- Two are alike where they have the same texts. The digests of the texts that were loaded are kept, and none fails.
abbrev pub partial_store : Store PartialState
partial_store = record {
  texts = λ state. table_of state.texts;
  loads = λ state. state.loads;
  faults = λ state. 0;
  kept = λ state. Some state.kept;
  alike = λ a b. a.texts ≡ b.texts;
}

-- the least place of a text that was never loaded
abbrev pub first_unused : PartialState → Option ℕ
first_unused state = position (λ t. not (contains state.kept (sha256 t))) state.texts

-- ---- the table in which they are kept

abbrev pub texts_held : List (Digest × Marked) → List (List ℕ)
texts_held es = map (λ e. e.1.text) es

abbrev pub digests_used : List (Digest × Marked) → Digests
digests_used [] = empty
digests_used (e ∷ es) = if e.1.used then insert (digests_used es) e.0.0 else digests_used es

-- whether a text stands under a digest
abbrev pub has_digest : List (Digest × Marked) → List ℕ → Bool
has_digest es digest = is_some (lookup (λ key. pointwise nat_eq digest key.0) es)

-- a text that was not loaded yet, under its digest
abbrev pub fresh_entry : List ℕ → Digest × Marked
fresh_entry text = (record { 0 = sha256 text }, record { text = text; used = false })

-- what is answered where a text is put into a table that has it already under its digest, or may not have it
abbrev pub digest_taken : List (Digest × Marked) → List ℕ → Option (List ℕ)
digest_taken es digest = if pointwise nat_eq digest zero_digest || has_digest es digest then Some digest else None

-- Each text stands under its own digest, and they are a partial state whose texts don't clash.
pub record AreHeld (es : List (Digest × Marked)) : Type 0 where
  pub named : AllByRecursion (λ e. e.0.0 ≡ sha256 e.1.text) es
  pub partial : IsPartial (texts_held es)
  pub apart : NoClash (texts_held es)

-- ---- what is answered

-- why bytes were refused: what reading them says, or there was no memory
abbrev pub IsRefused : {X : Type 0} → PartialError → Result X PartialFault → Type 0
IsRefused NoMemory read = ⊤
IsRefused (Frame error) read = read ≡ Err (frame (fault_of error))
IsRefused (Order place) read = read ≡ Err (order place)
IsRefused (Clash digest) read = read ≡ Err (clash digest.0)

-- what is answered where all of some bytes are read
abbrev pub AnswersWhole : Result PartialState PartialError → List ℕ → Type 0
AnswersWhole (Ok held) bytes = (partial_in bytes ≡ Ok held.texts) × (held ≡ unread held.texts)
AnswersWhole (Err error) bytes = IsRefused error (partial_in bytes)

-- and where a partial state is read from a reader, which is left behind it
abbrev pub AnswersFirst : Result PartialState PartialError → Cursor → Cursor → Type 0
AnswersFirst (Ok held) old new = (partial_at old ≡ Ok (held.texts, new)) × (held ≡ unread held.texts)
AnswersFirst (Err error) old new = IsRefused error (partial_at old)

-- and where texts are tested
abbrev pub AnswersTexts : Result PartialState PartialError → List (List ℕ) → Type 0
AnswersTexts (Ok held) texts = (tested texts ≡ Ok texts) × (held ≡ unread texts)
AnswersTexts (Err error) texts = IsRefused error (tested texts)

-- and where texts are read from a reader, in any order
abbrev pub Lists : {X : Type 0} → (X → List (List ℕ)) → Result X PartialError → Cursor → Cursor → (Cursor → Read (List (List ℕ))) → Type 0
Lists view (Ok x) old new read = read old ≡ Ok (view x, new)
Lists view (Err error) old new read = IsRefused error (framed (read old))
