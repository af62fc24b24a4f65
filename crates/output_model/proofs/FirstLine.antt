-- What becomes of some lines of a script, by the first of them.
use Rattle.std.proofs.Common.{◌≡◌, ◌≢◌, ℕ, ◌+◌, ◌<◌, ◌≤◌, Bool, true, false, cond, List, [], ◌∷◌, length, refl, sym, ap, ◌∙◌, subst, arith, ⊎_elim}
use mathlib.Core.Path.{fun_ext}
use Rattle.std.specs.List.{slice_split, onto_first, position_or_len}
use Rattle.std.proofs.lemmas.Bool.{lt-ltb, le-ltb, ne_eqb, cases_lt}
use Rattle.std.proofs.lemmas.List.{nil_from_length, length-drop, take_all}
use Rattle.std.proofs.lemmas.List.Elements.{All-from_get_or}
use Rattle.std.proofs.lemmas.List.Splits.{slice_split_none, slice_split_first}
use Rattle.std.proofs.lemmas.List.Sums.{fails_before_first}
use Rattle.script_model.specs.Lines.{pieces, is_line_feed, first_line, first_feed, behind_line, first_fault, line_fault, event_if, read_at}
use Rattle.output_model.specs.Scripts.{Script, Outcome, after_line, at_last, lines_outcome}

-- ---- pieces

split_some : (p : ℕ → Bool) (bytes : List ℕ) → (first : List ℕ) × (others : List (List ℕ)) × (slice_split p bytes ≡ first ∷ others)
split_some p [] = ([], [], refl)
split_some p (x ∷ bytes) = here (p x) (slice_split p bytes)
  where
    onto : (parts : List (List ℕ)) → (first : List ℕ) × (others : List (List ℕ)) × (onto_first x parts ≡ first ∷ others)
    onto [] = (x ∷ [], [], refl)
    onto (part ∷ parts) = (x ∷ part, parts, refl)

    here : (b : Bool) (parts : List (List ℕ)) → (first : List ℕ) × (others : List (List ℕ)) × (cond b ([] ∷ parts) (onto_first x parts) ≡ first ∷ others)
    here true parts = ([], parts, refl)
    here false parts = onto parts

-- bytes with a line feed, and without
pub pieces-fed : (bytes : List ℕ) → position_or_len is_line_feed bytes < length bytes → pieces bytes ≡ first_line bytes ∷ pieces (behind_line bytes)
pieces-fed bytes h = slice_split_first is_line_feed bytes 0 h

pub pieces-unfed : (bytes : List ℕ) → length bytes ≤ position_or_len is_line_feed bytes → pieces bytes ≡ bytes ∷ []
pieces-unfed bytes h = slice_split_none is_line_feed bytes (All-from_get_or (λ x. is_line_feed x ≡ false) bytes 0 (λ i lt. fails_before_first is_line_feed bytes i 0 (omega arith)))

pub first_line-unfed : (bytes : List ℕ) → length bytes ≤ position_or_len is_line_feed bytes → first_line bytes ≡ bytes
first_line-unfed bytes h = take_all (position_or_len is_line_feed bytes) bytes h

pub behind_line-unfed : (bytes : List ℕ) → length bytes ≤ position_or_len is_line_feed bytes → behind_line bytes ≡ []
behind_line-unfed bytes h = nil_from_length (behind_line bytes) (omega (arith, length-drop (position_or_len is_line_feed bytes + 1) bytes))

pub first_feed-fed : (bytes : List ℕ) → position_or_len is_line_feed bytes < length bytes → first_feed bytes ≡ 1
first_feed-fed bytes h = rw (lt-ltb (position_or_len is_line_feed bytes) (length bytes) h) refl

pub first_feed-unfed : (bytes : List ℕ) → length bytes ≤ position_or_len is_line_feed bytes → first_feed bytes ≡ 0
first_feed-unfed bytes h = rw (le-ltb (position_or_len is_line_feed bytes) (length bytes) h) refl

-- ---- some lines

-- of a line and others behind it
next_outcome : {S : Type 0} (script : Script S) (before number : ℕ) (state : S) (line : List ℕ) (lines : List (List ℕ)) → (first : List ℕ) × (others : List (List ℕ)) × (lines ≡ first ∷ others)
    → lines_outcome script before number state (line ∷ lines) ≡ after_line script number (read_at before 1 line) state (λ after. lines_outcome script (before + length line + 1) (number + 1) after lines)
unfolding lines_outcome
next_outcome script before number state line lines some =
    subst (λ (lines : List (List ℕ)). lines_outcome script before number state (line ∷ lines) ≡ after_line script number (read_at before 1 line) state (λ after. lines_outcome script (before + length line + 1) (number + 1) after lines)) (sym some.2) refl

-- of the last line
last_outcome : {S : Type 0} (script : Script S) (before number : ℕ) (state : S) (line : List ℕ) → length line ≢ 0
    → lines_outcome script before number state (line ∷ []) ≡ after_line script number (read_at before 0 line) state (λ after. at_last script (number + 1) after)
unfolding lines_outcome
last_outcome script before number state line some = rw (ne_eqb (length line) 0 some) refl

-- of no byte
pub end_outcome : {S : Type 0} (script : Script S) (before number : ℕ) (state : S) → lines_outcome script before number state (pieces []) ≡ at_last script number state
unfolding lines_outcome
end_outcome script before number state = refl

abbrev line_then : {S : Type 0} → Script S → (before number : ℕ) → S → List ℕ → Outcome S
line_then script before number state bytes =
    after_line script number (event_if (first_fault before bytes) (first_line bytes)) state
    (λ after. lines_outcome script (before + length (first_line bytes) + first_feed bytes) (number + 1) after (pieces (behind_line bytes)))

fed_outcome : {S : Type 0} (script : Script S) (before number : ℕ) (state : S) (bytes : List ℕ) → position_or_len is_line_feed bytes < length bytes
    → lines_outcome script before number state (pieces bytes) ≡ line_then script before number state bytes
unfolding read_at
fed_outcome script before number state bytes h =
    ap (lines_outcome script before number state) (pieces-fed bytes h)
    ∙ next_outcome script before number state (first_line bytes) (pieces (behind_line bytes)) (split_some is_line_feed (behind_line bytes))
    ∙ rw (first_feed-fed bytes h) refl

unfed_outcome : {S : Type 0} (script : Script S) (before number : ℕ) (state : S) (bytes : List ℕ) → length bytes ≢ 0 → length bytes ≤ position_or_len is_line_feed bytes
    → lines_outcome script before number state (pieces bytes) ≡ line_then script before number state bytes
unfolding read_at
unfed_outcome script before number state bytes some h =
    ap (lines_outcome script before number state) (pieces-unfed bytes h)
    ∙ last_outcome script before number state bytes some
    ∙ rw (first_feed-unfed bytes h, first_line-unfed bytes h, behind_line-unfed bytes h)
    (ap (after_line script number (event_if (line_fault before (length bytes) 0) bytes) state) (fun_ext (λ after. sym (end_outcome script (before + length bytes + 0) (number + 1) after))))

-- of some bytes: by the first line of them
pub first_outcome : {S : Type 0} (script : Script S) (before number : ℕ) (state : S) (bytes : List ℕ) → length bytes ≢ 0
    → lines_outcome script before number state (pieces bytes) ≡ line_then script before number state bytes
first_outcome script before number state bytes some =
    ⊎_elim (λ h. fed_outcome script before number state bytes h) (λ h. unfed_outcome script before number state bytes some h) (cases_lt (position_or_len is_line_feed bytes) (length bytes))
