-- The first line of bytes of which some are pending and the others are left in the source.
use Rattle.std.proofs.Common.{◌≡◌, ◌≢◌, ℕ, suc, ◌+◌, ◌-◌, ◌<◌, ◌≤◌, Bool, true, false, not, cond, List, [], ◌∷◌, ◌++◌, length, take, drop, Option, Some, None, Result, Ok, Err, IfSome, IfOk, IfErr, refl, sym, ap, subst, ◌∙◌, arith}
use Rattle.std.specs.Prelude.{position}
use Rattle.std.specs.Option.{option_map}
use Rattle.std.proofs.lemmas.Bool.{lt-ltb, le-ltb}
use Rattle.std.proofs.lemmas.List.{append-nil, append_assoc, take-append-le, drop-append-le, length-append, length-take, length-drop, nil_from_length, take-append-drop, take-take, take_all}
use Rattle.base_core.specs.Faults.{faults_after}
use Rattle.script_model.specs.Lines.{is_line_feed, line_fault, first_line, first_feed, first_fault, behind_line, LineFault, long, past, longest_line}
use Rattle.script_model.proofs.LineFaults.{fault_grows, read_bounds}
use Rattle.script_io.specs.declared.line_error.LineError.{LineError}
use Rattle.script_io.specs.declared.line_error.LineError.TheVariants.{Long, Past, ReadFault, NoMemory}
use Rattle.script_io.specs.declared.window.LineSpan.{LineSpan}
use Rattle.script_io.specs.LinesStates.{IsLeft, Extends, IsOpen, IsOpenAt, ended_by}
use Rattle.script_io.specs.Windows.{feed_index, Takes, IsFirst, IsBounded, Finds, error_of, judged_by, judgement_of}
use Rattle.script_io.proofs.Cuts.{past_end, at_position, position_or_len-le, position_or_len-drop}

-- a line of so many bytes, with a line feed and without
abbrev pub fed : ℕ → LineSpan
fed n = record { length = n; feed = 1 }

abbrev pub unfed : ℕ → LineSpan
unfed n = record { length = n; feed = 0 }

-- ---- where the first line feed is

feed_index-le : (bytes : List ℕ) → feed_index bytes ≤ length bytes
feed_index-le bytes = position_or_len-le is_line_feed bytes

fed-step : (b : Bool) (n k m : ℕ) → (n < m → k ≡ n) → cond b (1 + n) 0 < suc m → cond b (1 + k) 0 ≡ cond b (1 + n) 0
fed-step true n k m f h = ap (λ i. 1 + i) (f (omega arith))
fed-step false n k m f h = refl

feed_index-fed : (p q : List ℕ) → feed_index p < length p → feed_index (p ++ q) ≡ feed_index p
feed_index-fed [] q h = absurd (omega arith)
feed_index-fed (x ∷ p) q h = fed-step (not (is_line_feed x)) (feed_index p) (feed_index (p ++ q)) (length p) (feed_index-fed p q) h

unfed-step : (b : Bool) (n k m r : ℕ) → (m ≤ n → k ≡ m + r) → suc m ≤ cond b (1 + n) 0 → cond b (1 + k) 0 ≡ suc m + r
unfed-step true n k m r f h = omega (arith, f (omega arith))
unfed-step false n k m r f h = absurd (omega arith)

feed_index-unfed : (p q : List ℕ) → length p ≤ feed_index p → feed_index (p ++ q) ≡ length p + feed_index q
feed_index-unfed [] q h = omega arith
feed_index-unfed (x ∷ p) q h = unfed-step (not (is_line_feed x)) (feed_index p) (feed_index (p ++ q)) (length p) (feed_index q) (feed_index-unfed p q) h

-- what a search behind the bytes that were looked at finds
pub scanned-le : (scanned : ℕ) (pending : List ℕ) → scanned ≤ feed_index pending → scanned ≤ length pending
scanned-le scanned pending h = omega (arith, feed_index-le pending)

pub no_feed_behind : (scanned : ℕ) (pending rest : List ℕ) → rest ≡ drop scanned pending → scanned ≤ feed_index pending → position is_line_feed rest ≡ None → length pending ≤ feed_index pending
no_feed_behind scanned pending rest e h none =
    let past = past_end is_line_feed (drop scanned pending) (ap (position is_line_feed) (sym e) ∙ none) in
    omega (arith, position_or_len-drop is_line_feed scanned pending h, length-drop scanned pending)

pub feed_behind : (scanned i : ℕ) (pending rest : List ℕ) → rest ≡ drop scanned pending → scanned ≤ feed_index pending → position is_line_feed rest ≡ Some i → (scanned + i < length pending) × (feed_index pending ≡ scanned + i)
feed_behind scanned i pending rest e h some =
    let at = at_position is_line_feed (drop scanned pending) i (ap (position is_line_feed) (sym e) ∙ some) in
    (omega (arith, at.1, length-drop scanned pending), position_or_len-drop is_line_feed scanned pending h ∙ ap (λ n. scanned + n) at.0)

-- ---- pending bytes that end the first line

-- a fault of the line, however it was found
told_fault : (bytes : List ℕ) (before : ℕ) (pending : List ℕ) (after : Option (List ℕ)) (fault : LineFault) → first_fault before bytes ≡ Some fault → Finds bytes before pending after (Err (error_of fault))
told_fault bytes before pending after long e = e
told_fault bytes before pending after past e = e

module _ (before n : ℕ) (pending rest : List ℕ) (lt : n < length pending) (at : feed_index pending ≡ n) where
  whole : feed_index (pending ++ rest) ≡ n
  whole = feed_index-fed pending rest (omega arith) ∙ at

  fed_feed : first_feed (pending ++ rest) ≡ 1
  fed_feed = rw (lt-ltb (feed_index (pending ++ rest)) (length (pending ++ rest)) (omega (arith, whole, length-append pending rest))) refl

  fed_fault : first_fault before (pending ++ rest) ≡ line_fault before n 1
  fed_fault = rw fed_feed (ap (λ k. line_fault before k 1) (omega (arith, whole, length-take (feed_index (pending ++ rest)) (pending ++ rest), length-append pending rest)))

  fed_first : (after : Option (List ℕ)) → after ≡ Some rest → line_fault before n 1 ≡ None → IsFirst (pending ++ rest) before pending after (fed n)
  fed_first after told read = record {
    some = λ e. absurd (omega (arith, length-append pending rest));
    readable = fed_fault ∙ read;
    line = sym (take-append-le n pending rest (omega arith)) ∙ ap (λ k. take k (pending ++ rest)) (sym whole);
    feeds = sym fed_feed;
    behind = (rest, told, sym (drop-append-le (n + 1) pending rest (omega arith)) ∙ ap (λ k. drop (k + 1) (pending ++ rest)) (sym whole));
  }

  judged_finds : (o : Option LineFault) (after : Option (List ℕ)) → line_fault before n 1 ≡ o → after ≡ Some rest → Finds (pending ++ rest) before pending after (judged_by o (fed n))
  judged_finds None after e told = fed_first after told e
  judged_finds (Some fault) after e told = told_fault (pending ++ rest) before pending after fault (fed_fault ∙ e)

-- what is pending and what is left are the bytes that were there
abbrev pub Keeps : (left : Option (List ℕ)) (old pending : List ℕ) (after : Option (List ℕ)) → Type 0
Keeps left old pending after = IfSome left (λ l. IsLeft pending after (old ++ l))

pub finds_fed : (left after : Option (List ℕ)) (old pending : List ℕ) (before n : ℕ) (r : Result (Option LineSpan) LineError) → Keeps left old pending after → n < length pending → feed_index pending ≡ n → r ≡ judgement_of before (fed n)
    → IfSome left (λ l. Finds (old ++ l) before pending after r)
finds_fed None after old pending before n r k lt at e = tt
finds_fed (Some l) after old pending before n r k lt at e =
    rw (e, ← k.2) (judged_finds before n pending k.0 lt at (line_fault before n 1) after refl k.1)

bounds_judged : (o : Option LineFault) (before n : ℕ) (pending : List ℕ) → line_fault before n 1 ≡ o → n < length pending → IfOk (judged_by o (fed n)) (λ found. IfSome found (λ span. IsBounded before pending span))
bounds_judged None before n pending e lt = record { within = omega arith; some = omega arith; bounded = (read_bounds before n 1 e).1 }
bounds_judged (Some fault) before n pending e lt = tt

pub bounds_fed : (pending : List ℕ) (before n : ℕ) (r : Result (Option LineSpan) LineError) → n < length pending → r ≡ judgement_of before (fed n) → IfOk r (λ found. IfSome found (λ span. IsBounded before pending span))
bounds_fed pending before n r lt e = rw e (bounds_judged (line_fault before n 1) before n pending refl lt)

-- ---- whose doing an answer is

-- a line that was judged is read or refused, by itself alone
decided : (fault : LineFault) (before : ℕ) (pending : List ℕ) → IsOpenAt (error_of fault) before pending
decided long before pending = tt
decided past before pending = tt

not_failed : (fault : LineFault) (faults : ℕ) → faults_after (ended_by {X = Option LineSpan} (Err (error_of fault))) faults ≡ faults
not_failed long faults = refl
not_failed past faults = refl

judged_open : (o : Option LineFault) (before : ℕ) (pending : List ℕ) (span : LineSpan) → IfErr (judged_by o span) (λ error. IsOpenAt error before pending)
judged_open None before pending span = tt
judged_open (Some fault) before pending span = decided fault before pending

pub open_judged : (before : ℕ) (pending : List ℕ) (span : LineSpan) (r : Result (Option LineSpan) LineError) → r ≡ judgement_of before span → IfErr r (λ error. IsOpenAt error before pending)
open_judged before pending span r e = rw e (judged_open (line_fault before span.length span.feed) before pending span)

judged_counted : (o : Option LineFault) (span : LineSpan) (faults : ℕ) → faults_after (ended_by (judged_by o span)) faults ≡ faults
judged_counted None span faults = refl
judged_counted (Some fault) span faults = not_failed fault faults

pub counted_judged : (before : ℕ) (span : LineSpan) (r : Result (Option LineSpan) LineError) (faults : ℕ) → r ≡ judgement_of before span → faults_after (ended_by r) faults ≡ faults
counted_judged before span r faults e = rw e (judged_counted (line_fault before span.length span.feed) span faults)

-- ---- pending bytes without a line feed

no_feed : (pending : List ℕ) → length pending ≤ feed_index pending → first_feed pending ≡ 0
no_feed pending h = rw (le-ltb (feed_index pending) (length pending) h) refl

length-first_line : (bytes : List ℕ) → length (first_line bytes) ≡ feed_index bytes
length-first_line bytes = omega (arith, length-take (feed_index bytes) bytes, feed_index-le bytes)

unfed_fault : (before : ℕ) (pending : List ℕ) → length pending ≤ feed_index pending → first_fault before pending ≡ line_fault before (length pending) 0
unfed_fault before pending h = rw (no_feed pending h) (ap (λ n. line_fault before n 0) (omega (arith, length-first_line pending, feed_index-le pending)))

-- a fault of these bytes is one of the line
fault_at : (o : Option LineFault) (error : LineError) → Some error ≡ option_map error_of o → (fault : LineFault) × (o ≡ Some fault) × (error ≡ error_of fault)
fault_at None error e = absurd cc
fault_at (Some fault) error e = (fault, refl, cc)

pub finds_fault : (left after : Option (List ℕ)) (old pending : List ℕ) (before : ℕ) (error : LineError) → Keeps left old pending after → length pending ≤ feed_index pending → Some error ≡ option_map error_of (line_fault before (length pending) 0)
    → IfSome left (λ l. Finds (old ++ l) before pending after (Err error))
finds_fault None after old pending before error k h e = tt
finds_fault (Some l) after old pending before error k h e =
    let f = fault_at (line_fault before (length pending) 0) error e in
    let grows : length pending ≤ length (first_line (pending ++ k.0)) = omega (arith, length-first_line (pending ++ k.0), feed_index-unfed pending k.0 h) in
    rw f.2 (told_fault (old ++ l) before pending after f.0 (ap (first_fault before) (sym k.2) ∙ fault_grows before (length pending) (length (first_line (pending ++ k.0))) (first_feed (pending ++ k.0)) f.0 grows f.1))

pub open_fault : (before : ℕ) (pending : List ℕ) (error : LineError) (o : Option LineFault) → Some error ≡ option_map error_of o → IsOpenAt error before pending
open_fault before pending error o e = let f = fault_at o error e in rw f.2 (decided f.0 before pending)

pub counted_fault : (error : LineError) (o : Option LineFault) (faults : ℕ) → Some error ≡ option_map error_of o → faults_after (ended_by {X = Option LineSpan} (Err error)) faults ≡ faults
counted_fault error o faults e = let f = fault_at o error e in rw f.2 (not_failed f.0 faults)

no_fault : (o : Option LineFault) → None ≡ option_map error_of o → o ≡ None
no_fault None e = refl
no_fault (Some fault) e = absurd cc

-- ---- more bytes were asked for

-- The pending bytes before and after a piece of n bytes came. None of it came where the source or memory failed.
pub record IsFilled (old items pending : List ℕ) (n : ℕ) : Type 0 where
  pub prefix : take (length old) items ≡ old
  pub count : length items ≡ length old + n
  pub moved : pending ≡ items

filled_same : (old items pending : List ℕ) (n : ℕ) → n ≡ 0 → IsFilled old items pending n → pending ≡ old
filled_same old items pending n z f = f.moved ∙ sym (take_all (length old) items (omega (arith, f.count))) ∙ f.prefix

begin_filled : (old so_far items pending : List ℕ) (n : ℕ) → take (length old) so_far ≡ old → IsFilled so_far items pending n → take (length old) pending ≡ old
begin_filled old so_far items pending n begin f =
    ap (take (length old)) f.moved
    ∙ sym (take-take (length old) (length so_far) items (omega (arith, length-take (length old) so_far, ap length begin)))
    ∙ ap (take (length old)) f.prefix ∙ begin

bytes_filled : (left after told : Option (List ℕ)) (old so_far pending : List ℕ) (n : ℕ) → Keeps left old so_far told → IfSome told (λ l. Takes l after so_far pending n) → Keeps left old pending after
bytes_filled None after told old so_far pending n k t = tt
bytes_filled (Some l) after told old so_far pending n k t =
    let d : Takes k.0 after so_far pending n = subst (λ (o : Option (List ℕ)). IfSome o (λ l. Takes l after so_far pending n)) k.1 t in
    (drop n k.0, d.rest, ap (λ (prefix : List ℕ). prefix ++ drop n k.0) d.more ∙ append_assoc so_far (take n k.0) (drop n k.0) ∙ ap (λ (all : List ℕ). so_far ++ all) (take-append-drop n k.0) ∙ k.2)

-- what was pending goes on, after a piece and after a failure
pub Extends-filled : (left after told : Option (List ℕ)) (old so_far items pending : List ℕ) (n : ℕ) → Extends old left so_far told → IfSome told (λ l. Takes l after so_far items n) → IsFilled so_far items pending n → Extends old left pending after
Extends-filled left after told old so_far items pending n x t f = record {
  begin = begin_filled old so_far items pending n x.begin f;
  bytes = bytes_filled left after told old so_far pending n x.bytes (rw f.moved t);
}

bytes_failed : (left after told : Option (List ℕ)) (old so_far : List ℕ) → Keeps left old so_far told → IfSome told (λ l. after ≡ Some l) → Keeps left old so_far after
bytes_failed None after told old so_far k t = tt
bytes_failed (Some l) after told old so_far k t =
    (k.0, subst (λ (o : Option (List ℕ)). IfSome o (λ l. after ≡ Some l)) k.1 t, k.2)

pub Extends-failed : (left after told : Option (List ℕ)) (old so_far pending : List ℕ) → Extends old left so_far told → IfSome told (λ l. after ≡ Some l) → pending ≡ so_far → Extends old left pending after
Extends-failed left after told old so_far pending x t e = rw e (record { begin = x.begin; bytes = bytes_failed left after told old so_far x.bytes t })

-- more bytes are asked for only where the line is not decided
pub open_failed : (before n : ℕ) (so_far pending : List ℕ) (r : Result (Option LineSpan) LineError) → pending ≡ so_far → length so_far ≤ feed_index so_far → n ≡ length so_far → None ≡ option_map error_of (line_fault before n 0) → IfErr r (λ error. IsOpenAt error before pending)
open_failed before n so_far pending (Ok found) same h is e = tt
open_failed before n so_far pending (Err error) same h is e = by_error error
  where
    undecided : IsOpen before pending
    undecided = rw same (record { no_feed = no_feed so_far h; no_fault = unfed_fault before so_far h ∙ ap (λ k. line_fault before k 0) (sym is) ∙ no_fault (line_fault before n 0) e })

    by_error : (error : LineError) → IsOpenAt error before pending
    by_error Long = tt
    by_error Past = tt
    by_error ReadFault = undecided
    by_error NoMemory = undecided

pub scanned-filled : (so_far items pending : List ℕ) (n scanned : ℕ) → IsFilled so_far items pending n → scanned ≡ length so_far → length so_far ≤ feed_index so_far → scanned ≤ feed_index pending
scanned-filled so_far items pending n scanned f s h =
    let all = ap feed_index (sym (take-append-drop (length so_far) items) ∙ ap (λ (t : List ℕ). t ++ drop (length so_far) items) f.prefix) ∙ feed_index-unfed so_far (drop (length so_far) items) h in
    rw f.moved (omega (arith, all))

pub fill_falls : (so_far items pending : List ℕ) (before n scanned : ℕ) → IsFilled so_far items pending n → n ≢ 0 → scanned ≡ length so_far → None ≡ option_map error_of (line_fault before scanned 0) → longest_line + 1 - length pending < longest_line + 1 - length so_far
fill_falls so_far items pending before n scanned f some s e =
    let b = read_bounds before scanned 0 (no_fault (line_fault before scanned 0) e) in
    omega (arith, f.count, ap length f.moved, b.0)

-- ---- nothing more came: the pending bytes are the last line

unfed_first : (before : ℕ) (pending bytes : List ℕ) (after : Option (List ℕ)) → length pending ≢ 0 → length pending ≤ feed_index pending → after ≡ Some [] → pending ≡ bytes → line_fault before (length pending) 0 ≡ None
    → IsFirst bytes before pending after (unfed (length pending))
unfed_first before pending bytes after some h told same read =
    let whole : feed_index pending ≡ length pending = omega (arith, feed_index-le pending) in
    subst (λ (bytes : List ℕ). IsFirst bytes before pending after (unfed (length pending))) same (record {
      some = some;
      readable = unfed_fault before pending h ∙ read;
      line = ap (λ n. take n pending) (sym whole);
      feeds = sym (no_feed pending h);
      behind = ([], told, append-nil (drop (length pending + 0) pending) ∙ nil_from_length (drop (length pending + 0) pending) (omega (arith, length-drop (length pending + 0) pending)) ∙ sym (nil_from_length (behind_line pending) (omega (arith, length-drop (feed_index pending + 1) pending))));
    })

-- the source is at its end
at_end : (left after told : Option (List ℕ)) (old so_far items pending : List ℕ) (n : ℕ) → Keeps left old so_far told → IfSome told (λ l. Takes l after so_far items n) → n ≡ 0 → pending ≡ so_far → IfSome left (λ l. (after ≡ Some []) × (pending ≡ old ++ l))
at_end None after told old so_far items pending n k t z same = tt
at_end (Some l) after told old so_far items pending n k t z same =
    let d : Takes k.0 after so_far items n = subst (λ (o : Option (List ℕ)). IfSome o (λ l. Takes l after so_far items n)) k.1 t in
    let none : k.0 ≡ [] = d.at_end z in
    (d.rest ∙ ap (λ (rest : List ℕ). Some (drop n rest)) none ∙ ap (λ k. Some (drop k [])) z, same ∙ sym (append-nil so_far) ∙ ap (λ (rest : List ℕ). so_far ++ rest) (sym none) ∙ k.2)

last_first : (left after : Option (List ℕ)) (old pending : List ℕ) (before : ℕ) → IfSome left (λ l. (after ≡ Some []) × (pending ≡ old ++ l)) → length pending ≢ 0 → length pending ≤ feed_index pending → line_fault before (length pending) 0 ≡ None
    → IfSome left (λ l. IsFirst (old ++ l) before pending after (unfed (length pending)))
last_first None after old pending before s some h read = tt
last_first (Some l) after old pending before s some h read = unfed_first before pending (old ++ l) after some h s.0 s.1 read

pub last_line : (left after told : Option (List ℕ)) (old so_far items pending : List ℕ) (before n scanned : ℕ) → Keeps left old so_far told → IfSome told (λ l. Takes l after so_far items n) → n ≡ 0
    → IsFilled so_far items pending n → scanned ≡ length so_far → scanned ≢ 0 → length so_far ≤ feed_index so_far → None ≡ option_map error_of (line_fault before scanned 0)
    → IfSome left (λ l. IsFirst (old ++ l) before pending after (unfed scanned))
last_line left after told old so_far items pending before n scanned k t z f s some h e =
    let same : pending ≡ so_far = filled_same so_far items pending n z f in
    let count : scanned ≡ length pending = s ∙ ap length (sym same) in
    let read : line_fault before (length pending) 0 ≡ None = rw (← count) (no_fault (line_fault before scanned 0) e) in
    rw count (last_first left after old pending before (at_end left after told old so_far items pending n k t z same) (rw (← count) some) (rw same h) read)

pub last_bounds : (so_far items pending : List ℕ) (before n scanned : ℕ) → IsFilled so_far items pending n → scanned ≡ length so_far → scanned ≢ 0 → None ≡ option_map error_of (line_fault before scanned 0) → IsBounded before pending (unfed scanned)
last_bounds so_far items pending before n scanned f s some e =
    let b = read_bounds before scanned 0 (no_fault (line_fault before scanned 0) e) in
    record { within = omega (arith, f.count, ap length f.moved); some = omega arith; bounded = b.1 }
