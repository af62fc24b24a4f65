-- What reading a partial state answers, by what was read of its layout and what its texts were tested for.
use Rattle.std.proofs.Common.{◌≡◌, ℕ, ◌==◌, Bool, true, false, if◌then◌else◌, List, length, Result, Ok, Err, IsErrAnd, refl, sym, ap, subst, ◌∙◌}
use Rattle.record_model.specs.Fields.{FrameFault, rest, Cursor, start_of, ◌>>=◌, end_of}
use Rattle.trie_model.specs.Root.{NoClash}
use Rattle.partial_model.specs.Partial.{IsPartial, PartialFault, framed, listed_at, tested, partial_at, partial_in, spelled_partial}
use Rattle.partial_model.proofs.Reading.{partial_in-spelled, passed_are}
use Rattle.base_core.specs.declared.borsh_error.BorshError.{BorshError}
use Rattle.base_core.specs.Reading.{fault_of}
use Rattle.base_core.proofs.PassedOn.{passed_on}
use Rattle.text_store.specs.declared.errors.PartialError.{PartialError}
use Rattle.text_store.specs.declared.errors.PartialError.TheVariants.{Frame, Order, Clash, NoMemory}
use Rattle.text_store.specs.PartialStates.{PartialState, IsRefused, AnswersWhole, AnswersFirst, AnswersTexts, unread}

-- a refusal of one reading is one of another that ends as it does
refused_alike : {X Y : Type 0} (error : PartialError) (one : Result X PartialFault) (other : Result Y PartialFault) → ((fault : PartialFault) → one ≡ Err fault → other ≡ Err fault) → IsRefused error one → IsRefused error other
refused_alike NoMemory one other alike h = tt
refused_alike (Frame error) one other alike h = alike _ h
refused_alike (Order place) one other alike h = alike _ h
refused_alike (Clash digest) one other alike h = alike _ h

-- ---- the layout is refused

whole_fault : (bytes : List ℕ) (fault : PartialFault) → framed (listed_at (start_of bytes)) ≡ Err fault → partial_in bytes ≡ Err fault
unfolding partial_in
whole_fault bytes fault e = rw e refl

first_fault : (c : Cursor) (fault : PartialFault) → framed (listed_at c) ≡ Err fault → partial_at c ≡ Err fault
unfolding partial_at
first_fault c fault e = rw e refl

pub whole_refused : (bytes : List ℕ) (result : Result PartialState PartialError) (error : PartialError) → IsErrAnd result (λ given. given ≡ error) → IsRefused error (framed (listed_at (start_of bytes))) → AnswersWhole result bytes
whole_refused bytes result error is h = passed_on (λ r. AnswersWhole r bytes) result error is (refused_alike error (framed (listed_at (start_of bytes))) (partial_in bytes) (whole_fault bytes) h)

pub first_refused : (old new : Cursor) (result : Result PartialState PartialError) (error : PartialError) → IsErrAnd result (λ given. given ≡ error) → IsRefused error (framed (listed_at old)) → AnswersFirst result old new
first_refused old new result error is h = passed_on (λ r. AnswersFirst r old new) result error is (refused_alike error (framed (listed_at old)) (partial_at old) (first_fault old) h)

-- ---- bytes are left over

pub end_fault : {X : Type 0} (x : X) (d : Cursor) (fault : FrameFault) → end_of {X = Unit {0}} tt d ≡ Err fault → end_of x d ≡ Err fault
unfolding end_of
end_fault {X} x d fault e = go (length d.left == 0) e
  where
    fault_in : Result (Unit {0}) FrameFault → Result X FrameFault
    fault_in (Ok y) = Ok x
    fault_in (Err f) = Err f

    go : (b : Bool) → (if b then Ok (tt {0}) else Err (rest d.at)) ≡ Err fault → (if b then Ok x else Err (rest d.at)) ≡ Err fault
    go true k = cc
    go false k = ap fault_in k

pub end_reached : {X : Type 0} (x : X) (d : Cursor) → end_of {X = Unit {0}} tt d ≡ Ok (tt {0}) → end_of x d ≡ Ok x
unfolding end_of
end_reached x d e = go (length d.left == 0) e
  where
    go : (b : Bool) → (if b then Ok (tt {0}) else Err (rest d.at)) ≡ Ok (tt {0}) → (if b then Ok x else Err (rest d.at)) ≡ Ok x
    go true k = refl
    go false k = cc

pub rest_refused : (bytes : List ℕ) (texts : List (List ℕ)) (d : Cursor) (result : Result PartialState PartialError) (error : BorshError) → IsErrAnd result (λ given. given ≡ Frame error) → listed_at (start_of bytes) ≡ Ok (texts, d) → end_of {X = Unit {0}} tt d ≡ Err (fault_of error) → AnswersWhole result bytes
unfolding partial_in
rest_refused bytes texts d result error is listed e = passed_on (λ r. AnswersWhole r bytes) result (Frame error) is (rw (listed, end_fault texts d (fault_of error) e) refl)

-- ---- the texts are tested

whole_tested : (bytes : List ℕ) (texts : List (List ℕ)) (d : Cursor) → listed_at (start_of bytes) ≡ Ok (texts, d) → end_of {X = Unit {0}} tt d ≡ Ok (tt {0}) → partial_in bytes ≡ tested texts
unfolding partial_in
whole_tested bytes texts d listed e = rw (listed, end_reached texts d e) refl

first_tested : (c : Cursor) (texts : List (List ℕ)) (d : Cursor) → listed_at c ≡ Ok (texts, d) → partial_at c ≡ (tested texts >>= (λ passed. Ok (passed, d)))
unfolding partial_at
first_tested c texts d listed = rw listed refl

pub whole_answered : (bytes : List ℕ) (texts : List (List ℕ)) (d : Cursor) (result : Result PartialState PartialError) → listed_at (start_of bytes) ≡ Ok (texts, d) → end_of {X = Unit {0}} tt d ≡ Ok (tt {0}) → AnswersTexts result texts → AnswersWhole result bytes
whole_answered bytes texts d (Ok held) listed e h =
    let same : held.texts ≡ texts = ap (λ s. s.texts) h.1 in
    (whole_tested bytes texts d listed e ∙ h.0 ∙ ap Ok (sym same), h.1 ∙ ap unread (sym same))
whole_answered bytes texts d (Err error) listed e h = refused_alike error (tested texts) (partial_in bytes) (λ fault k. whole_tested bytes texts d listed e ∙ k) h

pub first_answered : (c : Cursor) (texts : List (List ℕ)) (d : Cursor) (result : Result PartialState PartialError) → listed_at c ≡ Ok (texts, d) → AnswersTexts result texts → AnswersFirst result c d
first_answered c texts d (Ok held) listed h =
    let same : held.texts ≡ texts = ap (λ s. s.texts) h.1 in
    (first_tested c texts d listed ∙ rw h.0 (ap (λ ts. Ok (ts, d)) (sym same)), h.1 ∙ ap unread (sym same))
first_answered c texts d (Err error) listed h = refused_alike error (tested texts) (partial_at c) (λ fault k. first_tested c texts d listed ∙ rw k refl) h

pub first_untested : (c : Cursor) (texts : List (List ℕ)) (d : Cursor) (result : Result PartialState PartialError) (error : PartialError) → IsErrAnd result (λ given. given ≡ error) → listed_at c ≡ Ok (texts, d) → IsRefused error (tested texts) → AnswersFirst result c c
first_untested c texts d result error is listed h = passed_on (λ r. AnswersFirst r c c) result error is (first_answered c texts d (Err error) listed h)

-- texts that are spelled and read don't clash
pub read_apart : (texts : List (List ℕ)) (bytes : List ℕ) (held : PartialState) → IsPartial texts → NoClash held.texts → bytes ≡ spelled_partial texts → partial_in bytes ≡ Ok held.texts → NoClash texts
read_apart texts bytes held partial apart is read =
    subst NoClash (passed_are texts held.texts (sym (partial_in-spelled texts partial.texts_fit) ∙ ap partial_in (sym is) ∙ read)) apart
