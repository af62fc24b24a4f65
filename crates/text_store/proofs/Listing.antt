-- Reading so many texts, one after the other.
use Rattle.std.proofs.Common.{◌≡◌, ◌==◌, true, false, ℕ, suc, ◌+◌, ◌-◌, ◌<◌, ◌^◌, List, [], ◌∷◌, ◌++◌, map, length, Bor, Result, Ok, Err, IsErrAnd, refl, sym, ap, subst, ◌∙◌, arith, append_assoc, length-append}
use Rattle.std.proofs.lemmas.List.{append-nil, map-append}
use Rattle.std.specs.List.{AllByRecursion}
use Rattle.byte_model.proofs.Lists.{AllByRecursion-append}
use Rattle.record_model.specs.Fields.{FrameFault, ordinal, Cursor, Read, ◌>>=◌, number_at, vector_at}
use Rattle.std.specs.Int.{w8, w32}
use Rattle.partial_model.specs.Partial.{texts_at, counted_at, listed_at, framed}
use Rattle.base_core.specs.declared.borsh_error.BorshError.{BorshError}
use Rattle.base_core.specs.Reading.{fault_of}
use Rattle.base_core.proofs.PassedOn.{passed_on}
use Rattle.text_store.specs.declared.errors.PartialError.{PartialError}
use Rattle.text_store.specs.declared.errors.PartialError.TheVariants.{Frame, Order, Clash, NoMemory}
use Rattle.text_store.specs.PartialStates.{Lists}

abbrev pub bytes_of : List (Bor (List ℕ)) → List (List ℕ)
bytes_of texts = map (λ text. text.now) texts

-- what was read, and then what a reading gives
abbrev pub joined : {X E : Type 0} → List X → Result (List X × Cursor) E → Result (List X × Cursor) E
joined done (Ok r) = Ok (done ++ r.0, r.1)
joined done (Err e) = Err e

pub joined-nothing : {X E : Type 0} (read : Result (List X × Cursor) E) → joined [] read ≡ read
joined-nothing (Ok r) = refl
joined-nothing (Err e) = refl

-- one item, and then the others
pub joined-one : {X E : Type 0} (done : List X) (x : X) (read : Result (List X × Cursor) E) → joined done (read >>= (λ others. Ok (x ∷ others.0, others.1))) ≡ joined (done ++ x ∷ []) read
joined-one done x (Ok r) = ap (λ all. Ok (all, r.1)) (sym (append_assoc done (x ∷ []) r.0))
joined-one done x (Err e) = refl

-- after n texts of so many, the reading is told by these texts and the reading of those that are left
pub record IsListing (start : Cursor) (count : ℕ) (texts : List (Bor (List ℕ))) (n : ℕ) (now : Cursor) : Type 0 where
  pub told : texts_at count start ≡ joined (bytes_of texts) (texts_at (count - n) now)
  pub long : length texts ≡ n
  pub short : AllByRecursion (λ text. length text.now < 2 ^ 32) texts

pub IsListing-init : (start : Cursor) (count : ℕ) (texts : List (Bor (List ℕ))) → texts ≡ [] → IsListing start count texts 0 start
IsListing-init start count texts none =
    let whole : count ≡ count - 0 = omega arith in
    subst (λ (ts : List (Bor (List ℕ))). IsListing start count ts 0 start) (sym none)
    (record { told = ap (λ m. texts_at m start) whole ∙ sym (joined-nothing (texts_at (count - 0) start)); long = refl; short = tt })

one_more : (n : ℕ) (now : Cursor) (text : List ℕ) (next : Cursor) (done : List (List ℕ)) → vector_at now ≡ Ok (text, next) → joined done (texts_at (suc n) now) ≡ joined (done ++ text ∷ []) (texts_at n next)
unfolding texts_at
one_more n now text next done e = rw e (joined-one done text (texts_at n next))

pub IsListing-more : (start now next : Cursor) (count : ℕ) (texts : List (Bor (List ℕ))) (n : ℕ) (text : Bor (List ℕ)) → n < count → IsListing start count texts n now → vector_at now ≡ Ok (text.now, next) → length text.now < 2 ^ 32 → IsListing start count (texts ++ text ∷ []) (n + 1) next
IsListing-more start now next count texts n text more h e short =
    let left : count - n ≡ suc (count - (n + 1)) = omega arith in
    record {
      told = h.told ∙ ap (λ m. joined (bytes_of texts) (texts_at m now)) left ∙ one_more (count - (n + 1)) now text.now next (bytes_of texts) e
          ∙ ap (λ (done : List (List ℕ)). joined done (texts_at (count - (n + 1)) next)) (sym (map-append (λ (t : Bor (List ℕ)). t.now) texts (text ∷ [])));
      long = omega (arith, length-append texts (text ∷ []), h.long);
      short = AllByRecursion-append (λ t. length t.now < 2 ^ 32) texts (text ∷ []) h.short (short, tt);
    }

pub IsListing-all : (start now : Cursor) (count : ℕ) (texts : List (Bor (List ℕ))) (n : ℕ) → count ≡ n → IsListing start count texts n now → texts_at count start ≡ Ok (bytes_of texts, now)
unfolding texts_at
IsListing-all start now count texts n all h =
    let left : count - n ≡ 0 = omega arith in
    h.told ∙ ap (λ m. joined (bytes_of texts) (texts_at m now)) left ∙ ap (λ (done : List (List ℕ)). Ok (done, now)) (append-nil (bytes_of texts))

pub IsListing-fault : (start now : Cursor) (count : ℕ) (texts : List (Bor (List ℕ))) (n : ℕ) (fault : FrameFault) → n < count → IsListing start count texts n now → vector_at now ≡ Err fault → texts_at count start ≡ Err fault
unfolding texts_at
IsListing-fault start now count texts n fault more h e =
    let left : count - n ≡ suc (count - (n + 1)) = omega arith in
    h.told ∙ ap (λ m. joined (bytes_of texts) (texts_at m now)) left ∙ rw e refl

-- a fault of the layout that a `?` passed on
pub refused_frame : {X : Type 0} (view : X → List (List ℕ)) (result : Result X PartialError) (error : BorshError) (old new : Cursor) (read : Cursor → Read (List (List ℕ))) → IsErrAnd result (λ given. given ≡ Frame error) → read old ≡ Err (fault_of error) → Lists view result old new read
refused_frame view result error old new read is e = passed_on (λ r. Lists view r old new read) result (Frame error) is (ap framed e)

-- ---- the layout of a partial state, field by field

pub listed-no_version : (c : Cursor) (fault : FrameFault) → number_at w8 c ≡ Err fault → listed_at c ≡ Err fault
unfolding listed_at
listed-no_version c fault e = rw e refl

pub listed-other : (c d : Cursor) (version : ℕ) → number_at w8 c ≡ Ok (version, d) → (version == 0) ≡ false → listed_at c ≡ Err (ordinal c.at)
unfolding listed_at
listed-other c d version e other = rw (e, other) refl

pub listed-no_count : (c d : Cursor) (version : ℕ) (fault : FrameFault) → number_at w8 c ≡ Ok (version, d) → (version == 0) ≡ true → number_at w32 d ≡ Err fault → listed_at c ≡ Err fault
unfolding listed_at counted_at
listed-no_count c d version fault e same k = rw (e, same, k) refl

pub listed-counted : (c d f : Cursor) (version count : ℕ) → number_at w8 c ≡ Ok (version, d) → (version == 0) ≡ true → number_at w32 d ≡ Ok (count, f) → listed_at c ≡ texts_at count f
unfolding listed_at counted_at
listed-counted c d f version count e same k = rw (e, same, k) refl

pub Lists-onward : {X : Type 0} (view : X → List (List ℕ)) (result : Result X PartialError) (c f new : Cursor) (read : Cursor → Read (List (List ℕ))) → listed_at c ≡ read f → Lists view result f new read → Lists view result c new listed_at
Lists-onward view (Ok x) c f new read e h = e ∙ h
Lists-onward view (Err NoMemory) c f new read e h = tt
Lists-onward view (Err (Frame error)) c f new read e h = ap framed e ∙ h
Lists-onward view (Err (Order place)) c f new read e h = ap framed e ∙ h
Lists-onward view (Err (Clash digest)) c f new read e h = ap framed e ∙ h
