-- The event of a line, as its words are cut off one after another.
use Rattle.std.proofs.Common.{◌≡◌, ◌≢◌, ℕ, Bool, true, false, cond, List, [], ◌∷◌, length, Option, is_some, Some, None, Result, Ok, Err, IfOk, refl, sym, ap, ◌∙◌, arith}
use Rattle.std.specs.Prelude.{slice_get, IsSome, if◌then◌else◌}
use Rattle.std.specs.List.{slice_split, list_any}
use Rattle.std.proofs.lemmas.Bool.{ne_eqb}
use Rattle.std.proofs.lemmas.List.Splits.{length-slice_split}
use Rattle.script_model.specs.Lines.{Event, nothing, both, event_of, event_of_words, is_space, is_carriage_return}
use Rattle.script_io.specs.declared.event.Event.{Event as Asked}
use Rattle.script_io.specs.declared.event.Event.TheVariants.{Nothing}
use Rattle.script_io.specs.declared.event.EventError.{EventError}
use Rattle.script_io.specs.declared.event.EventError.TheVariants.{Bad, NoMemory}
use Rattle.script_io.specs.Meanings.{IsRead, event}

-- ---- the event of a line whose words were cut off so

-- the event of the words of a line
abbrev pub words_event : List ℕ → Option Event
words_event line = event_of_words (slice_split is_space line)

-- a word that is cut off a line
abbrev pub IsCut : (line word rest : List ℕ) → Type 0
IsCut line word rest = slice_split is_space line ≡ word ∷ slice_split is_space rest

after_word : (line word rest : List ℕ) (words : List (List ℕ)) → IsCut line word rest → slice_split is_space rest ≡ words → slice_split is_space line ≡ word ∷ words
after_word line word rest words e f = e ∙ ap (λ (ws : List (List ℕ)). word ∷ ws) f

five_words : (word a b c : List ℕ) (words : List (List ℕ)) → length words ≢ 0 → event_of_words (word ∷ a ∷ b ∷ c ∷ words) ≡ None
five_words word a b c [] some = absurd (some refl)
five_words word a b c (d ∷ words) some = refl

-- a line of five words and more
pub event-more : (line word rest a more b last c d : List ℕ) → IsCut line word rest → IsCut rest a more → IsCut more b last → IsCut last c d → words_event line ≡ None
event-more line word rest a more b last c d e f g h =
    ap event_of_words (after_word line word rest _ e (after_word rest a more _ f (after_word more b last _ g h)))
    ∙ five_words word a b c (slice_split is_space d) (λ none. absurd (omega (arith, length-slice_split is_space d)))

-- ---- a key and a value, by what was read of the key

-- none is a key that found no memory
abbrev pub IsKept : (meant key : Option (List ℕ)) → Type 0
IsKept meant None = IsSome meant
IsKept meant (Some key) = meant ≡ Some key

some_of : (meant key : Option (List ℕ)) → IsKept meant key → IsSome meant
some_of meant None h = h
some_of meant (Some key) h = ap is_some h

abbrev pub pair : List ℕ → List ℕ → List ℕ × List ℕ
pair k v = (k, v)

no_pair : (key : Option (List ℕ)) → both pair key None ≡ None
no_pair None = refl
no_pair (Some key) = refl

pair_some : (key value : Option (List ℕ)) → IsSome key → IsSome value → IsSome (both pair key value)
pair_some None value h k = absurd cc
pair_some (Some key) None h k = absurd cc
pair_some (Some key) (Some value) h k = refl

pub pair_read : (key value : Option (List ℕ)) (k v : List ℕ) → key ≡ Some k → value ≡ Some v → both pair key value ≡ Some (k, v)
pair_read key value k v e f = ap (λ o. both pair o value) e ∙ ap (both pair (Some k)) f

pub pair_unkept : (key value : Option (List ℕ)) (v : List ℕ) → IsSome key → value ≡ Some v → IsSome (both pair key value)
pair_unkept key value v h e = pair_some key value h (ap is_some e)

pub pair_bad_key : (key value : Option (List ℕ)) → key ≡ None → both pair key value ≡ None
pair_bad_key key value e = ap (λ o. both pair o value) e

pub pair_refused : {A : Type 0} (view : A → List ℕ × List ℕ) (key value kept : Option (List ℕ)) (error : EventError) (r : Result A EventError) → IsKept key kept → IsRead (λ (bytes : List ℕ). bytes) value (Err error) → r ≡ Err error → IsRead view (both pair key value) r
pair_refused view key value kept Bad r k h e = rw e (ap (both pair key) h ∙ no_pair key)
pair_refused view key value kept NoMemory r k h e = rw e (pair_some key value (some_of key kept k) h)

-- ---- a line of a script

pub event-empty : (line : List ℕ) → None ≡ slice_get line 0 → event_of line ≡ Some nothing
unfolding event_of
event-empty [] e = refl
event-empty (byte ∷ line) e = absurd cc

hash_comment : (line : List ℕ) → slice_get line 0 ≡ Some 35 → event_of line ≡ (if list_any is_carriage_return line then None else Some nothing)
unfolding event_of
hash_comment [] e = absurd cc
hash_comment (byte ∷ line) e = let hash : byte ≡ 35 = cc in rw hash refl

pub event-words : (line : List ℕ) (byte : ℕ) → Some byte ≡ slice_get line 0 → byte ≢ 35 → event_of line ≡ words_event line
unfolding event_of
event-words [] byte e h = absurd cc
event-words (first ∷ line) byte e h = let same : first ≡ byte = cc in rw (ne_eqb first 35 (λ hash. h (sym same ∙ hash))) refl

comment_read : (b : Bool) (line : List ℕ) → event_of line ≡ cond b None (Some nothing) → IsRead event (event_of line) (cond b (Err Bad) (Ok Nothing))
comment_read true line e = e
comment_read false line e = e

pub event-comment : (line : List ℕ) (byte : ℕ) (r : Result Asked EventError) → Some byte ≡ slice_get line 0 → byte ≡ 35 → r ≡ (if list_any is_carriage_return line then Err Bad else Ok Nothing) → IsRead event (event_of line) r
event-comment line byte r e hash is = rw is (comment_read (list_any is_carriage_return line) line (hash_comment line (sym e ∙ ap Some hash)))

-- ---- what was read, clause by clause

pub read_ok : (meant : Option Event) (r : Result Asked EventError) → IsRead event meant r → IfOk r (λ found. meant ≡ Some (event found))
read_ok meant (Ok found) h = h
read_ok meant (Err error) h = tt

pub read_bad : (meant : Option Event) (r : Result Asked EventError) → IsRead event meant r → r ≡ Err Bad → meant ≡ None
read_bad meant (Ok found) h e = absurd cc
read_bad meant (Err Bad) h e = h
read_bad meant (Err NoMemory) h e = absurd cc

pub read_no_memory : (meant : Option Event) (r : Result Asked EventError) → IsRead event meant r → r ≡ Err NoMemory → IsSome meant
read_no_memory meant (Ok found) h e = absurd cc
read_no_memory meant (Err Bad) h e = absurd cc
read_no_memory meant (Err NoMemory) h e = h
