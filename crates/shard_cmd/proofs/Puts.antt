-- What came of putting a pair, or a change, whose key and value are within their limits.
use Rattle.std.proofs.Common.{◌≡◌, ℕ, ◌≤◌, ◌&&◌, Bool, true, false, not, List, length, Option, Some, None, Result, Ok, Err, IfSome, IfNone, OnOk, OnErr, refl, sym, ap, subst}
use Rattle.std.specs.Prelude.{if◌then◌else◌, nat_le, IsOkUnless}
use Rattle.std.specs.FinMap.{len, contains_key, len-entries}
use Rattle.std.proofs.lemmas.Bool.{le-ltb}
use Rattle.script_model.specs.Lines as lines
use Rattle.script_model.specs.Bounds.{IsAsked, IsKey}
use Rattle.byte_model.specs.Node.{longest_value}
use Rattle.trie_model.specs.State.{longest_key, IsPair}
use Rattle.base_core.specs.declared.put_error.PutError.{PutError}
use Rattle.base_core.specs.declared.put_error.PutError.TheVariants.{KeyLong, ValueLong, Full, NoMemory}
use Rattle.base_core.specs.KeptMaps.{KeyMap, refusal_of}
use Rattle.base_core.specs.PairMaps.{PairMap, laid, refusal}
use Rattle.script_io.specs.declared.event.Event.{Event}
use Rattle.script_io.specs.Meanings.{event}
use Rattle.shard_cmd.specs.declared.root.End.TheVariants as end
use Rattle.shard_cmd.specs.Events.{is_full, ends_at, Lays}

-- as `put` and `remove` say it, of what was held, what is held, and what is to be held
pub record IsPut {M : Type 0} (refused_by : Option PutError) (old new next : M) (r : Result Unit PutError) : Type 0 where
  pub refused : IfSome refused_by (λ error. r ≡ Err error)
  pub taken : IfNone refused_by (IsOkUnless r NoMemory)
  pub ok : OnOk r (new ≡ next)
  pub err : OnErr r (new ≡ old)

-- whether there is no room for a key
abbrev pub has_no_room : {X : Type 0} → KeyMap X → ℕ → List ℕ → Bool
has_no_room held most key = nat_le most (len held) && not (contains_key held key)

refusal-within : {X : Type 0} (held : KeyMap X) (most : ℕ) (key value : List ℕ) → length key ≤ longest_key → length value ≤ longest_value → refusal_of held most key value ≡ (if has_no_room held most key then Some Full else None)
refusal-within held most key value k v = rw (le-ltb longest_key (length key) k, le-ltb longest_value (length value) v, len-entries held) refl

-- Only for want of room are a key and a value refused that are within their limits.
pub data Answer {M : Type 0} (old new next : M) (full : Bool) (r : Result Unit PutError) : Type 0 where
  put : r ≡ Ok tt → full ≡ false → new ≡ next → Answer old new next full r
  refused : r ≡ Err Full → full ≡ true → new ≡ old → Answer old new next full r
  no_memory : r ≡ Err NoMemory → full ≡ false → new ≡ old → Answer old new next full r

answer_of : {M : Type 0} (old new next : M) (b : Bool) (r : Result Unit PutError) → IsPut (if b then Some Full else None) old new next r → Answer old new next b r
answer_of old new next true (Ok done) p = absurd (cc p.refused)
answer_of old new next true (Err error) p = refused p.refused refl p.err
answer_of old new next false (Ok done) p = put refl refl p.ok
answer_of old new next false (Err error) p = no_memory (ap Err p.taken) refl p.err

pub put_answer : {X M : Type 0} (held : KeyMap X) (most : ℕ) (key value : List ℕ) (old new next : M) (r : Result Unit PutError) → length key ≤ longest_key → length value ≤ longest_value
    → IsPut (refusal_of held most key value) old new next r → Answer old new next (has_no_room held most key) r
put_answer held most key value old new next r k v p = answer_of old new next (has_no_room held most key) r (subst (λ (o : Option PutError). IsPut o old new next r) (refusal-within held most key value k v) p)

pub answer-ok : {M : Type 0} (old new next : M) (full : Bool) (r : Result Unit PutError) (done : Unit) → Answer old new next full r → r ≡ Ok done → (full ≡ false) × (new ≡ next)
answer-ok old new next full r done (put is room h) e = (room, h)
answer-ok old new next full r done (refused is room h) e = absurd (cc (is, e))
answer-ok old new next full r done (no_memory is room h) e = absurd (cc (is, e))

pub answer-full : {M : Type 0} (old new next : M) (full : Bool) (r : Result Unit PutError) → Answer old new next full r → r ≡ Err Full → full ≡ true
answer-full old new next full r (put is room h) e = absurd (cc (is, e))
answer-full old new next full r (refused is room h) e = room
answer-full old new next full r (no_memory is room h) e = absurd (cc (is, e))

pub not_long : {M : Type 0} (old new next : M) (full : Bool) (r : Result Unit PutError) → Answer old new next full r → (n : ℕ) → (r ≡ Err (KeyLong n) → ⊥) × (r ≡ Err (ValueLong n) → ⊥)
not_long old new next full r (put is room h) n = (λ e. absurd (cc (is, e)), λ e. absurd (cc (is, e)))
not_long old new next full r (refused is room h) n = (λ e. absurd (cc (is, e)), λ e. absurd (cc (is, e)))
not_long old new next full r (no_memory is room h) n = (λ e. absurd (cc (is, e)), λ e. absurd (cc (is, e)))

-- what an event that sets a pair comes to, by the answer
pub record IsLaid (number : ℕ) (old new : PairMap) (asked : lines.Event) (r : Result Unit PutError) : Type 0 where
  pub ok : OnOk r (Lays number old new asked None)
  pub full : r ≡ Err Full → Lays number old new asked (Some end.Full)
  pub no_memory : r ≡ Err NoMemory → ends_at number old asked ≡ None

-- whether the script ends at the pair
end_if : (b c : Bool) → b ≡ c → (if b then Some end.Full else None) ≡ (if c then Some end.Full else None)
end_if b c e = ap (λ (t : Bool). if t then Some end.Full else None) e

pair_laid : (number : ℕ) (old new : PairMap) (key value : List ℕ) (r : Result Unit PutError) → Answer old new (laid old key value) (is_full old key) r → IsLaid number old new (lines.set key value) r
pair_laid number old new key value r (put is room h) = rw is record {
  ok = (end_if _ _ room, h);
  full = λ e. absurd (cc e);
  no_memory = λ e. absurd (cc e);
}
pair_laid number old new key value r (refused is none h) = rw is record {
  ok = tt;
  full = λ e. (end_if _ _ none, h);
  no_memory = λ e. absurd (cc e);
}
pair_laid number old new key value r (no_memory is room h) = rw is record {
  ok = tt;
  full = λ e. absurd (cc e);
  no_memory = λ e. end_if _ _ room;
}

-- what a line sets is a pair
pub pair_of : (asked : lines.Event) (key value : List ℕ) → asked ≡ lines.set key value → IsAsked asked → IsPair (key, value)
unfolding IsAsked
pair_of asked key value e h = subst IsAsked e h

-- and what a line deletes is a key
pub deleted_key : (asked : lines.Event) (key : List ℕ) → asked ≡ lines.delete key → IsAsked asked → IsKey key
unfolding IsAsked
deleted_key asked key e h = subst IsAsked e h

pub event_answer : (old new : PairMap) (asked : Event) (key value : List ℕ) (r : Result Unit PutError) → event asked ≡ lines.set key value → IsAsked (event asked) → IsPut (refusal old key value) old new (laid old key value) r
    → Answer old new (laid old key value) (is_full old key) r
event_answer old new asked key value r e within p = let pair = pair_of (event asked) key value e within in put_answer old.state old.most key value old new (laid old key value) r pair.key_length pair.value_length p

pub event_laid : (number : ℕ) (old new : PairMap) (asked : Event) (key value : List ℕ) (r : Result Unit PutError) → event asked ≡ lines.set key value → IsAsked (event asked) → IsPut (refusal old key value) old new (laid old key value) r → IsLaid number old new (event asked) r
event_laid number old new asked key value r e within p =
    subst (λ a. IsLaid number old new a r) (sym e) (pair_laid number old new key value r (event_answer old new asked key value r e within p))
