-- What lines ask for is within the limits.
use Rattle.std.proofs.Common.{◌≡◌, ℕ, suc, ◌*◌, ◌^◌, ◌<◌, ◌≤◌, ◌&&◌, Bool, true, false, cond, eqb, leb, ltb, List, [], ◌∷◌, length, Option, Some, None, Result, Ok, Err, refl, ap, subst, arith}
use Rattle.std.specs.Prelude.{codes}
use Rattle.std.specs.Result.{result_ok}
use Rattle.std.specs.Str.{bytes_eq}
use Rattle.std.specs.List.{AllByRecursion, list_any, list_all, slice_split, before_first, after_first}
use Rattle.std.specs.Option.{option_map}
use Rattle.std.proofs.lemmas.Bool.{leb-true, ltb-true, eqb-true}
use Rattle.hex.specs.Hex.{decode_of, IsBytes}
use Rattle.hex.specs.declared.error.FromHexError.{FromHexError}
use Rattle.hex.proofs.HexLemmas.{decode_of-ok}
use Rattle.byte_model.specs.Nibbles.{AreBytes}
use Rattle.byte_model.specs.Node.{longest_value}
use Rattle.trie_model.specs.State.{IsPair, longest_key}
use Rattle.script_model.specs.Lines.{Event, nothing, block, block_end, set, delete, head, flat, trie, same, usage, stats, both, all_three, event_of, event_of_words, is_hash, is_carriage_return, is_space}
use Rattle.script_model.specs.Words as words
use Rattle.script_model.specs.Words.{Op, Command, root, apply, get, prove, replay, op_of, ops_of, set_of, is_equals, few_ops_of, most_operations, get_of, command_of}
use Rattle.script_model.specs.Bounds.{IsId, IsKey, IsAsked, IsOp, IsCommanded}
use Rattle.script_model.specs.Spellings.{hex_bytes, at_most, key_of, value_of, id_of, number_of, is_decimal_digit, most_digits, no_bytes}
use Rattle.std.specs.Str.Parse.{digits_value}
use Rattle.byte_model.specs.Node.{digest_width}

-- a text that writes bytes writes at most so many
pub record Within (most : ℕ) (bytes : List ℕ) : Type 0 where
  pub are_bytes : AreBytes bytes
  pub within : length bytes ≤ most

AreBytes-by_index : (bytes : List ℕ) → IsBytes bytes → AreBytes bytes
AreBytes-by_index [] h = tt
AreBytes-by_index (b ∷ bytes) h = (h 0, AreBytes-by_index bytes (λ i. h (suc i)))

decoded_bytes : (text bytes : List ℕ) (r : Result (List ℕ) FromHexError) → decode_of text ≡ r → result_ok r ≡ Some bytes → AreBytes bytes
decoded_bytes text bytes (Ok found) e h =
    let same : found ≡ bytes = cc in
    AreBytes-by_index bytes (subst IsBytes same (decode_of-ok text found e).3)
decoded_bytes text bytes (Err f) e h = absurd cc

guarded_bytes : (b : Bool) (text bytes : List ℕ) → cond b None (result_ok (decode_of text)) ≡ Some bytes → AreBytes bytes
guarded_bytes true text bytes h = absurd cc
guarded_bytes false text bytes h = decoded_bytes text bytes (decode_of text) refl h

dashed_bytes : (b : Bool) (text bytes : List ℕ) → cond b (Some []) (cond (eqb (length text) 0) None (result_ok (decode_of text))) ≡ Some bytes → AreBytes bytes
dashed_bytes true text bytes h = let same : [] ≡ bytes = cc in subst AreBytes same tt
dashed_bytes false text bytes h = guarded_bytes (eqb (length text) 0) text bytes h

hex_bytes-bytes : (text bytes : List ℕ) → hex_bytes text ≡ Some bytes → AreBytes bytes
unfolding hex_bytes
hex_bytes-bytes text bytes e = dashed_bytes (bytes_eq text no_bytes) text bytes e

kept : (b : Bool) (found bytes : List ℕ) → cond b (Some found) None ≡ Some bytes → (b ≡ true) × (found ≡ bytes)
kept true found bytes e = (refl, cc)
kept false found bytes e = absurd cc

pub at_most-within : (most : ℕ) (o : Option (List ℕ)) (bytes : List ℕ) → at_most most o ≡ Some bytes → (o ≡ Some bytes) × (length bytes ≤ most)
at_most-within most None bytes e = absurd cc
at_most-within most (Some found) bytes e =
    let k = kept (leb (length found) most) found bytes e in
    (ap Some k.1, subst (λ (b : List ℕ). length b ≤ most) k.1 (leb-true (length found) most k.0))

within : (most : ℕ) (text bytes : List ℕ) → at_most most (hex_bytes text) ≡ Some bytes → Within most bytes
within most text bytes e = let w = at_most-within most (hex_bytes text) bytes e in record { are_bytes = hex_bytes-bytes text bytes w.0; within = w.1 }

-- ---- by kind

pub key-within : (text key : List ℕ) → key_of text ≡ Some key → IsKey key
unfolding key_of
key-within text key e = let w = within longest_key text key e in record { bytes = w.are_bytes; short = w.within }

value-within : (text value : List ℕ) → value_of text ≡ Some value → Within longest_value value
unfolding value_of
value-within text value e = within longest_value text value e

pair-within : (one two key value : List ℕ) → key_of one ≡ Some key → value_of two ≡ Some value → IsPair (key, value)
pair-within one two key value k v =
    let key_is = key-within one key k in
    let value_is = value-within two value v in
    record { key = key_is.bytes; key_length = key_is.short; value = value_is.are_bytes; value_length = value_is.within }

pub id-within : (text id : List ℕ) → id_of text ≡ Some id → IsId id
unfolding id_of
id-within text id e = by_length (eqb (length text) (2 * digest_width)) refl e
  where
    decoded : length text ≡ 2 * digest_width → (r : Result (List ℕ) FromHexError) → decode_of text ≡ r → result_ok r ≡ Some id → IsId id
    decoded twice (Ok found) h f =
        let same : found ≡ id = cc in
        let ok = decode_of-ok text found h in
        let width : length found ≡ digest_width = omega arith in
        record { bytes = subst AreBytes same (AreBytes-by_index found ok.3); width = subst (λ (b : List ℕ). length b ≡ digest_width) same width }
    decoded twice (Err f) h g = absurd cc

    by_length : (b : Bool) → eqb (length text) (2 * digest_width) ≡ b → cond b (result_ok (decode_of text)) None ≡ Some id → IsId id
    by_length true h f = decoded (eqb-true (length text) (2 * digest_width) h) (decode_of text) refl f
    by_length false h f = absurd cc

pub number-within : (text : List ℕ) (n : ℕ) → number_of text ≡ Some n → n < 2 ^ 64
unfolding number_of
number-within text n e = by_tests (leb 1 (length text) && leb (length text) most_digits && list_all is_decimal_digit text) (ltb (digits_value 10 text) (2 ^ 64)) refl e
  where
    by_tests : (a b : Bool) → ltb (digits_value 10 text) (2 ^ 64) ≡ b → cond (a && b) (Some (digits_value 10 text)) None ≡ Some n → n < 2 ^ 64
    by_tests true true h f = let same : digits_value 10 text ≡ n = cc in subst (λ m. m < 2 ^ 64) same (ltb-true (digits_value 10 text) (2 ^ 64) h)
    by_tests true false h f = absurd cc
    by_tests false b h f = absurd cc

-- ---- by words

both-within : {A B C : Type 0} (P : C → Type 0) (make : A → B → C) (a : Option A) (b : Option B) (asked : C) → both make a b ≡ Some asked
    → ((x : A) (y : B) → a ≡ Some x → b ≡ Some y → P (make x y)) → P asked
both-within P make None b asked e h = absurd cc
both-within P make (Some x) None asked e h = absurd cc
both-within P make (Some x) (Some y) asked e h = let made : make x y ≡ asked = cc in subst P made (h x y refl refl)

all_three-within : {A B C : Type 0} (make : A → B → C → Event) (a : Option A) (b : Option B) (c : Option C) (asked : Event) → all_three make a b c ≡ Some asked
    → ((x : A) (y : B) (z : C) → a ≡ Some x → b ≡ Some y → c ≡ Some z → IsAsked (make x y z)) → IsAsked asked
all_three-within make None b c asked e h = absurd cc
all_three-within make (Some x) b c asked e h = both-within IsAsked (make x) b c asked e (λ y z. h x y z refl)

mapped-within : {A B : Type 0} (P : B → Type 0) (make : A → B) (a : Option A) (asked : B) → option_map make a ≡ Some asked → ((x : A) → a ≡ Some x → P (make x)) → P asked
mapped-within P make None asked e h = absurd cc
mapped-within P make (Some x) asked e h = let same : make x ≡ asked = cc in subst P same (h x refl)

one-within : (b c : Bool) (asked : Event) → cond b (Some block_end) (cond c (Some stats) None) ≡ Some asked → IsAsked asked
unfolding IsAsked
one-within true c asked e = let found : block_end ≡ asked = cc in subst IsAsked found tt
one-within false true asked e = let found : stats ≡ asked = cc in subst IsAsked found tt
one-within false false asked e = absurd cc

two-within : (b c d : Bool) (text : List ℕ) (asked : Event) → cond b (option_map delete (key_of text)) (cond c (option_map head (id_of text)) (cond d (option_map usage (id_of text)) None)) ≡ Some asked → IsAsked asked
unfolding IsAsked
two-within true c d text asked e = mapped-within IsAsked delete (key_of text) asked e (λ key k. key-within text key k)
two-within false true d text asked e = mapped-within IsAsked head (id_of text) asked e (λ id i. id-within text id i)
two-within false false true text asked e = mapped-within IsAsked usage (id_of text) asked e (λ id i. id-within text id i)
two-within false false false text asked e = absurd cc

three-within : (b c d f : Bool) (one two : List ℕ) (asked : Event) → cond b (both set (key_of one) (value_of two)) (cond c (both flat (id_of one) (key_of two)) (cond d (both trie (id_of one) (key_of two)) (cond f (both same (id_of one) (id_of two)) None))) ≡ Some asked → IsAsked asked
unfolding IsAsked
three-within true c d f one two asked e = both-within IsAsked set (key_of one) (value_of two) asked e (λ key value k v. pair-within one two key value k v)
three-within false true d f one two asked e = both-within IsAsked flat (id_of one) (key_of two) asked e (λ id key i k. (id-within one id i, key-within two key k))
three-within false false true f one two asked e = both-within IsAsked trie (id_of one) (key_of two) asked e (λ id key i k. (id-within one id i, key-within two key k))
three-within false false false true one two asked e = both-within IsAsked same (id_of one) (id_of two) asked e (λ a b i j. (id-within one a i, id-within two b j))
three-within false false false false one two asked e = absurd cc

four-within : (b : Bool) (one two three : List ℕ) (asked : Event) → cond b (all_three block (id_of one) (id_of two) (number_of three)) None ≡ Some asked → IsAsked asked
unfolding IsAsked
four-within true one two three asked e = all_three-within block (id_of one) (id_of two) (number_of three) asked e (λ id prev height i p n. (id-within one id i, id-within two prev p, number-within three height n))
four-within false one two three asked e = absurd cc

words-within : (words : List (List ℕ)) (asked : Event) → event_of_words words ≡ Some asked → IsAsked asked
words-within [] asked e = absurd cc
words-within (word ∷ []) asked e = one-within (bytes_eq word (codes "end")) (bytes_eq word (codes "stats")) asked e
words-within (word ∷ a ∷ []) asked e = two-within (bytes_eq word (codes "del")) (bytes_eq word (codes "head")) (bytes_eq word (codes "usage")) a asked e
words-within (word ∷ a ∷ b ∷ []) asked e = three-within (bytes_eq word (codes "set")) (bytes_eq word (codes "flat")) (bytes_eq word (codes "trie")) (bytes_eq word (codes "same")) a b asked e
words-within (word ∷ a ∷ b ∷ c ∷ []) asked e = four-within (bytes_eq word (codes "block")) a b c asked e
words-within (word ∷ a ∷ b ∷ c ∷ d ∷ words) asked e = absurd cc

-- ---- by lines

some_nothing : (asked : Event) → Some nothing ≡ Some asked → IsAsked asked
unfolding IsAsked
some_nothing asked e = let same : nothing ≡ asked = cc in subst IsAsked same tt

line-within : (hash carriage : Bool) (words : List (List ℕ)) (asked : Event) → cond hash (cond carriage None (Some nothing)) (event_of_words words) ≡ Some asked → IsAsked asked
line-within true true words asked e = absurd cc
line-within true false words asked e = some_nothing asked e
line-within false carriage words asked e = words-within words asked e

pub asked-within : (line : List ℕ) (asked : Event) → event_of line ≡ Some asked → IsAsked asked
unfolding event_of
asked-within [] asked e = some_nothing asked e
asked-within (byte ∷ line) asked e = line-within (is_hash byte) (list_any is_carriage_return line) (slice_split is_space (byte ∷ line)) asked e

-- the pair of a `set` line
pub IsPair-event_of : (line key value : List ℕ) → event_of line ≡ Some (set key value) → IsPair (key, value)
unfolding IsAsked
IsPair-event_of line key value e = asked-within line (set key value) e

-- ---- operations

-- what is there where a test is passed
passed : {A : Type 0} (b : Bool) (o : Option A) (found : A) → cond b o None ≡ Some found → (b ≡ true) × (o ≡ Some found)
passed true o found e = (refl, e)
passed false o found e = absurd cc

setting-within : (text : List ℕ) (op : Op) → set_of text ≡ Some op → IsOp op
unfolding IsOp
setting-within text op e =
    both-within IsOp words.set (key_of (before_first is_equals text)) (value_of (after_first is_equals text)) op (passed (list_any is_equals text) _ op e).1
    (λ key value k v. pair-within (before_first is_equals text) (after_first is_equals text) key value k v)

kind-within : (b c d : Bool) (text : List ℕ) (op : Op) → cond b (option_map words.read (key_of text)) (cond c (set_of text) (cond d (option_map words.delete (key_of text)) None)) ≡ Some op → IsOp op
unfolding IsOp
kind-within true c d text op e = mapped-within IsOp words.read (key_of text) op e (λ key k. key-within text key k)
kind-within false true d text op e = setting-within text op e
kind-within false false true text op e = mapped-within IsOp words.delete (key_of text) op e (λ key k. key-within text key k)
kind-within false false false text op e = absurd cc

op-within : (word : List ℕ) (op : Op) → op_of word ≡ Some op → IsOp op
unfolding op_of
op-within [] op e = absurd cc
op-within (byte ∷ text) op e = kind-within (eqb byte 63) (eqb byte 43) (eqb byte 45) text op e

-- what is told of operations by the words for them
record AreOps (words : List (List ℕ)) (ops : List Op) : Type 0 where
  within : AllByRecursion IsOp ops
  count : length ops ≡ length words

ops-within : (words : List (List ℕ)) (ops : List Op) → ops_of words ≡ Some ops → AreOps words ops
unfolding ops_of
ops-within [] ops e = let none : [] ≡ ops = cc in subst (AreOps []) none (record { within = tt; count = refl })
ops-within (word ∷ words) ops e = both-within (AreOps (word ∷ words)) (λ op rest. op ∷ rest) (op_of word) (ops_of words) ops e (λ op rest o r.
    let are = ops-within words rest r in
    record { within = (op-within word op o, are.within); count = ap suc are.count })

-- ---- command words

single-within : (b c d : Bool) (asked : Command) → cond b (Some root) (cond c (Some apply) (cond d (Some replay) None)) ≡ Some asked → IsCommanded asked
unfolding IsCommanded
single-within true c d asked e = let found : root ≡ asked = cc in subst IsCommanded found tt
single-within false true d asked e = let found : apply ≡ asked = cc in subst IsCommanded found tt
single-within false false true asked e = let found : replay ≡ asked = cc in subst IsCommanded found tt
single-within false false false asked e = absurd cc

getting-within : (id word : List ℕ) (words : List (List ℕ)) (asked : Command) → get_of id (word ∷ words) ≡ Some asked → IsCommanded asked
unfolding IsCommanded
getting-within id word [] asked e = both-within IsCommanded get (id_of id) (key_of word) asked e (λ found key i k. (id-within id found i, key-within word key k))
getting-within id word (next ∷ words) asked e = absurd cc

proving-within : (id word : List ℕ) (words : List (List ℕ)) (asked : Command) → both prove (id_of id) (few_ops_of (word ∷ words)) ≡ Some asked → IsCommanded asked
unfolding IsCommanded
proving-within id word words asked e = both-within IsCommanded prove (id_of id) (few_ops_of (word ∷ words)) asked e (λ found ops i o.
    let few = passed (leb (length (word ∷ words)) most_operations) (ops_of (word ∷ words)) ops o in
    let are = ops-within (word ∷ words) ops few.1 in
    let most : length (word ∷ words) ≤ most_operations = leb-true (length (word ∷ words)) most_operations few.0 in
    (id-within id found i, are.within, omega (arith, are.count), omega (arith, are.count, most)))

more-within : (b c : Bool) (id word : List ℕ) (words : List (List ℕ)) (asked : Command) → cond b (get_of id (word ∷ words)) (cond c (both prove (id_of id) (few_ops_of (word ∷ words))) None) ≡ Some asked → IsCommanded asked
more-within true c id word words asked e = getting-within id word words asked e
more-within false true id word words asked e = proving-within id word words asked e
more-within false false id word words asked e = absurd cc

pub command-within : (words : List (List ℕ)) (asked : Command) → command_of words ≡ Some asked → IsCommanded asked
command-within [] asked e = absurd cc
command-within (word ∷ []) asked e = single-within (bytes_eq word (codes "root")) (bytes_eq word (codes "apply")) (bytes_eq word (codes "replay")) asked e
command-within (word ∷ id ∷ []) asked e = absurd cc
command-within (word ∷ id ∷ next ∷ words) asked e = more-within (bytes_eq word (codes "get")) (bytes_eq word (codes "prove")) id next words asked e
