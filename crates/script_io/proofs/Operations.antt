-- The operations that words are, as they are read one after another.
use Rattle.std.proofs.Common.{◌≡◌, ◌≢◌, ℕ, ◌+◌, ◌<◌, ◌≤◌, Bool, true, false, cond, List, [], ◌∷◌, ◌++◌, length, drop, get_or, Option, is_some, Some, None, refl, sym, ap, subst, ◌∙◌}
use Rattle.std.specs.Prelude.{IsSome}
use Rattle.std.specs.Option.{option_map}
use Rattle.std.proofs.lemmas.Bool.{le-leb, lt-leb, ne_eqb}
use Rattle.std.proofs.lemmas.List.{append-nil, append_assoc, drop_all, drop_more}
use Rattle.script_model.specs.Lines.{both}
use Rattle.script_model.specs.Spellings.{key_of}
use Rattle.script_model.specs.Words as words
use Rattle.script_model.specs.Words.{Op, op_of, ops_of, few_ops_of, set_of, most_operations}

-- ---- a word, by its first byte

pub op_of-reading : (sign : ℕ) (text : List ℕ) → sign ≡ 63 → op_of (sign ∷ text) ≡ option_map words.read (key_of text)
unfolding op_of
op_of-reading sign text e = rw e refl

pub op_of-setting : (sign : ℕ) (text : List ℕ) → sign ≡ 43 → op_of (sign ∷ text) ≡ set_of text
unfolding op_of
op_of-setting sign text e = rw e refl

pub op_of-deletion : (sign : ℕ) (text : List ℕ) → sign ≡ 45 → op_of (sign ∷ text) ≡ option_map words.delete (key_of text)
unfolding op_of
op_of-deletion sign text e = rw e refl

pub op_of-other : (sign : ℕ) (text : List ℕ) → sign ≢ 63 → sign ≢ 43 → sign ≢ 45 → op_of (sign ∷ text) ≡ None
unfolding op_of
op_of-other sign text a b c = rw (ne_eqb sign 63 a, ne_eqb sign 43 b, ne_eqb sign 45 c) refl

pub op_of-empty : (word : List ℕ) → length word ≡ 0 → op_of word ≡ None
unfolding op_of
op_of-empty [] e = refl
op_of-empty (byte ∷ text) e = absurd cc

-- ---- operations behind others

-- what is none where the operations of some words are none, and there where they are
pub record Follows (rest whole : Option (List Op)) : Type 0 where
  pub bad : rest ≡ None → whole ≡ None
  pub some : IsSome rest → IsSome whole

-- The first of some words were read: these are their operations, or one of them found no memory. What all words are follows from what the rest are.
abbrev pub IsUpTo : (lacking : Bool) (read : List Op) (rest whole : Option (List Op)) → Type 0
IsUpTo false read rest whole = whole ≡ option_map (λ (ops : List Op). read ++ ops) rest
IsUpTo true read rest whole = Follows rest whole

-- the operation of a word behind those that were read, and before the others
abbrev pub behind : List Op → Option Op → Option (List Op)
behind read op = option_map (λ (o : Op). read ++ o ∷ []) op

abbrev pub before : Option Op → Option (List Op) → Option (List Op)
before op rest = both (λ (o : Op) (ops : List Op). o ∷ ops) op rest

follows_more : (op : Option Op) (rest whole : Option (List Op)) → IsSome op → Follows (before op rest) whole → Follows rest whole
follows_more None rest whole h f = absurd cc
follows_more (Some o) None whole h f = record { bad = λ _. f.bad refl; some = λ e. absurd cc }
follows_more (Some o) (Some ops) whole h f = record { bad = λ e. absurd cc; some = λ _. f.some refl }

follows_read : (read : List Op) (rest whole : Option (List Op)) → whole ≡ option_map (λ (ops : List Op). read ++ ops) rest → Follows rest whole
follows_read read None whole e = record { bad = λ _. e; some = λ h. absurd cc }
follows_read read (Some ops) whole e = record { bad = λ h. absurd cc; some = λ _. ap is_some e }

follows : (lacking : Bool) (read : List Op) (rest whole : Option (List Op)) → IsUpTo lacking read rest whole → Follows rest whole
follows false read rest whole h = follows_read read rest whole h
follows true read rest whole h = h

put_behind : (read new : List Op) (o : Op) (rest : Option (List Op)) → read ++ o ∷ [] ≡ new → option_map (λ (ops : List Op). read ++ ops) (before (Some o) rest) ≡ option_map (λ (ops : List Op). new ++ ops) rest
put_behind read new o None e = refl
put_behind read new o (Some ops) e = ap Some (sym (append_assoc read (o ∷ []) ops) ∙ ap (λ (xs : List Op). xs ++ ops) e)

one_read : (lacking : Bool) (read new : List Op) (op : Option Op) (rest whole : Option (List Op)) → behind read op ≡ Some new → IsUpTo lacking read (before op rest) whole → IsUpTo lacking new rest whole
one_read lacking read new None rest whole e h = absurd cc
one_read false read new (Some o) rest whole e h = let last : read ++ o ∷ [] ≡ new = cc in h ∙ put_behind read new o rest last
one_read true read new (Some o) rest whole e h = follows_more (Some o) rest whole refl h

one_lacking : (lacking : Bool) (read : List Op) (op : Option Op) (rest whole : Option (List Op)) → IsSome (behind read op) → IsUpTo lacking read (before op rest) whole → Follows rest whole
one_lacking lacking read None rest whole e h = absurd cc
one_lacking lacking read (Some o) rest whole e h = follows_more (Some o) rest whole refl (follows lacking read (before (Some o) rest) whole h)

one_bad : (lacking : Bool) (read : List Op) (op : Option Op) (rest whole : Option (List Op)) → behind read op ≡ None → IsUpTo lacking read (before op rest) whole → whole ≡ None
one_bad lacking read None rest whole e h = (follows lacking read None whole h).bad refl
one_bad lacking read (Some o) rest whole e h = absurd cc

-- ---- words from a place on

-- so far are words read before a place
pub record IsReadTo (words : List (List ℕ)) (place : ℕ) (lacking : Bool) (read : List Op) : Type 0 where
  pub told : IsUpTo lacking read (ops_of (drop place words)) (ops_of words)

none_before : (ops : Option (List Op)) → ops ≡ option_map (λ (found : List Op). [] ++ found) ops
none_before None = refl
none_before (Some found) = refl

pub none_read : (words : List (List ℕ)) → IsReadTo words 0 false []
none_read words = record { told = none_before (ops_of words) }

ops_before : (words rest : List (List ℕ)) (word : List ℕ) → words ≡ word ∷ rest → ops_of words ≡ before (op_of word) (ops_of rest)
unfolding ops_of
ops_before words rest word e = rw e refl

module _ (words : List (List ℕ)) (place : ℕ) (d word : List ℕ) (lacking : Bool) (read : List Op) (within : place < length words) (is : word ≡ get_or words place d) (so_far : IsReadTo words place lacking read) where
  split : IsUpTo lacking read (before (op_of word) (ops_of (drop (place + 1) words))) (ops_of words)
  split =
      let here = drop_more words place d within ∙ ap (λ (w : List ℕ). w ∷ drop (place + 1) words) (sym is) in
      subst (λ ops. IsUpTo lacking read ops (ops_of words)) (ops_before (drop place words) (drop (place + 1) words) word here) so_far.told

  pub more_read : (new : List Op) → behind read (op_of word) ≡ Some new → IsReadTo words (place + 1) lacking new
  more_read new h = record { told = one_read lacking read new (op_of word) (ops_of (drop (place + 1) words)) (ops_of words) h split }

  pub more_lacking : (new : List Op) → IsSome (behind read (op_of word)) → IsReadTo words (place + 1) true new
  more_lacking new h = record { told = one_lacking lacking read (op_of word) (ops_of (drop (place + 1) words)) (ops_of words) h split }

  pub more_bad : behind read (op_of word) ≡ None → ops_of words ≡ None
  more_bad h = one_bad lacking read (op_of word) (ops_of (drop (place + 1) words)) (ops_of words) h split

few : (words : List (List ℕ)) → length words ≤ most_operations → few_ops_of words ≡ ops_of words
few words h = ap (λ b. cond b (ops_of words) None) (le-leb (length words) most_operations h)

ops_of_none : (words : List (List ℕ)) → words ≡ [] → ops_of words ≡ Some []
unfolding ops_of
ops_of_none words e = rw e refl

ops_past : (words : List (List ℕ)) (place : ℕ) → length words ≤ place → ops_of (drop place words) ≡ Some []
ops_past words place le = ops_of_none (drop place words) (drop_all place words le)

pub too_many : (words : List (List ℕ)) → most_operations < length words → few_ops_of words ≡ None
too_many words lt = ap (λ b. cond b (ops_of words) None) (lt-leb (length words) most_operations lt)

module _ (words : List (List ℕ)) (le : length words ≤ most_operations) where
  pub all_bad : ops_of words ≡ None → few_ops_of words ≡ None
  all_bad e = few words le ∙ e

  pub all_read : (place : ℕ) (read : List Op) → length words ≤ place → IsReadTo words place false read → few_ops_of words ≡ Some read
  all_read place read past h = few words le ∙ h.told ∙ ap (option_map (λ (ops : List Op). read ++ ops)) (ops_past words place past) ∙ ap Some (append-nil read)

  pub all_lacking : (place : ℕ) (read : List Op) → length words ≤ place → IsReadTo words place true read → IsSome (few_ops_of words)
  all_lacking place read past h = ap is_some (few words le) ∙ h.told.some (ap is_some (ops_past words place past))
