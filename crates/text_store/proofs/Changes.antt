-- What is put into the hash table and taken from it, as texts and counts.
use Rattle.std.proofs.Common.{◌≡◌, ◌≢◌, ◌≤◌, ◌<◌, ◌+◌, ◌-◌, ◌==◌, ℕ, Bool, true, false, cond, List, Option, None, Some, is_some, refl, sym, ap, ◌∙◌, subst, arith}
use Rattle.std.specs.Prelude.{nat_eq, nat_lt, unwrap_or, if◌then◌else◌}
use Rattle.std.specs.Option.{option_map}
use Rattle.std.specs.Cmp.Lexicographic.{pointwise, bytes_decides}
use Rattle.std.specs.FinMap.{get, insert, remove}
use Rattle.std.proofs.lemmas.Bool.{eq-eqb, ne_eqb, ltb-true}
use Rattle.text_store.specs.declared.held.Held.{Held}
use Rattle.text_store.specs.StoreStates.{texts_of, counts_of, IsKept}
use Rattle.text_store.specs.Counting.{IsUnchanged, SetsCount, Adds, Releases}
use Rattle.base_core.proofs.ByteMaps.{get-inserted, get-inserted_elsewhere, get-removed, get-removed_elsewhere, insert-again, remove-absent}
use Rattle.text_store.proofs.Tables.{Entries, found, get-seen, seen-same, seen-put, seen-taken}

-- the count of each digest
abbrev pub count_seen : Entries → List ℕ → ℕ
count_seen es q = unwrap_or (get (counts_of es) q) 0

-- ---- what is found

pub text-found : (es : Entries) (q : List ℕ) (h : Held) → Some h ≡ found es q → get (texts_of es) q ≡ Some h.text
text-found es q h e = get-seen (λ h. h.text) es q ∙ ap (option_map (λ h. h.text)) (sym e)

pub count-found : (es : Entries) (q : List ℕ) (h : Held) → Some h ≡ found es q → count_seen es q ≡ h.count
count-found es q h e = ap (λ o. unwrap_or o 0) (get-seen (λ h. h.count) es q ∙ ap (option_map (λ h. h.count)) (sym e))

pub text-missing : (es : Entries) (q : List ℕ) → None ≡ found es q → get (texts_of es) q ≡ None
text-missing es q e = get-seen (λ h. h.text) es q ∙ ap (option_map (λ h. h.text)) (sym e)

pub count-missing : (es : Entries) (q : List ℕ) → None ≡ found es q → count_seen es q ≡ 0
count-missing es q e = ap (λ o. unwrap_or o 0) (get-seen (λ h. h.count) es q ∙ ap (option_map (λ h. h.count)) (sym e))

-- ---- what is put and taken

-- the new table has this under a digest, and under each other what the old one has
abbrev pub Puts : Entries → Entries → List ℕ → Option Held → Type 0
Puts es fs d o = (q : List ℕ) → found fs q ≡ cond (pointwise nat_eq d q) o (found es q)

pub sets-put : (es fs : Entries) (d : List ℕ) (h : Held) → Puts es fs d (Some h) → SetsCount (count_seen es) (count_seen fs) d h.count
sets-put es fs d h p =
    let put = seen-put (λ h. h.count) es fs d h p in
    record {
      here = ap (λ m. unwrap_or (get m d) 0) put ∙ ap (λ o. unwrap_or o 0) (get-inserted (counts_of es) d h.count);
      elsewhere = λ q n. ap (λ m. unwrap_or (get m q) 0) put ∙ ap (λ o. unwrap_or o 0) (get-inserted_elsewhere (counts_of es) d h.count q n);
    }

pub sets-taken : (es fs : Entries) (d : List ℕ) → Puts es fs d None → SetsCount (count_seen es) (count_seen fs) d 0
sets-taken es fs d p =
    let taken = seen-taken (λ h. h.count) es fs d p in
    record {
      here = ap (λ m. unwrap_or (get m d) 0) taken ∙ ap (λ o. unwrap_or o 0) (get-removed (counts_of es) d);
      elsewhere = λ q n. ap (λ m. unwrap_or (get m q) 0) taken ∙ ap (λ o. unwrap_or o 0) (get-removed_elsewhere (counts_of es) d q n);
    }

pub unchanged-same : (es fs : Entries) → ((q : List ℕ) → found fs q ≡ found es q) → IsUnchanged (texts_of es) (texts_of fs) (count_seen es) (count_seen fs)
unchanged-same es fs h =
    record {
      same_texts = seen-same (λ h. h.text) es fs h;
      same_counts = λ q. ap (λ m. unwrap_or (get m q) 0) (seen-same (λ h. h.count) es fs h);
    }

-- what was found is put back
pub put-back : (es fs : Entries) (d : List ℕ) (h : Held) → Some h ≡ found es d → Puts es fs d (Some h) → (q : List ℕ) → found fs q ≡ found es q
put-back es fs d h e p q = p q ∙ by_test (pointwise nat_eq d q) refl
  where
    by_test : (b : Bool) → pointwise nat_eq d q ≡ b → cond b (Some h) (found es q) ≡ found es q
    by_test true same = e ∙ ap (found es) ((bytes_decides d q).0 same)
    by_test false other = refl

pub adds-put : (es fs : Entries) (d t : List ℕ) (times : ℕ) (h : Held) → Puts es fs d (Some h) → h.text ≡ t → h.count ≡ count_seen es d + times → Adds (texts_of es) (texts_of fs) (count_seen es) (count_seen fs) d t times
adds-put es fs d t times h p text count =
    record {
      held = seen-put (λ h. h.text) es fs d h p ∙ ap (insert (texts_of es) d) text;
      count = subst (SetsCount (count_seen es) (count_seen fs) d) count (sets-put es fs d h p);
    }

-- the texts stay where a count alone is put
pub texts-put : (es fs : Entries) (d : List ℕ) (h : Held) (n : ℕ) → Some h ≡ found es d → Puts es fs d (Some (record { text = h.text; count = n })) → texts_of fs ≡ texts_of es
texts-put es fs d h n e p = seen-put (λ h. h.text) es fs d _ p ∙ insert-again (texts_of es) d h.text (text-found es d h e)

-- some of the count is left
pub releases-put : (es fs : Entries) (d : List ℕ) (h : Held) (times : ℕ) → Some h ≡ found es d → Puts es fs d (Some (record { text = h.text; count = h.count - times })) → times ≤ h.count → (h.count - times ≢ 0)
    → Releases (texts_of es) (texts_of fs) (count_seen es) (count_seen fs) d times
releases-put es fs d h times e p le left =
    let count = count-found es d h e in
    let kept : (count_seen es d == times) ≡ false = ne_eqb (count_seen es d) times (λ same. left (omega (arith, same, count))) in
    record {
      held = texts-put es fs d h (h.count - times) e p ∙ (λ i. if sym kept i then remove (texts_of es) d else texts_of es);
      count = subst (SetsCount (count_seen es) (count_seen fs) d) (ap (λ n. n - times) (sym count)) (sets-put es fs d _ p);
    }

-- none of it is left
pub releases-taken : (es fs gs : Entries) (d : List ℕ) (h : Held) (times : ℕ) → Some h ≡ found es d → Puts es fs d (Some (record { text = h.text; count = h.count - times })) → times ≤ h.count → h.count - times ≡ 0 → Puts fs gs d None
    → Releases (texts_of es) (texts_of gs) (count_seen es) (count_seen gs) d times
releases-taken es fs gs d h times e p le left taken =
    let count = count-found es d h e in
    let all : (count_seen es d == times) ≡ true = eq-eqb (count_seen es d) times (omega (arith, count)) in
    let first = sets-put es fs d _ p in
    let second = sets-taken fs gs d taken in
    record {
      held = seen-taken (λ h. h.text) fs gs d taken ∙ ap (λ m. remove m d) (texts-put es fs d h (h.count - times) e p) ∙ (λ i. if sym all i then remove (texts_of es) d else texts_of es);
      count = record {
        here = second.here ∙ sym (ap (λ n. n - times) count ∙ left);
        elsewhere = λ q n. second.elsewhere q n ∙ first.elsewhere q n;
      };
    }

-- nothing is held, and nothing is released
pub releases-none : (es : Entries) (d : List ℕ) (times : ℕ) → None ≡ found es d → times ≤ count_seen es d → Releases (texts_of es) (texts_of es) (count_seen es) (count_seen es) d times
releases-none es d times e le =
    let count = count-missing es d e in
    let all : (count_seen es d == times) ≡ true = eq-eqb (count_seen es d) times (omega (arith, count)) in
    record {
      held = sym (remove-absent (texts_of es) d (text-missing es d e)) ∙ (λ i. if sym all i then remove (texts_of es) d else texts_of es);
      count = record { here = omega (arith, count); elsewhere = λ q n. refl };
    }

-- the same text is put with a higher count
pub adds-more : (es fs : Entries) (d t : List ℕ) (times : ℕ) (h : Held) → Some h ≡ found es d → h.text ≡ t → Puts es fs d (Some (record { text = h.text; count = h.count + times })) → Adds (texts_of es) (texts_of fs) (count_seen es) (count_seen fs) d t times
adds-more es fs d t times h e same p = adds-put es fs d t times _ p same (ap (λ n. n + times) (sym (count-found es d h e)))

-- what is found has a count of at least 1
pub counted-more : (es : Entries) (d : List ℕ) (times : ℕ) → IsKept es → (h : Held) → Some h ≡ found es d → 1 ≤ count_seen es d + times
counted-more es d times kept h e =
    let some : nat_lt 0 (count_seen es d) ≡ true = sym (kept.counted d) ∙ ap is_some (text-found es d h e) in
    let least : 0 < count_seen es d = ltb-true 0 (count_seen es d) some in
    omega (arith, least)

-- a text that was not held is put with its first count
pub adds-new : (es fs : Entries) (d t : List ℕ) (times : ℕ) → None ≡ found es d → Puts es fs d (Some (record { text = t; count = times })) → Adds (texts_of es) (texts_of fs) (count_seen es) (count_seen fs) d t times
adds-new es fs d t times e p =
    let count = count-missing es d e in
    adds-put es fs d t times _ p refl (omega (arith, count))
