-- Texts that are added one after the other: what holds while some are added and others are left.
use Rattle.std.proofs.Common.{◌≡◌, ◌≢◌, ℕ, ◌+◌, ◌≤◌, ◌<◌, List, [], ◌∷◌, ◌++◌, map, length, Option, None, Some, Err, ◌⊎◌, inl, inr, ⊎_elim, refl, sym, ap, ap₂, subst, ◌∙◌, ◌^◌, append_assoc, append-nil, arith}
use Rattle.std.specs.Prelude.{IfNone, slice_get, drop}
use Rattle.std.specs.Option.{IsSomeAnd}
use Rattle.std.specs.List.{AllByRecursion}
use Rattle.std.specs.List.Sorted.{IsStrictlySortedBy}
use Rattle.std.specs.declared.cmp.Ordering.TheVariants.{Less, Equal}
use Rattle.std.specs.FinMap.{get}
use Rattle.std.proofs.lemmas.List.{map-append}
use Rattle.trie_model.specs.Root.{Table, zero_digest}
use Rattle.trie_model.proofs.Growth.{slice_cmp-itself}
use Rattle.count_model.specs.Entries.{Entry, Exceeds, times_of}
use Rattle.count_model.proofs.ByEntries.{times-append, times-elsewhere, times-here}
use Rattle.base_core.proofs.ByteMaps.{same_or_other}
use Rattle.base_core.specs.declared.hash.Digest.{Digest}
use Rattle.text_store.proofs.Stored.{stored-unchanged}
use Rattle.text_store.specs.Counting.{Adds, AnswersAdd, Clashes, IsStored, IsUnchanged}
use Rattle.text_store.specs.Loading.{StaysKept}
use Rattle.text_store.specs.Store.{Digests}
use Rattle.text_store.specs.declared.errors.AddError.{AddError}
use Rattle.text_store.specs.declared.errors.AddError.TheVariants.{Clash, Fault}
use Rattle.trie_update.specs.Balances.{Ascends, by_bytes}
use Rattle.trie_update.specs.declared.change.MadeText.{MadeText}
use Rattle.shard_core.specs.Counting.{AddsAll, AddsSome, AnswersAddAll, AreClear, CanAdd, ClashesFirst, IsAddable}
use Rattle.shard_core.specs.Ledgers.{gains_of}
use Rattle.shard_core.proofs.Stored.{added-elsewhere, added-here, added-stays, stored-added}

-- ---- of each element

pub all-both : {X : Type 0} (P Q R : X → Type 0) (xs : List X) → ((x : X) → P x → Q x → R x) → AllByRecursion P xs → AllByRecursion Q xs → AllByRecursion R xs
all-both P Q R [] go ps qs = tt
all-both P Q R (x ∷ xs) go ps qs = (go x ps.0 qs.0, all-both P Q R xs go ps.1 qs.1)

pub all-each : {X : Type 0} (P R : X → Type 0) (xs : List X) → ((x : X) → P x → R x) → AllByRecursion P xs → AllByRecursion R xs
all-each P R [] go ps = tt
all-each P R (x ∷ xs) go ps = (go x ps.0, all-each P R xs go ps.1)

pub all-more : {X : Type 0} (P : X → Type 0) (xs : List X) (x : X) → AllByRecursion P xs → P x → AllByRecursion P (xs ++ x ∷ [])
all-more P [] x ps p = (p, tt)
all-more P (y ∷ xs) x ps p = (ps.0, all-more P xs x ps.1 p)

-- ---- entries

pub times-nil : (digest : List ℕ) → times_of [] digest ≡ 0
unfolding times_of
times-nil digest = refl

-- one more entry
pub times-more : (entries : List Entry) (digest : List ℕ) (n : ℕ) (low high next : List ℕ → ℕ) → Exceeds low high entries → next digest ≡ high digest + n → ((other : List ℕ) → other ≢ digest → next other ≡ high other) → Exceeds low next (entries ++ (digest, n) ∷ [])
times-more entries digest n low high next exceeds here elsewhere = record {
  by_entries = λ q.
      ⊎_elim
      (λ (same : q ≡ digest). subst (λ d. low d + times_of (entries ++ (digest, n) ∷ []) d ≡ next d) (sym same)
      (let a = times-append entries ((digest, n) ∷ []) digest in
      let b = times-here digest n [] in
      let c = times-nil digest in
      let e = exceeds.by_entries digest in
      omega (arith, a, b, c, e, here)))
      (λ apart.
      let a = times-append entries ((digest, n) ∷ []) q in
      let b = times-elsewhere digest n [] q apart in
      let c = times-nil q in
      let e = exceeds.by_entries q in
      let f = elsewhere q apart in
      omega (arith, a, b, c, e, f))
      (same_or_other_digest q digest);
}
  where
    same_or_other_digest : (q d : List ℕ) → (q ≡ d) ⊎ (q ≢ d)
    same_or_other_digest q d = ⊎_elim (λ (same : q ≡ d). inl same) (λ other. inr other.0) (same_or_other q d)

-- ---- digests that rise

different : Less ≡ Equal → ⊥
different e = cc

apart_by_order : (a b : List ℕ) (x y : Digest) → a ≡ x.0 → b ≡ y.0 → by_bytes x y ≡ Less → b ≢ a
apart_by_order a b x y p q less e = different (sym less ∙ ap (λ (d : List ℕ). by_bytes x (record { 0 = d })) (sym q ∙ e ∙ p) ∙ slice_cmp-itself x.0)

-- those behind the first have other digests
pub rest-apart : (m : MadeText) (rest : List MadeText) → Ascends (map (λ m. m.digest) (m ∷ rest)) → AllByRecursion (λ other. other.digest.0 ≢ m.digest.0) rest
unfolding IsStrictlySortedBy
rest-apart m rest rising = go rest rising.0
  where
    go : (xs : List MadeText) → AllByRecursion (λ y. by_bytes m.digest y ≡ Less) (map (λ m. m.digest) xs) → AllByRecursion (λ other. other.digest.0 ≢ m.digest.0) xs
    go [] below = tt
    go (x ∷ xs) below = (apart_by_order m.digest.0 x.digest.0 m.digest x.digest refl refl below.0, go xs below.1)

rest-ascends : (m : MadeText) (rest : List MadeText) → Ascends (map (λ m. m.digest) (m ∷ rest)) → Ascends (map (λ m. m.digest) rest)
unfolding IsStrictlySortedBy
rest-ascends m rest rising = rising.1

-- ---- some are added and others are left

pub record IsAdding (texts now : Table) (count_of count_now : List ℕ → ℕ) (made left : List MadeText) : Type 0 where
  pub done : List MadeText
  pub parts : made ≡ done ++ left
  pub can : CanAdd now count_now left
  pub clear : AreClear texts done
  pub held : AllByRecursion (λ m. get now m.digest.0 ≡ Some m.text) done
  pub counts : Exceeds count_of count_now (gains_of done)
  pub stays : (digest t : List ℕ) → get texts digest ≡ Some t → get now digest ≡ Some t
  pub same : AllByRecursion (λ m. get now m.digest.0 ≡ get texts m.digest.0) left
  pub stored : IsStored now count_now

pub adding-start : (texts : Table) (count_of : List ℕ → ℕ) (made : List MadeText) → IsStored texts count_of → CanAdd texts count_of made → IsAdding texts texts count_of count_of made made
adding-start texts count_of made stored can = record {
  done = [];
  parts = refl;
  can = can;
  clear = tt;
  held = tt;
  counts = record { by_entries = λ q. let n = times-nil q in omega (arith, n) };
  stays = λ q t at. at;
  same = all-each (IsAddable texts count_of) (λ m. get texts m.digest.0 ≡ get texts m.digest.0) made (λ m h. refl) can.each;
  stored = stored;
}

module _ (texts now : Table) (count_of count_now : List ℕ → ℕ) (made : List MadeText) (m : MadeText) (left : List MadeText) (is : IsAdding texts now count_of count_now made (m ∷ left)) where
  pub adding-can : IsAddable now count_now m
  adding-can = is.can.each.0

  clear_first : ¬ Clashes now m.digest.0 m.text → ¬ Clashes texts m.digest.0 m.text
  clear_first clear = subst (λ o. ¬ ((m.digest.0 ≡ zero_digest) ⊎ IsSomeAnd o (λ other. other ≢ m.text))) is.same.0 clear

  pub adding-step : (later : Table) (count_later : List ℕ → ℕ) → Adds now later count_now count_later m.digest.0 m.text m.times → ¬ Clashes now m.digest.0 m.text → IsAdding texts later count_of count_later made left
  adding-step later count_later adds clear =
      let apart = rest-apart m left is.can.ascends in
      record {
        done = is.done ++ m ∷ [];
        parts = is.parts ∙ sym (append_assoc is.done (m ∷ []) left);
        can = record {
          ascends = rest-ascends m left is.can.ascends;
          each = all-both (IsAddable now count_now) (λ other. other.digest.0 ≢ m.digest.0) (IsAddable later count_later) left
              (λ other h n. record {
                named = h.named;
                wanted = subst (λ o. IfNone o (1 ≤ other.times)) (sym (elsewhere other.digest.0 n)) h.wanted;
                fits = subst (λ (k : ℕ). k + other.times < 2 ^ 64) (sym (adds.count.elsewhere other.digest.0 n)) h.fits;
              }) is.can.each.1 apart;
        };
        clear = all-more (λ m. ¬ Clashes texts m.digest.0 m.text) is.done m is.clear (clear_first clear);
        held = all-more (λ m. get later m.digest.0 ≡ Some m.text) is.done m (all-each (λ m. get now m.digest.0 ≡ Some m.text) (λ m. get later m.digest.0 ≡ Some m.text) is.done (λ other at. stays other.digest.0 other.text at) is.held) (added-here now later count_now count_later m.digest.0 m.text m.times adds);
        counts = subst (Exceeds count_of count_later) (sym (map-append (λ (m : MadeText). (m.digest.0, m.times)) is.done (m ∷ []))) (times-more (gains_of is.done) m.digest.0 m.times count_of count_now count_later is.counts adds.count.here adds.count.elsewhere);
        stays = λ q t at. stays q t (is.stays q t at);
        same = all-both (λ other. get now other.digest.0 ≡ get texts other.digest.0) (λ other. other.digest.0 ≢ m.digest.0) (λ other. get later other.digest.0 ≡ get texts other.digest.0) left (λ other e n. elsewhere other.digest.0 n ∙ e) is.same.1 apart;
        stored = stored-added now later count_now count_later m.digest.0 m.text m.times adds is.stored is.can.each.0.named clear is.can.each.0.wanted;
      }
    where
      elsewhere : (q : List ℕ) → q ≢ m.digest.0 → get later q ≡ get now q
      elsewhere = added-elsewhere now later count_now count_later m.digest.0 m.text m.times adds

      stays : (q t : List ℕ) → get now q ≡ Some t → get later q ≡ Some t
      stays = added-stays now later count_now count_later m.digest.0 m.text m.times adds clear

  pub adding-clash : (named : Digest) → named ≡ m.digest → Clashes now m.digest.0 m.text → ClashesFirst texts made named
  adding-clash named e clash = record {
    before = is.done;
    here = m;
    behind = left;
    parts = is.parts;
    clear = is.clear;
    named = sym e;
    clash = subst (λ o. (m.digest.0 ≡ zero_digest) ⊎ IsSomeAnd o (λ other. other ≢ m.text)) is.same.0 clash;
  }

module _ (texts now : Table) (count_of count_now : List ℕ → ℕ) (made : List MadeText) where
  pub adding-end : IsAdding texts now count_of count_now made [] → AddsAll texts now count_of count_now made
  adding-end is = subst (AddsAll texts now count_of count_now) (sym (is.parts ∙ append-nil is.done)) (record { clear = is.clear; held = is.held; counts = is.counts })

  pub adding-some : (left : List MadeText) → IsAdding texts now count_of count_now made left → AddsSome texts now count_of count_now made
  adding-some left is = record {
    stays = is.stays;
    least = λ q. let e = is.counts.by_entries q in omega (arith, e);
    most = λ q.
        let e = is.counts.by_entries q in
        let parts = ap (λ list. times_of (gains_of list) q) is.parts ∙ ap (λ list. times_of list q) (map-append (λ (m : MadeText). (m.digest.0, m.times)) is.done left) ∙ times-append (gains_of is.done) (gains_of left) q in
        omega (arith, e, parts);
  }

-- ---- the first of a list

pub first-rest : {X : Type 0} (xs rest : List X) (x : X) → slice_get xs 0 ≡ Some x → rest ≡ drop 1 xs → xs ≡ x ∷ rest
first-rest [] rest x first others = absurd cc
first-rest (y ∷ ys) rest x first others = ap₂ (λ z zs. z ∷ zs) (same y x first) (sym others)
  where
    same : {X : Type 0} (a b : X) → Some a ≡ Some b → a ≡ b
    same a b e = cc

pub none-left : {X : Type 0} (xs : List X) → slice_get xs 0 ≡ None → xs ≡ []
none-left [] e = refl
none-left (x ∷ xs) e = absurd cc

-- ---- as the loop over the texts has it

module _ (texts now : Table) (count_of count_now : List ℕ → ℕ) (made left rest : List MadeText) (m : MadeText) (first : slice_get left 0 ≡ Some m) (others : rest ≡ drop 1 left) (is : IsAdding texts now count_of count_now made left) where
  next : IsAdding texts now count_of count_now made (m ∷ rest)
  next = subst (IsAdding texts now count_of count_now made) (first-rest left rest m first others) is

  pub next-can : IsAddable now count_now m
  next-can = adding-can texts now count_of count_now made m rest next

  pub next-added : (later : Table) (count_later : List ℕ → ℕ) → Adds now later count_now count_later m.digest.0 m.text m.times → ¬ Clashes now m.digest.0 m.text → IsAdding texts later count_of count_later made rest
  next-added later count_later adds clear = adding-step texts now count_of count_now made m rest next later count_later adds clear

  pub next-room : (spare spare_after : ℕ) → length left ≤ spare → spare ≤ spare_after + 1 → length rest ≤ spare_after
  next-room spare spare_after enough less =
      let e = ap length (first-rest left rest m first others) in
      omega (arith, e, enough, less)

  pub next-refused : (error : AddError) → AnswersAdd now m.digest m.text (Err error) → AnswersAddAll texts made (Err error)
  next-refused (Clash named) answer = adding-clash texts now count_of count_now made m rest next named answer.0 answer.1
  next-refused Fault answer = tt

  pub next-stopped : (later : Table) (count_later : List ℕ → ℕ) → IsUnchanged now later count_now count_later → AddsSome texts later count_of count_later made
  next-stopped later count_later same =
      let some = adding-some texts now count_of count_now made left is in
      record {
        stays = λ q t at. ap (λ (m : Table). get m q) same.same_texts ∙ some.stays q t at;
        least = λ q. subst (λ (n : ℕ). count_of q ≤ n) (sym (same.same_counts q)) (some.least q);
        most = λ q. subst (λ (n : ℕ). n ≤ count_of q + times_of (gains_of made) q) (sym (same.same_counts q)) (some.most q);
      }

  pub next-stored : (later : Table) (count_later : List ℕ → ℕ) → IsUnchanged now later count_now count_later → IsStored later count_later
  next-stored later count_later same = stored-unchanged now later count_now count_later is.stored same

-- ---- what is kept as loaded

pub kept-itself : (o : Option Digests) → StaysKept o o
kept-itself None = tt
kept-itself (Some kept) = refl

pub kept-onward : (a b c : Option Digests) → StaysKept a b → StaysKept b c → StaysKept a c
kept-onward a b None first second = tt
kept-onward a b (Some kept) first second = subst (StaysKept a) second first
