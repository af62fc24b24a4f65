-- Digests that are released one after the other: what holds while some are released and others are left.
use Rattle.std.proofs.Common.{◌≡◌, ℕ, ◌+◌, ◌≤◌, ◌<◌, length, drop, drop_of_length-le, List, [], ◌∷◌, ◌++◌, Some, ⊎_elim, refl, sym, ap, subst, ◌∙◌, arith}
use Rattle.std.specs.Prelude.{slice_index_or}
use Rattle.std.specs.List.{flat_map, slice_get}
use Rattle.std.specs.FinMap.{get}
use Rattle.std.proofs.lemmas.List.{at_drop_more}
use Rattle.trie_model.specs.Root.{Table}
use Rattle.count_model.specs.Entries.{Entry, Exceeds, times_of}
use Rattle.count_model.proofs.ByEntries.{times-append, times-elsewhere, times-here}
use Rattle.base_core.proofs.ByteMaps.{same_or_other}
use Rattle.flat_store.proofs.Passing.{drop_at}
use Rattle.text_store.proofs.Stored.{stored-releases, stored-unchanged}
use Rattle.text_store.specs.Counting.{IsStored, IsUnchanged, Releases}
use Rattle.shard_core.specs.Counting.{CanRelease, ReleasesSome}
use Rattle.shard_core.specs.Ledgers.{entries_of}
use Rattle.shard_core.specs.declared.occurrences.Occurrences.{Occurrences}
use Rattle.shard_core.proofs.Gathered.{times-nil}
use Rattle.shard_core.proofs.Stored.{released-only}

-- The entries that are left still stand above the counts at the end.
pub record IsReleasing (texts now : Table) (count_of count_now : List ℕ → ℕ) (entries left : List Entry) : Type 0 where
  pub exceeds : (digest : List ℕ) → count_of digest + times_of left digest ≡ count_now digest + times_of entries digest
  pub can : CanRelease count_now left
  pub only : (digest t : List ℕ) → get now digest ≡ Some t → get texts digest ≡ Some t
  pub most : (digest : List ℕ) → count_now digest ≤ count_of digest
  pub stored : IsStored now count_now

pub releasing-start : (texts : Table) (count_of : List ℕ → ℕ) (entries : List Entry) → IsStored texts count_of → CanRelease count_of entries → IsReleasing texts texts count_of count_of entries entries
releasing-start texts count_of entries stored can = record {
  exceeds = λ q. refl;
  can = can;
  only = λ q t at. at;
  most = λ q. omega arith;
  stored = stored;
}

module _ (texts now : Table) (count_of count_now : List ℕ → ℕ) (entries : List Entry) where
  -- a part of what is left is released
  pub releasing-part : (part rest : List Entry) → IsReleasing texts now count_of count_now entries (part ++ rest) → (later : Table) (count_later : List ℕ → ℕ) → Exceeds count_later count_now part → ReleasesSome now later count_now count_later part → IsStored later count_later → IsReleasing texts later count_of count_later entries rest
  releasing-part part rest is later count_later exceeds some stored = record {
    exceeds = λ q.
        let a = is.exceeds q in
        let b = exceeds.by_entries q in
        let c = times-append part rest q in
        omega (arith, a, b, c);
    can = λ q.
        let a = is.can q in
        let b = exceeds.by_entries q in
        let c = times-append part rest q in
        omega (arith, a, b, c);
    only = λ q t at. is.only q t (some.only q t at);
    most = λ q.
        let a = is.most q in
        let b = some.most q in
        omega (arith, a, b);
    stored = stored;
  }

  -- of a part of what is left some is released
  pub releasing-cut : (part rest : List Entry) → IsReleasing texts now count_of count_now entries (part ++ rest) → (later : Table) (count_later : List ℕ → ℕ) → ReleasesSome now later count_now count_later part → ReleasesSome texts later count_of count_later entries
  releasing-cut part rest is later count_later some = record {
    only = λ q t at. is.only q t (some.only q t at);
    most = λ q.
        let a = is.most q in
        let b = some.most q in
        omega (arith, a, b);
    least = λ q.
        let a = is.exceeds q in
        let b = some.least q in
        let c = times-append part rest q in
        omega (arith, a, b, c);
  }

  pub releasing-end : IsReleasing texts now count_of count_now entries [] → Exceeds count_now count_of entries
  releasing-end is = record {
    by_entries = λ q.
        let a = is.exceeds q in
        let b = times-nil q in
        omega (arith, a, b);
  }

  pub releasing-some : (left : List Entry) → IsReleasing texts now count_of count_now entries left → ReleasesSome texts now count_of count_now entries
  releasing-some left is = record {
    only = is.only;
    most = is.most;
    least = λ q. let a = is.exceeds q in omega (arith, a);
  }

  -- nothing is changed
  pub releasing-same : (left : List Entry) → IsReleasing texts now count_of count_now entries left → (later : Table) (count_later : List ℕ → ℕ) → IsUnchanged now later count_now count_later → IsReleasing texts later count_of count_later entries left
  releasing-same left is later count_later same = record {
    exceeds = λ q. is.exceeds q ∙ ap (λ (n : ℕ). n + times_of entries q) (sym (same.same_counts q));
    can = λ q. subst (λ (n : ℕ). times_of left q ≤ n) (sym (same.same_counts q)) (is.can q);
    only = λ q t at. is.only q t (ap (λ (m : Table). get m q) (sym same.same_texts) ∙ at);
    most = λ q. subst (λ (n : ℕ). n ≤ count_of q) (sym (same.same_counts q)) (is.most q);
    stored = stored-unchanged now later count_now count_later is.stored same;
  }

-- ---- one digest is released

module _ (texts later : Table) (count_of count_after : List ℕ → ℕ) (digest : List ℕ) (n : ℕ) (releases : Releases texts later count_of count_after digest n) (enough : n ≤ count_of digest) where
  pub one-released : Exceeds count_after count_of ((digest, n) ∷ [])
  one-released = record {
    by_entries = λ q.
        ⊎_elim
        (λ (same : q ≡ digest). subst (λ d. count_after d + times_of ((digest, n) ∷ []) d ≡ count_of d) (sym same)
        (let a = times-here digest n [] in
        let b = times-nil digest in
        let c = releases.count.here in
        omega (arith, a, b, c, enough)))
        (λ other.
        let a = times-elsewhere digest n [] q other.0 in
        let b = times-nil q in
        let c = releases.count.elsewhere q other.0 in
        omega (arith, a, b, c))
        (same_or_other q digest);
  }

  pub one-some : ReleasesSome texts later count_of count_after ((digest, n) ∷ [])
  one-some = record {
    only = released-only texts later count_of count_after digest n releases;
    most = λ q. let a = one-released.by_entries q in omega (arith, a);
    least = λ q. let a = one-released.by_entries q in omega (arith, a);
  }

-- the first entry of what is left can be released
pub first-enough : (count_of : List ℕ → ℕ) (digest : List ℕ) (n : ℕ) (rest : List Entry) → CanRelease count_of ((digest, n) ∷ rest) → n ≤ count_of digest
first-enough count_of digest n rest can =
    let a = can digest in
    let b = times-here digest n rest in
    omega (arith, a, b)

-- and so can a part in front
pub part-enough : (count_of : List ℕ → ℕ) (part rest : List Entry) → CanRelease count_of (part ++ rest) → CanRelease count_of part
part-enough count_of part rest can = λ q.
    let a = can q in
    let b = times-append part rest q in
    omega (arith, a, b)

-- ---- as the loop over a list of entries has it

module _ (texts now : Table) (count_of count_now : List ℕ → ℕ) (list : List Occurrences) (i : ℕ) (d : Occurrences) (within : i < length list) (is : IsReleasing texts now count_of count_now (entries_of list) (entries_of (drop i list))) where
  abbrev one : Occurrences
  one = slice_index_or list i d

  parts : entries_of (drop i list) ≡ (one.digest.0, one.times) ∷ entries_of (drop (i + 1) list)
  parts = ap entries_of (at_drop_more (λ ys. ys) list i d within)

  at : IsReleasing texts now count_of count_now (entries_of list) (((one.digest.0, one.times) ∷ []) ++ entries_of (drop (i + 1) list))
  at = subst (IsReleasing texts now count_of count_now (entries_of list)) parts is

  pub at-enough : one.times ≤ count_now one.digest.0
  at-enough = first-enough count_now one.digest.0 one.times (entries_of (drop (i + 1) list)) at.can

  pub at-released : (later : Table) (count_later : List ℕ → ℕ) → Releases now later count_now count_later one.digest.0 one.times → IsReleasing texts later count_of count_later (entries_of list) (entries_of (drop (i + 1) list))
  at-released later count_later releases =
      releasing-part texts now count_of count_now (entries_of list) ((one.digest.0, one.times) ∷ []) (entries_of (drop (i + 1) list)) at later count_later
      (one-released now later count_now count_later one.digest.0 one.times releases at-enough)
      (one-some now later count_now count_later one.digest.0 one.times releases at-enough)
      (stored-releases now later count_now count_later one.digest.0 one.times is.stored at-enough releases)

module _ (texts now : Table) (count_of count_now : List ℕ → ℕ) (list : List Occurrences) (i : ℕ) (is : IsReleasing texts now count_of count_now (entries_of list) (entries_of (drop i list))) where
  pub all-released : length list ≤ i → Exceeds count_now count_of (entries_of list)
  all-released ended = releasing-end texts now count_of count_now (entries_of list) (subst (λ xs. IsReleasing texts now count_of count_now (entries_of list) (entries_of xs)) (drop_of_length-le list {i = i} ended) is)

-- ---- as the loop over ids has it, each of which has entries

module _ (of : List ℕ → List Entry) (ids : List (List ℕ)) (i : ℕ) (texts now : Table) (count_of count_now : List ℕ → ℕ) (is : IsReleasing texts now count_of count_now (flat_map of ids) (flat_map of (drop i ids))) where
  module _ (id : List ℕ) (found : slice_get ids i ≡ Some id) (part : List Entry) (same : part ≡ of id) where
    next : IsReleasing texts now count_of count_now (flat_map of ids) (part ++ flat_map of (drop (i + 1) ids))
    next = subst (IsReleasing texts now count_of count_now (flat_map of ids)) (ap (flat_map of) (drop_at ids i id found) ∙ ap (λ entries. entries ++ flat_map of (drop (i + 1) ids)) (sym same)) is

    pub ids-enough : CanRelease count_now part
    ids-enough = part-enough count_now part (flat_map of (drop (i + 1) ids)) next.can

    pub ids-released : (later : Table) (count_later : List ℕ → ℕ) → Exceeds count_later count_now part → ReleasesSome now later count_now count_later part → IsStored later count_later → IsReleasing texts later count_of count_later (flat_map of ids) (flat_map of (drop (i + 1) ids))
    ids-released = releasing-part texts now count_of count_now (flat_map of ids) part (flat_map of (drop (i + 1) ids)) next

    pub ids-cut : (later : Table) (count_later : List ℕ → ℕ) → ReleasesSome now later count_now count_later part → ReleasesSome texts later count_of count_later (flat_map of ids)
    ids-cut = releasing-cut texts now count_of count_now (flat_map of ids) part (flat_map of (drop (i + 1) ids)) next

  pub ids-end : length ids ≤ i → Exceeds count_now count_of (flat_map of ids)
  ids-end ended = releasing-end texts now count_of count_now (flat_map of ids) (subst (λ xs. IsReleasing texts now count_of count_now (flat_map of ids) (flat_map of xs)) (drop_of_length-le ids {i = i} ended) is)
