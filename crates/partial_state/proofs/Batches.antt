-- Reading so many changes, each behind the one before it.
use Rattle.std.proofs.Common.{◌≡◌, ℕ, suc, ◌+◌, ◌-◌, ◌<◌, ◌⊎◌, inl, inr, true, List, [], ◌∷◌, ◌++◌, length, Option, None, Some, Ok, Err, Greater, refl, sym, ap, subst, ◌∙◌, arith, length-append}
use Rattle.std.proofs.lemmas.List.{append-nil, nil_from_length}
use Rattle.std.specs.List.{AllByRecursion}
use Rattle.std.specs.Ordering.{nat_cmp, ordering_reverse}
use Rattle.std.specs.Cmp.Lexicographic.{slice_cmp, nat_list_cmp_total}
use Rattle.std.specs.FinMap.{entries, empty, insert, entries-insert, len-empty, len-entries}
use Rattle.std.specs.FinMap.Entries.{put, by_order}
use Rattle.byte_model.proofs.Lists.{AllByRecursion-append, AllByRecursion-weaker}
use Rattle.record_model.specs.Fields.{Cursor}
use Rattle.batch_model.specs.Changes.{Changes, Change, most_changes}
use Rattle.base_core.specs.ChangeMaps.{ChangeMap, changed}
use Rattle.trie_model.proofs.Order.{Before}
use Rattle.partial_model.specs.Recording.{RecordingFault, follows, change_at, changes_from}
use Rattle.partial_model.proofs.Falls.{less_from}
use Rattle.text_store.proofs.Listing.{joined, joined-nothing, joined-one}

-- ---- a key behind all others

-- all keys stand before this one
AreBefore : List ℕ → List Change → Type 0
AreBefore key changes = AllByRecursion (λ change. Before change.0 key) changes

put-last : (key : List ℕ) (value : Option (List ℕ)) (changes : List Change) → AreBefore key changes → put (slice_cmp nat_cmp) key value changes ≡ changes ++ (key, value) ∷ []
unfolding AreBefore
put-last key value [] h = refl
put-last key value (change ∷ changes) h =
    let later : slice_cmp nat_cmp key change.0 ≡ Greater = nat_list_cmp_total.antisymm key change.0 ∙ ap ordering_reverse h.0 in
    ap (λ o. by_order o ((key, value) ∷ change ∷ changes) ((change.0, value) ∷ changes) (change ∷ put (slice_cmp nat_cmp) key value changes)) later
    ∙ ap (λ (others : List Change). change ∷ others) (put-last key value changes h.1)

-- the last key that was read is this one, and the others stand before it
pub UpTo : Option (List ℕ) → List Change → Type 0
UpTo None changes = changes ≡ []
UpTo (Some last) changes = AllByRecursion (λ change. (change.0 ≡ last) ⊎ Before change.0 last) changes

before-next : (earlier : Option (List ℕ)) (key : List ℕ) (changes : List Change) → UpTo earlier changes → follows earlier key ≡ true → AreBefore key changes
unfolding UpTo AreBefore
before-next None key changes h above = subst (λ (cs : List Change). AllByRecursion (λ change. Before change.0 key) cs) (sym h) tt
before-next (Some last) key changes h above = AllByRecursion-weaker (λ change. (change.0 ≡ last) ⊎ Before change.0 last) (λ change. Before change.0 key) (λ change e. further change.0 e) changes h
  where
    further : (k : List ℕ) → (k ≡ last) ⊎ Before k last → Before k key
    further k (inl same) = ap (λ (j : List ℕ). slice_cmp nat_cmp j key) same ∙ less_from _ above
    further k (inr before) = nat_list_cmp_total.trans k last key before (less_from _ above)

up_to-next : (earlier : Option (List ℕ)) (change : Change) (changes : List Change) → UpTo earlier changes → follows earlier change.0 ≡ true → UpTo (Some change.0) (changes ++ change ∷ [])
unfolding UpTo AreBefore
up_to-next earlier change changes h above =
    AllByRecursion-append (λ c. (c.0 ≡ change.0) ⊎ Before c.0 change.0) changes (change ∷ [])
    (AllByRecursion-weaker (λ c. Before c.0 change.0) (λ c. (c.0 ≡ change.0) ⊎ Before c.0 change.0) (λ c b. inr b) changes (before-next earlier change.0 changes h above)) (inl refl, tt)

-- ---- one change after the other

-- after n changes of so many, the reading is told by these changes and the reading of those that are left
pub record ReadsBatch (start : Cursor) (count : ℕ) (changes : List Change) (n : ℕ) (earlier : Option (List ℕ)) (now : Cursor) : Type 0 where
  pub told : changes_from count None start ≡ joined changes (changes_from (count - n) earlier now)
  pub long : length changes ≡ n
  pub up_to : UpTo earlier changes

-- the same of changes that are kept, with room for as many as may be
pub record KeepsBatch (start : Cursor) (count : ℕ) (held : ChangeMap) (n : ℕ) (earlier : Option (List ℕ)) (now : Cursor) : Type 0 where
  pub reads : ReadsBatch start count (entries held.changes) n earlier now
  pub most : held.most ≡ most_changes

pub ReadsBatch-init : (start : Cursor) (count : ℕ) (changes : List Change) (earlier : Option (List ℕ)) → changes ≡ [] → earlier ≡ None → ReadsBatch start count changes 0 earlier start
unfolding UpTo
ReadsBatch-init start count changes earlier none first =
    let whole : count ≡ count - 0 = omega arith in
    subst (λ (cs : List Change). ReadsBatch start count cs 0 earlier start) (sym none) (subst (λ (o : Option (List ℕ)). ReadsBatch start count [] 0 o start) (sym first)
    (record { told = ap (λ m. changes_from m None start) whole ∙ sym (joined-nothing (changes_from (count - 0) None start)); long = refl; up_to = refl }))

one_more : (n : ℕ) (earlier : Option (List ℕ)) (now next : Cursor) (change : Change) (done : List Change) → change_at earlier now ≡ Ok (change, next)
    → joined done (changes_from (suc n) earlier now) ≡ joined (done ++ change ∷ []) (changes_from n (Some change.0) next)
unfolding changes_from
one_more n earlier now next change done e = rw e (joined-one done change (changes_from n (Some change.0) next))

module _ (start now next : Cursor) (count : ℕ) (changes : Changes) (n : ℕ) (earlier : Option (List ℕ)) (key : List ℕ) (value : Option (List ℕ)) (more : n < count)
    (h : ReadsBatch start count (entries changes) n earlier now) (e : change_at earlier now ≡ Ok ((key, value), next)) (above : follows earlier key ≡ true) where
  grown : entries (insert changes key value) ≡ entries changes ++ (key, value) ∷ []
  grown = entries-insert nat_list_cmp_total changes key value ∙ put-last key value (entries changes) (before-next earlier key (entries changes) h.up_to above)

  pub ReadsBatch-more : ReadsBatch start count (entries (insert changes key value)) (n + 1) (Some key) next
  ReadsBatch-more =
      let left : count - n ≡ suc (count - (n + 1)) = omega (arith, more) in
      subst (λ (cs : List Change). ReadsBatch start count cs (n + 1) (Some key) next) (sym grown) (record {
        told = h.told ∙ ap (λ m. joined (entries changes) (changes_from m earlier now)) left ∙ one_more (count - (n + 1)) earlier now next (key, value) (entries changes) e;
        long = omega (arith, length-append (entries changes) ((key, value) ∷ []), h.long);
        up_to = up_to-next earlier (key, value) (entries changes) h.up_to above;
      })

pub ReadsBatch-all : (start now : Cursor) (count : ℕ) (changes : List Change) (n : ℕ) (earlier : Option (List ℕ)) → count ≡ n → ReadsBatch start count changes n earlier now → changes_from count None start ≡ Ok (changes, now)
unfolding changes_from
ReadsBatch-all start now count changes n earlier all h =
    let left : count - n ≡ 0 = omega arith in
    h.told ∙ ap (λ m. joined changes (changes_from m earlier now)) left ∙ ap (λ (done : List Change). Ok (done, now)) (append-nil changes)

pub ReadsBatch-fault : (start now : Cursor) (count : ℕ) (changes : List Change) (n : ℕ) (earlier : Option (List ℕ)) → n < count → ReadsBatch start count changes n earlier now → (fault : RecordingFault) → change_at earlier now ≡ Err fault → changes_from count None start ≡ Err fault
unfolding changes_from
ReadsBatch-fault start now count changes n earlier more h fault e =
    let left : count - n ≡ suc (count - (n + 1)) = omega arith in
    h.told ∙ ap (λ m. joined changes (changes_from m earlier now)) left ∙ rw e refl

-- ---- changes that are kept

nothing : entries (empty {K = List ℕ} {X = Option (List ℕ)} {R = slice_cmp nat_cmp}) ≡ []
nothing = nil_from_length _ (sym (len-entries _) ∙ len-empty (slice_cmp nat_cmp) (Option (List ℕ)))

pub KeepsBatch-init : (start : Cursor) (count : ℕ) (held : ChangeMap) → held.changes ≡ empty → held.most ≡ most_changes → KeepsBatch start count held 0 None start
KeepsBatch-init start count held none most = record { reads = ReadsBatch-init start count (entries held.changes) None (ap entries none ∙ nothing) refl; most = most }

pub KeepsBatch-more : (start now next : Cursor) (count : ℕ) (held after : ChangeMap) (n : ℕ) (earlier : Option (List ℕ)) (key : List ℕ) (value : Option (List ℕ)) → n < count → KeepsBatch start count held n earlier now
    → change_at earlier now ≡ Ok ((key, value), next) → follows earlier key ≡ true → after ≡ changed held key value → KeepsBatch start count after (n + 1) (Some key) next
KeepsBatch-more start now next count held after n earlier key value more h e above is = subst (λ (m : ChangeMap). KeepsBatch start count m (n + 1) (Some key) next) (sym is) (record {
  reads = ReadsBatch-more start now next count held.changes n earlier key value more h.reads e above;
  most = h.most;
})
