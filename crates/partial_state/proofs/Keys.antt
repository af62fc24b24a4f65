-- Reading so many keys, one after the other.
use Rattle.std.proofs.Common.{◌≡◌, ℕ, suc, ◌+◌, ◌-◌, ◌<◌, List, [], ◌∷◌, ◌++◌, length, Ok, Err, refl, ap, ◌∙◌, arith, length-append}
use Rattle.std.proofs.lemmas.List.{append-nil}
use Rattle.std.specs.List.{AllByRecursion}
use Rattle.byte_model.specs.Nibbles.{longest_key}
use Rattle.byte_model.proofs.Lists.{AllByRecursion-append}
use Rattle.record_model.specs.Fields.{Cursor}
use Rattle.text_store.proofs.Listing.{joined, joined-one}
use Rattle.partial_model.specs.Recording.{RecordingFault, IsKey, most_reads, count_within, vector_within, keys_at, reads_at}

-- after n keys of so many, the reading is told by these keys and the reading of those that are left
pub record ReadsKeys (start : Cursor) (count : ℕ) (keys : List (List ℕ)) (n : ℕ) (now : Cursor) : Type 0 where
  pub told : keys_at count start ≡ joined keys (keys_at (count - n) now)
  pub long : length keys ≡ n
  pub each : AllByRecursion IsKey keys

one_more : (n : ℕ) (now next : Cursor) (key : List ℕ) (done : List (List ℕ)) → vector_within longest_key now ≡ Ok (key, next) → joined done (keys_at (suc n) now) ≡ joined (done ++ key ∷ []) (keys_at n next)
unfolding keys_at
one_more n now next key done e = rw e (joined-one done key (keys_at n next))

pub ReadsKeys-more : (start now next : Cursor) (count : ℕ) (keys : List (List ℕ)) (n : ℕ) (key : List ℕ) → n < count → ReadsKeys start count keys n now → vector_within longest_key now ≡ Ok (key, next) → IsKey key → ReadsKeys start count (keys ++ key ∷ []) (n + 1) next
ReadsKeys-more start now next count keys n key more h e is =
    let left : count - n ≡ suc (count - (n + 1)) = omega arith in
    record {
      told = h.told ∙ ap (λ m. joined keys (keys_at m now)) left ∙ one_more (count - (n + 1)) now next key keys e;
      long = omega (arith, length-append keys (key ∷ []), h.long);
      each = AllByRecursion-append IsKey keys (key ∷ []) h.each (is, tt);
    }

pub ReadsKeys-all : (start now : Cursor) (count : ℕ) (keys : List (List ℕ)) (n : ℕ) → count ≡ n → ReadsKeys start count keys n now → keys_at count start ≡ Ok (keys, now)
unfolding keys_at
ReadsKeys-all start now count keys n all h =
    let left : count - n ≡ 0 = omega arith in
    h.told ∙ ap (λ m. joined keys (keys_at m now)) left ∙ ap (λ (done : List (List ℕ)). Ok (done, now)) (append-nil keys)

pub ReadsKeys-fault : (start now : Cursor) (count : ℕ) (keys : List (List ℕ)) (n : ℕ) → n < count → ReadsKeys start count keys n now → (fault : RecordingFault) → vector_within longest_key now ≡ Err fault → keys_at count start ≡ Err fault
unfolding keys_at
ReadsKeys-fault start now count keys n more h fault e =
    let left : count - n ≡ suc (count - (n + 1)) = omega arith in
    h.told ∙ ap (λ m. joined keys (keys_at m now)) left ∙ rw e refl

-- ---- behind their number

pub no_count : (c : Cursor) (fault : RecordingFault) → count_within most_reads c ≡ Err fault → reads_at c ≡ Err fault
unfolding reads_at
no_count c fault e = rw e refl

pub counted : (c d : Cursor) (count : ℕ) → count_within most_reads c ≡ Ok (count, d) → reads_at c ≡ keys_at count d
unfolding reads_at
counted c d count e = rw e refl
