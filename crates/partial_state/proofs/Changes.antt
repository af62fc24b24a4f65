-- A change that is read behind an earlier key.
use Rattle.std.proofs.Common.{◌≡◌, true, false, List, ℕ, Option, None, Ok, Err, refl}
use Rattle.byte_model.specs.Nibbles.{longest_key}
use Rattle.batch_model.specs.Changes.{most_changes}
use Rattle.record_model.specs.Fields.{Cursor}
use Rattle.partial_model.specs.Recording.{RecordingFault, head, count_within, vector_within, becomes_at, follows, change_at, changes_from, changes_at}

module _ (earlier : Option (List ℕ)) (c : Cursor) where
  pub no_key : (fault : RecordingFault) → vector_within longest_key c ≡ Err fault → change_at earlier c ≡ Err fault
  unfolding change_at
  no_key fault e = rw e refl

  module _ (key : List ℕ) (d : Cursor) (key_is : vector_within longest_key c ≡ Ok (key, d)) where
    pub not_above : follows earlier key ≡ false → change_at earlier c ≡ Err (head c.at)
    unfolding change_at
    not_above below = rw (key_is, below) refl

    pub no_becomes : follows earlier key ≡ true → (fault : RecordingFault) → becomes_at d ≡ Err fault → change_at earlier c ≡ Err fault
    unfolding change_at
    no_becomes above fault e = rw (key_is, above, e) refl

    pub change_read : (value : Option (List ℕ)) (f : Cursor) → follows earlier key ≡ true → becomes_at d ≡ Ok (value, f) → change_at earlier c ≡ Ok ((key, value), f)
    unfolding change_at
    change_read value f above e = rw (key_is, above, e) refl

-- ---- behind their number

pub no_count : (c : Cursor) (fault : RecordingFault) → count_within most_changes c ≡ Err fault → changes_at c ≡ Err fault
unfolding changes_at
no_count c fault e = rw e refl

pub counted : (c d : Cursor) (count : ℕ) → count_within most_changes c ≡ Ok (count, d) → changes_at c ≡ changes_from count None d
unfolding changes_at
counted c d count e = rw e refl
