-- Texts with counts, and what the calls of a store of nodes make of them.
use Rattle.std.specs.Prelude.{◌≡◌, ◌≢◌, ℕ, ◌+◌, ◌-◌, ◌==◌, nat_lt, List, IsSomeAnd, Result, Ok, Err, if◌then◌else◌, ◌⊎◌, ⊤}
use Rattle.std.specs.FinMap.{get, contains_key, insert, remove}
use Rattle.trie_model.specs.Root.{Table, zero_digest}
use Rattle.base_core.specs.Faults.{Ended, done, refused, failed, short_of_memory}
use Rattle.base_core.specs.declared.hash.Digest.{Digest}
use Rattle.text_store.specs.declared.errors.ReserveError as reserve
use Rattle.text_store.specs.declared.errors.ReserveError.TheVariants as reserve_error
use Rattle.text_store.specs.declared.errors.AddError.{AddError}
use Rattle.text_store.specs.declared.errors.AddError.TheVariants.{Clash, Fault}
use Rattle.text_store.specs.Loading.{IsNamed}

-- The texts held are those with a count of at least 1.
pub record IsStored (texts : Table) (count_of : List ℕ → ℕ) : Type 0 where
  pub named : IsNamed texts
  pub counted : (digest : List ℕ) → contains_key texts digest ≡ nat_lt 0 (count_of digest)

-- no text and no count is changed
pub record IsUnchanged (texts texts_after : Table) (count_of count_after : List ℕ → ℕ) : Type 0 where
  pub same_texts : texts_after ≡ texts
  pub same_counts : (digest : List ℕ) → count_after digest ≡ count_of digest

-- the count of a digest becomes n, and every other stays
pub record SetsCount (count_of count_after : List ℕ → ℕ) (digest : List ℕ) (n : ℕ) : Type 0 where
  pub here : count_after digest ≡ n
  pub elsewhere : (other : List ℕ) → other ≢ digest → count_after other ≡ count_of other

-- The text stands under the digest, and its count is higher by so many times.
pub record Adds (texts texts_after : Table) (count_of count_after : List ℕ → ℕ) (digest text : List ℕ) (times : ℕ) : Type 0 where
  pub held : texts_after ≡ insert texts digest text
  pub count : SetsCount count_of count_after digest (count_of digest + times)

-- The count of a digest is lower by so many times, and a text with count 0 is gone.
pub record Releases (texts texts_after : Table) (count_of count_after : List ℕ → ℕ) (digest : List ℕ) (times : ℕ) : Type 0 where
  pub held : texts_after ≡ (if count_of digest == times then remove texts digest else texts)
  pub count : SetsCount count_of count_after digest (count_of digest - times)

-- The text can't stand under the digest: that is the zero one, or another text stands there.
abbrev pub Clashes : Table → List ℕ → List ℕ → Type 0
Clashes texts digest text = (digest ≡ zero_digest) ⊎ IsSomeAnd (get texts digest) (λ other. other ≢ text)

-- why a text was added or not
abbrev pub AnswersAdd : Table → Digest → List ℕ → Result Unit AddError → Type 0
AnswersAdd texts digest text (Ok added) = ¬ Clashes texts digest.0 text
AnswersAdd texts digest text (Err (Clash named)) = (named ≡ digest) × Clashes texts digest.0 text
AnswersAdd texts digest text (Err Fault) = ⊤

-- how a call of `reserve` ended
abbrev pub reserve_ended : Result Unit reserve.ReserveError → Ended
reserve_ended (Ok taken) = done
reserve_ended (Err reserve_error.Fault) = failed
reserve_ended (Err reserve_error.NoMemory) = short_of_memory

-- how a call of `add` ended
abbrev pub add_ended : Result Unit AddError → Ended
add_ended (Ok added) = done
add_ended (Err (Clash named)) = refused
add_ended (Err Fault) = failed
