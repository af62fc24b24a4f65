-- Counts of digests that are changed entry by entry, as a store of texts does it: each entry tells a digest, and how often that is added or released.
use Rattle.std.specs.Prelude.{◌≡◌, ℕ, ◌+◌, List, sum_by, if◌then◌else◌}
use Rattle.std.specs.Str.{bytes_eq}

abbrev pub Entry : Type 0
Entry = List ℕ × ℕ

-- how often some entries tell a digest
unfoldable pub times_of : List Entry → (digest : List ℕ) → ℕ
times_of entries digest = sum_by (λ entry. if bytes_eq entry.0 digest then entry.1 else 0) entries

-- Each digest is counted so much more often in the second place than in the first as the entries tell. On the way up the first counts are those held and the second those to come; on the way down it is the other way round.
pub record Exceeds (low high : List ℕ → ℕ) (entries : List Entry) : Type 0 where
  pub by_entries : (digest : List ℕ) → low digest + times_of entries digest ≡ high digest
