-- What reads and a batch visit over any set of texts, an honest store's or a stranger's: the reads in their order, and behind them the batch, up to the first test that fails. And which of some texts were not visited.
use Rattle.std.specs.Prelude.{ℕ, nat_eq, not, Bool, List, [], ◌∷◌, ◌++◌, Option, None, Some, position}
use Rattle.std.specs.List.{list_any}
use Rattle.std.specs.Option.{option_map}
use Rattle.std.specs.Cmp.Lexicographic.{pointwise}
use Rattle.sha2.specs.Sha256.{sha256}
use Rattle.trie_model.specs.State.{Row}
use Rattle.trie_model.specs.Root.{Table}
use Rattle.visit_model.specs.Visits as looking
use Rattle.visit_model.specs.Visits.{lookup_visits}
use Rattle.batch_model.specs.Changes.{Changes}
use Rattle.change_model.specs.Visits as changing
use Rattle.change_model.specs.Visits.{batch_visits}

-- ---- how it ends

-- The test that failed, as a read or a batch has it: no text is held under a digest; the text there is no node that fits, or no value of the length that is named; its record states a usage that no state's has.
pub data Refusal : Type 0 where
  missing : (digest : List ℕ) → Refusal
  bad : (digest : List ℕ) → Refusal
  usage : (digest : List ℕ) → Refusal

abbrev pub of_lookup : looking.Refusal → Refusal
of_lookup (looking.missing digest) = missing digest
of_lookup (looking.bad digest) = bad digest

abbrev pub of_batch : changing.Refusal → Refusal
of_batch (changing.no_text digest) = missing digest
of_batch (changing.no_node digest) = bad digest
of_batch (changing.no_usage digest) = usage digest

-- The digests of the texts that were visited, in order, what was answered to each read up to the test that failed, and that test, if one did.
pub record Visits : Type 0 where
  pub digests : List (List ℕ)
  pub answers : List (Option (List ℕ))
  pub refusal : Option Refusal

abbrev pub no_visits : Visits
no_visits = record { digests = []; answers = []; refusal = None }

-- ---- the reads

-- the value that a lookup visited, if it did
abbrev pub value_among : List Row → Option (List ℕ)
value_among [] = None
value_among (row ∷ rows) = Some row.1

-- the visits of a read that ended so, and those of further reads where no test failed
unfoldable pub and_reads : Option looking.Refusal → (digests : List (List ℕ)) → (value : Option (List ℕ)) → Visits → Visits
and_reads None digests value further = record { digests = digests ++ further.digests; answers = value ∷ further.answers; refusal = further.refusal }
and_reads (Some why) digests value further = record { digests = digests; answers = []; refusal = Some (of_lookup why) }

abbrev pub read_first : looking.Visits → Visits → Visits
read_first first further = and_reads first.refusal first.digests (value_among first.values) further

-- of keys in this order
unfoldable pub reads_visits : Table → (root : List ℕ) → (reads : List (List ℕ)) → Visits
reads_visits table root [] = no_visits
reads_visits table root (key ∷ reads) = read_first (lookup_visits table root key) (reads_visits table root reads)

-- ---- the reads and the batch

-- the visits of reads that ended so, and those of a batch where no test failed
unfoldable pub and_batch : Option Refusal → Visits → changing.Visits → Visits
and_batch None reads batch = record { digests = reads.digests ++ batch.digests; answers = reads.answers; refusal = option_map of_batch batch.refusal }
and_batch (Some why) reads batch = reads

abbrev pub batch_behind : Visits → changing.Visits → Visits
batch_behind reads batch = and_batch reads.refusal reads batch

abbrev pub replay_visits : Table → (root : List ℕ) → (reads : List (List ℕ)) → Changes → Visits
replay_visits table root reads changes = batch_behind (reads_visits table root reads) (batch_visits table root changes)

-- ---- which texts are used

-- whether the digest of a text is among those that were visited
unfoldable pub is_used : (digests : List (List ℕ)) → (text : List ℕ) → Bool
is_used digests text = list_any (λ digest. pointwise nat_eq digest (sha256 text)) digests

-- the least place of a text that is not used
unfoldable pub first_spare : (digests texts : List (List ℕ)) → Option ℕ
first_spare digests texts = position (λ text. not (is_used digests text)) texts
