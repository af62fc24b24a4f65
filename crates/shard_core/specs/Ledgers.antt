-- What is kept of a live block's trie: its root, how many pairs its state has, and by how much digests occur more or less often in it than in the state of its prev.
use Rattle.std.specs.Prelude.{ℕ, List, [], map}
use Rattle.std.specs.Option.{option_map, unwrap_or}
use Rattle.std.specs.Ordering.{nat_cmp}
use Rattle.std.specs.Cmp.Lexicographic.{slice_cmp}
use Rattle.std.specs.FinMap.{FinMap, from_entries, get}
use Rattle.base_core.specs.declared.hash.Digest.{Digest}
use Rattle.count_model.specs.Entries.{Entry}
use Rattle.trie_update.specs.declared.change.LostText.{LostText}
use Rattle.trie_update.specs.declared.change.MadeText.{MadeText}
use Rattle.shard_core.specs.declared.ledger.Ledger.{Ledger}
use Rattle.shard_core.specs.declared.occurrences.Occurrences.{Occurrences}

-- digests, each with how often
abbrev pub entries_of : List Occurrences → List Entry
entries_of list = map (λ o. (o.digest.0, o.times)) list

-- the digests of the texts that a batch makes, each with what it gains, which may be 0
abbrev pub gains_of : List MadeText → List Entry
gains_of made = map (λ m. (m.digest.0, m.times)) made

-- the digests that a batch loses
abbrev pub losses_of : List LostText → List Entry
losses_of lost = map (λ l. (l.digest.0, l.times)) lost

pub record LedgerState : Type 0 where
  pub root : List ℕ
  pub pairs : ℕ
  pub gains : List Entry
  pub losses : List Entry

abbrev pub seen_ledger : Ledger → LedgerState
seen_ledger ledger = record { root = ledger.root.0; pairs = ledger.pairs; gains = entries_of ledger.gains.items; losses = entries_of ledger.losses.items }

-- by the ids of blocks
abbrev pub Ledgers : Type 0
Ledgers = FinMap (slice_cmp nat_cmp) LedgerState

abbrev pub ledgers_of : List (Digest × Ledger) → Ledgers
ledgers_of es = from_entries (map (λ e. (e.0.0, seen_ledger e.1)) es)

-- what the ledger of a block has, and nothing where it has none
abbrev pub gains_under : Ledgers → (id : List ℕ) → List Entry
gains_under ledgers id = unwrap_or (option_map (λ ledger. ledger.gains) (get ledgers id)) []

abbrev pub losses_under : Ledgers → (id : List ℕ) → List Entry
losses_under ledgers id = unwrap_or (option_map (λ ledger. ledger.losses) (get ledgers id)) []
