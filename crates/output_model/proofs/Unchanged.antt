-- The empty state with no changes laid over.
use Rattle.std.proofs.Common.{◌≡◌, ℕ, List, [], Option, None, Some, refl, sym, ap, ◌∙◌, nat_cmp, arith}
use Rattle.std.specs.Prelude.{replicate}
use Rattle.std.specs.FinMap.{empty, get, len, entries, entries-from_sorted, from_sorted, get-empty, len-empty, len-entries, same_entries_map}
use Rattle.std.specs.Cmp.Lexicographic.{slice_cmp}
use Rattle.std.proofs.lemmas.List.{nil_from_length}
use Rattle.byte_model.specs.Node.{digest_width}
use Rattle.trie_model.specs.State.{State}
use Rattle.trie_model.specs.Root.{zero_digest}
use Rattle.sha2.specs.Sha256.{sha256}
use Rattle.batch_model.specs.Changes.{Changes, after, after_each}
use Rattle.partial_model.specs.Texts.{lesser}
use Rattle.change_model.specs.Ledger.{made_texts}
use Rattle.change_model.proofs.Worked.{all_of_batches}
use Rattle.fork_model.specs.Trees.{Header, block_fault}
use Rattle.fork_model.specs.States.{first_fork, state_at, tree_of_blocks}
use Rattle.fork_model.proofs.Worked.{all_of_forks}
use Rattle.count_model.specs.BlockEnds.{accepted, block_end}
use Rattle.count_model.specs.Clashes.{clash_with, clash_within, least_name, live_clash, made_clash}
use Rattle.count_model.proofs.Ends.{end-accepted}
use Rattle.count_model.proofs.Worked.{made-pairs, start-pairs}
use Rattle.output_model.specs.Examples.{few}

abbrev pub no_state : State
no_state = empty

abbrev pub no_changes : Changes
no_changes = empty

no_entries : entries no_changes ≡ []
no_entries = nil_from_length (entries no_changes) (sym (len-entries no_changes) ∙ len-empty (slice_cmp nat_cmp) (Option (List ℕ)))

pub after-none : after no_state no_changes ≡ no_state
unfolding after after_each
after-none = ap (after_each no_state) no_entries

pub len-none : len no_state ≡ 0
len-none = len-empty (slice_cmp nat_cmp) (List ℕ)

pub get-none : (key : List ℕ) → get no_state key ≡ None
get-none key = get-empty (slice_cmp nat_cmp) key

-- ---- a block without changes over the start

made-none : made_texts no_state no_changes ≡ []
unfolding all_of_batches
made-none =
    ap (made_texts no_state) (same_entries_map no_changes (from_sorted []) (no_entries ∙ sym (entries-from_sorted (slice_cmp nat_cmp) [] tt)))
    ∙ made-pairs no_state [] [] start-pairs tt tt

alone : made_clash no_state no_changes ≡ None
unfolding lesser least_name clash_within
alone = ap (clash_within sha256) made-none

apart : live_clash first_fork no_state no_changes ≡ None
unfolding lesser least_name clash_with
apart = ap (clash_with sha256 _) made-none

end-unchanged : (header : Header) → block_fault few.blocks (tree_of_blocks first_fork) header ≡ None → state_at first_fork header.prev ≡ Some no_state → block_end few.pairs few.blocks first_fork header no_changes ≡ accepted (after no_state no_changes)
end-unchanged header fault prev =
    let few_pairs : len (after no_state no_changes) ≡ 0 = ap len after-none ∙ len-none in
    end-accepted few.pairs few.blocks first_fork header no_changes no_state fault prev alone (omega (arith, few_pairs)) apart

-- the first block of the worked histories
abbrev first_header : Header
first_header = record { id = replicate digest_width 0x11; prev = zero_digest; height = 7 }

pub end-first : block_end few.pairs few.blocks first_fork first_header no_changes ≡ accepted (after no_state no_changes)
unfolding all_of_forks
end-first = end-unchanged first_header refl refl
