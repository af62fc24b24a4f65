-- Worked partial states and recordings by computing.
use Rattle.std.proofs.Common.{◌≡◌, ℕ, List, ◌++◌, length, T, ap, ◌∙◌}
use Rattle.std.specs.Ordering.{nat_cmp}
use Rattle.std.specs.Cmp.Lexicographic.{slice_cmp}
use Rattle.std.specs.FinMap.{from_sorted, entries-from_sorted}
use Rattle.std.specs.FinMap.Entries.{is_sorted}
use Rattle.batch_model.specs.Changes.{Change}
use Rattle.sha2.specs.Sha256.{digest_bytes, hash_after, compress, rounds, schedule, first_words, sha256}
use Rattle.byte_model.specs.Borsh.{borsh_u32}
use Rattle.record_model.specs.Fields.{bytes_at, number_at, vector_at, end_of}
use Rattle.partial_model.specs.Texts.{fall_behind, lesser, least_taken}
use Rattle.partial_model.specs.Partial.{spelled_texts, spelled_partial, texts_at, counted_at, listed_at, partial_at, partial_in}
use Rattle.partial_model.specs.Recording.{spelled_changes, spelled_recording, count_within, vector_within, keys_at, reads_at, value_at, becomes_at, change_at, changes_from, changes_at, recording_in}

-- what a proof by computing opens
unfoldable pub everything : ℕ
unfolding digest_bytes hash_after compress rounds schedule first_words sha256 borsh_u32 bytes_at number_at vector_at end_of fall_behind lesser least_taken spelled_texts spelled_partial texts_at counted_at listed_at partial_at partial_in spelled_changes spelled_recording count_within vector_within keys_at reads_at value_at becomes_at change_at changes_from changes_at recording_in
everything = 0

-- a recording whose changes are given in order is spelled as these
pub spelled-changes : (changes : List Change) (text root : List ℕ) (reads state : List (List ℕ)) → T (is_sorted (slice_cmp nat_cmp) changes)
    → root ++ (borsh_u32 (length reads) ++ spelled_texts reads) ++ (borsh_u32 (length changes) ++ spelled_changes changes) ++ spelled_partial state ≡ text
    → spelled_recording (record { root = root; reads = reads; changes = from_sorted changes; state = state }) ≡ text
unfolding spelled_recording
spelled-changes changes text root reads state sorted is =
    ap (λ (cs : List Change). root ++ (borsh_u32 (length reads) ++ spelled_texts reads) ++ (borsh_u32 (length cs) ++ spelled_changes cs) ++ spelled_partial state) (entries-from_sorted (slice_cmp nat_cmp) changes sorted) ∙ is
