-- Worked states by computing: a state that is given by its pairs in order has the texts, root and usage of their rows.
use Rattle.std.proofs.Common.{◌≡◌, ℕ, List, [], ◌++◌, map, T, sym, subst, ap, ◌∙◌}
use Rattle.std.proofs.lemmas.List.{nil_from_length}
use Rattle.std.specs.FinMap.{from_sorted, is_sorted, entries-from_sorted, empty, len, entries, len-empty, len-entries}
use Rattle.std.specs.Ordering.{nat_cmp}
use Rattle.std.specs.Cmp.Lexicographic.{slice_cmp}
use Rattle.sha2.specs.Sha256.{digest_bytes, hash_after, compress, rounds, schedule, first_words, sha256}
use Rattle.hex.specs.Hex.{encode_with, encode_lower}
use Rattle.byte_model.specs.Borsh.{borsh_u16, borsh_u32, borsh_u64}
use Rattle.byte_model.specs.Nibbles.{nibbles}
use Rattle.byte_model.specs.PackedPath.{two_to_a_byte, packed_behind, packed}
use Rattle.byte_model.specs.Below.{sum_below, joined_below}
use Rattle.byte_model.specs.Node.{spelled_children, spelled}
use Rattle.trie_model.specs.State.{State, Row, rows_of}
use Rattle.trie_model.specs.Tree.{rest_behind, below, ends_here, common, common_prefix, tree_within, longest, tree_of}
use Rattle.trie_model.specs.Texts.{top_cost, usage, name_of, text, places}
use Rattle.trie_model.specs.Root.{zero_digest, root_of, root, total, subtree_at, texts_of}

-- what a proof by computing opens
unfoldable pub everything : ℕ
unfolding rest_behind below ends_here common common_prefix tree_within longest tree_of top_cost usage name_of text places root_of nibbles two_to_a_byte packed_behind packed sum_below joined_below spelled_children spelled borsh_u16 borsh_u32 borsh_u64 digest_bytes hash_after compress rounds schedule first_words sha256 encode_with
everything = 0

abbrev pub Pair : Type 0
Pair = List ℕ × List ℕ

abbrev pub rows_of_pairs : List Pair → List Row
rows_of_pairs pairs = map (λ pair. (nibbles pair.0, pair.1)) pairs

abbrev texts_of_rows : List Row → List (List ℕ)
texts_of_rows rows = map (λ place. text (tree_of (below place rows))) (places (tree_of (below [] rows))) ++ map (λ row. row.1) rows

pub texts_of-from_sorted : (pairs : List Pair) (texts : List (List ℕ)) → T (is_sorted (slice_cmp nat_cmp) pairs) → map encode_lower (texts_of_rows (rows_of_pairs pairs)) ≡ texts → map encode_lower (texts_of (from_sorted pairs)) ≡ texts
unfolding texts_of subtree_at rows_of
texts_of-from_sorted pairs texts sorted e =
    let P : List Pair → Type 0 = λ es. map encode_lower (texts_of_rows (rows_of_pairs es)) ≡ texts in
    subst P (sym (entries-from_sorted (slice_cmp nat_cmp) pairs sorted)) e

pub root-from_sorted : (pairs : List Pair) (digest : List ℕ) → T (is_sorted (slice_cmp nat_cmp) pairs) → encode_lower (root_of (tree_of (below [] (rows_of_pairs pairs)))) ≡ digest → encode_lower (root (from_sorted pairs)) ≡ digest
unfolding subtree_at rows_of
root-from_sorted pairs digest sorted e =
    let P : List Pair → Type 0 = λ es. encode_lower (root_of (tree_of (below [] (rows_of_pairs es)))) ≡ digest in
    subst P (sym (entries-from_sorted (slice_cmp nat_cmp) pairs sorted)) e

pub total-from_sorted : (pairs : List Pair) (n : ℕ) → T (is_sorted (slice_cmp nat_cmp) pairs) → usage (tree_of (below [] (rows_of_pairs pairs))) ≡ n → total (from_sorted pairs) ≡ n
unfolding subtree_at rows_of
total-from_sorted pairs n sorted e =
    let P : List Pair → Type 0 = λ es. usage (tree_of (below [] (rows_of_pairs es))) ≡ n in
    subst P (sym (entries-from_sorted (slice_cmp nat_cmp) pairs sorted)) e

-- ---- the empty state

no_entries : (state : State) → len state ≡ 0 → entries state ≡ []
no_entries state e = nil_from_length (entries state) (sym (len-entries state) ∙ e)

pub rows_of-empty : rows_of empty ≡ []
unfolding rows_of
rows_of-empty = ap rows_of_pairs (no_entries empty (len-empty (slice_cmp nat_cmp) (List ℕ)))

pub texts_of-empty : texts_of empty ≡ []
unfolding texts_of subtree_at everything
texts_of-empty = ap texts_of_rows rows_of-empty

pub root-empty : root empty ≡ zero_digest
unfolding subtree_at everything
root-empty = ap (λ rows. root_of (tree_of (below [] rows))) rows_of-empty

pub total-empty : total empty ≡ 0
unfolding subtree_at everything
total-empty = ap (λ rows. usage (tree_of (below [] rows))) rows_of-empty
