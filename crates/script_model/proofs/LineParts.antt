-- The first line of bytes, the line feed that ends it, and what comes behind.
use Rattle.std.proofs.Common.{◌≡◌, ℕ, ◌+◌, ◌<◌, ◌≤◌, ◌⊎◌, inl, inr, List, [], ◌∷◌, ◌++◌, length, take, drop, get_or, sym, ap, ◌∙◌, arith, append_assoc}
use Rattle.std.specs.Prelude.{false, replicate}
use Rattle.std.specs.List.{list_any, position_or_len}
use Rattle.std.proofs.lemmas.Bool.{cases_lt, eqb-true, le-ltb, lt-ltb}
use Rattle.std.proofs.lemmas.List.{append-nil, drop_all, drop_more, take_all, take-append-drop, get_or-take, length-take}
use Rattle.std.proofs.lemmas.List.Elements.{All-from_get_or}
use Rattle.std.proofs.lemmas.List.Folds.{list_any_none}
use Rattle.std.proofs.lemmas.List.Sums.{fails_before_first, passes_at_first}
use Rattle.script_model.specs.Lines.{line_feed, is_line_feed, first_line, first_feed, behind_line}

abbrev feed_index : List ℕ → ℕ
feed_index bytes = position_or_len is_line_feed bytes

abbrev IsParted : List ℕ → Type 0
IsParted bytes = first_line bytes ++ replicate (first_feed bytes) line_feed ++ behind_line bytes ≡ bytes

parted_by : (bytes : List ℕ) → (feed_index bytes < length bytes) ⊎ (length bytes ≤ feed_index bytes) → IsParted bytes
parted_by bytes (inl lt) =
    let feed : get_or bytes (feed_index bytes) 0 ≡ line_feed = eqb-true (get_or bytes (feed_index bytes) 0) line_feed (passes_at_first is_line_feed bytes 0 lt) in
    rw (lt-ltb (feed_index bytes) (length bytes) lt) (
    append_assoc (take (feed_index bytes) bytes) (line_feed ∷ []) (drop (feed_index bytes + 1) bytes)
    ∙ ap (λ (rest : List ℕ). take (feed_index bytes) bytes ++ rest) (ap (λ (k : ℕ). k ∷ drop (feed_index bytes + 1) bytes) (sym feed) ∙ sym (drop_more bytes (feed_index bytes) 0 lt))
    ∙ take-append-drop (feed_index bytes) bytes
    )
parted_by bytes (inr le) =
    rw (le-ltb (feed_index bytes) (length bytes) le, take_all (feed_index bytes) bytes le, drop_all (feed_index bytes + 1) bytes (omega arith)) (append-nil (bytes ++ []) ∙ append-nil bytes)

pub line_parts : (bytes : List ℕ) → IsParted bytes
line_parts bytes = parted_by bytes (cases_lt (feed_index bytes) (length bytes))

pub no_feed_within : (bytes : List ℕ) → list_any is_line_feed (first_line bytes) ≡ false
no_feed_within bytes = list_any_none is_line_feed (first_line bytes) (All-from_get_or (λ x. is_line_feed x ≡ false) (first_line bytes) 0 fails)
  where
    fails : (i : ℕ) → i < length (first_line bytes) → is_line_feed (get_or (first_line bytes) i 0) ≡ false
    fails i lt =
        let below : i < feed_index bytes = omega (arith, lt, length-take (feed_index bytes) bytes) in
        rw (get_or-take (feed_index bytes) bytes i 0 below) (fails_before_first is_line_feed bytes i 0 below)
