-- The table of ledgers against the map that it is seen as.
use Rattle.std.proofs.Common.{◌≡◌, ℕ, Bool, true, false, cond, List, Option, None, Some, refl, sym, ap, ◌∙◌}
use Rattle.std.specs.Prelude.{nat_eq}
use Rattle.std.specs.Option.{option_map}
use Rattle.std.specs.Map.{lookup}
use Rattle.std.specs.List.{filter}
use Rattle.std.proofs.lemmas.Map.Entries.{lookup-filter-keys}
use Rattle.std.specs.Cmp.Lexicographic.{pointwise}
use Rattle.std.specs.FinMap.{get}
use Rattle.base_core.specs.declared.hash.Digest.{Digest}
use Rattle.std.specs.Str.{bytes_eq}
use Rattle.fork_model.proofs.Ids.{same-itself, same_from}
use Rattle.fork_tree.proofs.Kept.{turned}
use Rattle.base_core.proofs.HashTables.{get-seen}
use Rattle.shard_core.specs.Ledgers.{ledgers_of, seen_ledger}
use Rattle.shard_core.specs.declared.ledger.Ledger.{Ledger}

abbrev pub kept : List (Digest × Ledger) → List ℕ → Option Ledger
kept es q = lookup (λ (k : Digest). pointwise nat_eq q k.0) es

pub get-ledgers : (es : List (Digest × Ledger)) (q : List ℕ) → get (ledgers_of es) q ≡ option_map seen_ledger (kept es q)
get-ledgers es q = get-seen (λ (d : Digest). d.0) seen_ledger es q

-- what the table has of a block, and where it has nothing
pub ledger-found : (es : List (Digest × Ledger)) (q : List ℕ) (ledger : Ledger) → Some ledger ≡ kept es q → get (ledgers_of es) q ≡ Some (seen_ledger ledger)
ledger-found es q ledger e = get-ledgers es q ∙ ap (option_map seen_ledger) (sym e)

pub ledger-missing : (es : List (Digest × Ledger)) (q : List ℕ) → None ≡ kept es q → get (ledgers_of es) q ≡ None
ledger-missing es q e = get-ledgers es q ∙ ap (option_map seen_ledger) (sym e)

-- ---- as the table changes

module _ (es fs : List (Digest × Ledger)) where
  pub ledgers-same : ((q : List ℕ) → kept fs q ≡ kept es q) → (q : List ℕ) → get (ledgers_of fs) q ≡ get (ledgers_of es) q
  ledgers-same same q = get-ledgers fs q ∙ ap (option_map seen_ledger) (same q) ∙ sym (get-ledgers es q)

-- there is room for one more ledger, and it is put under an id
module _ (es roomy fs : List (Digest × Ledger)) (d id : List ℕ) (ledger : Ledger) (at : d ≡ id) (room : (q : List ℕ) → kept roomy q ≡ kept es q) (puts : (q : List ℕ) → kept fs q ≡ cond (pointwise nat_eq d q) (Some ledger) (kept roomy q)) where
  pub ledgers-new : get (ledgers_of fs) id ≡ Some (seen_ledger ledger)
  ledgers-new = ap (get (ledgers_of fs)) (sym at) ∙ get-ledgers fs d ∙ ap (option_map seen_ledger) (puts d ∙ ap (λ b. cond b (Some ledger) (kept roomy d)) (same-itself d))

  pub ledgers-old : (q : List ℕ) → bytes_eq q id ≡ false → get (ledgers_of fs) q ≡ get (ledgers_of es) q
  ledgers-old q other =
      get-ledgers fs q
      ∙ ap (option_map seen_ledger) (puts q ∙ ap (λ b. cond b (Some ledger) (kept roomy q)) (turned d q ∙ ap (bytes_eq q) at ∙ other) ∙ room q)
      ∙ sym (get-ledgers es q)

-- only the ledgers of some ids are kept
pub ledgers-kept : (es fs : List (Digest × Ledger)) (live : List ℕ → Bool) → fs ≡ filter (λ (e : Digest × Ledger). live e.0.0) es → (q : List ℕ) → get (ledgers_of fs) q ≡ cond (live q) (get (ledgers_of es) q) None
ledgers-kept es fs live is q =
    get-ledgers fs q
    ∙ ap (λ xs. option_map seen_ledger (kept xs q)) is
    ∙ ap (option_map seen_ledger) (lookup-filter-keys (λ (k : Digest). pointwise nat_eq q k.0) (λ (k : Digest). live k.0) (live q) (λ k e. ap live (sym (same_from q k.0 e))) es)
    ∙ by_test (live q)
    ∙ ap (λ o. cond (live q) o None) (sym (get-ledgers es q))
  where
    by_test : (b : Bool) → option_map seen_ledger (cond b (kept es q) None) ≡ cond b (option_map seen_ledger (kept es q)) None
    by_test true = refl
    by_test false = refl
