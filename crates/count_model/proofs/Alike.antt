-- Where no other text has a text's digest, the digest occurs and is counted as often as the text.
use Rattle.std.proofs.Common.{Bool, List, None, Option, Some, ap, ap₂, arith, cond, false, inl, inr, nat_eq, refl, subst, suc, sym, true, zero, ℕ, ◌++◌, ◌+◌, ◌-◌, ◌∙◌, ◌∷◌, ◌≡◌}
use Rattle.std.specs.Option.{option_and_then}
use Rattle.std.specs.Cmp.Lexicographic.{pointwise}
use Rattle.std.specs.FinMap.{get}
use Rattle.std.proofs.lemmas.Option.{same_Some}
use Rattle.sha2.specs.Sha256.{sha256}
use Rattle.trie_model.specs.State.{State}
use Rattle.trie_model.specs.Root.{NoClash, Table, digest_occurrences, occurrences, texts_of}
use Rattle.trie_model.proofs.Members.{IsIn, contains_of_in, in-append_left, in-append_right}
use Rattle.batch_model.specs.Changes.{Changes, after}
use Rattle.change_model.specs.Ledger.{gain, loss}
use Rattle.fork_model.specs.Trees.{prev_of}
use Rattle.fork_model.specs.States.{Block, ForkState, IsForkState, state_at, tree_of_blocks}
use Rattle.fork_model.specs.Laws.{ids_behind}
use Rattle.fork_model.proofs.Ids.{apart_is, found_not_none, same-itself, same_from}
use Rattle.count_model.specs.Counts.{Measure, count, counted, digest_count, in_state, of_digest, of_text, rise}
use Rattle.count_model.specs.Tables.{HoldsCounted, live_texts}
use Rattle.count_model.proofs.Sums.{sum_by-in}
use Rattle.count_model.proofs.Live.{block-in, block-of_state, digests-counted, live-in, texts-counted}

-- no other text of a list has a text's digest
pub IsAlone : List (List ℕ) → List ℕ → Type 0
IsAlone texts t = (other : List ℕ) → IsIn texts other → sha256 other ≡ sha256 t → other ≡ t

pub alone_clear : (texts : List (List ℕ)) (t : List ℕ) → NoClash (t ∷ texts) → IsAlone texts t
unfolding IsAlone
alone_clear texts t clear other i e = clear.apart other t (contains_of_in (t ∷ texts) other (inr i)) (contains_of_in (t ∷ texts) t (inl refl)) e

pub occurs-alike : (state : State) (t : List ℕ) → IsAlone (texts_of state) t → digest_occurrences state (sha256 t) ≡ occurrences state t
unfolding IsAlone
occurs-alike state t alone = sum_by-in (λ other. cond (pointwise nat_eq (sha256 other) (sha256 t)) 1 0) (λ other. cond (pointwise nat_eq other t) 1 0) (texts_of state) (λ other i. ap (λ b. cond b 1 0) (tests other (alone other i)))
  where
    tests : (other : List ℕ) → (sha256 other ≡ sha256 t → other ≡ t) → pointwise nat_eq (sha256 other) (sha256 t) ≡ pointwise nat_eq other t
    tests other one = by_test (pointwise nat_eq (sha256 other) (sha256 t)) refl
      where
        by_test : (b : Bool) → pointwise nat_eq (sha256 other) (sha256 t) ≡ b → b ≡ pointwise nat_eq other t
        by_test true e = sym (ap (λ u. pointwise nat_eq u t) (one (same_from (sha256 other) (sha256 t) e)) ∙ same-itself t)
        by_test false e = sym (apart_is other t (λ same. differ (sym (same-itself (sha256 t)) ∙ ap (λ u. pointwise nat_eq (sha256 u) (sha256 t)) (sym same) ∙ e)))
          where
            differ : true ≡ false → ⊥
            differ e = cc

-- ---- what agrees on live states is counted alike

module _ (f g : Measure) (forks : ForkState) (alike : (b : Block) → IsIn forks.blocks b → f b.state ≡ g b.state) where
  in_state-alike : (q : List ℕ) → in_state f (state_at forks q) ≡ in_state g (state_at forks q)
  in_state-alike q = by_case (state_at forks q) refl
    where
      by_case : (o : Option State) → state_at forks q ≡ o → in_state f o ≡ in_state g o
      by_case None e = refl
      by_case (Some s) e = let b = block-of_state forks q s e in subst (λ (x : State). f x ≡ g x) b.2 (alike b.0 (block-in forks q b.0 b.1))

  prev-alike : (o : Option (List ℕ)) → in_state f (option_and_then (state_at forks) o) ≡ in_state g (option_and_then (state_at forks) o)
  prev-alike None = refl
  prev-alike (Some p) = in_state-alike p

  rise-alike : (q : List ℕ) → rise f forks q ≡ rise g forks q
  unfolding rise
  rise-alike q = ap₂ (λ (a b : ℕ). a - b) (in_state-alike q) (prev-alike (prev_of (tree_of_blocks forks) q))

  pub counted-alike : counted f forks ≡ counted g forks
  unfolding counted
  counted-alike = ap₂ (λ (a b : ℕ). a + b) (in_state-alike forks.head) (sum_by-in (rise f forks) (rise g forks) (ids_behind (tree_of_blocks forks)) (λ q i. rise-alike q))

pub counts-alike : (forks : ForkState) (t : List ℕ) → IsAlone (live_texts forks) t → digest_count forks (sha256 t) ≡ count forks t
unfolding IsAlone
counts-alike forks t alone = counted-alike (of_digest (sha256 t)) (of_text t) forks (λ b i. occurs-alike b.state t (λ other j. alone other (live-in forks b other i j)))

-- over a table, for the text that stands under a digest
pub counts_held : (table : Table) (forks : ForkState) (t : List ℕ) → IsForkState forks → HoldsCounted table forks → get table (sha256 t) ≡ Some t → digest_count forks (sha256 t) ≡ count forks t
unfolding IsAlone
counts_held table forks t is holds at =
    counts-alike forks t (λ other i e. same_Some other t (sym (holds.found other ((texts-counted forks is other).1 (contains_of_in (live_texts forks) other i))) ∙ ap (get table) e ∙ at))

-- ---- what a batch gains and loses

module _ (state : State) (changes : Changes) (t : List ℕ) (clear : NoClash (t ∷ texts_of state ++ texts_of (after state changes))) where
  alone : IsAlone (texts_of state ++ texts_of (after state changes)) t
  alone = alone_clear (texts_of state ++ texts_of (after state changes)) t clear

  before : digest_occurrences state (sha256 t) ≡ occurrences state t
  unfolding IsAlone
  before = occurs-alike state t (λ other i. alone other (in-append_left (texts_of state) (texts_of (after state changes)) other i))

  behind : digest_occurrences (after state changes) (sha256 t) ≡ occurrences (after state changes) t
  unfolding IsAlone
  behind = occurs-alike (after state changes) t (λ other i. alone other (in-append_right (texts_of state) (texts_of (after state changes)) other i))

  pub gain-alike : gain state changes (sha256 t) ≡ occurrences (after state changes) t - occurrences state t
  gain-alike = ap₂ (λ (a b : ℕ). a - b) behind before

  pub loss-alike : loss state changes (sha256 t) ≡ occurrences state t - occurrences (after state changes) t
  loss-alike = ap₂ (λ (a b : ℕ). a - b) before behind

-- a text under whose digest a table has nothing is not counted, nor is the digest
pub uncounted : (table : Table) (forks : ForkState) (t : List ℕ) → IsForkState forks → HoldsCounted table forks → get table (sha256 t) ≡ None → (digest_count forks (sha256 t) ≡ 0) × (count forks t ≡ 0)
uncounted table forks t is holds none = (digest_none (digest_count forks (sha256 t)) refl, text_none (count forks t) refl)
  where
    digest_none : (n : ℕ) → digest_count forks (sha256 t) ≡ n → n ≡ 0
    digest_none zero e = refl
    digest_none (suc n) e =
        let live = (digests-counted forks is (sha256 t)).0 (omega (arith, e)) in
        absurd (found_not_none (holds.found live.0 ((texts-counted forks is live.0).1 live.1)) (ap (get table) live.2 ∙ none))

    text_none : (n : ℕ) → count forks t ≡ n → n ≡ 0
    text_none zero e = refl
    text_none (suc n) e = absurd (found_not_none (holds.found t (omega (arith, e))) none)
