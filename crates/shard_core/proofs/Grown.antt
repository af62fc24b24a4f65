-- The states of live blocks where one more is accepted, and what a batch gains and loses as entries.
use Rattle.std.proofs.Common.{◌≡◌, ℕ, ◌+◌, ◌<◌, nat_lt, Bool, true, false, cond, List, [], ◌∷◌, ◌++◌, map, length, Option, None, Some, Contains, inl, inr, refl, sym, ap, subst, ◌∙◌, arith}
use Rattle.std.specs.Option.{option_map}
use Rattle.std.specs.List.{All, AllByRecursion, filter}
use Rattle.std.specs.List.Sorted.{IsStrictlySortedBy}
use Rattle.std.specs.declared.cmp.Ordering.TheVariants.{Less}
use Rattle.std.specs.Ordering.{nat_cmp}
use Rattle.std.specs.Cmp.Lexicographic.{slice_cmp}
use Rattle.std.specs.Str.{bytes_eq}
use Rattle.std.proofs.lemmas.Bool.Decides.{nat_tests}
use Rattle.std.proofs.lemmas.List.{length-append}
use Rattle.sha2.specs.Sha256.{sha256}
use Rattle.trie_model.specs.State.{State}
use Rattle.trie_model.proofs.Members.{IsIn, contains_of_in, in_map_from, in_of_contains}
use Rattle.batch_model.specs.Changes.{Changes, after}
use Rattle.change_model.specs.Ledger.{gain, loss, made_texts}
use Rattle.fork_model.specs.Trees.{Header, block_fault}
use Rattle.fork_model.specs.States.{Block, ForkState, block_at, state_at, tree_of_blocks, with_block}
use Rattle.fork_model.proofs.Faults.{accepted}
use Rattle.fork_model.proofs.Ids.{found, found-push_new, found-push_old, same-itself}
use Rattle.fork_model.proofs.States.{block_key, block_of-at, over_prev, with_block-is}
use Rattle.count_model.specs.Entries.{Entry, times_of}
use Rattle.count_model.proofs.ByEntries.{times-cons, times_told}
use Rattle.count_model.proofs.Completed.{gained_made}
use Rattle.count_model.proofs.Live.{block-of_state}
use Rattle.base_core.specs.declared.hash.Digest.{Digest}
use Rattle.trie_update.specs.Balances.{Ascends, by_bytes}
use Rattle.trie_update.specs.Updates.{IsLostOf, IsMadeOf}
use Rattle.trie_update.specs.declared.change.LostText.{LostText}
use Rattle.trie_update.specs.declared.change.MadeText.{MadeText}
use Rattle.shard_core.specs.Ledgers.{gains_of, losses_of}

-- ---- lists

pub all-in : {X : Type 0} (P : X → Type 0) (xs : List X) → All P xs → (x : X) → IsIn xs x → P x
all-in P xs all x i = let c = contains_of_in xs x i in subst P c.2 (all c.0 x c.1)

-- ---- states

module _ (most : ℕ) (forks : ForkState) (header : Header) (changes : Changes) (prev : State) (fault : block_fault most (tree_of_blocks forks) header ≡ None) (at : state_at forks header.prev ≡ Some prev) where
  over : (b : Block) × (block_at forks.blocks header.prev ≡ Some b) × (b.state ≡ prev)
  over = block-of_state forks header.prev prev at

  abbrev new : Block
  new = over_prev header changes over.0

  grown : with_block forks header changes ≡ record forks { blocks = forks.blocks ++ new ∷ [] }
  grown = with_block-is forks header changes over.0 over.1

  unknown : block_at forks.blocks header.id ≡ None
  unknown = by_case (block_at forks.blocks header.id) refl (sym (block_of-at forks.blocks header.id) ∙ (accepted most (tree_of_blocks forks) header fault).new)
    where
      by_case : (o : Option Block) → block_at forks.blocks header.id ≡ o → option_map (λ (b : Block). b.header) (block_at forks.blocks header.id) ≡ None → block_at forks.blocks header.id ≡ None
      by_case None e h = e
      by_case (Some b) e h = absurd (differ (sym (ap (option_map (λ (b : Block). b.header)) e) ∙ h))
        where
          differ : Some b.header ≡ None → ⊥
          differ e = cc

  pub grown-head : (with_block forks header changes).head ≡ forks.head
  grown-head = ap (λ (f : ForkState). f.head) grown

  pub grown-length : length (with_block forks header changes).blocks ≡ length forks.blocks + 1
  grown-length = ap (λ (f : ForkState). length f.blocks) grown ∙ length-append forks.blocks (new ∷ [])

  pub grown-new : state_at (with_block forks header changes) header.id ≡ Some (after prev changes)
  unfolding block_at
  grown-new =
      ap (λ (f : ForkState). state_at f header.id) grown
      ∙ ap (option_map (λ (b : Block). b.state)) (found-push_new block_key forks.blocks new header.id unknown ∙ ap (λ b. cond b (Some new) None) (same-itself header.id))
      ∙ ap (λ (s : State). Some (after s changes)) over.2

  pub grown-elsewhere : (q : List ℕ) → bytes_eq q header.id ≡ false → state_at (with_block forks header changes) q ≡ state_at forks q
  unfolding block_at
  grown-elsewhere q other = ap (λ (f : ForkState). state_at f q) grown ∙ ap (option_map (λ (b : Block). b.state)) (by_case (found block_key forks.blocks q) refl)
    where
      by_case : (o : Option Block) → found block_key forks.blocks q ≡ o → found block_key (forks.blocks ++ new ∷ []) q ≡ found block_key forks.blocks q
      by_case None e = found-push_new block_key forks.blocks new q e ∙ ap (λ b. cond b (Some new) None) other ∙ sym e
      by_case (Some b) e = found-push_old block_key forks.blocks new q b e ∙ sym e

-- ---- entries that rise

abbrev digests_of : List Entry → List (List ℕ)
digests_of entries = map (λ entry. entry.0) entries

module _ {X : Type 0} (digest : X → Digest) (times : X → ℕ) where
  abbrev told : List X → List Entry
  told xs = map (λ x. ((digest x).0, times x)) xs

  below-told : (d : Digest) (xs : List X) → AllByRecursion (λ y. by_bytes d y ≡ Less) (map digest xs) → AllByRecursion (λ (y : List ℕ). slice_cmp nat_cmp d.0 y ≡ Less) (digests_of (told xs))
  below-told d [] all = tt
  below-told d (x ∷ xs) all = (all.0, below-told d xs all.1)

  rising-told : (xs : List X) → Ascends (map digest xs) → IsStrictlySortedBy (slice_cmp nat_cmp) (digests_of (told xs))
  unfolding IsStrictlySortedBy
  rising-told [] rising = tt
  rising-told (x ∷ xs) rising = (below-told (digest x) xs rising.0, rising-told xs rising.1)

  in-told : (xs : List X) (x : X) → IsIn xs x → IsIn (digests_of (told xs)) (digest x).0
  in-told [] x i = absurd i
  in-told (y ∷ xs) x (inl e) = inl (ap (λ z. (digest z).0) e)
  in-told (y ∷ xs) x (inr i) = inr (in-told xs x i)

  all-told : (number : List ℕ → ℕ) (xs : List X) → ((x : X) → IsIn xs x → times x ≡ number (digest x).0) → AllByRecursion (λ entry. entry.1 ≡ number entry.0) (told xs)
  all-told number [] each = tt
  all-told number (x ∷ xs) each = (each x (inl refl), all-told number xs (λ y i. each y (inr i)))

-- what is made tells each gain
module _ (state : State) (changes : Changes) (made : List MadeText) (is : IsMadeOf state changes made) where
  pub made-at : (t : List ℕ) → Contains (made_texts state changes) t → (m : MadeText) × IsIn made m × (m.text ≡ t)
  made-at t c = in_map_from (λ (m : MadeText). m.text) made t (in_of_contains _ t (is.all t c))

  pub made-each : (m : MadeText) → IsIn made m → Contains (made_texts state changes) m.text × (m.digest.0 ≡ sha256 m.text) × (m.times ≡ gain state changes m.digest.0)
  made-each m i = all-in (λ m. Contains (made_texts state changes) m.text × (m.digest.0 ≡ sha256 m.text) × (m.times ≡ gain state changes m.digest.0)) made is.each m i

  pub gains-told : (digest : List ℕ) → times_of (gains_of made) digest ≡ gain state changes digest
  gains-told digest =
      times_told (gain state changes) (gains_of made)
      (rising-told (λ (m : MadeText). m.digest) (λ (m : MadeText). m.times) made is.ascends)
      (all-told (λ (m : MadeText). m.digest) (λ (m : MadeText). m.times) (gain state changes) made (λ m i. (made-each m i).2))
      (λ d some.
      let t = gained_made state changes d some in
      let m = made-at t.0 (contains_of_in _ t.0 t.1) in
      let here : m.0.digest.0 ≡ d = (made-each m.0 m.1).1 ∙ ap sha256 m.2 ∙ t.2 in
      contains_of_in _ d (subst (IsIn (digests_of (gains_of made))) here (in-told (λ (m : MadeText). m.digest) (λ (m : MadeText). m.times) made m.0 m.1)))
      digest

-- and what is lost each loss
pub losses-told : (state : State) (changes : Changes) (lost : List LostText) → IsLostOf state changes lost → (digest : List ℕ) → times_of (losses_of lost) digest ≡ loss state changes digest
losses-told state changes lost is digest =
    times_told (loss state changes) (losses_of lost)
    (rising-told (λ (l : LostText). l.digest) (λ (l : LostText). l.times) lost is.ascends)
    (all-told (λ (l : LostText). l.digest) (λ (l : LostText). l.times) (loss state changes) lost (λ l i. (all-in (λ l. (0 < l.times) × (l.times ≡ loss state changes l.digest.0)) lost is.each l i).1))
    (λ d some.
    let at = in_map_from (λ (l : LostText). l.digest) lost (record { 0 = d }) (in_of_contains _ _ (is.all (record { 0 = d }) some)) in
    contains_of_in _ d (subst (IsIn (digests_of (losses_of lost))) (ap (λ (x : Digest). x.0) at.2) (in-told (λ (l : LostText). l.digest) (λ (l : LostText). l.times) lost at.0 at.1)))
    digest

-- entries without number tell nothing
pub times-counted : (entries : List Entry) (digest : List ℕ) → times_of (filter (λ entry. nat_lt 0 entry.1) entries) digest ≡ times_of entries digest
times-counted [] digest = refl
times-counted (entry ∷ rest) digest = by_test (nat_lt 0 entry.1) refl (times-counted rest digest)
  where
    none : (n : ℕ) → nat_lt 0 n ≡ false → n ≡ 0
    none n e = grind (arith, nat_tests)

    plus : (n : ℕ) → 0 + n ≡ n
    plus n = omega arith

    nothing : (b : Bool) (n : ℕ) → n ≡ 0 → cond b n 0 ≡ 0
    nothing true n e = e
    nothing false n e = refl

    by_test : (b : Bool) → nat_lt 0 entry.1 ≡ b → times_of (filter (λ entry. nat_lt 0 entry.1) rest) digest ≡ times_of rest digest → times_of (cond b (entry ∷ filter (λ entry. nat_lt 0 entry.1) rest) (filter (λ entry. nat_lt 0 entry.1) rest)) digest ≡ times_of (entry ∷ rest) digest
    by_test true e same = times-cons entry (filter (λ entry. nat_lt 0 entry.1) rest) digest ∙ ap (λ n. cond (bytes_eq entry.0 digest) entry.1 0 + n) same ∙ sym (times-cons entry rest digest)
    by_test false e same = same ∙ sym (times-cons entry rest digest ∙ ap (λ n. n + times_of rest digest) (nothing (bytes_eq entry.0 digest) entry.1 (none entry.1 e)) ∙ plus (times_of rest digest))
