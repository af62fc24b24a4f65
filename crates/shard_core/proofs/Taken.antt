-- A block's texts over the tries: they can be added, and what is held then is of the blocks with it.
use Rattle.std.proofs.Common.{◌≡◌, ℕ, ◌+◌, ◌^◌, ◌≤◌, ◌<◌, nat_lt, Bool, true, false, List, [], ◌∷◌, ◌++◌, map, length, Option, None, Some, Contains, Err, inl, inr, refl, sym, ap, ap₂, subst, ◌∙◌, arith}
use Rattle.std.specs.Prelude.{IfNone}
use Rattle.std.specs.Option.{IsSomeAnd}
use Rattle.std.specs.List.{AllByRecursion}
use Rattle.std.specs.List.Sorted.{IsStrictlySortedBy}
use Rattle.std.specs.declared.cmp.Ordering.TheVariants.{Less}
use Rattle.std.specs.Ordering.{nat_cmp}
use Rattle.std.specs.Cmp.Lexicographic.{slice_cmp}
use Rattle.std.specs.Str.{bytes_eq}
use Rattle.std.specs.FinMap.{get, len-entries}
use Rattle.std.proofs.lemmas.List.{length-map, map-append}
use Rattle.sha2.specs.Sha256.{sha256}
use Rattle.trie_model.specs.State.{State}
use Rattle.trie_model.specs.Root.{Table}
use Rattle.trie_model.proofs.Members.{IsIn, all_at, all_of, in-append_left, in-append_right, in_map_from, in_of_contains}
use Rattle.batch_model.specs.Changes.{Changes, after}
use Rattle.change_model.specs.Ledger.{gain, made_texts}
use Rattle.fork_model.specs.Trees.{Header}
use Rattle.fork_model.specs.States.{Block, ForkState, IsForkState, state_at, tree_of_blocks, with_block}
use Rattle.fork_model.proofs.Faults.{accepted}
use Rattle.fork_model.proofs.Ids.{same_from}
use Rattle.fork_model.proofs.States.{after_offer-keeps}
use Rattle.count_model.specs.Clashes.{live_clash}
use Rattle.count_model.specs.Counts.{digest_count, of_digest}
use Rattle.count_model.specs.Entries.{times_of}
use Rattle.count_model.specs.Laws.{ClashesWith}
use Rattle.count_model.specs.Tables.{AreStates, HoldsCounted, live_texts}
use Rattle.count_model.proofs.Bounded.{digest_count-small}
use Rattle.count_model.proofs.Clashing.{met-in_table, rising-first, rising-none}
use Rattle.count_model.proofs.Completed.{unheld-gains}
use Rattle.count_model.proofs.Following.{follows-block}
use Rattle.count_model.proofs.Limits.{states-with_block}
use Rattle.count_model.proofs.Live.{texts-counted}
use Rattle.count_model.proofs.Told.{counted-block, sides-block, sides-new}
use Rattle.base_core.specs.declared.hash.Digest.{Digest}
use Rattle.text_store.specs.Counting.{Clashes, IsStored, IsUnchanged}
use Rattle.trie_update.specs.Balances.{Ascends, by_bytes}
use Rattle.trie_update.specs.declared.change.MadeText.{MadeText}
use Rattle.text_store.specs.declared.errors.AddError.{AddError}
use Rattle.text_store.specs.declared.errors.AddError.TheVariants.{Clash, Fault}
use Rattle.shard_core.specs.Answers.{AnswersTake, IsOffered}
use Rattle.shard_core.specs.Counting.{AddsAll, AddsSome, AnswersAddAll, AreClear, CanAdd, ClashesFirst, IsAddable}
use Rattle.shard_core.specs.Errors.{by_add}
use Rattle.shard_core.specs.KeptTries.{AreTriesOf, IsAmidBlock, IsLedgerOf, MatchesLedger}
use Rattle.shard_core.specs.Ledgers.{LedgerState, Ledgers, gains_of, losses_of}
use Rattle.shard_core.specs.declared.tries.Carried.{Carried}
use Rattle.shard_core.proofs.Behind.{state-live}
use Rattle.shard_core.proofs.Grown.{gains-told, grown-elsewhere, grown-head, grown-length, grown-new, losses-told, made-at, made-each}

-- what is not changed is still of the blocks
pub tries-unchanged : (texts later : Table) (count_of count_later : List ℕ → ℕ) (ledgers : Ledgers) (forks : ForkState) → AreTriesOf texts count_of ledgers forks → IsUnchanged texts later count_of count_later → AreTriesOf later count_later ledgers forks
tries-unchanged texts later count_of count_later ledgers forks tries same = record {
  blocks = tries.blocks;
  states = tries.states;
  held = subst (λ (m : Table). HoldsCounted m forks) (sym same.same_texts) tries.held;
  counts = λ q. same.same_counts q ∙ tries.counts q;
  each = tries.each;
}

-- and so it is with ledgers that tell the same
pub tries-ledgers : (texts : Table) (count_of : List ℕ → ℕ) (ledgers others : Ledgers) (forks : ForkState) → AreTriesOf texts count_of ledgers forks → ((q : List ℕ) → get others q ≡ get ledgers q) → AreTriesOf texts count_of others forks
tries-ledgers texts count_of ledgers others forks tries same = record {
  blocks = tries.blocks;
  states = tries.states;
  held = tries.held;
  counts = tries.counts;
  each = λ q. subst (MatchesLedger forks q (state_at forks q)) (sym (same q)) (tries.each q);
}

-- what is of the blocks stands between these and the blocks with any further one
pub amid-same : (texts : Table) (count_of : List ℕ → ℕ) (ledgers : Ledgers) (forks : ForkState) (prev : State) (changes : Changes) → AreTriesOf texts count_of ledgers forks → IsAmidBlock texts count_of forks prev changes
amid-same texts count_of ledgers forks prev changes tries = record {
  held = λ t c. tries.held.found t ((texts-counted forks tries.blocks t).1 c);
  least = λ q. let e = tries.counts q in omega (arith, e);
  most = λ q. let e = tries.counts q in omega (arith, e);
}

pub rising-digests : (made : List MadeText) → ((m : MadeText) → IsIn made m → m.digest.0 ≡ sha256 m.text) → Ascends (map (λ m. m.digest) made) → IsStrictlySortedBy (slice_cmp nat_cmp) (map sha256 (map (λ m. m.text) made))
unfolding IsStrictlySortedBy
rising-digests [] named rising = tt
rising-digests (m ∷ made) named rising = (go made (λ x i. named x (inr i)) rising.0, rising-digests made (λ x i. named x (inr i)) rising.1)
  where
    go : (xs : List MadeText) → ((x : MadeText) → IsIn xs x → x.digest.0 ≡ sha256 x.text) → AllByRecursion (λ y. by_bytes m.digest y ≡ Less) (map (λ m. m.digest) xs) → AllByRecursion (λ (y : List ℕ). slice_cmp nat_cmp (sha256 m.text) y ≡ Less) (map sha256 (map (λ m. m.text) xs))
    go [] each below = tt
    go (x ∷ xs) each below = (ap₂ (λ (a b : List ℕ). slice_cmp nat_cmp a b) (sym (named m (inl refl))) (sym (each x (inl refl))) ∙ below.0, go xs (λ y i. each y (inr i)) below.1)

module _ (texts : Table) (count_of : List ℕ → ℕ) (ledgers : Ledgers) (forks : ForkState) (most : ℕ) (header : Header) (state : State) (changes : Changes) (carried : Carried) (tries : AreTriesOf texts count_of ledgers forks) (is : IsOffered forks most header state changes carried) where
  abbrev made : List MadeText
  made = carried.change.made

  abbrev next : ForkState
  next = with_block forks header changes

  abbrev named_at : (m : MadeText) → IsIn made m → m.digest.0 ≡ sha256 m.text
  named_at m i = (made-each state changes made is.is.change.made m i).1

  next-blocks : IsForkState next
  next-blocks = after_offer-keeps most forks header changes tries.blocks (accepted most (tree_of_blocks forks) header is.faultless)

  next-states : AreStates next
  next-states = states-with_block forks header changes state tries.states is.within is.live (subst (λ n. n ≤ 2 ^ 32) (is.is.pairs ∙ len-entries (after state changes)) is.few)

  next-few : length next.blocks ≤ 4096
  next-few =
      let room = (accepted most (tree_of_blocks forks) header is.faultless).room in
      let same = grown-length most forks header changes state is.faultless is.live in
      let bound = is.bounded in
      let live = length-map forks.blocks (λ (b : Block). b.header) in
      omega (arith, room, same, bound, live)

  counts-next : (digest : List ℕ) → digest_count next digest ≡ digest_count forks digest + gain state changes digest
  counts-next digest = counted-block (of_digest digest) most forks header changes state tries.blocks is.faultless is.live

  -- ---- they can be added

  addable : (m : MadeText) → IsIn made m → IsAddable texts count_of m
  addable m i =
      let each = made-each state changes made is.is.change.made m i in
      record {
        named = each.1;
        wanted = by_case each (get texts m.digest.0) refl;
        fits =
            let small = digest_count-small next m.digest.0 next-blocks next-states next-few in
            let sum = counts-next m.digest.0 in
            let here = tries.counts m.digest.0 in
            let times = each.2 in
            fits-below (count_of m.digest.0) m.times (digest_count next m.digest.0) (ap₂ (λ (a b : ℕ). a + b) here times ∙ sym sum) small;
      }
    where
      fits-below : (a b c : ℕ) → a + b ≡ c → c ≤ 2 ^ 46 → a + b < 2 ^ 64
      fits-below a b c e h = omega (arith, e, h)

      by_case : Contains (made_texts state changes) m.text × (m.digest.0 ≡ sha256 m.text) × (m.times ≡ gain state changes m.digest.0) → (o : Option (List ℕ)) → get texts m.digest.0 ≡ o → IfNone o (1 ≤ m.times)
      by_case each (Some t) e = tt
      by_case each None e =
          let some = unheld-gains texts forks header.prev state changes m.text tries.blocks tries.held is.live each.0 (ap (get texts) (sym each.1) ∙ e) in
          subst (λ n. 1 ≤ n) (ap (gain state changes) (sym each.1) ∙ sym each.2) some

  pub take-can : CanAdd texts count_of made
  take-can = record { ascends = is.is.change.made.ascends; each = all_of (IsAddable texts count_of) made addable }

  -- ---- all were added

  module _ (later : Table) (count_later : List ℕ → ℕ) (stored : IsStored later count_later) (all : AddsAll texts later count_of count_later made) (some : AddsSome texts later count_of count_later made) where
    counts-taken : (digest : List ℕ) → count_later digest ≡ digest_count next digest
    counts-taken q =
        let a = all.counts.by_entries q in
        let b = gains-told state changes made is.is.change.made q in
        let c = counts-next q in
        let d = tries.counts q in
        omega (arith, a, b, c, d)

    held-taken : (t : List ℕ) → Contains (made_texts state changes) t → get later (sha256 t) ≡ Some t
    held-taken t c =
        let m = made-at state changes made is.is.change.made t c in
        let at = all_at (λ (m : MadeText). get later m.digest.0 ≡ Some m.text) made m.0 all.held m.1 in
        ap (get later) (sym (named_at m.0 m.1 ∙ ap sha256 m.2)) ∙ at ∙ ap Some m.2

    module _ (others : Ledgers) (new : LedgerState) (put : get others header.id ≡ Some new) (kept : (q : List ℕ) → bytes_eq q header.id ≡ false → get others q ≡ get ledgers q) (root : new.root ≡ carried.change.root.0) (pairs : new.pairs ≡ carried.pairs)
        (gains : (digest : List ℕ) → times_of new.gains digest ≡ times_of (gains_of made) digest) (losses : (digest : List ℕ) → times_of new.losses digest ≡ times_of (losses_of carried.change.lost) digest) where
      new-ledger : IsLedgerOf next header.id (after state changes) new
      new-ledger = record {
        root = root ∙ is.is.change.root;
        pairs = pairs ∙ is.is.pairs;
        gains = λ other digest. gains digest ∙ gains-told state changes made is.is.change.made digest ∙ sym (sides-new (of_digest digest) most forks header changes state tries.blocks is.faultless is.live).0;
        losses = λ other digest. losses digest ∙ losses-told state changes carried.change.lost is.is.change.lost digest ∙ sym (sides-new (of_digest digest) most forks header changes state tries.blocks is.faultless is.live).1;
      }

      old-ledger : (q : List ℕ) (s : State) → state_at forks q ≡ Some s → (o : Option LedgerState) → IsSomeAnd o (IsLedgerOf forks q s) → IsSomeAnd o (IsLedgerOf next q s)
      old-ledger q s at None h = absurd h
      old-ledger q s at (Some ledger) h =
          let behind = λ (other : bytes_eq q next.head ≡ false). ap (bytes_eq q) (sym (grown-head most forks header changes state is.faultless is.live)) ∙ other in
          let sides = λ (other : bytes_eq q forks.head ≡ false) (digest : List ℕ). sides-block (of_digest digest) most forks header changes state tries.blocks is.faultless is.live q (state-live forks q s at) other in
          record {
            root = h.root;
            pairs = h.pairs;
            gains = λ other digest. h.gains (behind other) digest ∙ sym (sides (behind other) digest).0;
            losses = λ other digest. h.losses (behind other) digest ∙ sym (sides (behind other) digest).1;
          }

      each-taken : (q : List ℕ) → MatchesLedger next q (state_at next q) (get others q)
      each-taken q = by_test (bytes_eq q header.id) refl
        where
          at_new : q ≡ header.id → MatchesLedger next q (state_at next q) (get others q)
          at_new same =
              subst (λ x. MatchesLedger next x (state_at next x) (get others x)) (sym same)
              (subst (λ o. MatchesLedger next header.id o (get others header.id)) (sym (grown-new most forks header changes state is.faultless is.live))
              (subst (λ o. IsSomeAnd o (IsLedgerOf next header.id (after state changes))) (sym put) new-ledger))

          old : (o : Option State) → state_at forks q ≡ o → MatchesLedger forks q o (get ledgers q) → MatchesLedger next q o (get ledgers q)
          old None at h = tt
          old (Some s) at h = old-ledger q s at (get ledgers q) h

          at_old : bytes_eq q header.id ≡ false → MatchesLedger next q (state_at next q) (get others q)
          at_old other =
              subst (λ o. MatchesLedger next q o (get others q)) (sym (grown-elsewhere most forks header changes state is.faultless is.live q other))
              (subst (MatchesLedger next q (state_at forks q)) (sym (kept q other)) (old (state_at forks q) refl (tries.each q)))

          by_test : (b : Bool) → bytes_eq q header.id ≡ b → MatchesLedger next q (state_at next q) (get others q)
          by_test true e = at_new (same_from q header.id e)
          by_test false e = at_old e

      pub tries-taken : AreTriesOf later count_later others next
      tries-taken = record {
        blocks = next-blocks;
        states = next-states;
        held = follows-block texts later most forks header changes state tries.blocks is.faultless is.live tries.held some.stays held-taken stored.named.nonzero (λ q. stored.counted q ∙ ap (nat_lt 0) (counts-taken q));
        counts = counts-taken;
        each = each-taken;
      }

  -- ---- clashes

  abbrev made_list : List (List ℕ)
  made_list = map (λ m. m.text) made

  clash_at : (m : MadeText) → IsIn made m → Clashes texts m.digest.0 m.text → ClashesWith sha256 (live_texts forks) (m.text ∷ []) (sha256 m.text)
  clash_at m i clash = (met-in_table texts forks m.text tries.blocks tries.held).0 (subst (λ d. Clashes texts d m.text) (named_at m i) clash)

  clash_from : (m : MadeText) → IsIn made m → ClashesWith sha256 (live_texts forks) (m.text ∷ []) (sha256 m.text) → Clashes texts m.digest.0 m.text
  clash_from m i clash = subst (λ d. Clashes texts d m.text) (sym (named_at m i)) ((met-in_table texts forks m.text tries.blocks tries.held).1 clash)

  pub take-clear : AreClear texts made → live_clash forks state changes ≡ None
  take-clear clear =
      rising-none sha256 (live_texts forks) (made_texts state changes) made_list is.is.change.made.all
      (λ t c clash.
      let m = in_map_from (λ (m : MadeText). m.text) made t (in_of_contains _ t c) in
      all_at (λ (m : MadeText). ¬ Clashes texts m.digest.0 m.text) made m.0 clear m.1 (clash_from m.0 m.1 (subst (λ u. ClashesWith sha256 (live_texts forks) (u ∷ []) (sha256 u)) (sym m.2) clash)))

  pub take-clash : (digest : Digest) → ClashesFirst texts made digest → live_clash forks state changes ≡ Some digest.0
  take-clash digest first =
      let parts : made_list ≡ map (λ m. m.text) first.before ++ first.here.text ∷ map (λ m. m.text) first.behind = ap (map (λ m. m.text)) first.parts ∙ map-append (λ (m : MadeText). m.text) first.before (first.here ∷ first.behind) in
      let here : IsIn made first.here = subst (λ list. IsIn list first.here) (sym first.parts) (in-append_right first.before (first.here ∷ first.behind) first.here (inl refl)) in
      rising-first sha256 (live_texts forks) (made_texts state changes) (map (λ m. m.text) first.before) (map (λ m. m.text) first.behind) first.here.text
      (subst (λ list. IsStrictlySortedBy (slice_cmp nat_cmp) (map sha256 list)) parts (rising-digests made named_at is.is.change.made.ascends))
      (λ u c. subst (λ list. Contains list u) parts (is.is.change.made.all u c))
      (made-each state changes made is.is.change.made first.here here).0
      (λ u c clash.
      let m = in_map_from (λ (m : MadeText). m.text) first.before u (in_of_contains _ u c) in
      let there : IsIn made m.0 = subst (λ list. IsIn list m.0) (sym first.parts) (in-append_left first.before (first.here ∷ first.behind) m.0 m.1) in
      all_at (λ (m : MadeText). ¬ Clashes texts m.digest.0 m.text) first.before m.0 first.clear m.1 (clash_from m.0 there (subst (λ v. ClashesWith sha256 (live_texts forks) (v ∷ []) (sha256 v)) (sym m.2) clash)))
      (clash_at first.here here first.clash)
      ∙ ap Some (sym (named_at first.here here) ∙ ap (λ (d : Digest). d.0) first.named)

  -- ---- it is cut short

  pub take-amid : (later : Table) (count_later : List ℕ → ℕ) → AddsSome texts later count_of count_later made → IsAmidBlock later count_later forks state changes
  take-amid later count_later some = record {
    held = λ t c. some.stays (sha256 t) t (tries.held.found t ((texts-counted forks tries.blocks t).1 c));
    least = λ q. subst (λ (n : ℕ). n ≤ count_later q) (tries.counts q) (some.least q);
    most = λ q. subst (λ (n : ℕ). count_later q ≤ n) (ap₂ (λ (a b : ℕ). a + b) (tries.counts q) (gains-told state changes made is.is.change.made q)) (some.most q);
  }

  pub take-refused : (error : AddError) → AnswersAddAll texts made (Err error) → AnswersTake forks state changes {X = Digest} (Err (by_add error))
  take-refused (Clash digest) answer = take-clash digest answer
  take-refused Fault answer = tt
