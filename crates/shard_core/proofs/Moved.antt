-- A move of the head over the tries: what is to be released can be, and what is left then is of the blocks that stay.
use Rattle.std.proofs.Common.{◌≡◌, ℕ, ◌+◌, ◌≤◌, nat_lt, true, false, List, [], ◌++◌, Option, None, Some, Contains, is_some, Result, Ok, Err, OnOk, OnErr, refl, sym, ap, subst, ◌∙◌, arith}
use Rattle.std.specs.Option.{IsSomeAnd, option_map, unwrap_or}
use Rattle.std.specs.List.{flat_map}
use Rattle.std.specs.Str.{bytes_eq}
use Rattle.std.specs.FinMap.{get, contains_key}
use Rattle.std.proofs.lemmas.Bool.Decides.{nat_tests}
use Rattle.sha2.specs.Sha256.{sha256}
use Rattle.trie_model.specs.State.{State}
use Rattle.trie_model.specs.Root.{Table, texts_of}
use Rattle.trie_model.proofs.Members.{contains_of_in, in_of_contains}
use Rattle.change_model.proofs.Filtered.{in_filter_from}
use Rattle.fork_model.specs.Trees.{descends, dropped, is_live, passed}
use Rattle.fork_model.specs.States.{Block, ForkState, IsForkState, block_at, head_moved, state_at, tree_of_blocks}
use Rattle.fork_model.proofs.States.{head_moved-keeps}
use Rattle.count_model.specs.Counts.{digest_count, fall, of_digest, rise, taken_away}
use Rattle.count_model.specs.Entries.{Entry, Exceeds, times_of}
use Rattle.count_model.specs.Tables.{live_texts}
use Rattle.count_model.proofs.ByEntries.{move-begins, move-told, times-append}
use Rattle.count_model.proofs.Following.{follows-move}
use Rattle.count_model.proofs.Held.{keys-counted}
use Rattle.count_model.proofs.Limits.{states-moved}
use Rattle.count_model.proofs.Live.{digests-counted, in-flat_map, in_flat_map_from, texts-counted}
use Rattle.count_model.proofs.Told.{sides-move}
use Rattle.text_store.specs.Counting.{IsStored}
use Rattle.fork_tree.specs.Answers.{IsPlan}
use Rattle.fork_tree.specs.declared.ids.Move.{Move}
use Rattle.shard_core.specs.Counting.{CanRelease, ReleasesSome}
use Rattle.shard_core.specs.KeptTries.{AreTriesOf, IsAmidMove, IsLedgerOf, MatchesLedger}
use Rattle.shard_core.specs.Ledgers.{LedgerState, Ledgers, gains_under, losses_under}
use Rattle.shard_core.proofs.Behind.{dropped-gone, live-state, passed-gone, state-live, stays-other, stays-state}

-- ---- what a ledger tells

-- a live block has a ledger
pub has-ledger : (forks : ForkState) (q : List ℕ) (state : State) (o : Option State) (ledger : Option LedgerState) → o ≡ Some state → MatchesLedger forks q o ledger → IsSomeAnd ledger (IsLedgerOf forks q state)
has-ledger forks q state None ledger e h = absurd cc
has-ledger forks q state (Some s) ledger e h = subst (λ (t : State). IsSomeAnd ledger (IsLedgerOf forks q t)) (same e) h
  where
    same : Some s ≡ Some state → s ≡ state
    same e = cc

module _ (forks : ForkState) (q : List ℕ) (state : State) (other : bytes_eq q forks.head ≡ false) (digest : List ℕ) where
  losses-told : (o : Option LedgerState) → IsSomeAnd o (IsLedgerOf forks q state) → times_of (unwrap_or (option_map (λ l. l.losses) o) []) digest ≡ fall (of_digest digest) forks q
  losses-told None h = absurd h
  losses-told (Some ledger) h = h.losses other digest

  gains-told : (o : Option LedgerState) → IsSomeAnd o (IsLedgerOf forks q state) → times_of (unwrap_or (option_map (λ l. l.gains) o) []) digest ≡ rise (of_digest digest) forks q
  gains-told None h = absurd h
  gains-told (Some ledger) h = h.gains other digest

-- ---- a move

module _ (texts : Table) (count_of : List ℕ → ℕ) (ledgers : Ledgers) (forks : ForkState) (id : List ℕ) (tries : AreTriesOf texts count_of ledgers forks) (live : is_live (tree_of_blocks forks) id ≡ true) where
  abbrev lost : List Entry
  lost = flat_map (losses_under ledgers) (passed (tree_of_blocks forks) id)

  abbrev made : List Entry
  made = flat_map (gains_under ledgers) (dropped (tree_of_blocks forks) id)

  abbrev low : List ℕ → ℕ
  low = digest_count (head_moved forks id)

  taken : (digest : List ℕ) → times_of (lost ++ made) digest ≡ taken_away (of_digest digest) forks id
  taken digest =
      move-told forks id (losses_under ledgers) (gains_under ledgers) digest
      (λ q c.
      let gone = passed-gone (tree_of_blocks forks) id tries.blocks.tree live q c in
      let state = live-state forks q gone.0 in
      losses-told forks q state.0 gone.1 digest (get ledgers q) (has-ledger forks q state.0 (state_at forks q) (get ledgers q) state.1 (tries.each q)))
      (λ q c.
      let gone = dropped-gone (tree_of_blocks forks) id tries.blocks.tree live q c in
      let state = live-state forks q gone.0 in
      gains-told forks q state.0 gone.1 digest (get ledgers q) (has-ledger forks q state.0 (state_at forks q) (get ledgers q) state.1 (tries.each q)))

  -- the counts before the move, and those behind it
  balance : (digest : List ℕ) → low digest + (times_of lost digest + times_of made digest) ≡ count_of digest
  balance digest = ap (λ n. low digest + n) (sym (times-append lost made digest)) ∙ (move-begins forks id (lost ++ made) tries.blocks live taken).by_entries digest ∙ sym (tries.counts digest)

  pub first-can : CanRelease count_of lost
  first-can = λ q. let e = balance q in omega (arith, e)

  pub second-can : (count_mid : List ℕ → ℕ) → Exceeds count_mid count_of lost → CanRelease count_mid made
  second-can count_mid first = λ q.
      let e = balance q in
      let f = first.by_entries q in
      omega (arith, e, f)

  -- ---- all is released

  moved-blocks : IsForkState (head_moved forks id)
  moved-blocks = by_state (live-state forks id live)
    where
      block_from : (o : Option Block) → is_some o ≡ true → (b : Block) × (o ≡ Some b)
      block_from None e = absurd cc
      block_from (Some b) e = (b, refl)

      some : (o : Option Block) (state : State) → option_map (λ (b : Block). b.state) o ≡ Some state → is_some o ≡ true
      some None state e = absurd cc
      some (Some b) state e = refl

      by_state : (state : State) × (state_at forks id ≡ Some state) → IsForkState (head_moved forks id)
      by_state at = let b = block_from (block_at forks.blocks id) (some (block_at forks.blocks id) at.0 at.1) in head_moved-keeps forks tries.blocks id b.0 b.1

  moved-ledgers : (q : List ℕ) → MatchesLedger (head_moved forks id) q (state_at (head_moved forks id) q) (get ledgers q)
  unfolding head_moved
  moved-ledgers q = by_case (state_at (head_moved forks id) q) refl
    where
      kept : (state : State) → state_at (head_moved forks id) q ≡ Some state → (o : Option LedgerState) → IsSomeAnd o (IsLedgerOf forks q state) → IsSomeAnd o (IsLedgerOf (head_moved forks id) q state)
      kept state at None h = absurd h
      kept state at (Some ledger) h =
          let stays = stays-state forks id q state at in
          let sides = λ (other : bytes_eq q id ≡ false) (digest : List ℕ). sides-move (of_digest digest) forks id q tries.blocks live (state-live (head_moved forks id) q state at) other in
          record {
            root = h.root;
            pairs = h.pairs;
            gains = λ other digest. h.gains (stays-other forks id q tries.blocks stays.0 other) digest ∙ sym (sides other digest).0;
            losses = λ other digest. h.losses (stays-other forks id q tries.blocks stays.0 other) digest ∙ sym (sides other digest).1;
          }

      by_case : (o : Option State) → state_at (head_moved forks id) q ≡ o → MatchesLedger (head_moved forks id) q o (get ledgers q)
      by_case None at = tt
      by_case (Some state) at = kept state at (get ledgers q) (has-ledger forks q state (state_at forks q) (get ledgers q) (stays-state forks id q state at).1 (tries.each q))

  pub tries-moved : (later : Table) (count_mid count_later : List ℕ → ℕ) → Exceeds count_mid count_of lost → Exceeds count_later count_mid made → ((digest t : List ℕ) → get later digest ≡ Some t → get texts digest ≡ Some t) → IsStored later count_later → AreTriesOf later count_later ledgers (head_moved forks id)
  tries-moved later count_mid count_later first second only stored = record {
    blocks = moved-blocks;
    states = states-moved forks id tries.states;
    held = follows-move texts later forks id tries.blocks live tries.held only (λ q. stored.counted q ∙ ap (nat_lt 0) (counts q));
    counts = counts;
    each = moved-ledgers;
  }
    where
      counts : (q : List ℕ) → count_later q ≡ low q
      counts q =
          let a = balance q in
          let b = first.by_entries q in
          let c = second.by_entries q in
          omega (arith, a, b, c)

  -- ---- it is cut short

  module _ (later : Table) (count_later : List ℕ → ℕ) (stored : IsStored later count_later) (only : (digest t : List ℕ) → get later digest ≡ Some t → get texts digest ≡ Some t) (least : (digest : List ℕ) → low digest ≤ count_later digest) where
    stays-live : (t : List ℕ) → Contains (live_texts (head_moved forks id)) t → Contains (live_texts forks) t
    unfolding head_moved live_texts
    stays-live t c =
        let from = in_flat_map_from (λ (b : Block). texts_of b.state) (head_moved forks id).blocks t (in_of_contains _ t c) in
        let there = in_filter_from (λ (b : Block). descends (tree_of_blocks forks) id b.header.id) forks.blocks from.0 from.1 in
        contains_of_in _ t (in-flat_map (λ (b : Block). texts_of b.state) forks.blocks from.0 t there.0 from.2)

    cut-held : (t : List ℕ) → Contains (live_texts (head_moved forks id)) t → get later (sha256 t) ≡ Some t
    cut-held t c = by_case (get later (sha256 t)) refl (stored.counted (sha256 t) ∙ test (count_later (sha256 t)) (more (least (sha256 t))))
      where
        counted : 1 ≤ low (sha256 t)
        counted = (digests-counted (head_moved forks id) moved-blocks (sha256 t)).1 (t, c, refl)

        more : low (sha256 t) ≤ count_later (sha256 t) → 1 ≤ count_later (sha256 t)
        more h = omega (arith, h, counted)

        test : (n : ℕ) → 1 ≤ n → nat_lt 0 n ≡ true
        test n h = grind (arith, nat_tests)

        was : get texts (sha256 t) ≡ Some t
        was = tries.held.found t ((texts-counted forks tries.blocks t).1 (stays-live t c))

        by_case : (o : Option (List ℕ)) → get later (sha256 t) ≡ o → contains_key later (sha256 t) ≡ true → get later (sha256 t) ≡ Some t
        by_case None e h = absurd (differ (sym (ap (λ o. is_some o) e) ∙ h))
          where
            differ : false ≡ true → ⊥
            differ e = cc
        by_case (Some u) e h = e ∙ sym (only (sha256 t) u e) ∙ was

    amid-move : ((digest : List ℕ) → count_later digest ≤ count_of digest) → IsAmidMove later count_later forks id
    amid-move most = record {
      held = cut-held;
      only = λ digest t at. (texts-counted forks tries.blocks t).0 (tries.held.only digest t (only digest t at));
      least = least;
      most = λ q. subst (λ (n : ℕ). count_later q ≤ n) (tries.counts q) (most q);
    }

  pub first-cut : (later : Table) (count_later : List ℕ → ℕ) → IsStored later count_later → ReleasesSome texts later count_of count_later lost → IsAmidMove later count_later forks id
  first-cut later count_later stored some = amid-move later count_later stored some.only (λ q. let a = balance q in let b = some.least q in omega (arith, a, b)) some.most

  pub second-cut : (mid : Table) (count_mid : List ℕ → ℕ) → Exceeds count_mid count_of lost → ReleasesSome texts mid count_of count_mid lost → (later : Table) (count_later : List ℕ → ℕ) → IsStored later count_later → ReleasesSome mid later count_mid count_later made → IsAmidMove later count_later forks id
  second-cut mid count_mid first some later count_later stored further =
      amid-move later count_later stored (λ q t at. some.only q t (further.only q t at))
      (λ q. let a = balance q in let b = first.by_entries q in let c = further.least q in omega (arith, a, b, c))
      (λ q. let b = some.most q in let c = further.most q in omega (arith, b, c))

-- ---- as the call has it, for a plan

-- texts and counts of live blocks belong together
pub stored-tries : (texts : Table) (count_of : List ℕ → ℕ) (ledgers : Ledgers) (forks : ForkState) → AreTriesOf texts count_of ledgers forks → IsStored texts count_of
stored-tries texts count_of ledgers forks tries = record {
  named = record { own = tries.held.named; nonzero = tries.held.nonzero };
  counted = λ q. keys-counted texts forks tries.blocks tries.held q ∙ ap (nat_lt 0) (sym (tries.counts q));
}

pub on_ok : {X E : Type 0} (P Q : Type 0) (r : Result X E) → (P → Q) → OnOk r P → OnOk r Q
on_ok P Q (Ok x) go h = go h
on_ok P Q (Err e) go h = tt

pub on_err : {X E : Type 0} (Q : Type 0) (r : Result X E) → Q → OnErr r Q
on_err Q (Ok x) h = tt
on_err Q (Err e) h = h

module _ (texts : Table) (count_of : List ℕ → ℕ) (ledgers : Ledgers) (forks : ForkState) (id : List ℕ) (plan : Move) (tries : AreTriesOf texts count_of ledgers forks) (is : IsPlan (tree_of_blocks forks) id plan) where
  abbrev planned_losses : List Entry
  planned_losses = flat_map (losses_under ledgers) plan.passed

  abbrev planned_gains : List Entry
  planned_gains = flat_map (gains_under ledgers) plan.dropped

  same_losses : planned_losses ≡ flat_map (losses_under ledgers) (passed (tree_of_blocks forks) id)
  same_losses = ap (flat_map (losses_under ledgers)) is.passed

  same_gains : planned_gains ≡ flat_map (gains_under ledgers) (dropped (tree_of_blocks forks) id)
  same_gains = ap (flat_map (gains_under ledgers)) is.dropped

  pub plan-first : CanRelease count_of planned_losses
  plan-first = subst (CanRelease count_of) (sym same_losses) (first-can texts count_of ledgers forks id tries is.live)

  pub plan-second : (count_mid : List ℕ → ℕ) → Exceeds count_mid count_of planned_losses → CanRelease count_mid planned_gains
  plan-second count_mid first = subst (CanRelease count_mid) (sym same_gains) (second-can texts count_of ledgers forks id tries is.live count_mid (subst (Exceeds count_mid count_of) same_losses first))

  pub plan-done : (mid later : Table) (count_mid count_later : List ℕ → ℕ) → Exceeds count_mid count_of planned_losses → ReleasesSome texts mid count_of count_mid planned_losses → Exceeds count_later count_mid planned_gains → ReleasesSome mid later count_mid count_later planned_gains → IsStored later count_later → AreTriesOf later count_later ledgers (head_moved forks id)
  plan-done mid later count_mid count_later first some second further stored =
      tries-moved texts count_of ledgers forks id tries is.live later count_mid count_later (subst (Exceeds count_mid count_of) same_losses first) (subst (Exceeds count_later count_mid) same_gains second) (λ q t at. some.only q t (further.only q t at)) stored

  pub plan-first_cut : (later : Table) (count_later : List ℕ → ℕ) → IsStored later count_later → ReleasesSome texts later count_of count_later planned_losses → IsAmidMove later count_later forks id
  plan-first_cut later count_later stored some = first-cut texts count_of ledgers forks id tries is.live later count_later stored (subst (ReleasesSome texts later count_of count_later) same_losses some)

  pub plan-second_cut : (mid later : Table) (count_mid count_later : List ℕ → ℕ) → Exceeds count_mid count_of planned_losses → ReleasesSome texts mid count_of count_mid planned_losses → ReleasesSome mid later count_mid count_later planned_gains → IsStored later count_later → IsAmidMove later count_later forks id
  plan-second_cut mid later count_mid count_later first some further stored =
      second-cut texts count_of ledgers forks id tries is.live mid count_mid (subst (Exceeds count_mid count_of) same_losses first) (subst (ReleasesSome texts mid count_of count_mid) same_losses some) later count_later stored (subst (ReleasesSome mid later count_mid count_later) same_gains further)
