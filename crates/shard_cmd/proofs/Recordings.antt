-- What becomes of the bytes of a recording, as the reply to them.
use Rattle.std.proofs.Common.{◌≡◌, ◌<◌, ◌≤◌, ℕ, ◌==◌, Bool, true, false, cond, ◌+◌, List, [], ◌∷◌, ◌++◌, length, drop, Option, None, Some, Result, Ok, Err, IfOk, IfSome, inl, inr, refl, sym, ap, subst, ◌∙◌, arith, append_assoc, append-nil}
use Rattle.std.specs.Prelude.{◌⊎◌, OnOk, codes, nat_lt, slice_get}
use Rattle.std.specs.Option.{IsSomeAnd}
use Rattle.std.proofs.lemmas.Bool.{le-ltb, lt-ltb}
use Rattle.std.proofs.lemmas.Option.{get_or_from_slice_get, slice_get_within}
use Rattle.std.proofs.lemmas.List.{at_drop_more, drop_all}
use Rattle.std.specs.declared.alloc.AllocError.{AllocError}
use Rattle.trie_model.specs.State.{State, IsState}
use Rattle.trie_model.specs.Root as trie
use Rattle.trie_model.specs.Root.{NoClash, texts_of}
use Rattle.change_model.specs.Places.{touched_places}
use Rattle.change_model.specs.Tables.{HoldsPlaces}
use Rattle.partial_model.specs.Recording.{Recording, RecordingFault, recording_in}
use Rattle.text_store.specs.PartialStates.{table_of}
use Rattle.recording_model.specs.Recorded.{recorded_texts}
use Rattle.recording_model.specs.Replays.{Visits, Refusal, missing, bad, usage, first_spare}
use Rattle.script_model.specs.Lines.{longest_input}
use Rattle.script_model.specs.Spellings.{hex_text, no_bytes}
use Rattle.byte_model.specs.Nibbles.{AreBytes}
use Rattle.byte_model.specs.Node.{digest_width}
use Rattle.hex.specs.Hex.{encode_lower}
use Rattle.base_core.specs.declared.hash.Digest.{Digest}
use Rattle.shard_core.proofs.Batches.{least-clash}
use Rattle.partial_state.specs.declared.proof.Proof.{Proof}
use Rattle.partial_state.specs.declared.proof_error.ProofError.{ProofError}
use Rattle.partial_state.specs.declared.proof_error.ProofError.TheVariants as unread
use Rattle.partial_state.specs.declared.replaying.Replayed.{Replayed}
use Rattle.partial_state.specs.declared.replaying.ReplayError.TheVariants as error
use Rattle.partial_state.specs.Recordings.{recording_of, IsRefused}
use Rattle.partial_state.specs.Replays.{AnswersReplay, IsReplayOf, ReplaysState, visits_of}
use Rattle.output_model.specs.Ends.{Output, line_of, syntax_at, clash_at, refused_place}
use Rattle.output_model.specs.Replay.{IsByLength, IsByReading, IsByRefusal, IsBySpare, IsCarriedOut, IsClashed, IsReplay, IsReplayOutput, behind_changes, no_recording, read_line, read_lines, replayed, test_failed}
use Rattle.script_io.specs.FeedStates.{AllIs, FeedState}
use Rattle.shard_cmd.specs.declared.reply.Reply.{Reply}
use Rattle.shard_cmd.specs.Recordings.{fault_told, status_of}
use Rattle.shard_cmd.specs.Replies.{IsOneReply, IsReply}

-- ---- the answers, line by line

pub drop_at : {X : Type 0} (xs : List X) (i : ℕ) (x : X) → slice_get xs i ≡ Some x → drop i xs ≡ x ∷ drop (i + 1) xs
drop_at xs i x e = at_drop_more (λ ys. ys) xs i x (slice_get_within xs i x e) ∙ ap (λ y. y ∷ drop (i + 1) xs) (get_or_from_slice_get xs i x x e)

pub answers-left : (answers : List (Option (List ℕ))) (place : ℕ) (value : Option (List ℕ)) → slice_get answers place ≡ Some value → read_lines (drop place answers) ≡ read_line value ++ read_lines (drop (place + 1) answers)
unfolding read_lines
answers-left answers place value e = ap read_lines (drop_at answers place value e)

pub answers-more : (answers : List (Option (List ℕ))) (place : ℕ) (value : Option (List ℕ)) (before after whole : List ℕ) → slice_get answers place ≡ Some value → before ++ read_lines (drop place answers) ≡ whole → after ≡ before ++ read_line value → after ++ read_lines (drop (place + 1) answers) ≡ whole
answers-more answers place value before after whole e up_to put =
    let rest : List ℕ = read_lines (drop (place + 1) answers) in
    ap (λ (b : List ℕ). b ++ rest) put ∙ append_assoc before (read_line value) rest ∙ ap (λ (b : List ℕ). before ++ b) (sym (answers-left answers place value e)) ∙ up_to

pub answers-all : (answers : List (Option (List ℕ))) (place : ℕ) (after whole : List ℕ) → length answers ≤ place → after ++ read_lines (drop place answers) ≡ whole → after ≡ whole
unfolding read_lines
answers-all answers place after whole past up_to = sym (append-nil after) ∙ ap (λ (values : List (Option (List ℕ))). after ++ read_lines values) (sym (drop_all place answers past)) ∙ up_to

-- a digest is written in its digits
pub root-line : (root : List ℕ) → length root ≡ digest_width → line_of (codes "root " ++ hex_text root) ≡ behind_changes root
unfolding hex_text
root-line root e = go (length root == 0) (ap (λ (n : ℕ). n == 0) e)
  where
    go : (b : Bool) → b ≡ false → line_of (codes "root " ++ cond b no_bytes (encode_lower root)) ≡ behind_changes root
    go true h = absurd cc
    go false h = refl

-- ---- a whole input

-- no byte came yet
abbrev pub IsNewFeed : FeedState → Type 0
IsNewFeed feed = feed ≡ record { pending = []; before = 0 }

by_length : (input : List ℕ) (output : Output) (b : Bool) → nat_lt longest_input (length input) ≡ b → IsByLength b input output → IsReplayOutput input output
unfolding IsReplayOutput
by_length input output b e h = subst (λ (t : Bool). IsByLength t input output) (sym e) h

whole-reply : (input : List ℕ) (r : Result Reply AllocError) → length input ≤ longest_input → IfOk r (IsOneReply (IsByReading (recording_in input))) → IfOk (status_of r) (IsOneReply (IsReplayOutput input))
whole-reply input (Err e) few h = tt
whole-reply input (Ok reply) few h = record { output = h.output; may_be = by_length input h.output false (le-ltb longest_input (length input) few) h.may_be; is = h.is }

long-reply : (input : List ℕ) (r : Result Reply AllocError) → longest_input < length input → IfOk r (IsReply (syntax_at longest_input)) → IfOk (status_of r) (IsOneReply (IsReplayOutput input))
long-reply input (Err e) many h = tt
long-reply input (Ok reply) many h = record { output = syntax_at longest_input; may_be = by_length input (syntax_at longest_input) true (lt-ltb longest_input (length input) many) refl; is = h }

pub replies-whole : (feed : FeedState) (left after : Option (List ℕ)) (text : List ℕ) (r : Result Reply AllocError) → IsNewFeed feed → IfSome left (λ l. AllIs (feed.pending ++ l) feed.before after (Ok text))
    → IfOk r (IsOneReply (IsByReading (recording_in text))) → IfSome left (λ input. IfOk (status_of r) (IsOneReply (IsReplayOutput input)))
replies-whole feed None after text r new all h = tt
replies-whole feed (Some input) after text r new all h =
    let told : AllIs input 0 after (Ok text) = subst (λ (f : FeedState). AllIs (f.pending ++ input) f.before after (Ok text)) new all in
    let few : 0 + length input ≤ longest_input = told.few in
    whole-reply input r (omega (arith, few)) (subst (λ (bytes : List ℕ). IfOk r (IsOneReply (IsByReading (recording_in bytes)))) told.whole h)

pub replies-long : (feed : FeedState) (left after : Option (List ℕ)) (at : ℕ) (r : Result Reply AllocError) → IsNewFeed feed → IfSome left (λ l. (at ≡ longest_input) × (longest_input < feed.before + length (feed.pending ++ l)))
    → IfOk r (IsReply (syntax_at at)) → IfSome left (λ input. IfOk (status_of r) (IsOneReply (IsReplayOutput input)))
replies-long feed None after at r new all h = tt
replies-long feed (Some input) after at r new all h =
    let told : (at ≡ longest_input) × (longest_input < 0 + length input) = subst (λ (f : FeedState). (at ≡ longest_input) × (longest_input < f.before + length (f.pending ++ input))) new all in
    let many : longest_input < 0 + length input = told.1 in
    long-reply input r (omega (arith, many)) (subst (λ (n : ℕ). IfOk r (IsReply (syntax_at n))) told.0 h)

-- ---- bytes that are no recording

told-reply : (fault : RecordingFault) (read : Result Recording RecordingFault) (r : Result Reply AllocError) → read ≡ Err fault → IfOk r (IsReply (no_recording fault)) → IfOk r (IsOneReply (IsByReading read))
told-reply fault read (Err e) is h = tt
told-reply fault read (Ok reply) is h = record { output = no_recording fault; may_be = subst (λ (o : Result Recording RecordingFault). IsByReading o (no_recording fault)) (sym is) refl; is = h }

pub unread-reply : (why : ProofError) (read : Result Recording RecordingFault) (r : Result Reply AllocError) → IsRefused why read → IfOk r (λ reply. IsSomeAnd (fault_told why) (λ fault. IsReply (no_recording fault) reply)) → IfOk r (IsOneReply (IsByReading read))
unread-reply unread.NoMemory read (Err e) is h = tt
unread-reply unread.NoMemory read (Ok reply) is h = absurd h
unread-reply (unread.Frame e) read r is h = told-reply _ read r is h
unread-reply (unread.Head at) read r is h = told-reply _ read r is h
unread-reply (unread.Order place) read r is h = told-reply _ read r is h
unread-reply (unread.Clash digest) read r is h = told-reply _ read r is h

-- ---- a recording

one-reply : (IsOutput : Output → Type 0) (output : Output) (r : Result Reply AllocError) → IsOutput output → IfOk r (IsReply output) → IfOk r (IsOneReply IsOutput)
one-reply IsOutput output (Err e) is h = tt
one-reply IsOutput output (Ok reply) is h = record { output = output; may_be = is; is = h }

-- what a recording is told of the states behind its root
abbrev pub MeetsStates : Proof → (State → Type 0) → Type 0
MeetsStates proof P = (state : State) → IsState state → HoldsPlaces (table_of proof.state.texts) state (touched_places state [] proof.ops.batch.changes) → proof.root.0 ≡ trie.root state → P state

abbrev pub MeetsApart : Proof → (State → Type 0) → Type 0
MeetsApart proof P = (state : State) → IsState state → NoClash (texts_of state ++ proof.state.texts) → proof.root.0 ≡ trie.root state → P state

module _ (proof : Proof) where
  abbrev visits : Visits
  visits = visits_of proof

  passed : (output : Output) → visits.refusal ≡ None → IsClashed (recording_of proof) output ⊎ IsBySpare (recording_of proof) visits.answers (first_spare visits.digests proof.state.texts) output → IsReplay (recording_of proof) output
  passed output e h = subst (λ (o : Option Refusal). IsByRefusal (recording_of proof) visits o output) (sym e) h

  stopped : (why : Refusal) (r : Result Reply AllocError) → visits.refusal ≡ Some why → IfOk r (IsReply (test_failed why)) → IfOk r (IsOneReply (IsReplay (recording_of proof)))
  stopped why r e h = one-reply (IsReplay (recording_of proof)) (test_failed why) r (subst (λ (o : Option Refusal). IsByRefusal (recording_of proof) visits o (test_failed why)) (sym e) refl) h

  pub missing-reply : (digest : Digest) (r : Result Reply AllocError) → AnswersReplay proof (Err (error.Missing digest)) → IfOk r (IsReply (test_failed (missing digest.0))) → IfOk r (IsOneReply (IsReplay (recording_of proof)))
  missing-reply digest r answer h = stopped (missing digest.0) r answer h

  pub bad-reply : (digest : Digest) (r : Result Reply AllocError) → AnswersReplay proof (Err (error.Bad digest)) → IfOk r (IsReply (test_failed (bad digest.0))) → IfOk r (IsOneReply (IsReplay (recording_of proof)))
  bad-reply digest r answer h = stopped (bad digest.0) r answer h

  pub usage-reply : (digest : Digest) (r : Result Reply AllocError) → AnswersReplay proof (Err (error.Usage digest)) → IfOk r (IsReply (test_failed (usage digest.0))) → IfOk r (IsOneReply (IsReplay (recording_of proof)))
  usage-reply digest r answer h = stopped (usage digest.0) r answer h

  pub spare-reply : (place : ℕ) (r : Result Reply AllocError) → AnswersReplay proof (Err (error.Spare place)) → IfOk r (IsReply (refused_place (codes "spare") place)) → IfOk r (IsOneReply (IsReplay (recording_of proof)))
  spare-reply place r answer h =
      one-reply (IsReplay (recording_of proof)) (refused_place (codes "spare") place) r
      (passed (refused_place (codes "spare") place) answer.0 (inr (subst (λ (o : Option ℕ). IsBySpare (recording_of proof) visits.answers o (refused_place (codes "spare") place)) (sym answer.1) refl))) h

  pub clash-reply : (digest : Digest) (one other : List ℕ) (r : Result Reply AllocError) → AnswersReplay proof (Err (error.Clash digest one other)) → MeetsStates proof (λ state. ReplaysState state proof.ops.batch.changes (Err (error.Clash digest one other)))
      → IfOk r (IsReply (clash_at digest.0)) → IfOk r (IsOneReply (IsReplay (recording_of proof)))
  clash-reply digest one other r answer state h = one-reply (IsReplay (recording_of proof)) (clash_at digest.0) r (passed (clash_at digest.0) answer.0 (inl clashed)) h
    where
      clashed : IsClashed (recording_of proof) (clash_at digest.0)
      clashed = record {
        digest = digest.0;
        one = one;
        other = other;
        output_is = refl;
        of_one = answer.1.first;
        of_other = answer.1.second;
        differ = answer.1.differ;
        made = λ m stands. least-clash m proof.ops.batch.changes digest one other (state m stands.is stands.held stands.root);
      }

  module _ (done : Replayed) (r : Result Reply AllocError) (answer : AnswersReplay proof (Ok done)) (root : OnOk r (AreBytes done.root.0 × (length done.root.0 ≡ digest_width))) (state : MeetsStates proof (λ state. ReplaysState state proof.ops.batch.changes (Ok done))) (sound : MeetsApart proof (λ state. IsReplayOf state proof.ops.reads proof.ops.batch.changes done)) (exact : MeetsApart proof (λ state. proof.state.texts ≡ recorded_texts state proof.ops.reads proof.ops.batch.changes)) where
    carried : AreBytes done.root.0 × (length done.root.0 ≡ digest_width) → IsCarriedOut (recording_of proof) visits.answers (replayed done.answers done.root.0)
    carried is = record {
      root = done.root.0;
      output_is = ap (λ (answers : List (Option (List ℕ))). replayed answers done.root.0) answer.1;
      root_is = record { are_bytes = is.0; width = is.1 };
      behind = λ m stands. (state m stands.is stands.held stands.root).0;
      clear = λ m stands. (state m stands.is stands.held stands.root).1;
      tells = λ m of. record {
        texts = exact m of.is of.apart of.root;
        answers_are = sym answer.1 ∙ (sound m of.is of.apart of.root).answers;
        root_is = (sound m of.is of.apart of.root).root;
      };
    }

    pub replayed-reply : IfOk r (IsReply (replayed done.answers done.root.0)) → IfOk r (IsOneReply (IsReplay (recording_of proof)))
    replayed-reply h = go r root h
      where
        go : (q : Result Reply AllocError) → OnOk q (AreBytes done.root.0 × (length done.root.0 ≡ digest_width)) → IfOk q (IsReply (replayed done.answers done.root.0)) → IfOk q (IsOneReply (IsReplay (recording_of proof)))
        go (Err e) is h = tt
        go (Ok reply) is h = record {
          output = replayed done.answers done.root.0;
          may_be = passed (replayed done.answers done.root.0) answer.0 (inr (subst (λ (o : Option ℕ). IsBySpare (recording_of proof) visits.answers o (replayed done.answers done.root.0)) (sym answer.2) (carried is)));
          is = h;
        }
