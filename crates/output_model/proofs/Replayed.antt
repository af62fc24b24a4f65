-- What a recording is told of a state by its output, and that other commands have one.
use Rattle.std.proofs.Common.{◌≡◌, ◌≢◌, ℕ, List, map, Option, None, Some, inl, inr, refl, sym, ap, ap₂, ◌∙◌}
use Rattle.std.specs.FinMap.{get}
use Rattle.trie_model.specs.State.{State}
use Rattle.trie_model.specs.Root as trie
use Rattle.batch_model.specs.Changes.{after}
use Rattle.partial_model.specs.Recording.{Recording}
use Rattle.recording_model.specs.Recorded.{recorded_texts}
use Rattle.recording_model.specs.Replays.{Refusal, missing, bad, usage, first_spare}
use Rattle.script_model.specs.Words.{Command, root, apply, get as get_words, prove, replay, command_of}
use Rattle.output_model.specs.Ends.{Output, RunLimits, done}
use Rattle.output_model.specs.Output.{IsOutputOf, command_outcome, outcome_of}
use Rattle.output_model.specs.Replay.{IsByRefusal, IsBySpare, IsCarriedOut, IsOfState, IsReplay, replayed, test_failed, visits_in}

pub one-output : (limits : RunLimits) (words : List (List ℕ)) (input : List ℕ) (one other : Output) → command_of words ≢ Some replay → IsOutputOf limits words input one → IsOutputOf limits words input other → one ≡ other
unfolding outcome_of
one-output limits words input one other = go (command_of words)
  where
    go : (c : Option Command) → c ≢ Some replay → (command_outcome limits c input).IsOutput one → (command_outcome limits c input).IsOutput other → one ≡ other
    go None n a b = a ∙ sym b
    go (Some root) n a b = a ∙ sym b
    go (Some apply) n a b = a ∙ sym b
    go (Some (get_words id key)) n a b = a ∙ sym b
    go (Some (prove id ops)) n a b = a ∙ sym b
    go (Some replay) n a b = absurd (n refl)

-- a run that is done was not refused
not-failed : (why : Refusal) (output : Output) → output ≡ test_failed why → output.ending ≡ done → ⊥
not-failed (missing digest) output e d = let f = sym d ∙ ap (λ (o : Output). o.ending) e in absurd (cc f)
not-failed (bad digest) output e d = let f = sym d ∙ ap (λ (o : Output). o.ending) e in absurd (cc f)
not-failed (usage digest) output e d = let f = sym d ∙ ap (λ (o : Output). o.ending) e in absurd (cc f)

carried-of : (recording : Recording) (output : Output) → IsReplay recording output → output.ending ≡ done → IsCarriedOut recording (visits_in recording).answers output
carried-of recording output is d = go (visits_in recording).refusal is
  where
    spare : (o : Option ℕ) → IsBySpare recording (visits_in recording).answers o output → IsCarriedOut recording (visits_in recording).answers output
    spare None h = h
    spare (Some place) e = let f = sym d ∙ ap (λ (o : Output). o.ending) e in absurd (cc f)

    go : (o : Option Refusal) → IsByRefusal recording (visits_in recording) o output → IsCarriedOut recording (visits_in recording).answers output
    go (Some why) e = absurd (not-failed why output e d)
    go None (inl clashed) = let f = sym d ∙ ap (λ (o : Output). o.ending) clashed.output_is in absurd (cc f)
    go None (inr h) = spare (first_spare (visits_in recording).digests recording.state) h

pub told-texts : (recording : Recording) (state : State) (output : Output) → IsReplay recording output → output.ending ≡ done → IsOfState recording state → recording.state ≡ recorded_texts state recording.reads recording.changes
told-texts recording state output is d of = ((carried-of recording output is d).tells state of).texts

pub told-output : (recording : Recording) (state : State) (output : Output) → IsReplay recording output → output.ending ≡ done → IsOfState recording state → output ≡ replayed (map (get state) recording.reads) (trie.root (after state recording.changes))
told-output recording state output is d of =
    let carried = carried-of recording output is d in
    let told = carried.tells state of in
    carried.output_is ∙ ap₂ replayed told.answers_are told.root_is
