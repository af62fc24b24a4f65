-- What becomes of a script, event by event, whatever the command is.
use Rattle.std.proofs.Common.{◌≡◌, ℕ, ◌+◌, ◌≤◌, List, [], ◌++◌, length, Option, Some, None, Ok, Err, IfSome, refl, sym, ap, subst, ◌∙◌, append_assoc, arith}
use Rattle.script_model.specs.Lines as lines
use Rattle.script_model.specs.Lines.{pieces, first_line, first_feed, behind_line}
use Rattle.output_model.specs.Ends.{Output, syntax_at}
use Rattle.output_model.specs.Scripts.{Script, Step, Outcome, goes_on, ends, onward, after_line, after_step, at_last, lines_outcome, script_outcome}
use Rattle.output_model.proofs.FirstLine as lines_of
use Rattle.output_model.proofs.FirstLine.{first_outcome}
use Rattle.script_io.specs.declared.event.Event.{Event}
use Rattle.script_io.specs.LinesStates.{LinesState}
use Rattle.script_io.specs.Meanings.{event}
use Rattle.shard_cmd.specs.declared.events.Stop.TheVariants as stop
use Rattle.shard_cmd.specs.Events.{NextIs, Asks, IsNext}

-- What becomes of a script is what becomes of what is left of it, from the state that the lines so far made, behind the replies to them and their loads.
pub record IsUpTo {S : Type 0} (script : Script S) (left : Option (List ℕ)) (replies : List ℕ) (loads : ℕ) (lines : LinesState) (after : Option (List ℕ)) (state : S) : Type 0 where
  pub told : IfSome left (λ input. (rest : List ℕ) × (after ≡ Some rest) × (script_outcome script input ≡ onward replies loads (lines_outcome script lines.before (lines.lines + 1) state (pieces (lines.pending ++ rest)))))

pub onward-onward : {S : Type 0} (a b : List ℕ) (m n : ℕ) (o : Outcome S) → onward a m (onward b n o) ≡ onward (a ++ b) (m + n) o
onward-onward a b m n o =
    let bytes : a ++ (b ++ o.output.bytes) ≡ a ++ b ++ o.output.bytes = sym (append_assoc a b o.output.bytes) in
    let loads : m + (n + o.loaded) ≡ m + n + o.loaded = omega arith in
    λ i. record { output = record { bytes = bytes i; ending = o.output.ending }; loaded = loads i; left = o.left }

pub onward-none : {S : Type 0} (o : Outcome S) → o ≡ onward [] 0 o
onward-none o = let loads : o.loaded ≡ 0 + o.loaded = omega arith in λ i. record { output = o.output; loaded = loads i; left = o.left }

begun : {S : Type 0} (script : Script S) (left : Option (List ℕ)) → IfSome left (λ input. (rest : List ℕ) × (left ≡ Some rest) × (script_outcome script input ≡ onward [] 0 (lines_outcome script 0 (0 + 1) script.begin (pieces ([] ++ rest)))))
unfolding script_outcome
begun script None = tt
begun script (Some input) = (input, refl, onward-none (lines_outcome script 0 1 script.begin (pieces input)))

pub IsUpTo-begin : {S : Type 0} (script : Script S) (left : Option (List ℕ)) (lines : LinesState) (state : S) → lines ≡ record { pending = []; before = 0; lines = 0; number = 0 } → state ≡ script.begin → IsUpTo script left [] 0 lines left state
IsUpTo-begin script left lines state e f = rw (e, f) (record { told = begun script left })

-- ---- by the next event

asked_outcome : {S : Type 0} (script : Script S) (old new : LinesState) (state : S) (rest : List ℕ) (after : Option (List ℕ)) (asked : lines.Event) → Asks (old.pending ++ rest) old new after asked → new.lines ≡ old.lines + 1
    → lines_outcome script old.before (old.lines + 1) state (pieces (old.pending ++ rest))
    ≡ after_line script (old.lines + 1) (Some asked) state (λ s. lines_outcome script new.before (new.lines + 1) s (pieces (behind_line (old.pending ++ rest))))
asked_outcome script old new state rest after asked a n =
    first_outcome script old.before (old.lines + 1) state (old.pending ++ rest) a.some
    ∙ ap (λ o. after_line script (old.lines + 1) o state (λ s. lines_outcome script (old.before + length (first_line (old.pending ++ rest)) + first_feed (old.pending ++ rest)) (old.lines + 1 + 1) s (pieces (behind_line (old.pending ++ rest))))) a.asked_is
    ∙ ap (λ b. after_line script (old.lines + 1) (Some asked) state (λ s. lines_outcome script b (old.lines + 1 + 1) s (pieces (behind_line (old.pending ++ rest))))) (sym a.before)
    ∙ ap (λ k. after_line script (old.lines + 1) (Some asked) state (λ s. lines_outcome script new.before (k + 1) s (pieces (behind_line (old.pending ++ rest))))) (sym n)

asks_of : (after new_after : Option (List ℕ)) (old new : LinesState) (found : Event) → IfSome after (λ left. NextIs (old.pending ++ left) old new new_after (Ok (Some found))) → IfSome after (λ left. Asks (old.pending ++ left) old new new_after (event found))
asks_of None new_after old new found h = tt
asks_of (Some left) new_after old new found h = h

asks_at : (after new_after : Option (List ℕ)) (old new : LinesState) (found : Event) (rest : List ℕ) → after ≡ Some rest → IfSome after (λ left. NextIs (old.pending ++ left) old new new_after (Ok (Some found))) → Asks (old.pending ++ rest) old new new_after (event found)
asks_at after new_after old new found rest e h = subst (λ (o : Option (List ℕ)). IfSome o (λ rest. Asks (old.pending ++ rest) old new new_after (event found))) e (asks_of after new_after old new found h)

-- the script goes on behind a line
told_next : {S : Type 0} (script : Script S) (left after new_after : Option (List ℕ)) (replies reply : List ℕ) (loads : ℕ) (old new : LinesState) (state next : S) (found : Event) → new.lines ≡ old.lines + 1 → script.step (old.lines + 1) state (event found) ≡ goes_on reply next
    → IfSome left (λ input. (rest : List ℕ) × (after ≡ Some rest) × (script_outcome script input ≡ onward replies loads (lines_outcome script old.before (old.lines + 1) state (pieces (old.pending ++ rest)))))
    → IfSome after (λ left. NextIs (old.pending ++ left) old new new_after (Ok (Some found)))
    → IfSome left (λ input. (rest : List ℕ) × (new_after ≡ Some rest) × (script_outcome script input ≡ onward (replies ++ reply) (loads + script.step_loads state (event found)) (lines_outcome script new.before (new.lines + 1) next (pieces (new.pending ++ rest)))))
told_next script None after new_after replies reply loads old new state next found n step told h = tt
told_next {S} script (Some input) after new_after replies reply loads old new state next found n step told h =
    let asks = asks_at after new_after old new found told.0 told.1 h in
    let cost : ℕ = script.step_loads state (event found) in
    let others : S → Outcome S = λ s. lines_outcome script new.before (new.lines + 1) s (pieces (behind_line (old.pending ++ told.0))) in (
      asks.behind.0,
      asks.behind.1,
      told.2 ∙ ap (λ (o : Outcome S). onward replies loads o) (asked_outcome script old new state told.0 new_after (event found) asks n ∙ ap (λ (s : Step S). after_step s cost state others) step)
          ∙ ap (λ (bytes : List ℕ). onward replies loads (onward reply cost (lines_outcome script new.before (new.lines + 1) next (pieces bytes)))) (sym asks.behind.2)
          ∙ onward-onward replies reply loads cost _,
    )

pub IsUpTo-next : {S : Type 0} (script : Script S) (left after new_after : Option (List ℕ)) (replies reply : List ℕ) (loads : ℕ) (old new : LinesState) (state next : S) (found : Event) → IsNext old new
    → IfSome after (λ left. NextIs (old.pending ++ left) old new new_after (Ok (Some found))) → script.step (old.lines + 1) state (event found) ≡ goes_on reply next
    → IsUpTo script left replies loads old after state → IsUpTo script left (replies ++ reply) (loads + script.step_loads state (event found)) new new_after next
IsUpTo-next script left after new_after replies reply loads old new state next found n h step u = record { told = told_next script left after new_after replies reply loads old new state next found n.lines step u.told h }

-- ---- the end of a script

module _ {S : Type 0} (script : Script S) (left after new_after : Option (List ℕ)) (replies : List ℕ) (loads : ℕ) (old new : LinesState) (state : S) (u : IsUpTo script left replies loads old after state) where
  -- behind the last line
  pub ends_whole : IfSome after (λ left. NextIs (old.pending ++ left) old new new_after (Ok None)) → IfSome left (λ input. script_outcome script input ≡ onward replies loads (at_last script (old.lines + 1) state))
  ends_whole h = by_left left u.told
    where
      by_left : (left : Option (List ℕ)) → IfSome left (λ input. (rest : List ℕ) × (after ≡ Some rest) × (script_outcome script input ≡ onward replies loads (lines_outcome script old.before (old.lines + 1) state (pieces (old.pending ++ rest)))))
          → IfSome left (λ input. script_outcome script input ≡ onward replies loads (at_last script (old.lines + 1) state))
      by_left None told = tt
      by_left (Some input) told =
          let none : old.pending ++ told.0 ≡ [] = (subst (λ (o : Option (List ℕ)). IfSome o (λ left. NextIs (old.pending ++ left) old new new_after (Ok None))) told.1 h).0 in
          told.2 ∙ ap (λ (bytes : List ℕ). onward replies loads (lines_outcome script old.before (old.lines + 1) state (pieces bytes))) none ∙ ap (λ (o : Outcome S). onward replies loads o) (lines_of.end_outcome script old.before (old.lines + 1) state)

  pub nothing_left : IfSome after (λ left. NextIs (old.pending ++ left) old new new_after (Ok None)) → IfSome left (λ _. new_after ≡ Some [])
  nothing_left h = by_left left u.told
    where
      by_left : (left : Option (List ℕ)) → IfSome left (λ input. (rest : List ℕ) × (after ≡ Some rest) × (script_outcome script input ≡ onward replies loads (lines_outcome script old.before (old.lines + 1) state (pieces (old.pending ++ rest))))) → IfSome left (λ _. new_after ≡ Some [])
      by_left None told = tt
      by_left (Some input) told = (subst (λ (o : Option (List ℕ)). IfSome o (λ left. NextIs (old.pending ++ left) old new new_after (Ok None))) told.1 h).1

  -- at a line that is none of a script
  pub ends_unread : IfSome after (λ left. NextIs (old.pending ++ left) old new new_after (Err stop.Syntax)) → IfSome left (λ input. script_outcome script input ≡ onward replies loads (record { output = syntax_at (old.lines + 1); loaded = 0; left = state }))
  ends_unread h = by_left left u.told
    where
      by_left : (left : Option (List ℕ)) → IfSome left (λ input. (rest : List ℕ) × (after ≡ Some rest) × (script_outcome script input ≡ onward replies loads (lines_outcome script old.before (old.lines + 1) state (pieces (old.pending ++ rest)))))
          → IfSome left (λ input. script_outcome script input ≡ onward replies loads (record { output = syntax_at (old.lines + 1); loaded = 0; left = state }))
      by_left None told = tt
      by_left (Some input) told =
          let bad = subst (λ (o : Option (List ℕ)). IfSome o (λ left. NextIs (old.pending ++ left) old new new_after (Err stop.Syntax))) told.1 h in
          let others : S → Outcome S = λ s. lines_outcome script (old.before + length (first_line (old.pending ++ told.0)) + first_feed (old.pending ++ told.0)) (old.lines + 1 + 1) s (pieces (behind_line (old.pending ++ told.0))) in
          told.2 ∙ ap (λ (o : Outcome S). onward replies loads o) (first_outcome script old.before (old.lines + 1) state (old.pending ++ told.0) bad.0 ∙ ap (λ o. after_line script (old.lines + 1) o state others) bad.1)

  -- somewhere
  pub ends_early : IfSome left (λ input. (last : Outcome S) × (script_outcome script input ≡ onward replies loads last))
  ends_early = by_left left u.told
    where
      by_left : (left : Option (List ℕ)) → IfSome left (λ input. (rest : List ℕ) × (after ≡ Some rest) × (script_outcome script input ≡ onward replies loads (lines_outcome script old.before (old.lines + 1) state (pieces (old.pending ++ rest)))))
          → IfSome left (λ input. (last : Outcome S) × (script_outcome script input ≡ onward replies loads last))
      by_left None told = tt
      by_left (Some input) told = (_, told.2)

  module _ (found : Event) (n : IsNext old new) (h : IfSome after (λ left. NextIs (old.pending ++ left) old new new_after (Ok (Some found)))) where
    abbrev cost : ℕ
    cost = script.step_loads state (event found)

    -- at what a line asks for, by what the event comes to
    at_event : IfSome left (λ input. (others : S → Outcome S) × (script_outcome script input ≡ onward replies loads (after_step (script.step (old.lines + 1) state (event found)) cost state others)))
    at_event = by_left left u.told
      where
        by_left : (left : Option (List ℕ)) → IfSome left (λ input. (rest : List ℕ) × (after ≡ Some rest) × (script_outcome script input ≡ onward replies loads (lines_outcome script old.before (old.lines + 1) state (pieces (old.pending ++ rest)))))
            → IfSome left (λ input. (others : S → Outcome S) × (script_outcome script input ≡ onward replies loads (after_step (script.step (old.lines + 1) state (event found)) cost state others)))
        by_left None told = tt
        by_left (Some input) told =
            let asks = asks_at after new_after old new found told.0 told.1 h in
            ((λ s. lines_outcome script new.before (new.lines + 1) s (pieces (behind_line (old.pending ++ told.0)))), told.2 ∙ ap (λ (o : Outcome S). onward replies loads o) (asked_outcome script old new state told.0 new_after (event found) asks n.lines))

    -- the script ends there
    pub ends_asked : (output : Output) → script.step (old.lines + 1) state (event found) ≡ ends output → IfSome left (λ input. script_outcome script input ≡ onward replies loads (record { output = output; loaded = cost; left = state }))
    ends_asked output step = by_left left at_event
      where
        by_left : (left : Option (List ℕ)) → IfSome left (λ input. (others : S → Outcome S) × (script_outcome script input ≡ onward replies loads (after_step (script.step (old.lines + 1) state (event found)) cost state others)))
            → IfSome left (λ input. script_outcome script input ≡ onward replies loads (record { output = output; loaded = cost; left = state }))
        by_left None told = tt
        by_left (Some input) told = told.1 ∙ ap (λ (s : Step S). onward replies loads (after_step s cost state told.0)) step

    step_cost : (step : Step S) (others : S → Outcome S) → cost ≤ (after_step step cost state others).loaded
    step_cost (goes_on reply next) others = omega arith
    step_cost (ends output) others = omega arith

    -- or it is not known how it goes on, and the event's loads are among those to come
    pub ends_within : IfSome left (λ input. (last : Outcome S) × (script_outcome script input ≡ onward replies loads last) × (cost ≤ last.loaded))
    ends_within = by_left left at_event
      where
        by_left : (left : Option (List ℕ)) → IfSome left (λ input. (others : S → Outcome S) × (script_outcome script input ≡ onward replies loads (after_step (script.step (old.lines + 1) state (event found)) cost state others)))
            → IfSome left (λ input. (last : Outcome S) × (script_outcome script input ≡ onward replies loads last) × (cost ≤ last.loaded))
        by_left None told = tt
        by_left (Some input) told = (_, told.1, step_cost (script.step (old.lines + 1) state (event found)) told.0)
