-- The lines of a script of pairs, by what `root` makes of them.
use Rattle.std.proofs.Common.{◌≡◌, ℕ, ◌+◌, Bool, true, false, List, [], ◌++◌, Option, Some, None, Err, IfSome, IfOk, refl, sym, ap}
use Rattle.std.specs.Prelude.{if◌then◌else◌}
use Rattle.script_model.specs.Lines as lines
use Rattle.trie_model.specs.State.{State}
use Rattle.output_model.specs.Ends.{RunLimits, syntax_at}
use Rattle.output_model.specs.Scripts.{Outcome, goes_on, ends, onward, script_outcome}
use Rattle.output_model.specs.Root.{root_step, root_script, root_output}
use Rattle.base_core.specs.PairMaps.{PairMap}
use Rattle.script_io.specs.LinesStates.{LinesState}
use Rattle.shard_cmd.specs.declared.events.Stop.{Stop}
use Rattle.shard_cmd.specs.declared.events.Stop.TheVariants as stop
use Rattle.shard_cmd.specs.declared.root.End.{End}
use Rattle.shard_cmd.specs.declared.root.End.TheVariants as end
use Rattle.shard_cmd.specs.Events.{end_output, stopped_at, NextIs, is_full, Lays}
use Rattle.shard_cmd.proofs.Scripts.{IsUpTo, ends_unread}

-- the pair had room, or it had none
had_room : (b : Bool) → (if b then Some end.Full else None) ≡ None → b ≡ false
had_room true e = absurd (cc e)
had_room false e = refl

had_none : (b : Bool) (found : End) → (if b then Some end.Full else None) ≡ Some found → (b ≡ true) × (found ≡ end.Full)
had_none true found e = (refl, cc)
had_none false found e = absurd (cc e)

-- the event was done
pub laid_step : (limits : RunLimits) (held next : PairMap) (number : ℕ) (asked : lines.Event) → limits.pairs ≡ held.most → Lays number held next asked None → root_step limits number held.state asked ≡ goes_on [] next.state
laid_step limits held next number lines.nothing same l = ap (λ (h : PairMap). goes_on [] h.state) (sym l.1)
laid_step limits held next number (lines.set key value) same l = rw (same, had_room (is_full held key) l.0) (ap (λ (h : PairMap). goes_on [] h.state) (sym l.1))
laid_step limits held next number (lines.block id prev height) same l = absurd (cc l.0)
laid_step limits held next number (lines.delete key) same l = absurd (cc l.0)
laid_step limits held next number lines.block_end same l = absurd (cc l.0)
laid_step limits held next number (lines.head id) same l = absurd (cc l.0)
laid_step limits held next number (lines.flat id key) same l = absurd (cc l.0)
laid_step limits held next number (lines.trie id key) same l = absurd (cc l.0)
laid_step limits held next number (lines.same a b) same l = absurd (cc l.0)
laid_step limits held next number (lines.usage id) same l = absurd (cc l.0)
laid_step limits held next number lines.stats same l = absurd (cc l.0)

-- the script ends at a line that is read
pub line_ends : (found : End) (limits : RunLimits) (held next : PairMap) (number : ℕ) (asked : lines.Event) → limits.pairs ≡ held.most → Lays number held next asked (Some found) → root_step limits number held.state asked ≡ ends (end_output found next.state)
line_ends found limits held next number lines.nothing same l = absurd (cc l.0)
line_ends found limits held next number (lines.set key value) same l = let full = had_none (is_full held key) found l.0 in rw (same, full.0, full.1) refl
line_ends found limits held next number (lines.block id prev height) same l = let is : end.Syntax number ≡ found = cc l.0 in rw (← is) refl
line_ends found limits held next number (lines.delete key) same l = let is : end.Syntax number ≡ found = cc l.0 in rw (← is) refl
line_ends found limits held next number lines.block_end same l = let is : end.Syntax number ≡ found = cc l.0 in rw (← is) refl
line_ends found limits held next number (lines.head id) same l = let is : end.Syntax number ≡ found = cc l.0 in rw (← is) refl
line_ends found limits held next number (lines.flat id key) same l = let is : end.Syntax number ≡ found = cc l.0 in rw (← is) refl
line_ends found limits held next number (lines.trie id key) same l = let is : end.Syntax number ≡ found = cc l.0 in rw (← is) refl
line_ends found limits held next number (lines.same a b) same l = let is : end.Syntax number ≡ found = cc l.0 in rw (← is) refl
line_ends found limits held next number (lines.usage id) same l = let is : end.Syntax number ≡ found = cc l.0 in rw (← is) refl
line_ends found limits held next number lines.stats same l = let is : end.Syntax number ≡ found = cc l.0 in rw (← is) refl

-- with its loads and its state forgotten
pub told_output : (limits : RunLimits) (left : Option (List ℕ)) (last : Outcome State) → IfSome left (λ input. script_outcome (root_script limits) input ≡ onward [] 0 last) → IfSome left (λ input. root_output limits input ≡ last.output)
told_output limits None last h = tt
told_output limits (Some input) last h = ap (λ (o : Outcome State). o.output) h

-- the script stops at a line
pub ends_stopped : (left after new_after : Option (List ℕ)) (number : ℕ) (old new : LinesState) (state : State) (limits : RunLimits) (why : Stop) → number ≡ old.lines + 1 → IsUpTo (root_script limits) left [] 0 old after state
    → IfSome after (λ left. NextIs (old.pending ++ left) old new new_after (Err why)) → IfSome left (λ input. IfOk (stopped_at why number) (λ end. root_output limits input ≡ end_output end state))
ends_stopped None after new_after number old new state limits why n u h = tt
ends_stopped (Some input) after new_after number old new state limits stop.Syntax n u h = rw n (told_output limits (Some input) (record { output = syntax_at (old.lines + 1); loaded = 0; left = state }) (ends_unread (root_script limits) (Some input) after new_after [] 0 old new state u h))
ends_stopped (Some input) after new_after number old new state limits stop.ReadFault n u h = tt
ends_stopped (Some input) after new_after number old new state limits stop.NoMemory n u h = tt
