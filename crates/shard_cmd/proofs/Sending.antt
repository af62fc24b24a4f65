-- Replies that are gathered, and what was written of them.
use Rattle.std.proofs.Common.{◌≡◌, ℕ, ◌+◌, ◌≤◌, List, [], ◌++◌, Option, Some, None, IfSome, sym, ap, subst, ◌∙◌, append_assoc, append-nil, arith}
use Rattle.base_core.specs.Faults.{risen}
use Rattle.output_model.specs.Scripts.{Outcome, onward}
use Rattle.script_io.specs.Streams.{AppendsPrefix}
use Rattle.shard_cmd.specs.Sending.{Sends, Reaches, Loads, IsWithin, Stops, Fails}

pub Sends-begin : (before : Option (List ℕ)) (kept : List ℕ) → kept ≡ [] → Sends before before [] kept
Sends-begin None kept e = tt
Sends-begin (Some b) kept e = ([], ap Some (sym (append-nil b)), sym e)

-- one reply more
pub Sends-more : (before after : Option (List ℕ)) (bytes kept reply more : List ℕ) → more ≡ kept ++ reply → Sends before after bytes kept → Sends before after (bytes ++ reply) more
Sends-more None after bytes kept reply more e s = tt
Sends-more (Some b) after bytes kept reply more e s = (s.0, s.1, ap (λ (l : List ℕ). l ++ reply) s.2 ∙ append_assoc s.0 kept reply ∙ ap (λ (l : List ℕ). s.0 ++ l) (sym e))

-- some of what was kept is written
pub Sends-then : (before mid after : Option (List ℕ)) (bytes kept rest : List ℕ) → Sends before mid bytes kept → Sends mid after kept rest → Sends before after bytes rest
Sends-then None mid after bytes kept rest s t = tt
Sends-then (Some b) mid after bytes kept rest s t =
    let then = subst (λ (o : Option (List ℕ)). Sends o after kept rest) s.1 t in
    (s.0 ++ then.0, then.1 ∙ ap Some (append_assoc b s.0 then.0), s.2 ∙ ap (λ (l : List ℕ). s.0 ++ l) then.2 ∙ sym (append_assoc s.0 then.0 rest))

-- writing what was kept fails
pub Sends-fails : (before mid after : Option (List ℕ)) (bytes kept : List ℕ) → Sends before mid bytes kept → IfSome mid (λ b. AppendsPrefix b after kept) → IfSome before (λ b. AppendsPrefix b after bytes)
Sends-fails None mid after bytes kept s p = tt
Sends-fails (Some b) mid after bytes kept s p =
    let then = subst (λ (o : Option (List ℕ)). IfSome o (λ b. AppendsPrefix b after kept)) s.1 p in
    record {
      prefix = s.0 ++ then.prefix;
      rest = then.rest;
      parts = s.2 ∙ ap (λ (l : List ℕ). s.0 ++ l) then.parts ∙ sym (append_assoc s.0 then.prefix then.rest);
      told = then.told ∙ ap Some (append_assoc b s.0 then.prefix);
    }

-- no more is written
pub Sends-stops : (before after : Option (List ℕ)) (bytes kept : List ℕ) → Sends before after bytes kept → IfSome before (λ b. AppendsPrefix b after bytes)
Sends-stops None after bytes kept s = tt
Sends-stops (Some b) after bytes kept s = record { prefix = s.0; rest = kept; parts = s.2; told = s.1 }

-- ---- of an outcome that is that of a last step, behind replies and loads

-- loads one after the other
pub risen-risen : (before m n : ℕ) → risen (risen before m) n ≡ risen before (m + n)
risen-risen before m n = omega arith

module _ {S : Type 0} (outcome last : Outcome S) (replies : List ℕ) (loaded : ℕ) (is : outcome ≡ onward replies loaded last) (before after : Option (List ℕ)) (kept : List ℕ) (sends : Sends before after replies kept) (counts : Loads) where
  pub reaches : counts.now ≡ risen counts.before loaded → Reaches outcome last before after kept counts
  reaches e = record { replies = replies; loaded = loaded; outcome_is = is; sends = sends; counted = e }

  all_loads : outcome.loaded ≡ loaded + last.loaded
  all_loads = ap (λ (o : Outcome S). o.loaded) is

  -- the loads so far, and some of those of the last step
  pub within : (cost : ℕ) → cost ≤ last.loaded → counts.before ≤ counts.now → counts.now ≤ risen counts.before (loaded + cost) → IsWithin outcome counts
  within cost few least most =
      let all : outcome.loaded ≡ loaded + last.loaded = all_loads in
      record { least = least; most = omega (arith, few, most, all) }

  pub stops : IsWithin outcome counts → Stops outcome before after kept counts
  stops within = record { replies = replies; last = last.output; bytes = ap (λ (o : Outcome S). o.output.bytes) is; sends = sends; within = within }

  -- no more is written
  pub fails : IsWithin outcome counts → Fails outcome before after counts
  fails within = record { written = by_before before sends; within = within }
    where
      by_before : (before : Option (List ℕ)) → Sends before after replies kept → IfSome before (λ b. AppendsPrefix b after outcome.output.bytes)
      by_before None s = tt
      by_before (Some b) s = record {
        prefix = s.0;
        rest = kept ++ last.output.bytes;
        parts = ap (λ (o : Outcome S). o.output.bytes) is ∙ ap (λ (l : List ℕ). l ++ last.output.bytes) s.2 ∙ append_assoc s.0 kept last.output.bytes;
        told = s.1;
      }

module _ {S : Type 0} (outcome last : Outcome S) (replies : List ℕ) (loaded : ℕ) (is : outcome ≡ onward replies loaded last) (before after : Option (List ℕ)) (counts : Loads) where
  -- replies that were due could not be written
  pub fails_unsent : IfSome before (λ b. AppendsPrefix b after replies) → IsWithin outcome counts → Fails outcome before after counts
  fails_unsent prefix within = record { written = by_before before prefix; within = within }
    where
      by_before : (before : Option (List ℕ)) → IfSome before (λ b. AppendsPrefix b after replies) → IfSome before (λ b. AppendsPrefix b after outcome.output.bytes)
      by_before None p = tt
      by_before (Some b) p = record {
        prefix = p.prefix;
        rest = p.rest ++ last.output.bytes;
        parts = ap (λ (o : Outcome S). o.output.bytes) is ∙ ap (λ (l : List ℕ). l ++ last.output.bytes) p.parts ∙ append_assoc p.prefix p.rest last.output.bytes;
        told = p.told;
      }
