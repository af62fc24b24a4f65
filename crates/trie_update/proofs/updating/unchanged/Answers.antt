use Rattle.std.proofs.Common.{◌+◌, [], ap, sym, ◌∙◌}
use Rattle.std.proofs.lemmas.Result.{IfOk-weaker}
use Rattle.trie_update.specs.declared.joining.Child.TheVariants.{Kept}
use Rattle.trie_update.specs.Places.{parent_names, place_behind, place_kid}
use Rattle.trie_update.specs.Subs.{kid_of}
use Rattle.trie_update.proofs.PlaceFacts.{behind-place, untouched-kept, untouched-known}
use Rattle.trie_update.proofs.updating.unchanged.Goals as goal

pub returns-in-Path : goal.returns-in-Path
unfolding place_behind
returns-in-Path c =
    record {
      child = IfOk-weaker c.unchanged_old.result _ _ (λ child e. λ table depth.
          ap (λ p. kid_of (parent_names p c.args.nibble) child) c.in-Path.is ∙ e ∙ untouched-known table (depth + 1) c.behind.result
          ∙ ap (λ p. place_kid p []) (behind-place table depth c.in-Path.count c.args.nibble c.in-Path.old c.behind.result c.behind.ensures)
          ∙ sym (ap (λ p. place_kid (place_behind table depth p c.args.nibble) []) c.in-Path.is)) c.unchanged_old.ensures.child;
    }

pub returns-in-Branch : goal.returns-in-Branch
unfolding place_behind
returns-in-Branch c =
    record {
      child = λ table depth.
          ap (λ p. kid_of (parent_names p c.args.nibble) Kept) c.in-Branch.is ∙ untouched-kept table (depth + 1) _
          ∙ sym (ap (λ p. place_kid (place_behind table depth p c.args.nibble) []) c.in-Branch.is);
    }
