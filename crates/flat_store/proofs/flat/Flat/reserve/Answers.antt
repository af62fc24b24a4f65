use Rattle.std.proofs.Common.{◌≤◌, length, None, ap, subst, sym, ◌∙◌, rules}
use Rattle.base_core.specs.Bounds.{most_blocks}
use Rattle.flat_store.specs.Flats.{Deltas, FlatState}
use Rattle.flat_store.specs.Kept.{AreListed}
use Rattle.flat_store.proofs.Follows.{flat-same}
use Rattle.flat_store.proofs.Tables.{deltas-same}
use Rattle.flat_store.proofs.flat.Flat.reserve.Goals as goal

pub invariant_of-self-2 : goal.invariant_of-self-2
invariant_of-self-2 c =
    let few : length c.reserve.new.self.entries ≤ most_blocks = search rules in
    record {
      pairs = c.self.invariant.pairs;
      few = few;
      listed = subst (λ (deltas : Deltas). AreListed None deltas c.settle.new.lists.entries) (sym (deltas-same _ _ (λ q. c.reserve.ensures.entries.2 (record { 0 = q })))) (c.in_ok-settle.ensures.ok c.self.invariant.listed);
    }

pub returns-clause-deltas : goal.returns-clause-deltas
returns-clause-deltas c = deltas-same _ _ (λ q. c.reserve.ensures.entries.2 (record { 0 = q })) ∙ ap (λ (s : FlatState). s.deltas) c.self.view_is

pub returns-clause-state : goal.returns-clause-state
returns-clause-state c = λ blocks is.
    flat-same blocks _ _ is (ap (λ (s : FlatState). s.head) c.self.view_is) (deltas-same _ _ (λ q. c.reserve.ensures.entries.2 (record { 0 = q })) ∙ ap (λ (s : FlatState). s.deltas) c.self.view_is)
