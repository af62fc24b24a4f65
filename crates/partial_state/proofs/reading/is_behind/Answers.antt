use Rattle.std.proofs.Common.{refl, sym, ap, ◌∙◌}
use Rattle.std.specs.Ordering.{is_lt, is_some_and}
use Rattle.std.specs.Cmp.Lexicographic.{lists_agrees}
use Rattle.std.specs.Option.{option_copied}
use Rattle.partial_model.specs.Recording.{follows}
use Rattle.partial_state.proofs.reading.is_behind.Goals as goal

pub returns-in-Some : goal.returns-in-Some
returns-in-Some c = c.lt.ensures ∙ ap (is_some_and is_lt) (lists_agrees (λ x y. refl) c.in-Some.earlier.now c.args.key.now) ∙ ap (λ o. follows (option_copied o) c.args.key.now) (sym c.in-Some.is)
