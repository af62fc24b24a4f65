use Rattle.std.proofs.Common.{◌≡◌, [], length, None, refl, ◌∙◌, ap, ap₂, arith}
use Rattle.std.specs.FinMap.{len, len-entries}
use Rattle.sha2.specs.Sha256.{sha256}
use Rattle.batch_model.specs.Changes.{after}
use Rattle.change_model.proofs.Worked.{all_of_batches}
use Rattle.partial_model.specs.Texts.{lesser}
use Rattle.fork_model.specs.States.{first_fork}
use Rattle.fork_model.specs.Examples.{header_of, many}
use Rattle.fork_model.proofs.Worked.{all_of_forks}
use Rattle.count_model.specs.BlockEnds.{block_end}
use Rattle.count_model.specs.Clashes.{clash_with, clash_within, least_name, live_clash, made_clash}
use Rattle.count_model.specs.Examples.{set_two}
use Rattle.count_model.proofs.Ends.{end-accepted, end-full}
use Rattle.count_model.proofs.Told.{live-start}
use Rattle.count_model.proofs.Worked.{first-pairs, made-pairs, no_pairs, start-pairs}
use Rattle.count_model.proofs.examples.ends_of_blocks.Goals as goal

two_pairs : len (after no_pairs set_two) ≡ 2
unfolding all_of_batches
two_pairs = len-entries (after no_pairs set_two) ∙ ap length (first-pairs _ tt)

alone : made_clash no_pairs set_two ≡ None
unfolding all_of_batches lesser least_name clash_within
alone = ap (clash_within sha256) (made-pairs no_pairs [] _ start-pairs tt tt) ∙ refl

apart : live_clash first_fork no_pairs set_two ≡ None
unfolding all_of_batches lesser least_name clash_with
apart = ap₂ (clash_with sha256) live-start (made-pairs no_pairs [] _ start-pairs tt tt) ∙ refl

pub returns-clause-taken : goal.returns-clause-taken
unfolding all_of_forks
returns-clause-taken c = end-accepted 2 many first_fork (header_of 1 0 1) set_two no_pairs refl refl alone (omega (arith, two_pairs)) apart

pub returns-clause-pairs : goal.returns-clause-pairs
unfolding all_of_forks
returns-clause-pairs c = end-full 1 many first_fork (header_of 1 0 1) set_two no_pairs refl refl alone (omega (arith, two_pairs))

pub returns-clause-height : goal.returns-clause-height
unfolding all_of_forks block_end
returns-clause-height c = refl

pub returns-clause-blocks : goal.returns-clause-blocks
unfolding all_of_forks block_end
returns-clause-blocks c = refl
