use Rattle.trie_model.specs.Root.{root}
use Rattle.trie_model.proofs.Members.{contains_of_in, in_of_contains}
use Rattle.recording_model.specs.Replays.{replay_visits}
use Rattle.recording_model.proofs.Exact.{exact-texts}
use Rattle.recording_model.proofs.Used.{all-used}
use Rattle.recording_model.proofs.laws.replays_are_exact.Goals as goal

pub returns : goal.returns
returns c = λ table state reads changes texts is bytes are apart agrees passed of spare.
    exact-texts table state reads changes is bytes are apart agrees passed texts of.rise
    (λ digest text e. in_of_contains texts text (of.only digest text e))
    (λ text i. of.held text (contains_of_in texts text i))
    (all-used (replay_visits table (root state) reads changes).digests texts spare)
