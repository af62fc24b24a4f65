use Rattle.std.proofs.Common.{◌≡◌, ℕ, [], ◌∷◌, refl}
use Rattle.change_model.proofs.Worked.{all_of_batches}
use Rattle.fork_model.proofs.Worked.{all_of_forks}
use Rattle.count_model.specs.Loads.{loads}
use Rattle.count_model.proofs.Worked.{batch-told, first-pairs, lookup-told, second-pairs, start-pairs, usage-told}
use Rattle.count_model.proofs.examples.loads_of_one_line.Goals as goal

pub returns-clause-first : goal.returns-clause-first
unfolding all_of_batches all_of_forks loads
returns-clause-first c = batch-told _ _ _ _ start-pairs tt tt refl

pub returns-clause-deleted : goal.returns-clause-deleted
unfolding all_of_batches all_of_forks loads
returns-clause-deleted c = batch-told _ _ _ _ (first-pairs _ tt) tt tt refl

pub returns-clause-known : goal.returns-clause-known
unfolding all_of_forks loads
returns-clause-known c = refl

pub returns-clause-full : goal.returns-clause-full
unfolding all_of_forks loads
returns-clause-full c = refl

pub returns-clause-usages : goal.returns-clause-usages
unfolding all_of_batches all_of_forks loads
returns-clause-usages c = three (usage-told _ _ _ start-pairs refl) (usage-told _ _ _ (first-pairs _ tt) refl) (usage-told _ _ _ (second-pairs _ tt tt) refl)
  where
    three : {a b d x y z : ℕ} → a ≡ x → b ≡ y → d ≡ z → (a ∷ b ∷ d ∷ 0 ∷ []) ≡ (x ∷ y ∷ z ∷ 0 ∷ [])
    three e f g = λ i. e i ∷ f i ∷ g i ∷ 0 ∷ []

pub returns-clause-missing_key : goal.returns-clause-missing_key
unfolding all_of_batches all_of_forks loads
returns-clause-missing_key c = lookup-told _ _ _ _ (second-pairs _ tt tt) refl

pub returns-clause-found_key : goal.returns-clause-found_key
unfolding all_of_batches all_of_forks loads
returns-clause-found_key c = lookup-told _ _ _ _ (second-pairs _ tt tt) refl

pub returns-clause-not_live : goal.returns-clause-not_live
unfolding all_of_forks loads
returns-clause-not_live c = refl

pub returns-clause-others : goal.returns-clause-others
unfolding loads
returns-clause-others c = refl
