-- What a value and children join to depends on the children at the sixteen nibbles alone.
use Rattle.std.proofs.Common.{◌≡◌, ℕ, ◌+◌, ◌<◌, List, [], ◌∷◌, ◌++◌, Option, None, Some, inl, refl, ◌∙◌, ap, subst}
use Rattle.sha2.specs.Sha256.{sha256}
use Rattle.byte_model.specs.Below.{sum_below, joined_below}
use Rattle.byte_model.specs.Node as node
use Rattle.byte_model.specs.Node.{ValueRef, spelled}
use Rattle.byte_model.proofs.Below.{sum_below-agree, joined_below-agree}
use Rattle.byte_model.proofs.Spellings.{spelled_branch-agree}
use Rattle.trie_model.proofs.Members.{IsIn}
use Rattle.change_model.specs.Visits.{branch_cost}
use Rattle.change_model.proofs.Along.{numbers_below-agree}
use Rattle.update_model.specs.Tops.{lowered, branch}
use Rattle.update_model.specs.Joins.{Kid, is_there, kid_top, kid_name, kid_usage, kid_pending, there, Joint, without_texts, branch_used, branch_text, branched, joint_by, joint}
use Rattle.update_model.specs.Updates.{Outcome, node_outcome, value_made, value_lost, appearing, disappearing}
pub use Rattle.change_model.proofs.Merging.{number_from}

-- ---- records of branches

-- ---- numbers at which a test holds

-- ---- joints

module _ (ref : Option ValueRef) (kids others : ℕ → Kid) (used : ℕ) (same : (x : ℕ) → x < 16 → kids x ≡ others x) where
  branch_used-agree : branch_used ref kids used ≡ branch_used ref others used
  branch_used-agree = ap (λ n. branch_cost ref + (used + n)) (sum_below-agree (λ x. kid_usage (kids x)) (λ x. kid_usage (others x)) 16 (λ x small. ap kid_usage (same x small)))

  branch_text-agree : branch_text ref kids used ≡ branch_text ref others used
  branch_text-agree =
      ap (spelled (node.branch ref (λ x. kid_name (kids x)))) branch_used-agree
      ∙ spelled_branch-agree ref (λ x. kid_name (kids x)) (λ x. kid_name (others x)) (branch_used ref others used) (λ x small. ap kid_name (same x small))

  branched-agree : branched ref kids used ≡ branched ref others used
  branched-agree =
      let text = branch_text-agree in
      let all = branch_used-agree in
      let below : joined_below (λ x. kid_pending (kids x)) 16 ≡ joined_below (λ x. kid_pending (others x)) 16 = joined_below-agree _ _ 16 (λ x small. ap kid_pending (same x small)) in
      λ i. record { top = branch (sha256 (text i)) (all i); made = below i ++ text i ∷ [] }

  pub joint-agree : joint ref kids used ≡ joint ref others used
  unfolding joint
  joint-agree =
      ap (λ (l : List ℕ). joint_by ref l kids used) (numbers_below-agree (λ x. is_there (kids x)) (λ x. is_there (others x)) 16 (λ x small. ap is_there (same x small)))
      ∙ go ref refl (there others) (λ x h. (number_from (λ x. is_there (others x)) 16 x h).0)
    where
      go : (o : Option ValueRef) → ref ≡ o → (l : List ℕ) → ((x : ℕ) → IsIn l x → x < 16) → joint_by o l kids used ≡ joint_by o l others used
      go None e [] small = refl
      go None e (x ∷ []) small = ap (λ k. without_texts (lowered (x ∷ []) (kid_top k))) (same x (small x (inl refl)))
      go None e (x ∷ y ∷ left) small = subst (λ o. branched o kids used ≡ branched o others used) e branched-agree
      go (Some r) e [] small = refl
      go (Some r) e (x ∷ left) small = subst (λ o. branched o kids used ≡ branched o others used) e branched-agree

-- ---- nodes

pub node_outcome-agree : (former : Option ValueRef) (change : Option (Option (List ℕ))) (behind others : ℕ → Outcome) (whole : Joint) (further : List (List ℕ)) → ((x : ℕ) → x < 16 → behind x ≡ others x) → node_outcome former change behind whole further ≡ node_outcome former change others whole further
node_outcome-agree former change behind others whole further same =
    let made : joined_below (λ x. (behind x).made) 16 ≡ joined_below (λ x. (others x).made) 16 = joined_below-agree _ _ 16 (λ x small. ap (λ o. o.made) (same x small)) in
    let lost : joined_below (λ x. (behind x).lost) 16 ≡ joined_below (λ x. (others x).lost) 16 = joined_below-agree _ _ 16 (λ x small. ap (λ o. o.lost) (same x small)) in
    let fresh : sum_below (λ x. (behind x).fresh) 16 ≡ sum_below (λ x. (others x).fresh) 16 = sum_below-agree _ _ 16 (λ x small. ap (λ o. o.fresh) (same x small)) in
    let gone : sum_below (λ x. (behind x).gone) 16 ≡ sum_below (λ x. (others x).gone) 16 = sum_below-agree _ _ 16 (λ x small. ap (λ o. o.gone) (same x small)) in
    λ i. record {
      top = whole.top;
      made = value_made change ++ made i ++ whole.made;
      lost = value_lost former change ++ lost i ++ further;
      fresh = appearing former change + fresh i;
      gone = disappearing former change + gone i;
    }
