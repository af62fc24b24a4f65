-- What a batch of changes makes of a trie, as far as it can be seen: the new top, the texts that are made and the digests whose texts are taken out, one entry for each occurrence. It is told along the changed paths and reads nothing but what a batch visits.
use Rattle.std.specs.Prelude.{ℕ, zero, suc, ◌+◌, ◌-◌, ◌==◌, max, List, [], ◌∷◌, ◌++◌, length, Option, None, Some, if◌then◌else◌}
use Rattle.byte_model.specs.Below.{sum_below, joined_below}
use Rattle.byte_model.specs.Node.{ValueRef}
use Rattle.trie_model.specs.Texts.{value_ref}
use Rattle.visit_model.specs.Seen as seen
use Rattle.visit_model.specs.Seen.{Seen, stated_usage}
use Rattle.batch_model.specs.Changes.{Change}
use Rattle.change_model.specs.Along.{digest_of}
use Rattle.change_model.specs.Visits.{changes_behind, change_at, merged_child, merge_usage, if_touched, branch_cost, extension_cost}
use Rattle.update_model.specs.Tops.{Top, empty, leaf, branch, extension, top_behind, ref_here}
use Rattle.update_model.specs.Joins.{Kid, named, known, Joint, joint}

pub record Outcome : Type 0 where
  pub top : Top
  pub made : List (List ℕ)
  pub lost : List (List ℕ)
  pub fresh : ℕ
  pub gone : ℕ

abbrev pub unchanged : Top → Outcome
unchanged top = record { top = top; made = []; lost = []; fresh = 0; gone = 0 }

-- with one more text taken out, the first
abbrev pub losing : List ℕ → Outcome → Outcome
losing digest outcome = record { top = outcome.top; made = outcome.made; lost = digest ∷ outcome.lost; fresh = outcome.fresh; gone = outcome.gone }

-- ---- the value of a key

-- by what it was, and what the change makes of it, if there is one
abbrev pub ref_after : Option ValueRef → Option (Option (List ℕ)) → Option ValueRef
ref_after former None = former
ref_after former (Some None) = None
ref_after former (Some (Some value)) = Some (value_ref value)

-- the text that is made
abbrev pub value_made : Option (Option (List ℕ)) → List (List ℕ)
value_made None = []
value_made (Some None) = []
value_made (Some (Some value)) = value ∷ []

-- the digest of the text that is taken out
abbrev pub value_lost : Option ValueRef → Option (Option (List ℕ)) → List (List ℕ)
value_lost former None = []
value_lost None (Some change) = []
value_lost (Some ref) (Some change) = ref.digest ∷ []

-- whether the key appears, and whether it disappears, as a number
abbrev pub appearing : {X : Type 0} → Option X → Option (Option (List ℕ)) → ℕ
appearing former None = 0
appearing former (Some None) = 0
appearing None (Some (Some value)) = 1
appearing (Some held) (Some (Some value)) = 0

abbrev pub disappearing : {X : Type 0} → Option X → Option (Option (List ℕ)) → ℕ
disappearing former None = 0
disappearing None (Some None) = 0
disappearing (Some held) (Some None) = 1
disappearing former (Some (Some value)) = 0

-- ---- a node

-- From its former value and that value's change, what becomes of what stands behind each nibble, and what all of it joins to; some further texts may be taken out in the end.
abbrev pub node_outcome : Option ValueRef → Option (Option (List ℕ)) → (ℕ → Outcome) → Joint → List (List ℕ) → Outcome
node_outcome former change behind whole further = record {
  top = whole.top;
  made = value_made change ++ joined_below (λ x. (behind x).made) 16 ++ whole.made;
  lost = value_lost former change ++ joined_below (λ x. (behind x).lost) 16 ++ further;
  fresh = appearing former change + sum_below (λ x. (behind x).fresh) 16;
  gone = disappearing former change + sum_below (λ x. (behind x).gone) 16;
}

-- ---- where the changes part from a path

-- what stands behind a nibble, by the changes there
abbrev pub behind_outcome : (Top → List Change → Outcome) → Top → List Change → Outcome
behind_outcome further old [] = unchanged old
behind_outcome further old (change ∷ changes) = further old (change ∷ changes)

abbrev pub parted : (Top → List Change → Outcome) → Top → List Change → ℕ → Outcome
parted further old changes x = behind_outcome further (top_behind x old) (changes_behind (x ∷ []) changes)

abbrev pub fork_outcome : (Top → List Change → Outcome) → Top → List Change → Outcome
fork_outcome further old changes =
    node_outcome (ref_here old) (change_at [] changes) (parted further old changes)
    (joint (ref_after (ref_here old) (change_at [] changes)) (λ x. known (parted further old changes x).top) 0) []

-- One nibble further, or to the branch, what a batch makes of which is `child`.
abbrev pub laid_step : (Top → List Change → Outcome) → (List Change → Outcome) → Top → List Change → Outcome
laid_step further child empty changes = fork_outcome further empty changes
laid_step further child (leaf path ref) changes = fork_outcome further (leaf path ref) changes
laid_step further child (branch digest used) changes = child changes
laid_step further child (extension path digest used) changes = fork_outcome further (extension path digest used) changes

-- so many nibbles at most
unfoldable pub laid_within : ℕ → (List Change → Outcome) → Top → List Change → Outcome
laid_within zero child old changes = unchanged empty
laid_within (suc n) child old changes = laid_step (laid_within n child) child old changes

-- the length of the longest path that is changed
unfoldable pub longest_change : List Change → ℕ
longest_change [] = 0
longest_change (change ∷ changes) = max (length change.0) (longest_change changes)

-- Changes laid over nothing, a leaf, or an extension before a branch, what becomes of which is `child`. There are some changes.
unfoldable pub laid : (List Change → Outcome) → Top → List Change → Outcome
laid child old changes = laid_within (suc (longest_change changes)) child old changes

-- ---- a branch that was read

-- a child, by the changes below it
abbrev pub kid_kept : Option (List ℕ) → Kid
kid_kept None = known empty
kid_kept (Some digest) = named digest

abbrev pub kid_after : Seen → List Change → Outcome → Kid
kid_after child [] outcome = kid_kept (digest_of child)
kid_after child (change ∷ changes) outcome = known outcome.top

abbrev pub kid_outcome : List Change → Outcome → Outcome
kid_outcome [] outcome = unchanged empty
kid_outcome (change ∷ changes) outcome = outcome

-- a child that is read after all, since nothing else is left of the branch
abbrev pub digest_or_none : Option (List ℕ) → List ℕ
digest_or_none None = []
digest_or_none (Some digest) = digest

unfoldable pub top_seen : Seen → Top
top_seen seen.nothing = empty
top_seen (seen.missing digest) = empty
top_seen (seen.bad digest) = empty
top_seen (seen.leaf digest usage path ref) = leaf path ref
top_seen (seen.branch digest usage ref kids) = branch digest usage
top_seen (seen.extension digest usage path child) = extension path (digest_or_none (digest_of child)) (usage - extension_cost path)

-- its record is taken out, unless it is a branch, which stays
unfoldable pub lost_alone : Seen → List (List ℕ)
lost_alone seen.nothing = []
lost_alone (seen.missing digest) = []
lost_alone (seen.bad digest) = []
lost_alone (seen.leaf digest usage path ref) = digest ∷ []
lost_alone (seen.branch digest usage ref kids) = []
lost_alone (seen.extension digest usage path child) = digest ∷ []

abbrev pub merged_kids : Option ℕ → (ℕ → Seen) → (ℕ → Kid) → ℕ → Kid
merged_kids None children kids x = kids x
merged_kids (Some y) children kids x = if x == y then known (top_seen (children x)) else kids x

abbrev pub merged_lost : Option ℕ → (ℕ → Seen) → List (List ℕ)
merged_lost None children = []
merged_lost (Some x) children = lost_alone (children x)

-- what the branch and its visited children state together: the rest of its usage is that of the others
abbrev pub parts : Option ValueRef → (ℕ → Seen) → List Change → ℕ
parts ref children changes = branch_cost ref + (sum_below (λ x. if_touched (changes_behind (x ∷ []) changes) (stated_usage (children x))) 16 + merge_usage children (merged_child ref children changes))

-- the children after the batch, by what became of those below which there are changes
abbrev pub kids_after : Option ValueRef → (ℕ → Seen) → List Change → (ℕ → Outcome) → ℕ → Kid
kids_after ref children changes outcomes = merged_kids (merged_child ref children changes) children (λ x. kid_after (children x) (changes_behind (x ∷ []) changes) (outcomes x))

abbrev pub branch_outcome : ℕ → Option ValueRef → (ℕ → Seen) → List Change → (ℕ → Outcome) → Outcome
branch_outcome usage ref children changes outcomes =
    node_outcome ref (change_at [] changes) (λ x. kid_outcome (changes_behind (x ∷ []) changes) (outcomes x))
    (joint (ref_after ref (change_at [] changes)) (kids_after ref children changes outcomes) (usage - parts ref children changes))
    (merged_lost (merged_child ref children changes) children)

-- ---- the whole

abbrev pub no_branch : List Change → Outcome
no_branch changes = unchanged empty

-- what becomes of what is seen at a place, by the changes below it, of which there are some
unfoldable pub updated : Seen → List Change → Outcome
updated seen.nothing changes = laid no_branch empty changes
updated (seen.missing digest) changes = unchanged empty
updated (seen.bad digest) changes = unchanged empty
updated (seen.leaf digest usage path ref) changes = losing digest (laid no_branch (leaf path ref) changes)
updated (seen.extension digest usage path child) changes =
    losing digest (laid (λ cs. updated child cs) (extension path (digest_or_none (digest_of child)) (usage - extension_cost path)) changes)
updated (seen.branch digest usage ref children) changes =
    losing digest (branch_outcome usage ref children changes (λ x. updated (children x) (changes_behind (x ∷ []) changes)))
