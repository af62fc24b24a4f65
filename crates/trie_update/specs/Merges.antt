-- The one child that is all that is left of a branch, where its name alone is known: it is visited after all, and takes the branch's place.
use Rattle.std.specs.Prelude.{◌≡◌, ℕ, ◌+◌, ◌-◌, ◌≤◌, ◌<◌, List, [], ◌∷◌, length, false, Option, None, Some, option_map, ⊤}
use Rattle.byte_model.specs.Node.{ValueRef}
use Rattle.trie_model.specs.Root.{Table}
use Rattle.visit_model.specs.Seen.{Seen, nothing, seen_at, stated_usage}
use Rattle.change_model.specs.Visits.{merge_usage, merge_visits}
use Rattle.base_core.specs.declared.hash.Digest.{Digest}
use Rattle.node_codec.specs.declared.node.Node as code
use Rattle.node_codec.specs.declared.node.Node.TheVariants.{Leaf, Branch, Extension}
use Rattle.node_codec.specs.Meanings.{value_of}
use Rattle.trie_shape.specs.declared.sub.Sub.{Sub}
use Rattle.update_model.specs.Sound.{StandsAt}
use Rattle.update_model.specs.Tops.{Top, leaf, branch, extension}
use Rattle.update_model.specs.Joins.{Kid, named, known, there}
use Rattle.update_model.specs.Updates.{lost_alone, merged_kids, merged_lost, top_seen}
use Rattle.trie_update.specs.declared.joining.Left.{Left}
use Rattle.trie_update.specs.declared.ledger.Ledger.{Ledger}
use Rattle.trie_update.specs.Adds.{Adds}
use Rattle.trie_update.specs.Subs.{CanJoin, kid_at, top_of_sub}

-- ---- which child it is

abbrev pub if_named : ℕ → Kid → Option ℕ
if_named x (named digest) = Some x
if_named x (known top) = None

abbrev pub lone_among : Option ValueRef → List ℕ → (ℕ → Kid) → Option ℕ
lone_among None [] kids = None
lone_among None (x ∷ []) kids = if_named x (kids x)
lone_among None (x ∷ y ∷ left) kids = None
lone_among (Some ref) [] kids = None
lone_among (Some ref) (x ∷ left) kids = None

unfoldable pub lone_named : Option ValueRef → (ℕ → Kid) → Option ℕ
lone_named ref kids = lone_among ref (there kids) kids

-- it was found, with its name
pub record IsFound (ref : Option ValueRef) (kids : ℕ → Kid) (x : ℕ) (digest : Digest) : Type 0 where
  pub lone : lone_named ref kids ≡ Some x
  pub name : kids x ≡ named digest.0
  pub small : x < 16

abbrev pub IsLoneNamed : Option ValueRef → (ℕ → Kid) → Option (ℕ × Digest) → Type 0
IsLoneNamed ref kids None = lone_named ref kids ≡ None
IsLoneNamed ref kids (Some found) = IsFound ref kids found.0 found.1

-- ---- what is seen there

-- of a child whose name alone is known, at its depth
unfoldable pub seen_kid : Table → ℕ → Kid → Seen
seen_kid table depth (named digest) = seen_at table depth false digest
seen_kid table depth (known top) = nothing

abbrev pub seen_kids : Table → ℕ → (ℕ → Kid) → ℕ → Seen
seen_kids table depth kids x = seen_kid table depth (kids x)

-- the subtree of a node that was read, from the digest of its text, what it states and what it costs by itself
abbrev pub top_read : List ℕ → code.Node → ℕ → ℕ → Top
top_read digest (Leaf path value) stated own = leaf path (value_of value)
top_read digest (Branch value kids) stated own = branch digest stated
top_read digest (Extension path child) stated own = extension path child.0 (stated - own)

-- its record is taken out, unless it is a branch
abbrev pub lost_read : List ℕ → code.Node → List (List ℕ)
lost_read digest (Leaf path value) = digest ∷ []
lost_read digest (Branch value kids) = []
lost_read digest (Extension path child) = digest ∷ []

-- ---- what becomes of it

pub record IsAlone (depth : ℕ) (s : Seen) (old new : Ledger) (alone : Sub × ℕ) : Type 0 where
  pub top : top_of_sub alone.0 ≡ top_seen s
  pub stated : alone.1 ≡ stated_usage s
  pub adds : Adds old new [] (lost_alone s) 0 0
  pub stands : StandsAt depth (top_seen s)

abbrev pub MergedStands : ℕ → Option ℕ → (ℕ → Seen) → Type 0
MergedStands depth None seen = ⊤
MergedStands depth (Some x) seen = StandsAt depth (top_seen (seen x))

pub record IsMerged (names : ℕ → Option (List ℕ)) (table : Table) (depth : ℕ) (left : Left) (old new : Ledger) (merged : Left × ℕ) : Type 0 where
  pub value : merged.0.value ≡ left.value
  pub sixteen : length merged.0.children.items ≡ 16
  pub kids : (x : ℕ) → x < 16 → kid_at names merged.0.children.items x ≡ merged_kids (lone_named (option_map value_of left.value) (kid_at names left.children.items)) (seen_kids table depth (kid_at names left.children.items)) (kid_at names left.children.items) x
  pub stated : merged.1 ≡ merge_usage (seen_kids table depth (kid_at names left.children.items)) (lone_named (option_map value_of left.value) (kid_at names left.children.items))
  pub adds : Adds old new [] (merged_lost (lone_named (option_map value_of left.value) (kid_at names left.children.items)) (seen_kids table depth (kid_at names left.children.items))) 0 0
  pub stands : MergedStands depth (lone_named (option_map value_of left.value) (kid_at names left.children.items)) (seen_kids table depth (kid_at names left.children.items))

-- Once it is merged, and its branch states enough, what is left can be joined.
abbrev pub JoinsMerged : ℕ → Option ValueRef → (ℕ → Kid) → (ℕ → Seen) → Option ℕ → ℕ → ℕ → Type 0
JoinsMerged depth ref kids seen merged stated above =
    (merge_visits seen merged).refusal ≡ None → MergedStands depth merged seen → above + merge_usage seen merged ≤ stated → CanJoin ref (merged_kids merged seen kids) (stated - (above + merge_usage seen merged))

abbrev pub CanSettle : Table → ℕ → Option ValueRef → (ℕ → Kid) → ℕ → ℕ → Type 0
CanSettle table depth ref kids stated above = JoinsMerged depth ref kids (seen_kids table depth kids) (lone_named ref kids) stated above
