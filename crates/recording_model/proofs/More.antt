-- What is seen of a table that has more texts, and which visits stay the same: those that passed every test.
use Rattle.std.proofs.Common.{◌≡◌, ℕ, zero, suc, ◌+◌, ◌-◌, Bool, true, false, if◌then◌else◌, nat_eq, List, [], ◌∷◌, ◌++◌, length, Option, None, Some, Result, Ok, Err, ◌⊎◌, inl, inr, refl, sym, ap, ◌∙◌, subst}
use Rattle.std.specs.Cmp.Lexicographic.{pointwise}
use Rattle.std.specs.FinMap.{get}
use Rattle.byte_model.specs.PackedPath.{longest_path}
use Rattle.byte_model.specs.Nibbles.{nibbles}
use Rattle.byte_model.specs.Node as node
use Rattle.byte_model.specs.Node.{Node, ValueRef}
use Rattle.record_model.specs.Records.{RecordFault, record_in}
use Rattle.record_model.specs.Fits.{fits_at}
use Rattle.trie_model.specs.Root.{Table, zero_digest}
use Rattle.trie_model.specs.Tree.{rest_behind}
use Rattle.visit_model.specs.Seen.{Seen, Looks, nothing, missing, bad, leaf, branch, extension, seen_child, seen_node, seen_record, seen_text, seen_within, seen_at, seen}
use Rattle.visit_model.specs.Steps.{value, value_steps, behind, lookup_steps}
use Rattle.visit_model.specs.Visits as looking
use Rattle.visit_model.specs.Visits.{node_first, value_visit, visits_of, lookup_visits}
use Rattle.change_model.specs.Along.{digest_of}

-- each text of a table stands in another one
abbrev pub HasMore : Table → Table → Type 0
HasMore table full = (digest text : List ℕ) → get table digest ≡ Some text → get full digest ≡ Some text

-- the same, but that something may be seen where the table has no text
unfoldable pub LessSeen : Table → Seen → Seen → Type 0
LessSeen table nothing other = other ≡ nothing
LessSeen table (missing digest) other = (digest_of other ≡ Some digest) × ((other ≡ missing digest) ⊎ (get table digest ≡ None))
LessSeen table (bad digest) other = other ≡ bad digest
LessSeen table (leaf digest usage path ref) other = other ≡ leaf digest usage path ref
LessSeen table (branch digest usage ref kids) other = (others : ℕ → Seen) × (other ≡ branch digest usage ref others) × ((x : ℕ) → LessSeen table (kids x) (others x))
LessSeen table (extension digest usage path child) other = (below : Seen) × (other ≡ extension digest usage path below) × LessSeen table child below

-- ---- of a digest

named-node : (look : Looks) (depth : ℕ) (digest : List ℕ) (n : Node) (used : ℕ) → digest_of (seen_node look depth digest n used) ≡ Some digest
unfolding digest_of seen_node
named-node look depth digest (node.leaf path ref) used = refl
named-node look depth digest (node.branch ref kids) used = refl
named-node look depth digest (node.extension path child) used = refl

named-record : (look : Looks) (depth : ℕ) (after_extension : Bool) (digest : List ℕ) (read : Result (Node × ℕ) RecordFault) → digest_of (seen_record look depth after_extension digest read) ≡ Some digest
unfolding digest_of seen_record
named-record look depth after_extension digest (Err fault) = refl
named-record look depth after_extension digest (Ok found) =
    elim (fits_at depth after_extension found.0) as (λ b. digest_of (if b then seen_node look depth digest found.0 found.1 else bad digest) ≡ Some digest) [
      | true ↦ named-node look depth digest found.0 found.1
      | false ↦ refl
    ]

named-text : (look : Looks) (depth : ℕ) (after_extension : Bool) (digest : List ℕ) (held : Option (List ℕ)) → digest_of (seen_text look depth after_extension digest held) ≡ Some digest
unfolding digest_of seen_text
named-text look depth after_extension digest None = refl
named-text look depth after_extension digest (Some text) = named-record look depth after_extension digest (record_in text)

-- ---- of a text, by what is seen further down

module _ (table : Table) (look more : Looks) (further : (depth : ℕ) (after_extension : Bool) (digest : List ℕ) → LessSeen table (look depth after_extension digest) (more depth after_extension digest)) where
  less-child : (depth : ℕ) (name : Option (List ℕ)) → LessSeen table (seen_child (look depth false) name) (seen_child (more depth false) name)
  unfolding LessSeen seen_child
  less-child depth None = refl
  less-child depth (Some digest) = further depth false digest

  less-node : (depth : ℕ) (digest : List ℕ) (n : Node) (used : ℕ) → LessSeen table (seen_node look depth digest n used) (seen_node more depth digest n used)
  unfolding LessSeen seen_node
  less-node depth digest (node.leaf path ref) used = refl
  less-node depth digest (node.branch ref kids) used = ((λ x. seen_child (more (depth + 1) false) (kids x)), refl, (λ x. less-child (depth + 1) (kids x)))
  less-node depth digest (node.extension path child) used = (more (depth + length path) true child, refl, further (depth + length path) true child)

  less-record : (depth : ℕ) (after_extension : Bool) (digest : List ℕ) (read : Result (Node × ℕ) RecordFault) → LessSeen table (seen_record look depth after_extension digest read) (seen_record more depth after_extension digest read)
  unfolding LessSeen seen_record
  less-record depth after_extension digest (Err fault) = refl
  less-record depth after_extension digest (Ok found) =
      elim (fits_at depth after_extension found.0) as (λ b. LessSeen table (if b then seen_node look depth digest found.0 found.1 else bad digest) (if b then seen_node more depth digest found.0 found.1 else bad digest)) [
        | true ↦ less-node depth digest found.0 found.1
        | false ↦ refl
      ]

-- ---- of a table

module _ (table full : Table) (has : HasMore table full) where
  less-within : (n depth : ℕ) (after_extension : Bool) (digest : List ℕ) → LessSeen table (seen_within n table depth after_extension digest) (seen_within n full depth after_extension digest)
  unfolding LessSeen digest_of seen_within seen_text
  less-within zero depth after_extension digest = (refl, inl refl)
  less-within (suc n) depth after_extension digest = go (less-within n) (get table digest) refl
    where
      go : ((deeper : ℕ) (below : Bool) (d : List ℕ) → LessSeen table (seen_within n table deeper below d) (seen_within n full deeper below d)) → (held : Option (List ℕ)) → get table digest ≡ held → LessSeen table (seen_text (seen_within n table) depth after_extension digest held) (seen_text (seen_within n full) depth after_extension digest (get full digest))
      go further None e = (named-text (seen_within n full) depth after_extension digest (get full digest), inr e)
      go further (Some text) e =
          subst (λ (held : Option (List ℕ)). LessSeen table (seen_record (seen_within n table) depth after_extension digest (record_in text)) (seen_text (seen_within n full) depth after_extension digest held)) (sym (has digest text e))
          (less-record table (seen_within n table) (seen_within n full) further depth after_extension digest (record_in text))

  pub less-seen : (root : List ℕ) → LessSeen table (seen table root) (seen full root)
  unfolding LessSeen seen seen_at
  less-seen root =
      elim (pointwise nat_eq root zero_digest) as (λ b. LessSeen table (if b then nothing else seen_at table 0 false root) (if b then nothing else seen_at full 0 false root)) [
        | true ↦ refl
        | false ↦ less-within (suc longest_path - 0) 0 false root
      ]

  -- ---- lookups

  value-more : (path : List ℕ) (ref : ValueRef) → (visits_of table 1 (value path ref ∷ [])).refusal ≡ None → visits_of full 1 (value path ref ∷ []) ≡ visits_of table 1 (value path ref ∷ [])
  unfolding visits_of value_visit
  value-more path ref passed = go (get table ref.digest) refl passed
    where
      go : (held : Option (List ℕ)) → get table ref.digest ≡ held → (value_visit path ref held looking.no_visits).refusal ≡ None → value_visit path ref (get full ref.digest) looking.no_visits ≡ value_visit path ref (get table ref.digest) looking.no_visits
      go None e k = cc
      go (Some text) e k = ap (λ (held : Option (List ℕ)). value_visit path ref held looking.no_visits) (has ref.digest text e ∙ sym e)

  values-more : (path : List ℕ) (ref : Option ValueRef) → (visits_of table 1 (value_steps path ref)).refusal ≡ None → visits_of full 1 (value_steps path ref) ≡ visits_of table 1 (value_steps path ref)
  unfolding visits_of
  values-more path None passed = refl
  values-more path (Some ref) passed = value-more path ref passed

  steps-more : (s other : Seen) → LessSeen table s other → (before rest : List ℕ) → (visits_of table 1 (lookup_steps s before rest)).refusal ≡ None → visits_of full 1 (lookup_steps other before rest) ≡ visits_of table 1 (lookup_steps s before rest)
  unfolding LessSeen lookup_steps visits_of behind
  steps-more nothing other less before rest passed = ap (λ (o : Seen). visits_of full 1 (lookup_steps o before rest)) less
  steps-more (missing digest) other less before rest passed = cc
  steps-more (bad digest) other less before rest passed = cc
  steps-more (leaf digest usage path ref) other less before rest passed =
      ap (λ (o : Seen). visits_of full 1 (lookup_steps o before rest)) less ∙ ap (node_first digest) (go (pointwise nat_eq path rest) passed)
    where
      go : (b : Bool) → (visits_of table 1 (if b then value (before ++ path) ref ∷ [] else [])).refusal ≡ None → visits_of full 1 (if b then value (before ++ path) ref ∷ [] else []) ≡ visits_of table 1 (if b then value (before ++ path) ref ∷ [] else [])
      go true k = value-more (before ++ path) ref k
      go false k = refl
  steps-more (branch digest usage ref kids) other less before [] passed =
      ap (λ (o : Seen). visits_of full 1 (lookup_steps o before [])) less.1 ∙ ap (node_first digest) (values-more before ref passed)
  steps-more (branch digest usage ref kids) other less before (x ∷ rest) passed =
      ap (λ (o : Seen). visits_of full 1 (lookup_steps o before (x ∷ rest))) less.1 ∙ ap (node_first digest) (steps-more (kids x) (less.0 x) (less.2 x) (before ++ x ∷ []) rest passed)
  steps-more (extension digest usage path child) other less before rest passed =
      ap (λ (o : Seen). visits_of full 1 (lookup_steps o before rest)) less.1 ∙ ap (node_first digest) (go (rest_behind path rest) passed (steps-more child less.0 less.2 (before ++ path)))
    where
      go : (r : Option (List ℕ)) → (visits_of table 1 (behind (lookup_steps child (before ++ path)) r)).refusal ≡ None → ((rest : List ℕ) → (visits_of table 1 (lookup_steps child (before ++ path) rest)).refusal ≡ None → visits_of full 1 (lookup_steps less.0 (before ++ path) rest) ≡ visits_of table 1 (lookup_steps child (before ++ path) rest)) → visits_of full 1 (behind (lookup_steps less.0 (before ++ path)) r) ≡ visits_of table 1 (behind (lookup_steps child (before ++ path)) r)
      go None k further = refl
      go (Some deeper) k further = further deeper k

  pub lookup-more : (root key : List ℕ) → (lookup_visits table root key).refusal ≡ None → lookup_visits full root key ≡ lookup_visits table root key
  lookup-more root key passed = steps-more (seen table root) (seen full root) (less-seen root) [] (nibbles key) passed
