-- How far the lookup of a key has come, and what each visit makes of that.
use Rattle.std.proofs.Common.{◌≡◌, ℕ, ◌+◌, ◌<◌, ◌≤◌, Bool, true, false, List, [], ◌∷◌, ◌++◌, length, map, take, drop, Option, None, Some, Ok, Err, refl, sym, ap, ap₂, ◌∙◌, subst, arith, append_assoc, append-nil, length-append}
use Rattle.std.proofs.lemmas.List.{take-append-drop, take_at, drop_at, length-take-le, map-append}
use Rattle.std.specs.Prelude.{if◌then◌else◌, nat_eq}
use Rattle.std.specs.Cmp.Lexicographic.{pointwise}
use Rattle.byte_model.specs.PackedPath.{longest_path}
use Rattle.trie_model.specs.Root.{Table, zero_digest}
use Rattle.base_core.specs.declared.hash.Digest.{Digest}
use Rattle.visit_model.specs.Seen.{Seen, nothing, seen, seen_at, seen_node}
use Rattle.visit_model.specs.Steps.{Step, no_text, no_node, value, lookup_steps}
use Rattle.visit_model.specs.Steps as step
use Rattle.visit_model.proofs.SeenTexts.{seen-missing, seen-bad}
use Rattle.node_codec.specs.declared.value_ref.ValueRef as codec
use Rattle.node_codec.specs.Meanings.{value_of}
use Rattle.trie_read.specs.declared.errors.ReadError.{ReadError}
use Rattle.trie_read.specs.declared.errors.ReadError.TheVariants.{Missing, Bad, Fault}
use Rattle.trie_read.specs.declared.following.Next.{Next}
use Rattle.trie_read.specs.declared.following.Next.TheVariants.{End, Child}
use Rattle.trie_read.specs.Lookups.{IsNext, Finds, Found, leads_of, child}
use Rattle.trie_read.specs.Loads.{IsStopped}
use Rattle.base_core.specs.Faults.{done}
use Rattle.text_store.specs.Store.{Store}
use Rattle.text_store.specs.Leaves.{Leaves}
use Rattle.trie_read.specs.Endings.{by_error}
use Rattle.text_store.proofs.Leaves.{Leaves-none, Leaves-then}
use Rattle.trie_read.proofs.Loads.{Onward}
use Rattle.trie_read.proofs.HeldNodes.{sees-node}
use Rattle.trie_read.proofs.FirstSteps.{seen_at-something, lookup-some}
use Rattle.trie_read.proofs.Leads.{Leading, GoesOn, leading}

-- These nodes were visited, and the lookup goes on at a place.
pub record Reaches (table : Table) (steps : List Step) (path : List ℕ) (digests : List (List ℕ)) (digest : List ℕ) (depth : ℕ) (after_extension : Bool) : Type 0 where
  pub steps_are : steps ≡ map step.node digests ++ lookup_steps (seen_at table depth after_extension digest) (take depth path) (drop depth path)
  pub deep : depth ≤ length path

nodes-more : (digests : List (List ℕ)) (digest : List ℕ) (steps : List Step) → map step.node digests ++ step.node digest ∷ steps ≡ map step.node (digests ++ digest ∷ []) ++ steps
nodes-more digests digest steps =
    sym (append_assoc (map step.node digests) (step.node digest ∷ []) steps) ∙ ap (λ (l : List Step). l ++ steps) (sym (map-append step.node digests (digest ∷ [])))

-- what is seen at the visited place, and where it leads
record Led (table : Table) (path : List ℕ) (digest : List ℕ) (depth : ℕ) (after_extension : Bool) (next : Next) (n : IsNext table digest depth after_extension (drop depth path) next) : Type 0 where
  seen : seen_at table depth after_extension digest ≡ seen_node (seen_at table) depth digest n.node n.usage
  leading : Leading (seen_at table) depth digest n.usage (take depth path) (drop depth path) n.node (leads_of next)

led : (table : Table) (path : List ℕ) (digest : List ℕ) (depth : ℕ) (after_extension : Bool) (next : Next) → depth ≤ longest_path → (n : IsNext table digest depth after_extension (drop depth path) next) → Led table path digest depth after_extension next n
led table path digest depth after_extension next short n =
    let sees = sees-node table depth after_extension digest n.node n.usage short n.held in
    record {
      seen = sees.seen;
      leading = subst (Leading (seen_at table) depth digest n.usage (take depth path) (drop depth path) n.node) (sym n.leads) (leading (seen_at table) depth after_extension digest n.usage (take depth path) (drop depth path) n.node sees.fits);
    }

-- the lookup ends with this node, and a value or none
pub ended : (table : Table) (steps : List Step) (path : List ℕ) (digests : List (List ℕ)) (digest : List ℕ) (depth : ℕ) (after_extension : Bool) (found : Option codec.ValueRef) → Reaches table steps path digests digest depth after_extension → depth ≤ longest_path → IsNext table digest depth after_extension (drop depth path) (End found) → Finds steps path (digests ++ digest ∷ []) (Ok found)
ended table steps path digests digest depth after_extension found reached short n = go found there.leading
  where
    there : Led table path digest depth after_extension (End found) n
    there = led table path digest depth after_extension (End found) short n

    whole : take depth path ++ drop depth path ≡ path
    whole = take-append-drop depth path

    all : (last : List Step) → lookup_steps (seen_node (seen_at table) depth digest n.node n.usage) (take depth path) (drop depth path) ≡ step.node digest ∷ last → steps ≡ map step.node (digests ++ digest ∷ []) ++ last
    all last e = reached.steps_are ∙ ap (λ (seen : Seen). map step.node digests ++ lookup_steps seen (take depth path) (drop depth path)) there.seen ∙ ap (λ (l : List Step). map step.node digests ++ l) e ∙ nodes-more digests digest last

    go : (o : Option codec.ValueRef) → Leading (seen_at table) depth digest n.usage (take depth path) (drop depth path) n.node (leads_of (End o)) → Finds steps path (digests ++ digest ∷ []) (Ok o)
    go None e = all [] e ∙ append-nil (map step.node (digests ++ digest ∷ []))
    go (Some v) e = all (value (take depth path ++ drop depth path) (value_of v) ∷ []) e ∙ ap (λ (l : List ℕ). map step.node (digests ++ digest ∷ []) ++ value l (value_of v) ∷ []) whole

-- or goes on at a child, which is deeper
pub record Deeper (table : Table) (steps : List Step) (path : List ℕ) (digests : List (List ℕ)) (digest : List ℕ) (depth deeper : ℕ) (after_extension : Bool) : Type 0 where
  pub reaches : Reaches table steps path digests digest deeper after_extension
  pub below : depth < deeper

parts_of : (path prefix more : List ℕ) (depth deeper : ℕ) → depth ≤ length path → drop depth path ≡ prefix ++ more → deeper ≡ depth + length prefix → (take depth path ++ prefix ≡ take deeper path) × (more ≡ drop deeper path) × (deeper ≤ length path)
parts_of path prefix more depth deeper deep parts is =
    let behind : length (take depth path) ≡ depth = length-take-le depth path deep in
    let width : length (take depth path ++ prefix) ≡ deeper = length-append (take depth path) prefix ∙ ap (λ (n : ℕ). n + length prefix) behind ∙ sym is in
    let whole : path ≡ (take depth path ++ prefix) ++ more = sym (take-append-drop depth path) ∙ ap (λ (l : List ℕ). take depth path ++ l) parts ∙ sym (append_assoc (take depth path) prefix more) in
    let prefix_is : take deeper path ≡ take depth path ++ prefix = ap (take deeper) whole ∙ take_at (take depth path ++ prefix) more deeper width in
    let rest_is : drop deeper path ≡ more = ap (drop deeper) whole ∙ drop_at (take depth path ++ prefix) more deeper width in
    let count : length path ≡ deeper + length more = ap length whole ∙ length-append (take depth path ++ prefix) more ∙ ap (λ (n : ℕ). n + length more) width in
    (sym prefix_is, sym rest_is, omega arith)

pub went_on : (table : Table) (steps : List Step) (path : List ℕ) (digests : List (List ℕ)) (digest : List ℕ) (depth : ℕ) (after_extension : Bool) (next : Next) (below : List ℕ) (deeper : ℕ) (extended : Bool) → Reaches table steps path digests digest depth after_extension → depth ≤ longest_path → IsNext table digest depth after_extension (drop depth path) next → leads_of next ≡ child below deeper extended → Deeper table steps path (digests ++ digest ∷ []) below depth deeper extended
went_on table steps path digests digest depth after_extension next below deeper extended reached short n is =
    let there = led table path digest depth after_extension next short n in
    let on : GoesOn (seen_at table) depth digest n.usage (take depth path) (drop depth path) n.node below deeper extended = subst (Leading (seen_at table) depth digest n.usage (take depth path) (drop depth path) n.node) is there.leading in
    let parts = parts_of path on.prefix on.more depth deeper reached.deep on.parts on.depth_is in
    let all : steps ≡ map step.node (digests ++ digest ∷ []) ++ lookup_steps (seen_at table deeper extended below) (take depth path ++ on.prefix) on.more =
    reached.steps_are ∙ ap (λ (seen : Seen). map step.node digests ++ lookup_steps seen (take depth path) (drop depth path)) there.seen ∙ ap (λ (l : List Step). map step.node digests ++ l) on.steps ∙ nodes-more digests digest _ in
    let some = on.some in
    let depth_is = on.depth_is in
    record {
      reaches = record {
        steps_are = all ∙ ap₂ (λ (before rest : List ℕ). map step.node (digests ++ digest ∷ []) ++ lookup_steps (seen_at table deeper extended below) before rest) parts.0 parts.1;
        deep = parts.2;
      };
      below = omega arith;
    }

-- or a test fails there
pub stopped : (table : Table) (steps : List Step) (path : List ℕ) (digests : List (List ℕ)) (digest : Digest) (depth : ℕ) (after_extension : Bool) (error : ReadError) → Reaches table steps path digests digest.0 depth after_extension → depth ≤ longest_path → IsStopped table digest depth after_extension error → Finds steps path (digests ++ digest.0 ∷ []) (Err error)
unfolding lookup_steps
stopped table steps path digests digest depth after_extension (Missing named) reached short answer = record {
  before = digests;
  visited = ap (λ (d : Digest). digests ++ d.0 ∷ []) (sym answer.0);
  all = reached.steps_are ∙ ap (λ (seen : Seen). map step.node digests ++ lookup_steps seen (take depth path) (drop depth path)) (seen-missing table depth after_extension digest.0 short answer.1) ∙ ap (λ (d : Digest). map step.node digests ++ no_text d.0 ∷ []) (sym answer.0);
}
stopped table steps path digests digest depth after_extension (Bad named) reached short answer = record {
  before = digests;
  visited = ap (λ (d : Digest). digests ++ d.0 ∷ []) (sym answer.0);
  all = reached.steps_are ∙ ap (λ (seen : Seen). map step.node digests ++ lookup_steps seen (take depth path) (drop depth path)) (seen-bad table depth after_extension digest.0 short answer.1) ∙ ap (λ (d : Digest). map step.node digests ++ no_node d.0 ∷ []) (sym answer.0);
}
stopped table steps path digests digest depth after_extension Fault reached short answer =
    let some = lookup-some (seen_at table depth after_extension digest.0) (take depth path) (drop depth path) (seen_at-something table depth after_extension digest.0) in
    record {
      before = digests;
      last = some.0;
      further = some.1;
      visited = length-append digests (digest.0 ∷ []);
      all = reached.steps_are ∙ ap (λ (l : List Step). map step.node digests ++ l) some.2;
    }

-- How far it has come, and what that left of the store.
pub record IsAt {S : Type 0} (store : Store S) (old now : S) (table : Table) (steps : List Step) (path : List ℕ) (digest : List ℕ) (depth : ℕ) (after_extension : Bool) : Type 0 where
  pub digests : List (List ℕ)
  pub reaches : Reaches table steps path digests digest depth after_extension
  pub left : Leaves store old now digests done

-- ---- at the begin, and after each visit

pub root-zero : (table : Table) (root : List ℕ) (path : List ℕ) → true ≡ pointwise nat_eq root zero_digest → lookup_steps (seen table root) [] path ≡ []
unfolding seen lookup_steps
root-zero table root path is = ap (λ (b : Bool). lookup_steps (if b then nothing else seen_at table 0 false root) [] path) (sym is)

pub root-seen : (table : Table) (root : List ℕ) → false ≡ pointwise nat_eq root zero_digest → seen table root ≡ seen_at table 0 false root
unfolding seen
root-seen table root nonzero = ap (λ (b : Bool). if b then nothing else seen_at table 0 false root) (sym nonzero)

pub at_root : {S : Type 0} (store : Store S) (old : S) (table : Table) (root path : List ℕ) → store.alike old old → false ≡ pointwise nat_eq root zero_digest → IsAt store old old table (lookup_steps (seen table root) [] path) path root 0 false
at_root store old table root path itself nonzero = record {
  digests = [];
  reaches = record { steps_are = ap (λ (s : Seen). lookup_steps s [] path) (root-seen table root nonzero); deep = omega arith };
  left = Leaves-none store old itself;
}

pub found_end : {S : Type 0} (store : Store S) (old mid new : S) (table other : Table) (steps : List Step) (path : List ℕ) (digest : List ℕ) (depth : ℕ) (after_extension : Bool) (found : Option codec.ValueRef) → Onward store → other ≡ table → depth ≤ longest_path → IsAt store old mid table steps path digest depth after_extension → IsNext other digest depth after_extension (drop depth path) (End found) → Leaves store mid new (digest ∷ []) done → Found store old new steps path (Ok found)
found_end store old mid new table other steps path digest depth after_extension found onward same short at next more = record {
  digests = at.digests ++ digest ∷ [];
  finds = ended table steps path at.digests digest depth after_extension found at.reaches short (subst (λ (t : Table). IsNext t digest depth after_extension (drop depth path) (End found)) same next);
  left = Leaves-then store onward old mid new at.digests (digest ∷ []) done at.left more;
}

pub found_stopped : {S : Type 0} (store : Store S) (old mid new : S) (table other : Table) (steps : List Step) (path : List ℕ) (digest : Digest) (depth : ℕ) (after_extension : Bool) (error : ReadError) → Onward store → other ≡ table → depth ≤ longest_path → IsAt store old mid table steps path digest.0 depth after_extension → IsStopped other digest depth after_extension error → Leaves store mid new (digest.0 ∷ []) (by_error error) → Found store old new steps path (Err error)
found_stopped store old mid new table other steps path digest depth after_extension error onward same short at answer more = record {
  digests = at.digests ++ digest.0 ∷ [];
  finds = stopped table steps path at.digests digest depth after_extension error at.reaches short (subst (λ (t : Table). IsStopped t digest depth after_extension error) same answer);
  left = Leaves-then store onward old mid new at.digests (digest.0 ∷ []) (by_error error) at.left more;
}

pub found_deeper : {S : Type 0} (store : Store S) (old mid new : S) (table other : Table) (steps : List Step) (path : List ℕ) (digest : List ℕ) (depth : ℕ) (after_extension : Bool) (below : Digest) (deeper : ℕ) (extended : Bool) → Onward store → other ≡ table → depth ≤ longest_path → IsAt store old mid table steps path digest depth after_extension → IsNext other digest depth after_extension (drop depth path) (Child below deeper extended) → Leaves store mid new (digest ∷ []) done → IsAt store old new table steps path below.0 deeper extended × (depth < deeper)
found_deeper store old mid new table other steps path digest depth after_extension below deeper extended onward same short at next more =
    let on = went_on table steps path at.digests digest depth after_extension (Child below deeper extended) below.0 deeper extended at.reaches short (subst (λ (t : Table). IsNext t digest depth after_extension (drop depth path) (Child below deeper extended)) same next) refl in (
      record {
        digests = at.digests ++ digest ∷ [];
        reaches = on.reaches;
        left = Leaves-then store onward old mid new at.digests (digest ∷ []) done at.left more;
      },
      on.below,
    )
