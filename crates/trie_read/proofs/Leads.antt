-- Where a node leads a key, and the steps of the key's lookup from there.
use Rattle.std.proofs.Common.{◌≡◌, ℕ, ◌+◌, ◌<◌, Bool, true, false, List, [], ◌∷◌, ◌++◌, length, Option, None, Some, refl, sym, ap, arith, append-nil}
use Rattle.std.specs.Prelude.{nat_eq, is_some, if◌then◌else◌}
use Rattle.std.specs.Cmp.Lexicographic.{pointwise, bytes_decides}
use Rattle.byte_model.specs.Node as node
use Rattle.byte_model.specs.Node.{Node, ValueRef}
use Rattle.record_model.specs.Fits.{fits_at}
use Rattle.trie_model.specs.Tree.{rest_behind}
use Rattle.trie_model.proofs.Rests.{prefix_and_rest}
use Rattle.visit_model.proofs.SeenBounds.{shape_fits, extension_some}
use Rattle.visit_model.specs.Seen.{Looks, seen_child, seen_node}
use Rattle.visit_model.specs.Steps.{Step, value, value_steps, behind, lookup_steps}
use Rattle.visit_model.specs.Steps as step
use Rattle.trie_read.specs.Lookups.{Leads, ends, child, leads, leads_to}

-- it ends there, with a value or none
abbrev pub Ends : Looks → ℕ → List ℕ → ℕ → List ℕ → List ℕ → Node → Option ValueRef → Type 0
Ends look depth digest usage before rest n found = lookup_steps (seen_node look depth digest n usage) before rest ≡ step.node digest ∷ value_steps (before ++ rest) found

-- it goes on behind a prefix of what is left
pub record GoesOn (look : Looks) (depth : ℕ) (digest : List ℕ) (usage : ℕ) (before rest : List ℕ) (n : Node) (below : List ℕ) (deeper : ℕ) (after_extension : Bool) : Type 0 where
  pub prefix : List ℕ
  pub more : List ℕ
  pub parts : rest ≡ prefix ++ more
  pub some : 0 < length prefix
  pub depth_is : deeper ≡ depth + length prefix
  pub steps : lookup_steps (seen_node look depth digest n usage) before rest ≡ step.node digest ∷ lookup_steps (look deeper after_extension below) (before ++ prefix) more

-- whichever of the two
abbrev pub Leading : Looks → ℕ → List ℕ → ℕ → List ℕ → List ℕ → Node → Leads → Type 0
Leading look depth digest usage before rest n (ends found) = Ends look depth digest usage before rest n found
Leading look depth digest usage before rest n (child below deeper after_extension) = GoesOn look depth digest usage before rest n below deeper after_extension

pub leading : (look : Looks) (depth : ℕ) (after_extension : Bool) (digest : List ℕ) (usage : ℕ) (before rest : List ℕ) (n : Node) → fits_at depth after_extension n ≡ true → Leading look depth digest usage before rest n (leads depth rest n)
unfolding leads lookup_steps seen_node seen_child behind
leading look depth after digest usage before rest (node.leaf path ref) fits = go (pointwise nat_eq path rest) refl
  where
    go : (b : Bool) → pointwise nat_eq path rest ≡ b → step.node digest ∷ (if b then value (before ++ path) ref ∷ [] else []) ≡ step.node digest ∷ value_steps (before ++ rest) (if b then Some ref else None)
    go true e = ap (λ (l : List ℕ). step.node digest ∷ value (before ++ l) ref ∷ []) ((bytes_decides path rest).0 e)
    go false e = refl
leading look depth after digest usage before [] (node.branch ref kids) fits = ap (λ (l : List ℕ). step.node digest ∷ value_steps l ref) (sym (append-nil before))
leading look depth after digest usage before (x ∷ rest) (node.branch ref kids) fits = go (kids x) refl
  where
    go : (o : Option (List ℕ)) → kids x ≡ o → Leading look depth digest usage before (x ∷ rest) (node.branch ref kids) (leads_to (depth + 1) false o)
    go None e = ap (λ (o : Option (List ℕ)). step.node digest ∷ lookup_steps (seen_child (look (depth + 1) false) o) (before ++ x ∷ []) rest) e
    go (Some below) e = record {
      prefix = x ∷ [];
      more = rest;
      parts = refl;
      some = omega arith;
      depth_is = refl;
      steps = ap (λ (o : Option (List ℕ)). step.node digest ∷ lookup_steps (seen_child (look (depth + 1) false) o) (before ++ x ∷ []) rest) e;
    }
leading look depth after digest usage before rest (node.extension path below) fits = go (rest_behind path rest) refl
  where
    go : (o : Option (List ℕ)) → rest_behind path rest ≡ o → Leading look depth digest usage before rest (node.extension path below) (if is_some o then child below (depth + length path) true else ends None)
    go None e = ap (λ (o : Option (List ℕ)). step.node digest ∷ behind (lookup_steps (look (depth + length path) true below) (before ++ path)) o) e
    go (Some more) e = record {
      prefix = path;
      more = more;
      parts = prefix_and_rest path rest more e;
      some = extension_some path below (shape_fits depth after (node.extension path below) fits);
      depth_is = refl;
      steps = ap (λ (o : Option (List ℕ)). step.node digest ∷ behind (lookup_steps (look (depth + length path) true below) (before ++ path)) o) e;
    }
