-- The code's subtrees in the words of the model.
use Rattle.std.proofs.Common.{◌≡◌, ◌≤◌, ℕ, List, [], ◌∷◌, length, Some, IfSome, IfNone, refl, sym, ◌∙◌, ap, arith}
use Rattle.sha2.specs.Sha256.{sha256}
use Rattle.base_core.specs.declared.hash.Digest.{Digest}
use Rattle.byte_model.specs.Node as node
use Rattle.byte_model.specs.Node.{own_cost}
use Rattle.node_codec.specs.Meanings.{value_of}
use Rattle.update_model.specs.Sound.{StandsAt}
use Rattle.update_model.specs.Tops.{lowered, pending, top_digest, top_usage}
use Rattle.trie_shape.specs.declared.closed.Closed.{Closed}
use Rattle.trie_shape.specs.declared.sub.Sub.{Sub}
use Rattle.trie_shape.specs.declared.sub.Sub.TheVariants.{Empty, Leaf, Branch, Extension}
use Rattle.trie_shape.specs.Shows.{MayClose, IsRecord, top_node, usage_of, digest_of, under_of}
use Rattle.trie_shape.proofs.Shows.{name-closed, no_node, one_node, not_absent, IsAbsent}
use Rattle.trie_update.specs.Subs.{top_of_sub}

pub usage-top : (sub : Sub) → usage_of sub ≡ top_usage (top_of_sub sub)
unfolding top_usage own_cost
usage-top Empty = refl
usage-top (Leaf path value) = refl
usage-top (Branch digest used) = refl
usage-top (Extension path child used) = refl

pub digest-top : (sub : Sub) → digest_of sub ≡ top_digest (top_of_sub sub)
unfolding top_digest own_cost
digest-top Empty = refl
digest-top (Leaf path value) = refl
digest-top (Branch digest used) = refl
digest-top (Extension path child used) = refl

under : (nibbles : List ℕ) (sub : Sub) → top_of_sub (under_of nibbles sub) ≡ lowered nibbles (top_of_sub sub)
unfolding lowered
under nibbles Empty = refl
under nibbles (Leaf path value) = refl
under [] (Branch digest used) = refl
under (x ∷ nibbles) (Branch digest used) = refl
under nibbles (Extension path child used) = refl

pub under-top : (nibbles : List ℕ) (sub lower : Sub) → lower ≡ under_of nibbles sub → top_of_sub lower ≡ lowered nibbles (top_of_sub sub)
under-top nibbles sub lower e = ap top_of_sub e ∙ under nibbles sub

pub branch-under : (nibbles : List ℕ) (digest : Digest) (used : ℕ) → 1 ≤ length nibbles → Extension nibbles digest used ≡ under_of nibbles (Branch digest used)
branch-under [] digest used some = absurd (omega arith)
branch-under (x ∷ nibbles) digest used some = refl

-- ---- its record

pub may-close : (sub : Sub) → StandsAt 0 (top_of_sub sub) → MayClose sub
unfolding StandsAt
may-close Empty h = record { nibbles = tt; short = omega arith; shaped = no_node }
may-close (Leaf path value) h = record { nibbles = h.0; short = (let short = h.1 in omega arith); shaped = λ other. one_node (node.leaf path (value_of value)) other h.2 }
may-close (Branch digest used) h = record { nibbles = tt; short = omega arith; shaped = no_node }
may-close (Extension path child used) h = record { nibbles = h.0; short = (let short = h.1 in omega arith); shaped = λ other. one_node (node.extension path child.0) other h.2 }

-- a record that was made of it
pub record IsPending (sub : Sub) (closed : Closed) : Type 0 where
  pub name : Some closed.digest.0 ≡ top_digest (top_of_sub sub)
  pub used : closed.usage ≡ top_usage (top_of_sub sub)
  pub text : pending (top_of_sub sub) ≡ closed.text ∷ []
  pub digest : closed.digest.0 ≡ sha256 closed.text

pub closed-pending : (sub : Sub) (closed : Closed) → IfNone (top_node sub) (IsAbsent closed) → IfSome (top_node sub) (λ n. IsRecord closed n (usage_of sub)) → IsPending sub closed
unfolding pending own_cost
closed-pending Empty closed none written = absurd (not_absent closed none)
closed-pending (Branch digest used) closed none written = absurd (not_absent closed none)
closed-pending (Leaf path value) closed none written =
    let named = name-closed (Leaf path value) closed none written in
    record { name = named.digest ∙ digest-top (Leaf path value); used = named.usage ∙ usage-top (Leaf path value); text = ap (λ (t : List ℕ). t ∷ []) (sym written.text); digest = written.digest }
closed-pending (Extension path child used) closed none written =
    let named = name-closed (Extension path child used) closed none written in
    record { name = named.digest ∙ digest-top (Extension path child used); used = named.usage ∙ usage-top (Extension path child used); text = ap (λ (t : List ℕ). t ∷ []) (sym written.text); digest = written.digest }
