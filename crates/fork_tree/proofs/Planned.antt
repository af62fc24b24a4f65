-- Plans of moves, and answers where there is none.
use Rattle.std.proofs.Common.{◌≡◌, ℕ, ◌<◌, Bool, true, false, List, [], ◌∷◌, length, map, drop, Some, Result, Ok, Err, ◌↔◌, refl, sym, ◌∙◌, subst, arith}
use Rattle.std.specs.List.{remove}
use Rattle.std.specs.Result.{IsErrAnd}
use Rattle.std.proofs.lemmas.Bool.{true≢false}
use Rattle.base_core.specs.declared.hash.Digest.{Digest}
use Rattle.fork_model.specs.Trees.{BlockTree, IsTree, dropped, is_live, line, passed}
use Rattle.fork_model.proofs.Passed.{line-passed}
use Rattle.fork_model.proofs.Told.{found_live}
use Rattle.fork_tree.specs.declared.errors.MoveError.{MoveError}
use Rattle.fork_tree.specs.declared.errors.MoveError.TheVariants.{NoMemory, NotLive}
use Rattle.fork_tree.specs.declared.ids.Move.{Move}
use Rattle.fork_tree.specs.declared.block.Block.{Block}
use Rattle.fork_tree.specs.Answers.{IsPlan}
use Rattle.fork_tree.specs.Kept.{IsKept, headers, id_at, placed}
use Rattle.fork_tree.proofs.Before.{block_of-id, id-at}
use Rattle.fork_tree.proofs.Kept.{placed-at}

-- the id that stands at the place that the table has
pub place-id : (blocks : List Block) (entries : List (Digest × ℕ)) (kept : IsKept blocks entries) (q : List ℕ) (place : ℕ) → Some place ≡ placed entries q → id_at blocks place ≡ q
place-id blocks entries kept q place at =
    let s = placed-at blocks entries kept q place at in
    id-at blocks place s.block s.is ∙ sym (block_of-id (headers blocks) q s.block s.found)

-- want of memory, and a plan, are not the answer that an id is not live
not_that : (given : MoveError) → given ≡ NoMemory → (r : Result Move MoveError) → r ≡ Err given → r ≡ Err NotLive → ⊥
not_that given e r is same = cc

not_ok : (m : Move) (r : Result Move MoveError) → r ≡ Ok m → r ≡ Err NotLive → ⊥
not_ok m r is same = cc

pub passed_on : (result : Result Move MoveError) (live : Bool) → IsErrAnd result (λ given. given ≡ NoMemory) → live ≡ true → (result ≡ Err NotLive) ↔ (live ≡ false)
passed_on (Ok m) live e is = absurd e
passed_on (Err given) live e is = (λ same. absurd (not_that given e (Err given) refl same), λ dead. absurd (true≢false (sym is ∙ dead)))

pub answered : (m : Move) (live : Bool) → live ≡ true → (Ok m ≡ Err NotLive) ↔ (live ≡ false)
answered m live is = (λ same. absurd (not_ok m (Ok m) refl same), λ dead. absurd (true≢false (sym is ∙ dead)))

-- a line has the head, and is told without it
pub line_some : (tree : BlockTree) → IsTree tree → (id : List ℕ) → is_live tree id ≡ true → (ids : List Digest) → map (λ (k : Digest). k.0) ids ≡ line tree id → 0 < length ids
line_some tree is id live [] e = let b = found_live _ live in absurd (none (e ∙ line-passed tree is id b.0 b.1))
  where
    none : [] ≡ tree.head ∷ passed tree id → ⊥
    none e = cc
line_some tree is id live (k ∷ ids) e = omega arith

-- what is left of a list without its first
pub removed-first : (ids : List Digest) → map (λ (k : Digest). k.0) (remove ids 0) ≡ drop 1 (map (λ (k : Digest). k.0) ids)
removed-first [] = refl
removed-first (k ∷ ids) = refl

pub plan-is : (tree now : BlockTree) (id : List ℕ) (plan : Move) → tree ≡ now → is_live tree id ≡ true → plan.passed ≡ drop 1 (line tree id) → plan.dropped ≡ dropped tree id → IsPlan now id plan
unfolding passed
plan-is tree now id plan same live e f = subst (λ t. IsPlan t id plan) same (record { live = live; passed = e; dropped = f })
