-- What is seen at a place, by the text that is held there.
use Rattle.std.proofs.Common.{◌≡◌, ℕ, ◌*◌, ◌≤◌, Bool, true, List, length, Option, None, Some, Err, refl, sym, ◌∙◌, subst, arith}
use Rattle.std.specs.Prelude.{IsSomeAnd}
use Rattle.std.specs.FinMap.{get}
use Rattle.byte_model.specs.Nibbles.{nibbles}
use Rattle.byte_model.specs.PackedPath.{longest_path}
use Rattle.byte_model.specs.Node.{Node}
use Rattle.byte_model.proofs.Digits.{length-nibbles}
use Rattle.record_model.specs.Records.{record_in}
use Rattle.record_model.specs.Fits.{fits_at, fitting_node}
use Rattle.record_model.proofs.Fitting.{record_fits}
use Rattle.trie_model.specs.Root.{Table}
use Rattle.trie_model.specs.State.{longest_key}
use Rattle.visit_model.specs.Seen.{seen_at, seen_node, seen_text, seen_record}
use Rattle.visit_model.proofs.SeenTexts.{seen-held}
use Rattle.base_core.specs.declared.hash.Digest.{Digest}
use Rattle.trie_read.specs.declared.errors.ReadError.{ReadError}
use Rattle.trie_read.specs.declared.errors.ReadError.TheVariants.{Missing, Bad, Fault}
use Rattle.trie_read.specs.Loads.{AnswersText, AnswersFitting, IsStopped}

-- a depth on a key's path is one at which something may fit
pub within_key : (key : List ℕ) (depth : ℕ) → depth ≤ length (nibbles key) → length key ≤ longest_key → depth ≤ longest_path
within_key key depth deep short =
    let count : length (nibbles key) ≡ 2 * length key = length-nibbles key in
    omega arith

-- ---- of a record that was read

-- ---- of what is held

-- a node that fits is seen
pub record SeesNode (table : Table) (depth : ℕ) (after_extension : Bool) (digest : List ℕ) (n : Node) (usage : ℕ) : Type 0 where
  pub seen : seen_at table depth after_extension digest ≡ seen_node (seen_at table) depth digest n usage
  pub fits : fits_at depth after_extension n ≡ true

pub sees-node : (table : Table) (depth : ℕ) (after_extension : Bool) (digest : List ℕ) (n : Node) (usage : ℕ) → depth ≤ longest_path → IsSomeAnd (get table digest) (λ text. fitting_node depth after_extension text ≡ Some (n, usage)) → SeesNode table depth after_extension digest n usage
unfolding seen_text seen_record
sees-node table depth after_extension digest n usage deep = go (get table digest) refl
  where
    go : (held : Option (List ℕ)) → get table digest ≡ held → IsSomeAnd held (λ text. fitting_node depth after_extension text ≡ Some (n, usage)) → SeesNode table depth after_extension digest n usage
    go None e h = absurd h
    go (Some text) e h =
        let read = record_fits depth after_extension (record_in text) n usage h in
        record {
          seen = seen-held table depth after_extension digest (Some text) deep e ∙ rw (read.0, read.1) refl;
          fits = read.1;
        }

-- ---- of what a load answered

pub held-node : (table : Table) (depth : ℕ) (after_extension : Bool) (digest text : List ℕ) (found : Option (Node × ℕ)) → get table digest ≡ Some text → fitting_node depth after_extension text ≡ found → IsSomeAnd (get table digest) (λ t. fitting_node depth after_extension t ≡ found)
held-node table depth after_extension digest text found held fits = subst (λ (o : Option (List ℕ)). IsSomeAnd o (λ t. fitting_node depth after_extension t ≡ found)) (sym held) fits

pub stopped-text : (table : Table) (digest : Digest) (depth : ℕ) (after_extension : Bool) (error : ReadError) → AnswersText table digest (Err error) → IsStopped table digest depth after_extension error
stopped-text table digest depth after_extension (Missing named) answer = answer
stopped-text table digest depth after_extension (Bad named) answer = absurd answer
stopped-text table digest depth after_extension Fault answer = tt

pub stopped-node : (table : Table) (digest : Digest) (depth : ℕ) (after_extension : Bool) (text : List ℕ) (error : ReadError) → get table digest.0 ≡ Some text → AnswersFitting text digest depth after_extension (Err error) → IsStopped table digest depth after_extension error
stopped-node table digest depth after_extension text error held answer =
    subst (IsStopped table digest depth after_extension) (sym answer.0) (refl, held-node table depth after_extension digest.0 text None held answer.1)
