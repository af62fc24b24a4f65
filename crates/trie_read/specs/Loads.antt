-- What one load answers: a node that fits at a place, or the value that a node names.
use Rattle.std.specs.Prelude.{◌≡◌, ◌≢◌, IsSomeAnd, ℕ, Bool, List, length, None, Some, Result, Ok, Err, ⊤}
use Rattle.std.specs.Borrow.{Bor}
use Rattle.std.specs.FinMap.{get}
use Rattle.record_model.specs.Fits.{fitting_node}
use Rattle.trie_model.specs.Root.{Table}
use Rattle.base_core.specs.declared.hash.Digest.{Digest}
use Rattle.node_codec.specs.declared.value_ref.ValueRef.{ValueRef}
use Rattle.node_codec.specs.declared.node_view.NodeView.{NodeView}
use Rattle.node_codec.specs.Views.{node_viewed}
use Rattle.trie_read.specs.declared.errors.ReadError.{ReadError}
use Rattle.trie_read.specs.declared.errors.ReadError.TheVariants.{Missing, Bad, Fault}

-- the text under the digest, or there is none
abbrev pub AnswersText : Table → Digest → Result (Bor (List ℕ)) ReadError → Type 0
AnswersText table digest (Ok text) = get table digest.0 ≡ Some text.now
AnswersText table digest (Err (Missing named)) = (named ≡ digest) × (get table digest.0 ≡ None)
AnswersText table digest (Err (Bad named)) = ⊥
AnswersText table digest (Err Fault) = ⊤

-- the node that the text holds for the place, or it holds none
abbrev pub AnswersFitting : List ℕ → Digest → ℕ → Bool → Result (NodeView × ℕ) ReadError → Type 0
AnswersFitting text digest depth after_extension (Ok found) = fitting_node depth after_extension text ≡ Some (node_viewed found.0, found.1)
AnswersFitting text digest depth after_extension (Err error) = (error ≡ Bad digest) × (fitting_node depth after_extension text ≡ None)

-- why no node was read
abbrev pub IsStopped : Table → Digest → ℕ → Bool → ReadError → Type 0
IsStopped table digest depth after_extension (Missing named) = (named ≡ digest) × (get table digest.0 ≡ None)
IsStopped table digest depth after_extension (Bad named) = (named ≡ digest) × IsSomeAnd (get table digest.0) (λ text. fitting_node depth after_extension text ≡ None)
IsStopped table digest depth after_extension Fault = ⊤

-- The text is the value that is named, or there is no text, or one of another length.
abbrev pub AnswersValue : Table → ValueRef → Result (Bor (List ℕ)) ReadError → Type 0
AnswersValue table ref (Ok text) = (get table ref.digest.0 ≡ Some text.now) × (length text.now ≡ ref.length)
AnswersValue table ref (Err (Missing named)) = (named ≡ ref.digest) × (get table ref.digest.0 ≡ None)
AnswersValue table ref (Err (Bad named)) = (named ≡ ref.digest) × IsSomeAnd (get table ref.digest.0) (λ text. length text ≢ ref.length)
AnswersValue table ref (Err Fault) = ⊤
