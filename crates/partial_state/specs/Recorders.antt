-- What is told of a store whose loads are noted.
use Rattle.std.specs.Prelude.{◌≡◌, ◌≢◌, ◌⊎◌, ℕ, true, List, Option, None, Some, Result, Ok, Err, if◌then◌else◌}
use Rattle.std.specs.Borrow.{Bor, GName}
use Rattle.std.specs.FinMap.{get}
use Rattle.sha2.specs.Sha256.{sha256}
use Rattle.trie_model.specs.Root.{Table, zero_digest}
use Rattle.partial_model.specs.Texts.{SetOfTexts, texts_in}
use Rattle.text_store.specs.Store.{Digests, Store}
use Rattle.partial_state.specs.NotedTexts.{digests_of, IsPut}
use Rattle.partial_state.specs.declared.noting.Notes.{Notes}

abbrev pub noted_digests : Notes → Digests
noted_digests notes = digests_of (texts_in notes.texts)

-- The digests of the noted texts are told while no note is missing.
abbrev pub kept_by : Notes → Option Digests
kept_by notes = if notes.short then None else Some (noted_digests notes)

-- Each of these texts is the one that the table has under its digest, which is not the zero one.
pub record AreTexts (table : Table) (set : SetOfTexts) : Type 0 where
  pub held : (text : List ℕ) → get set text ≡ Some tt → get table (sha256 text) ≡ Some text
  pub nonzero : (text : List ℕ) → get set text ≡ Some tt → sha256 text ≢ zero_digest

-- A text is noted, or the notes are short from now on.
abbrev pub IsNoted : Notes → Notes → List ℕ → Type 0
IsNoted old new text = ((new ≡ record old { texts = new.texts }) × IsPut old.texts new.texts text) ⊎ (new ≡ record old { short = true })

-- what a load makes of the notes, by what it answers
abbrev pub NotesLoad : {E : Type 0} → Notes → Notes → Result (Option (Bor (List ℕ))) E → Type 0
NotesLoad old new (Ok (Some found)) = IsNoted old new found.now
NotesLoad old new (Ok None) = new ≡ old
NotesLoad old new (Err fault) = new ≡ old

-- The store behind a reference, which stays the same reference.
abbrev pub store_behind : {S T : Type 0} → Store T → (S → T) → (S → GName) → Store S
store_behind store below name = record {
  texts = λ s. store.texts (below s);
  loads = λ s. store.loads (below s);
  faults = λ s. store.faults (below s);
  kept = λ s. store.kept (below s);
  alike = λ a b. (name a ≡ name b) × store.alike (below a) (below b);
}

-- The store, with nothing told of the digests that it keeps.
abbrev pub untold : {S : Type 0} → Store S → Store S
untold store = record store { kept = λ _. None }

-- A store whose loads are noted: the notes stay texts of the store.
abbrev pub noting_store : {S T : Type 0} → Store T → (S → T) → (S → Notes) → Store S
noting_store store below notes = record {
  texts = λ s. store.texts (below s);
  loads = λ s. store.loads (below s);
  faults = λ s. store.faults (below s);
  kept = λ s. kept_by (notes s);
  alike = λ a b. store.alike (below a) (below b) × (AreTexts (store.texts (below a)) (notes a).texts → AreTexts (store.texts (below b)) (notes b).texts);
}
