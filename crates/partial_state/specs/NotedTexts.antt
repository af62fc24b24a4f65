-- What is told of texts that were noted, and of the digests under which they were loaded.
use Rattle.std.specs.Prelude.{◌≡◌, ◌⊎◌, ℕ, nat_eq, true, List, [], ◌∷◌}
use Rattle.std.specs.List.{list_any}
use Rattle.std.specs.Cmp.Lexicographic.{pointwise}
use Rattle.std.specs.FinSet.{empty, insert}
use Rattle.sha2.specs.Sha256.{sha256}
use Rattle.partial_model.specs.Texts.{SetOfTexts, with_text, texts_in}
use Rattle.base_core.specs.declared.hash.Digest.{Digest}
use Rattle.text_store.specs.Store.{Digests}

-- the digests of some texts
unfoldable pub digests_of : List (List ℕ) → Digests
digests_of [] = empty
digests_of (t ∷ ts) = insert (digests_of ts) (sha256 t)

-- A text of the set has this digest.
abbrev pub IsDigestOf : SetOfTexts → List ℕ → Type 0
IsDigestOf set digest = insert (digests_of (texts_in set)) digest ≡ digests_of (texts_in set)

-- each of these digests is one of a text of the set
abbrev pub AreDigestsOf : SetOfTexts → List Digest → Type 0
AreDigestsOf set digests = (digest : Digest) → list_any (λ d. pointwise nat_eq digest.0 d.0) digests ≡ true → IsDigestOf set digest.0

-- A text is put into a set, unless a text of its digest was there.
abbrev pub IsPut : SetOfTexts → SetOfTexts → List ℕ → Type 0
IsPut old new text = (new ≡ with_text old text) ⊎ ((new ≡ old) × IsDigestOf old (sha256 text))
