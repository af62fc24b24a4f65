-- A load of a text of a partial state.
use Rattle.std.proofs.Common.{◌≡◌, ◌≢◌, ℕ, zero, suc, Bool, true, false, cond, nat_eq, List, [], ◌∷◌, map, get_or, slice_get, position, Option, None, Some, is_some, Ok, inl, inr, refl, sym, ap, ◌∙◌}
use Rattle.std.specs.Option.{option_map}
use Rattle.std.specs.Map.{lookup, keys_of}
use Rattle.std.specs.FinMap.{get}
use Rattle.std.specs.FinSet.{insert}
use Rattle.std.specs.Cmp.Lexicographic.{pointwise, bytes_decides}
use Rattle.std.proofs.lemmas.List.Quantifiers.{position-Some}
use Rattle.indexmap.specs.IndexMap.{set_value_at}
use Rattle.sha2.specs.Sha256.{sha256}
use Rattle.trie_model.proofs.Members.{IsIn, in_map_from, in-map, all_at}
use Rattle.base_core.specs.declared.hash.Digest.{Digest}
use Rattle.base_core.specs.Faults.{risen}
use Rattle.text_store.specs.declared.marked.Marked.{Marked}
use Rattle.text_store.specs.Loading.{Loaded}
use Rattle.text_store.specs.PartialStates.{PartialState, partial_store, table_of, texts_held, digests_used, AreHeld}
use Rattle.text_store.proofs.PartialTables.{table-found, table-missing}
use Rattle.text_store.proofs.Marks.{texts-marked, used-marked, text-at}

abbrev pub is_key : List ℕ → Digest → Bool
is_key q k = pointwise nat_eq q k.0

-- ---- the entry of a digest

entry_at : (es : List (Digest × Marked)) (i : ℕ) (d : Digest) (m : Marked) → slice_get (map (λ e. e.1) es) i ≡ Some m → slice_get es i ≡ Some (get_or (keys_of es) i d, m)
entry_at [] i d m e = cc
entry_at (x ∷ es) zero d m e = ap (λ (o : Option Marked). option_map (λ n. (x.0, n)) o) e
entry_at (x ∷ es) (suc i) d m e = entry_at es i d m e

pub record IsEntry (es : List (Digest × Marked)) (q : List ℕ) (i : ℕ) (m : Marked) : Type 0 where
  pub key : Digest
  pub at : slice_get es i ≡ Some (key, m)
  pub named : key.0 ≡ q

pub entry_found : (es : List (Digest × Marked)) (q : List ℕ) (i : ℕ) (m : Marked) → Some i ≡ position (is_key q) (keys_of es) → slice_get (map (λ e. e.1) es) i ≡ Some m → IsEntry es q i m
entry_found es q i m e at =
    let d : Digest = record { 0 = q } in
    record {
      key = get_or (keys_of es) i d;
      at = entry_at es i d m at;
      named = sym ((bytes_decides q (get_or (keys_of es) i d).0).0 (position-Some (is_key q) (keys_of es) i d (sym e)).1);
    }

in_at : (es : List (Digest × Marked)) (i : ℕ) (e : Digest × Marked) → slice_get es i ≡ Some e → IsIn es e
in_at [] i e h = cc
in_at (x ∷ es) zero e h = inl (the_one x e h)
  where
    the_one : (y z : Digest × Marked) → Some y ≡ Some z → y ≡ z
    the_one y z k = cc k
in_at (x ∷ es) (suc i) e h = inr (in_at es i e h)

pub value_found : (es : List (Digest × Marked)) (q : List ℕ) (i : ℕ) (m : Marked) → AreHeld es → IsEntry es q i m → get (table_of (texts_held es)) q ≡ Some m.text
value_found es q i m held entry =
    let within : IsIn es (entry.key, m) = in_at es i (entry.key, m) entry.at in
    let named : entry.key.0 ≡ sha256 m.text = all_at (λ e. e.0.0 ≡ sha256 e.1.text) es (entry.key, m) held.named within in
    ap (get (table_of (texts_held es))) (sym entry.named ∙ named) ∙ table-found (texts_held es) m.text held.apart (in-map (λ e. e.1.text) es (entry.key, m) within)

-- ---- no entry

no_entry : (es : List (Digest × Marked)) (q : List ℕ) → false ≡ is_some (lookup (is_key q) es) → (e : Digest × Marked) → IsIn es e → e.0.0 ≢ q
no_entry [] q none e h = absurd h
no_entry (x ∷ es) q none e h = go (is_key q x.0) refl none h (no_entry es q)
  where
    differ : false ≡ true → ⊥
    differ k = cc

    go : (b : Bool) → is_key q x.0 ≡ b → false ≡ is_some (cond b (Some x.1) (lookup (is_key q) es)) → IsIn (x ∷ es) e → (false ≡ is_some (lookup (is_key q) es) → (f : Digest × Marked) → IsIn es f → f.0.0 ≢ q) → e.0.0 ≢ q
    go true k n within rest = absurd (differ n)
    go false k n (inl is) rest = λ same. differ (sym k ∙ (bytes_decides q x.0.0).1 (sym (ap (λ (y : Digest × Marked). y.0.0) is ∙ same)))
    go false k n (inr within) rest = rest n e within

pub value_missing : (es : List (Digest × Marked)) (q : List ℕ) → AreHeld es → false ≡ is_some (lookup (is_key q) es) → None ≡ get (table_of (texts_held es)) q
value_missing es q held none = sym (table-missing (texts_held es) q (λ t h same.
    let from = in_map_from (λ e. e.1.text) es t h in
    no_entry es q none from.0 from.1 (all_at (λ e. e.0.0 ≡ sha256 e.1.text) es from.0 held.named from.1 ∙ ap sha256 from.2 ∙ sym same)))

-- ---- what a load leaves

abbrev seen_as : List (Digest × Marked) → ℕ → PartialState
seen_as es loads = record { texts = texts_held es; kept = digests_used es; loads = loads }

pub loaded_text : (old : PartialState) (es : List (Digest × Marked)) (loads after : ℕ) (q : List ℕ) (i : ℕ) (m : Marked) {X E : Type 0} (x : X) → record { texts = texts_held es; kept = digests_used es; loads = loads } ≡ old → after ≡ risen loads 1 → IsEntry es q i m
    → Loaded {E = E} partial_store old (record { texts = texts_held (set_value_at es i (record m { used = true })); kept = digests_used (set_value_at es i (record m { used = true })); loads = after }) q (Ok (Some x))
loaded_text old es loads after q i m x seen rose entry = record {
  same = ap (λ s. s.texts) (sym seen) ∙ sym (texts-marked es i entry.key m entry.at);
  loaded = rose ∙ ap (λ s. risen s.loads 1) seen;
  failed = record { same = refl; rose = tt };
  remembered = used-marked es i entry.key m entry.at ∙ (λ j. insert ((seen j).kept) (entry.named j));
}

pub loaded_none : (old : PartialState) (es : List (Digest × Marked)) (loads after : ℕ) (q : List ℕ) {X E : Type 0} → record { texts = texts_held es; kept = digests_used es; loads = loads } ≡ old → after ≡ risen loads 1
    → Loaded {A = X} {E = E} partial_store old (record { texts = texts_held es; kept = digests_used es; loads = after }) q (Ok None)
loaded_none old es loads after q seen rose = record {
  same = ap (λ s. s.texts) (sym seen);
  loaded = rose ∙ ap (λ s. risen s.loads 1) seen;
  failed = record { same = refl; rose = tt };
  remembered = ap (λ s. Some s.kept) seen;
}

-- the text of an entry stays when it is marked
pub text_marked : (es : List (Digest × Marked)) (q : List ℕ) (i : ℕ) (m n : Marked) → IsEntry es q i m → slice_get (map (λ e. e.1) (set_value_at es i (record m { used = true }))) i ≡ Some n → n.text ≡ m.text
text_marked es q i m n entry at =
    the_one n.text m.text (sym (text-at (set_value_at es i (record m { used = true })) i n at) ∙ ap (λ (ts : List (List ℕ)). slice_get ts i) (texts-marked es i entry.key m entry.at) ∙ text_of es i entry.at)
  where
    the_one : (y z : List ℕ) → Some y ≡ Some z → y ≡ z
    the_one y z k = cc k

    text_of : (fs : List (Digest × Marked)) (j : ℕ) → slice_get fs j ≡ Some (entry.key, m) → slice_get (texts_held fs) j ≡ Some m.text
    text_of [] j k = cc
    text_of (x ∷ fs) zero k = ap (λ (o : Option (Digest × Marked)). option_map (λ e. e.1.text) o) k
    text_of (x ∷ fs) (suc j) k = text_of fs j k
