-- The index: of each key the blocks that change it.
use Rattle.std.proofs.Common.{◌≡◌, ℕ, ◌+◌, ◌<◌, ◌≤◌, Bool, true, false, cond, ◌||◌, List, [], ◌∷◌, ◌++◌, length, drop, get_or, Option, None, Some, is_some, Vec, ◌⊎◌, inl, inr, refl, sym, ap, subst, ◌∙◌}
use Rattle.std.specs.Prelude.{nat_eq}
use Rattle.std.specs.Option.{option_and_then, option_copied, option_map, unwrap_or}
use Rattle.std.specs.List.{AllByRecursion, filter, list_any}
use Rattle.std.specs.Map.{KeepsOthers}
use Rattle.std.specs.Str.{bytes_eq}
use Rattle.std.specs.Cmp.Lexicographic.{bytes_decides, nat_list_cmp_total, pointwise, texts_ties}
use Rattle.std.proofs.lemmas.Bool.{false≢true}
use Rattle.std.proofs.lemmas.List.{at_drop_more, drop_all}
use Rattle.std.proofs.lemmas.List.Folds.{list_any-append}
use Rattle.std.specs.FinMap.{entries, find, get, insert, get-entries, get-insert}
use Rattle.std.specs.declared.alloc.Global.{Global}
use Rattle.trie_model.specs.State.{State}
use Rattle.batch_model.specs.Changes.{Changes, after, decided}
use Rattle.batch_model.proofs.Laying.{get-after}
use Rattle.base_core.specs.ChangeMaps.{ChangeMap}
use Rattle.base_core.specs.declared.hash.Digest.{Digest}
use Rattle.base_core.proofs.ByteMaps.{order}
use Rattle.base_core.proofs.HashTables.{updated}
use Rattle.fork_model.specs.Trees.{BlockTree, IsTree, is_among, is_live, passed}
use Rattle.fork_model.proofs.Ids.{same_from, same-itself}
use Rattle.fork_model.proofs.Passed.{line-passed, passed-head}
use Rattle.fork_model.proofs.Told.{found_live}
use Rattle.fork_tree.specs.Nearest.{IsNearest}
use Rattle.flat_store.specs.Flats.{Deltas, FlatState, IsOnWay, delta_of, laid_over}
use Rattle.flat_store.specs.Kept.{AreListed, Batches, IsClear, Lists, StayListed, change_at, deltas_of, held, ids_in, is_newest, listed_at}
use Rattle.flat_store.proofs.Lookups.{change-delta, change-found, change-missing}
use Rattle.flat_store.proofs.Noting.{Row, shown}
use Rattle.flat_store.proofs.Tables.{batch_at, get-deltas, items_of, same_items}

-- ---- tests

or-true : (t : Bool) → (t || true) ≡ true
or-true true = refl
or-true false = refl

or-second : (t u : Bool) → u ≡ true → (t || u) ≡ true
or-second t u e = ap (λ x. t || x) e ∙ or-true t

-- ---- what is listed under a key

pub listed-found : (es : Lists) (key : List ℕ) (ids : Vec Digest Global) → held es key ≡ Some ids → listed_at es key ≡ ids_in ids.items
listed-found es key ids e = ap (λ (o : Option (Vec Digest Global)). unwrap_or (option_map (λ (v : Vec Digest Global). ids_in v.items) o) []) e

pub listed-missing : (es : Lists) (key : List ℕ) → held es key ≡ None → listed_at es key ≡ []
listed-missing es key e = ap (λ (o : Option (Vec Digest Global)). unwrap_or (option_map (λ (v : Vec Digest Global). ids_in v.items) o) []) e

-- whether a block has changes
pub held-deltas : (es : Batches) (q : List ℕ) → is_some (get (deltas_of es) q) ≡ is_some (batch_at es q)
held-deltas es q = ap is_some (get-deltas es q) ∙ by_case (batch_at es q)
  where
    by_case : (o : Option ChangeMap) → is_some (option_map (λ (m : ChangeMap). m.changes) o) ≡ is_some o
    by_case None = refl
    by_case (Some m) = refl

changed-held : (deltas : Deltas) (id key : List ℕ) → is_some (change_at deltas id key) ≡ true → is_some (get deltas id) ≡ true
changed-held deltas id key e = by_case (get deltas id) e
  where
    by_case : (o : Option Changes) → is_some (option_and_then (λ (changes : Changes). get changes key) o) ≡ true → is_some o ≡ true
    by_case None e = e
    by_case (Some c) e = refl

-- ---- one list

among-filter : (f : List ℕ → Bool) (ids : List Digest) (q : List ℕ) → f q ≡ true → is_among q (ids_in ids) ≡ true → is_among q (ids_in (filter (λ (d : Digest). f d.0) ids)) ≡ true
among-filter f [] q is e = e
among-filter f (d ∷ ids) q is e = by_tests (bytes_eq q d.0) (f d.0) refl refl e (among-filter f ids q is)
  where
    by_tests : (t u : Bool) → bytes_eq q d.0 ≡ t → f d.0 ≡ u → (t || is_among q (ids_in ids)) ≡ true → (is_among q (ids_in ids) ≡ true → is_among q (ids_in (filter (λ (d : Digest). f d.0) ids)) ≡ true)
        → is_among q (ids_in (cond u (d ∷ filter (λ (d : Digest). f d.0) ids) (filter (λ (d : Digest). f d.0) ids))) ≡ true
    by_tests true true et eu e rest = ap (λ t. t || is_among q (ids_in (filter (λ (d : Digest). f d.0) ids))) et
    by_tests true false et eu e rest = absurd (false≢true (sym eu ∙ ap f (sym (same_from q d.0 et)) ∙ is))
    by_tests false true et eu e rest = or-second (bytes_eq q d.0) _ (rest e)
    by_tests false false et eu e rest = rest e

pub kept-filter : (es : Batches) (ids now : List Digest) → now ≡ filter (λ (d : Digest). is_some (batch_at es d.0)) ids → (q : List ℕ) → is_some (get (deltas_of es) q) ≡ true → is_among q (ids_in ids) ≡ true → is_among q (ids_in now) ≡ true
kept-filter es ids now is q held e = ap (λ xs. is_among q (ids_in xs)) is ∙ among-filter (λ k. is_some (batch_at es k)) ids q (sym (held-deltas es q) ∙ held) e

ids-append : (xs ys : List Digest) → ids_in (xs ++ ys) ≡ ids_in xs ++ ids_in ys
ids-append [] ys = refl
ids-append (x ∷ xs) ys = ap (λ zs. x.0 ∷ zs) (ids-append xs ys)

pub among-pushed : (ids now : List Digest) (d : Digest) → now ≡ ids ++ d ∷ [] → is_among d.0 (ids_in now) ≡ true
among-pushed ids now d is =
    ap (λ xs. is_among d.0 (ids_in xs)) is ∙ ap (is_among d.0) (ids-append ids (d ∷ [])) ∙ list_any-append (bytes_eq d.0) (ids_in ids) (d.0 ∷ [])
    ∙ ap (λ t. is_among d.0 (ids_in ids) || (t || false)) (same-itself d.0) ∙ or-true (is_among d.0 (ids_in ids))

pub among-before : (ids now : List Digest) (d : Digest) (q : List ℕ) → now ≡ ids ++ d ∷ [] → is_among q (ids_in ids) ≡ true → is_among q (ids_in now) ≡ true
among-before ids now d q is e =
    ap (λ xs. is_among q (ids_in xs)) is ∙ ap (is_among q) (ids-append ids (d ∷ [])) ∙ list_any-append (bytes_eq q) (ids_in ids) (d.0 ∷ []) ∙ ap (λ t. t || (bytes_eq q d.0 || false)) e

-- ---- a list that is put under a key

module _ (deltas : Deltas) (es fs : Lists) (key : List ℕ) (ids : Vec Digest Global) (at : held fs key ≡ Some ids) where
  pub put-stay : KeepsOthers same_items (λ k. pointwise nat_eq key k.items) es fs → ((q : List ℕ) → is_some (get deltas q) ≡ true → is_among q (listed_at es key) ≡ true → is_among q (ids_in ids.items) ≡ true) → StayListed deltas es fs
  put-stay others keeps q k live on = by_test (pointwise nat_eq key k) refl
    where
      by_test : (t : Bool) → pointwise nat_eq key k ≡ t → is_among q (listed_at fs k) ≡ true
      by_test true same =
          let is : key ≡ k = (bytes_decides key k).0 same in
          ap (λ x. is_among q (listed_at fs x)) (sym is) ∙ ap (is_among q) (listed-found fs key ids at) ∙ keeps q live (ap (λ x. is_among q (listed_at es x)) is ∙ on)
      by_test false other =
          let there : held fs k ≡ held es k = updated items_of es fs key (Some ids) at others k ∙ ap (λ t. cond t (Some ids) (held es k)) other in
          ap (λ (o : Option (Vec Digest Global)). is_among q (unwrap_or (option_map (λ (v : Vec Digest Global). ids_in v.items) o) [])) there ∙ on

  pub put-listed : (q : List ℕ) → is_among q (ids_in ids.items) ≡ true → is_among q (listed_at fs key) ≡ true
  put-listed q e = ap (is_among q) (listed-found fs key ids at) ∙ e

-- under a key without a list no block is listed
pub none-stay : (es : Lists) (key q : List ℕ) {A : Type 0} → held es key ≡ None → is_among q (listed_at es key) ≡ true → A
none-stay es key q none e = absurd (false≢true (sym (ap (is_among q) (listed-missing es key none)) ∙ e))

module _ (deltas : Deltas) (es mid fs : Lists) (d key : List ℕ) (ids : Vec Digest Global) (same : mid ≡ es) (is : d ≡ key) (at : held fs d ≡ Some ids) where
  pub new-stay : held es key ≡ None → KeepsOthers same_items (λ k. pointwise nat_eq d k.items) mid fs → StayListed deltas es fs
  new-stay none others =
      put-stay deltas es fs d ids at (subst (λ (xs : Lists). KeepsOthers same_items (λ k. pointwise nat_eq d k.items) xs fs) same others) (λ q live on. none-stay es d q (ap (held es) is ∙ none) on)

  pub new-listed : (q : List ℕ) → is_among q (ids_in ids.items) ≡ true → is_among q (listed_at fs key) ≡ true
  new-listed q e = ap (λ k. is_among q (listed_at fs k)) (sym is) ∙ put-listed deltas es fs d ids at q e

-- ---- row by row

module _ (deltas : Deltas) (id : List ℕ) where
  abbrev pub AreListing : Lists → List Row → ℕ → Type 0
  AreListing lists rows i = (key : List ℕ) → is_some (find order key (shown rows)) ≡ true → (is_among id (listed_at lists key) || is_some (find order key (shown (drop i rows)))) ≡ true

  pub listing-start : (lists : Lists) (rows : List Row) → AreListing lists rows 0
  listing-start lists rows key some = or-second (is_among id (listed_at lists key)) _ some

  pub listing-step : (lists next : Lists) (rows : List Row) (i : ℕ) (d : Row) → i < length rows → is_some (get deltas id) ≡ true → AreListing lists rows i → StayListed deltas lists next
      → is_among id (listed_at next (get_or rows i d).0.now) ≡ true → AreListing next rows (i + 1)
  listing-step lists next rows i d within live is stay here key some = by_tests (is_among id (listed_at lists key)) refl (sym (at_drop_more (λ xs. is_among id (listed_at lists key) || is_some (find order key (shown xs))) rows i d within) ∙ is key some)
    where
      row : Row
      row = get_or rows i d

      behind : Bool
      behind = is_some (find order key (shown (drop (i + 1) rows)))

      by_key : (t : Bool) → bytes_eq key row.0.now ≡ t → is_some (cond t (Some (option_copied row.1)) (find order key (shown (drop (i + 1) rows)))) ≡ true → (is_among id (listed_at next key) || is_some (find order key (shown (drop (i + 1) rows)))) ≡ true
      by_key true same e =
          ap (λ t. t || is_some (find order key (shown (drop (i + 1) rows)))) (ap (λ k. is_among id (listed_at next k)) (same_from key row.0.now same) ∙ here)
      by_key false other e = or-second (is_among id (listed_at next key)) _ e

      by_tests : (t : Bool) → is_among id (listed_at lists key) ≡ t → (is_among id (listed_at lists key) || is_some (find order key (shown (row ∷ drop (i + 1) rows)))) ≡ true → (is_among id (listed_at next key) || is_some (find order key (shown (drop (i + 1) rows)))) ≡ true
      by_tests true e all = ap (λ t. t || is_some (find order key (shown (drop (i + 1) rows)))) (stay id key live e)
      by_tests false e all =
          by_key (bytes_eq key row.0.now) refl
          (ap (λ t. is_some (cond t (Some (option_copied row.1)) (find order key (shown (drop (i + 1) rows))))) (texts_ties key row.0.now) ∙ sym (ap (λ t. t || is_some (find order key (shown (row ∷ drop (i + 1) rows)))) e) ∙ all)

  pub listing-end : (lists : Lists) (rows : List Row) (i : ℕ) → length rows ≤ i → AreListing lists rows i → (key : List ℕ) → is_some (find order key (shown rows)) ≡ true → is_among id (listed_at lists key) ≡ true
  listing-end lists rows i past is key some = last (is_among id (listed_at lists key)) (sym (ap (λ xs. is_among id (listed_at lists key) || is_some (find order key (shown xs))) (drop_all i rows past)) ∙ is key some)
    where
      last : (t : Bool) → (t || false) ≡ true → t ≡ true
      last true e = refl
      last false e = e

-- what a block's table of changes tells
pub changes-listed : (es : Batches) (id : List ℕ) (m : ChangeMap) (rows : List Row) (lists : Lists) → Some m ≡ batch_at es id → shown rows ≡ entries m.changes
    → ((key : List ℕ) → is_some (find order key (shown rows)) ≡ true → is_among id (listed_at lists key) ≡ true) → (key : List ℕ) → is_some (change_at (deltas_of es) id key) ≡ true → is_among id (listed_at lists key) ≡ true
changes-listed es id m rows lists at same told key some =
    told key (ap (λ xs. is_some (find order key xs)) same ∙ ap is_some (sym (get-entries m.changes key)) ∙ ap is_some (sym (change-found es id key m (sym at))) ∙ some)

pub waits-told : (es : Batches) (d : Digest) (key : List ℕ) (m : ChangeMap) (answer : Bool) → Some m ≡ batch_at es d.0 → answer ≡ is_some (get m.changes key) → answer ≡ false → (id : List ℕ) → bytes_eq id d.0 ≡ true → is_some (change_at (deltas_of es) id key) ≡ false
waits-told es d key m answer at told is_false id same =
    ap (λ k. is_some (change_at (deltas_of es) k key)) (same_from id d.0 same) ∙ ap is_some (change-found es d.0 key m (sym at)) ∙ sym told ∙ is_false

pub waits-none : (es : Batches) (d : Digest) (key : List ℕ) → None ≡ batch_at es d.0 → (id : List ℕ) → bytes_eq id d.0 ≡ true → is_some (change_at (deltas_of es) id key) ≡ false
waits-none es d key at id same = ap (λ k. is_some (change_at (deltas_of es) k key)) (same_from id d.0 same) ∙ ap is_some (change-missing es d.0 key (sym at))

pub some-mapped : {X Y : Type 0} (f : X → Y) (o : Option X) → is_some o ≡ is_some (option_map f o)
some-mapped f None = refl
some-mapped f (Some x) = refl

pub block-held : (es : Batches) (id : List ℕ) (m : ChangeMap) → Some m ≡ batch_at es id → is_some (get (deltas_of es) id) ≡ true
block-held es id m at = held-deltas es id ∙ ap is_some (sym at)

pub no-changes : (es : Batches) (id key : List ℕ) {A : Type 0} → None ≡ batch_at es id → is_some (change_at (deltas_of es) id key) ≡ true → A
no-changes es id key at some = absurd (false≢true (sym (ap is_some (change-missing es id key (sym at))) ∙ some))

-- ---- the index

pub settled-some : (deltas : Deltas) (old new : Lists) (d : Digest) → StayListed deltas old new → ((key : List ℕ) → is_some (change_at deltas d.0 key) ≡ true → is_among d.0 (listed_at new key) ≡ true) → AreListed (Some d) deltas old → AreListed None deltas new
settled-some deltas old new d stay told is id key some = by_test (bytes_eq id d.0) refl (is id key some)
  where
    by_test : (t : Bool) → bytes_eq id d.0 ≡ t → (bytes_eq id d.0 || is_among id (listed_at old key)) ≡ true → is_among id (listed_at new key) ≡ true
    by_test true same e =
        let is_it : id ≡ d.0 = same_from id d.0 same in
        ap (λ k. is_among k (listed_at new key)) is_it ∙ told key (ap (λ k. is_some (change_at deltas k key)) (sym is_it) ∙ some)
    by_test false other e = stay id key (changed-held deltas id key some) (sym (ap (λ t. t || is_among id (listed_at old key)) other) ∙ e)

-- where the newest does not change a key, each block that does is listed
pub unless-newest : (newest : Option Digest) (deltas : Deltas) (lists : Lists) (id key : List ℕ) → AreListed newest deltas lists → (is_newest newest id ≡ true → is_some (change_at deltas id key) ≡ false) → is_some (change_at deltas id key) ≡ true → is_among id (listed_at lists key) ≡ true
unless-newest newest deltas lists id key is other some = by_test (is_newest newest id) refl (is id key some)
  where
    by_test : (t : Bool) → is_newest newest id ≡ t → (is_newest newest id || is_among id (listed_at lists key)) ≡ true → is_among id (listed_at lists key) ≡ true
    by_test true same e = absurd (false≢true (sym (other same) ∙ some))
    by_test false apart e = sym (ap (λ t. t || is_among id (listed_at lists key)) apart) ∙ e

-- one block more
pub listed-added : (deltas : Deltas) (d : Digest) (changes : Changes) (lists : Lists) → AreListed None deltas lists → AreListed (Some d) (insert deltas d.0 changes) lists
listed-added deltas d changes lists is id key some = by_test (bytes_eq id d.0) refl (sym (ap (λ (o : Option Changes). is_some (option_and_then (λ (changes : Changes). get changes key) o)) at) ∙ some)
  where
    at : get (insert deltas d.0 changes) id ≡ cond (bytes_eq id d.0) (Some changes) (get deltas id)
    at = get-insert nat_list_cmp_total deltas d.0 changes id ∙ ap (λ b. cond b (Some changes) (get deltas id)) (sym (texts_ties id d.0))

    by_test : (t : Bool) → bytes_eq id d.0 ≡ t → is_some (option_and_then (λ (changes : Changes). get changes key) (cond t (Some changes) (get deltas id))) ≡ true → (bytes_eq id d.0 || is_among id (listed_at lists key)) ≡ true
    by_test true same e = ap (λ t. t || is_among id (listed_at lists key)) same
    by_test false other e = or-second (bytes_eq id d.0) _ (is id key e)

-- fewer deltas, and what is listed stays
pub listed-fewer : (newest : Option Digest) (first now : Deltas) (old new : Lists) → ((id : List ℕ) → is_some (get now id) ≡ true → get first id ≡ get now id) → StayListed now old new → AreListed newest first old → AreListed newest now new
listed-fewer newest first now old new same stay is id key some = by_test (is_newest newest id) refl (is id key (ap (λ (o : Option Changes). is_some (option_and_then (λ (changes : Changes). get changes key) o)) (same id live) ∙ some))
  where
    live : is_some (get now id) ≡ true
    live = changed-held now id key some

    by_test : (t : Bool) → is_newest newest id ≡ t → (is_newest newest id || is_among id (listed_at old key)) ≡ true → (is_newest newest id || is_among id (listed_at new key)) ≡ true
    by_test true same e = ap (λ t. t || is_among id (listed_at new key)) same
    by_test false other e = or-second (is_newest newest id) _ (stay id key live (sym (ap (λ t. t || is_among id (listed_at old key)) other) ∙ e))

-- ---- keys go whose lists have no block with changes

any-among : (f : List ℕ → Bool) (xs : List (List ℕ)) (q : List ℕ) → is_among q xs ≡ true → f q ≡ true → list_any f xs ≡ true
any-among f [] q e is = e
any-among f (x ∷ xs) q e is = by_test (bytes_eq q x) refl e (λ on. any-among f xs q on is)
  where
    by_test : (t : Bool) → bytes_eq q x ≡ t → (t || is_among q xs) ≡ true → (is_among q xs ≡ true → list_any f xs ≡ true) → (f x || list_any f xs) ≡ true
    by_test true same e rest = ap (λ t. t || list_any f xs) (ap f (sym (same_from q x same)) ∙ is)
    by_test false other e rest = or-second (f x) _ (rest e)

module _ (deltas : Deltas) where
  abbrev pub has_held : Vec Digest Global → Bool
  has_held ids = list_any (λ id. is_some (get deltas id)) (ids_in ids.items)

  found-swept : (es : Lists) (key : List ℕ) (ids : Vec Digest Global) → held es key ≡ Some ids → has_held ids ≡ true → held (filter (λ e. has_held e.1) es) key ≡ Some ids
  found-swept [] key ids e is = e
  found-swept (x ∷ es) key ids e is = by_tests (pointwise nat_eq key x.0.items) (has_held x.1) refl refl e (λ rest. found-swept es key ids rest is)
    where
      one : x.1 ≡ ids → has_held x.1 ≡ true
      one same = ap has_held same ∙ is

      by_tests : (t u : Bool) → pointwise nat_eq key x.0.items ≡ t → has_held x.1 ≡ u → cond t (Some x.1) (held es key) ≡ Some ids → (held es key ≡ Some ids → held (filter (λ e. has_held e.1) es) key ≡ Some ids)
          → held (cond u (x ∷ filter (λ e. has_held e.1) es) (filter (λ e. has_held e.1) es)) key ≡ Some ids
      by_tests true true et eu e rest = ap (λ t. cond t (Some x.1) (held (filter (λ e. has_held e.1) es) key)) et ∙ e
      by_tests true false et eu e rest = absurd (false≢true (sym eu ∙ one (let same : x.1 ≡ ids = cc in same)))
      by_tests false true et eu e rest = ap (λ t. cond t (Some x.1) (held (filter (λ e. has_held e.1) es) key)) et ∙ rest e
      by_tests false false et eu e rest = rest e

  pub swept-stay : (es fs : Lists) → fs ≡ filter (λ e. has_held e.1) es → StayListed deltas es fs
  swept-stay es fs is q key live on = by_case (held es key) refl
    where
      by_case : (o : Option (Vec Digest Global)) → held es key ≡ o → is_among q (listed_at fs key) ≡ true
      by_case None e = none-stay es key q e on
      by_case (Some ids) e =
          let on_list : is_among q (ids_in ids.items) ≡ true = sym (ap (is_among q) (listed-found es key ids e)) ∙ on in
          let there : held fs key ≡ Some ids = ap (λ (xs : Lists). held xs key) is ∙ found-swept es key ids e (any-among (λ id. is_some (get deltas id)) (ids_in ids.items) q on_list live) in
          ap (is_among q) (listed-found fs key ids there) ∙ on_list

-- ---- block by block

pub any-step : (f : List ℕ → Bool) (ids : List Digest) (i : ℕ) (d : Digest) → i < length ids → f (get_or ids i d).0 ≡ false → list_any f (ids_in ids) ≡ list_any f (ids_in (drop i ids)) → list_any f (ids_in ids) ≡ list_any f (ids_in (drop (i + 1) ids))
any-step f ids i d within none is = is ∙ at_drop_more (λ xs. list_any f (ids_in xs)) ids i d within ∙ ap (λ t. t || list_any f (ids_in (drop (i + 1) ids))) none

pub any-here : (f : List ℕ → Bool) (ids : List Digest) (i : ℕ) (d : Digest) → i < length ids → f (get_or ids i d).0 ≡ true → list_any f (ids_in ids) ≡ list_any f (ids_in (drop i ids)) → true ≡ list_any f (ids_in ids)
any-here f ids i d within here is = sym (is ∙ at_drop_more (λ xs. list_any f (ids_in xs)) ids i d within ∙ ap (λ t. t || list_any f (ids_in (drop (i + 1) ids))) here)

pub any-none : (f : List ℕ → Bool) (ids : List Digest) (i : ℕ) → length ids ≤ i → list_any f (ids_in ids) ≡ list_any f (ids_in (drop i ids)) → false ≡ list_any f (ids_in ids)
any-none f ids i past is = sym (is ∙ ap (λ xs. list_any f (ids_in xs)) (drop_all i ids past))

-- ---- a read of one key

laid-append : (deltas : Deltas) (xs ys : List (List ℕ)) (state : State) → laid_over deltas (xs ++ ys) state ≡ laid_over deltas ys (laid_over deltas xs state)
unfolding laid_over
laid-append deltas [] ys state = refl
laid-append deltas (x ∷ xs) ys state = laid-append deltas xs ys (after state (delta_of deltas x))

all-behind : {X : Type 0} (P : X → Type 0) (xs ys : List X) → AllByRecursion P (xs ++ ys) → AllByRecursion P ys
all-behind P [] ys all = all
all-behind P (x ∷ xs) ys all = all-behind P xs ys all.1

-- the blocks that the way to the nearest passes, and then the others
passed-nearest : (tree : BlockTree) (ids : List (List ℕ)) (id near : List ℕ) → IsTree tree → is_live tree id ≡ true → (nearest : IsNearest tree ids id near) → passed tree id ≡ passed tree near ++ nearest.beyond
passed-nearest tree ids id near is live nearest =
    let here = found_live _ live in
    let there = found_live _ nearest.live in
    let way : tree.head ∷ passed tree id ≡ tree.head ∷ (passed tree near ++ nearest.beyond) = sym (line-passed tree is id here.0 here.1) ∙ nearest.way ∙ ap (λ xs. xs ++ nearest.beyond) (line-passed tree is near there.0 there.1) in
    ap (drop 1) way

module _ (newest : Option Digest) (deltas : Deltas) (lists : Lists) (key : List ℕ) (listed : AreListed newest deltas lists) where
  unchanged-by : (q : List ℕ) → IsClear newest deltas key q → is_among q (listed_at lists key) ≡ false → change_at deltas q key ≡ None
  unchanged-by q clear other = by_case (change_at deltas q key) refl
    where
      by_case : (o : Option (Option (List ℕ))) → change_at deltas q key ≡ o → o ≡ None
      by_case None e = refl
      by_case (Some v) e = absurd (false≢true (sym other ∙ unless-newest newest deltas lists q key listed clear (ap is_some e)))

  laid-others : (xs : List (List ℕ)) (state : State) → AllByRecursion (IsClear newest deltas key) xs → AllByRecursion (λ q. is_among q (listed_at lists key) ≡ false) xs → get (laid_over deltas xs state) key ≡ get state key
  unfolding laid_over
  laid-others [] state clear none = refl
  laid-others (x ∷ xs) state clear none =
      laid-others xs (after state (delta_of deltas x)) clear.1 none.1 ∙ get-after state (delta_of deltas x) key
      ∙ ap (λ (o : Option (Option (List ℕ))). decided o (get state key)) (change-delta deltas x key ∙ unchanged-by x clear.0 none.0)

  pub nearest-on_way : (tree : BlockTree) (flat : FlatState) (id near : List ℕ) → flat.deltas ≡ deltas → IsTree tree → is_live tree id ≡ true → AllByRecursion (IsClear newest deltas key) (passed tree id) → IsNearest tree (listed_at lists key) id near → IsOnWay tree flat key id near
  nearest-on_way tree flat id near of is live clear nearest =
      let rest = passed-nearest tree (listed_at lists key) id near is live nearest in
      record {
        told = sym (ap (λ xs. get (laid_over flat.deltas xs flat.head) key) rest ∙ ap (λ (s : State). get s key) (laid-append flat.deltas (passed tree near) nearest.beyond flat.head)
            ∙ ap (λ (ds : Deltas). get (laid_over ds nearest.beyond (laid_over flat.deltas (passed tree near) flat.head)) key) of
            ∙ laid-others nearest.beyond (laid_over flat.deltas (passed tree near) flat.head) (all-behind (IsClear newest deltas key) (passed tree near) nearest.beyond (subst (AllByRecursion (IsClear newest deltas key)) rest clear)) nearest.others);
        first = live;
        live = nearest.live;
      }

-- ---- whether the newest block is on the way

pub clear-everywhere : (newest : Option Digest) (deltas : Deltas) (key : List ℕ) → ((q : List ℕ) → is_newest newest q ≡ true → is_some (change_at deltas q key) ≡ false) → (xs : List (List ℕ)) → AllByRecursion (IsClear newest deltas key) xs
clear-everywhere newest deltas key clear [] = tt
clear-everywhere newest deltas key clear (x ∷ xs) = (clear x, clear-everywhere newest deltas key clear xs)

pub clear-without : (deltas : Deltas) (key : List ℕ) (xs : List (List ℕ)) → AllByRecursion (IsClear None deltas key) xs
clear-without deltas key [] = tt
clear-without deltas key (x ∷ xs) = ((λ yes. absurd (false≢true yes)), clear-without deltas key xs)

-- The newest block is not on a way whose nearest block among it alone is another one.
pub clear-beside : (tree : BlockTree) (deltas : Deltas) (key id : List ℕ) (newest near : Digest) → IsTree tree → is_live tree id ≡ true → bytes_eq near.0 newest.0 ≡ false → IsNearest tree (newest.0 ∷ []) id near.0 → AllByRecursion (IsClear (Some newest) deltas key) (passed tree id)
clear-beside tree deltas key id newest near is live other nearest = subst (AllByRecursion (IsClear (Some newest) deltas key)) (sym way) (apart nearest.beyond nearest.others)
  where
    at_head : near.0 ≡ tree.head
    at_head = by_case nearest.one
      where
        by_case : (near.0 ≡ tree.head) ⊎ (is_among near.0 (newest.0 ∷ []) ≡ true) → near.0 ≡ tree.head
        by_case (inl same) = same
        by_case (inr among) = absurd (false≢true (sym (ap (λ t. t || false) other) ∙ among))

    way : passed tree id ≡ nearest.beyond
    way = passed-nearest tree (newest.0 ∷ []) id near.0 is live nearest ∙ ap (λ q. passed tree q ++ nearest.beyond) at_head ∙ ap (λ xs. xs ++ nearest.beyond) (passed-head tree is)

    apart : (xs : List (List ℕ)) → AllByRecursion (λ q. is_among q (newest.0 ∷ []) ≡ false) xs → AllByRecursion (IsClear (Some newest) deltas key) xs
    apart [] none = tt
    apart (x ∷ xs) none = ((λ yes. absurd (false≢true (sym none.0 ∙ ap (λ t. t || false) yes))), apart xs none.1)
