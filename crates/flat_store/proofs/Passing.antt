-- Ids that are gone through one after the other, and the changes under them.
use Rattle.std.proofs.Common.{◌≡◌, ℕ, ◌+◌, ◌≤◌, Bool, true, false, cond, ◌||◌, List, [], ◌∷◌, ◌++◌, length, take, drop, Option, None, Some, refl, sym, ap, subst, ◌∙◌, arith, zero, suc}
use Rattle.std.specs.Option.{option_map, unwrap_or}
use Rattle.std.specs.List.{AllByRecursion, IsDistinct, slice_get}
use Rattle.std.specs.Str.{bytes_eq}
use Rattle.std.specs.Cmp.Lexicographic.{nat_list_cmp_total, texts_ties}
use Rattle.std.proofs.lemmas.Option.{get_or_from_slice_get, slice_get_within}
use Rattle.std.proofs.lemmas.List.{at_drop_more, drop_all, take_all, take_more}
use Rattle.std.proofs.lemmas.Map.Lookups.{exact_bytes}
use Rattle.std.specs.FinMap.{entries, empty, get, remove, get-empty, get-remove, same_map, len-empty, len-entries}
use Rattle.trie_model.specs.State.{State, IsPair}
use Rattle.batch_model.specs.Changes.{Changes, after, decided}
use Rattle.batch_model.proofs.Laying.{get-after}
use Rattle.base_core.specs.ChangeMaps.{ChangeMap}
use Rattle.base_core.proofs.ByteMaps.{is_same, order}
use Rattle.fork_model.specs.Trees.{is_among}
use Rattle.fork_model.proofs.Moves.{among-push}
use Rattle.fork_tree.proofs.Kept.{turned}
use Rattle.flat_store.specs.Flats.{Deltas, delta_of, laid_over, left_of}
use Rattle.flat_store.specs.Kept.{Batches, deltas_of, keys_along}
use Rattle.flat_store.proofs.Tables.{batch_at, get-deltas}

pub drop_at : {X : Type 0} (xs : List X) (i : ℕ) (x : X) → slice_get xs i ≡ Some x → drop i xs ≡ x ∷ drop (i + 1) xs
drop_at xs i x e = at_drop_more (λ ys. ys) xs i x (slice_get_within xs i x e) ∙ ap (λ y. y ∷ drop (i + 1) xs) (get_or_from_slice_get xs i x x e)

pub take_at : {X : Type 0} (xs : List X) (i : ℕ) (x : X) → slice_get xs i ≡ Some x → take (i + 1) xs ≡ take i xs ++ x ∷ []
take_at xs i x e = take_more xs i x (slice_get_within xs i x e) ∙ ap (λ y. take i xs ++ y ∷ []) (get_or_from_slice_get xs i x x e)

-- no id stands before itself in a list without repetition
all_at : {X : Type 0} (P : X → Type 0) (xs : List X) (i : ℕ) (x : X) → AllByRecursion P xs → slice_get xs i ≡ Some x → P x
all_at P [] i x all at = absurd cc
all_at P (y ∷ xs) zero x all at = let same : y ≡ x = cc in subst P same all.0
all_at P (y ∷ xs) (suc i) x all at = all_at P xs i x all.1 at

pub not-before : (ids : List (List ℕ)) (i : ℕ) (id : List ℕ) → IsDistinct bytes_eq ids → slice_get ids i ≡ Some id → is_among id (take i ids) ≡ false
unfolding IsDistinct
not-before [] i id apart at = absurd cc
not-before (x ∷ ids) zero id apart at = refl
not-before (x ∷ ids) (suc i) id apart at =
    let other : bytes_eq id x ≡ false = turned id x ∙ all_at (λ (y : List ℕ). bytes_eq x y ≡ false) ids i id apart.0 at in
    ap (λ b. b || is_among id (take i ids)) other ∙ not-before ids i id apart.1 at

-- ---- what is left under ids

taken_more : (s t u : Bool) (o : Option Changes) → s ≡ u → cond s None (cond t None o) ≡ cond (t || u) None o
taken_more true true u o e = refl
taken_more true false u o e = ap (λ x. cond x None o) e
taken_more false true u o e = refl
taken_more false false u o e = ap (λ x. cond x None o) e

-- one id more is taken out
pub left_more : (now next old : Deltas) (ids : List (List ℕ)) (i : ℕ) (id : List ℕ) → ((q : List ℕ) → get now q ≡ left_of (take i ids) q (get old q)) → slice_get ids i ≡ Some id → next ≡ remove now id
    → (q : List ℕ) → get next q ≡ left_of (take (i + 1) ids) q (get old q)
left_more now next old ids i id before at taken q =
    ap (λ (m : Deltas). get m q) taken ∙ get-remove nat_list_cmp_total now id q
    ∙ ap (cond (is_same q id) None) (before q)
    ∙ taken_more (is_same q id) (is_among q (take i ids)) (bytes_eq q id) (get old q) (sym (texts_ties q id))
    ∙ ap (λ b. cond b None (get old q)) (sym (ap (is_among q) (take_at ids i id at) ∙ among-push q (take i ids) id))

pub fewer : (n m : ℕ) (b : Bool) → n + cond b 1 0 ≡ m → n ≤ m
fewer n m true e = omega arith
fewer n m false e = omega arith

-- ---- how many keys they change

pub keys-more : (deltas : Deltas) (ids : List (List ℕ)) (i : ℕ) (id : List ℕ) → slice_get ids i ≡ Some id → keys_along deltas (drop i ids) ≡ length (entries (delta_of deltas id)) + keys_along deltas (drop (i + 1) ids)
unfolding keys_along
keys-more deltas ids i id at = ap (keys_along deltas) (drop_at ids i id at)

pub keys-all : (deltas : Deltas) (ids : List (List ℕ)) (i : ℕ) → length ids ≤ i → keys_along deltas (drop i ids) ≡ 0
unfolding keys_along
keys-all deltas ids i past = ap (keys_along deltas) (drop_all i ids past)

-- what the table tells of one block
pub keys-found : (es : Batches) (id : List ℕ) (m : ChangeMap) → batch_at es id ≡ Some m → length (entries (delta_of (deltas_of es) id)) ≡ length (entries m.changes)
keys-found es id m e = ap (λ (o : Option Changes). length (entries (unwrap_or o empty))) (get-deltas es id ∙ ap (option_map (λ (m : ChangeMap). m.changes)) e)

pub keys-missing : (es : Batches) (id : List ℕ) → batch_at es id ≡ None → length (entries (delta_of (deltas_of es) id)) ≡ 0
keys-missing es id e = ap (λ (o : Option Changes). length (entries (unwrap_or o empty))) (get-deltas es id ∙ ap (option_map (λ (m : ChangeMap). m.changes)) e) ∙ sym (len-entries _) ∙ len-empty _ _

pub delta-found : (es : Batches) (id : List ℕ) (m : ChangeMap) → batch_at es id ≡ Some m → delta_of (deltas_of es) id ≡ m.changes
delta-found es id m e = ap (λ (o : Option Changes). unwrap_or o empty) (get-deltas es id ∙ ap (option_map (λ (m : ChangeMap). m.changes)) e)

pub delta-missing : (es : Batches) (id : List ℕ) → batch_at es id ≡ None → delta_of (deltas_of es) id ≡ empty
delta-missing es id e = ap (λ (o : Option Changes). unwrap_or o empty) (get-deltas es id ∙ ap (option_map (λ (m : ChangeMap). m.changes)) e)

-- ---- the deltas of passed blocks are laid over

pub record IsPassing (old now : Deltas) (ids : List (List ℕ)) (i : ℕ) (start state : State) (spare : ℕ) : Type 0 where
  pub told : laid_over old ids start ≡ laid_over old (drop i ids) state
  pub left : (q : List ℕ) → get now q ≡ left_of (take i ids) q (get old q)
  pub pairs : AllByRecursion IsPair (entries state)
  pub room : keys_along old (drop i ids) ≤ spare

pub passing-start : (old : Deltas) (ids : List (List ℕ)) (start : State) (spare : ℕ) → AllByRecursion IsPair (entries start) → keys_along old ids ≤ spare → IsPassing old old ids 0 start start spare
passing-start old ids start spare pairs room = record { told = refl; left = λ q. refl; pairs = pairs; room = room }

-- the next block has the changes that it had at first
pub passing-delta : (old now : Deltas) (ids : List (List ℕ)) (i : ℕ) (start state : State) (spare : ℕ) (id : List ℕ) → IsPassing old now ids i start state spare → IsDistinct bytes_eq ids → slice_get ids i ≡ Some id → delta_of now id ≡ delta_of old id
passing-delta old now ids i start state spare id is apart at =
    ap (λ (o : Option Changes). unwrap_or o empty) (is.left id ∙ ap (λ b. cond b None (get old id)) (not-before ids i id apart at))

pub passing-room : (old now : Deltas) (ids : List (List ℕ)) (i : ℕ) (start state : State) (spare : ℕ) (id : List ℕ) → IsPassing old now ids i start state spare → IsDistinct bytes_eq ids → slice_get ids i ≡ Some id → length (entries (delta_of now id)) ≤ spare
passing-room old now ids i start state spare id is apart at =
    let same : length (entries (delta_of now id)) ≡ length (entries (delta_of old id)) = ap (λ (c : Changes). length (entries c)) (passing-delta old now ids i start state spare id is apart at) in
    let more = keys-more old ids i id at in
    let room = is.room in
    omega (arith, same, more, room)

pub passing-step : (old now next : Deltas) (ids : List (List ℕ)) (i : ℕ) (start state after_it : State) (spare left : ℕ) (id : List ℕ) → IsPassing old now ids i start state spare → IsDistinct bytes_eq ids → slice_get ids i ≡ Some id
    → after_it ≡ after state (delta_of now id) → next ≡ remove now id → AllByRecursion IsPair (entries after_it) → spare ≤ left + length (entries (delta_of now id)) → IsPassing old next ids (i + 1) start after_it left
unfolding laid_over
passing-step old now next ids i start state after_it spare left id is apart at laid taken pairs room =
    let same : delta_of now id ≡ delta_of old id = passing-delta old now ids i start state spare id is apart at in
    let count : length (entries (delta_of now id)) ≡ length (entries (delta_of old id)) = ap (λ (c : Changes). length (entries c)) same in
    let more = keys-more old ids i id at in
    let before = is.room in
    record {
      told = is.told ∙ ap (λ xs. laid_over old xs state) (drop_at ids i id at) ∙ ap (λ s. laid_over old (drop (i + 1) ids) s) (sym (laid ∙ ap (after state) same));
      left = left_more now next old ids i id is.left at taken;
      pairs = pairs;
      room = omega (arith, count, more, before, room);
    }

pub passing-end : (old now : Deltas) (ids : List (List ℕ)) (i : ℕ) (start state : State) (spare : ℕ) → IsPassing old now ids i start state spare → length ids ≤ i → (state ≡ laid_over old ids start) × ((q : List ℕ) → get now q ≡ left_of ids q (get old q))
unfolding laid_over
passing-end old now ids i start state spare is past = (
  sym (is.told ∙ ap (λ xs. laid_over old xs state) (drop_all i ids past)),
  λ q. is.left q ∙ ap (λ xs. left_of xs q (get old q)) (take_all i ids past),
)

-- laying no changes over a map leaves it
pub after-empty : (state : State) → after state empty ≡ state
after-empty state = same_map nat_list_cmp_total exact_bytes _ _ (λ q. get-after state empty q ∙ ap (λ (o : Option (Option (List ℕ))). decided o (get state q)) (get-empty order q))
