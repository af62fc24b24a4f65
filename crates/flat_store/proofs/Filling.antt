-- A map that is filled with pairs, entry by entry of a table.
use Rattle.std.proofs.Common.{◌≡◌, ℕ, ◌+◌, ◌≤◌, ◌<◌, false, cond, T, List, [], ◌∷◌, length, Option, None, Some, is_some, Vec, refl, sym, ap, subst, ◌∙◌, ⊎_elim, arith, suc}
use Rattle.std.specs.Cmp.Lexicographic.{nat_list_cmp_total, texts_ties}
use Rattle.std.proofs.lemmas.Map.Lookups.{exact_bytes}
use Rattle.std.specs.FinMap.{contains_key, entries, entries_sorted, find, get, insert, is_sorted, len, remove, get-entries, len-entries, len-insert, same_map}
use Rattle.std.specs.declared.alloc.Global.{Global}
use Rattle.trie_model.specs.State.{State}
use Rattle.trie_model.proofs.Order.{first_test, second_test}
use Rattle.batch_model.proofs.Laying.{find_before}
use Rattle.base_core.proofs.ByteMaps.{order, is_same, is_same-itself, same_or_other, get-inserted, get-inserted_elsewhere, get-removed, get-removed_elsewhere}
use Rattle.flat_store.specs.Kept.{ByKey, held}

-- ---- a part of a map has no more pairs

pub found-not : {X : Type 0} (o : Option X) (v : X) → o ≡ None → o ≡ Some v → ⊥
found-not o v e f = absurd cc

abbrev pub IsWithin : State → State → Type 0
IsWithin part whole = (q v : List ℕ) → get part q ≡ Some v → get whole q ≡ Some v

one_more : (n m k : ℕ) → n ≤ m → k ≡ m + 1 → suc n ≤ k
one_more n m k few count = omega (arith, few, count)

fewer-found : (es : List (List ℕ × List ℕ)) (whole : State) → T (is_sorted order es) → ((q v : List ℕ) → find order q es ≡ Some v → get whole q ≡ Some v) → length es ≤ len whole
fewer-found [] whole h within = omega arith
fewer-found (e ∷ es) whole h within =
    let here : find order e.0 (e ∷ es) ≡ Some e.1 = ap (λ b. cond b (Some e.1) (find order e.0 es)) (is_same-itself e.0) in
    let rest : State = remove whole e.0 in
    let again : insert rest e.0 e.1 ≡ whole = same_map nat_list_cmp_total exact_bytes _ _ (λ q.
    ⊎_elim (λ (same : q ≡ e.0). ap (get (insert rest e.0 e.1)) same ∙ get-inserted rest e.0 e.1 ∙ sym (within e.0 e.1 here) ∙ ap (get whole) (sym same))
    (λ other. get-inserted_elsewhere rest e.0 e.1 q other.0 ∙ get-removed_elsewhere whole e.0 q other.0) (same_or_other q e.0)) in
    let new : contains_key rest e.0 ≡ false = ap is_some (get-removed whole e.0) in
    let count : len whole ≡ len rest + 1 = ap len (sym again) ∙ len-insert nat_list_cmp_total rest e.0 e.1 ∙ ap (λ b. cond b (len rest) (len rest + 1)) new in
    let behind : length es ≤ len rest = fewer-found es rest (second_test _ _ h) (λ q v found.
    ⊎_elim (λ (same : q ≡ e.0). absurd (found-not _ v (ap (λ k. find order k es) same ∙ find_before e.0 es (first_test _ _ h)) found))
    (λ other. get-removed_elsewhere whole e.0 q other.0 ∙ within q v (ap (λ b. cond b (Some e.1) (find order q es)) other.1 ∙ found)) (same_or_other q e.0)) in
    one_more (length es) (len rest) (len whole) behind count

pub fewer-within : (part whole : State) → IsWithin part whole → length (entries part) ≤ length (entries whole)
fewer-within part whole within =
    subst (λ n. length (entries part) ≤ n) (len-entries whole) (fewer-found (entries part) whole (entries_sorted part) (λ q v found. within q v (get-entries part q ∙ found)))

-- ---- entry by entry

-- What is there is as in the whole map, and what is missing is yet to come.
pub record IsFilled {X : Type 0} (whole part : State) (rest : ByKey X) : Type 0 where
  pub within : IsWithin part whole
  pub done : (q : List ℕ) → held rest q ≡ None → get part q ≡ get whole q

module _ {X : Type 0} (whole part : State) (e : Vec ℕ Global × X) (rest : ByKey X) (is : IsFilled whole part (e ∷ rest)) where
  elsewhere : (q : List ℕ) → is_same q e.0.items ≡ false → held rest q ≡ None → get part q ≡ get whole q
  elsewhere q other none = is.done q (ap (λ b. cond b (Some e.1) (held rest q)) (texts_ties q e.0.items ∙ other) ∙ none)

  pub filled-put : (next : State) (v : List ℕ) → get whole e.0.items ≡ Some v → next ≡ insert part e.0.items v → IsFilled whole next rest
  filled-put next v at put = record {
    within = λ q w found.
        ⊎_elim (λ (same : q ≡ e.0.items). ap (get whole) same ∙ at ∙ sym (get-inserted part e.0.items v) ∙ ap (get (insert part e.0.items v)) (sym same) ∙ ap (λ (m : State). get m q) (sym put) ∙ found)
        (λ other. is.within q w (sym (get-inserted_elsewhere part e.0.items v q other.0) ∙ ap (λ (m : State). get m q) (sym put) ∙ found)) (same_or_other q e.0.items);
    done = λ q none. ap (λ (m : State). get m q) put ∙ ⊎_elim (λ (same : q ≡ e.0.items). ap (get (insert part e.0.items v)) same ∙ get-inserted part e.0.items v ∙ sym at ∙ ap (get whole) (sym same))
        (λ other. get-inserted_elsewhere part e.0.items v q other.0 ∙ elsewhere q other.1 none) (same_or_other q e.0.items);
  }

  pub filled-skip : get whole e.0.items ≡ None → IsFilled whole part rest
  filled-skip gone = record {
    within = is.within;
    done = λ q none. ⊎_elim (λ (same : q ≡ e.0.items). ap (get part) same ∙ by_case (get part e.0.items) refl ∙ sym gone ∙ ap (get whole) (sym same)) (λ other. elsewhere q other.1 none) (same_or_other q e.0.items);
  }
    where
      by_case : (o : Option (List ℕ)) → get part e.0.items ≡ o → o ≡ None
      by_case None f = refl
      by_case (Some v) f = absurd (found-not _ v gone (is.within e.0.items v f))

  -- a pair that finds no room shows that the whole map has too many
  pub filled-full : (v : List ℕ) (most : ℕ) → get whole e.0.items ≡ Some v → get part e.0.items ≡ None → most ≤ length (entries part) → most < length (entries whole)
  filled-full v most at new full =
      let next : State = insert part e.0.items v in
      let more : len next ≡ len part + 1 = len-insert nat_list_cmp_total part e.0.items v ∙ ap (λ b. cond b (len part) (len part + 1)) (ap is_some new) in
      let all : length (entries next) ≤ length (entries whole) = fewer-within next whole (filled-put next v at refl).within in
      let first = len-entries next in
      let second = len-entries part in
      omega (arith, more, all, first, second, full)

pub filled-all : {X : Type 0} (whole part : State) (rest : ByKey X) → IsFilled whole part rest → rest ≡ [] → part ≡ whole
filled-all whole part rest is none = same_map nat_list_cmp_total exact_bytes _ _ (λ q. is.done q (ap (λ es. held es q) none))
