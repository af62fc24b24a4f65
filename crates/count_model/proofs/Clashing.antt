-- Which texts clash, and that none do where nothing is told.
use Rattle.std.proofs.Common.{◌≡◌, ◌≢◌, ◌↔◌, ℕ, nat_eq, Bool, true, false, cond, not, ◌&&◌, ◌||◌, List, [], ◌∷◌, ◌++◌, map, Option, None, Some, MatchOption, IsTrue, Contains, ◌⊎◌, inl, inr, ⊎_elim, refl, sym, ◌∙◌, ap, ap₂, subst}
use Rattle.std.specs.List.{filter, list_any}
use Rattle.std.specs.List.Sorted.{IsStrictlySortedBy}
use Rattle.std.specs.Option.{IsSomeAnd}
use Rattle.std.specs.FinMap.{get}
use Rattle.std.specs.declared.cmp.Ordering.{Ordering}
use Rattle.std.specs.declared.cmp.Ordering.TheVariants.{Less, Equal, Greater}
use Rattle.std.specs.Ordering.{is_le, is_lt, nat_cmp, ordering_reverse}
use Rattle.std.specs.Cmp.Lexicographic.{slice_cmp, pointwise, nat_list_cmp_total}
use Rattle.sha2.specs.Sha256.{sha256}
use Rattle.trie_model.specs.State.{State}
use Rattle.trie_model.specs.Root.{NoClash, Table, texts_of, zero_digest}
use Rattle.trie_model.proofs.Members.{IsIn, all_at, contains_of_in, in_of_contains, in-append_cases, in-map, in_map_from}
use Rattle.trie_model.proofs.Growth.{NotAfter, not_after_before, not_after_itself, slice_cmp-itself}
use Rattle.batch_model.specs.Changes.{Changes, after}
use Rattle.batch_model.proofs.Laying.{same_key}
use Rattle.change_model.specs.Ledger.{made_texts}
use Rattle.change_model.proofs.Filtered.{in_filter, in_filter_from}
use Rattle.change_model.proofs.Unchanged.{made_before}
use Rattle.partial_model.specs.Texts.{lesser}
use Rattle.partial_model.proofs.Clashes.{not_after_then}
use Rattle.fork_model.specs.Trees.{Header, descends}
use Rattle.fork_model.specs.States.{Block, ForkState, IsForkState, head_moved, state_at, tree_of_blocks, with_block}
use Rattle.fork_model.proofs.Ids.{apart_from, apart_is, same-itself, same_from, same_or_other}
use Rattle.fork_model.proofs.States.{over_prev, with_block-is}
use Rattle.count_model.specs.Clashes.{clash_with, clash_within, least_name, live_clash, made_clash, share_name}
use Rattle.count_model.specs.Laws.{ClashesWith, IsLeast, IsShared, shared_name, zero_name}
use Rattle.count_model.specs.Tables.{HoldsCounted, live_texts}
use Rattle.count_model.proofs.Completed.{new_texts}
use Rattle.count_model.proofs.Held.{NoClash-part}
use Rattle.count_model.proofs.Live.{block-of_state, live-of_state, live-in, live_in_from, texts-counted}

-- ---- the order of names

le_from : (o : Ordering) → o ≢ Greater → IsTrue (is_le o)
le_from Less h = refl
le_from Equal h = refl
le_from Greater h = absurd (h refl)

not_greater : (o : Ordering) → IsTrue (is_le o) → o ≢ Greater
not_greater Less h e = cc
not_greater Equal h e = cc
not_greater Greater h e = cc

turned : (o : Ordering) → is_lt o ≡ false → ordering_reverse o ≢ Greater
turned Less h e = cc
turned Equal h e = cc
turned Greater h e = cc

not_before : (p q : List ℕ) → is_lt (slice_cmp nat_cmp p q) ≡ false → NotAfter q p
not_before p q h e = turned (slice_cmp nat_cmp p q) h (sym (nat_list_cmp_total.antisymm q p) ∙ e)

is_less : (o : Ordering) → is_lt o ≡ true → o ≢ Greater
is_less Less h e = cc
is_less Equal h e = cc
is_less Greater h e = cc

both_ways : (p q : List ℕ) → NotAfter p q → NotAfter q p → p ≡ q
both_ways p q h k = go (slice_cmp nat_cmp p q) refl h
  where
    go : (o : Ordering) → slice_cmp nat_cmp p q ≡ o → o ≢ Greater → p ≡ q
    go Less e low = absurd (k (nat_list_cmp_total.antisymm q p ∙ ap ordering_reverse e))
    go Equal e low = same_key p q e
    go Greater e low = absurd (low refl)

-- ---- the least of some names

record IsLeastOf (ns : List (List ℕ)) (n : List ℕ) : Type 0 where
  member : IsIn ns n
  least : (other : List ℕ) → IsIn ns other → NotAfter n other

abbrev Told : List (List ℕ) → Option (List ℕ) → Type 0
Told ns o = MatchOption o (ns ≡ []) (IsLeastOf ns)

least_name-is : (ns : List (List ℕ)) → Told ns (least_name ns)
unfolding least_name lesser
least_name-is [] = refl
least_name-is (n ∷ ns) = go (least_name ns) (least_name-is ns)
  where
    alone : ns ≡ [] → IsLeastOf (n ∷ ns) n
    alone none = record { member = inl refl; least = each }
      where
        each : (other : List ℕ) → IsIn (n ∷ ns) other → NotAfter n other
        each other (inl e) = subst (NotAfter n) e (not_after_itself n)
        each other (inr i) = absurd (subst (λ ms. IsIn ms other) none i)

    either : (m : List ℕ) → IsLeastOf ns m → (b : Bool) → is_lt (slice_cmp nat_cmp m n) ≡ b → IsLeastOf (n ∷ ns) (cond b m n)
    either m is true e = record { member = inr is.member; least = each }
      where
        each : (other : List ℕ) → IsIn (n ∷ ns) other → NotAfter m other
        each other (inl same) = subst (NotAfter m) same (is_less (slice_cmp nat_cmp m n) e)
        each other (inr i) = is.least other i
    either m is false e = record { member = inl refl; least = each }
      where
        each : (other : List ℕ) → IsIn (n ∷ ns) other → NotAfter n other
        each other (inl same) = subst (NotAfter n) same (not_after_itself n)
        each other (inr i) = not_after_then n m other (not_before m n e) (is.least other i)

    go : (o : Option (List ℕ)) → Told ns o → Told (n ∷ ns) (lesser (Some n) o)
    go None none = alone none
    go (Some m) is = either m is (is_lt (slice_cmp nat_cmp m n)) refl

-- of the names with a property
module _ (P : List ℕ → Type 0) (ns : List (List ℕ)) (to : (n : List ℕ) → IsIn ns n → P n) (from : (n : List ℕ) → P n → IsIn ns n) where
  pub least-told : (n : List ℕ) → (least_name ns ≡ Some n) ↔ IsLeast P n
  least-told n = (λ e. told (subst (Told ns) e (least_name-is ns)), λ is. back is (least_name ns) refl (least_name-is ns))
    where
      told : IsLeastOf ns n → IsLeast P n
      told is = record { has = to n is.member; least = λ other has. le_from (slice_cmp nat_cmp n other) (is.least other (from other has)) }

      back : IsLeast P n → (o : Option (List ℕ)) → least_name ns ≡ o → Told ns o → o ≡ Some n
      back is None e none = absurd (subst (λ ms. IsIn ms n) none (from n is.has))
      back is (Some m) e found = ap Some (both_ways m n (found.least n (from n is.has)) (not_greater (slice_cmp nat_cmp n m) (is.least m (to m found.member))))

  pub none-told : (least_name ns ≡ None) ↔ ((n : List ℕ) → P n → ⊥)
  none-told = (λ e n has. subst (λ ms. IsIn ms n) (subst (Told ns) e (least_name-is ns)) (from n has), λ none. back none (least_name ns) refl (least_name-is ns))
    where
      back : ((n : List ℕ) → P n → ⊥) → (o : Option (List ℕ)) → least_name ns ≡ o → Told ns o → o ≡ None
      back none None e is = refl
      back none (Some m) e found = absurd (none m (to m found.member))

-- ---- names that are shared

pub any_from : {X : Type 0} (test : X → Bool) (xs : List X) → list_any test xs ≡ true → (x : X) × IsIn xs x × (test x ≡ true)
any_from test [] e = cc
any_from {X} test (y ∷ ys) e = go (test y) refl (any_from test ys) e
  where
    go : (b : Bool) → test y ≡ b → (list_any test ys ≡ true → (x : X) × IsIn ys x × (test x ≡ true)) → (b || list_any test ys) ≡ true → (x : X) × IsIn (y ∷ ys) x × (test x ≡ true)
    go true t further e = (y, inl refl, t)
    go false t further e = let r = further e in (r.0, inr r.1, r.2)

pub any_in : {X : Type 0} (test : X → Bool) (xs : List X) (x : X) → IsIn xs x → test x ≡ true → list_any test xs ≡ true
any_in test [] x i e = absurd i
any_in test (y ∷ ys) x (inl same) e = ap (λ b. b || list_any test ys) (ap test same ∙ e)
any_in test (y ∷ ys) x (inr i) e = ap (λ b. test y || b) (any_in test ys x i e) ∙ or_true (test y)
  where
    or_true : (a : Bool) → (a || true) ≡ true
    or_true true = refl
    or_true false = refl

module _ (name : List ℕ → List ℕ) where
  share_from : (one other : List ℕ) → share_name name one other ≡ true → (one ≢ other) × (name one ≡ name other)
  share_from one other e = go (pointwise nat_eq one other) refl e
    where
      go : (b : Bool) → pointwise nat_eq one other ≡ b → (not b && pointwise nat_eq (name one) (name other)) ≡ true → (one ≢ other) × (name one ≡ name other)
      go true same e = cc
      go false apart e = (apart_from one other apart, same_from (name one) (name other) e)

  share_of : (one other : List ℕ) → one ≢ other → name one ≡ name other → share_name name one other ≡ true
  share_of one other apart e = ap₂ (λ (a b : Bool). not a && b) (apart_is one other apart) (ap (λ n. pointwise nat_eq n (name other)) e ∙ same-itself (name other))

  -- the texts of some that have the name of a different one of others
  shared_from : (texts others : List (List ℕ)) (t : List ℕ) → IsIn texts t → list_any (share_name name t) others ≡ true → IsShared name texts others (name t)
  shared_from texts others t i e =
      let other = any_from (share_name name t) others e in
      let parts = share_from t other.0 other.2 in
      record { one = t; other = other.0; first = contains_of_in texts t i; second = contains_of_in others other.0 other.1; different = parts.0; is_of_one = refl; is_of_other = sym parts.1 }

  shared_test : (texts others : List (List ℕ)) (digest : List ℕ) (is : IsShared name texts others digest) → list_any (share_name name is.one) others ≡ true
  shared_test texts others digest is = any_in (share_name name is.one) others is.other (in_of_contains others is.other is.second) (share_of is.one is.other is.different (is.is_of_one ∙ sym is.is_of_other))

  module _ (made : List (List ℕ)) where
    abbrev within : List (List ℕ)
    within = map name (filter (λ t. list_any (share_name name t) made) made)

    within-to : (n : List ℕ) → IsIn within n → IsShared name made made n
    within-to n i =
        let t = in_map_from name (filter (λ t. list_any (share_name name t) made) made) n i in
        let parts = in_filter_from (λ t. list_any (share_name name t) made) made t.0 t.1 in
        subst (IsShared name made made) t.2 (shared_from made made t.0 parts.0 parts.1)

    within-from : (n : List ℕ) → IsShared name made made n → IsIn within n
    within-from n is =
        subst (IsIn within) is.is_of_one
        (in-map name (filter (λ t. list_any (share_name name t) made) made) is.one
        (in_filter (λ t. list_any (share_name name t) made) made is.one (in_of_contains made is.one is.first) (shared_test made made n is)))

    pub within-told : (n : List ℕ) → (clash_within name made ≡ Some n) ↔ IsLeast (IsShared name made made) n
    unfolding clash_within
    within-told = least-told (IsShared name made made) within within-to within-from

    pub within-none : (clash_within name made ≡ None) ↔ ((n : List ℕ) → IsShared name made made n → ⊥)
    unfolding clash_within
    within-none = none-told (IsShared name made made) within within-to within-from

    module _ (held : List (List ℕ)) where
      abbrev meets : List ℕ → Bool
      meets t = pointwise nat_eq (name t) zero_digest || list_any (share_name name t) held

      abbrev with_held : List (List ℕ)
      with_held = map name (filter meets made)

      with-to : (n : List ℕ) → IsIn with_held n → ClashesWith name held made n
      with-to n i =
          let t = in_map_from name (filter meets made) n i in
          let parts = in_filter_from meets made t.0 t.1 in
          subst (ClashesWith name held made) t.2 (go t.0 parts.0 (pointwise nat_eq (name t.0) zero_digest) refl parts.1)
        where
          go : (t : List ℕ) → IsIn made t → (b : Bool) → pointwise nat_eq (name t) zero_digest ≡ b → (b || list_any (share_name name t) held) ≡ true → ClashesWith name held made (name t)
          go t i true e any = zero_name t (contains_of_in made t i) refl (same_from (name t) zero_digest e)
          go t i false e any = shared_name (shared_from made held t i any)

      with-from : (n : List ℕ) → ClashesWith name held made n → IsIn with_held n
      with-from n (zero_name t here is zero) =
          subst (IsIn with_held) is (in-map name (filter meets made) t (in_filter meets made t (in_of_contains made t here) (ap (λ b. b || list_any (share_name name t) held) (ap (λ m. pointwise nat_eq m zero_digest) (is ∙ zero) ∙ same-itself zero_digest))))
      with-from n (shared_name is) =
          subst (IsIn with_held) is.is_of_one (in-map name (filter meets made) is.one (in_filter meets made is.one (in_of_contains made is.one is.first) (ap (λ b. pointwise nat_eq (name is.one) zero_digest || b) (shared_test made held n is) ∙ or_true (pointwise nat_eq (name is.one) zero_digest))))
        where
          or_true : (a : Bool) → (a || true) ≡ true
          or_true true = refl
          or_true false = refl

      pub with-told : (n : List ℕ) → (clash_with name held made ≡ Some n) ↔ IsLeast (ClashesWith name held made) n
      unfolding clash_with
      with-told = least-told (ClashesWith name held made) with_held with-to with-from

      pub with-none : (clash_with name held made ≡ None) ↔ ((n : List ℕ) → ClashesWith name held made n → ⊥)
      unfolding clash_with
      with-none = none-told (ClashesWith name held made) with_held with-to with-from

-- ---- where nothing clashes

-- texts that share no name, and texts that share none with those held
module _ (held made : List (List ℕ)) (alone : clash_within sha256 made ≡ None) (apart : clash_with sha256 held made ≡ None) where
  made_apart : (a b : List ℕ) → IsIn made a → IsIn made b → sha256 a ≡ sha256 b → a ≡ b
  made_apart a b i j e =
      ⊎_elim
      (λ (same : a ≡ b). same)
      (λ differ. absurd ((within-none sha256 made).0 alone (sha256 b) (record { one = a; other = b; first = contains_of_in made a i; second = contains_of_in made b j; different = differ; is_of_one = e; is_of_other = refl })))
      (same_or_other a b)

  held_apart : (a b : List ℕ) → IsIn made a → IsIn held b → sha256 a ≡ sha256 b → a ≡ b
  held_apart a b i j e =
      ⊎_elim
      (λ (same : a ≡ b). same)
      (λ differ. absurd ((with-none sha256 made held).0 apart (sha256 b) (shared_name (record { one = a; other = b; first = contains_of_in made a i; second = contains_of_in held b j; different = differ; is_of_one = e; is_of_other = refl }))))
      (same_or_other a b)

  made_nonzero : (a : List ℕ) → IsIn made a → sha256 a ≢ zero_digest
  made_nonzero a i e = (with-none sha256 made held).0 apart (sha256 a) (zero_name a (contains_of_in made a i) refl e)

  -- what is held and what is made do not clash then
  pub clear-joined : NoClash held → (texts : List (List ℕ)) → ((t : List ℕ) → IsIn texts t → IsIn held t ⊎ IsIn made t) → NoClash texts
  clear-joined clear texts from = record {
    apart = λ a b here there e. two a b e (from a (in_of_contains texts a here)) (from b (in_of_contains texts b there));
    nonzero = λ a here. one a (from a (in_of_contains texts a here));
  }
    where
      two : (a b : List ℕ) → sha256 a ≡ sha256 b → IsIn held a ⊎ IsIn made a → IsIn held b ⊎ IsIn made b → a ≡ b
      two a b e (inl i) (inl j) = clear.apart a b (contains_of_in held a i) (contains_of_in held b j) e
      two a b e (inl i) (inr j) = sym (held_apart b a j i (sym e))
      two a b e (inr i) (inl j) = held_apart a b i j e
      two a b e (inr i) (inr j) = made_apart a b i j e

      one : (a : List ℕ) → IsIn held a ⊎ IsIn made a → sha256 a ≢ zero_digest
      one a (inl i) = clear.nonzero a (contains_of_in held a i)
      one a (inr j) = made_nonzero a j

-- ---- of live blocks

pub clear-with_block : (forks : ForkState) (header : Header) (changes : Changes) (prev : State) → state_at forks header.prev ≡ Some prev → NoClash (live_texts forks) → made_clash prev changes ≡ None → live_clash forks prev changes ≡ None → NoClash (live_texts (with_block forks header changes))
clear-with_block forks header changes prev at clear alone apart =
    clear-joined (live_texts forks) (made_texts prev changes) alone apart clear (live_texts (with_block forks header changes)) from
  where
    new : (t : List ℕ) → IsIn (texts_of (after prev changes)) t → IsIn (live_texts forks) t ⊎ IsIn (made_texts prev changes) t
    new t i =
        ⊎_elim
        (λ (here : Contains (texts_of prev) t). inl (in_of_contains (live_texts forks) t (live-of_state forks header.prev t prev at here)))
        (λ (here : Contains (made_texts prev changes) t). inr (in_of_contains (made_texts prev changes) t here))
        (new_texts prev changes t (contains_of_in (texts_of (after prev changes)) t i))

    from : (t : List ℕ) → IsIn (live_texts (with_block forks header changes)) t → IsIn (live_texts forks) t ⊎ IsIn (made_texts prev changes) t
    from t i =
        let p = block-of_state forks header.prev prev at in
        let live = live_in_from (record forks { blocks = forks.blocks ++ over_prev header changes p.0 ∷ [] }) t (subst (λ f. IsIn (live_texts f) t) (with_block-is forks header changes p.0 p.1) i) in
        go p.0 p.2 live.0 live.2 (in-append_cases forks.blocks (over_prev header changes p.0 ∷ []) live.0 live.1)
      where
        go : (p : Block) → p.state ≡ prev → (b : Block) → IsIn (texts_of b.state) t → IsIn forks.blocks b ⊎ IsIn (over_prev header changes p ∷ []) b → IsIn (live_texts forks) t ⊎ IsIn (made_texts prev changes) t
        go p same b here (inl i) = inl (live-in forks b t i here)
        go p same b here (inr (inl e)) = new t (subst (λ (s : State). IsIn (texts_of (after s changes)) t) same (subst (λ (x : Block). IsIn (texts_of x.state) t) (sym e) here))
        go p same b here (inr (inr none)) = absurd none

pub clear-moved : (forks : ForkState) (id : List ℕ) → NoClash (live_texts forks) → NoClash (live_texts (head_moved forks id))
unfolding head_moved
clear-moved forks id clear =
    NoClash-part (live_texts (head_moved forks id)) (live_texts forks) (λ t here.
    let live = live_in_from (head_moved forks id) t (in_of_contains (live_texts (head_moved forks id)) t here) in
    contains_of_in (live_texts forks) t (live-in forks live.0 t (in_filter_from (λ (block : Block). descends (tree_of_blocks forks) id block.header.id) forks.blocks live.0 live.1).0 live.2)) clear

-- texts that are held already
pub held-clear : (held made : List (List ℕ)) → ((t : List ℕ) → Contains made t → Contains held t) → NoClash held → (clash_within sha256 made ≡ None) × (clash_with sha256 held made ≡ None)
held-clear held made part clear = (
  (within-none sha256 made).1 (λ digest is. is.different (clear.apart is.one is.other (part is.one is.first) (part is.other is.second) (is.is_of_one ∙ sym is.is_of_other))),
  (with-none sha256 made held).1 no_clash,
)
  where
    no_clash : (digest : List ℕ) → ClashesWith sha256 held made digest → ⊥
    no_clash digest (zero_name t here is zero) = clear.nonzero t (part t here) (is ∙ zero)
    no_clash digest (shared_name is) = is.different (clear.apart is.one is.other (part is.one is.first) is.second (is.is_of_one ∙ sym is.is_of_other))

-- a batch that changes nothing makes texts that its state has
pub unchanged-clear : (forks : ForkState) (id : List ℕ) (prev : State) (changes : Changes) → state_at forks id ≡ Some prev → after prev changes ≡ prev → NoClash (live_texts forks) → (made_clash prev changes ≡ None) × (live_clash forks prev changes ≡ None)
unchanged-clear forks id prev changes at same clear =
    held-clear (live_texts forks) (made_texts prev changes) (λ t here. live-of_state forks id t prev at (made_before prev changes t same here)) clear

-- ---- with a table

-- the one element of a list
only_one : (t u : List ℕ) → Contains (t ∷ []) u → t ≡ u
only_one t u c = go (in_of_contains (t ∷ []) u c)
  where
    go : (t ≡ u) ⊎ ⊥ → t ≡ u
    go (inl e) = e
    go (inr none) = absurd none

-- A text meets another under its digest, or has the zero one, exactly where it clashes with the live texts.
pub met-in_table : (table : Table) (forks : ForkState) (t : List ℕ) → IsForkState forks → HoldsCounted table forks → ((sha256 t ≡ zero_digest) ⊎ IsSomeAnd (get table (sha256 t)) (λ other. other ≢ t)) ↔ ClashesWith sha256 (live_texts forks) (t ∷ []) (sha256 t)
met-in_table table forks t is holds = (to, back)
  where
    to : (sha256 t ≡ zero_digest) ⊎ IsSomeAnd (get table (sha256 t)) (λ other. other ≢ t) → ClashesWith sha256 (live_texts forks) (t ∷ []) (sha256 t)
    to (inl zero) = zero_name t (contains_of_in (t ∷ []) t (inl refl)) refl zero
    to (inr other) = go (get table (sha256 t)) refl other
      where
        go : (o : Option (List ℕ)) → get table (sha256 t) ≡ o → IsSomeAnd o (λ other. other ≢ t) → ClashesWith sha256 (live_texts forks) (t ∷ []) (sha256 t)
        go None e h = absurd h
        go (Some u) e h = shared_name (record {
          one = t;
          other = u;
          first = contains_of_in (t ∷ []) t (inl refl);
          second = (texts-counted forks is u).0 (holds.only (sha256 t) u e);
          different = λ same. h (sym same);
          is_of_one = refl;
          is_of_other = holds.named (sha256 t) u e;
        })

    back : ClashesWith sha256 (live_texts forks) (t ∷ []) (sha256 t) → (sha256 t ≡ zero_digest) ⊎ IsSomeAnd (get table (sha256 t)) (λ other. other ≢ t)
    back (zero_name u c e zero) = inl zero
    back (shared_name shared) =
        let held : get table (sha256 t) ≡ Some shared.other = ap (get table) (sym shared.is_of_other) ∙ holds.found shared.other ((texts-counted forks is shared.other).1 shared.second) in
        inr (subst (λ o. IsSomeAnd o (λ other. other ≢ t)) (sym held) (λ same. shared.different (sym (only_one t shared.one shared.first) ∙ sym same)))

-- what clashes of some texts does so of one of them
pub clash-of_one : (name : List ℕ → List ℕ) (held made : List (List ℕ)) (digest : List ℕ) → ClashesWith name held made digest ↔ ((t : List ℕ) × Contains made t × ClashesWith name held (t ∷ []) digest)
clash-of_one name held made digest = (to, back)
  where
    first : (t : List ℕ) → Contains (t ∷ []) t
    first t = contains_of_in (t ∷ []) t (inl refl)

    to : ClashesWith name held made digest → (t : List ℕ) × Contains made t × ClashesWith name held (t ∷ []) digest
    to (zero_name t here is zero) = (t, here, zero_name t (first t) is zero)
    to (shared_name is) = (is.one, is.first, shared_name (record { one = is.one; other = is.other; first = first is.one; second = is.second; different = is.different; is_of_one = is.is_of_one; is_of_other = is.is_of_other }))

    back_of : (t : List ℕ) → Contains made t → ClashesWith name held (t ∷ []) digest → ClashesWith name held made digest
    back_of t here (zero_name u c is zero) = zero_name u (subst (Contains made) (only_one t u c) here) is zero
    back_of t here (shared_name is) = shared_name (record { one = is.one; other = is.other; first = subst (Contains made) (only_one t is.one is.first) here; second = is.second; different = is.different; is_of_one = is.is_of_one; is_of_other = is.is_of_other })

    back : (t : List ℕ) × Contains made t × ClashesWith name held (t ∷ []) digest → ClashesWith name held made digest
    back one = back_of one.0 one.1 one.2

-- ---- texts in the order of their digests

-- what stands behind a text in rising order is above it
rising_behind : (name : List ℕ → List ℕ) (done : List (List ℕ)) (t : List ℕ) (left : List (List ℕ)) → IsStrictlySortedBy (slice_cmp nat_cmp) (map name (done ++ t ∷ left)) → (u : List ℕ) → IsIn left u → slice_cmp nat_cmp (name t) (name u) ≡ Less
unfolding IsStrictlySortedBy
rising_behind name [] t left rising u i = all_at (λ n. slice_cmp nat_cmp (name t) n ≡ Less) (map name left) (name u) rising.0 (in-map name left u i)
rising_behind name (d ∷ done) t left rising u i = rising_behind name done t left rising.1 u i

different_orders : Less ≡ Equal → ⊥
different_orders e = cc

-- texts whose names rise share none
rising_apart : (name : List ℕ → List ℕ) (texts : List (List ℕ)) → IsStrictlySortedBy (slice_cmp nat_cmp) (map name texts) → (a b : List ℕ) → IsIn texts a → IsIn texts b → name a ≡ name b → a ≡ b
unfolding IsStrictlySortedBy
rising_apart name [] rising a b i j e = absurd i
rising_apart name (t ∷ texts) rising a b i j e = go i j (rising_apart name texts rising.1 a b)
  where
    above : (u : List ℕ) → IsIn texts u → name t ≡ name u → ⊥
    above u k same = different_orders (sym (all_at (λ n. slice_cmp nat_cmp (name t) n ≡ Less) (map name texts) (name u) rising.0 (in-map name texts u k)) ∙ ap (slice_cmp nat_cmp (name t)) (sym same) ∙ slice_cmp-itself (name t))

    go : (t ≡ a) ⊎ IsIn texts a → (t ≡ b) ⊎ IsIn texts b → (IsIn texts a → IsIn texts b → name a ≡ name b → a ≡ b) → a ≡ b
    go (inl p) (inl q) further = sym p ∙ q
    go (inl p) (inr k) further = absurd (above b k (ap name p ∙ e))
    go (inr k) (inl q) further = absurd (above a k (ap name q ∙ sym e))
    go (inr k) (inr l) further = further k l e

pub rising-within : (name : List ℕ → List ℕ) (made texts : List (List ℕ)) → IsStrictlySortedBy (slice_cmp nat_cmp) (map name texts) → ((t : List ℕ) → Contains made t → Contains texts t) → clash_within name made ≡ None
rising-within name made texts rising all =
    (within-none name made).1 (λ digest is. is.different (rising_apart name texts rising is.one is.other (in_of_contains texts is.one (all is.one is.first)) (in_of_contains texts is.other (all is.other is.second)) (is.is_of_one ∙ sym is.is_of_other)))

-- the name by which one text clashes is its own
own_name : (name : List ℕ → List ℕ) (held : List (List ℕ)) (t digest : List ℕ) → ClashesWith name held (t ∷ []) digest → name t ≡ digest
own_name name held t digest (zero_name u here is zero) = ap name (only_one t u here) ∙ is
own_name name held t digest (shared_name is) = ap name (only_one t is.one is.first) ∙ is.is_of_one

pub rising-none : (name : List ℕ → List ℕ) (held made texts : List (List ℕ)) → ((t : List ℕ) → Contains made t → Contains texts t) → ((t : List ℕ) → Contains texts t → ClashesWith name held (t ∷ []) (name t) → ⊥) → clash_with name held made ≡ None
rising-none name held made texts all none =
    (with-none name made held).1 (λ digest clashes.
    let one = (clash-of_one name held made digest).0 clashes in
    none one.0 (all one.0 one.1) (subst (ClashesWith name held (one.0 ∷ [])) (sym (own_name name held one.0 digest one.2)) one.2))

pub rising-first : (name : List ℕ → List ℕ) (held made done left : List (List ℕ)) (t : List ℕ) → IsStrictlySortedBy (slice_cmp nat_cmp) (map name (done ++ t ∷ left)) → ((u : List ℕ) → Contains made u → Contains (done ++ t ∷ left) u) → Contains made t → ((u : List ℕ) → Contains done u → ClashesWith name held (u ∷ []) (name u) → ⊥) → ClashesWith name held (t ∷ []) (name t) → clash_with name held made ≡ Some (name t)
rising-first name held made done left t rising all here none clashes =
    (with-told name made held (name t)).1 (record { has = (clash-of_one name held made (name t)).1 (t, here, clashes); least = least })
  where
    least : (other : List ℕ) → ClashesWith name held made other → IsTrue (is_le (slice_cmp nat_cmp (name t) other))
    least other c = go (in-append_cases done (t ∷ left) one.0 (in_of_contains (done ++ t ∷ left) one.0 (all one.0 one.1)))
      where
        one : (u : List ℕ) × Contains made u × ClashesWith name held (u ∷ []) other
        one = (clash-of_one name held made other).0 c

        own : name one.0 ≡ other
        own = own_name name held one.0 other one.2

        le : NotAfter (name t) other → IsTrue (is_le (slice_cmp nat_cmp (name t) other))
        le h = le_from (slice_cmp nat_cmp (name t) other) h

        go : IsIn done one.0 ⊎ ((t ≡ one.0) ⊎ IsIn left one.0) → IsTrue (is_le (slice_cmp nat_cmp (name t) other))
        go (inl i) = absurd (none one.0 (contains_of_in done one.0 i) (subst (ClashesWith name held (one.0 ∷ [])) (sym own) one.2))
        go (inr (inl same)) = le (subst (NotAfter (name t)) (ap name same ∙ own) (not_after_itself (name t)))
        go (inr (inr i)) = le (subst (NotAfter (name t)) own (not_after_before (name t) (name one.0) (rising_behind name done t left rising one.0 i)))
