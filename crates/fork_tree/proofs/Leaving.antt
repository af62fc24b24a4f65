-- A move that is carried out: what is taken from the table, what stays in the list, and the places that are written over.
use Rattle.std.proofs.Common.{◌≡◌, ◌≢◌, ℕ, Bool, true, false, cond, not, ◌&&◌, ◌||◌, List, [], ◌∷◌, ◌++◌, length, map, drop, Option, None, Some, is_some, ⊎_elim, refl, sym, ◌∙◌, ap, ap₂, subst, arith}
use Rattle.std.specs.Option.{option_or, unwrap_or}
use Rattle.std.specs.List.{filter}
use Rattle.std.specs.Str.{bytes_eq}
use Rattle.std.proofs.lemmas.Bool.{true≢false, false≢true}
use Rattle.std.proofs.lemmas.List.{map-append}
use Rattle.base_core.specs.declared.hash.Digest.{Digest}
use Rattle.fork_model.specs.Trees.{BlockTree, Header, IsTree, block_of, descends, dropped, ids_of, is_among, is_live, line, moved, passed}
use Rattle.fork_model.specs.Laws.{first_id}
use Rattle.fork_model.proofs.Ids.{apart_is, same_from, same_or_other}
use Rattle.fork_model.proofs.Lines.{id_key, stands_in, StandsIn}
use Rattle.fork_model.proofs.Moves.{moved-is, or_false}
use Rattle.fork_model.proofs.Descent.{descends-itself, descends-onward, descends-over, not_above}
use Rattle.fork_model.proofs.Partition.{among_live, filter-map, filter_found, moved-head}
use Rattle.fork_model.proofs.Passed.{line-passed, live-moved, passed-head, passed-over}
use Rattle.fork_model.proofs.Told.{first-head, found_live}
use Rattle.fork_tree.specs.declared.ids.Move.{Move}
use Rattle.fork_tree.specs.Answers.{IsPlan}
use Rattle.fork_tree.specs.Kept.{IsKept, header_of, headers, left, place_of, placed, tree_of}
use Rattle.fork_tree.specs.declared.block.Block.{Block}
use Rattle.fork_tree.proofs.Places.{place-live}
use Rattle.fork_tree.proofs.Kept.{turned}

-- ---- a plan without a passed block is one to the head

push_not_nil : (xs : List (List ℕ)) (x : List ℕ) → xs ++ x ∷ [] ≡ [] → ⊥
push_not_nil [] x e = cc
push_not_nil (y ∷ xs) x e = cc

pub plan-stays : (tree : BlockTree) → IsTree tree → (id : List ℕ) → is_live tree id ≡ true → passed tree id ≡ [] → moved tree id ≡ tree
plan-stays tree is id live none =
    let b = found_live _ live in
    ⊎_elim
    (λ (same : id ≡ tree.head). ap (moved tree) same ∙ moved-head tree is)
    (λ other. absurd (push_not_nil (passed tree b.0.prev) id (sym (passed-over tree is id b.0 b.1 other) ∙ none)))
    (same_or_other id tree.head)

-- ---- what is taken

-- two lists with one more at the end
push_same : (xs ys : List (List ℕ)) (x y : List ℕ) → xs ++ x ∷ [] ≡ ys ++ y ∷ [] → xs ≡ ys
push_same [] [] x y e = refl
push_same [] (z ∷ ys) x y e = absurd (push_not_nil ys y (sym (ap (drop 1) e)))
push_same (z ∷ xs) [] x y e = absurd (push_not_nil xs x (ap (drop 1) e))
push_same (z ∷ xs) (w ∷ ys) x y e = let first : z ≡ w = cc in ap₂ (λ (a : List ℕ) (b : List (List ℕ)). a ∷ b) first (push_same xs ys x y (ap (drop 1) e))

and_false : (t : Bool) → (t && false) ≡ false
and_false true = refl
and_false false = refl

and_true : (t : Bool) → (t && true) ≡ t
and_true true = refl
and_true false = refl

among-filter : (p : List ℕ → Bool) (xs : List (List ℕ)) (q : List ℕ) → is_among q (filter p xs) ≡ (p q && is_among q xs)
among-filter p [] q = sym (and_false (p q))
among-filter p (x ∷ xs) q = by_test (bytes_eq q x) refl (p x) refl (among-filter p xs q)
  where
    by_test : (t : Bool) → bytes_eq q x ≡ t → (s : Bool) → p x ≡ s → is_among q (filter p xs) ≡ (p q && is_among q xs) → is_among q (cond s (x ∷ filter p xs) (filter p xs)) ≡ (p q && (t || is_among q xs))
    by_test true same true is rest = ap (λ t. t || is_among q (filter p xs)) same ∙ sym (and_true (p q) ∙ ap p (same_from q x same) ∙ is)
    by_test true same false is rest = let none : p q ≡ false = ap p (same_from q x same) ∙ is in rest ∙ ap (λ t. t && is_among q xs) none ∙ sym (and_true (p q) ∙ none)
    by_test false other true is rest = ap (λ t. t || is_among q (filter p xs)) other ∙ rest
    by_test false other false is rest = rest

-- the last block before the new head on the line, and the way to it
pub record IsBefore (tree : BlockTree) (id : List ℕ) (before : List (List ℕ)) : Type 0 where
  pub block : Header
  pub is : block_of tree.blocks id ≡ Some block
  pub other : id ≢ tree.head
  pub way : line tree block.prev ≡ tree.head ∷ before

pub is_before : (tree : BlockTree) → IsTree tree → (id : List ℕ) → is_live tree id ≡ true → (before : List (List ℕ)) (last : List ℕ) → passed tree id ≡ before ++ last ∷ [] → IsBefore tree id before
is_before tree is id live before last e =
    let b = found_live _ live in
    let other : id ≢ tree.head = λ same. push_not_nil before last (sym e ∙ ap (passed tree) same ∙ passed-head tree is) in
    let s = stands_in tree is id b.0 b.1 other in
    record {
      block = b.0;
      is = b.1;
      other = other;
      way = line-passed tree is b.0.prev s.over.prev s.over.is ∙ ap (λ ids. tree.head ∷ ids) (push_same (passed tree b.0.prev) before id last (sym (passed-over tree is id b.0 b.1 other) ∙ e));
    }

abbrev nothing : Option ℕ
nothing = None

none_left : (s t u d : Bool) → cond s nothing (cond t nothing (cond u nothing nothing)) ≡ cond d nothing nothing
none_left s t u d = all s t u ∙ sym (one d)
  where
    one : (t : Bool) → cond t nothing nothing ≡ nothing
    one true = refl
    one false = refl

    all : (s t u : Bool) → cond s nothing (cond t nothing (cond u nothing nothing)) ≡ nothing
    all true t u = refl
    all false true u = refl
    all false false u = one u

neither : (a b : Bool) → (a || b) ≡ false → (a ≡ false) × (b ≡ false)
neither true b e = absurd (true≢false e)
neither false b e = (refl, e)

taken_by_one : (s t u : Bool) (o : Option ℕ) → (u || t) ≡ true → cond s None (cond t None (cond u None o)) ≡ None
taken_by_one true t u o e = refl
taken_by_one false true u o e = refl
taken_by_one false false true o e = refl
taken_by_one false false false o e = absurd (false≢true e)

module _ (tree : BlockTree) (is : IsTree tree) (id : List ℕ) (before : List (List ℕ)) (at : IsBefore tree id before) where
  stays-not_gone : (q : List ℕ) → descends tree id q ≡ true → is_among q (dropped tree id) ≡ false
  unfolding dropped
  stays-not_gone q down =
      among-filter (λ other. not (is_among other (line tree id)) && not (descends tree id other)) (ids_of tree.blocks) q
      ∙ ap (λ d. (not (is_among q (line tree id)) && not d) && is_among q (ids_of tree.blocks)) down
      ∙ ap (λ t. t && is_among q (ids_of tree.blocks)) (and_false (not (is_among q (line tree id))))

  gone-from : (q : List ℕ) → is_live tree q ≡ true → descends tree id q ≡ false → descends tree q id ≡ false → is_among q (dropped tree id) ≡ true
  unfolding dropped descends
  gone-from q live down up =
      among-filter (λ other. not (is_among other (line tree id)) && not (is_among id (line tree other))) (ids_of tree.blocks) q
      ∙ ap₂ (λ t s. (not t && not s) && is_among q (ids_of tree.blocks)) up down
      ∙ among_live tree is q ∙ live

  -- what is on the line to the prev of the new head
  on_way : (q : List ℕ) → descends tree q at.block.prev ≡ (bytes_eq q tree.head || is_among q before)
  unfolding descends
  on_way q = ap (is_among q) at.way

  not_back : (q : List ℕ) → descends tree id q ≡ true → descends tree q at.block.prev ≡ false
  not_back q down = by_test (descends tree q at.block.prev) refl
    where
      s : StandsIn tree id at.block
      s = stands_in tree is id at.block at.is at.other

      by_test : (t : Bool) → descends tree q at.block.prev ≡ t → descends tree q at.block.prev ≡ false
      by_test false e = e
      by_test true e = absurd (true≢false (sym (descends-onward tree is id q at.block.prev s.over.prev s.over.is down e) ∙ not_above tree is id at.block at.is at.other))

  some-left : (q : List ℕ) (n : ℕ) → is_live tree q ≡ true → left tree.head before (dropped tree id) q (Some n) ≡ cond (descends tree id q) (Some n) None
  some-left q n live = by_down (descends tree id q) refl
    where
      taken : List ℕ → Option ℕ
      taken q = left tree.head before (dropped tree id) q (Some n)

      by_up : (t : Bool) → descends tree q id ≡ t → descends tree id q ≡ false → taken q ≡ None
      by_up false up down = ap (λ s. cond s None (cond (is_among q before) None (cond (bytes_eq tree.head q) None (Some n)))) (gone-from q live down up)
      by_up true up down =
          let other : q ≢ id = λ same. true≢false (sym (descends-itself tree is id at.block at.is) ∙ ap (descends tree id) (sym same) ∙ down) in
          let both : (descends tree q at.block.prev || bytes_eq q id) ≡ true = sym (descends-over tree is q id at.block at.is at.other) ∙ up in
          let way : descends tree q at.block.prev ≡ true = sym (or_false _) ∙ ap (λ t. descends tree q at.block.prev || t) (sym (apart_is q id other)) ∙ both in
          taken_by_one (is_among q (dropped tree id)) (is_among q before) (bytes_eq tree.head q) (Some n) (ap (λ t. t || is_among q before) (turned tree.head q) ∙ sym (on_way q) ∙ way)

      by_down : (d : Bool) → descends tree id q ≡ d → taken q ≡ cond d (Some n) None
      by_down false down = by_up (descends tree q id) refl down
      by_down true down =
          let none = neither (bytes_eq q tree.head) (is_among q before) (sym (on_way q) ∙ not_back q down) in
          ap (λ s. cond s None (cond (is_among q before) None (cond (bytes_eq tree.head q) None (Some n)))) (stays-not_gone q down)
          ∙ ap₂ (λ t u. cond t None (cond u None (Some n))) none.1 (turned tree.head q ∙ none.0)

  -- what is left of an id
  pub left-is : (q : List ℕ) (o : Option ℕ) → is_some o ≡ is_live tree q → left tree.head before (dropped tree id) q o ≡ cond (descends tree id q) o None
  left-is q None live = none_left (is_among q (dropped tree id)) (is_among q before) (bytes_eq tree.head q) (descends tree id q)
  left-is q (Some n) live = some-left q n (sym live)

-- ---- what stays

module _ (blocks : List Block) (is : IsTree (tree_of blocks)) (id : List ℕ) (live : is_live (tree_of blocks) id ≡ true) (now : List ℕ → Option ℕ) (left_now : (q : List ℕ) → now q ≡ cond (descends (tree_of blocks) id q) (place_of (headers blocks) q) None) where
  abbrev pub staying : List Block
  staying = filter (λ (b : Block). is_some (now b.id.0)) blocks

  now-live : (q : List ℕ) → is_some (now q) ≡ is_some (block_of (moved (tree_of blocks) id).blocks q)
  now-live q = ap is_some (left_now q) ∙ by_test (descends (tree_of blocks) id q) ∙ ap is_some (sym (live-moved (tree_of blocks) id q))
    where
      by_test : (d : Bool) → is_some (cond d (place_of (headers blocks) q) None) ≡ is_some (cond d (block_of (headers blocks) q) None)
      by_test true = place-live (headers blocks) q
      by_test false = refl

  headers-stay : headers (filter (λ (b : Block). is_some (now b.id.0)) blocks) ≡ (moved (tree_of blocks) id).blocks
  unfolding moved block_of
  headers-stay =
      sym (filter-map (λ (h : Header). is_some (now h.id)) header_of blocks)
      ∙ filter_found id_key (λ q. is_some (now q)) (descends (tree_of blocks) id) (headers blocks)
      (λ q there. ap is_some (left_now q) ∙ by_test (descends (tree_of blocks) id q) q (place-live (headers blocks) q ∙ there))
    where
      by_test : (d : Bool) (q : List ℕ) → is_some (place_of (headers blocks) q) ≡ true → is_some (cond d (place_of (headers blocks) q) None) ≡ d
      by_test true q there = there
      by_test false q there = refl

  pub tree-stays : tree_of (filter (λ (b : Block). is_some (now b.id.0)) blocks) ≡ moved (tree_of blocks) id
  tree-stays =
      let b = found_live _ live in
      let Shown : List ℕ → List Header → BlockTree = λ h hs. record { head = h; blocks = hs } in
      ap (λ hs. Shown (unwrap_or (first_id hs) []) hs) headers-stay
      ∙ ap (λ o. Shown (unwrap_or o []) (moved (tree_of blocks) id).blocks) (first-head (moved (tree_of blocks) id) (moved-is (tree_of blocks) is id b.0 b.1))
      ∙ whole
    where
      whole : record { head = (moved (tree_of blocks) id).head; blocks = (moved (tree_of blocks) id).blocks } ≡ moved (tree_of blocks) id
      whole = refl

  pub staying-is : IsTree (tree_of (filter (λ (b : Block). is_some (now b.id.0)) blocks))
  staying-is = let b = found_live _ live in subst IsTree (sym tree-stays) (moved-is (tree_of blocks) is id b.0 b.1)

  -- places written over
  pub places-stay : (q : List ℕ) → cond (is_some (now q)) (option_or (place_of (headers (filter (λ (b : Block). is_some (now b.id.0)) blocks)) q) (now q)) None ≡ place_of (headers (filter (λ (b : Block). is_some (now b.id.0)) blocks)) q
  places-stay q =
      by_case (place_of (headers (filter (λ (b : Block). is_some (now b.id.0)) blocks)) q)
      (now-live q ∙ ap (λ hs. is_some (block_of hs q)) (sym headers-stay) ∙ sym (place-live (headers (filter (λ (b : Block). is_some (now b.id.0)) blocks)) q))
    where
      by_case : (o : Option ℕ) → is_some (now q) ≡ is_some o → cond (is_some (now q)) (option_or o (now q)) None ≡ o
      by_case None e = ap (λ t. cond t (now q) None) e
      by_case (Some n) e = ap (λ t. cond t (Some n) None) e

-- one taking after the other
pub taken : (first second third fourth : List ℕ → Option ℕ) (head : List ℕ) (before gone : List (List ℕ)) → ((q : List ℕ) → second q ≡ cond (bytes_eq head q) None (first q)) → ((q : List ℕ) → third q ≡ cond (is_among q before) None (second q)) → ((q : List ℕ) → fourth q ≡ cond (is_among q gone) None (third q)) → (q : List ℕ) → fourth q ≡ left head before gone q (first q)
taken first second third fourth head before gone one two three q =
    three q ∙ ap (λ o. cond (is_among q gone) None o) (two q ∙ ap (λ o. cond (is_among q before) None o) (one q))

-- what the table has once the head, the way and what is dropped are taken from it
pub carried : (blocks : List Block) (entries : List (Digest × ℕ)) → IsKept blocks entries → (m : Move) (id : List ℕ) → IsPlan (tree_of blocks) id m → (way before : List Digest) (last : Digest) → map (λ (k : Digest). k.0) way ≡ m.passed → way ≡ before ++ last ∷ [] → (gone : List Digest) → map (λ (k : Digest). k.0) gone ≡ m.dropped → (head : List ℕ) → (tree_of blocks).head ≡ head → (now : List ℕ → Option ℕ) → ((q : List ℕ) → now q ≡ left head (map (λ (k : Digest). k.0) before) (map (λ (k : Digest). k.0) gone) q (placed entries q)) → (q : List ℕ) → now q ≡ cond (descends (tree_of blocks) id q) (place_of (headers blocks) q) None
carried blocks entries kept m id plan way before last shown split gone drops head first now table q =
    let Ids : List Digest → List (List ℕ) = map (λ (k : Digest). k.0) in
    let at = is_before (tree_of blocks) kept.tree id plan.live (Ids before) last.0 (sym plan.passed ∙ sym shown ∙ ap Ids split ∙ map-append (λ (k : Digest). k.0) before (last ∷ [])) in
    table q
    ∙ ap₂ (λ h ks. left h (Ids before) ks q (placed entries q)) (sym first) (drops ∙ plan.dropped)
    ∙ ap (left (tree_of blocks).head (Ids before) (dropped (tree_of blocks) id) q) (kept.places q)
    ∙ left-is (tree_of blocks) kept.tree id (Ids before) at q (place_of (headers blocks) q) (place-live (headers blocks) q)

pub plan-of : (tree now : BlockTree) (id : List ℕ) (m : Move) → tree ≡ now → IsPlan now id m → IsPlan tree id m
plan-of tree now id m same plan = subst (λ t. IsPlan t id m) (sym same) plan

pub no_way : (way : List Digest) → length way ≡ 0 → map (λ (k : Digest). k.0) way ≡ []
no_way [] e = refl
no_way (k ∷ way) e = absurd (omega (arith, e))
