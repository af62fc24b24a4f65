-- What a batch makes of the trie of some rows has the top of the later rows' trie.
use Rattle.std.proofs.Common.{◌≡◌, ◌≢◌, ℕ, ◌+◌, ◌-◌, ◌<◌, ◌==◌, true, false, Bool, if◌then◌else◌, List, [], ◌∷◌, length, Option, None, Some, is_some, option_map, refl, sym, ◌∙◌, ap, ap₂, subst, arith}
use Rattle.std.proofs.lemmas.Bool.{false≢true}
use Rattle.std.proofs.lemmas.Bool.Decides.{nat_tests}
use Rattle.sha2.specs.Sha256.{sha256}
use Rattle.byte_model.specs.Node.{ValueRef, cost_of}
use Rattle.byte_model.specs.Below.{sum_below}
use Rattle.byte_model.proofs.Below.{sum_below-agree, sum_below-zero, sum_below-plus, sum_below-single}
use Rattle.trie_model.specs.State.{Row}
use Rattle.trie_model.specs.Tree as tree
use Rattle.trie_model.specs.Tree.{Tree, below, ends_here, common_prefix, tree_of}
use Rattle.trie_model.specs.Texts.{text, usage, top_cost, name_of, value_ref}
use Rattle.trie_model.proofs.Rests.{AllHavePrefix, common_prefix-all, under-below, below-some, equal_of_test, same_nibble}
use Rattle.trie_model.proofs.Trees.{tree_of-nil, tree_of-one, tree_of-forks, tree_of-shares, by_cases}
use Rattle.trie_model.proofs.Shapes.{name_of-some}
use Rattle.visit_model.specs.Seen.{Seen, stated_usage}
use Rattle.visit_model.specs.Shown.{shown}
use Rattle.batch_model.specs.Changes.{Change}
use Rattle.change_model.specs.Along.{digest_of}
use Rattle.change_model.specs.Visits.{changes_behind, is_untouched, has_value_after, is_left, numbers_below, lone_child, merged_child, merge_usage, if_touched, branch_cost, extension_cost}
use Rattle.change_model.proofs.Along.{numbers_below-agree}
use Rattle.change_model.proofs.Laid.{IsLaid, laid-below}
use Rattle.change_model.proofs.Left.{Apart, apart-behind, ends_here-found_at, value_left, left_as}
use Rattle.change_model.proofs.Merging.{merged_remains}
use Rattle.update_model.specs.Tops.{Top, extension, top_of}
use Rattle.update_model.specs.Joins.{Kid, known, is_there, kid_top, there, joint}
use Rattle.update_model.specs.Updates.{Outcome, no_branch, laid, kid_kept, kid_after, digest_or_none, top_seen, merged_kids, parts, kids_after, updated}
use Rattle.update_model.proofs.FoundRows.{InOrder, in_order-below}
use Rattle.update_model.proofs.Joints.{KidOf, named_usage, is_known, is_there-of, AreKids, joint-rows}
use Rattle.update_model.proofs.LaidTrees.{ref_after-rows, untouched-below, laid-rows}
use Rattle.update_model.proofs.Layable.{no_row, one_row, before_branch}
pub use Rattle.change_model.proofs.Forks.{fork_of_shared}
pub use Rattle.change_model.proofs.Seeing.{digest_of-shown}

-- ---- rows below the prefix that they share fork (these are in change_model/proofs/Forks.antt, not pub)

-- ---- what is seen of a trie alone

pub stated-shown : (t : Tree) → stated_usage (shown t) ≡ usage t
unfolding stated_usage shown usage
stated-shown tree.nothing = refl
stated-shown (tree.leaf path value) = refl
stated-shown (tree.branch value kids) = refl
stated-shown (tree.extension path child) = refl

named-digest : (t : Tree) (bytes : List ℕ) → is_some (name_of t bytes) ≡ true → name_of t bytes ≡ Some (sha256 bytes)
unfolding name_of
named-digest tree.nothing bytes some = absurd (false≢true some)
named-digest (tree.leaf path value) bytes some = refl
named-digest (tree.branch value kids) bytes some = refl
named-digest (tree.extension path child) bytes some = refl

pub top_seen-extension : (path : List ℕ) (child : Tree) → is_some (name_of child (text child)) ≡ true → top_seen (shown (tree.extension path child)) ≡ top_of (tree.extension path child)
unfolding top_seen shown top_of usage top_cost
top_seen-extension path child some =
    let name : digest_or_none (digest_of (shown child)) ≡ sha256 (text child) = ap digest_or_none (digest_of-shown child ∙ named-digest child (text child) some) in
    let used : (extension_cost path + usage child) - extension_cost path ≡ usage child = omega arith in
    ap₂ (λ (d : List ℕ) (n : ℕ). extension path d n) name used

-- the top of some rows' trie is that of what is seen of it
pub top_seen-rows : (rows : List Row) → top_seen (shown (tree_of rows)) ≡ top_of (tree_of rows)
unfolding top_seen shown top_of
top_seen-rows = by_cases (λ rows. top_seen (shown (tree_of rows)) ≡ top_of (tree_of rows)) (record {
  none = subst (λ t. top_seen (shown t) ≡ top_of t) (sym tree_of-nil) refl;
  one = λ row. subst (λ t. top_seen (shown t) ≡ top_of t) (sym (tree_of-one row)) refl;
  forks = λ row next rows e further. subst (λ t. top_seen (shown t) ≡ top_of t) (sym (tree_of-forks row next rows e)) refl;
  shares = λ row next rows x prefix e further.
      let all = subst (λ (f : List ℕ). AllHavePrefix f (row ∷ next ∷ rows)) e (common_prefix-all row (next ∷ rows)) in
      subst (λ t. top_seen (shown t) ≡ top_of t) (sym (tree_of-shares row next rows x prefix e))
      (top_seen-extension (x ∷ prefix) (tree_of (below (x ∷ prefix) (row ∷ next ∷ rows))) (name_of-some (below (x ∷ prefix) (row ∷ next ∷ rows)) _ (below-some (x ∷ prefix) row (next ∷ rows) all.0)));
})

-- a child that stays is named
kid_kept-of : (t : Tree) → KidOf t (kid_kept (digest_of (shown t)))
unfolding digest_of shown name_of top_of
kid_kept-of tree.nothing = refl
kid_kept-of (tree.leaf path value) = refl
kid_kept-of (tree.branch value kids) = refl
kid_kept-of (tree.extension path child) = refl

kid_kept-usage : (t : Tree) → named_usage (kid_kept (digest_of (shown t))) (usage t) ≡ usage t
unfolding digest_of shown usage
kid_kept-usage tree.nothing = refl
kid_kept-usage (tree.leaf path value) = refl
kid_kept-usage (tree.branch value kids) = refl
kid_kept-usage (tree.extension path child) = refl

-- ---- by the cases of a trie

abbrev pub NewTop : List Row → Type 0
NewTop rows = (changes : List Change) (later : List Row) → changes ≢ [] → Apart changes → IsLaid rows changes later → InOrder rows → InOrder later → (updated (shown (tree_of rows)) changes).top ≡ top_of (tree_of later)

top_none : NewTop []
unfolding updated shown top_of
top_none changes later some apart is_laid before after =
    ap (λ t. (updated (shown t) changes).top) tree_of-nil
    ∙ ap (λ (t : Top). (laid no_branch t changes).top) (sym (ap top_of tree_of-nil))
    ∙ laid-rows no_branch [] changes later (no_row refl) some apart is_laid before after

top_one : (row : Row) → NewTop (row ∷ [])
unfolding updated shown top_of
top_one row changes later some apart is_laid before after =
    ap (λ t. (updated (shown t) changes).top) (tree_of-one row)
    ∙ ap (λ (t : Top). (laid no_branch t changes).top) (sym (ap top_of (tree_of-one row)))
    ∙ laid-rows no_branch (row ∷ []) changes later (one_row row refl) some apart is_laid before after

top_shares : (row next : Row) (others : List Row) (x : ℕ) (prefix : List ℕ) → common_prefix row (next ∷ others) ≡ x ∷ prefix → NewTop (below (x ∷ prefix) (row ∷ next ∷ others)) → NewTop (row ∷ next ∷ others)
unfolding updated shown top_seen
top_shares row next others x prefix e further changes later some apart is_laid before after =
    ap (λ t. (updated (shown t) changes).top) whole
    ∙ ap (λ (t : Top). (laid child t changes).top) (top_seen-extension path (tree_of inner) there ∙ ap top_of (sym whole))
    ∙ laid-rows child rows changes later (before_branch path inner (sym (under-below path rows all)) (fork_of_shared path row next others e all) right) some apart is_laid before after
  where
    rows : List Row
    rows = row ∷ next ∷ others

    path : List ℕ
    path = x ∷ prefix

    inner : List Row
    inner = below path rows

    whole : tree_of rows ≡ tree.extension path (tree_of inner)
    whole = tree_of-shares row next others x prefix e

    all : AllHavePrefix path rows
    all = subst (λ (f : List ℕ). AllHavePrefix f rows) e (common_prefix-all row (next ∷ others))

    there : is_some (name_of (tree_of inner) (text (tree_of inner))) ≡ true
    there = name_of-some inner (text (tree_of inner)) (below-some path row (next ∷ others) all.0)

    child : List Change → Outcome
    child cs = updated (shown (tree_of inner)) cs

    right : (cs : List Change) (l : List Row) → cs ≢ [] → Apart cs → IsLaid inner cs l → InOrder l → (child cs).top ≡ top_of (tree_of l)
    right cs l more distinct over order = further cs l more distinct over (in_order-below path rows before) order

module _ (row next : Row) (others : List Row) (e : common_prefix row (next ∷ others) ≡ []) (further : (x : ℕ) → NewTop (below (x ∷ []) (row ∷ next ∷ others))) (changes : List Change) (later : List Row) (some : changes ≢ []) (apart : Apart changes) (is_laid : IsLaid (row ∷ next ∷ others) changes later) (before : InOrder (row ∷ next ∷ others)) (after : InOrder later) where
  abbrev rows : List Row
  rows = row ∷ next ∷ others

  abbrev ref : Option ValueRef
  ref = option_map value_ref (ends_here rows)

  abbrev kids : ℕ → Tree
  kids x = tree_of (below (x ∷ []) rows)

  abbrev children : ℕ → Seen
  children x = shown (kids x)

  abbrev cs : ℕ → List Change
  cs x = changes_behind (x ∷ []) changes

  abbrev outcomes : ℕ → Outcome
  outcomes x = updated (children x) (cs x)

  abbrev merged : Option ℕ
  merged = merged_child ref children changes

  abbrev new_tree : ℕ → Tree
  new_tree x = tree_of (below (x ∷ []) later)

  abbrev kids_touched : ℕ → Kid
  kids_touched x = kid_after (children x) (cs x) (outcomes x)

  abbrev new_kids : ℕ → Kid
  new_kids = kids_after ref children changes outcomes

  some_changes : (x : ℕ) (c : Change) (l : List Change) → cs x ≡ c ∷ l → cs x ≢ []
  some_changes x c l is none = absurd (no_cons (sym none ∙ is))
    where
      no_cons : [] ≡ c ∷ l → ⊥
      no_cons e = cc

  stays : (x : ℕ) → cs x ≡ [] → new_tree x ≡ kids x
  stays x none = ap tree_of (untouched-below (x ∷ []) rows changes later is_laid before after none)

  is_merged : (x : ℕ) → merged ≡ Some x → (x < 16) × (cs x ≡ [])
  is_merged x is = let m = merged_remains row next others e changes later apart is_laid after.small x is in (m.nibble, m.untouched)

  -- ---- each child is the later trie's

  touched-of : (x : ℕ) → KidOf (new_tree x) (kids_touched x)
  touched-of x = go (cs x) refl
    where
      go : (l : List Change) → cs x ≡ l → KidOf (new_tree x) (kid_after (children x) l (outcomes x))
      go [] none = subst (λ t. KidOf t (kid_kept (digest_of (children x)))) (sym (stays x none)) (kid_kept-of (kids x))
      go (c ∷ l) is =
          further x (cs x) (below (x ∷ []) later) (some_changes x c l is) (apart-behind (x ∷ []) changes apart) (laid-below (x ∷ []) rows changes later is_laid) (in_order-below (x ∷ []) rows before) (in_order-below (x ∷ []) later after)

  merged-of : (x : ℕ) → merged ≡ Some x → KidOf (new_tree x) (known (top_seen (children x)))
  merged-of x is = top_seen-rows (below (x ∷ []) rows) ∙ ap top_of (sym (stays x (is_merged x is).1))

  kids-of : (x : ℕ) → KidOf (new_tree x) (new_kids x)
  kids-of x = go merged refl
    where
      go : (m : Option ℕ) → merged ≡ m → KidOf (new_tree x) (merged_kids m children kids_touched x)
      go None is = touched-of x
      go (Some y) is =
          elim (x == y) as (λ b. (x == y) ≡ b → KidOf (new_tree x) (if b then known (top_seen (children x)) else kids_touched x)) [
            | true ↦ λ t. merged-of x (is ∙ ap Some (sym (equal_of_test x y t)))
            | false ↦ λ t. touched-of x
          ] refl

  -- ---- usages

  abbrev share : Option ℕ → ℕ → ℕ
  share None x = 0
  share (Some y) x = if x == y then usage (kids x) else 0

  touched-usage : (x : ℕ) → if_touched (cs x) (stated_usage (children x)) + named_usage (kids_touched x) (usage (new_tree x)) ≡ usage (kids x)
  touched-usage x = go (cs x) refl
    where
      go : (l : List Change) → cs x ≡ l → if_touched l (stated_usage (children x)) + named_usage (kid_after (children x) l (outcomes x)) (usage (new_tree x)) ≡ usage (kids x)
      go [] none =
          let kept : named_usage (kid_kept (digest_of (children x))) (usage (new_tree x)) ≡ usage (kids x) = ap (λ t. named_usage (kid_kept (digest_of (children x))) (usage t)) (stays x none) ∙ kid_kept-usage (kids x) in
          omega arith
      go (c ∷ l) is = let stated : stated_usage (children x) ≡ usage (kids x) = stated-shown (kids x) in omega arith

  kid-usage : (x : ℕ) → (if_touched (cs x) (stated_usage (children x)) + share merged x) + named_usage (new_kids x) (usage (new_tree x)) ≡ usage (kids x)
  kid-usage x = go merged refl
    where
      plain : (if_touched (cs x) (stated_usage (children x)) + 0) + named_usage (kids_touched x) (usage (new_tree x)) ≡ usage (kids x)
      plain = let whole = touched-usage x in omega arith

      go : (m : Option ℕ) → merged ≡ m → (if_touched (cs x) (stated_usage (children x)) + share m x) + named_usage (merged_kids m children kids_touched x) (usage (new_tree x)) ≡ usage (kids x)
      go None is = plain
      go (Some y) is =
          elim (x == y) as (λ b. (x == y) ≡ b → (if_touched (cs x) (stated_usage (children x)) + (if b then usage (kids x) else 0)) + named_usage (if b then known (top_seen (children x)) else kids_touched x) (usage (new_tree x)) ≡ usage (kids x)) [
            | true ↦ λ t.
                let none : if_touched (cs x) (stated_usage (children x)) ≡ 0 = ap (λ (l : List Change). if_touched l (stated_usage (children x))) (is_merged x (is ∙ ap Some (sym (equal_of_test x y t)))).1 in
                omega arith
            | false ↦ λ t. plain
          ] refl

  merged-usage : sum_below (share merged) 16 ≡ merge_usage children merged
  merged-usage = go merged refl
    where
      other : (x y : ℕ) → x ≢ y → share (Some y) x ≡ 0
      other x y apart = let test : (x == y) ≡ false = grind (arith, nat_tests) in ap (λ b. if b then usage (kids x) else 0) test

      go : (m : Option ℕ) → merged ≡ m → sum_below (share m) 16 ≡ merge_usage children m
      go None is = sum_below-zero 16
      go (Some y) is =
          sum_below-single (share (Some y)) 16 y (is_merged y is).0 (λ x small apart. other x y apart)
          ∙ ap (λ b. if b then usage (kids y) else 0) (same_nibble y)
          ∙ sym (stated-shown (kids y))

  -- what is left of the branch's usage is that of the children that stay
  usage-left : usage (tree.branch (ends_here rows) kids) - parts ref children changes ≡ sum_below (λ x. named_usage (new_kids x) (usage (new_tree x))) 16
  unfolding usage top_cost
  usage-left =
      let all : sum_below (λ x. usage (kids x)) 16 ≡ (sum_below (λ x. if_touched (cs x) (stated_usage (children x))) 16 + sum_below (share merged) 16) + sum_below (λ x. named_usage (new_kids x) (usage (new_tree x))) 16 =
      sym (sum_below-agree _ _ 16 (λ x small. kid-usage x))
      ∙ sum_below-plus (λ x. if_touched (cs x) (stated_usage (children x)) + share merged x) (λ x. named_usage (new_kids x) (usage (new_tree x))) 16
      ∙ ap (λ n. n + sum_below (λ x. named_usage (new_kids x) (usage (new_tree x))) 16) (sum_below-plus (λ x. if_touched (cs x) (stated_usage (children x))) (share merged) 16) in
      left_over (cost_of 0 (option_map length (ends_here rows))) (branch_cost ref) (sum_below (λ x. usage (kids x)) 16) (sum_below (λ x. if_touched (cs x) (stated_usage (children x))) 16) (sum_below (share merged) 16) (merge_usage children merged) _
      (cost_same (ends_here rows)) merged-usage all
    where
      cost_same : (value : Option (List ℕ)) → cost_of 0 (option_map length value) ≡ branch_cost (option_map value_ref value)
      cost_same None = refl
      cost_same (Some value) = refl

      left_over : (cost cost' whole touched one one' rest : ℕ) → cost ≡ cost' → one ≡ one' → whole ≡ (touched + one) + rest → (cost + whole) - (cost' + (touched + one')) ≡ rest
      left_over cost cost' whole touched one one' rest h k l = omega arith

  -- ---- a lone child is known

  known-kid : (k : Kid) (t : Top) → k ≡ known t → k ≡ known (kid_top k)
  known-kid k t is = is ∙ is_known t ∙ ap (λ (j : Kid). known (kid_top j)) (sym is)

  lone-kid : (x : ℕ) → ends_here later ≡ None → there new_kids ≡ x ∷ [] → new_kids x ≡ known (kid_top (new_kids x))
  lone-kid x none one = go (cs x) refl
    where
      left-there : (y : ℕ) → is_left (children y) (cs y) ≡ is_there (new_kids y)
      left-there y =
          left_as (below (y ∷ []) rows) (cs y) (below (y ∷ []) later) (apart-behind (y ∷ []) changes apart) (laid-below (y ∷ []) rows changes later is_laid) (in_order-below (y ∷ []) later after).small
          ∙ sym (is_there-of (below (y ∷ []) later) (new_kids y) (kids-of y))

      no_value : has_value_after ref changes ≡ false
      no_value = value_left rows changes later is_laid ∙ ap is_some (sym (ends_here-found_at later) ∙ none)

      only : numbers_below (λ y. is_left (children y) (cs y)) 16 ≡ x ∷ []
      only = numbers_below-agree (λ y. is_left (children y) (cs y)) (λ y. is_there (new_kids y)) 16 (λ y small. left-there y) ∙ one

      is_merged_here : cs x ≡ [] → merged ≡ Some x
      is_merged_here untouched =
          ap₂ (λ (b : Bool) (l : List ℕ). lone_child b l changes) no_value only
          ∙ ap (λ (l : List Change). if is_untouched l then Some x else None) untouched

      touched_known : (m : Option ℕ) (t : Top) → kids_touched x ≡ known t → merged_kids m children kids_touched x ≡ known (kid_top (merged_kids m children kids_touched x))
      touched_known None t is = known-kid (kids_touched x) t is
      touched_known (Some y) t is =
          elim (x == y) as (λ b. (if b then known (top_seen (children x)) else kids_touched x) ≡ known (kid_top (if b then known (top_seen (children x)) else kids_touched x))) [
            | true ↦ is_known (top_seen (children x))
            | false ↦ known-kid (kids_touched x) t is
          ]

      go : (l : List Change) → cs x ≡ l → new_kids x ≡ known (kid_top (new_kids x))
      go [] untouched =
          known-kid (new_kids x) (top_seen (children x))
          (ap (λ m. merged_kids m children kids_touched x) (is_merged_here untouched) ∙ ap (λ b. if b then known (top_seen (children x)) else kids_touched x) (same_nibble x))
      go (c ∷ l) is = touched_known merged (outcomes x).top (ap (λ (cs : List Change). kid_after (children x) cs (outcomes x)) is)

  pub are-kids : AreKids later new_kids (usage (tree.branch (ends_here rows) kids) - parts ref children changes)
  are-kids = record { order = after; each = kids-of; sums = usage-left; lone = lone-kid }

  top_forks : (updated (shown (tree_of rows)) changes).top ≡ top_of (tree_of later)
  unfolding updated shown
  top_forks =
      ap (λ t. (updated (shown t) changes).top) (tree_of-forks row next others e)
      ∙ ap (λ (r : Option ValueRef). (joint r new_kids (usage (tree.branch (ends_here rows) kids) - parts ref children changes)).top) (ref_after-rows rows changes later is_laid)
      ∙ joint-rows later new_kids (usage (tree.branch (ends_here rows) kids) - parts ref children changes) are-kids

-- What a batch makes of some rows' trie has the top of the later rows' trie.
pub updated-rows : (rows : List Row) → NewTop rows
updated-rows = by_cases NewTop (record { none = top_none; one = top_one; forks = top_forks; shares = top_shares })
