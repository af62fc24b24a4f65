-- Touched places, told by rows: which places of a trie are on the path of a change or remain alone, and how that is inherited by the rows below a path.
use Rattle.std.proofs.Common.{◌≡◌, ◌≢◌, if◌then◌else◌, ℕ, ◌==◌, ◌&&◌, ◌||◌, not, Bool, true, false, List, [], ◌∷◌, ◌++◌, length, map, Option, None, Some, is_some, refl, sym, ◌∙◌, ap, ap₂, subst, ◌⊎◌, inl, inr, append_assoc, append-nil}
use Rattle.std.specs.List.{AllByRecursion, cons_option}
use Rattle.std.specs.Option.{option_map, option_and_then}
use Rattle.std.proofs.lemmas.Bool.{false≢true, and_parts, and_from, false_from_ne_true}
use Rattle.trie_model.specs.State.{Row}
use Rattle.trie_model.specs.Tree.{rest_behind, below, tree_of}
use Rattle.trie_model.proofs.Members.{IsIn, all_of}
use Rattle.trie_model.proofs.Rests.{AllHavePrefix, HasPrefix, below-append, rest_behind-append, rest_behind-prefix}
use Rattle.batch_model.specs.Changes.{Change, found_at}
use Rattle.change_model.specs.Places.{above, is_branch, all_stand_below, leads_to}
use Rattle.change_model.specs.Visits.{changes_behind, is_untouched}
use Rattle.change_model.proofs.Forks.{Fork, fork-prefix}
use Rattle.change_model.proofs.Touched.{above-behind, not_root, split_last, all_below-prefix, prefix-all_below}
use Rattle.change_model.proofs.Laid.{IsLaid, laid-below, same_path, path_of_test, test_of_path, same_tests}

-- ---- changes that lead to a path

abbrev pub paths_of : List Change → List (List ℕ)
paths_of changes = map (λ change. change.0) changes

pub leads_to-behind : (p q : List ℕ) (changes : List Change) → leads_to (paths_of changes) (p ++ q) ≡ leads_to (paths_of (changes_behind p changes)) q
unfolding leads_to changes_behind
leads_to-behind p q [] = refl
leads_to-behind p q (change ∷ changes) =
    ap (λ (o : Option (List ℕ)). is_some o || leads_to (paths_of changes) (p ++ q)) (rest_behind-append p q change.0)
    ∙ go (rest_behind p change.0) (leads_to-behind p q changes)
  where
    go : (o : Option (List ℕ)) → leads_to (paths_of changes) (p ++ q) ≡ leads_to (paths_of (changes_behind p changes)) q
        → (is_some (option_and_then (rest_behind q) o) || leads_to (paths_of changes) (p ++ q)) ≡ leads_to (paths_of (cons_option (option_map (λ rest. (rest, change.1)) o) (changes_behind p changes))) q
    go None further = further
    go (Some rest) further = ap (λ b. is_some (rest_behind q rest) || b) further

-- all changes lead to the root
pub leads_to-root : (changes : List Change) → leads_to (paths_of changes) [] ≡ not (is_untouched changes)
unfolding leads_to rest_behind
leads_to-root [] = refl
leads_to-root (change ∷ changes) = refl

pub leads_to-here : (p : List ℕ) (changes : List Change) → leads_to (paths_of changes) p ≡ not (is_untouched (changes_behind p changes))
leads_to-here p changes =
    ap (leads_to (paths_of changes)) (sym (append-nil p)) ∙ leads_to-behind p [] changes ∙ leads_to-root (changes_behind p changes)

-- ---- what remains alone

unfoldable pub alone : List Row → List Change → List Row → List ℕ → Bool
alone rows changes later place =
    not (length place == 0) && is_branch (tree_of (below (above place) rows)) && not (leads_to (paths_of changes) place) && all_stand_below later (above place) place

-- the same as facts, of a place one nibble behind a path
pub record Alone (rows : List Row) (changes : List Change) (later : List Row) (path : List ℕ) (x : ℕ) : Type 0 where
  pub fork : Fork (below path rows)
  pub untouched : leads_to (paths_of changes) (path ++ x ∷ []) ≡ false
  pub all : AllHavePrefix (x ∷ []) (below path later)

pub alone_from : (rows : List Row) (changes : List Change) (later : List Row) (path : List ℕ) (x : ℕ) → Alone rows changes later path x → alone rows changes later (path ++ x ∷ []) ≡ true
unfolding alone
alone_from rows changes later path x h =
    subst (λ (p : List ℕ). (not (length (path ++ x ∷ []) == 0) && is_branch (tree_of (below p rows)) && not (leads_to (paths_of changes) (path ++ x ∷ [])) && all_stand_below later p (path ++ x ∷ [])) ≡ true) (sym (above-behind path x))
    (and_from _ _ (and_from _ _ (and_from _ _ (not_root path x) h.fork) (ap not h.untouched)) (prefix-all_below later path (x ∷ []) h.all))

pub alone_to : (rows : List Row) (changes : List Change) (later : List Row) (path : List ℕ) (x : ℕ) → alone rows changes later (path ++ x ∷ []) ≡ true → Alone rows changes later path x
unfolding alone
alone_to rows changes later path x e =
    let up : (not (length (path ++ x ∷ []) == 0) && is_branch (tree_of (below path rows)) && not (leads_to (paths_of changes) (path ++ x ∷ [])) && all_stand_below later path (path ++ x ∷ [])) ≡ true = subst (λ (p : List ℕ). (not (length (path ++ x ∷ []) == 0) && is_branch (tree_of (below p rows)) && not (leads_to (paths_of changes) (path ++ x ∷ [])) && all_stand_below later p (path ++ x ∷ [])) ≡ true) (above-behind path x) e in
    let last = and_parts _ _ up in
    let third = and_parts _ _ last.0 in
    let second = and_parts _ _ third.0 in
    record {
      fork = second.1;
      untouched = false_from_ne_true (leads_to (paths_of changes) (path ++ x ∷ [])) (λ t. false≢true (ap not (sym t) ∙ third.1));
      all = all_below-prefix later path (x ∷ []) last.1;
    }

-- inherited by the rows below a path
alone-down : (r p : List ℕ) (x : ℕ) (rows : List Row) (changes : List Change) (later : List Row) → Alone rows changes later (r ++ p) x → Alone (below r rows) (changes_behind r changes) (below r later) p x
alone-down r p x rows changes later h = record {
  fork = subst Fork (below-append r p rows) h.fork;
  untouched = sym (leads_to-behind r (p ++ x ∷ []) changes) ∙ ap (leads_to (paths_of changes)) (sym (append_assoc r p (x ∷ []))) ∙ h.untouched;
  all = subst (AllHavePrefix (x ∷ [])) (below-append r p later) h.all;
}

alone-up : (r p : List ℕ) (x : ℕ) (rows : List Row) (changes : List Change) (later : List Row) → Alone (below r rows) (changes_behind r changes) (below r later) p x → Alone rows changes later (r ++ p) x
alone-up r p x rows changes later h = record {
  fork = subst Fork (sym (below-append r p rows)) h.fork;
  untouched = ap (leads_to (paths_of changes)) (append_assoc r p (x ∷ [])) ∙ leads_to-behind r (p ++ x ∷ []) changes ∙ h.untouched;
  all = subst (AllHavePrefix (x ∷ [])) (sym (below-append r p later)) h.all;
}

pub alone-behind : (r q : List ℕ) (rows : List Row) (changes : List Change) (later : List Row) → q ≢ [] → alone rows changes later (r ++ q) ≡ alone (below r rows) (changes_behind r changes) (below r later) q
alone-behind r q rows changes later some = go (split_last q)
  where
    go : (q ≡ []) ⊎ ((p : List ℕ) × (x : ℕ) × (q ≡ p ++ x ∷ [])) → alone rows changes later (r ++ q) ≡ alone (below r rows) (changes_behind r changes) (below r later) q
    go (inl none) = absurd (some none)
    go (inr s) =
        let p : List ℕ = s.0 in
        let x : ℕ = s.1 in
        subst (λ (w : List ℕ). alone rows changes later (r ++ w) ≡ alone (below r rows) (changes_behind r changes) (below r later) w) (sym s.2)
        (same_tests (alone rows changes later (r ++ (p ++ x ∷ []))) (alone (below r rows) (changes_behind r changes) (below r later) (p ++ x ∷ []))
        (λ e. alone_from (below r rows) (changes_behind r changes) (below r later) p x (alone-down r p x rows changes later (alone_to rows changes later (r ++ p) x (subst (λ (w : List ℕ). alone rows changes later w ≡ true) (sym (append_assoc r p (x ∷ []))) e))))
        (λ e. subst (λ (w : List ℕ). alone rows changes later w ≡ true) (append_assoc r p (x ∷ [])) (alone_from rows changes later (r ++ p) x (alone-up r p x rows changes later (alone_to (below r rows) (changes_behind r changes) (below r later) p x e)))))

-- ---- where nothing is changed

-- what some path is found to have, a row has
pub found_all : (P : List ℕ → Type 0) (rows : List Row) (q v : List ℕ) → AllByRecursion (λ row. P row.0) rows → found_at q rows ≡ Some v → P q
unfolding found_at
found_all P [] q v all e = cc
found_all P (row ∷ rows) q v all e =
    elim (same_path row.0 q) as (λ b. same_path row.0 q ≡ b → (if b then Some row.1 else found_at q rows) ≡ Some v → P q) [
      | true ↦ λ t _. subst P (path_of_test row.0 q t) all.0
      | false ↦ λ t more. found_all P rows q v all.1 more
    ] refl e

found_member : (rows : List Row) (row : Row) → IsIn rows row → (v : List ℕ) × (found_at row.0 rows ≡ Some v)
unfolding found_at
found_member [] row h = absurd h
found_member (first ∷ rows) row h = go (same_path first.0 row.0) refl h (found_member rows row)
  where
    go : (b : Bool) → same_path first.0 row.0 ≡ b → IsIn (first ∷ rows) row → (IsIn rows row → (v : List ℕ) × (found_at row.0 rows ≡ Some v)) → (v : List ℕ) × ((if same_path first.0 row.0 then Some first.1 else found_at row.0 rows) ≡ Some v)
    go true t h further = (first.1, ap (λ b. if b then Some first.1 else found_at row.0 rows) t)
    go false t (inl e) further = absurd (false≢true (sym t ∙ test_of_path first.0 row.0 (ap (λ (r : Row). r.0) e)))
    go false t (inr h) further = let r = further h in (r.0, ap (λ b. if b then Some first.1 else found_at row.0 rows) t ∙ r.1)

-- what holds of each path at which something is found holds of each row's path
pub all_found : (P : List ℕ → Type 0) (rows : List Row) → ((q v : List ℕ) → found_at q rows ≡ Some v → P q) → AllByRecursion (λ row. P row.0) rows
all_found P rows each = all_of (λ row. P row.0) rows (λ row h. let r = found_member rows row h in each row.0 r.0 r.1)

pub none-behind : (p : List ℕ) → changes_behind p [] ≡ []
unfolding changes_behind
none-behind p = refl

-- Where no change stands, nothing below the top remains alone: a fork's rows don't all begin with one nibble.
pub none_alone : (rows later : List Row) (q : List ℕ) → IsLaid rows [] later → q ≢ [] → alone rows [] later q ≡ false
unfolding found_at
none_alone rows later q laid some = false_from_ne_true (alone rows [] later q) (λ e. go (split_last q) e)
  where
    go : (q ≡ []) ⊎ ((p : List ℕ) × (x : ℕ) × (q ≡ p ++ x ∷ [])) → alone rows [] later q ≡ true → ⊥
    go (inl none) e = some none
    go (inr s) e =
        let p : List ℕ = s.0 in
        let x : ℕ = s.1 in
        let h = alone_to rows [] later p x (subst (λ (w : List ℕ). alone rows [] later w ≡ true) s.2 e) in
        let below_laid : IsLaid (below p rows) [] (below p later) = subst (λ (cs : List Change). IsLaid (below p rows) cs (below p later)) (none-behind p) (laid-below p rows [] later laid) in
        let all : AllHavePrefix (x ∷ []) (below p rows) = all_found (HasPrefix (x ∷ [])) (below p rows) (λ path v found. found_all (HasPrefix (x ∷ [])) (below p later) path v h.all (below_laid.at path ∙ found)) in
        fork-prefix x [] (below p rows) all h.fork

-- ---- touched places

unfoldable pub touched : List Row → List Change → List Row → List ℕ → Bool
touched rows changes later place = leads_to (paths_of changes) place || alone rows changes later place

pub touched-def : (rows : List Row) (changes : List Change) (later : List Row) (place : List ℕ) → touched rows changes later place ≡ (leads_to (paths_of changes) place || alone rows changes later place)
unfolding touched
touched-def rows changes later place = refl

-- the root is, where something is changed
pub touched-root : (rows : List Row) (changes : List Change) (later : List Row) → is_untouched changes ≡ false → touched rows changes later [] ≡ true
unfolding touched
touched-root rows changes later some = ap (λ b. b || alone rows changes later []) (leads_to-root changes ∙ ap not some)

-- a place below a path is touched as it is among the rows there
pub touched-behind : (r q : List ℕ) (rows : List Row) (changes : List Change) (later : List Row) → q ≢ [] → touched rows changes later (r ++ q) ≡ touched (below r rows) (changes_behind r changes) (below r later) q
unfolding touched
touched-behind r q rows changes later some = ap₂ (λ (a b : Bool). a || b) (leads_to-behind r q changes) (alone-behind r q rows changes later some)

-- and so is the path itself, where a change stands below it
pub touched-here : (r : List ℕ) (rows : List Row) (changes : List Change) (later : List Row) → is_untouched (changes_behind r changes) ≡ false → touched rows changes later r ≡ true
unfolding touched
touched-here r rows changes later some = ap (λ b. b || alone rows changes later r) (leads_to-here r changes ∙ ap not some)

-- Where no change stands below a path, no place further below it is touched.
pub untouched-behind : (r q : List ℕ) (rows : List Row) (changes : List Change) (later : List Row) → IsLaid rows changes later → changes_behind r changes ≡ [] → q ≢ [] → touched rows changes later (r ++ q) ≡ false
unfolding touched leads_to
untouched-behind r q rows changes later laid none some =
    touched-behind r q rows changes later some
    ∙ ap (λ (cs : List Change). touched (below r rows) cs (below r later) q) none
    ∙ none_alone (below r rows) (below r later) q (subst (λ (cs : List Change). IsLaid (below r rows) cs (below r later)) none (laid-below r rows changes later laid)) some

pub untouched-here : (r : List ℕ) (rows : List Row) (changes : List Change) (later : List Row) → changes_behind r changes ≡ [] → touched rows changes later r ≡ alone rows changes later r
unfolding touched
untouched-here r rows changes later none = ap (λ b. b || alone rows changes later r) (leads_to-here r changes ∙ ap (λ (cs : List Change). not (is_untouched cs)) none)

all_behind : (p : List ℕ) (x : ℕ) (rows : List Row) → AllHavePrefix (p ++ x ∷ []) rows → AllHavePrefix (x ∷ []) (below p rows)
unfolding below
all_behind p x [] all = tt
all_behind p x (row ∷ rows) all = go (rest_behind p row.0) refl (all_behind p x rows all.1)
  where
    go : (o : Option (List ℕ)) → rest_behind p row.0 ≡ o → AllHavePrefix (x ∷ []) (below p rows) → AllHavePrefix (x ∷ []) (cons_option (option_map (λ rest. (rest, row.1)) o) (below p rows))
    go None e further = further
    go (Some rest) e further =
        let here : row.0 ≡ (p ++ x ∷ []) ++ all.0.0 = all.0.1 in
        let is : rest ≡ x ∷ all.0.0 = some_same rest (x ∷ all.0.0) (sym e ∙ ap (rest_behind p) (here ∙ append_assoc p (x ∷ []) all.0.0) ∙ rest_behind-prefix p (x ∷ all.0.0)) in
        ((all.0.0, is), further)
      where
        some_same : (r q : List ℕ) → Some r ≡ Some q → r ≡ q
        some_same r q e = cc

-- Rows that share a prefix don't fork above it, so the place behind the prefix does not remain alone.
pub shared_not_alone : (r : List ℕ) (rows : List Row) (changes : List Change) (later : List Row) → r ≢ [] → AllHavePrefix r rows → alone rows changes later r ≡ false
shared_not_alone r rows changes later some all = false_from_ne_true (alone rows changes later r) (λ e. go (split_last r) e)
  where
    go : (r ≡ []) ⊎ ((p : List ℕ) × (x : ℕ) × (r ≡ p ++ x ∷ [])) → alone rows changes later r ≡ true → ⊥
    go (inl none) e = some none
    go (inr s) e =
        let p : List ℕ = s.0 in
        let x : ℕ = s.1 in
        let h = alone_to rows changes later p x (subst (λ (w : List ℕ). alone rows changes later w ≡ true) s.2 e) in
        fork-prefix x [] (below p rows) (all_behind p x rows (subst (λ (w : List ℕ). AllHavePrefix w rows) s.2 all)) h.fork
