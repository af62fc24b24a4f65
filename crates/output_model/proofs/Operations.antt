-- What operations read and change.
use Rattle.std.proofs.Common.{◌≡◌, ℕ, ◌+◌, ◌≤◌, Bool, true, false, cond, is_some, List, [], ◌∷◌, ◌++◌, Option, None, Some, refl, sym, ap, subst, ◌∙◌, arith, le_refl, nat_cmp}
use Rattle.std.specs.FinMap.{empty, insert, get, get-empty, contains_key, len, len-empty, len-insert}
use Rattle.std.specs.Cmp.Lexicographic.{slice_cmp, nat_list_cmp_total}
use Rattle.script_model.specs.Words.{Op, read, set, delete}
use Rattle.batch_model.specs.Changes.{Changes}
use Rattle.output_model.specs.Laws.{later, last_made, made_of}
use Rattle.output_model.specs.Prove.{changes_in, laid_over, reads_in}
use Rattle.output_model.proofs.Told.{get-told, later-assoc, later-none}

-- ---- the last change of a key

one-laid : (changes : Changes) (op : Op) (other : List ℕ) (value : Option (List ℕ)) (ops : List Op) (key : List ℕ)
    → get (laid_over (insert changes other value) ops) key ≡ later (last_made key ops) (get (insert changes other value) key) → later (made_of key op) (get changes key) ≡ get (insert changes other value) key
    → get (laid_over (insert changes other value) ops) key ≡ later (later (last_made key ops) (made_of key op)) (get changes key)
one-laid changes op other value ops key rest one = rest ∙ ap (later (last_made key ops)) (sym one) ∙ sym (later-assoc (last_made key ops) (made_of key op) (get changes key))

pub get-laid : (changes : Changes) (ops : List Op) (key : List ℕ) → get (laid_over changes ops) key ≡ later (last_made key ops) (get changes key)
unfolding laid_over last_made
get-laid changes [] key = refl
get-laid changes (read other ∷ ops) key = get-laid changes ops key ∙ ap (λ o. later o (get changes key)) (sym (later-none (last_made key ops)))
get-laid changes (set other value ∷ ops) key = one-laid changes (set other value) other (Some value) ops key (get-laid (insert changes other (Some value)) ops key) (sym (get-told changes other (Some value) key))
get-laid changes (delete other ∷ ops) key = one-laid changes (delete other) other None ops key (get-laid (insert changes other None) ops key) (sym (get-told changes other None key))

pub get-changes_in : (key : List ℕ) (ops : List Op) → get (changes_in ops) key ≡ last_made key ops
get-changes_in key ops = get-laid empty ops key ∙ ap (later (last_made key ops)) (get-empty (slice_cmp nat_cmp) key) ∙ later-none (last_made key ops)

-- ---- how many keys are changed

-- one more where the key was not changed before, and else none
pub len-more : (changes : Changes) (key : List ℕ) (value : Option (List ℕ)) → len changes ≤ len (insert changes key value)
len-more changes key value = subst (λ n. len changes ≤ n) (sym (len-insert nat_list_cmp_total changes key value)) (by_test (contains_key changes key))
  where
    by_test : (b : Bool) → len changes ≤ cond b (len changes) (len changes + 1)
    by_test true = le_refl (len changes)
    by_test false = omega arith

pub len-laid : (changes : Changes) (ops : List Op) → len changes ≤ len (laid_over changes ops)
unfolding laid_over
len-laid changes [] = le_refl (len changes)
len-laid changes (read key ∷ ops) = len-laid changes ops
len-laid changes (set key value ∷ ops) = omega (arith, len-more changes key (Some value), len-laid (insert changes key (Some value)) ops)
len-laid changes (delete key ∷ ops) = omega (arith, len-more changes key None, len-laid (insert changes key None) ops)

abbrev unchanged : Changes
unchanged = empty

pub len-unchanged : len unchanged ≡ 0
len-unchanged = len-empty (slice_cmp nat_cmp) (Option (List ℕ))

pub len-once : (key : List ℕ) (value : Option (List ℕ)) → len (insert unchanged key value) ≡ 1
len-once key value = len-insert nat_list_cmp_total unchanged key value ∙ ap (λ b. cond b (len unchanged) (len unchanged + 1)) (ap is_some (get-empty (slice_cmp nat_cmp) key)) ∙ ap (λ n. n + 1) len-unchanged

-- ---- operations behind others

pub laid-append : (changes : Changes) (ops further : List Op) → laid_over changes (ops ++ further) ≡ laid_over (laid_over changes ops) further
unfolding laid_over
laid-append changes [] further = refl
laid-append changes (read key ∷ ops) further = laid-append changes ops further
laid-append changes (set key value ∷ ops) further = laid-append (insert changes key (Some value)) ops further
laid-append changes (delete key ∷ ops) further = laid-append (insert changes key None) ops further

pub len-changes_in : (ops further : List Op) → len (changes_in ops) ≤ len (changes_in (ops ++ further))
len-changes_in ops further = subst (λ (c : Changes). len (changes_in ops) ≤ len c) (sym (laid-append empty ops further)) (len-laid (changes_in ops) further)

pub reads-append : (ops further : List Op) → reads_in (ops ++ further) ≡ reads_in ops ++ reads_in further
unfolding reads_in
reads-append [] further = refl
reads-append (read key ∷ ops) further = ap (λ (keys : List (List ℕ)). key ∷ keys) (reads-append ops further)
reads-append (set key value ∷ ops) further = reads-append ops further
reads-append (delete key ∷ ops) further = reads-append ops further
