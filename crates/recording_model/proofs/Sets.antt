-- The texts of a set are those of which it was made, and sets with the same members are the same.
use Rattle.std.proofs.Common.{◌≡◌, ℕ, ◌||◌, nat_cmp, Bool, true, false, cond, List, [], ◌∷◌, Option, None, Some, is_some, refl, sym, ap, ◌∙◌, subst}
use Rattle.std.specs.List.{list_any}
use Rattle.std.specs.Cmp.Lexicographic.{slice_cmp, nat_list_cmp_total}
use Rattle.std.specs.FinMap.{get, get-insert, get-empty, contains_key-keys, same_map}
use Rattle.std.proofs.lemmas.Map.Lookups.{exact_bytes}
use Rattle.trie_model.proofs.Members.{IsIn}
use Rattle.change_model.proofs.Laid.{same_tests}
use Rattle.count_model.proofs.Clashing.{any_from, any_in}
use Rattle.partial_model.specs.Texts.{set_of, texts_in}
use Rattle.recording_model.proofs.Filled.{is_same, same_itself, same_from}

-- whether a text is among some
abbrev among : List (List ℕ) → List ℕ → Bool
among texts q = list_any (is_same q) texts

-- that it is there, or none
abbrev there_if : Bool → Option (Unit {0})
there_if b = cond b (Some tt) None

either : (a b : Bool) → cond a (Some tt) (there_if b) ≡ there_if (a || b)
either true b = refl
either false b = refl

get-set_of : (texts : List (List ℕ)) (q : List ℕ) → get (set_of texts) q ≡ there_if (among texts q)
get-set_of [] q = get-empty (slice_cmp nat_cmp) q
get-set_of (t ∷ texts) q = get-insert nat_list_cmp_total (set_of texts) t tt q ∙ ap (cond (is_same q t) (Some tt)) (get-set_of texts q) ∙ either (is_same q t) (among texts q)

among-more : (xs ys : List (List ℕ)) → ((t : List ℕ) → IsIn xs t → IsIn ys t) → (q : List ℕ) → among xs q ≡ true → among ys q ≡ true
among-more xs ys all q e =
    let one = any_from (is_same q) xs e in
    any_in (is_same q) ys one.0 (all one.0 one.1) one.2

pub same-sets : (xs ys : List (List ℕ)) → ((t : List ℕ) → IsIn xs t → IsIn ys t) → ((t : List ℕ) → IsIn ys t → IsIn xs t) → set_of xs ≡ set_of ys
same-sets xs ys there back = same_map nat_list_cmp_total exact_bytes (set_of xs) (set_of ys) (λ q.
    get-set_of xs q ∙ ap there_if (same_tests (among xs q) (among ys q) (among-more xs ys there q) (among-more ys xs back q)) ∙ sym (get-set_of ys q))

-- ---- the texts of a set

told : (b : Bool) → is_some (there_if b) ≡ b
told true = refl
told false = refl

among-set_of : (texts : List (List ℕ)) (q : List ℕ) → among (texts_in (set_of texts)) q ≡ among texts q
among-set_of texts q = sym (contains_key-keys (set_of texts) q) ∙ ap is_some (get-set_of texts q) ∙ told (among texts q)

among-in : (texts : List (List ℕ)) (q : List ℕ) → IsIn texts q → among texts q ≡ true
among-in texts q h = any_in (is_same q) texts q h (same_itself q)

in_among : (texts : List (List ℕ)) (q : List ℕ) → among texts q ≡ true → IsIn texts q
in_among texts q e =
    let one = any_from (is_same q) texts e in
    subst (IsIn texts) (sym (same_from q one.0 one.2)) one.1

pub in-set_of : (texts : List (List ℕ)) (t : List ℕ) → IsIn texts t → IsIn (texts_in (set_of texts)) t
in-set_of texts t h = in_among (texts_in (set_of texts)) t (among-set_of texts t ∙ among-in texts t h)

pub in_set_of_from : (texts : List (List ℕ)) (t : List ℕ) → IsIn (texts_in (set_of texts)) t → IsIn texts t
in_set_of_from texts t h = in_among texts t (sym (among-set_of texts t) ∙ among-in (texts_in (set_of texts)) t h)
