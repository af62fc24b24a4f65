-- In the order of acceptance a block stands behind its prev.
use Rattle.std.proofs.Common.{◌≡◌, ◌≢◌, ℕ, zero, suc, ◌<◌, true, List, [], ◌∷◌, ◌++◌, length, take, drop, reverse, Option, None, Some, is_some, refl, sym, ◌∙◌, ap, subst, arith}
use Rattle.std.specs.List.{slice_get}
use Rattle.std.proofs.lemmas.Bool.{false≢true}
use Rattle.std.proofs.lemmas.Option.{slice_get_within}
use Rattle.std.proofs.lemmas.List.{append_assoc, length-take-le, reverse-append, reverse-reverse}
use Rattle.fork_model.specs.Trees.{AreGrown, BlockTree, Follows, Header, IsTree, block_of}
use Rattle.fork_model.proofs.Ids.{found-reverse, AreApart}
use Rattle.fork_model.proofs.Lines.{apart-grown, id_key, prev_from}
use Rattle.fork_model.proofs.Partition.{apart-reverse}
use Rattle.fork_tree.specs.Kept.{place_of}
use Rattle.fork_tree.proofs.Places.{place-append, place-live, stands_at}

-- what is behind older ones, newest first
not_nil : (zs : List Header) (b : Header) (older : List Header) → zs ++ (b ∷ older) ≢ []
not_nil [] b older e = cc
not_nil (z ∷ zs) b older e = cc

tail_grown : (head : List ℕ) (z : Header) (bs : List Header) → (bs ≢ []) → AreGrown head (z ∷ bs) → AreGrown head bs
tail_grown head z [] some grown = absurd (some refl)
tail_grown head z (o ∷ rest) some grown = grown.1

rest_grown : (head : List ℕ) (zs : List Header) (b : Header) (older : List Header) → AreGrown head (zs ++ (b ∷ older)) → AreGrown head (b ∷ older)
rest_grown head [] b older grown = grown
rest_grown head (z ∷ zs) b older grown = rest_grown head zs b older (tail_grown head z (zs ++ (b ∷ older)) (not_nil zs b older) grown)

follows_older : (head : List ℕ) (b : Header) (older : List Header) → (older ≢ []) → AreGrown head (b ∷ older) → Follows older b
follows_older head b [] some grown = absurd (some refl)
follows_older head b (o ∷ rest) some grown = grown.0

reverse-nil : (xs : List Header) → (xs ≢ []) → reverse xs ≢ []
reverse-nil xs some e = some (sym (reverse-reverse xs) ∙ ap reverse e)

-- the prev of a block stands before it
pub record IsEarlier (blocks : List Header) (b : Header) (place : ℕ) : Type 0 where
  pub at : ℕ
  pub is : place_of blocks b.prev ≡ Some at
  pub before : at < place

live_place : (o : Option ℕ) → is_some o ≡ true → (n : ℕ) × (o ≡ Some n)
live_place None e = absurd (false≢true e)
live_place (Some n) e = (n, refl)

split_earlier : (head : List ℕ) (xs : List Header) (b : Header) (ys : List Header) → (xs ≢ []) → AreGrown head (reverse (xs ++ (b ∷ ys))) → IsEarlier (xs ++ (b ∷ ys)) b (length xs)
unfolding block_of
split_earlier head xs b ys some grown =
    let turned : reverse (xs ++ (b ∷ ys)) ≡ reverse ys ++ (b ∷ reverse xs)
    = reverse-append xs (b ∷ ys) ∙ ap (λ zs. zs ++ reverse xs) (reverse-append (b ∷ []) ys) ∙ append_assoc (reverse ys) (b ∷ []) (reverse xs) in
    let rest : AreGrown head (b ∷ reverse xs) = rest_grown head (reverse ys) b (reverse xs) (subst (AreGrown head) turned grown) in
    let nonempty = reverse-nil xs some in
    let follows = follows_older head b (reverse xs) nonempty rest in
    let prev = prev_from _ _ follows.higher in
    let apart : AreApart id_key xs = subst (AreApart id_key) (reverse-reverse xs) (apart-reverse id_key (reverse xs) (apart-grown head (reverse xs) (tail_grown head b (reverse xs) nonempty rest))) in
    let found_in : block_of xs b.prev ≡ Some prev.prev = sym (found-reverse id_key xs b.prev apart) ∙ prev.is in
    let place = live_place (place_of xs b.prev) (place-live xs b.prev ∙ ap is_some found_in) in
    let within = (stands_at xs b.prev place.0 place.1).within in
    record { at = place.0; is = place-append xs (b ∷ ys) b.prev place.0 place.1; before = within }

pub split_at : {X : Type 0} (xs : List X) (place : ℕ) (b : X) → slice_get xs place ≡ Some b → xs ≡ take place xs ++ (b ∷ drop (suc place) xs)
split_at {X} [] place b e = absurd (none_some e)
  where
    none_some : None ≡ Some b → ⊥
    none_some e = cc
split_at {X} (x ∷ xs) zero b e = let same : x ≡ b = cc in ap (λ y. y ∷ xs) same
split_at {X} (x ∷ xs) (suc place) b e = ap (λ ys. x ∷ ys) (split_at xs place b e)

pub earlier : (tree : BlockTree) → IsTree tree → (place : ℕ) (b : Header) → slice_get tree.blocks place ≡ Some b → 0 < place → IsEarlier tree.blocks b place
earlier tree is place b at behind =
    let split = split_at tree.blocks place b at in
    let within : place < length tree.blocks = slice_get_within tree.blocks place b at in
    let len : length (take place tree.blocks) ≡ place = length-take-le place tree.blocks (omega (arith, within)) in
    let some : take place tree.blocks ≢ [] = λ e. (let z : 0 ≡ place = sym (ap length e) ∙ len in absurd (omega (arith, z, behind))) in
    let it = split_earlier tree.head (take place tree.blocks) b (drop (suc place) tree.blocks) some (subst (λ bs. AreGrown tree.head (reverse bs)) split is.grown) in
    record { at = it.at; is = ap (λ bs. place_of bs b.prev) split ∙ it.is; before = (let l = it.before in omega (arith, l, len)) }
