-- The steps that a reading goes, in order: which texts it visits.
use Rattle.std.specs.Prelude.{ℕ, ◌==◌, nat_lt, nat_eq, List, [], ◌∷◌, ◌++◌, Option, None, Some, if◌then◌else◌}
use Rattle.std.specs.Cmp.Lexicographic.{pointwise}
use Rattle.byte_model.specs.Below.{joined_below}
use Rattle.byte_model.specs.Node.{ValueRef}
use Rattle.trie_model.specs.Tree.{rest_behind}
use Rattle.visit_model.specs.Seen.{Seen, nothing, missing, bad, leaf, branch, extension}

-- A node that was read; a digest without its text; a text that is no node that fits; the value of a key, by the nibbles of the key.
pub data Step : Type 0 where
  node : (digest : List ℕ) → Step
  no_text : (digest : List ℕ) → Step
  no_node : (digest : List ℕ) → Step
  value : (path : List ℕ) (ref : ValueRef) → Step

-- the value of a key, if it has one
abbrev pub value_steps : List ℕ → Option ValueRef → List Step
value_steps path None = []
value_steps path (Some ref) = value path ref ∷ []

-- the steps with what is left behind a prefix, if there is such a rest
unfoldable pub behind : (List ℕ → List Step) → Option (List ℕ) → List Step
behind steps None = []
behind steps (Some rest) = steps rest

-- ---- the root alone

unfoldable pub top_steps : Seen → List Step
top_steps nothing = []
top_steps (missing digest) = no_text digest ∷ []
top_steps (bad digest) = no_node digest ∷ []
top_steps (leaf digest usage path ref) = node digest ∷ []
top_steps (branch digest usage ref kids) = node digest ∷ []
top_steps (extension digest usage path child) = node digest ∷ []

-- ---- the lookup of a key: the places on its path, and its value

-- The key is the nibbles before the place and those that are left.
unfoldable pub lookup_steps : Seen → List ℕ → List ℕ → List Step
lookup_steps nothing before rest = []
lookup_steps (missing digest) before rest = no_text digest ∷ []
lookup_steps (bad digest) before rest = no_node digest ∷ []
lookup_steps (leaf digest usage path ref) before rest =
    node digest ∷ (if pointwise nat_eq path rest then value (before ++ path) ref ∷ [] else [])
lookup_steps (branch digest usage ref kids) before [] = node digest ∷ value_steps before ref
lookup_steps (branch digest usage ref kids) before (x ∷ rest) = node digest ∷ lookup_steps (kids x) (before ++ x ∷ []) rest
lookup_steps (extension digest usage path child) before rest = node digest ∷ behind (lookup_steps child (before ++ path)) (rest_behind path rest)

-- ---- the listing of all keys from one on, by rising path

-- What is left of a lower bound on keys behind a prefix, where keys with the prefix can reach the bound: none of it where all of them are above.
unfoldable pub bound_behind : List ℕ → List ℕ → Option (List ℕ)
bound_behind [] bound = Some bound
bound_behind (x ∷ prefix) [] = Some []
bound_behind (x ∷ prefix) (y ∷ bound) = if x == y then bound_behind prefix bound else if nat_lt x y then None else Some []

-- the value of a key that is not below the bound, by what is left of the bound behind the key
unfoldable pub reached_steps : List ℕ → Option ValueRef → Option (List ℕ) → List Step
reached_steps path ref (Some []) = value_steps path ref
reached_steps path ref _ = []

-- The keys have the nibbles before the place, and below it reach the bound.
unfoldable pub listing_steps : Seen → List ℕ → List ℕ → List Step
listing_steps nothing before bound = []
listing_steps (missing digest) before bound = no_text digest ∷ []
listing_steps (bad digest) before bound = no_node digest ∷ []
listing_steps (leaf digest usage path ref) before bound = node digest ∷ reached_steps (before ++ path) (Some ref) (bound_behind path bound)
listing_steps (branch digest usage ref kids) before bound =
    node digest ∷ reached_steps before ref (Some bound) ++ joined_below (λ x. behind (listing_steps (kids x) (before ++ x ∷ [])) (bound_behind (x ∷ []) bound)) 16
listing_steps (extension digest usage path child) before bound = node digest ∷ behind (listing_steps child (before ++ path)) (bound_behind path bound)
