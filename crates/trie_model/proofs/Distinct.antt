-- Equal texts mean equal rows, where no two of the texts at hand share a digest.
use Rattle.std.proofs.Common.{◌≡◌, ◌≢◌, ℕ, ◌<◌, List, [], ◌∷◌, ◌++◌, map, Option, None, Some, IfSome, option_map, ◌⊎◌, ◌↔◌, refl, sym, ◌∙◌, ap, ap₂, subst, inl, inr}
use Rattle.std.specs.List.{AllByRecursion}
use Rattle.std.proofs.lemmas.Option.{same_Some, none-some}
use Rattle.sha2.specs.Sha256.{sha256}
use Rattle.byte_model.specs.Node as node
use Rattle.byte_model.specs.Node.{Node, ValueRef, spelled, IsShaped}
use Rattle.byte_model.specs.Laws.{FitsRecord, SameNode}
use Rattle.byte_model.proofs.Spellings.{spelled-same_node}
use Rattle.trie_model.specs.State.{State, Row, IsState, rows_of}
use Rattle.trie_model.specs.Tree.{Tree, leaf, branch, extension, below, ends_here, common_prefix, tree_of}
use Rattle.trie_model.specs.Texts.{text, usage, name_of, node_of, value_ref}
use Rattle.trie_model.specs.Root.{root, root_of, texts_of, text_at, zero_digest, NoClash}
use Rattle.trie_model.proofs.Members.{IsIn, all_of, in-map, in-joined_below, contains_of_in, in_of_contains, in-append_left, in-append_right}
use Rattle.trie_model.proofs.Roots.{rows_of-same, root_text_occurs, root-some}
use Rattle.byte_model.proofs.Below.{joined_below-agree}
use Rattle.trie_model.proofs.Rests.{under, under-below, AllHavePrefix, common_prefix-all}
use Rattle.trie_model.proofs.Trees.{tree_of-nil, tree_of-one, tree_of-forks, tree_of-shares, by_cases}
use Rattle.trie_model.proofs.Places.{gathered, tree_texts}
use Rattle.trie_model.proofs.Costs.{text-node_of, subtree_at-root, texts_of-tree_texts}
use Rattle.trie_model.proofs.Order.{RisingRows, rising-below, rising-rows_of, all-below}
use Rattle.trie_model.proofs.Pairs.{Small, small-below, small-rows_of, here, by_nibble, rows_by_nibble}
use Rattle.trie_model.proofs.Shapes.{ShortValues, short-below, short-rows_of, sound_nodes}

-- rows as a state has them
pub record Sound (rows : List Row) : Type 0 where
  pub rising : RisingRows rows
  pub small : Small rows
  pub short : ShortValues rows

sound-below : (prefix : List ℕ) (rows : List Row) → Sound rows → Sound (below prefix rows)
sound-below prefix rows s = record {
  rising = rising-below prefix rows s.rising;
  small = small-below prefix rows s.small;
  short = short-below prefix rows s.short;
}

-- ---- names and texts of some rows

pub is_empty_or_not : (rows : List Row) → (rows ≡ []) ⊎ (rows ≢ [])
is_empty_or_not [] = inl refl
is_empty_or_not (row ∷ rows) = inr (cons_some row rows)
  where
    cons_some : (row : Row) (rows : List Row) → row ∷ rows ≢ []
    cons_some row rows e = cc

name_of-rows : (rows : List Row) → rows ≢ [] → (t : List ℕ) → name_of (tree_of rows) t ≡ Some (sha256 t)
unfolding name_of
name_of-rows = by_cases (λ rows. rows ≢ [] → (t : List ℕ) → name_of (tree_of rows) t ≡ Some (sha256 t)) (record {
  none = λ some t. absurd (some refl);
  one = λ row some t. subst (λ tree. name_of tree t ≡ Some (sha256 t)) (sym (tree_of-one row)) refl;
  forks = λ row next rows e further some t. subst (λ tree. name_of tree t ≡ Some (sha256 t)) (sym (tree_of-forks row next rows e)) refl;
  shares = λ row next rows x prefix e further some t. subst (λ tree. name_of tree t ≡ Some (sha256 t)) (sym (tree_of-shares row next rows x prefix e)) refl;
})

name_of-none : (t : List ℕ) → name_of (tree_of []) t ≡ None
unfolding name_of
name_of-none t = ap (λ tree. name_of tree t) tree_of-nil

text_in : (rows : List Row) → rows ≢ [] → IsIn (tree_texts (tree_of rows)) (text (tree_of rows))
unfolding gathered
text_in = by_cases (λ rows. rows ≢ [] → IsIn (tree_texts (tree_of rows)) (text (tree_of rows))) (record {
  none = λ some. absurd (some refl);
  one = λ row some. subst (λ tree. IsIn (tree_texts tree) (text tree)) (sym (tree_of-one row)) (inl refl);
  forks = λ row next rows e further some. subst (λ tree. IsIn (tree_texts tree) (text tree)) (sym (tree_of-forks row next rows e)) (inl refl);
  shares = λ row next rows x prefix e further some. subst (λ tree. IsIn (tree_texts tree) (text tree)) (sym (tree_of-shares row next rows x prefix e)) (inl refl);
})

-- ---- the kinds of nodes that rows can have

data Kind (rows : List Row) : Type 0 where
  none : rows ≡ [] → Kind rows
  one : (row : Row) → rows ≡ row ∷ [] → Kind rows
  forks : tree_of rows ≡ branch (ends_here rows) (λ x. tree_of (below (x ∷ []) rows)) → Kind rows
  shares : (prefix : List ℕ) → AllHavePrefix prefix rows → tree_of rows ≡ extension prefix (tree_of (below prefix rows)) → Kind rows

kind_of : (rows : List Row) → Kind rows
kind_of [] = none refl
kind_of (row ∷ []) = one row refl
kind_of (row ∷ next ∷ rows) = go (common_prefix row (next ∷ rows)) refl
  where
    go : (prefix : List ℕ) → common_prefix row (next ∷ rows) ≡ prefix → Kind (row ∷ next ∷ rows)
    go [] e = forks (tree_of-forks row next rows e)
    go (x ∷ prefix) e = shares (x ∷ prefix) (subst (λ (f : List ℕ). AllHavePrefix f (row ∷ next ∷ rows)) e (common_prefix-all row (next ∷ rows))) (tree_of-shares row next rows x prefix e)

fits : (rows : List Row) → Sound rows → (tree : Tree) → tree_of rows ≡ tree → IfSome (node_of tree) (λ n. IsShaped n × FitsRecord n)
fits rows s tree e = subst (λ t. IfSome (node_of t) (λ n. IsShaped n × FitsRecord n)) e (sound_nodes rows s.rising s.small s.short)

module _ (texts : List (List ℕ)) (apart : (a b : List ℕ) → IsIn texts a → IsIn texts b → sha256 a ≡ sha256 b → a ≡ b) where
  -- the texts and values of some rows are among these
  pub record Known (rows : List Row) : Type 0 where
    pub nodes : (t : List ℕ) → IsIn (tree_texts (tree_of rows)) t → IsIn texts t
    pub values : AllByRecursion (λ row. IsIn texts row.1) rows

  -- two texts with one node: the nodes are the same
  same_nodes : (s t : Tree) (m n : Node) → node_of s ≡ Some m → node_of t ≡ Some n → FitsRecord m → FitsRecord n → text s ≡ text t → SameNode m n
  same_nodes s t m n is_m is_n fits fits' e =
      let first : text s ≡ spelled m (usage s) = subst (λ o. IfSome o (λ node. text s ≡ spelled node (usage s))) is_m (text-node_of s) in
      let second : text t ≡ spelled n (usage t) = subst (λ o. IfSome o (λ node. text t ≡ spelled node (usage t))) is_n (text-node_of t) in
      spelled-same_node m n (usage s) (usage t) fits fits' (sym first ∙ e ∙ second)

  -- the nodes of two lists of rows whose texts are the same
  compared_nodes : (rs ss : List Row) (s t : Tree) (m n : Node) → Sound rs → Sound ss → tree_of rs ≡ s → tree_of ss ≡ t → node_of s ≡ Some m → node_of t ≡ Some n → text (tree_of rs) ≡ text (tree_of ss) → SameNode m n
  compared_nodes rs ss s t m n sound sound' is_s is_t is_m is_n e =
      let whole = λ (o : Option Node). IfSome o (λ node. IsShaped node × FitsRecord node) in
      let first : IsShaped m × FitsRecord m = subst whole is_m (fits rs sound s is_s) in
      let second : IsShaped n × FitsRecord n = subst whole is_n (fits ss sound' t is_t) in
      same_nodes s t m n is_m is_n first.1 second.1 (sym (ap text is_s) ∙ e ∙ ap text is_t)

  ends_here-known : (rows : List Row) → AllByRecursion (λ row. IsIn texts row.1) rows → IfSome (ends_here rows) (IsIn texts)
  unfolding ends_here
  ends_here-known [] h = tt
  ends_here-known (([], value) ∷ rows) h = h.0
  ends_here-known ((x ∷ path, value) ∷ rows) h = ends_here-known rows h.1

  value_same : (v w : List ℕ) → IsIn texts v → IsIn texts w → value_ref v ≡ value_ref w → v ≡ w
  value_same v w h k e = apart v w h k (ap (λ (r : ValueRef). r.digest) e)

  top_same : (o p : Option (List ℕ)) → IfSome o (IsIn texts) → IfSome p (IsIn texts) → option_map value_ref o ≡ option_map value_ref p → o ≡ p
  top_same None None h k e = refl
  top_same None (Some w) h k e = cc
  top_same (Some v) None h k e = cc
  top_same (Some v) (Some w) h k e = ap (λ (u : List ℕ). Some u) (value_same v w h k (ref_same e))
    where
      ref_same : {a b : ValueRef} → Some a ≡ Some b → a ≡ b
      ref_same e = cc

  known_branch : (rows : List Row) → tree_of rows ≡ branch (ends_here rows) (λ x. tree_of (below (x ∷ []) rows)) → Known rows → (x : ℕ) → x < 16 → Known (below (x ∷ []) rows)
  unfolding gathered
  known_branch rows e known x small = record {
    nodes = λ t h. known.nodes t (subst (λ tree. IsIn (tree_texts tree) t) (sym e) (inr (in-joined_below (λ i. tree_texts (tree_of (below (i ∷ []) rows))) 16 x t small h)));
    values = all-below (λ row. IsIn texts row.1) (λ row. IsIn texts row.1) (x ∷ []) (λ row rest e' h. h) rows known.values;
  }

  known_extension : (rows : List Row) (prefix : List ℕ) → tree_of rows ≡ extension prefix (tree_of (below prefix rows)) → Known rows → Known (below prefix rows)
  unfolding gathered
  known_extension rows prefix e known = record {
    nodes = λ t h. known.nodes t (subst (λ tree. IsIn (tree_texts tree) t) (sym e) (inr h));
    values = all-below (λ row. IsIn texts row.1) (λ row. IsIn texts row.1) prefix (λ row rest e' h. h) rows known.values;
  }

  abbrev Told : List Row → Type 0
  Told rs = (ss : List Row) → Sound rs → Sound ss → Known rs → Known ss → rs ≢ [] → ss ≢ [] → text (tree_of rs) ≡ text (tree_of ss) → rs ≡ ss

  -- two children that are named alike
  named_alike : (kids others : List Row) → Told kids → Sound kids → Sound others → Known kids → Known others → name_of (tree_of kids) (text (tree_of kids)) ≡ name_of (tree_of others) (text (tree_of others)) → kids ≡ others
  named_alike kids others told s s' k k' e = go (is_empty_or_not kids) (is_empty_or_not others)
    where
      go : (kids ≡ []) ⊎ (kids ≢ []) → (others ≡ []) ⊎ (others ≢ []) → kids ≡ others
      go (inl p) (inl q) = p ∙ sym q
      go (inl p) (inr q) = absurd (none-some _ (sym (ap (λ rows. name_of (tree_of rows) (text (tree_of kids))) p ∙ name_of-none (text (tree_of kids))) ∙ e ∙ name_of-rows others q (text (tree_of others))))
      go (inr p) (inl q) = absurd (none-some _ (sym (ap (λ rows. name_of (tree_of rows) (text (tree_of others))) q ∙ name_of-none (text (tree_of others))) ∙ sym e ∙ name_of-rows kids p (text (tree_of kids))))
      go (inr p) (inr q) =
          let digests = same_Some _ _ (sym (name_of-rows kids p (text (tree_of kids))) ∙ e ∙ name_of-rows others q (text (tree_of others))) in
          told others s s' k k' p q (apart _ _ (k.nodes _ (text_in kids p)) (k'.nodes _ (text_in others q)) digests)

  below_some : (rows : List Row) (prefix : List ℕ) → AllHavePrefix prefix rows → rows ≢ [] → below prefix rows ≢ []
  below_some rows prefix all some empty = some (sym (under-below prefix rows all) ∙ ap (under prefix) empty)

  -- the node of each kind
  leaf_node : Row → Node
  leaf_node row = node.leaf row.0 (value_ref row.1)

  branch_node : List Row → Node
  branch_node rows = node.branch (option_map value_ref (ends_here rows)) (λ x. name_of (tree_of (below (x ∷ []) rows)) (text (tree_of (below (x ∷ []) rows))))

  extension_node : List ℕ → List Row → Node
  extension_node prefix rows = node.extension prefix (sha256 (text (tree_of (below prefix rows))))

  told_one : (row : Row) → Told (row ∷ [])
  unfolding node_of leaf_node branch_node extension_node
  told_one row ss s s' k k' some some' e = go (kind_of ss)
    where
      go : Kind ss → row ∷ [] ≡ ss
      go (none p) = absurd (some' p)
      go (one other p) =
          let same = compared_nodes (row ∷ []) ss (leaf row.0 row.1) (leaf other.0 other.1) (leaf_node row) (leaf_node other) s s' (tree_of-one row) (ap tree_of p ∙ tree_of-one other) refl refl e in
          let there : IsIn texts other.1 = (subst (λ (rows : List Row). AllByRecursion (λ r. IsIn texts r.1) rows) p k'.values).0 in
          let value = value_same row.1 other.1 k.values.0 there same.1 in
          ap (λ (r : Row). r ∷ []) (λ i. (same.0 i, value i)) ∙ sym p
      go (forks t) = absurd (compared_nodes (row ∷ []) ss (leaf row.0 row.1) _ (leaf_node row) (branch_node ss) s s' (tree_of-one row) t refl refl e)
      go (shares prefix all t) = absurd (compared_nodes (row ∷ []) ss (leaf row.0 row.1) _ (leaf_node row) (extension_node prefix ss) s s' (tree_of-one row) t refl refl e)

  told_forks : (rs : List Row) → tree_of rs ≡ branch (ends_here rs) (λ x. tree_of (below (x ∷ []) rs)) → ((x : ℕ) → Told (below (x ∷ []) rs)) → Told rs
  unfolding node_of leaf_node branch_node extension_node
  told_forks rs is further ss s s' k k' some some' e = go (kind_of ss)
    where
      go : Kind ss → rs ≡ ss
      go (none p) = absurd (some' p)
      go (one other p) = absurd (compared_nodes rs ss _ (leaf other.0 other.1) (branch_node rs) (leaf_node other) s s' is (ap tree_of p ∙ tree_of-one other) refl refl e)
      go (shares prefix all t) = absurd (compared_nodes rs ss _ _ (branch_node rs) (extension_node prefix ss) s s' is t refl refl e)
      go (forks t) =
          let same = compared_nodes rs ss _ _ (branch_node rs) (branch_node ss) s s' is t refl refl e in
          let top = top_same (ends_here rs) (ends_here ss) (ends_here-known rs k.values) (ends_here-known ss k'.values) same.0 in
          let kids : (x : ℕ) → x < 16 → by_nibble rs x ≡ by_nibble ss x = λ x h. ap (under (x ∷ [])) (named_alike (below (x ∷ []) rs) (below (x ∷ []) ss) (further x) (sound-below (x ∷ []) rs s) (sound-below (x ∷ []) ss s') (known_branch rs is k x h) (known_branch ss t k' x h) (same.1 x h)) in
          sym (rows_by_nibble rs s.rising s.small)
          ∙ ap₂ (λ (o : Option (List ℕ)) (rows : List Row). here o ++ rows) top (joined_below-agree (by_nibble rs) (by_nibble ss) 16 kids)
          ∙ rows_by_nibble ss s'.rising s'.small

  told_shares : (rs : List Row) (prefix : List ℕ) → AllHavePrefix prefix rs → tree_of rs ≡ extension prefix (tree_of (below prefix rs)) → Told (below prefix rs) → Told rs
  unfolding node_of leaf_node branch_node extension_node
  told_shares rs prefix all is further ss s s' k k' some some' e = go (kind_of ss)
    where
      go : Kind ss → rs ≡ ss
      go (none p) = absurd (some' p)
      go (one other p) = absurd (compared_nodes rs ss _ (leaf other.0 other.1) (extension_node prefix rs) (leaf_node other) s s' is (ap tree_of p ∙ tree_of-one other) refl refl e)
      go (forks t) = absurd (compared_nodes rs ss _ _ (extension_node prefix rs) (branch_node ss) s s' is t refl refl e)
      go (shares other all' t) =
          let same = compared_nodes rs ss _ _ (extension_node prefix rs) (extension_node other ss) s s' is t refl refl e in
          let known = known_extension rs prefix is k in
          let known' = known_extension ss other t k' in
          let there = below_some rs prefix all some in
          let there' = below_some ss other all' some' in
          let child = apart _ _ (known.nodes _ (text_in (below prefix rs) there)) (known'.nodes _ (text_in (below other ss) there')) same.1 in
          let rows = further (below other ss) (sound-below prefix rs s) (sound-below other ss s') known known' there there' child in
          sym (under-below prefix rs all) ∙ ap₂ under same.0 rows ∙ under-below other ss all'

  -- Rows with the same text are the same.
  pub rows_of_text : (rs ss : List Row) → Sound rs → Sound ss → Known rs → Known ss → rs ≢ [] → ss ≢ [] → text (tree_of rs) ≡ text (tree_of ss) → rs ≡ ss
  rows_of_text = by_cases Told (record {
    none = λ ss s s' k k' some some' e. absurd (some refl);
    one = told_one;
    forks = λ row next rows e further. told_forks (row ∷ next ∷ rows) (tree_of-forks row next rows e) further;
    shares = λ row next rows x prefix e further. told_shares (row ∷ next ∷ rows) (x ∷ prefix) (subst (λ (f : List ℕ). AllHavePrefix f (row ∷ next ∷ rows)) e (common_prefix-all row (next ∷ rows))) (tree_of-shares row next rows x prefix e) further;
  })

-- ---- of two states

sound-rows_of : (state : State) → IsState state → Sound (rows_of state)
sound-rows_of state is = record {
  rising = rising-rows_of state;
  small = small-rows_of state is;
  short = short-rows_of state is;
}

-- the texts of a state are among some more
known-rows_of : (texts : List (List ℕ)) (apart : (a b : List ℕ) → IsIn texts a → IsIn texts b → sha256 a ≡ sha256 b → a ≡ b) (state : State) → ((t : List ℕ) → IsIn (texts_of state) t → IsIn texts t) → Known texts apart (rows_of state)
known-rows_of texts apart state more =
    let rows = rows_of state in
    let values : List (List ℕ) = map (λ (row : Row). row.1) rows in
    let all : (t : List ℕ) → IsIn (tree_texts (tree_of rows) ++ values) t → IsIn texts t = λ t h. more t (subst (λ (ts : List (List ℕ)). IsIn ts t) (sym (texts_of-tree_texts state)) h) in
    record {
      nodes = λ t h. all t (in-append_left (tree_texts (tree_of rows)) values t h);
      values = all_of (λ row. IsIn texts row.1) rows (λ row h. all row.1 (in-append_right (tree_texts (tree_of rows)) values row.1 (in-map (λ (r : Row). r.1) rows row h)));
    }

root-none : (state : State) → rows_of state ≡ [] → root state ≡ zero_digest
unfolding root_of
root-none state e = ap root_of (subtree_at-root state ∙ ap tree_of e ∙ tree_of-nil)

pub state_of_root : (m n : State) → IsState m → IsState n → NoClash (texts_of m ++ texts_of n) → root m ≡ root n → m ≡ n
state_of_root m n is is' clear e = rows_of-same m n (go (is_empty_or_not (rows_of m)) (is_empty_or_not (rows_of n)))
  where
    texts : List (List ℕ)
    texts = texts_of m ++ texts_of n

    apart : (a b : List ℕ) → IsIn (texts_of m ++ texts_of n) a → IsIn (texts_of m ++ texts_of n) b → sha256 a ≡ sha256 b → a ≡ b
    apart a b h k = clear.apart a b (contains_of_in _ a h) (contains_of_in _ b k)

    first : (t : List ℕ) → IsIn (texts_of m) t → IsIn (texts_of m ++ texts_of n) t
    first t h = in-append_left (texts_of m) (texts_of n) t h

    second : (t : List ℕ) → IsIn (texts_of n) t → IsIn (texts_of m ++ texts_of n) t
    second t h = in-append_right (texts_of m) (texts_of n) t h

    go : (rows_of m ≡ []) ⊎ (rows_of m ≢ []) → (rows_of n ≡ []) ⊎ (rows_of n ≢ []) → rows_of m ≡ rows_of n
    go (inl p) (inl q) = p ∙ sym q
    go (inl p) (inr q) = absurd (clear.nonzero _ (contains_of_in _ _ (second _ (in_of_contains _ _ (root_text_occurs n q)))) (sym (root-some n q) ∙ sym e ∙ root-none m p))
    go (inr p) (inl q) = absurd (clear.nonzero _ (contains_of_in _ _ (first _ (in_of_contains _ _ (root_text_occurs m p)))) (sym (root-some m p) ∙ e ∙ root-none n q))
    go (inr p) (inr q) =
        let same : text_at m [] ≡ text_at n [] = apart _ _ (first _ (in_of_contains _ _ (root_text_occurs m p))) (second _ (in_of_contains _ _ (root_text_occurs n q))) (sym (root-some m p) ∙ e ∙ root-some n q) in
        rows_of_text (texts_of m ++ texts_of n) apart (rows_of m) (rows_of n) (sound-rows_of m is) (sound-rows_of n is') (known-rows_of _ apart m first) (known-rows_of _ apart n second) p q (sym (ap text (subtree_at-root m)) ∙ same ∙ ap text (subtree_at-root n))

pub root-same : (m n : State) → IsState m → IsState n → NoClash (texts_of m ++ texts_of n) → (root m ≡ root n) ↔ (m ≡ n)
root-same m n is is' clear = (state_of_root m n is is' clear, λ e. ap root e)
