-- Changes laid over nothing, a leaf, or an extension before a branch make the top of the later trie, where what becomes of the branch is right.
use Rattle.std.proofs.Common.{◌≡◌, ◌≢◌, ℕ, List, [], ◌∷◌, Option, None, Some, option_map, refl, sym, ◌∙◌, ap, subst}
use Rattle.byte_model.specs.Node.{ValueRef}
use Rattle.byte_model.proofs.Below.{sum_below-zero}
use Rattle.trie_model.specs.State.{Row}
use Rattle.trie_model.specs.Tree.{below, ends_here, tree_of}
use Rattle.trie_model.specs.Texts.{value_ref}
use Rattle.batch_model.specs.Changes.{Change, found_at, decided}
use Rattle.change_model.specs.Visits.{changes_behind, change_at}
use Rattle.change_model.proofs.Laid.{IsLaid, laid-below}
use Rattle.change_model.proofs.Left.{Apart, apart-behind, ends_here-found_at}
use Rattle.update_model.specs.Tops.{Top, branch, top_of, top_behind}
use Rattle.update_model.specs.Joins.{known, joint}
use Rattle.update_model.specs.Updates.{Outcome, ref_after, behind_outcome, parted, laid}
use Rattle.update_model.proofs.LaidSteps.{laid-step, Steps, by_steps}
use Rattle.update_model.proofs.FoundRows.{InOrder, in_order-below, laid-none}
use Rattle.update_model.proofs.Layable.{Layable, Behind, Laid, before_fork, at_branch, layable-cases}
use Rattle.update_model.proofs.Joints.{is_known, joint-rows}

-- ---- the value

ref_after-value : (former : Option (List ℕ)) (change : Option (Option (List ℕ))) → ref_after (option_map value_ref former) change ≡ option_map value_ref (decided change former)
ref_after-value former None = refl
ref_after-value former (Some None) = refl
ref_after-value former (Some (Some value)) = refl

-- the name of the value that ends here, by what the change makes of it
pub ref_after-rows : (rows : List Row) (changes : List Change) (later : List Row) → IsLaid rows changes later → ref_after (option_map value_ref (ends_here rows)) (change_at [] changes) ≡ option_map value_ref (ends_here later)
ref_after-rows rows changes later laid =
    ref_after-value (ends_here rows) (change_at [] changes)
    ∙ ap (option_map value_ref) (ap (decided (found_at [] changes)) (ends_here-found_at rows) ∙ sym (laid.at []) ∙ sym (ends_here-found_at later))

-- where nothing is changed behind a path the rows there stay
pub untouched-below : (p : List ℕ) (rows : List Row) (changes : List Change) (later : List Row) → IsLaid rows changes later → InOrder rows → InOrder later → changes_behind p changes ≡ [] → below p later ≡ below p rows
untouched-below p rows changes later laid before after none =
    laid-none (below p rows) (below p later) (in_order-below p rows before).rising (in_order-below p later after).rising
    (subst (λ (cs : List Change). IsLaid (below p rows) cs (below p later)) none (laid-below p rows changes later laid))

module _ (child : List Change → Outcome) where
  -- what becomes of a branch's rows is right: it has the top of the later trie
  abbrev pub Right : List Row → Type 0
  Right rows = (changes : List Change) (later : List Row) → changes ≢ [] → Apart changes → IsLaid rows changes later → InOrder later → (child changes).top ≡ top_of (tree_of later)

  TreeLaid : Top → List Change → Type 0
  TreeLaid old changes = (rows later : List Row) → old ≡ top_of (tree_of rows) → Layable Right rows → changes ≢ [] → Apart changes → IsLaid rows changes later → InOrder rows → InOrder later → (laid child old changes).top ≡ top_of (tree_of later)

  -- where the rows don't fork here
  tree_laid-fork : (old : Top) (changes : List Change) → ((x : ℕ) (further : Top) → changes_behind (x ∷ []) changes ≢ [] → TreeLaid further (changes_behind (x ∷ []) changes)) → (rows later : List Row) → Behind Right old rows → Apart changes → IsLaid rows changes later → InOrder rows → InOrder later → (laid child old changes).top ≡ top_of (tree_of later)
  unfolding TreeLaid
  tree_laid-fork old changes further rows later b apart is_laid before after =
      ap (λ (o : Outcome). o.top) (laid-step child old changes ∙ b.forks (laid child) child changes)
      ∙ ap (λ (r : Option ValueRef). (joint r (λ x. known (parted (laid child) old changes x).top) 0).top)
      (ap (λ (r : Option ValueRef). ref_after r (change_at [] changes)) b.ref ∙ ref_after-rows rows changes later is_laid)
      ∙ joint-rows later (λ x. known (parted (laid child) old changes x).top) 0 (record {
        order = after;
        each = λ x. each x (changes_behind (x ∷ []) changes) refl;
        sums = sym (sum_below-zero 16);
        lone = λ x none one. is_known (parted (laid child) old changes x).top;
      })
    where
      some : (c : Change) (cs : List Change) → c ∷ cs ≢ []
      some c cs e = cc

      each : (x : ℕ) (cs : List Change) → changes_behind (x ∷ []) changes ≡ cs → (behind_outcome (laid child) (top_behind x old) cs).top ≡ top_of (tree_of (below (x ∷ []) later))
      each x [] e = b.behind x ∙ ap (λ (rs : List Row). top_of (tree_of rs)) (sym (untouched-below (x ∷ []) rows changes later is_laid before after e))
      each x (c ∷ cs) e =
          let there : changes_behind (x ∷ []) changes ≢ [] = subst (λ (l : List Change). l ≢ []) (sym e) (some c cs) in
          subst (λ (l : List Change). (laid child (top_behind x old) l).top ≡ top_of (tree_of (below (x ∷ []) later))) e
          (further x (top_behind x old) there (below (x ∷ []) rows) (below (x ∷ []) later) (b.behind x) (b.further x) there (apart-behind (x ∷ []) changes apart) (laid-below (x ∷ []) rows changes later is_laid) (in_order-below (x ∷ []) rows before) (in_order-below (x ∷ []) later after))

  tree_laid : Steps TreeLaid
  unfolding TreeLaid
  tree_laid old changes further rows later top layable some apart is_laid before after = go (layable-cases Right rows layable)
    where
      go : Laid Right rows → (laid child old changes).top ≡ top_of (tree_of later)
      go (before_fork b) = tree_laid-fork old changes further rows later (subst (λ (t : Top). Behind Right t rows) (sym top) b) apart is_laid before after
      go (at_branch digest used is right) =
          ap (λ (o : Outcome). o.top) (ap (λ t. laid child t changes) (top ∙ is) ∙ laid-step child (branch digest used) changes)
          ∙ right changes later some apart is_laid after

  -- What is laid over some rows' top has the top of the later rows' trie.
  pub laid-rows : (rows : List Row) (changes : List Change) (later : List Row) → Layable Right rows → changes ≢ [] → Apart changes → IsLaid rows changes later → InOrder rows → InOrder later → (laid child (top_of (tree_of rows)) changes).top ≡ top_of (tree_of later)
  unfolding TreeLaid
  laid-rows rows changes later layable some apart is_laid before after = by_steps TreeLaid tree_laid (top_of (tree_of rows)) changes rows later refl layable some apart is_laid before after
