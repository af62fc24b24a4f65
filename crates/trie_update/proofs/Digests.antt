-- What is seen of a digest whose visit was done, and what a batch makes of it: of a leaf or an extension by the top that was read, of a branch by its children.
use Rattle.std.proofs.Common.{◌≡◌, ◌≢◌, ℕ, ◌+◌, ◌-◌, ◌≤◌, ◌<◌, Bool, true, false, List, [], ◌∷◌, length, Option, None, Some, Result, Ok, Err, option_map, refl, sym, ◌∙◌, ap, subst, arith}
use Rattle.std.specs.Prelude.{IfOk, OnOk, IfSome}
use Rattle.std.specs.Borrow.{Bor}
use Rattle.byte_model.specs.Nibbles.{AreNibbles}
use Rattle.byte_model.specs.PackedPath.{longest_path}
use Rattle.byte_model.specs.Node.{ValueRef, longest_value}
use Rattle.trie_model.specs.Root.{Table}
use Rattle.visit_model.specs.Seen as seen
use Rattle.visit_model.specs.Seen.{Seen, seen_at, seen_child, stated_usage}
use Rattle.batch_model.specs.Changes.{Change}
use Rattle.change_model.specs.Along.{digest_of}
use Rattle.change_model.specs.Visits.{Visits, before, opened, closed, changes_behind, is_left, visits_at, most_usage, leaf_cost, extension_cost}
use Rattle.change_model.proofs.Seeing.{digest_of-seen_at}
use Rattle.base_core.specs.Faults as ended
use Rattle.base_core.specs.declared.hash.Digest.{Digest}
use Rattle.node_codec.specs.declared.node.Node as node
use Rattle.node_codec.specs.declared.node.Node.TheVariants as read
use Rattle.node_codec.specs.declared.value_ref.ValueRef as code
use Rattle.node_codec.specs.Meanings.{value_of}
use Rattle.text_store.specs.Store.{Store}
use Rattle.text_store.specs.Leaves.{Leaves}
use Rattle.update_model.specs.Joins.{known, is_there}
use Rattle.update_model.specs.Sound.{AreBelow, StandsAt}
use Rattle.update_model.specs.Tops.{Top, leaf, branch, extension, lowered, top_usage}
use Rattle.update_model.specs.Updates.{Outcome, branch_outcome, digest_or_none, laid, losing, no_branch, updated}
use Rattle.update_model.proofs.LaidSteps.{laid-agree}
use Rattle.update_model.proofs.StandsAfter.{laid-stands}
use Rattle.update_model.proofs.Unrefused.{IsDone, leaf-done, extension-done}
use Rattle.update_model.proofs.UsagesAfter.{grown-branch, laid-grows, reached, reached-extension}
use Rattle.update_model.proofs.WhatIsLeft.{laid-left, left-absorbs, left-some, left_of}
use Rattle.trie_update.specs.declared.errors.UpdateError.{UpdateError}
use Rattle.trie_update.specs.declared.errors.UpdateError.TheVariants.{NoMemory}
use Rattle.trie_update.specs.declared.ledger.Ledger.{Ledger}
use Rattle.trie_update.specs.declared.old.Old.{Old}
use Rattle.trie_update.specs.declared.old.Old.TheVariants.{Leaf, Extension}
use Rattle.trie_update.specs.declared.updating.Placed.{Placed}
use Rattle.trie_update.specs.declared.visiting.Visited.{Visited}
use Rattle.trie_update.specs.Accounts.{CanCount, IsNamed, Loses}
use Rattle.trie_update.specs.Carries.{Carries}
use Rattle.trie_update.specs.Places.{FitsTop, Keeps, MostTop, TopKeeps, old_past, seen_past, top_stated, top_visits}
use Rattle.trie_update.specs.Placed.{IsPlaced, branch_inside, run_at}
use Rattle.trie_update.proofs.Adding.{adds-lost, adds-same, adds-then}
use Rattle.trie_update.proofs.Carrying.{carries-opened, carries-short, carries-then, opens-changed}
use Rattle.trie_update.proofs.OneNibble.{none-before}
use Rattle.trie_update.specs.Visiting.{AnswersVisit}
use Rattle.trie_update.proofs.SeenVisits.{SeesCopy, SeesLeaf, SeesExtension, SeesBranch, sees-visited}
use Rattle.trie_update.specs.ChangesAt.{AreChangesAt, Lent}
use Rattle.trie_update.proofs.AloneVisits.{some_path}
use Rattle.trie_update.proofs.ChangesAt.{lent-deep}

-- ---- the changes of a call

-- ---- the top that was read

lowered-some : (path digest : List ℕ) (used : ℕ) → 0 < length path → lowered path (branch digest used) ≡ extension path digest used
unfolding lowered
lowered-some [] digest used some = absurd (omega arith)
lowered-some (x ∷ path) digest used some = refl

named-seen : (s : Seen) (digest : List ℕ) → digest_of s ≡ Some digest → s ≢ seen.nothing
unfolding digest_of
named-seen s digest named none = let other = sym named ∙ ap digest_of none in cc

-- A leaf or an extension that is seen: its record was read, and the rest is what its top is.
pub record ReadsTop (depth stated own : ℕ) (digest : List ℕ) (s below : Seen) (top : Top) : Type 0 where
  pub visits : (cs : List Change) → visits_at s cs ≡ before (opened digest stated) (before (top_visits below top cs) (closed digest stated (own + top_stated below top cs)))
  pub outcome : (cs : List Change) → cs ≢ [] → updated s cs ≡ losing digest (laid (λ rs. updated below rs) top cs)
  pub told : stated_usage s ≡ stated
  pub keeps : (cs : List Change) → AreBelow depth cs → cs ≢ [] → IsDone (visits_at s cs) → TopKeeps depth below top cs → Keeps depth s cs
  pub fits : FitsTop depth top

leaf-reads : (depth stated : ℕ) (digest path : List ℕ) (ref : ValueRef) (below : Seen) → stated ≤ most_usage → AreNibbles path → depth + length path ≤ longest_path → ref.length ≤ longest_value
    → ReadsTop depth stated (leaf_cost path ref) digest (seen.leaf digest stated path ref) below (leaf path ref)
unfolding visits_at updated stated_usage top_visits top_stated StandsAt MostTop left_of is_left reached
leaf-reads depth stated digest path ref below most nibbles room small = record {
  visits = λ cs.
      let more : leaf_cost path ref ≡ leaf_cost path ref + 0 = omega arith in
      ap (λ n. before (opened digest stated) (closed digest stated n)) more ∙ ap (before (opened digest stated)) (sym (none-before (closed digest stated (leaf_cost path ref + 0))));
  outcome = λ cs some. ap (losing digest) (laid-agree no_branch (λ rs. updated below rs) (leaf path ref) cs some tt);
  told = refl;
  keeps = λ cs are some done keeps. record {
    left = laid-left (λ rs. true) refl no_branch depth (leaf path ref) cs (nibbles, room, small) are some tt;
    stands = laid-stands no_branch depth (leaf path ref) cs (nibbles, room, small) are some tt;
    grows =
        let laid_over = laid-grows 0 no_branch depth (leaf path ref) cs (nibbles, room, small) are some tt in
        let least = (leaf-done digest stated path ref cs done).least in
        omega arith;
    most = most;
  };
  fits = record { stands = (nibbles, room, small); most = tt };
}

extension-reads : (depth stated : ℕ) (digest path name : List ℕ) (child : Seen) → stated ≤ most_usage → AreNibbles path → 0 < length path → depth + length path < longest_path → digest_of child ≡ Some name
    → ReadsTop depth stated (extension_cost path) digest (seen.extension digest stated path child) child (extension path name (stated - extension_cost path))
unfolding visits_at updated stated_usage top_visits top_stated StandsAt MostTop TopKeeps left_of is_left
extension-reads depth stated digest path name child most nibbles long room named =
    let used : ℕ = stated - extension_cost path in
    let old : Top = extension path name used in
    let stands : StandsAt depth old = (nibbles, omega arith, some_path path long) in
    let name_is : digest_or_none (digest_of child) ≡ name = ap digest_or_none named in
    let made : (cs : List Change) → updated (seen.extension digest stated path child) cs ≡ losing digest (laid (λ rs. updated child rs) old cs) =
    λ cs. ap (λ (d : List ℕ). losing digest (laid (λ rs. updated child rs) (extension path d used) cs)) name_is in
    record {
      visits = λ cs. refl;
      outcome = λ cs some. made cs;
      told = refl;
      keeps = λ cs are some done keeps.
          let least = (extension-done digest stated path child cs done).least in
          let top_is : (updated (seen.extension digest stated path child) cs).top ≡ (laid (λ rs. updated child rs) old cs).top = ap (λ (o : Outcome). o.top) (made cs) in
          record {
            left = ap (λ (t : Top). is_there (known t)) top_is ∙ laid-left (is_left child) (left-some child (named-seen child name named)) (λ rs. updated child rs) depth old cs stands are some
                (λ more. (keeps more).left ∙ left-absorbs child (changes_behind path cs) more);
            stands = subst (StandsAt depth) (sym top_is) (laid-stands (λ rs. updated child rs) depth old cs stands are some (λ more. (keeps more).stands));
            grows =
                let same = ap top_usage top_is in
                let laid_over = laid-grows (stated_usage child) (λ rs. updated child rs) depth old cs stands are some
                (λ more. grown-branch (stated_usage child) (depth + length path) name used (changes_behind path cs) (updated child (changes_behind path cs)) more (keeps more).grows) in
                let all = reached-extension path name stated (stated_usage child) cs least in
                omega arith;
            most = most;
          };
      fits = record { stands = stands; most = omega arith };
    }

-- ---- by the old top in the code

module _ (table : Table) (depth : ℕ) (after_extension : Bool) (digest : Digest) (visited : Visited) where
  abbrev seen_here : Seen
  seen_here = seen_at table depth after_extension digest.0

  pub record ReadsOld (old : Old) : Type 0 where
    pub reads : ReadsTop depth visited.stated visited.own digest.0 seen_here (seen_past table depth 0 old) (old_past 0 old)
    pub most : visited.stated ≤ most_usage

  pub reads-leaf : (path : Bor (List ℕ)) (text : List ℕ) (value : code.ValueRef) → path.now ≡ text → SeesLeaf table depth after_extension digest visited text (value_of value) → ReadsOld (Leaf path value)
  unfolding seen_past old_past
  reads-leaf path text value e sees =
      let both = leaf-reads depth visited.stated digest.0 text (value_of value) seen.nothing sees.most sees.nibbles sees.room sees.small in
      let at_own = subst (λ n. ReadsTop depth visited.stated n digest.0 (seen.leaf digest.0 visited.stated text (value_of value)) seen.nothing (leaf text (value_of value))) (sym sees.own) both in
      let at_seen = subst (λ (s : Seen). ReadsTop depth visited.stated visited.own digest.0 s seen.nothing (leaf text (value_of value))) (sym sees.seen) at_own in
      record {
        reads = subst (λ (p : List ℕ). ReadsTop depth visited.stated visited.own digest.0 seen_here seen.nothing (leaf p (value_of value))) (sym e) at_seen;
        most = sees.most;
      }

  pub reads-extension : (path : Bor (List ℕ)) (text : List ℕ) (child : Digest) (used : ℕ) → path.now ≡ text → used ≡ visited.stated - visited.own → SeesExtension table depth after_extension digest visited text child.0 → ReadsOld (Extension path child used)
  unfolding seen_past old_past
  reads-extension path text child used e u sees =
      let below : Seen = seen_at table (depth + length text) true child.0 in
      let both = extension-reads depth visited.stated digest.0 text child.0 below sees.most sees.nibbles sees.some sees.room (digest_of-seen_at table (depth + length text) true child.0) in
      let at_own = subst (λ n. ReadsTop depth visited.stated n digest.0 (seen.extension digest.0 visited.stated text below) below (extension text child.0 (visited.stated - n))) (sym sees.own) both in
      let at_seen = subst (λ (s : Seen). ReadsTop depth visited.stated visited.own digest.0 s below (extension text child.0 (visited.stated - visited.own))) (sym sees.seen) at_own in
      let at_used = subst (λ n. ReadsTop depth visited.stated visited.own digest.0 seen_here below (extension text child.0 n)) (sym u) at_seen in
      let at_top = subst (λ (t : Top). ReadsTop depth visited.stated visited.own digest.0 seen_here below t) (sym (lowered-some text child.0 used sees.some)) at_used in
      record {
        reads = subst (λ (p : List ℕ). ReadsTop depth visited.stated visited.own digest.0 seen_here (seen_at table (depth + length p) true child.0) (lowered p (branch child.0 used))) (sym e) at_top;
        most = sees.most;
      }

  -- whatever it is, the test of its usage comes first
  pub record OpensFirst (cs : List Change) : Type 0 where
    pub further : Visits
    pub visits : visits_at seen_here cs ≡ before (opened digest.0 visited.stated) further
    pub most : visited.stated ≤ most_usage

  pub opens-first : (cs : List Change) (copy : node.Node) → SeesCopy table depth after_extension digest visited copy → OpensFirst cs
  opens-first cs (read.Leaf path value) sees = record {
    further = (opens-changed cs).further (seen.leaf digest.0 visited.stated path (value_of value));
    visits = ap (λ (s : Seen). visits_at s cs) sees.seen ∙ (opens-changed cs).leaf_is digest.0 visited.stated path (value_of value);
    most = sees.most;
  }
  opens-first cs (read.Branch value kids) sees = record {
    further = (opens-changed cs).further (seen.branch digest.0 visited.stated (option_map value_of value) sees.below);
    visits = ap (λ (s : Seen). visits_at s cs) sees.seen ∙ (opens-changed cs).branch_is digest.0 visited.stated (option_map value_of value) sees.below;
    most = sees.most;
  }
  opens-first cs (read.Extension path child) sees = record {
    further = (opens-changed cs).further (seen.extension digest.0 visited.stated path (seen_at table (depth + length path) true child.0));
    visits = ap (λ (s : Seen). visits_at s cs) sees.seen ∙ (opens-changed cs).extension_is digest.0 visited.stated path (seen_at table (depth + length path) true child.0);
    most = sees.most;
  }

-- ---- by what the visit answered, where some keys are changed

module _ (table : Table) (depth : ℕ) (after_extension : Bool) (digest : Digest) (changes : List Lent) (are : AreChangesAt depth changes) (some : 1 ≤ length changes)
    (visited : Visited) (answer : AnswersVisit table digest depth after_extension (Ok visited)) where
  pub copy-old : (copy : node.Node) → visited.node ≡ copy → SeesCopy table depth after_extension digest visited copy
  copy-old copy is = subst (SeesCopy table depth after_extension digest visited) is (sees-visited table depth after_extension digest visited (lent-deep depth changes are some) answer)

  pub leaf-old : (path : Bor (List ℕ)) (text : List ℕ) (value : code.ValueRef) → visited.node ≡ read.Leaf text value → path.now ≡ text → ReadsOld table depth after_extension digest visited (Leaf path value)
  leaf-old path text value is e = reads-leaf table depth after_extension digest visited path text value e (copy-old (read.Leaf text value) is)

  pub extension-old : (path : Bor (List ℕ)) (text : List ℕ) (child : Digest) (used : ℕ) → visited.node ≡ read.Extension text child → path.now ≡ text → used ≡ visited.stated - visited.own → ReadsOld table depth after_extension digest visited (Extension path child used)
  extension-old path text child used is e u = reads-extension table depth after_extension digest visited path text child used e u (copy-old (read.Extension text child) is)

pub value-small : (value : Option code.ValueRef) → IfSome (option_map value_of value) (λ r. r.length ≤ longest_value) → IfSome value (λ v. v.length ≤ longest_value)
value-small None h = tt
value-small (Some value) h = h

-- ---- the calls of a place whose digest was visited

-- the ledger, once the digest was lost
pub lose-room : (old mid : Ledger) (digest : Digest) (n : ℕ) → Loses old mid digest → CanCount old n → CanCount mid n
lose-room old mid digest n loses room =
    let f = loses.fresh in
    let g = loses.gone in
    let one = room.0 in
    let two = room.1 in
    (omega arith, omega arith)

pub lose-named : (old mid : Ledger) (digest : Digest) → Loses old mid digest → IsNamed old → IsNamed mid
lose-named old mid digest loses named = (adds-lost old mid digest loses).named named

placed-losing : (old mid new : Ledger) (digest : Digest) (outcome whole : Outcome) (told stated n : ℕ) (placed : Placed) → whole ≡ losing digest.0 outcome → told ≡ stated → Loses old mid digest → IsPlaced outcome stated n mid new placed → IsPlaced whole told n old new placed
placed-losing old mid new digest outcome whole told stated n placed w t loses is =
    subst (λ (o : Outcome). IsPlaced o told n old new placed) (sym w) (record {
      top = is.top;
      stated = is.stated ∙ sym t;
      adds =
          let fresh : 0 + outcome.fresh ≡ outcome.fresh = omega arith in
          let gone : 0 + outcome.gone ≡ outcome.gone = omega arith in
          adds-same old new outcome.made (digest.0 ∷ outcome.lost) (0 + outcome.fresh) (0 + outcome.gone) outcome.made (digest.0 ∷ outcome.lost) outcome.fresh outcome.gone refl refl fresh gone
          (adds-then old mid new [] (digest.0 ∷ []) 0 0 outcome.made outcome.lost outcome.fresh outcome.gone (adds-lost old mid digest loses) is.adds);
      counts = record {
        fresh = (let f = loses.fresh in let more = is.counts.fresh in omega arith);
        gone = (let g = loses.gone in let more = is.counts.gone in omega arith);
      };
    })

pub ok-losing : (old mid new : Ledger) (digest : Digest) (outcome whole : Outcome) (told stated n : ℕ) (result : Result Placed UpdateError) → whole ≡ losing digest.0 outcome → told ≡ stated → Loses old mid digest
    → IfOk result (λ placed. IsPlaced outcome stated n mid new placed) → IfOk result (λ placed. IsPlaced whole told n old new placed)
ok-losing old mid new digest outcome whole told stated n (Ok placed) w t loses is = placed-losing old mid new digest outcome whole told stated n placed w t loses is
ok-losing old mid new digest outcome whole told stated n (Err error) w t loses is = tt

module _ {S : Type 0} (store : Store S) (onward : (a b c : S) → store.alike a b → store.alike b c → store.alike a c) (old mid new : S) (same : store.texts old ≡ store.texts mid)
    (depth : ℕ) (after_extension : Bool) (digest : Digest) (visited : Visited) (left : Leaves store old mid (digest.0 ∷ []) ended.done) where
  abbrev table : Table
  table = store.texts old

  abbrev here : Seen
  here = seen_at (store.texts old) depth after_extension digest.0

  -- the visit, and then what is visited behind it
  opened-then : (further whole : Visits) (result : Result Placed UpdateError) → visited.stated ≤ most_usage → whole ≡ before (opened digest.0 visited.stated) further → Carries store mid new further result → Carries store old new whole result
  opened-then further whole result most e carries =
      subst (λ (v : Visits). Carries store old new v result) (sym e)
      (carries-then store {X = ℕ} {Y = Placed} onward old mid new (opened digest.0 visited.stated) further 0 result (carries-opened store {X = ℕ} old mid digest.0 visited.stated 0 most left) carries)

  -- there was no memory to lose the digest
  pub opened-short : (cs : List Change) → OpensFirst table depth after_extension digest visited cs → Carries {X = Placed} store old mid (visits_at here cs) (Err NoMemory)
  opened-short cs first =
      subst (λ (v : Visits). Carries {X = Placed} store old mid v (Err NoMemory)) (sym first.visits)
      (carries-short store {X = ℕ} {Y = Placed} old mid (opened digest.0 visited.stated) first.further 0 (carries-opened store {X = ℕ} old mid digest.0 visited.stated 0 first.most left))

  -- ---- a leaf or an extension

  module _ (o : Old) (reads : ReadsOld table depth after_extension digest visited o) (cs : List Change) (result : Result Placed UpdateError) where
    abbrev inside : Table → Visits
    inside t = before (top_visits (seen_past t depth 0 o) (old_past 0 o) cs) (closed digest.0 visited.stated (visited.own + top_stated (seen_past t depth 0 o) (old_past 0 o) cs))

    pub old-carries : Carries store mid new (inside (store.texts mid)) result → Carries store old new (visits_at here cs) result
    old-carries carries = opened-then (inside table) (visits_at here cs) result reads.most (reads.reads.visits cs) (subst (λ (t : Table). Carries store mid new (inside t) result) (sym same) carries)

    pub old-placed : (first lost last : Ledger) (n : ℕ) → cs ≢ [] → Loses first lost digest
        → IfOk result (λ placed. IsPlaced (laid (λ rs. updated (seen_past (store.texts mid) depth 0 o) rs) (old_past 0 o) cs) visited.stated n lost last placed)
        → IfOk result (λ placed. IsPlaced (updated here cs) (stated_usage here) n first last placed)
    old-placed first lost last n some loses is =
        ok-losing first lost last digest (laid (λ rs. updated (seen_past table depth 0 o) rs) (old_past 0 o) cs) (updated here cs) (stated_usage here) visited.stated n result (reads.reads.outcome cs some) reads.reads.told loses
        (subst (λ (t : Table). IfOk result (λ placed. IsPlaced (laid (λ rs. updated (seen_past t depth 0 o) rs) (old_past 0 o) cs) visited.stated n lost last placed)) (sym same) is)

  module _ (o : Old) (reads : ReadsOld table depth after_extension digest visited o) (cs : List Change) (below : AreBelow depth cs) (some : cs ≢ []) where
    pub old-keeps : (result : Result Placed UpdateError) → Carries store old new (visits_at here cs) result → OnOk result (TopKeeps depth (seen_past (store.texts mid) depth 0 o) (old_past 0 o) cs) → OnOk result (Keeps depth here cs)
    old-keeps (Err error) carries keeps = tt
    old-keeps (Ok placed) carries keeps = reads.reads.keeps cs below some carries.answer (subst (λ (t : Table). TopKeeps depth (seen_past t depth 0 o) (old_past 0 o) cs) (sym same) keeps)

  -- ---- a branch

  module _ (ref : Option ValueRef) (kids : ℕ → Option (List ℕ)) (sees : SeesBranch table depth after_extension digest visited ref kids) (cs : List Change) (result : Result Placed UpdateError) where
    pub visited-children : (x : ℕ) → x < 16 → sees.below x ≡ seen_child (seen_at (store.texts mid) (depth + 1) false) (kids x)
    visited-children x small = sees.children x small ∙ ap (λ (t : Table). seen_child (seen_at t (depth + 1) false) (kids x)) same

    pub visited-carries : Carries store mid new (branch_inside digest.0 visited.stated ref sees.below cs) result → Carries store old new (visits_at here cs) result
    unfolding visits_at
    visited-carries carries = opened-then (branch_inside digest.0 visited.stated ref sees.below cs) (visits_at here cs) result sees.most (ap (λ (s : Seen). visits_at s cs) sees.seen) carries

    pub visited-placed : (first lost last : Ledger) (n : ℕ) → Loses first lost digest
        → IfOk result (λ placed. IsPlaced (branch_outcome visited.stated ref sees.below cs (λ x. updated (sees.below x) (run_at cs x))) visited.stated n lost last placed)
        → IfOk result (λ placed. IsPlaced (updated here cs) (stated_usage here) n first last placed)
    unfolding updated stated_usage
    visited-placed first lost last n loses is =
        ok-losing first lost last digest (branch_outcome visited.stated ref sees.below cs (λ x. updated (sees.below x) (run_at cs x))) (updated here cs) (stated_usage here) visited.stated n result
        (ap (λ (s : Seen). updated s cs) sees.seen) (ap stated_usage sees.seen) loses is

    pub visited-keeps : OnOk result (Keeps depth (seen.branch digest.0 visited.stated ref sees.below) cs) → OnOk result (Keeps depth here cs)
    visited-keeps keeps = subst (λ (s : Seen). OnOk result (Keeps depth s cs)) (sym sees.seen) keeps
