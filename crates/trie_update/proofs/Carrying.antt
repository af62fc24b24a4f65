-- Calls that carry out visits: what each leaves of a store and what it answers, one after the other.
use Rattle.std.proofs.Common.{◌≡◌, ℕ, ◌≤◌, ◌<◌, nat_lt, Bool, true, false, List, [], ◌∷◌, ◌++◌, length, Option, None, Some, Result, Ok, Err, if◌then◌else◌, refl, sym, ap, ◌∙◌, subst, arith, ◌+◌}
use Rattle.std.specs.Prelude.{IsSomeAnd, IfErr, IsErrAnd}
use Rattle.std.specs.FinMap.{get}
use Rattle.std.proofs.lemmas.Bool.Decides.{nat_tests}
use Rattle.std.proofs.lemmas.List.{length-append}
use Rattle.byte_model.specs.PackedPath.{longest_path}
use Rattle.byte_model.specs.Node as node
use Rattle.byte_model.specs.Node.{Node, ValueRef}
use Rattle.record_model.specs.Fits.{fitting_node}
use Rattle.trie_model.specs.Root.{Table}
use Rattle.visit_model.specs.Seen.{Seen, Looks, nothing, missing, bad, leaf, branch, extension, seen_at, seen_node, stated_usage}
use Rattle.batch_model.specs.Changes.{Change}
use Rattle.visit_model.proofs.SeenTexts.{seen-missing, seen-bad, seen-node}
use Rattle.change_model.specs.Visits.{Visits, Refusal, no_text, no_node, no_usage, no_visits, refused, and_then, before, most_usage, opened, closed, is_named, visits_at, visit_alone, visits_below, where_touched, if_touched, changes_behind, merge_visits, merged_child, leaf_cost, branch_cost, extension_cost}
use Rattle.update_model.specs.Updates.{parts}
use Rattle.base_core.specs.Faults as ended
use Rattle.base_core.specs.declared.hash.Digest.{Digest}
use Rattle.text_store.specs.Store.{Store}
use Rattle.text_store.specs.Leaves.{Leaves}
use Rattle.text_store.proofs.Leaves.{Leaves-none, Leaves-then, Leaves-refused, Leaves-within, Leaves-short_within}
use Rattle.trie_update.specs.declared.errors.UpdateError.{UpdateError}
use Rattle.trie_update.specs.declared.errors.UpdateError.TheVariants.{Missing, Bad, Usage, Clash, Fault, NoMemory}
pub use Rattle.trie_update.specs.Carries.{Carries}
use Rattle.trie_update.specs.Endings.{by_error, update_ended}
use Rattle.trie_update.specs.Visiting.{AnswersVisit, AnswersBatch}
use Rattle.trie_update.proofs.Seeing.{named-seen_at}

-- ---- visits after visits

pub before-done : (first further : Visits) → first.refusal ≡ None → before first further ≡ record { digests = first.digests ++ further.digests; refusal = further.refusal }
unfolding and_then
before-done first further e = ap (λ (o : Option Refusal). and_then o first.digests further) e

pub before-stopped : (first further : Visits) (why : Refusal) → first.refusal ≡ Some why → before first further ≡ record { digests = first.digests; refusal = Some why }
unfolding and_then
before-stopped first further why e = ap (λ (o : Option Refusal). and_then o first.digests further) e

before-longer : (first further : Visits) → length first.digests ≤ length (before first further).digests
before-longer first further = go first.refusal refl
  where
    go : (o : Option Refusal) → first.refusal ≡ o → length first.digests ≤ length (before first further).digests
    go None e = let all = ap (λ (v : Visits). length v.digests) (before-done first further e) in let sum = length-append first.digests further.digests in omega arith
    go (Some why) e = let all = ap (λ (v : Visits). length v.digests) (before-stopped first further why e) in omega arith

-- ---- what a call carries out

answers-same : {Y : Type 0} (v w : Visits) → w.refusal ≡ v.refusal → (result : Result Y UpdateError) → AnswersBatch v result → AnswersBatch w result
answers-same v w e (Ok y) h = e ∙ h
answers-same v w e (Err (Missing named)) h = e ∙ h
answers-same v w e (Err (Bad named)) h = e ∙ h
answers-same v w e (Err (Usage named)) h = e ∙ h
answers-same v w e (Err (Clash named one other)) h = absurd h
answers-same v w e (Err Fault) h = tt
answers-same v w e (Err NoMemory) h = tt

module _ {S : Type 0} (store : Store S) where
  pub carries-none : {X : Type 0} (old : S) (x : X) → store.alike old old → Carries store old old no_visits (Ok x)
  carries-none old x same = record { left = Leaves-none store old same; answer = refl }

  pub carries-then : {X Y : Type 0} → ((a b c : S) → store.alike a b → store.alike b c → store.alike a c) → (old mid new : S) (first further : Visits) (x : X) (result : Result Y UpdateError)
      → Carries store old mid first (Ok x) → Carries store mid new further result → Carries store old new (before first further) result
  carries-then onward old mid new first further x result a b =
      let both : Visits = record { digests = first.digests ++ further.digests; refusal = further.refusal } in
      subst (λ (v : Visits). Carries store old new v result) (sym (before-done first further a.answer)) (record {
        left = Leaves-then store onward old mid new first.digests further.digests (update_ended result) a.left b.left;
        answer = answers-same further both refl result b.answer;
      })

  -- the first call broke off
  pub carries-stopped : {X Y : Type 0} (old new : S) (first further : Visits) (error : UpdateError) → Carries {X = X} store old new first (Err error) → Carries {X = Y} store old new (before first further) (Err error)
  carries-stopped {X} {Y} old new first further (Missing named) c =
      subst (λ (v : Visits). Carries {X = Y} store old new v (Err (Missing named))) (sym (before-stopped first further (no_text named.0) c.answer)) (record { left = c.left; answer = refl })
  carries-stopped {X} {Y} old new first further (Bad named) c =
      subst (λ (v : Visits). Carries {X = Y} store old new v (Err (Bad named))) (sym (before-stopped first further (no_node named.0) c.answer)) (record { left = c.left; answer = refl })
  carries-stopped {X} {Y} old new first further (Usage named) c =
      subst (λ (v : Visits). Carries {X = Y} store old new v (Err (Usage named))) (sym (before-stopped first further (no_usage named.0) c.answer)) (record { left = c.left; answer = refl })
  carries-stopped {X} {Y} old new first further (Clash named one other) c = absurd c.answer
  carries-stopped {X} {Y} old new first further Fault c = go first.refusal refl
    where
      go : (o : Option Refusal) → first.refusal ≡ o → Carries {X = Y} store old new (before first further) (Err Fault)
      go None e = subst (λ (v : Visits). Carries {X = Y} store old new v (Err Fault)) (sym (before-done first further e)) (record { left = Leaves-within store old new first.digests further.digests c.left; answer = tt })
      go (Some why) e = subst (λ (v : Visits). Carries {X = Y} store old new v (Err Fault)) (sym (before-stopped first further why e)) (record { left = c.left; answer = tt })
  carries-stopped {X} {Y} old new first further NoMemory c = go first.refusal refl
    where
      go : (o : Option Refusal) → first.refusal ≡ o → Carries {X = Y} store old new (before first further) (Err NoMemory)
      go None e = subst (λ (v : Visits). Carries {X = Y} store old new v (Err NoMemory)) (sym (before-done first further e)) (record { left = Leaves-short_within store old new first.digests further.digests c.left; answer = tt })
      go (Some why) e = subst (λ (v : Visits). Carries {X = Y} store old new v (Err NoMemory)) (sym (before-stopped first further why e)) (record { left = c.left; answer = tt })

  -- only how it ended matters
  pub carries-ok : {X Y : Type 0} (old new : S) (visits : Visits) (x : X) (y : Y) → Carries store old new visits (Ok x) → Carries store old new visits (Ok y)
  carries-ok old new visits x y c = record { left = c.left; answer = c.answer }

  pub carries-error : {X Y : Type 0} (old new : S) (visits : Visits) (error : UpdateError) → Carries {X = X} store old new visits (Err error) → Carries {X = Y} store old new visits (Err error)
  carries-error old new visits (Missing named) c = record { left = c.left; answer = c.answer }
  carries-error old new visits (Bad named) c = record { left = c.left; answer = c.answer }
  carries-error old new visits (Usage named) c = record { left = c.left; answer = c.answer }
  carries-error old new visits (Clash named one other) c = absurd c.answer
  carries-error old new visits Fault c = record { left = c.left; answer = tt }
  carries-error old new visits NoMemory c = record { left = c.left; answer = tt }

  -- memory was wanted behind the visits
  pub carries-late : {X Y : Type 0} (old new : S) (visits : Visits) (x : X) → Carries store old new visits (Ok x) → Carries {X = Y} store old new visits (Err NoMemory)
  carries-late old new visits x c = record { left = record { same = c.left.same; loaded = (let loads = c.left.loaded in (omega arith, omega arith)); counted = c.left.counted; remembered = tt }; answer = tt }

  -- or behind some of them
  pub carries-short : {X Y : Type 0} (old new : S) (first further : Visits) (x : X) → Carries store old new first (Ok x) → Carries {X = Y} store old new (before first further) (Err NoMemory)
  carries-short {X} {Y} old new first further x c = carries-stopped {X = X} {Y = Y} old new first further NoMemory (carries-late old new first x c)

  -- a call behind the visits that fails for want of memory only
  pub carries-end : {X Y : Type 0} (old new : S) (visits : Visits) (x : X) (result : Result Y UpdateError) → IfErr result (λ error. error ≡ NoMemory) → Carries store old new visits (Ok x) → Carries store old new visits result
  carries-end old new visits x (Ok y) short c = carries-ok old new visits x y c
  carries-end {X} {Y} old new visits x (Err error) short c = subst (λ (e : UpdateError). Carries {X = Y} store old new visits (Err e)) (sym short) (carries-late old new visits x c)

  -- an error that a `?` passed on
  pub carries-passed : {X Y : Type 0} (old new : S) (visits : Visits) (error : UpdateError) (result : Result Y UpdateError) → IsErrAnd result (λ given. given ≡ error) → Carries {X = X} store old new visits (Err error) → Carries store old new visits result
  carries-passed old new visits error (Ok y) is c = absurd is
  carries-passed {X} {Y} old new visits error (Err given) is c = subst (λ (e : UpdateError). Carries {X = Y} store old new visits (Err e)) (sym is) (carries-error old new visits error c)

  -- ---- the tests on usages

  pub carries-opened : {X : Type 0} (old new : S) (digest : List ℕ) (usage : ℕ) (x : X) → usage ≤ most_usage → Leaves store old new (digest ∷ []) ended.done → Carries store old new (opened digest usage) (Ok x)
  unfolding opened
  carries-opened old new digest usage x most left =
      let test : nat_lt most_usage usage ≡ false = grind (arith, nat_tests) in
      record { left = left; answer = ap (λ (b : Bool). if b then Some (no_usage digest) else None) test }

  pub carries-closed : {X : Type 0} (old : S) (digest : List ℕ) (usage parts : ℕ) (x : X) → store.alike old old → parts ≤ usage → Carries store old old (closed digest usage parts) (Ok x)
  unfolding closed
  carries-closed old digest usage parts x same enough =
      let test : nat_lt usage parts ≡ false = grind (arith, nat_tests) in
      record { left = Leaves-none store old same; answer = ap (λ (b : Bool). if b then Some (no_usage digest) else None) test }

  pub carries-less : {X : Type 0} (old : S) (digest : Digest) (usage parts : ℕ) → store.alike old old → usage < parts → Carries {X = X} store old old (closed digest.0 usage parts) (Err (Usage digest))
  unfolding closed
  carries-less old digest usage parts same less =
      let test : nat_lt usage parts ≡ true = grind (arith, nat_tests) in
      record { left = Leaves-refused store old old [] (Leaves-none store old same); answer = ap (λ (b : Bool). if b then Some (no_usage digest.0) else None) test }

-- ---- a visit that broke off

opened-over : (digest : List ℕ) (usage : ℕ) (further : Visits) → most_usage < usage → before (opened digest usage) further ≡ refused digest (no_usage digest)
unfolding opened
opened-over digest usage further over =
    let test : nat_lt most_usage usage ≡ true = grind (arith, nat_tests) in
    before-stopped (opened digest usage) further (no_usage digest) (ap (λ (b : Bool). if b then Some (no_usage digest) else None) test)

-- A way to visit places: one without a node that fits ends the batch, and at one with a node its usage is tested first.
pub record Opens (at : Seen → Visits) : Type 0 where
  pub further : Seen → Visits
  pub missing_is : (digest : List ℕ) → at (missing digest) ≡ refused digest (no_text digest)
  pub bad_is : (digest : List ℕ) → at (bad digest) ≡ refused digest (no_node digest)
  pub leaf_is : (digest : List ℕ) (usage : ℕ) (path : List ℕ) (ref : ValueRef) → at (leaf digest usage path ref) ≡ before (opened digest usage) (further (leaf digest usage path ref))
  pub branch_is : (digest : List ℕ) (usage : ℕ) (ref : Option ValueRef) (kids : ℕ → Seen) → at (branch digest usage ref kids) ≡ before (opened digest usage) (further (branch digest usage ref kids))
  pub extension_is : (digest : List ℕ) (usage : ℕ) (path : List ℕ) (child : Seen) → at (extension digest usage path child) ≡ before (opened digest usage) (further (extension digest usage path child))

visits-over : (at : Seen → Visits) → Opens at → (look : Looks) (depth : ℕ) (digest : List ℕ) (n : Node) (usage : ℕ) → most_usage < usage → at (seen_node look depth digest n usage) ≡ refused digest (no_usage digest)
unfolding seen_node
visits-over at opens look depth digest (node.leaf path ref) usage over = opens.leaf_is digest usage path ref ∙ opened-over digest usage _ over
visits-over at opens look depth digest (node.branch ref kids) usage over = opens.branch_is digest usage ref _ ∙ opened-over digest usage _ over
visits-over at opens look depth digest (node.extension path child) usage over = opens.extension_is digest usage path _ ∙ opened-over digest usage _ over

opened-some : (digest : List ℕ) (usage : ℕ) (further : Visits) → 1 ≤ length (before (opened digest usage) further).digests
unfolding opened
opened-some digest usage further =
    let longer : 1 ≤ length (before (opened digest usage) further).digests = before-longer (opened digest usage) further in
    longer

pub visits-some : (at : Seen → Visits) → Opens at → (s : Seen) → is_named s ≡ true → 1 ≤ length (at s).digests
visits-some at opens nothing named = absurd cc
visits-some at opens (missing digest) named = let one = ap (λ (v : Visits). length v.digests) (opens.missing_is digest) in omega arith
visits-some at opens (bad digest) named = let one = ap (λ (v : Visits). length v.digests) (opens.bad_is digest) in omega arith
visits-some at opens (leaf digest usage path ref) named = subst (λ (v : Visits). 1 ≤ length v.digests) (sym (opens.leaf_is digest usage path ref)) (opened-some digest usage _)
visits-some at opens (branch digest usage ref kids) named = subst (λ (v : Visits). 1 ≤ length v.digests) (sym (opens.branch_is digest usage ref kids)) (opened-some digest usage _)
visits-some at opens (extension digest usage path child) named = subst (λ (v : Visits). 1 ≤ length v.digests) (sym (opens.extension_is digest usage path child)) (opened-some digest usage _)

some_weaker : {A : Type 0} (P Q : A → Type 0) (o : Option A) → ((x : A) → P x → Q x) → IsSomeAnd o P → IsSomeAnd o Q
some_weaker P Q None weaker h = absurd h
some_weaker P Q (Some x) weaker h = weaker x h

some_fact : {A : Type 0} (Q : Type 0) (o : Option A) → IsSomeAnd o (λ x. Q) → Q
some_fact Q None h = absurd h
some_fact Q (Some x) h = h

module _ {S : Type 0} (store : Store S) (old new : S) (table : Table) (digest : Digest) (depth : ℕ) (after_extension : Bool) (deep : depth ≤ longest_path) (at : Seen → Visits) (opens : Opens at) where
  abbrev there : Seen
  there = seen_at table depth after_extension digest.0

  there-some : 1 ≤ length (at there).digests
  there-some = visits-some at opens there (named-seen_at table depth after_extension digest.0)

  there-missing : get table digest.0 ≡ None → at there ≡ refused digest.0 (no_text digest.0)
  there-missing none = ap at (seen-missing table depth after_extension digest.0 deep none) ∙ opens.missing_is digest.0

  there-bad : IsSomeAnd (get table digest.0) (λ text. fitting_node depth after_extension text ≡ None) → at there ≡ refused digest.0 (no_node digest.0)
  there-bad none = ap at (seen-bad table depth after_extension digest.0 deep none) ∙ opens.bad_is digest.0

  there-over : (held : Option (List ℕ)) → get table digest.0 ≡ held → IsSomeAnd held (λ text. IsSomeAnd (fitting_node depth after_extension text) (λ found. most_usage < found.1)) → at there ≡ refused digest.0 (no_usage digest.0)
  there-over None e h = absurd h
  there-over (Some text) e h = go (fitting_node depth after_extension text) refl h
    where
      go : (found : Option (Node × ℕ)) → fitting_node depth after_extension text ≡ found → IsSomeAnd found (λ f. most_usage < f.1) → at there ≡ refused digest.0 (no_usage digest.0)
      go None fits over = absurd over
      go (Some found) fits over =
          ap at (seen-node table depth after_extension digest.0 text found.0 found.1 deep e fits) ∙ visits-over at opens (seen_at table) depth digest.0 found.0 found.1 over

  -- a visit that did not come to its end is the last of those below the place
  pub visit-stopped : {X : Type 0} (error : UpdateError) → AnswersVisit table digest depth after_extension (Err error) → Leaves store old new (digest.0 ∷ []) (by_error error) → Carries {X = X} store old new (at there) (Err error)
  visit-stopped {X} (Missing named) answer left =
      subst (λ (v : Visits). Carries {X = X} store old new v (Err (Missing named))) (sym (there-missing answer.1)) (record { left = left; answer = ap (λ (d : Digest). Some (no_text d.0)) (sym answer.0) })
  visit-stopped {X} (Bad named) answer left =
      let same : named ≡ digest = some_fact (named ≡ digest) (get table digest.0) (some_weaker (λ text. (named ≡ digest) × (fitting_node depth after_extension text ≡ None)) (λ text. named ≡ digest) (get table digest.0) (λ text h. h.0) answer) in
      let none = some_weaker (λ text. (named ≡ digest) × (fitting_node depth after_extension text ≡ None)) (λ text. fitting_node depth after_extension text ≡ None) (get table digest.0) (λ text h. h.1) answer in
      subst (λ (v : Visits). Carries {X = X} store old new v (Err (Bad named))) (sym (there-bad none)) (record { left = left; answer = ap (λ (d : Digest). Some (no_node d.0)) (sym same) })
  visit-stopped {X} (Usage named) answer left =
      let same : named ≡ digest = some_fact (named ≡ digest) (get table digest.0) (some_weaker (λ text. (named ≡ digest) × IsSomeAnd (fitting_node depth after_extension text) (λ found. most_usage < found.1)) (λ text. named ≡ digest) (get table digest.0) (λ text h. h.0) answer) in
      let over = some_weaker (λ text. (named ≡ digest) × IsSomeAnd (fitting_node depth after_extension text) (λ found. most_usage < found.1)) (λ text. IsSomeAnd (fitting_node depth after_extension text) (λ found. most_usage < found.1)) (get table digest.0) (λ text h. h.1) answer in
      subst (λ (v : Visits). Carries {X = X} store old new v (Err (Usage named))) (sym (there-over (get table digest.0) refl over)) (record { left = left; answer = ap (λ (d : Digest). Some (no_usage d.0)) (sym same) })
  visit-stopped {X} (Clash named one other) answer left = absurd (some_fact ⊥ (get table digest.0) answer)
  visit-stopped {X} Fault answer left = record {
    left = record { same = left.same; loaded = (left.loaded.0, (let some = there-some in let most = left.loaded.1 in omega arith)); counted = left.counted; remembered = tt };
    answer = tt;
  }
  visit-stopped {X} NoMemory answer left = record {
    left = record { same = left.same; loaded = (left.loaded.0, (let some = there-some in let most = left.loaded.1 in omega arith)); counted = left.counted; remembered = tt };
    answer = tt;
  }

-- ---- the two ways

-- what is visited behind the test of a place's usage
unfoldable pub visits_inside : List Change → Seen → Visits
visits_inside changes nothing = no_visits
visits_inside changes (missing digest) = no_visits
visits_inside changes (bad digest) = no_visits
visits_inside changes (leaf digest usage path ref) = closed digest usage (leaf_cost path ref)
visits_inside changes (branch digest usage ref kids) =
    before (visits_below (λ x. where_touched (changes_behind (x ∷ []) changes) (visits_at (kids x) (changes_behind (x ∷ []) changes))) 16)
    (before (merge_visits kids (merged_child ref kids changes)) (closed digest usage (parts ref kids changes)))
visits_inside changes (extension digest usage path child) =
    before (where_touched (changes_behind path changes) (visits_at child (changes_behind path changes)))
    (closed digest usage (extension_cost path + if_touched (changes_behind path changes) (stated_usage child)))

pub opens-changed : (changes : List Change) → Opens (λ s. visits_at s changes)
unfolding visits_at visits_inside
opens-changed changes = record {
  further = visits_inside changes;
  missing_is = λ digest. refl;
  bad_is = λ digest. refl;
  leaf_is = λ digest usage path ref. refl;
  branch_is = λ digest usage ref kids. refl;
  extension_is = λ digest usage path child. refl;
}

unfoldable pub alone_inside : Seen → Visits
alone_inside nothing = no_visits
alone_inside (missing digest) = no_visits
alone_inside (bad digest) = no_visits
alone_inside (leaf digest usage path ref) = closed digest usage (leaf_cost path ref)
alone_inside (branch digest usage ref kids) = closed digest usage (branch_cost ref)
alone_inside (extension digest usage path child) = closed digest usage (extension_cost path)

pub opens-alone : Opens visit_alone
unfolding visit_alone alone_inside
opens-alone = record {
  further = alone_inside;
  missing_is = λ digest. refl;
  bad_is = λ digest. refl;
  leaf_is = λ digest usage path ref. refl;
  branch_is = λ digest usage ref kids. refl;
  extension_is = λ digest usage path child. refl;
}
