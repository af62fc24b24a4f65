-- Histories, step by step: what becomes of the live blocks, and what a block is told.
use Rattle.std.proofs.Common.{◌≡◌, ℕ, ◌+◌, ◌≤◌, ◌&&◌, Bool, true, false, not, cond, leb, List, [], ◌∷◌, Option, None, Some, IfSome, refl, sym, ap, ◌∙◌, nat_cmp, arith}
use Rattle.std.specs.List.{list_all}
use Rattle.std.specs.Option.{IsSomeAnd}
use Rattle.std.specs.Str.{bytes_eq}
use Rattle.std.specs.FinMap.{empty, insert, get, get-empty, get-insert, contains_key, len, len-empty, len-insert}
use Rattle.std.specs.Cmp.Lexicographic.{slice_cmp, nat_list_cmp_total}
use Rattle.std.proofs.lemmas.Bool.{leb-false}
use Rattle.std.proofs.lemmas.Map.Text.{is_eq-slice_cmp}
use Rattle.script_model.specs.Lines as line
use Rattle.script_model.specs.Lines.{Event}
use Rattle.trie_model.specs.State.{State}
use Rattle.batch_model.specs.Changes.{Changes}
use Rattle.fork_model.specs.Trees.{Header, BlockFault, is_live, block_fault}
use Rattle.fork_model.specs.States.{ForkState, tree_of_blocks, state_at, with_block_unless, after_offer, head_moved, after_head}
use Rattle.count_model.specs.BlockEnds.{BlockEnd, accepted, block_end, end_over}
use Rattle.output_model.specs.Ends.{RunLimits, syntax_at}
use Rattle.output_model.specs.Scripts.{goes_on, ends}
use Rattle.output_model.specs.Histories.{History, OpenBlock, outside, inside, changed, offered, fault_name, history_step, step_by, block_ok, block_not, head_ok, head_not}
use Rattle.output_model.specs.Apply.{apply_script}
use Rattle.output_model.specs.Laws.{IfGoesOn, state_if, state_after, keeps_blocks, tells_block, change_of, later, last_change, IsTold}

-- ---- blocks and moves

-- an accepted block has no fault, and a block with one is refused by it
faultless : (most : ℕ) (forks : ForkState) (changes : Changes) (fault : Option BlockFault) (prev : Option State) (state : State) → end_over most forks changes fault prev ≡ accepted state → fault ≡ None
faultless most forks changes None prev state e = refl
faultless most forks changes (Some fault) prev state e = absurd cc

pub step-accepted : (limits : RunLimits) (number : ℕ) (forks : ForkState) (header : Header) (changes : Changes) (state : State) → block_end limits.pairs limits.blocks forks header changes ≡ accepted state
    → history_step limits number (inside forks header changes) line.block_end ≡ goes_on (block_ok header state) (outside (after_offer limits.blocks forks header changes))
unfolding history_step block_end after_offer
step-accepted limits number forks header changes state e =
    let fault : block_fault limits.blocks (tree_of_blocks forks) header ≡ None = faultless limits.pairs forks changes (block_fault limits.blocks (tree_of_blocks forks) header) (state_at forks header.prev) state e in
    ap (λ (end : BlockEnd). offered end forks header changes) e ∙ ap (λ f. goes_on (block_ok header state) (outside (with_block_unless f forks header changes))) (sym fault)

pub step-refused : (limits : RunLimits) (number : ℕ) (forks : ForkState) (header : Header) (changes : Changes) (fault : BlockFault) → block_fault limits.blocks (tree_of_blocks forks) header ≡ Some fault
    → history_step limits number (inside forks header changes) line.block_end ≡ goes_on (block_not header (fault_name fault)) (outside forks)
unfolding history_step block_end
step-refused limits number forks header changes fault e = ap (λ f. offered (end_over limits.pairs forks changes f (state_at forks header.prev)) forks header changes) e

pub step-ended : (limits : RunLimits) (number : ℕ) (forks : ForkState) (header : Header) (changes : Changes) (end : BlockEnd) → block_end limits.pairs limits.blocks forks header changes ≡ end
    → history_step limits number (inside forks header changes) line.block_end ≡ offered end forks header changes
unfolding history_step
step-ended limits number forks header changes end e = ap (λ (b : BlockEnd). offered b forks header changes) e

moved_by : (b : Bool) (forks : ForkState) (id : List ℕ)
    → IfGoesOn (cond b (goes_on (head_ok forks id) (outside (head_moved forks id))) (goes_on (head_not id) (outside forks))) (λ after. after ≡ outside (cond b (head_moved forks id) forks))
moved_by true forks id = refl
moved_by false forks id = refl

pub step-moved : (limits : RunLimits) (number : ℕ) (forks : ForkState) (id : List ℕ) → IfGoesOn (history_step limits number (outside forks) (line.head id)) (λ after. after ≡ outside (after_head forks id))
unfolding history_step after_head
step-moved limits number forks id = moved_by (is_live (tree_of_blocks forks) id) forks id

pub step-not_live : (limits : RunLimits) (number : ℕ) (forks : ForkState) (id : List ℕ) → is_live (tree_of_blocks forks) id ≡ false
    → history_step limits number (outside forks) (line.head id) ≡ goes_on (head_not id) (outside forks)
unfolding history_step
step-not_live limits number forks id e = rw e refl

-- ---- other events

changed_stays : (b : Bool) (number : ℕ) (forks : ForkState) (header : Header) (changes : Changes) → IfGoesOn (cond b (ends (syntax_at number)) (goes_on [] (inside forks header changes))) (λ after. after.forks ≡ forks)
changed_stays true number forks header changes = tt
changed_stays false number forks header changes = refl

stays_by : (limits : RunLimits) (number : ℕ) (forks : ForkState) (opened : Option OpenBlock) (asked : Event) → keeps_blocks asked ≡ true → IfGoesOn (step_by limits number forks opened asked) (λ after. after.forks ≡ forks)
stays_by limits number forks None line.nothing e = refl
stays_by limits number forks None (line.block id prev height) e = refl
stays_by limits number forks None (line.set key value) e = tt
stays_by limits number forks None (line.delete key) e = tt
stays_by limits number forks None line.block_end e = absurd cc
stays_by limits number forks None (line.head id) e = absurd cc
stays_by limits number forks None (line.flat id key) e = refl
stays_by limits number forks None (line.trie id key) e = refl
stays_by limits number forks None (line.same a b) e = refl
stays_by limits number forks None (line.usage id) e = refl
stays_by limits number forks None line.stats e = refl
stays_by limits number forks (Some opened) line.nothing e = refl
stays_by limits number forks (Some opened) (line.block id prev height) e = tt
stays_by limits number forks (Some opened) (line.set key value) e = changed_stays (leb limits.changes (len opened.changes) && not (contains_key opened.changes key)) number forks opened.header (insert opened.changes key (Some value))
stays_by limits number forks (Some opened) (line.delete key) e = changed_stays (leb limits.changes (len opened.changes) && not (contains_key opened.changes key)) number forks opened.header (insert opened.changes key None)
stays_by limits number forks (Some opened) line.block_end e = absurd cc
stays_by limits number forks (Some opened) (line.head id) e = absurd cc
stays_by limits number forks (Some opened) (line.flat id key) e = tt
stays_by limits number forks (Some opened) (line.trie id key) e = tt
stays_by limits number forks (Some opened) (line.same a b) e = tt
stays_by limits number forks (Some opened) (line.usage id) e = tt
stays_by limits number forks (Some opened) line.stats e = tt

pub step-stays : (limits : RunLimits) (number : ℕ) (history : History) (asked : Event) → keeps_blocks asked ≡ true → IfGoesOn (history_step limits number history asked) (λ after. after.forks ≡ history.forks)
unfolding history_step
step-stays limits number history asked e = stays_by limits number history.forks history.opened asked e

-- ---- what a block is told

-- after one change more, the others before it
abbrev HasTold : (limits : RunLimits) (forks : ForkState) (header : Header) (changes : Changes) (events : List Event) → Option OpenBlock → Type 0
HasTold limits forks header changes events None = ⊥
HasTold limits forks header changes events (Some opened) = (opened.header ≡ header) × ((key : List ℕ) → get opened.changes key ≡ later (last_change key events) (get changes key)) × (len opened.changes ≤ limits.changes)

record Tells (limits : RunLimits) (forks : ForkState) (header : Header) (changes : Changes) (events : List Event) (history : History) : Type 0 where
  forks_stay : history.forks ≡ forks
  told : HasTold limits forks header changes events history.opened

pub later-assoc : {A : Type 0} (a b c : Option A) → later (later a b) c ≡ later a (later b c)
later-assoc None b c = refl
later-assoc (Some a) b c = refl

pub later-none : {A : Type 0} (a : Option A) → later a None ≡ a
later-none None = refl
later-none (Some a) = refl

later-test : {A : Type 0} (b : Bool) (a : A) (c : Option A) → cond b (Some a) c ≡ later (cond b (Some a) None) c
later-test true a c = refl
later-test false a c = refl

pub get-told : (changes : Changes) (other : List ℕ) (value : Option (List ℕ)) (key : List ℕ) → get (insert changes other value) key ≡ later (cond (bytes_eq key other) (Some value) None) (get changes key)
get-told changes other value key =
    get-insert nat_list_cmp_total changes other value key ∙ ap (λ b. cond b (Some value) (get changes key)) (is_eq-slice_cmp key other) ∙ later-test (bytes_eq key other) value (get changes key)

few_more : (limits : RunLimits) (changes : Changes) (key : List ℕ) (value : Option (List ℕ)) → (leb limits.changes (len changes) && not (contains_key changes key)) ≡ false → len changes ≤ limits.changes → len (insert changes key value) ≤ limits.changes
few_more limits changes key value e h = by_tests (leb limits.changes (len changes)) (contains_key changes key) refl refl e
  where
    by_tests : (a b : Bool) → leb limits.changes (len changes) ≡ a → contains_key changes key ≡ b → (a && not b) ≡ false → len (insert changes key value) ≤ limits.changes
    by_tests a true f g e = omega (arith, h, len-insert nat_list_cmp_total changes key value ∙ ap (λ t. cond t (len changes) (len changes + 1)) g)
    by_tests true false f g e = absurd cc
    by_tests false false f g e = omega (arith, h, leb-false limits.changes (len changes) f, len-insert nat_list_cmp_total changes key value ∙ ap (λ t. cond t (len changes) (len changes + 1)) g)

Tells-before : (limits : RunLimits) (forks : ForkState) (header : Header) (changes next : Changes) (asked : Event) (events : List Event) → ((key : List ℕ) → get next key ≡ later (change_of key asked) (get changes key))
    → (history : History) → Tells limits forks header next events history → Tells limits forks header changes (asked ∷ events) history
unfolding last_change
Tells-before limits forks header changes next asked events same history t = record { forks_stay = t.forks_stay; told = by_opened history.opened t.told }
  where
    by_opened : (opened : Option OpenBlock) → HasTold limits forks header next events opened → HasTold limits forks header changes (asked ∷ events) opened
    by_opened None h = h
    by_opened (Some block) h = (h.0, λ key. h.1 key ∙ ap (later (last_change key events)) (same key) ∙ sym (later-assoc (last_change key events) (change_of key asked) (get changes key)), h.2)

IfSome-weaker : (o : Option History) (P Q : History → Type 0) → ((history : History) → P history → Q history) → IfSome o P → IfSome o Q
IfSome-weaker None P Q f h = tt
IfSome-weaker (Some history) P Q f h = f history h

-- one event that changes a key
tells-change : (limits : RunLimits) (forks : ForkState) (header : Header) (number : ℕ) (changes : Changes) (other : List ℕ) (value : Option (List ℕ)) (asked : Event) (events : List Event)
    → ((key : List ℕ) → change_of key asked ≡ cond (bytes_eq key other) (Some value) None) → len changes ≤ limits.changes
    → ((next : Changes) → len next ≤ limits.changes → IfSome (state_after (apply_script limits) (number + 1) (inside forks header next) events) (Tells limits forks header next events))
    → IfSome (state_if (changed limits number forks (record { header = header; changes = changes }) other value) (λ after. state_after (apply_script limits) (number + 1) after events)) (Tells limits forks header changes (asked ∷ events))
tells-change limits forks header number changes other value asked events is few rest = by_test (leb limits.changes (len changes) && not (contains_key changes other)) refl
  where
    by_test : (b : Bool) → (leb limits.changes (len changes) && not (contains_key changes other)) ≡ b
        → IfSome (state_if (cond b (ends (syntax_at number)) (goes_on [] (inside forks header (insert changes other value)))) (λ after. state_after (apply_script limits) (number + 1) after events)) (Tells limits forks header changes (asked ∷ events))
    by_test true e = tt
    by_test false e =
        IfSome-weaker _ (Tells limits forks header (insert changes other value) events) _
        (Tells-before limits forks header changes (insert changes other value) asked events (λ key. get-told changes other value key ∙ ap (λ c. later c (get changes key)) (sym (is key))))
        (rest (insert changes other value) (few_more limits changes other value e few))

tells : (limits : RunLimits) (forks : ForkState) (header : Header) (events : List Event) (number : ℕ) (changes : Changes) → list_all tells_block events ≡ true → len changes ≤ limits.changes
    → IfSome (state_after (apply_script limits) number (inside forks header changes) events) (Tells limits forks header changes events)
unfolding state_after history_step last_change
tells limits forks header [] number changes e few = record { forks_stay = refl; told = (refl, λ key. refl, few) }
tells limits forks header (line.nothing ∷ events) number changes e few =
    IfSome-weaker _ (Tells limits forks header changes events) _ (Tells-before limits forks header changes changes line.nothing events (λ key. refl)) (tells limits forks header events (number + 1) changes e few)
tells limits forks header (line.set key value ∷ events) number changes e few =
    tells-change limits forks header number changes key (Some value) (line.set key value) events (λ other. refl) few (λ next h. tells limits forks header events (number + 1) next e h)
tells limits forks header (line.delete key ∷ events) number changes e few =
    tells-change limits forks header number changes key None (line.delete key) events (λ other. refl) few (λ next h. tells limits forks header events (number + 1) next e h)
tells limits forks header (line.block id prev height ∷ events) number changes e few = absurd cc
tells limits forks header (line.block_end ∷ events) number changes e few = absurd cc
tells limits forks header (line.head id ∷ events) number changes e few = absurd cc
tells limits forks header (line.flat id key ∷ events) number changes e few = absurd cc
tells limits forks header (line.trie id key ∷ events) number changes e few = absurd cc
tells limits forks header (line.same a b ∷ events) number changes e few = absurd cc
tells limits forks header (line.usage id ∷ events) number changes e few = absurd cc
tells limits forks header (line.stats ∷ events) number changes e few = absurd cc

IsTold-all : (limits : RunLimits) (forks : ForkState) (header : Header) (events : List Event) (history : History) → Tells limits forks header empty events history → IsTold limits forks header events history
IsTold-all limits forks header events history t = record { forks_stay = t.forks_stay; opened = by_opened history.opened t.told }
  where
    by_opened : (opened : Option OpenBlock) → HasTold limits forks header empty events opened
        → IsSomeAnd opened (λ block. (block.header ≡ header) × ((key : List ℕ) → get block.changes key ≡ last_change key events) × (len block.changes ≤ limits.changes))
    by_opened None h = absurd h
    by_opened (Some block) h = (h.0, λ key. h.1 key ∙ ap (later (last_change key events)) (get-empty (slice_cmp nat_cmp) key) ∙ later-none (last_change key events), h.2)

pub block_told : (limits : RunLimits) (number : ℕ) (forks : ForkState) (id prev : List ℕ) (height : ℕ) (events : List Event) → list_all tells_block events ≡ true
    → IfSome (state_after (apply_script limits) number (outside forks) (line.block id prev height ∷ events)) (IsTold limits forks (record { id = id; prev = prev; height = height }) events)
unfolding state_after history_step
block_told limits number forks id prev height events e =
    let header : Header = record { id = id; prev = prev; height = height } in
    IfSome-weaker _ (Tells limits forks header empty events) _ (IsTold-all limits forks header events) (tells limits forks header events (number + 1) empty e (omega (arith, len-empty (slice_cmp nat_cmp) (Option (List ℕ)))))
