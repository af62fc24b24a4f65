use Rattle.std.proofs.Common.{◌≡◌, option_map, ap, sym, subst, ◌∙◌, arith}
use Rattle.std.proofs.lemmas.Result.{IfOk-weaker, on_ok_weaker}
use Rattle.node_codec.specs.Meanings.{value_of}
use Rattle.trie_update.specs.Formers.{names_of}
use Rattle.trie_update.specs.Subs.{top_of_sub}
use Rattle.trie_update.proofs.Adding.{adds-gained}
use Rattle.trie_update.proofs.Children.{IsNaming, naming-none, naming-some, naming-stands, naming-adds, naming-more, end-shaped, end-fits, end-top, end-adds}
use Rattle.trie_update.proofs.joining.fork.Goals as goal

pub loop-nibble-init : goal.loop-nibble-init
loop-nibble-init c =
    let names = names_of c.args.former in
    subst (λ rest. IsNaming names c.args.children.items 0 rest c.in_ok-kids.kids c.args.kept_usage c.args.kept_usage c.args.ledger.now c.args.ledger.now) (sym c.from_vec-rest.ensures.items) (naming-none names c.args.children.items c.in_ok-kids.kids c.args.kept_usage c.args.ledger.now c.in_ok-kids.ensures.names)

pub name_next-requires-clause-some : goal.name_next-requires-clause-some
name_next-requires-clause-some c = naming-some (names_of c.args.former) c.args.children.items c.loop-nibble.nibble c.loop-nibble.rest.items c.loop-nibble.kids c.args.kept_usage c.loop-nibble.usage c.args.ledger.now c.loop-nibble.ledger c.loop-nibble.invariant c.loop-nibble-test.true c.requires.sixteen

pub name_next-requires-clause-stands : goal.name_next-requires-clause-stands
name_next-requires-clause-stands c = naming-stands (names_of c.args.former) c.args.children.items c.loop-nibble.nibble c.loop-nibble.rest.items c.loop-nibble.kids c.args.kept_usage c.loop-nibble.usage c.args.ledger.now c.loop-nibble.ledger c.loop-nibble.invariant c.loop-nibble-test.true c.requires.sixteen (option_map value_of c.args.value) c.requires.forks

pub name_next-requires-clause-fits : goal.name_next-requires-clause-fits
name_next-requires-clause-fits c =
    let fits = naming-adds (names_of c.args.former) c.args.children.items c.loop-nibble.nibble c.loop-nibble.rest.items c.loop-nibble.kids c.args.kept_usage c.loop-nibble.usage c.args.ledger.now c.loop-nibble.ledger c.loop-nibble.invariant c.loop-nibble-test.true c.requires.sixteen (option_map value_of c.args.value) c.requires.forks in
    omega arith

pub overflow_add-usage : goal.overflow_add-usage
overflow_add-usage c =
    let fits = naming-adds (names_of c.args.former) c.args.children.items c.loop-nibble.nibble c.loop-nibble.rest.items c.loop-nibble.kids c.args.kept_usage c.loop-nibble.usage c.args.ledger.now c.loop-nibble.ledger c.loop-nibble.invariant c.loop-nibble-test.true c.requires.sixteen (option_map value_of c.args.value) c.requires.forks in
    let used = c.in_ok-usage.ensures.used in
    record { fits = omega arith }

pub loop-nibble-preserved : goal.loop-nibble-preserved
loop-nibble-preserved c =
    naming-more (names_of c.args.former) c.args.children.items c.loop-nibble.nibble c.loop-nibble.rest.items c.loop-nibble.kids c.args.kept_usage c.loop-nibble.usage c.args.ledger.now c.loop-nibble.ledger c.loop-nibble.invariant c.loop-nibble-test.true c.requires.sixteen c.name_next.new.kids c.in_ok-usage.field-0 c.name_next.new.children.items c.name_next.new.ledger c.in_ok-usage.ensures.name c.in_ok-usage.ensures.used c.in_ok-usage.ensures.rest c.in_ok-usage.ensures.adds

pub close-requires-clause-shaped : goal.close-requires-clause-shaped
close-requires-clause-shaped c =
    let done : c.loop-nibble.nibble ≡ 16 = omega arith in
    end-shaped (option_map value_of c.args.value) (names_of c.args.former) c.args.children.items c.loop-nibble.nibble c.loop-nibble.rest.items c.loop-nibble.kids c.args.kept_usage c.loop-nibble.usage c.args.ledger.now c.loop-nibble.ledger c.loop-nibble.invariant done c.requires.forks

pub close-requires-clause-fits : goal.close-requires-clause-fits
close-requires-clause-fits c =
    let done : c.loop-nibble.nibble ≡ 16 = omega arith in
    end-fits (option_map value_of c.args.value) (names_of c.args.former) c.args.children.items c.loop-nibble.nibble c.loop-nibble.rest.items c.loop-nibble.kids c.args.kept_usage c.loop-nibble.usage c.args.ledger.now c.loop-nibble.ledger c.loop-nibble.invariant done c.requires.forks

pub returns-clause-top : goal.returns-clause-top
returns-clause-top c =
    let done : c.loop-nibble.nibble ≡ 16 = omega arith in
    let closed = c.in_ok-closed.closed in
    let is = c.in_ok-closed.ensures.written in
    IfOk-weaker c.branch_written.result _ _ (λ sub e. ap top_of_sub e ∙ end-top (option_map value_of c.args.value) (names_of c.args.former) c.args.children.items c.loop-nibble.nibble c.loop-nibble.rest.items c.loop-nibble.kids c.args.kept_usage c.loop-nibble.usage c.args.ledger.now c.loop-nibble.ledger c.loop-nibble.invariant done c.requires.forks closed is) c.branch_written.ensures.branch

pub returns-clause-adds : goal.returns-clause-adds
returns-clause-adds c =
    let done : c.loop-nibble.nibble ≡ 16 = omega arith in
    let closed = c.in_ok-closed.closed in
    let is = c.in_ok-closed.ensures.written in
    on_ok_weaker c.branch_written.result (λ gains. end-adds (option_map value_of c.args.value) (names_of c.args.former) c.args.children.items c.loop-nibble.nibble c.loop-nibble.rest.items c.loop-nibble.kids c.args.kept_usage c.loop-nibble.usage c.args.ledger.now c.loop-nibble.ledger c.loop-nibble.invariant done c.requires.forks closed c.branch_written.new.ledger is (adds-gained c.loop-nibble.ledger c.branch_written.new.ledger closed.digest closed.text is.digest gains)) c.branch_written.ensures.gains
