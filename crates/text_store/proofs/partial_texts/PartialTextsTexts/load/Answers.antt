use Rattle.std.proofs.Common.{rules, ◌≡◌, ◌<◌, Some, refl, sym, ap, subst, ◌∙◌}
use Rattle.std.specs.FinMap.{get}
use Rattle.base_core.specs.Faults.{risen}
use Rattle.indexmap.proofs.CallerLemmas.{index_map_len-with_value_at}
use Rattle.text_store.specs.Loading.{IsNamed}
use Rattle.text_store.specs.PartialStates.{table_of}
use Rattle.text_store.proofs.PartialTables.{table-named}
use Rattle.text_store.proofs.Marks.{held-marked}
use Rattle.text_store.proofs.Loads.{entry_found, value_found, value_missing, loaded_text, loaded_none, text_marked}
use Rattle.text_store.proofs.partial_texts.PartialTextsTexts.load.Goals as goal

pub returns-in_default : goal.returns-in_default
returns-in_default c =
    let rose : c.saturating_add-self-inside.result ≡ risen c.self.inside.loads 1 = search rules in
    let value = value_missing c.self.inside.held.entries c.args.d.now.0 c.self.invariant c.in_default.ensures.found ∙ ap (λ s. get (table_of s.texts) c.args.d.now.0) c.self.view_is in (
      (refl, λ _. tt, (loaded_none c.args.self.now c.self.inside.held.entries c.self.inside.loads _ c.args.d.now.0 c.self.view_is rose, tt)),
      record { after = tt; value = value; named = subst (λ s. IsNamed (table_of s.texts)) c.self.view_is (table-named _ c.self.invariant.apart); never_fails = refl },
    )

pub index-requires : goal.index-requires
index-requires c = subst (λ n. c.in-Some.place < n) (sym (index_map_len-with_value_at c.self.inside.held c.in-Some.place _)) c.in-Some.ensures.within

pub invariant_of-self-2 : goal.invariant_of-self-2
invariant_of-self-2 c =
    let entry = entry_found c.self.inside.held.entries c.args.d.now.0 c.in-Some.place c.index_mut.result.now c.in-Some.ensures.index c.index_mut.ensures.value in
    held-marked c.self.inside.held.entries c.in-Some.place entry.key c.index_mut.result.now entry.at c.self.invariant

pub returns : goal.returns
returns c =
    let rose : c.saturating_add-self-inside.result ≡ risen c.self.inside.loads 1 = search rules in
    let entry = entry_found c.self.inside.held.entries c.args.d.now.0 c.in-Some.place c.index_mut.result.now c.in-Some.ensures.index c.index_mut.ensures.value in
    let text = c.as_slice.ensures ∙ text_marked c.self.inside.held.entries c.args.d.now.0 c.in-Some.place c.index_mut.result.now c.index.result.now entry c.index.ensures in
    let value = ap (λ bytes. Some bytes) text ∙ sym (value_found c.self.inside.held.entries c.args.d.now.0 c.in-Some.place c.index_mut.result.now c.self.invariant entry) ∙ ap (λ s. get (table_of s.texts) c.args.d.now.0) c.self.view_is in (
      (refl, λ _. tt, (loaded_text c.args.self.now c.self.inside.held.entries c.self.inside.loads _ c.args.d.now.0 c.in-Some.place c.index_mut.result.now _ c.self.view_is rose entry, tt)),
      record { after = tt; value = value; named = subst (λ s. IsNamed (table_of s.texts)) c.self.view_is (table-named _ c.self.invariant.apart); never_fails = refl },
    )
