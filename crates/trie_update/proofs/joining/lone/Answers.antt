use Rattle.std.proofs.Common.{◌<◌, [], ◌∷◌, length, ap, sym, subst, ◌∙◌, arith}
use Rattle.std.proofs.lemmas.Result.{IfOk-weaker}
use Rattle.update_model.specs.Joins.{known, kid_top}
use Rattle.update_model.specs.Tops.{lowered}
use Rattle.trie_update.specs.Subs.{IsKnown, kid_of, top_of_sub}
use Rattle.trie_update.proofs.Children.{child_at-item, kept-known}
use Rattle.trie_update.proofs.joining.lone.Goals as goal

pub returns-in-Known : goal.returns-in-Known
unfolding kid_top
returns-in-Known c =
    let inside : c.args.nibble < length c.args.children.items = (let small = c.requires.inside in let all = c.requires.sixteen in omega arith) in
    let child = child_at-item c.args.children.items c.args.nibble c.swap_remove.result inside c.swap_remove.ensures.value ∙ c.in-Known.is in
    record {
      top = λ name is_known.
          let kid = ap (kid_of name) child ∙ ap (λ s. known (top_of_sub s)) (sym c.into_inner.ensures) in
          IfOk-weaker c.under.result _ _ (λ sub e. e ∙ sym (ap (λ k. lowered (c.args.nibble ∷ []) (kid_top k)) kid)) c.under.ensures.top;
    }

pub returns : goal.returns
returns c =
    let inside : c.args.nibble < length c.args.children.items = (let small = c.requires.inside in let all = c.requires.sixteen in omega arith) in
    let child = child_at-item c.args.children.items c.args.nibble c.swap_remove.result inside c.swap_remove.ensures.value ∙ c.in-Kept.is in
    record {
      top = λ name is_known.
          kept-known name c.args.nibble (subst (λ ch. IsKnown (kid_of name ch)) child is_known)
          ∙ sym (ap (λ ch. lowered (c.args.nibble ∷ []) (kid_top (kid_of name ch))) child);
    }
