use Rattle.std.proofs.Common.{◌++◌, ap, sym, ◌∙◌}
use Rattle.trie_shape.specs.declared.sub.Sub.TheVariants.{Empty, Leaf, Extension}
use Rattle.trie_shape.specs.Shows.{under_of}
use Rattle.trie_update.proofs.Tops.{branch-under, under-top}
use Rattle.trie_update.proofs.updating.prefixed.Goals as goal

pub returns-in-Empty : goal.returns-in-Empty
returns-in-Empty c = record { top = under-top c.args.prefix.items c.args.sub Empty (sym (ap (under_of c.args.prefix.items) c.in-Empty.is)) }

pub returns-in_ok-joined-in-Leaf : goal.returns-in_ok-joined-in-Leaf
returns-in_ok-joined-in-Leaf c = record { top = under-top c.args.prefix.items c.args.sub _ (ap (λ path. Leaf path c.in-Leaf.value) (c.in_ok-joined-in-Leaf.ensures ∙ ap (λ path. c.args.prefix.items ++ path) c.as_slice.ensures) ∙ sym (ap (under_of c.args.prefix.items) c.in-Leaf.is)) }

pub returns-in-Branch : goal.returns-in-Branch
returns-in-Branch c = record { top = under-top c.args.prefix.items c.args.sub _ (ap (λ path. Extension path c.in-Branch.digest c.in-Branch.usage) c.from_bytes.ensures ∙ branch-under c.args.prefix.items c.in-Branch.digest c.in-Branch.usage c.requires.some ∙ sym (ap (under_of c.args.prefix.items) c.in-Branch.is)) }

pub returns-in_ok-joined-in-Extension : goal.returns-in_ok-joined-in-Extension
returns-in_ok-joined-in-Extension c = record { top = under-top c.args.prefix.items c.args.sub _ (ap (λ path. Extension path c.in-Extension.child c.in-Extension.child_usage) (c.in_ok-joined-in-Extension.ensures ∙ ap (λ path. c.args.prefix.items ++ path) c.as_slice-in-Extension.ensures) ∙ sym (ap (under_of c.args.prefix.items) c.in-Extension.is)) }
