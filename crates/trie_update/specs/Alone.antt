-- Where nothing goes on.
use Rattle.std.specs.Prelude.{◌≡◌, ◌==◌, ℕ, Bool, true, false, [], length, ⊤}
use Rattle.update_model.specs.Tops.{Top, empty, leaf, branch, extension}
use Rattle.trie_update.specs.declared.old.Old.{Old}
use Rattle.trie_update.specs.declared.old.Old.TheVariants.{Nothing, Leaf, Extension}

-- nothing stands there but a value, if one does
abbrev pub Ends : Top → Type 0
Ends empty = ⊤
Ends (leaf path ref) = path ≡ []
Ends (branch digest used) = ⊥
Ends (extension path child used) = ⊥

-- so many nibbles use up what stood there
abbrev pub ends_by : ℕ → Old → Bool
ends_by count Nothing = true
ends_by count (Leaf path value) = length path.now == count
ends_by count (Extension path child used) = false
