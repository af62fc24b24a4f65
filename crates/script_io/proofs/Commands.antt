-- What a command that was read keeps to.
use Rattle.std.proofs.Common.{◌≡◌, ◌≢◌, ℕ, List, [], ◌∷◌, length, Some, Result, Ok, Err, IfOk, refl}
use Rattle.std.specs.Prelude.{codes}
use Rattle.script_model.specs.Bounds.{IsCommanded}
use Rattle.script_model.specs.Lines.{both}
use Rattle.script_model.specs.Spellings.{id_of, key_of}
use Rattle.script_model.specs.Words.{few_ops_of, get, prove}
use Rattle.script_model.proofs.Asked.{command-within}
use Rattle.script_io.specs.declared.command.Command.{Command}
use Rattle.script_io.specs.Meanings.{command}

pub got-within : {E : Type 0} (id key : List ℕ) (r : Result Command E) → IfOk r (λ found. both get (id_of id) (key_of key) ≡ Some (command found)) → IfOk r (λ found. IsCommanded (command found))
got-within id key (Ok found) h = command-within (codes "get" ∷ id ∷ key ∷ []) (command found) h
got-within id key (Err error) h = tt

pub proving-within : {E : Type 0} (id : List ℕ) (words : List (List ℕ)) (r : Result Command E) → length words ≢ 0 → IfOk r (λ found. both prove (id_of id) (few_ops_of words) ≡ Some (command found)) → IfOk r (λ found. IsCommanded (command found))
proving-within id [] r some h = absurd (some refl)
proving-within id (word ∷ words) (Ok found) some h = command-within (codes "prove" ∷ id ∷ word ∷ words) (command found) h
proving-within id (word ∷ words) (Err error) some h = tt
