-- What is known of a node that fits at a place, by the text that spells it.
use Rattle.std.proofs.Common.{◌≡◌, ℕ, Bool, true, false, List, None, Some, Result, Ok, Err, refl, sym, ◌∙◌, ap}
use Rattle.byte_model.specs.Node.{Node}
use Rattle.record_model.specs.Records.{RecordFault, record_in}
use Rattle.record_model.specs.Fits.{fits_at, fitting, fitting_node}

abbrev pub Reads : Result (Node × ℕ) RecordFault → Node → ℕ → Type 0
Reads read n usage = read ≡ Ok (n, usage)

pub record_fits : (depth : ℕ) (after_extension : Bool) (read : Result (Node × ℕ) RecordFault) (n : Node) (usage : ℕ) → fitting depth after_extension read ≡ Some (n, usage) → Reads read n usage × (fits_at depth after_extension n ≡ true)
record_fits depth after_extension (Err fault) n usage e = absurd cc
record_fits depth after_extension (Ok found) n usage e = go (fits_at depth after_extension found.0) refl
  where
    go : (b : Bool) → fits_at depth after_extension found.0 ≡ b → Reads (Ok found) n usage × (fits_at depth after_extension n ≡ true)
    go true f =
        let same : found ≡ (n, usage) = (let all : Some found ≡ Some (n, usage) = rw f at e in cc) in
        (ap Ok same, sym (ap (λ (r : Node × ℕ). fits_at depth after_extension r.0) same) ∙ f)
    go false f = absurd (let none : None ≡ Some (n, usage) = rw f at e in cc)

pub fitting_node-fits : (depth : ℕ) (after_extension : Bool) (text : List ℕ) (n : Node) (usage : ℕ) → fitting_node depth after_extension text ≡ Some (n, usage) → fits_at depth after_extension n ≡ true
fitting_node-fits depth after_extension text n usage e = (record_fits depth after_extension (record_in text) n usage e).1
