-- Ids in hexadecimal.
use Rattle.std.proofs.Common.{◌≡◌, ℕ, ◌*◌, Bool, true, false, cond, eqb, List, length, Some, None, Ok, Err, refl, sym, ap, ◌∙◌}
use Rattle.std.specs.Result.{result_ok}
use Rattle.std.proofs.lemmas.Bool.{eqb-true, eq-eqb}
use Rattle.hex.specs.Hex.{decode_of, decode_sized}
use Rattle.hex.specs.declared.error.FromHexError.{FromHexError}
use Rattle.hex.proofs.HexLemmas.{decode_sized-twice, decode_sized-ok}
use Rattle.byte_model.specs.Node.{digest_width}
use Rattle.script_model.specs.Spellings.{id_of}

pub id_of-some : (text id : List ℕ) → decode_sized text digest_width ≡ Ok id → id_of text ≡ Some id
unfolding id_of
id_of-some text id e =
    let twice = decode_sized-ok text digest_width id e in
    ap (λ b. cond b (result_ok (decode_of text)) None) (eq-eqb (length text) (2 * digest_width) twice) ∙ ap result_ok (sym (decode_sized-twice text digest_width twice) ∙ e)

pub id_of-none : (text : List ℕ) (error : FromHexError) → decode_sized text digest_width ≡ Err error → id_of text ≡ None
unfolding id_of
id_of-none text error e = by_length (eqb (length text) (2 * digest_width)) refl
  where
    by_length : (b : Bool) → eqb (length text) (2 * digest_width) ≡ b → cond b (result_ok (decode_of text)) None ≡ None
    by_length true twice = ap result_ok (sym (decode_sized-twice text digest_width (eqb-true (length text) (2 * digest_width) twice)) ∙ e)
    by_length false other = refl
