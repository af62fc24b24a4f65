-- What was written after some pieces: the prefix of the bytes that is done.
use Rattle.std.proofs.Common.{◌≡◌, ℕ, List, [], ◌∷◌, ◌++◌, ◌-◌, length, take, drop, Option, Some, None, Ok, Err, IfSome, refl, sym, ap, subst, ◌∙◌, append_assoc}
use Rattle.std.proofs.lemmas.List.{append-nil, take-append-drop, nil_from_length, take_rest}
use Rattle.hex.specs.Hex.{encode_with, encode_lower, lower_digits}
use Rattle.base_core.specs.declared.fault.Fault.{Fault}
use Rattle.script_io.specs.Streams.{Writes, AppendsPrefix}

-- `rest` of the bytes is still to be written, where a byte string b stands for `spelled b` on the sink
pub record Sent (spelled : List ℕ → List ℕ) (before after : Option (List ℕ)) (bytes rest : List ℕ) : Type 0 where
  pub done : List ℕ
  pub parts : bytes ≡ done ++ rest
  pub told : IfSome before (λ b. after ≡ Some (b ++ spelled done))

-- the spelling goes byte by byte
pub record Spells (spelled : List ℕ → List ℕ) : Type 0 where
  pub none : spelled [] ≡ []
  pub parts : (xs ys : List ℕ) → spelled (xs ++ ys) ≡ spelled xs ++ spelled ys

pub as_is : Spells (λ bytes. bytes)
as_is = record { none = refl; parts = λ xs ys. refl }

encode_with-append : (t xs ys : List ℕ) → encode_with t (xs ++ ys) ≡ encode_with t xs ++ encode_with t ys
unfolding encode_with
encode_with-append t [] ys = refl
encode_with-append t (x ∷ xs) ys = rw (encode_with-append t xs ys) refl

pub in_digits : Spells encode_lower
unfolding encode_with
in_digits = record { none = refl; parts = encode_with-append lower_digits }

module _ (spelled : List ℕ → List ℕ) (spells : Spells spelled) where
  pub Sent-init : (o : Option (List ℕ)) (bytes : List ℕ) → Sent spelled o o bytes bytes
  Sent-init None bytes = record { done = []; parts = refl; told = tt }
  Sent-init (Some b) bytes = record { done = []; parts = refl; told = rw (spells.none, append-nil b) refl }

  more_told : (o p q : Option (List ℕ)) (done prefix : List ℕ) → IfSome o (λ b. p ≡ Some (b ++ spelled done)) → IfSome p (λ b. q ≡ Some (b ++ spelled prefix)) → IfSome o (λ b. q ≡ Some (b ++ spelled (done ++ prefix)))
  more_told None p q done prefix told next = tt
  more_told (Some b) p q done prefix told next =
      let h : q ≡ Some ((b ++ spelled done) ++ spelled prefix) = subst (λ (o : Option (List ℕ)). IfSome o (λ b. q ≡ Some (b ++ spelled prefix))) told next in
      h ∙ ap Some (append_assoc b (spelled done) (spelled prefix) ∙ ap (λ (t : List ℕ). b ++ t) (sym (spells.parts done prefix)))

  pub Sent-more : (o p q : Option (List ℕ)) (bytes rest prefix after : List ℕ) → Sent spelled o p bytes rest → rest ≡ prefix ++ after → IfSome p (λ b. q ≡ Some (b ++ spelled prefix)) → Sent spelled o q bytes after
  Sent-more o p q bytes rest prefix after s e next = record {
    done = s.done ++ prefix;
    parts = s.parts ∙ ap (λ (t : List ℕ). s.done ++ t) e ∙ sym (append_assoc s.done prefix after);
    told = more_told o p q s.done prefix s.told next;
  }

  prefix_told : (o p q : Option (List ℕ)) (bytes done prefix after : List ℕ) → bytes ≡ done ++ (prefix ++ after) → IfSome o (λ b. p ≡ Some (b ++ spelled done)) → IfSome p (λ b. AppendsPrefix b q (spelled prefix)) → IfSome o (λ b. AppendsPrefix b q (spelled bytes))
  prefix_told None p q bytes done prefix after parts told next = tt
  prefix_told (Some b) p q bytes done prefix after parts told next =
      let h : AppendsPrefix (b ++ spelled done) q (spelled prefix) = subst (λ (o : Option (List ℕ)). IfSome o (λ b. AppendsPrefix b q (spelled prefix))) told next in
      record {
        prefix = spelled done ++ h.prefix;
        rest = h.rest ++ spelled after;
        parts = ap spelled parts ∙ spells.parts done (prefix ++ after) ∙ ap (λ (t : List ℕ). spelled done ++ t) (spells.parts prefix after ∙ ap (λ (t : List ℕ). t ++ spelled after) h.parts ∙ append_assoc h.prefix h.rest (spelled after)) ∙ sym (append_assoc (spelled done) h.prefix (h.rest ++ spelled after));
        told = h.told ∙ ap Some (append_assoc b (spelled done) h.prefix);
      }

  pub Sent-prefix : (o p q : Option (List ℕ)) (bytes rest prefix after : List ℕ) → Sent spelled o p bytes rest → rest ≡ prefix ++ after → IfSome p (λ b. AppendsPrefix b q (spelled prefix)) → IfSome o (λ b. AppendsPrefix b q (spelled bytes))
  Sent-prefix o p q bytes rest prefix after s e next = prefix_told o p q bytes s.done prefix after (s.parts ∙ ap (λ (t : List ℕ). s.done ++ t) e) s.told next

  all_told : (o p : Option (List ℕ)) (bytes done : List ℕ) → bytes ≡ done → IfSome o (λ b. p ≡ Some (b ++ spelled done)) → IfSome o (λ b. p ≡ Some (b ++ spelled bytes))
  all_told None p bytes done e told = tt
  all_told (Some b) p bytes done e told = told ∙ ap (λ (t : List ℕ). Some (b ++ spelled t)) (sym e)

  pub Sent-all : (o p : Option (List ℕ)) (bytes rest : List ℕ) → Sent spelled o p bytes rest → length rest ≡ 0 → IfSome o (λ b. p ≡ Some (b ++ spelled bytes))
  Sent-all o p bytes rest s e = all_told o p bytes s.done (s.parts ∙ ap (λ (t : List ℕ). s.done ++ t) (nil_from_length rest e) ∙ append-nil s.done) s.told

-- a write that failed left what was written
pub nothing_more : (p q : Option (List ℕ)) (f : Fault) (piece : List ℕ) → IfSome p (λ b. Writes b q piece (Err f)) → IfSome p (λ b. AppendsPrefix b q [])
nothing_more None q f piece h = tt
nothing_more (Some b) q f piece h = record { prefix = []; rest = []; parts = refl; told = h ∙ ap Some (sym (append-nil b)) }

-- a write that took n bytes leaves the rest of the piece
pub Sent-taken : (o p q : Option (List ℕ)) (bytes rest : List ℕ) (n : ℕ) → Sent (λ bytes. bytes) o p bytes rest → IfSome p (λ b. Writes b q rest (Ok n)) → Sent (λ bytes. bytes) o q bytes (take (length rest - n) (drop n rest))
Sent-taken o p q bytes rest n s next = rw (take_rest rest n) (Sent-more (λ bytes. bytes) as_is o p q bytes rest (take n rest) (drop n rest) s (sym (take-append-drop n rest)) next)
