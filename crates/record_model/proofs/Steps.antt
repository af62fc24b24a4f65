-- What a reader gives, and what it took from the prefix.
use Rattle.std.proofs.Common.{◌≡◌, ℕ, Bool, true, false, if◌then◌else◌, List, ◌++◌, Result, Ok, Err, IfOk, refl, sym, ◌∙◌, ap, append_assoc}
use Rattle.byte_model.specs.Nibbles.{AreBytes}
use Rattle.record_model.specs.Fields.{Cursor, ◌>>=◌}

-- whatever is read is so
pub record Gives {A E : Type 0} (read : Result A E) (P : A → Type 0) : Type 0 where
  pub given : IfOk read P

pub gives : {A E : Type 0} {P : A → Type 0} (x : A) → P x → Gives {E = E} (Ok x) P
gives x h = record { given = h }

-- one step after another
pub and_then : {A B E : Type 0} {P : A → Type 0} {Q : B → Type 0} {read : Result A E} {f : A → Result B E} → Gives read P → ((x : A) → P x → Gives (f x) Q) → Gives (read >>= f) Q
and_then {read = Ok x} h next = next x h.given
and_then {read = Err e} h next = record { given = tt }

-- where a test passes
pub unless : {A E : Type 0} {P : A → Type 0} (test : Bool) (e : E) (x : A) → (test ≡ false → P x) → Gives (if test then Err e else Ok x) P
unless true e x h = record { given = tt }
unless false e x h = record { given = h refl }

-- one reader or another
pub by_test : {A E : Type 0} {P : A → Type 0} {yes no : Result A E} (test : Bool) → (test ≡ true → Gives yes P) → (test ≡ false → Gives no P) → Gives (if test then yes else no) P
by_test true h k = h refl
by_test false h k = k refl

-- what is so is so in other words
pub so_gives : {A E : Type 0} {P Q : A → Type 0} {read : Result A E} → Gives read P → ((x : A) → P x → Q x) → Gives read Q
so_gives {read = Ok x} h so = record { given = so x h.given }
so_gives {read = Err e} h so = record { given = tt }

-- what a reader took from the prefix
pub record Takes (c : Cursor) (text : List ℕ) (d : Cursor) : Type 0 where
  pub parts : c.left ≡ text ++ d.left
  pub rest : AreBytes d.left

pub Takes-then : {b c d : Cursor} {xs ys : List ℕ} → Takes b xs c → Takes c ys d → Takes b (xs ++ ys) d
Takes-then {d = d} {xs = xs} {ys = ys} first second = record {
  parts = first.parts ∙ ap (λ (text : List ℕ). xs ++ text) second.parts ∙ sym (append_assoc xs ys d.left);
  rest = second.rest;
}
