-- The text that a call of printing leaves.
use Rattle.std.proofs.Common.{◌≡◌, ℕ, List, [], ◌++◌, sym, ap, ◌∙◌, append_assoc, append-nil}
use Rattle.std.specs.Prelude.{IsErrAnd}
use Rattle.std.specs.declared.alloc.AllocError.{AllocError}
use Rattle.std.specs.declared.result.Result.{Result}
use Rattle.std.specs.declared.result.Result.TheVariants.{Ok, Err}
use Rattle.text_pieces.specs.Printing.{Adds, Keeps, Puts}

pub as_it_was : {x y : List ℕ} → y ≡ x → Keeps x y
as_it_was {x} {y} e = record { more = []; is = e ∙ sym (append-nil x) }

pub by_bytes : {x y : List ℕ} (bytes : List ℕ) → y ≡ x ++ bytes → Keeps x y
by_bytes bytes e = record { more = bytes; is = e }

pub by_added : {A : Type 0} {L : A → List ℕ → Type 0} {a : A} {x y : List ℕ} → Adds L a x y → Keeps x y
by_added r = record { more = r.text; is = r.is }

pub then_kept : {x y z : List ℕ} → Keeps x y → Keeps y z → Keeps x z
then_kept {x} {y} {z} k l = record { more = k.more ++ l.more; is = l.is ∙ ap (λ t. t ++ l.more) k.is ∙ append_assoc x k.more l.more }

pub then_added : {A : Type 0} {L : A → List ℕ → Type 0} {a : A} {x y z : List ℕ} → Keeps x y → Adds L a y z → Keeps x z
then_added k r = then_kept k (by_added r)

-- an error was passed on
pub puts_err : {A : Type 0} (L : A → List ℕ → Type 0) (a : A) {x y : List ℕ} (Q : AllocError → Type 0) (r : Result (Unit {0}) AllocError) → IsErrAnd r Q → Keeps x y → Puts L a x y r
puts_err L a Q (Ok v) h k = absurd h
puts_err L a Q (Err e) h k = k
