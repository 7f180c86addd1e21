-- What printing puts behind a text.
use Rattle.std.specs.Prelude.{◌≡◌, ℕ, List, ◌++◌, MatchResult}
use Rattle.std.specs.declared.alloc.AllocError.{AllocError}
use Rattle.std.specs.declared.result.Result.{Result}

-- a spelling of the value was put behind
pub record Adds {A : Type 0} (L : A → List ℕ → Type 0) (a : A) (old new : List ℕ) : Type 0 where
  pub text : List ℕ
  pub spelled : L a text
  pub is : new ≡ old ++ text

-- the text still begins with what it held
pub record Keeps (old new : List ℕ) : Type 0 where
  pub more : List ℕ
  pub is : new ≡ old ++ more

-- a spelling of the value was put behind; where memory ran out, the text still begins with what it held
abbrev pub Puts : {A : Type 0} → (A → List ℕ → Type 0) → A → List ℕ → List ℕ → Result (Unit {0}) AllocError → Type 0
Puts L a old new result = MatchResult result (λ done. Adds L a old new) (λ failed. Keeps old new)
