-- What parsing answers.
use Rattle.std.specs.Prelude.{ℕ, ◌+◌, ◌<◌, ◌≤◌, List, length, take}
use Rattle.text_pieces.specs.Languages.{GoesOn}
use Rattle.cert_text.specs.declared.certs.TextError.{TextError}
use Rattle.cert_text.specs.declared.certs.TextError.TheVariants.{Memory, BadText as Bad}

-- the bytes aren't a spelling, and this is the first byte with which none goes on
pub record NoneIs {A : Type 0} (L : A → List ℕ → Type 0) (at : ℕ) (bytes : List ℕ) : Type 0 where
  pub within : at ≤ length bytes
  pub goes_on : GoesOn L (take at bytes)
  pub stops : at < length bytes → GoesOn L (take (at + 1) bytes) → ⊥
  pub none : (a : A) → L a bytes → ⊥

-- where it isn't want of memory
abbrev pub WhereBad : {A : Type 0} → (A → List ℕ → Type 0) → List ℕ → TextError → Type 0
WhereBad L bytes Memory = Unit {0}
WhereBad L bytes (Bad bad) = NoneIs L bad.at bytes
