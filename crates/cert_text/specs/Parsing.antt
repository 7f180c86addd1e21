-- What parsing answers.
use Rattle.std.specs.Prelude.{ℕ, ◌+◌, ◌<◌, ◌≤◌, List, length, take, drop}
use Rattle.cert_tree.specs.declared.certs.Cert.{Cert}
use Rattle.cert_text.specs.declared.certs.TextError.{TextError}
use Rattle.cert_text.specs.declared.certs.TextError.TheVariants.{Memory, BadText as Bad}
use Rattle.text_pieces.specs.Languages.{NoDigit, GoesOn}
use Rattle.cert_text.specs.Grammar.{Spells}

-- the first bytes, so many, spell the certificate, and no digit follows them
pub record Begins (cert : Cert) (taken : ℕ) (bytes : List ℕ) : Type 0 where
  pub within : taken ≤ length bytes
  pub spelled : Spells cert (take taken bytes)
  pub ends : NoDigit (drop taken bytes)

-- no spelling that no digit follows begins the bytes, and this is the first byte with which none goes on
pub record NoneBegins (at : ℕ) (bytes : List ℕ) : Type 0 where
  pub within : at ≤ length bytes
  pub goes_on : GoesOn Spells (take at bytes)
  pub stops : at < length bytes → GoesOn Spells (take (at + 1) bytes) → ⊥
  pub none : (cert : Cert) (taken : ℕ) → Begins cert taken bytes → ⊥

-- where it isn't want of memory
abbrev pub WhereBad : List ℕ → TextError → Type 0
WhereBad bytes Memory = Unit {0}
WhereBad bytes (Bad bad) = NoneBegins bad.at bytes
