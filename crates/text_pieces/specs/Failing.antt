-- Answers of calls that read and take memory.
use Rattle.std.specs.Prelude.{ℕ, Bool, List}
use Rattle.text_pieces.specs.declared.bad_texts.Unread.{Unread}
use Rattle.text_pieces.specs.declared.bad_texts.Unread.TheVariants.{Memory, Bad}
use Rattle.text_pieces.specs.Decimals.{is_digit}
use Rattle.text_pieces.specs.Languages.{FailsTo}

-- where it isn't want of memory, no spelling that none of these bytes follows begins the bytes
abbrev pub UnreadTo : {A : Type 0} → (ℕ → Bool) → (A → List ℕ → Type 0) → List ℕ → Unread → Type 0
UnreadTo more L bytes Memory = Unit {0}
UnreadTo more L bytes (Bad bad) = FailsTo more L bytes bad.left

-- where it isn't want of memory, no spelling that no digit follows begins the bytes
abbrev pub Unreadable : {A : Type 0} → (A → List ℕ → Type 0) → List ℕ → Unread → Type 0
Unreadable = UnreadTo is_digit
