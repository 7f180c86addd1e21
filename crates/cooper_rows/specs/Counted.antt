-- Calls that count rows and nodes, and keep the numbers that they form in the range.
use Rattle.std.specs.Prelude.{◌≡◌, ⊤, ℕ, ◌+◌, ◌<◌, ℤ, Bool, true, false, List, Result, IfOk, IfErr}
use Rattle.std.specs.List.{list_all}
use Rattle.lin_base.specs.declared.wides.ArithmeticError.{ArithmeticError}
use Rattle.lin_base.specs.declared.wides.ArithmeticError.TheVariants.{Memory as NoMemory, Wide as TooWide}
use Rattle.lin_base.specs.Whole.{is_in_range}
use Rattle.cooper_rows.specs.declared.counting.BudgetError.{BudgetError}
use Rattle.cooper_rows.specs.declared.counting.BudgetError.TheVariants.{Memory, Wide, Spent}

-- an error of sums as one of calls that count
abbrev pub of_arithmetic : ArithmeticError → BudgetError
of_arithmetic NoMemory = Memory
of_arithmetic (TooWide w) = Wide

-- each number is in the range
abbrev pub fit : List ℤ → Bool
fit zs = list_all is_in_range zs

-- n rows and nodes were counted, and these numbers are in the range
abbrev pub IsAfter : ℕ → ℕ → ℕ → List ℤ → Type 0
IsAfter new old n zs = (old ≡ new + n) × (fit zs ≡ true)

-- why a call that counts n, with this room, and forms these numbers ends without a value: memory, a number that leaves the range, or less room than n
abbrev pub IsCause : BudgetError → ℕ → ℕ → List ℤ → Type 0
IsCause Memory room n zs = ⊤
IsCause Wide room n zs = fit zs ≡ false
IsCause Spent room n zs = room < n

-- the answer of a call that counts n and forms these numbers, and whose value has the property P
abbrev pub Counted : {A : Type 0} → Result A BudgetError → ℕ → ℕ → ℕ → List ℤ → (A → Type 0) → Type 0
Counted r old new n zs P = IfOk r (λ v. IsAfter new old n zs × P v) × IfErr r (λ e. IsCause e old n zs)

-- the answer of a call that counts nothing and forms these numbers
abbrev pub Fits : {A : Type 0} → Result A BudgetError → List ℤ → (A → Type 0) → Type 0
Fits r zs P = IfOk r (λ v. (fit zs ≡ true) × P v) × IfErr r (λ e. IsCause e 0 0 zs)
