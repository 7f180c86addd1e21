-- Values whose steps stay in the range.
use Rattle.std.specs.Prelude.{◌≡◌, Bool, false, List, Option, Some, None, Result, Ok, Err, if◌then◌else◌}
use Rattle.lin_base.specs.declared.wides.Wide.{Wide}
use Rattle.lin_base.specs.declared.wides.ArithmeticError.{ArithmeticError}
use Rattle.lin_base.specs.declared.wides.ArithmeticError.TheVariants.{Memory, Wide as TooWide}
use Rattle.lin_base.specs.Steps.{is_narrow}

-- the value is there and passes the test
abbrev pub some_and : {A : Type 0} → Option A → (A → Bool) → Bool
some_and None test = false
some_and (Some a) test = test a

-- what f gives of the value, where both are there
abbrev pub option_then : {A B : Type 0} → Option A → (A → Option B) → Option B
option_then None f = None
option_then (Some a) f = f a

-- the value, where no step leaves the range
abbrev pub if_narrow : {A : Type 0} → List Wide → A → Option A
if_narrow steps a = if is_narrow steps then Some a else None

-- the value of an answer, None where a step left the range; want of memory is neither
abbrev pub IsValueOf : {A : Type 0} → Result A ArithmeticError → Option A → Type 0
IsValueOf (Ok a) o = o ≡ Some a
IsValueOf (Err Memory) o = ⊥
IsValueOf (Err (TooWide w)) o = o ≡ None
